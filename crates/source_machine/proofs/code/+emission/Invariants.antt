use Rattle.std.proofs.Common.{drop}
use Rattle.c_tree.specs.Flats.{statements_of, arms_list_of}
use Rattle.c_tree.specs.Source.{opened_all}
use Rattle.source_machine.specs.links.Codes.{Emits, EmitsArms}
use Rattle.source_machine.proofs.code.+emission.Given as goal

abbrev pub invariant-emit_all-loop-i : goal.invariant-emit_all-loop-i
invariant-emit_all-loop-i l = Emits l.fn.nodes.items l.nodes.items (opened_all (statements_of (drop l.i l.statements))) l.next l.entry

abbrev pub invariant-emit_arms-loop-i : goal.invariant-emit_arms-loop-i
invariant-emit_arms-loop-i l = EmitsArms l.fn.nodes.items l.nodes.items (arms_list_of (drop l.i l.arms)) l.last l.next l.entry
