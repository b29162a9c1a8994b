use Rattle.std.proofs.Common.{◌≡◌, map, take, length}
use Rattle.c_tree.specs.Programs.{variable_of}
use Rattle.source_machine.specs.links.Spans.{parts, AreConsecutive}
use Rattle.source_machine.proofs.variables.Variables.new.Given as goal

abbrev pub invariant-loop-variable : goal.invariant-loop-variable
invariant-loop-variable l = record {
  consecutive : AreConsecutive 0 l.spans.items (length l.elements.items);
  parts : parts l.spans.items l.elements.items ≡ map (λ x. (variable_of x).initial) (take l.variable-index l.variables);
}
