use Rattle.std.proofs.Common.{◌≡◌, ◌*◌, ◌≤◌, length, map, take}
use Rattle.std.specs.Prelude.{sum_by}
use Rattle.ido_base.specs.declared.limits.TheConstants.{MOST_CODE_WORDS}
use Rattle.rv64_isa.specs.Programs.{code_base}
use Rattle.rv64_link.specs.LinkedCode.{AreLinked}
use Rattle.rv64_link.specs.links.Threads.{items_in, slots_in}
use Rattle.rv64_link.proofs.link.link_threads.Given as goal

abbrev pub invariant-loop-items : goal.invariant-loop-items
invariant-loop-items l = record {
  linked : AreLinked code_base (map items_in (take l.items-index l.threads)) (map slots_in l.code.items) l.marks.items;
  first : l.first ≡ sum_by length (map slots_in l.code.items);
  low : l.first ≤ MOST_CODE_WORDS * l.items-index;
}
