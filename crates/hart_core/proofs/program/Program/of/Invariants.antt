use Rattle.std.proofs.Common.{◌≡◌, ◌+◌, ◌*◌, ◌≤◌, map, take}
use Rattle.ido_base.specs.declared.limits.TheConstants.{CODE_BASE, MOST_CODE_WORDS}
use Rattle.rv64_isa.specs.Programs.{code_start}
use Rattle.machine_model.specs.Objects.{program_of}
use Rattle.hart_core.specs.links.Starts.{AreStarts}
use Rattle.hart_core.proofs.program.Program.of.Given as goal

abbrev pub invariant-loop-words : goal.invariant-loop-words
invariant-loop-words l = record {
  code : map (λ c. c.items) l.code.items ≡ take l.words-index (program_of l.object);
  starts : AreStarts l.starts.items (take l.words-index (program_of l.object));
  start : l.start ≡ code_start (program_of l.object) l.words-index;
  bound : l.start ≤ CODE_BASE + 4 * MOST_CODE_WORDS * l.words-index;
}
