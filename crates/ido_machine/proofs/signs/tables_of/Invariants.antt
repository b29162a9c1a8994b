use Rattle.std.proofs.Common.{◌≡◌, ℕ, [], length, map, slice_get, slice_index_or, Some}
use Rattle.rv64_isa.specs.Programs.{code_of, code_start}
use Rattle.machine_model.specs.Objects.{program_of}
use Rattle.ido_machine.specs.declared.signs.SignTable.{SignTable}
use Rattle.ido_machine.specs.links.SignTables.{IsTableOf}
use Rattle.ido_machine.proofs.signs.tables_of.Given as goal

abbrev pub invariant-loop-thread : goal.invariant-loop-thread
invariant-loop-thread l = record {
  count : length l.tables.items ≡ l.thread;
  each : (thread : ℕ) (table : SignTable) → slice_get l.tables.items thread ≡ Some table →
      IsTableOf table (code_start (program_of l.object) thread) (code_of (program_of l.object) thread)
      (slice_index_or (map (λ t. t.nodes.items) l.marks.threads.items) thread []);
}
