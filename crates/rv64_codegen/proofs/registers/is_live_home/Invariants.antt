use Rattle.rv64_codegen.proofs.LiveRegisterLists.{NoneBefore}
use Rattle.rv64_codegen.proofs.registers.is_live_home.Given as goal

abbrev pub invariant-loop-local : goal.invariant-loop-local
invariant-loop-local l = NoneBefore l.homes l.live l.node l.home l.local
