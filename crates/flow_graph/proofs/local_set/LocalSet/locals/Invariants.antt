use Rattle.flow_graph.proofs.Words.{Lists}
use Rattle.flow_graph.proofs.local_set.LocalSet.locals.Given as goal

abbrev pub invariant-loop-number : goal.invariant-loop-number
invariant-loop-number l = Lists l.self l.locals.items l.number
