use Rattle.flow_graph.proofs.Words.{Joins}
use Rattle.flow_graph.proofs.local_set.LocalSet.add_all.Given as goal

abbrev pub invariant-loop-i : goal.invariant-loop-i
invariant-loop-i l = Joins l.initial.self-inside.words.items l.added-items l.self-inside.words.items l.i l.grows
