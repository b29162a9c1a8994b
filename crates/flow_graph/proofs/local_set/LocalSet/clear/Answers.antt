use Rattle.std.proofs.Common.{ℕ, List, subst, vec_len}
use Rattle.flow_graph.specs.LocalSets.{Has}
use Rattle.flow_graph.proofs.Words.{none_zero}
use Rattle.flow_graph.proofs.local_set.LocalSet.clear.Goals as goal

pub returns-clause-none : goal.returns-clause-none
returns-clause-none c local h = none_zero (vec_len c.self.inside.words) local (subst (λ (words : List ℕ). Has words local) (c.fill.ensures.items (λ y e. e)) h)
