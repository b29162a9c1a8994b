use Rattle.std.proofs.Common.{◌+◌, ℕ, List, subst}
use Rattle.flow_graph.specs.LocalSets.{Has}
use Rattle.flow_graph.proofs.Words.{none_zero}
use Rattle.flow_graph.proofs.local_set.LocalSet.none.Goals as goal

pub returns-clause-none : goal.returns-clause-none
returns-clause-none c local h =
    none_zero (c.word_of.result + 1) local (subst (λ (words : List ℕ). Has words local) (c.in_ok-words.ensures.items_if_clones_equal (λ y e. e)) h)
