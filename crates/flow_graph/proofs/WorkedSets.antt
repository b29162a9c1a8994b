-- Worked rows: sets of locals.
use Rattle.std.proofs.Common.{[], ◌∷◌, refl}
use Rattle.flow_graph.specs.LocalSets.{Has, HasAt}

-- bits 0 and 2 of the first word, bit 6 of the second
has_0 : Has (5 ∷ 64 ∷ []) 0
unfolding Has
has_0 = refl

has_2 : Has (5 ∷ 64 ∷ []) 2
unfolding Has
has_2 = refl

has_70 : Has (5 ∷ 64 ∷ []) 70
unfolding Has
has_70 = refl

not_1 : Has (5 ∷ 64 ∷ []) 1 → ⊥
unfolding Has
not_1 h = cc

not_64 : Has (5 ∷ 64 ∷ []) 64 → ⊥
unfolding Has
not_64 h = cc

-- after the last word there is none
not_128 : Has (5 ∷ 64 ∷ []) 128 → ⊥
unfolding Has
not_128 h = cc

at_1 : HasAt ((1 ∷ []) ∷ (2 ∷ []) ∷ []) 1 1
unfolding Has
at_1 = refl

not_at_2 : HasAt ((1 ∷ []) ∷ (2 ∷ []) ∷ []) 2 1 → ⊥
unfolding Has
not_at_2 h = cc
