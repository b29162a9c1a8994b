-- Worked rows: steps of the source that are begun, followed by a store of a point, and kept.
use Rattle.std.proofs.Common.{◌≡◌, ℕ, List, [], ◌∷◌, ◌++◌, replicate, Option, Some, None, refl}
use Rattle.log_schemes.specs.declared.log.Log.TheVariants.{V1}
use Rattle.ido_base.specs.Words.{Word, word_of}
use Rattle.machine_model.specs.Schedule.{PendingStep, Steps, first_steps, only_life, with_begun, with_stored, with_kept, with_all_kept}

step : (hart : ℕ) → Option ℕ → PendingStep
step hart stored = record { hart = hart; stored = stored }

-- hart 0 begins two steps and hart 1 one between them; hart 0 stores its point after its first one, and again after its second one
begun : Steps
begun = with_stored 0 5 (with_begun 0 (with_begun 1 (with_stored 0 3 (with_begun 0 (first_steps (only_life []))))))

first_store_counts : begun.pending ≡ step 0 (Some 3) ∷ step 1 None ∷ step 0 (Some 5) ∷ []
unfolding begun step
first_store_counts = refl

-- words among which the point of hart 0 is durable up to a position
words_at : (durable : ℕ) → List Word
words_at durable = replicate 8192 (word_of 0) ++ record { values = []; durable = durable } ∷ []

-- it is durable up to a position before its first store, up to that, and past its second one
none_durable : with_kept V1 (words_at 2) 0 begun ≡ begun
unfolding begun words_at
none_durable = refl

one_durable : with_kept V1 (words_at 3) 0 begun ≡ record begun { kept = 0 ∷ []; pending = step 1 None ∷ step 0 (Some 5) ∷ [] }
unfolding begun words_at step
one_durable = refl

both_durable : with_all_kept V1 (words_at 7) 2 begun ≡ record begun { kept = 0 ∷ 0 ∷ []; pending = step 1 None ∷ [] }
unfolding begun words_at step
both_durable = refl
