-- How many steps an account has, as they are begun, stored and kept.
use Rattle.std.proofs.Common.{◌≡◌, ℕ, zero, suc, ◌+◌, List, [], ◌∷◌, ◌++◌, filter, flat_map, None, refl, ◌∙◌, arith, length-append}
use Rattle.std.proofs.lemmas.List.{length-map}
use Rattle.log_schemes.specs.declared.log.Log.{Log}
use Rattle.ido_base.specs.Words.{Word, word_at}
use Rattle.machine_model.specs.Schedule.{PendingStep, Steps, harts_of, is_durable, then_stored, with_all_kept, with_begun, with_kept, with_stored}
use Rattle.machine_model.proofs.Public.{length_parts}
use Rattle.run_tracker.specs.links.AccountRepresentation.{point_word, step_at, weight}

pub weight-begun : (h : ℕ) (s : Steps) → weight (with_begun h s) ≡ weight s + 1
weight-begun h s = omega (arith, length-append s.pending (step_at h None ∷ []))

pub weight-stored : (h position : ℕ) (s : Steps) → weight (with_stored h position s) ≡ weight s
weight-stored h position s = omega (arith, length-map s.pending (then_stored h position))

pub weight-kept : (log : Log) (words : List Word) (h : ℕ) (s : Steps) → weight (with_kept log words h s) ≡ weight s
weight-kept log words h s =
    let test = is_durable h (word_at words (point_word log h)).durable in
    let kept = harts_of (filter test s.pending) in
    let earlier : List ℕ = flat_map (λ steps. steps) s.earlier in
    omega (
      arith,
      length_parts test s.pending,
      length-append earlier (s.kept ++ kept),
      length-append earlier s.kept,
      length-append s.kept kept,
      length-map (filter test s.pending) (λ (step : PendingStep). step.hart),
    )

pub weight-all_kept : (log : Log) (words : List Word) (n : ℕ) (s : Steps) → weight (with_all_kept log words n s) ≡ weight s
weight-all_kept log words zero s = refl
weight-all_kept log words (suc n) s = weight-kept log words n (with_all_kept log words n s) ∙ weight-all_kept log words n s
