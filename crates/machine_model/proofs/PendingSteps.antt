-- What is kept of one hart's pending steps: its number so often, and as many steps as are pending no more.
use Rattle.std.proofs.Common.{◌≡◌, ℕ, suc, ◌+◌, List, [], ◌∷◌, length, replicate, refl, arith, Bool, true, false, ◌==◌}
use Rattle.std.specs.Prelude.{filter, not, if◌then◌else◌}
use Rattle.std.proofs.lemmas.Bool.{and_parts, eqb-true}
use Rattle.machine_model.specs.Schedule.{PendingStep, harts_of, is_durable, is_up_to}

-- those that a test takes, and the others, are as many as all
pub length_parts : {A : Type 0} (test : A → Bool) (xs : List A) → length (filter test xs) + length (filter (λ x. not (test x)) xs) ≡ length xs
length_parts test [] = refl
length_parts test (x ∷ xs) = by (test x) (length_parts test xs)
  where
    by : (b : Bool) → length (filter test xs) + length (filter (λ y. not (test y)) xs) ≡ length xs →
        length (if b then x ∷ filter test xs else filter test xs) + length (if not b then x ∷ filter (λ y. not (test y)) xs else filter (λ y. not (test y)) xs)
        ≡ suc (length xs)
    by true e = omega (arith, e)
    by false e = omega (arith, e)

-- all steps of hart h are of that number
pub kept_harts : (h durable : ℕ) (steps : List PendingStep) →
    harts_of (filter (is_durable h durable) steps) ≡ replicate (length (filter (is_durable h durable) steps)) h
kept_harts h durable [] = refl
kept_harts h durable (step ∷ steps) = by (is_durable h durable step) refl (kept_harts h durable steps)
  where
    by : (b : Bool) → is_durable h durable step ≡ b →
        harts_of (filter (is_durable h durable) steps) ≡ replicate (length (filter (is_durable h durable) steps)) h →
        harts_of (if b then step ∷ filter (is_durable h durable) steps else filter (is_durable h durable) steps)
        ≡ replicate (length (if b then step ∷ filter (is_durable h durable) steps else filter (is_durable h durable) steps)) h
    by true is e =
        let own : step.hart ≡ h = eqb-true step.hart h (and_parts (step.hart == h) (is_up_to durable step.stored) is).0 in
        (λ i. own i ∷ e i)
    by false is e = e
