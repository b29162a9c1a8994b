-- The longest runs of a schedule are merged.
use Rattle.std.proofs.Common.{◌≡◌, ◌≢◌, ℕ, zero, suc, ◌+◌, List, [], ◌∷◌, slice_get, Some, Bool, true, false, ◌==◌, refl, sym, ap, ◌∙◌, arith}
use Rattle.std.proofs.lemmas.Bool.{eqb-true, eqb-false}
use Rattle.std.proofs.lemmas.Option.{none-some, same_Some}
use Rattle.run_scripts.specs.Runs.{Run, with_step, runs_of, AreMerged}

no_runs : AreMerged []
no_runs = record { steps = λ k run h. absurd (none-some run h); threads = λ k run next h. absurd (none-some run h) }

after_first : (r : Run) (rs : List Run) (k : ℕ) → slice_get (r ∷ rs) (suc k + 1) ≡ slice_get rs (k + 1)
after_first r rs k = let e : suc k + 1 ≡ suc (k + 1) = omega arith in ap (slice_get (r ∷ rs)) e

others : (r : Run) (rs : List Run) → AreMerged (r ∷ rs) → AreMerged rs
others r rs m = record { steps = λ k run h. m.steps (suc k) run h; threads = λ k run next h n. m.threads (suc k) run next h (after_first r rs k ∙ n) }

-- one more run before others
one_before : (r : Run) (rs : List Run) → r.steps ≢ 0 → ((next : Run) → slice_get rs 0 ≡ Some next → r.thread ≢ next.thread) → AreMerged rs →
    AreMerged (r ∷ rs)
one_before r rs takes differs m = record { steps = each; threads = both }
  where
    each : (k : ℕ) (run : Run) → slice_get (r ∷ rs) k ≡ Some run → run.steps ≢ 0
    each zero run h = let is : r ≡ run = same_Some r run h in λ none. takes (ap (λ (q : Run). q.steps) is ∙ none)
    each (suc k) run h = m.steps k run h

    both : (k : ℕ) (run next : Run) → slice_get (r ∷ rs) k ≡ Some run → slice_get (r ∷ rs) (k + 1) ≡ Some next → run.thread ≢ next.thread
    both zero run next h n = let is : r ≡ run = same_Some r run h in λ same. differs next n (ap (λ (q : Run). q.thread) is ∙ same)
    both (suc k) run next h n = m.threads k run next h (sym (after_first r rs k) ∙ n)

step_merged : (t : ℕ) (rs : List Run) → AreMerged rs → AreMerged (with_step t rs)
step_merged t [] m = one_before _ [] (λ e. absurd (omega arith)) (λ next h. absurd (none-some next h)) no_runs
step_merged t (r ∷ rs) m = by_test (r.thread == t) refl
  where
    by_test : (b : Bool) → (r.thread == t) ≡ b → AreMerged (with_step t (r ∷ rs))
    by_test true e =
        let first : t ≡ r.thread = sym (eqb-true r.thread t e) in
        rw e (one_before _ rs (λ none. absurd (omega arith)) (λ next h same. m.threads 0 r next refl h (sym first ∙ same)) (others r rs m))
    by_test false e =
        rw e (one_before _ (r ∷ rs) (λ none. absurd (omega arith))
        (λ next h same. eqb-false r.thread t e (ap (λ (q : Run). q.thread) (same_Some r next h) ∙ sym same)) m)

pub runs_merged : (schedule : List ℕ) → AreMerged (runs_of schedule)
runs_merged [] = no_runs
runs_merged (t ∷ ts) = step_merged t (runs_of ts) (runs_merged ts)
