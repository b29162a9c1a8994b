use Rattle.std.proofs.Common.{◌≡◌, ◌⊎◌, ℕ, zero, suc, ◌<◌, ◌≤◌, Bool, true, false, ◌&&◌, length, refl, sym, ap, ◌∙◌, arith, inl, inr}
use Rattle.std.proofs.lemmas.Bool.{cases_lt}
use Rattle.machine_model.specs.Machine.{World}
use Rattle.machine_model.specs.Machine.{are_settled, is_settled_hart}
use Rattle.run_tracker.proofs.life.are_settled.Goals as goal

not_and : (b : Bool) → (b && false) ≡ false
not_and true = refl
not_and false = refl

-- with one that isn't settled, not all are
unsettled_one : (w : World) (h n : ℕ) → h < n → is_settled_hart w h ≡ false → are_settled w n ≡ false
unsettled_one w h zero below e = absurd (omega arith)
unsettled_one w h (suc n) below e = by_place (cases_lt h n) (λ before. unsettled_one w h n before e)
  where
    by_place : (h < n) ⊎ (n ≤ h) → (h < n → are_settled w n ≡ false) → (are_settled w n && is_settled_hart w n) ≡ false
    by_place (inl before) rest = ap (λ (b : Bool). b && is_settled_hart w n) (rest before)
    by_place (inr last) rest =
        let same : h ≡ n = omega arith in
        ap (λ (b : Bool). are_settled w n && b) (sym (ap (is_settled_hart w) same) ∙ e) ∙ not_and (are_settled w n)

pub returns-then-not-is_settled_hart : goal.returns-then-not-is_settled_hart
returns-then-not-is_settled_hart c = λ w stands.
    let machine = c.args.machine.now in
    sym (unsettled_one w c.loop-hart.hart (length w.harts)
    (omega (arith, stands.standing.count, machine.sized, machine.harts.ok.0, c.harts-hart-end.ensures, c.loop-hart-test.true))
    (sym (c.is_settled_hart.ensures w stands) ∙ c.if-not-is_settled_hart.true))
