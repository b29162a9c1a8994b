-- What is counted of harts along events.
use Rattle.std.proofs.Common.{◌≡◌, ◌≢◌, ◌⊎◌, ℕ, ◌+◌, ◌<◌, ◌≤◌, List, [], ◌∷◌, length, slice_index, slice_set, Bool, true, false, cond, ◌==◌}
use Rattle.std.proofs.Common.{if◌then◌else◌, refl, ap, sym, subst, ◌∙◌, arith, inl, inr, get_or-set_same, get_or-set_other, length-set}
use Rattle.std.proofs.lemmas.Bool.{cases_eq, eqb-true}
use Rattle.machine_events.specs.declared.event.Event.{Event}
use Rattle.machine_events.specs.declared.event.Event.TheVariants.{Step}
use Rattle.machine_events.specs.Cores.{Behaviour, passed_count}
use Rattle.rv64_isa.specs.declared.object.Slot.{Slot}
use Rattle.machine_model.specs.Machine.{World}
use Rattle.rv64_isa.specs.Rows.{Effect}
use Rattle.machine_model.specs.Schedule.{completes}
use Rattle.run_tracker.specs.links.LifeParts.{AreCounted}

-- no more than there are events
pub passed-few : {M : Type 0} (b : Behaviour M) (test : M → Event → Bool) (m : M) (events : List Event) → passed_count b test m events ≤ length events
passed-few b test m [] = omega arith
passed-few b test m (e ∷ es) = by_test (test m e) (passed-few b test (b.next m e) es)
  where
    by_test : (t : Bool) → passed_count b test (b.next m e) es ≤ length es → (if t then 1 else 0) + passed_count b test (b.next m e) es ≤ length (e ∷ es)
    by_test true le = omega arith
    by_test false le = omega arith

-- a step of hart h completes nothing of another
pub completes-other : (test : Effect → Bool) (program : List (List Slot)) (w : World) (h g : ℕ) → g ≢ h → completes test program w (Step h) g ≡ false
completes-other test program w h g ne = by_test (h == g) refl
  where
    by_test : (t : Bool) → (h == g) ≡ t → completes test program w (Step h) g ≡ false
    by_test true e = absurd (ne (sym (eqb-true h g e)))
    by_test false e = rw e refl

plus_none : (n : ℕ) (b : Bool) → b ≡ false → n ≡ n + cond b 1 0
plus_none n b e = rw e (omega arith)

-- the count of each hart, after a step of one of them
pub counted-step : (counts : List ℕ) (h g : ℕ) (done : Bool) (does : ℕ → Bool) → h < length counts → done ≡ does h → ((k : ℕ) → k ≢ h → does k ≡ false)
    → slice_index (slice_set counts h (slice_index counts h + cond done 1 0)) g ≡ slice_index counts g + cond (does g) 1 0
counted-step counts h g done does within is others = by_place (cases_eq g h)
  where
    by_place : (g ≡ h) ⊎ (g ≡ h → ⊥) → slice_index (slice_set counts h (slice_index counts h + cond done 1 0)) g ≡ slice_index counts g + cond (does g) 1 0
    by_place (inl same) =
        let P : ℕ → Type 0 = λ k. slice_index (slice_set counts h (slice_index counts h + cond done 1 0)) k ≡ slice_index counts k + cond (does k) 1 0 in
        subst P (sym same) (get_or-set_same counts h (slice_index counts h + cond done 1 0) 0 within ∙ ap (λ (b : Bool). slice_index counts h + cond b 1 0) is)
    by_place (inr ne) = get_or-set_other counts h g (slice_index counts h + cond done 1 0) 0 ne ∙ plus_none (slice_index counts g) (does g) (others g ne)

-- where one hart's count is set, each count is that of what is done
pub counted-one : (old new : List ℕ) (h : ℕ) (done : Bool) (does : ℕ → Bool) → new ≡ slice_set old h (slice_index old h + cond done 1 0) → h < length old →
    done ≡ does h → ((k : ℕ) → k ≢ h → does k ≡ false) → AreCounted old new does
counted-one old new h done does set within is others = record {
  size = ap length set ∙ length-set old h _;
  each = λ g below. ap (λ (xs : List ℕ). slice_index xs g) set ∙ counted-step old h g done does within is others;
}

-- where nothing is done, each count is that of what is done
pub counted-none : (counts : List ℕ) (does : ℕ → Bool) → ((k : ℕ) → does k ≡ false) → AreCounted counts counts does
counted-none counts does none = record {
  size = refl;
  each = λ g below. plus_none (slice_index counts g) (does g) (none g);
}
