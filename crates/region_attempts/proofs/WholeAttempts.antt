-- An attempt that stands before a boundary has come as far as any.
use Rattle.std.proofs.Common.{◌≡◌, ◌≢◌, ⊎_elim, ℕ, ◌<◌, ◌≤◌, sym, ◌∙◌, arith, Some}
use Rattle.std.proofs.lemmas.Bool.{cases_eq}
use Rattle.c_tree.specs.Flats as f
use Rattle.source_machine.specs.Mutexes.{locks, unlocks}
use Rattle.flow_graph.specs.Actions.{FlowState}
use Rattle.flow_graph.specs.IdempotentCuts.{Boundaries}
use Rattle.recovery_semantics.specs.Attempts.{solo}
use Rattle.recovery_semantics.specs.Configs.{Config, Invariant, attempt_of}
use Rattle.recovery_semantics.proofs.Public.{none_some}
use Rattle.region_attempts.specs.AttemptsInRegion.{StaysInside, HasCome}
use Rattle.region_attempts.specs.Laws.{AttemptsAreWhole}

lower : (i j : ℕ) → i ≤ j → i ≢ j → ¬ (i < j) → ⊥
lower i j h d n = d (omega (arith, h, n))

module _ (x : f.Flat) (b : Boundaries) (kept : FlowState) (old : Config) (t : ℕ) (i : Invariant x old) (stays : StaysInside x b kept old t) where
  abbrev done : ℕ
  done = (attempt_of old t).done

  abbrev longest : ℕ
  longest = (attempt_of old t).longest

  no_further : HasCome x b kept old t → done < longest → ⊥
  no_further come l = stays.inside done come.node come.steps l come.at come.stands

  none_passed : (mutex : ℕ) → locks (solo old.kept t done) t ≡ Some mutex → done < longest → ⊥
  none_passed mutex h l = none_some mutex (sym ((i.tried t).inner done l).locks_none ∙ h)

  none_given : (mutex : ℕ) → unlocks (solo old.kept t done) t ≡ Some mutex → done < longest → ⊥
  none_given mutex h l = none_some mutex (sym ((i.tried t).inner done l).unlocks_none ∙ h)

  whole_if : (done < longest → ⊥) → done ≡ longest
  whole_if never = let within = (i.tried t).within in ⊎_elim (λ is. is) (λ d. absurd (lower done longest within d never)) (cases_eq done longest)

pub attempts_are_whole : AttemptsAreWhole
attempts_are_whole x b kept old t i stays before = whole_if x b kept old t i stays (⊎_elim
    (λ come. no_further x b kept old t i stays come)
    (λ p. ⊎_elim (λ h. none_passed x b kept old t i stays p.0 h) (λ h. none_given x b kept old t i stays p.0 h) p.1)
    before)
