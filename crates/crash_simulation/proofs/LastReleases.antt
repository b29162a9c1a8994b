-- Releases of a hart's last mutex, and threads that leave a section.
use Rattle.crash_simulation.proofs.Common.{◌≡◌, ◌≢◌, ℕ, List, sym, ◌∙◌, ap, arith, true, false, Option, Some, None, refl, Bool, ◌==◌, slice_get, ◌&&◌, not}
use Rattle.crash_simulation.proofs.Common.{eq-eqb, ◌≤◌, is_some, and_left, and_right, false_from_ne_true, ne_eqb, nat_tests, holds_none, Step, World}
use Rattle.crash_simulation.proofs.Common.{after_event, releases_last, Slot, FlowState, Record, Code, Describes, DescribesAs, holds_none_is, is_leaving, one_if}
use Rattle.crash_simulation.proofs.Common.{System}
use Rattle.crash_simulation.proofs.Common.{ThreadGhost}

-- ---- Holders

-- a hart that has a mutex doesn't hold none
pub holds_some : (n : ℕ) (holders : List (Option ℕ)) (lock : ℕ) → slice_get holders lock ≡ Some (Some n) → holds_none holders n ≡ false
holds_some n holders lock there = false_from_ne_true (holds_none holders n) (λ none. holds_none_is n holders lock none there)

-- ---- Releases

none_by : (self before later : Bool) → (later ≡ true → before ≡ true) → (self && (not before && later)) ≡ false
none_by self before later on = grind (arith, nat_tests)

module _ (program : List (List Slot)) (w : World) (h : ℕ) where
  abbrev after : World
  after = after_event program w (Step h)

  -- who holds none after the step held none before it
  pub no_release : (holds_none after.holders h ≡ true → holds_none w.holders h ≡ true) → releases_last program w (Step h) h ≡ false
  no_release on = none_by (h == h) (holds_none w.holders h) (holds_none after.holders h) on

  pub holders_stay_none : after.holders ≡ w.holders → releases_last program w (Step h) h ≡ false
  holders_stay_none same = no_release (λ e. ap (λ (hs : List (Option ℕ)). holds_none hs h) (sym same) ∙ e)

  pub is_release : holds_none w.holders h ≡ false → holds_none after.holders h ≡ true → releases_last program w (Step h) h ≡ true
  is_release some none = λ i. (eq-eqb h h refl) i && (not (some i) && none i)

  -- another hart's step releases nothing of its own
  pub other_release : (n : ℕ) → n ≢ h → releases_last program w (Step h) n ≡ false
  other_release n other = and_left (h == n) _ (ne_eqb h n (λ e. other (sym e)))

-- ---- Ghost states of threads

pub at_most_one : (b : Bool) → one_if b ≤ 1
at_most_one b = grind (arith, nat_tests)

pub and_none : (b : Bool) → (b && false) ≡ false
and_none b = and_right b false refl

pub none_leaving : (c : ThreadGhost) → c.giving ≡ None → is_leaving c ≡ false
none_leaving c none = and_right c.committed _ (and_left (is_some c.giving) _ (ap is_some none))

pub uncommitted_leaving : (c : ThreadGhost) → c.committed ≡ false → is_leaving c ≡ false
uncommitted_leaving c is = and_left c.committed _ is

-- ---- Records

-- the point is 0 exactly where the thread holds nothing
pub describes_test : (y : System) (code : Code y.plan) (kept : FlowState) (r : Record) → Describes y.plan code kept r →
    (r.point == 0) ≡ holds_none kept.holders code.thread.number
describes_test y code kept r h4 = grind (arith, ne_eqb)

-- late or not
pub describes_test_as : (y : System) (code : Code y.plan) (kept : FlowState) (late : Bool) (r : Record) → DescribesAs y.plan code kept late r →
    (r.point == 0) ≡ holds_none kept.holders code.thread.number
describes_test_as y code kept false r describes = describes_test y code kept r describes
describes_test_as y code kept true r past = ne_eqb r.point 0 past.point ∙ sym past.holds
