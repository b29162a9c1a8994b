-- The world in which another life begins.
use Rattle.std.proofs.Common.{◌≡◌, refl, ℕ, zero, suc, ◌+◌, List, [], ◌∷◌, length, ap, sym, ◌∙◌, subst, arith, Bool, true, false, Some}
use Rattle.std.specs.Prelude.{slice_get, if◌then◌else◌}
use Rattle.std.proofs.lemmas.Bool.{and_parts}
use Rattle.machine_events.specs.declared.event.Event.TheVariants.{Start}
use Rattle.machine_events.specs.declared.event.Reply.TheVariants.{Device, Still}
use Rattle.ido_base.specs.Growth.{AreEntries}
use Rattle.log_schemes.specs.Layout.{word_count}
use Rattle.rv64_isa.specs.declared.object.Slot.{Slot}
use Rattle.machine_model.specs.Machine.{Hart, World, Outcome, happens, after_event, anew, all_anew, can_start, has_stopped, have_stopped, started_anew}
use Rattle.machine_model.specs.Frames.{IsWellFormedWorld}

pub anew_length : (program : List (List Slot)) (at : ℕ) (harts : List Hart) → length (all_anew program at harts) ≡ length harts
anew_length program at [] = refl
anew_length program at (hart ∷ harts) = ap suc (anew_length program (at + 1) harts)

-- the hart that was there before
pub record WasThere (program : List (List Slot)) (at : ℕ) (harts : List Hart) (h : ℕ) (hart : Hart) : Type 0 where
  pub was : Hart
  pub there : slice_get harts h ≡ Some was
  pub is : hart ≡ anew program (at + h) was

pub anew_found : (program : List (List Slot)) (at : ℕ) (harts : List Hart) (h : ℕ) (hart : Hart) → slice_get (all_anew program at harts) h ≡ Some hart →
    WasThere program at harts h hart
anew_found program at [] h hart e = cc
anew_found program at (one ∷ harts) zero hart e =
    let same : hart ≡ anew program at one = cc in
    let number : at ≡ at + 0 = omega arith in
    record { was = one; there = refl; is = same ∙ ap (λ (k : ℕ). anew program k one) number }
anew_found program at (one ∷ harts) (suc h) hart e =
    let w = anew_found program (at + 1) harts h hart e in
    let number : at + 1 + h ≡ at + suc h = omega arith in
    record { was = w.was; there = w.there; is = w.is ∙ ap (λ (k : ℕ). anew program k w.was) number }

pub anew_there : (program : List (List Slot)) (at : ℕ) (harts : List Hart) (h : ℕ) (hart : Hart) → slice_get harts h ≡ Some hart →
    slice_get (all_anew program at harts) h ≡ Some (anew program (at + h) hart)
anew_there program at [] h hart e = cc
anew_there program at (one ∷ harts) zero hart e =
    let same : one ≡ hart = cc in
    let number : at ≡ at + 0 = omega arith in
    ap (λ (x : Hart). Some (anew program at x)) same ∙ ap (λ (k : ℕ). Some (anew program k hart)) number
anew_there program at (one ∷ harts) (suc h) hart e =
    let number : at + 1 + h ≡ at + suc h = omega arith in
    anew_there program (at + 1) harts h hart e ∙ ap (λ (k : ℕ). Some (anew program k hart)) number

-- ---- A start is made, or changes nothing

-- what a start does where another life may begin, if so
abbrev pub outcome_of : List (List Slot) → World → (may : Bool) → Outcome
outcome_of program w may = if may then (started_anew program w, Device) else (w, Still)

pub starts_by : (program : List (List Slot)) (w : World) → happens program w Start ≡ outcome_of program w (can_start w)
unfolding happens
starts_by program w = refl

-- what holds of both holds after a start
pub after_start : (program : List (List Slot)) (w : World) (P : World → Type 0) → P (started_anew program w) → P w → P (after_event program w Start)
after_start program w P started same = subst (λ (o : Outcome). P o.0) (sym (starts_by program w)) (by (can_start w))
  where
    by : (may : Bool) → P (outcome_of program w may).0
    by true = started
    by false = same

pub anew_sound : (program : List (List Slot)) (w : World) → IsWellFormedWorld w → IsWellFormedWorld (started_anew program w)
anew_sound program w sound = record {
  size = sound.size ∙ ap (word_count w.log) (sym (anew_length program 0 w.harts));
  queues = λ h hart there.
      let one = anew_found program 0 w.harts h hart there in
      subst (λ (x : Hart). AreEntries w.words x.queue) (sym one.is) (sound.queues h one.was one.there);
}

pub start_sound : (program : List (List Slot)) (w : World) → IsWellFormedWorld w →
    IsWellFormedWorld (after_event program w Start) × (length (after_event program w Start).harts ≡ length w.harts)
start_sound program w sound =
    after_start program w (λ (v : World). IsWellFormedWorld v × (length v.harts ≡ length w.harts))
    (anew_sound program w sound, anew_length program 0 w.harts) (sound, refl)

-- ---- Harts that have stopped

-- each hart has, where all have
pub each_stopped : (harts : List Hart) → have_stopped harts ≡ true → (h : ℕ) (hart : Hart) → slice_get harts h ≡ Some hart → has_stopped hart.phase ≡ true
each_stopped [] all h hart there = cc
each_stopped (one ∷ harts) all zero hart there =
    let parts = and_parts (has_stopped one.phase) (have_stopped harts) all in
    let same : one ≡ hart = cc in
    ap (λ (x : Hart). has_stopped x.phase) (sym same) ∙ parts.0
each_stopped (one ∷ harts) all (suc h) hart there = each_stopped harts (and_parts (has_stopped one.phase) (have_stopped harts) all).1 h hart there
