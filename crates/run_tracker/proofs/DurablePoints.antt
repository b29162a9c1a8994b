-- Durable points by which sections end, and sections after an event.
use Rattle.std.proofs.Common.{◌≡◌, ℕ, zero, suc, ◌+◌, ◌<◌, ◌==◌, not, ◌&&◌, List, [], ◌∷◌, length, map, slice_index, Bool, true, false, cond}
use Rattle.std.proofs.Common.{inl, inr, refl, ap, ap₂, sym, subst, ◌∙◌, arith}
use Rattle.std.proofs.lemmas.Bool.{cond_both, eqb-true}
use Rattle.std.proofs.lemmas.List.{get_or_append_left}
use Rattle.machine_model.proofs.Public.{after_start, log_stays}
use Rattle.log_schemes.specs.declared.log.Log.{Log}
use Rattle.machine_events.specs.declared.event.Event.{Event}
use Rattle.machine_events.specs.declared.event.Event.TheVariants.{Step, Evict, Crash, Start}
use Rattle.machine_events.specs.declared.event.Reply.{Reply}
use Rattle.machine_events.specs.declared.event.Reply.TheVariants.{Moved, Drained, Waits, Barrier, Still, Stuck, Device}
use Rattle.ido_base.specs.Words.{Word, word_of, word_at, durable_value}
use Rattle.ido_base.specs.Growth.{IsChanged}
use Rattle.rv64_isa.specs.declared.object.Slot.{Slot}
use Rattle.machine_model.specs.Frames.{IsWellFormedWorld}
use Rattle.machine_model.specs.Schedule.{Steps}
use Rattle.machine_model.specs.Machine.{World, after_crash_of, happens, after_event, reply_to, durable_point}
use Rattle.ido_machine.specs.declared.machine.Machine.{Machine}
use Rattle.ido_machine.specs.Machines.{RepresentsMachine, program_in}
use Rattle.run_tracker.specs.declared.sections.HartSections.{HartSections}
use Rattle.run_tracker.specs.declared.sections.Sections.{Sections}
use Rattle.run_tracker.specs.ObjectLives.{ends_at_point}
use Rattle.run_tracker.specs.links.AccountRepresentation.{AreOpen, IsNoneDurable, point_word}
use Rattle.run_tracker.specs.links.LifeParts.{is_drained, may_persist}
use Rattle.run_tracker.specs.links.SectionRepresentation.{AreAbove, AreSections, AreSeen, looked_at, section_at, seen_at}
use Rattle.run_tracker.proofs.DurableWordsStay.{undrained}
use Rattle.run_tracker.proofs.Events.{changed_by_eviction, changed_by_step}
use Rattle.run_tracker.proofs.PointWords.{point_exists}

-- ---- Durable points that stay

-- a word whose durable position stays has the durable value that it had
same_durable : (old new : Word) → old.durable < length old.values → IsChanged old new → new.durable ≡ old.durable → durable_value new ≡ durable_value old
same_durable old new there (inl persisted) same = ap₂ (λ (xs : List ℕ) (n : ℕ). slice_index xs n) persisted.values same
same_durable old new there (inr pushed) same =
    ap durable_value pushed.1 ∙ get_or_append_left old.values (pushed.0 ∷ []) 0 old.durable there

-- the durable position of a hart's point is one of its word's
pub point_there : (machine : Machine) (w : World) (h : ℕ) → RepresentsMachine machine w → h < length (program_in machine) →
    (word_at w.words (point_word w.log h)).durable < length (word_at w.words (point_word w.log h)).values
point_there machine w h stands exists =
    let point : point_word w.log h < length w.words = point_exists machine w h stands exists in
    (stands.words.cells.each (point_word w.log h) (omega (arith, stands.words.cells.size, point))).order

undrained_by : (reply : Reply) → may_persist reply ≡ false → is_drained reply ≡ false
undrained_by Moved e = refl
undrained_by Drained e = cc
undrained_by (Waits lock holder) e = refl
undrained_by (Barrier hart) e = refl
undrained_by Still e = refl
undrained_by (Stuck cause) e = refl
undrained_by Device e = cc

-- where no more of memory can be durable, durable points stay
pub point_stays : (program : List (List Slot)) (w : World) (event : Event) (h : ℕ) → IsWellFormedWorld w →
    (word_at w.words (point_word w.log h)).durable < length (word_at w.words (point_word w.log h)).values → may_persist (reply_to program w event) ≡ false →
    durable_point (after_event program w event).log (after_event program w event).words h ≡ durable_point w.log w.words h
unfolding happens
point_stays program w (Step g) h sound there quiet =
    ap (λ (l : Log). durable_point l (after_event program w (Step g)).words h) (log_stays program w (Step g) sound)
    ∙ same_durable (word_at w.words (point_word w.log h)) (word_at (after_event program w (Step g)).words (point_word w.log h)) there
    ((changed_by_step program w g sound).each (point_word w.log h))
    (undrained program g w (undrained_by (reply_to program w (Step g)) quiet) (point_word w.log h))
point_stays program w (Evict line mask) h sound there quiet = cc
point_stays program w Crash h sound there quiet = cc
point_stays program w Start h sound there quiet =
    after_start program w (λ (v : World). durable_point v.log v.words h ≡ durable_point w.log w.words h) refl refl

-- the positions of durable points stay
position_stays : (program : List (List Slot)) (w : World) (event : Event) (h : ℕ) → IsWellFormedWorld w → may_persist (reply_to program w event) ≡ false →
    (word_at (after_event program w event).words (point_word (after_event program w event).log h)).durable ≡ (word_at w.words (point_word w.log h)).durable
unfolding happens
position_stays program w (Step g) h sound quiet =
    ap (λ (l : Log). (word_at (after_event program w (Step g)).words (point_word l h)).durable) (log_stays program w (Step g) sound)
    ∙ undrained program g w (undrained_by (reply_to program w (Step g)) quiet) (point_word w.log h)
position_stays program w (Evict line mask) h sound quiet = cc
position_stays program w Crash h sound quiet = cc
position_stays program w Start h sound quiet =
    after_start program w (λ (v : World). (word_at v.words (point_word v.log h)).durable ≡ (word_at w.words (point_word w.log h)).durable) refl refl

-- a crash leaves the durable value
crash_keeps : (words : List Word) (j : ℕ) → durable_value (word_at (map word_of (map durable_value words)) j) ≡ durable_value (word_at words j)
crash_keeps [] j = refl
crash_keeps (w ∷ ws) zero = refl
crash_keeps (w ∷ ws) (suc j) = crash_keeps ws j

-- a point that is durable at the position at which it was is the one that it was
pub point_kept : (program : List (List Slot)) (w : World) (event : Event) (h : ℕ) → IsWellFormedWorld w →
    (word_at w.words (point_word w.log h)).durable < length (word_at w.words (point_word w.log h)).values →
    (word_at (after_event program w event).words (point_word (after_event program w event).log h)).durable ≡ (word_at w.words (point_word w.log h)).durable →
    durable_point (after_event program w event).log (after_event program w event).words h ≡ durable_point w.log w.words h
unfolding happens after_crash_of
point_kept program w (Step g) h sound there same =
    let log = log_stays program w (Step g) sound in
    let words = (after_event program w (Step g)).words in
    ap (λ (l : Log). durable_point l words h) log
    ∙ same_durable (word_at w.words (point_word w.log h)) (word_at words (point_word w.log h)) there
    ((changed_by_step program w g sound).each (point_word w.log h)) (ap (λ (l : Log). (word_at words (point_word l h)).durable) (sym log) ∙ same)
point_kept program w (Evict line mask) h sound there same =
    same_durable (word_at w.words (point_word w.log h)) (word_at (after_event program w (Evict line mask)).words (point_word w.log h)) there
    ((changed_by_eviction program w line mask).each (point_word w.log h)) same
point_kept program w Crash h sound there same = crash_keeps w.words (point_word w.log h)
point_kept program w Start h sound there same =
    after_start program w (λ (v : World). durable_point v.log v.words h ≡ durable_point w.log w.words h) refl refl

-- no pending steps are bound up to where points were seen
pub above_seen : (sections : Sections) (harts : ℕ) (w : World) (s : Steps) → AreSeen sections harts w → AreOpen harts w.log w.words s →
    AreAbove sections harts s
above_seen sections harts w s seen is_open h below = subst (λ (p : ℕ). IsNoneDurable h p s.pending) (sym (seen h below)) (is_open h below)

none_ends : (b : Bool) → (not b && b) ≡ false
none_ends true = refl
none_ends false = refl

-- by a point that stays no section ends
pub none_at_point : (program : List (List Slot)) (w : World) (event : Event) (h : ℕ) →
    durable_point (after_event program w event).log (after_event program w event).words h ≡ durable_point w.log w.words h →
    ends_at_point program w event h ≡ false
none_at_point program w event h same =
    ap (λ (k : ℕ). not (durable_point w.log w.words h == 0) && (k == 0)) same ∙ none_ends (durable_point w.log w.words h == 0)

-- ---- Sections after an event

module _ (program : List (List Slot)) (w : World) (event : Event) (harts : ℕ) (old : Sections) (ended : ℕ → ℕ) (are : AreSections old harts w ended) where
  abbrev after : World
  after = after_event program w event

  -- with those that end by the event
  abbrev then_ended : ℕ → ℕ
  then_ended h = ended h + cond (ends_at_point program w event h) 1 0

  -- where it has been looked at the durable points since
  module _ (kept : (h : ℕ) → h < harts → (word_at after.words (point_word after.log h)).durable ≡ (word_at w.words (point_word w.log h)).durable →
      durable_point after.log after.words h ≡ durable_point w.log w.words h) (h : ℕ) (below : h < harts) where
    abbrev position : ℕ
    position = (word_at after.words (point_word after.log h)).durable

    abbrev point : ℕ
    point = durable_point after.log after.words h

    abbrev IsSection : HartSections → Type 0
    IsSection s = (s.position ≡ position) × (s.point ≡ point) × (s.ended ≡ then_ended h)

    stays : (section_at old h).position ≡ position → IsSection (section_at old h)
    stays same =
        let there = kept h below (sym same ∙ are.position h below) in
        let none = ap {B = ℕ} (λ (b : Bool). cond b 1 0) (none_at_point program w event h there) in
        let was = are.counted h below in
        (same, are.point h below ∙ sym there, omega (arith, none, was))

    sees : IsSection (seen_at position point (section_at old h))
    sees = (refl, refl, ap₂ (λ (n k : ℕ). n + cond (not (k == 0) && (point == 0)) 1 0) (are.counted h below) (are.point h below))

    pub looked : IsSection (looked_at position point (section_at old h))
    looked = cond_both ((section_at old h).position == position) (section_at old h) (seen_at position point (section_at old h)) IsSection
        (λ e. stays (eqb-true (section_at old h).position position e)) (λ _. sees)

  pub sections_seen : (new : Sections) → length new.harts.items ≡ length old.harts.items →
      ((h : ℕ) → h < length old.harts.items → section_at new h
      ≡ looked_at (word_at after.words (point_word after.log h)).durable (durable_point after.log after.words h) (section_at old h)) →
      ((h : ℕ) → h < harts → (word_at after.words (point_word after.log h)).durable ≡ (word_at w.words (point_word w.log h)).durable →
      durable_point after.log after.words h ≡ durable_point w.log w.words h) → AreSections new harts after then_ended
  sections_seen new size each kept = record {
    size = size ∙ are.size;
    position = λ h below. ap (λ (s : HartSections). s.position) (each h (omega (arith, below, are.size))) ∙ (looked kept h below).0;
    point = λ h below. ap (λ (s : HartSections). s.point) (each h (omega (arith, below, are.size))) ∙ (looked kept h below).1;
    counted = λ h below. ap (λ (s : HartSections). s.ended) (each h (omega (arith, below, are.size))) ∙ (looked kept h below).2;
  }

  -- where durable points stay
  pub sections_unseen : ((h : ℕ) → h < harts → (word_at after.words (point_word after.log h)).durable ≡ (word_at w.words (point_word w.log h)).durable) →
      ((h : ℕ) → h < harts → durable_point after.log after.words h ≡ durable_point w.log w.words h) → AreSections old harts after then_ended
  sections_unseen there same = record {
    size = are.size;
    position = λ h below. are.position h below ∙ sym (there h below);
    point = λ h below. are.point h below ∙ sym (same h below);
    counted = λ h below.
        let none = ap {B = ℕ} (λ (b : Bool). cond b 1 0) (none_at_point program w event h (same h below)) in
        let was = are.counted h below in
        omega (arith, none, was);
  }

  -- where it has been looked at them if more of memory may be durable
  pub sections_after : (machine : Machine) → RepresentsMachine machine w → harts ≡ length (program_in machine) → IsWellFormedWorld w → (new : Sections) →
      (looks : Bool) → looks ≡ may_persist (reply_to program w event) → length new.harts.items ≡ length old.harts.items →
      (looks ≡ true → (h : ℕ) → h < length old.harts.items → section_at new h
      ≡ looked_at (word_at after.words (point_word after.log h)).durable (durable_point after.log after.words h) (section_at old h)) →
      (looks ≡ false → new ≡ old) → AreSections new harts after then_ended
  sections_after machine stands many sound new true looks size seen unseen =
      sections_seen new size (seen refl) (λ h below. point_kept program w event h sound
      (point_there machine w h stands (omega (arith, below, many))))
  sections_after machine stands many sound new false looks size seen unseen =
      subst (λ (s : Sections). AreSections s harts after then_ended) (sym (unseen refl))
      (sections_unseen (λ h below. position_stays program w event h sound (sym looks)) (λ h below.
      point_stays program w event h sound (point_there machine w h stands (omega (arith, below, many))) (sym looks)))
