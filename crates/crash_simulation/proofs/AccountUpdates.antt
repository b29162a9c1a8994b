-- What a step of a hart adds to the machine's account, and what is kept of it where steps are bound to a point.
use Rattle.crash_simulation.proofs.Common.{◌≡◌, ◌≢◌, ℕ, List, ◌∷◌, sym, ◌∙◌, ap, ap₂, arith, subst, true, false, Option, Some, None, refl, suc, []}
use Rattle.crash_simulation.proofs.Common.{◌++◌, Bool, ◌⊎◌, inl, inr, zero, ◌==◌, replicate, slice_get, ◌&&◌, if◌then◌else◌, not, nat_le, map}
use Rattle.crash_simulation.proofs.Common.{filter, eq-eqb, eqb-true, true≢false, append-nil, and_from, and_parts, nat_tests, ended_from, steps_of}
use Rattle.crash_simulation.proofs.Common.{AreEntries, byte_number, word_number, point_at, Word, Entry, last_position, Step, Evict, Reply, Moved}
use Rattle.crash_simulation.proofs.Common.{Log, same_last, write_backs_raise, without_first, without, IsWellFormedWorld, Hart, World, happens, after_event}
use Rattle.crash_simulation.proofs.Common.{reply_to, Steps, has_moved, is_running, completing, is_mark, passes_mark, stores_point, with_step}
use Rattle.crash_simulation.proofs.Common.{PendingStep, harts_of, with_begun, then_stored, with_stored}
use Rattle.crash_simulation.proofs.Common.{is_up_to, is_durable, with_kept, Slot, Phase, Done, log_stays}
use Rattle.crash_simulation.proofs.Common.{evictions_touch, MayMakeStore, IsWork, Queues, WritesBack, Makes, steps_work, equal_self, point_in}
use Rattle.crash_simulation.proofs.Common.{IsElsewhere, some_words, word_beside, IsInPhase, AbstractRun, AreStoredAt, IsCountedOf, IsAccountedOf, AreCounted}
use Rattle.crash_simulation.proofs.Common.{Beginning, IsReleasedOf, stored_at, last_stored, is_bound, is_leaving, SaysSame, sections_kept, System, ThreadGhost}
use Rattle.std.specs.Prelude.{is_none}
use Rattle.variable_words.specs.MemoryEffects.{Rests}
use Rattle.crash_simulation.proofs.DisjointStores.{next_store}

-- the hart, where it runs and its step completes an instruction
abbrev completing_by : Reply → Option Hart → Option Hart
completing_by reply o = elim o [
  | Some hart ↦ if is_running hart.phase && has_moved reply then Some hart else None
  | None ↦ None
]

-- ---- A store to the thread's point is counted so

module _ (program : List (List Slot)) (w : World) (h address bytes value : ℕ) (st : MayMakeStore program w h address bytes value) where
  open st.executes use {hart}

  moves : reply_to program w (Step h) ≡ Moved
  unfolding happens
  moves = grind (arith, nat_tests)

  completes_it : completing program w h ≡ Some hart
  completes_it = grind (arith, moves)

  pub point_stored : word_number address ≡ word_number (point_at w.log h) → stores_point program w (Step h) h ≡ true
  point_stored same = grind (arith, and_from, eq-eqb, equal_self, next_store, completes_it)

-- ---- A step of a hart

module _ (program : List (List Slot)) (w : World) (h n : ℕ) (sound : IsWellFormedWorld w)
    (apart : (address bytes value : ℕ) → MayMakeStore program w h address bytes value → word_number (point_at w.log n) ≢ word_number address) where
  abbrev after : World
  after = after_event program w (Step h)

  abbrev last_in : List Word → ℕ
  last_in words = last_position (point_in w.log words n)

  by_work : (queue rest : List Entry) → AreEntries w.words queue → IsWork program w h after.words queue rest → last_in after.words ≡ last_in w.words
  by_work queue rest entries (Rests same q) = ap last_in same
  by_work queue rest entries (Queues line same q) = ap last_in same
  by_work queue rest entries (WritesBack e is q) =
      let there : AreEntries w.words (e ∷ rest) = subst (λ (es : List Entry). AreEntries w.words es) q entries in
      ap last_in is ∙ same_last _ _ ((write_backs_raise w.words e there.0).each (word_number (point_at w.log n)))
  by_work queue rest entries (Makes address bytes value st is q) =
      ap last_in is
      ∙ ap last_position (word_beside w.words (byte_number address) bytes value (word_number (point_at w.log n)) (apart address bytes value st))

  pub last_stays : (hart : Hart) → slice_get w.harts h ≡ Some hart → last_stored after n ≡ last_stored w n
  last_stays hart here =
      let does = steps_work program w h hart here in
      ap (λ (l : Log). last_position (point_in l after.words n)) (log_stays program w (Step h) sound)
      ∙ by_work hart.queue does.after.queue (sound.queues h hart here) does.work

-- the last position of the hart's own point stays where it isn't stored
pub own_last_stays : (program : List (List Slot)) (w : World) (h : ℕ) (hart : Hart) → IsWellFormedWorld w → slice_get w.harts h ≡ Some hart →
    stores_point program w (Step h) h ≡ false → last_stored (after_event program w (Step h)) h ≡ last_stored w h
own_last_stays program w h hart sound here none = last_stays program w h h sound
    (λ address bytes value st same. true≢false (sym (point_stored program w h address bytes value st (sym same)) ∙ none)) hart here

-- the last position of another thread's point stays
pub other_last_stays : (program : List (List Slot)) (w : World) (h n : ℕ) (hart : Hart) → IsWellFormedWorld w → slice_get w.harts h ≡ Some hart →
    (named : List ℕ) → IsElsewhere program w named h n → h ≢ n → last_stored (after_event program w (Step h)) n ≡ last_stored w n
other_last_stays program w h n hart sound here named elsewhere other = last_stays program w h n sound (λ address bytes value st same.
    other (elsewhere st.executes.hart address bytes value (next_store program w h address bytes value st) 0 (some_words w.log) (omega (arith, same))).0) hart
    here

-- ---- An eviction

pub evicted_last_stays : (program : List (List Slot)) (w : World) (line mask n : ℕ) → last_stored (after_event program w (Evict line mask)) n ≡ last_stored w n
unfolding happens
evicted_last_stays program w line mask n = same_last _ _ ((evictions_touch program w line mask).0.each (word_number (point_at w.log n)))

-- ---- A step of a hart that executes no instruction, or isn't there

module _ (marks : List (List ℕ)) (program : List (List Slot)) (w : World) (h : ℕ) (none : completing program w h ≡ None) where
  pub no_mark : passes_mark marks program w h ≡ false
  no_mark = ap (λ (o : Option Hart). elim o [ Some hart ↦ is_mark marks h hart.pc | None ↦ false ]) none

  pub nothing_counted : (s : Steps) → with_step marks program w h s ≡ s
  nothing_counted s = grind (arith, nat_tests)

pub not_there : (program : List (List Slot)) (w : World) (h : ℕ) → slice_get w.harts h ≡ None → completing program w h ≡ None
not_there program w h none = ap (completing_by (reply_to program w (Step h))) none

pub not_running : (program : List (List Slot)) (w : World) (h : ℕ) (hart : Hart) (phase : Phase) → slice_get w.harts h ≡ Some hart → hart.phase ≡ phase →
    is_running phase ≡ false → completing program w h ≡ None
not_running program w h hart phase here is none = grind (arith, nat_tests)

-- ---- Pending steps, where one is begun or a point is stored

-- a test that holds of both
both_true : (a b : Bool) → a ≡ true → b ≡ true → (a && b) ≡ true
both_true a b one other = λ i. one i && other i

then_same_hart : (h position : ℕ) (step : PendingStep) → (then_stored h position step).hart ≡ step.hart
then_same_hart h position step = by ((step.hart == h) && is_none step.stored)
  where
    by : (b : Bool) → (if b then record step { stored = Some position } else step).hart ≡ step.hart
    by true = refl
    by false = refl

-- where the hart stores its point, its steps are bound to that which were bound to none
then_own : (h position : ℕ) (step : PendingStep) → (step.hart ≡ h → step.stored ≡ None) →
    (then_stored h position step).hart ≡ h → (then_stored h position step).stored ≡ Some position
then_own h position step was = by ((step.hart == h) && is_none step.stored) refl
  where
    by : (b : Bool) → ((step.hart == h) && is_none step.stored) ≡ b →
        (if b then record step { stored = Some position } else step).hart ≡ h →
        (if b then record step { stored = Some position } else step).stored ≡ Some position
    by true is own = refl
    by false is own =
        absurd (true≢false (sym (both_true (step.hart == h) (is_none step.stored) (eq-eqb step.hart h own) (ap is_none (was own))) ∙ is))

-- and other harts' are as they were
then_other : (h n position : ℕ) (stored : Option ℕ) (step : PendingStep) → n ≢ h → (step.hart ≡ n → step.stored ≡ stored) →
    (then_stored h position step).hart ≡ n → (then_stored h position step).stored ≡ stored
then_other h n position stored step other was = by ((step.hart == h) && is_none step.stored) refl
  where
    by : (b : Bool) → ((step.hart == h) && is_none step.stored) ≡ b →
        (if b then record step { stored = Some position } else step).hart ≡ n → (if b then record step { stored = Some position } else step).stored ≡ stored
    by true is own = absurd (other (sym own ∙ eqb-true step.hart h (and_parts (step.hart == h) (is_none step.stored) is).0))
    by false is own = was own

stored_harts : (h position : ℕ) (steps : List PendingStep) → harts_of (map (then_stored h position) steps) ≡ harts_of steps
stored_harts h position [] = refl
stored_harts h position (step ∷ steps) = ap₂ (λ (u : ℕ) (us : List ℕ). u ∷ us) (then_same_hart h position step) (stored_harts h position steps)

more_harts : (steps more : List PendingStep) → harts_of (steps ++ more) ≡ harts_of steps ++ harts_of more
more_harts [] more = refl
more_harts (step ∷ steps) more = ap (λ (us : List ℕ). step.hart ∷ us) (more_harts steps more)

stored_own : (h position : ℕ) (steps : List PendingStep) → AreStoredAt h None steps → AreStoredAt h (Some position) (map (then_stored h position) steps)
stored_own h position [] are = tt
stored_own h position (step ∷ steps) are = (then_own h position step are.0, stored_own h position steps are.1)

stored_other : (h n position : ℕ) (stored : Option ℕ) (steps : List PendingStep) → n ≢ h → AreStoredAt n stored steps →
    AreStoredAt n stored (map (then_stored h position) steps)
stored_other h n position stored [] other are = tt
stored_other h n position stored (step ∷ steps) other are =
    (then_other h n position stored step other are.0, stored_other h n position stored steps other are.1)

stored_more : (n : ℕ) (stored : Option ℕ) (steps : List PendingStep) (step : PendingStep) → AreStoredAt n stored steps →
    (step.hart ≡ n → step.stored ≡ stored) → AreStoredAt n stored (steps ++ step ∷ [])
stored_more n stored [] step are is = (is, tt)
stored_more n stored (first ∷ steps) step are is = (are.0, stored_more n stored steps step are.1 is)

-- ---- The account after a step that begins a step of the source, or stores the thread's point at that position

abbrev pub counted_by : (begun points : Bool) → (h position : ℕ) → Steps → Steps
counted_by begun points h position s = let started = if begun then with_begun h s else s in if points then with_stored h position started else started

abbrev pub begun_by : Bool → (h : ℕ) → List ℕ → List ℕ
begun_by begun h pending = if begun then pending ++ h ∷ [] else pending

pub kept_same : (begun points : Bool) (h position : ℕ) (s : Steps) → (counted_by begun points h position s).kept ≡ s.kept
kept_same false false h position s = refl
kept_same false true h position s = refl
kept_same true false h position s = refl
kept_same true true h position s = refl

pub pending_is : (begun points : Bool) (h position : ℕ) (s : Steps) →
    harts_of (counted_by begun points h position s).pending ≡ begun_by begun h (harts_of s.pending)
pending_is false false h position s = refl
pending_is false true h position s = stored_harts h position s.pending
pending_is true false h position s = more_harts s.pending (record { hart = h; stored = None } ∷ [])
pending_is true true h position s =
    stored_harts h position (s.pending ++ record { hart = h; stored = None } ∷ []) ∙ more_harts s.pending (record { hart = h; stored = None } ∷ [])

-- the hart's point is stored at a position, or was before, and then no step is begun
pub own_counted : (was is begun : Bool) (before position h : ℕ) (s : Steps) → (was ≡ true → is ≡ true) → (was ≡ true → position ≡ before) →
    (was ≡ true → begun ≡ false) → AreStoredAt h (stored_at was before) s.pending →
    AreStoredAt h (stored_at is position) (counted_by begun (not was && is) h position s).pending
own_counted false false false before position h s stays same none are = are
own_counted false false true before position h s stays same none are = stored_more h None s.pending (record { hart = h; stored = None }) are (λ own. refl)
own_counted false true false before position h s stays same none are = stored_own h position s.pending are
own_counted false true true before position h s stays same none are =
    stored_own h position (s.pending ++ record { hart = h; stored = None } ∷ [])
    (stored_more h None s.pending (record { hart = h; stored = None }) are (λ own. refl))
own_counted true false begun before position h s stays same none are = absurd (true≢false (sym (stays refl)))
own_counted true true false before position h s stays same none are = subst (λ (k : ℕ). AreStoredAt h (Some k) s.pending) (sym (same refl)) are
own_counted true true true before position h s stays same none are = absurd (true≢false (none refl))

pub other_counted : (begun points : Bool) (h position n : ℕ) (s : Steps) → n ≢ h → (stored : Option ℕ) → AreStoredAt n stored s.pending →
    AreStoredAt n stored (counted_by begun points h position s).pending
other_counted false false h position n s other stored are = are
other_counted false true h position n s other stored are = stored_other h n position stored s.pending other are
other_counted true false h position n s other stored are =
    stored_more n stored s.pending (record { hart = h; stored = None }) are (λ own. absurd (other (sym own)))
other_counted true true h position n s other stored are =
    stored_other h n position stored (s.pending ++ record { hart = h; stored = None } ∷ []) other
    (stored_more n stored s.pending (record { hart = h; stored = None }) are (λ own. absurd (other (sym own))))

-- ---- A thread that doesn't step

-- the thread has begun and kept what it had, its point is where it was, and it has stopped where it had
pub record LeavesAccount (y : System) (w v : World) (b next : AbstractRun y) (n : ℕ) (old new : ThreadGhost) : Type 0 where
  pub bound : is_bound new ≡ is_bound old
  pub leaving : is_leaving new ≡ is_leaving old
  pub late : old.late ≡ false → new.late ≡ false
  pub sections : sections_kept y next n ≡ sections_kept y b n
  pub last : is_bound old ≡ true → last_stored v n ≡ last_stored w n
  pub done : IsInPhase w n Done → IsInPhase v n Done

same_stored : (was is : Bool) (before now : ℕ) → is ≡ was → (was ≡ true → now ≡ before) → stored_at was before ≡ stored_at is now
same_stored false is before now same last = ap (λ (b : Bool). stored_at b now) (sym same)
same_stored true is before now same last = ap Some (sym (last refl)) ∙ ap (λ (b : Bool). stored_at b now) (sym same)

module _ (y : System) {w v : World} {b next : AbstractRun y} (n : ℕ) {old new : ThreadGhost} (leaves : LeavesAccount y w v b next n old new) where
  still_released : {was is : ℕ} → is ≡ was → IsReleasedOf y w b n old was → IsReleasedOf y v next n new is
  still_released h0 h1 = grind (arith, nat_tests)

  pub still_accounted : {pending then_pending : List PendingStep} {was is : ℕ} →
      ((stored : Option ℕ) → AreStoredAt n stored pending → AreStoredAt n stored then_pending) → is ≡ was →
      IsAccountedOf y w b n old pending was → IsAccountedOf y v next n new then_pending is
  still_accounted {pending} {then_pending} stays same old_is = record {
    on_time = leaves.late old_is.on_time;
    counted = stays _ (subst (λ (at : Option ℕ). AreStoredAt n at pending)
        (same_stored (is_bound old) (is_bound new) (last_stored w n) (last_stored v n) leaves.bound leaves.last) old_is.counted);
    released = still_released same old_is.released;
  }

-- two abstract runs have the same steps, kept and begun
pub record AgreeOnSteps (y : System) (b next : AbstractRun y) : Type 0 where
  pub source : next.origin.source ≡ b.origin.source
  pub schedule : next.schedule ≡ b.schedule
  pub uncommitted : next.config.uncommitted ≡ b.config.uncommitted

-- where no thread steps, the whole account stays
module _ (y : System) {w v : World} {b next : AbstractRun y} {ghosts others : ℕ → ThreadGhost} (agree : AgreeOnSteps y b next)
    (same : (n : ℕ) → SaysSame (others n) (ghosts n)) (done : (n : ℕ) → IsInPhase w n Done → IsInPhase v n Done)
    (last : (n : ℕ) → last_stored v n ≡ last_stored w n) where
  same_sections : (n : ℕ) → sections_kept y next n ≡ sections_kept y b n
  same_sections n = λ i. ended_from (agree.source i) (agree.schedule i) n

  pub account_stays : {g : Beginning} {steps : Steps} {r later : ℕ → ℕ} → ((n : ℕ) → later n ≡ r n) → AreCounted y g w b ghosts steps r →
      AreCounted y g v next others steps later
  account_stays {g} same_releases counted = record {
    begins = agree.source ∙ counted.begins;
    earlier = counted.earlier;
    kept = counted.kept ∙ ap (λ (us : List ℕ). g.kept ++ us) (sym agree.schedule);
    pending = counted.pending ∙ sym agree.uncommitted;
    each = λ n below. still_accounted y n (record {
      bound = (same n).bound;
      leaving = (same n).leaving;
      late = λ on_time. (same n).late ∙ on_time;
      sections = same_sections n;
      last = λ e. last n;
      done = done n;
    }) (λ stored are. are) (same_releases n) (counted.each n below);
    beyond = λ n outside. same_sections n ∙ (counted.beyond n outside ∙ sym (same_releases n));
  }

-- ---- Schedules without a thread's first steps

abbrev rest_by : Bool → (u : ℕ) → (us rest : List ℕ) → List ℕ
rest_by b u us rest = if b then us else u ∷ rest

-- another thread's step stays in front
other_without : (n t u : ℕ) (us : List ℕ) → (u == t) ≡ false → without n t (u ∷ us) ≡ u ∷ without n t us
other_without zero t u us other = refl
other_without (suc n) t u us other =
    ap (without n t) (ap (λ (b : Bool). rest_by b u us (without_first t us)) other) ∙ other_without n t u (without_first t us) other

-- without all of a thread's steps
abbrev others_in : (t : ℕ) → List ℕ → List ℕ
others_in t us = without (steps_of t us) t us

own_left_out : (t u : ℕ) (us : List ℕ) → (u == t) ≡ true → others_in t (u ∷ us) ≡ others_in t us
own_left_out t u us own =
    ap (λ (b : Bool). without (if b then suc (steps_of t us) else steps_of t us) t (u ∷ us)) own
    ∙ ap (λ (b : Bool). without (steps_of t us) t (rest_by b u us (without_first t us))) own

other_left_in : (t u : ℕ) (us : List ℕ) → (u == t) ≡ false → others_in t (u ∷ us) ≡ u ∷ others_in t us
other_left_in t u us other =
    ap (λ (b : Bool). without (if b then suc (steps_of t us) else steps_of t us) t (u ∷ us)) other ∙ other_without (steps_of t us) t u us other

-- ---- What is durable of a hart's steps: none, or all

abbrev durable_in : Log → List Word → ℕ → ℕ
durable_in log words h = (point_in log words h).durable

abbrev left_in : (h durable : ℕ) → List PendingStep → List PendingStep
left_in h durable steps = filter (λ step. not (is_durable h durable step)) steps

-- of a step of the hart it is asked whether its store is durable, and others aren't durable by this hart's point
durable_is : (h durable : ℕ) (stored : Option ℕ) (reached own : Bool) (step : PendingStep) → is_up_to durable stored ≡ reached → (step.hart == h) ≡ own →
    (step.hart ≡ h → step.stored ≡ stored) → is_durable h durable step ≡ (own && reached)
durable_is h durable stored reached false step up_to is are = ap (λ (b : Bool). b && is_up_to durable step.stored) is
durable_is h durable stored reached true step up_to is are =
    ap (λ (b : Bool). b && is_up_to durable step.stored) is ∙ (ap (is_up_to durable) (are (eqb-true step.hart h is)) ∙ up_to)

never : (own : Bool) → (own && false) ≡ false
never true = refl
never false = refl

module _ (h durable : ℕ) (stored : Option ℕ) where
  module _ (reached : is_up_to durable stored ≡ false) where
    not_durable : (step : PendingStep) → (step.hart ≡ h → step.stored ≡ stored) → is_durable h durable step ≡ false
    not_durable step are = durable_is h durable stored false (step.hart == h) step reached refl are ∙ never (step.hart == h)

    none_kept : (steps : List PendingStep) → AreStoredAt h stored steps → filter (is_durable h durable) steps ≡ []
    none_kept [] are = refl
    none_kept (step ∷ steps) are =
        ap (λ (b : Bool). if b then step ∷ filter (is_durable h durable) steps else filter (is_durable h durable) steps) (not_durable step are.0)
        ∙ none_kept steps are.1

    all_left : (steps : List PendingStep) → AreStoredAt h stored steps → left_in h durable steps ≡ steps
    all_left [] are = refl
    all_left (step ∷ steps) are =
        ap (λ (b : Bool). if not b then step ∷ left_in h durable steps else left_in h durable steps) (not_durable step are.0)
        ∙ ap (λ (rest : List PendingStep). step ∷ rest) (all_left steps are.1)

  module _ (reached : is_up_to durable stored ≡ true) where
    durable_by : (own : Bool) (step : PendingStep) → (step.hart == h) ≡ own → (step.hart ≡ h → step.stored ≡ stored) → is_durable h durable step ≡ own
    durable_by true step is are = durable_is h durable stored true true step reached is are
    durable_by false step is are = durable_is h durable stored true false step reached is are

    all_kept : (steps : List PendingStep) → AreStoredAt h stored steps →
        harts_of (filter (is_durable h durable) steps) ≡ replicate (steps_of h (harts_of steps)) h
    all_kept [] are = refl
    all_kept (step ∷ steps) are = by (step.hart == h) refl (all_kept steps are.1)
      where
        by : (own : Bool) → (step.hart == h) ≡ own → harts_of (filter (is_durable h durable) steps) ≡ replicate (steps_of h (harts_of steps)) h →
            harts_of (if is_durable h durable step then step ∷ filter (is_durable h durable) steps else filter (is_durable h durable) steps)
            ≡ replicate (if step.hart == h then suc (steps_of h (harts_of steps)) else steps_of h (harts_of steps)) h
        by true is e =
            ap (λ (b : Bool). harts_of (if b then step ∷ filter (is_durable h durable) steps else filter (is_durable h durable) steps))
            (durable_by true step is are.0)
            ∙ ap₂ (λ (u : ℕ) (us : List ℕ). u ∷ us) (eqb-true step.hart h is) e
            ∙ ap (λ (b : Bool). replicate (if b then suc (steps_of h (harts_of steps)) else steps_of h (harts_of steps)) h) (sym is)
        by false is e =
            ap (λ (b : Bool). harts_of (if b then step ∷ filter (is_durable h durable) steps else filter (is_durable h durable) steps))
            (durable_by false step is are.0)
            ∙ e
            ∙ ap (λ (b : Bool). replicate (if b then suc (steps_of h (harts_of steps)) else steps_of h (harts_of steps)) h) (sym is)

    others_left : (steps : List PendingStep) → AreStoredAt h stored steps → harts_of (left_in h durable steps) ≡ others_in h (harts_of steps)
    others_left [] are = refl
    others_left (step ∷ steps) are = by (step.hart == h) refl (others_left steps are.1)
      where
        by : (own : Bool) → (step.hart == h) ≡ own → harts_of (left_in h durable steps) ≡ others_in h (harts_of steps) →
            harts_of (if not (is_durable h durable step) then step ∷ left_in h durable steps else left_in h durable steps)
            ≡ others_in h (step.hart ∷ harts_of steps)
        by true is e =
            ap (λ (b : Bool). harts_of (if not b then step ∷ left_in h durable steps else left_in h durable steps)) (durable_by true step is are.0)
            ∙ e ∙ sym (own_left_out h step.hart (harts_of steps) is)
        by false is e =
            ap (λ (b : Bool). harts_of (if not b then step ∷ left_in h durable steps else left_in h durable steps)) (durable_by false step is are.0)
            ∙ ap (λ (us : List ℕ). step.hart ∷ us) e ∙ sym (other_left_in h step.hart (harts_of steps) is)

    -- the hart has none left, so its steps that are left are bound to whatever store
    none_left : (other : Option ℕ) (steps : List PendingStep) → AreStoredAt h stored steps → AreStoredAt h other (left_in h durable steps)
    none_left other [] are = tt
    none_left other (step ∷ steps) are = by (step.hart == h) refl (none_left other steps are.1)
      where
        by : (own : Bool) → (step.hart == h) ≡ own → AreStoredAt h other (left_in h durable steps) →
            AreStoredAt h other (if not (is_durable h durable step) then step ∷ left_in h durable steps else left_in h durable steps)
        by true is rest =
            subst (λ (b : Bool). AreStoredAt h other (if not b then step ∷ left_in h durable steps else left_in h durable steps))
            (sym (durable_by true step is are.0)) rest
        by false is rest =
            subst (λ (b : Bool). AreStoredAt h other (if not b then step ∷ left_in h durable steps else left_in h durable steps))
            (sym (durable_by false step is are.0)) (λ own. absurd (true≢false (sym (eq-eqb step.hart h own) ∙ is)), rest)

-- of other harts all that is left is as it was
left_stored : (n : ℕ) (stored : Option ℕ) (test : PendingStep → Bool) (steps : List PendingStep) → AreStoredAt n stored steps →
    AreStoredAt n stored (filter test steps)
left_stored n stored test [] are = tt
left_stored n stored test (step ∷ steps) are = by (test step) (left_stored n stored test steps are.1)
  where
    by : (b : Bool) → AreStoredAt n stored (filter test steps) → AreStoredAt n stored (if b then step ∷ filter test steps else filter test steps)
    by true rest = (are.0, rest)
    by false rest = rest

-- ---- By the thread's ghost state

module _ (w : World) (h : ℕ) (c : ThreadGhost) (s : Steps) (counted : IsCountedOf w h c s.pending) where
  abbrev last : ℕ
  last = last_stored w h

  abbrev durable : ℕ
  durable = durable_in w.log w.words h

  counted_as : {bound : Bool} → is_bound c ≡ bound → AreStoredAt h (stored_at bound last) s.pending
  counted_as is = subst (λ (b : Bool). AreStoredAt h (stored_at b last) s.pending) is counted

  none_by : (stored : Option ℕ) → is_up_to durable stored ≡ false → AreStoredAt h stored s.pending → with_kept w.log w.words h s ≡ s
  none_by stored reached are =
      let kept : s.kept ++ harts_of (filter (is_durable h durable) s.pending) ≡ s.kept =
      ap (λ (steps : List PendingStep). s.kept ++ harts_of steps) (none_kept h durable stored reached s.pending are) ∙ append-nil s.kept in
      let pending : left_in h durable s.pending ≡ s.pending = all_left h durable stored reached s.pending are in
      λ i. record { begun = s.begun; earlier = s.earlier; kept = kept i; pending = pending i }

  -- the thread's steps are bound to no point, or to one that isn't durable
  pub not_kept : (is_bound c ≡ false) ⊎ ((is_bound c ≡ true) × (nat_le last durable ≡ false)) → with_kept w.log w.words h s ≡ s
  not_kept (inl free) = none_by None refl (counted_as free)
  not_kept (inr is) = none_by (Some last) is.1 (counted_as is.0)

  -- the thread's steps are bound to a point that is durable
  module _ (bound : is_bound c ≡ true) (reached : nat_le last durable ≡ true) where
    pub kept_is : (with_kept w.log w.words h s).kept ≡ s.kept ++ replicate (steps_of h (harts_of s.pending)) h
    kept_is = ap (λ (us : List ℕ). s.kept ++ us) (all_kept h durable (Some last) reached s.pending (counted_as bound))

    pub kept_pending_is : harts_of (with_kept w.log w.words h s).pending ≡ others_in h (harts_of s.pending)
    kept_pending_is = others_left h durable (Some last) reached s.pending (counted_as bound)

    pub kept_own_is : (other : Option ℕ) → AreStoredAt h other (with_kept w.log w.words h s).pending
    kept_own_is other = none_left h durable (Some last) reached other s.pending (counted_as bound)

  pub kept_other_is : (n : ℕ) (stored : Option ℕ) → AreStoredAt n stored s.pending → AreStoredAt n stored (with_kept w.log w.words h s).pending
  kept_other_is n stored are = left_stored n stored (λ step. not (is_durable h durable step)) s.pending are
