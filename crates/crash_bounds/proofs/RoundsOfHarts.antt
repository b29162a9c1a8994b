-- By a round each hart is one step nearer; so by as many rounds as its record has locks at most, and 3, each has entered recovery.
use Rattle.std.proofs.Common.{◌≡◌, inl, inr, refl, ℕ, zero, suc, ◌+◌, ◌≤◌, List, [], ◌∷◌, ◌++◌, length, map, ap, sym, ◌∙◌, subst, arith}
use Rattle.std.proofs.Common.{cond, Bool, true, false, Some, None}
use Rattle.std.specs.Prelude.{slice_get, ◌==◌, if◌then◌else◌}
use Rattle.std.proofs.lemmas.Bool.{cases_Bool, eqb-true}
use Rattle.std.proofs.lemmas.Option.{slice_get_within}
use Rattle.log_schemes.specs.declared.log.Log.{Log}
use Rattle.machine_events.specs.declared.event.Event.{Event}
use Rattle.machine_events.specs.declared.event.Event.TheVariants.{Step, Evict, Crash, Start}
use Rattle.ido_base.specs.Words.{durable_value, word_of}
use Rattle.rv64_isa.specs.declared.object.Slot.{Slot}
use Rattle.machine_model.specs.declared.phase.Phase.{Phase}
use Rattle.machine_model.specs.declared.phase.Phase.TheVariants.{Take, Done}
use Rattle.machine_model.specs.Machine.{Hart, World, after_event, after_events, happens, after_crash_of, phase_after_crash, durable_point, fresh_hart}
use Rattle.log_schemes.specs.Schemes.{numbers_from}
use Rattle.machine_model.specs.Machine.{record_of}
use Rattle.eviction_laws.specs.Evictions.{NoneEnters}
use Rattle.hart_runs.specs.Laws.{own_steps, is_step_of}
use Rattle.crash_bounds.specs.Rounds.{HoldRounds, no_more, one_more, KeepsAtMost}
use Rattle.compiler_correctness.specs.Translations.{HaveNoCrash}
use Rattle.crash_bounds.proofs.CountedLocks.{missing_most}
use Rattle.crash_bounds.proofs.EnteringHarts.{IsEntering, taking, IsWithin, Lowers, Goes, TakesMove, event_lowers, step_goes, stays_lowered, lowers_on}
use Rattle.crash_bounds.proofs.EnteringHarts.{left_most, left_none, missing_of, is_gathering}

-- ---- Lists of events

no_crash_first : (event : Event) (events : List Event) → HaveNoCrash (event ∷ events) → HaveNoCrash (event ∷ []) × HaveNoCrash events
no_crash_first (Step h) events none = (tt, none)
no_crash_first (Evict line mask) events none = (tt, none)
no_crash_first Crash events none = absurd none
no_crash_first Start events none = (tt, none)

no_crash_both : (event : Event) (events : List Event) → HaveNoCrash (event ∷ []) → HaveNoCrash events → HaveNoCrash (event ∷ events)
no_crash_both (Step h) events first rest = rest
no_crash_both (Evict line mask) events first rest = rest
no_crash_both Crash events first rest = absurd first
no_crash_both Start events first rest = rest

no_crash_parts : (first rest : List Event) → HaveNoCrash (first ++ rest) → HaveNoCrash first × HaveNoCrash rest
no_crash_parts [] rest none = (tt, none)
no_crash_parts (event ∷ first) rest none =
    let here = no_crash_first event (first ++ rest) none in
    let later = no_crash_parts first rest here.1 in
    (no_crash_both event first here.0 later.0, later.1)

pub after_both : (program : List (List Slot)) (first rest : List Event) (w : World) →
    after_events program w (first ++ rest) ≡ after_events program (after_events program w first) rest
after_both program [] rest w = refl
after_both program (event ∷ first) rest w = after_both program first rest (after_event program w event)

-- whatever of the events has happened, a hart that takes locks goes on by each of its steps
abbrev pub TakesMoveAlong : List (List Slot) → World → List Event → Type 0
TakesMoveAlong program w [] = TakesMove program w
TakesMoveAlong program w (event ∷ events) = TakesMove program w × TakesMoveAlong program (after_event program w event) events

moves_first : (program : List (List Slot)) (w : World) (events : List Event) → TakesMoveAlong program w events → TakesMove program w
moves_first program w [] moves = moves
moves_first program w (event ∷ events) moves = moves.0

moves_parts : (program : List (List Slot)) (first rest : List Event) (w : World) → TakesMoveAlong program w (first ++ rest) →
    TakesMoveAlong program w first × TakesMoveAlong program (after_events program w first) rest
moves_parts program [] rest w moves = (moves_first program w rest moves, moves)
moves_parts program (event ∷ first) rest w moves =
    let later = moves_parts program first rest (after_event program w event) moves.1 in
    ((moves.0, later.0), later.1)

-- ---- Along events

module _ (program : List (List Slot)) where
  along : (events : List Event) (w : World) → HaveNoCrash events → TakesMoveAlong program w events → IsEntering w → Lowers w (after_events program w events)
  along [] w none moves entering = stays_lowered w entering
  along (event ∷ events) w none moves entering =
      let parts = no_crash_first event events none in
      let first = event_lowers program w event parts.0 moves.0 entering in
      lowers_on w (after_event program w event) (after_events program (after_event program w event) events) first
      (along events (after_event program w event) parts.1 moves.1 first.entering)

  own_is : (h : ℕ) (event : Event) → is_step_of h event ≡ true → event ≡ Step h
  own_is h (Step g) is = ap (λ (n : ℕ). Step n) (eqb-true g h is)
  own_is h (Evict line mask) is = absurd (let never : false ≡ true = is in cc)
  own_is h Crash is = absurd (let never : false ≡ true = is in cc)
  own_is h Start is = absurd (let never : false ≡ true = is in cc)

  -- a hart that makes a step among them is nearer after them
  nearer : (h most : ℕ) (events : List Event) (w : World) → HaveNoCrash events → TakesMoveAlong program w events → IsEntering w →
      ((g : ℕ) → IsWithin w g (suc most)) → 1 ≤ own_steps h events → IsWithin (after_events program w events) h most
  nearer h most [] w none moves entering within some = absurd (omega (arith, some))
  nearer h most (event ∷ events) w none moves entering within some =
      let parts = no_crash_first event events none in
      let v = after_event program w event in
      let first = event_lowers program w event parts.0 moves.0 entering in
      elim (cases_Bool (is_step_of h event)) [
        | inl is ↦
            let goes : Goes w (happens program w event) h =
            subst (λ (e : Event). Goes w (happens program w e) h) (sym (own_is h event is)) (step_goes program w entering moves.0 h) in
            (along events v parts.1 moves.1 first.entering).lowers h most (goes.own most within)
        | inr other ↦
            let less : 1 ≤ (if is_step_of h event then 1 else 0) + own_steps h events = some in
            let nothing : ◌≡◌ {A = ℕ} (if is_step_of h event then 1 else 0) 0 = ap (λ (b : Bool). if b then 1 else 0) other in
            nearer h most events v parts.1 moves.1 first.entering (λ g. first.lowers g (suc most) (within g)) (omega (arith, less, nothing))
      ]

  rounds : (harts count : ℕ) (events : List Event) (w : World) → HoldRounds harts count events → HaveNoCrash events → TakesMoveAlong program w events →
      IsEntering w → length w.harts ≡ harts → ((g : ℕ) → IsWithin w g count) → (g : ℕ) → IsWithin (after_events program w events) g 0
  rounds harts count events w (no_more _) none moves entering size within g = (along events w none moves entering).lowers g 0 (within g)
  rounds harts count events w (one_more less round rest is more) none moves entering size within g =
      let parts = no_crash_parts round rest none in
      let by = moves_parts program round rest w moves in
      let v = after_events program w round in
      let after = along round w parts.0 by.0 entering in
      let there : length v.harts ≡ harts = after.count ∙ size in
      subst (λ (x : World). IsWithin x g 0) (sym (after_both program round rest w))
      (rounds harts less rest v more parts.1 by.1 after.entering there (λ h hart found.
      let exists = slice_get_within v.harts h hart found in
      nearer h less round w parts.0 by.0 entering within (is h (omega (arith, exists, there))) hart found) g)

-- ---- After a crash

pub crash_leaves : (program : List (List Slot)) (w : World) →
    after_event program w Crash ≡ after_crash_of w.log program (length w.holders) (map durable_value w.words)
unfolding happens
crash_leaves program w = refl

module _ (log : Log) (program : List (List Slot)) (mutexes : ℕ) (words : List ℕ) where
  abbrev crashed : World
  crashed = after_crash_of log program mutexes words

  abbrev phase_of : (thread : ℕ) → Phase
  phase_of thread = phase_after_crash (durable_point log (map word_of words) thread)

  gathering_first : (none : Bool) → is_gathering (cond none Done Take) ≡ true
  gathering_first true = refl
  gathering_first false = refl

  fresh_gather : (at count h : ℕ) (hart : Hart) →
      slice_get (map (λ thread. fresh_hart program (phase_of thread) thread) (numbers_from at count)) h ≡ Some hart →
      is_gathering hart.phase ≡ true
  fresh_gather at zero h hart e = absurd (let no : None ≡ Some hart = e in cc)
  fresh_gather at (suc count) zero hart e =
      let is : fresh_hart program (phase_of at) at ≡ hart = cc in
      ap (λ (x : Hart). is_gathering x.phase) (sym is) ∙ gathering_first (durable_point log (map word_of words) at == 0)
  fresh_gather at (suc count) (suc h) hart e = fresh_gather (at + 1) count h hart e

  fresh_count : (at count : ℕ) → length (map (λ thread. fresh_hart program (phase_of thread) thread) (numbers_from at count)) ≡ count
  fresh_count at zero = refl
  fresh_count at (suc count) = let more = fresh_count (at + 1) count in omega (arith, more)

  pub first_entering : IsEntering crashed
  unfolding after_crash_of
  first_entering = taking (record { values = words; is = refl }) (λ h hart there. fresh_gather 0 (length program) h hart there)

  first_count : length crashed.harts ≡ length program
  unfolding after_crash_of
  first_count = fresh_count 0 (length program)

  log_is : crashed.log ≡ log
  unfolding after_crash_of
  log_is = refl

  pub entered : (most : ℕ) → KeepsAtMost log most → (events : List Event) → HaveNoCrash events → TakesMoveAlong program crashed events →
      HoldRounds (length program) (most + 3) events → NoneEnters (after_events program crashed events)
  entered most few events none moves hold h hart there =
      let v = after_events program crashed events in
      let first : (g : ℕ) → IsWithin crashed g (most + 3) = λ g x found.
      (let bound = left_most (missing_of crashed g) x.phase in
      let missing = missing_most crashed.holders (record_of crashed.log crashed.words g) g in
      let kept : length (record_of crashed.log crashed.words g) ≤ most =
      subst (λ (l : Log). length (record_of l crashed.words g) ≤ most) (sym log_is) (few crashed.words g) in
      omega (arith, bound, missing, kept)) in
      left_none (missing_of v h) hart.phase
      (rounds program (length program) (most + 3) events crashed hold none moves first_entering first_count first h hart there)
