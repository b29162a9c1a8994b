-- What a hart has loaded first, and why no store of its thread comes to that: both stay so by a step of its own, and what it loads now is such a load, too.
use Rattle.crash_simulation.proofs.Common.{◌≡◌, ◌≢◌, ◌⊎◌, inl, inr, refl, ℕ, suc, ◌+◌, ◌<◌, ◌≤◌, Option, Some, None, Bool, true, false, not, ◌&&◌, sym, ◌∙◌, ap}
use Rattle.crash_simulation.proofs.Common.{true≢false, arith, subst, list_any, none-some, option_map, is_store, Hart, Effect, Loads, Step, stores_point}
use Rattle.crash_simulation.proofs.Common.{Writes, attempt_of, attempt_at, IsNext, MarkedEnvironment, Code, System, ThreadGhost, AbstractRun}
use Rattle.crash_simulation.proofs.Common.{is_bound}
use Rattle.code_runs.specs.CodeTraces.{passed}
use Rattle.code_runs.specs.ComputingRuns.{LocalConfig}
use Rattle.machine_model.specs.Schedule.{completes}
use Rattle.crash_simulation.specs.Accesses.{first_access_after, load, loads_from, stores_to}
use Rattle.crash_simulation.specs.ThreadGhosts.{AnswersLoaded, HasRead, IsByteOf, IsJustRead, IsLoaded, IsLoadedFirst, IsReadAhead, IsReadFirst}
use Rattle.crash_simulation.specs.ThreadGhosts.{StandsAtNoStore, in_own_frame, just_read, loaded_ahead, own_word, read_ahead, read_first}
use Rattle.crash_simulation.proofs.Common.{steps_begun}
use Rattle.crash_simulation.proofs.CompletedEffects.{IsLoadOf, accessed_then, completed_is, loaded_first, loads_it}
use Rattle.crash_simulation.proofs.LastReleases.{and_none}
use Rattle.crash_simulation.proofs.PendingFlushes.{Passage, run_after}

-- a boundary that is taken as committed binds nothing
pub none_bound : (c : ThreadGhost) → c.committed ≡ true → is_bound c ≡ false
none_bound c is = ap (λ (b : Bool). not b && not (list_any is_store c.rest)) is

-- where nothing has been loaded, and the attempt has made no step
pub none_read : (y : System) (b : AbstractRun y) (n : ℕ) (c : ThreadGhost) → (attempt_of b.config n).done ≡ 0 →
    ((byte : ℕ) → c.first_accesses byte ≢ Some load) → HasRead y b n c
none_read y b n c none unread = record {
  read = λ byte is. absurd (unread byte is);
  written = λ unbound variable number byte writes of. absurd (omega (arith, writes.within, none));
}

-- ---- Loads that are answered

abbrev pub AreAnswered : MarkedEnvironment → Effect → Type 0
AreAnswered z (Loads address bytes signed register) = (value : ℕ) × (z.around.loads address bytes ≡ Some value)
AreAnswered z effect = Unit {0}

some_value : {A B : Type 0} (f : A → B) (o : Option A) (by : B) → option_map f o ≡ Some by → (value : A) × (o ≡ Some value)
some_value f None by e = absurd (none-some by e)
some_value f (Some value) by e = (value, refl)

-- where an instruction is passed, its loads are
pub passed_answers : (z : MarkedEnvironment) (m by : LocalConfig) (effect : Effect) → passed z.around m effect ≡ Some by → AreAnswered z effect
passed_answers z m by (Loads address bytes signed register) e = some_value _ (z.around.loads address bytes) by e
passed_answers z m by effect e = tt

-- ---- A step of its own

module _ {y : System} {code : Code y.plan} (p : Passage y code) where
  open p use {w, b, c, new, attempts}
  open code.thread use {number as n}

  abbrev before : ℕ
  before = (attempt_of b.config n).done

  abbrev now : ℕ
  now = (attempt_at attempts n).done

  abbrev next : AbstractRun y
  next = run_after p

  -- bound steps stay so
  abbrev pub StaysBound : Type 0
  StaysBound = is_bound c ≡ true → is_bound new ≡ true

  back_by : (old later : Bool) → is_bound c ≡ old → is_bound new ≡ later → StaysBound → later ≡ false → is_bound c ≡ false
  back_by false later was is stays unbound = was
  back_by true later was is stays unbound = absurd (true≢false (sym (stays was) ∙ (is ∙ unbound)))

  back : StaysBound → is_bound new ≡ false → is_bound c ≡ false
  back stays unbound = back_by (is_bound c) (is_bound new) refl refl stays unbound

  still : is_bound new ≡ false → before ≤ now → (byte : ℕ) → IsReadFirst y b n c byte → IsReadFirst y next n new byte
  still unbound grows byte r = record {
    variable = r.variable;
    number = r.number;
    of = r.of;
    step = r.step;
    below = omega (arith, r.below, grows);
    read = r.read;
    unwritten = r.unwritten;
    unbound = unbound;
  }

  -- where it stood at a node that makes no store it does still, or it has begun a step that isn't bound
  abbrev pub StandsOn : Type 0
  StandsOn = StandsAtNoStore y b n → StandsAtNoStore y next n ⊎ ((is_bound c ≡ false) × (0 < steps_begun next.config n))

  ahead_still : StandsOn → steps_begun b.config n ≤ steps_begun next.config n → (is_bound c ≡ false → is_bound new ≡ false) → (byte : ℕ) →
      IsReadAhead y b n c byte → IsReadAhead y next n new byte
  ahead_still stands begun unbound byte r = record { framed = r.framed; variable = r.variable; number = r.number; of = r.of; since = since r.since }
    where
      since : StandsAtNoStore y b n ⊎ ((is_bound c ≡ false) × (0 < steps_begun b.config n)) →
          StandsAtNoStore y next n ⊎ ((is_bound new ≡ false) × (0 < steps_begun next.config n))
      since (inl there) = elim (stands there) [
        | inl on ↦ inl on
        | inr gone ↦ inr (unbound gone.0, gone.1)
      ]
      since (inr gone) = inr (unbound gone.0, omega (arith, gone.1, begun))

  -- where no point is stored, what has been loaded first stays so
  loaded_still : StandsOn → steps_begun b.config n ≤ steps_begun next.config n → (is_bound c ≡ false → is_bound new ≡ false) → before ≤ now → (byte : ℕ) →
      IsLoadedFirst y b n c byte → IsLoadedFirst y next n new byte
  loaded_still stands begun unbound grows byte (read_first r) = read_first (still (unbound r.unbound) grows byte r)
  loaded_still stands begun unbound grows byte (in_own_frame own) = in_own_frame own
  loaded_still stands begun unbound grows byte (loaded_ahead r) = loaded_ahead (ahead_still stands begun unbound byte r)

  -- where it loads nothing, its attempt is as long as it was, and its boundary begins at most
  pub reads_same : ((byte : ℕ) → new.first_accesses byte ≡ c.first_accesses byte) → is_bound c ≡ false → is_bound new ≡ false → now ≡ before →
      StandsOn → steps_begun b.config n ≤ steps_begun next.config n → HasRead y b n c → HasRead y next n new
  reads_same same was unbound long stands begun reads = record {
    read = λ byte is. loaded_still stands begun (λ free. unbound) (omega (arith, long)) byte (reads.read byte (sym (same byte) ∙ is));
    written = λ free variable number byte writes of none.
        reads.written was variable number byte (subst (λ (k : ℕ). Writes b.config.kept n k variable number) long writes) of (sym (same byte) ∙ none);
  }

  -- it completes an instruction, if one, whose loads are answered
  pub record Executes : Type 0 where
    pub hart : Hart
    pub effect : Effect
    pub is_next : IsNext y.runs.program w n hart effect
    pub environment : MarkedEnvironment
    pub answered : AreAnswered environment effect
    pub loaded : AnswersLoaded y next n new environment

  -- what it has written by the step alone is stored to by that
  abbrev pub AccessesWritten : Type 0
  AccessesWritten = (variable number byte : ℕ) → Writes b.config.kept n now variable number → IsByteOf y variable number byte →
      Writes b.config.kept n before variable number ⊎ (completes (stores_to byte) y.runs.program w (Step n) n ≡ true)

  module _ (x : Executes) (reads : HasRead y b n c) (stays : StaysBound) (grows : before ≤ now) (at_most : now ≤ suc before) (stands : StandsOn)
      (begun : steps_begun b.config n ≤ steps_begun next.config n) where
    open x use {effect, environment}

    first_here : (byte address bytes : ℕ) → address ≤ byte → byte < address + bytes → c.first_accesses byte ≡ None →
        IsJustRead y next n new address bytes → IsReadFirst y next n new byte
    first_here byte address bytes from to none j =
        let unbound = none_bound new j.goes.committed in
        let of : IsByteOf y j.variable j.number byte = record { address = address; bytes = bytes; at = j.at; from = from; to = to } in
        record {
          variable = j.variable;
          number = j.number;
          of = of;
          step = j.step;
          below = omega (arith, j.last);
          read = j.read;
          unwritten = λ writes.
              reads.written (back stays unbound) j.variable j.number byte
              (record { before = writes.before; within = omega (arith, writes.within, j.last, at_most); at = writes.at }) of none;
          unbound = unbound;
        }

    loaded_here : (byte address bytes : ℕ) → address ≤ byte → byte < address + bytes → c.first_accesses byte ≡ None →
        IsLoaded y next n new address bytes → IsLoadedFirst y next n new byte
    loaded_here byte address bytes from to none (just_read j) = read_first (first_here byte address bytes from to none j)
    loaded_here byte address bytes from to none (own_word own eight) =
        in_own_frame (record { address = address; own = own; from = from; to = omega (arith, to, eight) })
    loaded_here byte address bytes from to none (read_ahead variable number at framed there) = loaded_ahead (record {
      framed = framed;
      variable = variable;
      number = number;
      of = record { address = address; bytes = bytes; at = at; from = from; to = to };
      since = inl there;
    })

    loaded_now : (byte : ℕ) → c.first_accesses byte ≡ None → (l : IsLoadOf byte effect) → IsLoadedFirst y next n new byte
    loaded_now byte none l =
        let given : (value : ℕ) × (environment.around.loads l.address l.bytes ≡ Some value) = subst (AreAnswered environment) l.is x.answered in
        loaded_here byte l.address l.bytes l.from l.to none (x.loaded l.address l.bytes given.0 given.1)

    abbrev points_now : Bool
    points_now = stores_point y.runs.program w (Step n) n

    abbrev Accessed : Type 0
    Accessed = (byte : ℕ) → new.first_accesses byte ≡ first_access_after y.runs.program w (Step n) n byte (c.first_accesses byte)

    unbound_by : (point old later : Bool) → points_now ≡ point → is_bound c ≡ old → is_bound new ≡ later → points_now ≡ (not (is_bound c) && is_bound new) →
        point ≡ false → old ≡ false → later ≡ false
    unbound_by point old false is was then points none free = refl
    unbound_by point old true is was then points none free =
        absurd (true≢false (sym (points ∙ (λ i. not ((was ∙ free) i) && then i)) ∙ (is ∙ none)))

    bound_by : (point later : Bool) → points_now ≡ point → is_bound new ≡ later → points_now ≡ (not (is_bound c) && is_bound new) → later ≡ false →
        point ≡ false
    bound_by false later is then points free = refl
    bound_by true later is then points free =
        absurd (true≢false (sym is ∙ (points ∙ ap (λ (b : Bool). not (is_bound c) && b) (then ∙ free) ∙ and_none (not (is_bound c)))))

    pub reads_after : Accessed → points_now ≡ (not (is_bound c) && is_bound new) → AccessesWritten → HasRead y next n new
    reads_after accessed points stored = record { read = read; written = written }
      where
        read : (byte : ℕ) → new.first_accesses byte ≡ Some load → IsLoadedFirst y next n new byte
        read byte is =
            let first =
            loaded_first points_now (completes (loads_from byte) y.runs.program w (Step n) n) (completes (stores_to byte) y.runs.program w (Step n) n)
            (c.first_accesses byte) (sym (accessed byte) ∙ is) in
            elim first.1 [
              | inl was ↦
                  loaded_still stands begun (unbound_by points_now (is_bound c) (is_bound new) refl refl refl points first.0) grows byte (reads.read byte was)
              | inr now_loaded ↦
                  loaded_now byte now_loaded.0
                  (loads_it byte effect (completed_is (loads_from byte) y.runs.program w n x.hart effect x.is_next now_loaded.1))
            ]

        written : is_bound new ≡ false → (variable number byte : ℕ) → Writes b.config.kept n now variable number → IsByteOf y variable number byte →
            new.first_accesses byte ≢ None
        written unbound variable number byte writes of none =
            accessed_then points_now (completes (loads_from byte) y.runs.program w (Step n) n) (completes (stores_to byte) y.runs.program w (Step n) n)
            (c.first_accesses byte) (bound_by points_now (is_bound new) refl refl points unbound)
            (elim (stored variable number byte writes of) [
              | inl old ↦ inl (reads.written (back stays unbound) variable number byte old of)
              | inr made ↦ inr made
            ]) (sym (accessed byte) ∙ none)
