-- Events of the machine as moves of a log.
use Rattle.std.proofs.Common.{◌≡◌, ◌≢◌, inl, inr, ℕ, ◌/◌, List, [], ◌∷◌, ◌++◌, length, map, refl, ap, sym, ◌∙◌, subst, set, true, Option, Some, None}
use Rattle.std.specs.Prelude.{slice_get, nat_lt, ◌==◌, if◌then◌else◌}
use Rattle.std.proofs.lemmas.Bool.{cases_eq, cond_both, eqb-true, true≢false}
use Rattle.std.proofs.lemmas.List.{append-nil}
use Rattle.log_schemes.specs.declared.log.Log.{Log}
use Rattle.machine_events.specs.declared.event.Event.TheVariants.{Step}
use Rattle.machine_events.specs.declared.event.Reply.TheVariants.{Moved, Waits}
use Rattle.ido_base.specs.Words.{Word, Entry, word_of, word_at, entry_of, stored, drained, after_crash, durable_value}
use Rattle.ido_base.specs.Growth.{AreChanged, AreEntries, IsPersisted}
use Rattle.ido_base.specs.Layout.{aligned, byte_number}
use Rattle.log_schemes.specs.Layout.{in_range}
use Rattle.ido_base.specs.Locks.{is_held_by, least_held, least_missing}
use Rattle.ido_base.proofs.Public.{changed_refl, changed_by_persisted, evictions_raise, write_backs_raise, persisted_refl}
use Rattle.rv64_isa.specs.declared.object.Slot.{Slot}
use Rattle.rv64_isa.specs.declared.object.Slot.TheVariants.{Row, NoRow}
use Rattle.machine_model.specs.declared.phase.Phase.{Phase}
use Rattle.machine_model.specs.declared.phase.Phase.TheVariants.{Take, Wait, Resume, Run, Done, Ended}
use Rattle.rv64_isa.specs.Rows.{Effect, Continues, Loads, Stores, Cleans, Fences, Calls, row, read, next}
use Rattle.rv64_isa.specs.Programs.{fetched}
use Rattle.machine_model.specs.Machine.{Hart, World, Outcome, moved, with_hart, with_holder, drain_one}
use Rattle.machine_model.specs.Machine.{access, fenced, acquired, released, ended, called, applied}
use Rattle.machine_model.specs.Machine.{executed, hart_step, taken, waited, taking_from, record_of, over_after, done_if_over, run_step, phase_step, stepped}
use Rattle.machine_model.specs.Machine.{happens, after_event, after_crash_of}
use Rattle.machine_model.specs.Frames.{IsWellFormedWorld}
use Rattle.machine_model.specs.Schedule.{has_moved, is_running, effect_at}
use Rattle.machine_model.proofs.Public.{get-set_same, get-set_other, steps_touch, step_goes}
use Rattle.log_states.specs.Logs.{log_word, IsUnstored}
use Rattle.log_states.specs.Stages.{Moves, Stored, Cleaned, Fenced, Drained, Elsewhere}
use Rattle.log_states.specs.Machines.{config_of, MovesTo, is_boundary_effect, IsElsewhere, OwnStepsMove, StepsMove, EvictionsMove, CrashesCrash}
use Rattle.log_states.specs.Laws.{StoresBeside}
use Rattle.log_states.proofs.EventsKeepLog.{stores_elsewhere}

pub none_some : {A : Type 0} (x : A) → ◌≡◌ {A = Option A} None (Some x) → ⊥
none_some {A} x e = subst (λ (o : Option A). is_none o) e tt
  where
    is_none : {B : Type 0} → Option B → Type 0
    is_none None = Unit {0}
    is_none (Some y) = ⊥

pub some_same : {A : Type 0} (x y : A) → ◌≡◌ {A = Option A} (Some x) (Some y) → x ≡ y
some_same {A} x y e = ap (λ (o : Option A). or_else o) e
  where
    or_else : Option A → A
    or_else None = x
    or_else (Some z) = z

-- nothing has changed for the log
pub no_move : (h : ℕ) (named : List ℕ) (w : World) (hart : Hart) (rest : List Effect) (after : World) (further : Hart) →
    slice_get after.harts h ≡ Some further →
    after.words ≡ w.words → after.log ≡ w.log → further.queue ≡ hart.queue →
    MovesTo h named w hart rest after rest
no_move h named w hart rest after further there words log queue = record {
  next = further;
  there = there;
  log = log;
  moves = Elsewhere [] refl (subst (λ (ws : List Word). AreChanged w.words ws) (sym words) (changed_refl w.words))
      (λ i below. inl (subst (λ (ws : List Word). IsPersisted (word_at w.words (log_word w.log h i)) (word_at ws (log_word w.log h i))) (sym words)
      (persisted_refl (word_at w.words (log_word w.log h i)))))
      (queue ∙ sym (append-nil hart.queue)) tt;
}

-- ---- The boundary's next effect

module _ (h : ℕ) (named : List ℕ) (w : World) (hart : Hart) (here : slice_get w.harts h ≡ Some hart) (effect : Effect) (later : List Effect) where
  Own : Outcome → Type 0
  Own o = MovesTo h named w hart (effect ∷ later) o.0 (if has_moved o.1 then later else effect ∷ later)

  set_there : (ws : List Word) (further : Hart) → slice_get (with_hart (record w { words = ws }) h further).harts h ≡ Some further
  set_there ws further = get-set_same w.harts h further hart here

  own_drain : (queue : List Entry) → hart.queue ≡ queue → Own (drain_one w h hart queue)
  unfolding Own
  own_drain [] e = no_move h named w hart (effect ∷ later) w hart here refl refl refl
  own_drain (e ∷ es) same = record {
    next = record hart { queue = es };
    there = set_there (drained w.words e) (record hart { queue = es });
    log = refl;
    moves = Drained e refl refl same;
  }

  own_access : (address bytes : ℕ) (o : Outcome) → Own o → Own (access w address bytes o)
  unfolding Own
  own_access address bytes o own =
      cond_both (in_range w.log (length w.harts) address bytes) _ _ Own (λ _. cond_both (aligned address bytes) _ _ Own (λ _. own)
      (λ _. no_move h named w hart (effect ∷ later) w hart here refl refl refl))
      (λ _. no_move h named w hart (effect ∷ later) w hart here refl refl refl)

  own_applied : is_boundary_effect effect ≡ true → (e : Effect) → e ≡ effect → Own (applied w h hart e)
  unfolding Own
  own_applied own (Continues registers pc) same = absurd (true≢false (sym own ∙ ap is_boundary_effect (sym same)))
  own_applied own (Loads address bytes signed register) same = absurd (true≢false (sym own ∙ ap is_boundary_effect (sym same)))
  own_applied own (Stores address bytes value) same =
      let eight : bytes ≡ 8 = eqb-true bytes 8 (ap is_boundary_effect same ∙ own) in
      let ws : List Word = stored w.words (byte_number address) bytes value in
      own_access address bytes _ (record {
        next = record hart { pc = next hart.pc };
        there = set_there ws (record hart { pc = next hart.pc });
        log = refl;
        moves = Stored address value (ap (λ (e : Effect). e ∷ later) (sym same) ∙ ap (λ (n : ℕ). Stores address n value ∷ later) eight)
            (ap (λ (n : ℕ). stored w.words (byte_number address) n value) eight) refl;
      })
  own_applied own (Cleans address) same =
      own_access address 1 _ (cond_both (nat_lt (length hart.queue) 16) _ _ Own (λ _. record {
        next = record hart { pc = next hart.pc; queue = hart.queue ++ entry_of w.words (byte_number address / 64) ∷ [] };
        there = set_there w.words (record hart { pc = next hart.pc; queue = hart.queue ++ entry_of w.words (byte_number address / 64) ∷ [] });
        log = refl;
        moves = Cleaned address (ap (λ (e : Effect). e ∷ later) (sym same)) refl refl;
      }) (λ _. own_drain hart.queue refl))
  own_applied own Fences same = own_fence hart.queue refl
    where
      own_fence : (queue : List Entry) → hart.queue ≡ queue → Own (fenced w h hart queue)
      own_fence [] empty = record {
        next = record hart { pc = next hart.pc };
        there = set_there w.words (record hart { pc = next hart.pc });
        log = refl;
        moves = Fenced (ap (λ (e : Effect). e ∷ later) (sym same)) refl empty empty;
      }
      own_fence (e ∷ es) more = own_drain (e ∷ es) more
  own_applied own Calls same = absurd (true≢false (sym own ∙ ap is_boundary_effect (sym same)))

-- ---- In recovery, a hart that is done

-- whatever is a move stays one where the last release makes the hart done
settled : (h : ℕ) (named : List ℕ) (w : World) (hart : Hart) (rest further : List Effect) (v : World) → MovesTo h named w hart rest v further → (g : ℕ) →
    MovesTo h named w hart rest (done_if_over w g (slice_get v.harts g) v) further
settled h named w hart rest further v m g = by (slice_get v.harts g) refl
  where
    by : (other : Option Hart) → slice_get v.harts g ≡ other → MovesTo h named w hart rest (done_if_over w g other v) further
    by None e = m
    by (Some other) e = cond_both (over_after w v g) _ _ (λ (u : World). MovesTo h named w hart rest u further) (λ _. elim (cases_eq h g) [
      | inl same ↦
          let there : slice_get v.harts h ≡ Some other = ap (λ (i : ℕ). slice_get v.harts i) same ∙ e in
          let is : m.next ≡ other = some_same m.next other (sym m.there ∙ there) in
          record {
            next = record other { phase = Done };
            there = ap (λ (i : ℕ). slice_get (set v.harts g (record other { phase = Done })) i) same
                ∙ get-set_same v.harts g (record other { phase = Done }) other e;
            log = m.log;
            moves = subst (λ (x : Hart). Moves w.log h named (config_of w hart rest) (record { words = v.words; queue = x.queue; rest = further })) is m.moves;
          }
      | inr ne ↦ record { next = m.next; there = get-set_other v.harts g h (record other { phase = Done }) ne ∙ m.there; log = m.log; moves = m.moves }
    ]) (λ _. m)

-- ---- The own hart's step

module _ (program : List (List Slot)) (h : ℕ) (w : World) (hart : Hart) (effect : Effect) where
  -- the step of a hart that executes an instruction is its effect
  pub executes_effect : (P : Outcome → Type 0) → effect_at program h hart ≡ Some effect → P (applied w h hart effect) → P (hart_step program w h hart)
  executes_effect P is p = by (fetched program h hart.pc) is
    where
      effect_in : Option Slot → Option Effect
      effect_in slot = elim slot [
        | Some (Row instr) ↦ Some (row instr hart.registers hart.pc)
        | _ ↦ None
      ]

      by : (slot : Option Slot) → effect_in slot ≡ Some effect → P (executed w h hart slot)
      by None e = absurd (none_some effect e)
      by (Some (NoRow word)) e = absurd (none_some effect e)
      by (Some (Row instr)) e = subst (λ (x : Effect). P (applied w h hart x)) (sym (some_same (row instr hart.registers hart.pc) effect e)) p

  -- in a phase that executes instructions the hart's step is that of one
  pub runs_step : (P : Outcome → Type 0) → (phase : Phase) → is_running phase ≡ true → P (run_step program w h hart) → P (phase_step program w h hart phase)
  runs_step P Take runs p = absurd (true≢false (sym runs))
  runs_step P Wait runs p = absurd (true≢false (sym runs))
  runs_step P Resume runs p = absurd (true≢false (sym runs))
  runs_step P Run runs p = p
  runs_step P Done runs p = absurd (true≢false (sym runs))
  runs_step P Ended runs p = absurd (true≢false (sym runs))

pub own_steps_move : OwnStepsMove
unfolding happens Own
own_steps_move program named w h hart effect later next own =
    let p : Own h named w hart next.here effect later (hart_step program w h hart) =
    executes_effect program h w hart effect (Own h named w hart next.here effect later) next.is
    (own_applied h named w hart next.here effect later own effect refl) in
    let q : Own h named w hart next.here effect later (run_step program w h hart) =
    settled h named w hart (effect ∷ later) _ (hart_step program w h hart).0 p h in
    let r : Own h named w hart next.here effect later (phase_step program w h hart hart.phase) =
    runs_step program h w hart effect (Own h named w hart next.here effect later) hart.phase next.runs q in
    subst (λ (x : Option Hart). Own h named w hart next.here effect later (stepped program w h x)) (sym next.here) r

-- ---- A step of any hart that stores elsewhere

-- what a step does to memory and to its hart's queue
data Works (effect : Option Effect) (words : List Word) (queue : List Entry) (words_after : List Word) (queue_after : List Entry) : Type 0 where
  Rests : words_after ≡ words → queue_after ≡ queue → Works effect words queue words_after queue_after
  Drains : (entry : Entry) → words_after ≡ drained words entry → queue ≡ entry ∷ queue_after → Works effect words queue words_after queue_after
  StoresTo : (address bytes value : ℕ) → effect ≡ Some (Stores address bytes value) → words_after ≡ stored words (byte_number address) bytes value →
      queue_after ≡ queue →
      Works effect words queue words_after queue_after
  CleansLine : (line : ℕ) → words_after ≡ words → queue_after ≡ queue ++ entry_of words line ∷ [] → Works effect words queue words_after queue_after

record WorksTo (effect : Option Effect) (g : ℕ) (w : World) (hart : Hart) (after : World) : Type 0 where
  next : Hart
  there : slice_get after.harts g ≡ Some next
  log : after.log ≡ w.log
  works : Works effect w.words hart.queue after.words next.queue

module _ (g : ℕ) (w : World) (hart : Hart) (here : slice_get w.harts g ≡ Some hart) (code : Option Effect) where
  Worked : Outcome → Type 0
  Worked o = WorksTo code g w hart o.0

  rests : Worked (w, Moved)
  unfolding Worked
  rests = record { next = hart; there = here; log = refl; works = Rests refl refl }

  goes_on : (holders : List (Option ℕ)) (further : Hart) → further.queue ≡ hart.queue →
      WorksTo code g w hart (with_hart (record w { holders = holders }) g further)
  goes_on holders further same = record { next = further; there = get-set_same w.harts g further hart here; log = refl; works = Rests refl same }

  drains : (queue : List Entry) → hart.queue ≡ queue → Worked (drain_one w g hart queue)
  unfolding Worked
  drains [] e = rests
  drains (e ∷ es) same = record {
    next = record hart { queue = es };
    there = get-set_same w.harts g
        (record hart { queue = es }) hart here;
    log = refl;
    works = Drains e refl same;
  }

  accesses : (address bytes : ℕ) (o : Outcome) → Worked o → Worked (access w address bytes o)
  unfolding Worked
  accesses address bytes o works =
      cond_both (in_range w.log (length w.harts) address bytes) _ _ Worked (λ _. cond_both (aligned address bytes) _ _ Worked (λ _. works) (λ _. rests))
      (λ _. rests)

  acquires : (lock : ℕ) (holder : Option (Option ℕ)) → Worked (acquired w g hart lock holder)
  unfolding Worked
  acquires lock None = rests
  acquires lock (Some None) = goes_on (set w.holders lock (Some g)) (record hart { pc = next hart.pc }) refl
  acquires lock (Some (Some holder)) = rests

  releases : (lock : ℕ) (holder : Option (Option ℕ)) → Worked (released w g hart lock holder)
  unfolding Worked
  releases lock None = rests
  releases lock (Some holder) = cond_both (is_held_by g holder) _ _ Worked
      (λ _. goes_on (set w.holders lock None) (record hart { pc = next hart.pc }) refl) (λ _. rests)

  finishes : (lock : Option ℕ) → Worked (ended w g hart lock)
  unfolding Worked
  finishes None = goes_on w.holders (record hart { pc = next hart.pc; phase = Ended }) refl
  finishes (Some lock) = rests

  calls : (number lock : ℕ) → Worked (called w g hart number lock)
  unfolding Worked
  calls number lock =
      cond_both (number == 1) _ _ Worked (λ _. acquires lock (slice_get w.holders lock))
      (λ _. cond_both (number == 2) _ _ Worked (λ _. releases lock (slice_get w.holders lock))
      (λ _. cond_both (number == 3) _ _ Worked (λ _. finishes (least_held w.holders g)) (λ _. rests)))

  applies : (effect : Effect) → code ≡ Some effect → Worked (applied w g hart effect)
  unfolding Worked
  applies (Continues registers pc) is = goes_on w.holders (record hart { registers = registers; pc = pc }) refl
  applies (Loads address bytes signed register) is = accesses address bytes _ (goes_on w.holders _ refl)
  applies (Stores address bytes value) is = accesses address bytes _ (record {
    next = record hart { pc = next hart.pc };
    there = get-set_same w.harts g (record hart { pc = next hart.pc }) hart here;
    log = refl;
    works = StoresTo address bytes value is refl refl;
  })
  applies (Cleans address) is = accesses address 1 _ (cond_both (nat_lt (length hart.queue) 16) _ _ Worked (λ _. record {
    next = record hart { pc = next hart.pc; queue = hart.queue ++ entry_of w.words (byte_number address / 64) ∷ [] };
    there = get-set_same w.harts g (record hart { pc = next hart.pc; queue = hart.queue ++ entry_of w.words (byte_number address / 64) ∷ [] }) hart here;
    log = refl;
    works = CleansLine (byte_number address / 64) refl refl;
  }) (λ _. drains hart.queue refl))
  applies Fences is = fenced_by hart.queue refl
    where
      fenced_by : (queue : List Entry) → hart.queue ≡ queue → Worked (fenced w g hart queue)
      fenced_by [] e = goes_on w.holders (record hart { pc = next hart.pc }) refl
      fenced_by (e ∷ es) same = drains (e ∷ es) same
  applies Calls is = calls (read hart.registers 17) (read hart.registers 10)

  takes : (lock : Option ℕ) → Worked (taken w g hart lock)
  unfolding Worked
  takes None = goes_on w.holders (record hart { phase = Wait }) refl
  takes (Some lock) = by_holder (slice_get w.holders lock)
    where
      took : Option (Option ℕ) → Outcome
      took x = elim x [
        | Some (Some holder) ↦ (w, Waits lock holder)
        | _ ↦ moved (with_holder w lock (Some g)) g hart
      ]

      by_holder : (holder : Option (Option ℕ)) → Worked (took holder)
      by_holder None = goes_on (set w.holders lock (Some g)) hart refl
      by_holder (Some None) = goes_on (set w.holders lock (Some g)) hart refl
      by_holder (Some (Some holder)) = rests

  waits : (taking : Option ℕ) → Worked (waited w g hart taking)
  unfolding Worked
  waits None = goes_on w.holders (record hart { phase = Resume }) refl
  waits (Some taking) = rests

-- in recovery, where the last release makes the hart done
done_works : (code : Option Effect) (g : ℕ) (w : World) (hart : Hart) (v : World) → WorksTo code g w hart v →
    WorksTo code g w hart (done_if_over w g (slice_get v.harts g) v)
done_works code g w hart v m = subst (λ (x : Option Hart). WorksTo code g w hart (done_if_over w g x v)) (sym m.there)
    (cond_both (over_after w v g) _ _ (λ (u : World). WorksTo code g w hart u) (λ _. record {
      next = record m.next { phase = Done };
      there = get-set_same v.harts g (record m.next { phase = Done }) m.next m.there;
      log = m.log;
      works = m.works;
    }) (λ _. m))

-- the effect of the step, where its hart runs
abbrev effect_of : List (List Slot) → (g : ℕ) → Hart → Option Effect
effect_of program g hart = if is_running hart.phase then effect_at program g hart else None

steps_work : (program : List (List Slot)) (w : World) (g : ℕ) (hart : Hart) → slice_get w.harts g ≡ Some hart →
    WorksTo (effect_of program g hart) g w hart (after_event program w (Step g))
unfolding happens Worked
steps_work program w g hart here = subst (λ (x : Option Hart). WorksTo (effect_of program g hart) g w hart (stepped program w g x).0) (sym here)
    (by_phase hart.phase refl)
  where
    effect_in : Option Slot → Option Effect
    effect_in slot = elim slot [
      | Some (Row instr) ↦ Some (row instr hart.registers hart.pc)
      | _ ↦ None
    ]

    by_slot : (slot : Option Slot) → effect_of program g hart ≡ effect_in slot → WorksTo (effect_of program g hart) g w hart (executed w g hart slot).0
    by_slot None e = rests g w hart here (effect_of program g hart)
    by_slot (Some (NoRow word)) e = rests g w hart here (effect_of program g hart)
    by_slot (Some (Row instr)) e = applies g w hart here (effect_of program g hart) (row instr hart.registers hart.pc) e

    by_phase : (phase : Phase) → hart.phase ≡ phase → WorksTo (effect_of program g hart) g w hart (phase_step program w g hart phase).0
    by_phase Take e = takes g w hart here (effect_of program g hart) (least_missing w.holders (record_of w.log w.words g) g)
    by_phase Wait e = waits g w hart here (effect_of program g hart) (taking_from 0 w.harts)
    by_phase Resume e = goes_on g w hart here (effect_of program g hart) w.holders _ refl
    by_phase Run e = done_works (effect_of program g hart) g w hart (hart_step program w g hart).0
        (by_slot (fetched program g hart.pc) (ap (λ (p : Phase). if is_running p then effect_at program g hart else None) e))
    by_phase Done e = rests g w hart here (effect_of program g hart)
    by_phase Ended e = rests g w hart here (effect_of program g hart)

-- ---- What that is to a log

-- what a step does to a log that it doesn't store to, but for words of its frame that aren't named: words are persisted
unstored_by : (log : Log) (h : ℕ) (named : List ℕ) (effect : Option Effect) (words : List Word) (queue : List Entry) (words_after : List Word)
    (queue_after : List Entry) → Works effect words queue words_after queue_after →
    AreEntries words queue → ((address bytes value : ℕ) → effect ≡ Some (Stores address bytes value) → StoresBeside log h named (byte_number address) bytes) →
    IsUnstored log h named words words_after
unstored_by log h named effect words queue words_after queue_after (Rests same q) entries elsewhere =
    subst (λ (ws : List Word). IsUnstored log h named words ws) (sym same) (λ i below. inl (persisted_refl (word_at words (log_word log h i))))
unstored_by log h named effect words queue words_after queue_after (Drains entry after q) entries elsewhere =
    let all : AreEntries words (entry ∷ queue_after) = subst (λ (es : List Entry). AreEntries words es) q entries in
    subst (λ (ws : List Word). IsUnstored log h named words ws) (sym after) (λ i below. inl ((write_backs_raise words entry all.0).each (log_word log h i)))
unstored_by log h named effect words queue words_after queue_after (StoresTo address bytes value is after q) entries elsewhere =
    subst (λ (ws : List Word). IsUnstored log h named words ws) (sym after) (stores_elsewhere log h named (byte_number address) bytes value words
    (elsewhere address bytes value is))
unstored_by log h named effect words queue words_after queue_after (CleansLine line same q) entries elsewhere =
    subst (λ (ws : List Word). IsUnstored log h named words ws) (sym same) (λ i below. inl (persisted_refl (word_at words (log_word log h i))))

entries_after : (words : List Word) (queue more : List Entry) → AreEntries words (queue ++ more) → AreEntries words more
entries_after words [] more h = h
entries_after words (e ∷ es) more h = entries_after words es more h.1

-- a store elsewhere is one that its hart doesn't make to the log, but for words of its frame that aren't named
elsewhere_of : (program : List (List Slot)) (named : List ℕ) (w : World) (g h : ℕ) (hart : Hart) → slice_get w.harts g ≡ Some hart →
    IsElsewhere program w named g h →
    (address bytes value : ℕ) →
    effect_of program g hart ≡ Some (Stores address bytes value) → StoresBeside w.log h named (byte_number address) bytes
elsewhere_of program named w g h hart here elsewhere address bytes value =
    cond_both (is_running hart.phase) (effect_at program g hart) None
    (λ (x : Option Effect). x ≡ Some (Stores address bytes value) → StoresBeside w.log h named (byte_number address) bytes)
    (λ runs is i below meets.
    let own = elsewhere hart address bytes value (record { here = here; runs = runs; is = is }) i below meets in (own.1, own.2, own.3))
    (λ _ is. absurd (none_some (Stores address bytes value) is))

-- the own hart
own_elsewhere : (program : List (List Slot)) (named : List ℕ) (w : World) (h : ℕ) (hart : Hart) (rest : List Effect) → IsWellFormedWorld w →
    slice_get w.harts h ≡ Some hart →
    IsElsewhere program w named h h →
    MovesTo h named w hart rest (after_event program w (Step h)) rest
own_elsewhere program named w h hart rest sound here elsewhere = by (steps_work program w h hart here)
  where
    by : WorksTo (effect_of program h hart) h w hart (after_event program w (Step h)) → MovesTo h named w hart rest (after_event program w (Step h)) rest
    by to =
        by_works to.next to.there to.works
        (unstored_by w.log h named (effect_of program h hart) w.words hart.queue (after_event program w (Step h)).words to.next.queue to.works
        (sound.queues h hart here)
        (elsewhere_of program named w h h hart here elsewhere))
      where
        by_works : (x : Hart) → slice_get (after_event program w (Step h)).harts h ≡ Some x
            → Works (effect_of program h hart) w.words hart.queue (after_event program w (Step h)).words x.queue →
            IsUnstored w.log h named w.words (after_event program w (Step h)).words
            → MovesTo h named w hart rest (after_event program w (Step h)) rest
        by_works x there (Rests words queue) unstored = no_move h named w hart rest (after_event program w (Step h)) x there words to.log queue
        by_works x there (Drains entry words queue) unstored = record { next = x; there = there; log = to.log; moves = Drained entry refl words queue }
        by_works x there (StoresTo address bytes value is words queue) unstored = record {
          next = x;
          there = there;
          log = to.log;
          moves = Elsewhere [] refl (steps_touch program w h sound).words unstored (queue ∙ sym (append-nil hart.queue)) tt;
        }
        by_works x there (CleansLine line words queue) unstored = record {
          next = x;
          there = there;
          log = to.log;
          moves = Elsewhere (entry_of w.words line ∷ []) refl (steps_touch program w h sound).words unstored queue
              (entries_after (after_event program w (Step h)).words hart.queue (entry_of w.words line ∷ [])
              (subst (λ (q : List Entry). AreEntries (after_event program w (Step h)).words q) queue ((step_goes program h w sound).own x there)));
        }

-- another hart
other_elsewhere : (program : List (List Slot)) (named : List ℕ) (w : World) (g h : ℕ) (hart : Hart) (rest : List Effect) → IsWellFormedWorld w →
    slice_get w.harts h ≡ Some hart →
    h ≢ g → IsElsewhere program w named g h →
    (other : Option Hart) → slice_get w.harts g ≡ other → MovesTo h named w hart rest (after_event program w (Step g)) rest
unfolding happens
other_elsewhere program named w g h hart rest sound here ne elsewhere None none =
    no_move h named w hart rest (after_event program w (Step g)) hart ((steps_touch program w g sound).others h ne ∙ here)
    (ap (λ (x : Option Hart). (stepped program w g x).0.words) none)
    (ap (λ (x : Option Hart). (stepped program w g x).0.log) none) refl
other_elsewhere program named w g h hart rest sound here ne elsewhere (Some other) there =
    let to = steps_work program w g other there in
    let touches = steps_touch program w g sound in
    record {
      next = hart;
      there = touches.others h ne ∙ here;
      log = touches.log;
      moves = Elsewhere [] refl touches.words
          (unstored_by w.log h named (effect_of program g other) w.words other.queue (after_event program w (Step g)).words to.next.queue to.works
          (sound.queues g other there)
          (elsewhere_of program named w g h other there elsewhere)) (sym (append-nil hart.queue)) tt;
    }

pub steps_move : StepsMove
steps_move program named w g h hart rest sound here elsewhere = elim (cases_eq h g) [
  | inl same ↦ subst (λ (i : ℕ). IsElsewhere program w named i h → MovesTo h named w hart rest (after_event program w (Step i)) rest) same
      (own_elsewhere program named w h hart rest sound here) elsewhere
  | inr ne ↦ other_elsewhere program named w g h hart rest sound here ne elsewhere (slice_get w.harts g) refl
]

-- ---- Evictions and crashes

pub evictions_move : EvictionsMove
unfolding happens
evictions_move program named w line mask h hart rest here =
    let persisted = evictions_raise w.words line mask in
    record {
      next = hart;
      there = here;
      log = refl;
      moves = Elsewhere [] refl (changed_by_persisted w.words _ persisted) (λ i below. inl (persisted.each (log_word w.log h i)))
          (sym (append-nil hart.queue)) tt;
    }

map_map : (words : List Word) → map word_of (map durable_value words) ≡ map after_crash words
map_map [] = refl
map_map (w ∷ ws) = ap (λ (vs : List Word). after_crash w ∷ vs) (map_map ws)

pub crashes_crash : CrashesCrash
unfolding happens after_crash_of
crashes_crash program w = map_map w.words
