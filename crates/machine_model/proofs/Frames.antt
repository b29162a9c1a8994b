-- What a step touches, effect by effect.
use Rattle.std.proofs.Common.{◌≡◌, ◌≢◌, ◌⊎◌, inl, inr, ℕ, zero, suc, ◌+◌, ◌-◌, ◌*◌, ◌/◌, ◌≤◌, List, [], ◌∷◌, length, map}
use Rattle.std.proofs.Common.{replicate, refl, ap, arith, sym, ◌∙◌, subst, set, cond, Bool, true, false, Option, Some, None, drop}
use Rattle.std.specs.Prelude.{slice_get, nat_lt, nat_le, ◌==◌, ◌&&◌}
use Rattle.std.proofs.lemmas.Bool.{cases_eq, cond_both, and_parts, ltb-true, eqb-true, ltb-false, leb-true, or_cases}
use Rattle.std.proofs.Math.ListN.{length-set, length-append}
use Rattle.std.proofs.lemmas.List.{length-map, length-replicate}
use Rattle.log_schemes.specs.declared.log.Log.{Log}
use Rattle.log_schemes.specs.declared.size.LogSize.{LogSize}
use Rattle.log_schemes.specs.declared.size.LogSize.TheVariants.{Lines16, Lines32}
use Rattle.log_schemes.specs.Schemes.{lines_of, size_of}
use Rattle.machine_events.specs.declared.event.Event.TheVariants.{Step, Evict, Crash, Start}
use Rattle.machine_events.specs.declared.event.Reply.TheVariants.{Waits}
use Rattle.ido_base.specs.Words.{Word, Entry, entry_of, stored, drained, evicted, word_of, durable_value}
use Rattle.ido_base.specs.Locks.{is_held_by, least_held, least_missing}
use Rattle.ido_base.specs.Layout.{aligned, byte_number, line_bytes, variable_lines, words_of_bytes, variables_base, logs_base}
use Rattle.log_schemes.specs.Layout.{in_range, log_lines, log_words, word_count, initial_words}
use Rattle.ido_base.specs.Growth.{AreChanged, AreEntries}
use Rattle.ido_base.proofs.Public.{changed_refl, changed_by_persisted, stores_change, evictions_raise, write_backs_raise, entries_stay, entries_append}
use Rattle.ido_base.proofs.Public.{clean_entry}
use Rattle.rv64_isa.specs.declared.object.Slot.{Slot}
use Rattle.rv64_isa.specs.declared.object.Slot.TheVariants.{Row, NoRow}
use Rattle.machine_model.specs.declared.phase.Phase.{Phase}
use Rattle.machine_model.specs.declared.phase.Phase.TheVariants.{Take, Wait, Resume, Run, Done, Ended}
use Rattle.rv64_isa.specs.Rows.{Effect, Continues, Loads, Stores, Cleans, Fences, Calls, row, read, next}
use Rattle.rv64_isa.specs.Programs.{fetched}
use Rattle.machine_model.specs.Machine.{Hart, World, Outcome, moved, with_hart, with_holder, drain_one}
use Rattle.machine_model.specs.Machine.{access, cleaned, fenced, acquired, released, ended, called}
use Rattle.machine_model.specs.Machine.{applied, executed, hart_step, taken, waited, taking_from, record_of, over_after, done_if_over, run_step, phase_step}
use Rattle.machine_model.specs.Machine.{stepped, happens, after_event, durable_point, phase_after_crash, start_of, after_crash_of, fresh_hart}
use Rattle.log_schemes.specs.Schemes.{numbers_from}
use Rattle.machine_model.specs.Frames.{IsHeldOn, Stays, Takes, Gives, Touches, IsWellFormedWorld, StepsTouch}
use Rattle.machine_model.proofs.StartedWorlds.{after_start, start_sound}
use Rattle.machine_model.specs.Frames.{EvictionsTouch, LogStays, QueuesStand, StartsStand, CrashesStand}

-- ---- Lists

pub get-set_same : {A : Type 0} (xs : List A) (i : ℕ) (x y : A) → slice_get xs i ≡ Some y → slice_get (set xs i x) i ≡ Some x
get-set_same [] i x y e = absurd (subst (λ o. is_there o) (sym e) tt)
  where
    is_there : {B : Type 0} → Option B → Type 0
    is_there None = ⊥
    is_there (Some z) = Unit {0}
get-set_same (z ∷ zs) zero x y e = refl
get-set_same (z ∷ zs) (suc i) x y e = get-set_same zs i x y e

pub get-set_other : {A : Type 0} (xs : List A) (i j : ℕ) (x : A) → j ≢ i → slice_get (set xs i x) j ≡ slice_get xs j
get-set_other [] i j x ne = refl
get-set_other (z ∷ zs) zero zero x ne = absurd (ne refl)
get-set_other (z ∷ zs) zero (suc j) x ne = refl
get-set_other (z ∷ zs) (suc i) zero x ne = refl
get-set_other (z ∷ zs) (suc i) (suc j) x ne = get-set_other zs i j x (λ e. ne (ap (λ (n : ℕ). suc n) e))

pub set_none : {A : Type 0} (xs : List A) (i : ℕ) (x : A) → slice_get xs i ≡ None → set xs i x ≡ xs
set_none [] i x e = refl
set_none (z ∷ zs) zero x e = absurd (subst (λ o. is_none_there o) e tt)
  where
    is_none_there : {B : Type 0} → Option B → Type 0
    is_none_there None = ⊥
    is_none_there (Some y) = Unit {0}
set_none (z ∷ zs) (suc i) x e = ap (λ ys. z ∷ ys) (set_none zs i x e)

-- bytes of all logs, by lines
bytes_of_logs : (size : LogSize) (harts : ℕ) → line_bytes * lines_of size * harts ≡ 64 * (lines_of size * harts)
bytes_of_logs Lines16 harts = omega arith
bytes_of_logs Lines32 harts = omega arith

-- the line of an address that is in range
line_inside : (log : Log) (harts address : ℕ) → in_range log harts address 1 ≡ true → 8 * (byte_number address / 64) + 8 ≤ word_count log harts
line_inside log harts address inside = by_half (nat_lt address logs_base) refl (or_cases _ _ inside)
  where
    lines : ℕ
    lines = log_lines log * harts

    all_bytes : line_bytes * log_lines log * harts ≡ 64 * lines
    all_bytes = bytes_of_logs (size_of log) harts

    in_variables : (nat_le variables_base address && nat_le (address + 1) (variables_base + 65536)) ≡ true →
        (variables_base ≤ address) × (address + 1 ≤ variables_base + 65536)
    in_variables e = let h = and_parts _ _ e in (leb-true _ _ h.0, leb-true _ _ h.1)

    in_logs : (nat_le logs_base address && nat_le (address + 1) (logs_base + line_bytes * log_lines log * harts)) ≡ true →
        (logs_base ≤ address) × (address + 1 ≤ logs_base + line_bytes * log_lines log * harts)
    in_logs e = let h = and_parts _ _ e in (leb-true _ _ h.0, leb-true _ _ h.1)

    by_half : (b : Bool) → nat_lt address logs_base ≡ b
        → ((nat_le variables_base address && nat_le (address + 1) (variables_base + 65536)) ≡ true)
        ⊎ ((nat_le logs_base address && nat_le (address + 1) (logs_base + line_bytes * log_lines log * harts)) ≡ true)
        → 8 * (byte_number address / 64) + 8 ≤ 8 * (variable_lines + lines)
    by_half true e (inl h) =
        let r = in_variables h in
        let n : byte_number address ≡ address - variables_base = ap (λ b. cond b (address - variables_base) (65536 + (address - logs_base))) e in
        omega (arith, n, r.0, r.1)
    by_half true e (inr h) = absurd (omega (arith, (in_logs h).0, ltb-true _ _ e))
    by_half false e (inl h) = absurd (omega (arith, (in_variables h).1, ltb-false _ _ e))
    by_half false e (inr h) =
        let r = in_logs h in
        let n : byte_number address ≡ 65536 + (address - logs_base) = ap (λ b. cond b (address - variables_base) (65536 + (address - logs_base))) e in
        omega (arith, n, r.0, r.1, all_bytes)

-- ---- What hart h does, and that its own queue stands

pub record OwnQueueStays (h : ℕ) (old new : World) : Type 0 where
  pub touches : Touches h old new
  pub own : (hart : Hart) → slice_get new.harts h ≡ Some hart → AreEntries new.words hart.queue

module _ (h : ℕ) (w : World) (hart : Hart) (here : slice_get w.harts h ≡ Some hart) (queued : AreEntries w.words hart.queue)
    (size : length w.words ≡ word_count w.log (length w.harts)) where
  queue_of : List Word → Option Hart → Type 0
  queue_of ws None = Unit {0}
  queue_of ws (Some x) = AreEntries ws x.queue

  -- nothing
  stays : OwnQueueStays h w w
  unfolding queue_of
  stays = record {
    touches =
        record { count = refl; others = λ g ne. refl; locks = refl; holders = λ lock. Stays refl; words = changed_refl w.words; recovering = refl; log = refl };
    own = λ other e. subst (λ (x : Option Hart). queue_of w.words x) (sym here ∙ e) queued;
  }

  -- the hart and words
  goes : (ws : List Word) (after : Hart) → AreChanged w.words ws → AreEntries ws after.queue → OwnQueueStays h w (with_hart (record w { words = ws }) h after)
  unfolding queue_of
  goes ws after changed entries = record {
    touches = record {
      count = length-set w.harts h after;
      others = λ g ne. get-set_other w.harts h g after ne;
      locks = refl;
      holders = λ lock. Stays refl;
      words = changed;
      recovering = refl;
      log = refl;
    };
    own = λ other e. subst (λ (x : Option Hart). queue_of ws x) (sym (get-set_same w.harts h after hart here) ∙ e) entries;
  }

  -- the hart, with the words and what it has queued as they are
  moves : (after : Hart) → after.queue ≡ hart.queue → OwnQueueStays h w (with_hart w h after)
  moves after same = goes w.words after (changed_refl w.words) (subst (λ (q : List Entry). AreEntries w.words q) (sym same) queued)

  -- the hart and a lock
  locks : (lock : ℕ) (holder : Option ℕ) (after : Hart) → after.queue ≡ hart.queue → IsHeldOn h (slice_get w.holders lock) (Some holder) → (old : Option ℕ) →
      slice_get w.holders lock ≡ Some old
      → OwnQueueStays h w (with_hart (with_holder w lock holder) h after)
  unfolding queue_of
  locks lock holder after same changed old there = record {
    touches = record {
      count = length-set w.harts h after;
      others = λ g ne. get-set_other w.harts h g after ne;
      locks = length-set w.holders lock holder;
      holders = λ other. elim (cases_eq other lock) [
        | inl is ↦ subst (λ (i : ℕ). IsHeldOn h (slice_get w.holders i) (slice_get (set w.holders lock holder) i)) (sym is)
            (subst (λ (x : Option (Option ℕ)). IsHeldOn h (slice_get w.holders lock) x) (sym (get-set_same w.holders lock holder old there)) changed)
        | inr ne ↦ Stays (get-set_other w.holders lock other holder ne)
      ];
      words = changed_refl w.words;
      recovering = refl;
      log = refl;
    };
    own =
        λ other e. subst (λ (x : Option Hart). queue_of w.words x) (sym (get-set_same w.harts h after hart here) ∙ e)
        (subst (λ (q : List Entry). AreEntries w.words q) (sym same) queued);
  }

  -- ---- Each effect

  drains : (queue : List Entry) → AreEntries w.words queue → OwnQueueStays h w (drain_one w h hart queue).0
  drains [] entries = stays
  drains (e ∷ es) entries =
      let changed : AreChanged w.words (drained w.words e) = changed_by_persisted w.words (drained w.words e) (write_backs_raise w.words e entries.0) in
      goes (drained w.words e) (record hart { queue = es }) changed (entries_stay w.words (drained w.words e) es changed entries.1)

  fences : (queue : List Entry) → AreEntries w.words queue → OwnQueueStays h w (fenced w h hart queue).0
  fences [] entries = moves (record hart { pc = next hart.pc }) refl
  fences (e ∷ es) entries = drains (e ∷ es) entries

  accesses : (address bytes : ℕ) (outcome : Outcome) → (in_range w.log (length w.harts) address bytes ≡ true → OwnQueueStays h w outcome.0) →
      OwnQueueStays h w (access w address bytes outcome).0
  accesses address bytes outcome goes_on =
      cond_both (in_range w.log (length w.harts) address bytes) _ _ (λ (o : Outcome). OwnQueueStays h w o.0)
      (λ inside. cond_both (aligned address bytes) _ _ (λ (o : Outcome). OwnQueueStays h w o.0) (λ _. goes_on inside) (λ _. stays))
      (λ _. stays)

  cleans : (line : ℕ) → 8 * line + 8 ≤ length w.words → OwnQueueStays h w (cleaned w h hart line).0
  cleans line exists =
      cond_both (nat_lt (length hart.queue) 16) _ _ (λ (o : Outcome). OwnQueueStays h w o.0)
      (λ _. goes w.words _ (changed_refl w.words) (entries_append w.words hart.queue (entry_of w.words line) queued (clean_entry w.words line exists)))
      (λ _. drains hart.queue queued)

  acquires : (lock : ℕ) (holder : Option (Option ℕ)) → slice_get w.holders lock ≡ holder → OwnQueueStays h w (acquired w h hart lock holder).0
  acquires lock None e = stays
  acquires lock (Some None) e = locks lock (Some h) (record hart { pc = next hart.pc }) refl (Takes e refl) None e
  acquires lock (Some (Some holder)) e = stays

  gives : (holder : Option ℕ) → is_held_by h holder ≡ true → holder ≡ Some h
  gives None e = absurd (subst (λ b. cond b ⊥ (Unit {0})) e tt)
  gives (Some g) e = ap Some (sym (eqb-true h g e))

  releases : (lock : ℕ) (holder : Option (Option ℕ)) → slice_get w.holders lock ≡ holder → OwnQueueStays h w (released w h hart lock holder).0
  releases lock None e = stays
  releases lock (Some holder) e =
      cond_both (is_held_by h holder) _ _ (λ (o : Outcome). OwnQueueStays h w o.0)
      (λ held. locks lock None (record hart { pc = next hart.pc }) refl (Gives (e ∙ ap Some (gives holder held)) refl) holder e)
      (λ _. stays)

  ends : (lock : Option ℕ) → OwnQueueStays h w (ended w h hart lock).0
  ends None = moves (record hart { pc = next hart.pc; phase = Ended }) refl
  ends (Some lock) = stays

  calls : (number lock : ℕ) → OwnQueueStays h w (called w h hart number lock).0
  calls number lock =
      cond_both (number == 1) _ _ (λ (o : Outcome). OwnQueueStays h w o.0) (λ _. acquires lock (slice_get w.holders lock) refl)
      (λ _. cond_both (number == 2) _ _ (λ (o : Outcome). OwnQueueStays h w o.0) (λ _. releases lock (slice_get w.holders lock) refl)
      (λ _. cond_both (number == 3) _ _ (λ (o : Outcome). OwnQueueStays h w o.0) (λ _. ends (least_held w.holders h)) (λ _. stays)))

  -- the line of an address exists
  line_exists : (address : ℕ) → in_range w.log (length w.harts) address 1 ≡ true → 8 * (byte_number address / 64) + 8 ≤ length w.words
  line_exists address inside =
      let e : 8 * (byte_number address / 64) + 8 ≤ word_count w.log (length w.harts) = line_inside w.log (length w.harts) address inside in
      omega (arith, e, size)

  pub applies : (effect : Effect) → OwnQueueStays h w (applied w h hart effect).0
  applies (Continues registers pc) = moves (record hart { registers = registers; pc = pc }) refl
  applies (Loads address bytes signed register) = accesses address bytes _ (λ _. moves _ refl)
  applies (Stores address bytes value) = accesses address bytes _ (λ _.
      let ws = stored w.words (byte_number address) bytes value in
      let changed : AreChanged w.words ws = stores_change w.words (byte_number address) bytes value in
      goes ws (record hart { pc = next hart.pc }) changed (entries_stay w.words ws hart.queue changed queued))
  applies (Cleans address) = accesses address 1 _ (λ inside. cleans (byte_number address / 64) (line_exists address inside))
  applies Fences = fences hart.queue queued
  applies Calls = calls (read hart.registers 17) (read hart.registers 10)

  -- ---- Each phase

  executes : (slot : Option Slot) → OwnQueueStays h w (executed w h hart slot).0
  executes None = stays
  executes (Some (NoRow word)) = stays
  executes (Some (Row instr)) = applies (row instr hart.registers hart.pc)

  takes : (lock : Option ℕ) → OwnQueueStays h w (taken w h hart lock).0
  takes None = moves (record hart { phase = Wait }) refl
  takes (Some lock) = by_holder (slice_get w.holders lock) refl
    where
      took : Option (Option ℕ) → Outcome
      took x = elim x [
        | Some (Some holder) ↦ (w, Waits lock holder)
        | _ ↦ moved (with_holder w lock (Some h)) h hart
      ]

      past : slice_get w.holders lock ≡ None → w ≡ with_holder w lock (Some h)
      past e = ap (λ (hs : List (Option ℕ)). record w { holders = hs }) (sym (set_none w.holders lock (Some h) e))

      by_slot : (holder : Option (Option ℕ)) → slice_get w.holders lock ≡ holder → OwnQueueStays h w (took holder).0 →
          OwnQueueStays h w (taken w h hart (Some lock)).0
      by_slot holder e goes = subst (λ (x : Option (Option ℕ)). OwnQueueStays h w (took x).0) (sym e) goes

      by_holder : (holder : Option (Option ℕ)) → slice_get w.holders lock ≡ holder → OwnQueueStays h w (taken w h hart (Some lock)).0
      by_holder None e = by_slot None e (subst (λ (v : World). OwnQueueStays h w (with_hart v h hart)) (past e) (moves hart refl))
      by_holder (Some None) e = by_slot (Some None) e (locks lock (Some h) hart refl (Takes e refl) None e)
      by_holder (Some (Some holder)) e = by_slot (Some (Some holder)) e stays

  waits : (taking : Option ℕ) → OwnQueueStays h w (waited w h hart taking).0
  waits None = moves (record hart { phase = Resume }) refl
  waits (Some taking) = stays

-- what a hart's step leaves it with: in recovery the last release makes it done
settles : (h : ℕ) (w v : World) → OwnQueueStays h w v → (hart : Option Hart) → slice_get v.harts h ≡ hart → OwnQueueStays h w (done_if_over w h hart v)
settles h w v goes None e = goes
settles h w v goes (Some hart) e = cond_both (over_after w v h) _ _ (λ (u : World). OwnQueueStays h w u) (λ _. again) (λ _. goes)
  where
    done : Hart
    done = record hart { phase = Done }

    queue_of : Option Hart → Type 0
    queue_of None = Unit {0}
    queue_of (Some x) = AreEntries v.words x.queue

    again : OwnQueueStays h w (with_hart v h done)
    again = record {
      touches = record {
        count = length-set v.harts h done ∙ goes.touches.count;
        others = λ g ne. get-set_other v.harts h g done ne ∙ goes.touches.others g ne;
        locks = goes.touches.locks;
        holders = goes.touches.holders;
        words = goes.touches.words;
        recovering = goes.touches.recovering;
        log = goes.touches.log;
      };
      own = λ other there. subst (λ (x : Option Hart). queue_of x) (sym (get-set_same v.harts h done hart e) ∙ there) (goes.own hart e);
    }

module _ (program : List (List Slot)) (h : ℕ) (w : World) (sound : IsWellFormedWorld w) where
  runs : (hart : Hart) → slice_get w.harts h ≡ Some hart → OwnQueueStays h w (run_step program w h hart).0
  runs hart here =
      let outcome = hart_step program w h hart in
      settles h w outcome.0 (executes h w hart here (sound.queues h hart here) sound.size (fetched program h hart.pc)) (slice_get outcome.0.harts h) refl

  by_phase : (hart : Hart) → slice_get w.harts h ≡ Some hart → (phase : Phase) → OwnQueueStays h w (phase_step program w h hart phase).0
  by_phase hart here Take = takes h w hart here (sound.queues h hart here) sound.size (least_missing w.holders (record_of w.log w.words h) h)
  by_phase hart here Wait = waits h w hart here (sound.queues h hart here) sound.size (taking_from 0 w.harts)
  by_phase hart here Resume = moves h w hart here (sound.queues h hart here) sound.size _ refl
  by_phase hart here Run = runs hart here
  by_phase hart here Done = stays h w hart here (sound.queues h hart here) sound.size
  by_phase hart here Ended = stays h w hart here (sound.queues h hart here) sound.size

  none_there : slice_get w.harts h ≡ None → OwnQueueStays h w w
  none_there e = record {
    touches =
        record { count = refl; others = λ g ne. refl; locks = refl; holders = λ lock. Stays refl; words = changed_refl w.words; recovering = refl; log = refl };
    own = λ other there. absurd (subst (λ o. is_none_here o) (sym there ∙ e) tt);
  }
    where
      is_none_here : {B : Type 0} → Option B → Type 0
      is_none_here None = ⊥
      is_none_here (Some y) = Unit {0}

  steps : (hart : Option Hart) → slice_get w.harts h ≡ hart → OwnQueueStays h w (stepped program w h hart).0
  steps None e = none_there e
  steps (Some hart) e = by_phase hart e hart.phase

  pub step_goes : OwnQueueStays h w (after_event program w (Step h))
  unfolding happens
  step_goes = steps (slice_get w.harts h) refl

pub steps_touch : StepsTouch
steps_touch program w h sound = (step_goes program h w sound).touches

pub evictions_touch : EvictionsTouch
unfolding happens
evictions_touch program w line mask = (evictions_raise w.words line mask, refl)

pub log_stays : LogStays
unfolding happens after_crash_of
log_stays program w (Step h) sound = (steps_touch program w h sound).log
log_stays program w (Evict line mask) sound = refl
log_stays program w Crash sound = refl
log_stays program w Start sound = after_start program w (λ (v : World). v.log ≡ w.log) refl refl

-- ---- Queues along every event

none_fresh : (program : List (List Slot)) (ws : List Word) (phase : ℕ → Phase) (at count h : ℕ) (hart : Hart)
    → slice_get (map (λ thread. fresh_hart program (phase thread) thread) (numbers_from at count)) h ≡ Some hart → AreEntries ws hart.queue
none_fresh program ws phase at zero h hart e = absurd (subst (λ o. is_there o) (sym e) tt)
  where
    is_there : {B : Type 0} → Option B → Type 0
    is_there None = ⊥
    is_there (Some y) = Unit {0}
none_fresh program ws phase at (suc count) zero hart e = subst (λ o. queued o) e tt
  where
    queued : Option Hart → Type 0
    queued None = Unit {0}
    queued (Some x) = AreEntries ws x.queue
none_fresh program ws phase at (suc count) (suc h) hart e = none_fresh program ws phase (at + 1) count h hart e

length-numbers : (at count : ℕ) → length (numbers_from at count) ≡ count
length-numbers at zero = refl
length-numbers at (suc count) = let more = length-numbers (at + 1) count in omega (arith, more)

length-words : (bytes : List ℕ) (count : ℕ) → length (words_of_bytes bytes count) ≡ count
length-words bytes zero = refl
length-words bytes (suc count) = let more = length-words (drop 8 bytes) count in omega (arith, more)

words_by_size : (size : LogSize) (threads : ℕ) → 8 * lines_of size * threads ≡ 8 * (lines_of size * threads)
words_by_size Lines16 threads = omega arith
words_by_size Lines32 threads = omega arith

length-initial : (log : Log) (threads : ℕ) (bytes : List ℕ) → length (initial_words log threads bytes) ≡ word_count log threads
unfolding initial_words
length-initial log threads bytes =
    let a = length-words bytes 8192 in
    let b = length-replicate {A = ℕ} (log_words log * threads) 0 in
    let c = length-append (words_of_bytes bytes 8192) (replicate (log_words log * threads) 0) in
    let d : log_words log * threads ≡ 8 * (log_lines log * threads) = words_by_size (size_of log) threads in
    omega (arith, a, b, c, d)

fresh_harts : (program : List (List Slot)) (phase : ℕ → Phase) →
    length (map (λ thread. fresh_hart program (phase thread) thread) (numbers_from 0 (length program))) ≡ length program
fresh_harts program phase =
    length-map (numbers_from 0 (length program)) (λ thread. fresh_hart program (phase thread) thread) ∙ length-numbers 0 (length program)

pub starts_simulate : StartsStand
unfolding start_of
starts_simulate log program locks initial =
    let harts = fresh_harts program (λ thread. Run) in (
      record {
        size = length-map (initial_words log (length program) initial) word_of ∙ length-initial log (length program) initial ∙ ap (word_count log) (sym harts);
        queues = λ h hart e. none_fresh program _ (λ thread. Run) 0 (length program) h hart e;
      },
      harts,
    )

pub crashes_simulate : CrashesStand
unfolding after_crash_of
crashes_simulate log program locks words count =
    let kept = map word_of words in
    let phase : ℕ → Phase = λ thread. phase_after_crash (durable_point log kept thread) in
    let harts = fresh_harts program phase in (
      record {
        size = length-map words word_of ∙ count ∙ ap (word_count log) (sym harts);
        queues = λ h hart e. none_fresh program _ phase 0 (length program) h hart e;
      },
      harts,
    )

-- another hart's queue represents what it represented, and the own one what the step makes of it
kept_by_step : (h : ℕ) (w v : World) → IsWellFormedWorld w → OwnQueueStays h w v → IsWellFormedWorld v
kept_by_step h w v sound goes = record {
  size = goes.touches.words.size ∙ sound.size ∙ ap (word_count w.log) (sym goes.touches.count)
      ∙ ap (λ (log : Log). word_count log (length v.harts)) (sym goes.touches.log);
  queues = λ g hart there. elim (cases_eq g h) [
    | inl is ↦ goes.own hart (ap (slice_get v.harts) (sym is) ∙ there)
    | inr ne ↦ entries_stay w.words v.words hart.queue goes.touches.words (sound.queues g hart (sym (goes.touches.others g ne) ∙ there))
  ];
}

pub queues_stand : QueuesStand
unfolding happens
queues_stand program w (Step h) count sound =
    let goes = step_goes program h w sound in
    (kept_by_step h w (after_event program w (Step h)) sound goes, goes.touches.count)
queues_stand program w (Evict line mask) count sound =
    let raised = evictions_raise w.words line mask in (
      record {
        size = raised.size ∙ sound.size;
        queues =
            λ g hart there. entries_stay w.words (evicted w.words line mask) hart.queue (changed_by_persisted w.words _ raised) (sound.queues g hart there);
      },
      refl,
    )
queues_stand program w Crash count sound =
    let words = map durable_value w.words in
    let size : length words ≡ word_count w.log (length program) = length-map w.words durable_value ∙ sound.size ∙ ap (word_count w.log) (sym count) in
    let stand = crashes_simulate w.log program (length w.holders) words size in
    (stand.0, stand.1 ∙ count)
queues_stand program w Start count sound = start_sound program w sound
