-- A step does the same in worlds that differ in what is durable alone, and so do lists that differ in evictions alone.
use Rattle.std.proofs.Common.{◌≡◌, ◌≢◌, refl, ℕ, zero, suc, ◌+◌, ◌*◌, ◌/◌, List, [], ◌∷◌, ◌++◌, length, map, set, ap, sym, ◌∙◌, subst, cond, Bool, true, false}
use Rattle.std.proofs.Common.{Option, Some, None, add-zero, arith, ◌⊎◌, inl, inr}
use Rattle.std.specs.Prelude.{slice_get, nat_lt, ◌==◌, ◌&&◌, not, if◌then◌else◌, is_none}
use Rattle.std.proofs.lemmas.Bool.{and_parts, cases_eq}
use Rattle.std.proofs.Math.ListN.{length-set}
use Rattle.log_schemes.specs.declared.log.Log.{Log}
use Rattle.machine_events.specs.declared.event.Event.{Event}
use Rattle.machine_events.specs.declared.event.Event.TheVariants.{Step, Evict, Crash, Start}
use Rattle.machine_events.specs.declared.event.Reply.{Reply}
use Rattle.machine_events.specs.declared.event.Reply.TheVariants.{Waits}
use Rattle.ido_base.specs.Words.{Word, Entry, word_at, loaded, stored, entry_of, drained, evicted, last_position}
use Rattle.ido_base.specs.Locks.{is_held_by, least_held, holds_none}
use Rattle.ido_base.specs.Layout.{aligned, byte_number, word_number}
use Rattle.log_schemes.specs.Layout.{in_range, point_at}
use Rattle.rv64_isa.specs.declared.object.Slot.{Slot}
use Rattle.rv64_isa.specs.declared.object.Slot.TheVariants.{Row, NoRow}
use Rattle.rv64_isa.specs.Rows.{Effect, Continues, Loads, Stores, Cleans, Fences, Calls, row, read, written, next, load_result}
use Rattle.rv64_isa.specs.Programs.{fetched}
use Rattle.machine_model.specs.declared.phase.Phase.{Phase}
use Rattle.machine_model.specs.declared.phase.Phase.TheVariants.{Take, Wait, Resume, Run, Done, Ended}
use Rattle.machine_model.specs.Machine.{Hart, World, Outcome, with_hart, moved, gone_on, stuck, drain_one, access, queue_limit, cleaned, fenced, with_holder}
use Rattle.machine_model.specs.Machine.{acquired, released, ended, called, applied, executed, hart_step}
use Rattle.machine_model.specs.Machine.{over_after, done_if_over, run_step, phase_step, stepped}
use Rattle.machine_model.specs.Machine.{has_stopped, happens, after_event, after_events, reply_to, start_of, started_anew, fresh_hart, anew, all_anew}
use Rattle.log_schemes.specs.Schemes.{numbers_from}
use Rattle.machine_model.specs.Schedule.{KeepsOn, Steps, has_moved, is_running, completing, is_mark}
use Rattle.machine_model.specs.Schedule.{passes_mark, with_begun, with_stored, with_kept, with_all_kept}
use Rattle.machine_model.specs.Schedule.{with_step, stores_point, steps_after, steps_along, releases_last, released_after, released_along}
use Rattle.machine_model.proofs.Public.{get-set_same, get-set_other, anew_found}
use Rattle.eviction_laws.specs.Evictions.{is_entering, NoneEnters, DifferInEvictions, no_more, both_step, one_evicts, other_evicts, step_replies, values_of}
use Rattle.eviction_laws.specs.Evictions.{DifferInDurability, HaveInCommon, EvictionsOnlyPersist, StartsEnterNone, OtherLivesEnterNone, LivesEnterNone}
use Rattle.eviction_laws.proofs.Values.{drained_values, evicted_values, same_live, same_loaded, same_stored, same_entry}

-- ---- Worlds that differ in what is durable alone

-- the hart of that number, where there is one, doesn't enter recovery
abbrev pub IsOut : World → (h : ℕ) → Type 0
IsOut w h = (hart : Hart) → slice_get w.harts h ≡ Some hart → is_entering hart.phase ≡ false

set_is : (w : World) (h : ℕ) (hart other : Hart) → slice_get (set w.harts h hart) h ≡ Some other → hart ≡ other
set_is w h hart other there = by_old (slice_get w.harts h) refl there
  where
    past : {A : Type 0} (xs : List A) (i : ℕ) (x : A) → slice_get xs i ≡ None → slice_get (set xs i x) i ≡ None
    past [] i x e = refl
    past (y ∷ ys) zero x e = absurd (let no : Some y ≡ None = e in cc)
    past (y ∷ ys) (suc i) x e = past ys i x e

    by_old : (old : Option Hart) → slice_get w.harts h ≡ old → slice_get (set w.harts h hart) h ≡ Some other → hart ≡ other
    by_old None e found = absurd (let no : None ≡ Some other = sym (past w.harts h hart e) ∙ found in cc)
    by_old (Some old) e found = let same : Some hart ≡ Some other = sym (get-set_same w.harts h hart old e) ∙ found in cc

out_set : (w : World) (h : ℕ) (hart : Hart) → is_entering hart.phase ≡ false → IsOut (with_hart w h hart) h
out_set w h hart out other there = ap (λ (x : Hart). is_entering x.phase) (sym (set_is w h hart other there)) ∙ out

-- an outcome of a step of hart h in each of two such worlds, of which w is one
pub record GoesAlike (w : World) (h : ℕ) (one other : Outcome) : Type 0 where
  pub reply : other.1 ≡ one.1
  pub worlds : DifferInDurability one.0 other.0
  pub out : IsOut one.0 h
  -- the other harts are as they were
  pub others : (g : ℕ) → g ≢ h → slice_get one.0.harts g ≡ slice_get w.harts g
  pub count : length one.0.harts ≡ length w.harts
  -- the step leaves all locks, or all words
  pub apart : (one.0.holders ≡ w.holders) ⊎ (one.0.words ≡ w.words)
  -- a hart that it stops holds nothing
  pub stops : (hart : Hart) → slice_get one.0.harts h ≡ Some hart → has_stopped hart.phase ≡ true → (holds_none one.0.holders h ≡ true) ⊎ (one.0 ≡ w)

pub alike_refl : (w : World) → DifferInDurability w w
alike_refl w = record { all_but_words = refl; values = refl }

alike_trans : (u v w : World) → DifferInDurability u v → DifferInDurability v w → DifferInDurability u w
alike_trans u v w a b = record {
  all_but_words = ap (λ (x : World). record x { words = u.words }) b.all_but_words ∙ a.all_but_words;
  values = b.values ∙ a.values;
}

-- the other world is the one with other words
with_words : World → List Word → World
with_words w ws = record w { words = ws }

other_is : (one other : World) → DifferInDurability one other → other ≡ with_words one other.words
unfolding with_words
other_is one other d = ap (λ (x : World). record x { words = other.words }) d.all_but_words

both : (w : World) (h : ℕ) (b : Bool) (o p o' p' : Outcome) → GoesAlike w h o p → GoesAlike w h o' p' → GoesAlike w h (cond b o o') (cond b p p')
both w h true o p o' p' first second = first
both w h false o p o' p' first second = second

module _ (w : World) (ws : List Word) (same : values_of ws ≡ values_of w.words) (h : ℕ) (out : IsOut w h) where
  v : World
  v = record w { words = ws }

  stays : (reply : Reply) → GoesAlike w h (w, reply) (v, reply)
  unfolding v
  stays reply = record {
    reply = refl;
    worlds = record { all_but_words = refl; values = same };
    out = out;
    others = λ g other. refl;
    count = refl;
    apart = inl refl;
    stops = λ hart there stopped. inr refl;
  }

  -- with other words in each, of the same values, and the same hart
  goes : (us vs : List Word) (hart : Hart) (reply : Reply) → values_of vs ≡ values_of us → is_entering hart.phase ≡ false →
      (has_stopped hart.phase ≡ true → holds_none w.holders h ≡ true) →
      GoesAlike w h (with_hart (record w { words = us }) h hart, reply) (with_hart (record v { words = vs }) h hart, reply)
  unfolding v
  goes us vs hart reply e phase stops = record {
    reply = refl;
    worlds = record { all_but_words = refl; values = e };
    out = out_set w h hart phase;
    others = λ g other. get-set_other w.harts h g hart other;
    count = length-set w.harts h hart;
    apart = inl refl;
    stops = λ other there stopped.
        inl (stops (ap (λ (x : Hart). has_stopped x.phase) (set_is w h hart other there) ∙ stopped));
  }

  locks : (lock : ℕ) (holder : Option ℕ) (hart : Hart) (reply : Reply) → hart.phase ≡ Run →
      GoesAlike w h (with_hart (with_holder w lock holder) h hart, reply) (with_hart (with_holder v lock holder) h hart, reply)
  unfolding v
  locks lock holder hart reply phase = record {
    reply = refl;
    worlds = record { all_but_words = refl; values = same };
    out = out_set (with_holder w lock holder) h hart (ap is_entering phase);
    others = λ g other. get-set_other w.harts h g hart other;
    count = length-set w.harts h hart;
    apart = inr refl;
    stops = λ other there stopped.
        absurd (let never : false ≡ true =
        ap has_stopped (sym phase) ∙ (ap (λ (x : Hart). has_stopped x.phase) (set_is (with_holder w lock holder) h hart other there) ∙ stopped) in cc);
  }

  module _ (hart : Hart) (phase : hart.phase ≡ Run) where
    goes_on : (us vs : List Word) (after : Hart) (reply : Reply) → values_of vs ≡ values_of us → after.phase ≡ hart.phase →
        GoesAlike w h (with_hart (record w { words = us }) h after, reply) (with_hart (record v { words = vs }) h after, reply)
    unfolding v
    goes_on us vs after reply e is =
        goes us vs after reply e (ap is_entering (is ∙ phase))
        (λ stopped. absurd (let never : false ≡ true = ap has_stopped (sym (is ∙ phase)) ∙ stopped in cc))

    drains : (queue : List Entry) → GoesAlike w h (drain_one w h hart queue) (drain_one v h hart queue)
    unfolding v
    drains [] = stays _
    drains (e ∷ es) =
        goes_on (drained w.words e) (drained ws e) (record hart { queue = es }) _ (drained_values ws e ∙ same ∙ sym (drained_values w.words e)) refl

    accesses : (address bytes : ℕ) (o p : Outcome) → GoesAlike w h o p → GoesAlike w h (access w address bytes o) (access v address bytes p)
    unfolding v
    accesses address bytes o p alike =
        both w h (in_range w.log (length w.harts) address bytes) _ _ _ _ (both w h (aligned address bytes) _ _ _ _ alike (stays _)) (stays _)

    cleans : (line : ℕ) → GoesAlike w h (cleaned w h hart line) (cleaned v h hart line)
    unfolding v
    cleans line =
        let entry : Entry → Outcome × Outcome = λ e. (
          moved w h (record (gone_on hart) { queue = hart.queue ++ e ∷ [] }),
          moved v h (record (gone_on hart) { queue = hart.queue ++ e ∷ [] }),
        ) in
        let alike : GoesAlike w h (entry (entry_of w.words line)).0 (entry (entry_of ws line)).1 =
        subst (λ (e : Entry). GoesAlike w h (entry (entry_of w.words line)).0 (entry e).1) (sym (same_entry w.words ws same line))
        (goes_on w.words ws (record (gone_on hart) { queue = hart.queue ++ entry_of w.words line ∷ [] }) _ same refl) in
        both w h (nat_lt (length hart.queue) 16) _ _ _ _ alike (drains hart.queue)

    acquires : (lock : ℕ) (holder : Option (Option ℕ)) → GoesAlike w h (acquired w h hart lock holder) (acquired v h hart lock holder)
    unfolding v
    acquires lock None = stays _
    acquires lock (Some None) = locks lock (Some h) (gone_on hart) _ phase
    acquires lock (Some (Some holder)) = stays _

    releases : (lock : ℕ) (holder : Option (Option ℕ)) → GoesAlike w h (released w h hart lock holder) (released v h hart lock holder)
    unfolding v
    releases lock None = stays _
    releases lock (Some holder) = both w h (is_held_by h holder) _ _ _ _ (locks lock None (gone_on hart) _ phase) (stays _)

    ends : (lock : Option ℕ) → least_held w.holders h ≡ lock → GoesAlike w h (ended w h hart lock) (ended v h hart lock)
    unfolding v
    ends None none = goes w.words ws (record (gone_on hart) { phase = Ended }) _ same refl (λ stopped. ap is_none none)
    ends (Some lock) some = stays _

    calls : (number lock : ℕ) → GoesAlike w h (called w h hart number lock) (called v h hart number lock)
    unfolding v
    calls number lock =
        both w h (number == 1) _ _ _ _ (acquires lock (slice_get w.holders lock))
        (both w h (number == 2) _ _ _ _ (releases lock (slice_get w.holders lock))
        (both w h (number == 3) _ _ _ _ (ends (least_held w.holders h) refl) (stays _)))

    fences : (queue : List Entry) → GoesAlike w h (fenced w h hart queue) (fenced v h hart queue)
    unfolding v
    fences [] = goes_on w.words ws (gone_on hart) _ same refl
    fences (e ∷ es) = drains (e ∷ es)

    applies : (effect : Effect) → GoesAlike w h (applied w h hart effect) (applied v h hart effect)
    unfolding v
    applies (Continues registers pc) = goes_on w.words ws (record hart { registers = registers; pc = pc }) _ same refl
    applies (Loads address bytes signed register) = accesses address bytes _ _ (
        let loads : ℕ → Hart = λ value.
        record (gone_on hart) { registers = written hart.registers register (load_result bytes signed value) } in
        subst (λ (value : ℕ). GoesAlike w h (moved w h (loads (loaded w.words (byte_number address) bytes))) (moved v h (loads value)))
        (sym (same_loaded w.words ws same (byte_number address) bytes))
        (goes_on w.words ws (loads (loaded w.words (byte_number address) bytes)) _ same refl))
    applies (Stores address bytes value) =
        accesses address bytes _ _
        (goes_on (stored w.words (byte_number address) bytes value) (stored ws (byte_number address) bytes value) (gone_on hart) _
        (same_stored w.words ws same (byte_number address) bytes value) refl)
    applies (Cleans address) = accesses address 1 _ _ (cleans (byte_number address / 64))
    applies Fences = fences hart.queue
    applies Calls = calls (read hart.registers 17) (read hart.registers 10)

    executes : (slot : Option Slot) → GoesAlike w h (executed w h hart slot) (executed v h hart slot)
    unfolding v
    executes None = stays _
    executes (Some (NoRow word)) = stays _
    executes (Some (Row instr)) = applies (row instr hart.registers hart.pc)

  -- whether the last lock was given back in recovery is the same in both
  settles_with : (o : World) (us : List Word) (reply : Reply) → GoesAlike w h (o, reply) (with_words o us, reply) → (hart : Option Hart) →
      GoesAlike w h (done_if_over w h hart o, reply) (done_if_over v h hart (with_words o us), reply)
  unfolding v with_words
  settles_with o us reply alike None = alike
  settles_with o us reply alike (Some hart) = by (over_after w o h) refl
    where
      done : Hart
      done = record hart { phase = Done }

      by : (over : Bool) → over_after w o h ≡ over →
          GoesAlike w h (cond over (with_hart o h done) o, reply) (cond over (with_hart (record o { words = us }) h done) (record o { words = us }), reply)
      by true over = record {
        reply = refl;
        worlds = record { all_but_words = refl; values = alike.worlds.values };
        out = out_set o h done refl;
        others = λ g other. get-set_other o.harts h g done other ∙ alike.others g other;
        count = length-set o.harts h done ∙ alike.count;
        apart = alike.apart;
        stops = λ other there stopped.
            inl (and_parts (not (holds_none w.holders h)) (holds_none o.holders h)
            (and_parts w.recovering (not (holds_none w.holders h) && holds_none o.holders h) over).1).1;
      }
      by false over = alike

  settles : (o p : Outcome) → GoesAlike w h o p →
      GoesAlike w h (done_if_over w h (slice_get o.0.harts h) o.0, o.1) (done_if_over v h (slice_get p.0.harts h) p.0, p.1)
  unfolding with_words
  settles o p alike =
      let whole : Outcome → Outcome = λ q. (done_if_over v h (slice_get q.0.harts h) q.0, q.1) in
      let is : p ≡ (with_words o.0 p.0.words, o.1) =
      ap (λ (x : World). (x, p.1)) (other_is o.0 p.0 alike.worlds) ∙ ap (λ (r : Reply). (with_words o.0 p.0.words, r)) alike.reply in
      let as_words : GoesAlike w h o (with_words o.0 p.0.words, o.1) = subst (λ (q : Outcome). GoesAlike w h o q) is alike in
      subst (λ (q : Outcome). GoesAlike w h (done_if_over w h (slice_get o.0.harts h) o.0, o.1) (whole q)) (sym is)
      (in_words o p.0.words as_words)
    where
      in_words : (o : Outcome) (us : List Word) → GoesAlike w h o (with_words o.0 us, o.1) →
          GoesAlike w h (done_if_over w h (slice_get o.0.harts h) o.0, o.1) (done_if_over v h (slice_get (with_words o.0 us).harts h) (with_words o.0 us), o.1)
      in_words o us alike = settles_with o.0 us o.1 alike (slice_get o.0.harts h)

  module _ (program : List (List Slot)) where
    by_phase : (hart : Hart) (phase : Phase) → hart.phase ≡ phase → is_entering phase ≡ false →
        GoesAlike w h (phase_step program w h hart phase) (phase_step program v h hart phase)
    unfolding v
    by_phase hart Take is apart = absurd (let none : true ≡ false = apart in cc)
    by_phase hart Wait is apart = absurd (let none : true ≡ false = apart in cc)
    by_phase hart Resume is apart = absurd (let none : true ≡ false = apart in cc)
    by_phase hart Run is apart =
        settles (hart_step program w h hart) (hart_step program v h hart) (executes hart is (fetched program h hart.pc))
    by_phase hart Done is apart = stays _
    by_phase hart Ended is apart = stays _

    steps : (hart : Option Hart) → slice_get w.harts h ≡ hart → GoesAlike w h (stepped program w h hart) (stepped program v h hart)
    unfolding v
    steps None e = stays _
    steps (Some hart) e = by_phase hart hart.phase refl (out hart e)

    happens_alike : GoesAlike w h (happens program w (Step h)) (happens program v (Step h))
    unfolding happens v
    happens_alike = steps (slice_get w.harts h) refl

-- ---- Steps, in any two such worlds

pub step_alike : (program : List (List Slot)) (w u : World) (h : ℕ) → IsOut w h → DifferInDurability w u →
    GoesAlike w h (happens program w (Step h)) (happens program u (Step h))
unfolding with_words v
step_alike program w u h out d =
    subst (λ (x : World). GoesAlike w h (happens program w (Step h)) (happens program x (Step h))) (sym (other_is w u d))
    (happens_alike w u.words d.values h out program)

-- where no hart enters recovery, a step leaves none that does
pub step_out : (program : List (List Slot)) (w : World) (h : ℕ) → NoneEnters w → NoneEnters (after_event program w (Step h))
step_out program w h all g hart there =
    let alike = step_alike program w w h (all h) (alike_refl w) in
    elim (cases_eq g h) [
      | inl is ↦ alike.out hart (ap (slice_get (after_event program w (Step h)).harts) (sym is) ∙ there)
      | inr other ↦ all g hart (sym (alike.others g other) ∙ there)
    ]

-- an eviction leaves a world that differs in what is durable alone
evicts_alike : (program : List (List Slot)) (w : World) (line mask : ℕ) → DifferInDurability w (after_event program w (Evict line mask))
unfolding happens
evicts_alike program w line mask = record { all_but_words = refl; values = evicted_values w.words line mask }

alike_sym : (u w : World) → DifferInDurability u w → DifferInDurability w u
alike_sym u w d = record { all_but_words = sym (ap (λ (x : World). record x { words = w.words }) d.all_but_words); values = sym d.values }

evicted_enters : (program : List (List Slot)) (w : World) (line mask : ℕ) → NoneEnters w → NoneEnters (after_event program w (Evict line mask))
unfolding happens
evicted_enters program w line mask out = out

-- none enters recovery by either list
pub stays_out : (program : List (List Slot)) (one other : List Event) → DifferInEvictions one other → (w : World) → NoneEnters w →
    NoneEnters (after_events program w one)
stays_out program _ _ no_more w out = out
stays_out program _ _ (both_step h one other rest) w out = stays_out program one other rest (after_event program w (Step h)) (step_out program w h out)
stays_out program _ _ (one_evicts line mask one other rest) w out =
    stays_out program one other rest (after_event program w (Evict line mask)) (evicted_enters program w line mask out)
stays_out program _ _ (other_evicts line mask one other rest) w out = stays_out program one other rest w out

-- ---- Begun steps

kept_begun : (log : Log) (words : List Word) (count : ℕ) (s : Steps) → (with_all_kept log words count s).begun ≡ s.begun
kept_begun log words zero s = refl
kept_begun log words (suc h) s = kept_begun log words h s

counted_begun : (begun points : Bool) (h position : ℕ) (s : Steps) →
    (let started = if begun then with_begun h s else s in if points then with_stored h position started else started).begun
    ≡ (if begun then s.begun ++ h ∷ [] else s.begun)
counted_begun false false h position s = refl
counted_begun false true h position s = refl
counted_begun true false h position s = refl
counted_begun true true h position s = refl

-- whether a step passes a mark, by the hart and the reply
passes_by : List (List ℕ) → (h : ℕ) → Option Hart → Reply → Bool
passes_by marks h slot reply =
    let completed : Option Hart = elim slot [ Some hart ↦ if is_running hart.phase && has_moved reply then Some hart else None | None ↦ None ] in
    elim completed [ Some hart ↦ is_mark marks h hart.pc | None ↦ false ]

module _ (marks : List (List ℕ)) (program : List (List Slot)) where
  passes_is : (w : World) (h : ℕ) → passes_mark marks program w h ≡ passes_by marks h (slice_get w.harts h) (reply_to program w (Step h))
  unfolding passes_by
  passes_is w h = refl

  step_begun : (w : World) (h : ℕ) (s : Steps) →
      (steps_after marks program w (Step h) s).begun ≡ (if passes_mark marks program w h then s.begun ++ h ∷ [] else s.begun)
  unfolding steps_after
  step_begun w h s =
      kept_begun w.log (after_event program w (Step h)).words (length program) (with_step marks program w h s)
      ∙ counted_begun (passes_mark marks program w h) (stores_point program w (Step h) h) h
      (last_position (word_at (after_event program w (Step h)).words (word_number (point_at w.log h)))) s

  evicted_begun : (w : World) (line mask : ℕ) (s : Steps) → (steps_after marks program w (Evict line mask) s).begun ≡ s.begun
  unfolding steps_after
  evicted_begun w line mask s = kept_begun w.log (after_event program w (Evict line mask)).words (length program) s

  module _ (w u : World) (out : NoneEnters w) (d : DifferInDurability w u) where
    same_harts : u.harts ≡ w.harts
    same_harts = ap (λ (x : World). x.harts) d.all_but_words

    alike : (h : ℕ) → GoesAlike w h (happens program w (Step h)) (happens program u (Step h))
    alike h = step_alike program w u h (out h) d

    same_passes : (h : ℕ) → passes_mark marks program u h ≡ passes_mark marks program w h
    same_passes h =
        passes_is u h ∙ ap (λ (harts : List Hart). passes_by marks h (slice_get harts h) (reply_to program u (Step h))) same_harts
        ∙ ap (passes_by marks h (slice_get w.harts h)) (alike h).reply ∙ sym (passes_is w h)

    same_begun : (h : ℕ) (s t : Steps) → t.begun ≡ s.begun → (steps_after marks program u (Step h) t).begun ≡ (steps_after marks program w (Step h) s).begun
    same_begun h s t e =
        step_begun u h t ∙ ap (λ (b : Bool). if b then t.begun ++ h ∷ [] else t.begun) (same_passes h)
        ∙ ap (λ (begun : List ℕ). if passes_mark marks program w h then begun ++ h ∷ [] else begun) e ∙ sym (step_begun w h s)

    -- ---- Releases

    same_holders : (x y : World) → DifferInDurability x y → y.holders ≡ x.holders
    same_holders x y e = ap (λ (z : World). z.holders) e.all_but_words

    same_releases : (g h : ℕ) → releases_last program u (Step g) h ≡ releases_last program w (Step g) h
    same_releases g h =
        ap (λ (holders : List (Option ℕ)). (g == h) && (not (holds_none holders h) && holds_none (after_event program u (Step h)).holders h))
        (same_holders w u d)
        ∙ ap (λ (holders : List (Option ℕ)). (g == h) && (not (holds_none w.holders h) && holds_none holders h))
        (same_holders _ _ (alike h).worlds)

-- ---- Lists of events

record Common (marks : List (List ℕ)) (program : List (List Slot)) (w u : World) (s t : Steps) (one other : List Event) : Type 0 where
  replies : step_replies program u other ≡ step_replies program w one
  worlds : DifferInDurability (after_events program w one) (after_events program u other)
  begun : (steps_along marks program u other t).begun ≡ (steps_along marks program w one s).begun
  released : (h before : ℕ) → released_along program u other h before ≡ released_along program w one h before

module _ (marks : List (List ℕ)) (program : List (List Slot)) where
  along : (one other : List Event) → DifferInEvictions one other → (w u : World) (s t : Steps) → NoneEnters w → DifferInDurability w u → t.begun ≡ s.begun →
      Common marks program w u s t one other
  along _ _ no_more w u s t out d e = record { replies = refl; worlds = d; begun = e; released = λ h before. refl }
  along _ _ (both_step h one other rest) w u s t out d e =
      let same = alike marks program w u out d h in
      let more = along one other rest (after_event program w (Step h)) (after_event program u (Step h)) (steps_after marks program w (Step h) s)
      (steps_after marks program u (Step h) t) (step_out program w h out) same.worlds (same_begun marks program w u out d h s t e) in
      record {
        replies = ap (λ (r : Reply). r ∷ step_replies program (after_event program u (Step h)) other) same.reply
            ∙ ap (λ (rs : List Reply). reply_to program w (Step h) ∷ rs) more.replies;
        worlds = more.worlds;
        begun = more.begun;
        released = λ g before.
            ap (λ (b : Bool). released_along program (after_event program u (Step h)) other g (before + (if b then 1 else 0)))
            (same_releases marks program w u out d h g)
            ∙ more.released g (before + (if releases_last program w (Step h) g then 1 else 0));
      }
  along _ _ (one_evicts line mask one other rest) w u s t out d e =
      let v = after_event program w (Evict line mask) in
      let nearer : DifferInDurability v u = alike_trans v w u (alike_sym w v (evicts_alike program w line mask)) d in
      let more = along one other rest v u (steps_after marks program w (Evict line mask) s) t (evicted_enters program w line mask out) nearer
      (e ∙ sym (evicted_begun marks program w line mask s)) in
      record {
        replies = more.replies;
        worlds = more.worlds;
        begun = more.begun;
        released = λ h before. more.released h before ∙ ap (released_along program v one h) (sym (add-zero before));
      }
  along _ _ (other_evicts line mask one other rest) w u s t out d e =
      let v = after_event program u (Evict line mask) in
      let nearer : DifferInDurability w v = alike_trans w u v d (evicts_alike program u line mask) in
      let more = along one other rest w v s (steps_after marks program u (Evict line mask) t) out nearer (evicted_begun marks program u line mask t ∙ e) in
      record {
        replies = more.replies;
        worlds = more.worlds;
        begun = more.begun;
        released = λ h before. ap (released_along program v other h) (add-zero before) ∙ more.released h before;
      }

pub evictions_only_persist : EvictionsOnlyPersist
evictions_only_persist marks program w s one other out differ =
    let common = along marks program one other differ w w s s out (alike_refl w) refl in
    record {
      replies = common.replies;
      worlds = common.worlds;
      live = same_live (after_events program w one).words (after_events program w other).words common.worlds.values;
      begun = common.begun;
      released = common.released;
    }

-- ---- Where no hart enters recovery

fresh_out : (program : List (List Slot)) (at count h : ℕ) (hart : Hart) → slice_get (map (fresh_hart program Run) (numbers_from at count)) h ≡ Some hart →
    is_entering hart.phase ≡ false
fresh_out program at zero h hart e = absurd (let no : None ≡ Some hart = e in cc)
fresh_out program at (suc count) zero hart e =
    let is : fresh_hart program Run at ≡ hart = cc in
    ap (λ (x : Hart). is_entering x.phase) (sym is)
fresh_out program at (suc count) (suc h) hart e = fresh_out program (at + 1) count h hart e

pub starts_enter_none : StartsEnterNone
unfolding start_of
starts_enter_none log program locks initial h hart there = fresh_out program 0 (length program) h hart there

pub others_enter_none : OtherLivesEnterNone
others_enter_none program w h hart there =
    let was = anew_found program 0 w.harts h hart there in
    ap (λ (x : Hart). is_entering x.phase) was.is

pub lives_enter_none : LivesEnterNone
lives_enter_none program w (Step h) on out = step_out program w h out
lives_enter_none program w (Evict line mask) on out = evicted_enters program w line mask out
lives_enter_none program w Crash on out = absurd on
lives_enter_none program w Start on out = absurd on
