-- Whatever leaves a log unstored keeps it: words are persisted, and what is queued still reaches as far.
use Rattle.std.proofs.Common.{◌≡◌, ◌≢◌, ◌⊎◌, inl, inr, ℕ, ◌^◌, ◌<◌, List, [], map, length, arith, ap, sym, ◌∙◌, subst, add-zero, cond, eqb}
use Rattle.std.proofs.lemmas.Bool.{cond_both}
use Rattle.std.proofs.lemmas.List.Elements.{Contains-append_cases}
use Rattle.std.specs.List.{Contains}
use Rattle.log_schemes.specs.declared.log.Log.{Log}
use Rattle.ido_base.specs.Words.{Word, word_at, last_position}
use Rattle.ido_base.specs.Growth.{IsPersisted, PersistsThrough}
use Rattle.ido_base.specs.Layout.{word_number}
use Rattle.log_schemes.specs.Layout.{log_words, point_at}
use Rattle.ido_base.proofs.Public.{same_last}
use Rattle.rv64_isa.specs.Rows.{read}
use Rattle.machine_model.specs.Machine.{bank_of}
use Rattle.boundary_code.specs.Boundaries.{pairs_kept, slots_kept}
use Rattle.log_schemes.specs.Schemes.{kept_locks, register_slot, told}
use Rattle.log_states.specs.Logs.{Record, slots_of, value_of, IsInBank, IsRecord, log_word, bank_word, point_in, slot_in, HasLog}
use Rattle.log_schemes.specs.SchemeFacts.{frame_index, slot_index}
use Rattle.log_states.specs.Logs.{IsUnstored, HasBank, IsRecorded}
use Rattle.log_states.specs.Logs.{AreNamed, HasFrame, IsFrameWord, framed_of, frame_in, frame_word}
use Rattle.log_states.specs.Stages.{IsFlushing, FrameToClean, FrameQueued}
use Rattle.log_states.specs.Stages.{LogConfig, IsComing, ToStore, ToClean, Queued, IsPointed, Stage, Writing, Written, Pointed, PointQueued, Over, MayOverwrite}
use Rattle.log_states.proofs.Lists.{slots_in, HasSlot, has_slot}
use Rattle.log_schemes.proofs.Public.{contains_none}
use Rattle.log_schemes.proofs.Public.{locks_kept, scheme}
use Rattle.log_states.proofs.KeptRecords.{HasRegister, has_register, pair_value, register_value}
use Rattle.log_states.proofs.Numbers.{frame_in_log, frame_inside, slot_in_log, some_words}
use Rattle.log_states.proofs.Words.{persisted_live, persisted_at, persisted_word, persisted_durable}

-- ---- Slots of a record

-- a slot keeps locks, is told of a write, or keeps a register
pub slot_cases : (log : Log) (r : Record) (slot : ℕ) → Contains (slots_of log r) slot →
    HasSlot (pairs_kept log r.locks r.written) slot ⊎ HasRegister log r.live slot
slot_cases log r slot = cond_both (eqb r.point 0) [] (slots_kept log r.locks r.written r.live)
    (λ slots. Contains slots slot → HasSlot (pairs_kept log r.locks r.written) slot ⊎ HasRegister log r.live slot)
    (λ _ c. absurd (contains_none slot c))
    (λ _ c. elim (Contains-append_cases (slots_in (pairs_kept log r.locks r.written)) (map (register_slot log) r.live) slot c) [
      | inl locks ↦ inl (has_slot (pairs_kept log r.locks r.written) slot locks)
      | inr live ↦ inr (has_register log r.live slot live)
    ])

pub has_point : (log : Log) (r : Record) (slot : ℕ) → Contains (slots_of log r) slot → r.point ≢ 0
has_point log r slot c is = contains_none slot (subst (λ (n : ℕ). Contains (cond (eqb n 0) [] (slots_kept log r.locks r.written r.live)) slot) is c)

pub bank_below : (point : ℕ) → bank_of point < 2
bank_below point = omega arith

module _ (log : Log) (r : Record) (slot : ℕ) (is : IsRecord log r) (c : Contains (slots_of log r) slot) where
  pair_fits : (pair : ℕ × ℕ) → Contains (pairs_kept log r.locks r.written) pair → IsInBank log pair.0 × (pair.1 < 2 ^ 64)
  pair_fits pair own = elim (Contains-append_cases (kept_locks log r.locks) (told log r.written) pair own) [
    | inl lock ↦ let kept = (locks_kept log).each r.locks pair is.locks lock in (kept.slot, kept.value)
    | inr write ↦ (((scheme log).told.own r.written pair write).exists, is.told pair write)
  ]

  pub slot_in_bank : IsInBank log slot
  slot_in_bank = elim (slot_cases log r slot c) [
    | inl h ↦ subst (IsInBank log) (sym h.is) (pair_fits h.pair h.own).0
    | inr h ↦ subst (IsInBank log) (sym h.is) ((scheme log).apart.register h.register (is.live h.register h.own)).exists
  ]

  pub value_below : value_of log r slot < 2 ^ 64
  value_below = elim (slot_cases log r slot c) [
    | inl h ↦
        let small = (pair_fits h.pair h.own).1 in
        let has : value_of log r slot ≡ h.pair.1 = ap (λ (s : ℕ). value_of log r s) h.is ∙ pair_value log r is.locks is.live is.for_write h.pair h.own in
        omega (arith, has, small)
    | inr h ↦
        let small = is.registers h.register h.own in
        let has : value_of log r slot ≡ read r.registers h.register =
        ap (λ (s : ℕ). value_of log r s) h.is ∙ register_value log r is.locks is.live is.for_write h.register h.own in
        omega (arith, has, small)
  ]

  -- a slot of a record's bank is a word of the log
  pub slot_word : (thread : ℕ) → (i : ℕ) × (i < log_words log) × (bank_word log thread (bank_of r.point) slot ≡ log_word log thread i)
  slot_word thread = (
    slot_index log (bank_of r.point) slot,
    (scheme log).stands.inside (bank_of r.point) slot (bank_below r.point) slot_in_bank,
    slot_in_log log thread (bank_of r.point) slot,
  )

pub point_index : (log : Log) (thread : ℕ) → word_number (point_at log thread) ≡ log_word log thread 0
point_index log thread = sym (add-zero (word_number (point_at log thread)))

-- ---- What holds of all words of the log

module _ (log : Log) (thread : ℕ) (P : ℕ → Type 0) (all : (i : ℕ) → i < log_words log → P (log_word log thread i)) where
  pub of_point : P (word_number (point_at log thread))
  of_point = subst P (sym (point_index log thread)) (all 0 (some_words log))

  pub of_slot : (r : Record) (slot : ℕ) → IsRecord log r → Contains (slots_of log r) slot → P (bank_word log thread (bank_of r.point) slot)
  of_slot r slot is c = let i = slot_word log r slot is c thread in subst P (sym i.2) (all i.0 i.1)

  pub of_frame : (word : ℕ) → IsFrameWord log word → P (frame_word log thread word)
  of_frame word is = subst P (sym (frame_in_log log thread word)) (all (frame_index word) (frame_inside log word is))

-- ---- A log that isn't stored to

module _ (log : Log) (thread : ℕ) (named : List ℕ) (old new : List Word) (size : length new ≡ length old)
    (unstored : IsUnstored log thread named old new) where
  -- a word that is none of the frame, or is named
  persisted_unless : (i : ℕ) → i < log_words log → ((word : ℕ) → i ≡ frame_index word → IsFrameWord log word → Contains named word) →
      IsPersisted (word_at old (log_word log thread i)) (word_at new (log_word log thread i))
  persisted_unless i below names = elim (unstored i below) [
    | inl persisted ↦ persisted
    | inr other ↦ absurd (other.0.unnamed (names other.0.word other.0.is other.0.in_frame))
  ]

  pub point_persisted : IsPersisted (point_in log old thread) (point_in log new thread)
  point_persisted = subst (λ (j : ℕ). IsPersisted (word_at old j) (word_at new j)) (sym (point_index log thread))
      (persisted_unless 0 (some_words log) (λ word same is. absurd (omega (arith, same))))

  slot_persisted : (r : Record) (slot : ℕ) → IsRecord log r → Contains (slots_of log r) slot →
      IsPersisted (slot_in log old thread r slot) (slot_in log new thread r slot)
  slot_persisted r slot is c =
      let i = slot_word log r slot is c thread in
      subst (λ (j : ℕ). IsPersisted (word_at old j) (word_at new j)) (sym i.2)
      (persisted_unless i.0 i.1 (λ word same frame. absurd ((scheme log).frame.apart word (bank_of r.point) slot frame.frame frame.exists (bank_below r.point)
      (slot_in_bank log r slot is c) (omega (arith, same, i.2, slot_in_log log thread (bank_of r.point) slot)))))

  frame_persisted : (word : ℕ) → IsFrameWord log word → Contains named word → IsPersisted (frame_in log old thread word) (frame_in log new thread word)
  frame_persisted word is c = subst (λ (j : ℕ). IsPersisted (word_at old j) (word_at new j)) (sym (frame_in_log log thread word))
      (persisted_unless (frame_index word) (frame_inside log word is)
      (λ other same frame. subst (Contains named) (let e : word ≡ other = omega (arith, same) in e) c))

  pub log_stays : HasLog log thread old → HasLog log thread new
  log_stays h = record {
    exists = omega (arith, h.exists, size);
    each = λ i below. elim (unstored i below) [
      | inl persisted ↦ persisted_word (word_at old (log_word log thread i)) (word_at new (log_word log thread i)) persisted (h.each i below)
      | inr other ↦ other.1 (h.each i below)
    ];
  }

  pub bank_stays : (r : Record) → IsRecord log r → HasBank log thread r old → HasBank log thread r new
  bank_stays r is b slot c =
      persisted_durable (slot_in log old thread r slot) (slot_in log new thread r slot) (value_of log r slot) (slot_persisted r slot is c) (b slot c)

  pub frame_stays : (r : Record) → IsRecord log r → AreNamed named r → HasFrame log thread r old → HasFrame log thread r new
  frame_stays r is names f word c =
      persisted_durable (frame_in log old thread word) (frame_in log new thread word) (r.frame word)
      (frame_persisted word (is.framed word c) (names word c)) (f word c)

  pub recorded_stays : (r : Record) → IsRecord log r → AreNamed named r → IsRecorded log thread r old → IsRecorded log thread r new
  recorded_stays r is names h = record {
    point = persisted_durable (point_in log old thread)
        (point_in log new thread) r.point point_persisted h.point;
    bank = bank_stays r is h.bank;
    frame = frame_stays r is names h.frame;
  }

  pointed_stays : (one other : Record) → MayOverwrite log one other → AreNamed named one → AreNamed named other → IsPointed log thread one other old →
      IsPointed log thread one other new
  pointed_stays one other f names also h = record {
    before = λ p from below. persisted_at (point_in log old thread) (point_in log new thread) point_persisted p
        ∙ h.before p (omega (arith, from, point_persisted.no_lower))
        (omega (arith, below, same_last (point_in log old thread) (point_in log new thread) point_persisted));
    last = persisted_live (point_in log old thread) (point_in log new thread) point_persisted ∙ h.last;
    old_bank = bank_stays one f.old_is h.old_bank;
    new_bank = bank_stays other f.new_is h.new_bank;
    old_frame = frame_stays one f.old_is names h.old_frame;
    new_frame = frame_stays other f.new_is also h.new_frame;
  }

-- ---- Where what is queued reaches as far

module _ (log : Log) (thread : ℕ) (named : List ℕ) (m n : LogConfig) (size : length n.words ≡ length m.words)
    (unstored : IsUnstored log thread named m.words n.words)
    (reach : (j position : ℕ) → PersistsThrough m.words m.queue j position → PersistsThrough n.words n.queue j position) (rest : n.rest ≡ m.rest) where
  coming_stays : (r : Record) (slots lines : List ℕ) (slot : ℕ) → IsRecord log r → Contains (slots_of log r) slot → IsComing log thread r slots lines m slot →
      IsComing log thread r slots lines n slot
  coming_stays r slots lines slot is c (ToStore h) = ToStore h
  coming_stays r slots lines slot is c (ToClean live h) =
      ToClean (persisted_live (slot_in log m.words thread r slot) (slot_in log n.words thread r slot)
      (slot_persisted log thread named m.words n.words size unstored r slot is c) ∙ live) h
  coming_stays r slots lines slot is c (Queued live h) =
      let persisted = slot_persisted log thread named m.words n.words size unstored r slot is c in
      Queued (persisted_live (slot_in log m.words thread r slot) (slot_in log n.words thread r slot) persisted ∙ live)
      (subst (λ (p : ℕ). PersistsThrough n.words n.queue (bank_word log thread (bank_of r.point) slot) p)
      (sym (same_last (slot_in log m.words thread r slot) (slot_in log n.words thread r slot) persisted))
      (reach (bank_word log thread (bank_of r.point) slot) (last_position (slot_in log m.words thread r slot)) h))

  flushing_stays : (r : Record) (framing : List ℕ) (word : ℕ) → IsRecord log r → AreNamed named r → Contains (framed_of r) word →
      IsFlushing log thread r framing m word → IsFlushing log thread r framing n word
  flushing_stays r framing word is names c (FrameToClean live h) =
      FrameToClean (persisted_live (frame_in log m.words thread word) (frame_in log n.words thread word)
      (frame_persisted log thread named m.words n.words size unstored word (is.framed word c) (names word c)) ∙ live) h
  flushing_stays r framing word is names c (FrameQueued live h) =
      let persisted = frame_persisted log thread named m.words n.words size unstored word (is.framed word c) (names word c) in
      FrameQueued (persisted_live (frame_in log m.words thread word) (frame_in log n.words thread word) persisted ∙ live)
      (subst (λ (p : ℕ). PersistsThrough n.words n.queue (frame_word log thread word) p)
      (sym (same_last (frame_in log m.words thread word) (frame_in log n.words thread word) persisted))
      (reach (frame_word log thread word) (last_position (frame_in log m.words thread word)) h))

  pub stage_stays : (old new : Record) → MayOverwrite log old new → AreNamed named old → AreNamed named new → Stage log thread old new m →
      Stage log thread old new n
  stage_stays old new f names also (Writing slots lines framing w h) = Writing slots lines framing (record {
    rest = rest ∙ w.rest;
    own = w.own;
    after = w.after;
    exist = w.exist;
    each = λ slot c. coming_stays new slots lines slot f.new_is c (w.each slot c);
    frame_lines_exist = w.frame_lines_exist;
    framed = λ word c. flushing_stays new framing word f.new_is also c (w.framed word c);
  }) (recorded_stays log thread named m.words n.words size unstored old f.old_is names h)
  stage_stays old new f names also (Written e h b g) =
      Written (rest ∙ e) (recorded_stays log thread named m.words n.words size unstored old f.old_is names h)
      (bank_stays log thread named m.words n.words size unstored new f.new_is b)
      (frame_stays log thread named m.words n.words size unstored new f.new_is also g)
  stage_stays old new f names also (Pointed e h) = Pointed (rest ∙ e) (pointed_stays log thread named m.words n.words size unstored old new f names also h)
  stage_stays old new f names also (PointQueued e h r) =
      let persisted = point_persisted log thread named m.words n.words size unstored in
      PointQueued (rest ∙ e) (pointed_stays log thread named m.words n.words size unstored old new f names also h)
      (subst (λ (p : ℕ). PersistsThrough n.words n.queue (word_number (point_at log thread)) p)
      (sym (same_last (point_in log m.words thread) (point_in log n.words thread) persisted))
      (reach (word_number (point_at log thread)) (last_position (point_in log m.words thread)) r))
  stage_stays old new f names also (Over e h) = Over (rest ∙ e) (recorded_stays log thread named m.words n.words size unstored new f.new_is also h)
