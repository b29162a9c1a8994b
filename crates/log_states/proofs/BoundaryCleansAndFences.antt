-- A boundary's own cleans and fences.
use Rattle.std.proofs.Common.{◌≡◌, inl, inr, ℕ, ◌+◌, ◌*◌, ◌/◌, ◌%◌, ◌<◌, ◌≤◌, List, [], ◌∷◌, ◌++◌, length, refl, ap, arith, sym, ◌∙◌, subst}
use Rattle.std.specs.List.{Contains}
use Rattle.log_schemes.specs.declared.log.Log.{Log}
use Rattle.ido_base.specs.Words.{Word, Entry, word_at, last_position, live_value, entry_of}
use Rattle.ido_base.specs.Growth.{AreEntries, PersistsThrough}
use Rattle.ido_base.specs.Layout.{byte_number, word_number}
use Rattle.log_schemes.specs.Layout.{frame_at, point_at, slot_at}
use Rattle.ido_base.proofs.Public.{reach_stays, cleans_reach, changed_refl, clean_entry, entries_append}
use Rattle.rv64_isa.specs.Rows.{Cleans, Fences}
use Rattle.machine_model.specs.Machine.{bank_of}
use Rattle.log_states.specs.Logs.{Record, slots_of, value_of, bank_word, point_in, slot_in, IsWord, IsDurable, HasBank, IsRecorded}
use Rattle.log_states.specs.Stages.{LogConfig, IsComing, ToStore, ToClean, Queued, IsWriting, IsPointed, Stage, Writing, Written, Pointed, PointQueued, Over}
use Rattle.log_states.specs.Stages.{LogIs, IsFlushing, FrameToClean, FrameQueued}
use Rattle.log_states.specs.Logs.{HasFrame, framed_of, frame_in, frame_word}
use Rattle.log_schemes.proofs.Public.{contains_none, contains_cases, contains_first, contains_later}
use Rattle.log_states.proofs.Heads.{no_head, not_done, same_address, same_rest}
use Rattle.log_states.proofs.Numbers.{bank_line, bank_line_exists, slot_in_line, point_line, point_line_exists, frame_line, frame_line_exists, word_in_line}
use Rattle.log_states.proofs.UnstoredLogStays.{bank_below, of_frame, of_slot, of_point}

-- ---- A clean

-- each word of the line is reached, and each other as far as before
pub record IsCleaned (words : List Word) (before after : List Entry) (line : ℕ) : Type 0 where
  pub entries : AreEntries words after
  pub here : (k : ℕ) → k < 8 → PersistsThrough words after (8 * line + k) (last_position (word_at words (8 * line + k)))
  pub stays : (j position : ℕ) → PersistsThrough words before j position → PersistsThrough words after j position

pub cleaned_line : (words : List Word) (queue : List Entry) (line : ℕ) → 8 * line + 8 ≤ length words → AreEntries words queue →
    IsCleaned words queue (queue ++ entry_of words line ∷ []) line
cleaned_line words queue line exists entries = record {
  entries = entries_append words queue (entry_of words line) entries (clean_entry words line exists);
  here = λ k below. (cleans_reach words queue line k exists below entries).1;
  stays = λ j position h. reach_stays words words queue (entry_of words line ∷ []) j position (changed_refl words) h;
}

module _ {log : Log} {thread : ℕ} {old new : Record} {m : LogConfig} (l : LogIs log thread old new m) (n : LogConfig) (address : ℕ)
    (does : m.rest ≡ Cleans address ∷ n.rest) (words : n.words ≡ m.words) (queue : n.queue ≡ m.queue ++ entry_of m.words (byte_number address / 64) ∷ []) where
  open l use {log as has, queue as entries}

  does_clean : (place line : ℕ) → address ≡ place → byte_number place / 64 ≡ line → 8 * line + 8 ≤ length m.words → IsCleaned n.words m.queue n.queue line
  does_clean place line same is exists =
      let e : m.queue ++ entry_of m.words line ∷ [] ≡ n.queue =
      ap (λ (l : ℕ). m.queue ++ entry_of m.words l ∷ []) (sym is ∙ ap (λ (a : ℕ). byte_number a / 64) (sym same)) ∙ sym queue in
      subst (λ (ws : List Word). IsCleaned ws m.queue n.queue line) (sym words)
      (subst (λ (q : List Entry). IsCleaned m.words m.queue q line) e (cleaned_line m.words m.queue line exists entries))

  -- words are as they were
  cleaned_words : (P : List Word → Type 0) → P m.words → P n.words
  cleaned_words P h = subst P (sym words) h

  -- a slot of the line, and one of another
  cleaned_slot : (line : ℕ) (lines : List ℕ) (slot : ℕ) → IsCleaned n.words m.queue n.queue (bank_line log thread (bank_of new.point) line)
      → IsComing log thread new [] (line ∷ lines) m slot → IsComing log thread new [] lines n slot
  cleaned_slot line lines slot c (ToStore h) = absurd (contains_none slot h)
  cleaned_slot line lines slot c (ToClean live h) =
      let holds : live_value (slot_in log n.words thread new slot) ≡ value_of log new slot =
      cleaned_words (λ ws. live_value (slot_in log ws thread new slot) ≡ value_of log new slot) live in
      elim (contains_cases line lines (slot / 8) h) [
        | inl is ↦
            let place : 8 * bank_line log thread (bank_of new.point) line + slot % 8 ≡ bank_word log thread (bank_of new.point) slot =
            slot_in_line log thread (bank_of new.point) slot line is in
            Queued holds (subst (λ (j : ℕ). PersistsThrough n.words n.queue j (last_position (word_at n.words j))) place (c.here (slot % 8) (omega arith)))
        | inr more ↦ ToClean holds more
      ]
  cleaned_slot line lines slot c (Queued live h) =
      Queued (cleaned_words (λ ws. live_value (slot_in log ws thread new slot) ≡ value_of log new slot) live)
      (c.stays (bank_word log thread (bank_of new.point) slot) (last_position (slot_in log n.words thread new slot))
      (cleaned_words (λ ws. PersistsThrough ws m.queue (bank_word log thread (bank_of new.point) slot) (last_position (slot_in log ws thread new slot))) h))

  -- a slot that was reached, and a word of the frame
  reached_slot : (line : ℕ) (slot : ℕ) → IsCleaned n.words m.queue n.queue line → IsComing log thread new [] [] m slot → IsComing log thread new [] [] n slot
  reached_slot line slot c (ToStore h) = absurd (contains_none slot h)
  reached_slot line slot c (ToClean live h) = absurd (contains_none (slot / 8) h)
  reached_slot line slot c (Queued live h) =
      Queued (cleaned_words (λ ws. live_value (slot_in log ws thread new slot) ≡ value_of log new slot) live)
      (c.stays (bank_word log thread (bank_of new.point) slot) (last_position (slot_in log n.words thread new slot))
      (cleaned_words (λ ws. PersistsThrough ws m.queue (bank_word log thread (bank_of new.point) slot) (last_position (slot_in log ws thread new slot))) h))

  module _ (word : ℕ) where
    live_stays : live_value (frame_in log m.words thread word) ≡ new.frame word → live_value (frame_in log n.words thread word) ≡ new.frame word
    live_stays live = cleaned_words (λ ws. live_value (frame_in log ws thread word) ≡ new.frame word) live

    -- what was queued
    still_queued : (line : ℕ) (framing : List ℕ) → IsCleaned n.words m.queue n.queue line → live_value (frame_in log m.words thread word) ≡ new.frame word →
        PersistsThrough m.words m.queue (frame_word log thread word) (last_position (frame_in log m.words thread word)) →
        IsFlushing log thread new framing n word
    still_queued line framing c live h =
        FrameQueued (live_stays live)
        (c.stays (frame_word log thread word) (last_position (frame_in log n.words thread word))
        (cleaned_words (λ ws. PersistsThrough ws m.queue (frame_word log thread word) (last_position (frame_in log ws thread word))) h))

    -- a line of the bank is cleaned, or one of the frame
    other_flushing : (line : ℕ) (framing : List ℕ) → IsCleaned n.words m.queue n.queue line → IsFlushing log thread new framing m word →
        IsFlushing log thread new framing n word
    other_flushing line framing c (FrameToClean live h) = FrameToClean (live_stays live) h
    other_flushing line framing c (FrameQueued live h) = still_queued line framing c live h

    cleaned_flushing : (line : ℕ) (framing : List ℕ) → IsCleaned n.words m.queue n.queue (frame_line log thread line) →
        IsFlushing log thread new (line ∷ framing) m word → IsFlushing log thread new framing n word
    cleaned_flushing line framing c (FrameToClean live h) = elim (contains_cases line framing (word / 8) h) [
      | inl is ↦ FrameQueued (live_stays live) (subst (λ (j : ℕ). PersistsThrough n.words n.queue j (last_position (word_at n.words j)))
          (word_in_line log thread word line is) (c.here (word % 8) (omega arith)))
      | inr more ↦ FrameToClean (live_stays live) more
    ]
    cleaned_flushing line framing c (FrameQueued live h) = still_queued (frame_line log thread line) framing c live h

  cleans : (slots lines framing : List ℕ) → IsWriting log thread new slots lines framing m → IsRecorded log thread old m.words →
      AreEntries n.words n.queue × Stage log thread old new n
  cleans (slot ∷ slots) lines framing w h = absurd (no_head _ _ _ _ (sym does ∙ w.rest) (omega arith))
  cleans [] [] [] w h = absurd (no_head _ _ _ _ (sym does ∙ w.rest) (omega arith))
  cleans [] [] (line ∷ framing) w h =
      let e = sym does ∙ w.rest in
      let is = w.frame_lines_exist line (contains_first line framing) in
      let exists : 8 * frame_line log thread line + 8 ≤ length m.words = omega (arith, has.exists, frame_line_exists log thread line is) in
      let c = does_clean (frame_at log thread (8 * line)) (frame_line log thread line) (same_address _ _ _ _ e) refl exists in (
        c.entries,
        Writing [] [] framing (record {
          rest = same_rest _ _ _ _ e;
          own = w.own;
          after = w.after;
          exist = w.exist;
          each = λ slot d. reached_slot (frame_line log thread line) slot c (w.each slot d);
          frame_lines_exist = λ l d. w.frame_lines_exist l (contains_later line framing l d);
          framed = λ word d. cleaned_flushing word line framing c (w.framed word d);
        }) (cleaned_words (IsRecorded log thread old) h),
      )
  cleans [] (line ∷ lines) framing w h =
      let e = sym does ∙ w.rest in
      let bank : ℕ = bank_of new.point in
      let exists : 8 * bank_line log thread bank line + 8 ≤ length m.words =
      omega (arith, has.exists, bank_line_exists log thread bank line (bank_below new.point) (w.exist line (contains_first line lines))) in
      let c = does_clean (slot_at log thread bank (8 * line)) (bank_line log thread bank line) (same_address _ _ _ _ e) refl exists in (
        c.entries,
        Writing [] lines framing (record {
          rest = same_rest _ _ _ _ e;
          own = w.own;
          after = λ slot d. absurd (contains_none slot d);
          exist = λ l d. w.exist l (contains_later line lines l d);
          each = λ slot d. cleaned_slot line lines slot c (w.each slot d);
          frame_lines_exist = w.frame_lines_exist;
          framed = λ word d. other_flushing word (bank_line log thread bank line) framing c (w.framed word d);
        }) (cleaned_words (IsRecorded log thread old) h),
      )

  point_cleaned : m.rest ≡ Cleans (point_at log thread) ∷ Fences ∷ [] → IsPointed log thread old new m.words →
      AreEntries n.words n.queue × Stage log thread old new n
  point_cleaned rest h =
      let e = sym does ∙ rest in
      let line : ℕ = byte_number (point_at log thread) / 64 in
      let exists : 8 * line + 8 ≤ length m.words = omega (arith, has.exists, point_line_exists log thread) in
      let c = does_clean (point_at log thread) line (same_address _ _ _ _ e) refl exists in
      let place : 8 * line + 0 ≡ word_number (point_at log thread) = omega (arith, point_line log thread) in (
        c.entries,
        PointQueued (same_rest _ _ _ _ e) (cleaned_words (IsPointed log thread old new) h)
            (subst (λ (j : ℕ). PersistsThrough n.words n.queue j (last_position (word_at n.words j))) place (c.here 0 (omega arith))),
      )

  pub own_clean : Stage log thread old new m → AreEntries n.words n.queue × Stage log thread old new n
  own_clean (Writing slots lines framing w h) = cleans slots lines framing w h
  own_clean (Written rest h bank frame) = absurd (no_head _ _ _ _ (sym does ∙ rest) (omega arith))
  own_clean (Pointed rest h) = point_cleaned rest h
  own_clean (PointQueued rest h r) = absurd (no_head _ _ _ _ (sym does ∙ rest) (omega arith))
  own_clean (Over rest h) = absurd (not_done _ _ (sym rest ∙ does))

-- ---- A fence

-- with an empty queue, what it reached is durable
pub reached_durable : (words : List Word) (j value : ℕ) → IsWord (word_at words j) → live_value (word_at words j) ≡ value →
    PersistsThrough words [] j (last_position (word_at words j)) →
    IsDurable (word_at words j) value
reached_durable words j value is live h = record { durable = omega (arith, is.durable, h); live = live }

module _ {log : Log} {thread : ℕ} {old new : Record} {m : LogConfig} (l : LogIs log thread old new m) (n : LogConfig) (does : m.rest ≡ Fences ∷ n.rest)
    (words : n.words ≡ m.words) (empty : m.queue ≡ []) where
  open l use {follows as f, log as has}

  fenced_words : (P : List Word → Type 0) → P m.words → P n.words
  fenced_words P h = subst P (sym words) h

  fenced_slot : (slot : ℕ) → Contains (slots_of log new) slot → IsComing log thread new [] [] m slot →
      IsDurable (slot_in log m.words thread new slot) (value_of log new slot)
  fenced_slot slot c (ToStore h) = absurd (contains_none slot h)
  fenced_slot slot c (ToClean live h) = absurd (contains_none (slot / 8) h)
  fenced_slot slot c (Queued live h) =
      reached_durable m.words (bank_word log thread (bank_of new.point) slot) (value_of log new slot)
      (of_slot log thread (λ j. IsWord (word_at m.words j)) has.each new slot f.new_is c) live
      (subst (λ (q : List Entry). PersistsThrough m.words q (bank_word log thread (bank_of new.point) slot)
      (last_position (slot_in log m.words thread new slot))) empty
      h)

  fenced_frame : (word : ℕ) → Contains (framed_of new) word → IsFlushing log thread new [] m word →
      IsDurable (frame_in log m.words thread word) (new.frame word)
  fenced_frame word c (FrameToClean live h) = absurd (contains_none (word / 8) h)
  fenced_frame word c (FrameQueued live h) =
      reached_durable m.words (frame_word log thread word) (new.frame word)
      (of_frame log thread (λ j. IsWord (word_at m.words j)) has.each word (f.new_is.framed word c)) live
      (subst (λ (q : List Entry). PersistsThrough m.words q (frame_word log thread word) (last_position (frame_in log m.words thread word))) empty h)

  fences : (slots lines framing : List ℕ) → IsWriting log thread new slots lines framing m → IsRecorded log thread old m.words → Stage log thread old new n
  fences (slot ∷ slots) lines framing w h = absurd (no_head _ _ _ _ (sym does ∙ w.rest) (omega arith))
  fences [] [] (line ∷ framing) w h = absurd (no_head _ _ _ _ (sym does ∙ w.rest) (omega arith))
  fences [] (line ∷ lines) framing w h = absurd (no_head _ _ _ _ (sym does ∙ w.rest) (omega arith))
  fences [] [] [] w h =
      Written (same_rest _ _ _ _ (sym does ∙ w.rest)) (fenced_words (IsRecorded log thread old) h)
      (fenced_words (HasBank log thread new) (λ slot c. fenced_slot slot c (w.each slot c)))
      (fenced_words (HasFrame log thread new) (λ word c. fenced_frame word c (w.framed word c)))

  point_fenced : m.rest ≡ Fences ∷ [] → IsPointed log thread old new m.words →
      PersistsThrough m.words m.queue (word_number (point_at log thread)) (last_position (point_in log m.words thread)) → Stage log thread old new n
  point_fenced rest h r =
      let is : IsWord (point_in log m.words thread) = of_point log thread (λ j. IsWord (word_at m.words j)) has.each in
      let point : IsDurable (point_in log m.words thread) new.point = reached_durable m.words (word_number (point_at log thread)) new.point is h.last
      (subst (λ (q : List Entry). PersistsThrough m.words q (word_number (point_at log thread)) (last_position (point_in log m.words thread))) empty r) in
      Over (same_rest _ _ _ _ (sym does ∙ rest)) (fenced_words (IsRecorded log thread new) (record { point = point; bank = h.new_bank; frame = h.new_frame }))

  pub own_fence : Stage log thread old new m → Stage log thread old new n
  own_fence (Writing slots lines framing w h) = fences slots lines framing w h
  own_fence (Written rest h bank frame) = absurd (no_head _ _ _ _ (sym does ∙ rest) (omega arith))
  own_fence (Pointed rest h) = absurd (no_head _ _ _ _ (sym does ∙ rest) (omega arith))
  own_fence (PointQueued rest h r) = point_fenced rest h r
  own_fence (Over rest h) = absurd (not_done _ _ (sym rest ∙ does))
