-- A boundary's own stores.
use Rattle.std.proofs.Common.{◌≡◌, ◌≢◌, inl, inr, ℕ, ◌/◌, ◌%◌, ◌^◌, ◌<◌, ◌≤◌, List, [], ◌∷◌, ◌++◌, length, refl, ap, arith, sym, ◌∙◌, subst, get_or}
use Rattle.std.proofs.lemmas.Bool.{cases_eq}
use Rattle.std.proofs.lemmas.List.{append-nil}
use Rattle.std.specs.List.{Contains}
use Rattle.log_schemes.specs.declared.log.Log.{Log}
use Rattle.ido_base.specs.Words.{Word, Entry, word_at, last_position, live_value, with_value, stored}
use Rattle.ido_base.specs.Growth.{AreChanged, PersistsThrough}
use Rattle.ido_base.specs.Layout.{byte_number, word_number}
use Rattle.log_schemes.specs.Layout.{log_words, point_at, slot_at}
use Rattle.ido_base.proofs.Public.{reach_stays, stores_change}
use Rattle.rv64_isa.specs.Rows.{Stores, Cleans, Fences}
use Rattle.machine_model.specs.Machine.{bank_of}
use Rattle.boundary_code.specs.Boundaries.{commit_effects}
use Rattle.log_states.specs.Logs.{Record, slots_of, value_of, log_word, bank_word, point_in, slot_in, IsWord, HasLog, IsDurable, HasBank, IsRecorded}
use Rattle.log_states.specs.Logs.{HasFrame, framed_of, frame_in, frame_word}
use Rattle.log_states.specs.Stages.{IsFlushing, FrameToClean, FrameQueued, frame_cleans}
use Rattle.log_states.specs.Stages.{LogConfig, stores_of, cleans_of, IsComing, ToStore, ToClean, Queued}
use Rattle.log_states.specs.Stages.{IsWriting, IsPointed, LogIs, Stage, Writing, Written, Pointed}
use Rattle.log_states.specs.Stages.{PointQueued, Over, MayOverwrite}
use Rattle.log_schemes.proofs.Public.{contains_cases, contains_first, contains_later}
use Rattle.log_states.proofs.Heads.{no_head, not_done, same_address, same_value, same_rest}
use Rattle.log_states.proofs.Numbers.{some_words, word_exists, whole_slot, whole_point, same_slot, same_bank, slot_not_point, frame_not_point, frame_not_slot}
use Rattle.log_states.proofs.Words.{word_stored, word_beside, stored_word, stored_last, stored_live, stored_before}
use Rattle.log_states.proofs.UnstoredLogStays.{bank_below, has_point, slot_in_bank, value_below, slot_word, point_index}

-- ---- Two banks

pub other_bank : (log : Log) (thread : ℕ) (old new : Record) (slot other : ℕ) → MayOverwrite log old new → Contains (slots_of log old) slot →
    Contains (slots_of log new) other → bank_word log thread (bank_of old.point) slot ≢ bank_word log thread (bank_of new.point) other
other_bank log thread old new slot other f c d e = f.apart (has_point log old slot c) (has_point log new other d)
    (same_bank log thread (bank_of old.point) (bank_of new.point) slot other (bank_below old.point) (bank_below new.point)
    (slot_in_bank log old slot f.old_is c) (slot_in_bank log new other f.new_is d) e)

-- ---- One word is stored to

pub record IsStoredAt (old new : List Word) (at value : ℕ) : Type 0 where
  pub size : length new ≡ length old
  pub there : word_at new at ≡ with_value (word_at old at) value
  pub others : (j : ℕ) → j ≢ at → word_at new j ≡ word_at old j
  pub changed : AreChanged old new

pub stored_at : (words : List Word) (number value : ℕ) → number % 8 ≡ 0 → number / 8 < length words → IsWord (word_at words (number / 8)) → value < 2 ^ 64 →
    IsStoredAt words (stored words number 8 value) (number / 8) value
stored_at words number value aligned inside is fits = record {
  size = (stores_change words number 8 value).size;
  there = word_stored words number value aligned inside is fits;
  others = λ j ne. word_beside words number 8 value j ne;
  changed = stores_change words number 8 value;
}

-- one word of a machine with the thread's log is stored to, and nothing else is done
record StoresWord (log : Log) (thread : ℕ) (m n : LogConfig) (at value : ℕ) : Type 0 where
  s : IsStoredAt m.words n.words at value
  queue : n.queue ≡ m.queue
  fits : value < 2 ^ 64
  has : HasLog log thread m.words
  is : IsWord (word_at m.words at)

module _ {log : Log} {thread : ℕ} {m n : LogConfig} {at value : ℕ} (stores : StoresWord log thread m n at value) where
  open stores use {s, queue, fits, has, is}

  stored_log : HasLog log thread n.words
  stored_log = record {
    exists = omega (arith, has.exists, s.size);
    each = λ i below. elim (cases_eq (log_word log thread i) at) [
      | inl here ↦ subst (λ (j : ℕ). IsWord (word_at n.words j)) (sym here)
          (subst (λ (w : Word). IsWord w) (sym s.there) (stored_word (word_at m.words at) value is fits))
      | inr other ↦ subst (λ (w : Word). IsWord w) (sym (s.others (log_word log thread i) other)) (has.each i below)
    ];
  }

  stored_bank : (r : Record) → HasBank log thread r m.words → ((slot : ℕ) → Contains (slots_of log r) slot →
      bank_word log thread (bank_of r.point) slot ≢ at) → HasBank log thread r n.words
  stored_bank r bank apart slot c =
      subst (λ (w : Word). IsDurable w (value_of log r slot)) (sym (s.others (bank_word log thread (bank_of r.point) slot) (apart slot c))) (bank slot c)

  stored_frame : (r : Record) → HasFrame log thread r m.words → ((word : ℕ) → Contains (framed_of r) word → frame_word log thread word ≢ at) →
      HasFrame log thread r n.words
  stored_frame r frame apart word c =
      subst (λ (w : Word). IsDurable w (r.frame word)) (sym (s.others (frame_word log thread word) (apart word c))) (frame word c)

  stored_recorded : (r : Record) → IsRecorded log thread r m.words → word_number (point_at log thread) ≢ at
      → ((slot : ℕ) → Contains (slots_of log r) slot → bank_word log thread (bank_of r.point) slot ≢ at)
      → ((word : ℕ) → Contains (framed_of r) word → frame_word log thread word ≢ at) → IsRecorded log thread r n.words
  stored_recorded r h point apart beside = record {
    point = subst (λ (w : Word). IsDurable w r.point) (sym (s.others (word_number (point_at log thread)) point)) h.point;
    bank = stored_bank r h.bank apart;
    frame = stored_frame r h.frame beside;
  }

  stored_reach : (j position : ℕ) → PersistsThrough m.words m.queue j position → PersistsThrough n.words n.queue j position
  stored_reach j position h =
      subst (λ (q : List Entry). PersistsThrough n.words q j position) (append-nil m.queue ∙ sym queue)
      (reach_stays m.words n.words m.queue [] j position s.changed h)

  -- the slot of that word is stored
  stored_coming : (new : Record) (first : ℕ) (slots lines : List ℕ) → at ≡ bank_word log thread (bank_of new.point) first → value ≡ value_of log new first →
      Contains lines (first / 8)
      → (slot : ℕ) → IsComing log thread new (first ∷ slots) lines m slot → IsComing log thread new slots lines n slot
  stored_coming new first slots lines place holds after slot coming = elim (cases_eq slot first) [
    | inl same ↦
        let here : bank_word log thread (bank_of new.point) slot ≡ at = ap (λ (k : ℕ). bank_word log thread (bank_of new.point) k) same ∙ sym place in
        let live : live_value (slot_in log n.words thread new slot) ≡ value_of log new slot =
        ap (λ (j : ℕ). live_value (word_at n.words j)) here ∙ ap live_value s.there ∙ stored_live (word_at m.words at) value ∙ holds
        ∙ ap (value_of log new) (sym same) in
        ToClean live (subst (λ (k : ℕ). Contains lines (k / 8)) (sym same) after)
    | inr ne ↦
        let apart : bank_word log thread (bank_of new.point) slot ≢ at = λ e. ne (same_slot log thread (bank_of new.point) slot first (e ∙ place)) in
        let beside : slot_in log n.words thread new slot ≡ slot_in log m.words thread new slot =
        s.others (bank_word log thread (bank_of new.point) slot) apart in
        other_coming ne beside coming
  ]
    where
      other_coming : slot ≢ first → slot_in log n.words thread new slot ≡ slot_in log m.words thread new slot →
          IsComing log thread new (first ∷ slots) lines m slot → IsComing log thread new slots lines n slot
      other_coming ne beside (ToStore c) = ToStore (elim (contains_cases first slots slot c) [ inl same ↦ absurd (ne same) | inr more ↦ more ])
      other_coming ne beside (ToClean live c) = ToClean (ap live_value beside ∙ live) c
      other_coming ne beside (Queued live reached) = Queued (ap live_value beside ∙ live)
          (subst (λ (w : Word). PersistsThrough n.words n.queue (bank_word log thread (bank_of new.point) slot) (last_position w)) (sym beside)
          (stored_reach (bank_word log thread (bank_of new.point) slot) (last_position (slot_in log m.words thread new slot)) reached))

  -- words of the frame are others
  stored_flushing : (new : Record) (framing : List ℕ) (word : ℕ) → frame_word log thread word ≢ at → IsFlushing log thread new framing m word →
      IsFlushing log thread new framing n word
  stored_flushing new framing word apart (FrameToClean live c) = FrameToClean (ap live_value (s.others (frame_word log thread word) apart) ∙ live) c
  stored_flushing new framing word apart (FrameQueued live reached) =
      let beside : frame_in log n.words thread word ≡ frame_in log m.words thread word = s.others (frame_word log thread word) apart in
      FrameQueued (ap live_value beside ∙ live)
      (subst (λ (w : Word). PersistsThrough n.words n.queue (frame_word log thread word) (last_position w)) (sym beside)
      (stored_reach (frame_word log thread word) (last_position (frame_in log m.words thread word)) reached))

  stored_writing : (new : Record) (first : ℕ) (slots lines framing : List ℕ) → at ≡ bank_word log thread (bank_of new.point) first →
      value ≡ value_of log new first
      → n.rest ≡ stores_of log thread new slots ++ cleans_of log thread new lines ++ frame_cleans log thread framing ++ commit_effects log thread new.point
      → ((word : ℕ) → Contains (framed_of new) word → frame_word log thread word ≢ at)
      → IsWriting log thread new (first ∷ slots) lines framing m → IsWriting log thread new slots lines framing n
  stored_writing new first slots lines framing place holds rest beside w = record {
    rest = rest;
    own = λ slot c. w.own slot (contains_later first slots slot c);
    after = λ slot c. w.after slot (contains_later first slots slot c);
    exist = w.exist;
    each = λ slot c. stored_coming new first slots lines place holds (w.after first (contains_first first slots)) slot (w.each slot c);
    frame_lines_exist = w.frame_lines_exist;
    framed = λ word c. stored_flushing new framing word (beside word c) (w.framed word c);
  }

  -- the point is stored
  stored_point : (old new : Record) → at ≡ word_number (point_at log thread) → value ≡ new.point → IsRecorded log thread old m.words →
      HasBank log thread new m.words → HasFrame log thread new m.words → IsPointed log thread old new n.words
  stored_point old new place holds h bank frame =
      let w : Word = word_at m.words at in
      let there : point_in log n.words thread ≡ with_value w value = ap (λ (j : ℕ). word_at n.words j) (sym place) ∙ s.there in
      let was : IsDurable w old.point = subst (λ (j : ℕ). IsDurable (word_at m.words j) old.point) (sym place) h.point in
      record {
        before = λ p from below. subst (λ (v : Word). v.durable ≤ p → p < last_position v → get_or v.values p 0 ≡ old.point) (sym there)
            (λ f b. stored_before w value p (omega (arith, b, stored_last w value)) ∙ ap (λ (k : ℕ). get_or w.values k 0) (last_of p f b)
            ∙ was.live) from below;
        last = ap live_value there ∙ stored_live w value ∙ holds;
        old_bank = stored_bank old h.bank (λ slot c e. slot_not_point log thread (bank_of old.point) slot (e ∙ place));
        new_bank = stored_bank new bank (λ slot c e. slot_not_point log thread (bank_of new.point) slot (e ∙ place));
        old_frame = stored_frame old h.frame (λ word c e. frame_not_point log thread word (e ∙ place));
        new_frame = stored_frame new frame (λ word c e. frame_not_point log thread word (e ∙ place));
      }
    where
      last_of : (p : ℕ) → (with_value (word_at m.words at) value).durable ≤ p → p < last_position (with_value (word_at m.words at) value) →
          p ≡ last_position (word_at m.words at)
      last_of p f b =
          let w : Word = word_at m.words at in
          let was : IsDurable w old.point = subst (λ (j : ℕ). IsDurable (word_at m.words j) old.point) (sym place) h.point in
          omega (arith, f, b, stored_last w value, was.durable)

-- ---- By where the boundary stands

module _ {log : Log} {thread : ℕ} {old new : Record} {m : LogConfig} (l : LogIs log thread old new m) (n : LogConfig) (address value : ℕ)
    (does : m.rest ≡ Stores address 8 value ∷ n.rest) (words : n.words ≡ stored m.words (byte_number address) 8 value) (queue : n.queue ≡ m.queue) where
  open l use {follows as f, log as has}

  -- what a store to a word of the log does
  does_store : (place : ℕ) → address ≡ place → byte_number place % 8 ≡ 0 → (i : ℕ) → i < log_words log → byte_number place / 8 ≡ log_word log thread i →
      value < 2 ^ 64 → StoresWord log thread m n (byte_number place / 8) value
  does_store place same aligned i below index fits =
      let is : IsWord (word_at m.words (byte_number place / 8)) = subst (λ (j : ℕ). IsWord (word_at m.words j)) (sym index) (has.each i below) in
      let inside : byte_number place / 8 < length m.words = omega (arith, index, has.exists, word_exists log thread i below) in
      let e : stored m.words (byte_number place) 8 value ≡ n.words = ap (λ (a : ℕ). stored m.words (byte_number a) 8 value) (sym same) ∙ sym words in
      record {
        s = subst (λ (ws : List Word). IsStoredAt m.words ws (byte_number place / 8) value) e
            (stored_at m.words (byte_number place) value aligned inside is fits);
        queue = queue;
        fits = fits;
        has = has;
        is = is;
      }

  writes : (slots lines framing : List ℕ) → IsWriting log thread new slots lines framing m → IsRecorded log thread old m.words →
      HasLog log thread n.words × Stage log thread old new n
  writes [] [] [] w h = absurd (no_head _ _ _ _ (sym does ∙ w.rest) (omega arith))
  writes [] [] (line ∷ framing) w h = absurd (no_head _ _ _ _ (sym does ∙ w.rest) (omega arith))
  writes [] (line ∷ lines) framing w h = absurd (no_head _ _ _ _ (sym does ∙ w.rest) (omega arith))
  writes (first ∷ slots) lines framing w h =
      let e = sym does ∙ w.rest in
      let c : Contains (slots_of log new) first = w.own first (contains_first first slots) in
      let index = slot_word log new first f.new_is c thread in
      let holds : value ≡ value_of log new first = same_value _ _ _ _ e in
      let fits : value < 2 ^ 64 = omega (arith, holds, value_below log new first f.new_is c) in
      let done = does_store (slot_at log thread (bank_of new.point) first) (same_address _ _ _ _ e)
      (whole_slot log thread (bank_of new.point) first) index.0 index.1 index.2 fits in (
        stored_log done,
        Writing slots lines framing (stored_writing done new first slots lines framing refl holds (same_rest _ _ _ _ e)
            (λ word d. frame_not_slot log thread word (bank_of new.point) first (f.new_is.framed word d) (bank_below new.point)
            (slot_in_bank log new first f.new_is c)) w)
            (stored_recorded done old h (λ p. slot_not_point log thread (bank_of new.point) first (sym p))
            (λ slot d. other_bank log thread old new slot first f d c)
            (λ word d. frame_not_slot log thread word (bank_of new.point) first (f.old_is.framed word d) (bank_below new.point)
            (slot_in_bank log new first f.new_is c))),
      )

  points : m.rest ≡ Stores (point_at log thread) 8 new.point ∷ Cleans (point_at log thread) ∷ Fences ∷ [] → IsRecorded log thread old m.words →
      HasBank log thread new m.words → HasFrame log thread new m.words
      → HasLog log thread n.words × Stage log thread old new n
  points rest h bank frame =
      let e = sym does ∙ rest in
      let holds : value ≡ new.point = same_value _ _ _ _ e in
      let fits : value < 2 ^ 64 = omega (arith, holds, f.new_is.point) in
      let done = does_store (point_at log thread) (same_address _ _ _ _ e) (whole_point log thread) 0 (some_words log) (point_index log thread) fits in (
        stored_log done,
        Pointed (same_rest _ _ _ _ e) (stored_point done old new refl holds h bank frame),
      )

  pub own_store : Stage log thread old new m → HasLog log thread n.words × Stage log thread old new n
  own_store (Writing slots lines framing w h) = writes slots lines framing w h
  own_store (Written rest h bank frame) = points rest h bank frame
  own_store (Pointed rest h) = absurd (no_head _ _ _ _ (sym does ∙ rest) (omega arith))
  own_store (PointQueued rest h r) = absurd (no_head _ _ _ _ (sym does ∙ rest) (omega arith))
  own_store (Over rest h) = absurd (not_done _ _ (sym rest ∙ does))
