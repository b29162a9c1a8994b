-- Words of a thread's frame: nobody else stores to them, nor do boundaries.
use Rattle.crash_simulation.proofs.Common.{◌≡◌, ◌≢◌, ℕ, List, [], ◌∷◌, ◌++◌, sym, ◌∙◌, ap, arith, subst, suc, zero, ◌<◌, ◌≤◌, ◌%◌, ◌/◌, ◌*◌, ◌+◌, length, inl}
use Rattle.crash_simulation.proofs.Common.{inr, refl, ⊎_elim, Contains, Word, Entry, last_position, live_value, word_at, word_number, point_at, frame_at, Log}
use Rattle.crash_simulation.proofs.Common.{Effect, Stores, Cleans, Fences, AreEntries, Record, LogConfig, LogIs, LogInv, Moves, Elsewhere, IsWordOf}
use Rattle.crash_simulation.proofs.Common.{nothing_recorded, AreNamed, IsFrameWord, IsRecord, IsUnnamed, frame_in, frame_word, World, address_of, not_done}
use Rattle.crash_simulation.proofs.Common.{contains_cases, contains_first, contains_later, contains_none, write_backs_raise, word_beside, word_of, map}
use Rattle.crash_simulation.proofs.Common.{byte_number, cases_lt, ◌-◌}
use Rattle.std.specs.Prelude.{slice_index}
use Rattle.std.proofs.lemmas.List.Elements.{Contains-append_cases}
use Rattle.ido_base.specs.Growth.{IsPersisted}
use Rattle.ido_base.specs.Layout.{logs_base}
use Rattle.ido_base.specs.declared.limits.TheConstants.{LOCAL_REGISTERS}
use Rattle.ido_base.proofs.Public.{persisted_refl}
use Rattle.machine_model.specs.Machine.{bank_of}
use Rattle.boundary_code.specs.Boundaries.{commit_effects}
use Rattle.log_schemes.specs.SchemeFacts.{frame_index}
use Rattle.log_schemes.specs.Schemes.{bank_slots, kept_locks, told}
use Rattle.log_states.specs.Logs.{slots_of}
use Rattle.log_states.specs.Stages.{Cleaned, Drained, Fenced, Over, Pointed, PointQueued, Stage, Stored, Writing, Written, cleans_of, frame_cleans, stores_of}
use Rattle.log_states.proofs.Public.{ends, frame_in_log, frame_inside, frame_not_point, frame_not_slot, keeps, locks_kept, nothing_is_record, scheme}
use Rattle.log_states.proofs.Public.{slot_cases, word_of_point}
use Rattle.crash_simulation.specs.ThreadGhosts.{of_point, of_slot}
use Rattle.crash_simulation.proofs.LogWords.{stored_for}

-- ---- All words

abbrev pub below : ℕ → List ℕ
below zero = []
below (suc n) = n ∷ below n

below_there : (n word : ℕ) → word < n → Contains (below n) word
below_there zero word less = absurd (omega (arith, less))
below_there (suc n) word less = elim (cases_lt word n) [
  | inl low ↦ contains_later n (below n) word (below_there n word low)
  | inr high ↦ subst (Contains (n ∷ below n)) (let e : n ≡ word = omega (arith, less, high) in e) (contains_first n (below n))
]

-- all words of a frame
unfoldable pub all_words : List ℕ
all_words = below LOCAL_REGISTERS

pub is_named : (log : Log) (word : ℕ) → IsFrameWord log word → Contains all_words word
unfolding all_words
is_named log word is = below_there LOCAL_REGISTERS word is.exists

below_only : (n word : ℕ) → Contains (below n) word → word < n
below_only zero word has = absurd (contains_none word has)
below_only (suc n) word has = elim (contains_cases n (below n) word has) [
  | inl same ↦ omega (arith, same)
  | inr more ↦ omega (arith, below_only n word more)
]

pub only_named : (word : ℕ) → Contains all_words word → word < LOCAL_REGISTERS
unfolding all_words
only_named word has = below_only LOCAL_REGISTERS word has

-- a record names no others
pub all_named : (log : Log) (r : Record) → IsRecord log r → AreNamed all_words r
all_named log r is word has = is_named log word (is.framed word has)

-- where all are named, none is unnamed
pub none_unnamed : (log : Log) (i : ℕ) → IsUnnamed log all_words i → ⊥
none_unnamed log i u = u.unnamed (is_named log u.word u.in_frame)

-- ---- Addresses

-- the frame stands after the variables
pub frame_after : (log : Log) (thread word : ℕ) → logs_base ≤ frame_at log thread word
frame_after log thread word = omega (arith, (scheme log).frame.address thread word)

pub frame_whole : (log : Log) (thread word : ℕ) → frame_at log thread word % 8 ≡ 0
frame_whole log thread word = omega (arith, (scheme log).frame.address thread word)

-- words of one line of it
pub frame_line : (log : Log) (thread other own : ℕ) → other / 8 ≡ own / 8 →
    8 * (byte_number (frame_at log thread other) / 64) + frame_word log thread own % 8 ≡ frame_word log thread own
frame_line log thread other own line = omega (arith, line, frame_in_log log thread other, frame_in_log log thread own, word_of_point log thread)

-- ---- Slots

-- those of a record are in its bank
slot_inside : (log : Log) (r : Record) → IsRecord log r → (slot : ℕ) → Contains (slots_of log r) slot → slot < bank_slots log
slot_inside log r is slot has = elim (slot_cases log r slot has) [
  | inl of_pair ↦
      subst (λ (n : ℕ). n < bank_slots log) (sym of_pair.is)
      (⊎_elim (λ kept. ((locks_kept log).each r.locks of_pair.pair is.locks kept).slot)
      (λ said. ((scheme log).told.own r.written of_pair.pair said).exists)
      (Contains-append_cases (kept_locks log r.locks) (told log r.written) of_pair.pair of_pair.own))
  | inr of_register ↦
      subst (λ (n : ℕ). n < bank_slots log) (sym of_register.is)
      ((scheme log).apart.register of_register.register (is.live of_register.register of_register.own)).exists
]

-- the word of a record is none of the frame
pub not_recorded : (log : Log) (thread : ℕ) (r : Record) (own word : ℕ) → IsRecord log r → IsFrameWord log own → IsWordOf log thread r word →
    frame_word log thread own ≢ word
not_recorded log thread r own word is framed (of_point same) e = frame_not_point log thread own (e ∙ same)
not_recorded log thread r own word is framed (of_slot slot among same) e =
    frame_not_slot log thread own (bank_of r.point) slot framed (let low : bank_of r.point < 2 = omega arith in low)
    (slot_inside log r is slot among) (e ∙ same)

-- ---- Values

pub same_live : (u v : Word) → IsPersisted u v → live_value v ≡ live_value u
same_live u v a = ap (λ (xs : List ℕ). slice_index xs (length xs - 1)) a.values

-- ---- Moves

module _ (log : Log) (thread : ℕ) (old new : Record) (m n : LogConfig) (l : LogIs log thread old new m) where
  -- whatever the log does, its frame keeps its values
  pub frame_persists : Moves log thread all_words m n → (own : ℕ) → IsFrameWord log own →
      IsPersisted (frame_in log m.words thread own) (frame_in log n.words thread own)
  frame_persists (Stored address value rest words queue) own is =
      let apart : frame_word log thread own ≢ word_number address =
      not_recorded log thread new own (word_number address) l.follows.new_is is
      (stored_for log thread old new m l address 8 value n.rest rest l.stage) in
      subst (λ (w : Word). IsPersisted (frame_in log m.words thread own) w)
      (sym (ap (λ (ws : List Word). word_at ws (frame_word log thread own)) words
      ∙ word_beside m.words (byte_number address) 8 value (frame_word log thread own) apart)) (persisted_refl _)
  frame_persists (Cleaned address rest words queue) own is =
      subst (λ (ws : List Word). IsPersisted (frame_in log m.words thread own) (frame_in log ws thread own)) (sym words) (persisted_refl _)
  frame_persists (Fenced rest words before after) own is =
      subst (λ (ws : List Word). IsPersisted (frame_in log m.words thread own) (frame_in log ws thread own)) (sym words) (persisted_refl _)
  frame_persists (Drained entry rest words queue) own is =
      let entries : AreEntries m.words (entry ∷ n.queue) = subst (λ (q : List Entry). AreEntries m.words q) queue l.queue in
      subst (λ (ws : List Word). IsPersisted (frame_in log m.words thread own) (frame_in log ws thread own)) (sym words)
      ((write_backs_raise m.words entry entries.0).each (frame_word log thread own))
  frame_persists (Elsewhere more rest changed unstored queue added) own is = elim (unstored (frame_index own) (frame_inside log own is)) [
    | inl persisted ↦
        subst (λ (j : ℕ). IsPersisted (word_at m.words j) (word_at n.words j)) (sym (frame_in_log log thread own)) persisted
    | inr unnamed ↦ absurd (none_unnamed log (frame_index own) unnamed.0)
  ]

  -- and its way
  pub keeps_all : Moves log thread all_words m n → LogIs log thread old new n
  keeps_all moves =
      keeps log thread all_words old new m n (all_named log old l.follows.old_is) (all_named log new l.follows.new_is) l moves

-- ---- A boundary's fences

module _ (log : Log) (thread : ℕ) (old new : Record) (m : LogConfig) (l : LogIs log thread old new m) where
  abbrev first_fences : List Effect → ℕ
  first_fences [] = 0
  first_fences (Fences ∷ effects) = 1
  first_fences (effect ∷ effects) = 0

  abbrev tail_of : List Effect → List Effect
  tail_of [] = []
  tail_of (effect ∷ effects) = effects

  abbrev is_clean_of : (address : ℕ) → List Effect → Type 0
  is_clean_of address effects = Contains effects (Cleans address)

  not_point : (own : ℕ) → Contains (Stores (point_at log thread) 8 new.point ∷ Cleans (point_at log thread) ∷ Fences ∷ []) (Cleans (frame_at log thread own)) →
      ⊥
  not_point own has = elim (contains_cases (Stores (point_at log thread) 8 new.point) (Cleans (point_at log thread) ∷ Fences ∷ [])
      (Cleans (frame_at log thread own)) has) [
        | inl first ↦ cc
        | inr rest ↦ elim (contains_cases (Cleans (point_at log thread)) (Fences ∷ []) (Cleans (frame_at log thread own)) rest) [
          | inl second ↦ frame_not_point log thread own (ap (λ (e : Effect). word_number (address_of e)) second)
          | inr last ↦ elim (contains_cases Fences [] (Cleans (frame_at log thread own)) last) [
            | inl third ↦ cc
            | inr none ↦ contains_none (Cleans (frame_at log thread own)) none
          ]
        ]
      ]

  -- no word of the frame is cleaned after one
  pub none_after_fence : (later : List Effect) → m.rest ≡ Fences ∷ later → (own : ℕ) → Contains later (Cleans (frame_at log thread own)) → ⊥
  none_after_fence later does own has = by l.stage
    where
      none_in : (rest : List Effect) → m.rest ≡ Fences ∷ rest → (Contains rest (Cleans (frame_at log thread own)) → ⊥) → ⊥
      none_in rest is none =
          none (subst (λ (es : List Effect). Contains (tail_of es) (Cleans (frame_at log thread own))) is
          (subst (λ (es : List Effect). Contains (tail_of es) (Cleans (frame_at log thread own))) (sym does) has))

      other_first : (effects : List Effect) → m.rest ≡ effects → first_fences effects ≡ 0 → ⊥
      other_first effects is none = let e : 1 ≡ 0 = ap first_fences (sym does ∙ is) ∙ none in omega (arith, e)

      writes : (slots lines framing : List ℕ) → m.rest ≡ stores_of log thread new slots ++ cleans_of log thread new lines
          ++ frame_cleans log thread framing ++ commit_effects log thread new.point → ⊥
      writes [] [] [] is = none_in _ is (not_point own)
      writes [] [] (line ∷ framing) is = other_first _ is refl
      writes [] (line ∷ lines) framing is = other_first _ is refl
      writes (slot ∷ slots) lines framing is = other_first _ is refl

      by : Stage log thread old new m → ⊥
      by (Writing slots lines framing w h) = writes slots lines framing w.rest
      by (Written rest h bank frame) = other_first _ rest refl
      by (Pointed rest h) = other_first _ rest refl
      by (PointQueued rest h r) = none_in _ rest (contains_none (Cleans (frame_at log thread own)))
      by (Over rest h) = not_done Fences later (sym rest ∙ does)

-- ---- Between boundaries

-- a log that has a record is one on its way from none
pub from_nothing : {thread : ℕ} {old new : Record} {w : World} → LogInv thread old new w [] → LogInv thread nothing_recorded new w []
from_nothing {thread} {old} {new} {w} log = record {
  hart = log.hart;
  here = log.here;
  log = record {
    follows = record { old_is = nothing_is_record w.log; new_is = log.log.follows.new_is; apart = λ some other same. absurd (some refl) };
    log = log.log.log;
    queue = log.log.queue;
    stage = Over refl (ends w.log thread old new _ log.log refl);
  };
}

-- ---- After a crash

-- all that is stored is durable in words without a past
pub anew_settled : (numbers : List ℕ) (j : ℕ) → last_position (word_at (map word_of numbers) j) ≤ (word_at (map word_of numbers) j).durable
anew_settled [] j = omega arith
anew_settled (x ∷ numbers) zero = omega arith
anew_settled (x ∷ numbers) (suc j) = anew_settled numbers j
