-- Words without a past have the record that they say, durably.
use Rattle.std.proofs.Common.{◌≡◌, refl, ℕ, zero, suc, ◌<◌, List, [], ◌∷◌, map, sym, subst, arith}
use Rattle.std.specs.Prelude.{slice_index, ◌^◌, ◌==◌}
use Rattle.std.proofs.lemmas.Bool.{cond-true, eq-eqb}
use Rattle.log_schemes.specs.declared.log.Log.{Log}
use Rattle.ido_base.specs.Words.{Word, word_of, word_at, durable_value}
use Rattle.ido_base.specs.Layout.{word_number}
use Rattle.log_schemes.specs.Layout.{frame_at, log_words, point_at, slot_at}
use Rattle.rv64_isa.specs.Rows.{read}
use Rattle.machine_model.specs.Machine.{bank_of, durable_at, durable_point, record_of, recorded, resumed_registers}
use Rattle.log_states.specs.Logs.{nothing_recorded, IsFrameWord, IsInBank, IsKeepable, IsDurable, IsRecorded, HasLog, frame_word, log_word}
use Rattle.log_schemes.specs.SchemeFacts.{frame_index, slot_index}
use Rattle.log_states.proofs.Public.{banks_read, contains_none, frame_in_log, frame_inside, scheme, slot_in_log, some_words}
use Rattle.log_schemes.specs.Schemes.{register_slot}

single : (words : List ℕ) (i : ℕ) → word_at (map word_of words) i ≡ word_of (slice_index words i)
single [] i = refl
single (w ∷ words) zero = refl
single (w ∷ words) (suc i) = single words i

-- each word's value is durable
pub durable_word : (words : List ℕ) (i : ℕ) → IsDurable (word_at (map word_of words) i) (durable_value (word_at (map word_of words) i))
durable_word words i = subst (λ (w : Word). IsDurable w (durable_value w)) (sym (single words i)) (record { durable = refl; live = refl })

pub nothing_is_recorded : (log : Log) (thread : ℕ) (words : List ℕ) → durable_point log (map word_of words) thread ≡ 0 →
    IsRecorded log thread nothing_recorded (map word_of words)
nothing_is_recorded log thread words idle = record {
  point =
      subst (λ (v : ℕ). IsDurable (word_at (map word_of words) (word_number (point_at log thread))) v) idle
      (durable_word words (word_number (point_at log thread)));
  bank = λ slot c. absurd (contains_none slot c);
  frame = λ word c. absurd (contains_none word c);
}

module _ (log : Log) (thread : ℕ) (words : List Word) (has : HasLog log thread words) where
  small_at : (i : ℕ) → i < log_words log → (at : ℕ) → at ≡ log_word log thread i → durable_value (word_at words at) < 2 ^ 64
  small_at i below at same =
      subst (λ (k : ℕ). durable_value (word_at words k) < 2 ^ 64) (sym same)
      ((has.each i below).values (word_at words (log_word log thread i)).durable)

  pub point_small : durable_point log words thread < 2 ^ 64
  point_small = small_at 0 (some_words log) (word_number (point_at log thread)) (omega arith)

-- what a log has recorded has 64 bits
pub recorded_small : (log : Log) (thread : ℕ) (words : List Word) → HasLog log thread words → (slot : ℕ) → IsInBank log slot →
    recorded log words thread slot < 2 ^ 64
recorded_small log thread words has slot inside =
    let bank : ℕ = bank_of (durable_point log words thread) in
    let two : bank < 2 = omega arith in
    small_at log thread words has (slot_index log bank slot) ((scheme log).stands.inside bank slot two inside) (word_number (slot_at log thread bank slot))
    (slot_in_log log thread bank slot)

-- a register that a bank can keep is in a slot of it
pub register_small : (log : Log) (thread : ℕ) (words : List Word) → HasLog log thread words → (register : ℕ) → IsKeepable log register →
    read (resumed_registers log words thread) register < 2 ^ 64
register_small log thread words has register keepable =
    subst (λ (value : ℕ). value < 2 ^ 64) (sym ((banks_read log).registers words thread register keepable))
    (recorded_small log thread words has (register_slot log register) ((scheme log).apart.register register keepable).exists)

-- and so has a word of its frame
pub frame_small : (log : Log) (thread : ℕ) (words : List Word) → HasLog log thread words → (word : ℕ) → IsFrameWord log word →
    durable_at words (frame_at log thread word) < 2 ^ 64
frame_small log thread words has word is =
    small_at log thread words has (frame_index word) (frame_inside log word is) (frame_word log thread word) (frame_in_log log thread word)

-- a thread's record by its point
pub record_none : (log : Log) (words : List Word) (thread : ℕ) → durable_point log words thread ≡ 0 → record_of log words thread ≡ []
record_none log words thread none = cond-true (durable_point log words thread == 0) [] _ (eq-eqb (durable_point log words thread) 0 none)
