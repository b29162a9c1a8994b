-- A point says at once what the machine's definitions say apart: where recovery goes on, and the bank.
use Rattle.std.proofs.Common.{◌≡◌, ℕ, ◌-◌, ◌*◌, ◌%◌, ◌<◌, ◌==◌, eqb, List, [], map, take, Option}
use Rattle.std.proofs.Common.{None, Bool, true, false, refl, sym, ◌∙◌, ap, arith, if◌then◌else◌}
use Rattle.std.proofs.lemmas.Bool.{cond-true, cond-false, eq-eqb, ne_eqb}
use Rattle.log_schemes.specs.declared.log.Log.{Log}
use Rattle.log_schemes.specs.declared.keeping.Keeping.{Keeping}
use Rattle.log_schemes.specs.declared.keeping.Keeping.TheVariants.{Masked, Listed}
use Rattle.log_schemes.specs.Layout.{bank_bytes, slot_at}
use Rattle.ido_base.specs.Locks.{least_missing, locks_in}
use Rattle.ido_base.specs.Words.{Word}
use Rattle.log_schemes.specs.declared.point.Point.TheVariants.{Idle, At}
use Rattle.log_schemes.specs.Points.{point_of}
use Rattle.machine_model.specs.declared.phase.Phase.TheVariants.{Take, Done}
use Rattle.machine_model.specs.Machine.{bank_of, resume_of, durable_at, durable_point, record_of, recorded}
use Rattle.machine_model.specs.Machine.{resumed_register, resumed_registers, phase_after_crash}
use Rattle.log_schemes.specs.Schemes.{keeping_of, keeps_register, locks_read, numbers_from, read_as, register_slot}
use Rattle.resume_recovery.specs.links.Points.{bank_in}

-- a word that isn't 0, and where it says to go on
pub record IsPointTo (word address bank : ℕ) : Type 0 where
  pub other : (word == 0) ≡ false
  pub resumes : address ≡ resume_of word
  pub in_bank : bank ≡ bank_of word

pub idle_is : (word : ℕ) → Idle ≡ point_of word → word ≡ 0
idle_is word is = zero_is (by_test (word == 0) is)
  where
    by_test : (test : Bool) → Idle ≡ (if test then Idle else At (word - word % 2) (word % 2)) → test ≡ true
    by_test true e = refl
    by_test false e = cc

    zero_is : (word == 0) ≡ true → word ≡ 0
    zero_is e = grind arith

pub at_is : (word address bank : ℕ) → At address bank ≡ point_of word → IsPointTo word address bank
at_is word address bank is = by_test (word == 0) refl is
  where
    by_test : (test : Bool) → (word == 0) ≡ test → At address bank ≡ (if test then Idle else At (word - word % 2) (word % 2)) → IsPointTo word address bank
    by_test true t e = cc
    by_test false t e = record { other = t; resumes = cc; in_bank = cc }

pub bank-is : (word : ℕ) → bank_in (point_of word) ≡ bank_of word
bank-is word = by_test (word == 0) refl
  where
    by_test : (test : Bool) → (word == 0) ≡ test → bank_in (if test then Idle else At (word - word % 2) (word % 2)) ≡ word % 2
    by_test true t = grind arith
    by_test false t = refl

pub bank-below : (word : ℕ) → bank_in (point_of word) < 2
bank-below word = omega (arith, bank-is word)

-- ---- What a thread's log says durably, by its point

module _ (words : List Word) (hart : ℕ) where
  -- an idle point has no record
  pub idle_record : (log : Log) (locks : List (Option ℕ)) → durable_point log words hart ≡ 0 → None ≡ least_missing locks (record_of log words hart) hart
  idle_record log locks none =
      sym (ap (λ (ls : List ℕ). least_missing locks ls hart) (cond-true (eqb (durable_point log words hart) 0) [] _ (eq-eqb _ 0 none)))

  -- what the slots of this bank have
  abbrev pub slots_in : (log : Log) → (bank slot : ℕ) → ℕ
  slots_in log bank slot = durable_at words (slot_at log hart bank slot)

  bank_record : (log : Log) (address bank : ℕ) → IsPointTo (durable_point log words hart) address bank →
      locks_read log (slots_in log bank) ≡ record_of log words hart
  bank_record log address bank at =
      ap (λ (b : ℕ). locks_read log (slots_in log b)) at.in_bank
      ∙ sym (cond-false (eqb (durable_point log words hart) 0) [] (locks_read log (slots_in log (bank_of (durable_point log words hart)))) at.other)

  pub mask_record : (log : Log) (address bank mask : ℕ) → keeping_of log ≡ Masked → IsPointTo (durable_point log words hart) address bank →
      mask ≡ slots_in log bank 0 → locks_in mask ≡ record_of log words hart
  mask_record log address bank mask masked at is =
      ap locks_in is ∙ (ap (λ (k : Keeping). read_as k log (slots_in log bank)) (sym masked) ∙ bank_record log address bank at)

  pub list_record : (log : Log) (address bank : ℕ) → keeping_of log ≡ Listed → IsPointTo (durable_point log words hart) address bank →
      read_as Listed log (slots_in log bank) ≡ record_of log words hart
  list_record log address bank listed at =
      ap (λ (k : Keeping). read_as k log (slots_in log bank)) (sym listed) ∙ bank_record log address bank at

  pub register_3 : (log : Log) (r bank : ℕ) → r ≡ 3 → bank ≡ bank_of (durable_point log words hart) → bank_bytes log * bank ≡ resumed_register log words hart r
  register_3 log r bank three is = ap (λ (b : ℕ). bank_bytes log * b) is ∙ sym (ap (resumed_register log words hart) three)

  -- what is resumed of a register but x3, where it is kept or not
  abbrev kept_or_none : (log : Log) → (r : ℕ) → ℕ
  kept_or_none log r = if keeps_register log r then recorded log words hart (register_slot log r) else 0

  other_is : (log : Log) (r : ℕ) → (r ≡ 3 → ⊥) → kept_or_none log r ≡ resumed_register log words hart r
  other_is log r not_3 =
      sym (cond-false (eqb r 3) (bank_bytes log * bank_of (durable_point log words hart)) (kept_or_none log r) (ne_eqb r 3 not_3))

  pub register_none : (log : Log) (r : ℕ) → (r ≡ 3 → ⊥) → keeps_register log r ≡ false → 0 ≡ resumed_register log words hart r
  register_none log r not_3 none =
      sym (cond-false (keeps_register log r) (recorded log words hart (register_slot log r)) 0 none) ∙ other_is log r not_3

  pub register_kept : (log : Log) (r bank value : ℕ) → (r ≡ 3 → ⊥) → keeps_register log r ≡ true → bank ≡ bank_of (durable_point log words hart) →
      value ≡ slots_in log bank (register_slot log r) → value ≡ resumed_register log words hart r
  register_kept log r bank value not_3 keeps is read =
      read ∙ (ap (λ (b : ℕ). slots_in log b (register_slot log r)) is
      ∙ (sym (cond-true (keeps_register log r) (recorded log words hart (register_slot log r)) 0 keeps) ∙ other_is log r not_3))

pub idle_phase : (point : ℕ) → point ≡ 0 → Done ≡ phase_after_crash point
idle_phase point none = sym (ap phase_after_crash none)

pub taking_phase : (point : ℕ) → (point == 0) ≡ false → Take ≡ phase_after_crash point
taking_phase point other = sym (cond-false (eqb point 0) Done Take other)

-- all registers, one by one
pub registers_are : (log : Log) (words : List Word) (hart : ℕ) (registers : List ℕ) → registers ≡ map (resumed_register log words hart) (numbers_from 0 32) →
    registers ≡ resumed_registers log words hart
unfolding resumed_registers
registers_are log words hart registers are = are
