-- Reads of registers after writes, and the registers within a boundary.
use Rattle.std.proofs.Common.{◌≡◌, ◌≢◌, ℕ, zero, suc, ◌+◌, ◌-◌, ◌*◌, ◌^◌, ◌<◌, List, length, refl, ap, ◌∙◌, arith, true, false, lit<}
use Rattle.std.specs.Prelude.{slice_set}
use Rattle.std.proofs.lemmas.List.{get_or-set_other}
use Rattle.operator_code.proofs.Public.{read_other, read_same, length-changed}
use Rattle.log_schemes.specs.Layout.{log_of, bank_bytes}
use Rattle.log_schemes.specs.declared.size.LogSize.{LogSize}
use Rattle.log_schemes.specs.declared.size.LogSize.TheVariants.{Lines16, Lines32}
use Rattle.log_schemes.specs.declared.log.Log.{Log}
use Rattle.rv64_isa.specs.declared.instr.Operation.TheVariants.{Srl, Xor}
use Rattle.rv64_isa.specs.Rows.{read}
use Rattle.rv64_isa.specs.Arithmetic.{result_of}
use Rattle.memory_layout.specs.Roles.{is_temporary}
use Rattle.boundary_code.specs.Boundaries.{IsUnderWay}
use Rattle.log_schemes.specs.Schemes.{bank_distance, distance_bits, lines_of, size_of}
use Rattle.log_schemes.proofs.Public.{size_holds}

pub not_temporary : (r t : ℕ) → is_temporary t ≡ true → is_temporary r ≡ false → r ≢ t
not_temporary r t is_one is_none e = let same : is_temporary r ≡ is_temporary t = ap (λ (n : ℕ). is_temporary n) e in cc (same, is_one, is_none)

-- ---- Arithmetic

flip_sized : (size : LogSize) (bank : ℕ) → bank < 2 → result_of Xor (bank_distance size * bank) (bank_distance size) ≡ bank_distance size * (1 - bank)
unfolding result_of
flip_sized Lines16 zero h = refl
flip_sized Lines16 (suc zero) h = refl
flip_sized Lines16 (suc (suc n)) h = absurd (let z : ⊥ = omega arith in z)
flip_sized Lines32 zero h = refl
flip_sized Lines32 (suc zero) h = refl
flip_sized Lines32 (suc (suc n)) h = absurd (let z : ⊥ = omega arith in z)

pub flip : (log : Log) (bank : ℕ) → bank < 2 → result_of Xor (bank_bytes log * bank) (bank_bytes log) ≡ bank_bytes log * (1 - bank)
flip log bank h = flip_sized (size_of log) bank h

bit_sized : (size : LogSize) (bank : ℕ) → bank < 2 → result_of Srl (bank_distance size * bank) (distance_bits size) ≡ bank
unfolding result_of
bit_sized Lines16 zero h = refl
bit_sized Lines16 (suc zero) h = refl
bit_sized Lines16 (suc (suc n)) h = absurd (let z : ⊥ = omega arith in z)
bit_sized Lines32 zero h = refl
bit_sized Lines32 (suc zero) h = refl
bit_sized Lines32 (suc (suc n)) h = absurd (let z : ⊥ = omega arith in z)

pub bank_bit : (log : Log) (bank : ℕ) → bank < 2 → result_of Srl (bank_bytes log * bank) (distance_bits (size_of log)) ≡ bank
bank_bit log bank h = bit_sized (size_of log) bank h

-- how far the second bank lies is an immediate
pub bank_immediate : (log : Log) → bank_bytes log < 2 ^ 11
bank_immediate log = let near = (size_holds (size_of log)).near in omega (arith, near)

-- addresses of a log are small
base_sized : (size : LogSize) (thread bank : ℕ) → thread < 8 → bank < 2 → 0x2000_0000 + 64 * lines_of size * thread + bank_distance size * bank < 2 ^ 32
base_sized Lines16 thread bank t b = omega (arith, t, b)
base_sized Lines32 thread bank t b = omega (arith, t, b)

pub base_small : (log : Log) (thread bank : ℕ) → thread < 8 → bank < 2 → log_of log thread + bank_bytes log * bank < 2 ^ 32
base_small log thread bank t b = base_sized (size_of log) thread bank t b

low_sized : (size : LogSize) (thread : ℕ) → thread < 8 → 0x2000_0000 + 64 * lines_of size * thread < 2 ^ 31
low_sized Lines16 thread t = omega (arith, t)
low_sized Lines32 thread t = omega (arith, t)

pub log_low : (log : Log) (thread : ℕ) → thread < 8 → log_of log thread < 2 ^ 31
log_low log thread t = low_sized (size_of log) thread t

pub log_small : (log : Log) (thread : ℕ) → thread < 8 → log_of log thread < 2 ^ 32
log_small log thread t = let low = log_low log thread t in omega (arith, low)

-- ---- Registers within a boundary

-- x7 serves for what is stored or cleaned next
pub ready_still : (log : Log) (thread bank : ℕ) (x y : List ℕ) (v : ℕ) → IsUnderWay log thread bank x y → IsUnderWay log thread bank x (slice_set y 7 v)
ready_still log thread bank x y v h = record {
  count = length-changed y 7 v h.count;
  zero_is = read_other y 7 0 v refl ∙ h.zero_is;
  offset = read_other y 7 3 v refl ∙ h.offset;
  logged = read_other y 7 31 v refl ∙ h.logged;
  base = read_other y 7 30 v refl ∙ h.base;
  others = λ r t n. get_or-set_other y 7 r v 0 (not_temporary r 7 refl t) ∙ h.others r t n;
}

pub ready : (log : Log) (thread bank mask : ℕ) (x : List ℕ) → length x ≡ 32 → read x 0 ≡ 0 →
    IsUnderWay log thread bank x
    (slice_set (slice_set (slice_set (slice_set x 3 (bank_bytes log * bank)) 31 (log_of log thread)) 30 (log_of log thread + bank_bytes log * bank)) 7 mask)
ready log thread bank mask x l z =
    let a : List ℕ = slice_set x 3 (bank_bytes log * bank) in
    let b : List ℕ = slice_set a 31 (log_of log thread) in
    let c : List ℕ = slice_set b 30 (log_of log thread + bank_bytes log * bank) in
    let la : length a ≡ 32 = length-changed x 3 (bank_bytes log * bank) l in
    let lb : length b ≡ 32 = length-changed a 31 (log_of log thread) la in
    let lc : length c ≡ 32 = length-changed b 30 (log_of log thread + bank_bytes log * bank) lb in
    ready_still log thread bank x c mask (record {
      count = lc;
      zero_is =
          read_other b 30 0 (log_of log thread + bank_bytes log * bank) refl ∙ read_other a 31 0 (log_of log thread) refl
          ∙ read_other x 3 0 (bank_bytes log * bank) refl ∙ z;
      offset =
          read_other b 30 3 (log_of log thread + bank_bytes log * bank) refl ∙ read_other a 31 3 (log_of log thread) refl
          ∙ read_same x 3 (bank_bytes log * bank) l (lit< tt);
      logged = read_other b 30 31 (log_of log thread + bank_bytes log * bank) refl ∙ read_same a 31 (log_of log thread) la (lit< tt);
      base = read_same b 30 (log_of log thread + bank_bytes log * bank) lb (lit< tt);
      others = λ r t n. get_or-set_other b 30 r (log_of log thread + bank_bytes log * bank) 0 (not_temporary r 30 refl t) ∙
          get_or-set_other a 31 r (log_of log thread) 0 (not_temporary r 31 refl t) ∙ get_or-set_other x 3 r (bank_bytes log * bank) 0 n;
    })
