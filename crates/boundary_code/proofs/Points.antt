-- The second part of a boundary, from its first fence on: the point's value, and its commit.
use Rattle.std.proofs.Common.{◌≡◌, ◌≢◌, ℕ, ◌+◌, ◌-◌, ◌*◌, ◌/◌, ◌%◌, ◌^◌, ◌<◌, ◌≤◌, ◌⊎◌, inl, inr}
use Rattle.std.proofs.Common.{List, [], ◌∷◌, ◌++◌, length, refl, ap, sym, ◌∙◌, arith, false, lit<}
use Rattle.std.specs.Prelude.{slice_set, ℤ, pos, negsuc, ◌≤ℤ◌}
use Rattle.std.proofs.lemmas.List.{get_or-set_other}
use Rattle.std.proofs.Math.Nat.{mod-add-mod}
use Rattle.std.proofs.lemmas.Int.{ints}
use Rattle.log_schemes.specs.Layout.{log_of, bank_bytes, point_at}
use Rattle.log_schemes.specs.declared.log.Log.{Log}
use Rattle.rv64_isa.specs.declared.instr.Instr.{Instr}
use Rattle.rv64_isa.specs.declared.instr.Instr.TheVariants.{Auipc, Store, OpImmediate, ShiftImmediate, Op, CboClean, Fence}
use Rattle.rv64_isa.specs.declared.instr.Operation.TheVariants.{Add, Srl}
use Rattle.rv64_isa.specs.declared.instr.ImmediateOperation.TheVariants.{Addi}
use Rattle.rv64_isa.specs.declared.instr.ShiftOperation.TheVariants.{Srli}
use Rattle.rv64_isa.specs.declared.instr.StoreKind.TheVariants.{Sd}
use Rattle.rv64_isa.specs.Rows.{Effect, Continues, Stores, Cleans, Fences, row, read, next, displaced, upper}
use Rattle.rv64_isa.specs.Arithmetic.{sign_extended, result_of}
use Rattle.rv64_isa.specs.Signed.{twos_complement}
use Rattle.memory_layout.specs.Roles.{is_temporary}
use Rattle.boundary_code.specs.Boundaries.{IsUnderWay}
use Rattle.boundary_code.specs.Boundaries.{commit, point}
use Rattle.log_schemes.specs.Schemes.{distance_bits, size_of}
use Rattle.operator_code.proofs.Public.{RunsFrom, stop, go, store, clean, fence, read_same, read_other, length-changed, displaced_small, signed12, signed32}
use Rattle.boundary_code.proofs.Registers.{bank_bit, log_small, not_temporary}

-- ---- The distance in two immediates

-- a number near 0 in two's complement, of 32 bits and of 64
abbrev pub Close : (r t : ℕ) → Type 0
Close r t = ((r ≤ 262144) × (t ≡ r)) ⊎ ((2 ^ 32 ≤ r + 262144) × (r < 2 ^ 32) × (t + 2 ^ 32 ≡ r + 2 ^ 64))

pub close : (resume : ℤ) → negsuc 262143 ≤ℤ resume → resume ≤ℤ pos 262144 → Close (twos_complement 32 resume) (twos_complement 64 resume)
close (pos n) l h = inl (omega (arith, ints, h), refl)
close (negsuc n) l h = let few : n ≤ 262143 = omega (arith, ints, l) in inr (omega (arith, few), omega (arith, few), omega (arith, few))

abbrev upper_part : ℕ → ℕ
upper_part r = (r + 28 + 2048) % 2 ^ 32 / 4096

abbrev low_part : ℕ → ℕ
low_part r = (r + 28) % 4096

-- the two immediates together are the distance from the AUIPC to where recovery resumes
two_parts : (r t x s : ℕ) → Close r t → ((upper_part r * 2 ^ 12 < 2 ^ 31) × (x ≡ upper_part r * 2 ^ 12)) ⊎
    ((2 ^ 31 ≤ upper_part r * 2 ^ 12) × (x ≡ upper_part r * 2 ^ 12 + (2 ^ 64 - 2 ^ 32))) →
    ((low_part r < 2048) × (s ≡ low_part r)) ⊎ ((2048 ≤ low_part r) × (s ≡ low_part r + (2 ^ 64 - 2 ^ 12))) → (x + s) % 2 ^ 64 ≡ (28 + t) % 2 ^ 64
two_parts r t x s (inl c) (inl a) (inl b) = omega (arith, c.0, c.1, a.0, a.1, b.0, b.1)
two_parts r t x s (inl c) (inl a) (inr b) = omega (arith, c.0, c.1, a.0, a.1, b.0, b.1)
two_parts r t x s (inl c) (inr a) (inl b) = omega (arith, c.0, c.1, a.0, a.1, b.0, b.1)
two_parts r t x s (inl c) (inr a) (inr b) = omega (arith, c.0, c.1, a.0, a.1, b.0, b.1)
two_parts r t x s (inr c) (inl a) (inl b) = omega (arith, c.0, c.1, c.2, a.0, a.1, b.0, b.1)
two_parts r t x s (inr c) (inl a) (inr b) = omega (arith, c.0, c.1, c.2, a.0, a.1, b.0, b.1)
two_parts r t x s (inr c) (inr a) (inl b) = omega (arith, c.0, c.1, c.2, a.0, a.1, b.0, b.1)
two_parts r t x s (inr c) (inr a) (inr b) = omega (arith, c.0, c.1, c.2, a.0, a.1, b.0, b.1)

-- sums modulo m
sum_mod : (a x s d m : ℕ) → (x + s) % m ≡ d % m → ((a + x) % m + s) % m ≡ (a + d) % m
sum_mod a x s d m e =
    mod-add-mod (a + x) m s ∙
    ap (λ (n : ℕ). n % m) (let same : a + x + s ≡ x + s + a = omega arith in same) ∙
    sym (mod-add-mod (x + s) m a) ∙
    ap (λ (n : ℕ). (n + a) % m) e ∙
    mod-add-mod d m a ∙
    ap (λ (n : ℕ). n % m) (let same : d + a ≡ a + d = omega arith in same)

-- what AUIPC and ADDI leave, where the AUIPC stands at this address
pub resumes_at : (a r t : ℕ) → Close r t → result_of Add ((a + upper (upper_part r)) % 2 ^ 64) (sign_extended 12 64 (low_part r)) ≡ (a + (28 + t)) % 2 ^ 64
unfolding result_of
resumes_at a r t c = sum_mod a (upper (upper_part r)) (sign_extended 12 64 (low_part r)) (28 + t) (2 ^ 64)
    (two_parts r t (upper (upper_part r)) (sign_extended 12 64 (low_part r)) c (signed32 (upper_part r * 2 ^ 12)) (signed12 (low_part r)))

-- ---- Rows

fence_row : (z : List ℕ) (pc : ℕ) → row Fence z pc ≡ Fences
unfolding row
fence_row z pc = refl

auipc_row : (z : List ℕ) (u pc : ℕ) → row (Auipc 30 u) z pc ≡ Continues (slice_set z 30 ((pc + upper u) % 2 ^ 64)) (next pc)
unfolding row
auipc_row z u pc = refl

low_row : (z : List ℕ) (l v pc : ℕ) → read z 30 ≡ v → row (OpImmediate Addi 30 30 l) z pc ≡ Continues
    (slice_set z 30 (result_of Add v (sign_extended 12 64 l))) (next pc)
unfolding row
low_row z l v pc e = ap (λ (n : ℕ). Continues (slice_set z 30 (result_of Add n (sign_extended 12 64 l))) (next pc)) e

bit_row : (log : Log) (z : List ℕ) (bank pc : ℕ) → read z 3 ≡ bank_bytes log * bank → bank < 2 →
    row (ShiftImmediate Srli 7 3 (distance_bits (size_of log))) z pc ≡ Continues (slice_set z 7 bank) (next pc)
unfolding row
bit_row log z bank pc e b = ap (λ (n : ℕ). Continues (slice_set z 7 (result_of Srl n (distance_bits (size_of log)))) (next pc)) e ∙
    ap (λ (n : ℕ). Continues (slice_set z 7 n) (next pc)) (bank_bit log bank b)

add_row : (z : List ℕ) (v w pc : ℕ) → read z 30 ≡ v → read z 7 ≡ w → row (Op Add 30 30 7) z pc ≡ Continues (slice_set z 30 (result_of Add v w)) (next pc)
unfolding row
add_row z v w pc e f = ap (λ (n : ℕ). Continues (slice_set z 30 (result_of Add n (read z 7))) (next pc)) e ∙
    ap (λ (n : ℕ). Continues (slice_set z 30 (result_of Add v n)) (next pc)) f

point_row : (log : Log) (z : List ℕ) (r thread value pc : ℕ) → thread < 8 → read z 31 ≡ log_of log thread → read z r ≡ value →
    row (Store Sd r 31 0) z pc ≡ Stores (point_at log thread) 8 value
unfolding row
point_row log z r thread value pc t e f =
    ap (λ (n : ℕ). Stores (displaced n 12 0) 8 (read z r)) e ∙
    ap (λ (n : ℕ). Stores n 8 (read z r)) (displaced_small (log_of log thread) 0 (lit< tt) (omega (arith, log_small log thread t)) ∙ omega arith) ∙
    ap (λ (n : ℕ). Stores (point_at log thread) 8 n) f

clean_row : (log : Log) (z : List ℕ) (thread pc : ℕ) → read z 31 ≡ log_of log thread → row (CboClean 31) z pc ≡ Cleans (point_at log thread)
unfolding row
clean_row log z thread pc e = ap (λ (n : ℕ). Cleans n) e

-- ---- The part

pub commit_run : (log : Log) (z : List ℕ) (r thread value pc : ℕ) → thread < 8 → read z 31 ≡ log_of log thread → read z r ≡ value →
    RunsFrom (commit r) z pc (Stores (point_at log thread) 8 value ∷ Cleans (point_at log thread) ∷ Fences ∷ []) z
commit_run log z r thread value pc t e f =
    store (Store Sd r 31 0) (CboClean 31 ∷ Fence ∷ []) z pc (point_at log thread) 8 value (Cleans (point_at log thread) ∷ Fences ∷ []) z
    (point_row log z r thread value pc t e f)
    (clean (CboClean 31) (Fence ∷ []) z (pc + 4) (point_at log thread) (Fences ∷ []) z (clean_row log z thread (pc + 4) e)
    (fence Fence [] z (pc + 4 + 4) [] z (fence_row z (pc + 4 + 4)) (stop z (pc + 4 + 4 + 4))))

-- after a boundary that writes this bank, begun with registers x
pub record Left (log : Log) (bank : ℕ) (x y : List ℕ) : Type 0 where
  pub offset : read y 3 ≡ bank_bytes log * bank
  pub others : (r : ℕ) → is_temporary r ≡ false → r ≢ 3 → read y r ≡ read x r

pub record Committed (log : Log) (thread bank r t : ℕ) (x z : List ℕ) (pc : ℕ) : Type 0 where
  pub end : List ℕ
  pub runs : RunsFrom (Fence ∷ point log r ++ commit 30) z pc
      (Fences ∷ Stores (point_at log thread) 8 (((pc + 4 + (28 + t)) % 2 ^ 64 + bank) % 2 ^ 64) ∷ Cleans (point_at log thread) ∷ Fences ∷ []) end
  pub left : Left log bank x end

pub committed : (log : Log) (thread bank r t : ℕ) (x z : List ℕ) (pc : ℕ) → thread < 8 → bank < 2 → Close r t → IsUnderWay log thread bank x z →
    Committed log thread bank r t x z pc
unfolding result_of
committed log thread bank r t x z pc few b c h =
    let at : ℕ = pc + 4 in
    let v1 : ℕ = (at + upper (upper_part r)) % 2 ^ 64 in
    let v2 : ℕ = (at + (28 + t)) % 2 ^ 64 in
    let v3 : ℕ = (v2 + bank) % 2 ^ 64 in
    let z1 : List ℕ = slice_set z 30 v1 in
    let z2 : List ℕ = slice_set z1 30 v2 in
    let z3 : List ℕ = slice_set z2 7 bank in
    let z4 : List ℕ = slice_set z3 30 v3 in
    let l1 : length z1 ≡ 32 = length-changed z 30 v1 h.count in
    let l2 : length z2 ≡ 32 = length-changed z1 30 v2 l1 in
    let l3 : length z3 ≡ 32 = length-changed z2 7 bank l2 in
    let second : row (OpImmediate Addi 30 30 (low_part r)) z1 (at + 4) ≡ Continues z2 (next (at + 4)) =
    low_row z1 (low_part r) v1 (at + 4) (read_same z 30 v1 h.count (lit< tt)) ∙
    ap (λ (n : ℕ). Continues (slice_set z1 30 n) (next (at + 4))) (resumes_at at r t c) in
    let third : row (ShiftImmediate Srli 7 3 (distance_bits (size_of log))) z2 (at + 4 + 4) ≡ Continues z3 (next (at + 4 + 4)) =
    bit_row log z2 bank (at + 4 + 4) (read_other z1 30 3 v2 refl ∙ read_other z 30 3 v1 refl ∙ h.offset) b in
    let fourth : row (Op Add 30 30 7) z3 (at + 4 + 4 + 4) ≡ Continues z4 (next (at + 4 + 4 + 4)) =
    add_row z3 v2 bank (at + 4 + 4 + 4) (read_other z2 7 30 bank refl ∙ read_same z1 30 v2 l1 (lit< tt)) (read_same z2 7 bank l2 (lit< tt)) in
    let logged : read z4 31 ≡ log_of log thread = read_other z3 30 31 v3 refl ∙ read_other z2 7 31 bank refl ∙ read_other z1 30 31 v2 refl ∙
    read_other z 30 31 v1 refl ∙ h.logged in
    let value : read z4 30 ≡ v3 = read_same z3 30 v3 l3 (lit< tt) in
    let last : List Effect = Stores (point_at log thread) 8 v3 ∷ Cleans (point_at log thread) ∷ Fences ∷ [] in
    let shift : Instr = ShiftImmediate Srli 7 3 (distance_bits (size_of log)) in
    record {
      end = z4;
      runs = fence Fence (point log r ++ commit 30) z pc last z4 (fence_row z pc)
          (go (Auipc 30 (upper_part r)) (OpImmediate Addi 30 30 (low_part r) ∷ shift ∷ Op Add 30 30 7 ∷ commit 30) z z1 at last z4 (auipc_row z (upper_part r) at)
          (go (OpImmediate Addi 30 30 (low_part r)) (shift ∷ Op Add 30 30 7 ∷ commit 30) z1 z2 (at + 4) last z4 second
          (go shift (Op Add 30 30 7 ∷ commit 30) z2 z3 (at + 4 + 4) last z4 third
          (go (Op Add 30 30 7) (commit 30) z3 z4 (at + 4 + 4 + 4) last z4 fourth
          (commit_run log z4 30 thread v3 (at + 4 + 4 + 4 + 4) few logged value)))));
      left = record {
        offset = read_other z3 30 3 v3 refl ∙ read_other z2 7 3 bank refl ∙ read_other z1 30 3 v2 refl ∙ read_other z 30 3 v1 refl ∙ h.offset;
        others = λ q s n. get_or-set_other z3 30 q v3 0 (not_temporary q 30 refl s) ∙ get_or-set_other z2 7 q bank 0 (not_temporary q 7 refl s) ∙
            get_or-set_other z1 30 q v2 0 (not_temporary q 30 refl s) ∙ get_or-set_other z 30 q v1 0 (not_temporary q 30 refl s) ∙ h.others q s n;
      };
    }
