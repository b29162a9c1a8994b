-- The registers that recovery gives a hart.
use Rattle.std.proofs.Common.{◌≡◌, ℕ, zero, suc, ◌+◌, ◌<◌, List, map, length, get_or, refl, ap, ◌∙◌, arith, sym, add-zero}
use Rattle.std.proofs.lemmas.List.{length-map}
use Rattle.ido_base.specs.Words.{Word}
use Rattle.log_schemes.specs.declared.log.Log.{Log}
use Rattle.log_schemes.specs.Schemes.{numbers_from}
use Rattle.rv64_isa.specs.Rows.{read}
use Rattle.machine_model.specs.Machine.{resumed_register, resumed_registers}

-- an element of a function's row
pub mapped : (f : ℕ → ℕ) (at count i : ℕ) → i < count → get_or (map f (numbers_from at count)) i 0 ≡ f (at + i)
mapped f at zero i below = absurd (omega (arith, below))
mapped f at (suc count) zero below = ap f (sym (add-zero at))
mapped f at (suc count) (suc i) below = let next : at + 1 + i ≡ at + suc i = omega arith in mapped f (at + 1) count i (omega (arith, below)) ∙ ap f next

numbers_count : (at count : ℕ) → length (numbers_from at count) ≡ count
numbers_count at zero = refl
numbers_count at (suc count) = ap (λ (n : ℕ). suc n) (numbers_count (at + 1) count)

-- there are 32
pub resumed_count : (log : Log) (words : List Word) (thread : ℕ) → length (resumed_registers log words thread) ≡ 32
unfolding resumed_registers
resumed_count log words thread = length-map (numbers_from 0 32) (resumed_register log words thread) ∙ numbers_count 0 32

pub resumed_read : (log : Log) (words : List Word) (thread register : ℕ) → register < 32 →
    read (resumed_registers log words thread) register ≡ resumed_register log words thread register
unfolding resumed_registers
resumed_read log words thread register below =
    let at : 0 + register ≡ register = omega arith in
    mapped (resumed_register log words thread) 0 32 register below ∙ ap (resumed_register log words thread) at
