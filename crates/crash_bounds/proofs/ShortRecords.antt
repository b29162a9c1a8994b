-- How many locks a record has at most.
use Rattle.std.proofs.Common.{◌≡◌, refl, ℕ, zero, suc, ◌+◌, ◌*◌, ◌/◌, ◌%◌, ◌≤◌, List, [], ◌∷◌, length, map, take, arith, sym, subst, Bool, true, false}
use Rattle.std.specs.Prelude.{◌==◌, min}
use Rattle.std.proofs.lemmas.Bool.{cond_both}
use Rattle.std.proofs.lemmas.List.{length-take}
use Rattle.ido_base.specs.Words.{Word}
use Rattle.ido_base.specs.Locks.{locks_from, locks_in}
use Rattle.log_schemes.specs.declared.log.Log.{Log}
use Rattle.log_schemes.specs.declared.keeping.Keeping.{Keeping}
use Rattle.log_schemes.specs.declared.keeping.Keeping.TheVariants.{Masked, Listed}
use Rattle.machine_model.specs.Machine.{durable_point, recorded, record_of}
use Rattle.log_schemes.specs.Schemes.{keeping_of, lock_slot, numbers_from, read_as}
use Rattle.crash_bounds.specs.Rounds.{KeepsAtMost, ListsKeepSixteen, MasksKeepSixtyFour}

locks_few : (at bits mask : ℕ) → length (locks_from at bits mask) ≤ bits
locks_few at zero mask = omega arith
locks_few at (suc bits) mask =
    cond_both (mask % 2 == 1) (at ∷ locks_from (at + 1) bits (mask / 2)) (locks_from (at + 1) bits (mask / 2)) (λ (xs : List ℕ). length xs ≤ suc bits)
    (λ e. let more = locks_few (at + 1) bits (mask / 2) in omega (arith, more))
    (λ e. let more = locks_few (at + 1) bits (mask / 2) in omega (arith, more))

mask_few : (mask : ℕ) → length (locks_in mask) ≤ 64
unfolding locks_in
mask_few mask = locks_few 0 64 mask

length_few : (n : ℕ) (xs : List ℕ) → length (take n xs) ≤ length xs
length_few zero xs = omega arith
length_few (suc n) [] = omega arith
length_few (suc n) (x ∷ xs) = let more = length_few n xs in omega (arith, more)

-- as many as it may keep
abbrev most : Keeping → ℕ
most Masked = 64
most Listed = 16

read_few : (k : Keeping) (log : Log) (slots : ℕ → ℕ) → length (read_as k log slots) ≤ most k
read_few Masked log slots = mask_few (slots 0)
read_few Listed log slots = length_few (slots 0) (map (λ index. slots (lock_slot log index)) (numbers_from 0 16))

keeps : (log : Log) (k : Keeping) → keeping_of log ≡ k → KeepsAtMost log (most k)
keeps log k is words thread =
    cond_both (durable_point log words thread == 0) [] (read_as (keeping_of log) log (recorded log words thread)) (λ (xs : List ℕ). length xs ≤ most k)
    (λ e. omega arith)
    (λ e. subst (λ (way : Keeping). length (read_as way log (recorded log words thread)) ≤ most k) (sym is) (read_few k log (recorded log words thread)))

pub masks_keep : MasksKeepSixtyFour
masks_keep log is = keeps log Masked is

pub lists_keep : ListsKeepSixteen
lists_keep log is = keeps log Listed is
