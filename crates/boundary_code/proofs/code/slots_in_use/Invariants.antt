use Rattle.std.proofs.Common.{◌≡◌, ◌-◌, ◌++◌, ◌∷◌, ℕ, drop, map}
use Rattle.log_schemes.specs.Schemes.{lock_slot, numbers_from, register_slot, told}
use Rattle.boundary_code.proofs.code.slots_in_use.Given as goal

abbrev pub invariant-loop-lock : goal.invariant-loop-lock
invariant-loop-lock l =
    l.slots.items ++ map (lock_slot l.log) (numbers_from l.lock (l.locks - l.lock)) ≡ 0 ∷ map (lock_slot l.log) (numbers_from 0 l.locks)

abbrev pub invariant-loop-register : goal.invariant-loop-register
invariant-loop-register l =
    l.slots.items ++ map (register_slot l.log) (drop l.register-index l.live) ≡
    ((0 ∷ map (lock_slot l.log) (numbers_from 0 l.locks)) ++ map (λ (one : ℕ × ℕ). one.0) (told l.fn.log l.fn.written.bytes)) ++ map (register_slot l.log) l.live
