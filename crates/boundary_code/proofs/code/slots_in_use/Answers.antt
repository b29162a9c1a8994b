use Rattle.std.proofs.Common.{◌≡◌, ◌<◌, ◌+◌, ◌-◌, ◌++◌, ◌∷◌, ℕ, suc, List, [], map, ap, ◌∙◌, append_assoc, arith}
use Rattle.log_schemes.specs.declared.log.Log.{Log}
use Rattle.log_schemes.specs.Schemes.{lock_slot, numbers_from}
use Rattle.boundary_code.proofs.code.slots_in_use.Goals as goal

-- one slot more
next : (log : Log) (old new : List ℕ) (slot lock locks : ℕ) → lock < locks → new ≡ old ++ slot ∷ [] → slot ≡ lock_slot log lock →
    new ++ map (lock_slot log) (numbers_from (lock + 1) (locks - (lock + 1))) ≡ old ++ map (lock_slot log) (numbers_from lock (locks - lock))
next log old new slot lock locks below is own =
    let left : suc (locks - (lock + 1)) ≡ locks - lock = omega (arith, below) in
    let rest : List ℕ = map (lock_slot log) (numbers_from (lock + 1) (locks - (lock + 1))) in
    ap (λ (ns : List ℕ). ns ++ rest) (is ∙ ap (λ (n : ℕ). old ++ n ∷ []) own)
    ∙ append_assoc old (lock_slot log lock ∷ []) rest
    ∙ ap (λ (n : ℕ). old ++ map (lock_slot log) (numbers_from lock n)) left

pub loop-lock-preserved : goal.loop-lock-preserved
loop-lock-preserved c =
    next c.args.log c.loop-lock.slots.items c.push.new.self.items c.lock_slot.result c.loop-lock.lock c.args.locks c.loop-lock-test.true
    c.in_ok-push.ensures.items c.lock_slot.ensures.is
    ∙ c.loop-lock.invariant
