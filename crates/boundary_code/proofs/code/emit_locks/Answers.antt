use Rattle.std.proofs.Common.{◌≡◌, ◌<◌, ◌+◌, ◌*◌, ◌++◌, ◌∷◌, ℕ, suc, List, [], ap, sym, ◌∙◌, append_assoc, arith, drop, length, get_or, drop-cons}
use Rattle.std.specs.Prelude.{Vec}
use Rattle.std.specs.Global.{Global}
use Rattle.log_schemes.specs.declared.log.Log.{Log}
use Rattle.log_schemes.specs.Schemes.{lock_slot}
use Rattle.rv64_isa.specs.declared.instr.Instr.{Instr}
use Rattle.rv64_isa.specs.declared.instr.Instr.TheVariants.{Store}
use Rattle.rv64_isa.specs.declared.instr.StoreKind.TheVariants.{Sd}
use Rattle.boundary_code.proofs.code.emit_locks.Goals as goal
use Rattle.boundary_code.specs.Boundaries.{keep_locks, lists_of}

-- one lock more
listed : (log : Log) (old code a new : List Instr) (rest : List (List Instr)) (index offset : ℕ) → a ≡ old ++ code → new ≡ a ++ Store Sd 5 30 offset ∷ [] →
    offset ≡ 64 + 8 * lock_slot log index → new ++ keep_locks log (index + 1) rest ≡ old ++ keep_locks log index (code ∷ rest)
listed log old code a new rest index offset ea en eo =
    ap (λ (is : List Instr). is ++ keep_locks log (index + 1) rest)
    (en ∙ ap (λ (n : ℕ). a ++ Store Sd 5 30 n ∷ []) eo ∙ ap (λ (is : List Instr). is ++ Store Sd 5 30 (64 + 8 * lock_slot log index) ∷ []) ea)
    ∙ append_assoc (old ++ code) (Store Sd 5 30 (64 + 8 * lock_slot log index) ∷ []) (keep_locks log (index + 1) rest)
    ∙ append_assoc old code (Store Sd 5 30 (64 + 8 * lock_slot log index) ∷ keep_locks log (index + 1) rest)

first_left : (locks : List (Vec Instr Global)) (i : ℕ) (lock : Vec Instr Global) → i < length locks → lock ≡ get_or locks i lock →
    lists_of (drop i locks) ≡ lock.items ∷ lists_of (drop (suc i) locks)
first_left locks i lock below is =
    ap lists_of (drop-cons locks i lock below) ∙ ap (λ (one : Vec Instr Global). one.items ∷ lists_of (drop (suc i) locks)) (sym is)

pub loop-lock-preserved : goal.loop-lock-preserved
loop-lock-preserved c =
    let log : Log = c.args.log in
    let i : ℕ = c.loop-lock.lock-index in
    let at = c.loop-lock.invariant.at in
    let after : i + 1 ≡ suc i = omega arith in
    record {
      at = omega (arith, at);
      listed =
          ap (λ (n : ℕ). c.push.new.self.items ++ keep_locks log (i + 1) (lists_of (drop n c.args.locks.now))) after
          ∙ listed log c.loop-lock.code.items c.lock-item.result.items c.extend_from_slice.new.self.items c.push.new.self.items
          (lists_of (drop (suc i) c.args.locks.now)) i c.slot_offset.result
          (c.in_ok-extend_from_slice.ensures.items ∙ ap (λ (is : List Instr). c.loop-lock.code.items ++ is) c.deref.ensures.value)
          (c.in_ok-push.ensures.items ∙ ap (λ (one : Instr). c.extend_from_slice.new.self.items ++ one ∷ []) c.sd.ensures)
          (c.slot_offset.ensures.is ∙ ap (λ (n : ℕ). 64 + 8 * n) (c.lock_slot.ensures.is ∙ ap (λ (n : ℕ). lock_slot log n) at))
          ∙ ap (λ (ls : List (List Instr)). c.loop-lock.code.items ++ keep_locks log i ls)
          (sym (first_left c.args.locks.now i c.lock-item.result c.loop-lock-test.true c.lock-item.is))
          ∙ c.loop-lock.invariant.listed;
    }
