use Rattle.std.proofs.Common.{ℕ, sym}
use Rattle.std.specs.Prelude.{slice_index}
use Rattle.std.proofs.lemmas.Bool.{eqb-true}
use Rattle.log_schemes.specs.Schemes.{lock_slot}
use Rattle.image_checks.specs.Logs.{logs_of, slot_in}
use Rattle.image_checks.proofs.Masks.{one_listed}
use Rattle.image_checks.proofs.bank.lists.Goals as goal

pub loop-index-preserved : goal.loop-index-preserved
loop-index-preserved c =
    let f : ℕ → ℕ = λ (index : ℕ). slot_in (logs_of c.args.log c.args.logs.now) c.args.thread c.args.bank (lock_slot c.args.log index) in
    let i : ℕ = c.loop-index.index in
    one_listed f c.args.locks.now i c.loop-index-test.true
    (eqb-true (f i) (slice_index c.args.locks.now i) (sym c.if-not-is_listed_at.ensures)) c.loop-index.invariant
