use Rattle.std.proofs.Common.{◌≡◌, ◌∙◌, ℕ, ap, arith, sym, true}
use Rattle.log_schemes.specs.Layout.{slot_at}
use Rattle.log_schemes.specs.Schemes.{keeps_register, register_slot}
use Rattle.log_schemes.specs.declared.log.Log.{Log}
use Rattle.machine_model.specs.Machine.{bank_of, durable_at, durable_point}
use Rattle.resume_recovery.specs.links.Points.{bank_in}
use Rattle.resume_recovery.proofs.Points.{bank-is, register_kept}
use Rattle.resume_recovery.proofs.record.resumed_register.Goals as goal

pub returns : goal.returns
returns c = λ words s.
    let log : Log = c.args.memory.now.log in
    let bank : c.bank_of-bank.result ≡ bank_of (durable_point log words c.args.hart) =
    c.bank_of-bank.ensures ∙ ap bank_in (c.point_of.ensures.point words s) ∙ bank-is _ in
    let keeps : keeps_register log c.args.register ≡ true =
    ap (λ (l : Log). keeps_register l c.args.register) (sym c.log-log.ensures) ∙ sym c.if-not-keeps_register.ensures in
    let slot : c.from-2.result ≡ register_slot log c.args.register =
    c.from-2.ensures ∙ (c.register_slot.ensures.is ∙ ap (λ (l : Log). register_slot l c.args.register) c.log-log.ensures) in
    register_kept words c.args.hart log c.args.register c.bank_of-bank.result c.durable_slot.result (λ e. absurd (omega (arith, e))) keeps bank
    (c.durable_slot.ensures words s ∙ ap (λ (n : ℕ). durable_at words (slot_at log c.args.hart c.bank_of-bank.result n)) slot)
