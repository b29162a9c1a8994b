use Rattle.std.proofs.Common.{◌≡◌, ◌∙◌, List, ℕ, ap, sym}
use Rattle.log_schemes.specs.declared.keeping.Keeping.TheVariants.{Masked, Listed}
use Rattle.log_schemes.specs.Schemes.{keeping_of}
use Rattle.log_schemes.specs.Layout.{slot_at}
use Rattle.machine_model.specs.Machine.{durable_at}
use Rattle.ido_base.specs.Locks.{least_missing}
use Rattle.resume_recovery.proofs.Points.{at_is, mask_record, list_record}
use Rattle.resume_recovery.proofs.record.missing_lock.Goals as goal

pub returns-in-Masked-clause-value : goal.returns-in-Masked-clause-value
returns-in-Masked-clause-value c = λ words s.
    let masked : keeping_of c.args.memory.now.log ≡ Masked = ap keeping_of (sym c.log.ensures) ∙ (sym c.keeping.ensures ∙ c.in-Masked.is) in
    let at = at_is _ c.in-At.address c.in-At.bank (sym c.in-At.is ∙ c.point_of.ensures.point words s) in
    c.least_missing.ensures.value
    ∙ ap (λ (locks : List ℕ). least_missing c.args.locks.now locks c.args.hart)
    (mask_record words c.args.hart c.args.memory.now.log c.in-At.address c.in-At.bank c.durable_slot.result masked at
    (c.durable_slot.ensures words s ∙ ap (λ (n : ℕ). durable_at words (slot_at c.args.memory.now.log c.args.hart c.in-At.bank n)) c.from.ensures))

pub returns-in-Listed-clause-value : goal.returns-in-Listed-clause-value
returns-in-Listed-clause-value c = λ words s.
    let listed : keeping_of c.args.memory.now.log ≡ Listed = ap keeping_of (sym c.log.ensures) ∙ (sym c.keeping.ensures ∙ c.in-Listed.is) in
    let at = at_is _ c.in-At.address c.in-At.bank (sym c.in-At.is ∙ c.point_of.ensures.point words s) in
    c.missing_of_list.ensures.value words s
    ∙ ap (λ (locks : List ℕ). least_missing c.args.locks.now locks c.args.hart)
    (list_record words c.args.hart c.args.memory.now.log c.in-At.address c.in-At.bank listed at)
