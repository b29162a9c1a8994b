use Rattle.std.proofs.Common.{◌≡◌, ◌∙◌, ℕ, ap, subst, sym}
use Rattle.log_schemes.specs.declared.keeping.Keeping.{Keeping}
use Rattle.log_schemes.specs.Schemes.{read_as}
use Rattle.ido_base.specs.Locks.{has_lock, locks_in}
use Rattle.image_checks.specs.Logs.{logs_of, slot_in}
use Rattle.image_checks.proofs.logs.bank_has.Goals as goal

pub is_listed-requires-clause-keeping : goal.is_listed-requires-clause-keeping
is_listed-requires-clause-keeping c = sym c.keeping.ensures ∙ c.in-Listed.is

pub returns-in-Masked : goal.returns-in-Masked
returns-in-Masked c =
    let slot : ℕ → ℕ = λ slot. slot_in (logs_of c.args.log c.args.logs.now) c.args.thread c.args.bank slot in
    subst (λ (k : Keeping). c.mask_has.result ≡ has_lock (read_as k c.args.log slot) c.args.lock) (sym c.in-Masked.is ∙ c.keeping.ensures)
    (c.mask_has.ensures ∙ ap (λ (mask : ℕ). has_lock (locks_in mask) c.args.lock) c.slot_in.ensures)

pub returns-in-Listed : goal.returns-in-Listed
returns-in-Listed c =
    subst (λ (k : Keeping).
    c.is_listed.result ≡ has_lock (read_as k c.args.log (λ slot. slot_in (logs_of c.args.log c.args.logs.now) c.args.thread c.args.bank slot)) c.args.lock)
    (sym c.in-Listed.is ∙ c.keeping.ensures) c.is_listed.ensures
