use Rattle.image_checks.proofs.LoggedWords.{above_slot, slot_within}
use Rattle.image_checks.proofs.logs.listed_in.Goals as goal
use Rattle.std.proofs.Common.{◌∙◌, ◌≡◌, ap, arith, length, subst, sym, ℕ, ◌<◌, ◌≤◌, ◌-◌, ◌/◌}
use Rattle.ido_base.specs.Layout.{logs_base}
use Rattle.log_schemes.specs.Layout.{slot_at}
use Rattle.image_checks.specs.Logs.{logged}
use Rattle.log_schemes.specs.Schemes.{bank_slots}

pub logged-requires-clause-base : goal.logged-requires-clause-base
logged-requires-clause-base c =
    subst (λ (address : ℕ). logs_base ≤ address) (sym c.slot_at.ensures) (above_slot c.args.log c.args.thread c.args.bank c.from.result)

pub logged-requires-clause-within : goal.logged-requires-clause-within
logged-requires-clause-within c =
    subst (λ (address : ℕ). (address - logs_base) / 8 < length c.args.logs.now) (sym c.slot_at.ensures)
    (slot_within c.args.log c.args.thread c.args.bank c.from.result (length c.args.logs.now) c.requires.bank
    (subst (λ (n : ℕ). n < bank_slots c.args.log) (sym c.from.ensures) c.lock_slot.ensures.exists) c.requires.log)

pub returns : goal.returns
returns c =
    c.logged.ensures ∙ ap (logged c.args.logs.now)
    (c.slot_at.ensures ∙ ap (slot_at c.args.log c.args.thread c.args.bank) (c.from.ensures ∙ c.lock_slot.ensures.is))
