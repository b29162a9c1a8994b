use Rattle.image_checks.proofs.LoggedWords.{above_frame, frame_within}
use Rattle.image_checks.proofs.logs.frame_in.Goals as goal
use Rattle.std.proofs.Common.{◌∙◌, ap, length, subst, sym, ℕ, ◌<◌, ◌≤◌, ◌-◌, ◌/◌}
use Rattle.ido_base.specs.Layout.{logs_base}
use Rattle.log_schemes.specs.Layout.{frame_at}
use Rattle.image_checks.specs.Logs.{logged}

pub logged-requires-clause-base : goal.logged-requires-clause-base
logged-requires-clause-base c =
    subst (λ (address : ℕ). logs_base ≤ address) (sym c.frame_at.ensures) (above_frame c.args.log c.args.thread c.from.result)

pub logged-requires-clause-within : goal.logged-requires-clause-within
logged-requires-clause-within c =
    subst (λ (address : ℕ). (address - logs_base) / 8 < length c.args.logs.now) (sym c.frame_at.ensures)
    (subst (λ (n : ℕ). (frame_at c.args.log c.args.thread n - logs_base) / 8 < length c.args.logs.now) (sym c.from.ensures)
    (frame_within c.args.log c.args.thread c.args.word (length c.args.logs.now) c.requires.frame c.requires.word c.requires.log))

pub returns : goal.returns
returns c =
    c.logged.ensures ∙ ap (logged c.args.logs.now) (c.frame_at.ensures ∙ ap (frame_at c.args.log c.args.thread) c.from.ensures)
