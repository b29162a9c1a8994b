use Rattle.image_checks.proofs.LoggedWords.{above_point, point_within}
use Rattle.image_checks.proofs.logs.point_in.Goals as goal
use Rattle.std.proofs.Common.{◌∙◌, ◌≡◌, ap, length, subst, sym, ℕ, ◌<◌, ◌≤◌, ◌-◌, ◌/◌}
use Rattle.ido_base.specs.Layout.{logs_base}
use Rattle.log_schemes.specs.Points.{point_of}
use Rattle.image_checks.specs.Logs.{logged}

pub logged-requires-clause-base : goal.logged-requires-clause-base
logged-requires-clause-base c = subst (λ (address : ℕ). logs_base ≤ address) (sym c.point_at.ensures) (above_point c.args.log c.args.thread)

pub logged-requires-clause-within : goal.logged-requires-clause-within
logged-requires-clause-within c =
    subst (λ (address : ℕ). (address - logs_base) / 8 < length c.args.logs.now) (sym c.point_at.ensures)
    (point_within c.args.log c.args.thread (length c.args.logs.now) c.requires)

pub returns : goal.returns
returns c = c.read_point.ensures ∙ ap point_of (c.logged.ensures ∙ ap (logged c.args.logs.now) c.point_at.ensures)
