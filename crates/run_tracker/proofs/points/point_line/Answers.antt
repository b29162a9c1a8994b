use Rattle.std.proofs.Common.{ℕ, ◌+◌, ◌*◌, ◌<◌, length, ap, sym, ◌∙◌, subst}
use Rattle.log_schemes.specs.Layout.{line_count, log_lines}
use Rattle.ido_machine.specs.Machines.{program_in, log_by}
use Rattle.run_tracker.proofs.PointWords.{point_place, line_exists}
use Rattle.run_tracker.proofs.points.point_line.Goals as goal

pub returns-clause-word : goal.returns-clause-word
returns-clause-word c =
    ap (λ (n : ℕ). 8 * (1024 + n * c.args.hart) + 0) (c.lines.ensures.is ∙ ap log_lines c.log.ensures)
    ∙ sym (point_place (log_by c.args.machine.now) c.args.hart)

pub returns-clause-exists : goal.returns-clause-exists
returns-clause-exists c =
    subst (λ (n : ℕ). 1024 + n * c.args.hart < line_count (log_by c.args.machine.now) (length (program_in c.args.machine.now)))
    (sym (c.lines.ensures.is ∙ ap log_lines c.log.ensures))
    (line_exists (log_by c.args.machine.now) c.args.hart (length (program_in c.args.machine.now)) c.requires)
