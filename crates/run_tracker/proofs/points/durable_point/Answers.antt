use Rattle.std.proofs.Common.{ℕ, sym, ap, ◌∙◌}
use Rattle.log_schemes.specs.declared.log.Log.{Log}
use Rattle.ido_base.specs.Words.{word_at, durable_value}
use Rattle.run_tracker.specs.links.AccountRepresentation.{point_word}
use Rattle.run_tracker.proofs.points.durable_point.Goals as goal

pub returns : goal.returns
returns c = λ w stands. c.durable_word.ensures w stands
    ∙ ap (λ (n : ℕ). durable_value (word_at w.words n)) (c.point_line.ensures.word ∙ ap (λ (l : Log). point_word l c.args.hart) (sym stands.log))
