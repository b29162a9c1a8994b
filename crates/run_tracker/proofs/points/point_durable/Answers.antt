use Rattle.std.proofs.Common.{ℕ, sym, ap, ◌∙◌}
use Rattle.log_schemes.specs.declared.log.Log.{Log}
use Rattle.ido_base.specs.Words.{word_at}
use Rattle.run_tracker.specs.links.AccountRepresentation.{point_word}
use Rattle.run_tracker.proofs.points.point_durable.Goals as goal

pub returns : goal.returns
returns c = λ w stands. c.durable_position.ensures w stands
    ∙ ap (λ (n : ℕ). (word_at w.words n).durable) (c.point_line.ensures.word ∙ ap (λ (l : Log). point_word l c.args.hart) (sym stands.log))
