use Rattle.std.proofs.Common.{map, string_bytes, sym, ◌∙◌}
use Rattle.std.specs.Prelude.{Some}
use Rattle.ido_cli.specs.Answers.{outside}
use Rattle.ido_cli.proofs.TopCallAnswers.{answered_by, finished_unwritten, said_to_command, unwritten_by}
use Rattle.ido_cli.proofs.top.serve_on_threads.Goals as goal

pub returns-in-Ok-Some-clause-answered : goal.returns-in-Ok-Some-clause-answered
returns-in-Ok-Some-clause-answered g c =
    let said = c.say_on_threads-said in
    let left = g.S.Source.left c.args.input.now in
    answered_by (map string_bytes c.args.words.now) (Some c.in-Ok-Some.command) (outside g.S.Source.left g.S.Source.faults g.K.Sink.written g.K.Sink.faults
    c.args.input.now said.new.input c.args.output.now c.finish.new.output) said.result c.finish.result (sym c.in-Ok-Some.ensures ∙ c.in-Ok-Some.field-0-is)
    (said_to_command c.in-Ok-Some.command left said.result said.ensures.said) said.ensures.failed said.ensures.read c.finish.ensures.said
    c.finish.ensures.failed c.finish.ensures.memory
    (unwritten_by g.K.Sink.written said.result c.args.output.now c.finish.new.output c.finish.ensures.unwritten)

pub returns-in-Ok-Some-clause-unwritten : goal.returns-in-Ok-Some-clause-unwritten
returns-in-Ok-Some-clause-unwritten g c =
    let said = c.say_on_threads-said in
    let left = g.S.Source.left c.args.input.now in
    finished_unwritten g.K.Sink.written g.K.Sink.faults (Some c.in-Ok-Some.command) left said.result c.args.output.now c.finish.new.output c.finish.result
    (said_to_command c.in-Ok-Some.command left said.result said.ensures.said) c.finish.ensures.said c.finish.ensures.unwritten
