use Rattle.std.proofs.Common.{map, string_bytes, sym}
use Rattle.ido_cli.specs.Answers.{outside}
use Rattle.ido_cli.proofs.TopCallAnswers.{answered_by, finished_unwritten, unwritten_by}
use Rattle.ido_cli.proofs.top.alone.Goals as goal

pub returns-clause-answered : goal.returns-clause-answered
returns-clause-answered g c =
    answered_by (map string_bytes c.args.words.now) c.in-Ok.named (outside g.S.Source.left g.S.Source.faults g.K.Sink.written g.K.Sink.faults c.args.input.now
    c.say_to-said.new.input c.args.output.now c.finish.new.output) c.say_to-said.result c.finish.result (sym c.in-Ok.ensures) c.say_to-said.ensures.said
    c.say_to-said.ensures.failed c.say_to-said.ensures.read c.finish.ensures.said c.finish.ensures.failed c.finish.ensures.memory
    (unwritten_by g.K.Sink.written c.say_to-said.result c.args.output.now c.finish.new.output c.finish.ensures.unwritten)

pub returns-clause-unwritten : goal.returns-clause-unwritten
returns-clause-unwritten g c =
    finished_unwritten g.K.Sink.written g.K.Sink.faults c.in-Ok.named (g.S.Source.left c.args.input.now) c.say_to-said.result c.args.output.now
    c.finish.new.output c.finish.result c.say_to-said.ensures.said c.finish.ensures.said c.finish.ensures.unwritten
