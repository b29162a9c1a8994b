use Rattle.std.proofs.Common.{◌+◌, arith}
use Rattle.run_scripts.proofs.LineReader.{end_fails}
use Rattle.run_scripts.proofs.script.end.Goals as goal

pub returns-else-at-line-clause-refused : goal.returns-else-at-line-clause-refused
returns-else-at-line-clause-refused c =
    λ command. end_fails c.args.line.now (c.args.place + c.args.at) c.args.at command (omega (arith, c.requires.within, c.if-at-line.false))
