use Rattle.c_typer.specs.links.Scopes.{globals_of, scope_of}
use Rattle.c_typer.proofs.Arguments.{arguments_all}
use Rattle.c_typer.proofs.assignment.note_arguments.Goals as goal

pub returns : goal.returns
returns c =
    arguments_all c.args.globals.now.language (globals_of c.args.globals.now) (scope_of c.args.scope.now) c.args.place _ _ c.args.parameters.now
    c.args.read.now c.loop-i.i c.loop-i-test.false c.loop-i.invariant
