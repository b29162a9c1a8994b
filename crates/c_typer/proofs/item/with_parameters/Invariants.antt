use Rattle.std.proofs.Common.{◌≡◌, map, drop}
use Rattle.c_tree.specs.Names as n
use Rattle.c_tree.specs.TypeRules.{parameters_faults}
use Rattle.c_tree.specs.Elaboration as typing
use Rattle.c_tree.specs.Views.{parameter_of}
use Rattle.c_typer.specs.links.FirstFaults.{first_of, noted}
use Rattle.c_typer.specs.links.Scopes.{globals_of, scope_of}
use Rattle.c_typer.proofs.item.with_parameters.Given as goal

abbrev pub invariant-loop-parameter : goal.invariant-loop-parameter
invariant-loop-parameter l = record {
  made :
      typing.with_parameters (globals_of l.globals) (scope_of l.scope) (map parameter_of (drop l.parameter-index l.parameters))
      ≡ typing.with_parameters (globals_of l.globals) n.no_locals (map parameter_of l.parameters);
  noted :
      noted (first_of l.faults)
      (parameters_faults l.globals.language (globals_of l.globals) (scope_of l.scope) (map parameter_of (drop l.parameter-index l.parameters)))
      ≡ noted (first_of l.initial.faults) (parameters_faults l.globals.language (globals_of l.globals) n.no_locals (map parameter_of l.parameters));
}
