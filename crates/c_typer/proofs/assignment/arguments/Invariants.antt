use Rattle.std.proofs.Common.{◌≡◌, map, flat_map, take, drop}
use Rattle.c_tree.specs.Exprs.{placed_of}
use Rattle.c_tree.specs.TypeRules.{expression_faults}
use Rattle.c_tree.specs.Elaboration.{placed}
use Rattle.c_tree.specs.Views.{expression_of}
use Rattle.c_typer.specs.links.FirstFaults.{first_of, noted}
use Rattle.c_typer.specs.links.Scopes.{globals_of, scope_of}
use Rattle.c_typer.proofs.assignment.arguments.Given as goal

abbrev pub invariant-loop-argument : goal.invariant-loop-argument
invariant-loop-argument l = record {
  made : map placed_of l.made.items ≡ map (placed (globals_of l.globals) (scope_of l.scope)) (map expression_of (take l.argument-index l.read));
  noted :
      noted (first_of l.faults) (flat_map (expression_faults l.globals.language (globals_of l.globals) (scope_of l.scope))
      (map expression_of (drop l.argument-index l.read)))
      ≡ noted (first_of l.initial.faults)
      (flat_map (expression_faults l.globals.language (globals_of l.globals) (scope_of l.scope)) (map expression_of l.read));
}
