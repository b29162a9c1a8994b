use Rattle.std.proofs.Common.{◌≡◌, drop}
use Rattle.c_tree.specs.Programs as p
use Rattle.c_tree.specs.TypeRules as rules
use Rattle.c_tree.specs.Elaboration as typing
use Rattle.c_tree.specs.Elaboration.{statements_and}
use Rattle.c_tree.specs.Views as v
use Rattle.c_typer.specs.links.FirstFaults.{first_of, noted}
use Rattle.c_typer.specs.links.Scopes.{globals_of, scope_of, ScopeGrows, Stays}
use Rattle.c_typer.proofs.Rows.{arms_and}
use Rattle.c_typer.proofs.statement.+statements.Given as goal

abbrev pub invariant-statements-loop-next : goal.invariant-statements-loop-next
invariant-statements-loop-next l = record {
  made :
      statements_and (p.statements_of l.made.items) (typing.statements (globals_of l.globals) (scope_of l.scope)
      (v.statements_of (drop l.next-index l.read))).made
      ≡ statements_and (p.statements_of l.initial.made.items)
      (typing.statements (globals_of l.globals) (scope_of l.initial.scope) (v.statements_of l.read)).made;
  noted :
      noted (first_of l.faults) (rules.statements_faults l.globals.language (globals_of l.globals) (scope_of l.scope)
      (v.statements_of (drop l.next-index l.read)))
      ≡ noted (first_of l.initial.faults)
      (rules.statements_faults l.globals.language (globals_of l.globals) (scope_of l.initial.scope) (v.statements_of l.read));
  scope :
      (typing.statements (globals_of l.globals) (scope_of l.scope) (v.statements_of (drop l.next-index l.read))).scope
      ≡ (typing.statements (globals_of l.globals) (scope_of l.initial.scope) (v.statements_of l.read)).scope;
  grows : ScopeGrows l.initial.scope l.scope;
}

abbrev pub invariant-arms_of-loop-arm : goal.invariant-arms_of-loop-arm
invariant-arms_of-loop-arm l = record {
  made :
      arms_and (p.arms_list_of l.made.items) (typing.arms_of (globals_of l.globals) (scope_of l.scope) (v.arms_list_of (drop l.arm-index l.read))).made
      ≡ (typing.arms_of (globals_of l.globals) (scope_of l.initial.scope) (v.arms_list_of l.read)).made;
  noted :
      noted (first_of l.faults) (rules.arms_faults l.globals.language (globals_of l.globals) (scope_of l.scope) (v.arms_list_of (drop l.arm-index l.read)))
      ≡ noted (first_of l.initial.faults) (rules.arms_faults l.globals.language (globals_of l.globals) (scope_of l.initial.scope) (v.arms_list_of l.read));
  scope :
      (typing.arms_of (globals_of l.globals) (scope_of l.scope) (v.arms_list_of (drop l.arm-index l.read))).scope
      ≡ (typing.arms_of (globals_of l.globals) (scope_of l.initial.scope) (v.arms_list_of l.read)).scope;
  stays : Stays l.initial.scope l.scope;
}
