use Rattle.std.proofs.Common.{sym, ap, map, ◌∙◌}
use Rattle.c_tree.specs.TypeRules as rules
use Rattle.c_tree.specs.Views.{item_of}
use Rattle.c_typer.specs.links.FirstFaults.{first_of}
use Rattle.c_typer.specs.links.Scopes.{globals_of}
use Rattle.c_typer.proofs.FirstFaultLaws.{noted_none}
use Rattle.c_typer.proofs.RowSteps.{items_made_step, items_noted_step}
use Rattle.c_typer.proofs.program.items.Goals as goal

pub loop-item-preserved : goal.loop-item-preserved
loop-item-preserved c =
    let gs = globals_of c.args.globals.now in
    let x = item_of c.in-Some.item in
    let split = ap (map item_of) c.in-Some.ensures.steps.0 in
    let before = c.loop-item.invariant in
    let done = c.in_ok-add_last.ensures in record {
      made = λ none. items_made_step gs _ _ x _ _ _ split (done.made none)
          (before.made (noted_none (first_of c.loop-item.faults) (rules.item_faults c.args.globals.now.language gs x) (sym done.noted ∙ none)).0);
      noted = items_noted_step c.args.globals.now.language gs _ _ x _ _ _ split done.noted before.noted;
    }
