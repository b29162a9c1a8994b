use Rattle.std.proofs.Common.{◌∙◌, ap, sym}
use Rattle.c_typer.proofs.Lookups.{is_below, first_before}
use Rattle.c_typer.proofs.globals.Globals.is_declared_before.Goals as goal

pub returns-in-Some : goal.returns-in-Some
returns-in-Some c =
    ap (is_below c.args.number) (c.in-Some.ensures ∙ c.args.self.now.placed c.args.name.now)
    ∙ sym (first_before c.args.name.now c.args.number c.args.self.now.declared.items)

pub returns-in-None : goal.returns-in-None
returns-in-None c =
    ap (is_below c.args.number) (c.in-None.ensures ∙ c.args.self.now.placed c.args.name.now)
    ∙ sym (first_before c.args.name.now c.args.number c.args.self.now.declared.items)
