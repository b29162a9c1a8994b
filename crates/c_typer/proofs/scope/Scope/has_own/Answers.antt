use Rattle.std.proofs.Common.{◌∙◌, ap, sym}
use Rattle.c_typer.proofs.Lookups.{is_after, last_after}
use Rattle.c_typer.proofs.scope.Scope.has_own.Goals as goal

pub returns-in-Some : goal.returns-in-Some
returns-in-Some c =
    ap (is_after c.args.self.now.mark) (c.in-Some.ensures ∙ c.args.self.now.placed c.args.name.now)
    ∙ sym (last_after c.args.name.now c.args.self.now.mark c.args.self.now.known.items c.args.self.now.within)

pub returns-in-None : goal.returns-in-None
returns-in-None c =
    ap (is_after c.args.self.now.mark) (c.in-None.ensures ∙ c.args.self.now.placed c.args.name.now)
    ∙ sym (last_after c.args.name.now c.args.self.now.mark c.args.self.now.known.items c.args.self.now.within)
