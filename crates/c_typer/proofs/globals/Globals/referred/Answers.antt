use Rattle.std.proofs.Common.{ℕ, List, Option, find, ap, sym, ◌∙◌}
use Rattle.std.specs.Option.{option_map}
use Rattle.c_tree.specs.Names as n
use Rattle.c_tree.specs.Views.{type_name_of}
use Rattle.c_tree.specs.declared.tree.TypeName.{TypeName}
use Rattle.c_typer.specs.links.Scopes.{globals_of}
use Rattle.c_typer.proofs.globals.Globals.referred.Goals as goal

pub returns-in-Some : goal.returns-in-Some
returns-in-Some c =
    let gs = globals_of c.args.self.now in
    c.array.ensures
    ∙ ap (λ (found : Option n.Global). n.array_of gs (option_map (λ (g : n.Global). g.sort) found))
    (c.in-Some.ensures ∙ ap (λ (name : List ℕ). find (λ (g : n.Global). n.same_name g.name.text name) gs) c.deref.ensures.value)
    ∙ ap (λ (x : TypeName). n.referred gs (type_name_of x)) (sym c.in-Reference.is)
