use Rattle.std.proofs.Common.{◌≡◌, ◌∙◌, ℕ, List, Some, None, cond, subst, rules}
use Rattle.std.specs.List.{each_same}
use Rattle.c_tree.specs.Names.{same_name}
use Rattle.c_typer.specs.links.Places.{place_of}
use Rattle.c_typer.proofs.Lookups.{put_at_first}
use Rattle.c_typer.proofs.names.Places.put_first.Goals as goal

pub returns-in_ok-put : goal.returns-in_ok-put
returns-in_ok-put c = λ other.
    let text : c.in_ok-clone.field-0.items ≡ c.args.name.now.items = each_same _ _ c.in_ok-clone.ensures.cases.0 in
    let none : place_of c.args.self.now c.args.name.now.items ≡ None = search rules in
    subst (λ (q : List ℕ). place_of c.put.new.self other ≡ cond (same_name q other) (Some c.args.place) (place_of c.args.self.now other)) text
    (c.in_ok-put.ensures.put other)
    ∙ put_at_first (place_of c.args.self.now) c.args.name.now.items other c.args.place none
