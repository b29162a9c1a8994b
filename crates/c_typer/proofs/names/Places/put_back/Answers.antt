use Rattle.std.proofs.Common.{◌≡◌, ℕ, Option, true, is_some, refl, subst}
use Rattle.c_typer.proofs.Lookups.{updated}
use Rattle.c_typer.proofs.names.Places.put_back.Goals as goal

pub returns-in-Some : goal.returns-in-Some
returns-in-Some c =
    let writes = c.get_mut.follows.holds c.args.before in
    updated c.args.self.now.by_name (c.get_mut.follows.lender c.args.before) c.args.name.now c.args.before
    (writes.3 (subst (λ (o : Option (Option ℕ)). is_some o ≡ true) c.in-Some.ensures.value refl))
