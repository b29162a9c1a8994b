use Rattle.std.proofs.Common.{◌∙◌, ℕ, Some, get_or, ap, sym, arith}
use Rattle.std.specs.Option.{option_map}
use Rattle.c_typer.specs.links.Scopes.{local_of}
use Rattle.c_typer.proofs.Lookups.{last_found, last_missing, placed_within}
use Rattle.c_typer.proofs.scope.Scope.find.Goals as goal

pub returns-in_err-place : goal.returns-in_err-place
returns-in_err-place c =
    ap (option_map (λ l. local_of l.now)) c.from_residual.ensures
    ∙ last_missing c.args.name.now c.args.self.now.known.items (sym (c.args.self.now.placed c.args.name.now) ∙ sym c.get.ensures ∙ c.in_err-place.was)

pub index-requires : goal.index-requires
index-requires c =
    let within = placed_within c.args.self.now.places c.args.self.now.known.items c.args.self.now.placed c.args.name.now c.in_ok-place.place
    (sym c.get.ensures ∙ c.in_ok-place.was) in
    omega (arith, within, c.args.self.now.known.ok)

pub returns : goal.returns
returns c =
    let known = c.args.self.now.known.items in
    let place = sym (c.args.self.now.placed c.args.name.now) ∙ sym c.get.ensures ∙ c.in_ok-place.was in
    ap (λ l. Some (local_of l)) c.index.ensures
    ∙ sym (ap (option_map (λ (i : ℕ). local_of (get_or known i c.index.result.now))) place)
    ∙ last_found c.args.name.now known c.index.result.now
