use Rattle.std.proofs.Common.{◌∙◌, ℕ, Some, get_or, ap, sym, arith}
use Rattle.std.specs.Option.{option_map}
use Rattle.c_typer.specs.links.Scopes.{global_of}
use Rattle.c_typer.proofs.Lookups.{first_found, first_missing, first_within}
use Rattle.c_typer.proofs.globals.Globals.find.Goals as goal

pub returns-in_err-first : goal.returns-in_err-first
returns-in_err-first c =
    ap (option_map (λ g. global_of g.now)) c.from_residual.ensures
    ∙ first_missing c.args.name.now c.args.self.now.declared.items (sym (c.args.self.now.placed c.args.name.now) ∙ sym c.get.ensures ∙ c.in_err-first.was)

pub index-requires : goal.index-requires
index-requires c =
    let within = first_within c.args.name.now c.args.self.now.declared.items c.in_ok-first.first
    (sym (c.args.self.now.placed c.args.name.now) ∙ sym c.get.ensures ∙ c.in_ok-first.was) in
    omega (arith, within, c.args.self.now.declared.ok)

pub returns : goal.returns
returns c =
    let declared = c.args.self.now.declared.items in
    let first = sym (c.args.self.now.placed c.args.name.now) ∙ sym c.get.ensures ∙ c.in_ok-first.was in
    ap (λ g. Some (global_of g)) c.index.ensures
    ∙ sym (ap (option_map (λ (i : ℕ). global_of (get_or declared i c.index.result.now))) first)
    ∙ first_found c.args.name.now declared c.index.result.now
