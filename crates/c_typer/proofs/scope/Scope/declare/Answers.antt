use Rattle.std.proofs.Common.{◌≡◌, ◌∙◌, ◌++◌, ℕ, List, [], ◌∷◌, length, Option, ap, sym, refl, arith, rules}
use Rattle.std.specs.List.{each_same}
use Rattle.std.specs.Option.{option_map}
use Rattle.c_typer.specs.links.Places.{place_of}
use Rattle.c_typer.specs.links.Scopes.{array_of}
use Rattle.c_typer.specs.declared.scope.Local.{Local}
use Rattle.c_typer.proofs.Lookups.{placed_push, hidden_grow, declares}
use Rattle.c_typer.proofs.scope.Scope.declare.Goals as goal

pub invariant_of-self-2-clause-placed : goal.invariant_of-self-2-clause-placed
invariant_of-self-2-clause-placed c =
    let local : Local = record {
      name = c.in_ok-text.text;
      number = c.in_ok-number.number;
      kind = c.args.kind;
      refers = c.args.refers;
      hidden = c.in_ok-hidden.hidden;
    } in
    let key = each_same _ _ c.in_ok-key.ensures.cases.0 in
    let text = each_same _ _ c.in_ok-text.ensures.cases.0 in
    let place : c.len.result ≡ length c.args.self.now.known.items = omega (arith, c.len.ensures, c.reserve.ensures.len, c.args.self.now.known.ok) in
    let more = c.push_reserved.ensures.items ∙ ap (λ (xs : List Local). xs ++ local ∷ []) c.reserve.ensures.items in
    placed_push c.args.self.now.places c.put.new.self c.args.self.now.known.items c.push_reserved.new.self.items local c.in_ok-key.key.items c.len.result
    c.args.self.now.placed c.in_ok-hidden.ensures.put (key ∙ sym text) place more

pub invariant_of-self-2-clause-hiding : goal.invariant_of-self-2-clause-hiding
invariant_of-self-2-clause-hiding c =
    let local : Local = record {
      name = c.in_ok-text.text;
      number = c.in_ok-number.number;
      kind = c.args.kind;
      refers = c.args.refers;
      hidden = c.in_ok-hidden.hidden;
    } in
    let key = each_same _ _ c.in_ok-key.ensures.cases.0 in
    let text = each_same _ _ c.in_ok-text.ensures.cases.0 in
    hidden_grow c.args.self.now.known.items c.push_reserved.new.self.items local c.args.self.now.hiding
    (c.in_ok-hidden.ensures.before ∙ ap (place_of c.args.self.now.places) (key ∙ sym text) ∙ c.args.self.now.placed c.in_ok-text.text.items)
    (c.push_reserved.ensures.items ∙ ap (λ (xs : List Local). xs ++ local ∷ []) c.reserve.ensures.items)

pub returns-clause-declared : goal.returns-clause-declared
returns-clause-declared c =
    let local : Local = record {
      name = c.in_ok-text.text;
      number = c.in_ok-number.number;
      kind = c.args.kind;
      refers = c.args.refers;
      hidden = c.in_ok-hidden.hidden;
    } in
    declares c.args.self.now.known.items c.args.self.now.mark c.args.self.now.kinds.items c.args.self.now.refers.items local c.push_reserved.new.self.items
    c.push-2.new.self.items c.push.new.self.items c.args.name.now.items c.args.kind (option_map array_of c.args.refers)
    c.args.self.now.within (each_same _ _ c.in_ok-text.ensures.cases.0) (search rules) refl refl
    (c.push_reserved.ensures.items ∙ ap (λ (xs : List Local). xs ++ local ∷ []) c.reserve.ensures.items) c.in_ok-push-2.ensures.items
    (c.in_ok-push.ensures.items ∙ ap (λ (o : Option ℕ). c.args.self.now.refers.items ++ o ∷ []) c.number_of.ensures)
