-- Scopes after others, and the scope again after one that stood inside it.
use Rattle.std.proofs.Common.{◌≡◌, ℕ, List, [], ◌++◌, length, drop, take, sym, ap, ap₂, ◌∙◌, append-nil, append_assoc, refl, Option, Vec, Global}
use Rattle.std.proofs.lemmas.List.{take_at}
use Rattle.ido_ints.specs.declared.kinds.Kind.{Kind}
use Rattle.c_tree.specs.Names as n
use Rattle.c_typer.specs.links.Scopes.{scope_of, known_of, own_of, ScopeGrows, Stays}
use Rattle.c_typer.specs.declared.scope.Local.{Local}
use Rattle.c_typer.specs.declared.scope.Scope.{Scope}

pub grows_none : (old new : Scope) → Stays old new → ScopeGrows old new
grows_none old new h = record { mark = h.mark; more = []; known = h.known ∙ sym (append-nil old.known.items) }

pub grows_both : (a b c : Scope) → ScopeGrows a b → ScopeGrows b c → ScopeGrows a c
grows_both a b c h k = record {
  mark = k.mark ∙ h.mark;
  more = h.more ++ k.more;
  known = k.known ∙ ap (λ (xs : List Local). xs ++ k.more) h.known ∙ append_assoc a.known.items h.more k.more;
}

pub stays_both : (a b c : Scope) → Stays a b → Stays b c → Stays a c
stays_both a b c h k = record { mark = k.mark ∙ h.mark; known = k.known ∙ h.known }

abbrev made_of : List Local → ℕ → List Kind → List (Option ℕ) → n.Scope
made_of xs mark ks rs = record { known = known_of xs; own = own_of (drop mark xs); kinds = ks; refers = rs }

-- the scope again, once the locals after those that it had are gone
pub left_again : (old inside mid new : Scope) → inside.known ≡ old.known → ScopeGrows inside mid →
    new.known.items ≡ take (length old.known.items) mid.known.items
    → new.mark ≡ old.mark
    → new.kinds ≡ mid.kinds → new.refers ≡ mid.refers → (scope_of new ≡ n.left (scope_of old) (scope_of mid)) × Stays old new
left_again old inside mid new begins h cut mark kinds refers = (same, record { mark = mark; known = known })
  where
    grown : mid.known.items ≡ old.known.items ++ h.more
    grown = h.known ∙ ap (λ (xs : Vec Local Global). xs.items ++ h.more) begins

    known : new.known.items ≡ old.known.items
    known = cut ∙ ap (take (length old.known.items)) grown ∙ take_at old.known.items h.more (length old.known.items) refl

    same : scope_of new ≡ n.left (scope_of old) (scope_of mid)
    same =
        ap (λ (xs : List Local). made_of xs new.mark new.kinds.items new.refers.items) known
        ∙ ap (λ (m : ℕ). made_of old.known.items m new.kinds.items new.refers.items) mark
        ∙ ap₂ (λ (ks : Vec Kind Global) (rs : Vec (Option ℕ) Global). made_of old.known.items old.mark ks.items rs.items) kinds refers
