-- Worked rows: rules of names and kinds, and where they are broken.
use Rattle.std.proofs.Common.{◌≡◌, ℕ, [], ◌∷◌, map, refl}
use Rattle.std.specs.Prelude.{pos}
use Rattle.ido_base.specs.declared.limits.TheConstants.{MOST_THREADS}
use Rattle.ido_ints.specs.declared.kinds.Kind.{Kind}
use Rattle.ido_ints.specs.declared.kinds.Kind.TheVariants as kind
use Rattle.ido_ints.specs.declared.operators.Binary.TheVariants as b
use Rattle.ido_ints.specs.TypedNumbers.{typed}
use Rattle.ido_ints.specs.Reduction as reduction
use Rattle.c_tree.specs.declared.rule.Rule as r
use Rattle.c_tree.specs.declared.rule.Rule.TheVariants as rule
use Rattle.c_tree.specs.LexicalScan.{Fault}
use Rattle.c_tree.specs.Exprs as e
use Rattle.c_tree.specs.Programs as p
use Rattle.c_tree.specs.Elaboration.{typed_program}
use Rattle.c_tree.specs.declared.language.Language.TheVariants.{Plain}
use Rattle.c_tree.specs.TypeRules.{past, type_faults}
use Rattle.c_tree.proofs.Samples.{at, int, name, operators, calls, scopes, too_long, unknown, declared_twice, wrong_sorts, wrong_counts, wrong_returns}

abbrev at_rule : r.Rule → ℕ → Fault
at_rule found place = record { rule = found; place = at place }

-- ---- Faults

well_typed : type_faults Plain operators ≡ []
unfolding type_faults
well_typed = refl

well_typed_calls : type_faults Plain calls ≡ []
unfolding type_faults
well_typed_calls = refl

well_typed_scopes : type_faults Plain scopes ≡ []
unfolding type_faults
well_typed_scopes = refl

is_unknown : type_faults Plain unknown ≡ at_rule rule.Unknown 20 ∷ []
unfolding type_faults
is_unknown = refl

-- parameters and the body are one scope
is_twice : type_faults Plain declared_twice ≡ at_rule rule.Twice 14 ∷ at_rule rule.Twice 27 ∷ at_rule rule.Twice 36 ∷ []
unfolding type_faults
is_twice = refl

-- an array without braces, an index of a scalar, an array without one, a mutex as target, a variable as mutex, a result of a `void`
-- function, a result that isn't assigned, a call of a thread
is_of_wrong_sort : map (λ (x : Fault). x.place.0) (type_faults Plain wrong_sorts) ≡ 61 ∷ 111 ∷ 121 ∷ 128 ∷ 140 ∷ 148 ∷ 153 ∷ 158 ∷ []
unfolding type_faults
is_of_wrong_sort = refl

-- a scalar may have one number in braces
counts : type_faults Plain wrong_counts ≡ at_rule rule.Count 35 ∷ at_rule rule.Count 71 ∷ at_rule rule.Count 104 ∷ at_rule rule.Count 109 ∷ []
unfolding type_faults
counts = refl

returns : type_faults Plain wrong_returns ≡ at_rule rule.Return 4 ∷ at_rule rule.Return 17 ∷ at_rule rule.Return 39 ∷ []
unfolding type_faults
returns = refl

has_length : type_faults Plain too_long ≡ at_rule rule.Length 30 ∷ []
unfolding type_faults
has_length = refl

ninth : past rule.Threads MOST_THREADS (map (λ n. name [] n) (1 ∷ 2 ∷ 3 ∷ 4 ∷ 5 ∷ 6 ∷ 7 ∷ 8 ∷ 9 ∷ 10 ∷ [])) ≡ at_rule rule.Threads 9 ∷ []
ninth = refl

-- ---- Scopes and kinds

abbrev placed : ℕ → e.Expr → e.Placed
placed place x = record { place = at place; expr = x }

abbrev set : ℕ → ℕ → ℕ → Kind → e.Placed → p.Statements → p.Statements
set place own number kind value more = p.statement_and (p.Assign (at place) (e.ToLocal (at own) number kind) value) more

-- an inner name is known after its own declaration; a `for`'s own local is known to the end of the `for`; a missing condition is 1
scopes_typed : map (λ (x : p.Thread). x.body) (typed_program scopes).threads ≡
    set 11 11 0 kind.Int (placed 19 (e.Constant (int 1))) (
    set 24 24 1 kind.Long (placed 33 (e.Local 0 kind.Int)) (
    set 36 36 1 kind.Long (placed 36 (e.Binary b.Add (e.Local 1 kind.Long) (e.Constant (int 1)))) (
    set 43 43 0 kind.Int (placed 43 (e.Binary b.Add (e.Local 0 kind.Int) (e.Constant (typed kind.UnsignedInt (pos 2))))) (
    set 52 57 2 kind.Int (placed 65 (e.Constant (int 0))) (
    p.statement_and (p.While (at 52) (placed 52 (e.Constant (int 1))) p.no_statement) p.no_statement))))) ∷ []
unfolding typed_program reduction.from_least_on
scopes_typed = refl
