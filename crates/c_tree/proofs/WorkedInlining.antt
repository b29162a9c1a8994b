-- Worked rows: flat forms, in which each call is its function's body with fresh locals.
use Rattle.std.proofs.Common.{◌≡◌, ℕ, List, [], ◌∷◌, map, None, refl, arith}
use Rattle.ido_ints.specs.declared.kinds.Kind.{Kind}
use Rattle.ido_ints.specs.declared.kinds.Kind.TheVariants as kind
use Rattle.ido_ints.specs.declared.operators.Binary.TheVariants as b
use Rattle.ido_ints.specs.Reduction as reduction
use Rattle.c_tree.specs.Trees as t
use Rattle.c_tree.specs.Exprs as e
use Rattle.c_tree.specs.Flats as f
use Rattle.c_tree.specs.Elaboration.{typed_program}
use Rattle.c_tree.specs.Inlining.{Call, calls_in, LeadsBack, there, by_call, flat_form}
use Rattle.c_tree.proofs.Samples.{at, int, calls, fresh, recursive}

abbrev placed : ℕ → e.Expr → e.Placed
placed place x = record { place = at place; expr = x }

abbrev local : ℕ → e.Expr
local number = e.Local number kind.Int

abbrev set : ℕ → ℕ → ℕ → e.Placed → f.Statement
set place own number value = f.Assign (at place) (e.ToLocal (at own) number kind.Int) value

abbrev all_of : List f.Statement → f.Statements
all_of [] = f.no_statement
all_of (x ∷ xs) = f.statement_and x (all_of xs)

abbrev bodies : List t.Item → List f.Statements
bodies xs = map (λ (x : f.Thread). x.body) (flat_form (typed_program xs)).threads

abbrev kinds : List t.Item → List (List Kind)
kinds xs = map (λ (x : f.Thread). x.locals) (flat_form (typed_program xs)).threads

-- the parameter and the result stand at the calling statement, the body in the function; the parts of the `for` stand at the `for`
calls_flat : bodies calls ≡
    all_of (
    set 88 93 0 (placed 101 (e.Constant (int 0))) ∷
    f.While (at 88) (placed 104 (e.Binary b.Less (local 0) (e.Constant (int 2)))) (all_of (
    f.Lock (at 118) (record { mutex = 0; key = None }) ∷
    set 127 127 1 (placed 137 (local 0)) ∷
    set 50 50 2 (placed 58 (e.Binary b.Add (local 1) (local 1))) ∷
    f.Assign (at 127) (e.ToVariable (at 127) 0 kind.Long) (placed 72 (e.Converted kind.Int (local 2))) ∷
    f.Unlock (at 141) (record { mutex = 0; key = None }) ∷
    set 88 111 0 (placed 111 (e.Binary b.Add (local 0) (e.Constant (int 1)))) ∷ [])) ∷
    f.Do (at 154) f.no_statement (placed 168 (e.Constant (int 0))) ∷ []) ∷ []
unfolding typed_program flat_form reduction.from_least_on
calls_flat = refl

-- each call has a local of its own for `k`
fresh_flat : bodies fresh ≡
    all_of (
    set 12 12 2 (placed 20 (e.Constant (int 1))) ∷
    set 46 46 0 (placed 30 (e.Converted kind.Int (local 2))) ∷
    set 12 12 3 (placed 20 (e.Constant (int 1))) ∷
    set 61 61 1 (placed 30 (e.Converted kind.Int (local 3))) ∷ []) ∷ []
unfolding typed_program flat_form reduction.from_least_on
fresh_flat = refl

fresh_locals : kinds fresh ≡ (kind.Int ∷ kind.Int ∷ kind.Int ∷ kind.Int ∷ []) ∷ []
unfolding typed_program flat_form reduction.from_least_on
fresh_locals = refl

-- ---- Calls that lead back

abbrev calls_of : ℕ → List Call
calls_of = calls_in (typed_program recursive).functions

abbrev to : ℕ → ℕ → Call
to place function = record { place = at place; function = function }

calls_of_f : calls_of 0 ≡ to 20 1 ∷ []
unfolding typed_program
calls_of_f = refl

calls_of_g : calls_of 1 ≡ to 40 0 ∷ []
unfolding typed_program
calls_of_g = refl

calls_of_h : calls_of 2 ≡ to 58 0 ∷ []
unfolding typed_program
calls_of_h = refl

-- from `g` a call leads back to `f`, which has this call
leads_back : LeadsBack (typed_program recursive).functions (to 20 1)
unfolding typed_program
leads_back = record { caller = 0; made = (0, omega arith, refl); back = by_call 1 (to 40 0) (0, omega arith, refl) there }
