-- Calls in the code's lists.
use Rattle.std.proofs.Common.{◌≡◌, ℕ, zero, suc, ◌<◌, List, [], ◌∷◌, length, get_or, map, Option, Some, None, Vec, Global, refl, sym, ap, ◌∙◌, subst, arith}
use Rattle.std.specs.Prelude.{Contains, slice_get}
use Rattle.std.specs.Option.{option_map}
use Rattle.std.proofs.lemmas.Option.{slice_get-map, slice_get_read}
use Rattle.std.proofs.lemmas.List.{length-map}
use Rattle.c_tree.specs.Programs as p
use Rattle.c_tree.specs.Inlining as i
use Rattle.c_inline.specs.declared.calls.Call.{Call}
use Rattle.c_inline.specs.links.Calls.{call_of, calls_of, lists_of, calls_at, function_calls}

pub all_calls : (P : ℕ → Type 0) (xs : List Call) → ((k : ℕ) (d : Call) → k < length xs → P (get_or xs k d).function) → (c : i.Call) →
    Contains (calls_of xs) c → P c.function
all_calls P [] h c k = absurd (omega (arith, k.1))
all_calls P (x ∷ xs) h c (zero, l, e) = subst (λ (y : i.Call). P y.function) e (h zero x (omega arith))
all_calls P (x ∷ xs) h c (suc k, l, e) = all_calls P xs (λ j d m. h (suc j) d (omega arith)) c (k, omega arith, e)

pub some_call : (xs : List Call) (k : ℕ) (d : Call) → k < length xs → Contains (calls_of xs) (call_of (get_or xs k d))
some_call [] k d l = absurd (omega arith)
some_call (x ∷ xs) zero d l = (0, omega arith, refl)
some_call (x ∷ xs) (suc k) d l = let r = some_call xs k d (omega arith) in (suc r.0, omega (arith, r.1), r.2)

-- the list of a function's calls
pub calls_at_of : (cs : List (Vec Call Global)) (g : ℕ) (x : Vec Call Global) → slice_get cs g ≡ Some x → calls_at (lists_of cs) g ≡ calls_of x.items
calls_at_of cs g x e =
    ap (λ (o : Option (List i.Call)). elim o as (λ _. List i.Call) [ Some y ↦ y | None ↦ [] ])
    (slice_get-map (λ (v : Vec Call Global). calls_of v.items) cs g ∙ ap (option_map (λ (v : Vec Call Global). calls_of v.items)) e)

-- lists of the calls in functions
pub calls_at_function : (fs : List p.Function) (g : ℕ) → calls_at (map function_calls fs) g ≡ i.calls_in fs g
calls_at_function fs g =
    ap (λ (o : Option (List i.Call)). elim o as (λ _. List i.Call) [ Some y ↦ y | None ↦ [] ]) (slice_get-map function_calls fs g) ∙ at (slice_get fs g)
  where
    at : (o : Option p.Function) → (elim (option_map function_calls o) as (λ _. List i.Call) [ Some y ↦ y | None ↦ [] ])
        ≡ (elim o as (λ _. List i.Call) [ Some x ↦ i.statements_calls x.body | None ↦ [] ])
    at (Some x) = refl
    at None = refl

pub calls_in_function : (cs : List (Vec Call Global)) (fs : List p.Function) (g : ℕ) (x : Vec Call Global) → lists_of cs ≡ map function_calls fs →
    slice_get cs g ≡ Some x → calls_of x.items ≡ i.calls_in fs g
calls_in_function cs fs g x h e = sym (calls_at_of cs g x e) ∙ ap (λ (l : List (List i.Call)). calls_at l g) h ∙ calls_at_function fs g

pub lists_length : (cs : List (Vec Call Global)) (fs : List p.Function) → lists_of cs ≡ map function_calls fs → length cs ≡ length fs
lists_length cs fs h = sym (length-map cs (λ (v : Vec Call Global). calls_of v.items)) ∙ ap length h ∙ length-map fs function_calls

pub listed : (cs : List (Vec Call Global)) (fs : List p.Function) (g : ℕ) (v : Vec Call Global) (xs : List Call) → lists_of cs ≡ map function_calls fs →
    g < length fs → v ≡ get_or cs g v → xs ≡ v.items → calls_of xs ≡ i.calls_in fs g
listed cs fs g v xs h l is e = ap calls_of e ∙ calls_in_function cs fs g v h (slice_get_read cs (length cs) g v refl (omega (arith, lists_length cs fs h)) is)
