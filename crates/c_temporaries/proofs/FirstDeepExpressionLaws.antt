-- The first expression of joined lists that needs too many temporaries.
use Rattle.std.proofs.Common.{◌≡◌, refl, sym, ◌∙◌, ap, ap₂, ℕ, ◌+◌, ◌<◌, ◌≤◌, List, [], ◌∷◌, ◌++◌, length, get_or}
use Rattle.std.proofs.Common.{take, Option, Some, None, find, nat_lt, true, false, cond, arith, append_assoc}
use Rattle.std.specs.Option.{option_map, option_or}
use Rattle.std.proofs.lemmas.List.{append-nil, take_more}
use Rattle.std.proofs.lemmas.List.Folds.{find-append}
use Rattle.ido_base.specs.declared.place.Place.{Place}
use Rattle.ido_base.specs.declared.limits.TheConstants.{MOST_TEMPORARIES}
use Rattle.c_tree.specs.Exprs as e
use Rattle.c_tree.specs.Flats as f
use Rattle.c_tree.specs.Prices.{need_of}
use Rattle.c_tree.specs.Temporaries.{temporaries_fault}
use Rattle.c_temporaries.specs.links.FirstDeepExpression.{first_deep, threads_exprs}

place_of_either : (x y : Option e.Placed) →
    option_map (λ (z : e.Placed). z.place) (option_or x y) ≡ option_or (option_map (λ (z : e.Placed). z.place) x) (option_map (λ (z : e.Placed). z.place) y)
place_of_either None y = refl
place_of_either (Some x) y = refl

pub deep_one : (x : e.Placed) → MOST_TEMPORARIES < need_of x.expr → first_deep (x ∷ []) ≡ Some x.place
unfolding first_deep
deep_one x h = let test : nat_lt MOST_TEMPORARIES (need_of x.expr) ≡ true = grind arith in
    ap (λ b. option_map (λ (y : e.Placed). y.place) (cond b (Some x) None)) test

pub shallow_one : (x : e.Placed) → need_of x.expr ≤ MOST_TEMPORARIES → first_deep (x ∷ []) ≡ None
unfolding first_deep
shallow_one x h = let test : nat_lt MOST_TEMPORARIES (need_of x.expr) ≡ false = grind arith in
    ap (λ b. option_map (λ (y : e.Placed). y.place) (cond b (Some x) None)) test

pub deep_append : (xs ys : List e.Placed) → first_deep (xs ++ ys) ≡ option_or (first_deep xs) (first_deep ys)
unfolding first_deep
deep_append xs ys =
    let is_deep : e.Placed → _ = λ (y : e.Placed). nat_lt MOST_TEMPORARIES (need_of y.expr) in
    ap (option_map (λ (z : e.Placed). z.place)) (find-append is_deep xs ys) ∙ place_of_either (find is_deep xs) (find is_deep ys)

-- what is found in one list and then in another
pub joined : (r a b : Option Place) (xs ys : List e.Placed) → r ≡ option_or a b → a ≡ first_deep xs → b ≡ first_deep ys → r ≡ first_deep (xs ++ ys)
joined r a b xs ys h p q = h ∙ ap₂ option_or p q ∙ sym (deep_append xs ys)

pub of_flat : (x : f.Flat) → first_deep (threads_exprs x.threads) ≡ temporaries_fault x
unfolding first_deep temporaries_fault
of_flat x = refl

-- ---- A loop over what has expressions

gathered : {A : Type 0} (g : A → List e.Placed) (G : List A → List e.Placed) → G [] ≡ [] → ((x : A) (rest : List A) → G (x ∷ rest) ≡ g x ++ G rest) →
    (xs : List A) (x : A) → G (xs ++ x ∷ []) ≡ G xs ++ g x
gathered g G none more [] x = more x [] ∙ ap (λ ys. g x ++ ys) none ∙ append-nil (g x) ∙ ap (λ ys. ys ++ g x) (sym none)
gathered g G none more (y ∷ rest) x =
    more y (rest ++ x ∷ []) ∙ ap (λ ys. g y ++ ys) (gathered g G none more rest x) ∙ sym (append_assoc (g y) (G rest) (g x))
    ∙ ap (λ ys. ys ++ g x) (sym (more y rest))

-- what was found before, and in one more
pub one_more : {A : Type 0} (g : A → List e.Placed) (G : List A → List e.Placed) → G [] ≡ [] → ((x : A) (rest : List A) → G (x ∷ rest) ≡ g x ++ G rest) →
    (xs : List A) (i : ℕ) (x : A) (r a b : Option Place) → i < length xs → x ≡ get_or xs i x → r ≡ option_or a b → a ≡ first_deep (G (take i xs)) →
    b ≡ first_deep (g x) → r ≡ first_deep (G (take (i + 1) xs))
one_more g G none more xs i x r a b h is e p q =
    let taken : take (i + 1) xs ≡ take i xs ++ x ∷ [] = take_more xs i x h ∙ ap (λ y. take i xs ++ y ∷ []) (sym is) in
    joined r a b (G (take i xs)) (g x) e p q ∙ ap first_deep (sym (ap G taken ∙ gathered g G none more (take i xs) x))
