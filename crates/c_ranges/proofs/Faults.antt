-- The first fault of a list of indexes.
use Rattle.std.proofs.Common.{◌≡◌, refl, sym, ◌∙◌, ap, ℕ, ◌+◌, ◌<◌, ◌≤◌, List, [], ◌∷◌, ◌++◌, length, get_or}
use Rattle.std.proofs.Common.{take, Option, Some, None, true, false, cond, leb, ⊎_elim, arith, append_assoc}
use Rattle.std.proofs.lemmas.List.{append-nil, take_more}
use Rattle.std.proofs.lemmas.Bool.{cases_lt}
use Rattle.c_tree.specs.Programs as p
use Rattle.ido_base.specs.declared.place.Place.{Place}
use Rattle.c_tree.specs.Exprs as e
use Rattle.c_tree.specs.Ranges.{Index, Indexed}
use Rattle.c_ranges.specs.links.FirstUnfitIndex.{earlier, elements_for, fault_at, fault_of, first_fault}
use Rattle.c_ranges.specs.declared.indexes.IndexError.{IndexError}

abbrev pub index_of : Indexed → Place → e.Expr → Index
index_of of place expr = record { of = of; place = place; expr = expr }

-- ---- Of two answers

pub earlier_first : (a b : IndexError) → a.place.0 ≤ b.place.0 → earlier (Some a) (Some b) ≡ Some a
earlier_first a b h = let e : leb a.place.0 b.place.0 ≡ true = grind (arith) in ap (λ t. cond t (Some a) (Some b)) e

pub earlier_second : (a b : IndexError) → b.place.0 < a.place.0 → earlier (Some a) (Some b) ≡ Some b
earlier_second a b h = let e : leb a.place.0 b.place.0 ≡ false = grind (arith) in ap (λ t. cond t (Some a) (Some b)) e

pub earlier_none : (x : Option IndexError) → earlier x None ≡ x
earlier_none None = refl
earlier_none (Some a) = refl

earlier_some : (a b c : IndexError) → earlier (earlier (Some a) (Some b)) (Some c) ≡ earlier (Some a) (earlier (Some b) (Some c))
earlier_some a b c = ⊎_elim
    (λ h. ⊎_elim
    (λ k. ap (λ x. earlier x (Some c)) (earlier_second a b h) ∙ earlier_second b c k ∙ sym (earlier_second a c (omega arith))
    ∙ ap (earlier (Some a)) (sym (earlier_second b c k)))
    (λ k. ap (λ x. earlier x (Some c)) (earlier_second a b h) ∙ earlier_first b c k ∙ sym (earlier_second a b h)
    ∙ ap (earlier (Some a)) (sym (earlier_first b c k)))
    (cases_lt c.place.0 b.place.0))
    (λ h. ⊎_elim
    (λ k. ap (λ x. earlier x (Some c)) (earlier_first a b h) ∙ ap (earlier (Some a)) (sym (earlier_second b c k)))
    (λ k. ap (λ x. earlier x (Some c)) (earlier_first a b h) ∙ earlier_first a c (omega arith) ∙ sym (earlier_first a b h)
    ∙ ap (earlier (Some a)) (sym (earlier_first b c k)))
    (cases_lt c.place.0 b.place.0))
    (cases_lt b.place.0 a.place.0)

pub earlier_assoc : (x y z : Option IndexError) → earlier (earlier x y) z ≡ earlier x (earlier y z)
earlier_assoc None y z = refl
earlier_assoc (Some a) None z = refl
earlier_assoc (Some a) (Some b) None = earlier_none (earlier (Some a) (Some b))
earlier_assoc (Some a) (Some b) (Some c) = earlier_some a b c

-- ---- Of a list

pub first_fault_more : (z : p.Program) (i : Index) (rest : List Index) → first_fault z (i ∷ rest) ≡ earlier (fault_of z i) (first_fault z rest)
unfolding first_fault
first_fault_more z i rest = refl

pub first_fault_append : (z : p.Program) (xs ys : List Index) → first_fault z (xs ++ ys) ≡ earlier (first_fault z xs) (first_fault z ys)
unfolding first_fault
first_fault_append z [] ys = refl
first_fault_append z (i ∷ rest) ys =
    ap (earlier (fault_of z i)) (first_fault_append z rest ys) ∙ sym (earlier_assoc (fault_of z i) (first_fault z rest) (first_fault z ys))

-- what is found in one list and then in another
pub joined : (z : p.Program) (r a b : Option IndexError) (xs ys : List Index) → r ≡ earlier a b → a ≡ first_fault z xs → b ≡ first_fault z ys →
    r ≡ first_fault z (xs ++ ys)
joined z r a b xs ys h p q = h ∙ (λ i. earlier (p i) (q i)) ∙ sym (first_fault_append z xs ys)

-- what is found of one index, into as many elements as there are for it, and then in a list
pub headed : (z : p.Program) (r a b : Option IndexError) (i : Index) (rest : List Index) (n : ℕ) → r ≡ earlier a b → n ≡ elements_for z i →
    a ≡ fault_at n i.place i.expr → b ≡ first_fault z rest → r ≡ first_fault z (i ∷ rest)
headed z r a b i rest n h k p q =
    h ∙ (λ t. earlier ((p ∙ ap (λ (m : ℕ). fault_at m i.place i.expr) k) t) (q t)) ∙ sym (first_fault_more z i rest)

-- ---- A loop over what has indexes

gathered : {A : Type 0} (g : A → List Index) (G : List A → List Index) → G [] ≡ [] → ((x : A) (rest : List A) → G (x ∷ rest) ≡ g x ++ G rest) →
    (xs : List A) (x : A) → G (xs ++ x ∷ []) ≡ G xs ++ g x
gathered g G none more [] x = more x [] ∙ ap (λ ys. g x ++ ys) none ∙ append-nil (g x) ∙ ap (λ ys. ys ++ g x) (sym none)
gathered g G none more (y ∷ rest) x =
    more y (rest ++ x ∷ []) ∙ ap (λ ys. g y ++ ys) (gathered g G none more rest x) ∙ sym (append_assoc (g y) (G rest) (g x))
    ∙ ap (λ ys. ys ++ g x) (sym (more y rest))

-- what was found before, and in one more
pub one_more : {A : Type 0} (z : p.Program) (g : A → List Index) (G : List A → List Index) → G [] ≡ [] →
    ((x : A) (rest : List A) → G (x ∷ rest) ≡ g x ++ G rest) → (xs : List A) (i : ℕ) (x : A) (r a b : Option IndexError) → i < length xs → x ≡ get_or xs i x →
    r ≡ earlier a b → a ≡ first_fault z (G (take i xs)) → b ≡ first_fault z (g x) → r ≡ first_fault z (G (take (i + 1) xs))
one_more z g G none more xs i x r a b h is e p q =
    let taken : take (i + 1) xs ≡ take i xs ++ x ∷ [] = take_more xs i x h ∙ ap (λ y. take i xs ++ y ∷ []) (sym is) in
    joined z r a b (G (take i xs)) (g x) e p q ∙ ap (first_fault z) (sym (ap G taken ∙ gathered g G none more (take i xs) x))

-- what was found before, and in two parts of one more
pub two_more : {A : Type 0} (z : p.Program) (g h : A → List Index) (G : List A → List Index) → G [] ≡ [] →
    ((x : A) (rest : List A) → G (x ∷ rest) ≡ (g x ++ h x) ++ G rest) → (xs : List A) (i : ℕ) (x : A) (r a b c d : Option IndexError) → i < length xs →
    x ≡ get_or xs i x → r ≡ earlier d c → d ≡ earlier a b → a ≡ first_fault z (G (take i xs)) → b ≡ first_fault z (g x) → c ≡ first_fault z (h x) →
    r ≡ first_fault z (G (take (i + 1) xs))
two_more z g h G none more xs i x r a b c d l is e f p q s =
    one_more z (λ x. g x ++ h x) G none more xs i x r a (earlier b c) l is (e ∙ ap (λ y. earlier y c) f ∙ earlier_assoc a b c) p
    (joined z (earlier b c) b c (g x) (h x) refl q s)
