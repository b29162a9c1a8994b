-- When sets of held names are the same.
use Rattle.std.proofs.Common.{◌≡◌, ℕ, zero, suc, ◌<◌, ◌⊎◌, inl, inr, Bool, true, false, not, cond, ◌&&◌, ◌||◌, List, [], ◌∷◌}
use Rattle.std.proofs.Common.{◌++◌, length, Option, Some, None, find, refl, sym, ap, ap₂, ◌∙◌, subst, arith, ext_get_or}
use Rattle.std.specs.List.{list_any, list_all}
use Rattle.std.specs.Option.{option_or}
use Rattle.std.proofs.lemmas.List.{length-replicate}
use Rattle.std.proofs.lemmas.List.Folds.{find-append}
use Rattle.lock_discipline.specs.links.Sets.{differ}
use Rattle.c_tree.specs.LockNames.{Held, holds, none_held}
use Rattle.c_tree.specs.LockDiscipline.{numbers_below, is_in_some, is_in_all, least_difference}

-- ---- The first number that passes a test

none_found : (p : ℕ → Bool) (xs : List ℕ) → ((x : ℕ) → p x ≡ false) → find p xs ≡ None
none_found p [] h = refl
none_found p (x ∷ xs) h = rw (h x) (none_found p xs h)

none_of_both : (o : Option ℕ) (b : Bool) (n : ℕ) → option_or o (cond b (Some n) None) ≡ None → (o ≡ None) × (b ≡ false)
none_of_both None true n e = absurd (cc)
none_of_both None false n e = (refl, refl)
none_of_both (Some x) b n e = absurd (cc)

below_or_last : (k n : ℕ) → k < suc n → (k < n) ⊎ (n ≡ k)
below_or_last k n h = grind arith

pub at_none : (p : ℕ → Bool) (n : ℕ) → find p (numbers_below n) ≡ None → (k : ℕ) → k < n → p k ≡ false
at_none p zero e k h = absurd (omega arith)
at_none p (suc n) e k h =
    let both = none_of_both (find p (numbers_below n)) (p n) n (sym (find-append p (numbers_below n) (n ∷ [])) ∙ e) in
    elim (below_or_last k n h) [ inl lt ↦ at_none p n both.0 k lt | inr is ↦ subst (λ j. p j ≡ false) is both.1 ]

none_below : (p : ℕ → Bool) (n : ℕ) → ((k : ℕ) → k < n → p k ≡ false) → find p (numbers_below n) ≡ None
none_below p zero h = refl
none_below p (suc n) h =
    find-append p (numbers_below n) (n ∷ [])
    ∙ ap (λ o. option_or o (cond (p n) (Some n) None)) (none_below p n (λ k lt. h k (omega arith)))
    ∙ ap (λ b. cond b (Some n) None) (h n (omega arith))

first_at : (p : ℕ → Bool) (n k : ℕ) → k < n → p k ≡ true → ((j : ℕ) → j < k → p j ≡ false) → find p (numbers_below n) ≡ Some k
first_at p zero k lt here before = absurd (omega arith)
first_at p (suc n) k lt here before = elim (below_or_last k n lt) [
  | inl low ↦ find-append p (numbers_below n) (n ∷ []) ∙ ap (λ o. option_or o (cond (p n) (Some n) None)) (first_at p n k low here before)
  | inr is ↦ find-append p (numbers_below n) (n ∷ [])
      ∙ ap (λ o. option_or o (cond (p n) (Some n) None)) (none_below p n (λ j h. before j (omega arith)))
      ∙ ap (λ b. cond b (Some n) None) (ap p is ∙ here) ∙ ap Some is
]

-- the least name that is held
pub none_is_held : (h : Held) → ((m : ℕ) → m < length h → holds h m ≡ false) → None ≡ find (λ m. holds h m) (numbers_below (length h))
none_is_held h e = sym (none_below (λ m. holds h m) (length h) e)

pub first_held : (h : Held) (k : ℕ) → k < length h → holds h k ≡ true → ((m : ℕ) → m < k → holds h m ≡ false) →
    Some k ≡ find (λ m. holds h m) (numbers_below (length h))
first_held h k low here before = sym (first_at (λ m. holds h m) (length h) k low here before)

-- ---- Lists of sets

-- each set is this one
abbrev pub AllAre : Held → List Held → Type 0
AllAre h [] = Unit {0}
AllAre h (x ∷ xs) = (x ≡ h) × AllAre h xs

-- each set speaks of so many names
abbrev pub AllLong : ℕ → List Held → Type 0
AllLong n [] = Unit {0}
AllLong n (x ∷ xs) = (length x ≡ n) × AllLong n xs

abbrev AgreeAt : Bool → ℕ → List Held → Type 0
AgreeAt b k [] = Unit {0}
AgreeAt b k (x ∷ xs) = (holds x k ≡ b) × AgreeAt b k xs

pub AllAre-append : (h : Held) (xs ys : List Held) → AllAre h xs → AllAre h ys → AllAre h (xs ++ ys)
AllAre-append h [] ys p q = q
AllAre-append h (x ∷ xs) ys p q = (p.0, AllAre-append h xs ys p.1 q)

pub AllAre-left : (h : Held) (xs ys : List Held) → AllAre h (xs ++ ys) → AllAre h xs
AllAre-left h [] ys p = tt
AllAre-left h (x ∷ xs) ys p = (p.0, AllAre-left h xs ys p.1)

pub AllAre-right : (h : Held) (xs ys : List Held) → AllAre h (xs ++ ys) → AllAre h ys
AllAre-right h [] ys p = p
AllAre-right h (x ∷ xs) ys p = AllAre-right h xs ys p.1

pub AllLong-append : (n : ℕ) (xs ys : List Held) → AllLong n xs → AllLong n ys → AllLong n (xs ++ ys)
AllLong-append n [] ys p q = q
AllLong-append n (x ∷ xs) ys p q = (p.0, AllLong-append n xs ys p.1 q)

-- ---- No difference

agree_where_same : (h : Held) (k : ℕ) (xs : List Held) → AllAre h xs → AgreeAt (holds h k) k xs
agree_where_same h k [] p = tt
agree_where_same h k (x ∷ xs) p = (ap (λ (y : Held). holds y k) p.0, agree_where_same h k xs p.1)

any_same : (b : Bool) (k : ℕ) (xs : List Held) → AgreeAt b k xs → (b || list_any (λ x. holds x k) xs) ≡ b
any_same true k xs p = refl
any_same false k [] p = refl
any_same false k (x ∷ xs) p = rw p.0 (any_same false k xs p.1)

all_same : (b : Bool) (k : ℕ) (xs : List Held) → AgreeAt b k xs → (b && list_all (λ x. holds x k) xs) ≡ b
all_same false k xs p = refl
all_same true k [] p = refl
all_same true k (x ∷ xs) p = rw p.0 (all_same true k xs p.1)

not_both : (b : Bool) → (b && not b) ≡ false
not_both true = refl
not_both false = refl

pub no_difference : (n : ℕ) (h : Held) (xs : List Held) → AllAre h xs → least_difference n (h ∷ xs) ≡ None
no_difference n h xs e = none_found _ (numbers_below n) (λ k.
    let same = agree_where_same h k xs e in
    rw (any_same (holds h k) k xs same, all_same (holds h k) k xs same) (not_both (holds h k)))

or_false : (a b : Bool) → (a || b) ≡ false → (a ≡ false) × (b ≡ false)
or_false true b e = absurd (cc)
or_false false b e = (refl, e)

and_true : (a b : Bool) → (a && b) ≡ true → (a ≡ true) × (b ≡ true)
and_true true b e = (refl, e)
and_true false b e = absurd (cc)

none_holds : (k : ℕ) (xs : List Held) → list_any (λ x. holds x k) xs ≡ false → AgreeAt false k xs
none_holds k [] e = tt
none_holds k (x ∷ xs) e = let both = or_false (holds x k) (list_any (λ x. holds x k) xs) e in (both.0, none_holds k xs both.1)

all_hold : (k : ℕ) (xs : List Held) → list_all (λ x. holds x k) xs ≡ true → AgreeAt true k xs
all_hold k [] e = tt
all_hold k (x ∷ xs) e = let both = and_true (holds x k) (list_all (λ x. holds x k) xs) e in (both.0, all_hold k xs both.1)

agree : (b some all : Bool) → ((b || some) && not (b && all)) ≡ false → ((b ≡ true) × (all ≡ true)) ⊎ ((b ≡ false) × (some ≡ false))
agree true some true e = inl (refl, refl)
agree true some false e = absurd (cc)
agree false true all e = absurd (cc)
agree false false all e = inr (refl, refl)

agree_at : (h : Held) (xs : List Held) (k : ℕ) → (is_in_some (h ∷ xs) k && not (is_in_all (h ∷ xs) k)) ≡ false → AgreeAt (holds h k) k xs
agree_at h xs k e = elim (agree (holds h k) (list_any (λ x. holds x k) xs) (list_all (λ x. holds x k) xs) e) [
  | inl both ↦ rw both.0 (all_hold k xs both.1)
  | inr both ↦ rw both.0 (none_holds k xs both.1)
]

all_are : (n : ℕ) (h : Held) (xs : List Held) → length h ≡ n → AllLong n xs → ((k : ℕ) → k < n → AgreeAt (holds h k) k xs) → AllAre h xs
all_are n h [] l ls e = tt
all_are n h (x ∷ xs) l ls e =
    (ext_get_or false x h (ls.0 ∙ sym l) (λ k lt. (e k (subst (λ m. k < m) ls.0 lt)).0), all_are n h xs l ls.1 (λ k lt. (e k lt).1))

pub same_where_none : (n : ℕ) (h : Held) (xs : List Held) → length h ≡ n → AllLong n xs → least_difference n (h ∷ xs) ≡ None → AllAre h xs
same_where_none n h xs l ls e = all_are n h xs l ls (λ k lt. agree_at h xs k (at_none _ n e k lt))

-- ---- No name

none_held-holds : (n k : ℕ) → holds (none_held n) k ≡ false
none_held-holds zero k = refl
none_held-holds (suc n) zero = refl
none_held-holds (suc n) (suc k) = none_held-holds n k

pub none_held-found : (n : ℕ) → find (λ m. holds (none_held n) m) (numbers_below n) ≡ None
none_held-found n = none_found _ (numbers_below n) (none_held-holds n)

pub none_held-where_none : (n : ℕ) (h : Held) → length h ≡ n → find (λ m. holds h m) (numbers_below n) ≡ None → h ≡ none_held n
none_held-where_none n h l e =
    ext_get_or false h (none_held n) (l ∙ sym (length-replicate n false))
    (λ k lt. at_none _ n e k (subst (λ m. k < m) l lt) ∙ sym (none_held-holds n k))

-- ---- The names in which some set differs from the first

not_and : (a b : Bool) → (not a || not b) ≡ not (a && b)
not_and true b = refl
not_and false b = refl

some_not : (k : ℕ) (xs : List Held) → list_any (λ x. not (holds x k)) xs ≡ not (list_all (λ x. holds x k) xs)
some_not k [] = refl
some_not k (x ∷ xs) = ap (λ (b : Bool). not (holds x k) || b) (some_not k xs) ∙ not_and (holds x k) (list_all (λ x. holds x k) xs)

and_truth : (a : Bool) → a ≡ (a && true)
and_truth true = refl
and_truth false = refl

any_differ : (b : Bool) (k : ℕ) (xs : List Held) → list_any (λ x. differ b (holds x k)) xs ≡
    ((b || list_any (λ x. holds x k) xs) && not (b && list_all (λ x. holds x k) xs))
any_differ true k xs = some_not k xs
any_differ false k xs = and_truth (list_any (λ x. holds x k) xs)

pub same_found : (p q : ℕ → Bool) (xs : List ℕ) → ((x : ℕ) → p x ≡ q x) → find p xs ≡ find q xs
same_found p q [] h = refl
same_found p q (x ∷ xs) h = ap₂ (λ (b : Bool) (o : Option ℕ). cond b (Some x) o) (h x) (same_found p q xs h)

abbrev pub some_differ : Held → List Held → ℕ → Bool
some_differ h xs m = list_any (λ x. differ (holds h m) (holds x m)) xs

pub none_differs : (h : Held) (xs : List Held) → ((m : ℕ) → m < length h → some_differ h xs m ≡ false) → None ≡ least_difference (length h) (h ∷ xs)
none_differs h xs e =
    sym (none_below (λ m. is_in_some (h ∷ xs) m && not (is_in_all (h ∷ xs) m)) (length h) (λ m low. sym (any_differ (holds h m) m xs) ∙ e m low))

pub first_differs : (h : Held) (xs : List Held) (k : ℕ) → k < length h → some_differ h xs k ≡ true → ((m : ℕ) → m < k → some_differ h xs m ≡ false) →
    Some k ≡ least_difference (length h) (h ∷ xs)
first_differs h xs k low here before =
    sym (first_at (λ m. is_in_some (h ∷ xs) m && not (is_in_all (h ∷ xs) m)) (length h) k low (sym (any_differ (holds h k) k xs) ∙ here)
    (λ m less. sym (any_differ (holds h m) m xs) ∙ before m less))
