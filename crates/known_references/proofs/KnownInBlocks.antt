-- What is known in the block of an arm: what is before it, and what its condition says where the block assigns that nowhere.
use Rattle.std.proofs.Common.{◌≡◌, ◌⊎◌, inl, inr, refl, sym, ap, subst, ℕ, ◌==◌, List, [], ◌∷◌, ◌++◌, Bool, true, false, Option, Some, None}
use Rattle.std.specs.Prelude.{if◌then◌else◌}
use Rattle.std.proofs.lemmas.Bool.{eqb-true, or_cases, true≢false}
use Rattle.c_tree.specs.Exprs as e
use Rattle.c_tree.specs.Flats as f
use Rattle.c_tree.specs.NullReferences.{is_among, unnull, flat_statements_assigned, flat_known_with, flat_known_in}
use Rattle.c_tree.proofs.Public.{among_cases, among_left, among_none}

-- all of the one list are in the other
abbrev pub AreAmong : (some known : List ℕ) → Type 0
AreAmong some known = (local : ℕ) → is_among some local ≡ true → is_among known local ≡ true

-- none of the known locals is assigned
abbrev pub AreFree : (known assigned : List ℕ) → Type 0
AreFree known assigned = (local : ℕ) → is_among known local ≡ true → is_among assigned local ≡ false

pub first_free : (known xs ys : List ℕ) → AreFree known (xs ++ ys) → AreFree known xs
first_free known xs ys h local k = (among_none xs ys local (h local k)).0

pub rest_free : (known xs ys : List ℕ) → AreFree known (xs ++ ys) → AreFree known ys
rest_free known xs ys h local k = (among_none xs ys local (h local k)).1

single : (own local : ℕ) → is_among (own ∷ []) local ≡ true → own ≡ local
single own local h = elim (or_cases (own == local) false h) [
  | inl is ↦ eqb-true own local is
  | inr other ↦ absurd (true≢false (sym other))
]

module _ (known : List ℕ) (body : f.Statements) where
  -- ---- By what a condition says

  more_by : (o : Option ℕ) → AreAmong known (flat_known_with known body o)
  more_by None local h = h
  more_by (Some own) local h = by (is_among (flat_statements_assigned body) own)
    where
      by : (c : Bool) → is_among (if c then known else known ++ own ∷ []) local ≡ true
      by true = h
      by false = among_left known (own ∷ []) local h

  free_by : AreFree known (flat_statements_assigned body) → (o : Option ℕ) → AreFree (flat_known_with known body o) (flat_statements_assigned body)
  free_by free None = free
  free_by free (Some own) = by (is_among (flat_statements_assigned body) own) refl
    where
      by : (c : Bool) → is_among (flat_statements_assigned body) own ≡ c → AreFree (if c then known else known ++ own ∷ []) (flat_statements_assigned body)
      by true is = free
      by false is = λ local h. elim (among_cases known (own ∷ []) local h) [
        | inl before ↦ free local before
        | inr last ↦ subst (λ (k : ℕ). is_among (flat_statements_assigned body) k ≡ false) (single own local last) is
      ]

  -- it was known before, or it is what is said
  known_or_said : (o : Option ℕ) (local : ℕ) → is_among (flat_known_with known body o) local ≡ true → (is_among known local ≡ true) ⊎ (o ≡ Some local)
  known_or_said None local h = inl h
  known_or_said (Some own) local h = by (is_among (flat_statements_assigned body) own) h
    where
      by : (c : Bool) → is_among (if c then known else known ++ own ∷ []) local ≡ true → (is_among known local ≡ true) ⊎ (Some own ≡ Some local)
      by true k = inl k
      by false k = elim (among_cases known (own ∷ []) local k) [
        | inl before ↦ inl before
        | inr last ↦ inr (ap (λ (n : ℕ). Some n) (single own local last))
      ]

  -- ---- In an arm

  pub more_inside : (is_first : Bool) (condition : e.Placed) → AreAmong known (flat_known_in known is_first condition body)
  more_inside false condition = λ local h. h
  more_inside true condition = more_by (unnull condition.expr)

  pub free_inside : (is_first : Bool) (condition : e.Placed) → AreFree known (flat_statements_assigned body) →
      AreFree (flat_known_in known is_first condition body) (flat_statements_assigned body)
  free_inside false condition free = free
  free_inside true condition free = free_by free (unnull condition.expr)

  pub said_inside : (is_first : Bool) (condition : e.Placed) (local : ℕ) → is_among (flat_known_in known is_first condition body) local ≡ true →
      (is_among known local ≡ true) ⊎ (unnull condition.expr ≡ Some local)
  said_inside false condition local h = inl h
  said_inside true condition local h = known_or_said (unnull condition.expr) local h
