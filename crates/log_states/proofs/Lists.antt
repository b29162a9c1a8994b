-- What a list contains.
use Rattle.std.proofs.Common.{◌≡◌, inl, inr, ℕ, ◌/◌, List, [], ◌∷◌, map, refl, ap, sym, ◌∙◌, subst, Bool, true}
use Rattle.std.specs.Prelude.{filter, ◌==◌}
use Rattle.std.specs.List.{Contains, list_any}
use Rattle.std.proofs.lemmas.Bool.{cond-true, cond_both, or_left, or_right, eq-eqb}
use Rattle.log_schemes.specs.declared.log.Log.{Log}
use Rattle.boundary_code.specs.Boundaries.{lines_in_use}
use Rattle.log_schemes.specs.Schemes.{bank_lines}
use Rattle.log_states.specs.Logs.{IsInBank}
use Rattle.log_schemes.proofs.Public.{contains_none, contains_first, contains_later, contains_cases, line_there}

pub contains_filter : (p : ℕ → Bool) (xs : List ℕ) (y : ℕ) → Contains xs y → p y ≡ true → Contains (filter p xs) y
contains_filter p [] y c e = absurd (contains_none y c)
contains_filter p (x ∷ xs) y c e = elim (contains_cases x xs y c) [
  | inl is ↦ subst (λ (zs : List ℕ). Contains zs y) (sym (cond-true (p x) (x ∷ filter p xs) (filter p xs) (ap p (sym is) ∙ e)))
      (subst (λ (z : ℕ). Contains (z ∷ filter p xs) y) is (contains_first y (filter p xs)))
  | inr more ↦ cond_both (p x) (x ∷ filter p xs) (filter p xs) (λ zs. Contains zs y)
      (λ _. contains_later x (filter p xs) y (contains_filter p xs y more e)) (λ _. contains_filter p xs y more e)
]

filter_contains : (P : ℕ → Type 0) (p : ℕ → Bool) (xs : List ℕ) → ((x : ℕ) → Contains xs x → P x) → (y : ℕ) → Contains (filter p xs) y → P y
filter_contains P p [] all y c = absurd (contains_none y c)
filter_contains P p (x ∷ xs) all y c =
    let rest : (z : ℕ) → Contains (filter p xs) z → P z = filter_contains P p xs (λ z d. all z (contains_later x xs z d)) in
    cond_both (p x) (x ∷ filter p xs) (filter p xs) (λ zs. Contains zs y → P y) (λ _ d. elim (contains_cases x (filter p xs) y d) [
      | inl is ↦ subst P (sym is) (all x (contains_first x xs))
      | inr more ↦ rest y more
    ]) (λ _ d. rest y d) c

pub any_of : (p : ℕ → Bool) (xs : List ℕ) (y : ℕ) → Contains xs y → p y ≡ true → list_any p xs ≡ true
any_of p [] y c e = absurd (contains_none y c)
any_of p (x ∷ xs) y c e = elim (contains_cases x xs y c) [
  | inl is ↦ or_left (p x) (list_any p xs) (ap p (sym is) ∙ e)
  | inr more ↦ or_right (p x) (list_any p xs) (any_of p xs y more e)
]

-- ---- The slots of pairs of a slot and a value

abbrev pub slots_in : List (ℕ × ℕ) → List ℕ
slots_in kept = map (λ (one : ℕ × ℕ). one.0) kept

-- a pair of the list has this slot
pub record HasSlot (kept : List (ℕ × ℕ)) (slot : ℕ) : Type 0 where
  pub pair : ℕ × ℕ
  pub own : Contains kept pair
  pub is : slot ≡ pair.0

pub has_slot : (kept : List (ℕ × ℕ)) (slot : ℕ) → Contains (slots_in kept) slot → HasSlot kept slot
has_slot [] slot c = absurd (contains_none slot c)
has_slot (first ∷ kept) slot c = elim (contains_cases first.0 (slots_in kept) slot c) [
  | inl is ↦ record { pair = first; own = contains_first first kept; is = is }
  | inr more ↦ let h = has_slot kept slot more in record { pair = h.pair; own = contains_later first kept h.pair h.own; is = h.is }
]

pub slot_listed : (kept : List (ℕ × ℕ)) (pair : ℕ × ℕ) → Contains kept pair → Contains (slots_in kept) pair.0
slot_listed [] pair c = absurd (contains_none pair c)
slot_listed (first ∷ kept) pair c = elim (contains_cases first kept pair c) [
  | inl is ↦ subst (λ (one : ℕ × ℕ). Contains (slots_in (first ∷ kept)) one.0) (sym is) (contains_first first.0 (slots_in kept))
  | inr more ↦ contains_later first.0 (slots_in kept) pair.0 (slot_listed kept pair more)
]

-- ---- The lines of slots

pub slot_has_line : (log : Log) (slots : List ℕ) (slot : ℕ) → Contains slots slot → IsInBank log slot → Contains (lines_in_use log slots) (slot / 8)
slot_has_line log slots slot c inside = contains_filter (λ line. list_any (λ s. s / 8 == line) slots) (bank_lines log) (slot / 8) (line_there log slot inside)
    (any_of (λ s. s / 8 == slot / 8) slots slot c (eq-eqb (slot / 8) (slot / 8) refl))

pub lines_of_bank : (log : Log) (slots : List ℕ) (line : ℕ) → Contains (lines_in_use log slots) line → Contains (bank_lines log) line
lines_of_bank log slots = filter_contains (λ line. Contains (bank_lines log) line) (λ line. list_any (λ s. s / 8 == line) slots) (bank_lines log) (λ line c. c)

-- no slots are in no line
pub no_lines : (lines : List ℕ) → filter (λ line. list_any (λ (s : ℕ). s / 8 == line) []) lines ≡ []
no_lines [] = refl
no_lines (line ∷ lines) = no_lines lines
