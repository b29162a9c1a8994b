-- No set of a list has more than so many: what is past its end is empty.
use Rattle.std.proofs.Common.{◌≡◌, ℕ, zero, suc, ◌<◌, ◌≤◌, List, [], ◌∷◌, length, get_or, map, Vec, ap, arith, sym, inl, inr}
use Rattle.std.specs.Global.{Global}
use Rattle.std.proofs.lemmas.Bool.{cases_lt}
use Rattle.std.proofs.lemmas.List.{get_or_past}
use Rattle.c_tree.specs.LockNames.{Held, count_held}

-- what is read doesn't depend on what is read past the end
pub read_there : {A : Type 0} (xs : List A) (i : ℕ) (x d : A) → i < length xs → x ≡ get_or xs i x → get_or xs i d ≡ x
read_there [] i x d below at = absurd (let z : ⊥ = omega (arith, below) in z)
read_there (y ∷ xs) zero x d below at = sym at
read_there (y ∷ xs) (suc i) x d below at = read_there xs i x d (omega (arith, below)) at

-- a list in a list is read so where only its elements are looked at
pub row_there : {A : Type 0} (rows : List (Vec A Global)) (i : ℕ) (x : Vec A Global) → i < length rows → x ≡ get_or rows i x →
    get_or (map (λ (row : Vec A Global). row.items) rows) i [] ≡ x.items
row_there {A = A} [] i x below at = absurd (let z : ⊥ = omega (arith, below) in z)
row_there {A = A} (y ∷ rows) zero x below at = ap (λ (row : Vec A Global). row.items) (sym at)
row_there {A = A} (y ∷ rows) (suc i) x below at = row_there rows i x (omega (arith, below)) at

-- the set of each step
pub all_small : (sets : List Held) (most : ℕ) → ((step : ℕ) → step < length sets → count_held (get_or sets step []) ≤ most) →
    (step : ℕ) → count_held (get_or sets step []) ≤ most
all_small sets most each step = elim (cases_lt step (length sets)) [
  | inl less ↦ each step (omega (arith, less))
  | inr past ↦ let none = ap count_held (get_or_past sets step [] (omega (arith, past))) in omega (arith, none)
]

-- the set of each step of each thread
pub all_threads_small : (table : List (List Held)) (most : ℕ) →
    ((thread : ℕ) → thread < length table → (step : ℕ) → count_held (get_or (get_or table thread []) step []) ≤ most) →
    (thread step : ℕ) → count_held (get_or (get_or table thread []) step []) ≤ most
all_threads_small table most each thread step = elim (cases_lt thread (length table)) [
  | inl less ↦ each thread (omega (arith, less)) step
  | inr past ↦
      let none = ap (λ (sets : List Held). count_held (get_or sets step [])) (get_or_past table thread [] (omega (arith, past))) in omega (arith, none)
]
