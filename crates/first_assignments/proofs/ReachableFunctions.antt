-- Where no call leads back, fewer functions can still be called with each call that stands in another one.
use Rattle.std.proofs.Common.{◌≡◌, ◌⊎◌, refl, sym, ◌∙◌, subst, ℕ, zero, suc, ◌+◌, ◌<◌, ◌≤◌, List, [], ◌∷◌, ◌++◌, length, arith, ⊎_elim}
use Rattle.std.specs.Prelude.{Contains}
use Rattle.std.proofs.lemmas.Bool.{cases_lt}
use Rattle.std.proofs.lemmas.List.{length_push}
use Rattle.std.proofs.lemmas.List.Elements.{Contains-append_left, Contains-push}
use Rattle.c_tree.specs.Inlining as i
use Rattle.c_tree.specs.LockDiscipline.{numbers_below}
use Rattle.c_tree.specs.Programs as p

-- ---- Lists

-- the others, fewer
record Without (xs : List ℕ) (x : ℕ) : Type 0 where
  pub rest : List ℕ
  pub fewer : length rest < length xs
  pub others : (y : ℕ) → Contains xs y → (y ≡ x → ⊥) → Contains rest y

in_more : (z y : ℕ) (xs : List ℕ) → Contains xs y → Contains (z ∷ xs) y
in_more z y xs (k, within, is) = (suc k, omega (arith, within), is)

take_out : (xs : List ℕ) (x : ℕ) → Contains xs x → Without xs x
take_out [] x c = absurd (omega (arith, c.1))
take_out (z ∷ xs) x (zero, within, is) = record {
  rest = xs;
  fewer = omega arith;
  others = λ y c ne. by y c ne;
}
  where
    by : (y : ℕ) → Contains (z ∷ xs) y → (y ≡ x → ⊥) → Contains xs y
    by y (zero, below, same) ne = absurd (ne (sym same ∙ is))
    by y (suc k, below, same) ne = (k, omega (arith, below), same)
take_out (z ∷ xs) x (suc k, within, is) =
    let less = take_out xs x (k, omega (arith, within), is) in record {
      rest = z ∷ less.rest;
      fewer = omega (arith, less.fewer);
      others = λ y c ne. by less y c ne;
    }
  where
    by : (less : Without xs x) (y : ℕ) → Contains (z ∷ xs) y → (y ≡ x → ⊥) → Contains (z ∷ less.rest) y
    by less y (zero, below, same) ne = (zero, omega arith, same)
    by less y (suc j, below, same) ne = in_more z y less.rest (less.others y (j, omega (arith, below), same) ne)

length-numbers_below : (n : ℕ) → length (numbers_below n) ≡ n
length-numbers_below zero = refl
length-numbers_below (suc n) = omega (arith, length_push (numbers_below n) n, length-numbers_below n)

below_there : (n k : ℕ) → k < n → Contains (numbers_below n) k
below_there zero k l = absurd (omega (arith, l))
below_there (suc n) k l =
    ⊎_elim (λ less. Contains-append_left (numbers_below n) (n ∷ []) k (below_there n k less))
    (λ most. let same : n ≡ k = omega (arith, l, most) in subst (λ (z : ℕ). Contains (numbers_below n ++ n ∷ []) z) same (Contains-push (numbers_below n) n))
    (cases_lt k n)

-- ---- Functions

-- so many functions are all to which calls lead from one
pub record LeadsTo (fs : List p.Function) (many from : ℕ) : Type 0 where
  pub functions : List ℕ
  pub few : length functions ≤ many
  pub each : (function : ℕ) → function < length fs → i.CallsReach fs function from → Contains functions function

-- there are no others
pub leads_to_all : (fs : List p.Function) (from : ℕ) → LeadsTo fs (length fs) from
leads_to_all fs from = record {
  functions = numbers_below (length fs);
  few = omega (arith, length-numbers_below (length fs));
  each = λ function l reach. below_there (length fs) function l;
}

pub leads_to_some : (fs : List p.Function) (from : ℕ) → from < length fs → LeadsTo fs 0 from → ⊥
leads_to_some fs from l h = let c = h.each from l i.there in omega (arith, c.1, h.few)

-- from a function that is called calls lead to fewer
pub leads_to_fewer : (fs : List p.Function) → ((c : i.Call) → ¬ (i.LeadsBack fs c)) → (many from : ℕ) → from < length fs → LeadsTo fs (suc many) from →
    (c : i.Call) → Contains (i.calls_in fs from) c → LeadsTo fs many c.function
leads_to_fewer fs none many from l h c made =
    let less = take_out h.functions from (h.each from l i.there) in record {
      functions = less.rest;
      few = omega (arith, less.fewer, h.few);
      each = λ function below reach. less.others function (h.each function below (i.by_call from c made reach))
          (λ same. none c (record { caller = from; made = made; back = subst (λ (z : ℕ). i.CallsReach fs z c.function) same reach }));
    }
