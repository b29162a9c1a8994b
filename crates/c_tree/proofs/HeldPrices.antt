-- What held locks cost, name after name and statement after statement.
use Rattle.std.proofs.Common.{◌≡◌, ◌<◌, ◌≤◌, ℕ, zero, suc, ◌+◌, List, [], ◌∷◌, drop, get_or, length, Bool, true, false, cond}
use Rattle.std.proofs.Common.{refl, sym, ap, ap₂, ◌∙◌, subst, arith}
use Rattle.std.proofs.lemmas.List.{drop_all, drop_more}
use Rattle.c_tree.specs.Exprs.{LockName, lock_ref_of}
use Rattle.c_tree.specs.Flats.{arms_list_of, statement_of, statements_of}
use Rattle.c_tree.specs.declared.flat.Arm.{Arm}
use Rattle.c_tree.specs.declared.flat.Statement.{Statement}
use Rattle.c_tree.specs.declared.expr.LockRef.{LockRef}
use Rattle.c_tree.specs.HoldPrices.{hold_price, held_price, statement_hold, statements_hold, arms_hold}
use Rattle.c_tree.specs.LockNames.{Held, holds}
use Rattle.c_tree.specs.links.KnownNames.{names_of}

-- ---- The first name, and the others

first_price : (x : LockName) (xs : List LockName) (h : Held) → held_price (x ∷ xs) h ≡ cond (holds h 0) (hold_price x) 0 + held_price xs (drop 1 h)
first_price x [] [] = refl
first_price x (y ∷ ys) [] = refl
first_price x xs (true ∷ h) = refl
first_price x xs (false ∷ h) = omega arith

first_left : (h : Held) (i : ℕ) → holds (drop i h) 0 ≡ holds h i
first_left h zero = refl
first_left [] (suc i) = refl
first_left (held ∷ h) (suc i) = first_left h i

one_more_left : (h : Held) (i : ℕ) → drop 1 (drop i h) ≡ drop (suc i) h
one_more_left h zero = refl
one_more_left [] (suc i) = refl
one_more_left (held ∷ h) (suc i) = one_more_left h i

-- what the names cost from a number on
pub price_more : (names : List LockRef) (h : Held) (i : ℕ) (y : LockRef) → i < length names → y ≡ get_or names i y → (b : Bool) → holds h i ≡ b →
    held_price (names_of (drop i names)) (drop i h) ≡ cond b (hold_price (lock_ref_of y)) 0 + held_price (names_of (drop (i + 1) names)) (drop (i + 1) h)
price_more names h i y low is b e =
    let next : suc i ≡ i + 1 = omega arith in
    ap (λ (ys : List LockRef). held_price (names_of ys) (drop i h)) (drop_more names i y low)
    ∙ (first_price (lock_ref_of (get_or names i y)) (names_of (drop (i + 1) names)) (drop i h)
    ∙ (ap₂ (λ (held : Bool) (x : LockRef). cond held (hold_price (lock_ref_of x)) 0 + held_price (names_of (drop (i + 1) names)) (drop 1 (drop i h)))
    (first_left h i ∙ e) (sym is)
    ∙ ap (λ (k : Held). cond b (hold_price (lock_ref_of y)) 0 + held_price (names_of (drop (i + 1) names)) k)
    (one_more_left h i ∙ ap (λ (n : ℕ). drop n h) next)))

-- ---- Statement after statement

pub statements_more : (names : List LockName) (h k : Held) (xs : List Statement) (i : ℕ) (x : Statement) → i < length xs → x ≡ get_or xs i x →
    k ≡ (statement_hold names h (statement_of x)).after →
    ((statements_hold names h (statements_of (drop i xs))).price
    ≡ (statement_hold names h (statement_of x)).price + (statements_hold names k (statements_of (drop (i + 1) xs))).price)
    × ((statements_hold names k (statements_of (drop (i + 1) xs))).after ≡ (statements_hold names h (statements_of (drop i xs))).after)
statements_more names h k xs i x low is e =
    let d : drop i xs ≡ x ∷ drop (i + 1) xs = drop_more xs i x low ∙ ap (λ (y : Statement). y ∷ drop (i + 1) xs) (sym is) in (
      ap (λ (ys : List Statement). (statements_hold names h (statements_of ys)).price) d
          ∙ sym (ap (λ (j : Held). (statement_hold names h (statement_of x)).price + (statements_hold names j (statements_of (drop (i + 1) xs))).price) e),
      ap (λ (j : Held). (statements_hold names j (statements_of (drop (i + 1) xs))).after) e
          ∙ sym (ap (λ (ys : List Statement). (statements_hold names h (statements_of ys)).after) d),
    )

-- ---- Arm after arm

-- before the first arm the set is that before all of them, and then that at the end of the first one
abbrev pub IsFirstEnd : List LockName → Held → List Arm → (is_first : Bool) → (done : ℕ) → Held → Type 0
IsFirstEnd names before arms true i h = (i ≡ 0) × (h ≡ before)
IsFirstEnd names before arms false i h = h ≡ (arms_hold names before (arms_list_of arms)).after

module _ (names : List LockName) (h : Held) (arms : List Arm) where
  pub arms_more : (i : ℕ) (x : Arm) → i < length arms → x ≡ get_or arms i x →
      (arms_hold names h (arms_list_of (drop i arms))).price
      ≡ held_price names h + (statements_hold names h (statements_of x.body.items)).price + (arms_hold names h (arms_list_of (drop (i + 1) arms))).price
  arms_more i x low is =
      ap (λ (ys : List Arm). (arms_hold names h (arms_list_of ys)).price)
      (drop_more arms i x low ∙ ap (λ (y : Arm). y ∷ drop (i + 1) arms) (sym is))

  -- after the first arm
  pub first_end : (i : ℕ) (x : Arm) (k : Held) → i ≡ 0 → i < length arms → x ≡ get_or arms i x →
      k ≡ (statements_hold names h (statements_of x.body.items)).after →
      k ≡ (arms_hold names h (arms_list_of arms)).after
  first_end i x k start low is e =
      e ∙ sym (ap (λ (ys : List Arm). (arms_hold names h (arms_list_of ys)).after)
      (ap (λ (n : ℕ). drop n arms) (sym start) ∙ (drop_more arms i x low ∙ ap (λ (y : Arm). y ∷ drop (i + 1) arms) (sym is))))

  -- where there was no arm
  pub no_end : (b : Bool) (i : ℕ) (k : Held) → length arms ≤ i → IsFirstEnd names h arms b i k → k ≡ (arms_hold names h (arms_list_of arms)).after
  no_end false i k past is = is
  no_end true i k past is =
      is.1 ∙ sym (ap (λ (ys : List Arm). (arms_hold names h (arms_list_of ys)).after)
      (drop_all 0 arms (subst (λ (n : ℕ). length arms ≤ n) is.0 past)))

  pub done_first : (was is : Bool) (i j : ℕ) (x : Arm) (k new : Held) → IsFirstEnd names h arms was i k → was ≡ true → is ≡ false → i < length arms →
      x ≡ get_or arms i x → new ≡ (statements_hold names h (statements_of x.body.items)).after → IsFirstEnd names h arms is j new
  done_first was is i j x k new so e f low it n =
      subst (λ (b : Bool). IsFirstEnd names h arms b j new) (sym f)
      (first_end i x new (subst (λ (b : Bool). IsFirstEnd names h arms b i k) e so).0 low it n)

  pub done_before : (was is : Bool) (i j : ℕ) (k new : Held) → IsFirstEnd names h arms was i k → was ≡ false → is ≡ was → new ≡ k →
      IsFirstEnd names h arms is j new
  done_before was is i j k new so e f n =
      subst (λ (b : Bool). IsFirstEnd names h arms b j new) (sym (f ∙ e)) (n ∙ subst (λ (b : Bool). IsFirstEnd names h arms b i k) e so)
