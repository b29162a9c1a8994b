-- How many temporaries expressions need.
use Rattle.std.proofs.Common.{ℕ, ◌+◌, ◌<◌, ◌≤◌, arith, Bool, true, false}
use Rattle.std.specs.Prelude.{max, if◌then◌else◌}
use Rattle.std.proofs.lemmas.Bool.Decides.{nat_tests}
use Rattle.c_tree.specs.Exprs as e
use Rattle.c_tree.specs.Prices.{need_of, need_of_both, is_logical}

-- while the lesser operand is evaluated, the other one is held
pub record Both (l r : ℕ) : Type 0 where
  pub left : l ≤ need_of_both l r
  pub right : r ≤ need_of_both l r
  pub later_left : l < r → l + 1 ≤ need_of_both l r
  pub later_right : r ≤ l → r + 1 ≤ need_of_both l r

pub both : (l r : ℕ) → Both l r
both l r = record {
  left = grind (arith, nat_tests);
  right = grind (arith, nat_tests);
  later_left = λ h. grind (arith, nat_tests);
  later_right = λ h. grind (arith, nat_tests);
}

some_of_two : (b : Bool) (l r : ℕ) → 1 ≤ l → 1 ≤ (if b then max l r else need_of_both l r)
some_of_two true l r h = omega arith
some_of_two false l r h = let b = (both l r).left in omega arith

pub need_some : (x : e.Expr) → 1 ≤ need_of x
need_some (e.Constant v) = omega arith
need_some (e.Local local k) = omega arith
need_some (e.Variable place variable k) = omega arith
need_some (e.Element place variable k index_place index) = need_some index
need_some (e.Address variable index_place index) = need_some index
need_some (e.Referent place last local) = omega arith
need_some (e.Unary op x) = need_some x
need_some (e.Cast k x) = need_some x
need_some (e.Converted k x) = need_some x
need_some (e.Binary op x y) = some_of_two (is_logical op) (need_of x) (need_of y) (need_some x)
need_some (e.Conditional k x y z) = let a = need_some x in omega arith
