-- Two spellings of one name are above the same locks.
use Rattle.std.proofs.Common.{◌≡◌, ◌==◌, ℕ, ◌+◌, true, false, Option, Some, None, refl, sym, ap, ap₂, ◌∙◌}
use Rattle.std.proofs.lemmas.Bool.{and_parts, eqb-true, true≢false}
use Rattle.ido_ints.specs.TypedNumbers.{Typed}
use Rattle.c_tree.specs.Exprs as e
use Rattle.c_tree.specs.LockNames.{same_expr, same_key, same_lock}
use Rattle.c_tree.specs.Values.{element_at}
use Rattle.c_tree.proofs.Public.{same_typed_is}
use Rattle.lock_order.specs.LockOrder.{lock_from, plain_number}

-- what is one tree with a plain number is that number
constant_same : (v : Typed) (y : e.Expr) → same_expr (e.Constant v) y ≡ true → plain_number y ≡ Some (element_at v)
constant_same v (e.Constant w) h = ap (λ (u : Typed). Some (element_at u)) (sym (same_typed_is v w h))
constant_same v (e.Local local kind) h = absurd (true≢false (sym h))
constant_same v (e.Variable place variable kind) h = absurd (true≢false (sym h))
constant_same v (e.Element place variable kind index_place index) h = absurd (true≢false (sym h))
constant_same v (e.Address variable index_place index) h = absurd (true≢false (sym h))
constant_same v (e.Referent place last local) h = absurd (true≢false (sym h))
constant_same v (e.Unary operator operand) h = absurd (true≢false (sym h))
constant_same v (e.Cast kind operand) h = absurd (true≢false (sym h))
constant_same v (e.Converted kind operand) h = absurd (true≢false (sym h))
constant_same v (e.Binary operator left right) h = absurd (true≢false (sym h))
constant_same v (e.Conditional kind condition chosen otherwise) h = absurd (true≢false (sym h))

-- and what is one tree with anything else isn't one
other_same : (x y : e.Expr) → ((v : Typed) → same_expr x (e.Constant v) ≡ false) → same_expr x y ≡ true → plain_number y ≡ None
other_same x (e.Constant v) none h = absurd (true≢false (sym h ∙ none v))
other_same x (e.Local local kind) none h = refl
other_same x (e.Variable place variable kind) none h = refl
other_same x (e.Element place variable kind index_place index) none h = refl
other_same x (e.Address variable index_place index) none h = refl
other_same x (e.Referent place last local) none h = refl
other_same x (e.Unary operator operand) none h = refl
other_same x (e.Cast kind operand) none h = refl
other_same x (e.Converted kind operand) none h = refl
other_same x (e.Binary operator left right) none h = refl
other_same x (e.Conditional kind condition chosen otherwise) none h = refl

plain_same : (x y : e.Expr) → same_expr x y ≡ true → plain_number x ≡ plain_number y
plain_same (e.Constant v) y h = sym (constant_same v y h)
plain_same (e.Local local kind) y h = sym (other_same (e.Local local kind) y (λ v. refl) h)
plain_same (e.Variable place variable kind) y h = absurd (true≢false (sym h))
plain_same (e.Element place variable kind index_place index) y h = absurd (true≢false (sym h))
plain_same (e.Address variable index_place index) y h = sym (other_same (e.Address variable index_place index) y (λ v. refl) h)
plain_same (e.Referent place last local) y h = sym (other_same (e.Referent place last local) y (λ v. refl) h)
plain_same (e.Unary operator operand) y h = sym (other_same (e.Unary operator operand) y (λ v. refl) h)
plain_same (e.Cast kind operand) y h = sym (other_same (e.Cast kind operand) y (λ v. refl) h)
plain_same (e.Converted kind operand) y h = sym (other_same (e.Converted kind operand) y (λ v. refl) h)
plain_same (e.Binary operator left right) y h = sym (other_same (e.Binary operator left right) y (λ v. refl) h)
plain_same (e.Conditional kind condition chosen otherwise) y h =
    sym (other_same (e.Conditional kind condition chosen otherwise) y (λ v. refl) h)

from_by : (m n : ℕ) (key other : Option e.Placed) → m ≡ n → same_key key other ≡ true →
    lock_from (record { mutex = m; key = key }) ≡ lock_from (record { mutex = n; key = other })
from_by m n None None is h = is
from_by m n None (Some y) is h = absurd (true≢false (sym h))
from_by m n (Some x) None is h = absurd (true≢false (sym h))
from_by m n (Some x) (Some y) is h =
    ap₂ (λ (k : ℕ) (o : Option ℕ). let least : ℕ = elim o [ Some element ↦ k + element | None ↦ k ] in least) is (plain_same x.expr y.expr h)

pub from_same : (x y : e.LockName) → same_lock x y ≡ true → lock_from x ≡ lock_from y
from_same x y h =
    let both = and_parts (x.mutex == y.mutex) (same_key x.key y.key) h in
    from_by x.mutex y.mutex x.key y.key (eqb-true x.mutex y.mutex both.0) both.1
