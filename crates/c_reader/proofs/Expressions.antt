-- The parser of expressions keeps their language.
use Rattle.std.proofs.Common.{◌≡◌, ℕ, zero, suc, ◌+◌, ◌-◌, ◌<◌, ◌≤◌, List, [], ◌∷◌, ◌++◌, Option, Some, None, Bool, true}
use Rattle.std.proofs.Common.{false, sym, refl, ap, ◌∙◌, subst, inl, inr, append_assoc, append-nil, arith, lit≤}
use Rattle.std.specs.Prelude.{◌⊎◌, nat_eq}
use Rattle.std.proofs.lemmas.Bool.{eqb-true, eq-eqb}
use Rattle.ido_ints.specs.declared.operators.Binary as bo
use Rattle.ido_ints.specs.declared.operators.Binary.TheVariants as binary
use Rattle.c_tree.specs.Tokens.{Token, Lexeme, Punctuator}
use Rattle.ido_base.specs.declared.place.Place.{Place}
use Rattle.c_tree.specs.declared.token.Punctuator as pn
use Rattle.c_tree.specs.declared.token.Punctuator.TheVariants as p
use Rattle.c_tree.specs.Trees as t
use Rattle.c_tree.specs.Grammar.{expression_from, operator, precedence}
use Rattle.c_reader.specs.links.ParserFunctions.{Parser, head_of, head_is, is_mark, operator_of, operator_at, operator_in}
use Rattle.c_reader.specs.links.ParserFunctions.{is_operator_at, operators_at, operators_after, ◌>>=◌, taking}
use Rattle.c_reader.proofs.CorrectParsers.{Spelling, Good, ◌▷◌, just, found_in, Anything, Strict, good_give, good_to}
use Rattle.c_reader.proofs.CorrectParsers.{good_less, good_where, good_then, good_then_less, good_small, good_taking}
use Rattle.c_reader.proofs.Tokens.{is_mark-true, some_same}

-- ---- What may follow

abbrev pub OperandEnd : Option Lexeme → Type 0
OperandEnd h = head_is (is_mark p.OpenBracket) h ≡ false

-- no operator that binds at least so tightly, and no index
abbrev pub End : ℕ → Option Lexeme → Type 0
End n h = OperandEnd h × ((m : ℕ) → n ≤ m → head_is (is_operator_at m) h ≡ false)

abbrev pub from : ℕ → Spelling t.Expression
from n x us = expression_from x n us

pub not_mark : (x : _) (l : Lexeme) → (l ≡ Punctuator x → ⊥) → is_mark x l ≡ false
not_mark x l no_mark = go (is_mark x l) refl
  where
    go : (b : Bool) → is_mark x l ≡ b → is_mark x l ≡ false
    go true e = absurd (no_mark (is_mark-true x l e))
    go false e = e

operator_is : (n : ℕ) (l : Lexeme) (o : bo.Binary) → operator_at n l ≡ Some o → (operator_of l ≡ Some o) × (precedence o ≡ n)
operator_is n l o e = by (operator_of l) refl e
  where
    by : (r : Option bo.Binary) → operator_of l ≡ r →
        elim r as (λ r. Option bo.Binary) [ Some x ↦ elim (nat_eq (precedence x) n) as (λ b. Option bo.Binary) [ true ↦ Some x | false ↦ None ] | None ↦ None ]
        ≡ Some o →
        (operator_of l ≡ Some o) × (precedence o ≡ n)
    by None is e = cc
    by (Some x) is e = go (nat_eq (precedence x) n) refl e
      where
        go : (b : Bool) → nat_eq (precedence x) n ≡ b → elim b as (λ b. Option bo.Binary) [ true ↦ Some x | false ↦ None ] ≡ Some o →
            (operator_of l ≡ Some o) × (precedence o ≡ n)
        go true q e = let s : x ≡ o = some_same x o e in (is ∙ e, subst (λ y. precedence y ≡ n) s (eqb-true (precedence x) n q))
        go false q e = cc

is_operator : (n : ℕ) (l : Lexeme) (o : bo.Binary) → operator_of l ≡ Some o → precedence o ≡ n → operator_at n l ≡ Some o
is_operator n l o is e = rw (is, eq-eqb (precedence o) n e, operator_at) refl

no_operator : (m : ℕ) (l : Lexeme) (o : bo.Binary) → operator_of l ≡ Some o → (precedence o ≡ m → ⊥) → is_operator_at m l ≡ false
no_operator m l o is h = go (nat_eq (precedence o) m) refl
  where
    go : (b : Bool) → nat_eq (precedence o) m ≡ b → is_operator_at m l ≡ false
    go true q = absurd (h (eqb-true (precedence o) m q))
    go false q = rw (is, q, is_operator_at, operator_at) refl

-- an operator is none of these marks
pub operator_not_mark : (x : pn.Punctuator) (l : Lexeme) (o : bo.Binary) → operator_of (Punctuator x) ≡ None → operator_of l ≡ Some o → is_mark x l ≡ false
operator_not_mark x l o none is =
    not_mark x l (λ q. let both = sym none ∙ subst (λ (l : Lexeme). operator_of l ≡ Some o) q is in cc both)

operator_ends : (n : ℕ) (l : Lexeme) (o : bo.Binary) → operator_of l ≡ Some o → precedence o < n → End n (Some l)
operator_ends n l o is h =
    (operator_not_mark p.OpenBracket l o refl is, λ m e. no_operator m l o is (λ q. let z : ⊥ = omega (arith, h, e, q) in z))

-- in the grammar, as its token says
abbrev one_token : Place → Lexeme → List Token
one_token place l = record { place = place; lexeme = l } ∷ []

written_plain : (place : Place) (o : bo.Binary) → operator o (one_token place (Punctuator (p.Binary o)))
written_plain place binary.Mul = inl (place, refl)
written_plain place binary.Div = (place, refl)
written_plain place binary.Rem = (place, refl)
written_plain place binary.Add = (place, refl)
written_plain place binary.Sub = (place, refl)
written_plain place binary.ShiftLeft = (place, refl)
written_plain place binary.ShiftRight = (place, refl)
written_plain place binary.Less = (place, refl)
written_plain place binary.Greater = (place, refl)
written_plain place binary.LessEqual = (place, refl)
written_plain place binary.GreaterEqual = (place, refl)
written_plain place binary.Equal = (place, refl)
written_plain place binary.NotEqual = (place, refl)
written_plain place binary.And = inl (place, refl)
written_plain place binary.Xor = (place, refl)
written_plain place binary.Or = (place, refl)
written_plain place binary.LogicalAnd = (place, refl)
written_plain place binary.LogicalOr = (place, refl)

written : (place : Place) (l : Lexeme) (o : bo.Binary) → operator_of l ≡ Some o → operator o (one_token place l)
written place (Punctuator (p.Binary x)) o is = subst (λ o. operator o (one_token place (Punctuator (p.Binary x)))) (some_same x o is) (written_plain place x)
written place (Punctuator p.Star) o is = subst (λ o. operator o (one_token place (Punctuator p.Star))) (some_same binary.Mul o is) (inr (place, refl))
written place (Punctuator p.Ampersand) o is = subst (λ o. operator o (one_token place (Punctuator p.Ampersand))) (some_same binary.And o is) (inr (place, refl))
written place _ o is = cc

-- the token of an operator of the grammar
pub record IsOperator (o : bo.Binary) (us : List Token) : Type 0 where
  pub token : Token
  pub alone : us ≡ token ∷ []
  pub is : operator_of token.lexeme ≡ Some o

pub read_operator : (o : bo.Binary) (us : List Token) → operator o us → IsOperator o us
read_operator binary.Mul us (inl (place, e)) = record { token = _; alone = e; is = refl }
read_operator binary.Mul us (inr (place, e)) = record { token = _; alone = e; is = refl }
read_operator binary.Div us (place, e) = record { token = _; alone = e; is = refl }
read_operator binary.Rem us (place, e) = record { token = _; alone = e; is = refl }
read_operator binary.Add us (place, e) = record { token = _; alone = e; is = refl }
read_operator binary.Sub us (place, e) = record { token = _; alone = e; is = refl }
read_operator binary.ShiftLeft us (place, e) = record { token = _; alone = e; is = refl }
read_operator binary.ShiftRight us (place, e) = record { token = _; alone = e; is = refl }
read_operator binary.Less us (place, e) = record { token = _; alone = e; is = refl }
read_operator binary.Greater us (place, e) = record { token = _; alone = e; is = refl }
read_operator binary.LessEqual us (place, e) = record { token = _; alone = e; is = refl }
read_operator binary.GreaterEqual us (place, e) = record { token = _; alone = e; is = refl }
read_operator binary.Equal us (place, e) = record { token = _; alone = e; is = refl }
read_operator binary.NotEqual us (place, e) = record { token = _; alone = e; is = refl }
read_operator binary.And us (inl (place, e)) = record { token = _; alone = e; is = refl }
read_operator binary.And us (inr (place, e)) = record { token = _; alone = e; is = refl }
read_operator binary.Xor us (place, e) = record { token = _; alone = e; is = refl }
read_operator binary.Or us (place, e) = record { token = _; alone = e; is = refl }
read_operator binary.LogicalAnd us (place, e) = record { token = _; alone = e; is = refl }
read_operator binary.LogicalOr us (place, e) = record { token = _; alone = e; is = refl }

-- ---- A chain of operators of one precedence

abbrev operator_in_language : ℕ → Spelling bo.Binary
operator_in_language n = found_in (operator_in n)

-- a left operand, and `many` operators of precedence n that follow it with their right operands
abbrev chain : (n : ℕ) → (many : ℕ) → (left : t.Expression) → Spelling t.Expression
chain n zero left = just left
chain n (suc many) left = operator_in_language n ▷ (λ o. from (n + 1) ▷ (λ r. chain n many (t.Binary o left r)))

abbrev Chain : (n : ℕ) → (left : t.Expression) → Spelling t.Expression
Chain n left y us = (many : ℕ) × chain n many left y us

abbrev Longer : (n : ℕ) → (left : t.Expression) → Spelling t.Expression
Longer n left = operator_in_language n ▷ (λ o. from (n + 1) ▷ (λ r. Chain n (t.Binary o left r)))

longer_up : (n : ℕ) (left y : t.Expression) (us : List Token) → Longer n left y us → Chain n left y us
longer_up n left y us (o, us₁, us₂, e, l, (r, us₃, us₄, e', h, (many, c))) = (suc many, (o, us₁, us₂, e, l, (r, us₃, us₄, e', h, c)))

longer_down : (n : ℕ) (left y : t.Expression) (us : List Token) (many : ℕ) → chain n (suc many) left y us → Longer n left y us
longer_down n left y us many (o, us₁, us₂, e, l, (r, us₃, us₄, e', h, c)) = (o, us₁, us₂, e, l, (r, us₃, us₄, e', h, (many, c)))

operator_strict : (n : ℕ) → Strict (operator_in_language n)
operator_strict n o us (t, e, f) = rw e (lit≤ tt)

-- a chain begins with an operator of its precedence, if it isn't empty
chain_ends : (n : ℕ) (left y : t.Expression) (us rest : List Token) → Chain n left y us → End n (head_of rest) → End (n + 1) (head_of (us ++ rest))
chain_ends n left y us rest (zero, (q, e)) f = rw e (f.0, λ m h. f.1 m (omega (arith, h)))
chain_ends n left y us rest (suc many, (o, us₁, us₂, e, (t, e', e''), c)) f =
    let q : _ = operator_is n t.lexeme o e'' in
    rw (e, e') (operator_ends (n + 1) t.lexeme o q.0 (omega (arith, q.1)))

chain_ends' : (n : ℕ) (left y : t.Expression) (us rest : List Token) → Chain n left y us → OperandEnd (head_of rest) → OperandEnd (head_of (us ++ rest))
chain_ends' n left y us rest (zero, (q, e)) f = rw e f
chain_ends' n left y us rest (suc many, (o, us₁, us₂, e, (t, e', e''), c)) f =
    let q : _ = operator_is n t.lexeme o e'' in
    rw (e, e') (operator_not_mark p.OpenBracket t.lexeme o refl q.0)

chain_out : (n : ℕ) (left y : t.Expression) (us rest : List Token) → Chain n left y us → End n (head_of rest) →
    (Longer n left y us × (head_is (is_operator_at n) (head_of (us ++ rest)) ≡ true))
    ⊎ (just left y us × (head_is (is_operator_at n) (head_of (us ++ rest)) ≡ false))
chain_out n left y us rest (zero, (q, e)) f = inr ((q, e), rw e (f.1 n (omega arith)))
chain_out n left y us rest (suc many, (o, us₁, us₂, e, (t, e', e''), c)) f =
    inl (longer_down n left y us many (o, us₁, us₂, e, (t, e', e''), c), rw (e, e') (rw (e'', is_operator_at) refl))

-- an operator of each precedence
operator_with : (levels : ℕ) → levels ≤ 9 → (o : bo.Binary) × (precedence o ≡ 10 - levels)
operator_with zero h = (binary.Mul, refl)
operator_with (suc zero) h = (binary.Add, refl)
operator_with (suc (suc zero)) h = (binary.ShiftLeft, refl)
operator_with (suc (suc (suc zero))) h = (binary.Less, refl)
operator_with (suc (suc (suc (suc zero)))) h = (binary.Equal, refl)
operator_with (suc (suc (suc (suc (suc zero))))) h = (binary.And, refl)
operator_with (suc (suc (suc (suc (suc (suc zero)))))) h = (binary.Xor, refl)
operator_with (suc (suc (suc (suc (suc (suc (suc zero))))))) h = (binary.Or, refl)
operator_with (suc (suc (suc (suc (suc (suc (suc (suc zero)))))))) h = (binary.LogicalAnd, refl)
operator_with (suc (suc (suc (suc (suc (suc (suc (suc (suc zero))))))))) h = (binary.LogicalOr, refl)
operator_with (suc (suc (suc (suc (suc (suc (suc (suc (suc (suc n)))))))))) h = let z : ⊥ = omega (arith, h) in absurd z

good_operator : {b : ℕ} (n : ℕ) (o : bo.Binary) → precedence o ≡ n
    → Good b (operator_in_language n) (operator_in_language n) Anything (taking (operator_in n)) (taking (operator_in n))
good_operator n o e =
    good_taking (operator_in n) (record { place = record { 0 = 0 }; lexeme = Punctuator (p.Binary o) }) o (is_operator n (Punctuator (p.Binary o)) o refl e)

-- a chain, where its right operands are read
longer_good : {b c : ℕ} (n : ℕ) (o : bo.Binary) → precedence o ≡ n → b ≤ suc c → c ≤ b → (right right' : Parser t.Expression)
    → Good b (from (n + 1)) (from (n + 1)) (End (n + 1)) right right' →
    (loop loop' : t.Expression → Parser t.Expression) → ((left : t.Expression) → Good c (Chain n left) (Chain n left) (End n) (loop left) (loop' left)) →
    (left : t.Expression) → Good b (Chain n left) (Longer n left) (End n) (do o ← taking (operator_in n); y ← right; loop (t.Binary o left y))
    (do o ← taking (operator_in n); y ← right'; loop' (t.Binary o left y))
longer_good n o e bc cb right right' g loop loop' h left =
    good_to {U' = Chain n left} {K' = Longer n left}
    (good_then_less {M = λ o. from (n + 1) ▷ (λ r. Chain n (t.Binary o left r))} bc (operator_strict n) (good_operator n o e)
    (λ o. good_then {M = λ r. Chain n (t.Binary o left r)} (good_less g cb) (λ r. h (t.Binary o left r))
    (λ r y us rest. chain_ends n (t.Binary o left r) y us rest))
    (λ o y us rest m f. tt))
    (longer_up n left) (λ y us u. u) (λ h f. f)

operators_step : {b c : ℕ} (n : ℕ) (o : bo.Binary) → precedence o ≡ n → b ≤ suc c → c ≤ b → (right right' : Parser t.Expression)
    → Good b (from (n + 1)) (from (n + 1)) (End (n + 1)) right right' → (fuel fuel' : ℕ) →
    ((left : t.Expression) → Good c (Chain n left) (Chain n left) (End n) (operators_at n right fuel left) (operators_at n right' fuel' left)) →
    (left : t.Expression) → Good b (Chain n left) (Chain n left) (End n) (operators_at n right (suc fuel) left) (operators_at n right' (suc fuel') left)
operators_step n o e bc cb right right' g fuel fuel' h left =
    good_where {K₁ = Longer n left} {K₂ = just left} (head_is (is_operator_at n))
    (longer_good n o e bc cb right right' g (operators_at n right fuel) (operators_at n right' fuel') h left)
    (good_to {U' = Chain n left} {K' = just left} (good_give left) (λ y us u. (0, u)) (λ y us u. u) (λ h f. tt))
    (chain_out n left)

operators_good : (n : ℕ) (o : bo.Binary) → precedence o ≡ n → (right right' : Parser t.Expression) → (fuel fuel' b : ℕ) → b ≤ fuel → b ≤ fuel' →
    Good b (from (n + 1)) (from (n + 1)) (End (n + 1)) right right' → Good 0 (from (n + 1)) (from (n + 1)) (End (n + 1)) right right →
    (left : t.Expression) → Good b (Chain n left) (Chain n left) (End n) (operators_at n right fuel left) (operators_at n right' fuel' left)
operators_good n o e right right' zero fuel' b h h' g g₀ left = good_small h (λ ts. ([], refl, [], left, (0, (refl, refl))))
operators_good n o e right right' (suc fuel) zero b h h' g g₀ left =
    good_small h' (operators_step {b = 0} {c = 0} n o e (omega arith) (omega arith) right right g₀ fuel fuel
    (operators_good n o e right right fuel fuel 0 (omega arith) (omega arith) g₀ g₀) left).sure
operators_good n o e right right' (suc fuel) (suc fuel') b h h' g g₀ left =
    operators_step {b = b} {c = b - 1} n o e (omega arith) (omega arith) right right' g fuel fuel'
    (operators_good n o e right right' fuel fuel' (b - 1) (omega (arith, h)) (omega (arith, h')) (good_less g (omega arith)) g₀) left

-- ---- The ladder of precedences

-- the operators of the so many greatest precedences that follow on an operand
abbrev pub Ladder : (levels : ℕ) → (left : t.Expression) → Spelling t.Expression
Ladder zero left = just left
Ladder (suc levels) left = Ladder levels left ▷ Chain (10 - levels)

-- a chain and one more of its operators
chain_more : (n : ℕ) (many : ℕ) (left x y : t.Expression) (o : bo.Binary) (us vs : List Token) → chain n many left x us
    → (operator_in_language n ▷ (λ o. from (n + 1) ▷ (λ r. just (t.Binary o x r)))) y vs → chain n (suc many) left y (us ++ vs)
chain_more n zero left x y o us vs (q, e) m = rw (e, q) m
chain_more n (suc many) left x y o us vs (o', us₁, us₂, e, l, (r, us₃, us₄, e', h, c)) m = (
  o',
  us₁,
  us₂ ++ vs,
  ap (λ l. l ++ vs) e ∙ append_assoc us₁ us₂ vs,
  l,
  (r, us₃, us₄ ++ vs, ap (λ l. l ++ vs) e' ∙ append_assoc us₃ us₄ vs, h, chain_more n many (t.Binary o' left r) x y o us₄ vs c m),
)

pub ladder_ends : (levels : ℕ) (left y : t.Expression) (us rest : List Token) → Ladder levels left y us → OperandEnd (head_of rest)
    → OperandEnd (head_of (us ++ rest))
ladder_ends zero left y us rest (q, e) f = rw e f
ladder_ends (suc levels) left y us rest (x, us₁, us₂, e, l, c) f =
    rw (e, append_assoc us₁ us₂ rest) (ladder_ends levels left x us₁ (us₂ ++ rest) l (chain_ends' (10 - levels) x y us₂ rest c f))

-- what follows a left operand fails a test that every operator fails, where what follows its ladder does
pub ladder_head : (test : Option Lexeme → Bool) → ((l : Lexeme) (o : bo.Binary) → operator_of l ≡ Some o → test (Some l) ≡ false)
    → (levels : ℕ) (left y : t.Expression) (us rest : List Token) →
    Ladder levels left y us → test (head_of rest) ≡ false → test (head_of (us ++ rest)) ≡ false
ladder_head test no_one zero left y us rest (q, e) f = rw e f
ladder_head test no_one (suc levels) left y us rest (x, us₁, us₂, e, l, c) f =
    rw (e, append_assoc us₁ us₂ rest) (ladder_head test no_one levels left x us₁ (us₂ ++ rest) l (go c))
  where
    go : Chain (10 - levels) x y us₂ → test (head_of (us₂ ++ rest)) ≡ false
    go (zero, (q, e)) = rw e f
    go (suc many, (o, vs₁, vs₂, e, (a, e', e''), c)) = let q : _ = operator_is (10 - levels) a.lexeme o e'' in rw (e, e') (no_one a.lexeme o q.0)

-- nothing more follows
ladder_none : (levels : ℕ) (x : t.Expression) → Ladder levels x x []
ladder_none zero x = (refl, refl)
ladder_none (suc levels) x = (x, [], [], refl, ladder_none levels x, (0, (refl, refl)))

-- a longer ladder has the same and more
ladder_step : (levels : ℕ) (left y : t.Expression) (us : List Token) → Ladder levels left y us → Ladder (suc levels) left y us
ladder_step levels left y us l = (y, us, [], sym (append-nil us), l, (0, (refl, refl)))

ladder_more : (more levels : ℕ) (left y : t.Expression) (us : List Token) → Ladder levels left y us → Ladder (more + levels) left y us
ladder_more zero levels left y us l = let e : zero + levels ≡ levels = omega arith in rw e l
ladder_more (suc more) levels left y us l =
    let e : suc more + levels ≡ suc (more + levels) = omega arith in rw e (ladder_step (more + levels) left y us (ladder_more more levels left y us l))

ladder_up : (levels levels' : ℕ) (left y : t.Expression) (us : List Token) → levels ≤ levels' → Ladder levels left y us → Ladder levels' left y us
ladder_up levels levels' left y us h l =
    let e : (levels' - levels) + levels ≡ levels' = omega (arith, h) in rw e at (ladder_more (levels' - levels) levels left y us l)

-- what binds tighter is also from a weaker precedence on
pub from_weaker : (n m : ℕ) (x : t.Expression) (us : List Token) → n ≤ m → 1 ≤ m → from m x us → from n x us
from_weaker n m (t.Number place value) us h h' u = u
from_weaker n m (t.Named x) us h h' u = u
from_weaker n m (t.Element array index) us h h' u = u
from_weaker n m (t.Null place) us h h' u = u
from_weaker n m (t.Address place array index) us h h' u = u
from_weaker n m (t.Referent place reference) us h h' u = u
from_weaker n m (t.Parenthesised place inner) us h h' u = u
from_weaker n m (t.Unary place operator operand) us h h' u = u
from_weaker n m (t.Cast place x operand) us h h' u = u
from_weaker n m (t.Binary operator left right) us h h' (q, u) = (omega (arith, h, q), u)
from_weaker n m (t.Conditional condition then otherwise) us h h' (q, u) = let z : ⊥ = omega (arith, h', q) in absurd z

chain_join : (n : ℕ) (many : ℕ) (left y : t.Expression) (us vs : List Token) → 1 ≤ n → from n left us → chain n many left y vs → from n y (us ++ vs)
chain_join n zero left y us vs h u (q, e) = rw (← q, e, append-nil us) u
chain_join n (suc many) left y us vs h u (o, us₁, us₂, e, (a, e', e''), (r, us₃, us₄, e₂, h₂, c)) =
    let q : _ = operator_is n a.lexeme o e'' in
    let mine : from n (t.Binary o left r) (us ++ (us₁ ++ us₃)) =
    (omega (arith, q.1), (us, us₁ ++ us₃, refl, rw q.1 u, (us₁, us₃, refl, rw e' (written a.place a.lexeme o q.0), rw q.1 h₂))) in
    rw (e, e₂) (rw (append_assoc us (us₁ ++ us₃) us₄, append_assoc us₁ us₃ us₄) at (chain_join n many (t.Binary o left r) y (us ++ (us₁ ++ us₃)) us₄ h mine c))

-- an operand and a ladder after it are an expression
pub ladder_join : (levels : ℕ) (left y : t.Expression) (us vs : List Token) → levels ≤ 10 → from 11 left us → Ladder levels left y vs
    → from (11 - levels) y (us ++ vs)
ladder_join zero left y us vs h u (q, e) = rw (← q, e, append-nil us) u
ladder_join (suc levels) left y us vs h u (x, us₁, us₂, e, l, (many, c)) =
    let below : from (11 - levels) x (us ++ us₁) = ladder_join levels left x us us₁ (omega (arith, h)) u l in
    let s : 11 - suc levels ≡ 10 - levels = omega (arith, h) in
    rw (e, s) (rw (append_assoc us us₁ us₂) at (chain_join (10 - levels) many x y (us ++ us₁) us₂ (omega (arith, h))
    (from_weaker (10 - levels) (11 - levels) x (us ++ us₁) (omega (arith, h)) (omega (arith, h)) below) c))

-- each precedence is between 1 and 10
pub precedence_low : (o : bo.Binary) → 1 ≤ precedence o
precedence_low binary.LogicalOr = lit≤ tt
precedence_low binary.LogicalAnd = lit≤ tt
precedence_low binary.Or = lit≤ tt
precedence_low binary.Xor = lit≤ tt
precedence_low binary.And = lit≤ tt
precedence_low binary.Equal = lit≤ tt
precedence_low binary.NotEqual = lit≤ tt
precedence_low binary.Less = lit≤ tt
precedence_low binary.Greater = lit≤ tt
precedence_low binary.LessEqual = lit≤ tt
precedence_low binary.GreaterEqual = lit≤ tt
precedence_low binary.ShiftLeft = lit≤ tt
precedence_low binary.ShiftRight = lit≤ tt
precedence_low binary.Add = lit≤ tt
precedence_low binary.Sub = lit≤ tt
precedence_low binary.Mul = lit≤ tt
precedence_low binary.Div = lit≤ tt
precedence_low binary.Rem = lit≤ tt

pub precedence_high : (o : bo.Binary) → precedence o ≤ 10
precedence_high binary.LogicalOr = lit≤ tt
precedence_high binary.LogicalAnd = lit≤ tt
precedence_high binary.Or = lit≤ tt
precedence_high binary.Xor = lit≤ tt
precedence_high binary.And = lit≤ tt
precedence_high binary.Equal = lit≤ tt
precedence_high binary.NotEqual = lit≤ tt
precedence_high binary.Less = lit≤ tt
precedence_high binary.Greater = lit≤ tt
precedence_high binary.LessEqual = lit≤ tt
precedence_high binary.GreaterEqual = lit≤ tt
precedence_high binary.ShiftLeft = lit≤ tt
precedence_high binary.ShiftRight = lit≤ tt
precedence_high binary.Add = lit≤ tt
precedence_high binary.Sub = lit≤ tt
precedence_high binary.Mul = lit≤ tt
precedence_high binary.Div = lit≤ tt
precedence_high binary.Rem = lit≤ tt

-- an expression without `?` outside brackets is an operand and a ladder after it
pub ladder_split : (levels : ℕ) (y : t.Expression) (us : List Token) → levels ≤ 10 → from (11 - levels) y us → (from 11 ▷ Ladder levels) y us
ladder_split levels (t.Number place value) us h u = (t.Number place value, us, [], sym (append-nil us), u, ladder_none levels (t.Number place value))
ladder_split levels (t.Named x) us h u = (t.Named x, us, [], sym (append-nil us), u, ladder_none levels (t.Named x))
ladder_split levels (t.Element array index) us h u = (t.Element array index, us, [], sym (append-nil us), u, ladder_none levels (t.Element array index))
ladder_split levels (t.Null place) us h u = (t.Null place, us, [], sym (append-nil us), u, ladder_none levels (t.Null place))
ladder_split levels (t.Address place array index) us h u =
    (t.Address place array index, us, [], sym (append-nil us), u, ladder_none levels (t.Address place array index))
ladder_split levels (t.Referent place reference) us h u =
    (t.Referent place reference, us, [], sym (append-nil us), u, ladder_none levels (t.Referent place reference))
ladder_split levels (t.Parenthesised place inner) us h u =
    (t.Parenthesised place inner, us, [], sym (append-nil us), u, ladder_none levels (t.Parenthesised place inner))
ladder_split levels (t.Unary place operator operand) us h u =
    (t.Unary place operator operand, us, [], sym (append-nil us), u, ladder_none levels (t.Unary place operator operand))
ladder_split levels (t.Cast place x operand) us h u = (t.Cast place x operand, us, [], sym (append-nil us), u, ladder_none levels (t.Cast place x operand))
ladder_split levels (t.Conditional condition then otherwise) us h (q, u) = let z : ⊥ = omega (arith, h, q) in absurd z
ladder_split levels (t.Binary o a r) us h (q, (us₁, us₂, e, ha, (us₃, us₄, e', m, hr))) =
    let low : _ = precedence_low o in
    let high : _ = precedence_high o in
    let s : 11 - (11 - precedence o) ≡ precedence o = omega (arith, high) in
    let d : 10 - (10 - precedence o) ≡ precedence o = omega (arith, high) in
    let deep : (from 11 ▷ Ladder (11 - precedence o)) a us₁ = ladder_split (11 - precedence o) a us₁ (omega (arith, low)) (rw s ha) in
    go low high d deep
  where
    go : 1 ≤ precedence o → precedence o ≤ 10 → 10 - (10 - precedence o) ≡ precedence o → (from 11 ▷ Ladder (11 - precedence o)) a us₁
        → (from 11 ▷ Ladder levels) (t.Binary o a r) us
    go low high d (left, vs₁, vs₂, f, hl, l) =
        let spelled : IsOperator o us₃ = read_operator o us₃ m in
        let b : 11 - precedence o ≡ suc (10 - precedence o) = omega (arith, high) in
        let l' : Ladder (suc (10 - precedence o)) left a vs₂ = rw b at l in
        let (x, ws₁, ws₂, g, hx, (many, c)) = l' in
        let last : (operator_in_language (10 - (10 - precedence o)) ▷ (λ o'. from (10 - (10 - precedence o) + 1) ▷ (λ r'. just (t.Binary o' a r'))))
        (t.Binary o a r) us₂ =
        rw d (
          o,
          us₃,
          us₄,
          e',
          (spelled.token, spelled.alone, is_operator (precedence o) spelled.token.lexeme o spelled.is refl),
          (r, us₄, [], sym (append-nil us₄), hr, (refl, refl)),
        ) in
        let whole : Ladder (suc (10 - precedence o)) left (t.Binary o a r) (vs₂ ++ us₂) = (
          x,
          ws₁,
          ws₂ ++ us₂,
          ap (λ l. l ++ us₂) g ∙ append_assoc ws₁ ws₂ us₂,
          hx,
          (suc many, chain_more (10 - (10 - precedence o)) many x a (t.Binary o a r) o ws₂ us₂ c last),
        ) in (
          left,
          vs₁,
          vs₂ ++ us₂,
          e ∙ ap (λ l. l ++ us₂) f ∙ append_assoc vs₁ vs₂ us₂,
          hl,
          ladder_up (suc (10 - precedence o)) levels left (t.Binary o a r) (vs₂ ++ us₂) (omega (arith, h, q, low, high)) whole,
        )

-- ---- The parsers of the ladder

right_operand : {b : ℕ} (levels : ℕ) → levels ≤ 9 → {operand operand' : Parser t.Expression} {after after' : t.Expression → Parser t.Expression} →
    Good b (from 11) (from 11) OperandEnd operand operand' → ((left : t.Expression)
    → Good b (Ladder levels left) (Ladder levels left) (End (11 - levels)) (after left) (after' left)) →
    Good b (from (10 - levels + 1)) (from (10 - levels + 1)) (End (10 - levels + 1)) (do y ← operand; after y) (do y ← operand'; after' y)
right_operand levels h g a =
    let s : 11 - levels ≡ 10 - levels + 1 = omega (arith, h) in
    good_to {U = from 11 ▷ Ladder levels} {K = from 11 ▷ Ladder levels} {F = End (11 - levels)}
    (good_then {M = Ladder levels} {F = OperandEnd} {G = End (11 - levels)} g a (λ left y us rest l f. ladder_ends levels left y us rest l f.0))
    (λ y us (left, us₁, us₂, e, u, l). rw (e, ← s) (ladder_join levels left y us₁ us₂ (omega (arith, h)) u l))
    (λ y us u. ladder_split levels y us (omega (arith, h)) (rw (← s) at u))
    (λ x f. rw s f)

-- the parser of a ladder, with so many levels
abbrev pub AfterGood : (b : ℕ) → (operand operand' : Parser t.Expression) → (fuel fuel' levels : ℕ) → Type 0
AfterGood b operand operand' fuel fuel' levels =
    (left : t.Expression) → Good b (Ladder levels left) (Ladder levels left) (End (11 - levels)) (operators_after operand fuel levels left)
    (operators_after operand' fuel' levels left)

operators_more : {b : ℕ} (fuel fuel' : ℕ) → b ≤ fuel → b ≤ fuel' → (operand operand' : Parser t.Expression)
    → Good b (from 11) (from 11) OperandEnd operand operand' → Good 0 (from 11) (from 11) OperandEnd operand operand →
    (levels : ℕ) → levels ≤ 9 → AfterGood b operand operand' fuel fuel' levels → AfterGood 0 operand operand fuel fuel levels
    → AfterGood b operand operand' fuel fuel' (suc levels)
operators_more {b = b} fuel fuel' h h' operand operand' g g₀ levels l below below₀ left =
    let oq : (o : bo.Binary) × (precedence o ≡ 10 - levels) = operator_with levels l in
    good_to {U = Ladder levels left ▷ Chain (10 - levels)} {K = Ladder levels left ▷ Chain (10 - levels)} {F = End (10 - levels)}
    (good_then {M = Chain (10 - levels)} {F = End (11 - levels)} {G = End (10 - levels)} (below left)
    (λ x. operators_good (10 - levels) oq.0 oq.1 (do y ← operand; operators_after operand fuel levels y)
    (do y ← operand'; operators_after operand' fuel' levels y) fuel fuel' b h h' (right_operand levels l g below) (right_operand levels l g₀ below₀) x)
    after)
    (λ y us u. u) (λ y us u. u) over
  where
    after : (x y : t.Expression) (us rest : List Token) → Chain (10 - levels) x y us → End (10 - levels) (head_of rest)
        → End (11 - levels) (head_of (us ++ rest))
    after x y us rest c f = let s : 11 - levels ≡ 10 - levels + 1 = omega (arith, l) in rw s (chain_ends (10 - levels) x y us rest c f)

    over : (x : Option Lexeme) → End (11 - suc levels) x → End (10 - levels) x
    over x f = let s : 11 - suc levels ≡ 10 - levels = omega (arith, l) in rw s at f

pub operators_after_good : (fuel fuel' b : ℕ) → b ≤ fuel → b ≤ fuel' → (operand operand' : Parser t.Expression)
    → Good b (from 11) (from 11) OperandEnd operand operand' → Good 0 (from 11) (from 11) OperandEnd operand operand →
    (levels : ℕ) → levels ≤ 10 → AfterGood b operand operand' fuel fuel' levels × AfterGood 0 operand operand fuel fuel levels
operators_after_good fuel fuel' b h h' operand operand' g g₀ zero l =
    (λ left. good_to (good_give left) (λ y us u. u) (λ y us u. u) (λ x f. tt), λ left. good_to (good_give left) (λ y us u. u) (λ y us u. u) (λ x f. tt))
operators_after_good fuel fuel' b h h' operand operand' g g₀ (suc levels) l =
    let below : AfterGood b operand operand' fuel fuel' levels × AfterGood 0 operand operand fuel fuel levels =
    operators_after_good fuel fuel' b h h' operand operand' g g₀ levels (omega (arith, l)) in (
      operators_more fuel fuel' h h' operand operand' g g₀ levels (omega (arith, l)) below.0 below.1,
      operators_more {b = 0} fuel fuel (omega arith) (omega arith) operand operand g₀ g₀ levels (omega (arith, l)) below.1 below.1,
    )
