-- Rows of statements that are made one after the other.
use Rattle.std.proofs.Common.{◌≡◌, List, [], ◌∷◌, ◌++◌, Result, Ok, Err, OnOk, refl, ap, ◌∙◌}
use Rattle.std.proofs.lemmas.Result.{IfOk-equal}
use Rattle.c_tree.specs.Exprs.{placed_of}
use Rattle.c_tree.specs.Programs as p
use Rattle.c_tree.specs.Elaboration.{one, statements_and}
use Rattle.c_tree.specs.declared.program.Statement.{Statement}
use Rattle.c_tree.specs.declared.program.Arm.{Arm}

pub push : (xs : List Statement) (x : Statement) → p.statements_of (xs ++ x ∷ []) ≡ statements_and (p.statements_of xs) (one (p.statement_of x))
push [] x = refl
push (y ∷ ys) x = ap (p.statement_and (p.statement_of y)) (push ys x)

pub and_nothing : (xs : p.Statements) → statements_and xs p.no_statement ≡ xs
and_nothing p.no_statement = refl
and_nothing (p.statement_and x xs) = ap (p.statement_and x) (and_nothing xs)

pub and_both : (xs ys zs : p.Statements) → statements_and (statements_and xs ys) zs ≡ statements_and xs (statements_and ys zs)
and_both p.no_statement ys zs = refl
and_both (p.statement_and x xs) ys zs = ap (p.statement_and x) (and_both xs ys zs)

-- ---- Arms

abbrev pub arms_and : p.Arms → p.Arms → p.Arms
arms_and p.no_arm more = more
arms_and (p.arm_and x body xs) more = p.arm_and x body (arms_and xs more)

pub push_arm : (xs : List Arm) (x : Arm) (more : p.Arms)
    → arms_and (p.arms_list_of (xs ++ x ∷ [])) more ≡ arms_and (p.arms_list_of xs) (arms_and (p.arms_list_of (x ∷ [])) more)
push_arm [] x more = refl
push_arm (y ∷ ys) x more = ap (p.arm_and (placed_of y.condition) (p.statements_of y.body.items)) (push_arm ys x more)

pub and_no_arm : (xs : p.Arms) → arms_and xs p.no_arm ≡ xs
and_no_arm p.no_arm = refl
and_no_arm (p.arm_and x body xs) = ap (p.arm_and x body) (and_no_arm xs)

-- ---- What holds after a call that may fail

pub always : {T E : Type 0} (r : Result T E) {P : Type 0} → P → OnOk r P
always (Ok x) h = h
always (Err e) h = tt

-- one more statement, and what it is
pub one_more : {T E : Type 0} (r : Result T E) (new old : p.Statements) (x : p.Statement) (m : p.Statements) → OnOk r (new ≡ statements_and old (one x))
    → one x ≡ m
    → OnOk r (new ≡ statements_and old m)
one_more r new old x m h e = IfOk-equal r new (statements_and old (one x)) (statements_and old m) h (ap (statements_and old) e)

-- a statement after others
pub two_more : {T E : Type 0} (r : Result T E) (new mid old first : p.Statements) (x y : p.Statement) → OnOk r (new ≡ statements_and mid (one x))
    → mid ≡ statements_and old first → x ≡ y
    → OnOk r (new ≡ statements_and old (statements_and first (one y)))
two_more r new mid old first x y h begins e =
    IfOk-equal r new (statements_and mid (one x)) (statements_and old (statements_and first (one y))) h
    (ap (λ (z : p.Statement). statements_and mid (one z)) e ∙ ap (λ (xs : p.Statements). statements_and xs (one y)) begins ∙ and_both old first (one y))
