use Rattle.std.proofs.Common.{◌≡◌, ℕ, ◌==◌, ◌++◌, Bool, true, false, ◌||◌, List, refl, sym, ap, ◌∙◌}
use Rattle.std.specs.List.{list_any}
use Rattle.std.proofs.lemmas.List.Folds.{list_any-append}
use Rattle.c_tree.specs.Exprs.{expr_of}
use Rattle.c_tree.specs.declared.expr.Expr.{Expr}
use Rattle.c_tree.specs.LockDiscipline.{expr_locals}
use Rattle.c_tree.proofs.lock_names.+reads.Goals as goal
use Rattle.c_tree.proofs.lock_names.+reads.Goals.{then-reads-2, else-reads-2}

in_three : (p : ℕ → Bool) (xs ys zs : List ℕ) → list_any p ((xs ++ ys) ++ zs) ≡ ((list_any p xs || list_any p ys) || list_any p zs)
in_three p xs ys zs = list_any-append p (xs ++ ys) zs ∙ ap (λ (b : Bool). b || list_any p zs) (list_any-append p xs ys)

first_so : (a b c : Bool) → a ≡ true → true ≡ ((a || b) || c)
first_so a b c e = ap (λ (x : Bool). (x || b) || c) (sym e)

second_so : (a b c : Bool) → b ≡ true → true ≡ ((a || b) || c)
second_so true b c e = refl
second_so false b c e = ap (λ (x : Bool). x || c) (sym e)

last_so : (a b c : Bool) → a ≡ false → b ≡ false → c ≡ ((a || b) || c)
last_so a b c e f = ap (λ (x : Bool). (x || false) || c) (sym e) ∙ ap (λ (x : Bool). (a || x) || c) (sym f)

pub returns-then-reads-3 : goal.returns-then-reads-3
returns-then-reads-3 t c =
    let w = c.in-Conditional in
    let p : ℕ → Bool = λ other. other == c.args.local in
    let in_expr : Expr → Bool = λ x. list_any p (expr_locals (expr_of x)) in
    let condition : c.deref-in-Conditional.result.now ≡ w.condition.value = cc in
    let first : c.reads-in-Conditional.result ≡ in_expr w.condition.value = c.reads-in-Conditional.ensures ∙ ap in_expr condition in
    let all : ((in_expr w.condition.value || in_expr w.then.value) || in_expr w.otherwise.value) ≡ in_expr c.args.expr.now =
    sym (ap in_expr w.is
    ∙ in_three p (expr_locals (expr_of w.condition.value)) (expr_locals (expr_of w.then.value)) (expr_locals (expr_of w.otherwise.value))) in
    elim c.if-reads-2.branch [
      | then-reads-2 v ↦ c.if-reads-3.true
          ∙ (first_so (in_expr w.condition.value) (in_expr w.then.value) (in_expr w.otherwise.value) (sym first ∙ v.if-reads-2.true) ∙ all)
      | else-reads-2 v ↦
          let chosen : v.deref-else-reads-2.result.now ≡ w.then.value = cc in
          let second : v.reads-else-reads-2.result ≡ in_expr w.then.value = v.reads-else-reads-2.ensures ∙ ap in_expr chosen in
          c.if-reads-3.true
          ∙ (second_so (in_expr w.condition.value) (in_expr w.then.value) (in_expr w.otherwise.value) (sym second ∙ (sym v.value-is ∙ c.if-reads-3.true)) ∙ all)
    ]

pub returns-else-reads-3 : goal.returns-else-reads-3
returns-else-reads-3 t c =
    let w = c.in-Conditional in
    let p : ℕ → Bool = λ other. other == c.args.local in
    let in_expr : Expr → Bool = λ x. list_any p (expr_locals (expr_of x)) in
    let condition : c.deref-in-Conditional.result.now ≡ w.condition.value = cc in
    let otherwise : c.deref-else-reads-3.result.now ≡ w.otherwise.value = cc in
    let first : c.reads-in-Conditional.result ≡ in_expr w.condition.value = c.reads-in-Conditional.ensures ∙ ap in_expr condition in
    let third : c.reads-else-reads-3.result ≡ in_expr w.otherwise.value = c.reads-else-reads-3.ensures ∙ ap in_expr otherwise in
    let all : ((in_expr w.condition.value || in_expr w.then.value) || in_expr w.otherwise.value) ≡ in_expr c.args.expr.now =
    sym (ap in_expr w.is
    ∙ in_three p (expr_locals (expr_of w.condition.value)) (expr_locals (expr_of w.then.value)) (expr_locals (expr_of w.otherwise.value))) in
    elim c.if-reads-2.branch [
      | then-reads-2 v ↦ absurd (cc)
      | else-reads-2 v ↦
          let chosen : v.deref-else-reads-2.result.now ≡ w.then.value = cc in
          let second : v.reads-else-reads-2.result ≡ in_expr w.then.value = v.reads-else-reads-2.ensures ∙ ap in_expr chosen in
          third
          ∙ (last_so (in_expr w.condition.value) (in_expr w.then.value) (in_expr w.otherwise.value) (sym first ∙ v.if-reads-2.false)
          (sym second ∙ (sym v.value-is ∙ c.if-reads-3.false)) ∙ all)
    ]
