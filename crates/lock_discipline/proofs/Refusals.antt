-- Errors that are passed on.
use Rattle.std.proofs.Common.{◌≡◌, ◌++◌, not, List, Option, Some, None, Result, MatchResult, IfSome, find, refl, sym, ap, ◌∙◌, subst}
use Rattle.std.specs.Option.{option_or}
use Rattle.std.proofs.lemmas.List.Folds.{find-append}
use Rattle.c_tree.specs.declared.rule.Rule.TheVariants as rule
use Rattle.c_tree.specs.Exprs.{LockName}
use Rattle.c_tree.specs.Programs.{Variable}
use Rattle.c_tree.specs.LockNames.{Held}
use Rattle.c_tree.specs.LockDiscipline.{Fault, Walked, After, Broken, and_then, Use, guard_name, is_guarded, walk_uses}
use Rattle.lock_discipline.specs.declared.error.LockError.{LockError}
use Rattle.lock_discipline.specs.Faults.{fault_of}
use Rattle.lock_discipline.specs.links.Refusals.{Refuses, RefusesAny}
use Rattle.lock_discipline.proofs.CheckerCorrectness.{none_or}

pub same_fault : (o : Option Fault) (P Q : Fault → Type 0) → ((x : Fault) → P x → Q x) → IfSome o P → IfSome o Q
same_fault None P Q g h = h
same_fault (Some x) P Q g h = g x h

-- what begins with a part that breaks
pub refuses_then : (w v : Walked) (next : Held → Walked) (e : LockError) → v ≡ and_then w next → Refuses w e → Refuses v e
refuses_then w v next e is h =
    same_fault (fault_of e) (λ x. w ≡ Broken x) (λ x. v ≡ Broken x) (λ x p. is ∙ ap (λ y. and_then y next) p) h

pub refuses_as : (w v : Walked) (e : LockError) → v ≡ w → Refuses w e → Refuses v e
refuses_as w v e is h = subst (λ x. Refuses x e) (sym is) h

pub refuses_any : (w : Walked) (v : (List Held → Walked) → Walked) (next : (List Held → Walked) → Held → Walked) (e : LockError) →
    ((after : List Held → Walked) → v after ≡ and_then w (next after)) → Refuses w e → RefusesAny v e
refuses_any w v next e is h =
    same_fault (fault_of e) (λ x. w ≡ Broken x) (λ x. (after : List Held → Walked) → v after ≡ Broken x)
    (λ x p after. is after ∙ ap (λ y. and_then y (next after)) p) h

pub refuses_one : (v : (List Held → Walked) → Walked) (w : Walked) (after : List Held → Walked) (e : LockError) → w ≡ v after → RefusesAny v e → Refuses w e
refuses_one v w after e is h =
    same_fault (fault_of e) (λ x. (after : List Held → Walked) → v after ≡ Broken x) (λ x. w ≡ Broken x) (λ x p. is ∙ p after) h

pub matches_as : {A : Type 0} (r : Result A LockError) (w v : Walked) (f : A → Held) → v ≡ w → MatchResult r (λ x. w ≡ After (f x)) (Refuses w) →
    MatchResult r (λ x. v ≡ After (f x)) (Refuses v)
matches_as r w v f is h = subst (λ x. MatchResult r (λ y. x ≡ After (f y)) (Refuses x)) (sym is) h

either : {A : Type 0} (a b : Option A) (fault : A → Fault) (h : Held) → none_or (option_or a b) fault h ≡ and_then (none_or a fault h) (λ _. none_or b fault h)
either None b fault h = refl
either (Some x) b fault h = refl

-- uses after uses
pub uses_append : (vs : List Variable) (names : List LockName) (h : Held) (us ws : List Use) →
    walk_uses vs names h (us ++ ws) ≡ and_then (walk_uses vs names h us) (λ _. walk_uses vs names h ws)
uses_append vs names h us ws =
    let missing = λ (u : Use). not (is_guarded vs names h u) in
    let fault : Use → Fault = λ u. record { rule = rule.Unheld; place = u.place; lock = guard_name vs u } in
    ap (λ (o : Option Use). none_or o fault h) (find-append missing us ws) ∙ either (find missing us) (find missing ws) fault h

-- the walk over uses that are put together of two lists goes over the one and then over the other
pub uses_split : (vs : List Variable) (names : List LockName) (h : Held) (us xs ys : List Use) → us ≡ xs ++ ys →
    walk_uses vs names h us ≡ and_then (walk_uses vs names h xs) (λ _. walk_uses vs names h ys)
uses_split vs names h us xs ys e = ap (walk_uses vs names h) e ∙ uses_append vs names h xs ys
