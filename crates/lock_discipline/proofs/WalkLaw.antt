-- The walk finds no fault exactly where the discipline is kept and nowhere too many are held.
use Rattle.std.proofs.Common.{◌≡◌, true, false, List, [], ◌∷◌, ◌++◌, length, set, find}
use Rattle.std.proofs.Common.{Option, None, All, refl, sym, ap, ◌∙◌, subst, append_assoc, append-nil}
use Rattle.std.specs.List.{AllByRecursion}
use Rattle.std.proofs.lemmas.List.{length-replicate}
use Rattle.std.proofs.lemmas.List.Elements.{All-nil, All-cons, All-head, All-tail}
use Rattle.c_tree.specs.declared.language.Language.{Language}
use Rattle.c_tree.specs.Exprs as e
use Rattle.c_tree.specs.Programs.{Variable}
use Rattle.c_tree.specs.Flats as f
use Rattle.c_tree.specs.LockNames.{Held, holds, none_held, lock_names, locks_in_all, number_in}
use Rattle.c_tree.specs.LockDiscipline.{numbers_below, expr_uses, KeepAll, IsDisciplined, are_too_many, Fault, Walked, After, Broken, and_then}
use Rattle.c_tree.specs.LockDiscipline.{walk_uses, join_all, walk, walk_all, walk_arms, walk_end, walk_thread, walk_threads, lock_fault}
use Rattle.lock_discipline.specs.Discipline.{WalkIsDiscipline}
use Rattle.lock_discipline.specs.NamedForms.{AreNamed, HasNumbers}
use Rattle.lock_discipline.specs.HeldSetsByStep.{assign_steps, HoldsFew}
use Rattle.lock_discipline.specs.links.Flow.{held_after, held_after_all, sets_in, sets_in_all, sets_in_arms, thread_sets}
use Rattle.lock_discipline.proofs.Sets.{none_held-found, none_held-where_none}
use Rattle.lock_discipline.proofs.FewHeld.{Few, AllFew, few_append, few_left, few_copies, few_at, few_each, few_none, few_given}
use Rattle.lock_discipline.proofs.Flows.{held_before, before_held}
use Rattle.lock_discipline.proofs.CheckerCorrectness.{after_both, after_then, none_after, none_is_after, taken_after, where_after, keep_all_length}
use Rattle.lock_discipline.proofs.CheckerCorrectness.{after_walk, after_walk_all, after_keep_all, keep_all_after, fault_or}

-- ---- Where the walk comes to its end, too many are held before no step

module _ (language : Language) (vs : List Variable) (names : List e.LockName) where
  mutual
    few_walk : (s : f.Statement) (h k : Held) → Few language h → length h ≡ length names → walk language vs names h s ≡ After k →
        AllFew language (sets_in names h s) × Few language k
    few_walk (f.Assign place target value) h k few long w =
        let is = (after_walk language vs names (f.Assign place target value) h k long w).1 in
        (few_copies language (assign_steps target) h few, subst (Few language) is few)
    few_walk (f.If place arms otherwise) h k few long w =
        let walked = few_walk_arms arms h [] (λ left. and_then (walk_all language vs names h otherwise)
        (λ after. join_all vs names place (left ++ after ∷ []))) k few long w in
        let rest = after_both (walk_all language vs names h otherwise) _ k walked.2 in
        let last = few_walk_all otherwise h rest.0 few long rest.1 in
        let end : rest.0 ≡ k = sym (after_walk_all language vs names otherwise h rest.0 long rest.1).1
        ∙ (after_walk language vs names (f.If place arms otherwise) h k long w).1 in
        (few_append language (sets_in_arms names h arms) (sets_in_all names h otherwise) walked.1 last.0, subst (Few language) end last.1)
    few_walk (f.While place condition body) h k few long w =
        let tested = after_both (walk_uses vs names h (expr_uses condition.expr)) _ k w in
        let rest = after_both (walk_all language vs names h body) _ k tested.2 in
        let is = (after_walk language vs names (f.While place condition body) h k long w).1 in
        ((few, (few_walk_all body h rest.0 few long rest.1).0), subst (Few language) is few)
    few_walk (f.Do place body condition) h k few long w =
        let rest = after_both (walk_all language vs names h body) _ k w in
        let inner = few_walk_all body h rest.0 few long rest.1 in
        let last : Few language (held_after_all names h body) =
        subst (Few language) (sym (after_walk_all language vs names body h rest.0 long rest.1).1) inner.1 in
        let is = (after_walk language vs names (f.Do place body condition) h k long w).1 in
        (few_append language (sets_in_all names h body) (held_after_all names h body ∷ []) inner.0 (last, tt), subst (Few language) is few)
    few_walk (f.Lock place name) h k few long w =
        let n = number_in names name in
        let both = taken_after (holds h n) _ (are_too_many language (set h n true)) _ (set h n true) k w in
        ((few, tt), subst (Few language) both.2 both.1)
    few_walk (f.Unlock place name) h k few long w =
        let n = number_in names name in
        let both = where_after (holds h n) _ (set h n false) k w in
        ((few, tt), subst (Few language) both.1 (few_given language h n few))

    few_walk_all : (ss : f.Statements) (h k : Held) → Few language h → length h ≡ length names → walk_all language vs names h ss ≡ After k →
        AllFew language (sets_in_all names h ss) × Few language k
    few_walk_all f.no_statement h k few long w = let is : h ≡ k = cc in (tt, subst (Few language) is few)
    few_walk_all (f.statement_and x rest) h k few long w =
        let both = after_both (walk language vs names h x) _ k w in
        let first = few_walk x h both.0 few long both.1 in
        let made = after_walk language vs names x h both.0 long both.1 in
        let more = few_walk_all rest both.0 k first.1 made.0 both.2 in
        let later : AllFew language (sets_in_all names (held_after names h x) rest) =
        subst (λ (b : Held). AllFew language (sets_in_all names b rest)) (sym made.1) more.0 in
        (few_append language (sets_in names h x) (sets_in_all names (held_after names h x) rest) first.0 later, more.1)

    few_walk_arms : (arms : f.Arms) (h : Held) (left : List Held) (later : List Held → Walked) (k : Held) → Few language h → length h ≡ length names →
        walk_arms language vs names h left arms later ≡ After k →
        (ends : List Held) × AllFew language (sets_in_arms names h arms) × (later (left ++ ends) ≡ After k)
    few_walk_arms f.no_arm h left later k few long w = ([], tt, ap later (append-nil left) ∙ w)
    few_walk_arms (f.arm_and condition body rest) h left later k few long w =
        let tested = after_both (walk_uses vs names h (expr_uses condition.expr)) _ k w in
        let both = after_both (walk_all language vs names h body) _ k tested.2 in
        let first = few_walk_all body h both.0 few long both.1 in
        let more = few_walk_arms rest h (left ++ both.0 ∷ []) later k few long both.2 in (
          both.0 ∷ more.0,
          (few, few_append language (sets_in_all names h body) (sets_in_arms names h rest) first.0 more.1),
          ap later (sym (append_assoc left (both.0 ∷ []) more.0)) ∙ more.2,
        )

-- ---- Threads

few_thread : (language : Language) (x : f.Flat) (t : f.Thread) (k : Held) → walk_thread language x.variables (lock_names x t) t ≡ After k →
    HoldsFew language x t
few_thread language x t k w n h before =
    let names = lock_names x t in
    let none = none_held (length names) in
    let both = after_both (walk_all language x.variables names none t.body) (walk_end x.variables names t.closing) k w in
    let long : length none ≡ length names = length-replicate (length names) false in
    let few = few_walk_all language x.variables names t.body none both.0 (few_none language (length names)) long both.1 in
    let end : Few language (held_after_all names none t.body) =
    subst (Few language) (sym (after_walk_all language x.variables names t.body none both.0 long both.1).1) few.1 in
    few_at language (thread_sets names t) n h
    (few_append language (sets_in_all names none t.body) (held_after_all names none t.body ∷ []) few.0 (end, tt)) (before_held x t before)

after_disciplined : (language : Language) (x : f.Flat) (t : f.Thread) (k : Held) → AreNamed (lock_names x t) (locks_in_all t.body) →
    walk_thread language x.variables (lock_names x t) t ≡ After k → IsDisciplined x t
after_disciplined language x t k w e =
    let names = lock_names x t in
    let n = length names in
    let both = after_both (walk_all language x.variables names (none_held n) t.body) (walk_end x.variables names t.closing) k e in
    let kept = after_keep_all language x.variables names t.body (none_held n) both.0 w (length-replicate n false) both.1 in
    let ended = none_after (find (λ m. holds both.0 m) (numbers_below n)) _ both.0 k both.2 in
    let is = none_held-where_none n both.0 (keep_all_length x.variables names kept ∙ length-replicate n false) ended.0 in
    subst (λ y. KeepAll x.variables names (none_held n) t.body y) is kept

disciplined_after : (language : Language) (x : f.Flat) (t : f.Thread) → IsDisciplined x t → HoldsFew language x t →
    walk_thread language x.variables (lock_names x t) t ≡ After (none_held (length (lock_names x t)))
disciplined_after language x t p few =
    let names = lock_names x t in
    let n = length names in
    let none = none_held n in
    let all = few_each language (thread_sets names t) (λ step h is. few step h (held_before x t p step h is)) in
    let in_body = few_left language (sets_in_all names none t.body) (held_after_all names none t.body ∷ []) all in
    after_then _ (walk_end x.variables names t.closing) none (keep_all_after language x.variables names p in_body (few_none language n))
    ∙ none_is_after (find (λ m. holds none m) (numbers_below n)) _ none (none_held-found n)

none_from : (w : Walked) (rest : Option Fault) → fault_or w rest ≡ None → ((k : Held) × (w ≡ After k)) × (rest ≡ None)
none_from (After k) rest e = ((k, refl), e)
none_from (Broken x) rest e = absurd (cc)

all_disciplined : (language : Language) (x : f.Flat) (ts : List f.Thread) → AllByRecursion (HasNumbers x) ts → walk_threads language x ts ≡ None →
    All (IsDisciplined x) ts × All (HoldsFew language x) ts
all_disciplined language x [] w e = (All-nil (IsDisciplined x), All-nil (HoldsFew language x))
all_disciplined language x (t ∷ ts) w e =
    let both = none_from (walk_thread language x.variables (lock_names x t) t) (walk_threads language x ts) e in
    let rest = all_disciplined language x ts w.1 both.1 in (
      All-cons (IsDisciplined x) t ts (after_disciplined language x t both.0.0 w.0 both.0.1) rest.0,
      All-cons (HoldsFew language x) t ts (few_thread language x t both.0.0 both.0.1) rest.1,
    )

no_fault : (language : Language) (x : f.Flat) (ts : List f.Thread) → All (IsDisciplined x) ts → All (HoldsFew language x) ts → walk_threads language x ts ≡ None
no_fault language x [] p few = refl
no_fault language x (t ∷ ts) p few =
    ap (λ w. fault_or w (walk_threads language x ts))
    (disciplined_after language x t (All-head (IsDisciplined x) t ts p) (All-head (HoldsFew language x) t ts few))
    ∙ no_fault language x ts (All-tail (IsDisciplined x) t ts p) (All-tail (HoldsFew language x) t ts few)

pub walk-is_discipline : WalkIsDiscipline
unfolding lock_fault
walk-is_discipline language x = (no_fault language x x.threads, λ w. all_disciplined language x x.threads w)
