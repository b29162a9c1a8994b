-- After the walk of a part the discipline is kept in it, and the walk comes to its end where that is so and nowhere too many are held.
use Rattle.std.proofs.Common.{◌≡◌, ◌<◌, Bool, true, false, not, cond, List, [], ◌∷◌, ◌++◌, length, set, find}
use Rattle.std.proofs.Common.{Option, Some, None, refl, sym, ap, ap₂, ◌∙◌, subst, append_assoc, append-nil, length-set, arith}
use Rattle.ido_base.specs.declared.place.Place.{Place}
use Rattle.c_tree.specs.declared.language.Language.{Language}
use Rattle.c_tree.specs.declared.rule.Rule.TheVariants as rule
use Rattle.std.specs.Prelude.{slice_get}
use Rattle.std.proofs.lemmas.Option.{slice_get-get_or, get_or_from_slice_get}
use Rattle.c_tree.specs.Exprs as e
use Rattle.c_tree.specs.Programs.{Variable}
use Rattle.lock_discipline.specs.NamedForms.{AreNamed}
use Rattle.lock_discipline.specs.links.Flow.{held_after, held_after_all, sets_in, sets_in_all, sets_in_arms}
use Rattle.c_tree.specs.Flats as f
use Rattle.c_tree.specs.LockNames.{Held, holds, locks_in, locks_in_all, locks_in_arms, number_in}
use Rattle.c_tree.specs.LockDiscipline.{Use, expr_uses, assign_uses, is_guarded, AreGuarded, Keeps}
use Rattle.c_tree.specs.LockDiscipline.{KeepAll, KeepArms, assign, choose, repeat, again, lock, unlock, no_more, then, no_more_arms, arm}
use Rattle.c_tree.specs.LockDiscipline.{Fault, Walked, After, Broken, and_then, least_difference}
use Rattle.c_tree.specs.LockDiscipline.{are_too_many, broken, walk_uses, walk_target, join, IsFree, freezing}
use Rattle.c_tree.specs.LockDiscipline.{join_all, walk, walk_all, walk_arms}
use Rattle.lock_discipline.proofs.Sets.{AllAre, AllLong, AllLong-append, AllAre-append, AllAre-left, AllAre-right}
use Rattle.lock_discipline.proofs.Sets.{no_difference, same_where_none}
use Rattle.lock_discipline.proofs.FewHeld.{Few, AllFew, few_left, few_right, few_first}
use Rattle.lock_discipline.proofs.Flows.{boundary_after_is, after_all_is}

-- ---- Answers of the walk

pub after_both : (w : Walked) (next : Held → Walked) (h : Held) → and_then w next ≡ After h → (k : Held) × (w ≡ After k) × (next k ≡ After h)
after_both (After k) next h e = (k, refl, e)
after_both (Broken x) next h e = absurd (cc)

pub after_then : (w : Walked) (next : Held → Walked) (k : Held) → w ≡ After k → and_then w next ≡ next k
after_then w next k e = ap (λ y. and_then y next) e

-- what a test of sets or uses leaves
abbrev pub none_or : {A : Type 0} → Option A → (A → Fault) → Held → Walked
none_or o fault h = elim o [
  | Some x ↦ Broken (fault x)
  | None ↦ After h
]

pub none_after : {A : Type 0} (o : Option A) (fault : A → Fault) (h k : Held) → none_or o fault h ≡ After k → (o ≡ None) × (h ≡ k)
none_after None fault h k e = (refl, cc)
none_after (Some x) fault h k e = absurd (cc)

pub none_is_after : {A : Type 0} (o : Option A) (fault : A → Fault) (h : Held) → o ≡ None → none_or o fault h ≡ After h
none_is_after o fault h e = ap (λ y. none_or y fault h) e

-- neither is so
pub taken_after : (b : Bool) (x : Fault) (c : Bool) (y : Fault) (h k : Held) → cond b (Broken x) (cond c (Broken y) (After h)) ≡ After k →
    (b ≡ false) × (c ≡ false) × (h ≡ k)
taken_after true x c y h k e = absurd (cc)
taken_after false x true y h k e = absurd (cc)
taken_after false x false y h k e = (refl, refl, cc)

pub where_after : (b : Bool) (x : Fault) (h k : Held) → cond b (After h) (Broken x) ≡ After k → (b ≡ true) × (h ≡ k)
where_after true x h k e = (refl, cc)
where_after false x h k e = absurd (cc)

named_left : (names xs ys : List e.LockName) → AreNamed names (xs ++ ys) → AreNamed names xs
named_left names [] ys w = tt
named_left names (x ∷ xs) ys w = (w.0, named_left names xs ys w.1)

named_right : (names xs ys : List e.LockName) → AreNamed names (xs ++ ys) → AreNamed names ys
named_right names [] ys w = w
named_right names (x ∷ xs) ys w = named_right names xs ys w.1

module _ (vs : List Variable) (names : List e.LockName) where
  -- ---- The sets speak of as many names all the way

  mutual
    pub keeps_length : {h after : Held} {s : f.Statement} → Keeps vs names h s after → length after ≡ length h
    keeps_length (assign place target value g free) = refl
    keeps_length (choose place arms otherwise p q) = keep_all_length q
    keeps_length (repeat place condition body g p) = refl
    keeps_length (again place body condition p g) = refl
    keeps_length (lock {h = h} place name free) = length-set h (number_in names name) true
    keeps_length (unlock {h = h} place name held) = length-set h (number_in names name) false

    pub keep_all_length : {h after : Held} {ss : f.Statements} → KeepAll vs names h ss after → length after ≡ length h
    keep_all_length no_more = refl
    keep_all_length (then x rest p q) = keep_all_length q ∙ keeps_length p

  -- ---- After a walk the discipline is kept

  pub after_guarded : (h k : Held) (us : List Use) → walk_uses vs names h us ≡ After k → AreGuarded vs names h us × (h ≡ k)
  after_guarded h k us e = none_after (find (λ u. not (is_guarded vs names h u)) us) _ h k e

  after_target : (target : e.Lvalue) (h k : Held) → walk_target vs names h target ≡ After k → IsFree names h target × (h ≡ k)
  after_target (e.ToLocal place local kind) h k w = none_after (freezing names h local) _ h k w
  after_target (e.ToVariable place variable kind) h k w = (tt, cc)
  after_target (e.ToElement place variable kind index) h k w = (tt, cc)

  pub after_join : (place : Place) (h k : Held) (hs : List Held) → length h ≡ length names → AllLong (length names) hs → join vs names place h hs ≡ After k →
      (h ≡ k) × AllAre h hs
  after_join place h k hs l ls e =
      let both = none_after (least_difference (length names) (h ∷ hs)) _ h k e in
      (both.1, same_where_none (length names) h hs l ls both.0)

  pub after_join_all : (place : Place) (after k : Held) (hs : List Held) → length after ≡ length names → AllLong (length names) hs →
      join_all vs names place (hs ++ after ∷ []) ≡ After k → (after ≡ k) × AllAre after hs
  after_join_all place after k [] l ls e = ((after_join place after k [] l tt e).0, tt)
  after_join_all place after k (h ∷ hs) l ls e =
      let both = after_join place h k (hs ++ after ∷ []) ls.0 (AllLong-append (length names) hs (after ∷ []) ls.1 (l, tt)) e in
      let is : after ≡ h = (AllAre-right h hs (after ∷ []) both.1).0 in
      (is ∙ both.0, (sym is, subst (λ x. AllAre x hs) (sym is) (AllAre-left h hs (after ∷ []) both.1)))

module _ (language : Language) (vs : List Variable) (names : List e.LockName) where
  -- ---- After a walk there is the set that the flow computes

  mutual
    pub after_walk : (s : f.Statement) (h k : Held) → length h ≡ length names → walk language vs names h s ≡ After k →
        (length k ≡ length names) × (held_after names h s ≡ k)
    after_walk (f.Assign place target value) h k l w =
        let first = after_both (walk_uses vs names h (assign_uses target value)) (λ _. walk_target vs names h target) k w in
        let is = (after_target vs names target h k first.2).1 in
        (ap length (sym is) ∙ l, is)
    after_walk (f.If place arms otherwise) h k l w =
        let walked = after_walk_arms arms h [] (λ left. and_then (walk_all language vs names h otherwise)
        (λ after. join_all vs names place (left ++ after ∷ []))) k l w in
        let rest = after_both (walk_all language vs names h otherwise) _ k walked.1 in
        let made = after_walk_all otherwise h rest.0 l rest.1 in
        let joined = after_join_all vs names place rest.0 k walked.0 made.0 walked.2 rest.2 in
        (ap length (sym joined.0) ∙ made.0, made.1 ∙ joined.0)
    after_walk (f.While place condition body) h k l w =
        let tested = after_both (walk_uses vs names h (expr_uses condition.expr)) _ k w in
        let rest = after_both (walk_all language vs names h body) _ k tested.2 in
        let made = after_walk_all body h rest.0 l rest.1 in
        let joined = after_join vs names place h k (rest.0 ∷ []) l (made.0, tt) rest.2 in
        (ap length (sym joined.0) ∙ l, joined.0)
    after_walk (f.Do place body condition) h k l w =
        let rest = after_both (walk_all language vs names h body) _ k w in
        let made = after_walk_all body h rest.0 l rest.1 in
        let tested = after_both (walk_uses vs names rest.0 (expr_uses condition.expr)) _ k rest.2 in
        let joined = after_join vs names place h k (rest.0 ∷ []) l (made.0, tt) tested.2 in
        (ap length (sym joined.0) ∙ l, joined.0)
    after_walk (f.Lock place name) h k l w =
        let n = number_in names name in
        let both = taken_after (holds h n) _ (are_too_many language (set h n true)) _ (set h n true) k w in
        (ap length (sym both.2) ∙ (length-set h n true ∙ l), both.2)
    after_walk (f.Unlock place name) h k l w =
        let n = number_in names name in
        let both = where_after (holds h n) _ (set h n false) k w in
        (ap length (sym both.1) ∙ (length-set h n false ∙ l), both.1)

    pub after_walk_all : (ss : f.Statements) (h k : Held) → length h ≡ length names → walk_all language vs names h ss ≡ After k →
        (length k ≡ length names) × (held_after_all names h ss ≡ k)
    after_walk_all f.no_statement h k l w = let is : h ≡ k = cc in (ap length (sym is) ∙ l, is)
    after_walk_all (f.statement_and y rest) h k l w =
        let both = after_both (walk language vs names h y) _ k w in
        let first = after_walk y h both.0 l both.1 in
        let more = after_walk_all rest both.0 k first.0 both.2 in
        (more.0, ap (λ (z : Held). held_after_all names z rest) first.1 ∙ more.1)

    pub after_walk_arms : (arms : f.Arms) (h : Held) (left : List Held) (later : List Held → Walked) (k : Held) → length h ≡ length names →
        walk_arms language vs names h left arms later ≡ After k → (ends : List Held) × (later (left ++ ends) ≡ After k) × AllLong (length names) ends
    after_walk_arms f.no_arm h left later k l w = ([], ap later (append-nil left) ∙ w, tt)
    after_walk_arms (f.arm_and condition body rest) h left later k l w =
        let tested = after_both (walk_uses vs names h (expr_uses condition.expr)) _ k w in
        let both = after_both (walk_all language vs names h body) _ k tested.2 in
        let made = after_walk_all body h both.0 l both.1 in
        let more = after_walk_arms rest h (left ++ both.0 ∷ []) later k l both.2 in
        (both.0 ∷ more.0, ap later (sym (append_assoc left (both.0 ∷ []) more.0)) ∙ more.1, (made.0, more.2))

  -- ---- Where each lock that is taken has a number, the discipline is kept

  mutual
    pub after_keeps : (s : f.Statement) (h k : Held) → AreNamed names (locks_in s) → length h ≡ length names → walk language vs names h s ≡ After k →
        Keeps vs names h s k
    after_keeps (f.Assign place target value) h k w l e =
        let first = after_both (walk_uses vs names h (assign_uses target value)) (λ _. walk_target vs names h target) k e in
        let guarded = after_guarded vs names h first.0 (assign_uses target value) first.1 in
        let free = after_target vs names target h k first.2 in
        subst (λ y. Keeps vs names h (f.Assign place target value) y) free.1 (assign place target value guarded.0 free.0)
    after_keeps (f.If place arms otherwise) h k w l e =
        let walked = after_keep_arms arms h [] (λ left. and_then (walk_all language vs names h otherwise)
        (λ after. join_all vs names place (left ++ after ∷ []))) k (named_left names (locks_in_arms arms) (locks_in_all otherwise) w) l e in
        let rest = after_both (walk_all language vs names h otherwise) _ k walked.1 in
        let kept = after_keep_all otherwise h rest.0 (named_right names (locks_in_arms arms) (locks_in_all otherwise) w) l rest.1 in
        let joined = after_join_all vs names place rest.0 k walked.0 (keep_all_length vs names kept ∙ l) walked.2 rest.2 in
        subst (λ y. Keeps vs names h (f.If place arms otherwise) y) joined.0 (choose place arms otherwise (walked.3 rest.0 joined.1) kept)
    after_keeps (f.While place condition body) h k w l e =
        let tested = after_both (walk_uses vs names h (expr_uses condition.expr)) _ k e in
        let guarded = after_guarded vs names h tested.0 (expr_uses condition.expr) tested.1 in
        let rest = after_both (walk_all language vs names h body) _ k tested.2 in
        let kept = after_keep_all body h rest.0 w l rest.1 in
        let joined = after_join vs names place h k (rest.0 ∷ []) l (keep_all_length vs names kept ∙ l, tt) rest.2 in
        subst (λ y. Keeps vs names h (f.While place condition body) y) joined.0
        (repeat place condition body guarded.0 (subst (λ y. KeepAll vs names h body y) joined.1.0 kept))
    after_keeps (f.Do place body condition) h k w l e =
        let rest = after_both (walk_all language vs names h body) _ k e in
        let kept = after_keep_all body h rest.0 w l rest.1 in
        let tested = after_both (walk_uses vs names rest.0 (expr_uses condition.expr)) _ k rest.2 in
        let guarded = after_guarded vs names rest.0 tested.0 (expr_uses condition.expr) tested.1 in
        let joined = after_join vs names place h k (rest.0 ∷ []) l (keep_all_length vs names kept ∙ l, tt) tested.2 in
        subst (λ y. Keeps vs names h (f.Do place body condition) y) joined.0
        (again place body condition (subst (λ y. KeepAll vs names h body y) joined.1.0 kept)
        (subst (λ y. AreGuarded vs names y (expr_uses condition.expr)) joined.1.0 guarded.0))
    after_keeps (f.Lock place name) h k w l e =
        let taken = set h (number_in names name) true in
        let both = taken_after (holds h (number_in names name)) _ (are_too_many language taken) _ taken k e in
        let low : number_in names name < length h = omega (arith, w.0, l) in
        let free : slice_get h (number_in names name) ≡ Some false = slice_get-get_or h (number_in names name) false low ∙ ap Some both.0 in
        subst (λ y. Keeps vs names h (f.Lock place name) y) both.2 (lock place name free)
    after_keeps (f.Unlock place name) h k w l e =
        let both = where_after (holds h (number_in names name)) _ (set h (number_in names name) false) k e in
        subst (λ y. Keeps vs names h (f.Unlock place name) y) both.1 (unlock place name both.0)

    pub after_keep_all : (ss : f.Statements) (h k : Held) → AreNamed names (locks_in_all ss) → length h ≡ length names →
        walk_all language vs names h ss ≡ After k →
        KeepAll vs names h ss k
    after_keep_all f.no_statement h k w l e = subst (λ y. KeepAll vs names h f.no_statement y) (cc) no_more
    after_keep_all (f.statement_and y rest) h k w l e =
        let both = after_both (walk language vs names h y) _ k e in
        let kept = after_keeps y h both.0 (named_left names (locks_in y) (locks_in_all rest) w) l both.1 in
        let more = named_right names (locks_in y) (locks_in_all rest) w in
        then y rest kept (after_keep_all rest both.0 k more (keeps_length vs names kept ∙ l) both.2)

    after_keep_arms : (arms : f.Arms) (h : Held) (left : List Held) (later : List Held → Walked) (k : Held) → AreNamed names (locks_in_arms arms) →
        length h ≡ length names →
        walk_arms language vs names h left arms later ≡ After k →
        (ends : List Held) × (later (left ++ ends) ≡ After k) × AllLong (length names) ends
        × ((after : Held) → AllAre after ends → KeepArms vs names h arms after)
    after_keep_arms f.no_arm h left later k w l e = ([], ap later (append-nil left) ∙ e, tt, λ after p. no_more_arms)
    after_keep_arms (f.arm_and condition body rest) h left later k w l e =
        let tested = after_both (walk_uses vs names h (expr_uses condition.expr)) _ k e in
        let guarded = after_guarded vs names h tested.0 (expr_uses condition.expr) tested.1 in
        let both = after_both (walk_all language vs names h body) _ k tested.2 in
        let kept = after_keep_all body h both.0 (named_left names (locks_in_all body) (locks_in_arms rest) w) l both.1 in
        let more = after_keep_arms rest h (left ++ both.0 ∷ []) later k (named_right names (locks_in_all body) (locks_in_arms rest) w) l both.2 in (
          both.0 ∷ more.0,
          ap later (sym (append_assoc left (both.0 ∷ []) more.0)) ∙ more.1,
          (keep_all_length vs names kept ∙ l, more.2),
          λ after p.
              arm condition body rest guarded.0 (subst (λ y. KeepAll vs names h body y) p.0 kept) (more.3 after p.1),
        )

  -- ---- Where the discipline is kept, the walk comes to its end

  guarded_after : (h : Held) (us : List Use) → AreGuarded vs names h us → walk_uses vs names h us ≡ After h
  guarded_after h us g = none_is_after (find (λ u. not (is_guarded vs names h u)) us) _ h g

  target_after : (target : e.Lvalue) (h : Held) → IsFree names h target → walk_target vs names h target ≡ After h
  target_after (e.ToLocal place local kind) h free = none_is_after (freezing names h local) _ h free
  target_after (e.ToVariable place variable kind) h free = refl
  target_after (e.ToElement place variable kind index) h free = refl

  pub same_after : (place : Place) (h : Held) (hs : List Held) → AllAre h hs → join vs names place h hs ≡ After h
  same_after place h hs p = none_is_after (least_difference (length names) (h ∷ hs)) _ h (no_difference (length names) h hs p)

  pub same_after_all : (place : Place) (after : Held) (hs : List Held) → AllAre after hs → join_all vs names place (hs ++ after ∷ []) ≡ After after
  same_after_all place after [] p = same_after place after [] tt
  same_after_all place after (h ∷ hs) p =
      same_after place h (hs ++ after ∷ []) (AllAre-append h hs (after ∷ []) (subst (λ x. AllAre x hs) (sym p.0) p.1) (sym p.0, tt)) ∙ ap After p.0

  mutual
    keeps_after : {h after : Held} {s : f.Statement} → Keeps vs names h s after → AllFew language (sets_in names h s) → Few language after →
        walk language vs names h s ≡ After after
    keeps_after (assign {h = h} place target value g free) fs few =
        after_then _ (λ _. walk_target vs names h target) h (guarded_after h (assign_uses target value) g) ∙ target_after target h free
    keeps_after (choose {h = h} {after = after} place arms otherwise p q) fs few =
        let first = few_left language (sets_in_arms names h arms) (sets_in_all names h otherwise) fs in
        let last = few_right language (sets_in_arms names h arms) (sets_in_all names h otherwise) fs in
        let walked = keep_arms_after p [] (λ left.
        and_then (walk_all language vs names h otherwise) (λ after. join_all vs names place (left ++ after ∷ []))) first few in
        walked.2 ∙ after_then _ (λ after. join_all vs names place (walked.0 ++ after ∷ [])) after (keep_all_after q last few)
        ∙ same_after_all place after walked.0 walked.1
    keeps_after (repeat {h = h} place condition body g p) fs few =
        after_then _ _ h (guarded_after h (expr_uses condition.expr) g)
        ∙ after_then _ (λ after. join vs names place h (after ∷ [])) h (keep_all_after p fs.1 few) ∙ same_after place h (h ∷ []) (refl, tt)
    keeps_after (again {h = h} place body condition p g) fs few =
        after_then _ _ h (keep_all_after p (few_left language (sets_in_all names h body) (held_after_all names h body ∷ []) fs) few)
        ∙ after_then _ (λ _. join vs names place h (h ∷ [])) h (guarded_after h (expr_uses condition.expr) g)
        ∙ same_after place h (h ∷ []) (refl, tt)
    keeps_after (lock {h = h} place name free) fs few =
        let taken = set h (number_in names name) true in
        ap₂ (λ b c. cond b (broken vs names rule.Again place name) (cond c (broken vs names rule.Held place name) (After taken)))
        (get_or_from_slice_get h (number_in names name) false false free) few
    keeps_after (unlock {h = h} place name held) fs few =
        ap (λ b. cond b (After (set h (number_in names name) false)) (broken vs names rule.NotHeld place name)) held

    pub keep_all_after : {h after : Held} {ss : f.Statements} → KeepAll vs names h ss after → AllFew language (sets_in_all names h ss) → Few language after →
        walk_all language vs names h ss ≡ After after
    keep_all_after no_more fs few = refl
    keep_all_after (then {h = h} {between = between} {after = after} x rest p q) fs few =
        let first = few_left language (sets_in names h x) (sets_in_all names (held_after names h x) rest) fs in
        let later : AllFew language (sets_in_all names between rest) =
        subst (λ (b : Held). AllFew language (sets_in_all names b rest)) (boundary_after_is vs names p)
        (few_right language (sets_in names h x) (sets_in_all names (held_after names h x) rest) fs) in
        let middle : Few language between = few_first language names rest between later (subst (Few language) (sym (after_all_is vs names q)) few) in
        after_then _ (λ after. walk_all language vs names after rest) between (keeps_after p first middle) ∙ keep_all_after q later few

    keep_arms_after : {h after : Held} {arms : f.Arms} → KeepArms vs names h arms after → (left : List Held) (later : List Held → Walked) →
        AllFew language (sets_in_arms names h arms) → Few language after →
        (ends : List Held) × AllAre after ends × (walk_arms language vs names h left arms later ≡ later (left ++ ends))
    keep_arms_after no_more_arms left later fs few = ([], tt, ap later (sym (append-nil left)))
    keep_arms_after (arm {h = h} {after = after} condition body rest g p q) left later fs few =
        let first = few_left language (sets_in_all names h body) (sets_in_arms names h rest) fs.1 in
        let more = keep_arms_after q (left ++ after ∷ []) later (few_right language (sets_in_all names h body) (sets_in_arms names h rest) fs.1) few in (
          after ∷ more.0,
          (refl, more.1),
          after_then _ (λ _. and_then (walk_all language vs names h body) (λ after. walk_arms language vs names h (left ++ after ∷ []) rest later)) h
              (guarded_after h (expr_uses condition.expr) g)
              ∙ after_then _ (λ after. walk_arms language vs names h (left ++ after ∷ []) rest later) after (keep_all_after p first few)
              ∙ more.2 ∙ ap later (append_assoc left (after ∷ []) more.0),
        )

-- ---- Threads

-- the fault of a thread, else that of those after it
abbrev pub fault_or : Walked → Option Fault → Option Fault
fault_or w rest = elim w [
  | Broken x ↦ Some x
  | After h ↦ rest
]
