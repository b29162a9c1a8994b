-- Names of locks as they are found one after another, and a name's number among them.
use Rattle.std.proofs.Common.{◌≡◌, ◌<◌, ◌≤◌, ℕ, suc, ◌+◌, List, [], ◌∷◌, ◌++◌, map, reverse, drop, get_or, length}
use Rattle.std.proofs.Common.{Bool, true, false, cond, ◌||◌, Option, None, Some, Result, Ok, Err, IfOk}
use Rattle.std.proofs.Common.{refl, sym, ap, ◌∙◌, subst, append_assoc, append-nil, arith}
use Rattle.std.specs.List.{list_any}
use Rattle.std.proofs.lemmas.List.{reverse-append, drop_more, drop_all}
use Rattle.std.proofs.lemmas.List.Folds.{list_any-append}
use Rattle.c_tree.specs.Programs.{mutex_of, Mutex as Entry}
use Rattle.c_tree.specs.Flats.{statement_of, statements_of, arms_list_of}
use Rattle.c_tree.specs.declared.flat.Statement.{Statement}
use Rattle.c_tree.specs.declared.flat.Arm.{Arm}
use Rattle.c_tree.specs.declared.program.Mutex.{Mutex}
use Rattle.c_tree.specs.Exprs.{LockName, lock_ref_of}
use Rattle.c_tree.specs.declared.expr.LockRef.{LockRef}
use Rattle.c_tree.specs.LockNames.{same_lock, once, names_from, number_in, locks_in, locks_in_all, locks_in_arms}
use Rattle.c_tree.specs.links.KnownNames.{names_of, known_then, names_at}

swap_or : (a b : Bool) → (a || (b || false)) ≡ (b || a)
swap_or true true = refl
swap_or true false = refl
swap_or false true = refl
swap_or false false = refl

any_reversed : (p : LockName → Bool) (xs : List LockName) → list_any p (reverse xs) ≡ list_any p xs
any_reversed p [] = refl
any_reversed p (x ∷ xs) =
    ap (list_any p) (reverse-append (x ∷ []) xs)
    ∙ (list_any-append p (reverse xs) (x ∷ []) ∙ (swap_or (list_any p (reverse xs)) (p x) ∙ ap (λ (b : Bool). p x || b) (any_reversed p xs)))

-- a name that is known adds nothing
pub known_old : (known : List LockName) (x : LockName) (rest : List LockName) → list_any (same_lock x) known ≡ true →
    known_then known rest ≡ known_then known (x ∷ rest)
known_old known x rest h =
    sym (ap (λ (b : Bool). known ++ cond b (once (reverse known) rest) (x ∷ once (x ∷ reverse known) rest)) (any_reversed (same_lock x) known ∙ h))

-- one that is new stands after those that are known
pub known_new : (known : List LockName) (x : LockName) (rest : List LockName) → list_any (same_lock x) known ≡ false →
    known_then (known ++ x ∷ []) rest ≡ known_then known (x ∷ rest)
known_new known x rest h =
    ap (λ (r : List LockName). (known ++ x ∷ []) ++ once r rest) (reverse-append known (x ∷ []))
    ∙ (append_assoc known (x ∷ []) (once (x ∷ reverse known) rest)
    ∙ sym (ap (λ (b : Bool). known ++ cond b (once (reverse known) rest) (x ∷ once (x ∷ reverse known) rest)) (any_reversed (same_lock x) known ∙ h)))

-- after one list of names another
pub known_both : (old between new : List LockName) (xs ys : List LockName) →
    ((rest : List LockName) → known_then between rest ≡ known_then old (xs ++ rest)) →
    ((rest : List LockName) → known_then new rest ≡ known_then between (ys ++ rest)) →
    (rest : List LockName) → known_then new rest ≡ known_then old ((xs ++ ys) ++ rest)
known_both old between new xs ys p q rest = q rest ∙ (p (ys ++ rest) ∙ ap (known_then old) (sym (append_assoc xs ys rest)))

-- ---- Calls that add names, where they come to their end

-- the names become those that were known and those of the list
abbrev pub Adds : {A E : Type 0} → Result A E → (old new : List LockRef) → List LockName → Type 0
Adds r old new xs = IfOk r (λ _. (rest : List LockName) → known_then (names_of new) rest ≡ known_then (names_of old) (xs ++ rest))

pub adds_same : {A E : Type 0} (r : Result A E) (old new : List LockRef) (xs ys : List LockName) → xs ≡ ys → Adds r old new xs → Adds r old new ys
adds_same r old new xs ys e h = subst (λ (zs : List LockName). Adds r old new zs) e h

pub adds_both : {A E : Type 0} (r : Result A E) (old between new : List LockRef) (xs ys zs : List LockName) → xs ++ ys ≡ zs →
    ((rest : List LockName) → known_then (names_of between) rest ≡ known_then (names_of old) (xs ++ rest)) → Adds r between new ys → Adds r old new zs
adds_both (Ok a) old between new xs ys zs e p q = λ rest.
    known_both (names_of old) (names_of between) (names_of new) xs ys p q rest ∙ ap (λ (us : List LockName). known_then (names_of old) (us ++ rest)) e
adds_both (Err x) old between new xs ys zs e p q = tt

-- what is left of a list, and what all of it adds
abbrev pub IsLeft : (first now : List LockRef) → (all left : List LockName) → Type 0
IsLeft first now all left = (rest : List LockName) → known_then (names_of now) (left ++ rest) ≡ known_then (names_of first) (all ++ rest)

pub one_added : (first now new : List LockRef) (all left xs more : List LockName) → left ≡ xs ++ more →
    ((rest : List LockName) → known_then (names_of new) rest ≡ known_then (names_of now) (xs ++ rest)) → IsLeft first now all left → IsLeft first new all more
one_added first now new all left xs more e p q = λ rest.
    p (more ++ rest) ∙ (ap (known_then (names_of now)) (sym (append_assoc xs more rest))
    ∙ (ap (λ (us : List LockName). known_then (names_of now) (us ++ rest)) (sym e) ∙ q rest))

pub none_left : (first now : List LockRef) (all left : List LockName) → left ≡ [] → IsLeft first now all left →
    (rest : List LockName) → known_then (names_of now) rest ≡ known_then (names_of first) (all ++ rest)
none_left first now all left e q = λ rest. ap (λ (us : List LockName). known_then (names_of now) (us ++ rest)) (sym e) ∙ q rest

pub next_locks : (xs : List Statement) (i : ℕ) (x : Statement) → i < length xs → x ≡ get_or xs i x →
    locks_in_all (statements_of (drop i xs)) ≡ locks_in (statement_of x) ++ locks_in_all (statements_of (drop (i + 1) xs))
next_locks xs i x low is =
    ap (λ (ys : List Statement). locks_in_all (statements_of ys)) (drop_more xs i x low)
    ∙ ap (λ (y : Statement). locks_in (statement_of y) ++ locks_in_all (statements_of (drop (i + 1) xs))) (sym is)

pub next_arm_locks : (xs : List Arm) (i : ℕ) (x : Arm) (body : List Statement) → i < length xs → x ≡ get_or xs i x → body ≡ x.body.items →
    locks_in_arms (arms_list_of (drop i xs)) ≡ locks_in_all (statements_of body) ++ locks_in_arms (arms_list_of (drop (i + 1) xs))
next_arm_locks xs i x body low is same =
    ap (λ (ys : List Arm). locks_in_arms (arms_list_of ys)) (drop_more xs i x low)
    ∙ (ap (λ (y : Arm). locks_in_all (statements_of y.body.items) ++ locks_in_arms (arms_list_of (drop (i + 1) xs))) (sym is)
    ∙ ap (λ (ys : List Statement). locks_in_all (statements_of ys) ++ locks_in_arms (arms_list_of (drop (i + 1) xs))) (sym same))

-- all the names of a list that begins with none known, each once
pub once_all : (first known : List LockRef) (xs : List LockName) → first ≡ [] →
    ((rest : List LockName) → known_then (names_of known) rest ≡ known_then (names_of first) (xs ++ rest)) → names_of known ≡ once [] xs
once_all first known xs e p =
    sym (append-nil (names_of known))
    ∙ (p [] ∙ (ap (λ (ys : List LockRef). known_then (names_of ys) (xs ++ [])) e ∙ ap (once []) (append-nil xs)))

-- ---- The names of mutexes from a number on

first_names : (n : ℕ) (m : Entry) (ms : List Entry) (xs : List LockName) (o : Option ℕ) → m.length ≡ o →
    names_from n (m ∷ ms) xs ≡ names_at n o xs ++ names_from (suc n) ms xs
first_names n m ms xs None e = rw e refl
first_names n m ms xs (Some k) e = rw e refl

-- after the names of the mutex of that number those of the next ones
pub names_step : (now new : List LockName) (ms : List Mutex) (i : ℕ) (m : Mutex) (o : Option ℕ) (xs all : List LockName) → i < length ms → m ≡ get_or ms i m →
    m.length ≡ o → new ≡ now ++ names_at i o xs → now ++ names_from i (map mutex_of (drop i ms)) xs ≡ all →
    new ++ names_from (i + 1) (map mutex_of (drop (i + 1) ms)) xs ≡ all
names_step now new ms i m o xs all low is e p q =
    let later = names_from (i + 1) (map mutex_of (drop (i + 1) ms)) xs in
    let next : suc i ≡ i + 1 = omega arith in
    let first : names_from i (map mutex_of (drop i ms)) xs ≡ names_at i o xs ++ later =
    ap (λ (ys : List Mutex). names_from i (map mutex_of ys) xs) (drop_more ms i m low)
    ∙ (ap (λ (y : Mutex). names_from i (mutex_of y ∷ map mutex_of (drop (i + 1) ms)) xs) (sym is)
    ∙ (first_names i (mutex_of m) (map mutex_of (drop (i + 1) ms)) xs o e
    ∙ ap (λ (n : ℕ). names_at i o xs ++ names_from n (map mutex_of (drop (i + 1) ms)) xs) next)) in
    ap (λ (ys : List LockName). ys ++ later) p
    ∙ (append_assoc now (names_at i o xs) later ∙ (ap (λ (ys : List LockName). now ++ ys) (sym first) ∙ q))

-- no mutex is left
pub names_end : (now : List LockName) (ms : List Mutex) (i : ℕ) (xs all : List LockName) → length ms ≤ i →
    now ++ names_from i (map mutex_of (drop i ms)) xs ≡ all → now ≡ all
names_end now ms i xs all low q =
    sym (append-nil now) ∙ (ap (λ (ys : List Mutex). now ++ names_from i (map mutex_of ys) xs) (sym (drop_all i ms low)) ∙ q)

-- ---- The number of a name

module _ (names : List LockRef) (x : LockName) (i : ℕ) (y : LockRef) (low : i < length names) (is : y ≡ get_or names i y) where
  at_number : (same : Bool) → same_lock x (lock_ref_of y) ≡ same →
      number_in (names_of (drop i names)) x ≡ cond same 0 (suc (number_in (names_of (drop (i + 1) names)) x))
  at_number same e =
      ap (λ (ys : List LockRef). number_in (names_of ys) x) (drop_more names i y low)
      ∙ (ap (λ (z : LockRef). number_in (lock_ref_of z ∷ names_of (drop (i + 1) names)) x) (sym is)
      ∙ ap (λ (b : Bool). cond b 0 (suc (number_in (names_of (drop (i + 1) names)) x))) e)

  pub number_more : same_lock x (lock_ref_of y) ≡ false → number_in (names_of names) x ≡ i + number_in (names_of (drop i names)) x →
      number_in (names_of names) x ≡ (i + 1) + number_in (names_of (drop (i + 1) names)) x
  number_more other h = omega (arith, h, at_number false other)

  pub number_here : same_lock x (lock_ref_of y) ≡ true → number_in (names_of names) x ≡ i + number_in (names_of (drop i names)) x →
      i ≡ number_in (names_of names) x
  number_here same h = omega (arith, h, at_number true same)

  -- whether a name is there, by what is there from a number on
  pub any_more : (p : LockName → Bool) (b : Bool) → p (lock_ref_of y) ≡ b →
      list_any p (names_of (drop i names)) ≡ (b || list_any p (names_of (drop (i + 1) names)))
  any_more p b e =
      ap (λ (ys : List LockRef). list_any p (names_of ys)) (drop_more names i y low)
      ∙ (ap (λ (z : LockRef). p (lock_ref_of z) || list_any p (names_of (drop (i + 1) names))) (sym is)
      ∙ ap (λ (c : Bool). c || list_any p (names_of (drop (i + 1) names))) e)
