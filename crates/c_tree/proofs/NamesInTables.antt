-- Each name that a thread of a well formed flat form locks is in the thread's table.
use Rattle.std.proofs.Common.{◌≡◌, ◌<◌, ◌==◌, ◌||◌, ◌&&◌, ℕ, zero, suc, ◌+◌, List, [], ◌∷◌, ◌++◌, length, slice_get, filter, Option, Some, None}
use Rattle.std.proofs.Common.{Bool, true, false, is_some, if◌then◌else◌, refl, sym, ap, ◌∙◌, arith}
use Rattle.std.specs.List.{AllByRecursion, list_any}
use Rattle.std.proofs.lemmas.Bool.{and_from, and_parts, eq-eqb, eqb-true, or_left, or_right, true≢false}
use Rattle.std.proofs.lemmas.Bool.Decides.{Decides-int_eq}
use Rattle.std.proofs.lemmas.List.Folds.{list_any-append}
use Rattle.std.proofs.lemmas.Option.{none-some, same_Some}
use Rattle.ido_ints.specs.declared.kinds.Kind.{Kind}
use Rattle.ido_ints.specs.TypedNumbers.{Typed}
use Rattle.c_tree.specs.Exprs as e
use Rattle.c_tree.specs.Programs.{Mutex}
use Rattle.c_tree.specs.LockNames.{kind_number, unary_number, binary_number, same_kind, same_typed, same_expr, same_key, same_lock}
use Rattle.c_tree.specs.LockNames.{names_from, number_in, once}
use Rattle.c_tree.specs.WellFormed.{IsExpr, IsSingleAt, IsFlatLockName}

-- ---- A name is spelled as itself

itself : (n : ℕ) → (n == n) ≡ true
itself n = eq-eqb n n refl

typed_itself : (x : Typed) → same_typed x x ≡ true
typed_itself x =
    and_from (same_kind x.kind x.kind) _ (itself (kind_number x.kind)) ((Decides-int_eq x.number x.number).1 refl)

-- an expression over locals alone is the same as itself
key_itself : (ks : List Kind) (x : e.Expr) → IsExpr [] ks x → same_expr x x ≡ true
key_itself ks (e.Constant x) h = typed_itself x
key_itself ks (e.Local local k) h = and_from (local == local) (same_kind k k) (itself local) (itself (kind_number k))
key_itself ks (e.Variable place variable k) h = absurd (none-some h.it h.found)
key_itself ks (e.Element place variable k index_place index) h = absurd (none-some h.0.it h.0.found)
key_itself ks (e.Address variable index_place x) h = absurd (none-some h.0.it h.0.found)
key_itself ks (e.Referent place last local) h = and_from (last == last) (local == local) (itself last) (itself local)
key_itself ks (e.Unary operator x) h =
    and_from (unary_number operator == unary_number operator) (same_expr x x) (itself (unary_number operator)) (key_itself ks x h)
key_itself ks (e.Cast k x) h = and_from (same_kind k k) (same_expr x x) (itself (kind_number k)) (key_itself ks x h)
key_itself ks (e.Converted k x) h = and_from (same_kind k k) (same_expr x x) (itself (kind_number k)) (key_itself ks x h)
key_itself ks (e.Binary operator x y) h =
    and_from (binary_number operator == binary_number operator) (same_expr x x && same_expr y y) (itself (binary_number operator))
    (and_from (same_expr x x) (same_expr y y) (key_itself ks x h.0) (key_itself ks y h.1))
key_itself ks (e.Conditional k x y z) h =
    and_from (same_kind k k) (same_expr x x && (same_expr y y && same_expr z z)) (itself (kind_number k))
    (and_from (same_expr x x) (same_expr y y && same_expr z z) (key_itself ks x h.0)
    (and_from (same_expr y y) (same_expr z z) (key_itself ks y h.1) (key_itself ks z h.2)))

itself_by : (ms : List Mutex) (ks : List Kind) (mutex : ℕ) (key : Option e.Placed) → IsFlatLockName ms ks (record { mutex = mutex; key = key }) →
    same_key key key ≡ true
itself_by ms ks mutex None h = refl
itself_by ms ks mutex (Some key) h = key_itself ks key.expr h.reads

name_itself : (ms : List Mutex) (ks : List Kind) (x : e.LockName) → IsFlatLockName ms ks x → same_lock x x ≡ true
name_itself ms ks x h = and_from (x.mutex == x.mutex) (same_key x.key x.key) (itself x.mutex) (itself_by ms ks x.mutex x.key h)

-- ---- One of each spelling

all_more : {A : Type 0} (P Q : A → Type 0) → ((x : A) → P x → Q x) → (xs : List A) → AllByRecursion P xs → AllByRecursion Q xs
all_more P Q more [] h = tt
all_more P Q more (x ∷ xs) h = (more x h.0, all_more P Q more xs h.1)

all_two : {A : Type 0} (P Q R : A → Type 0) → ((x : A) → P x → Q x → R x) → (xs : List A) → AllByRecursion P xs → AllByRecursion Q xs → AllByRecursion R xs
all_two P Q R both [] h k = tt
all_two P Q R both (x ∷ xs) h k = (both x h.0 k.0, all_two P Q R both xs h.1 k.1)

swapped : (a b c : Bool) → ((a || b) || c) ≡ true → (b || (a || c)) ≡ true
swapped true true c h = refl
swapped true false c h = refl
swapped false true c h = refl
swapped false false c h = h

-- a name is spelled in one of two lists
abbrev Spelled : (one other : List e.LockName) → e.LockName → Type 0
Spelled one other x = (list_any (same_lock x) one || list_any (same_lock x) other) ≡ true

-- each name of the list is spelled before it, or where each stands once
once_has : (before xs : List e.LockName) → AllByRecursion (λ (x : e.LockName). same_lock x x ≡ true) xs →
    AllByRecursion (Spelled before (once before xs)) xs
once_has before [] h = tt
once_has before (x ∷ xs) h = by (list_any (same_lock x) before) refl (once_has before xs h.1) (once_has (x ∷ before) xs h.1)
  where
    by : (b : Bool) → list_any (same_lock x) before ≡ b → AllByRecursion (Spelled before (once before xs)) xs →
        AllByRecursion (Spelled (x ∷ before) (once (x ∷ before) xs)) xs →
        AllByRecursion (Spelled before (if b then once before xs else x ∷ once (x ∷ before) xs)) (x ∷ xs)
    by true there same more = (or_left (list_any (same_lock x) before) (list_any (same_lock x) (once before xs)) there, same)
    by false new same more =
        let rest : List e.LockName = once (x ∷ before) xs in (
          or_right (list_any (same_lock x) before) (same_lock x x || list_any (same_lock x) rest) (or_left (same_lock x x) (list_any (same_lock x) rest) h.0),
          all_more (Spelled (x ∷ before) rest) (Spelled before (x ∷ rest))
              (λ y is. swapped (same_lock y x) (list_any (same_lock y) before) (list_any (same_lock y) rest) is) xs more,
        )

-- ---- The table

abbrev named : ℕ → e.LockName
named n = record { mutex = n; key = None }

-- of the names those of a mutex
abbrev of_mutex : ℕ → List e.LockName → List e.LockName
of_mutex n xs = filter (λ (x : e.LockName). x.mutex == n) xs

-- what is found from a mutex on
abbrev found_from : (n : ℕ) (ms : List Mutex) (xs : List e.LockName) → Option ℕ → List e.LockName
found_from n ms xs o = elim o [
  | None ↦ named n ∷ names_from (suc n) ms xs
  | Some count ↦ of_mutex n xs ++ names_from (suc n) ms xs
]

found_later : (p : e.LockName → Bool) (n : ℕ) (ms : List Mutex) (xs : List e.LockName) (o : Option ℕ) → list_any p (names_from (suc n) ms xs) ≡ true →
    list_any p (found_from n ms xs o) ≡ true
found_later p n ms xs None h = or_right (p (named n)) (list_any p (names_from (suc n) ms xs)) h
found_later p n ms xs (Some count) h =
    list_any-append p (of_mutex n xs) (names_from (suc n) ms xs)
    ∙ or_right (list_any p (of_mutex n xs)) (list_any p (names_from (suc n) ms xs)) h

-- a mutex that is in no array
found_single : (p : e.LockName → Bool) (n : ℕ) (ms : List Mutex) (xs : List e.LockName) (o : Option ℕ) → o ≡ None → p (named n) ≡ true →
    list_any p (found_from n ms xs o) ≡ true
found_single p n ms xs None e h = or_left (p (named n)) (list_any p (names_from (suc n) ms xs)) h
found_single p n ms xs (Some count) e h = absurd (none-some count (sym e))

has_single : (n : ℕ) (ms : List Mutex) (xs : List e.LockName) (k : ℕ) (x : e.LockName) → IsSingleAt ms k → x.mutex ≡ n + k → x.key ≡ None →
    list_any (same_lock x) (names_from n ms xs) ≡ true
has_single n [] xs k x s at none = absurd (none-some s.it s.found)
has_single n (m ∷ ms) xs zero x s at none =
    let length_is : m.length ≡ None = ap (λ (y : Mutex). y.length) (same_Some m s.it s.found) ∙ s.single in
    let here : x.mutex ≡ n = omega (arith, at) in
    let same : same_lock x (named n) ≡ true =
    and_from (x.mutex == n) (same_key x.key None) (eq-eqb x.mutex n here) (ap (λ (key : Option e.Placed). same_key key None) none) in
    found_single (same_lock x) n ms xs m.length length_is same
has_single n (m ∷ ms) xs (suc k) x s at none =
    found_later (same_lock x) n ms xs m.length
    (has_single (suc n) ms xs k x (record { it = s.it; found = s.found; single = s.single }) (omega (arith, at)) none)

-- a key of an array
in_filter : (n : ℕ) (xs : List e.LockName) (x : e.LockName) → x.mutex ≡ n → list_any (same_lock x) xs ≡ true →
    list_any (same_lock x) (of_mutex n xs) ≡ true
in_filter n [] x at h = h
in_filter n (z ∷ xs) x at h = by (same_lock x z) (z.mutex == n) refl refl h (in_filter n xs x at)
  where
    by : (s b : Bool) → same_lock x z ≡ s → (z.mutex == n) ≡ b → (s || list_any (same_lock x) xs) ≡ true →
        (list_any (same_lock x) xs ≡ true → list_any (same_lock x) (of_mutex n xs) ≡ true) →
        list_any (same_lock x) (if b then z ∷ of_mutex n xs else of_mutex n xs) ≡ true
    by true true same of h more = or_left (same_lock x z) (list_any (same_lock x) (of_mutex n xs)) same
    by true false same of h more =
        let one : x.mutex ≡ z.mutex = eqb-true x.mutex z.mutex (and_parts (x.mutex == z.mutex) (same_key x.key z.key) same).0 in
        absurd (true≢false (sym (eq-eqb z.mutex n (sym one ∙ at)) ∙ of))
    by false true same of h more = or_right (same_lock x z) (list_any (same_lock x) (of_mutex n xs)) (more h)
    by false false same of h more = more h

found_keyed : (n : ℕ) (ms : List Mutex) (xs : List e.LockName) (x : e.LockName) (o : Option ℕ) → is_some o ≡ true → x.mutex ≡ n →
    list_any (same_lock x) xs ≡ true → list_any (same_lock x) (found_from n ms xs o) ≡ true
found_keyed n ms xs x None some at h = absurd (true≢false (sym some))
found_keyed n ms xs x (Some count) some at h =
    list_any-append (same_lock x) (of_mutex n xs) (names_from (suc n) ms xs)
    ∙ or_left (list_any (same_lock x) (of_mutex n xs)) (list_any (same_lock x) (names_from (suc n) ms xs))
    (in_filter n xs x at h)

has_keyed : (n : ℕ) (ms : List Mutex) (xs : List e.LockName) (k : ℕ) (x : e.LockName) (it : Mutex) → slice_get ms k ≡ Some it → is_some it.length ≡ true →
    x.mutex ≡ n + k → list_any (same_lock x) xs ≡ true → list_any (same_lock x) (names_from n ms xs) ≡ true
has_keyed n [] xs k x it found some at h = absurd (none-some it found)
has_keyed n (m ∷ ms) xs zero x it found some at h =
    found_keyed n ms xs x m.length (ap (λ (y : Mutex). is_some y.length) (same_Some m it found) ∙ some) (omega (arith, at)) h
has_keyed n (m ∷ ms) xs (suc k) x it found some at h =
    found_later (same_lock x) n ms xs m.length (has_keyed (suc n) ms xs k x it found some (omega (arith, at)) h)

has_name : (ms : List Mutex) (ks : List Kind) (xs : List e.LockName) (mutex : ℕ) (key : Option e.Placed) →
    IsFlatLockName ms ks (record { mutex = mutex; key = key }) → list_any (same_lock (record { mutex = mutex; key = key })) xs ≡ true →
    list_any (same_lock (record { mutex = mutex; key = key })) (names_from 0 ms xs) ≡ true
has_name ms ks xs mutex None h any = has_single 0 ms xs mutex (named mutex) h (omega arith) refl
has_name ms ks xs mutex (Some key) h any =
    has_keyed 0 ms xs mutex (record { mutex = mutex; key = Some key }) h.array.it h.array.found h.array.array (omega arith) any

-- ---- Numbers

number_within : (names : List e.LockName) (x : e.LockName) → list_any (same_lock x) names ≡ true → number_in names x < length names
number_within [] x h = absurd (true≢false (sym h))
number_within (y ∷ ys) x h = by (same_lock x y) h (number_within ys x)
  where
    by : (b : Bool) → (b || list_any (same_lock x) ys) ≡ true → (list_any (same_lock x) ys ≡ true → number_in ys x < length ys) →
        (if b then 0 else suc (number_in ys x)) < suc (length ys)
    by true h more = omega arith
    by false h more = let low : number_in ys x < length ys = more h in omega (arith, low)

-- each of the names of a list has a number in the table that is made of it
pub names_numbered : (ms : List Mutex) (ks : List Kind) (xs : List e.LockName) → AllByRecursion (IsFlatLockName ms ks) xs →
    AllByRecursion (λ (x : e.LockName). number_in (names_from 0 ms (once [] xs)) x < length (names_from 0 ms (once [] xs))) xs
names_numbered ms ks xs formed =
    let table : List e.LockName = names_from 0 ms (once [] xs) in
    all_two (IsFlatLockName ms ks) (λ (x : e.LockName). list_any (same_lock x) (once [] xs) ≡ true) (λ (x : e.LockName). number_in table x < length table)
    (λ x h any. number_within table x (has_name ms ks (once [] xs) x.mutex x.key h any)) xs formed
    (once_has [] xs (all_more (IsFlatLockName ms ks) (λ (x : e.LockName). same_lock x x ≡ true) (name_itself ms ks) xs formed))
