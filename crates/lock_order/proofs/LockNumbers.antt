-- The number of a name's lock lies where the name says that it may, in every run of a well formed form: its locals keep to their kinds.
use Rattle.std.proofs.Common.{◌≡◌, ◌<◌, ◌≤◌, ℕ, zero, suc, ◌+◌, Bool, true, false, cond, List, [], ◌∷◌, ◌++◌, filter, length, Option, Some, None}
use Rattle.std.proofs.Common.{refl, sym, subst, arith}
use Rattle.std.specs.Prelude.{replicate, slice_get, slice_set, ℤ, pos, ◌==◌}
use Rattle.std.specs.List.{AllByRecursion, AllZip, list_any}
use Rattle.std.proofs.lemmas.Option.{none-some, same_Some}
use Rattle.ido_base.specs.declared.place.Place.{Place}
use Rattle.ido_ints.specs.declared.kinds.Kind.{Kind}
use Rattle.ido_ints.specs.Kinds.{Holds}
use Rattle.ido_ints.specs.Reduction.{reduced}
use Rattle.ido_ints.proofs.Public.{Holds-reduced, Holds-zero}
use Rattle.c_tree.specs.Exprs as e
use Rattle.c_tree.specs.Flats as f
use Rattle.c_tree.specs.LockNames.{lock_names, locks_in, locks_in_all, locks_in_arms, names_from, once, same_lock}
use Rattle.c_tree.specs.Programs.{Mutex}
use Rattle.c_tree.specs.Ranges.{mutexes_of}
use Rattle.c_tree.specs.Source as m
use Rattle.c_tree.specs.Source.{opened, opened_all, tested}
use Rattle.c_tree.specs.Values.{element_at, lock_number, value}
use Rattle.c_tree.specs.WellFormed.{AreFlatArms, AreFlatStatements, IsFlatLockName, IsFlatStatement, IsKey, IsWellFormed}
use Rattle.c_ranges.proofs.Public.{all_held, fits_element, key_followed}
use Rattle.source_machine.specs.Discipline.{IsReachedState}
use Rattle.source_machine.specs.Laws.{OthersStay}
use Rattle.lock_order.specs.LockOrder.{lock_from, lock_to, plain_number}
use Rattle.lock_order.proofs.ThreadSteps.{IsKept, IsSaidOfAll, run_keeps, said_first}

-- ---- Lists

all_append : {A : Type 0} (P : A → Type 0) (xs ys : List A) → AllByRecursion P xs → AllByRecursion P ys → AllByRecursion P (xs ++ ys)
all_append P [] ys h k = k
all_append P (x ∷ xs) ys h k = (h.0, all_append P xs ys h.1 k)

all_at : {A : Type 0} (P : A → Type 0) (xs : List A) (k : ℕ) (x : A) → AllByRecursion P xs → slice_get xs k ≡ Some x → P x
all_at P [] k x h there = absurd (none-some x there)
all_at P (y ∷ xs) zero x h there = subst P (same_Some y x there) h.0
all_at P (y ∷ xs) (suc k) x h there = all_at P xs k x h.1 there

all_filtered : {A : Type 0} (P : A → Type 0) (g : A → Bool) (xs : List A) → AllByRecursion P xs → AllByRecursion P (filter g xs)
all_filtered {A} P g [] h = tt
all_filtered {A} P g (x ∷ xs) h = by (g x) (all_filtered P g xs h.1)
  where
    by : (b : Bool) → AllByRecursion P (filter g xs) → AllByRecursion P (cond b (x ∷ filter g xs) (filter g xs))
    by true more = (h.0, more)
    by false more = more

zip_set : (ks : List Kind) (ls : List ℤ) (local : ℕ) (k : Kind) (n : ℤ) → AllZip Holds ks ls → slice_get ks local ≡ Some k → Holds k n →
    AllZip Holds ks (slice_set ls local n)
zip_set [] ls local k n h there held = absurd (none-some k there)
zip_set (j ∷ ks) [] local k n h there held = absurd h
zip_set (j ∷ ks) (z ∷ ls) zero k n h there held = (subst (λ (i : Kind). Holds i n) (sym (same_Some j k there)) held, h.1)
zip_set (j ∷ ks) (z ∷ ls) (suc local) k n h there held = (h.0, zip_set ks ls local k n h.1 there held)

zeros_held : (ks : List Kind) → AllZip Holds ks (replicate (length ks) (pos 0))
zeros_held [] = tt
zeros_held (k ∷ ks) = (Holds-zero k, zeros_held ks)

-- ---- Names

-- its key, if it has one, is the number of a mutex of its array
abbrev IsKeyed : List Mutex → List Kind → e.LockName → Type 0
IsKeyed ms ks x = elim x.key [
  | None ↦ Unit {0}
  | Some key ↦ IsKey ms ks x.mutex key.expr
]

keyed_by : (ms : List Mutex) (ks : List Kind) (mutex : ℕ) (key : Option e.Placed) → IsFlatLockName ms ks (record { mutex = mutex; key = key }) →
    IsKeyed ms ks (record { mutex = mutex; key = key })
keyed_by ms ks mutex None h = tt
keyed_by ms ks mutex (Some key) h = h

module _ (x : f.Flat) (ks : List Kind) where
  abbrev ms : List Mutex
  ms = x.mutexes

  abbrev AreKeyed : List e.LockName → Type 0
  AreKeyed names = AllByRecursion (IsKeyed ms ks) names

  mutual
    locks_keyed : (y : f.Statement) → IsFlatStatement x ks y → AreKeyed (locks_in y)
    locks_keyed (f.Assign place target value) h = tt
    locks_keyed (f.If place arms otherwise) h =
        all_append (IsKeyed ms ks) (locks_in_arms arms) (locks_in_all otherwise) (arms_keyed arms h.1) (all_keyed otherwise h.2)
    locks_keyed (f.While place condition body) h = all_keyed body h.1
    locks_keyed (f.Do place body condition) h = all_keyed body h.0
    locks_keyed (f.Lock place name) h = (keyed_by ms ks name.mutex name.key h, tt)
    locks_keyed (f.Unlock place name) h = tt

    all_keyed : (ys : f.Statements) → AreFlatStatements x ks ys → AreKeyed (locks_in_all ys)
    all_keyed f.no_statement h = tt
    all_keyed (f.statement_and y rest) h =
        all_append (IsKeyed ms ks) (locks_in y) (locks_in_all rest) (locks_keyed y h.0) (all_keyed rest h.1)

    arms_keyed : (arms : f.Arms) → AreFlatArms x ks arms → AreKeyed (locks_in_arms arms)
    arms_keyed f.no_arm h = tt
    arms_keyed (f.arm_and condition body rest) h =
        all_append (IsKeyed ms ks) (locks_in_all body) (locks_in_arms rest) (all_keyed body h.1) (arms_keyed rest h.2)

  once_keyed : (before names : List e.LockName) → AreKeyed names → AreKeyed (once before names)
  once_keyed before [] h = tt
  once_keyed before (y ∷ names) h = by (list_any (same_lock y) before) (once_keyed before names h.1) (once_keyed (y ∷ before) names h.1)
    where
      by : (b : Bool) → AreKeyed (once before names) → AreKeyed (once (y ∷ before) names) → AreKeyed (cond b (once before names) (y ∷ once (y ∷ before) names))
      by true known new = known
      by false known new = (h.0, new)

  from_keyed : (n : ℕ) (rest : List Mutex) (names : List e.LockName) → AreKeyed names → AreKeyed (names_from n rest names)
  from_keyed n [] names h = tt
  from_keyed n (mutex ∷ rest) names h = by mutex.length (from_keyed (suc n) rest names h)
    where
      by : (o : Option ℕ) → AreKeyed (names_from (suc n) rest names) → AreKeyed (elim o [
        | None ↦ record { mutex = n; key = None } ∷ names_from (suc n) rest names
        | Some count ↦ filter (λ (y : e.LockName). y.mutex == n) names ++ names_from (suc n) rest names
      ])
      by None more = (tt, more)
      by (Some count) more =
          all_append (IsKeyed ms ks) (filter (λ (y : e.LockName). y.mutex == n) names) (names_from (suc n) rest names)
          (all_filtered (IsKeyed ms ks) (λ (y : e.LockName). y.mutex == n) names h) more

-- each name of a thread's locks
name_keyed : (x : f.Flat) (t : f.Thread) (number : ℕ) (y : e.LockName) → AreFlatStatements x t.locals t.body →
    slice_get (lock_names x t) number ≡ Some y → IsKeyed x.mutexes t.locals y
name_keyed x t number y h there =
    let keyed = from_keyed x t.locals 0 x.mutexes (once [] (locks_in_all t.body))
    (once_keyed x t.locals [] (locks_in_all t.body) (all_keyed x t.locals t.body h)) in
    all_at (IsKeyed x.mutexes t.locals) (lock_names x t) number y keyed there

-- ---- The number of its lock

-- a plain number has that number for its value
plain_value : (ls : List ℤ) (x : e.Expr) (n : ℕ) → plain_number x ≡ Some n → element_at (value ls [] x) ≡ n
plain_value ls (e.Constant v) n is = same_Some (element_at v) n is
plain_value ls (e.Local local kind) n is = absurd (none-some n is)
plain_value ls (e.Variable place variable kind) n is = absurd (none-some n is)
plain_value ls (e.Element place variable kind index_place index) n is = absurd (none-some n is)
plain_value ls (e.Address variable index_place index) n is = absurd (none-some n is)
plain_value ls (e.Referent place last local) n is = absurd (none-some n is)
plain_value ls (e.Unary operator operand) n is = absurd (none-some n is)
plain_value ls (e.Cast kind operand) n is = absurd (none-some n is)
plain_value ls (e.Converted kind operand) n is = absurd (none-some n is)
plain_value ls (e.Binary operator left right) n is = absurd (none-some n is)
plain_value ls (e.Conditional kind condition chosen otherwise) n is = absurd (none-some n is)

least_by : (mutex n : ℕ) (o : Option ℕ) → ((element : ℕ) → o ≡ Some element → n ≡ element) →
    (let least : ℕ = elim o [ Some element ↦ mutex + element | None ↦ mutex ] in least) ≤ mutex + n
least_by mutex n None is = omega arith
least_by mutex n (Some element) is = let same = is element refl in omega (arith, same)

from_by : (ls : List ℤ) (mutex : ℕ) (key : Option e.Placed) →
    lock_from (record { mutex = mutex; key = key }) ≤ lock_number ls (record { mutex = mutex; key = key })
from_by ls mutex None = omega arith
from_by ls mutex (Some key) = least_by mutex (element_at (value ls [] key.expr)) (plain_number key.expr) (plain_value ls key.expr)

-- it is no lesser one than the name says, whatever the locals hold
pub number_from : (ls : List ℤ) (x : e.LockName) → lock_from x ≤ lock_number ls x
number_from ls x = from_by ls x.mutex x.key

most_by : (mutex count n : ℕ) (o : Option ℕ) → n < count → ((element : ℕ) → o ≡ Some element → n ≡ element) →
    mutex + n < (let most : ℕ = elim o [ Some element ↦ suc (mutex + element) | None ↦ mutex + count ] in most)
most_by mutex count n None less is = omega (arith, less)
most_by mutex count n (Some element) less is = let same = is element refl in omega (arith, same)

to_by : (ms : List Mutex) (ks : List Kind) (ls : List ℤ) (mutex : ℕ) (key : Option e.Placed) → AllZip Holds ks ls →
    IsKeyed ms ks (record { mutex = mutex; key = key }) →
    lock_number ls (record { mutex = mutex; key = key }) < lock_to ms (record { mutex = mutex; key = key })
to_by ms ks ls mutex None locals h = omega arith
to_by ms ks ls mutex (Some key) locals h =
    let named = fits_element (mutexes_of ms mutex) key.expr h.fits ls []
    (all_held [] ks ls [] locals tt key.expr h.reads (key_followed ls key.expr h.follows)) in
    most_by mutex (mutexes_of ms mutex) (element_at (value ls [] key.expr)) (plain_number key.expr) named.below (plain_value ls key.expr)

-- ---- Locals in a run

-- what is left is well formed, and locals hold numbers of their kinds
record IsFormed (x : f.Flat) (t : f.Thread) (left : List f.Statement) (ls : List ℤ) : Type 0 where
  statements : AllByRecursion (IsFlatStatement x t.locals) left
  locals : AllZip Holds t.locals ls

module _ (x : f.Flat) (ks : List Kind) where
  abbrev AreFormed : List f.Statement → Type 0
  AreFormed ys = AllByRecursion (IsFlatStatement x ks) ys

  mutual
    opened_formed : (y : f.Statement) → IsFlatStatement x ks y → AreFormed (opened y)
    opened_formed (f.Assign place target value) h = (h, tt)
    opened_formed (f.If place arms otherwise) h = (h, tt)
    opened_formed (f.While place condition body) h = (h, tt)
    opened_formed (f.Do place body condition) h =
        all_append (IsFlatStatement x ks) (opened_all body) (f.While place condition body ∷ []) (opened_all_formed body h.0) ((h.1, h.0), tt)
    opened_formed (f.Lock place name) h = (h, tt)
    opened_formed (f.Unlock place name) h = (h, tt)

    opened_all_formed : (ys : f.Statements) → AreFlatStatements x ks ys → AreFormed (opened_all ys)
    opened_all_formed f.no_statement h = tt
    opened_all_formed (f.statement_and y rest) h =
        all_append (IsFlatStatement x ks) (opened y) (opened_all rest) (opened_formed y h.0) (opened_all_formed rest h.1)

  -- after the first test of an `if`
  tested_formed : (b : Bool) (place : Place) (body : f.Statements) (arms : f.Arms) (otherwise : f.Statements) → AreFlatStatements x ks body →
      AreFlatArms x ks arms → AreFlatStatements x ks otherwise →
      AreFormed (tested b (opened_all body) (f.If place arms otherwise ∷ []) (opened_all otherwise) arms)
  tested_formed true place body arms otherwise h k l = opened_all_formed body h
  tested_formed false place body f.no_arm otherwise h k l = opened_all_formed otherwise l
  tested_formed false place body (f.arm_and condition next rest) otherwise h k l = ((tt, k, l), tt)

  again_formed : (b : Bool) (place : Place) (condition : e.Placed) (body : f.Statements) (rest : List f.Statement) →
      AreFormed (f.While place condition body ∷ rest) → AreFormed (cond b (opened_all body ++ (f.While place condition body ∷ rest)) rest)
  again_formed true place condition body rest h =
      all_append (IsFlatStatement x ks) (opened_all body) (f.While place condition body ∷ rest) (opened_all_formed body h.0.1) h
  again_formed false place condition body rest h = h.1

formed_kept : (x : f.Flat) → IsKept (IsFormed x)
formed_kept x = record {
  goes_on = λ t y rest ls h. record { statements = h.statements.1; locals = h.locals };
  assigned = λ t place at local kind value rest ls n h. record {
    statements = h.statements.1;
    locals = zip_set t.locals ls local kind (reduced kind n) h.locals h.statements.0.0.0 (Holds-reduced kind n);
  };
  if_tested = λ t b place condition body arms otherwise rest ls h. record {
    statements = all_append (IsFlatStatement x t.locals) (tested b (opened_all body) (f.If place arms otherwise ∷ []) (opened_all otherwise) arms) rest
        (tested_formed x t.locals b place body arms otherwise h.statements.0.1.1 h.statements.0.1.2 h.statements.0.2) h.statements.1;
    locals = h.locals;
  };
  while_tested = λ t b place condition body rest ls h. record {
    statements = again_formed x t.locals b place condition body rest h.statements;
    locals = h.locals;
  };
}

-- the threads of a form in each state that it reaches, whatever numbers its variables begin with
threads_formed : OthersStay → (x : f.Flat) (s : m.State) → IsWellFormed x → IsReachedState x s → IsSaidOfAll (IsFormed x) x s
threads_formed others x s formed reached =
    let begins : m.State = record (m.start x) { variables = reached.variables } in
    let first : IsSaidOfAll (IsFormed x) x begins = said_first (IsFormed x) (formed_kept x) x begins refl (λ k t there.
    let body : AreFlatStatements x t.locals t.body =
    all_at (λ (u : f.Thread). AreFlatStatements x u.locals u.body) x.threads k t formed.threads there in
    record { statements = opened_all_formed x t.locals t.body body; locals = zeros_held t.locals }) in
    subst (IsSaidOfAll (IsFormed x) x) (sym reached.is) (run_keeps (IsFormed x) (formed_kept x) x others begins reached.schedule first)

-- a name's lock has a number that the name may have
pub number_to : OthersStay → (x : f.Flat) (s : m.State) (u : ℕ) (thread : m.Thread) (text : f.Thread) (number : ℕ) (y : e.LockName) → IsWellFormed x →
    IsReachedState x s → slice_get s.threads u ≡ Some thread → slice_get x.threads u ≡ Some text → slice_get (lock_names x text) number ≡ Some y →
    lock_number thread.locals y < lock_to x.mutexes y
number_to others x s u thread text number y formed reached there its at =
    let said = (threads_formed others x s formed reached).each u thread text there its in
    let body : AreFlatStatements x text.locals text.body =
    all_at (λ (t : f.Thread). AreFlatStatements x t.locals t.body) x.threads u text formed.threads its in
    to_by x.mutexes text.locals thread.locals y.mutex y.key said.locals (name_keyed x text number y body at)
