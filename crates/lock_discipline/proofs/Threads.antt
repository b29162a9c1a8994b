-- The walk through a thread and through all threads, from what their parts give.
use Rattle.std.proofs.Common.{◌≡◌, ◌<◌, ◌≤◌, ℕ, zero, suc, ◌+◌, Vec, Global, All, take, take_all, List, [], ◌∷◌, ◌++◌, length}
use Rattle.std.proofs.Common.{drop, get_or, map, slice_get, find, Option, Some, None, false, refl, sym, ap, ap₂, ◌∙◌, subst}
use Rattle.std.proofs.lemmas.List.{length-replicate, length-map, map-append, take_more, drop_more, drop_all}
use Rattle.std.proofs.lemmas.List.Elements.{All-head, All-tail}
use Rattle.c_tree.specs.declared.language.Language.{Language}
use Rattle.c_tree.specs.declared.rule.Rule.TheVariants as rule
use Rattle.c_tree.specs.declared.flat.Statement as s
use Rattle.c_tree.specs.declared.flat.Thread as thread
use Rattle.c_tree.specs.declared.flat.Flat as d
use Rattle.c_tree.specs.declared.program.Mutex as mutex
use Rattle.c_tree.specs.declared.program.Variable as variable
use Rattle.c_tree.specs.declared.expr.LockRef.{LockRef}
use Rattle.std.specs.Prelude.{slice_index_or}
use Rattle.c_tree.specs.Exprs.{LockName}
use Rattle.c_tree.specs.Programs.{Variable, mutex_of, variable_of}
use Rattle.c_tree.specs.Flats as f
use Rattle.c_tree.specs.LockNames.{Held, holds, none_held, locks_in_all, once, names_from, lock_names}
use Rattle.c_tree.specs.links.KnownNames.{names_of}
use Rattle.c_tree.specs.LockDiscipline.{numbers_below, Fault, Walked, After, Broken, and_then}
use Rattle.c_tree.specs.LockDiscipline.{walk_all, walk_end, walk_thread, walk_threads, lock_fault, IsDisciplined}
use Rattle.lock_discipline.specs.HeldSetsByStep.{AreSetsOf, AreAllSetsOf}
use Rattle.lock_discipline.specs.NamedForms.{HasNames}
use Rattle.lock_discipline.specs.links.Flow.{held_after_all, sets_in_all, thread_sets}
use Rattle.lock_discipline.proofs.CheckerCorrectness.{none_or, after_then, fault_or}
use Rattle.lock_discipline.proofs.WalkLaw.{walk-is_discipline}
use Rattle.lock_discipline.proofs.Flows.{thread_sets_are}
use Rattle.lock_discipline.proofs.CheckerByStatement.{walked_all_length, walked_all_after}

module _ (language : Language) (vs : List Variable) (names : List LockName) (t : thread.Thread) (first : Held) (xs : List s.Statement)
    (is : first ≡ none_held (length names)) (same : xs ≡ t.body.items) where
  long : length first ≡ length names
  long = ap length is ∙ length-replicate (length names) false

  pub begins : walk_thread language vs names (f.thread_of t) ≡ and_then (walk_all language vs names first (f.statements_of xs)) (walk_end vs names t.closing)
  begins =
      ap₂ (λ (h : Held) (ys : List s.Statement). and_then (walk_all language vs names h (f.statements_of ys)) (walk_end vs names t.closing)) (sym is) (sym same)

  pub ends : (end : Held) (o : Option ℕ) → walk_all language vs names first (f.statements_of xs) ≡ After end →
      o ≡ find (λ m. holds end m) (numbers_below (length end)) → walk_thread language vs names (f.thread_of t)
      ≡ none_or o (λ m. record { rule = rule.EndHeld; place = t.closing; lock = slice_index_or names m (record { mutex = 0; key = None }) }) end
  ends end o walked e =
      let count : length end ≡ length names = walked_all_length language vs names first long (f.statements_of xs) end walked in
      let fault : ℕ → Fault = λ m. record { rule = rule.EndHeld; place = t.closing; lock = slice_index_or names m (record { mutex = 0; key = None }) } in
      begins ∙ after_then _ (walk_end vs names t.closing) end walked
      ∙ ap (λ (p : Option ℕ). none_or p fault end) (sym (e ∙ ap (λ (m : ℕ). find (λ k. holds end k) (numbers_below m)) count))

  pub sets_are : (end : Held) (old some all : List Held) → walk_all language vs names first (f.statements_of xs) ≡ After end →
      old ≡ [] → some ≡ old ++ sets_in_all names first (f.statements_of xs) → all ≡ some ++ end ∷ [] → all ≡ thread_sets names (f.thread_of t)
  sets_are end old some all walked p q r =
      r ∙ ap (λ (ys : List Held). ys ++ end ∷ []) (q ∙ ap (λ (ys : List Held). ys ++ sets_in_all names first (f.statements_of xs)) p)
      ∙ ap (λ (k : Held). sets_in_all names first (f.statements_of xs) ++ k ∷ [])
      (sym (walked_all_after language vs names first long (f.statements_of xs) end walked))
      ∙ ap₂ (λ (h : Held) (ys : List s.Statement). sets_in_all names h (f.statements_of ys) ++ held_after_all names h (f.statements_of ys) ∷ []) is same

-- ---- All threads

-- the names that the code makes of a thread are its own
pub own_names : (x : d.Flat) (t : thread.Thread) (names made : List LockRef) (ms : List mutex.Mutex) (ss : List s.Statement) → names ≡ made →
    ms ≡ x.mutexes.items → ss ≡ t.body.items →
    names_of made ≡ names_from 0 (map mutex_of ms) (once [] (locks_in_all (f.statements_of ss))) → names_of names ≡ lock_names (f.flat_of x) (f.thread_of t)
own_names x t names made ms ss same p q e =
    ap names_of same
    ∙ (e ∙ ap₂ (λ (ys : List mutex.Mutex) (zs : List s.Statement). names_from 0 (map mutex_of ys) (once [] (locks_in_all (f.statements_of zs)))) p q)

abbrev pub variables_in : d.Flat → List Variable
variables_in x = map variable_of x.variables.items

abbrev pub walk_from : Language → d.Flat → ℕ → Option Fault
walk_from language x i = walk_threads language (f.flat_of x) (map f.thread_of (drop i x.threads.items))

pub whole_walk : (language : Language) (x : d.Flat) → lock_fault language (f.flat_of x) ≡ walk_from language x 0
unfolding lock_fault
whole_walk language x = refl

module _ (language : Language) (x : d.Flat) (i : ℕ) (t : thread.Thread) {variables : List variable.Variable} {names : List LockName}
    (all : variables ≡ x.variables.items)
    (own : names ≡ lock_names (f.flat_of x) (f.thread_of t)) (within : i < length x.threads.items) (is : t ≡ get_or x.threads.items i t)
    (before : walk_from language x 0 ≡ walk_from language x i) where
  at_thread : walk_from language x 0 ≡ fault_or (walk_thread language (map variable_of variables) names (f.thread_of t)) (walk_from language x (i + 1))
  at_thread =
      before ∙ ap (λ (ys : List thread.Thread). walk_threads language (f.flat_of x) (map f.thread_of ys)) (drop_more x.threads.items i t within)
      ∙ ap (λ (y : thread.Thread).
      fault_or (walk_thread language (variables_in x) (lock_names (f.flat_of x) (f.thread_of y)) (f.thread_of y)) (walk_from language x (i + 1)))
      (sym is)
      ∙ ap₂ (λ (ys : List variable.Variable) (ns : List LockName).
      fault_or (walk_thread language (map variable_of ys) ns (f.thread_of t)) (walk_from language x (i + 1))) (sym all) (sym own)

  pub thread_breaks : (fault : Fault) → walk_thread language (map variable_of variables) names (f.thread_of t) ≡ Broken fault →
      lock_fault language (f.flat_of x) ≡ Some fault
  thread_breaks fault e = whole_walk language x ∙ at_thread ∙ ap (λ (v : Walked). fault_or v (walk_from language x (i + 1))) e

  pub thread_keeps : (end : Held) × (walk_thread language (map variable_of variables) names (f.thread_of t) ≡ After end) →
      walk_from language x 0 ≡ walk_from language x (i + 1)
  thread_keeps e = at_thread ∙ ap (λ (v : Walked). fault_or v (walk_from language x (i + 1))) e.1

pub no_thread_breaks : (language : Language) (x : d.Flat) (i : ℕ) → length x.threads.items ≤ i → walk_from language x 0 ≡ walk_from language x i →
    lock_fault language (f.flat_of x) ≡ None
no_thread_breaks language x i le e =
    whole_walk language x ∙ e ∙ ap (λ (ys : List thread.Thread). walk_threads language (f.flat_of x) (map f.thread_of ys)) (drop_all i x.threads.items le)

-- ---- The table of all threads

abbrev pub rows : List (Vec Held Global) → List (List Held)
rows table = map (λ (v : Vec Held Global). v.items) table

abbrev pub row_of : d.Flat → thread.Thread → List Held
row_of x t = thread_sets (lock_names (f.flat_of x) (f.thread_of t)) (f.thread_of t)

pub next_row : (x : d.Flat) (i : ℕ) (t : thread.Thread) (names : List LockName) (row : Vec Held Global) (old new : List (Vec Held Global)) →
    names ≡ lock_names (f.flat_of x) (f.thread_of t) → i < length x.threads.items → t ≡ get_or x.threads.items i t →
    new ≡ old ++ row ∷ [] → row.items ≡ thread_sets names (f.thread_of t) → rows old ≡ map (row_of x) (take i x.threads.items) →
    rows new ≡ map (row_of x) (take (i + 1) x.threads.items)
next_row x i t names row old new own within is p q e =
    ap rows p ∙ map-append (λ (v : Vec Held Global). v.items) old (row ∷ [])
    ∙ ap₂ (λ (ys : List (List Held)) (y : List Held). ys ++ y ∷ []) e (q ∙ ap (λ (ns : List LockName). thread_sets ns (f.thread_of t)) own ∙ ap (row_of x) is)
    ∙ sym (map-append (row_of x) (take i x.threads.items) (get_or x.threads.items i t ∷ []))
    ∙ ap (map (row_of x)) (sym (take_more x.threads.items i t within))

some_is : {X : Type 0} (x y : X) → Some x ≡ Some y → x ≡ y
some_is x y p = cc

same_at : {X Y : Type 0} (g : X → Y) (xs : List X) (n : ℕ) (y : X) (z : Y) → slice_get xs n ≡ Some y → slice_get (map g xs) n ≡ Some z → g y ≡ z
same_at g [] n y z p q = absurd (cc)
same_at g (x ∷ xs) zero y z p q = ap g (sym (some_is x y p)) ∙ some_is (g x) z q
same_at g (x ∷ xs) (suc n) y z p q = same_at g xs n y z p q

all_at : {X : Type 0} (P : X → Type 0) (xs : List X) (n : ℕ) (y : X) → All P xs → slice_get xs n ≡ Some y → P y
all_at P [] n y a p = absurd (cc)
all_at P (x ∷ xs) zero y a p = subst P (some_is x y p) (All-head P x xs a)
all_at P (x ∷ xs) (suc n) y a p = all_at P xs n y (All-tail P x xs a) p

abbrev sets_of : f.Flat → f.Thread → List Held
sets_of x t = thread_sets (lock_names x t) t

are_all_sets : (x : f.Flat) → All (IsDisciplined x) x.threads → AreAllSetsOf x (map (sets_of x) x.threads)
are_all_sets x a = record {
  each_thread = length-map x.threads (sets_of x);
  sets = λ n t sets p q. subst (AreSetsOf x t) (same_at (sets_of x) x.threads n t sets p q)
      (thread_sets_are x t (all_at (IsDisciplined x) x.threads n t a p));
}

map-twice : {X Y Z : Type 0} (g : Y → Z) (h : X → Y) (k : X → Z) (xs : List X) → ((x : X) → k x ≡ g (h x)) → map k xs ≡ map g (map h xs)
map-twice g h k [] e = refl
map-twice g h k (x ∷ xs) e = ap₂ (λ y ys. y ∷ ys) (e x) (map-twice g h k xs e)

pub all_rows : (language : Language) (x : d.Flat) → HasNames (f.flat_of x) → (i : ℕ) (table : List (Vec Held Global)) → length x.threads.items ≤ i →
    walk_from language x 0 ≡ walk_from language x i →
    rows table ≡ map (row_of x) (take i x.threads.items) → AreAllSetsOf (f.flat_of x) (rows table)
all_rows language x w i table le e p =
    let whole = f.flat_of x in
    let is : map (sets_of whole) whole.threads ≡ rows table =
    sym (map-twice (sets_of whole) f.thread_of (row_of x) x.threads.items (λ t. refl))
    ∙ ap (map (row_of x)) (sym (take_all i x.threads.items le)) ∙ sym p in
    subst (AreAllSetsOf whole) is (are_all_sets whole ((walk-is_discipline language whole).1 w (no_thread_breaks language x i le e)).0)
