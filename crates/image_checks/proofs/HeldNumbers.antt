-- The numbers of the names that a thread holds, by its locals: each is that of a lock, and where none is there twice no two names have one.
use Rattle.std.proofs.Common.{◌≡◌, ◌≢◌, ◌==◌, ◌||◌, refl, inl, inr, ℕ, zero, suc, ◌+◌, ◌<◌, ◌≤◌, ◌^◌, List, [], ◌∷◌, ◌++◌, length, map, filter, ap, ap₂, sym}
use Rattle.std.proofs.Common.{◌∙◌, subst, arith, Bool, true, false, Option, Some, None, if◌then◌else◌}
use Rattle.std.specs.Prelude.{slice_get, slice_index_or, Contains, ℤ, pos}
use Rattle.std.specs.List.{AllByRecursion, AllZip, list_any}
use Rattle.std.proofs.lemmas.Bool.{true≢false, eq-eqb, eqb-true, or_left, or_right}
use Rattle.std.proofs.lemmas.List.Elements.{Contains-append_left, Contains-append_right}
use Rattle.std.proofs.lemmas.Option.{none-some, same_Some}
use Rattle.ido_base.specs.Locks.{has_lock}
use Rattle.ido_ints.specs.declared.kinds.Kind.{Kind}
use Rattle.ido_ints.specs.Kinds.{Holds}
use Rattle.ido_ints.specs.Operators.{is_zero, unary_of, binary_of}
use Rattle.ido_ints.specs.TypedNumbers.{Typed, typed, converted}
use Rattle.c_tree.specs.Exprs as e
use Rattle.c_tree.specs.Flats as f
use Rattle.c_tree.specs.LockDiscipline.{expr_locals, key_locals}
use Rattle.c_tree.specs.LockNames.{Held, held_names, holds, lock_names, locks_in, locks_in_all, locks_in_arms, names_from, once, same_lock}
use Rattle.c_tree.specs.Programs.{Mutex}
use Rattle.c_tree.specs.Values.{value, element_at, element_number, lock_number, reference_to, referent}
use Rattle.c_tree.specs.WellFormed.{IsFlatLockName, IsFlatStatement, AreFlatArms, AreFlatStatements}
use Rattle.c_ranges.proofs.Public.{lock_below}
use Rattle.flow_graph.proofs.Public.{all_at}
use Rattle.log_states.proofs.Public.{contains_first, locks_kept}
use Rattle.log_schemes.specs.SchemeFacts.{AreLoggable}
use Rattle.recovered_threads.proofs.Public.{has_there}
use Rattle.source_machine.specs.Discipline.{IsOfName}
use Rattle.thread_code.specs.Plans.{Plan, Thread, IsPlan, IsThread, IsNodeOf, locks_before, names_in, set_before}
use Rattle.thread_code.proofs.Public.{names_are}
use Rattle.flow_graph.specs.Liveness.{IsLive}
use Rattle.image_checks.specs.Logs.{AreOnce}

-- ---- Each name is formed

module _ (P : e.LockName → Type 0) where
  all_both : (xs ys : List e.LockName) → AllByRecursion P xs → AllByRecursion P ys → AllByRecursion P (xs ++ ys)
  all_both [] ys h k = k
  all_both (x ∷ xs) ys h k = (h.0, all_both xs ys h.1 k)

  all_filtered : (test : e.LockName → Bool) (xs : List e.LockName) → AllByRecursion P xs → AllByRecursion P (filter test xs)
  all_filtered test [] h = tt
  all_filtered test (x ∷ xs) h = by (test x) (all_filtered test xs h.1)
    where
      by : (b : Bool) → AllByRecursion P (filter test xs) → AllByRecursion P (if b then x ∷ filter test xs else filter test xs)
      by true rest = (h.0, rest)
      by false rest = rest

  all_once : (before xs : List e.LockName) → AllByRecursion P xs → AllByRecursion P (once before xs)
  all_once before [] h = tt
  all_once before (x ∷ xs) h = by (list_any (same_lock x) before) (all_once before xs h.1) (all_once (x ∷ before) xs h.1)
    where
      by : (b : Bool) → AllByRecursion P (once before xs) → AllByRecursion P (once (x ∷ before) xs) →
          AllByRecursion P (if b then once before xs else x ∷ once (x ∷ before) xs)
      by true same more = same
      by false same more = (h.0, more)

  -- and of each mutex that is in no array
  all_named : (n : ℕ) (ms : List Mutex) (xs : List e.LockName) →
      ((k : ℕ) (it : Mutex) → slice_get ms k ≡ Some it → it.length ≡ None → P (record { mutex = n + k; key = None })) → AllByRecursion P xs →
      AllByRecursion P (names_from n ms xs)
  all_named n [] xs alone h = tt
  all_named n (m ∷ ms) xs alone h = by m.length refl (all_named (suc n) ms xs later h)
    where
      later : (k : ℕ) (it : Mutex) → slice_get ms k ≡ Some it → it.length ≡ None → P (record { mutex = suc n + k; key = None })
      later k it found none =
          let e : n + suc k ≡ suc n + k = omega arith in
          subst (λ (i : ℕ). P (record { mutex = i; key = None })) e (alone (suc k) it found none)

      by : (o : Option ℕ) → m.length ≡ o → AllByRecursion P (names_from (suc n) ms xs) → AllByRecursion P (elim o [
        | None ↦ record { mutex = n; key = None } ∷ names_from (suc n) ms xs
        | Some count ↦ filter (λ (x : e.LockName). x.mutex == n) xs ++ names_from (suc n) ms xs
      ])
      by None is rest =
          let e : n + 0 ≡ n = omega arith in
          (subst (λ (i : ℕ). P (record { mutex = i; key = None })) e (alone 0 m refl is), rest)
      by (Some count) is rest =
          all_both (filter (λ (x : e.LockName). x.mutex == n) xs) (names_from (suc n) ms xs)
          (all_filtered (λ (x : e.LockName). x.mutex == n) xs h) rest

module _ (x : f.Flat) (ks : List Kind) where
  abbrev IsFormed : e.LockName → Type 0
  IsFormed y = IsFlatLockName x.mutexes ks y

  mutual
    formed : (s : f.Statement) → IsFlatStatement x ks s → AllByRecursion IsFormed (locks_in s)
    formed (f.Assign place target value) w = tt
    formed (f.If place arms otherwise) w = all_both IsFormed (locks_in_arms arms) (locks_in_all otherwise) (formed_arms arms w.1) (formed_all otherwise w.2)
    formed (f.While place condition body) w = formed_all body w.1
    formed (f.Do place body condition) w = formed_all body w.0
    formed (f.Lock place lock) w = (w, tt)
    formed (f.Unlock place lock) w = tt

    formed_all : (ss : f.Statements) → AreFlatStatements x ks ss → AllByRecursion IsFormed (locks_in_all ss)
    formed_all f.no_statement w = tt
    formed_all (f.statement_and s rest) w = all_both IsFormed (locks_in s) (locks_in_all rest) (formed s w.0) (formed_all rest w.1)

    formed_arms : (arms : f.Arms) → AreFlatArms x ks arms → AllByRecursion IsFormed (locks_in_arms arms)
    formed_arms f.no_arm w = tt
    formed_arms (f.arm_and condition body rest) w =
        all_both IsFormed (locks_in_all body) (locks_in_arms rest) (formed_all body w.1) (formed_arms rest w.2)

  pub names_formed : (t : f.Thread) → AreFlatStatements x ks t.body → AllByRecursion IsFormed (lock_names x t)
  names_formed t w = all_named IsFormed 0 x.mutexes (once [] (locks_in_all t.body)) alone (all_once IsFormed [] (locks_in_all t.body) (formed_all t.body w))
    where
      alone : (k : ℕ) (it : Mutex) → slice_get x.mutexes k ≡ Some it → it.length ≡ None → IsFormed (record { mutex = 0 + k; key = None })
      alone k it found none =
          let e : k ≡ 0 + k = omega arith in
          subst (λ (i : ℕ). IsFormed (record { mutex = i; key = None })) e (record { it = it; found = found; single = none })

-- ---- A name's lock is by the locals of its key

-- of these locals both lists have one number
abbrev pub AreSame : (locals : List ℕ) → (ls js : List ℤ) → Type 0
AreSame locals ls js = (local : ℕ) → Contains locals local → slice_index_or ls local (pos 0) ≡ slice_index_or js local (pos 0)

module _ (ls js : List ℤ) where
  first_same : (xs ys : List ℕ) → AreSame (xs ++ ys) ls js → AreSame xs ls js
  first_same xs ys h local c = h local (Contains-append_left xs ys local c)

  rest_same : (xs ys : List ℕ) → AreSame (xs ++ ys) ls js → AreSame ys ls js
  rest_same xs ys h local c = h local (Contains-append_right xs ys local c)

  value_same : (x : e.Expr) → AreSame (expr_locals x) ls js → value ls [] x ≡ value js [] x
  value_same (e.Constant x) h = refl
  value_same (e.Local local k) h = ap (λ (z : ℤ). typed k z) (h local (contains_first local []))
  value_same (e.Variable place v k) h = refl
  value_same (e.Element place v k index_place index) h = ap (λ (i : Typed). typed k (element_number [] v (element_at i))) (value_same index h)
  value_same (e.Address v index_place x) h = ap reference_to (value_same x h)
  value_same (e.Referent place last local) h = ap referent (h local (contains_first local []))
  value_same (e.Unary operator x) h = ap (unary_of operator) (value_same x h)
  value_same (e.Cast k x) h = ap (λ (y : Typed). converted y k) (value_same x h)
  value_same (e.Converted k x) h = ap (λ (y : Typed). converted y k) (value_same x h)
  value_same (e.Binary operator x y) h =
      ap₂ (binary_of operator) (value_same x (first_same (expr_locals x) (expr_locals y) h)) (value_same y (rest_same (expr_locals x) (expr_locals y) h))
  value_same (e.Conditional k x y z) h =
      let both = first_same (expr_locals x ++ expr_locals y) (expr_locals z) h in
      let pick : Typed → Typed → Typed → Typed = λ c a b. converted (if is_zero c.number then b else a) k in
      ap (λ (c : Typed). pick c (value ls [] y) (value ls [] z)) (value_same x (first_same (expr_locals x) (expr_locals y) both))
      ∙ ap₂ (pick (value js [] x)) (value_same y (rest_same (expr_locals x) (expr_locals y) both))
      (value_same z (rest_same (expr_locals x ++ expr_locals y) (expr_locals z) h))

  lock_by : (mutex : ℕ) (key : Option e.Placed) → AreSame (key_locals (record { mutex = mutex; key = key })) ls js →
      lock_number ls (record { mutex = mutex; key = key }) ≡ lock_number js (record { mutex = mutex; key = key })
  lock_by mutex None h = refl
  lock_by mutex (Some key) h = ap (λ (v : Typed). mutex + element_at v) (value_same key.expr h)

  pub lock_same : (x : e.LockName) → AreSame (key_locals x) ls js → lock_number ls x ≡ lock_number js x
  lock_same x h = lock_by x.mutex x.key h

-- ---- Held names

abbrev pub numbers : (locals : List ℤ) → List e.LockName → Held → List ℕ
numbers ls names h = map (lock_number ls) (held_names names h)

-- each has one lock, by the one locals and by the others
pub numbers_same : (ls js : List ℤ) (names : List e.LockName) (h : Held) →
    ((k : ℕ) (x : e.LockName) → slice_get names k ≡ Some x → holds h k ≡ true → lock_number ls x ≡ lock_number js x) → numbers ls names h ≡ numbers js names h
numbers_same ls js [] h same = refl
numbers_same ls js (x ∷ names) [] same = refl
numbers_same ls js (x ∷ names) (true ∷ h) same =
    ap₂ (λ (n : ℕ) (ns : List ℕ). n ∷ ns) (same 0 x refl refl) (numbers_same ls js names h (λ k y there held. same (suc k) y there held))
numbers_same ls js (x ∷ names) (false ∷ h) same = numbers_same ls js names h (λ k y there held. same (suc k) y there held)

-- each number is that of a held name
pub found_name : (ls : List ℤ) (names : List e.LockName) (h : Held) (lock : ℕ) → has_lock (numbers ls names h) lock ≡ true → IsOfName names h ls lock
found_name ls [] h lock e = absurd (true≢false (sym e))
found_name ls (x ∷ xs) [] lock e = absurd (true≢false (sym e))
found_name ls (x ∷ xs) (false ∷ h) lock e =
    let r = found_name ls xs h lock e in
    record { number = suc r.number; name = r.name; there = r.there; held = r.held; is = r.is }
found_name ls (x ∷ xs) (true ∷ h) lock e = by (lock_number ls x == lock) refl e (found_name ls xs h lock)
  where
    by : (b : Bool) → (lock_number ls x == lock) ≡ b → (b || has_lock (numbers ls xs h) lock) ≡ true →
        (has_lock (numbers ls xs h) lock ≡ true → IsOfName xs h ls lock) → IsOfName (x ∷ xs) (true ∷ h) ls lock
    by true is e more = record { number = 0; name = x; there = refl; held = refl; is = eqb-true (lock_number ls x) lock is }
    by false is e more =
        let r = more e in
        record { number = suc r.number; name = r.name; there = r.there; held = r.held; is = r.is }

-- each held name has its number among them
pub named_there : (ls : List ℤ) (names : List e.LockName) (h : Held) (k : ℕ) (x : e.LockName) → slice_get names k ≡ Some x → holds h k ≡ true →
    has_lock (numbers ls names h) (lock_number ls x) ≡ true
named_there ls [] h k x g e = absurd (none-some x g)
named_there ls (y ∷ ys) [] k x g e = absurd (true≢false (sym e))
named_there ls (y ∷ ys) (false ∷ h) zero x g e = absurd (true≢false (sym e))
named_there ls (y ∷ ys) (true ∷ h) zero x g e =
    or_left (lock_number ls y == lock_number ls x) (has_lock (numbers ls ys h) (lock_number ls x))
    (eq-eqb (lock_number ls y) (lock_number ls x) (ap (lock_number ls) (same_Some y x g)))
named_there ls (y ∷ ys) (true ∷ h) (suc k) x g e =
    or_right (lock_number ls y == lock_number ls x) (has_lock (numbers ls ys h) (lock_number ls x)) (named_there ls ys h k x g e)
named_there ls (y ∷ ys) (false ∷ h) (suc k) x g e = named_there ls ys h k x g e

-- and in some place
pub place_of : (ls : List ℤ) (names : List e.LockName) (h : Held) (k : ℕ) (x : e.LockName) → slice_get names k ≡ Some x → holds h k ≡ true →
    (i : ℕ) × (slice_get (numbers ls names h) i ≡ Some (lock_number ls x))
place_of ls [] h k x g e = absurd (none-some x g)
place_of ls (y ∷ ys) [] k x g e = absurd (true≢false (sym e))
place_of ls (y ∷ ys) (false ∷ h) zero x g e = absurd (true≢false (sym e))
place_of ls (y ∷ ys) (true ∷ h) zero x g d = (0, ap (λ (z : e.LockName). Some (lock_number ls z)) (same_Some y x g))
place_of ls (y ∷ ys) (true ∷ h) (suc k) x g e = let r = place_of ls ys h k x g e in (suc r.0, r.1)
place_of ls (y ∷ ys) (false ∷ h) (suc k) x g e = place_of ls ys h k x g e

rest_once : (lock : ℕ) (locks : List ℕ) → AreOnce (lock ∷ locks) → AreOnce locks
rest_once lock locks h i j other a b = let s : suc i ≡ suc j = h (suc i) (suc j) other a b in omega (arith, s)

first_once : (lock : ℕ) (locks : List ℕ) → AreOnce (lock ∷ locks) → (i : ℕ) → slice_get locks i ≡ Some lock → ⊥
first_once lock locks h i there = let s : 0 ≡ suc i = h 0 (suc i) lock refl there in omega (arith, s)

-- no two of them have one lock
abbrev pub AreApart : (ls : List ℤ) → List e.LockName → Held → Type 0
AreApart ls names h = (one other : ℕ) (x y : e.LockName) → slice_get names one ≡ Some x → slice_get names other ≡ Some y → holds h one ≡ true →
    holds h other ≡ true → lock_number ls x ≡ lock_number ls y → one ≡ other

-- where no lock is there twice
pub apart_by : (ls : List ℤ) (names : List e.LockName) (h : Held) → AreOnce (numbers ls names h) → AreApart ls names h
apart_by ls [] h onces one other x y a b c d same = absurd (none-some x a)
apart_by ls (z ∷ names) [] onces one other x y a b c d same = absurd (true≢false (sym c))
apart_by ls (z ∷ names) (false ∷ h) onces zero other x y a b c d same = absurd (true≢false (sym c))
apart_by ls (z ∷ names) (false ∷ h) onces (suc one) zero x y a b c d same = absurd (true≢false (sym d))
apart_by ls (z ∷ names) (false ∷ h) onces (suc one) (suc other) x y a b c d same = ap suc (apart_by ls names h onces one other x y a b c d same)
apart_by ls (z ∷ names) (true ∷ h) onces zero zero x y a b c d same = refl
apart_by ls (z ∷ names) (true ∷ h) onces zero (suc other) x y a b c d same =
    let r = place_of ls names h other y b d in
    absurd (first_once (lock_number ls z) (numbers ls names h) onces r.0
    (r.1 ∙ ap (λ (n : ℕ). Some n) (sym same ∙ ap (lock_number ls) (sym (same_Some z x a)))))
apart_by ls (z ∷ names) (true ∷ h) onces (suc one) zero x y a b c d same =
    let r = place_of ls names h one x a c in
    absurd (first_once (lock_number ls z) (numbers ls names h) onces r.0
    (r.1 ∙ ap (λ (n : ℕ). Some n) (same ∙ ap (lock_number ls) (sym (same_Some z y b)))))
apart_by ls (z ∷ names) (true ∷ h) onces (suc one) (suc other) x y a b c d same =
    ap suc (apart_by ls names h (rest_once (lock_number ls z) (numbers ls names h) onces) one other x y a b c d same)

-- in a longer list
later_apart : (ls : List ℤ) (z : e.LockName) (names : List e.LockName) (first : Bool) (h : Held) → AreApart ls (z ∷ names) (first ∷ h) → AreApart ls names h
later_apart ls z names first h apart one other x y a b c d same =
    let s : suc one ≡ suc other = apart (suc one) (suc other) x y a b c d same in omega (arith, s)

some_name : (ls : List ℤ) (names : List e.LockName) (h : Held) (i lock : ℕ) → slice_get (numbers ls names h) i ≡ Some lock → IsOfName names h ls lock
some_name ls [] h i lock a = absurd (none-some lock a)
some_name ls (z ∷ names) [] i lock a = absurd (none-some lock a)
some_name ls (z ∷ names) (false ∷ h) i lock a =
    let r = some_name ls names h i lock a in
    record { number = suc r.number; name = r.name; there = r.there; held = r.held; is = r.is }
some_name ls (z ∷ names) (true ∷ h) zero lock a = record { number = 0; name = z; there = refl; held = refl; is = same_Some (lock_number ls z) lock a }
some_name ls (z ∷ names) (true ∷ h) (suc i) lock a =
    let r = some_name ls names h i lock a in
    record { number = suc r.number; name = r.name; there = r.there; held = r.held; is = r.is }

-- the first one's lock is no later one's
alone : (ls : List ℤ) (z : e.LockName) (names : List e.LockName) (h : Held) → AreApart ls (z ∷ names) (true ∷ h) → (i : ℕ) →
    slice_get (numbers ls names h) i ≡ Some (lock_number ls z) → ⊥
alone ls z names h apart i there =
    let r = some_name ls names h i (lock_number ls z) there in
    let s : 0 ≡ suc r.number = apart 0 (suc r.number) z r.name refl r.there refl r.held (sym r.is) in omega (arith, s)

-- and where no two have one, none is there twice
pub once_by : (ls : List ℤ) (names : List e.LockName) (h : Held) → AreApart ls names h → AreOnce (numbers ls names h)
once_by ls [] h apart i j lock a b = absurd (none-some lock a)
once_by ls (z ∷ names) [] apart i j lock a b = absurd (none-some lock a)
once_by ls (z ∷ names) (false ∷ h) apart i j lock a b = once_by ls names h (later_apart ls z names false h apart) i j lock a b
once_by ls (z ∷ names) (true ∷ h) apart zero zero lock a b = refl
once_by ls (z ∷ names) (true ∷ h) apart zero (suc j) lock a b = absurd (alone ls z names h apart j (b ∙ sym a))
once_by ls (z ∷ names) (true ∷ h) apart (suc i) zero lock a b = absurd (alone ls z names h apart i (a ∙ sym b))
once_by ls (z ∷ names) (true ∷ h) apart (suc i) (suc j) lock a b = ap suc (once_by ls names h (later_apart ls z names true h apart) i j lock a b)

-- ---- At a node of a plan's thread

module _ (p : Plan) (plan : IsPlan p) (t : Thread) (of : IsThread p t) where
  abbrev names : List e.LockName
  names = lock_names p.flat of.text

  -- whatever numbers of their kinds its locals have, each name has a lock
  pub name_below : (ls : List ℤ) → AllZip Holds t.kinds ls → (k : ℕ) (x : e.LockName) → slice_get names k ≡ Some x → lock_number ls x < length p.flat.mutexes
  name_below ls held k x there =
      lock_below p.flat.mutexes of.text.locals ls x (subst (λ (ks : List Kind). AllZip Holds ks ls) of.kinds held)
      (all_at (IsFlatLockName p.flat.mutexes of.text.locals) names k x
      (names_formed p.flat of.text.locals of.text
      (all_at (λ (u : f.Thread). AreFlatStatements p.flat u.locals u.body) p.flat.threads t.number of.text plan.formed.threads of.of_text)) there)

  -- the locks before a node, by its text's names
  pub locks_are : (ls : List ℤ) (node : ℕ) → locks_before p t ls node ≡ numbers ls names (set_before p t node)
  locks_are ls node = ap (λ (ns : List e.LockName). numbers ls ns (set_before p t node)) (names_are p t of)

  -- a log can hold them
  pub loggable : (ls : List ℤ) → AllZip Holds t.kinds ls → (node : ℕ) → AreLoggable p.log (locks_before p t ls node)
  loggable ls held node = (locks_kept p.log).room (locks_before p t ls node) (plan.room t ls node) fit
    where
      fit : (lock : ℕ) → Contains (locks_before p t ls node) lock → lock < 2 ^ 64
      fit lock c =
          let there = has_there (locks_before p t ls node) lock c in
          let own = found_name ls names (set_before p t node) lock
          (subst (λ (locks : List ℕ). has_lock locks lock ≡ true) (locks_are ls node) there) in
          let low = name_below ls held own.number own.name own.there in
          let same = own.is in
          let few = plan.formed.shared.mutexes in
          omega (arith, low, same, few)

  -- the locals of the keys of held names are among these
  abbrev pub AreKeysAmong : (Counts : ℕ → Type 0) → (node : ℕ) → Type 0
  AreKeysAmong Counts node =
      (k : ℕ) (x : e.LockName) → slice_get (names_in p t) k ≡ Some x → holds (set_before p t node) k ≡ true → (local : ℕ) → Contains (key_locals x) local →
      Counts local

  pub keys_alive : (node : ℕ) → IsNodeOf t node → AreKeysAmong (λ (local : ℕ). IsLive p.graph local node) node
  keys_alive node own k x there held local c = plan.keys_live t of node own k local x there held c

  -- by numbers that are the same of these they are the same
  pub live_same : (Counts : ℕ → Type 0) (ls js : List ℤ) (node : ℕ) → AreKeysAmong Counts node →
      ((local : ℕ) → Counts local → slice_index_or ls local (pos 0) ≡ slice_index_or js local (pos 0)) →
      (k : ℕ) (x : e.LockName) → slice_get names k ≡ Some x → holds (set_before p t node) k ≡ true → lock_number ls x ≡ lock_number js x
  live_same Counts ls js node keys same k x there held =
      lock_same ls js x (λ local c. same local (keys k x (ap (λ (ns : List e.LockName). slice_get ns k) (names_are p t of) ∙ there) held local c))

  pub locks_same : (Counts : ℕ → Type 0) (ls js : List ℤ) (node : ℕ) → AreKeysAmong Counts node →
      ((local : ℕ) → Counts local → slice_index_or ls local (pos 0) ≡ slice_index_or js local (pos 0)) →
      locks_before p t ls node ≡ locks_before p t js node
  locks_same Counts ls js node keys same =
      locks_are ls node
      ∙ (numbers_same ls js names (set_before p t node) (live_same Counts ls js node keys same) ∙ sym (locks_are js node))
