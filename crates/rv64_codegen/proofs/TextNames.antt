-- The names of a thread's table: each is formed, needs few temporaries, and costs no more than the thread.
use Rattle.std.proofs.Common.{◌≡◌, ◌==◌, ℕ, zero, suc, ◌+◌, ◌≤◌, List, [], ◌∷◌, ◌++◌, filter, refl, sym, arith, subst}
use Rattle.std.proofs.Common.{Bool, true, false, Option, Some, None, if◌then◌else◌}
use Rattle.std.specs.Prelude.{flat_map, slice_get}
use Rattle.std.specs.List.{AllByRecursion, list_any}
use Rattle.std.proofs.lemmas.Option.{none-some, same_Some}
use Rattle.ido_base.specs.declared.limits.TheConstants.{MOST_PRICE}
use Rattle.ido_ints.specs.declared.kinds.Kind.{Kind}
use Rattle.c_tree.specs.Exprs as e
use Rattle.c_tree.specs.Flats as f
use Rattle.c_tree.specs.LockNames.{lock_names, locks_in, locks_in_all, locks_in_arms, names_from, once, same_lock}
use Rattle.c_tree.specs.Prices.{key_nodes, node_price, statement_price, statements_price, arms_price, thread_price}
use Rattle.c_tree.specs.Programs.{Mutex}
use Rattle.c_tree.specs.Temporaries.{arms_exprs, key_exprs, statement_exprs, statements_exprs, temporaries_fault}
use Rattle.c_tree.specs.WellFormed.{IsFlatLockName, IsFlatStatement, AreFlatArms, AreFlatStatements}
use Rattle.c_tree.proofs.Public.{name_there}
use Rattle.c_ranges.proofs.Public.{key_expr}
use Rattle.flow_graph.proofs.Public.{all_at}
use Rattle.thread_code.specs.Plans.{Plan, IsPlan, Thread, IsThread, homes, names_in}
use Rattle.thread_code.proofs.Public.{names_are}
use Rattle.rv64_codegen.specs.Evaluations.{NeedFew}
use Rattle.rv64_codegen.specs.Locals.{HasHomes}
use Rattle.rv64_codegen.specs.links.Numbers.{IsReady}
use Rattle.rv64_codegen.proofs.Homes.{has_homes}
use Rattle.rv64_codegen.proofs.NeededTemporaries.{Quiet, all_quiet, body_exprs, few_of, quiet_both, quiet_head}
use Rattle.rv64_codegen.proofs.PlannedNodes.{cheap_text}
use Rattle.rv64_codegen.proofs.ReadLocals.{formed_is_at_home}

-- ---- What holds of all that a text locks holds of its table

module _ (P : e.LockName → Type 0) where
  all_both : (xs ys : List e.LockName) → AllByRecursion P xs → AllByRecursion P ys → AllByRecursion P (xs ++ ys)
  all_both [] ys h k = k
  all_both (x ∷ xs) ys h k = (h.0, all_both xs ys h.1 k)

  all_filtered : (test : e.LockName → Bool) (xs : List e.LockName) → AllByRecursion P xs → AllByRecursion P (filter test xs)
  all_filtered test [] h = tt
  all_filtered test (x ∷ xs) h = by (test x) (all_filtered test xs h.1)
    where
      by : (b : Bool) → AllByRecursion P (filter test xs) → AllByRecursion P (if b then x ∷ filter test xs else filter test xs)
      by true rest = (h.0, rest)
      by false rest = rest

  all_once : (before xs : List e.LockName) → AllByRecursion P xs → AllByRecursion P (once before xs)
  all_once before [] h = tt
  all_once before (x ∷ xs) h = by (list_any (same_lock x) before) (all_once before xs h.1) (all_once (x ∷ before) xs h.1)
    where
      by : (b : Bool) → AllByRecursion P (once before xs) → AllByRecursion P (once (x ∷ before) xs) →
          AllByRecursion P (if b then once before xs else x ∷ once (x ∷ before) xs)
      by true same more = same
      by false same more = (h.0, more)

  -- and of each mutex that is in no array
  all_named : (n : ℕ) (ms : List Mutex) (xs : List e.LockName) →
      ((k : ℕ) (it : Mutex) → slice_get ms k ≡ Some it → it.length ≡ None → P (record { mutex = n + k; key = None })) → AllByRecursion P xs →
      AllByRecursion P (names_from n ms xs)
  all_named n [] xs alone h = tt
  all_named n (m ∷ ms) xs alone h = by m.length refl (all_named (suc n) ms xs later h)
    where
      later : (k : ℕ) (it : Mutex) → slice_get ms k ≡ Some it → it.length ≡ None → P (record { mutex = suc n + k; key = None })
      later k it found none =
          let e : n + suc k ≡ suc n + k = omega arith in
          subst (λ (i : ℕ). P (record { mutex = i; key = None })) e (alone (suc k) it found none)

      by : (o : Option ℕ) → m.length ≡ o → AllByRecursion P (names_from (suc n) ms xs) → AllByRecursion P (elim o [
        | None ↦ record { mutex = n; key = None } ∷ names_from (suc n) ms xs
        | Some count ↦ filter (λ (x : e.LockName). x.mutex == n) xs ++ names_from (suc n) ms xs
      ])
      by None is rest =
          let e : n + 0 ≡ n = omega arith in
          (subst (λ (i : ℕ). P (record { mutex = i; key = None })) e (alone 0 m refl is), rest)
      by (Some count) is rest =
          all_both (filter (λ (x : e.LockName). x.mutex == n) xs) (names_from (suc n) ms xs)
          (all_filtered (λ (x : e.LockName). x.mutex == n) xs h) rest

-- ---- Texts

-- a name that is formed, whose key needs few temporaries and costs no more than that
pub record IsSound (x : f.Flat) (ks : List Kind) (most : ℕ) (y : e.LockName) : Type 0 where
  pub formed : IsFlatLockName x.mutexes ks y
  pub few : NeedFew (key_exprs y)
  pub cheap : node_price (key_nodes y) ≤ most

module _ (x : f.Flat) (ks : List Kind) (most : ℕ) where
  abbrev AreSound : List e.LockName → Type 0
  AreSound ys = AllByRecursion (IsSound x ks most) ys

  mutual
    sound : (s : f.Statement) → IsFlatStatement x ks s → Quiet (statement_exprs s) → statement_price s ≤ most → AreSound (locks_in s)
    sound (f.Assign place target value) w q c = tt
    sound (f.If place arms otherwise) w q c =
        let both = quiet_both (arms_exprs arms) (statements_exprs otherwise) q in
        all_both (IsSound x ks most) (locks_in_arms arms) (locks_in_all otherwise) (sound_arms arms w.1 both.0 (omega (arith, c)))
        (sound_all otherwise w.2 both.1 (omega (arith, c)))
    sound (f.While place condition body) w q c = sound_all body w.1 (quiet_head condition (statements_exprs body) q).1 (omega (arith, c))
    sound (f.Do place body condition) w q c = sound_all body w.0 (quiet_both (statements_exprs body) (condition ∷ []) q).0 (omega (arith, c))
    sound (f.Lock place lock) w q c = (record { formed = w; few = few_of (key_exprs lock) q; cheap = c }, tt)
    sound (f.Unlock place lock) w q c = tt

    sound_all : (ss : f.Statements) → AreFlatStatements x ks ss → Quiet (statements_exprs ss) → statements_price ss ≤ most → AreSound (locks_in_all ss)
    sound_all f.no_statement w q c = tt
    sound_all (f.statement_and s rest) w q c =
        let both = quiet_both (statement_exprs s) (statements_exprs rest) q in
        all_both (IsSound x ks most) (locks_in s) (locks_in_all rest) (sound s w.0 both.0 (omega (arith, c))) (sound_all rest w.1 both.1 (omega (arith, c)))

    sound_arms : (arms : f.Arms) → AreFlatArms x ks arms → Quiet (arms_exprs arms) → arms_price arms ≤ most → AreSound (locks_in_arms arms)
    sound_arms f.no_arm w q c = tt
    sound_arms (f.arm_and condition body rest) w q c =
        let both = quiet_both (condition ∷ statements_exprs body) (arms_exprs rest) q in
        let own = quiet_head condition (statements_exprs body) both.0 in
        all_both (IsSound x ks most) (locks_in_all body) (locks_in_arms rest) (sound_all body w.1 own.1 (omega (arith, c)))
        (sound_arms rest w.2 both.1 (omega (arith, c)))

  names_sound : (t : f.Thread) → AreFlatStatements x ks t.body → Quiet (statements_exprs t.body) → thread_price t ≤ most → AreSound (lock_names x t)
  names_sound t w q c =
      all_named (IsSound x ks most) 0 x.mutexes (once [] (locks_in_all t.body)) alone
      (all_once (IsSound x ks most) [] (locks_in_all t.body) (sound_all t.body w q (omega (arith, c))))
    where
      alone : (k : ℕ) (it : Mutex) → slice_get x.mutexes k ≡ Some it → it.length ≡ None → IsSound x ks most (record { mutex = 0 + k; key = None })
      alone k it found none =
          let e : k ≡ 0 + k = omega arith in
          subst (λ (i : ℕ). IsSound x ks most (record { mutex = i; key = None })) e
          (record { formed = record { it = it; found = found; single = none }; few = tt; cheap = omega (arith, c) })

quiet_thread : (ts : List f.Thread) (k : ℕ) (t : f.Thread) → Quiet (flat_map body_exprs ts) → slice_get ts k ≡ Some t → Quiet (body_exprs t)
quiet_thread [] k t q g = absurd (none-some t g)
quiet_thread (u ∷ ts) zero t q g =
    subst (λ (z : f.Thread). Quiet (body_exprs z)) (same_Some u t g) (quiet_both (body_exprs u) (flat_map body_exprs ts) q).0
quiet_thread (u ∷ ts) (suc k) t q g = quiet_thread ts k t (quiet_both (body_exprs u) (flat_map body_exprs ts) q).1 g

-- ---- The names of a plan's thread

module _ (p : Plan) (plan : IsPlan p) (t : Thread) (th : IsThread p t) where
  at_home : HasHomes p.flat.variables t.kinds (homes p t)
  at_home = subst (λ (ks : List Kind). HasHomes p.flat.variables ks (homes p t)) (sym th.kinds) (has_homes p plan t th)

  ready_by : (mutex : ℕ) (key : Option e.Placed) → IsFlatLockName p.flat.mutexes t.kinds (record { mutex = mutex; key = key }) →
      NeedFew (key_exprs (record { mutex = mutex; key = key })) → node_price (key_nodes (record { mutex = mutex; key = key })) ≤ MOST_PRICE →
      IsReady (homes p t) (record { mutex = mutex; key = key })
  ready_by mutex None formed few cheap =
      let low = name_there p.flat.mutexes t.kinds (record { mutex = mutex; key = None }) formed in
      (omega (arith, low, plan.formed.shared.mutexes), tt)
  ready_by mutex (Some key) formed few cheap =
      let low = name_there p.flat.mutexes t.kinds (record { mutex = mutex; key = Some key }) formed in
      let expr = key_expr p.flat.variables t.kinds key.expr formed.reads in
      (omega (arith, low, plan.formed.shared.mutexes), (formed_is_at_home p.flat.variables t.kinds (homes p t) key.expr at_home expr, few.0, cheap))

  -- the code of its number may be made
  pub name_ready : (y : e.LockName) → IsFlatLockName p.flat.mutexes t.kinds y → NeedFew (key_exprs y) → node_price (key_nodes y) ≤ MOST_PRICE →
      IsReady (homes p t) y
  name_ready y formed few cheap = ready_by y.mutex y.key formed few cheap

  module _ (shallow : temporaries_fault p.flat ≡ None) where
    pub names_are_sound : AllByRecursion (IsSound p.flat t.kinds MOST_PRICE) (names_in p t)
    names_are_sound =
        subst (λ (ns : List e.LockName). AllByRecursion (IsSound p.flat t.kinds MOST_PRICE) ns) (sym (names_are p t th))
        (subst (λ (ks : List Kind). AllByRecursion (IsSound p.flat ks MOST_PRICE) (lock_names p.flat th.text)) (sym th.kinds)
        (names_sound p.flat th.text.locals MOST_PRICE th.text
        (all_at (λ (u : f.Thread). AreFlatStatements p.flat u.locals u.body) p.flat.threads t.number th.text plan.formed.threads th.of_text)
        (quiet_thread p.flat.threads t.number th.text (all_quiet p.flat shallow) th.of_text) (cheap_text p plan t th)))

    pub names_formed : AllByRecursion (IsFlatLockName p.flat.mutexes t.kinds) (names_in p t)
    names_formed = by (names_in p t) names_are_sound
      where
        by : (ys : List e.LockName) → AllByRecursion (IsSound p.flat t.kinds MOST_PRICE) ys → AllByRecursion (IsFlatLockName p.flat.mutexes t.kinds) ys
        by [] h = tt
        by (y ∷ ys) h = (h.0.formed, by ys h.1)

    pub names_ready : AllByRecursion (IsReady (homes p t)) (names_in p t)
    names_ready = by (names_in p t) names_are_sound
      where
        by : (ys : List e.LockName) → AllByRecursion (IsSound p.flat t.kinds MOST_PRICE) ys → AllByRecursion (IsReady (homes p t)) ys
        by [] h = tt
        by (y ∷ ys) h = (name_ready y h.0.formed h.0.few h.0.cheap, by ys h.1)
