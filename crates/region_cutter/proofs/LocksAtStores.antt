-- Stores of a disciplined thread stand where their variables' mutexes are held.
use Rattle.std.proofs.Common.{◌≡◌, ◌≢◌, inl, inr, ℕ, zero, suc, ◌+◌, ◌-◌, ◌<◌, ◌≤◌, Bool, true, false, not, cond, List, [], ◌∷◌, ◌++◌, length, Option, Some}
use Rattle.std.proofs.Common.{None, refl, ap, ap₂, sym, subst, ◌∙◌, arith}
use Rattle.std.specs.Prelude.{slice_get, find}
use Rattle.std.proofs.lemmas.Bool.{cases_lt}
use Rattle.std.proofs.lemmas.Option.{slice_get_within}
use Rattle.ido_base.specs.declared.place.Place.{Place}
use Rattle.ido_base.specs.declared.location.Location.{Location}
use Rattle.ido_ints.specs.declared.kinds.Kind.{Kind}
use Rattle.c_tree.specs.Exprs as e
use Rattle.c_tree.specs.Programs.{Variable}
use Rattle.c_tree.specs.Flats as f
use Rattle.c_tree.specs.LockNames.{Held, holds, none_held, lock_names, number_in}
use Rattle.c_tree.specs.LockDiscipline.{Use, expr_uses, assign_uses, guard_name, is_guarded, AreGuarded, Keeps, KeepAll, KeepArms, assign}
use Rattle.c_tree.specs.LockDiscipline.{choose, repeat, again, lock, unlock, no_more, then, no_more_arms, arm, IsDisciplined}
use Rattle.lock_discipline.specs.Masks.{mask_of}
use Rattle.lock_discipline.specs.HeldSetsByStep.{steps, steps_of_all, steps_of_arms, AreSetsOf, AreAllSetsOf}
use Rattle.lock_discipline.specs.links.Flow.{held_after_all, sets_in, sets_in_all, sets_in_arms, thread_sets}
use Rattle.lock_discipline.proofs.Public.{boundary_after_is, thread_sets_are}
use Rattle.flow_graph.specs.declared.graph.Part.{Part}
use Rattle.flow_graph.specs.Nodes.{Node, Store, End}
use Rattle.flow_graph.specs.Liveness.{NodeAt}
use Rattle.flow_graph.specs.Lowering.{table_of, Table, lowered, assign_nodes, count, statements_count}
use Rattle.flow_graph.specs.Lowering.{arms_count, thread_count, entry, statement_nodes, statements_nodes}
use Rattle.flow_graph.specs.Lowering.{arms_nodes, thread_nodes, threads_nodes, part, parts, plain_node, test_node}
use Rattle.flow_graph.proofs.Public.{found_in, lowered_nodes, lowered_threads}
use Rattle.region_cutter.specs.LocksAtBoundaries.{IsHeldAt, ChosenAreLocked, NodesAreSteps}

-- ---- Sets

-- a set that holds a mutex has a mask that isn't 0
masked : (h : Held) (mutex : ℕ) → holds h mutex ≡ true → mask_of h ≢ 0
masked [] mutex is zero' = cc
masked (true ∷ h) zero is zero' = omega (arith, zero')
masked (false ∷ h) zero is zero' = cc
masked (true ∷ h) (suc m) is zero' = omega (arith, zero')
masked (false ∷ h) (suc m) is zero' = masked h m is (omega (arith, zero'))

pub none_either : {X : Type 0} (b : Bool) (x : X) (o : Option X) → cond b (Some x) o ≡ None → (b ≡ false) × (o ≡ None)
none_either true x o e = absurd (cc)
none_either false x o e = (refl, e)

none_there : {X : Type 0} (p : X → Bool) (us vs : List X) (u : X) → find p (us ++ u ∷ vs) ≡ None → p u ≡ false
none_there p [] vs u e = (none_either (p u) u (find p vs) e).0
none_there p (w ∷ us) vs u e = none_there p us vs u (none_either (p w) w (find p (us ++ u ∷ vs)) e).1

yes : (b : Bool) → not b ≡ false → b ≡ true
yes true e = refl
yes false e = absurd (cc)

-- ---- Nodes and the sets before them

-- the node stores a variable that is used, and the name of the lock that guards this use is in the set
record Stores (vs : List Variable) (names : List e.LockName) (h : Held) (x : Node) : Type 0 where
  pub used : Use
  pub kind : Kind
  pub next : ℕ
  pub stores : x.action ≡ Store used.variable kind next
  pub locked : is_guarded vs names h used ≡ true

-- if it writes
abbrev Guarded : List Variable → List e.LockName → Held → Node → Type 0
Guarded vs names h x = (written : Location) → x.writes ≡ Some written → Stores vs names h x

abbrev AllGuarded : List Variable → List e.LockName → List Held → List Node → Type 0
AllGuarded vs names [] [] = Unit {0}
AllGuarded vs names [] (x ∷ xs) = ⊥
AllGuarded vs names (h ∷ hs) [] = ⊥
AllGuarded vs names (h ∷ hs) (x ∷ xs) = Guarded vs names h x × AllGuarded vs names hs xs

quiet : (vs : List Variable) (names : List e.LockName) (h : Held) (x : Node) → x.writes ≡ None → Guarded vs names h x
quiet vs names h x none w is = absurd (let both : None ≡ Some w = sym none ∙ is in cc)

joined : (vs : List Variable) (names : List e.LockName) (hs ks : List Held) (xs ys : List Node) → AllGuarded vs names hs xs → AllGuarded vs names ks ys →
    AllGuarded vs names (hs ++ ks) (xs ++ ys)
joined vs names [] ks [] ys a b = b
joined vs names [] ks (x ∷ xs) ys a b = absurd a
joined vs names (h ∷ hs) ks [] ys a b = absurd a
joined vs names (h ∷ hs) ks (x ∷ xs) ys a b = (a.0, joined vs names hs ks xs ys a.1 b)

guarded_at : (vs : List Variable) (names : List e.LockName) (hs : List Held) (xs : List Node) (n : ℕ) (h : Held) (x : Node) → AllGuarded vs names hs xs →
    slice_get hs n ≡ Some h →
    slice_get xs n ≡ Some x → Guarded vs names h x
guarded_at vs names [] xs n h x a at at' = absurd (cc)
guarded_at vs names (k ∷ hs) [] n h x a at at' = absurd a
guarded_at vs names (k ∷ hs) (y ∷ xs) zero h x a at at' =
    let one : k ≡ h = cc in
    let two : y ≡ x = cc in
    subst (λ (z : Node). Guarded vs names h z) two (subst (λ (z : Held). Guarded vs names z y) one a.0)
guarded_at vs names (k ∷ hs) (y ∷ xs) (suc n) h x a at at' = guarded_at vs names hs xs n h x a.1 at at'

guarded_long : (vs : List Variable) (names : List e.LockName) (hs : List Held) (xs : List Node) → AllGuarded vs names hs xs → length xs ≡ length hs
guarded_long vs names [] [] a = refl
guarded_long vs names [] (x ∷ xs) a = absurd a
guarded_long vs names (h ∷ hs) [] a = absurd a
guarded_long vs names (h ∷ hs) (x ∷ xs) a = ap suc (guarded_long vs names hs xs a.1)

module _ (vs : List Variable) (names : List e.LockName) where
  stored : (h : Held) (us rest : List Use) (u : Use) → AreGuarded vs names h (us ++ u ∷ rest) → is_guarded vs names h u ≡ true
  stored h us rest u g = yes (is_guarded vs names h u) (none_there (λ (w : Use). not (is_guarded vs names h w)) us rest u g)

  guarded_assign : (table : Table) (place : Place) (target : e.Lvalue) (value : e.Placed) (h : Held) (first next : ℕ) →
      AreGuarded vs names h (assign_uses target value) →
      AllGuarded vs names (sets_in names h (f.Assign place target value)) (assign_nodes table place target value first next)
  guarded_assign table place (e.ToLocal name local kind) value h first next g = (quiet vs names h _ refl, tt)
  guarded_assign table place (e.ToVariable name variable kind) value h first next g = (
    quiet vs names h _ refl,
    (
      (λ w is.
          let u : Use = record { variable = variable; place = name; index = None } in
          record { used = u; kind = kind; next = next; stores = refl; locked = stored h (expr_uses value.expr) [] u g }),
      tt,
    ),
  )
  guarded_assign table place (e.ToElement name variable kind index) value h first next g = (
    quiet vs names h _ refl,
    (
      (λ w is.
          let u : Use = record { variable = variable; place = name; index = Some index } in
          record { used = u; kind = kind; next = next; stores = refl; locked = stored h (expr_uses value.expr) (expr_uses index.expr) u g }),
      tt,
    ),
  )

  mutual
    guarded : (table : Table) {h after : Held} {s : f.Statement} → Keeps vs names h s after → (first next : ℕ) →
        AllGuarded vs names (sets_in names h s) (statement_nodes table s first next)
    guarded table (assign {h = h} place target value g free) first next = guarded_assign table place target value h first next g
    guarded table (choose {h = h} place arms otherwise p q) first next =
        let last = entry (statements_count otherwise) (first + arms_count arms) next in
        joined vs names (sets_in_arms names h arms) (sets_in_all names h otherwise) (arms_nodes table arms place last first next)
        (statements_nodes table otherwise (first + arms_count arms) next)
        (guarded_arms table p place last first next) (guarded_all table q (first + arms_count arms) next)
    guarded table (repeat {h = h} place condition body g p) first next = (quiet vs names h _ refl, guarded_all table p (suc first) first)
    guarded table (again {h = h} place body condition p g) first next =
        joined vs names (sets_in_all names h body) (held_after_all names h body ∷ []) (statements_nodes table body first (first + statements_count body))
        (test_node table place condition first next ∷ [])
        (guarded_all table p first (first + statements_count body)) (quiet vs names (held_after_all names h body) _ refl, tt)
    guarded table (lock {h = h} place name free) first next = (quiet vs names h _ refl, tt)
    guarded table (unlock {h = h} place name held) first next = (quiet vs names h _ refl, tt)

    guarded_all : (table : Table) {h after : Held} {ss : f.Statements} → KeepAll vs names h ss after → (first next : ℕ) →
        AllGuarded vs names (sets_in_all names h ss) (statements_nodes table ss first next)
    guarded_all table no_more first next = tt
    guarded_all table (then {h = h} x rest p q) first next =
        let further = entry (statements_count rest) (first + count x) next in
        let tail = statements_nodes table rest (first + count x) next in
        joined vs names (sets_in names h x) _ (statement_nodes table x first further) tail (guarded table p first further)
        (subst (λ (k : Held). AllGuarded vs names (sets_in_all names k rest) tail) (sym (boundary_after_is vs names p))
        (guarded_all table q (first + count x) next))

    guarded_arms : (table : Table) {h after : Held} {arms : f.Arms} → KeepArms vs names h arms after → (place : Place) (last first next : ℕ) →
        AllGuarded vs names (sets_in_arms names h arms) (arms_nodes table arms place last first next)
    guarded_arms table no_more_arms place last first next = tt
    guarded_arms table (arm {h = h} condition body rest g p q) place last first next =
        let further = suc first + statements_count body in (
          quiet vs names h _ refl,
          joined vs names (sets_in_all names h body) (sets_in_arms names h rest) (statements_nodes table body (suc first) next)
              (arms_nodes table rest place last further next)
              (guarded_all table p (suc first) next) (guarded_arms table q place last further next),
        )

-- ---- There are as many steps as nodes

steps_assign : (target : e.Lvalue) (place : Place) (value : e.Placed) → steps (f.Assign place target value) ≡ count (f.Assign place target value)
steps_assign (e.ToLocal name local kind) place value = refl
steps_assign (e.ToVariable name variable kind) place value = refl
steps_assign (e.ToElement name variable kind index) place value = refl

mutual
  steps_are : (x : f.Statement) → steps x ≡ count x
  steps_are (f.Assign place target value) = steps_assign target place value
  steps_are (f.If place arms otherwise) = ap₂ ◌+◌ (steps_arms arms) (steps_all otherwise)
  steps_are (f.While place condition body) = ap suc (steps_all body)
  steps_are (f.Do place body condition) = omega (arith, steps_all body)
  steps_are (f.Lock place name) = refl
  steps_are (f.Unlock place name) = refl

  steps_all : (xs : f.Statements) → steps_of_all xs ≡ statements_count xs
  steps_all f.no_statement = refl
  steps_all (f.statement_and x rest) = ap₂ ◌+◌ (steps_are x) (steps_all rest)

  steps_arms : (xs : f.Arms) → steps_of_arms xs ≡ arms_count xs
  steps_arms f.no_arm = refl
  steps_arms (f.arm_and condition body rest) = ap suc (ap₂ ◌+◌ (steps_all body) (steps_arms rest))

-- ---- Threads

module _ (x : f.Flat) where
  abbrev own_sets : f.Thread → List Held
  own_sets t = thread_sets (lock_names x t) t

  guarded_thread : (t : f.Thread) (first : ℕ) → IsDisciplined x t → AllGuarded x.variables (lock_names x t) (own_sets t) (thread_nodes (table_of x t) t first)
  guarded_thread t first d =
      let start = none_held (length (lock_names x t)) in
      joined x.variables (lock_names x t) (sets_in_all (lock_names x t) start t.body) (held_after_all (lock_names x t) start t.body ∷ [])
      (statements_nodes (table_of x t) t.body first (first + statements_count t.body))
      (plain_node t.closing End ∷ [])
      (guarded_all x.variables (lock_names x t) (table_of x t) d first (first + statements_count t.body))
      (quiet x.variables (lock_names x t) (held_after_all (lock_names x t) start t.body) _ refl, tt)

  pub sets_long : (t : f.Thread) (sets : List Held) → AreSetsOf x t sets → length sets ≡ thread_count t
  sets_long t sets are = omega (arith, are.each_step, steps_all t.body)

  nodes_long : (t : f.Thread) (first : ℕ) → IsDisciplined x t → length (thread_nodes (table_of x t) t first) ≡ thread_count t
  nodes_long t first d = guarded_long x.variables (lock_names x t) (own_sets t) (thread_nodes (table_of x t) t first) (guarded_thread t first d) ∙
      sets_long t (own_sets t) (thread_sets_are x t d)

-- ---- Parts of the graph

get_left : (xs ys : List Node) (n : ℕ) → n < length xs → slice_get (xs ++ ys) n ≡ slice_get xs n
get_left [] ys n lt = absurd (omega arith)
get_left (x ∷ xs) ys zero lt = refl
get_left (x ∷ xs) ys (suc n) lt = get_left xs ys n (omega arith)

get_right : (xs ys : List Node) (m n : ℕ) → m ≡ length xs + n → slice_get (xs ++ ys) m ≡ slice_get ys n
get_right [] ys m n e = let same : m ≡ n = omega (arith, e) in ap (slice_get ys) same
get_right (x ∷ xs) ys zero n e = absurd (omega (arith, e))
get_right (x ∷ xs) ys (suc m) n e = get_right xs ys m n (omega (arith, e))

part_from : (ts : List f.Thread) (first n : ℕ) (p : Part) → slice_get (parts ts first) n ≡ Some p → first ≤ p.first
part_from [] first n p at = absurd (cc)
part_from (t ∷ ts) first zero p at =
    let same : part t first ≡ p = cc in
    omega (arith, ap (λ (q : Part). q.first) same)
part_from (t ∷ ts) first (suc n) p at = omega (arith, part_from ts (first + thread_count t) n p at)

module _ (x : f.Flat) where
  abbrev Disciplined : List f.Thread → Type 0
  Disciplined ts = (n : ℕ) (t : f.Thread) → slice_get ts n ≡ Some t → IsDisciplined x t

  -- the node of a thread's step is the thread's own
  own_node : (ts : List f.Thread) (first n m step : ℕ) (p : Part) (t : f.Thread) (y : Node) → Disciplined ts → slice_get (parts ts first) n ≡ Some p →
      slice_get ts n ≡ Some t →
      first + m ≡ p.first + step → step < thread_count t → slice_get (threads_nodes x ts first) m ≡ Some y →
      slice_get (thread_nodes (table_of x t) t p.first) step ≡ Some y
  own_node [] first n m step p t y d at is sum lt got = absurd (cc)
  own_node (t' ∷ ts) first zero m step p t y d at is sum lt got =
      let same : part t' first ≡ p = cc in
      let begin : p.first ≡ first = sym (ap (λ (q : Part). q.first) same) in
      let thread : t' ≡ t = cc in
      let long = nodes_long x t' first (d 0 t' refl) in
      let count' = ap thread_count thread in
      let here : m ≡ step = omega (arith, begin, sum) in
      let node : slice_get (thread_nodes (table_of x t') t' first) m ≡ Some y =
      sym (get_left (thread_nodes (table_of x t') t' first) (threads_nodes x ts (first + thread_count t')) m (omega (arith, long, count', here, lt))) ∙ got in
      subst (λ (s : ℕ). slice_get (thread_nodes (table_of x t) t p.first) s ≡ Some y) here
      (subst (λ (k : ℕ). slice_get (thread_nodes (table_of x t) t k) m ≡ Some y) (sym begin)
      (subst (λ (z : f.Thread). slice_get (thread_nodes (table_of x z) z first) m ≡ Some y) thread node))
  own_node (t' ∷ ts) first (suc n) m step p t y d at is sum lt got =
      let long = nodes_long x t' first (d 0 t' refl) in
      let from = part_from ts (first + thread_count t') n p at in
      let m' = m - thread_count t' in
      own_node ts (first + thread_count t') n m' step p t y (λ k z k'. d (suc k) z k') at is (omega (arith, from, sum)) lt
      (sym (get_right (thread_nodes (table_of x t') t' first) (threads_nodes x ts (first + thread_count t')) m m' (omega (arith, long, from, sum))) ∙ got)

  -- a node is some thread's step
  record Found (ts : List f.Thread) (first m : ℕ) : Type 0 where
    pub n : ℕ
    pub p : Part
    pub t : f.Thread
    pub step : ℕ
    pub own : slice_get (parts ts first) n ≡ Some p
    pub is : slice_get ts n ≡ Some t
    pub sum : first + m ≡ p.first + step
    pub within : step < thread_count t

  found : (ts : List f.Thread) (first m : ℕ) (y : Node) → Disciplined ts → slice_get (threads_nodes x ts first) m ≡ Some y → Found ts first m
  found [] first m y d got = absurd (cc)
  found (t ∷ ts) first m y d got = elim (cases_lt m (thread_count t)) [
    | inl less ↦ record { n = 0; p = part t first; t = t; step = m; own = refl; is = refl; sum = refl; within = less }
    | inr most ↦ (
        let long = nodes_long x t first (d 0 t refl) in
        let m' = m - thread_count t in
        let f' = found ts (first + thread_count t) m' y (λ k z k'. d (suc k) z k')
        (sym (get_right (thread_nodes (table_of x t) t first) (threads_nodes x ts (first + thread_count t)) m m' (omega (arith, long, most))) ∙ got) in
        record {
          n = suc f'.n;
          p = f'.p;
          t = f'.t;
          step = f'.step;
          own = f'.own;
          is = f'.is;
          sum = (let s = f'.sum in omega (arith, s, most));
          within =
              f'.within;
        })
  ]

  disciplined : (table : List (List Held)) → AreAllSetsOf x table → Disciplined x.threads
  disciplined table are n t at =
      let row = found_in table n (omega (arith, slice_get_within x.threads n t at, are.each_thread)) in
      (are.sets n t row.0 at row.1).disciplined

  -- the thread of a row
  thread_of : (table : List (List Held)) (n : ℕ) (sets : List Held) → AreAllSetsOf x table → slice_get table n ≡ Some sets → (t : f.Thread) ×
      (slice_get x.threads n ≡ Some t)
  thread_of table n sets are at = found_in x.threads n (omega (arith, slice_get_within table n sets at, are.each_thread))

  guarded_step : (table : List (List Held)) (thread step node : ℕ) (held : Held) (y : Node) → AreAllSetsOf x table →
      IsHeldAt (lowered x) table thread step node held → NodeAt (lowered x) node y →
      (t : f.Thread) × (slice_get x.threads thread ≡ Some t) × Guarded x.variables (lock_names x t) held y
  guarded_step table thread step node held y are h at =
      let t = thread_of table thread h.sets are h.row in
      let sets = are.sets thread t.0 h.sets t.1 h.row in
      let own : slice_get (own_sets x t.0) step ≡ Some held =
      ((thread_sets_are x t.0 sets.disciplined).exactly step held).1 ((sets.exactly step held).0 h.before) in
      let within = slice_get_within h.sets step held h.before in
      let part' : slice_get (parts x.threads 0) thread ≡ Some h.part =
      subst (λ (ps : List Part). slice_get ps thread ≡ Some h.part) (lowered_threads x) h.own in
      let node' : slice_get (threads_nodes x x.threads 0) node ≡ Some y = subst (λ (ns : List Node). slice_get ns node ≡ Some y) (lowered_nodes x) at in (
        t.0,
        t.1,
        guarded_at x.variables (lock_names x t.0) (own_sets x t.0) (thread_nodes (table_of x t.0) t.0 h.part.first) step held y
            (guarded_thread x t.0 h.part.first sets.disciplined) own
            (own_node x.threads 0 thread node step h.part t.0 y (disciplined table are) part' t.1 (omega (arith, h.is))
            (omega (arith, within, sets_long x t.0 h.sets sets)) node'),
      )

-- ---- The laws

pub chosen_are_locked : ChosenAreLocked
chosen_are_locked x table b thread step node held are places chosen h = elim (places.before node chosen.stands) [
  | inl gives ↦ absurd (chosen.free gives)
  | inr w ↦ (
      let g = guarded_step x table thread step node held w.is are h w.at in
      let s = g.2 w.written w.writes in
      record {
        text = g.0;
        its = g.1;
        is = w.is;
        at = w.at;
        used = s.used;
        kind = s.kind;
        next = s.next;
        stores = s.stores;
        locked = s.locked;
        some = masked held (number_in (lock_names x g.0) (guard_name x.variables s.used)) s.locked;
      })
]

pub nodes_are_steps : NodesAreSteps
nodes_are_steps x table node is are at =
    let found' = found x x.threads 0 node is (disciplined x table are) (subst (λ (ns : List Node). slice_get ns node ≡ Some is) (lowered_nodes x) at) in
    let row = found_in table found'.n (omega (arith, slice_get_within x.threads found'.n found'.t found'.is, are.each_thread)) in
    let sets = are.sets found'.n found'.t row.0 found'.is row.1 in
    let held = found_in row.0 found'.step (let w = found'.within in omega (arith, w, sets_long x found'.t row.0 sets)) in
    record {
      thread = found'.n;
      step = found'.step;
      held = held.0;
      at = record {
        part = found'.p;
        own = subst (λ (ps : List Part). slice_get ps found'.n ≡ Some found'.p) (sym (lowered_threads x)) found'.own;
        is = (let s = found'.sum in omega (arith, s));
        sets = row.0;
        row = row.1;
        before = held.1;
      };
    }
