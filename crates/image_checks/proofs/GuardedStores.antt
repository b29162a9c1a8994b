-- Before a node that stores the lock is held that guards the element, by a name whose number is the key of the node's location, where that has one.
use Rattle.std.proofs.Common.{◌≡◌, refl, ℕ, zero, suc, ◌+◌, ◌-◌, ◌<◌, Bool, true, false, not, cond, List, [], ◌∷◌, ◌++◌, length, Option, Some, None, ap, sym}
use Rattle.std.proofs.Common.{subst, ◌∙◌}
use Rattle.std.specs.Prelude.{slice_get, slice_index_or, find}
use Rattle.std.proofs.lemmas.Option.{get_or_from_slice_get, none-some, same_Some}
use Rattle.ido_base.specs.declared.place.Place.{Place}
use Rattle.ido_base.specs.declared.location.Location.{Location}
use Rattle.c_tree.specs.Exprs as e
use Rattle.c_tree.specs.Flats as f
use Rattle.c_tree.specs.Programs.{Guard, Variable}
use Rattle.c_tree.specs.LockNames.{Held, holds, lock_names, none_held}
use Rattle.c_tree.specs.LockDiscipline.{Use, expr_uses, assign_uses, is_guarded, variable_guard, AreGuarded, Keeps, KeepAll, KeepArms, assign}
use Rattle.c_tree.specs.LockDiscipline.{choose, repeat, again, lock, unlock, no_more, then, no_more_arms, arm, IsDisciplined}
use Rattle.lock_discipline.specs.links.Flow.{held_after_all, sets_in, sets_in_all, sets_in_arms, thread_sets}
use Rattle.lock_discipline.proofs.Public.{boundary_after_is, thread_sets_are}
use Rattle.flow_graph.specs.HeldKeys.{key_number}
use Rattle.flow_graph.specs.Liveness.{NodeAt}
use Rattle.flow_graph.specs.Lowering.{Table, table_of, assign_nodes, count, statements_count, arms_count, elements, scalar}
use Rattle.flow_graph.specs.Lowering.{entry, statement_nodes, statements_nodes, arms_nodes, thread_nodes, plain_node, test_node}
use Rattle.flow_graph.specs.Nodes.{Node, End}
use Rattle.flow_graph.proofs.Public.{found_in, key_held}
use Rattle.rv64_codegen.proofs.Public.{held_sets, held_there, node_in}
use Rattle.thread_code.specs.Plans.{Plan, Thread, IsPlan, IsThread, IsNodeOf, set_before}

-- ---- A store and the set before it

-- the key of the name that guards an access with this index
abbrev pub key_of : List e.LockName → Guard → (index : Option e.Placed) → Option ℕ
key_of names guard None = None
key_of names guard (Some index) = key_number names guard index

-- the location is that of a use of a variable, of its only element where there is no index, and the lock that guards the use is held
pub record IsGuardedStore (vs : List Variable) (names : List e.LockName) (h : Held) (location : Location) : Type 0 where
  pub used : Use
  pub variable_is : location.variable ≡ used.variable
  pub key_is : location.key ≡ key_of names (variable_guard vs used.variable) used.index
  pub single : used.index ≡ None → location.hi ≡ 0
  pub locked : is_guarded vs names h used ≡ true

-- the name that is the location's key is held
pub key_is_held : (vs : List Variable) (names : List e.LockName) (h : Held) (location : Location) → IsGuardedStore vs names h location → (key : ℕ) →
    location.key ≡ Some key → holds h key ≡ true
key_is_held vs names h location g key is = by g.used.variable g.used.place g.used.index (sym g.key_is ∙ is) g.locked
  where
    by : (variable : ℕ) (place : Place) (index : Option e.Placed) → key_of names (variable_guard vs variable) index ≡ Some key →
        is_guarded vs names h (record { variable = variable; place = place; index = index }) ≡ true → holds h key ≡ true
    by variable place None own locked = absurd (none-some key own)
    by variable place (Some index) own locked = key_held vs names h variable place index key own locked

-- ---- Of each set and its node

module _ (P : Held → Node → Type 0) where
  -- the sets and the nodes, one of each at a time
  abbrev pub AreAllPaired : List Held → List Node → Type 0
  AreAllPaired [] [] = Unit {0}
  AreAllPaired [] (x ∷ xs) = ⊥
  AreAllPaired (h ∷ hs) [] = ⊥
  AreAllPaired (h ∷ hs) (x ∷ xs) = P h x × AreAllPaired hs xs

  pub joined : (hs ks : List Held) (xs ys : List Node) → AreAllPaired hs xs → AreAllPaired ks ys → AreAllPaired (hs ++ ks) (xs ++ ys)
  joined [] ks [] ys a b = b
  joined [] ks (x ∷ xs) ys a b = absurd a
  joined (h ∷ hs) ks [] ys a b = absurd a
  joined (h ∷ hs) ks (x ∷ xs) ys a b = (a.0, joined hs ks xs ys a.1 b)

  pub paired_at : (hs : List Held) (xs : List Node) (n : ℕ) (h : Held) (x : Node) → AreAllPaired hs xs → slice_get hs n ≡ Some h → slice_get xs n ≡ Some x →
      P h x
  paired_at [] xs n h x a at there = absurd (none-some h at)
  paired_at (k ∷ hs) [] n h x a at there = absurd a
  paired_at (k ∷ hs) (y ∷ xs) zero h x a at there =
      subst (λ (z : Node). P h z) (same_Some y x there) (subst (λ (z : Held). P z y) (same_Some k h at) a.0)
  paired_at (k ∷ hs) (y ∷ xs) (suc n) h x a at there = paired_at hs xs n h x a.1 at there

  -- there are as many
  pub as_many : (hs : List Held) (xs : List Node) → AreAllPaired hs xs → length hs ≡ length xs
  as_many [] [] a = refl
  as_many [] (x ∷ xs) a = absurd a
  as_many (h ∷ hs) [] a = absurd a
  as_many (h ∷ hs) (x ∷ xs) a = ap suc (as_many hs xs a.1)

-- ---- Nodes and the sets before them

none_either : {X : Type 0} (b : Bool) (x : X) (o : Option X) → cond b (Some x) o ≡ None → (b ≡ false) × (o ≡ None)
none_either true x o e = absurd (cc)
none_either false x o e = (refl, e)

none_there : {X : Type 0} (p : X → Bool) (us vs : List X) (u : X) → find p (us ++ u ∷ vs) ≡ None → p u ≡ false
none_there p [] vs u e = (none_either (p u) u (find p vs) e).0
none_there p (w ∷ us) vs u e = none_there p us vs u (none_either (p w) w (find p (us ++ u ∷ vs)) e).1

yes : (b : Bool) → not b ≡ false → b ≡ true
yes true e = refl
yes false e = absurd (cc)

module _ (vs : List Variable) (names : List e.LockName) where
  abbrev pub own : Table
  own = record { variables = vs; names = names }

  -- if it writes
  abbrev pub Guarded : Held → Node → Type 0
  Guarded h x = (written : Location) → x.writes ≡ Some written → IsGuardedStore vs names h written

  abbrev pub AllGuarded : List Held → List Node → Type 0
  AllGuarded hs xs = AreAllPaired Guarded hs xs

  stored : (h : Held) (us rest : List Use) (u : Use) → AreGuarded vs names h (us ++ u ∷ rest) → is_guarded vs names h u ≡ true
  stored h us rest u g = yes (is_guarded vs names h u) (none_there (λ (w : Use). not (is_guarded vs names h w)) us rest u g)

  guarded_assign : (place : Place) (target : e.Lvalue) (value : e.Placed) (h : Held) (first next : ℕ) → AreGuarded vs names h (assign_uses target value) →
      AllGuarded (sets_in names h (f.Assign place target value)) (assign_nodes own place target value first next)
  guarded_assign place (e.ToLocal name local kind) value h first next g = (λ w is. absurd (none-some w is), tt)
  guarded_assign place (e.ToVariable name variable kind) value h first next g = (
    λ w is. absurd (none-some w is),
    (
      (λ w is.
          let u : Use = record { variable = variable; place = name; index = None } in
          subst (IsGuardedStore vs names h) (same_Some (scalar variable) w is)
          (record { used = u; variable_is = refl; key_is = refl; single = λ none. refl; locked = stored h (expr_uses value.expr) [] u g })),
      tt,
    ),
  )
  guarded_assign place (e.ToElement name variable kind index) value h first next g = (
    λ w is. absurd (none-some w is),
    (
      (λ w is.
          let u : Use = record { variable = variable; place = name; index = Some index } in
          subst (IsGuardedStore vs names h) (same_Some (elements own variable index) w is)
          (record {
            used = u;
            variable_is = refl;
            key_is = refl;
            single = λ none. absurd (none-some index (sym none));
            locked = stored h (expr_uses value.expr) (expr_uses index.expr) u g;
          })),
      tt,
    ),
  )

  mutual
    pub guarded : {h after : Held} {s : f.Statement} → Keeps vs names h s after → (first next : ℕ) →
        AllGuarded (sets_in names h s) (statement_nodes own s first next)
    guarded (assign {h = h} place target value g free) first next = guarded_assign place target value h first next g
    guarded (choose {h = h} place arms otherwise p q) first next =
        let last = entry (statements_count otherwise) (first + arms_count arms) next in
        joined Guarded (sets_in_arms names h arms) (sets_in_all names h otherwise) (arms_nodes own arms place last first next)
        (statements_nodes own otherwise (first + arms_count arms) next)
        (guarded_arms p place last first next) (guarded_all q (first + arms_count arms) next)
    guarded (repeat {h = h} place condition body g p) first next = (λ w is. absurd (none-some w is), guarded_all p (suc first) first)
    guarded (again {h = h} place body condition p g) first next =
        joined Guarded (sets_in_all names h body) (held_after_all names h body ∷ []) (statements_nodes own body first (first + statements_count body))
        (test_node own place condition first next ∷ [])
        (guarded_all p first (first + statements_count body)) (λ w is. absurd (none-some w is), tt)
    guarded (lock {h = h} place name free) first next = (λ w is. absurd (none-some w is), tt)
    guarded (unlock {h = h} place name held) first next = (λ w is. absurd (none-some w is), tt)

    pub guarded_all : {h after : Held} {ss : f.Statements} → KeepAll vs names h ss after → (first next : ℕ) →
        AllGuarded (sets_in_all names h ss) (statements_nodes own ss first next)
    guarded_all no_more first next = tt
    guarded_all (then {h = h} x rest p q) first next =
        let further = entry (statements_count rest) (first + count x) next in
        let tail = statements_nodes own rest (first + count x) next in
        joined Guarded (sets_in names h x) _ (statement_nodes own x first further) tail (guarded p first further)
        (subst (λ (k : Held). AllGuarded (sets_in_all names k rest) tail) (sym (boundary_after_is vs names p)) (guarded_all q (first + count x) next))

    pub guarded_arms : {h after : Held} {arms : f.Arms} → KeepArms vs names h arms after → (place : Place) (last first next : ℕ) →
        AllGuarded (sets_in_arms names h arms) (arms_nodes own arms place last first next)
    guarded_arms no_more_arms place last first next = tt
    guarded_arms (arm {h = h} condition body rest g p q) place last first next =
        let further = suc first + statements_count body in (
          λ w is. absurd (none-some w is),
          joined Guarded (sets_in_all names h body) (sets_in_arms names h rest) (statements_nodes own body (suc first) next)
              (arms_nodes own rest place last further next)
              (guarded_all p (suc first) next) (guarded_arms q place last further next),
        )

pub guarded_thread : (x : f.Flat) (t : f.Thread) (first : ℕ) → IsDisciplined x t →
    AllGuarded x.variables (lock_names x t) (thread_sets (lock_names x t) t) (thread_nodes (table_of x t) t first)
guarded_thread x t first d =
    let names = lock_names x t in
    let start = none_held (length names) in
    let end = first + statements_count t.body in
    joined (Guarded x.variables names) (sets_in_all names start t.body) (held_after_all names start t.body ∷ [])
    (statements_nodes (table_of x t) t.body first end) (plain_node t.closing End ∷ []) (guarded_all x.variables names d first end)
    (λ w is. absurd (none-some w is), tt)

-- ---- At a node of a plan's thread

module _ (p : Plan) (plan : IsPlan p) (t : Thread) (of : IsThread p t) (node : ℕ) (own_node : IsNodeOf t node) where
  abbrev names : List e.LockName
  names = lock_names p.flat of.text

  abbrev pub step : ℕ
  step = node - t.part.first

  pub record IsBefore : Type 0 where
    pub disciplined : IsDisciplined p.flat of.text
    pub there : slice_get (thread_sets names of.text) step ≡ Some (set_before p t node)

  pub is_before : IsBefore
  is_before =
      let row = found_in p.held t.number (held_there p plan t of) in
      let sets = plan.held.sets t.number of.text row.0 of.of_text row.1 in
      let is : slice_index_or p.held t.number [] ≡ row.0 = get_or_from_slice_get p.held t.number row.0 [] row.1 in
      let inside : step < length row.0 = subst (λ (s : List Held). step < length s) is (held_sets p plan t of node own_node) in
      let one = found_in row.0 step inside in
      let set : set_before p t node ≡ one.0 =
      ap (λ (s : List Held). slice_index_or s step []) is ∙ get_or_from_slice_get row.0 step one.0 [] one.1 in
      record {
        disciplined = sets.disciplined;
        there =
            ((thread_sets_are p.flat of.text sets.disciplined).exactly step one.0).1 ((sets.exactly step one.0).0 one.1)
            ∙ ap (λ (h : Held). Some h) (sym set);
      }

  pub guarded_store : (is : Node) (location : Location) → NodeAt p.graph node is → is.writes ≡ Some location →
      IsGuardedStore p.flat.variables names (set_before p t node) location
  guarded_store is location at writes =
      paired_at (Guarded p.flat.variables names) (thread_sets names of.text) (thread_nodes (table_of p.flat of.text) of.text t.part.first) step
      (set_before p t node) is
      (guarded_thread p.flat of.text t.part.first is_before.disciplined) is_before.there (node_in p plan t of node is own_node at) location writes
