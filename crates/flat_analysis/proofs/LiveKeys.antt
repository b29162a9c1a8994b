-- The locals of a held key are live: no assignment that the discipline allows is to one of them, and the unlock ahead reads it.
use Rattle.std.proofs.Common.{◌≡◌, ◌≢◌, refl, ℕ, zero, suc, ◌+◌, ◌==◌, ◌&&◌, List, [], ◌∷◌, ◌++◌, length, sym, ◌∙◌, ap, ap₂, subst, arith}
use Rattle.std.proofs.Common.{◌<◌, Option, Some, None, Bool, true, false, cond, slice_set, ⊎_elim, find}
use Rattle.std.specs.Prelude.{slice_get, slice_index_or, Contains}
use Rattle.std.specs.List.{list_any}
use Rattle.std.proofs.lemmas.Bool.{cases_eq, eqb-true, or_parts}
use Rattle.std.proofs.lemmas.Bool.Decides.{nat_tests}
use Rattle.std.proofs.lemmas.List.{get_or-set_other, length-append}
use Rattle.std.proofs.lemmas.Option.{get_or_from_slice_get, slice_get_within, same_Some}
use Rattle.ido_base.specs.declared.place.Place.{Place}
use Rattle.c_tree.specs.Exprs as e
use Rattle.c_tree.specs.Programs.{Variable}
use Rattle.c_tree.specs.Flats as f
use Rattle.c_tree.specs.LockNames.{Held, holds, held_names, none_held, lock_names, number_in, same_expr, same_key}
use Rattle.c_tree.specs.LockDiscipline.{expr_locals, key_locals, freezing, IsFree, Keeps, KeepAll, KeepArms, assign, choose, repeat, again, lock, unlock}
use Rattle.c_tree.specs.LockDiscipline.{no_more, then, no_more_arms, arm}
use Rattle.c_tree.proofs.Public.{number_found}
use Rattle.lock_discipline.specs.links.Flow.{held_after, held_after_all, sets_in, sets_in_all, sets_in_arms, thread_sets}
use Rattle.lock_discipline.proofs.Public.{boundary_after_is, thread_sets_are}
use Rattle.flow_graph.specs.declared.graph.Part.{Part}
use Rattle.flow_graph.specs.Nodes.{Node, Graph, End, successors}
use Rattle.flow_graph.specs.Liveness.{NodeAt, IsLive, is_read, is_read_later}
use Rattle.flow_graph.specs.Lowering.{Table, table_of, lowered, assign_nodes, count, statements_count, arms_count, thread_count, entry, statement_nodes}
use Rattle.flow_graph.specs.Lowering.{statements_nodes, arms_nodes, thread_nodes, threads_nodes, part, parts, plain_node, test_node}
use Rattle.flow_graph.proofs.Public.{length-arms_nodes, length-statement_nodes, length-statements_nodes, length-thread_nodes, lowered_nodes, lowered_threads}
use Rattle.flat_analysis.specs.LiveKeys.{HeldKeysAreLive}

-- ---- Two spellings of one name read the same locals

and_true : (a b : Bool) → (a && b) ≡ true → (a ≡ true) × (b ≡ true)
and_true true b h = (refl, h)
and_true false b h = cc

same_locals : (x y : e.Expr) → same_expr x y ≡ true → expr_locals x ≡ expr_locals y
same_locals (e.Constant x) (e.Constant y) h = refl
same_locals (e.Constant x) y h = cc
same_locals (e.Local local k) (e.Local number j) h =
    ap (λ (n : ℕ). let ns : List ℕ = n ∷ [] in ns) (eqb-true local number (and_true (local == number) _ h).0)
same_locals (e.Local local k) y h = cc
same_locals (e.Variable place variable k) y h = cc
same_locals (e.Element place variable k index_place index) y h = cc
same_locals (e.Address variable index_place x) (e.Address number at y) h = same_locals x y (and_true (variable == number) (same_expr x y) h).1
same_locals (e.Address variable index_place x) y h = cc
same_locals (e.Referent place last local) (e.Referent at end number) h =
    ap (λ (n : ℕ). let ns : List ℕ = n ∷ [] in ns) (eqb-true local number (and_true (last == end) (local == number) h).1)
same_locals (e.Referent place last local) y h = cc
same_locals (e.Unary operator x) (e.Unary o y) h = same_locals x y (and_true _ (same_expr x y) h).1
same_locals (e.Unary operator x) y h = cc
same_locals (e.Cast k x) (e.Cast j y) h = same_locals x y (and_true _ (same_expr x y) h).1
same_locals (e.Cast k x) y h = cc
same_locals (e.Converted k x) (e.Converted j y) h = same_locals x y (and_true _ (same_expr x y) h).1
same_locals (e.Converted k x) y h = cc
same_locals (e.Binary operator x y) (e.Binary o v w) h =
    let p = and_true _ (same_expr x v && same_expr y w) h in
    let q = and_true (same_expr x v) (same_expr y w) p.1 in
    ap₂ ◌++◌ (same_locals x v q.0) (same_locals y w q.1)
same_locals (e.Binary operator x y) z h = cc
same_locals (e.Conditional k x y z) (e.Conditional j u v w) h =
    let p = and_true _ (same_expr x u && (same_expr y v && same_expr z w)) h in
    let q = and_true (same_expr x u) (same_expr y v && same_expr z w) p.1 in
    let r = and_true (same_expr y v) (same_expr z w) q.1 in
    ap₂ ◌++◌ (ap₂ ◌++◌ (same_locals x u q.0) (same_locals y v r.0)) (same_locals z w r.1)
same_locals (e.Conditional k x y z) u h = cc

same_key_locals : (m n : ℕ) (x y : Option e.Placed) → same_key x y ≡ true →
    key_locals (record { mutex = m; key = x }) ≡ key_locals (record { mutex = n; key = y })
same_key_locals m n None None h = refl
same_key_locals m n None (Some y) h = cc
same_key_locals m n (Some x) None h = cc
same_key_locals m n (Some x) (Some y) h = same_locals x.expr y.expr h

-- ---- What a held key reads is not assigned

none_of : {X : Type 0} (test : Bool) (x : X) (o : Option X) → cond test (Some x) o ≡ None → (test ≡ false) × (o ≡ None)
none_of true x o h = cc
none_of false x o h = (refl, h)

-- what no held name passes, none of a number that is held does
unpassed : (p : e.LockName → Bool) (names : List e.LockName) (h : Held) (k : ℕ) (x : e.LockName) → find p (held_names names h) ≡ None →
    slice_get names k ≡ Some x → holds h k ≡ true → p x ≡ false
unpassed p [] h k x f g t = cc
unpassed p (y ∷ ys) [] k x f g t = cc
unpassed p (y ∷ ys) (true ∷ h) zero x f g t = ap p (sym (same_Some y x g)) ∙ (none_of (p y) y (find p (held_names ys h)) f).0
unpassed p (y ∷ ys) (false ∷ h) zero x f g t = cc
unpassed p (y ∷ ys) (true ∷ h) (suc k) x f g t = unpassed p ys h k x (none_of (p y) y (find p (held_names ys h)) f).1 g t
unpassed p (y ∷ ys) (false ∷ h) (suc k) x f g t = unpassed p ys h k x f g t

not_any : (local : ℕ) (ls : List ℕ) → list_any (λ (other : ℕ). other == local) ls ≡ false → Contains ls local → ⊥
not_any local [] h (k, low, is) = absurd (omega (arith, low))
not_any local (l ∷ ls) h (zero, low, is) =
    let p = or_parts (l == local) (list_any (λ (other : ℕ). other == local) ls) h in
    let off = p.0 in
    grind (arith, nat_tests, off, is)
not_any local (l ∷ ls) h (suc k, low, is) =
    not_any local ls (or_parts (l == local) (list_any (λ (other : ℕ). other == local) ls) h).1 (k, omega (arith, low), is)

none_holds : (k n : ℕ) → holds (none_held k) n ≡ true → ⊥
none_holds zero n h = cc
none_holds (suc k) zero h = cc
none_holds (suc k) (suc n) h = none_holds k n h

-- ---- Nodes and sets, from a number on

module _ (g : Graph) (number local : ℕ) where
  -- where the name is held the local is live
  abbrev LiveIf : Held → (node : ℕ) → Type 0
  LiveIf h node = holds h number ≡ true → IsLive g local node

  abbrev AllLive : List Held → (first : ℕ) → Type 0
  AllLive [] first = Unit {0}
  AllLive (h ∷ hs) first = LiveIf h first × AllLive hs (suc first)

  abbrev ArePlaced : List Node → (first : ℕ) → Type 0
  ArePlaced [] first = Unit {0}
  ArePlaced (x ∷ xs) first = NodeAt g first x × ArePlaced xs (suc first)

  -- the nodes of two parts, one after the other
  split : (xs ys : List Node) (first count : ℕ) → length xs ≡ count → ArePlaced (xs ++ ys) first → ArePlaced xs first × ArePlaced ys (first + count)
  split [] ys first count is p =
      let same : first ≡ first + count = omega (arith, is) in
      (tt, subst (λ (k : ℕ). ArePlaced ys k) same p)
  split (x ∷ xs) ys first count is p =
      let rest = split xs ys (suc first) (length xs) refl p.1 in
      let same : suc first + length xs ≡ first + count = omega (arith, is) in
      ((p.0, rest.0), subst (λ (k : ℕ). ArePlaced ys k) same rest.1)

  joined : (hs ks : List Held) (first count : ℕ) → length hs ≡ count → AllLive hs first → AllLive ks (first + count) → AllLive (hs ++ ks) first
  joined [] ks first count is a b = subst (λ (k : ℕ). AllLive ks k) (let same : first + count ≡ first = omega (arith, is) in same) b
  joined (h ∷ hs) ks first count is a b =
      let same : first + count ≡ suc first + length hs = omega (arith, is) in
      (a.0, joined hs ks (suc first) (length hs) refl a.1 (subst (λ (k : ℕ). AllLive ks k) same b))

  live_at : (hs : List Held) (first k : ℕ) (h : Held) → AllLive hs first → slice_get hs k ≡ Some h → LiveIf h (first + k)
  live_at [] first k h a at held = cc
  live_at (x ∷ hs) first zero h a at held =
      let same : first ≡ first + 0 = omega arith in
      subst (λ (n : ℕ). IsLive g local n) same (a.0 (ap (λ (z : Held). holds z number) (same_Some x h at) ∙ held))
  live_at (x ∷ hs) first (suc k) h a at held =
      let same : suc first + k ≡ first + suc k = omega arith in
      subst (λ (n : ℕ). IsLive g local n) same (live_at hs (suc first) k h a.1 at held)

  -- a node that assigns nothing passes it on
  passes : (node next : ℕ) (x : Node) → NodeAt g node x → x.assigns ≡ None → Contains (successors x.action) next → IsLive g local next → IsLive g local node
  passes node next x at none goes live = is_read_later x at (λ is. let no : None ≡ Some local = sym none ∙ is in cc) goes live

  entry_both : (h : Held) (a b first next : ℕ) → LiveIf h (entry a first (entry b (first + a) next)) → LiveIf h (entry (a + b) first next)
  entry_both h zero b first next live =
      let same : first + 0 ≡ first = omega arith in
      let none : b ≡ 0 + b = omega arith in
      subst (λ (n : ℕ). LiveIf h (entry n first next)) none (subst (λ (n : ℕ). LiveIf h (entry b n next)) same live)
  entry_both h (suc a) b first next live =
      let more : suc (a + b) ≡ suc a + b = omega arith in
      subst (λ (n : ℕ). LiveIf h (entry n first next)) more live

  entry_into : (h : Held) (a first : ℕ) → LiveIf h (entry a first (first + a)) → LiveIf h first
  entry_into h zero first live = subst (LiveIf h) (let same : first + 0 ≡ first = omega arith in same) live
  entry_into h (suc a) first live = live

-- ---- A set for each node

module _ (names : List e.LockName) where
  mutual
    sets_one : (s : f.Statement) (h : Held) → length (sets_in names h s) ≡ count s
    sets_one (f.Assign place (e.ToLocal spot other kind) value) h = refl
    sets_one (f.Assign place (e.ToVariable spot variable kind) value) h = refl
    sets_one (f.Assign place (e.ToElement spot variable kind index) value) h = refl
    sets_one (f.If place arms otherwise) h = length-append (sets_in_arms names h arms) (sets_in_all names h otherwise)
        ∙ ap₂ ◌+◌ (sets_arms arms h) (sets_all otherwise h)
    sets_one (f.While place condition body) h = ap suc (sets_all body h)
    sets_one (f.Do place body condition) h =
        omega (arith, length-append (sets_in_all names h body) (held_after_all names h body ∷ []), sets_all body h)
    sets_one (f.Lock place other) h = refl
    sets_one (f.Unlock place other) h = refl

    sets_all : (ss : f.Statements) (h : Held) → length (sets_in_all names h ss) ≡ statements_count ss
    sets_all f.no_statement h = refl
    sets_all (f.statement_and x rest) h = length-append (sets_in names h x) (sets_in_all names (held_after names h x) rest)
        ∙ ap₂ ◌+◌ (sets_one x h) (sets_all rest (held_after names h x))

    sets_arms : (arms : f.Arms) (h : Held) → length (sets_in_arms names h arms) ≡ arms_count arms
    sets_arms f.no_arm h = refl
    sets_arms (f.arm_and condition body rest) h =
        ap suc (length-append (sets_in_all names h body) (sets_in_arms names h rest) ∙ ap₂ ◌+◌ (sets_all body h) (sets_arms rest h))

-- ---- Statements

-- the name of this number reads the local
module _ (vs : List Variable) (names : List e.LockName) (g : Graph) (number local : ℕ) (name : e.LockName) (there : slice_get names number ≡ Some name)
    (reads : Contains (key_locals name) local) (table : Table) where
  not_assigned : (h : Held) (other : ℕ) → freezing names h other ≡ None → holds h number ≡ true → other ≡ local → ⊥
  not_assigned h other free held is =
      let P : e.LockName → Bool = λ y. list_any (λ (l : ℕ). l == other) (key_locals y) in
      not_any other (key_locals name) (unpassed P names h number name free there held) (subst (Contains (key_locals name)) (sym is) reads)

  -- another spelling of the name reads it, too
  spelled : (other : e.LockName) → number_in names other ≡ number → Contains (key_locals other) local
  spelled other is =
      let low : number_in names other < length names = (let l = slice_get_within names number name there in omega (arith, l, is)) in
      let found = number_found names other low in
      let same_name : found.name ≡ name = same_Some found.name name (sym found.there ∙ (ap (slice_get names) is ∙ there)) in
      let same_key : same_key other.key name.key ≡ true =
      ap (λ (z : e.LockName). same_key other.key z.key) (sym same_name) ∙ (and_true (other.mutex == found.name.mutex) _ found.same).1 in
      subst (λ (ls : List ℕ). Contains ls local) (sym (same_key_locals other.mutex name.mutex other.key name.key same_key)) reads

  live_assign : (place : Place) (target : e.Lvalue) (value : e.Placed) (h : Held) (first next : ℕ) → IsFree names h target →
      ArePlaced g number local (assign_nodes table place target value first next) first → LiveIf g number local h next →
      AllLive g number local (sets_in names h (f.Assign place target value)) first
      × LiveIf g number local h (entry (count (f.Assign place target value)) first next)
  live_assign place (e.ToLocal spot other kind) value h first next free placed live =
      let here : LiveIf g number local h first = λ held. is_read_later _ placed.0
      (λ is. not_assigned h other free held (same_Some other local is)) (0, omega arith, refl) (live held) in
      ((here, tt), here)
  live_assign place (e.ToVariable spot variable kind) value h first next free placed live =
      let store : LiveIf g number local h (suc first) = λ held. passes g number local (suc first) next _ placed.1.0 refl (0, omega arith, refl) (live held) in
      let here : LiveIf g number local h first =
      λ held. passes g number local first (suc first) _ placed.0 refl (0, omega arith, refl) (store held) in
      ((here, (store, tt)), here)
  live_assign place (e.ToElement spot variable kind index) value h first next free placed live =
      let store : LiveIf g number local h (suc first) = λ held. passes g number local (suc first) next _ placed.1.0 refl (0, omega arith, refl) (live held) in
      let here : LiveIf g number local h first =
      λ held. passes g number local first (suc first) _ placed.0 refl (0, omega arith, refl) (store held) in
      ((here, (store, tt)), here)

  -- a lock keeps what is held
  kept_by_lock : (h : Held) (other : ℕ) → slice_get h other ≡ Some false → holds h number ≡ true → holds (slice_set h other true) number ≡ true
  kept_by_lock h other free held =
      let differs : number ≢ other = λ is.
      let off : slice_index_or h other false ≡ false = get_or_from_slice_get h other false false free in
      let on : slice_index_or h other false ≡ true = ap (λ (k : ℕ). slice_index_or h k false) (sym is) ∙ held in
      let no : false ≡ true = sym off ∙ on in cc in
      get_or-set_other h other number true false differs ∙ held

  -- ---- What a part says: each step's set, and the set before it at the node where it begins

  abbrev OfOne : Held → f.Statement → (first next : ℕ) → Type 0
  OfOne h s first next = AllLive g number local (sets_in names h s) first × LiveIf g number local h (entry (count s) first next)

  abbrev OfAll : Held → f.Statements → (first next : ℕ) → Type 0
  OfAll h ss first next = AllLive g number local (sets_in_all names h ss) first × LiveIf g number local h (entry (statements_count ss) first next)

  abbrev OfArms : Held → f.Arms → (first last : ℕ) → Type 0
  OfArms h arms first last = AllLive g number local (sets_in_arms names h arms) first × LiveIf g number local h (entry (arms_count arms) first last)

  live_if : (h : Held) (place : Place) (arms : f.Arms) (otherwise : f.Statements) (first next further last : ℕ) → first + arms_count arms ≡ further →
      entry (statements_count otherwise) further next ≡ last → ArePlaced g number local (arms_nodes table arms place last first next) first →
      OfAll h otherwise further next → (LiveIf g number local h last → OfArms h arms first last) → OfOne h (f.If place arms otherwise) first next
  live_if h place arms otherwise first next further last is ends placed other each =
      let arm : OfArms h arms first last = each (subst (LiveIf g number local h) ends other.1) in
      let after : AllLive g number local (sets_in_all names h otherwise) (first + arms_count arms) =
      subst (AllLive g number local (sets_in_all names h otherwise)) (sym is) other.0 in
      let goes : first + arms_count arms ≡ further = is in
      let ending : last ≡ entry (statements_count otherwise) (first + arms_count arms) next =
      sym ends ∙ ap (λ (n : ℕ). entry (statements_count otherwise) n next) (sym goes) in (
        joined g number local (sets_in_arms names h arms) (sets_in_all names h otherwise) first (arms_count arms) (sets_arms names arms h) arm.0 after,
        entry_both g number local h (arms_count arms) (statements_count otherwise) first next
            (subst (λ (n : ℕ). LiveIf g number local h (entry (arms_count arms) first n)) ending arm.1),
      )

  live_do : (h : Held) (place : Place) (body : f.Statements) (condition : e.Placed) (first next further : ℕ) → first + statements_count body ≡ further →
      held_after_all names h body ≡ h → LiveIf g number local h further → OfAll h body first further → OfOne h (f.Do place body condition) first next
  live_do h place body condition first next further is same test each =
      let last : LiveIf g number local (held_after_all names h body) (first + statements_count body) =
      subst (λ (k : Held). LiveIf g number local k (first + statements_count body)) (sym same) (subst (LiveIf g number local h) (sym is) test) in (
        joined g number local (sets_in_all names h body) (held_after_all names h body ∷ []) first (statements_count body) (sets_all names body h) each.0
            (last, tt),
        entry_into g number local h (statements_count body) first
            (subst (λ (n : ℕ). LiveIf g number local h (entry (statements_count body) first n)) (sym is) each.1),
      )

  live_then : (h between : Held) (x : f.Statement) (rest : f.Statements) (first next further last : ℕ) → first + count x ≡ further →
      entry (statements_count rest) further next ≡ last → held_after names h x ≡ between → OfAll between rest further next →
      (LiveIf g number local between last → OfOne h x first last) → OfAll h (f.statement_and x rest) first next
  live_then h between x rest first next further last is ends same later each =
      let one : OfOne h x first last = each (subst (LiveIf g number local between) ends later.1) in
      let after : AllLive g number local (sets_in_all names (held_after names h x) rest) (first + count x) =
      subst (λ (k : Held). AllLive g number local (sets_in_all names k rest) (first + count x)) (sym same)
      (subst (AllLive g number local (sets_in_all names between rest)) (sym is) later.0) in
      let goes : first + count x ≡ further = is in
      let ending : last ≡ entry (statements_count rest) (first + count x) next =
      sym ends ∙ ap (λ (n : ℕ). entry (statements_count rest) n next) (sym goes) in (
        joined g number local (sets_in names h x) (sets_in_all names (held_after names h x) rest) first (count x) (sets_one names x h) one.0 after,
        entry_both g number local h (count x) (statements_count rest) first next
            (subst (λ (n : ℕ). LiveIf g number local h (entry (count x) first n)) ending one.1),
      )

  live_arm : (h : Held) (condition : e.Placed) (body : f.Statements) (rest : f.Arms) (first next last further : ℕ) →
      suc first + statements_count body ≡ further → LiveIf g number local h first → OfAll h body (suc first) next → OfArms h rest further last →
      OfArms h (f.arm_and condition body rest) first last
  live_arm h condition body rest first next last further is test each others =
      let after : AllLive g number local (sets_in_arms names h rest) (suc first + statements_count body) =
      subst (AllLive g number local (sets_in_arms names h rest)) (sym is) others.0 in (
        (
          test,
          joined g number local (sets_in_all names h body) (sets_in_arms names h rest) (suc first) (statements_count body) (sets_all names body h) each.0
              after,
        ),
        test,
      )

  mutual
    live_one : {h after : Held} {s : f.Statement} → Keeps vs names h s after → (first next : ℕ) →
        ArePlaced g number local (statement_nodes table s first next) first → LiveIf g number local after next → OfOne h s first next
    live_one (assign {h = h} place target value guarded free) first next placed live = live_assign place target value h first next free placed live
    live_one (choose {h = h} place arms otherwise p q) first next placed live =
        let further : ℕ = first + arms_count arms in
        let last : ℕ = entry (statements_count otherwise) further next in
        let nodes = split g number local (arms_nodes table arms place last first next) (statements_nodes table otherwise further next) first (arms_count arms)
        (length-arms_nodes table arms place last first next) placed in
        live_if h place arms otherwise first next further last refl refl nodes.0 (live_all q further next nodes.1 live)
        (λ otherwise_live. live_arms p place last first next nodes.0 otherwise_live live)
    live_one (repeat {h = h} place condition body guarded p) first next placed live =
        let test : LiveIf g number local h first = λ held. passes g number local first next _ placed.0 refl (1, omega arith, refl) (live held) in
        ((test, (live_all p (suc first) first placed.1 test).0), test)
    live_one (again {h = h} place body condition p guarded) first next placed live =
        let further : ℕ = first + statements_count body in
        let nodes = split g number local (statements_nodes table body first further) (test_node table place condition first next ∷ []) first
        (statements_count body) (length-statements_nodes table body first further) placed in
        let test : LiveIf g number local h further = λ held. passes g number local further next _ nodes.1.0 refl (1, omega arith, refl) (live held) in
        live_do h place body condition first next further refl (boundary_after_is vs names (choose place f.no_arm body no_more_arms p)) test
        (live_all p first further nodes.0 test)
    live_one (lock {h = h} place other free) first next placed live =
        let here : LiveIf g number local h first = λ held. passes g number local first next _ placed.0 refl (0, omega arith, refl)
        (live (kept_by_lock h (number_in names other) free held)) in
        ((here, tt), here)
    live_one (unlock {h = h} place other held_there) first next placed live =
        let here : LiveIf g number local h first = λ held. ⊎_elim
        (λ is. is_read _ placed.0 (spelled other is))
        (λ differs. passes g number local first next _ placed.0 refl (0, omega arith, refl)
        (live (get_or-set_other h (number_in names other) number false false (λ is. differs (sym is)) ∙ held)))
        (cases_eq (number_in names other) number) in
        ((here, tt), here)

    live_all : {h after : Held} {ss : f.Statements} → KeepAll vs names h ss after → (first next : ℕ) →
        ArePlaced g number local (statements_nodes table ss first next) first → LiveIf g number local after next → OfAll h ss first next
    live_all no_more first next placed live = (tt, live)
    live_all (then {h = h} {between = between} x rest p q) first next placed live =
        let further : ℕ = first + count x in
        let last : ℕ = entry (statements_count rest) further next in
        let nodes = split g number local (statement_nodes table x first last) (statements_nodes table rest further next) first (count x)
        (length-statement_nodes table x first last) placed in
        live_then h between x rest first next further last refl refl (boundary_after_is vs names p) (live_all q further next nodes.1 live)
        (λ rest_live. live_one p first last nodes.0 rest_live)

    live_arms : {h after : Held} {arms : f.Arms} → KeepArms vs names h arms after → (place : Place) (last first next : ℕ) →
        ArePlaced g number local (arms_nodes table arms place last first next) first → LiveIf g number local h last → LiveIf g number local after next →
        OfArms h arms first last
    live_arms no_more_arms place last first next placed otherwise live = (tt, otherwise)
    live_arms (arm {h = h} condition body rest guarded p q) place last first next placed otherwise live =
        let further : ℕ = suc first + statements_count body in
        let nodes = split g number local (statements_nodes table body (suc first) next) (arms_nodes table rest place last further next) (suc first)
        (statements_count body) (length-statements_nodes table body (suc first) next) placed.1 in
        let each : OfAll h body (suc first) next = live_all p (suc first) next nodes.0 live in
        let test : LiveIf g number local h first = λ held. passes g number local first _ _ placed.0 refl (0, omega arith, refl) (each.1 held) in
        live_arm h condition body rest first next last further refl test each (live_arms q place last further next nodes.1 otherwise live)

-- ---- Threads

module _ (x : f.Flat) (number local : ℕ) where
  abbrev g : Graph
  g = lowered x

  -- nodes that stand in the graph from a number on
  placed_from : (xs : List Node) (first : ℕ) → ((k : ℕ) (y : Node) → slice_get xs k ≡ Some y → NodeAt g (first + k) y) → ArePlaced g number local xs first
  placed_from [] first each = tt
  placed_from (y ∷ xs) first each = (
    subst (λ (n : ℕ). NodeAt g n y) (let same : first + 0 ≡ first = omega arith in same) (each 0 y refl),
    placed_from xs (suc first) (λ k z at. subst (λ (n : ℕ). NodeAt g n z) (let same : first + suc k ≡ suc first + k = omega arith in same) (each (suc k) z at)),
  )

  -- a thread's nodes stand there from its first one on
  placed_thread : (ts : List f.Thread) (first n : ℕ) (p : Part) (t : f.Thread) → ArePlaced g number local (threads_nodes x ts first) first →
      slice_get (parts ts first) n ≡ Some p → slice_get ts n ≡ Some t → ArePlaced g number local (thread_nodes (table_of x t) t p.first) p.first
  placed_thread [] first n p t all own is = cc
  placed_thread (u ∷ ts) first zero p t all own is =
      let begins : first ≡ p.first = ap (λ (q : Part). q.first) (same_Some (part u first) p own) in
      let nodes = split g number local (thread_nodes (table_of x u) u first) (threads_nodes x ts (first + thread_count u)) first (thread_count u)
      (length-thread_nodes (table_of x u) u first) all in
      subst (λ (k : ℕ). ArePlaced g number local (thread_nodes (table_of x t) t k) k) begins
      (subst (λ (z : f.Thread). ArePlaced g number local (thread_nodes (table_of x z) z first) first) (same_Some u t is) nodes.0)
  placed_thread (u ∷ ts) first (suc n) p t all own is =
      let nodes = split g number local (thread_nodes (table_of x u) u first) (threads_nodes x ts (first + thread_count u)) first (thread_count u)
      (length-thread_nodes (table_of x u) u first) all in
      placed_thread ts (first + thread_count u) n p t nodes.1 own is

pub held_keys_are_live : HeldKeysAreLive
held_keys_are_live x thread t own_part step number local h name disciplined its own before there held reads =
    let names = lock_names x t in
    let none = none_held (length names) in
    let all : ArePlaced (lowered x) number local (threads_nodes x x.threads 0) 0 = placed_from x number local (threads_nodes x x.threads 0) 0
    (λ k y at. subst (λ (n : ℕ). NodeAt (lowered x) n y) (let same : k ≡ 0 + k = omega arith in same)
    (ap (λ (ns : List Node). slice_get ns k) (lowered_nodes x) ∙ at)) in
    let part_is : slice_get (parts x.threads 0) thread ≡ Some own_part = ap (λ (ps : List Part). slice_get ps thread) (sym (lowered_threads x)) ∙ own in
    let placed = placed_thread x number local x.threads 0 thread own_part t all part_is its in
    let first : ℕ = own_part.first in
    let last : ℕ = first + statements_count t.body in
    let over : LiveIf (lowered x) number local none last = λ at_end. absurd (none_holds (length names) number at_end) in
    let nodes = split (lowered x) number local (statements_nodes (table_of x t) t.body first last) (plain_node t.closing End ∷ []) first
    (statements_count t.body) (length-statements_nodes (table_of x t) t.body first last) placed in
    let body = live_all x.variables names (lowered x) number local name there reads (table_of x t) disciplined first last nodes.0 over in
    let is : held_after_all names none t.body ≡ none = boundary_after_is x.variables names (choose t.closing f.no_arm t.body no_more_arms disciplined) in
    let every : AllLive (lowered x) number local (thread_sets names t) first =
    joined (lowered x) number local (sets_in_all names none t.body) (held_after_all names none t.body ∷ []) first (statements_count t.body)
    (sets_all names t.body none) body.0 (subst (λ (k : Held). LiveIf (lowered x) number local k last) (sym is) over, tt) in
    live_at (lowered x) number local (thread_sets names t) first step h every (((thread_sets_are x t disciplined).exactly step h).1 before) held
