-- Nodes of the code and of the graph.
use Rattle.std.proofs.Common.{◌≡◌, ◌⊎◌, ◌↔◌, inl, inr, ℕ, zero, suc, ◌+◌, ◌<◌, ◌≤◌, Bool, true, false, not, MatchBool, List}
use Rattle.c_tree.specs.Exprs.{LockName}
use Rattle.std.proofs.Common.{[], ◌∷◌, ◌++◌, length, get_or, map, Option, Some, None, refl, ap, sym, subst, ◌∙◌, arith}
use Rattle.std.specs.Prelude.{Contains, IsTrue, slice_get}
use Rattle.std.specs.Option.{option_map}
use Rattle.std.proofs.lemmas.List.{length-map, length_push}
use Rattle.std.proofs.lemmas.Option.{slice_get-map, slice_get_cases, slice_get_within, slice_get_read, get_or_from_slice_get}
use Rattle.ido_base.specs.declared.location.Location.{Location}
use Rattle.flow_graph.specs.declared.graph.Node as code
use Rattle.flow_graph.specs.declared.graph.Graph as declared
use Rattle.flow_graph.specs.Nodes.{graph_of, Action, Eval, Store, Test, Lock, Unlock, End, Node, Graph, node_of, next_of, other_of, successors}
use Rattle.flow_graph.specs.Liveness.{NodeAt}
use Rattle.flow_graph.specs.IdempotentCuts.{Boundaries, IsEdge, IsLock, locks, IsUnlock, unlocks, HasBefore}
use Rattle.flow_graph.specs.IdempotentCuts.{HasBoundaryAfter, BeginsRegion, past_lock, at_boundary}
use Rattle.flow_graph.proofs.Public.{same_or_other}
use Rattle.region_checker.proofs.PropagationPasses.{marked_within}
use Rattle.region_checker.specs.declared.paths.Path.{Path}
use Rattle.region_checker.specs.Conflicts.{LacksAfter, LacksBefore}
use Rattle.region_checker.specs.links.MarkPropagation.{IsMarked, Marks, IsOn, PathLeads, IsInnerEdge, ArePaths}
use Rattle.region_checker.specs.links.ConflictSearch.{is_lock, is_unlock, writes_over, writes_same, WritesOver, WritesSame, stops_of, AreBegun}

-- a node of the graph is one of the code's
pub record IsOf (nodes : List code.Node) (n : ℕ) (x : Node) : Type 0 where
  pub is : code.Node
  pub at : slice_get nodes n ≡ Some is
  pub same : node_of is ≡ x

pub is_of : (nodes : List code.Node) (n : ℕ) (x : Node) → slice_get (map node_of nodes) n ≡ Some x → IsOf nodes n x
is_of nodes n x at =
    let all = slice_get-map node_of nodes n in
    elim (slice_get_cases nodes n).1 [
      | inl found ↦ (
          let y = found.0 in
          let here : slice_get nodes n ≡ Some y = found.2 in
          let both : Some (node_of y) ≡ Some x = sym (ap (option_map node_of) here) ∙ sym all ∙ at in
          record { is = y; at = here; same = cc })
      | inr past ↦ (
          let none : slice_get nodes n ≡ None = past.1 in
          let both : None ≡ Some x = sym (ap (option_map node_of) none) ∙ sym all ∙ at in
          absurd (cc))
    ]

pub node_at : (nodes : List code.Node) (n : ℕ) (x : code.Node) → slice_get nodes n ≡ Some x → slice_get (map node_of nodes) n ≡ Some (node_of x)
node_at nodes n x at = slice_get-map node_of nodes n ∙ ap (option_map node_of) at

pub within_map : (nodes : List code.Node) (n : ℕ) (x : Node) → slice_get (map node_of nodes) n ≡ Some x → n < length nodes
within_map nodes n x at = let k = is_of nodes n x at in slice_get_within nodes n k.is k.at

-- a node that was found by its number
pub found_at : (nodes ds : List code.Node) (n : ℕ) (x : code.Node) → ds ≡ nodes → n < length ds → x ≡ get_or ds n x →
    slice_get (map node_of nodes) n ≡ Some (node_of x)
found_at nodes ds n x e lt is = node_at nodes n x (ap (λ (xs : List code.Node). slice_get xs n) (sym e) ∙ slice_get_read ds (length ds) n x refl lt is)

pub one_node : (nodes : List Node) (n : ℕ) (x y : Node) → slice_get nodes n ≡ Some x → slice_get nodes n ≡ Some y → x ≡ y
one_node nodes n x y at at' = let both : Some x ≡ Some y = sym at ∙ at' in cc

-- ---- What a node writes

pub over_at : (g : Graph) (n : ℕ) (elements : Location) (x : Node) → NodeAt g n x → IsTrue (writes_over elements x.writes) ↔ WritesOver g elements n
over_at g n elements x at = (
  λ t. record { is = x; at = at; writes = t },
  λ w. subst (λ (y : Node). IsTrue (writes_over elements y.writes)) (one_node g.nodes n w.is x w.at at) w.writes,
)

pub stops_at : (g : Graph) (nodes : List code.Node) (n : ℕ) (elements : Location) → g.nodes ≡ map node_of nodes → n < length nodes →
    IsMarked (stops_of elements nodes) n ↔ WritesSame g elements n
stops_at g nodes n elements e lt =
    let test : code.Node → Bool = λ x. writes_same elements x.writes in
    elim (slice_get_cases nodes n).1 [
      | inl found ↦ (
          let x = found.0 in
          let at : slice_get nodes n ≡ Some x = found.2 in
          let node : NodeAt g n (node_of x) = ap (λ (xs : List Node). slice_get xs n) e ∙ node_at nodes n x at in
          let there : slice_get (map test nodes) n ≡ Some (test x) = slice_get-map test nodes n ∙ ap (option_map test) at in
          let value : get_or (map test nodes) n false ≡ test x = get_or_from_slice_get (map test nodes) n (test x) false there in (
            λ m. record { is = node_of x; at = node; writes = sym value ∙ m },
            λ w. value ∙ subst (λ (y : Node). IsTrue (writes_same elements y.writes)) (one_node g.nodes n w.is (node_of x) w.at node) w.writes,
          ))
      | inr past ↦ absurd (omega (arith, lt, past.0))
    ]

-- ---- Locks

pub record Locking (a : Action) : Type 0 where
  pub lock : LockName
  pub next : ℕ
  pub is : a ≡ Lock lock next

false_true : IsTrue false → ⊥
false_true h = cc

locking : (a : Action) → IsTrue (is_lock a) → Locking a
locking (Lock lock next) h = record { lock = lock; next = next; is = refl }
locking (Eval target value next) h = absurd (false_true h)
locking (Store variable kind next) h = absurd (false_true h)
locking (Test condition holds fails) h = absurd (false_true h)
locking (Unlock lock next) h = absurd (false_true h)
locking End h = absurd (false_true h)

pub record Unlocking (a : Action) : Type 0 where
  pub lock : LockName
  pub next : ℕ
  pub is : a ≡ Unlock lock next

unlocking : (a : Action) → IsTrue (is_unlock a) → Unlocking a
unlocking (Unlock lock next) h = record { lock = lock; next = next; is = refl }
unlocking (Eval target value next) h = absurd (false_true h)
unlocking (Store variable kind next) h = absurd (false_true h)
unlocking (Test condition holds fails) h = absurd (false_true h)
unlocking (Lock lock next) h = absurd (false_true h)
unlocking End h = absurd (false_true h)

pub lock_at : (g : Graph) (n : ℕ) (x : Node) → NodeAt g n x → IsTrue (is_lock x.action) → IsLock g n
lock_at g n x at h = let l = locking x.action h in locks x l.lock l.next at l.is

pub unlock_at : (g : Graph) (n : ℕ) (x : Node) → NodeAt g n x → IsTrue (is_unlock x.action) → IsUnlock g n
unlock_at g n x at h = let l = unlocking x.action h in unlocks x l.lock l.next at l.is

pub is_lock_at : (g : Graph) (n : ℕ) (x : Node) → NodeAt g n x → IsLock g n → IsTrue (is_lock x.action)
is_lock_at g n x at (locks y lock next at' is) =
    let same : y ≡ x = one_node g.nodes n y x at' at in
    subst (λ (z : Node). IsTrue (is_lock z.action)) same (subst (λ (a : Action). IsTrue (is_lock a)) (sym is) refl)

pub is_unlock_at : (g : Graph) (n : ℕ) (x : Node) → NodeAt g n x → IsUnlock g n → IsTrue (is_unlock x.action)
is_unlock_at g n x at (unlocks y lock next at' is) =
    let same : y ≡ x = one_node g.nodes n y x at' at in
    subst (λ (z : Node). IsTrue (is_unlock z.action)) same (subst (λ (a : Action). IsTrue (is_unlock a)) (sym is) refl)

-- a lock's only path leads to the next node
lock_goes : (a : Action) (to : ℕ) → IsTrue (is_lock a) → Contains (successors a) to → next_of a ≡ Some to
lock_goes (Lock lock next) to h (i, lt, is) = elim (same_or_other i 0) [
  | inl e ↦ ap (λ (n : ℕ). Some n) (ap (λ k. get_or (next ∷ []) k to) (sym e) ∙ is)
  | inr other ↦ absurd (omega (arith, lt))
]
lock_goes (Eval target value next) to h k = absurd (false_true h)
lock_goes (Store variable kind next) to h k = absurd (false_true h)
lock_goes (Test condition holds fails) to h k = absurd (false_true h)
lock_goes (Unlock lock next) to h k = absurd (false_true h)
lock_goes End to h k = absurd (false_true h)

-- ---- Paths from a node

goes_one : (next to : ℕ) → Contains (next ∷ []) to → Some next ≡ Some to
goes_one next to (i, lt, is) = elim (same_or_other i 0) [
  | inl e ↦ ap (λ (n : ℕ). Some n) (ap (λ k. get_or (next ∷ []) k to) (sym e) ∙ is)
  | inr other ↦ absurd (omega (arith, lt))
]

goes_two : (holds fails to : ℕ) → Contains (holds ∷ fails ∷ []) to → (Some holds ≡ Some to) ⊎ (Some fails ≡ Some to)
goes_two holds fails to (i, lt, is) = elim (same_or_other i 0) [
  | inl e ↦ inl (ap (λ (n : ℕ). Some n) (ap (λ k. get_or (holds ∷ fails ∷ []) k to) (sym e) ∙ is))
  | inr other ↦ (
      let e : i ≡ 1 = omega (arith, lt, other) in
      inr (ap (λ (n : ℕ). Some n) (ap (λ k. get_or (holds ∷ fails ∷ []) k to) (sym e) ∙ is)))
]

some_same : (a b : ℕ) → Some a ≡ Some b → a ≡ b
some_same a b e = cc

goes_first : (next to : ℕ) (rest : List ℕ) → Some next ≡ Some to → Contains (next ∷ rest) to
goes_first next to rest e = (0, omega arith, some_same next to e)

goes_second : (holds fails to : ℕ) → Some fails ≡ Some to → Contains (holds ∷ fails ∷ []) to
goes_second holds fails to e = (1, omega arith, some_same fails to e)

no_path : (to : ℕ) → None ≡ Some to → ⊥
no_path to e = cc

pub to_paths : (a : Action) (to : ℕ) → Contains (successors a) to → (next_of a ≡ Some to) ⊎ (other_of a ≡ Some to)
to_paths (Eval target value next) to k = inl (goes_one next to k)
to_paths (Store variable kind next) to k = inl (goes_one next to k)
to_paths (Test condition holds fails) to k = goes_two holds fails to k
to_paths (Lock lock next) to k = inl (goes_one next to k)
to_paths (Unlock lock next) to k = inl (goes_one next to k)
to_paths End to k = absurd (omega (arith, k.1))

pub from_paths : (a : Action) (to : ℕ) → (next_of a ≡ Some to) ⊎ (other_of a ≡ Some to) → Contains (successors a) to
from_paths (Eval target value next) to (inl e) = goes_first next to [] e
from_paths (Eval target value next) to (inr e) = absurd (no_path to e)
from_paths (Store variable kind next) to (inl e) = goes_first next to [] e
from_paths (Store variable kind next) to (inr e) = absurd (no_path to e)
from_paths (Test condition holds fails) to (inl e) = goes_first holds to (fails ∷ []) e
from_paths (Test condition holds fails) to (inr e) = goes_second holds fails to e
from_paths (Lock lock next) to (inl e) = goes_first next to [] e
from_paths (Lock lock next) to (inr e) = absurd (no_path to e)
from_paths (Unlock lock next) to (inl e) = goes_first next to [] e
from_paths (Unlock lock next) to (inr e) = absurd (no_path to e)
from_paths End to (inl e) = absurd (no_path to e)
from_paths End to (inr e) = absurd (no_path to e)

-- the paths from a node after which no boundary stands
pub record Inside (b : Boundaries) (from to : Option ℕ) : Type 0 where
  pub each : (n : ℕ) → (to ≡ Some n) ↔ ((from ≡ Some n) × ¬ (HasBefore b n))

pub paths_go : (g : Graph) (b : Boundaries) (n : ℕ) (x : Node) (path : Path) → NodeAt g n x → ¬ (HasBoundaryAfter g b n) →
    Inside b (next_of x.action) path.next →
    Inside b (other_of x.action) path.other →
    (to : ℕ) → IsOn path to ↔ IsInnerEdge g b n to
paths_go g b n x path at open_ p q to = (
  λ on. elim on [
    | inl e ↦ (
        let d = (p.each to).0 e in
        record { edge = record { is = x; at = at; goes = from_paths x.action to (inl d.0) }; free = λ d'. elim d' [ inl h ↦ open_ h | inr h ↦ d.1 h ] })
    | inr e ↦ (
        let d = (q.each to).0 e in
        record { edge = record { is = x; at = at; goes = from_paths x.action to (inr d.0) }; free = λ d'. elim d' [ inl h ↦ open_ h | inr h ↦ d.1 h ] })
  ],
  λ go.
      let same : go.edge.is ≡ x = one_node g.nodes n go.edge.is x go.edge.at at in
      let goes : Contains (successors x.action) to = subst (λ (y : Node). Contains (successors y.action) to) same go.edge.goes in
      elim (to_paths x.action to goes) [
        | inl e ↦ inl ((p.each to).1 (e, λ h. go.free (inr h)))
        | inr e ↦ inr ((q.each to).1 (e, λ h. go.free (inr h)))
      ],
)

pub paths_closed : (g : Graph) (b : Boundaries) (n : ℕ) (path : Path) → HasBoundaryAfter g b n → path.next ≡ None → path.other ≡ None → (to : ℕ) →
    IsOn path to ↔ IsInnerEdge g b n to
paths_closed g b n path h e e' to = (
  λ on. elim on [ inl s ↦ absurd (no_path to (sym e ∙ s)) | inr s ↦ absurd (no_path to (sym e' ∙ s)) ],
  λ go. absurd (go.free (inl h)),
)

-- ---- What is missing

pub lacks_after : (g : Graph) (b : Boundaries) (n : ℕ) (x : Node) (stands : Bool) → NodeAt g n x → IsTrue (is_lock x.action) →
    IsTrue stands ↔ (slice_get b.after_lock n ≡ Some true) →
    MatchBool (not stands) (LacksAfter g b n) (¬ (LacksAfter g b n))
lacks_after g b n x true at is d = λ l. l.lacks (record { locks = l.locks; stands = d.0 refl })
lacks_after g b n x false at is d = record { locks = lock_at g n x at is; lacks = λ h. false_true (d.1 h.stands) }

pub lacks_before : (g : Graph) (b : Boundaries) (n : ℕ) (x : Node) (stands : Bool) → NodeAt g n x → IsTrue (is_unlock x.action) →
    IsTrue stands ↔ (slice_get b.before n ≡ Some true) →
    MatchBool (not stands) (LacksBefore g b n) (¬ (LacksBefore g b n))
lacks_before g b n x true at is d = λ l. l.lacks (d.0 refl)
lacks_before g b n x false at is d = record { unlocks = unlock_at g n x at is; lacks = λ h. false_true (d.1 h) }

pub off : (t : Bool) (P : Type 0) → t ≡ false → ¬ P → MatchBool t P (¬ P)
off true P e fails = absurd (cc)
off false P e fails = fails

-- ---- Where regions begin

-- the first of the nodes have marked where regions begin
pub record BeganUpTo (g : Graph) (b : Boundaries) (count : ℕ) (begins : List Bool) : Type 0 where
  pub long : length begins ≡ length g.nodes
  pub only : (n : ℕ) → IsMarked begins n → BeginsRegion g b n
  pub before : (n : ℕ) → n < count → n < length g.nodes → HasBefore b n → IsMarked begins n
  pub after : (from n : ℕ) → from < count → n < length g.nodes → HasBoundaryAfter g b from → IsEdge g from n → IsMarked begins n

pub lock_next : (g : Graph) (b : Boundaries) (n to : ℕ) (x : Node) → NodeAt g n x → HasBoundaryAfter g b n → IsEdge g n to → next_of x.action ≡ Some to
lock_next g b n to x at h edge =
    let same : edge.is ≡ x = one_node g.nodes n edge.is x edge.at at in
    lock_goes x.action to (is_lock_at g n x at h.locks) (subst (λ (y : Node). Contains (successors y.action) to) same edge.goes)

-- ---- Nodes within the code's list

pub lock_in : (g : declared.Graph) (n : ℕ) → IsLock (graph_of g) n → n < length g.nodes.items
lock_in g n (locks x lock next at is) = within_map g.nodes.items n x at

pub node_in : (g : declared.Graph) (n : ℕ) (x : Node) → NodeAt (graph_of g) n x → n < length g.nodes.items
node_in g n x at = within_map g.nodes.items n x at

pub length_nodes : (g : declared.Graph) → length (graph_of g).nodes ≡ length g.nodes.items
length_nodes g = length-map g.nodes.items node_of

pub began_none : (g : declared.Graph) (b : Boundaries) (begins : List Bool) → length begins ≡ length g.nodes.items → ((n : ℕ) → ¬ (IsMarked begins n)) →
    BeganUpTo (graph_of g) b 0 begins
began_none g b begins long none = record {
  long = long ∙ sym (length_nodes g);
  only = λ n m. absurd (none n m);
  before = λ n lt. absurd (omega (arith, lt));
  after = λ from n lt. absurd (omega (arith, lt));
}

pub record Begun (g : Graph) (b : Boundaries) (number : ℕ) (before after : Option ℕ) : Type 0 where
  pub is_before : (n : ℕ) → (before ≡ Some n) ↔ ((n ≡ number) × HasBefore b n)
  pub is_after : (n : ℕ) → (after ≡ Some n) ↔ (HasBoundaryAfter g b number × IsEdge g number n)

pub began_more : (g : Graph) (b : Boundaries) (number : ℕ) (before after : Option ℕ) (old mid new : List Bool) (first second : Bool) →
    Begun g b number before after →
    Marks (λ n. before ≡ Some n) old mid first → Marks (λ n. after ≡ Some n) mid new second → BeganUpTo g b number old → BeganUpTo g b (number + 1) new
began_more g b number before after old mid new first second is p q r = record {
  long = q.long ∙ p.long ∙ r.long;
  only = λ n m. elim ((q.has n).0 m) [
    | inl there ↦ elim ((p.has n).0 there) [
      | inl was ↦ r.only n was
      | inr at ↦ at_boundary ((is.is_before n).0 at.1).1
    ]
    | inr at ↦ let d = (is.is_after n).0 at.1 in past_lock number d.0 d.1
  ];
  before = λ n lt within h. elim (same_or_other n number) [
    | inl e ↦ (q.has n).1 (inl ((p.has n).1 (inr (omega (arith, within, r.long), (is.is_before n).1 (e, h)))))
    | inr other ↦ (q.has n).1 (inl ((p.has n).1 (inl (r.before n (omega (arith, lt)) within h))))
  ];
  after = λ from n lt within h edge. elim (same_or_other from number) [
    | inl e ↦ (
        let here : HasBoundaryAfter g b number = subst (λ (k : ℕ). HasBoundaryAfter g b k) e h in
        let edge_here : IsEdge g number n = subst (λ (k : ℕ). IsEdge g k n) e edge in
        (q.has n).1 (inr (omega (arith, within, r.long, p.long), (is.is_after n).1 (here, edge_here))))
    | inr other ↦ (q.has n).1 (inl ((p.has n).1 (inl (r.after from n (omega (arith, lt)) within h edge))))
  ];
}

marked_where : (g : declared.Graph) (b : Boundaries) (count : ℕ) (begins : List Bool) (n : ℕ) → length g.nodes.items ≤ count →
    BeganUpTo (graph_of g) b count begins → n < length (graph_of g).nodes →
    BeginsRegion (graph_of g) b n → IsMarked begins n
marked_where g b count begins n le r lt (past_lock from h edge) = r.after from n (omega (arith, lock_in g from h.locks, le)) lt h edge
marked_where g b count begins n le r lt (at_boundary h) = r.before n (omega (arith, lt, length_nodes g, le)) lt h

pub began_all : (g : declared.Graph) (b : Boundaries) (count : ℕ) (begins : List Bool) → length g.nodes.items ≤ count → BeganUpTo (graph_of g) b count begins →
    AreBegun (graph_of g) b begins
began_all g b count begins le r = record {
  count = r.long;
  each = λ n. (
    λ m. (omega (arith, marked_within begins n m, r.long), r.only n m),
    λ d. marked_where g b count begins n le r d.0 d.1,
  );
}

-- ---- Paths, node after node

get_push : (paths : List Path) (path : Path) → slice_get (paths ++ path ∷ []) (length paths) ≡ Some path
get_push [] path = refl
get_push (x ∷ paths) path = get_push paths path

get_below : (paths : List Path) (path : Path) (n : ℕ) → n < length paths → slice_get (paths ++ path ∷ []) n ≡ slice_get paths n
get_below [] path n lt = absurd (omega (arith, lt))
get_below (x ∷ paths) path zero lt = refl
get_below (x ∷ paths) path (suc n) lt = get_below paths path n (omega (arith, lt))

pub record ArePathsUpTo (g : Graph) (b : Boundaries) (count : ℕ) (paths : List Path) : Type 0 where
  pub long : length paths ≡ count
  pub each : (from to : ℕ) → from < count → PathLeads paths from to ↔ IsInnerEdge g b from to

pub paths_none : (g : Graph) (b : Boundaries) → ArePathsUpTo g b 0 []
paths_none g b = record { long = refl; each = λ from to lt. absurd (omega (arith, lt)) }

pub paths_more : (g : Graph) (b : Boundaries) (count : ℕ) (paths : List Path) (path : Path) → ArePathsUpTo g b count paths →
    ((to : ℕ) → IsOn path to ↔ IsInnerEdge g b count to) → ArePathsUpTo g b (count + 1) (paths ++ path ∷ [])
paths_more g b count paths path r on = record {
  long = length_push paths path ∙ ap (λ k. k + 1) r.long;
  each = λ from to lt. elim (same_or_other from count) [
    | inl e ↦ (
        let there : slice_get (paths ++ path ∷ []) from ≡ Some path = ap (λ k. slice_get (paths ++ path ∷ []) k) (e ∙ sym r.long) ∙ get_push paths path in (
          λ l.
              let both : Some l.path ≡ Some path = sym l.at ∙ there in
              let same : l.path ≡ path = cc in
              subst (λ (k : ℕ). IsInnerEdge g b k to) (sym e) ((on to).0 (subst (λ (w : Path). IsOn w to) same l.goes)),
          λ go. record { path = path; at = there; goes = (on to).1 (subst (λ (k : ℕ). IsInnerEdge g b k to) e go) },
        ))
    | inr other ↦ (
        let less : from < count = omega (arith, lt) in
        let there = get_below paths path from (omega (arith, less, r.long)) in (
          λ l. (r.each from to less).0 (record { path = l.path; at = sym there ∙ l.at; goes = l.goes }),
          λ go. let l = (r.each from to less).1 go in record { path = l.path; at = there ∙ l.at; goes = l.goes },
        ))
  ];
}

pub paths_all : (g : declared.Graph) (b : Boundaries) (count : ℕ) (paths : List Path) → length g.nodes.items ≤ count → count ≤ length g.nodes.items →
    ArePathsUpTo (graph_of g) b count paths → ArePaths (graph_of g) b paths
paths_all g b count paths le le' r = record {
  count = omega (arith, r.long, length_nodes g);
  each = λ from to. (
    λ l. (r.each from to (omega (arith, slice_get_within paths from l.path l.at, r.long))).0 l,
    λ go. (r.each from to (omega (arith, node_in g from go.edge.is go.edge.at, le))).1 go,
  );
}
