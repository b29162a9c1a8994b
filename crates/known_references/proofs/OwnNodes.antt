-- Each node of a thread's own leads on so by what is known in the thread.
use Rattle.std.proofs.Common.{◌≡◌, ◌≢◌, ◌==◌, true, false, ◌<◌, ◌≤◌, sym, ◌∙◌, ap, subst, ℕ, zero, suc, ◌+◌, ◌-◌, List, [], ◌∷◌, ◌++◌, length, map, Some, arith}
use Rattle.std.specs.Prelude.{slice_get, slice_index_or}
use Rattle.std.specs.List.{AllZip}
use Rattle.std.proofs.lemmas.Bool.{eq-eqb, or_parts, true≢false}
use Rattle.std.proofs.lemmas.Option.{none-some, same_Some}
use Rattle.ido_base.specs.declared.place.Place.{Place}
use Rattle.ido_ints.specs.declared.kinds.Kind.{Kind}
use Rattle.c_tree.specs.Exprs as e
use Rattle.c_tree.specs.Flats as f
use Rattle.c_tree.specs.NullReferences.{is_among}
use Rattle.c_ranges.specs.KnownAtSteps.{thread_knowns}
use Rattle.flow_graph.specs.declared.graph.Part.{Part}
use Rattle.flow_graph.specs.Nodes.{Node, Action, Eval}
use Rattle.flow_graph.specs.Liveness.{NodeAt}
use Rattle.flow_graph.specs.Lowering.{lowered, part, parts, table_of, thread_count, thread_nodes, threads_nodes}
use Rattle.flow_graph.specs.Lockstep.{IsOwnNode}
use Rattle.flow_graph.proofs.Public.{length-thread_nodes, lowered_threads, nodes_at}
use Rattle.region_attempts.specs.KnownReferences.{known_at}
use Rattle.known_references.proofs.KnownAtNodes.{Leads, NodeLeads, leads_thread}

-- ---- Lists

get_first : (xs ys : List Node) (k : ℕ) (n : Node) → k < length xs → slice_get (xs ++ ys) k ≡ Some n → slice_get xs k ≡ Some n
get_first [] ys k n l g = absurd (omega (arith, l))
get_first (x ∷ xs) ys zero n l g = g
get_first (x ∷ xs) ys (suc k) n l g = get_first xs ys k n (omega (arith, l)) g

get_later : (xs ys : List Node) (k : ℕ) (n : Node) → slice_get (xs ++ ys) (length xs + k) ≡ Some n → slice_get ys k ≡ Some n
get_later [] ys k n g = let z : 0 + k ≡ k = omega arith in subst (λ (i : ℕ). slice_get ys i ≡ Some n) z g
get_later (x ∷ xs) ys k n g =
    let z : suc (length xs) + k ≡ suc (length xs + k) = omega arith in
    get_later xs ys k n (subst (λ (i : ℕ). slice_get (x ∷ (xs ++ ys)) i ≡ Some n) z g)

there_or : {A : Type 0} (xs : List A) (k : ℕ) (d x : A) → slice_get xs k ≡ Some x → slice_index_or xs k d ≡ x
there_or [] k d x g = absurd (none-some x g)
there_or (y ∷ xs) zero d x g = same_Some y x g
there_or (y ∷ xs) (suc k) d x g = there_or xs k d x g

-- of what is there, by each
pub found_or : {A B : Type 0} (of : A → B) (xs : List A) (k : ℕ) (d : B) (x : A) → slice_get xs k ≡ Some x → slice_index_or (map of xs) k d ≡ of x
found_or of [] k d x g = absurd (none-some x g)
found_or of (y ∷ xs) zero d x g = ap of (same_Some y x g)
found_or of (y ∷ xs) (suc k) d x g = found_or of xs k d x g

module _ {A B : Type 0} (R : A → B → Type 0) where
  zip_at : (xs : List A) (ys : List B) (k : ℕ) (d : B) (x : A) → AllZip R xs ys → slice_get xs k ≡ Some x → R x (slice_index_or ys k d)
  zip_at [] ys k d x h g = absurd (none-some x g)
  zip_at (z ∷ xs) [] k d x h g = absurd h
  zip_at (z ∷ xs) (y ∷ ys) zero d x h g = subst (λ (w : A). R w y) (same_Some z x g) h.0
  zip_at (z ∷ xs) (y ∷ ys) (suc k) d x h g = zip_at xs ys k d x h.1 g

parts_begin : (ts : List f.Thread) (first number : ℕ) (own : Part) → slice_get (parts ts first) number ≡ Some own → first ≤ own.first
parts_begin [] first number own g = absurd (none-some own g)
parts_begin (t ∷ ts) first zero own g = let same : first ≡ own.first = ap (λ (p : Part). p.first) (same_Some (part t first) own g) in omega (arith, same)
parts_begin (t ∷ ts) first (suc number) own g =
    let later : first + thread_count t ≤ own.first = parts_begin ts (first + thread_count t) number own g in omega (arith, later)

-- ---- A thread's own nodes

abbrev pub OwnLeads : f.Thread → Part → (node : ℕ) → Node → Type 0
OwnLeads text own node n = NodeLeads (known_at text own.first) n (known_at text own.first node)

-- as many nodes after the first
from_first : (x : f.Flat) (t : f.Thread) (first k : ℕ) (n : Node) → slice_get (thread_nodes (table_of x t) t first) k ≡ Some n →
    NodeLeads (known_at t first) n (known_at t first (first + k))
from_first x t first k n g =
    let back : k ≡ (first + k) - first = omega arith in
    let each = leads_thread (known_at t first) (table_of x t) t first (λ i known there.
    let here : (first + i) - first ≡ i = omega arith in
    ap (λ (j : ℕ). slice_index_or (thread_knowns t) j []) here ∙ there_or (thread_knowns t) i [] known there) in
    subst (λ (j : ℕ). NodeLeads (known_at t first) n (slice_index_or (thread_knowns t) j [])) back
    (zip_at (NodeLeads (known_at t first)) (thread_nodes (table_of x t) t first) (thread_knowns t) k [] n each g)

leads_own : (x : f.Flat) (ts : List f.Thread) (first number : ℕ) (own : Part) (t : f.Thread) → slice_get (parts ts first) number ≡ Some own →
    slice_get ts number ≡ Some t → (k : ℕ) (n : Node) → slice_get (threads_nodes x ts first) k ≡ Some n → own.first ≤ first + k → first + k < own.end →
    OwnLeads t own (first + k) n
leads_own x [] first number own t g i k n found a b = absurd (none-some own g)
leads_own x (u ∷ us) first zero own t g i k n found a b =
    let nodes = thread_nodes (table_of x u) u first in
    let rest = threads_nodes x us (first + thread_count u) in
    let low : first + k < first + thread_count u = subst (λ (o : Part). first + k < o.end) (sym (same_Some (part u first) own g)) b in
    let many : length nodes ≡ thread_count u = length-thread_nodes (table_of x u) u first in
    subst (λ (o : Part). OwnLeads t o (first + k) n) (same_Some (part u first) own g)
    (subst (λ (z : f.Thread). OwnLeads z (part u first) (first + k) n) (same_Some u t i)
    (from_first x u first k n (get_first nodes rest k n (omega (arith, low, many)) found)))
leads_own x (u ∷ us) first (suc number) own t g i k n found a b =
    let nodes = thread_nodes (table_of x u) u first in
    let rest = threads_nodes x us (first + thread_count u) in
    let from : first + thread_count u ≤ own.first = parts_begin us (first + thread_count u) number own g in
    let many : length nodes ≡ thread_count u = length-thread_nodes (table_of x u) u first in
    let split : k ≡ length nodes + (k - thread_count u) = omega (arith, from, many, a) in
    let at : slice_get rest (k - thread_count u) ≡ Some n =
    get_later nodes rest (k - thread_count u) n (subst (λ (j : ℕ). slice_get (nodes ++ rest) j ≡ Some n) split found) in
    let joined : first + thread_count u + (k - thread_count u) ≡ first + k = omega (arith, from, a) in
    subst (λ (j : ℕ). OwnLeads t own j n) joined
    (leads_own x us (first + thread_count u) number own t g i (k - thread_count u) n at (omega (arith, from, a)) (omega (arith, from, a, b)))

-- a node of the thread's own, by the thread's text
pub own_leads : (x : f.Flat) (number k : ℕ) (t : f.Thread) (own : Part) (n : Node) → slice_get x.threads number ≡ Some t →
    slice_get (lowered x).threads number ≡ Some own → IsOwnNode x number k → NodeAt (lowered x) k n → OwnLeads t own k n
own_leads x number k t own n i p at g =
    let part_is : slice_get (parts x.threads 0) number ≡ Some own = ap (λ (ps : List Part). slice_get ps number) (sym (lowered_threads x)) ∙ p in
    let same : at.part ≡ own = same_Some at.part own (sym at.of_thread ∙ p) in
    let from : own.first ≤ k = subst (λ (o : Part). o.first ≤ k) same at.from_first in
    let below : k < own.end = subst (λ (o : Part). k < o.end) same at.below_end in
    let zeroth : 0 + k ≡ k = omega arith in
    subst (λ (j : ℕ). OwnLeads t own j n) zeroth
    (leads_own x x.threads 0 number own t part_is i k n (nodes_at x k n g) (omega (arith, from)) (omega (arith, below)))

-- what is known not to be null after an assignment of a local was so before it, and isn't that local
pub assigned_leads : (x : f.Flat) (number k : ℕ) (t : f.Thread) (own : Part) (n : Node) → slice_get x.threads number ≡ Some t →
    slice_get (lowered x).threads number ≡ Some own → IsOwnNode x number k → NodeAt (lowered x) k n → (place : Place) (local : ℕ) (kind : Kind)
    (value : e.Placed) (next : ℕ) → n.action ≡ Eval (e.ToLocal place local kind) value next → (other : ℕ) →
    is_among (known_at t own.first next) other ≡ true → (is_among (known_at t own.first k) other ≡ true) × (other ≢ local)
assigned_leads x number k t own n its part at there place local kind value next action other among =
    let leads : Leads (known_at t own.first) (Eval (e.ToLocal place local kind) value next) (known_at t own.first k) =
    subst (λ (a : Action). Leads (known_at t own.first) a (known_at t own.first k)) action (own_leads x number k t own n its part at there) in
    let before = leads.0 other among in
    (before, λ same. true≢false (sym (eq-eqb local other (sym same)) ∙ (or_parts (local == other) false (leads.1 other before)).0))
