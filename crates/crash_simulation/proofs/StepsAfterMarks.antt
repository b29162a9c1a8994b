-- What is ahead of a thread up to its next mark fits into its code: no lock, unlock, store or assignment is followed by itself, and a thread's last node is
-- its end.
use Rattle.std.specs.Prelude.{true}
use Rattle.boundary_code.specs.Boundaries.{frame_lines}
use Rattle.crash_simulation.proofs.Common.{◌≡◌, ◌≢◌, ℕ, List, ◌∷◌, sym, ◌∙◌, ap, arith, subst, Option, Some, None, refl, suc, ◌+◌, ◌<◌, [], ◌++◌, length, Bool}
use Rattle.crash_simulation.proofs.Common.{inl, inr, zero, slice_get, ◌≤◌, ◌-◌, ◌*◌, Contains, cond, cases_order, nat_tests, same_Some, slice_get_within, Place}
use Rattle.crash_simulation.proofs.Common.{Kind, LockName, IsWellFormed, NodeAt, Standing, threads_standings, HasStandingAt, lowered, parts, threads_nodes}
use Rattle.crash_simulation.proofs.Common.{part, plain_node, statements_nodes, statements_count, thread_nodes, Action, Store, Node, Graph, Lock, End}
use Rattle.crash_simulation.proofs.Common.{successors, Unlock, Part, found_in, ActionLeads, agrees, length-statements_nodes, length-thread_nodes, Program, Mark}
use Rattle.crash_simulation.proofs.Common.{marked, Places, Plan, IsNodeOf, IsPlan, Thread, IsThread, IsCalling, IsNodeCode, IsThreadCode, IsCallWithin, mark_of}
use Rattle.crash_simulation.proofs.Common.{any_at, Code, entry_ahead, most_ahead, IsSoon, weight, core_ahead, weight_at, System, IsSystem, thread_count}
use Rattle.crash_simulation.proofs.Common.{flat_of}
use Rattle.flow_graph.specs.Lowering.{table_of, thread_count as nodes_count}
use Rattle.c_tree.specs.Exprs as e
use Rattle.c_tree.specs.Flats as f
use Rattle.crash_simulation.proofs.Common.{Eval}
use Rattle.crash_simulation.proofs.LocksAtCalls.{standing_of}

-- ---- What is left at a node

-- a node does what stands there
pub record IsOwnNode (x : f.Flat) (node : ℕ) (is : Node) : Type 0 where
  pub standing : Standing
  pub there : HasStandingAt x node standing
  pub does : ActionLeads (threads_standings x.threads) is.action standing

module _ (x : f.Flat) (w : IsWellFormed x) (node : ℕ) (is : Node) (at : NodeAt (lowered x) node is) where
  left_there : IsOwnNode x node is
  unfolding lowered
  left_there =
      let l = standing_of (threads_standings x.threads) (threads_nodes x x.threads 0) (threads_standings x.threads) node is (agrees x w.threads) at in
      record { standing = l.0; there = l.1; does = l.2 }

  one_standing : (other : Standing) → HasStandingAt x node other → left_there.standing ≡ other
  one_standing other there = let both = sym left_there.there ∙ there in cc

  -- a list isn't its own rest
  no_rest : (y : f.Statement) (rest : List f.Statement) → y ∷ rest ≡ rest → ⊥
  no_rest y rest e = let long : suc (length rest) ≡ length rest = ap (λ (l : List f.Statement). length l) e in absurd (omega (arith, long))

  abbrev DoneBy : Action → Type 0
  DoneBy z = ActionLeads (threads_standings x.threads) z left_there.standing

  does_as : (z : Action) → is.action ≡ z → DoneBy z
  does_as z e = subst DoneBy e left_there.does

  pub lock_goes_on : (lock : LockName) (next : ℕ) → is.action ≡ Lock lock next → next ≢ node
  lock_goes_on lock next e same = grind (arith, does_as, left_there, no_rest, one_standing)

  pub unlock_goes_on : (lock : LockName) (next : ℕ) → is.action ≡ Unlock lock next → next ≢ node
  unlock_goes_on lock next e same = grind (arith, does_as, left_there, no_rest, one_standing)

  pub store_goes_on : (variable : ℕ) (kind : Kind) (next : ℕ) → is.action ≡ Store variable kind next → next ≢ node
  store_goes_on variable kind next e same = grind (arith, does_as, left_there, one_standing)

  pub eval_goes_on : (target : e.Lvalue) (assigned : e.Placed) (next : ℕ) → is.action ≡ Eval target assigned next → next ≢ node
  eval_goes_on (e.ToLocal place local kind) assigned next same back = grind (arith, does_as, left_there, no_rest, one_standing)
  eval_goes_on (e.ToVariable place variable kind) assigned next same back = grind (arith, does_as, left_there, one_standing)
  eval_goes_on (e.ToElement place variable kind index) assigned next same back = grind (arith, does_as, left_there, one_standing)

-- ---- The last node of a thread

get_prefix : {X : Type 0} (xs ys : List X) (k : ℕ) (x : X) → slice_get xs k ≡ Some x → slice_get (xs ++ ys) k ≡ Some x
get_prefix [] ys k x h = cc
get_prefix (y ∷ xs) ys zero x h = h
get_prefix (y ∷ xs) ys (suc k) x h = get_prefix xs ys k x h

get_suffix : {X : Type 0} (xs ys : List X) (k : ℕ) (x : X) → slice_get ys k ≡ Some x → slice_get (xs ++ ys) (length xs + k) ≡ Some x
get_suffix [] ys k x h = let e : 0 + k ≡ k = omega arith in ap (slice_get ys) e ∙ h
get_suffix (y ∷ xs) ys k x h =
    let e : suc (length xs) + k ≡ suc (length xs + k) = omega arith in
    ap (slice_get (y ∷ (xs ++ ys))) e ∙ get_suffix xs ys k x h

-- of nodes from a number on, the last one of a part ends the thread
record HasEnd (ns : List Node) (first : ℕ) (p : Part) : Type 0 where
  place : Place
  number : ℕ
  last : first + suc number ≡ p.end
  there : slice_get ns number ≡ Some (plain_node place End)

has_end : (x : f.Flat) (ts : List f.Thread) (first k : ℕ) (p : Part) → slice_get (parts ts first) k ≡ Some p → HasEnd (threads_nodes x ts first) first p
has_end x [] first k p g = cc
has_end x (t ∷ ts) first zero p g =
    let here : part t first ≡ p = cc in
    let prefix = statements_nodes (table_of x t) t.body first (first + statements_count t.body) in
    let count : length prefix ≡ statements_count t.body = length-statements_nodes (table_of x t) t.body first (first + statements_count t.body) in
    let own : slice_get (thread_nodes (table_of x t) t first) (length prefix + 0) ≡ Some (plain_node t.closing End) =
    get_suffix prefix (plain_node t.closing End ∷ []) 0 (plain_node t.closing End) refl in
    record {
      place = t.closing;
      number = length prefix + 0;
      last = omega (arith, count, ap (λ (q : Part). q.end) here);
      there = get_prefix (thread_nodes (table_of x t) t first) (threads_nodes x ts (first + nodes_count t)) (length prefix + 0) (plain_node t.closing End) own;
    }
has_end x (t ∷ ts) first (suc k) p g =
    let more = has_end x ts (first + nodes_count t) k p g in
    let count : length (thread_nodes (table_of x t) t first) ≡ nodes_count t = length-thread_nodes (table_of x t) t first in
    record {
      place = more.place;
      number = length (thread_nodes (table_of x t) t first) + more.number;
      last = omega (arith, count, more.last);
      there = get_suffix (thread_nodes (table_of x t) t first) (threads_nodes x ts (first + nodes_count t)) more.number (plain_node more.place End) more.there;
    }

-- the thread's end
pub record IsEnding (x : f.Flat) (p : Part) : Type 0 where
  pub number : ℕ
  pub last : suc number ≡ p.end
  pub is : Node
  pub at : NodeAt (lowered x) number is
  pub ends : is.action ≡ End

pub ending : (x : f.Flat) (thread : ℕ) (p : Part) → slice_get (lowered x).threads thread ≡ Some p → IsEnding x p
unfolding lowered
ending x thread p g =
    let e = has_end x x.threads 0 thread p g in
    record { number = e.number; last = omega (arith, e.last); is = plain_node e.place End; at = e.there; ends = refl }

-- ---- Each node of a part is there

ends_within : (x : f.Flat) (ts : List f.Thread) (first k : ℕ) (p : Part) → slice_get (parts ts first) k ≡ Some p →
    p.end ≤ first + length (threads_nodes x ts first)
ends_within x ts first k p g =
    let e = has_end x ts first k p g in
    omega (arith, slice_get_within (threads_nodes x ts first) e.number _ e.there)

pub node_there : (x : f.Flat) (thread : ℕ) (p : Part) → slice_get (lowered x).threads thread ≡ Some p → (node : ℕ) → node < p.end →
    (is : Node) × NodeAt (lowered x) node is
unfolding lowered
node_there x thread p g node inside = found_in (threads_nodes x x.threads 0) node (omega (arith, ends_within x x.threads 0 thread p g, inside))

-- ---- How much is ahead

pub weight_is : (by : Action → (words : ℕ) → ℕ) (p : Plan) (c : Places) (node : ℕ) (is : Node) → NodeAt p.graph node is →
    weight_at by p c node ≡ by is.action (c.words node)
weight_is by p c node is at = grind (arith, nat_tests)

-- ---- Words

apart : (nodes : List ℕ) (core call words : ℕ) → call ≡ core + 4 * words → marked nodes core ≡ Mark ∷ [] → marked nodes call ≡ [] → 1 ≤ words
apart nodes core call words is there none = grind (arith, nat_tests)

module _ (p : Plan) (t : Thread) (own : Program) (code : IsThreadCode p t own) where
  open code use {places as c}
  open t.part use {first, end}

  -- each node's words come after those of the nodes before it
  rises : (n k : ℕ) → first ≤ n → n + k ≤ end → (words : ℕ) × (c.entry (n + k) ≡ c.entry n + 4 * words)
  rises n zero low high = let e : n + 0 ≡ n = omega arith in (0, omega (arith, ap c.entry e))
  rises n (suc k) low high =
      let before = rises n k low (omega (arith, high)) in
      let next = code.follows (n + k) (record { from_first = omega (arith, low); below_end = omega (arith, high) }) in
      let e : n + suc k ≡ n + k + 1 = omega arith in
      (before.0 + c.words (n + k), omega (arith, before.1, next, ap c.entry e))

  up_to : (n m : ℕ) → first ≤ n → n ≤ m → m ≤ end → (words : ℕ) × (c.entry m ≡ c.entry n + 4 * words)
  up_to n m low between high =
      let e : n + (m - n) ≡ m = omega (arith, between) in
      subst (λ (k : ℕ). (words : ℕ) × (c.entry k ≡ c.entry n + 4 * words)) e (rises n (m - n) low (omega (arith, e, high)))

  -- the words of a node lie in the code
  pub record Room (n : ℕ) : Type 0 where
    pub from : ℕ
    pub place : c.entry n ≡ own.start + 4 * from
    pub within : from + c.words n ≤ length own.code

  after : (n m : ℕ) → IsNodeOf t n → n < m → m ≤ end → c.entry n + 4 * c.words n ≤ c.entry m
  after n m of less last = let up = up_to (n + 1) m (omega (arith, of.from_first)) (omega (arith, less)) last in omega (arith, up.1, code.follows n of)

  pub room : (n : ℕ) → IsNodeOf t n → Room n
  room n of =
      let before = up_to first n (omega arith) of.from_first (omega (arith, of.below_end)) in
      let place : c.entry n ≡ own.start + 4 * before.0 = omega (arith, before.1, code.begins) in
      record { from = before.0; place = place; within = omega (arith, place, after n end of of.below_end (omega arith), code.ends) }

  two_fit : (n m : ℕ) → IsNodeOf t n → IsNodeOf t m → n < m → c.words n + c.words m ≤ length own.code
  two_fit n m of there less =
      let a = room n of in
      let b = room m there in
      omega (arith, a.place, b.place, b.within, after n m of less (omega (arith, there.below_end)))

  three_fit : (n m k : ℕ) → IsNodeOf t n → IsNodeOf t m → IsNodeOf t k → n < m → m < k → c.words n + c.words m + c.words k ≤ length own.code
  three_fit n m k of there last less more =
      let a = room n of in
      let b = room k last in
      let next = after n m of less (omega (arith, there.below_end)) in
      let more_next = after m k there more (omega (arith, last.below_end)) in
      omega (arith, a.place, b.place, b.within, next, more_next)

  -- an end has two: its mark, and after it its call, which is none
  ending_words : (n : ℕ) (is : Node) → IsNodeOf t n → NodeAt p.graph n is → is.action ≡ End → 2 ≤ c.words n
  ending_words n is of at ends =
      let node : IsNodeCode p t c n is = code.code n is of at in
      let calls = subst (λ (a : Action). IsCalling p t c a n) ends node.calls in
      let within = subst (λ (a : Action). IsCallWithin c a n) ends node.within.call in
      let i : first + (n - first) ≡ n = omega arith in
      let there = code.marks (n - first) is (subst (λ (k : ℕ). IsNodeOf t k) (sym i) of) (subst (λ (k : ℕ). NodeAt p.graph k is) (sym i) at) in
      let here : slice_get own.nodes (n - first) ≡ Some (c.core n) =
      there ∙ (ap (λ (k : ℕ). Some (mark_of c is.action k)) i ∙ ap (λ (a : Action). Some (mark_of c a n)) ends) in
      let marked_there : marked own.nodes (c.core n) ≡ Mark ∷ [] = ap (λ (b : Bool). cond b (Mark ∷ []) []) (any_at own.nodes (n - first) (c.core n) here) in
      let plain : marked own.nodes (c.call n) ≡ [] = subst (λ (x : Program). marked x.nodes (c.call n) ≡ []) code.of_program calls.1 in
      let call = within.0.is in
      omega (arith, node.within.core.is, call, within.1.is, code.follows n of, apart own.nodes (c.core n) (c.call n) within.0.words call marked_there plain)

  -- ---- Between two marks

  module _ (plan : IsPlan p) (thread : IsThread p t) where
    abbrev pub last : IsEnding p.flat t.part
    last = ending p.flat t.number t.part (subst (λ (g : Graph). slice_get g.threads t.number ≡ Some t.part) plan.lowered thread.nodes)

    last_own : (n : ℕ) → IsNodeOf t n → IsNodeOf t last.number
    last_own n of = grind (arith)

    last_at : NodeAt p.graph last.number last.is
    last_at = subst (λ (g : Graph). NodeAt g last.number last.is) (sym plan.lowered) last.at

    last_words : (n : ℕ) → IsNodeOf t n → 2 ≤ c.words last.number
    last_words n of = ending_words last.number last.is (last_own n of) last_at last.ends

    below_last : (n : ℕ) → IsNodeOf t n → n ≢ last.number → n < last.number
    below_last n of other = grind (arith, nat_tests)

    -- a node alone
    pub alone_fits : (n : ℕ) → IsNodeOf t n → c.words n ≤ length own.code
    alone_fits n of = omega (arith, (room n of).within)

    -- a node, and the end
    pub one_fits : (n : ℕ) → IsNodeOf t n → n ≢ last.number → 2 * c.words n + 4 ≤ 2 * length own.code
    one_fits n of other = omega (arith, two_fit n last.number of (last_own n of) (below_last n of other), last_words n of)

    -- two nodes, and the end
    pub both_fit : (n m : ℕ) → IsNodeOf t n → IsNodeOf t m → n ≢ last.number → m ≢ last.number → n ≢ m → 2 * c.words n + 2 * c.words m + 4 ≤ 2 * length own.code
    both_fit n m of there other another apart_they = elim (cases_order n m) [
      | inl same ↦ absurd (apart_they same)
      | inr (inl less) ↦ omega (arith, three_fit n m last.number of there (last_own n of) less (below_last m there another), last_words n of)
      | inr (inr more) ↦ omega (arith, three_fit m n last.number there of (last_own n of) more (below_last n of other), last_words n of)
    ]

    -- a node that isn't the end, and what is ahead at the entry of another
    pub fits : (n m : ℕ) (is : Node) → IsNodeOf t n → IsNodeOf t m → n ≢ last.number → NodeAt p.graph m is →
        ((action : Action) → is.action ≡ action → weight action 1 ≢ 0 → n ≢ m) → 2 * c.words n + entry_ahead p c m + 4 ≤ 2 * length own.code
    fits n m is of there other at apart_they = grind (arith, same_Some, both_fit, last_at, one_fits, weight_is)

-- ---- What is ahead is no more than twice the words

entry_few : (words : ℕ) (z : Action) → weight z words ≤ 2 * words
entry_few words z = grind (arith, nat_tests)

pub core_less : (p : Plan) (c : Places) (node : ℕ) → core_ahead p c node ≤ entry_ahead p c node
core_less p c node = grind (arith, nat_tests)

-- where less is ahead
pub less_soon : (y : System) (thread before_mark ahead less : ℕ) → IsSoon y thread before_mark ahead → less ≤ ahead → IsSoon y thread before_mark less
less_soon y thread before_mark ahead less soon l = (omega (arith, soon.0, l), soon.1)

-- where it is said to be the most
pub whole_soon : (y : System) (thread before_mark ahead : ℕ) → before_mark ≡ most_ahead y thread → ahead ≤ most_ahead y thread →
    IsSoon y thread before_mark ahead
whole_soon y thread before_mark ahead whole l = (omega (arith, whole, l), omega (arith, whole))

module _ (y : System) (s : IsSystem y) (h : ℕ) (below : h < thread_count y) where
  abbrev code : Code y.plan
  code = s.codes.each h below

  open code.thread use {number as n}
  open code.is use {places as c}

  abbrev L : ℕ
  L = length code.program.code

  pub most_is : most_ahead y n ≡ 2 * L + 17 + length (frame_lines y.plan.log true)
  most_is = ap (λ (p : Program). 2 * length p.code + 17 + length (frame_lines y.plan.log true)) (sym (s.own h below).program)

  -- at a node's entry or code, where so many entries are queued
  pub entry_soon : (node queued : ℕ) → IsNodeOf code.thread node → queued ≤ 16 → queued + entry_ahead y.plan c node ≤ most_ahead y n
  entry_soon node queued of short =
      let whole = alone_fits y.plan code.thread code.program code.is s.plan code.of node of in
      omega (arith, whole, by (slice_get y.plan.graph.nodes node), short, most_is)
    where
      by : (o : Option Node) → (let k : ℕ = elim o [ None ↦ 0 | Some is ↦ weight is.action (c.words node) ] in k ≤ 2 * c.words node)
      by o = grind (arith, entry_few)

  -- ---- What fits after a node's mark

  module _ (node : ℕ) (is : Node) (of : IsNodeOf code.thread node) (at : NodeAt y.plan.graph node is) where
    low_at : NodeAt (lowered (flat_of y)) node is
    low_at = subst (λ (g : Graph). NodeAt g node is) s.plan.lowered at

    not_last : (action : Action) → is.action ≡ action → action ≢ End → node ≢ (last y.plan code.thread code.program code.is s.plan code.of).number
    not_last action same other e = grind (arith, nat_tests)

    -- a next node at which something is ahead is another
    module _ (next : ℕ) (next_is : Node) (next_of : IsNodeOf code.thread next) (next_at : NodeAt y.plan.graph next next_is) where
      light_apart : (action : Action) → is.action ≡ action → weight action 1 ≡ 0 → (other : Action) → next_is.action ≡ other → weight other 1 ≢ 0 → node ≢ next
      light_apart action same none other there some e = grind (arith, nat_tests)

      fits_here : (action : Action) → is.action ≡ action → action ≢ End → ((other : Action) → next_is.action ≡ other → weight other 1 ≢ 0 → node ≢ next) →
          2 * c.words node + entry_ahead y.plan c next + 4 ≤ 2 * L
      fits_here action same other apart =
          fits y.plan code.thread code.program code.is s.plan code.of node next next_is of next_of (not_last action same other) next_at apart

      one_next : (k : ℕ) → Contains (k ∷ []) next → k ≡ next
      one_next k follows = grind (arith, nat_tests)

      next_fits : (action : Action) → is.action ≡ action → Contains (successors action) next → action ≢ End →
          2 * c.words node + entry_ahead y.plan c next + 4 ≤ 2 * L
      next_fits action same follows other = grind (arith, eval_goes_on, lock_goes_on, store_goes_on, unlock_goes_on, fits_here, light_apart, low_at, one_next)

    -- each own node is there
    pub fits_by : (next : ℕ) → IsNodeOf code.thread next → Contains (successors is.action) next → is.action ≢ End →
        2 * c.words node + entry_ahead y.plan c next + 4 ≤ 2 * L
    fits_by next next_of follows other =
        let there = node_there (flat_of y) n code.thread.part
        (subst (λ (g : Graph). slice_get g.threads n ≡ Some code.thread.part) s.plan.lowered code.of.nodes) next next_of.below_end in
        next_fits next there.0 next_of (subst (λ (g : Graph). NodeAt g next there.0) (sym s.plan.lowered) there.1) is.action refl follows other
