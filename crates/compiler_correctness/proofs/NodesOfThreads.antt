-- Each node is of one thread alone; so a boundary that stands before it by choice does before a write of a section of that thread.
use Rattle.std.proofs.Common.{◌≡◌, ◌≢◌, ◌⊎◌, inl, inr, ℕ, zero, suc, ◌+◌, ◌-◌, ◌<◌, ◌≤◌, List, [], ◌∷◌, length, map, refl, ap, sym, subst, ◌∙◌, arith}
use Rattle.std.proofs.Common.{Bool, true, false, None, Some, slice_get, slice_index_or, length-set}
use Rattle.std.specs.Prelude.{slice_set}
use Rattle.std.proofs.lemmas.Bool.{cases_eq}
use Rattle.std.proofs.lemmas.List.{length-map}
use Rattle.std.proofs.lemmas.Option.{none-some, same_Some}
use Rattle.ido_base.specs.declared.location.Location.{Location}
use Rattle.c_tree.specs.Exprs.{LockName, ToLocal}
use Rattle.c_tree.specs.Flats as f
use Rattle.c_tree.specs.LockNames.{held_names, lock_names}
use Rattle.flow_graph.specs.declared.graph.Part.{Part}
use Rattle.flow_graph.specs.Nodes.{Action, Eval, Node, Graph}
use Rattle.flow_graph.specs.Liveness.{NodeAt}
use Rattle.flow_graph.specs.Lowering.{part, parts, thread_count, threads_nodes}
use Rattle.flow_graph.specs.IdempotentCuts.{Boundaries, HasBefore, IsUnlock, Writes, IsChosen, AreAtWrites}
use Rattle.flow_graph.proofs.Public.{ShapedAs, node_shaped, set_same, set_other}
use Rattle.thread_code.specs.Plans.{Assigns, Plan, IsPlan, Thread, IsThread, IsNodeOf, IsLogged, IsLoggedAt, held_names_before, names_in}
use Rattle.rv64_codegen.proofs.Public.{IsStoring, chosen_writes, nodes_are, threads_are}

-- ---- Parts follow one another

later : (ts : List f.Thread) (first k : ℕ) (own : Part) → slice_get (parts ts first) k ≡ Some own → first ≤ own.first
later [] first k own there = absurd (none-some own there)
later (t ∷ ts) first zero own there = subst (λ (x : Part). first ≤ x.first) (same_Some (part t first) own there) (omega arith)
later (t ∷ ts) first (suc k) own there = let rest = later ts (first + thread_count t) k own there in omega (arith, rest)

-- the node is of both
one_part : (ts : List f.Thread) (first k l : ℕ) (own other : Part) (node : ℕ) → slice_get (parts ts first) k ≡ Some own →
    slice_get (parts ts first) l ≡ Some other → own.first ≤ node → node < own.end → other.first ≤ node → node < other.end → k ≡ l
one_part [] first k l own other node there here from below after before = absurd (none-some own there)
one_part (t ∷ ts) first zero zero own other node there here from below after before = refl
one_part (t ∷ ts) first zero (suc l) own other node there here from below after before =
    let end : first + thread_count t ≡ own.end = ap (λ (x : Part). x.end) (same_Some (part t first) own there) in
    let next = later ts (first + thread_count t) l other here in
    absurd (omega (arith, end, next, below, after))
one_part (t ∷ ts) first (suc k) zero own other node there here from below after before =
    let end : first + thread_count t ≡ other.end = ap (λ (x : Part). x.end) (same_Some (part t first) other here) in
    let next = later ts (first + thread_count t) k own there in
    absurd (omega (arith, end, next, from, before))
one_part (t ∷ ts) first (suc k) (suc l) own other node there here from below after before =
    ap suc (one_part ts (first + thread_count t) k l own other node there here from below after before)

-- ---- A boundary before one write alone

module _ (g : Graph) (node : ℕ) (writes : Writes g node) where
  none_before : (ns : List Node) (k : ℕ) → slice_get (map (λ (n : Node). false) ns) k ≡ Some true → ⊥
  none_before [] k there = cc
  none_before (n ∷ ns) zero there = cc
  none_before (n ∷ ns) (suc k) there = none_before ns k there

  one_there : (ns : List Node) (k : ℕ) (n : Node) → slice_get ns k ≡ Some n → slice_get (map (λ (n : Node). false) ns) k ≡ Some false
  one_there [] k n there = absurd (none-some n there)
  one_there (m ∷ ns) zero n there = refl
  one_there (m ∷ ns) (suc k) n there = one_there ns k n there

  abbrev pub alone : Boundaries
  alone = record {
    before = slice_set (map (λ (n : Node). false) g.nodes) node true;
    after_lock = map (λ (n : Node). false) g.nodes;
  }

  pub alone_stands : HasBefore alone node
  alone_stands = set_same (map (λ (n : Node). false) g.nodes) node true false (one_there g.nodes node writes.is writes.at)

  pub alone_at_writes : AreAtWrites g alone
  alone_at_writes = record {
    after = λ k there. absurd (none_before g.nodes k there);
    before = λ k there. elim (cases_eq k node) [
      | inl same ↦ inr (subst (λ (n : ℕ). Writes g n) (sym same) writes)
      | inr other ↦ absurd (none_before g.nodes k (sym (set_other (map (λ (n : Node). false) g.nodes) node k true other) ∙ there))
    ];
    before_count = length-set (map (λ (n : Node). false) g.nodes) node true ∙ length-map g.nodes (λ (n : Node). false);
    after_count = length-map g.nodes (λ (n : Node). false);
  }

-- ---- A node of a thread

module _ (p : Plan) (plan : IsPlan p) (t : Thread) (of : IsThread p t) (node : ℕ) (own : IsNodeOf t node) where
  in_parts : (k : ℕ) (own : Part) → slice_get p.graph.threads k ≡ Some own → slice_get (parts p.flat.threads 0) k ≡ Some own
  in_parts k own there = ap (λ (ps : List Part). slice_get ps k) (sym (threads_are p plan)) ∙ there

  -- the names that are held before the node of a thread of that number, whose first node is this one
  abbrev names_by : (number first : ℕ) → List LockName
  names_by number first =
      held_names (slice_index_or (map (λ (text : f.Thread). lock_names p.flat text) p.flat.threads) number [])
      (slice_index_or (slice_index_or p.held number []) (node - first) [])

  -- an assignment that one of the threads logs its own thread does
  pub logs_it : IsLoggedAt p node → IsLogged p t node
  logs_it at =
      let u : Thread = at.thread in
      let number : u.number ≡ t.number =
      one_part p.flat.threads 0 u.number t.number u.part t.part node (in_parts u.number u.part at.of.nodes) (in_parts t.number t.part of.nodes)
      at.own.from_first at.own.below_end own.from_first own.below_end in
      let same : u.part ≡ t.part =
      same_Some u.part t.part (sym at.of.nodes ∙ (ap (λ (k : ℕ). slice_get p.graph.threads k) number ∙ of.nodes)) in
      let names : held_names_before p u node ≡ held_names_before p t node =
      ap (λ (k : ℕ). names_by k u.part.first) number ∙ ap (λ (x : Part). names_by t.number x.first) same in
      record {
        local = at.logged.local;
        assigns = at.logged.assigns;
        frame = at.logged.frame;
        holds = λ none. at.logged.holds (names ∙ none);
      }

  module _ (is : Node) (at : NodeAt p.graph node is) where
    -- an assignment of a local writes no variable
    quiet : (local : ℕ) → Assigns p node local → Writes p.graph node → ⊥
    quiet local it writes =
        let same : writes.is ≡ it.is = same_Some writes.is it.is (sym writes.at ∙ it.at) in
        let there : slice_get (threads_nodes p.flat p.flat.threads 0) node ≡ Some it.is =
        ap (λ (ns : List Node). slice_get ns node) (sym (nodes_are p plan)) ∙ it.at in
        let shape = subst (λ (a : Action). ShapedAs (threads_nodes p.flat p.flat.threads 0) it.is a) it.action (node_shaped p.flat node it.is there) in
        none-some writes.written (sym shape.1.writes ∙ (ap (λ (n : Node). n.writes) (sym same) ∙ writes.writes))

    -- where a boundary stands before it by choice it makes a store, or is a logged assignment
    pub chosen_kind : IsChosen p.graph p.boundaries node → (IsStoring p plan is.action × Writes p.graph node) ⊎ IsLogged p t node
    chosen_kind chosen = elim (plan.at_writes.before node chosen.stands) [
      | inl gives ↦ absurd (chosen.free gives)
      | inr (inl writes) ↦ elim (chosen_writes p plan node is at chosen) [
        | inl storing ↦ inl (storing, writes)
        | inr assigned ↦ absurd (quiet assigned.1.0 assigned.1.1 writes)
      ]
      | inr (inr logged) ↦ inr (logs_it logged)
    ]
