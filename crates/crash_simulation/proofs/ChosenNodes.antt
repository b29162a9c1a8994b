-- Nodes before which a boundary stands by choice: each makes a store, or assigns a local.
use Rattle.crash_simulation.proofs.Common.{◌≡◌, ℕ, ◌*◌, sym, ◌∙◌, ap, subst, inl, inr, same_Some, Kind, Place, IsChosen, NodeAt, lowered, threads_nodes}
use Rattle.crash_simulation.proofs.Common.{Action, Eval, Node, Graph, nodes_at, node_shaped, StoresHere, writing_stores, System, IsSystem, flat_of}
use Rattle.crash_simulation.proofs.Common.{call_weight, weight, entry_ahead, core_ahead, Places}
use Rattle.c_tree.specs.Exprs as e
use Rattle.crash_simulation.proofs.StepsAfterMarks.{weight_is}
use Rattle.crash_simulation.proofs.Common.{Contains, Element, Seen, Store, contains_none, reads_of}
use Rattle.log_schemes.specs.Schemes.{locals_of}
use Rattle.log_schemes.specs.declared.locals.Locals.TheVariants.{Frame}
use Rattle.flow_graph.specs.IdempotentCuts.{IsStoreNode, Writes, stores}

-- an assignment of a local
pub record AssignsHere (action : Action) : Type 0 where
  pub place : Place
  pub local : ℕ
  pub kind : Kind
  pub value : e.Placed
  pub next : ℕ
  pub is : action ≡ Eval (e.ToLocal place local kind) value next

pub data WritesHere (action : Action) : Type 0 where
  stores_there : StoresHere action → WritesHere action
  assigns_there : AssignsHere action → WritesHere action

module _ (y : System) (s : IsSystem y) where
  -- in the form's graph
  in_lowered : (node : ℕ) (is : Node) → NodeAt y.plan.graph node is → NodeAt (lowered (flat_of y)) node is
  in_lowered node is at = subst (λ (g : Graph). NodeAt g node is) s.plan.lowered at

  -- a node that reads an element makes no store
  pub readers_store_none : (node : ℕ) (is : Node) → NodeAt y.plan.graph node is → (seen : Seen) (one : Element) → Contains (reads_of is.action seen) one →
      IsStoreNode y.plan.graph node → ⊥
  readers_store_none node is at seen one reads (stores other variable kind next found action) =
      let same : is.action ≡ Store variable kind next = ap (λ (z : Node). z.action) (same_Some is other (sym at ∙ found)) ∙ action in
      contains_none one (subst (λ (z : Action). Contains (reads_of z seen) one) same reads)

  module _ (node : ℕ) (is : Node) (at : NodeAt y.plan.graph node is) (chosen : IsChosen y.plan.graph y.plan.boundaries node) where
    pub stored_here : Writes y.plan.graph node → StoresHere is.action
    stored_here writes =
        let same : writes.is ≡ is = same_Some writes.is is (sym writes.at ∙ at) in
        writing_stores (threads_nodes (flat_of y) (flat_of y).threads 0) is is.action writes.written
        (node_shaped (flat_of y) node is (nodes_at (flat_of y) node is (in_lowered node is at)))
        (ap (λ (z : Node). z.writes) (sym same) ∙ writes.writes)

    -- one that reads an element is an assignment of a local that stands in the frame
    pub chosen_framed : (seen : Seen) (one : Element) → Contains (reads_of is.action seen) one → locals_of y.plan.log ≡ Frame
    chosen_framed seen one reads = elim (s.plan.at_writes.before node chosen.stands) [
      | inl u ↦ absurd (chosen.free u)
      | inr (inl writes) ↦
          absurd (contains_none one (subst (λ (z : Action). Contains (reads_of z seen) one) (stored_here writes).is reads))
      | inr (inr framed) ↦ framed.logged.frame
    ]

    -- they stand before writes alone
    pub chosen_writes : WritesHere is.action
    chosen_writes = elim (s.plan.at_writes.before node chosen.stands) [
      | inl u ↦ absurd (chosen.free u)
      | inr (inl writes) ↦ stores_there (stored_here writes)
      | inr (inr framed) ↦
          let a = framed.logged.assigns in
          let same : a.is ≡ is = same_Some a.is is (sym a.at ∙ at) in
          assigns_there (record {
            place = a.place;
            local = framed.logged.local;
            kind = a.kind;
            value = a.assigned;
            next = a.next;
            is = ap (λ (z : Node). z.action) (sym same) ∙ a.action;
          })
    ]

    -- from the entry of one the boundary is ahead, and nothing past that
    pub chosen_entry : (c : Places) → entry_ahead y.plan c node ≡ 2 * c.words node
    chosen_entry c = weight_is weight y.plan c node is at ∙ by chosen_writes
      where
        by : WritesHere is.action → weight is.action (c.words node) ≡ 2 * c.words node
        by (stores_there t) = ap (λ (a : Action). weight a (c.words node)) t.is
        by (assigns_there t) = ap (λ (a : Action). weight a (c.words node)) t.is

    pub chosen_core : (c : Places) → core_ahead y.plan c node ≡ 0
    chosen_core c = weight_is call_weight y.plan c node is at ∙ by chosen_writes
      where
        by : WritesHere is.action → call_weight is.action (c.words node) ≡ 0
        by (stores_there t) = ap (λ (a : Action). call_weight a (c.words node)) t.is
        by (assigns_there t) = ap (λ (a : Action). call_weight a (c.words node)) t.is

  -- the node of one is there
  pub chosen_there : (node : ℕ) → IsChosen y.plan.graph y.plan.boundaries node → (is : Node) × NodeAt y.plan.graph node is
  chosen_there node chosen = elim (s.plan.at_writes.before node chosen.stands) [
    | inl u ↦ absurd (chosen.free u)
    | inr (inl writes) ↦ (writes.is, writes.at)
    | inr (inr framed) ↦ (framed.logged.assigns.is, framed.logged.assigns.at)
  ]
