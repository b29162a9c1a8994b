use Rattle.std.proofs.Common.{◌≡◌, ◌∙◌, ◌-◌, [], ℕ, List, Option, length, ap, sym, subst, arith}
use Rattle.std.specs.Prelude.{slice_index_or, ◌<◌, IfSome}
use Rattle.std.proofs.lemmas.Option.{same_Some}
use Rattle.c_tree.specs.Flats as f
use Rattle.c_tree.specs.Flats.{thread_of}
use Rattle.flow_graph.specs.Nodes.{Node, node_of}
use Rattle.thread_code.specs.Plans.{IsNodeOf}
use Rattle.rv64_codegen.specs.Plans.{plan_of}
use Rattle.rv64_codegen.proofs.Public.{colours_long}
use Rattle.recovered_threads.specs.RecordDescriptions.{NodePlace}
use Rattle.flat_compile.specs.declared.resumes.Assignment.{Assignment}
use Rattle.flat_compile.specs.declared.resumes.Counted.{Counted}
use Rattle.flat_compile.specs.ResumePlaces.{knowns_before, place_at}
use Rattle.flat_compile.specs.links.KnownLists.{known_lists}
use Rattle.flat_compile.specs.links.ResumePlacesByNode.{counted_by, thread_in, AreAssignedIn, AreLiveBelow, IsLiveIn}
use Rattle.flat_compile.proofs.ResumedNodes.{exists, at_node, colours_are, text_there}
use Rattle.flat_compile.proofs.LiveLocals.{one_each, all_live, refers_long, strictly}
use Rattle.flat_compile.proofs.LoggedAssignments.{assigned_below, assigned_is, counted_is, counted_own}
use Rattle.flat_compile.proofs.Systems.{node_there}
use Rattle.flat_compile.proofs.resumes.found.Goals as goal
use Rattle.flat_compile.proofs.resumes.found.Goals.{After-index-text}

colours : (c : After-index-text) → c.deref-colours.result.now ≡ c.requires.own.is.thread.colours
colours c =
    c.deref-colours.ensures.value
    ∙ colours_are c.args.plan.now c.args.number c.args.part c.args.stand.node c.requires.own c.index.result.now c.index.ensures

text : (c : After-index-text) → thread_of c.index-text.result.now ≡ c.requires.own.is.thread.text
text c = text_there c.args.plan.now c.args.number c.args.part c.requires.own.is c.index-text.result.now c.index-text.ensures

-- a local for each colour
kinds : (c : After-index-text) → length (thread_of c.index-text.result.now).locals ≡ length c.deref-colours.result.now
kinds c =
    let p = plan_of c.args.plan.now in
    let t = thread_in p c.args.number c.args.part in
    let is = c.requires.own.is in
    ap (λ (x : f.Thread). length x.locals) (text c) ∙ sym (colours_long p is.plan t is.thread)
    ∙ ap (λ (cs : List ℕ). length cs) (sym (colours c))

-- and what each refers to
refers : (c : After-index-text) → length (thread_of c.index-text.result.now).refers ≡ length c.deref-colours.result.now
refers c =
    let p = plan_of c.args.plan.now in
    let t = thread_in p c.args.number c.args.part in
    let is = c.requires.own.is in
    ap (λ (x : f.Thread). length x.refers) (text c) ∙ refers_long p is.plan t is.thread
    ∙ ap (λ (x : f.Thread). length x.locals) (sym (text c)) ∙ kinds c

pub live_locals-requires-clause-kinds : goal.live_locals-requires-clause-kinds
live_locals-requires-clause-kinds c = kinds (goal.at.live_locals-requires-clause-kinds c).After-index-text

pub live_locals-requires-clause-refers : goal.live_locals-requires-clause-refers
live_locals-requires-clause-refers c = refers (goal.at.live_locals-requires-clause-refers c).After-index-text

pub live_locals-requires-clause-apart : goal.live_locals-requires-clause-apart
live_locals-requires-clause-apart c =
    let p = plan_of c.args.plan.now in
    let t = thread_in p c.args.number c.args.part in
    let is = c.requires.own.is in
    let node = c.args.stand.node in
    let counted : Counted = c.counted_at.result in
    let there = node_there p is.plan t is.thread node c.requires.own.own in
    let own : IsNodeOf t counted.node =
    subst (λ (z : Counted). IsNodeOf t z.node) (sym c.counted_at.ensures)
    (counted_own p t node there.0 there.1 is.plan is.thread c.requires.own.own (place_at c.args.stand.at_core) c.next_logged-assignment.result
    c.next_logged-assignment.ensures) in
    subst (λ (cs : List ℕ). (colour a b : ℕ) → IsLiveIn cs p.live counted colour a → IsLiveIn cs p.live counted colour b → a ≡ b)
    (sym (colours (goal.at.live_locals-requires-clause-apart c).After-index-text)) (one_each p is.plan t is.thread counted own)

pub index-requires-2 : goal.index-requires-2
index-requires-2 c = omega (arith, exists c.args.plan.now c.args.number c.args.part c.args.stand.node c.requires.own, c.args.plan.now.graph.now.nodes.ok.0)

pub assigned_by-requires-clause-kinds : goal.assigned_by-requires-clause-kinds
assigned_by-requires-clause-kinds c = kinds (goal.at.assigned_by-requires-clause-kinds c).After-index-text

pub assigned_by-requires-clause-refers : goal.assigned_by-requires-clause-refers
assigned_by-requires-clause-refers c = refers (goal.at.assigned_by-requires-clause-refers c).After-index-text

pub assigned_by-requires-clause-there : goal.assigned_by-requires-clause-there
assigned_by-requires-clause-there c =
    let p = plan_of c.args.plan.now in
    let t = thread_in p c.args.number c.args.part in
    let is = c.requires.own.is in
    let node = c.args.stand.node in
    let there = node_there p is.plan t is.thread node c.requires.own.own in
    subst (λ (cs : List ℕ). IfSome c.next_logged-assignment.result (λ (a : Assignment). a.local < length cs))
    (sym (colours (goal.at.assigned_by-requires-clause-there c).After-index-text))
    (assigned_below p t node there.0 there.1 is.plan is.thread c.requires.own.own (place_at c.args.stand.at_core) c.next_logged-assignment.result
    c.next_logged-assignment.ensures)

pub returns-clause-found : goal.returns-clause-found
returns-clause-found c =
    let q = c.args.plan.now in
    let p = plan_of q in
    let t = thread_in p c.args.number c.args.part in
    let is = c.requires.own.is in
    let node = c.args.stand.node in
    let place : NodePlace = place_at c.args.stand.at_core in
    let w = (goal.at.returns-clause-found c).After-index-text in
    let locals = c.in_ok-live.live.items in
    let o : Option Assignment = c.next_logged-assignment.result in
    let there = node_there p is.plan t is.thread node c.requires.own.own in
    let known : slice_index_or (known_lists c.args.knowns.now) (node - c.args.part.first) [] ≡ knowns_before p t node =
    ap (λ (steps : List (List ℕ)). slice_index_or steps (node - c.args.part.first) []) c.requires.knowns in
    let below : AreLiveBelow is.thread.colours is.thread.text (knowns_before p t node) p.live (counted_by node o) 18 locals =
    subst (λ (z : Counted). AreLiveBelow is.thread.colours is.thread.text (knowns_before p t node) p.live z 18 locals) c.counted_at.ensures
    (subst (λ (cs : List ℕ). AreLiveBelow cs is.thread.text (knowns_before p t node) p.live c.counted_at.result 18 locals) (colours w)
    (subst (λ (x : f.Thread). AreLiveBelow c.deref-colours.result.now x (knowns_before p t node) p.live c.counted_at.result 18 locals) (text w)
    (subst (λ (known : List ℕ). AreLiveBelow c.deref-colours.result.now (thread_of c.index-text.result.now) known p.live c.counted_at.result 18 locals) known
    c.in_ok-live.ensures))) in
    let assigned : AreAssignedIn is.thread.colours is.thread.text o c.assigned_by.result =
    subst (λ (cs : List ℕ). AreAssignedIn cs is.thread.text o c.assigned_by.result) (colours w)
    (subst (λ (x : f.Thread). AreAssignedIn c.deref-colours.result.now x o c.assigned_by.result) (text w) c.assigned_by.ensures) in
    record {
      own = c.requires.own.own;
      held_is = c.in_ok-held.ensures;
      live = all_live p is.plan t is.thread node place (counted_by node o) (counted_is p t node there.0 there.1 place o c.next_logged-assignment.ensures)
          locals below;
      ascend = strictly 0 _ below.ascend;
      pending_is = λ x at. ap (λ (n : Node). n.writes) (same_Some (node_of c.index-2.result.now) x
          (sym (at_node q c.args.number c.args.part node c.requires.own c.index-2.result.now c.index-2.ensures) ∙ at));
      assigned_is = assigned_is p t node there.0 there.1 is.plan is.thread c.requires.own.own place o c.assigned_by.result
          c.next_logged-assignment.ensures assigned;
    }
