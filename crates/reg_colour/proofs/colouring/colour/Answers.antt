use Rattle.std.proofs.Common.{◌≡◌, ◌∙◌, ℕ, ◌+◌, ◌<◌, List, [], ◌∷◌, ◌++◌, length, get_or, slice_get, Option, Some, Vec, Global, ap, subst, refl, arith}
use Rattle.std.proofs.lemmas.List.{length-map}
use Rattle.std.proofs.lemmas.Option.{slice_get-get_or}
use Rattle.flow_graph.specs.declared.graph.Part.{Part}
use Rattle.flow_graph.specs.Nodes.{node_of, graph_of}
use Rattle.reg_colour.specs.declared.scan.Crowd.{Crowd}
use Rattle.reg_colour.specs.declared.scan.Outcome.{Outcome}
use Rattle.reg_colour.specs.links.Threads.{lists_of, IsThread, IsColoured, IsCrowdOf, IsLeastCrowd, ColouredTo}
use Rattle.reg_colour.proofs.IntervalCorrectness.{spanning_within}
use Rattle.reg_colour.proofs.Threads.{one_more, crowd_more, more_lists, named, all_registers, all_apart, all_room, all_crowded}
use Rattle.reg_colour.proofs.AssigningNodes.{node_at}
use Rattle.reg_colour.proofs.colouring.colour.Goals as goal
use Rattle.reg_colour.proofs.colouring.colour.Goals.{in-Coloured+in_ok-push-in-Coloured, in-Crowded}

pub loop-part-preserved : goal.loop-part-preserved
loop-part-preserved c =
    let g = graph_of c.args.graph.now in
    let t = c.loop-part.part-index in
    let ps = c.deref-part-items.result.now in
    let none : Part = record { first = 0; end = 0; locals = 0 } in
    let part : Part = get_or ps t none in
    let lt : t < length ps = omega (arith, c.loop-part-test.true) in
    let is : slice_get c.args.graph.now.threads.items t ≡ Some part =
    subst (λ (x : List Part). slice_get x t ≡ Some part) c.deref-part-items.ensures.value (slice_get-get_or ps t none lt) in
    let olds = c.loop-part.threads.items in
    elim c.match-branch-2.branch [
      | in-Coloured+in_ok-push-in-Coloured w ↦
          let own = w.in-Coloured.registers in
          let h : IsColoured g part own.items = subst (λ (o : Outcome). IsThread g part o) w.in-Coloured.is c.in_ok-registers.ensures in
          let e : c.match-branch-2.threads.items ≡ olds ++ own ∷ [] =
          ap (λ (v : Vec (Vec ℕ Global) Global). v.items) w.threads-is ∙ w.in_ok-push-in-Coloured.ensures.items in
          named g (t + 1) (lists_of olds ++ own.items ∷ []) (lists_of c.match-branch-2.threads.items) c.loop-part.crowd c.match-branch-2.crowd
          (one_more g t (lists_of olds) c.loop-part.crowd part own.items is c.loop-part.invariant h)
          (more_lists olds c.match-branch-2.threads.items own e) w.crowd-is
      | in-Crowded w ↦
          let h : IsCrowdOf g part w.in-Crowded.found = subst (λ (o : Outcome). IsThread g part o) w.in-Crowded.is c.in_ok-registers.ensures in
          named g (t + 1) (lists_of olds) (lists_of c.match-branch-2.threads.items) (Some w.earlier.result) c.match-branch-2.crowd
          (crowd_more g t (lists_of olds) c.loop-part.crowd part w.in-Crowded.found w.earlier.result is c.loop-part.invariant h w.earlier.ensures)
          (ap (λ (v : Vec (Vec ℕ Global) Global). lists_of v.items) w.threads-is) w.crowd-is
    ]

pub index-requires : goal.index-requires
index-requires c =
    let g = graph_of c.args.graph.now in
    let t = c.loop-part.part-index in
    let crowd = c.in-Some.crowd in
    let l : IsLeastCrowd g t crowd = subst (λ (o : Option Crowd). ColouredTo g t (lists_of c.loop-part.threads.items) o) c.in-Some.is c.loop-part.invariant in
    let lt : crowd.node < length g.nodes = spanning_within g l.part crowd.node crowd.wanted l.crowded l.spanning in
    omega (arith, lt, length-map c.args.graph.now.nodes.items node_of, c.args.graph.now.nodes.ok.0)

pub returns-in-Some-clause-refused : goal.returns-in-Some-clause-refused
returns-in-Some-clause-refused c =
    let g = graph_of c.args.graph.now in
    let t = c.loop-part.part-index in
    let crowd = c.in-Some.crowd in
    let x = c.index.result.now in
    let all : length c.args.graph.now.threads.items ≡ t =
    omega (arith, c.loop-part-test.false, ap (λ (y : List Part). length y) c.deref-part-items.ensures.value) in
    let l : IsLeastCrowd g t crowd = subst (λ (o : Option Crowd). ColouredTo g t (lists_of c.loop-part.threads.items) o) c.in-Some.is c.loop-part.invariant in
    let lt : crowd.node < length g.nodes = spanning_within g l.part crowd.node crowd.wanted l.crowded l.spanning in
    let within : crowd.node < length c.args.graph.now.nodes.items = omega (arith, lt, length-map c.args.graph.now.nodes.items node_of) in
    all_crowded g t crowd (node_of x) x.place all (node_at c.args.graph.now crowd.node x within c.index.ensures) refl l

pub returns-in-None-clause-registers : goal.returns-in-None-clause-registers
returns-in-None-clause-registers c =
    let g = graph_of c.args.graph.now in
    let given = lists_of c.loop-part.threads.items in
    let t = c.loop-part.part-index in
    let all : length c.args.graph.now.threads.items ≡ t =
    omega (arith, c.loop-part-test.false, ap (λ (x : List Part). length x) c.deref-part-items.ensures.value) in
    all_registers g t given all (subst (λ (o : Option Crowd). ColouredTo g t given o) c.in-None.is c.loop-part.invariant)

pub returns-in-None-clause-apart : goal.returns-in-None-clause-apart
returns-in-None-clause-apart c =
    let g = graph_of c.args.graph.now in
    let given = lists_of c.loop-part.threads.items in
    all_apart g c.loop-part.part-index given (subst (λ (o : Option Crowd). ColouredTo g c.loop-part.part-index given o) c.in-None.is c.loop-part.invariant)

pub returns-in-None-clause-room : goal.returns-in-None-clause-room
returns-in-None-clause-room c =
    let g = graph_of c.args.graph.now in
    let given = lists_of c.loop-part.threads.items in
    let t = c.loop-part.part-index in
    let all : length c.args.graph.now.threads.items ≡ t =
    omega (arith, c.loop-part-test.false, ap (λ (x : List Part). length x) c.deref-part-items.ensures.value) in
    all_room g t given all (subst (λ (o : Option Crowd). ColouredTo g t given o) c.in-None.is c.loop-part.invariant)
