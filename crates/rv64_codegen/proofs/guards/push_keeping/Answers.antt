use Rattle.std.proofs.Common.{List, ℕ, ◌≡◌, ◌∙◌, ap, arith, refl, sym, subst, false, Option}
use Rattle.std.specs.Prelude.{Vec}
use Rattle.std.specs.Global.{Global}
use Rattle.std.specs.List.{list_all}
use Rattle.std.specs.Option.{option_map}
use Rattle.std.proofs.lemmas.Option.{same_Some, slice_get-map}
use Rattle.std.proofs.lemmas.List.{length-map}
use Rattle.std.proofs.lemmas.Result.{on_ok_weaker}
use Rattle.log_schemes.specs.Schemes.{may_keep}
use Rattle.rv64_isa.specs.declared.instr.Instr.{Instr}
use Rattle.boundary_code.specs.Boundaries.{lists_of}
use Rattle.boundary_code.specs.declared.written.Written.{Written}
use Rattle.flow_graph.specs.Nodes.{Node, action_of, node_of, graph_of}
use Rattle.flow_graph.specs.Liveness.{NodeAt}
use Rattle.thread_code.specs.NodeCodeEffects.{bytes_written}
use Rattle.rv64_codegen.specs.links.Threads.{AreNumbersOf, IsKeptFor, choices_of, plan_in}
use Rattle.rv64_codegen.proofs.ChosenBoundaries.{read_get}
use Rattle.rv64_codegen.proofs.NodePieces.{before_keepable, exists_at, keeps_is, kept_thread, kept_live, write_of, written_few}
use Rattle.rv64_codegen.proofs.guards.push_keeping.Goals as goal
use Rattle.rv64_codegen.proofs.guards.push_keeping.Goals.{After-index}

pub index-requires : goal.index-requires
index-requires c =
    let nodes = c.args.thread.now.plan.now.graph.now.nodes in
    omega (arith, exists_at c.args.thread.now c.args.node c.requires.own, length-map nodes.items node_of, nodes.ok.0)

found : (c : After-index) → NodeAt (graph_of c.args.thread.now.plan.now.graph.now) c.args.node (node_of c.index.result.now)
found c =
    let nodes = c.args.thread.now.plan.now.graph.now.nodes.items in
    slice_get-map node_of nodes c.args.node
    ∙ ap (option_map node_of) (read_get nodes c.args.node c.index.result.now
    (omega (arith, exists_at c.args.thread.now c.args.node c.requires.own, length-map nodes node_of)) c.index.ensures)

pub kept-kept-requires-clause-numbers : goal.kept-kept-requires-clause-numbers
kept-kept-requires-clause-numbers c =
    subst (λ (codes : List (Vec Instr Global)). AreNumbersOf c.args.thread.now c.args.node (lists_of codes)) (sym c.deref.ensures.value)
    c.in_ok-numbers.ensures

pub push_boundary-requires-clause-keeping : goal.push_boundary-requires-clause-keeping
push_boundary-requires-clause-keeping c = c.kept-kept.ensures.keeping

pub push_boundary-requires-clause-thread : goal.push_boundary-requires-clause-thread
push_boundary-requires-clause-thread c =
    kept_thread c.args.thread.now c.requires.own.open_is c.args.node _ _ c.kept-kept.result c.kept-kept.ensures

pub push_boundary-requires-clause-live : goal.push_boundary-requires-clause-live
push_boundary-requires-clause-live c =
    let x = c.args.thread.now in
    let o = c.requires.own.open_is in
    kept_live x o c.args.node _ _ c.kept-kept.result
    (ap (λ (rs : List ℕ). list_all (may_keep (plan_in x).log) rs) c.requires.live ∙ before_keepable x o c.args.node c.requires.own.own) c.kept-kept.ensures

pub push_boundary-requires-clause-bytes : goal.push_boundary-requires-clause-bytes
push_boundary-requires-clause-bytes c =
    written_few c.args.thread.now c.requires.own.open_is c.kept-kept.result _ c.kept-kept.ensures.written_is (action_of c.index.result.now.action)
    c.written_bytes.ensures

pub push_boundary-requires-clause-room : goal.push_boundary-requires-clause-room
push_boundary-requires-clause-room c = c.kept-kept.ensures.room

pub push_boundary-requires-clause-quiet : goal.push_boundary-requires-clause-quiet
push_boundary-requires-clause-quiet c = c.kept-kept.ensures.quiet

pub returns : goal.returns
returns c =
    let x = c.args.thread.now in
    let node : ℕ = c.args.node in
    let k = c.kept-kept.result in
    let bytes : Option ℕ → Written = λ b. record { bytes = b; opens = false } in
    let live = subst (λ (rs : List ℕ). IsKeptFor x node rs (bytes c.written_bytes.result) k) c.requires.live c.kept-kept.ensures in
    let told = subst (λ (b : Option ℕ). IsKeptFor x node ((choices_of x).kept node) (bytes b) k) c.written_bytes.ensures live in
    let there = found (goal.at.returns c).After-index in
    on_ok_weaker c.push_boundary.result (λ own. record {
      piece = own.piece;
      appended = own.appended;
      is = λ is at.
          let same = same_Some (node_of c.index.result.now) is (sym there ∙ at) in
          keeps_is x c.requires.own.open_is node is.action k own.piece
          (subst (λ (n : Node). IsKeptFor x node ((choices_of x).kept node) (bytes (bytes_written n.action)) k) same told) own.is;
    }) c.push_boundary.ensures
