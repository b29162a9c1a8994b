use Rattle.std.proofs.Common.{List, ℕ, ◌≡◌, ◌∙◌, ap, arith, subst, true}
use Rattle.std.specs.Option.{option_map}
use Rattle.std.proofs.lemmas.Option.{slice_get-map}
use Rattle.std.proofs.lemmas.List.{length-map}
use Rattle.std.proofs.lemmas.Result.{on_ok_weaker}
use Rattle.c_tree.specs.Exprs.{lvalue_of, placed_of}
use Rattle.rv64_isa.specs.declared.instr.Instr.{Instr}
use Rattle.flow_graph.specs.declared.graph.Action.{Action as DeclaredAction}
use Rattle.flow_graph.specs.Nodes.{Action, Eval, Node, action_of, node_of, graph_of}
use Rattle.flow_graph.specs.Liveness.{NodeAt}
use Rattle.node_code.specs.Pieces.{IsUnmarked}
use Rattle.rv64_codegen.specs.declared.thread.ThreadPlan as opened
use Rattle.rv64_codegen.specs.links.Threads.{HasAction, IsOwn, plan_in}
use Rattle.rv64_codegen.proofs.AppendedParts.{nodes_lockstep}
use Rattle.rv64_codegen.proofs.ChosenBoundaries.{read_get}
use Rattle.rv64_codegen.proofs.KnownNodes.{sets_local}
use Rattle.rv64_codegen.proofs.NodePieces.{cheap_at, exists_at, few_at, formed_at, nothing_prepared, prepares_is}
use Rattle.rv64_codegen.proofs.guards.push_prepared.Goals as goal
use Rattle.rv64_codegen.proofs.guards.push_prepared.Goals.{After-index}

pub index-requires : goal.index-requires
index-requires c =
    let nodes = c.args.thread.now.plan.now.graph.now.nodes in
    omega (arith, exists_at c.args.thread.now c.args.node c.requires.own, length-map nodes.items node_of, nodes.ok.0)

found : (c : After-index) → NodeAt (graph_of c.args.thread.now.plan.now.graph.now) c.args.node (node_of c.index.result.now)
found c =
    let nodes = c.args.thread.now.plan.now.graph.now.nodes.items in
    slice_get-map node_of nodes c.args.node
    ∙ ap (option_map node_of) (read_get nodes c.args.node c.index.result.now
    (omega (arith, exists_at c.args.thread.now c.args.node c.requires.own, length-map nodes node_of)) c.index.ensures)

has : (x : opened.ThreadPlan) (node : ℕ) → IsOwn x node → (is : Node) → NodeAt (plan_in x).graph node is → (a : Action) → is.action ≡ a → HasAction x node a
has x node own is at a same = record { own = own; is = is; at = at; action_is = same }

pub target_code-requires-clause-target : goal.target_code-requires-clause-target
target_code-requires-clause-target c =
    (formed_at c.args.thread.now c.args.node _ (has c.args.thread.now c.args.node c.requires.own (node_of c.index.result.now) (found
    (goal.at.target_code-requires-clause-target c).After-index) _
    (ap action_of c.in-Eval.is))).0

pub target_code-requires-clause-home : goal.target_code-requires-clause-home
target_code-requires-clause-home c =
    (formed_at c.args.thread.now c.args.node _ (has c.args.thread.now c.args.node c.requires.own (node_of c.index.result.now) (found
    (goal.at.target_code-requires-clause-home c).After-index) _
    (ap action_of c.in-Eval.is))).1.0

pub target_code-requires-clause-few : goal.target_code-requires-clause-few
target_code-requires-clause-few c =
    few_at c.args.thread.now c.args.node _
    (has c.args.thread.now c.args.node c.requires.own (node_of c.index.result.now) (found (goal.at.target_code-requires-clause-few c).After-index) _
    (ap action_of c.in-Eval.is))

pub target_code-requires-clause-price : goal.target_code-requires-clause-price
target_code-requires-clause-price c =
    let cheap = cheap_at c.args.thread.now c.args.node _
    (has c.args.thread.now c.args.node c.requires.own (node_of c.index.result.now) (found (goal.at.target_code-requires-clause-price c).After-index) _
    (ap action_of c.in-Eval.is)) in
    omega (arith, cheap, nodes_lockstep (lvalue_of c.in-Eval.target.now))

pub returns-in_ok-code-in-Eval : goal.returns-in_ok-code-in-Eval
returns-in_ok-code-in-Eval c =
    let x = c.args.thread.now in
    let it = (has c.args.thread.now c.args.node c.requires.own (node_of c.index.result.now) (found (goal.at.returns-in_ok-code-in-Eval c).After-index)
    (Eval (lvalue_of c.in-Eval.target.now) (placed_of c.in-Eval.value.now) c.in-Eval.next) (ap action_of c.in-Eval.is)) in
    on_ok_weaker c.push_unmarked.result (λ a. record {
      piece = a.piece;
      appended = a.appended;
      is = prepares_is x c.requires.own.open_is c.args.node c.requires.own.own (lvalue_of c.in-Eval.target.now)
          (placed_of c.in-Eval.value.now) c.in-Eval.next c.in_ok-code-in-Eval.code.items a.piece it c.requires.logged
          c.in_ok-code-in-Eval.ensures (subst (λ (is : List Instr). IsUnmarked is a.piece) c.deref.ensures.value a.is);
    }) c.push_unmarked.ensures

pub returns-in-Store : goal.returns-in-Store
returns-in-Store c =
    nothing_prepared c.args.thread.now c.requires.own.open_is c.args.node c.requires.own.own (node_of c.index.result.now)
    (found (goal.at.returns-in-Store c).After-index) (ap (λ (a : DeclaredAction). sets_local (action_of a)) c.in-Store.is) c.requires.logged _

pub returns-in-Test : goal.returns-in-Test
returns-in-Test c =
    nothing_prepared c.args.thread.now c.requires.own.open_is c.args.node c.requires.own.own (node_of c.index.result.now)
    (found (goal.at.returns-in-Test c).After-index) (ap (λ (a : DeclaredAction). sets_local (action_of a)) c.in-Test.is) c.requires.logged _

pub returns-in-Lock : goal.returns-in-Lock
returns-in-Lock c =
    nothing_prepared c.args.thread.now c.requires.own.open_is c.args.node c.requires.own.own (node_of c.index.result.now)
    (found (goal.at.returns-in-Lock c).After-index) (ap (λ (a : DeclaredAction). sets_local (action_of a)) c.in-Lock.is) c.requires.logged _

pub returns-in-Unlock : goal.returns-in-Unlock
returns-in-Unlock c =
    nothing_prepared c.args.thread.now c.requires.own.open_is c.args.node c.requires.own.own (node_of c.index.result.now)
    (found (goal.at.returns-in-Unlock c).After-index) (ap (λ (a : DeclaredAction). sets_local (action_of a)) c.in-Unlock.is) c.requires.logged _

pub returns-in-End : goal.returns-in-End
returns-in-End c =
    nothing_prepared c.args.thread.now c.requires.own.open_is c.args.node c.requires.own.own (node_of c.index.result.now)
    (found (goal.at.returns-in-End c).After-index) (ap (λ (a : DeclaredAction). sets_local (action_of a)) c.in-End.is) c.requires.logged _
