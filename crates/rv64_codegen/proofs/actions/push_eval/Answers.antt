use Rattle.std.proofs.Common.{◌≡◌, ◌∙◌, List, arith, subst, sym, true, false}
use Rattle.std.proofs.lemmas.Result.{on_ok_weaker}
use Rattle.c_tree.specs.Exprs.{expr_of, placed_of, lvalue_of}
use Rattle.rv64_isa.specs.declared.instr.Instr.{Instr}
use Rattle.expr_code.specs.EvaluationCode.{homes_of}
use Rattle.flow_graph.specs.Nodes.{Eval}
use Rattle.node_code.specs.Pieces.{IsPlainWrite}
use Rattle.rv64_codegen.proofs.AppendedParts.{eval_done, logged_done, nodes_lockstep, plain_done}
use Rattle.rv64_codegen.proofs.NodePieces.{formed_at, few_at, cheap_at}
use Rattle.rv64_codegen.proofs.Pieces.{is_plain_assignment}
use Rattle.rv64_codegen.proofs.actions.push_eval.Goals as goal

pub target_code-requires-clause-target : goal.target_code-requires-clause-target
target_code-requires-clause-target c =
    (formed_at c.args.thread.now c.args.node (Eval (lvalue_of c.args.target.now) (placed_of c.args.value.now) c.args.next) c.requires).0

pub target_code-requires-clause-home : goal.target_code-requires-clause-home
target_code-requires-clause-home c =
    (formed_at c.args.thread.now c.args.node (Eval (lvalue_of c.args.target.now) (placed_of c.args.value.now) c.args.next) c.requires).1.0

pub target_code-requires-clause-few : goal.target_code-requires-clause-few
target_code-requires-clause-few c =
    few_at c.args.thread.now c.args.node (Eval (lvalue_of c.args.target.now) (placed_of c.args.value.now) c.args.next) c.requires

pub target_code-requires-clause-price : goal.target_code-requires-clause-price
target_code-requires-clause-price c =
    let cheap = cheap_at c.args.thread.now c.args.node (Eval (lvalue_of c.args.target.now) (placed_of c.args.value.now) c.args.next) c.requires in
    omega (arith, cheap, nodes_lockstep (lvalue_of c.args.target.now))

pub push_evaluation-requires-clause-target : goal.push_evaluation-requires-clause-target
push_evaluation-requires-clause-target c =
    (formed_at c.args.thread.now c.args.node (Eval (lvalue_of c.args.target.now) (placed_of c.args.value.now) c.args.next) c.requires).0

pub push_evaluation-requires-clause-home : goal.push_evaluation-requires-clause-home
push_evaluation-requires-clause-home c =
    (formed_at c.args.thread.now c.args.node (Eval (lvalue_of c.args.target.now) (placed_of c.args.value.now) c.args.next) c.requires).1.0

pub push_evaluation-requires-clause-few : goal.push_evaluation-requires-clause-few
push_evaluation-requires-clause-few c =
    few_at c.args.thread.now c.args.node (Eval (lvalue_of c.args.target.now) (placed_of c.args.value.now) c.args.next) c.requires

pub push_evaluation-requires-clause-price : goal.push_evaluation-requires-clause-price
push_evaluation-requires-clause-price c =
    let cheap = cheap_at c.args.thread.now c.args.node (Eval (lvalue_of c.args.target.now) (placed_of c.args.value.now) c.args.next) c.requires in
    omega (arith, cheap, nodes_lockstep (lvalue_of c.args.target.now))

pub push_fragment-requires : goal.push_fragment-requires
push_fragment-requires c =
    (formed_at c.args.thread.now c.args.node (Eval (lvalue_of c.args.target.now) (placed_of c.args.value.now) c.args.next) c.requires).1.1

pub push_fragment-requires-then-is_framed : goal.push_fragment-requires-then-is_framed
push_fragment-requires-then-is_framed c =
    (formed_at c.args.thread.now c.args.node (Eval (lvalue_of c.args.target.now) (placed_of c.args.value.now) c.args.next) c.requires).1.1

pub push_fragment-requires-2 : goal.push_fragment-requires-2
push_fragment-requires-2 c =
    (formed_at c.args.thread.now c.args.node (Eval (lvalue_of c.args.target.now) (placed_of c.args.value.now) c.args.next) c.requires).1.1

pub is_framed-requires : goal.is_framed-requires
is_framed-requires c =
    (formed_at c.args.thread.now c.args.node (Eval (lvalue_of c.args.target.now) (placed_of c.args.value.now) c.args.next) c.requires).0

pub returns-then-is_logged : goal.returns-then-is_logged
returns-then-is_logged c =
    on_ok_weaker c.push_fragment.result
    (λ fragment. logged_done c.args.thread.now c.args.node (lvalue_of c.args.target.now) (placed_of c.args.value.now) c.args.next _ _ _ c.requires
    (sym c.is_logged.ensures ∙ c.if-is_logged.true) c.in_ok-push_store.ensures fragment) c.push_fragment.ensures

pub returns-then-is_framed : goal.returns-then-is_framed
returns-then-is_framed c =
    let written = c.in_ok-push_plain_write.ensures in
    on_ok_weaker c.push_fragment-then-is_framed.result
    (λ fragment. plain_done c.args.thread.now c.args.node (lvalue_of c.args.target.now) (placed_of c.args.value.now) c.args.next _ _ _ c.requires
    (sym c.is_logged.ensures ∙ c.if-is_logged.false) (sym c.is_framed.ensures ∙ c.if-is_framed.true) (record {
      piece = written.piece;
      appended = written.appended;
      is = is_plain_assignment (homes_of c.args.thread.now.frame) (lvalue_of c.args.target.now) (expr_of c.args.value.now.expr) c.in_ok-code.code.items
          c.in_ok-code.ensures written.piece (subst (λ (is : List Instr). IsPlainWrite is written.piece) c.deref.ensures.value written.is);
    }) fragment) c.push_fragment-then-is_framed.ensures

pub returns : goal.returns
returns c =
    on_ok_weaker c.push_fragment-2.result
    (λ fragment. eval_done c.args.thread.now c.args.node (lvalue_of c.args.target.now) (placed_of c.args.value.now) c.args.next _ _ _ c.requires
    (sym c.is_logged.ensures ∙ c.if-is_logged.false) (sym c.is_framed.ensures ∙ c.if-is_framed.false) c.in_ok-push_evaluation.ensures fragment)
    c.push_fragment-2.ensures
