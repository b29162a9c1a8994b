use Rattle.std.proofs.Common.{◌≡◌, arith, rules, true, false, sym, ◌∙◌, []}
use Rattle.std.proofs.lemmas.Bool.{true≢false}
use Rattle.std.proofs.lemmas.List.{append-nil, length-map}
use Rattle.std.proofs.lemmas.Result.{on_ok_weaker}
use Rattle.flow_graph.specs.Nodes.{node_of}
use Rattle.rv64_codegen.proofs.NodePieces.{exists_at, guard_absent, guard_logged, guard_plain}
use Rattle.rv64_codegen.proofs.guards.push_guard.Goals as goal

pub is_chosen-requires-clause-node : goal.is_chosen-requires-clause-node
is_chosen-requires-clause-node c =
    omega (arith, exists_at c.args.thread.now c.args.node c.requires, length-map c.args.thread.now.plan.now.graph.now.nodes.items node_of)

pub returns-then-not-is_chosen : goal.returns-then-not-is_chosen
returns-then-not-is_chosen c =
    let off : c.is_chosen.result ≡ false = search (rules, c.if-not-is_chosen.true) in
    record {
      piece = [];
      appended = sym (append-nil c.args.items.now.items);
      is = guard_absent c.args.thread.now c.requires.open_is c.args.node (λ chosen. true≢false (sym (c.is_chosen.ensures.1 chosen) ∙ off));
    }

pub returns-then-is_logged : goal.returns-then-is_logged
returns-then-is_logged c =
    let chosen : c.is_chosen.result ≡ true = search (rules, c.if-not-is_chosen.false) in
    on_ok_weaker c.push_keeping.result
    (λ kept. guard_logged c.args.thread.now c.requires.open_is c.args.node _ _ _ (c.is_chosen.ensures.0 chosen) c.in_ok-push_prepared.ensures kept)
    c.push_keeping.ensures

pub returns : goal.returns
returns c =
    let chosen : c.is_chosen.result ≡ true = search (rules, c.if-not-is_chosen.false) in
    on_ok_weaker c.push_keeping-2.result
    (λ kept. guard_plain c.args.thread.now c.requires.open_is c.args.node c.requires.own _ _ (c.is_chosen.ensures.0 chosen)
    (sym c.is_logged.ensures ∙ c.if-is_logged.false) kept)
    c.push_keeping-2.ensures
