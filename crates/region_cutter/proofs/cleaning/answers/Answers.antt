use Rattle.std.proofs.Common.{◌≡◌, ◌+◌, ℕ, Bool, List, length, sym, subst, arith}
use Rattle.flow_graph.specs.Nodes.{graph_of}
use Rattle.flow_graph.specs.IdempotentCuts.{boundaries_of}
use Rattle.region_cutter.specs.links.Lines.{AreAnswers}
use Rattle.region_cutter.proofs.Lines.{answers_none, answers_more}
use Rattle.region_cutter.proofs.cleaning.answers.Goals as goal

pub loop-number-init : goal.loop-number-init
loop-number-init c =
    let g = graph_of c.args.graph.now in
    let b = boundaries_of c.args.cuts.now in
    subst (λ (xs : List Bool). AreAnswers g b c.args.lines.now 0 xs) (sym c.in_ok-later.ensures.items) (answers_none g b c.args.lines.now)

pub loop-number-preserved : goal.loop-number-preserved
loop-number-preserved c =
    let g = graph_of c.args.graph.now in
    let b = boundaries_of c.args.cuts.now in
    subst (λ (xs : List Bool). AreAnswers g b c.args.lines.now (c.loop-number.number + 1) xs) (sym c.in_ok-push.ensures.items)
    (answers_more g b c.args.lines.now c.loop-number.number c.loop-number.later.items c.in_ok-cleaned.cleaned c.loop-number.invariant c.in_ok-cleaned.ensures)

pub returns : goal.returns
returns c =
    let g = graph_of c.args.graph.now in
    let b = boundaries_of c.args.cuts.now in
    let all : c.loop-number.number ≡ length c.args.lines.now = omega (arith, c.loop-number-test.false, c.loop-number.auto.number-end) in
    subst (λ (n : ℕ). AreAnswers g b c.args.lines.now n c.loop-number.later.items) all c.loop-number.invariant
