use Rattle.std.proofs.Common.{Option, ℕ, List, length, subst}
use Rattle.flow_graph.specs.Nodes.{graph_of}
use Rattle.flow_graph.specs.IdempotentCuts.{boundaries_of}
use Rattle.region_cutter.specs.links.Lines.{AreAnswers}
use Rattle.region_cutter.proofs.Lines.{answers_all}
use Rattle.region_cutter.proofs.cleaning.cleaned_later.Goals as goal

pub returns-clause-later : goal.returns-clause-later
returns-clause-later c =
    let g = graph_of c.args.graph.now in
    let b = boundaries_of c.args.cuts.now in
    answers_all g b c.args.shapes.now c.in_ok-lines.lines.items c.in_ok-later.later.items c.in_ok-lines.ensures
    (subst (λ (xs : List (Option ℕ)). AreAnswers g b xs (length xs) c.in_ok-later.later.items) c.deref.ensures.value c.in_ok-later.ensures)
