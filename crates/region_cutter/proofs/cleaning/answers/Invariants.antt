use Rattle.flow_graph.specs.Nodes.{graph_of}
use Rattle.flow_graph.specs.IdempotentCuts.{boundaries_of}
use Rattle.region_cutter.specs.links.Lines.{AreAnswers}
use Rattle.region_cutter.proofs.cleaning.answers.Given as goal

abbrev pub invariant-loop-number : goal.invariant-loop-number
invariant-loop-number l = AreAnswers (graph_of l.graph) (boundaries_of l.cuts) l.lines l.number l.later.items
