-- What the code of threads is made of, as contracts see it.
use Rattle.c_tree.specs.Flats.{flat_of}
use Rattle.flow_graph.specs.Nodes.{graph_of}
use Rattle.flow_graph.specs.IdempotentCuts.{boundaries_of}
use Rattle.flow_graph.specs.Colours.{colouring_of}
use Rattle.thread_code.specs.Plans.{Plan}
use Rattle.rv64_codegen.specs.declared.plan.Plan as plan

abbrev pub plan_of : plan.Plan → Plan
plan_of x = record {
  flat = flat_of x.flat.now;
  graph = graph_of x.graph.now;
  boundaries = boundaries_of x.cuts.now;
  held = x.held.now;
  live = x.live.now;
  colours = colouring_of x.colours.now;
  log = x.log;
}
