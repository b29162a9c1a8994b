use Rattle.std.proofs.Common.{◌≡◌, length, map, take}
use Rattle.flow_graph.specs.Actions.{graph_thread_start}
use Rattle.flow_machine.specs.links.GraphThreads.{graph_thread_of}
use Rattle.flow_machine.proofs.state.FlowState.start.Given as goal

abbrev pub invariant-loop-part : goal.invariant-loop-part
invariant-loop-part l = record {
  count : length l.graph_threads.items ≡ l.part-index;
  started : map graph_thread_of l.graph_threads.items ≡ map graph_thread_start (take l.part-index l.graph.threads.items);
}
