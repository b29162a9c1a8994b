-- What a thread in the code represents.
use Rattle.std.specs.Option.{option_map}
use Rattle.source_machine.specs.Assignments.{pending_of}
use Rattle.flow_graph.specs.Actions as g
use Rattle.flow_machine.specs.declared.graph_thread.GraphThread.{GraphThread}

abbrev pub graph_thread_of : GraphThread → g.GraphThread
graph_thread_of w = record { at = w.at; locals = w.locals.items; pending = option_map pending_of w.pending; ended = w.ended }
