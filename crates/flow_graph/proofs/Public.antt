-- What crates above may use of this crate's proofs, passed on from one place. Declares nothing.
pub use Rattle.flow_graph.proofs.ElementsInLocations.{contains_none}
pub use Rattle.flow_graph.proofs.GraphStateInvariants.{Done, Good, Stepped, after_by, after_is, all_at, at_nodes, bounded, effects_same, goes_by, good_after}
pub use Rattle.flow_graph.proofs.GraphStateInvariants.{good_start, graph_threads_after, matched, moved, nodes_at, not_again, own_next, reads_lie_at, stepped}
pub use Rattle.flow_graph.proofs.GraphStateInvariants.{writes_lie_at}
pub use Rattle.flow_graph.proofs.HeldKeys.{held_keys_stay, held_names_it, key_held, keys_apart, plain_key}
pub use Rattle.flow_graph.proofs.Locations.{common_overlaps, same_by_key}
pub use Rattle.flow_graph.proofs.Lockstep.{begins_lockstep, found_in, get_cases, graph_is, lowered_nodes, lowered_threads, no_more, runs_lockstep, set_other}
pub use Rattle.flow_graph.proofs.Lockstep.{set_same, steps_lockstep}
pub use Rattle.flow_graph.proofs.NodeContinuations.{ActionLeads, Agree, AreThreads, At, Locks, Tests, Unlocks, agrees, chooses, node_at, repeats}
pub use Rattle.flow_graph.proofs.NodeCounts.{length-arms_nodes, length-statement_nodes, length-statements_nodes, length-thread_nodes}
pub use Rattle.flow_graph.proofs.Paths.{path_runs}
pub use Rattle.flow_graph.proofs.Shapes.{ShapedAs, ShapedBy, node_shaped, own_shaped}
pub use Rattle.flow_graph.proofs.SuccessorsInThread.{closed_from, contained}
pub use Rattle.flow_graph.proofs.Words.{below_or_past, none_at, none_empty, same_or_other}
