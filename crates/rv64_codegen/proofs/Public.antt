-- What crates above may use of this crate's proofs, passed on from one place. Declares nothing.
pub use Rattle.rv64_codegen.proofs.ChosenBoundaries.{chosen_else, chosen_then, read_get}
pub use Rattle.rv64_codegen.proofs.HoldSums.{cost_of, costs, thread_costs}
pub use Rattle.rv64_codegen.proofs.Homes.{colours_long}
pub use Rattle.rv64_codegen.proofs.LoweredNodes.{IsFormed}
pub use Rattle.rv64_codegen.proofs.PlannedNodes.{IsStoring, chosen_stores, chosen_writes, end_is, end_within, few_nodes, first_below, held_sets, held_there}
pub use Rattle.rv64_codegen.proofs.PlannedNodes.{node_exists}
pub use Rattle.rv64_codegen.proofs.PlannedNodes.{node_in, nodes_are, numbers_plain, set_long, sound_node, threads_are}
