-- What crates above may use of this crate's proofs, passed on from one place. Declares nothing.
pub use Rattle.log_states.proofs.BoundaryCommits.{begins_uncommitted, boundary_stores, committed_where_durable, ends_committed, point_store_is_last}
pub use Rattle.log_states.proofs.BoundaryCommits.{stays_committed}
pub use Rattle.log_states.proofs.BoundaryEffectsInLog.{boundaries_stay_in}
pub use Rattle.log_states.proofs.BoundaryStarts.{kept_are_keepable, point_says, points_end, side_follows}
pub use Rattle.log_states.proofs.EventsKeepLog.{ends, keeps}
pub use Rattle.log_states.proofs.FactsByName.{log_facts}
pub use Rattle.log_states.proofs.BoundaryFences.{boundaries_fence}
pub use Rattle.log_states.proofs.Heads.{address_of, not_done}
pub use Rattle.log_schemes.proofs.Public.{contains_cases, contains_first, contains_later, contains_none}
pub use Rattle.log_states.proofs.LivePoints.{live_is}
pub use Rattle.log_states.proofs.LogInvariantHolds.{begins_standing, crashes_standing, evictions_keep, starts_standing, steps_keep}
pub use Rattle.log_states.proofs.LogsBetweenLives.{nothing_is}
pub use Rattle.log_states.proofs.Machines.{evictions_move, own_steps_move, steps_move}
pub use Rattle.log_states.proofs.Numbers.{beyond_variables, frame_in_log, frame_inside, frame_not_point, frame_not_slot, logs_are_apart, slot_in_log}
pub use Rattle.log_states.proofs.Numbers.{some_words, variables_are_apart, word_of_log, word_of_point}
pub use Rattle.log_states.proofs.KeptRecords.{HasRegister, banks_read, is_tellable, lock_value, nothing_is_record, pair_value, register_value}
pub use Rattle.log_schemes.proofs.Public.{locks_kept, scheme}
pub use Rattle.log_states.proofs.StoresOutsideLog.{one_effect, stores_nothing, stores_to_frame, stores_to_variable}
pub use Rattle.log_states.proofs.UnstoredLogStays.{slot_cases}
pub use Rattle.log_states.proofs.Words.{durable_is, word_beside}
