-- What crates above may use of this crate's proofs, passed on from one place. Declares nothing.
pub use Rattle.machine_model.proofs.EarlierLives.{along_earlier, event_earlier, first_stays, step_earlier}
pub use Rattle.machine_model.proofs.Frames.{crashes_simulate, evictions_touch, get-set_other, get-set_same, log_stays, queues_stand, starts_simulate, step_goes}
pub use Rattle.machine_model.proofs.Frames.{steps_touch}
pub use Rattle.machine_model.proofs.StartedWorlds.{after_start, anew_found, anew_length, anew_sound, anew_there, each_stopped, outcome_of, starts_by}
pub use Rattle.machine_model.proofs.PendingSteps.{kept_harts, length_parts}
pub use Rattle.machine_model.proofs.ResumedRegisters.{mapped, resumed_count, resumed_read}
