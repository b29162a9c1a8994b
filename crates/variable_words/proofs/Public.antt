-- What crates above may use of this crate's proofs, passed on from one place. Declares nothing.
pub use Rattle.variable_words.proofs.ElementsInWords.{addresses_reach, element_stands, element_whole, next_element, number_is, place, variables_apart}
pub use Rattle.variable_words.proofs.ElementsInWords.{well_formed_placed, within_end}
pub use Rattle.variable_words.proofs.InitialMemory.{crashes_hold, starts_hold}
pub use Rattle.variable_words.proofs.MemoryAlongEvents.{events_raise, positions_meet}
pub use Rattle.variable_words.proofs.StepEffects.{steps_work}
pub use Rattle.variable_words.proofs.VariableBounds.{address_is, by_size, length-shapes, length-variables, shapes, some_bytes, variable_at_index}
pub use Rattle.variable_words.proofs.Variables.{durable_are_memory, live_are_memory}
