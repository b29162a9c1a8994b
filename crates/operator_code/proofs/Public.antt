-- What crates above may use of this crate's proofs, passed on from one place. Declares nothing.
pub use Rattle.operator_code.proofs.ConstantSteps.{equal_by}
pub use Rattle.operator_code.proofs.Constants.{addi_row, lui_row, written_is}
pub use Rattle.operator_code.proofs.InstructionPairs.{immediate_sets, one, op_sets, shift_sets}
pub use Rattle.operator_code.proofs.Registers.{Signed12, add_small, displaced_small, length-changed, read_other, read_same, signed12, signed32, small_immediate}
pub use Rattle.operator_code.proofs.Residues.{residue_negsuc, residue_pos, word_of_residue}
pub use Rattle.operator_code.proofs.Runs.{RunsFrom, along, clean, constant_runs, fence, go, stop, store}
pub use Rattle.operator_code.proofs.UnaryOperators.{zero_form}
