-- What crates above may use of this crate's proofs, passed on from one place. Declares nothing.
pub use Rattle.node_code.proofs.CallPieces.{call_asks, call_quiet}
pub use Rattle.node_code.proofs.Fences.{fences_append, fences_cons, part_instructions}
pub use Rattle.node_code.proofs.ItemAddresses.{Lies, item_at, lies_from, lies_left, lies_right, map_append, part_left, part_right, positions_append, waits_left}
pub use Rattle.node_code.proofs.ItemAddresses.{waits_right}
pub use Rattle.node_code.proofs.LegComposition.{fragment, more_room, moved, two_legs, weaker}
pub use Rattle.node_code.proofs.CodeLists.{lists_long}
pub use Rattle.node_code.proofs.MadeBoundaries.{boundary_from, lock_from, unlock_from}
pub use Rattle.node_code.proofs.NumberRuns.{constant_leaves}
pub use Rattle.node_code.proofs.PieceCleans.{cleans_append, cleans_cons}
pub use Rattle.node_code.proofs.PiecePlaces.{Found, find, here, label_at, lists, lists_are, lists_at, lists_count, place, place_end, place_first, place_next}
pub use Rattle.node_code.proofs.TwoPartPieces.{pieces_close}
pub use Rattle.node_code.proofs.Words.{words_are, words_are_few}
