use Rattle.run_scripts.specs.links.Lengths.{is_gap}
use Rattle.run_scripts.proofs.Gaps.{pieces_from_next, no_gap_at_next}
use Rattle.run_scripts.proofs.piece.next_piece.Goals as goal

pub returns-clause-pieces : goal.returns-clause-pieces
returns-clause-pieces c = pieces_from_next (is_gap c.args.gap) c.args.text.now c.args.at c.gap_length.result c.gap_length.ensures.value

pub returns-clause-piece : goal.returns-clause-piece
returns-clause-piece c = no_gap_at_next (is_gap c.args.gap) c.args.text.now c.args.at c.gap_length.result c.gap_length.ensures.value
