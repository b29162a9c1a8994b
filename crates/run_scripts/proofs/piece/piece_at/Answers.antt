use Rattle.std.proofs.Common.{refl, length, ◌-◌, take, drop}
use Rattle.run_scripts.specs.links.Lengths.{is_gap}
use Rattle.run_scripts.proofs.Gaps.{pieces_from_place}
use Rattle.run_scripts.proofs.piece.piece_at.Goals as goal

pub returns-clause-piece : goal.returns-clause-piece
returns-clause-piece c =
    let text = c.args.text.now in
    let n = c.piece_length.result in
    pieces_from_place (is_gap c.args.gap) text (take n (take (length text - c.args.at) (drop c.args.at text))) c.args.at n c.requires.within c.requires.piece
    c.piece_length.ensures.value c.piece_length.ensures.bound refl
