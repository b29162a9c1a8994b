-- What was taken before the fault is what stands after the bytes, and what the last read took.
use Rattle.std.proofs.lemmas.Result.{err_from_is_err_and}
use Rattle.ido_outside.proofs.TakenBytes.{TakenAtFault-gathered}
use Rattle.ido_outside.proofs.source.read_pieces.Goals as goal

pub returns-in_err-read_piece-clause-taken : goal.returns-in_err-read_piece-clause-taken
returns-in_err-read_piece-clause-taken g c =
    let p = err_from_is_err_and c.from_residual.result c.from_residual.ensures.1 in
    rw (p.1, p.2)
    (TakenAtFault-gathered c.args.limit _ _ _ _ _ c.args.bytes.now.items c.loop.bytes.items _
    c.args.bytes.now.ok.0 c.loop.bytes.ok.0 c.loop.invariant.within c.loop.invariant.gathered c.in_err-read_piece.ensures.taken)
