-- The bytes were empty at first, so what stands after them is all that was taken.
use Rattle.std.proofs.lemmas.Result.{err_from_is_err_and}
use Rattle.ido_outside.proofs.TakenBytes.{Gathers-all, TakenAtFault-from_none, TakenAtFault-too_long}
use Rattle.ido_outside.proofs.source.read_all.Goals as goal

pub returns-in_err-read_pieces-clause-taken : goal.returns-in_err-read_pieces-clause-taken
returns-in_err-read_pieces-clause-taken g c =
    let p = err_from_is_err_and c.from_residual-in_err-read_pieces.result c.from_residual-in_err-read_pieces.ensures.1 in
    rw (p.1, p.2)
    (TakenAtFault-from_none c.args.limit _ _ _ _ c.new-bytes.ensures.len c.in_err-read_pieces.ensures.taken)

pub returns-in_err-read_pieces-clause-too_long : goal.returns-in_err-read_pieces-clause-too_long
returns-in_err-read_pieces-clause-too_long g c =
    TakenAtFault-too_long c.args.limit _ _ _ (returns-in_err-read_pieces-clause-taken g c)

pub returns-clause-bytes : goal.returns-clause-bytes
returns-clause-bytes g c =
    Gathers-all _ _ _ (rw c.new-bytes.ensures.items at c.in_ok-read_pieces.ensures.gathered) c.in_ok-read_pieces.ensures.end
