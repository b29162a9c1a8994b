-- Nothing is told of a program that has no fault, and else the first.
use Rattle.std.proofs.Common.{sym, subst, ◌∙◌}
use Rattle.c_tree.specs.Programs.{program_of}
use Rattle.c_ranges.specs.Faults.{IsFaultOf}
use Rattle.c_ranges.proofs.FirstFaults.{Says, by_memory, says_of}
use Rattle.c_ranges.proofs.checking.check.Goals as goal

pub returns-in_err-places : goal.returns-in_err-places
returns-in_err-places c = by_memory _ (IsFaultOf (program_of c.args.program.now)) c.from_residual.result c.from_residual.ensures.1 tt

pub returns-in-None : goal.returns-in-None
returns-in-None c =
    let x = program_of c.args.program.now in
    subst (Says x) (sym c.told.ensures ∙ c.in-None.is)
    (says_of x c.first_unfit-unfit.result c.least_of-null.result _ _ c.first_unfit-unfit.ensures c.deref.ensures.value c.in_ok-places.ensures
    c.least_of-null.ensures)

pub returns : goal.returns
returns c =
    let x = program_of c.args.program.now in
    subst (Says x) (sym c.told.ensures ∙ c.in-Some.is)
    (says_of x c.first_unfit-unfit.result c.least_of-null.result _ _ c.first_unfit-unfit.ensures c.deref.ensures.value c.in_ok-places.ensures
    c.least_of-null.ensures)
