use Rattle.c_tree.specs.Flats.{flat_of}
use Rattle.c_tree.specs.declared.refusal.SourceError.{SourceError}
use Rattle.std.proofs.Common.{sym, subst}
use Rattle.lock_discipline.proofs.Public.{well_formed_has_names}
use Rattle.flat_analysis.specs.CompilableForms.{IsFormRefusal}
use Rattle.flat_analysis.proofs.Refused.{by_locks}
use Rattle.flat_analysis.proofs.analyses.held.Goals as goal

pub check-requires : goal.check-requires
check-requires c = well_formed_has_names (flat_of c.args.flat.now) c.requires

pub returns-in-Err-clause-refused : goal.returns-in-Err-clause-refused
returns-in-Err-clause-refused c =
    let flat = flat_of c.args.flat.now in
    subst (λ (e : SourceError). IsFormRefusal c.args.language flat e) (sym c.of_lock.ensures)
    (by_locks c.args.language flat c.in-Err.error c.in-Err.ensures.refuses)
