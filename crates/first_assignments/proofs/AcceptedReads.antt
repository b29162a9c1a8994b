-- The graph of a text's flat form has no local that is live where a thread begins.
use Rattle.std.proofs.Common.{sym, subst}
use Rattle.c_tree.specs.Flats as f
use Rattle.c_tree.specs.Inlining.{flat_form}
use Rattle.c_typer.specs.FormLaws.{TypedIsFormed}
use Rattle.c_inline.specs.FormLaws.{FlatIsFormed}
use Rattle.flow_graph.specs.Liveness.{AreAssignedFirst}
use Rattle.flow_graph.specs.Lowering.{lowered}
use Rattle.first_assignments.specs.FirstAssignments.{FlattenedAssignFirst}
use Rattle.first_assignments.proofs.InlinedReads.{flat_later}
use Rattle.first_assignments.proofs.LiveLocals.{assigned_first}
use Rattle.first_assignments.proofs.ScopedReads.{ProgramReadsLater, typed_later}

pub flattened_assign_first : TypedIsFormed → FlatIsFormed → FlattenedAssignFirst
flattened_assign_first formed flat_formed = λ l text flat h.
    let x = h.program in
    let ranged = h.ranged in
    let prog = formed l text x ranged.typed in
    let late : ProgramReadsLater x = subst ProgramReadsLater (sym ranged.typed.typed) (typed_later ranged.typed.items) in
    let form = flat_formed x prog ranged.fits ranged.never_null h.ends in
    subst (λ (z : f.Flat). AreAssignedFirst (lowered z)) (sym h.flattened)
    (assigned_first (flat_form x) form (λ told. flat_later x prog late h.ends told))
