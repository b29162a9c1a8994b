use Rattle.std.proofs.lemmas.Result.{err_from_is_err_and}
use Rattle.c_tree.specs.Flats.{flat_of}
use Rattle.ido_cli.proofs.CompiledImages.{after_logs, element_told, variables_told}
use Rattle.ido_cli.proofs.compiled_image.state_after.Goals as goal

pub returns-in_err-variables : goal.returns-in_err-variables
returns-in_err-variables c =
    let p = err_from_is_err_and c.from_residual.result c.from_residual.ensures.1 in
    rw (p.1, p.2)
    (variables_told (flat_of c.args.flat.now) c.args.version c.args.total c.args.size c.args.threads c.args.rest.now c.in_err-variables.field-0.0
    c.in_err-variables.ensures.exact)

pub returns-in_err-check_references : goal.returns-in_err-check_references
returns-in_err-check_references c =
    let p = err_from_is_err_and c.from_residual-in_err-check_references.result c.from_residual-in_err-check_references.ensures.1 in
    let read = c.in_ok-variables in
    rw (p.1, p.2)
    (element_told (flat_of c.args.flat.now) c.args.version c.args.total c.args.size c.args.threads c.args.rest.now read.variables.items read.after.now
    read.ensures.exact c.in_err-check_references.field-0.0 (rw c.deref.ensures.value at c.in_err-check_references.ensures))

pub returns : goal.returns
returns c =
    let read = c.in_ok-variables in
    after_logs (flat_of c.args.flat.now) c.args.version c.args.total c.args.size c.args.threads c.args.rest.now read.variables.items read.after.now
    read.ensures.exact (rw c.deref.ensures.value at c.in_ok-check_references.ensures) read.ensures.found.0 c.logs_after.result c.logs_after.ensures
