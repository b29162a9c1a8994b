-- What was found first in functions and threads was found first in the whole program.
use Rattle.std.proofs.Common.{ap, ◌∙◌}
use Rattle.c_tree.specs.Programs.{program_of}
use Rattle.c_ranges.specs.links.FirstUnfitIndex.{functions_indexes, threads_indexes, first_fault}
use Rattle.c_ranges.proofs.Faults.{joined}
use Rattle.c_ranges.proofs.indexes.first_unfit.Goals as goal

pub returns : goal.returns
returns c =
    let x = c.args.program.now in
    let z = program_of x in
    let functions = c.of_functions-functions.ensures ∙ ap (λ xs. first_fault z (functions_indexes xs)) c.deref.ensures.value in
    let threads = c.of_threads-threads.ensures ∙ ap (λ xs. first_fault z (threads_indexes xs)) c.deref-2.ensures.value in
    joined z _ _ _ (functions_indexes x.functions.items) (threads_indexes x.threads.items) c.earlier.ensures functions threads
