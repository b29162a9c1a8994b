-- A key is an index of its array of mutexes.
use Rattle.std.proofs.Common.{sym, ◌∙◌, ap, Option}
use Rattle.std.specs.Option.{option_map}
use Rattle.c_tree.specs.Exprs.{placed_of}
use Rattle.c_tree.specs.Programs.{program_of}
use Rattle.c_tree.specs.Ranges.{OfMutexes, lock_indexes}
use Rattle.c_tree.specs.declared.expr.Placed.{Placed}
use Rattle.c_ranges.specs.links.FirstUnfitIndex.{first_fault}
use Rattle.c_ranges.proofs.Faults.{index_of, headed}
use Rattle.c_ranges.proofs.indexes.of_lock.Goals as goal

pub returns-in-None : goal.returns-in-None
unfolding first_fault
returns-in-None c =
    let x = c.args.lock.now in
    ap (λ (o : Option Placed). first_fault (program_of c.args.program.now) (lock_indexes (record { mutex = x.mutex; key = option_map placed_of o })))
    (sym c.in-None.is)

pub returns-in-Some : goal.returns-in-Some
returns-in-Some c =
    let z = program_of c.args.program.now in
    let x = c.args.lock.now in
    let key = c.in-Some.key in
    headed z _ _ _ (index_of (OfMutexes x.mutex) key.place _) _ _ c.earlier.ensures c.mutexes-all.ensures c.of_index.ensures c.of_placed.ensures
    ∙ ap (λ (o : Option Placed). first_fault z (lock_indexes (record { mutex = x.mutex; key = option_map placed_of o }))) (sym c.in-Some.is)
