use Rattle.std.proofs.Common.{◌<◌, ◌++◌, List, length, map, refl, ap, ap₂, ◌∙◌, arith}
use Rattle.c_tree.specs.Flats.{statements_of}
use Rattle.c_tree.specs.Programs.{mutex_of}
use Rattle.c_tree.specs.declared.expr.LockRef.{LockRef}
use Rattle.c_tree.specs.LockNames.{locks_in_all, names_from}
use Rattle.c_tree.specs.links.KnownNames.{names_of, names_at}
use Rattle.c_tree.proofs.KnownNames.{once_all, names_step, names_end}
use Rattle.c_tree.proofs.lock_names.lock_names.Goals as goal

pub loop-index-preserved : goal.loop-index-preserved
loop-index-preserved c =
    let ms = c.args.mutexes.now in
    let i = c.loop-index.index in
    let m = c.index-mutexes-index.result in
    let known = names_of c.add_statements.new.names.items in
    let within : i < length ms = omega arith in
    let added = c.in_ok-add_mutex.ensures
    ∙ ap₂ (λ (n : _) (ys : List LockRef). names_of c.loop-index.names.items ++ names_at n m.length (names_of ys)) c.in_ok-number.ensures
    c.deref.ensures.value in
    names_step (names_of c.loop-index.names.items) _ ms i m m.length known _ within c.index-mutexes-index.is refl added c.loop-index.invariant

pub returns : goal.returns
returns c =
    let ms = c.args.mutexes.now in
    let known = c.add_statements.new.names.items in
    names_end (names_of c.loop-index.names.items) ms c.loop-index.index (names_of known) _ (omega arith) c.loop-index.invariant
    ∙ ap (names_from 0 (map mutex_of ms))
    (once_all c.new-known.result.items known (locks_in_all (statements_of c.args.body.now)) c.new-known.ensures.items c.in_ok-add_statements.ensures)
