use Rattle.std.proofs.Common.{◌<◌, ◌==◌, Bool, true, false, length, sym, ◌∙◌, arith}
use Rattle.std.specs.List.{list_any}
use Rattle.std.proofs.lemmas.List.{length-map}
use Rattle.c_tree.specs.Exprs.{LockName, lock_ref_of}
use Rattle.c_tree.specs.LockDiscipline.{key_locals}
use Rattle.c_tree.specs.links.KnownNames.{names_of}
use Rattle.lock_discipline.proofs.NamedLocks.{ref_at, found_from, none_from}
use Rattle.lock_discipline.proofs.uses.freezing.Goals as goal

pub returns-then-freezes : goal.returns-then-freezes
returns-then-freezes c =
    let p : LockName → Bool = λ x. list_any (λ other. other == c.args.local) (key_locals x) in
    let i = c.loop-number.number in
    let within : i < length c.args.names.now = omega arith in
    sym (c.loop-number.invariant
    ∙ found_from p (names_of c.args.names.now) c.args.held.now i (lock_ref_of c.index-names-number.result) true
    (ref_at c.args.names.now i c.index-names-number.result within c.index-names-number.is) (sym c.freezes.ensures ∙ c.if-freezes.true))

pub loop-number-preserved : goal.loop-number-preserved
loop-number-preserved c =
    let p : LockName → Bool = λ x. list_any (λ other. other == c.args.local) (key_locals x) in
    let i = c.loop-number.number in
    let within : i < length c.args.names.now = omega arith in
    c.loop-number.invariant
    ∙ found_from p (names_of c.args.names.now) c.args.held.now i (lock_ref_of c.index-names-number.result) false
    (ref_at c.args.names.now i c.index-names-number.result within c.index-names-number.is) (sym c.freezes.ensures ∙ c.if-freezes.false)

pub returns : goal.returns
returns c =
    let p : LockName → Bool = λ x. list_any (λ other. other == c.args.local) (key_locals x) in
    sym (c.loop-number.invariant
    ∙ none_from p (names_of c.args.names.now) c.args.held.now c.loop-number.number (omega (arith, length-map c.args.names.now lock_ref_of)))
