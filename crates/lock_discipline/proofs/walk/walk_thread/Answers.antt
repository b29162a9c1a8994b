use Rattle.std.proofs.Common.{◌≡◌, Some, None, false, length, map, sym, ap, ◌∙◌}
use Rattle.std.proofs.lemmas.List.{length-map, length-replicate}
use Rattle.std.proofs.lemmas.Result.{err_from_is_err_and}
use Rattle.c_tree.specs.Exprs.{LockName, lock_ref_of}
use Rattle.c_tree.specs.LockNames.{none_held}
use Rattle.c_tree.specs.LockDiscipline.{Walked, Broken}
use Rattle.c_tree.specs.Programs.{variable_of}
use Rattle.c_tree.specs.declared.rule.Rule.TheVariants as rule
use Rattle.c_tree.specs.links.KnownNames.{names_of}
use Rattle.lock_discipline.proofs.Refusals.{refuses_then}
use Rattle.lock_discipline.proofs.Threads.{begins, ends, sets_are}
use Rattle.lock_discipline.proofs.walk.walk_thread.Goals as goal

-- the set with which it begins is made for as many names as there are
pub walk_statements-requires : goal.walk_statements-requires
walk_statements-requires c =
    let names = names_of c.args.names.now in
    let first : c.in_ok-none.none ≡ none_held (length names) =
    c.in_ok-none.ensures ∙ ap none_held (sym (length-map c.args.names.now lock_ref_of)) in
    ap length first ∙ length-replicate (length names) false

pub returns-in_err-end-clause-walk : goal.returns-in_err-end-clause-walk
returns-in_err-end-clause-walk c =
    let q = err_from_is_err_and c.from_residual-in_err-end.result c.from_residual-in_err-end.ensures.1 in
    let names = names_of c.args.names.now in
    let first : c.in_ok-none.none ≡ none_held (length names) =
    c.in_ok-none.ensures ∙ ap none_held (sym (length-map c.args.names.now lock_ref_of)) in
    rw (q.1, q.2) (refuses_then _ _ _ _
    (begins c.args.language (map variable_of c.args.variables.now) names c.args.thread.now c.in_ok-none.none c.deref.result.now first
    c.deref.ensures.value) c.in_err-end.ensures.walk)

pub returns-in-Some-clause-walk : goal.returns-in-Some-clause-walk
returns-in-Some-clause-walk c =
    let names = names_of c.args.names.now in
    let first : c.in_ok-none.none ≡ none_held (length names) =
    c.in_ok-none.ensures ∙ ap none_held (sym (length-map c.args.names.now lock_ref_of)) in
    ends c.args.language (map variable_of c.args.variables.now) names c.args.thread.now c.in_ok-none.none c.deref.result.now first
    c.deref.ensures.value c.in_ok-end.end (Some c.in-Some.number) c.in_ok-end.ensures.walk c.in-Some.ensures
    ∙ ap (λ (x : LockName). let w : Walked = Broken (record { rule = rule.EndHeld; place = c.args.thread.now.closing; lock = x }) in w) (sym c.name_at.ensures)

pub returns-clause-walk : goal.returns-clause-walk
returns-clause-walk c =
    let names = names_of c.args.names.now in
    let first : c.in_ok-none.none ≡ none_held (length names) =
    c.in_ok-none.ensures ∙ ap none_held (sym (length-map c.args.names.now lock_ref_of)) in (
      c.in_ok-end.end,
      ends c.args.language (map variable_of c.args.variables.now) names c.args.thread.now c.in_ok-none.none c.deref.result.now first
          c.deref.ensures.value c.in_ok-end.end None c.in_ok-end.ensures.walk c.in_default.ensures,
    )

pub returns-clause-sets : goal.returns-clause-sets
returns-clause-sets c =
    let names = names_of c.args.names.now in
    let first : c.in_ok-none.none ≡ none_held (length names) =
    c.in_ok-none.ensures ∙ ap none_held (sym (length-map c.args.names.now lock_ref_of)) in
    sets_are c.args.language (map variable_of c.args.variables.now) names c.args.thread.now c.in_ok-none.none c.deref.result.now first
    c.deref.ensures.value c.in_ok-end.end _ _ _ c.in_ok-end.ensures.walk c.new-sets.ensures.items c.in_ok-end.ensures.sets c.in_ok-push.ensures.items
