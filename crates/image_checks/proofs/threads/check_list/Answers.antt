use Rattle.std.proofs.Common.{◌≡◌, ◌≤◌, ◌∙◌, ℕ, ℤ, List, inl, inr, refl, ap, arith, length, map, subst}
use Rattle.std.proofs.lemmas.List.{length-map}
use Rattle.std.proofs.lemmas.Result.{err_from_is_err_and}
use Rattle.log_schemes.specs.declared.keeping.Keeping.{Keeping}
use Rattle.log_schemes.specs.Schemes as room
use Rattle.c_tree.specs.Exprs.{LockName}
use Rattle.c_tree.specs.Flats.{flat_of}
use Rattle.c_tree.specs.Values.{lock_number}
use Rattle.c_tree.specs.links.KnownNames.{names_of}
use Rattle.image_checks.specs.Checks.{bank_locals, names_of_thread}
use Rattle.image_checks.specs.Logs.{logs_of, names_at}
use Rattle.image_checks.proofs.BankLocals.{few_named}
use Rattle.image_checks.proofs.threads.check_list.Goals as goal

pub returns-in_err-locks : goal.returns-in_err-locks
returns-in_err-locks c =
    let p = err_from_is_err_and c.from_residual.result c.from_residual.ensures.1 in
    rw (p.1, p.2) (inl refl)

pub check_listed-requires-clause-locks : goal.check_listed-requires-clause-locks
check_listed-requires-clause-locks c =
    let flat = flat_of c.args.flat.now in
    let ls : List ℤ = bank_locals flat (logs_of c.args.log c.args.logs.now) c.args.thread c.args.bank c.args.resume.now.live.items in
    c.deref-2.ensures.value ∙ (c.in_ok-locks.ensures
    ∙ (ap (λ (ns : List ℤ). map (lock_number ns) (names_at (names_of c.args.names.now) c.deref.result.now)) c.requires.locals
    ∙ (ap (λ (ns : List LockName). map (lock_number ls) (names_at ns c.deref.result.now)) c.requires.names
    ∙ ap (λ (held : List ℕ). map (lock_number ls) (names_at (names_of_thread flat c.args.thread) held)) c.deref.ensures.value)))

few_locks : (names : List LockName) (ls : List ℤ) (held locks : List ℕ) → locks ≡ map (lock_number ls) (names_at names held) → length held ≤ 16 →
    length locks ≤ 16
few_locks names ls held locks is few =
    omega (arith, ap length is, length-map (names_at names held) (lock_number ls), few_named names held, few)

pub check_listed-requires-clause-few : goal.check_listed-requires-clause-few
check_listed-requires-clause-few c =
    few_locks (names_of c.args.names.now) c.args.locals.now c.args.resume.now.held.items c.deref-2.result.now
    (c.deref-2.ensures.value ∙ (c.in_ok-locks.ensures
    ∙ ap (λ (held : List ℕ). map (lock_number c.args.locals.now) (names_at (names_of c.args.names.now) held)) c.deref.ensures.value))
    (subst (λ (k : Keeping). room.HasRoom k c.args.resume.now.held.items) c.requires.keeping c.requires.room)

pub returns-in_err-check_listed : goal.returns-in_err-check_listed
returns-in_err-check_listed c =
    let p = err_from_is_err_and c.from_residual-in_err-check_listed.result c.from_residual-in_err-check_listed.ensures.1 in
    rw (p.1, p.2) (inr c.in_err-check_listed.ensures)
