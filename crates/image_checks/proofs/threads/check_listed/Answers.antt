use Rattle.std.proofs.Common.{ℕ, inr, refl, subst, sym, length}
use Rattle.std.proofs.lemmas.Result.{err_from_is_err_and}
use Rattle.log_schemes.specs.declared.keeping.Keeping.{Keeping}
use Rattle.c_tree.specs.Flats.{flat_of}
use Rattle.image_checks.specs.Checks.{AreLocksFirst, kinds_of_thread, names_of_thread, other_locks, beside}
use Rattle.image_checks.specs.Logs.{AreOnce, KeepsAs, Lists, home_in, logs_of, slot_in}
use Rattle.image_checks.proofs.threads.check_listed.Goals as goal

pub returns-in_err-check_beside : goal.returns-in_err-check_beside
returns-in_err-check_beside c =
    let p = err_from_is_err_and c.from_residual.result c.from_residual.ensures.1 in
    rw (p.1, p.2)
    (beside c.in_err-check_beside.field-0.0
    (λ first. absurd (subst AreLocksFirst c.requires.keeping first)) c.in_err-check_beside.ensures)

pub returns-then-not-lists : goal.returns-then-not-lists
returns-then-not-lists c =
    let slots : ℕ → ℕ = λ slot. slot_in (logs_of c.args.log c.args.logs.now) c.args.thread c.args.bank slot in
    let homes : ℕ → ℕ = λ colour. home_in (logs_of c.args.log c.args.logs.now) c.args.thread c.args.bank colour in
    other_locks (inr c.in_ok-check_beside.ensures) (λ h.
    let listed = subst (λ (k : Keeping). KeepsAs k c.args.log slots homes (names_of_thread (flat_of c.args.flat.now) c.args.thread)
    (length (kinds_of_thread (flat_of c.args.flat.now) c.args.thread)) c.args.resume.now) c.requires.keeping h in
    cc (c.if-not-lists.ensures.1 (subst (Lists c.args.log slots) (sym c.requires.locks) listed.0)))

pub returns-then-not-are_once : goal.returns-then-not-are_once
returns-then-not-are_once c =
    let slots : ℕ → ℕ = λ slot. slot_in (logs_of c.args.log c.args.logs.now) c.args.thread c.args.bank slot in
    let homes : ℕ → ℕ = λ colour. home_in (logs_of c.args.log c.args.logs.now) c.args.thread c.args.bank colour in
    other_locks (inr c.in_ok-check_beside.ensures) (λ h.
    let listed = subst (λ (k : Keeping). KeepsAs k c.args.log slots homes (names_of_thread (flat_of c.args.flat.now) c.args.thread)
    (length (kinds_of_thread (flat_of c.args.flat.now) c.args.thread)) c.args.resume.now) c.requires.keeping h in
    cc (c.if-not-are_once.ensures.1 (subst AreOnce (sym c.requires.locks) listed.1)))

pub returns : goal.returns
returns c =
    let slots : ℕ → ℕ = λ slot. slot_in (logs_of c.args.log c.args.logs.now) c.args.thread c.args.bank slot in
    let homes : ℕ → ℕ = λ colour. home_in (logs_of c.args.log c.args.logs.now) c.args.thread c.args.bank colour in
    record {
      locks = subst (λ (k : Keeping). KeepsAs k c.args.log slots homes (names_of_thread (flat_of c.args.flat.now) c.args.thread)
          (length (kinds_of_thread (flat_of c.args.flat.now) c.args.thread)) c.args.resume.now) (sym c.requires.keeping) (
            subst (Lists c.args.log slots) c.requires.locks (c.if-not-lists.ensures.0 refl),
            subst AreOnce c.requires.locks (c.if-not-are_once.ensures.0 refl),
          );
      locals = c.in_ok-check_beside.ensures.locals;
      write = c.in_ok-check_beside.ensures.write;
    }
