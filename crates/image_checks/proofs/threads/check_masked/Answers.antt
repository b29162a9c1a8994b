use Rattle.std.proofs.Common.{◌<◌, ◌^◌, ◌∙◌, ℕ, List, length, inl, ap, subst, sym}
use Rattle.std.proofs.lemmas.Bool.{eq-eqb, eqb-true, true≢false}
use Rattle.ido_base.specs.Locks.{mask_with}
use Rattle.log_schemes.specs.declared.keeping.Keeping.{Keeping}
use Rattle.log_schemes.specs.Schemes as room
use Rattle.c_tree.specs.Flats.{flat_of}
use Rattle.image_checks.specs.Checks.{AreLocksFirst, kinds_of_thread, names_of_thread, other_locks}
use Rattle.image_checks.specs.Logs.{KeepsAs, home_in, logs_of, slot_in}
use Rattle.image_checks.proofs.Banks.{masked_answer}
use Rattle.image_checks.proofs.threads.check_masked.Goals as goal

pub has_mask-requires-clause-fits : goal.has_mask-requires-clause-fits
has_mask-requires-clause-fits c =
    let room = subst (λ (k : Keeping). room.HasRoom k c.args.resume.now.held.items) c.requires.keeping c.requires.room in
    subst (λ (numbers : List ℕ). mask_with numbers < 2 ^ 64) (sym c.deref.ensures.value) room.fits

pub returns-then-not-has_mask : goal.returns-then-not-has_mask
returns-then-not-has_mask c =
    let slots : ℕ → ℕ = λ slot. slot_in (logs_of c.args.log c.args.logs.now) c.args.thread c.args.bank slot in
    let homes : ℕ → ℕ = λ colour. home_in (logs_of c.args.log c.args.logs.now) c.args.thread c.args.bank colour in
    other_locks (inl (subst AreLocksFirst (sym c.requires.keeping) tt)) (λ h.
    let masked = subst (λ (k : Keeping). KeepsAs k c.args.log slots homes (names_of_thread (flat_of c.args.flat.now) c.args.thread)
    (length (kinds_of_thread (flat_of c.args.flat.now) c.args.thread)) c.args.resume.now) c.requires.keeping h in
    true≢false (sym (eq-eqb (slots 0) (mask_with c.deref.result.now) (masked ∙ ap mask_with (sym c.deref.ensures.value))) ∙ sym c.if-not-has_mask.ensures))

pub returns : goal.returns
returns c =
    let slots : ℕ → ℕ = λ slot. slot_in (logs_of c.args.log c.args.logs.now) c.args.thread c.args.bank slot in
    let homes : ℕ → ℕ = λ colour. home_in (logs_of c.args.log c.args.logs.now) c.args.thread c.args.bank colour in
    masked_answer (flat_of c.args.flat.now) (logs_of c.args.log c.args.logs.now) c.args.thread c.args.bank c.args.resume.now c.check_beside.result
    (subst (λ (k : Keeping). KeepsAs k c.args.log slots homes (names_of_thread (flat_of c.args.flat.now) c.args.thread)
    (length (kinds_of_thread (flat_of c.args.flat.now) c.args.thread)) c.args.resume.now) (sym c.requires.keeping)
    (eqb-true (slots 0) (mask_with c.deref.result.now) (sym c.if-not-has_mask.ensures) ∙ ap mask_with c.deref.ensures.value))
    c.check_beside.ensures
