use Rattle.std.proofs.Common.{ℕ, List, ◌++◌, ◌*◌, ap, sym, ◌∙◌, subst, arith}
use Rattle.std.specs.Prelude.{Err, Ok, Result, Vec}
use Rattle.std.specs.Global.{Global}
use Rattle.std.proofs.lemmas.Result.{err_from_is_err_and}
use Rattle.log_schemes.specs.Layout.{log_words}
use Rattle.log_schemes.specs.declared.log.Log.{Log}
use Rattle.c_tree.specs.Flats.{flat_of}
use Rattle.crash_images.specs.Contents.{log_of}
use Rattle.crash_images.specs.links.Views.{state_of}
use Rattle.image_checks.specs.ResumeSlots.{TablesHaveRoom}
use Rattle.image_checks.specs.StateAnswers.{IsStateAnswer}
use Rattle.image_checks.specs.declared.error.ImageError.{ImageError}
use Rattle.ido_cli.specs.CompiledImages.{no_memory}
use Rattle.ido_cli.proofs.CompiledLimits.{ready}
use Rattle.ido_cli.proofs.CompiledImages.{check_answer, has_state, image_answer, some_lives, state_answer}
use Rattle.ido_cli.proofs.compiled_image.finish.Goals as goal

pub state_after-requires-clause-whole : goal.state_after-requires-clause-whole
state_after-requires-clause-whole c =
    let is = c.requires.begun.1.is in
    omega (
      arith,
      (ready (log_of c.args.begun.version) is.source c.args.begun.compiled is.compiled).limits.whole_words,
      c.len-size.ensures,
      c.args.begun.compiled.translated.object.initial.ok.0,
    )

pub state_after-requires-clause-room : goal.state_after-requires-clause-room
state_after-requires-clause-room c =
    let is = c.requires.begun.1.is in (ready (log_of c.args.begun.version) is.source c.args.begun.compiled is.compiled).room

pub returns-in_err-state : goal.returns-in_err-state
returns-in_err-state c = λ newest h.
    let p = err_from_is_err_and c.from_residual.result c.from_residual.ensures.1 in
    let b = c.args.begun in
    let size_is = c.len-size.ensures ∙ b.compiled.translated.object.initial.ok.0 in
    let threads_is = c.len-threads.ensures ∙ b.compiled.translated.object.code.ok.0 in
    rw (p.1, p.2)
    (state_answer newest c.args.bytes.now b.version b.compiled h.is c.len-size.result c.len-threads.result b.rest.now size_is threads_is
    h.rest c.in_err-state.field-0.0 c.in_err-state.ensures)

pub check_state-requires-clause-room : goal.check_state-requires-clause-room
check_state-requires-clause-room c =
    let is = c.requires.begun.1.is in (ready (log_of c.args.begun.version) is.source c.args.begun.compiled is.compiled).room

pub check_state-requires-clause-formed : goal.check_state-requires-clause-formed
check_state-requires-clause-formed c =
    let is = c.requires.begun.1.is in (ready (log_of c.args.begun.version) is.source c.args.begun.compiled is.compiled).formed

pub check_state-requires-clause-kinds : goal.check_state-requires-clause-kinds
check_state-requires-clause-kinds c =
    let is = c.requires.begun.1.is in
    rw c.deref.ensures.value ((ready (log_of c.args.begun.version) is.source c.args.begun.compiled is.compiled).kinds)

pub check_state-requires-clause-slots : goal.check_state-requires-clause-slots
check_state-requires-clause-slots c =
    let is = c.requires.begun.1.is in
    rw c.deref.ensures.value ((ready (log_of c.args.begun.version) is.source c.args.begun.compiled is.compiled).slots)

pub check_state-requires-clause-room_for_locks : goal.check_state-requires-clause-room_for_locks
check_state-requires-clause-room_for_locks c =
    let is = c.requires.begun.1.is in
    rw c.deref.ensures.value
    (subst (λ (log : Log). TablesHaveRoom log c.args.begun.compiled.translated.resumes.items) (sym c.log.ensures)
    ((ready (log_of c.args.begun.version) is.source c.args.begun.compiled is.compiled).locks))

pub check_state-requires-clause-logs : goal.check_state-requires-clause-logs
check_state-requires-clause-logs c =
    let is = c.requires.begun.1.is in
    let b = c.args.begun in
    let threads_is = c.len-threads.ensures ∙ b.compiled.translated.object.code.ok.0 in
    let count = (ready (log_of b.version) is.source b.compiled is.compiled).count in
    rw c.deref.ensures.value
    (c.in_ok-state.ensures.fits.logs ∙ ap (λ (log : Log). log_words log * c.len-threads.result) (sym c.log.ensures)
    ∙ ap (λ (n : ℕ). log_words c.log.result * n) (threads_is ∙ sym count))

pub returns-in_err-lives : goal.returns-in_err-lives
returns-in_err-lives c = λ newest h.
    let p = err_from_is_err_and c.from_residual-in_err-lives.result c.from_residual-in_err-lives.ensures.1 in
    let b = c.args.begun in
    let size_is = c.len-size.ensures ∙ b.compiled.translated.object.initial.ok.0 in
    let threads_is = c.len-threads.ensures ∙ b.compiled.translated.object.code.ok.0 in
    let state = state_of c.in_ok-state.state in
    let has = has_state newest c.args.bytes.now b.version b.compiled h.is c.len-size.result c.len-threads.result b.rest.now size_is
    threads_is h.rest state c.in_ok-state.ensures in
    let x = c.in_err-lives.field-0.0 in
    let answer : Result (Vec (Vec ℕ Global) Global) ImageError = Err x in
    rw (p.1, p.2)
    (check_answer newest c.args.bytes.now b.version b.compiled state x has
    (subst (λ (log : Log). IsStateAnswer log (flat_of b.compiled.flat) b.compiled.translated.resumes.items state answer) c.log.ensures
    (rw c.deref.ensures.value at c.in_err-lives.ensures)))

pub returns-in_err-extend : goal.returns-in_err-extend
returns-in_err-extend c = λ newest h.
    let p = err_from_is_err_and c.from_residual-in_err-extend.result c.from_residual-in_err-extend.ensures.1 in
    rw (p.1, p.2) no_memory

pub last_apart-requires : goal.last_apart-requires
last_apart-requires c =
    let b = c.args.begun in
    let state = state_of c.in_ok-state.state in
    let answer : Result (Vec (Vec ℕ Global) Global) ImageError = Ok c.in_ok-lives.lives in
    some_lives b.version b.compiled state c.in_ok-lives.lives
    (subst (λ (log : Log). IsStateAnswer log (flat_of b.compiled.flat) b.compiled.translated.resumes.items state answer) c.log.ensures
    (rw c.deref.ensures.value at c.in_ok-lives.ensures)) c.in_ok-state.ensures.fits.lives

pub returns : goal.returns
returns c = λ newest h.
    let b = c.args.begun in
    let size_is = c.len-size.ensures ∙ b.compiled.translated.object.initial.ok.0 in
    let threads_is = c.len-threads.ensures ∙ b.compiled.translated.object.code.ok.0 in
    let state = state_of c.in_ok-state.state in
    let has = has_state newest c.args.bytes.now b.version b.compiled h.is c.len-size.result c.len-threads.result b.rest.now size_is
    threads_is h.rest state c.in_ok-state.ensures in
    let answer : Result (Vec (Vec ℕ Global) Global) ImageError = Ok c.in_ok-lives.lives in
    image_answer newest c.args.bytes.now b.version
    (record { compiled = b.compiled; words = c.extend.new.words; lives = c.last_apart.result })
    state c.in_ok-lives.lives has
    (subst (λ (log : Log). IsStateAnswer log (flat_of b.compiled.flat) b.compiled.translated.resumes.items state answer) c.log.ensures
    (rw c.deref.ensures.value at c.in_ok-lives.ensures))
    (c.in_ok-extend.ensures ∙ ap (λ (ws : List ℕ). c.in_ok-state.state.variables.items ++ ws) c.deref-2.ensures.value) c.last_apart.ensures
