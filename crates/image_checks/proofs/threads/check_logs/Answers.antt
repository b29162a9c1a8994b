use Rattle.std.proofs.Common.{◌≡◌, ◌<◌, ◌∙◌, inl, inr, ℕ, arith, length, subst, sym, List}
use Rattle.std.specs.Prelude.{Vec}
use Rattle.std.specs.Global.{Global}
use Rattle.std.proofs.lemmas.Result.{err_from_is_err_and}
use borrow.Author.Count.{below_more}
use Rattle.c_tree.specs.Flats.{Flat, flat_of}
use Rattle.flat_compile.specs.declared.resumes.Resume.{Resume}
use Rattle.flat_compile.specs.ResumePlaces.{resumes_at}
use Rattle.image_checks.specs.Checks.{AreSoundBelow, IsLogFault, IsResumableLog, IsThreadFault}
use Rattle.image_checks.specs.declared.error.ImageError.{ImageError}
use Rattle.image_checks.specs.links.Errors.{IsFaultOrMemory}
use Rattle.image_checks.specs.Logs.{Logs, logs_of}
use Rattle.image_checks.specs.ResumeSlots.{AllHaveRoom}
use Rattle.image_checks.proofs.Points.{log_within, room_at, table_at}
use Rattle.image_checks.proofs.threads.check_logs.Goals as goal

pub check_log-requires-clause-room : goal.check_log-requires-clause-room
check_log-requires-clause-room c =
    let table = c.args.table.now in
    let thread = c.loop-thread.thread in
    let found = c.index-table-thread in
    subst (λ (resumes : List Resume). AllHaveRoom c.args.log resumes)
    (sym (c.deref.ensures.value ∙ table_at table thread found.result c.loop-thread-test.true found.is))
    (room_at c.args.log table thread c.loop-thread-test.true c.requires.room)

pub check_log-requires-clause-log : goal.check_log-requires-clause-log
check_log-requires-clause-log c =
    log_within c.args.log c.loop-thread.thread (length c.args.table.now) (length c.args.logs.now) c.loop-thread-test.true (omega (arith, c.requires.logs))

pub loop-thread-preserved : goal.loop-thread-preserved
loop-thread-preserved c =
    let table = c.args.table.now in
    let thread = c.loop-thread.thread in
    let found = c.index-table-thread in
    below_more (λ (n : ℕ). IsResumableLog (flat_of c.args.flat.now) (resumes_at table n) (logs_of c.args.log c.args.logs.now) n) thread
    c.loop-thread.invariant
    (subst (λ (resumes : List Resume). IsResumableLog (flat_of c.args.flat.now) resumes (logs_of c.args.log c.args.logs.now) thread)
    (c.deref.ensures.value ∙ table_at table thread found.result c.loop-thread-test.true found.is) c.in_ok-check_log.ensures)

-- want of memory, or a fault of that thread, the first that has one
told : (flat : Flat) (table : List (Vec Resume Global)) (logs : Logs) (thread : ℕ) (x : ImageError) (resumes : List Resume) → thread < length table →
    resumes ≡ resumes_at table thread → AreSoundBelow flat table logs thread → IsFaultOrMemory (IsLogFault flat resumes logs thread) x →
    IsFaultOrMemory (IsThreadFault flat table logs) x
told flat table logs thread x resumes within is before (inl none) = inl none
told flat table logs thread x resumes within is before (inr fault) = inr (record {
  thread = thread;
  within = within;
  before = before;
  fault = subst (λ (rs : List Resume). IsLogFault flat rs logs thread x) is fault;
})

pub returns-in_err-check_log : goal.returns-in_err-check_log
returns-in_err-check_log c =
    let p = err_from_is_err_and c.from_residual.result c.from_residual.ensures.1 in
    let table = c.args.table.now in
    let thread = c.loop-thread.thread in
    let found = c.index-table-thread in
    rw (p.1, p.2)
    (told (flat_of c.args.flat.now) table (logs_of c.args.log c.args.logs.now) thread c.in_err-check_log.field-0.0 c.deref.result.now
    c.loop-thread-test.true (c.deref.ensures.value ∙ table_at table thread found.result c.loop-thread-test.true found.is) c.loop-thread.invariant
    c.in_err-check_log.ensures)

pub returns : goal.returns
returns c = λ thread l. c.loop-thread.invariant thread (omega arith)
