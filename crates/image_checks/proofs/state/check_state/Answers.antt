use Rattle.std.proofs.Common.{◌≡◌, ◌*◌, ◌<◌, ◌≤◌, ◌∙◌, ℕ, List, ap, arith, length, map, refl, subst, sym}
use Rattle.std.specs.Prelude.{Vec}
use Rattle.std.specs.Global.{Global}
use Rattle.std.proofs.lemmas.Result.{err_from_is_err_and}
use Rattle.log_schemes.specs.Layout.{log_words}
use Rattle.c_tree.specs.Flats.{flat_of}
use Rattle.c_tree.specs.Source.{start}
use Rattle.image_checks.specs.Schedules.{AreSchedules, schedules_of}
use Rattle.image_checks.specs.Checks.{of_mutexes}
use Rattle.run_scripts.specs.declared.runs.Run as code
use Rattle.image_checks.specs.links.PrefixBeforeFault.{TellsFault}
use Rattle.image_checks.specs.StateAnswers.{faulty, no_memory}
use Rattle.run_scripts.specs.links.ReportViews.{steps_of}
use Rattle.crash_images.specs.links.Views.{life_of, state_of}
use Rattle.flat_compile.specs.ResumePlaces.{resumes_at}
use Rattle.image_checks.specs.Logs.{HoldsLock, logs_of}
use Rattle.image_checks.proofs.Masks.{held_low}
use Rattle.image_checks.proofs.Points.{room_at}
use Rattle.image_checks.proofs.States.{same_sound, same_fault, same_unshared, same_shared, in_threads, in_schedules, all_sound}
use Rattle.image_checks.proofs.state.check_state.Goals as goal

pub returns-in_err-addresses : goal.returns-in_err-addresses
returns-in_err-addresses c =
    let p = err_from_is_err_and c.from_residual.result c.from_residual.ensures.1 in
    rw (p.1, p.2) no_memory

pub returns-in_err-check_logs : goal.returns-in_err-check_logs
returns-in_err-check_logs c =
    let p = err_from_is_err_and c.from_residual-in_err-check_logs.result c.from_residual-in_err-check_logs.ensures.1 in
    let x = c.in_err-check_logs.field-0.0 in
    let flat = flat_of c.args.flat.now in
    rw (p.1, p.2)
    (in_threads c.args.log flat c.args.table.now (state_of c.args.state.now) x
    (same_fault c.args.log x flat _ _ _ _ refl c.deref-3.ensures.value c.in_err-check_logs.ensures))

as_many : (n m : ℕ) → n ≡ m → n ≤ m
as_many n m same = omega (arith, same)

pub check_mutexes-requires-clause-logs : goal.check_mutexes-requires-clause-logs
check_mutexes-requires-clause-logs c =
    as_many (log_words c.args.log * length c.args.table.now) (length c.deref-4.result.now) (sym c.requires.logs ∙ sym (ap length c.deref-4.ensures.value))

pub check_mutexes-requires-clause-low : goal.check_mutexes-requires-clause-low
check_mutexes-requires-clause-low c = λ thread lock within holds.
    let log = c.args.log in
    let flat = flat_of c.args.flat.now in
    let table = c.args.table.now in
    let logs = logs_of log c.args.state.now.logs.items in
    let below : thread < length table = omega (arith, within, c.requires.few) in
    let sound = same_sound log flat _ _ _ _ refl c.deref-3.ensures.value c.in_ok-check_logs.ensures in
    held_low flat c.requires.formed (resumes_at table thread) logs thread lock (room_at log table thread below c.requires.room_for_locks)
    (c.requires.kinds thread) (sound thread below) (subst (λ (words : List ℕ). HoldsLock (logs_of log words) thread lock) c.deref-4.ensures.value holds)

pub returns-in_err-check_mutexes : goal.returns-in_err-check_mutexes
returns-in_err-check_mutexes c =
    let p = err_from_is_err_and c.from_residual-in_err-check_mutexes.result c.from_residual-in_err-check_mutexes.ensures.1 in
    let x = c.in_err-check_mutexes.field-0.0 in
    rw (p.1, p.2)
    (faulty x (of_mutexes x
    (same_sound c.args.log (flat_of c.args.flat.now) _ _ _ _ refl c.deref-3.ensures.value c.in_ok-check_logs.ensures)
    (same_shared c.args.log x _ _ _ _ c.deref-4.ensures.value refl c.in_err-check_mutexes.ensures)))

pub returns-in_err-lives : goal.returns-in_err-lives
returns-in_err-lives c =
    let p = err_from_is_err_and c.from_residual-in_err-lives.result c.from_residual-in_err-lives.ensures.1 in
    let flat = flat_of c.args.flat.now in
    let x = c.in_err-lives.field-0.0 in
    rw (p.1, p.2)
    (in_schedules c.args.log flat c.args.table.now (state_of c.args.state.now) x
    (same_sound c.args.log (flat_of c.args.flat.now) _ _ _ _ refl c.deref-3.ensures.value c.in_ok-check_logs.ensures)
    (same_unshared c.args.log _ _ _ _ c.deref-4.ensures.value refl c.in_ok-check_mutexes.ensures)
    (subst (λ (lives : List (Vec code.Run Global)). TellsFault flat (start flat) (map life_of lives) x) c.deref-5.ensures.value c.in_err-lives.ensures.fault))

pub returns : goal.returns
returns c =
    let flat = flat_of c.args.flat.now in
    let lives = c.in_ok-lives.lives in
    all_sound c.args.log flat c.args.table.now (state_of c.args.state.now) lives
    (same_sound c.args.log (flat_of c.args.flat.now) _ _ _ _ refl c.deref-3.ensures.value c.in_ok-check_logs.ensures)
    (same_unshared c.args.log _ _ _ _ c.deref-4.ensures.value refl c.in_ok-check_mutexes.ensures)
    (subst (λ (told : List (Vec code.Run Global)). AreSchedules flat (start flat) 0 (map life_of told)) c.deref-5.ensures.value c.in_ok-lives.ensures.sound)
    (subst (λ (told : List (Vec code.Run Global)). map steps_of lives.items ≡ schedules_of (map life_of told)) c.deref-5.ensures.value
    c.in_ok-lives.ensures.lives)
