-- What is answered to all that stands after a source.
use Rattle.std.proofs.Common.{◌≡◌, inl, inr, ℕ, List, map, Err, Ok, length, subst, sym}
use Rattle.std.specs.Prelude.{Vec}
use Rattle.std.specs.Global.{Global}
use Rattle.log_schemes.specs.declared.log.Log.{Log}
use Rattle.c_tree.specs.Flats.{Flat}
use Rattle.c_tree.specs.Source.{start}
use Rattle.flat_compile.specs.declared.resumes.Resume.{Resume}
use Rattle.image_checks.specs.declared.error.ImageError.{ImageError}
use Rattle.image_checks.specs.declared.schedules.ScheduleFault.{ScheduleFault}
use Rattle.image_checks.specs.declared.schedules.ScheduleFault.TheVariants as schedule
use Rattle.run_scripts.specs.links.ReportViews.{steps_of}
use Rattle.crash_images.specs.Contents.{State}
use Rattle.image_checks.specs.Schedules.{AreSchedules, schedules_of}
use Rattle.image_checks.specs.Checks.{AreSound, IsThreadFault, IsUnshared, IsMutexFault, of_schedules, of_thread}
use Rattle.image_checks.specs.Logs.{logs_of}
use Rattle.image_checks.specs.links.Errors as errors
use Rattle.image_checks.specs.links.Errors.{IsFaultOrMemory}
use Rattle.image_checks.specs.links.PrefixBeforeFault.{TellsFault}
use Rattle.image_checks.specs.StateAnswers.{IsStateAnswer, sound, faulty, no_memory}

-- ---- The same lists

pub same_sound : (log : Log) (flat : Flat) (t u : List (Vec Resume Global)) (l m : List ℕ) → t ≡ u → l ≡ m →
    AreSound flat t (logs_of log l) → AreSound flat u (logs_of log m)
same_sound log flat t u l m a b h = coe 0 1 (i. AreSound flat (a i) (logs_of log (b i))) h

pub same_fault : (log : Log) (x : ImageError) (flat : Flat) (t u : List (Vec Resume Global)) (l m : List ℕ) → t ≡ u → l ≡ m →
    IsFaultOrMemory (IsThreadFault flat t (logs_of log l)) x → IsFaultOrMemory (IsThreadFault flat u (logs_of log m)) x
same_fault log x flat t u l m a b h = coe 0 1 (i. IsFaultOrMemory (IsThreadFault flat (a i) (logs_of log (b i))) x) h

pub same_unshared : (log : Log) (l m : List ℕ) (n k : ℕ) → l ≡ m → n ≡ k → ((lock : ℕ) → IsUnshared (logs_of log l) n lock) → (lock : ℕ) →
    IsUnshared (logs_of log m) k lock
same_unshared log l m n k a b h = coe 0 1 (i. (lock : ℕ) → IsUnshared (logs_of log (a i)) (b i) lock) h

pub same_shared : (log : Log) (x : ImageError) (l m : List ℕ) (n k : ℕ) → l ≡ m → n ≡ k → IsMutexFault (logs_of log l) n x → IsMutexFault (logs_of log m) k x
same_shared log x l m n k a b h = coe 0 1 (i. IsMutexFault (logs_of log (a i)) (b i) x) h

-- ---- Answers

-- want of memory, or a fault of a thread's log
pub in_threads : (log : Log) (flat : Flat) (table : List (Vec Resume Global)) (s : State) (x : ImageError) →
    IsFaultOrMemory (IsThreadFault flat table (logs_of log s.logs)) x → IsStateAnswer log flat table s (Err x)
in_threads log flat table s x (inl none) = subst (λ (y : ImageError). IsStateAnswer log flat table s (Err y)) (sym none) no_memory
in_threads log flat table s x (inr fault) = faulty x (of_thread x fault)

module _ (log : Log) (flat : Flat) (table : List (Vec Resume Global)) (s : State) where
  pub in_schedules : (x : ScheduleFault) → AreSound flat table (logs_of log s.logs) →
      ((lock : ℕ) → IsUnshared (logs_of log s.logs) (length table) lock) →
      TellsFault flat (start flat) s.lives x → IsStateAnswer log flat table s (Err (errors.of_schedule x))
  in_schedules (schedule.Step step) logs mutexes fault = faulty _ (of_schedules _ logs mutexes fault)
  in_schedules (schedule.Life life) logs mutexes fault = faulty _ (of_schedules _ logs mutexes fault)
  in_schedules schedule.Memory logs mutexes fault = no_memory

  pub all_sound : (lives : Vec (Vec ℕ Global) Global) → AreSound flat table (logs_of log s.logs) →
      ((lock : ℕ) → IsUnshared (logs_of log s.logs) (length table) lock) →
      AreSchedules flat (start flat) 0 s.lives → map steps_of lives.items ≡ schedules_of s.lives → IsStateAnswer log flat table s (Ok lives)
  all_sound lives logs mutexes made told = sound lives (record { logs = logs; mutexes = mutexes; schedules = made }) told
