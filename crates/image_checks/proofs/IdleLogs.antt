-- Logs without a word: every thread stands between sections, so nothing of them is at fault.
use Rattle.std.proofs.Common.{◌≡◌, ℕ, zero, suc, ◌-◌, ◌/◌, ◌≤◌, List, [], length, map, replicate, refl, ap, sym, ◌∙◌, arith, true, false}
use Rattle.std.specs.Prelude.{Vec, slice_index, sum_by}
use Rattle.std.specs.Global.{Global}
use Rattle.ido_base.specs.declared.limits.TheConstants.{MOST_STEPS}
use Rattle.log_schemes.specs.declared.log.Log.{Log}
use Rattle.ido_base.specs.Layout.{logs_base}
use Rattle.log_schemes.specs.Layout.{point_at}
use Rattle.ido_base.specs.Locks.{has_lock}
use Rattle.c_tree.specs.Flats.{Flat}
use Rattle.c_tree.specs.Source.{start}
use Rattle.source_machine.specs.Lives.{runs_lives}
use Rattle.log_schemes.specs.declared.point.Point.TheVariants.{Idle}
use Rattle.log_schemes.specs.Points.{point_of}
use Rattle.flat_compile.specs.declared.resumes.Resume.{Resume}
use Rattle.run_scripts.specs.Runs.{runs_of}
use Rattle.crash_images.specs.Contents.{word_bytes}
use Rattle.image_checks.specs.Checks.{AreSound, IsUnshared, IsWellFormedState, idle}
use Rattle.image_checks.specs.Logs.{Logs, locks_at_point, log_locks, logs_of, point_in}
use Rattle.image_checks.proofs.LivesLaws.{merged_lives}

zero_at : (n i : ℕ) → slice_index (replicate n 0) i ≡ 0
zero_at zero i = refl
zero_at (suc n) zero = refl
zero_at (suc n) (suc i) = zero_at n i

module _ (log : Log) (count : ℕ) where
  abbrev none : Logs
  none = logs_of log (replicate count 0)

  idle_point : (thread : ℕ) → point_in none thread ≡ Idle
  idle_point thread = ap point_of (zero_at count ((point_at log thread - logs_base) / word_bytes))

  no_locks : (thread : ℕ) → log_locks none thread ≡ []
  no_locks thread = ap (locks_at_point none thread) (idle_point thread)

  idle_sound : (flat : Flat) (table : List (Vec Resume Global)) → AreSound flat table none
  idle_sound flat table = λ thread within. idle (idle_point thread)

  idle_apart : (threads lock : ℕ) → IsUnshared none threads lock
  idle_apart threads lock = λ one other less within holds also.
      let wrong : false ≡ true = sym (ap (λ (locks : List ℕ). has_lock locks lock) (no_locks one)) ∙ holds in cc wrong

  -- with schedules that the source can make
  pub idle_state_sound : (flat : Flat) (table : List (Vec Resume Global)) (variables : List ℕ) (schedules : List (List ℕ)) →
      sum_by length schedules ≤ MOST_STEPS → runs_lives flat (start flat) schedules ≡ true →
      IsWellFormedState log flat table (record { variables = variables; logs = replicate count 0; lives = map runs_of schedules })
  idle_state_sound flat table variables schedules few runs = record {
    logs = idle_sound flat table;
    mutexes = idle_apart (length table);
    schedules = merged_lives flat (start flat) 0 schedules (omega (arith, few)) runs;
  }
