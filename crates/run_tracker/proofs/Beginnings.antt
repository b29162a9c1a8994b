-- Whether a hart of a life is as it was at the beginning of a local run.
use Rattle.std.proofs.Common.{◌≡◌, ◌↔◌, ℕ, slice_get, Some, Bool, true, false, if◌then◌else◌, sym, ap, subst, ◌∙◌}
use Rattle.machine_model.specs.Machine.{Hart}
use Rattle.run_tracker.specs.ObjectLives.{Course, world_of}
use Rattle.run_tracker.specs.LocalRuns.{LocalCourse, IsAtBeginning, StandsAtBeginning, local_at, one_ahead}

module _ (life : Course) (h : ℕ) where
  pub stands_there : (hart : Hart) (run : LocalCourse) → slice_get (world_of life).harts h ≡ Some hart → IsAtBeginning run hart ↔ StandsAtBeginning life h run
  stands_there hart run there = (
    λ begins. (hart, there, begins),
    λ s. let same : s.0 ≡ hart = cc (sym s.1 ∙ there) in subst (IsAtBeginning run) same s.2,
  )

  -- it does where the run begins there
  pub begins_there : (hart : Hart) (run : LocalCourse) → slice_get (world_of life).harts h ≡ Some hart → run ≡ local_at life h hart →
      StandsAtBeginning life h run
  begins_there hart run there is =
      (stands_there hart run there).0 (ap (λ (r : LocalCourse). r.phase) is, ap (λ (r : LocalCourse). r.first) is)

  -- one instruction more doesn't change it
  pub same_beginning : (run new : LocalCourse) (more : Bool) → new ≡ (if more then one_ahead run else run) →
      StandsAtBeginning life h new ↔ StandsAtBeginning life h run
  same_beginning run new true is =
      subst (λ (r : LocalCourse). StandsAtBeginning life h r ↔ StandsAtBeginning life h run) (sym is) (λ s. s, λ s. s)
  same_beginning run new false is =
      subst (λ (r : LocalCourse). StandsAtBeginning life h r ↔ StandsAtBeginning life h run) (sym is) (λ s. s, λ s. s)
