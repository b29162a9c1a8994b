-- Where a life begins no boundary is passed and no point stored.
use Rattle.crash_simulation.proofs.Common.{◌≡◌, ℕ, refl, ◌<◌, World, Origin, System, IsSystem, thread_count, flat_of}
use Rattle.crash_simulation.proofs.BoundaryPassages.{passages_ahead, points_ahead, told_of}
use Rattle.crash_simulation.proofs.LifeBeginnings.{BeginsLife, life_stands}

module _ (y : System) (s : IsSystem y) (o : Origin (flat_of y)) (v : World) (life : BeginsLife y o v) where
  pub first_even : (n : ℕ) → n < thread_count y →
      passages_ahead y (life_stands y s o v life).abstract (told_of ((life_stands y s o v life).ghosts n)) n
      ≡ points_ahead y ((life_stands y s o v life).ghosts n)
  first_even n below = refl
