-- A core that stores no points and finishes no fences.
use Rattle.std.proofs.Common.{◌≡◌, ℕ, List, [], ◌∷◌, refl, arith}
use Rattle.machine_events.specs.declared.event.Event.{Event}
use Rattle.machine_events.specs.Cores.{finished_fences, point_stores}
use Rattle.part_tests.specs.MovingCore.{moving}

pub no_points : (hart m : ℕ) (events : List Event) → 0 ≡ point_stores moving m events hart
no_points hart m [] = refl
no_points hart m (event ∷ events) = let rest = no_points hart m events in omega (arith, rest)

pub no_fences : (hart m : ℕ) (events : List Event) → 0 ≡ finished_fences moving m events hart
no_fences hart m [] = refl
no_fences hart m (event ∷ events) = let rest = no_fences hart m events in omega (arith, rest)
