-- What a step of recovery does to the parts of a machine, by what it does to the world that they represent.
use Rattle.std.specs.Prelude.{◌≡◌, ℕ, List, map, slice_index_or}
use Rattle.machine_events.specs.declared.event.Reply.{Reply}
use Rattle.rv64_isa.specs.declared.object.Slot.{Slot}
use Rattle.machine_model.specs.declared.phase.Phase.{Phase}
use Rattle.machine_model.specs.declared.phase.Phase.TheVariants.{Done}
use Rattle.machine_model.specs.Machine.{Hart as HartModel, World, phase_step}
use Rattle.hart_core.specs.StepsOnParts.{Parts, PartsStand, PartsEnd}

-- the phase of a hart
abbrev pub phase_at : List Phase → (number : ℕ) → Phase
phase_at phases number = slice_index_or phases number Done

-- the phases of all harts
abbrev pub phases_of : World → List Phase
phases_of w = map (λ hart. hart.phase) w.harts

-- a step of the hart of that number from these parts to those, where the harts have these phases before it
pub record IsRecoveryStep (number : ℕ) (before after : Parts) (phases : List Phase) (reply : Reply) : Type 0 where
  pub each : (program : List (List Slot)) (w : World) (model : HartModel) → PartsStand before number w model → phases_of w ≡ phases
      → PartsEnd after reply number w (phase_step program w number model before.phase)
