-- What local instructions of a hart do, one after another, by the table of its code.
use Rattle.std.specs.Prelude.{◌≡◌, ℕ, zero, suc, ◌+◌, ◌<◌, ◌≤◌, Option, Some, None, Bool, if◌then◌else◌}
use Rattle.machine_model.specs.declared.phase.Phase.TheVariants.{Run}
use Rattle.machine_model.specs.Machine.{Hart as HartModel, World, with_hart}
use Rattle.hart_core.specs.declared.hart.Hart.{Hart}
use Rattle.hart_core.specs.declared.local.LocalState.{LocalState}
use Rattle.hart_core.specs.LocalSteps.{after_write, local_run, local_step}
use Rattle.ido_machine.specs.declared.machine.Machine.{Machine}
use Rattle.ido_machine.specs.declared.signs.NextLocal.{NextLocal}
use Rattle.ido_machine.specs.declared.signs.Ran.{Ran}
use Rattle.ido_machine.specs.declared.signs.SignTable.{SignTable}
use Rattle.ido_machine.specs.Harts.{local_state_of, with_local_state}
use Rattle.ido_machine.specs.Machines.{RepresentsMachine}
use Rattle.ido_machine.specs.links.SignTables.{placed_in, sign_at}

-- registers and pc of a hart
abbrev pub state_in : Hart → LocalState
state_in hart = record { registers = hart.registers; pc = hart.pc }

-- the hart's next instruction is local, and does this
pub record GoesBy (table : SignTable) (hart : Hart) (next : NextLocal) : Type 0 where
  pub local : local_step (placed_in table) (state_in hart) ≡ Some (after_write next.write hart.registers)
  pub mark : next.mark ≡ (sign_at table hart.pc).mark

-- whether a mark stands at the pc, by the signs: 1 or 0
abbrev pub mark_at : SignTable → Option LocalState → ℕ
mark_at table None = 0
mark_at table (Some s) = if (sign_at table s.pc).mark then 1 else 0

-- how many marks so many local instructions pass, by the signs
abbrev pub signs_passed : SignTable → LocalState → ℕ → ℕ
signs_passed table s zero = 0
signs_passed table s (suc n) = signs_passed table s n + mark_at table (local_run (placed_in table) s n)

-- a hart has executed so many local instructions, of which so many were marks
pub record HasRun (table : SignTable) (old new : Hart) (ran : Ran) : Type 0 where
  pub run : local_run (placed_in table) (state_in old) ran.made ≡ Some (state_in new)
  pub passed : ran.passed ≡ signs_passed table (state_in old) ran.made
  pub few : ran.passed ≤ ran.made
  pub queue : new.queue ≡ old.queue

-- hart h has, from a world on at which it was that one, and the machine is at the world after them
pub record HasRunOn (machine : Machine) (w : World) (h : ℕ) (model : HartModel) (table : SignTable) (ran : Ran) : Type 0 where
  pub last : LocalState
  pub run : local_run (placed_in table) (local_state_of model) ran.made ≡ Some last
  pub running : 0 < ran.made → model.phase ≡ Run
  pub passed : ran.passed ≡ signs_passed table (local_state_of model) ran.made
  pub stands : RepresentsMachine machine (with_hart w h (with_local_state model last))
