-- Another life of a machine, which begins where each hart has stopped between sections.
use Rattle.std.specs.Prelude.{◌≡◌, ◌⊎◌, ℕ, List, [], length, slice_get, Some, true}
use Rattle.c_tree.specs.Source.{after_from}
use Rattle.rv64_isa.specs.declared.object.Slot.{Slot}
use Rattle.machine_model.specs.declared.phase.Phase.TheVariants.{Run, Done, Ended}
use Rattle.machine_model.specs.Machine.{Hart, World, fresh_hart, is_settled}
use Rattle.source_machine.specs.Lives.{restart}
use Rattle.crash_simulation.specs.Systems.{System, IsSystem, flat_of}
use Rattle.crash_simulation.specs.SimulationRelation.{Simulates}

-- each hart has stopped between sections
pub record HaveStopped (w : World) : Type 0 where
  pub settled : is_settled w ≡ true
  pub stopped : (h : ℕ) (hart : Hart) → slice_get w.harts h ≡ Some hart → (hart.phase ≡ Done) ⊎ (hart.phase ≡ Ended)

-- each hart is at the first word of its code again, with all registers 0; memory, locks and queues are as they were
pub record IsBegunAnew (program : List (List Slot)) (w v : World) : Type 0 where
  pub words : v.words ≡ w.words
  pub holders : v.holders ≡ w.holders
  pub log : v.log ≡ w.log
  pub count : length v.harts ≡ length w.harts
  pub harts : (h : ℕ) (hart : Hart) → slice_get w.harts h ≡ Some hart →
      slice_get v.harts h ≡ Some (record (fresh_hart program Run h) { queue = hart.queue })

-- the machine simulates an abstract run that begins with the variables that the one before it leaves by its kept schedule
pub record SimulatesAnew (y : System) (s : IsSystem y) {w : World} (old : Simulates y s w) (v : World) : Type 0 where
  pub stands : Simulates y s v
  pub begins : stands.abstract.origin.source ≡ restart (flat_of y) (after_from old.abstract.origin.source old.abstract.schedule)
  pub none : stands.abstract.schedule ≡ []

-- so it does whatever the life before was, and however often power was lost in it
abbrev pub LivesSimulate : Type 0
LivesSimulate = (y : System) (s : IsSystem y) (w v : World) (old : Simulates y s w) → HaveStopped w → IsBegunAnew y.runs.program w v →
    SimulatesAnew y s old v
