-- No deadlock: whatever has happened, a hart can step unless all have stopped.
use Rattle.std.specs.Prelude.{◌≡◌, ◌⊎◌, ◌↔◌, ℕ, List, length, slice_get, Some, None, true}
use Rattle.machine_events.specs.declared.event.Event.{Event}
use Rattle.machine_events.specs.declared.event.Event.TheVariants.{Step}
use Rattle.machine_events.specs.Cores.{is_idle, least_enabled}
use Rattle.rv64_isa.specs.declared.object.Slot.{Slot}
use Rattle.machine_model.specs.declared.phase.Phase.TheVariants.{Done, Ended}
use Rattle.machine_model.specs.Machine.{World, Hart, is_settled, reply_to}
use Rattle.run_tracker.specs.ObjectLives.{LifeConfig, living}
use Rattle.lock_order.specs.LockOrder.{order_fault}
use Rattle.compiler_correctness.specs.Translations.{Translation, world}
use Rattle.compiler_correctness.specs.Images.{world_from, image_of, file_of, image_in}
use Rattle.compiler_correctness.specs.Compilations.{IsCompilation}
use Rattle.c_tree.specs.WellFormed.{IsWellFormed}

-- each hart has ended, or its recovery is done
abbrev pub HaveStopped : World → Type 0
HaveStopped w = (h : ℕ) (hart : Hart) → slice_get w.harts h ≡ Some hart → (hart.phase ≡ Ended) ⊎ (hart.phase ≡ Done)

-- a life that runs this translation in this world: there is no hart that can step exactly where all have stopped
abbrev pub StopsAtTheEnd : Translation → World → Type 0
StopsAtTheEnd c w = (life : LifeConfig) → life.runs ≡ c.runs → life.world ≡ w →
    (least_enabled living life (length life.runs.program) ≡ None) ↔ HaveStopped w

-- after every list of events, crashes and those of recovery among them, of a compilation whose source is well formed and keeps the order of locks
abbrev pub NoneDeadlocks : Type 0
NoneDeadlocks = (c : Translation) → IsCompilation c → IsWellFormed c.flat → order_fault c.flat ≡ None → (events : List Event) →
    StopsAtTheEnd c (world c events)

-- in every run, too, that is begun from the file of an image that it left
abbrev pub NoneDeadlocksResumed : Type 0
NoneDeadlocksResumed = (c : Translation) → IsCompilation c → IsWellFormed c.flat → order_fault c.flat ≡ None → (before events : List Event) →
    StopsAtTheEnd c (world_from c (image_in c (file_of c (image_of c before))) events)

-- the next step of each hart would wait, or find it stopped
abbrev pub NoneCanStep : List (List Slot) → World → Type 0
NoneCanStep program w = (h : ℕ) → is_idle (reply_to program w (Step h)) ≡ true

-- where no hart can step, all harts stand between sections, so that all variables are durable
abbrev pub StopsAreSettled : Type 0
StopsAreSettled = (c : Translation) → IsCompilation c → IsWellFormed c.flat → order_fault c.flat ≡ None → (events : List Event) →
    NoneCanStep c.runs.program (world c events) → is_settled (world c events) ≡ true
