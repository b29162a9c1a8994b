-- Where harts have stored last and what they have accessed first, along events: a machine simulates an abstract run in which each thread's ghost state says so.
use Rattle.std.proofs.Common.{◌≡◌, refl, ℕ, List, [], ◌∷◌, ap, ◌∙◌, Option, None}
use Rattle.machine_events.specs.declared.event.Event.{Event}
use Rattle.machine_model.specs.Executables.{first_world}
use Rattle.machine_model.specs.Machine.{World, after_event, after_events}
use Rattle.crash_simulation.specs.Accesses.{Access, first_access, first_access_after, first_access_along}
use Rattle.crash_simulation.specs.StorePositions.{last_store, last_store_after, last_store_along}
use Rattle.thread_runs.specs.Laws.{FragmentsGoOn}
use Rattle.crash_simulation.specs.InstructionSteps.{CoresStep, FragmentsStep, LocalStoresStep}
use Rattle.crash_simulation.specs.SimulationRelation.{Simulates}
use Rattle.crash_simulation.specs.Systems.{System, IsSystem}
use Rattle.crash_simulation.proofs.Public.{event_goes_on, first_life, first_origin, life_stands}

module _ (y : System) (s : IsSystem y) where
  -- the machine simulates an abstract run, and the last stores and first accesses of each hart are those of the thread's ghost state
  pub record TellsAccesses (w : World) (stores : (h word : ℕ) → Option ℕ) (firsts : (h byte : ℕ) → Option Access) : Type 0 where
    pub stands : Simulates y s w
    pub last : (h word : ℕ) → (stands.ghosts h).last_stores word ≡ stores h word
    pub first : (h byte : ℕ) → (stands.ghosts h).first_accesses byte ≡ firsts h byte

  module _ (fragments_step : FragmentsStep) (cores_step : CoresStep) (local_stores_step : LocalStoresStep) (law : FragmentsGoOn) where
    along : (events : List Event) (w : World) (stores : (h word : ℕ) → Option ℕ) (firsts : (h byte : ℕ) → Option Access) → TellsAccesses w stores firsts →
        TellsAccesses (after_events y.runs.program w events) (λ h word. last_store_along y.runs.program w events h word (stores h word))
        (λ h byte. first_access_along y.runs.program w events h byte (firsts h byte))
    along [] w stores firsts t = t
    along (event ∷ events) w stores firsts t =
        let o = event_goes_on fragments_step cores_step local_stores_step law y s w event t.stands in
        along events (after_event y.runs.program w event) (λ h word. last_store_after y.runs.program w event h word (stores h word))
        (λ h byte. first_access_after y.runs.program w event h byte (firsts h byte)) (record {
          stands = o.next;
          last = λ h word. o.last h word ∙ ap (last_store_after y.runs.program w event h word) (t.last h word);
          first = λ h byte. o.accesses h byte ∙ ap (first_access_after y.runs.program w event h byte) (t.first h byte);
        })

    pub accesses_told : (events : List Event) →
        TellsAccesses (after_events y.runs.program (first_world y.runs) events) (λ h word. last_store y.runs.program (first_world y.runs) events h word)
        (λ h byte. first_access y.runs.program (first_world y.runs) events h byte)
    accesses_told events =
        along events (first_world y.runs) (λ h word. None) (λ h byte. None) (record {
          stands = life_stands y s (first_origin y s) (first_world y.runs) (first_life y s);
          last = λ h word. refl;
          first = λ h byte. refl;
        })
