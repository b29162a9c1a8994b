-- Where all harts stand between sections, the number of each element is one from the durable position to the last.
use Rattle.std.proofs.Common.{◌≡◌, ℕ, ◌-◌, List, map, length, ap, arith, sym, ◌∙◌, true}
use Rattle.c_tree.specs.Source.{State}
use Rattle.machine_model.specs.Machine.{World, is_settled}
use Rattle.recovery_semantics.specs.ElementHistories.{Memory, AreStable, history_at, live_number}
use Rattle.recovery_semantics.proofs.Public.{between_is_stable}
use Rattle.variable_words.specs.Variables.{live_variables, durable_variables}
use Rattle.variable_words.proofs.Public.{well_formed_placed, live_are_memory}
use Rattle.crash_simulation.specs.Systems.{System, IsSystem, flat_of}
use Rattle.crash_simulation.specs.SimulationRelation.{Simulates}
use Rattle.crash_simulation.specs.AccountRelation.{MachinesResume}
use Rattle.crash_simulation.proofs.Public.{resumed}
use Rattle.compiler_correctness.proofs.Public.{kept_between, settled_variables, variables_same}
use Rattle.crash_bounds.specs.SettledAlike.{SettledIsDurable}

-- what is stable is live
stable_live : (s : State) (memory : Memory) → AreStable s memory → map (map live_number) memory ≡ s.variables
stable_live s memory stable = variables_same memory s.variables stable.size (λ v e.
    let is = stable.each v e in
    let there = is.there in
    is.each (length (history_at memory v e).values - 1) (omega (arith, there)) (omega (arith, there)))

module _ (y : System) (s : IsSystem y) (w : World) (stands : Simulates y s w) (settled : is_settled w ≡ true) where
  live_is : live_variables w.words (flat_of y).variables ≡ stands.abstract.config.kept.variables
  live_is =
      let b = stands.abstract in
      live_are_memory (flat_of y).variables w.words (well_formed_placed (flat_of y) s.plan.formed).room
      ∙ (ap (λ (m : Memory). map (map live_number) m) stands.memory
      ∙ stable_live b.config.kept b.config.memory
      (between_is_stable (flat_of y) b.config (resumed y s b).resumed.invariant (kept_between y s w stands settled)))

  durable_is : durable_variables w.words (flat_of y).variables ≡ stands.abstract.config.kept.variables
  durable_is = settled_variables y s w stands settled ∙ ap (λ (z : State). z.variables) (resumed y s stands.abstract).resumed.kept.is

pub settled_is_durable : MachinesResume → SettledIsDurable
settled_is_durable machines y s events settled =
    let stands = (machines y s events).is.stands in
    durable_is y s _ stands settled ∙ sym (live_is y s _ stands settled)
