-- What holds of each source that two numbers give.
use Rattle.std.specs.Prelude.{◌≡◌, ℕ, ◌^◌, ◌<◌, List, None}
use Rattle.c_tree.specs.declared.language.Language.TheVariants.{Full}
use Rattle.c_tree.specs.AcceptedTexts.{IsFlattened}
use Rattle.c_tree.specs.Flats.{Flat}
use Rattle.c_tree.specs.LockDiscipline.{lock_fault}
use Rattle.c_tree.specs.Temporaries.{temporaries_fault}
use Rattle.flow_graph.specs.Liveness.{HasRoom}
use Rattle.flow_graph.specs.Lowering.{lowered}
use Rattle.lock_order.specs.LockOrder.{order_fault}
use Rattle.run_scripts.specs.GeneratedSources.{generated_source}

-- the text breaks no rule of the full language, this is its flat form, and each of its threads takes locks in their order
pub record IsOrderedProgram (text : List ℕ) (flat : Flat) : Type 0 where
  pub form : IsFlattened Full text flat
  pub disciplined : lock_fault Full flat ≡ None
  pub room : HasRoom (lowered flat)
  pub shallow : temporaries_fault flat ≡ None
  pub in_order : order_fault flat ≡ None

-- a source that two numbers give is such a program, for as many rounds as 32 bits tell, and whatever the seed is
abbrev pub GeneratedAreOrdered : Type 0
GeneratedAreOrdered = (rounds seed : ℕ) → rounds < 2 ^ 32 → (flat : Flat) × IsOrderedProgram (generated_source rounds seed) flat
