-- Compiled programs: a plan, and what a machine runs for it.
use Rattle.std.specs.Prelude.{◌≡◌, ℕ, ◌+◌, ◌*◌, ◌^◌, ◌<◌, List, length, map, slice_get, slice_index_or, All, Some, Bool, true, false, []}
use Rattle.ido_base.specs.declared.location.Shape.{Shape}
use Rattle.c_tree.specs.Flats as f
use Rattle.c_tree.specs.WellFormed.{shape_of, initial_numbers}
use Rattle.c_tree.specs.LockDiscipline.{IsDisciplined}
use Rattle.memory_layout.specs.Variables.{AreInitial}
use Rattle.machine_model.specs.Executables.{Executable}
use Rattle.hart_runs.specs.Laws.{program_at}
use Rattle.recovery_semantics.specs.VariableSpots.{Spot}
use Rattle.variable_words.specs.VariablesInWords.{spots_of}
use Rattle.region_attempts.specs.PendingCleans.{AreLeftOut}
use Rattle.thread_code.specs.Plans.{Plan, IsPlan, IsNodeOf}
use Rattle.recovered_threads.specs.RecordDescriptions.{Code, Codes}

pub record System : Type 0 where
  pub plan : Plan
  pub runs : Executable
  -- of each node whether its store's line isn't cleaned at once
  pub left_out : List Bool

abbrev pub flat_of : System → f.Flat
flat_of y = y.plan.flat

abbrev pub shapes_of : System → List Shape
shapes_of y = map shape_of (flat_of y).variables

-- where variables are
abbrev pub places_of : System → List Spot
places_of y = spots_of (flat_of y).variables

abbrev pub thread_count : System → ℕ
thread_count y = length y.plan.graph.threads

-- the thread's code is what the machine runs for it
pub record IsOwnCode (y : System) (code : Code y.plan) : Type 0 where
  pub program : code.program ≡ program_at y.runs.program code.thread.number
      (slice_index_or y.runs.marks code.thread.number []) (slice_index_or y.runs.resumes code.thread.number [])
  -- the thread's code ends within the addresses
  pub room : code.program.start + 4 * length code.program.code < 2 ^ 64
  pub cleans : (node : ℕ) → IsNodeOf code.thread node → code.is.places.cleans node ≡ false → slice_get y.left_out node ≡ Some true

pub record IsSystem (y : System) : Type 0 where
  pub plan : IsPlan y.plan
  pub disciplined : All (IsDisciplined (flat_of y)) (flat_of y).threads
  pub count : length y.runs.program ≡ thread_count y
  pub codes : Codes y.plan
  pub own : (n : ℕ) (below : n < thread_count y) → IsOwnCode y (codes.each n below)
  pub initial : AreInitial (map shape_of (flat_of y).variables) (map initial_numbers (flat_of y).variables) y.runs.initial
  pub log : y.plan.log ≡ y.runs.log
  pub mutexes : y.runs.mutexes ≡ length (flat_of y).mutexes
  pub left_out : AreLeftOut (flat_of y) y.plan.boundaries (shapes_of y) y.left_out
