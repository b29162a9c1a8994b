-- The nodes of a source, or why there are none; what is known of the code that is listed.
use Rattle.std.specs.Prelude.{◌≡◌, ◌<◌, ◌+◌, ◌-◌, ◌^◌, ◌≤◌, ℕ, List, [], ◌∷◌, length, slice_get, slice_index_or, Some, Bool, Result, Ok, Err, Vec}
use Rattle.std.specs.Global.{Global}
use Rattle.c_tree.specs.LockNames.{Held}
use Rattle.flow_graph.specs.declared.graph.Part.{Part}
use Rattle.region_cutter.specs.declared.straight.Stretch.{Stretch}
use Rattle.flat_compile.specs.TranslatedForms.{command_log}
use Rattle.ido_compile.specs.declared.error.CompileError.{CompileError}
use Rattle.ido_compile.specs.links.FrontEndAnswers.{IsRefusalAs}
use Rattle.ido_cli.specs.Answers.{RegionsAnswer}

abbrev pub IsRegionsAnswer : (least : Bool) → (source : List ℕ) → Result (Vec ℕ Global) CompileError → Type 0
IsRegionsAnswer least source (Ok output) = RegionsAnswer least source 0 output.items
IsRegionsAnswer least source (Err error) = IsRefusalAs command_log source error

-- each stretch has a node
abbrev pub HaveNodes : List Stretch → Type 0
HaveNodes [] = Unit {0}
HaveNodes (s ∷ ss) = (s.first < s.past) × HaveNodes ss

-- before each node of the thread a set of mutexes is known, and the numbers of the thread and of its steps have 32 bits
pub record HasSets (held : List (List Held)) (thread : ℕ) (part : Part) : Type 0 where
  pub there : thread < length held
  pub few_threads : thread < 2 ^ 32
  pub sets : (node : ℕ) → part.first ≤ node → node < part.end → node - part.first < length (slice_index_or held thread [])
  pub few_steps : part.end ≤ part.first + 2 ^ 32

abbrev pub HaveSets : (held : List (List Held)) → List Part → Type 0
HaveSets held parts = (thread : ℕ) (part : Part) → slice_get parts thread ≡ Some part → HasSets held thread part
