-- What the machine runs for a flat form.
use Rattle.std.specs.Prelude.{◌≡◌, List, length}
use Rattle.log_schemes.specs.declared.log.Log.{Log}
use Rattle.log_schemes.specs.declared.log.Log.TheVariants.{V2}
use Rattle.log_schemes.specs.Schemes.{locals_of}
use Rattle.c_tree.specs.Flats.{Flat}
use Rattle.machine_model.specs.declared.object.Object.{Object}
use Rattle.rv64_isa.specs.declared.object.Marks.{Marks}
use Rattle.rv64_isa.specs.declared.object.CodeItem.{CodeItem}
use Rattle.rv64_isa.specs.Programs.{code_base}
use Rattle.machine_model.specs.Executables.{executable_of}
use Rattle.rv64_link.specs.LinkedCode.{AreLinked}
use Rattle.hart_core.specs.Objects.{IsWithinLimits}
use Rattle.flow_graph.specs.declared.cuts.Cuts.{Cuts}
use Rattle.flow_graph.specs.Lowering.{lowered}
use Rattle.flow_graph.specs.IdempotentCuts.{boundaries_of}
use Rattle.region_cutter.specs.BoundaryPlaces.{AreBoundariesFor}
use Rattle.rv64_codegen.specs.StoreCleans.{AllCleanAtOnce}
use Rattle.crash_simulation.specs.Systems.{System, IsSystem, flat_of}
use Rattle.std.specs.Prelude.{Vec}
use Rattle.std.specs.Global.{Global}
use Rattle.flat_compile.specs.declared.resumes.Resume.{Resume}
use Rattle.flat_compile.specs.ResumePlaces.{IsResumeTable}

-- ---- What the machine runs

-- What the machine runs is a system of the flat form, whose threads log as it is wanted, so all laws of compiled programs hold of it; its boundaries are
-- those for where locals stand.
-- A machine can begin with the object: it is within a machine's limits, and each of its threads has its marks.
pub record IsTranslatedAs (wanted : Log) (flat : Flat) (object : Object) (marks : Marks) (cuts : Cuts) : Type 0 where
  pub system : System
  pub is : IsSystem system
  pub of_flat : flat_of system ≡ flat
  pub at_cuts : system.plan.boundaries ≡ boundaries_of cuts
  pub placed : AreBoundariesFor (locals_of wanted) (lowered flat) system.plan.held (boundaries_of cuts)
  pub runs : system.runs ≡ executable_of object marks
  pub log : object.log ≡ wanted
  -- The items that the code is linked from, thread after thread: at once after a store they clean its line where no later store of the region does,
  -- and outside the code of boundaries no other line.
  pub items : List (List CodeItem)
  pub linked : AreLinked code_base items system.runs.program marks.threads.items
  pub cleans : AllCleanAtOnce system.plan items
  -- as many threads, words, mutexes and initial bytes as a machine takes
  pub limits : IsWithinLimits object
  -- as many threads are marked as there are
  pub threads : length marks.threads.items ≡ length object.code.items

-- the table tells of each thread of that system what it has where recovery may resume it
pub record IsResumableAs (wanted : Log) (flat : Flat) (object : Object) (marks : Marks) (cuts : Cuts) (table : List (Vec Resume Global)) : Type 0 where
  pub translated : IsTranslatedAs wanted flat object marks cuts
  pub are : IsResumeTable translated.system.plan translated.is.codes table

-- ---- With the log for which commands compile

abbrev pub command_log : Log
command_log = V2
