-- What a machine runs.
use Rattle.std.specs.Prelude.{ℕ, List, map}
use Rattle.log_schemes.specs.declared.log.Log.{Log}
use Rattle.rv64_isa.specs.declared.object.Slot.{Slot}
use Rattle.machine_model.specs.declared.object.Object.{Object}
use Rattle.rv64_isa.specs.declared.object.Marks.{Marks}
use Rattle.rv64_isa.specs.declared.object.ThreadMarks.{ThreadMarks}
use Rattle.machine_model.specs.Objects.{program_of}
use Rattle.machine_model.specs.Machine.{World, start_of}

pub record Executable : Type 0 where
  -- of each thread its words, the addresses of its nodes' marks, and those where recovery may resume it
  pub program : List (List Slot)
  pub marks : List (List ℕ)
  pub resumes : List (List ℕ)
  -- the bytes that variables begin with
  pub initial : List ℕ
  -- as many locks as mutexes
  pub mutexes : ℕ
  -- how its threads log
  pub log : Log

-- the machine before any event
abbrev pub first_world : Executable → World
first_world x = start_of x.log x.program x.mutexes x.initial

-- of each thread the addresses of its nodes' marks
abbrev pub node_marks : List ThreadMarks → List (List ℕ)
node_marks marks = map (λ (m : ThreadMarks). m.nodes.items) marks

-- of each thread the addresses where it may be resumed
abbrev pub resume_marks : List ThreadMarks → List (List ℕ)
resume_marks marks = map (λ (m : ThreadMarks). m.resumes.items) marks

-- an object with its marks
abbrev pub executable_of : Object → Marks → Executable
executable_of object marks = record {
  program = program_of object;
  marks = node_marks marks.threads.items;
  resumes = resume_marks marks.threads.items;
  initial = object.initial.items;
  mutexes = object.mutexes;
  log = object.log;
}
