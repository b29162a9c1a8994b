-- What is said of a run of a compiled source by a script.
use Rattle.std.specs.Prelude.{◌≡◌, ℕ, ◌+◌, ◌≤◌, List, [], ◌∷◌, ◌++◌, length, map, Bool, true, false, Some, None, ◌==◌, slice_get, if◌then◌else◌}
use Rattle.machine_events.specs.declared.event.Event.{Event}
use Rattle.machine_events.specs.declared.event.Event.TheVariants.{Start}
use Rattle.machine_events.specs.Cores.{finished_fences}
use Rattle.ido_base.specs.declared.limits.TheConstants.{MOST_EVENTS}
use Rattle.c_tree.specs.Flats as f
use Rattle.c_tree.specs.Source.{start, is_between}
use Rattle.source_machine.specs.Lives.{after_lives, runs_lives}
use Rattle.machine_model.specs.declared.object.Object.{Object}
use Rattle.rv64_isa.specs.declared.object.Marks.{Marks}
use Rattle.machine_model.specs.Executables.{first_world}
use Rattle.machine_model.specs.Machine.{can_start}
use Rattle.log_schemes.specs.Schemes.{numbers_from}
use Rattle.machine_model.specs.Schedule.{only_life, schedules}
use Rattle.flow_graph.specs.declared.cuts.Cuts.{Cuts}
use Rattle.log_schemes.specs.declared.log.Log.{Log}
use Rattle.flat_compile.specs.TranslatedForms.{IsTranslatedAs}
use Rattle.compiler_correctness.specs.Translations.{Translation, world, steps, translation_to}
use Rattle.compiler_correctness.specs.Compilation.{AreSectionsKept}
use Rattle.compiler_correctness.specs.Compilations.{IsCompilation}
use Rattle.run_scripts.specs.Plays.{PlayFault, play_fault, script_events}
use Rattle.run_scripts.specs.Reports.{report, fence_lines}
use Rattle.run_scripts.specs.Scripts.{Line}
use Rattle.run_tracker.specs.ObjectLives.{LifeConfig, living}
use Rattle.ido_cli.specs.Refusals.{IsRefusedAt, play_fault_code, play_fault_place}
use Rattle.ido_cli.specs.Reports.{machine_state}
use Rattle.ido_cli.specs.Runs.{IsReport, run_state}

-- What a flat form is compiled to whose threads log so: by an object that is a translation of it, so a compilation. Which one of them isn't said.
pub record IsTranslationOf (log : Log) (flat : f.Flat) (c : Translation) : Type 0 where
  pub object : Object
  pub marks : Marks
  pub cuts : Cuts
  pub translated : IsTranslatedAs log flat object marks cuts
  pub compilation : IsCompilation c
  pub is : c ≡ translation_to flat object marks cuts

-- a translation's machine before any event
abbrev pub beginning : Translation → LifeConfig
beginning c = record {
  runs = c.runs;
  kept_before = only_life [];
  ended_before = [];
  world = first_world c.runs;
}

-- the events that the lines make, one line after another, each by what the machine is before it, up to a start by which no life may begin
abbrev pub events_by : Translation → List Line → List Event
events_by c lines = script_events living (length c.runs.program) (beginning c) lines

-- the source runs by the schedules one after another, from its start and with no crash, its threads begun anew at each, until every thread stands between
-- sections; the output is the report of that run
pub record IsSourceRun (flat : f.Flat) (schedules : List (List ℕ)) (output : List ℕ) : Type 0 where
  pub runs : runs_lives flat (start flat) schedules ≡ true
  pub between : (thread : ℕ) → is_between (after_lives flat (start flat) schedules) thread ≡ true
  pub output_is : output ≡ report (run_state flat schedules)

-- A life of the run that events make: those up to the start by which another life begins, or of the life that goes on all of them.
pub data IsLife (c : Translation) (events : List Event) : (until : List Event) → Type 0 where
  followed : (until rest : List Event) → events ≡ until ++ Start ∷ rest → can_start (world c until) ≡ true → IsLife c events until
  last : IsLife c events events

-- of each life its schedule is told, and that holds each section which a hart has left in the life, before whatever crash, and at most one more of its thread
pub record AreLivesKept (c : Translation) (events : List Event) : Type 0 where
  pub schedule : (until : List Event) → IsLife c events until →
      slice_get (schedules (steps c events)) (length (steps c until).earlier) ≡ Some (steps c until).kept
  pub sections : (until : List Event) → IsLife c events until → AreSectionsKept c until

-- The report of the machine after the events, whatever steps, evictions and crashes they are: status 0, and its durable variables, the ended sections and
-- the kept schedules, one for each life, exactly where each hart is settled, else status 3 and the harts that aren't.
-- At status 0 the output is that of the source's own run of the very schedules that are printed. Settled or not, the source can be stepped by the whole of the
-- kept schedules, and each of them holds each section that a hart has left in that life, before whatever crash.
pub record IsRunBy (c : Translation) (events : List Event) (status : ℕ) (output : List ℕ) : Type 0 where
  pub reported : IsReport (machine_state c.flat (world c events) (schedules (steps c events))) status output
  pub runs : runs_lives c.flat (start c.flat) (schedules (steps c events)) ≡ true
  pub settled : status ≡ 0 → IsSourceRun c.flat (schedules (steps c events)) output
  pub sections : AreLivesKept c events

-- how many fences each hart has finished by the events, in all lives: before crashes, in recoveries, and in sections that were lost
abbrev pub fences_by : Translation → List Event → List ℕ
fences_by c events = map (finished_fences living (beginning c) events) (numbers_from 0 (length c.runs.program))

-- The report, and after it the fences of each thread's hart, where each hart is settled: where one isn't, the report is all.
pub record IsFencedRun (c : Translation) (events : List Event) (status : ℕ) (output : List ℕ) : Type 0 where
  pub report : List ℕ
  pub run : IsRunBy c events status report
  pub output_is : output ≡ report ++ (if status == 0 then fence_lines (fences_by c events) else [])

-- what is said of a run, with its fences or without
abbrev pub IsPlayed : (fences : Bool) → Translation → List Event → (status : ℕ) → (output : List ℕ) → Type 0
IsPlayed false c events status output = IsRunBy c events status output
IsPlayed true c events status output = IsFencedRun c events status output

-- a script that begins at a place of an input
pub record PlacedScript : Type 0 where
  pub lines : List Line
  pub input : List ℕ
  pub begins : ℕ

-- What it is answered: the refusal of the first line by which there are more than 4,000,000 events, or which is a start by which no life may begin, exactly
-- where there is one; else what is to be said of its events.
pub data ScriptAnswer (c : Translation) (Says : List Event → (status : ℕ) → (output : List ℕ) → Type 0) (script : PlacedScript) (status : ℕ)
    (output : List ℕ) : Type 0 where
  faulty : (fault : PlayFault) →
      play_fault living (length c.runs.program) (beginning c) MOST_EVENTS script.lines ≡ Some fault →
      IsRefusedAt 6 (play_fault_code fault) script.input (script.begins + play_fault_place fault) status output →
      ScriptAnswer c Says script status output
  ran : play_fault living (length c.runs.program) (beginning c) MOST_EVENTS script.lines ≡ None → length (events_by c script.lines) ≤ MOST_EVENTS →
      Says (events_by c script.lines) status output → ScriptAnswer c Says script status output
