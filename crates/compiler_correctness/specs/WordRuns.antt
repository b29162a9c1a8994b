-- A machine that begins with an image's words, whoever left them, and runs on.
use Rattle.std.specs.Prelude.{◌≡◌, ◌≢◌, ℕ, List, [], ◌∷◌, ◌++◌, true}
use Rattle.machine_events.specs.declared.event.Event.{Event}
use Rattle.machine_events.specs.declared.event.Event.TheVariants.{Step}
use Rattle.machine_events.specs.declared.event.Reply.TheVariants.{Moved, Stuck}
use Rattle.machine_events.specs.declared.event.Cause.{Cause}
use Rattle.c_tree.specs.Source.{State, is_between}
use Rattle.source_machine.specs.Lives.{after_lives, runs_lives}
use Rattle.machine_model.specs.declared.phase.Phase.TheVariants.{Take}
use Rattle.machine_model.specs.Machine.{is_settled, reply_to}
use Rattle.machine_model.specs.Schedule.{LifeSchedules, all_lives, kept_lives}
use Rattle.hart_runs.specs.Calls.{IsInPhase}
use Rattle.variable_words.specs.Variables.{durable_variables}
use Rattle.compiler_correctness.specs.Translations.{Translation}
use Rattle.compiler_correctness.specs.Images.{Image, world_from, steps_from}
use Rattle.compiler_correctness.specs.Delays.{AreDelaysBounded}

-- schedules of lives behind those that were kept before: the first of these lives goes on with the last of those
abbrev pub behind : LifeSchedules → (earlier : List (List ℕ)) → (schedule : List ℕ) → LifeSchedules
behind before [] schedule = record { earlier = before.earlier; schedule = before.schedule ++ schedule }
behind before (first ∷ rest) schedule = record { earlier = before.earlier ++ (before.schedule ++ first) ∷ rest; schedule = schedule }

module _ (c : Translation) (image : Image) where
  -- whatever happens, no hart is ever stuck, none that takes its locks in recovery waits for one, and delays are bounded while power stays on
  pub record RunsOn : Type 0 where
    pub never_stuck : (events : List Event) (h : ℕ) (cause : Cause) → reply_to c.runs.program (world_from c image events) (Step h) ≢ Stuck cause
    pub takes : (events : List Event) (h : ℕ) → IsInPhase (world_from c image events) h Take →
        reply_to c.runs.program (world_from c image events) (Step h) ≡ Moved
    pub delays : (events : List Event) → AreDelaysBounded c (world_from c image events)

  -- the source, from a state on, can be stepped by all steps that are kept since, life by life; and where all harts stand between sections, so do all
  -- threads after these, and the durable variables are theirs
  pub record SettlesFrom (from : State) (events : List Event) : Type 0 where
    pub since : LifeSchedules
    pub kept : kept_lives (steps_from c image events) ≡ behind image.kept since.earlier since.schedule
    pub runs : runs_lives c.flat from (all_lives since) ≡ true
    pub between : is_settled (world_from c image events) ≡ true → (thread : ℕ) → is_between (after_lives c.flat from (all_lives since)) thread ≡ true
    pub variables : is_settled (world_from c image events) ≡ true →
        durable_variables (world_from c image events).words c.flat.variables ≡ (after_lives c.flat from (all_lives since)).variables
