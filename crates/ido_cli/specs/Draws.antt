-- What is said of a drawn run of a compiled source, and of a source that is made of numbers.
use Rattle.std.specs.Prelude.{◌≡◌, ℕ, ◌+◌, ◌-◌, ◌/◌, List, length}
use Rattle.machine_events.specs.declared.event.Event.{Event}
use Rattle.ido_base.specs.declared.limits.TheConstants.{LINE_BYTES}
use Rattle.compiler_correctness.specs.Translations.{Translation}
use Rattle.run_scripts.specs.Draws.{drawn_run}
use Rattle.run_scripts.specs.GeneratedSources.{generated_source}

-- how many lines the variables of a translation take
abbrev pub variable_lines : Translation → ℕ
variable_lines c = (length c.runs.initial + (LINE_BYTES - 1)) / LINE_BYTES

-- the events that a seed draws, with crashes after some of the draws
abbrev pub drawn_by : Translation → (seed turns : ℕ) → (crashes : List ℕ) → List Event
drawn_by c seed turns crashes = drawn_run seed turns crashes c.runs.log (length c.flat.threads) (variable_lines c)

-- status 0, and the source of a seed, whose threads make so many rounds
pub record IsGenerated (rounds seed status : ℕ) (output : List ℕ) : Type 0 where
  pub status_is : status ≡ 0
  pub output_is : output ≡ generated_source rounds seed
