-- Two lists of steps of one life without a crash that differ in evictions alone, of a compiled program: by both it is settled, or by none.
use Rattle.std.specs.Prelude.{◌≡◌, ℕ, ◌<◌, List, ◌++◌, length, true}
use Rattle.machine_events.specs.declared.event.Event.{Event}
use Rattle.machine_model.specs.Machine.{is_settled}
use Rattle.eviction_laws.specs.Evictions.{NoneEnters, DifferInEvictions}
use Rattle.variable_words.specs.Variables.{live_variables, durable_variables}
use Rattle.crash_simulation.specs.Systems.{System, IsSystem}
use Rattle.compiler_correctness.specs.Translations.{Translation, world}
use Rattle.compiler_correctness.specs.Compilation.{sections_kept}
use Rattle.compiler_correctness.specs.Laws.{translation_of}

-- after the one list it is settled exactly where it is after the other, and then it has the same variables, durably, and of each thread as many ended
-- sections
pub record AreSettledAlike (c : Translation) (one other : List Event) : Type 0 where
  pub settled : is_settled (world c other) ≡ is_settled (world c one)
  pub variables : is_settled (world c one) ≡ true →
      durable_variables (world c other).words c.flat.variables ≡ durable_variables (world c one).words c.flat.variables
  pub sections : is_settled (world c one) ≡ true → (h : ℕ) → h < length c.runs.program → sections_kept c other h ≡ sections_kept c one h

-- where it is settled, all of its variables is durable
abbrev pub SettledIsDurable : Type 0
SettledIsDurable = (y : System) → IsSystem y → (events : List Event) → is_settled (world (translation_of y) events) ≡ true →
    durable_variables (world (translation_of y) events).words (translation_of y).flat.variables
    ≡ live_variables (world (translation_of y) events).words (translation_of y).flat.variables

-- whatever has happened before, if no hart enters recovery then
abbrev pub EvictionsSettleAlike : Type 0
EvictionsSettleAlike = (y : System) → IsSystem y → (before one other : List Event) → NoneEnters (world (translation_of y) before) →
    DifferInEvictions one other → AreSettledAlike (translation_of y) (before ++ one) (before ++ other)
