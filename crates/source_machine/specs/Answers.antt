-- What is answered for a step.
use Rattle.std.specs.Prelude.{Option, Some, None}
use Rattle.c_tree.specs.Source as m
use Rattle.source_machine.specs.Mutexes.{lock_ahead}
use Rattle.source_machine.specs.declared.answers.Stepped.{Stepped}
use Rattle.source_machine.specs.declared.answers.Stepped.TheVariants.{Did, Waits, Ended}

-- what is answered for a thread and its step, if there is one
abbrev pub answer_of : m.Thread → (step : Option m.State) → Stepped
answer_of thread (Some next) = Did
answer_of thread None = elim (lock_ahead thread) [
  | Some mutex ↦ Waits mutex
  | None ↦ Ended
]
