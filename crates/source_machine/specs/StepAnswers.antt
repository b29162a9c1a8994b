-- What the answers of a step say, in every run of a well formed flat form.
use Rattle.std.specs.Prelude.{◌≡◌, ℕ, slice_get, Some}
use Rattle.c_tree.specs.Flats as f
use Rattle.c_tree.specs.Source.{State, Thread}
use Rattle.c_ranges.specs.RunInvariants.{IsStateOf, IsOver, IsAtHeldLock}
use Rattle.source_machine.specs.Runs.{stepped_of}
use Rattle.source_machine.specs.declared.answers.Stepped.TheVariants.{Waits, Ended}

-- `Ended`: the thread's last step is done
abbrev pub EndedIsOver : Type 0
EndedIsOver = (x : f.Flat) (s : State) (thread : ℕ) (it : Thread) → IsStateOf x s → slice_get s.threads thread ≡ Some it → stepped_of s thread ≡ Ended →
    IsOver it

-- `Waits`: it stands at that mutex's lock, and a thread holds the mutex
abbrev pub WaitsIsHeld : Type 0
WaitsIsHeld = (x : f.Flat) (s : State) (thread mutex : ℕ) (it : Thread) → IsStateOf x s → slice_get s.threads thread ≡ Some it →
    stepped_of s thread ≡ Waits mutex → IsAtHeldLock s thread it mutex
