use Rattle.std.proofs.Common.{◌≡◌, ◌++◌, length, flat_map}
use Rattle.run_scripts.specs.Journals.{command_text, commands_of}
use Rattle.run_scripts.proofs.journal.put_events.Given as goal

abbrev pub invariant-loop-rest : goal.invariant-loop-rest
invariant-loop-rest l =
    l.text.items ++ flat_map command_text (commands_of l.rest) ≡ l.initial.text.items ++ flat_map command_text (commands_of l.events)

abbrev pub decreases-loop-rest : goal.decreases-loop-rest
decreases-loop-rest l = length l.rest
