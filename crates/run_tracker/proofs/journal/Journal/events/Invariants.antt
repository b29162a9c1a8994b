use Rattle.std.proofs.Common.{◌≡◌, flat_map, take}
use Rattle.run_tracker.specs.links.Journals.{events_in}
use Rattle.run_tracker.proofs.journal.Journal.events.Given as goal

abbrev pub invariant-loop-entry : goal.invariant-loop-entry
invariant-loop-entry l = l.events.items ≡ flat_map events_in (take l.entry-index l.self-inside.entries.items)
