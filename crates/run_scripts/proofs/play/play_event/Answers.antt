use Rattle.std.proofs.Common.{inl}
use Rattle.run_scripts.proofs.play.play_event.Goals as goal

pub event-requires-clause-valid : goal.event-requires-clause-valid
event-requires-clause-valid g c = inl c.requires.valid
