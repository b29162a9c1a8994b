use Rattle.std.proofs.Common.{inr, refl, arith}
use Rattle.run_scripts.proofs.play.play_start.Goals as goal

pub event-requires-clause-valid : goal.event-requires-clause-valid
event-requires-clause-valid g c = inr (refl, c.requires.may (omega (arith, c.room.ensures, c.if-room-floor.false, c.requires.floor)))
