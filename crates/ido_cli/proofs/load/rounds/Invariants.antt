use Rattle.std.proofs.Common.{◌≡◌, ◌+◌, ◌-◌, length}
use Rattle.run_tracker.specs.ObjectLives.{opening_of}
use Rattle.ido_cli.specs.links.LegRuns.{LeadsTo}
use Rattle.ido_cli.proofs.load.rounds.Given as goal

abbrev pub invariant-loop : goal.invariant-loop
invariant-loop l = record {
  opening : opening_of l.life ≡ opening_of l.fn.life;
  room : length l.life.journal + (l.life.cap - length l.life.journal) ≡ length l.fn.life.journal + (l.fn.life.cap - length l.fn.life.journal);
  leads : LeadsTo (opening_of l.fn.life) 0 l.fn.life.journal 0 l.life.journal;
}

abbrev pub decreases-loop : goal.decreases-loop
decreases-loop l = 3999000 - length l.life.journal
