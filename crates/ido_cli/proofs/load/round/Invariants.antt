use Rattle.std.proofs.Common.{◌≡◌, ◌+◌, ◌-◌, length}
use Rattle.run_tracker.specs.ObjectLives.{opening_of}
use Rattle.ido_cli.specs.links.LegRuns.{IsQuiet, LeadsTo}
use Rattle.ido_cli.proofs.load.round.Given as goal

abbrev pub invariant-loop-hart : goal.invariant-loop-hart
invariant-loop-hart l = record {
  opening : opening_of l.life ≡ opening_of l.fn.life;
  room : length l.life.journal + (l.life.cap - length l.life.journal) ≡ length l.fn.life.journal + (l.fn.life.cap - length l.fn.life.journal);
  end : l.hart-end ≡ length l.fn.life.runs.program;
  leads : LeadsTo (opening_of l.fn.life) 0 l.fn.life.journal l.hart l.life.journal;
  quiet : IsQuiet (opening_of l.fn.life) l.fn.life.journal l.hart l.life.journal;
}
