use Rattle.std.proofs.Common.{◌≡◌, arith}
use Rattle.std.specs.Prelude.{true}
use Rattle.region_checker.proofs.FoundConflicts.{exposed_at_is}
use Rattle.region_checker.proofs.conflicts.exposes_at.Goals as goal

pub returns : goal.returns
returns c b r =
    let over : c.is_over.result ≡ true = grind (arith) in
    exposed_at_is c.args.graph.now b c.args.read c.args.store c.args.location c.in_ok-marks.marks.items c.index.result.now (c.in_ok-marks.ensures.unwritten b r)
    c.requires.exists c.index.ensures (c.is_over.ensures.0 over)
