use Rattle.region_cutter.specs.links.NodeMarks.{AreNone}
use Rattle.region_cutter.proofs.marks.no_sources.Given as goal

abbrev pub invariant-loop : goal.invariant-loop
invariant-loop l = AreNone l.counter l.sources.items
