use Rattle.std.proofs.Common.{List, Bool, ◌↔◌, ◌≡◌, true, Some, length, refl, subst}
use Rattle.std.specs.Prelude.{IsTrue, slice_get}
use Rattle.std.proofs.lemmas.Option.{slice_get_read}
use Rattle.region_cutter.proofs.CoveredReads.{flagged_is, flagged_none}
use Rattle.region_cutter.proofs.covered.is_covered.Goals as goal

pub returns-in-Some : goal.returns-in-Some
returns-in-Some c =
    flagged_is c.args.covered.now c.args.read c.in-Some.flags.now c.stands.result
    (slice_get_read c.args.covered.now
    (length c.args.covered.now) c.args.read.node c.in-Some.flags.now refl c.in-Some.ensures.lookup.3.0 c.in-Some.ensures.lookup.1)
    (subst (λ (xs : List Bool). IsTrue c.stands.result ↔ (slice_get xs c.args.read.number ≡ Some true)) c.deref.ensures.value c.stands.ensures)

pub returns-in-None : goal.returns-in-None
returns-in-None c = flagged_none c.args.covered.now c.args.read c.in-None.ensures.lookup.3
