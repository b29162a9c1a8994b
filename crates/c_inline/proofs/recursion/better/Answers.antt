use Rattle.std.proofs.Common.{inr, refl, arith}
use Rattle.c_inline.specs.links.Calls.{lists_of}
use Rattle.c_inline.proofs.Ranks.{never_back}
use Rattle.c_inline.proofs.recursion.better.Goals as goal

pub returns-then-rank_of : goal.returns-then-rank_of
returns-then-rank_of c =
    inr (
      refl,
      λ lead. absurd (never_back (lists_of c.args.calls.now) c.args.ranks.now c.requires.ranks c.args.number c.args.call.function
          (omega (arith, c.if-rank_of.true, c.rank_of.ensures, c.rank_of-2.ensures)) lead),
    )
