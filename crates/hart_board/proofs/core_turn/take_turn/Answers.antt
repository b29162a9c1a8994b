use Rattle.std.proofs.Common.{sym, subst, ℕ}
use Rattle.hart_board.specs.CoreTurns.{RunsAhead}
use Rattle.hart_board.proofs.core_turn.take_turn.Goals as goal

pub begin_again-requires : goal.begin_again-requires
begin_again-requires g c = let p = c.make_events-made.ensures.played in (
  c.type_bounds.send-C-Local,
  subst (λ (z : g.C.Core.Meaning × ℕ). RunsAhead g.C.Core.is_local g.C.Core.ahead_by z.0 z.1 c.args.quota.seat c.args.ahead.now)
      (λ i. (sym p.opens i, sym p.harts i)) c.requires.ahead,
)

pub returns-clause-ahead : goal.returns-clause-ahead
returns-clause-ahead g c = let p = c.make_events-made.ensures.played in
    subst (λ (z : g.C.Core.Meaning × ℕ). RunsAhead g.C.Core.is_local g.C.Core.ahead_by z.0 z.1 c.args.quota.seat c.begin_again.new.ahead)
    (λ i. (p.opens i, p.harts i)) c.begin_again.ensures.ahead
