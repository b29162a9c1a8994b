use Rattle.std.proofs.Common.{ap, ◌∙◌, List, map}
use Rattle.std.proofs.lemmas.List.Elements.{All-weaker}
use Rattle.hart_board.specs.CoreTurns.{RunsIn}
use Rattle.hart_board.specs.declared.seat.Seat.{Seat}
use Rattle.hart_board.specs.BoardRule.{Has}
use Rattle.hart_board.specs.Seats.{IsSeatAt, IsSeatOf}
use Rattle.hart_board.specs.links.Gathered.{Knows}
use Rattle.hart_board.proofs.Gathering.{whole, has_all, both}
use Rattle.hart_board.proofs.board.Board.into_core.Goals as goal

pub gather-place-requires-clause-seats : goal.gather-place-requires-clause-seats
gather-place-requires-clause-seats g c κs within = let board = c.args.self in
    All-weaker (IsSeatOf g.C.Core.history g.C.Core.space (RunsIn g.C.Core.opening g.C.Core.hart_count g.C.Core.is_local g.C.Core.ahead_by) board)
    (IsSeatAt board.table.shared.table_id board.table.shared.key) (λ s h. h.seat) c.args.seats.items c.requires.seats

pub close-requires-clause-all : goal.close-requires-clause-all
close-requires-clause-all g c κs within = let k = c.gather-place.ensures.knows in (
  k.0,
  ap (λ m. m.0) k.1.me,
  k.1.out,
  λ n inside. has_all n k.0.numbers c.args.seats.items
      (both (Knows k.0) (Knows k.0) (λ s. Has s.number k.0.numbers) (λ s x _. x.0) c.args.seats.items k.1.knows k.1.knows) (c.requires.all.each n inside),
)

pub returns : goal.returns
returns g c = let k = c.gather-place.ensures.knows in let board = c.args.self in
    let closed = c.close.ensures k.0 (ap (λ m. m.0) k.1.me) k.1.out
    (λ n inside. has_all n k.0.numbers c.args.seats.items
    (both (Knows k.0) (Knows k.0) (λ s. Has s.number k.0.numbers) (λ s x _. x.0) c.args.seats.items k.1.knows k.1.knows) (c.requires.all.each n inside)) in
    whole g.C.Core.behaviour g.C.Core.opening g.C.Core.history g.C.Core.hart_count g.C.Core.space g.C.Core.evictable
    (RunsIn g.C.Core.opening g.C.Core.hart_count g.C.Core.is_local g.C.Core.ahead_by) board c.args.seats.items c.gather-place.result k.0 c.close.result
    c.count_made.new.counts.items c.requires.seats c.requires.all.once k.1 closed
    (c.count_made.ensures ∙ ap (λ (z : List (Seat g.row.C.Denot g.row.C-Local.Denot)). map (λ (x : Seat g.row.C.Denot g.row.C-Local.Denot). x.made) z)
    c.deref.ensures.value)
