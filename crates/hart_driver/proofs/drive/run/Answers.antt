use Rattle.std.proofs.Common.{◌≡◌, ◌∙◌, ◌+◌, sym, subst, ap, refl, arith, length, [], ◌∷◌, ◌++◌, Option, Some, None}
use Rattle.std.specs.Prelude.{All, MatchOption}
use Rattle.std.proofs.lemmas.List.{length-map}
use Rattle.std.proofs.lemmas.List.Elements.{All-push}
use Rattle.hart_board.specs.declared.seat.Seat.{Seat}
use Rattle.hart_board.specs.CoreTurns.{RunsIn}
use Rattle.hart_board.specs.BoardRule.{numbers_from}
use Rattle.hart_board.specs.Seats.{HasSeen, IsSeatOf, ceiling_of, number, numbers_of, opening_core, seats_of, seen, turns_of}
use Rattle.hart_board.proofs.Public.{all_dealt}
use Rattle.hart_driver.specs.links.BoardRuns.{HasRunBoard}
use Rattle.hart_driver.specs.links.Parts.{IsHartSeat}
use Rattle.hart_driver.specs.links.UnderWay.{CanDrive}
use Rattle.hart_driver.proofs.BoardEvents.{All-at, All-first}
use Rattle.hart_driver.proofs.BoardEnds.{board_ends, can_run, evicted, row_length}
use Rattle.hart_driver.proofs.RunSeats.{all_below, last_number, numbers_back, refilled}
use Rattle.hart_driver.proofs.drive.run.Goals as goal

pub run_harts-requires-after_bounds : goal.run_harts-requires-after_bounds
run_harts-requires-after_bounds g c κs within = let board = c.args.board in let value = c.as_mut_slice.ensures.value in
    let runs = RunsIn g.C.Core.opening g.C.Core.hart_count g.C.Core.is_local g.C.Core.ahead_by in
    let harts = g.C.Core.hart_count (opening_core board) in
    let count : seats_of board ≡ harts =
    subst (λ (o : Option g.row.V.Denot). MatchOption o (seats_of board ≡ harts) (λ v. seats_of board ≡ harts + 1)) c.in_default.is c.requires.workers in
    subst (All (IsHartSeat g.C.Core.history g.C.Core.space runs g.C.Core.hart_count board)) (sym value)
    (can_run g.C.Core.history g.C.Core.space runs g.C.Core.hart_count board (seats_of board) c.args.seats.items count c.requires.seats
    (all_below 0 (seats_of board) c.args.seats.items c.requires.numbers))

pub into_core-core-requires-clause-seats : goal.into_core-core-requires-clause-seats
into_core-core-requires-clause-seats g c κs within = let size = c.run_harts.auto.seats in let value = c.as_mut_slice.ensures.value in
    let same = refilled c.args.seats.len c.args.seats.items c.run_harts.new.seats c.args.seats.ok.0 (omega (arith, size, ap length value)) in
    subst (All (IsSeatOf g.C.Core.history g.C.Core.space (RunsIn g.C.Core.opening g.C.Core.hart_count g.C.Core.is_local g.C.Core.ahead_by) c.args.board))
    (sym same)
    c.run_harts.ensures.seats

pub into_core-core-requires-clause-all : goal.into_core-core-requires-clause-all
into_core-core-requires-clause-all g c κs within = let size = c.run_harts.auto.seats in let value = c.as_mut_slice.ensures.value in
    let same = refilled c.args.seats.len c.args.seats.items c.run_harts.new.seats c.args.seats.ok.0 (omega (arith, size, ap length value)) in
    all_dealt c.args.board _ (ap numbers_of same ∙ (c.run_harts.ensures.numbers ∙ (ap numbers_of value ∙ c.requires.numbers)))

pub returns-in_default : goal.returns-in_default
returns-in_default g c = let size = c.run_harts.auto.seats in let value = c.as_mut_slice.ensures.value in let board = c.args.board in
    let harts = g.C.Core.hart_count (opening_core board) in
    let same = refilled c.args.seats.len c.args.seats.items c.run_harts.new.seats c.args.seats.ok.0 (omega (arith, size, ap length value)) in
    let count : seats_of board ≡ harts =
    subst (λ (o : Option g.row.V.Denot). MatchOption o (seats_of board ≡ harts) (λ v. seats_of board ≡ harts + 1)) c.in_default.is c.requires.workers in
    let ends = board_ends g.C.Core.behaviour g.C.Core.opening g.C.Core.history g.C.Core.hart_count g.V.Evictions.coming g.C.Core.space
    g.C.Core.evictable board _ c.into_core-core.result.0 c.into_core-core.result.1.items None None c.requires.some
    (subst (CanDrive g.C.Core.history g.C.Core.space g.C.Core.evictable g.V.Evictions.coming (opening_core board) (ceiling_of board)) c.in_default.is
    c.requires.drives)
    (ap numbers_of same ∙ (c.run_harts.ensures.numbers ∙ (ap numbers_of value ∙ c.requires.numbers))) c.into_core-core.ensures count in
    subst (λ (o : Option g.row.V.Denot).
    HasRunBoard g.C.Core.behaviour g.C.Core.opening g.C.Core.history g.C.Core.hart_count g.V.Evictions.coming g.C.Core.space
    g.C.Core.evictable (opening_core board) (turns_of board) (ceiling_of board) o c.into_core-core.result.0 c.into_core-core.result.1.items None)
    (sym c.in_default.is) ends

pub unreachable-requires : goal.unreachable-requires
unreachable-requires g c = let some = c.args.board.some in
    let size = row_length c.args.seats.items (seats_of c.args.board) c.requires.numbers in
    let none : c.args.seats.items ≡ c.pop.new.self.items ++ [] = c.in_default-pop.ensures.items in
    let gone = c.in_default-pop.ensures.cases in let long = c.args.seats.ok.0 in omega (arith, some, size, gone.0, long)

pub run_all-seats-requires-clause-parts : goal.run_all-seats-requires-clause-parts
run_all-seats-requires-clause-parts g c κs within = let board = c.args.board in
    let runs = RunsIn g.C.Core.opening g.C.Core.hart_count g.C.Core.is_local g.C.Core.ahead_by in
    let harts = g.C.Core.hart_count (opening_core board) in let front = c.pop.new.self.items in let last = c.in-Some-pop.last in
    let items : c.args.seats.items ≡ front ++ last ∷ [] = c.in-Some-pop.ensures.items in
    let count : seats_of board ≡ harts + 1 =
    subst (λ (o : Option g.row.V.Denot). MatchOption o (seats_of board ≡ harts) (λ v. seats_of board ≡ harts + 1)) c.in-Some.is c.requires.workers in
    let numbers = last_number harts front last (ap numbers_of (sym items) ∙ (c.requires.numbers ∙ ap (numbers_from 0) count)) in
    let each = subst (All (λ (s : Seat g.row.C.Denot g.row.C-Local.Denot). IsSeatOf g.C.Core.history g.C.Core.space runs board s × (seen s ≡ []))) items
    c.requires.seats in
    let here = All-at (λ (s : Seat g.row.C.Denot g.row.C-Local.Denot). IsSeatOf g.C.Core.history g.C.Core.space runs board s × (seen s ≡ []))
    front [] last each in (
      can_run g.C.Core.history g.C.Core.space runs g.C.Core.hart_count board harts front refl
          (All-first (λ (s : Seat g.row.C.Denot g.row.C-Local.Denot). IsSeatOf g.C.Core.history g.C.Core.space runs board s × (seen s ≡ [])) front (last ∷ [])
          each)
          (all_below 0 harts front numbers.1),
      (here, (let n = numbers.0 in omega (arith, n)), λ n. c.requires.drives.valid c.in-Some.evict n c.in-Some.is),
    )

pub push_reserved-requires : goal.push_reserved-requires
push_reserved-requires g c = let ran = c.run_all-seats.ensures.0 in let cap = c.pop.ensures.capacity in
    let n = length-map c.run_all-seats.result.0.items number in let m = length-map c.pop.new.self.items number in let same = ap length ran.1 in
    let long = c.run_all-seats.result.0.ok.0 in let short = c.pop.new.self.ok.0 in let less = c.in-Some-pop.ensures.cases in
    let fits = c.args.seats.ok.1 in omega (arith, n, m, same, ran.2, cap, long, short, less, fits)

pub into_core-core-requires-2-clause-seats : goal.into_core-core-requires-2-clause-seats
into_core-core-requires-2-clause-seats g c κs within = let board = c.args.board in
    let runs = RunsIn g.C.Core.opening g.C.Core.hart_count g.C.Core.is_local g.C.Core.ahead_by in let ran = c.run_all-seats.ensures in
    subst (All (IsSeatOf g.C.Core.history g.C.Core.space runs board)) (sym c.push_reserved.ensures.items)
    (All-push (IsSeatOf g.C.Core.history g.C.Core.space runs board) c.run_all-seats.result.0.items c.run_all-seats.result.1 ran.0.0 ran.1.0)

pub into_core-core-requires-2-clause-all : goal.into_core-core-requires-2-clause-all
into_core-core-requires-2-clause-all g c κs within = let board = c.args.board in let harts = g.C.Core.hart_count (opening_core board) in
    let front = c.pop.new.self.items in let last = c.in-Some-pop.last in let ran = c.run_all-seats.ensures in
    let items : c.args.seats.items ≡ front ++ last ∷ [] = c.in-Some-pop.ensures.items in
    let count : seats_of board ≡ harts + 1 =
    subst (λ (o : Option g.row.V.Denot). MatchOption o (seats_of board ≡ harts) (λ v. seats_of board ≡ harts + 1)) c.in-Some.is c.requires.workers in
    let numbers = last_number harts front last (ap numbers_of (sym items) ∙ (c.requires.numbers ∙ ap (numbers_from 0) count)) in
    all_dealt board c.push_reserved.new.self.items (ap numbers_of c.push_reserved.ensures.items
    ∙ (numbers_back harts c.run_all-seats.result.0.items c.run_all-seats.result.1 (ran.1.1 ∙ numbers.0) (ran.0.1 ∙ numbers.1)
    ∙ ap (numbers_from 0) (sym count)))

pub returns : goal.returns
returns g c = let board = c.args.board in let harts = g.C.Core.hart_count (opening_core board) in
    let front = c.pop.new.self.items in let last = c.in-Some-pop.last in let ran = c.run_all-seats.ensures in
    let items : c.args.seats.items ≡ front ++ last ∷ [] = c.in-Some-pop.ensures.items in
    let count : seats_of board ≡ harts + 1 =
    subst (λ (o : Option g.row.V.Denot). MatchOption o (seats_of board ≡ harts) (λ v. seats_of board ≡ harts + 1)) c.in-Some.is c.requires.workers in
    let numbers = last_number harts front last (ap numbers_of (sym items) ∙ (c.requires.numbers ∙ ap (numbers_from 0) count)) in
    let row = ap numbers_of c.push_reserved.ensures.items
    ∙ (numbers_back harts c.run_all-seats.result.0.items c.run_all-seats.result.1 (ran.1.1 ∙ numbers.0) (ran.0.1 ∙ numbers.1)
    ∙ ap (numbers_from 0) (sym count)) in
    let w = c.into_core-core-2.ensures in
    let mine = All-at (HasSeen w.journal) c.run_all-seats.result.0.items [] c.run_all-seats.result.1
    (subst (All (HasSeen w.journal)) c.push_reserved.ensures.items w.seen) in
    let ends = board_ends g.C.Core.behaviour g.C.Core.opening g.C.Core.history g.C.Core.hart_count g.V.Evictions.coming g.C.Core.space
    g.C.Core.evictable board c.push_reserved.new.self.items c.into_core-core-2.result.0 c.into_core-core-2.result.1.items (Some c.in-Some.evict)
    (Some c.run_all-seats.result.2) c.requires.some
    (subst (CanDrive g.C.Core.history g.C.Core.space g.C.Core.evictable g.V.Evictions.coming (opening_core board) (ceiling_of board)) c.in-Some.is
    c.requires.drives)
    row w (evicted g.C.Core.behaviour g.C.Core.opening g.C.Core.history g.C.Core.hart_count g.V.Evictions.coming g.C.Core.space
    g.C.Core.evictable board w.journal c.in-Some.evict c.run_all-seats.result.2 c.run_all-seats.result.1 count (ran.1.1 ∙ numbers.0) mine ran.1.2) in
    subst (λ (o : Option g.row.V.Denot).
    HasRunBoard g.C.Core.behaviour g.C.Core.opening g.C.Core.history g.C.Core.hart_count g.V.Evictions.coming g.C.Core.space
    g.C.Core.evictable (opening_core board) (turns_of board) (ceiling_of board) o c.into_core-core-2.result.0 c.into_core-core-2.result.1.items
    (Some c.run_all-seats.result.2)) (sym c.in-Some.is) ends
