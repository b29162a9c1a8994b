use Rattle.std.proofs.Common.{rules, true, ap, sym, ◌∙◌, refl, subst, ◌≡◌, Some, [], ℕ, List, Option}
use Rattle.machine_events.specs.declared.event.Event.{Event}
use Rattle.machine_events.specs.Cores.{IsValid}
use Rattle.hart_board.specs.declared.core_turn.Ahead.{Ahead}
use Rattle.hart_board.specs.CoreTurns.{Adopts, HasComeTo, RunsIn, RunsOn, count_made, made_entry}
use Rattle.hart_board.specs.declared.core_turn.Quota.{Quota}
use Rattle.hart_board.specs.declared.views.Known.{Known}
use Rattle.hart_board.specs.declared.views.Terms.{Terms}
use Rattle.hart_board.specs.declared.seat.TryTurn.{TryTurn}
use Rattle.hart_board.specs.Journals.{IsOwn, events_of}
use Rattle.hart_board.specs.BoardRule.{play_of, IsPlayOf, with_seen, with_turn}
use Rattle.hart_board.specs.Seats.{BeginsAgain, IsInReach, RanAhead, TryAhead, TryTells, rules_of}
use Rattle.hart_board.proofs.TriedTurns.{turns_in, waits_at, took_at, seen_is}
use Rattle.hart_board.proofs.StepsAhead.{try_ahead}
use Rattle.hart_board.proofs.board.Board.attempt.Goals as goal

pub look-serving-requires-clause-waits : goal.look-serving-requires-clause-waits
look-serving-requires-clause-waits g c κs lives = let h = c.requires.seat.seat in let x = c.ticket_of-ticket.ensures.represents h.known h.represents in
    (x.0, x.1, ap (λ m. m.0) x.2.me, ap (λ (z : Known g.row.C.Denot). z.ticket) x.3, x.2.out)

pub returns-then-serving-ticket : goal.returns-then-serving-ticket
returns-then-serving-ticket g c =
    let h = c.requires.seat.seat in
    let x = c.ticket_of-ticket.ensures.represents h.known h.represents in
    let ticket : x.0.ticket ≡ Some x.1 = ap (λ (z : Known g.row.C.Denot). z.ticket) x.3 in
    let o = c.look-serving.ensures.looked x.0 x.1 (ap (λ m. m.0) x.2.me) ticket x.2.out in
    let other = o.3 (λ e. c.if-serving-ticket.true (e ∙ sym x.4)) in
    let was = c.ticket_of-ticket.new.seat in
    let kept = c.ticket_of-ticket.ensures.kept in
    let same = c.ticket_of-ticket.ensures.same in
    let all = waits_at g.C.Core.behaviour g.C.Core.opening g.C.Core.history g.C.Core.hart_count g.C.Core.space
    (RunsIn g.C.Core.opening g.C.Core.hart_count g.C.Core.is_local g.C.Core.ahead_by) c.args.self.now c.args.seat.now was
    record {
      place = c.look-serving.new.place;
      number = was.number;
      turns = was.turns;
      ceiling = was.ceiling;
      made = was.made;
      ticket = was.ticket;
      local = c.run_ahead.new.ahead;
    }
    c.ticket_of-ticket.result c.look-serving.result c.requires.seat x.0 x.1 o.0 x.2 x.3 x.4 same.0 same.1 kept.0 kept.1 o.1 o.2 c.if-serving-ticket.true other.0
    other.1 c.look-serving.ensures.same.0
    refl refl refl refl refl
    (c.run_ahead.ensures.ahead c.args.self.now.table.shared.key.opening.value was.number
    (subst (λ (z : ℕ × Option (Ahead g.row.C-Local.Denot)).
    RunsIn g.C.Core.opening g.C.Core.hart_count g.C.Core.is_local g.C.Core.ahead_by c.args.self.now.table.shared.key.opening.value z.0 z.1)
    (λ i. (sym same.1 i, sym same.2 i)) c.requires.seat.ahead)) in
    let ran : RanAhead g.C.Core.history g.C.Core.is_at_beginning g.C.Core.goes_ahead c.args.most c.args.seat.now c.run_ahead.new.ahead = record {
      on =
          subst (λ (z : ℕ × Option (Ahead g.row.C-Local.Denot)). RunsOn g.C.Core.is_at_beginning z.0 z.1 c.run_ahead.new.ahead)
          (λ i. (c.min-limit.ensures i, same.2 i)) c.run_ahead.ensures.on;
      far = subst (λ (z : ℕ). HasComeTo g.C.Core.goes_ahead z c.run_ahead.new.ahead) c.min-limit.ensures c.run_ahead.ensures.far;
    } in
    record { seat = all.0; turn = all.1; ahead = (ran, c.ticket_of-ticket.ensures.quota) }

pub serve-requires-clause-turn : goal.serve-requires-clause-turn
serve-requires-clause-turn g c κs lives =
    let h = c.requires.seat.seat in
    let play = play_of g.C.Core.behaviour g.C.Core.opening g.C.Core.history g.C.Core.hart_count in
    let is_play = IsPlayOf g.C.Core.opening g.C.Core.history g.C.Core.hart_count g.C.Core.space g.C.Core.evictable in
    let x = c.ticket_of-ticket.ensures.represents h.known h.represents in
    let ticket : x.0.ticket ≡ Some x.1 = ap (λ (z : Known g.row.C.Denot). z.ticket) x.3 in
    let o = c.look-serving.ensures.looked x.0 x.1 (ap (λ m. m.0) x.2.me) ticket x.2.out in
    let mine = o.4 (search rules ∙ x.4) in
    let was = c.ticket_of-ticket.new.seat in
    let terms = sym (ap (λ (z : Known g.row.C.Denot). z.terms) x.3 ∙ h.terms_are) in (
      with_seen x.0 o.0 true,
      mine.1.0,
      turns_in play is_play was record {
        place = c.look-serving.new.place;
        number = was.number;
        turns = was.turns;
        ceiling = was.ceiling;
        made = was.made;
        ticket = was.ticket;
        local = c.run_ahead.new.ahead;
      }
          h.known x.0 x.1 o.0 mine.1.0 x.2 x.3 o.1 mine.1.1 mine.1.2 mine.0 refl refl refl refl,
      subst (λ (z : Terms g.row.C.Denot). IsInReach g.C.Core.history g.C.Core.space z) terms c.requires.seat.reach,
      subst (λ (z : Terms g.row.C.Denot × ℕ). IsOwn (g.C.Core.hart_count z.0.opening.value) z.1 c.args.event)
          (λ i. (terms i, sym c.ticket_of-ticket.ensures.same.1 i)) c.requires.own,
      subst (λ (z : Terms g.row.C.Denot). IsValid (g.C.Core.hart_count z.opening.value) (g.C.Core.evictable z.opening.value) c.args.event) terms
          c.requires.valid,
      c.run_ahead.ensures.ahead x.0.terms.opening.value was.number (subst (λ (z : Terms g.row.C.Denot × (ℕ × Option (Ahead g.row.C-Local.Denot))).
          RunsIn g.C.Core.opening g.C.Core.hart_count g.C.Core.is_local g.C.Core.ahead_by z.0.opening.value z.1.0 z.1.1)
          (λ i. (terms i, (sym c.ticket_of-ticket.ensures.same.1 i, sym c.ticket_of-ticket.ensures.same.2 i))) c.requires.seat.ahead),
    )

pub returns : goal.returns
returns g c =
    let h = c.requires.seat.seat in
    let play = play_of g.C.Core.behaviour g.C.Core.opening g.C.Core.history g.C.Core.hart_count in
    let is_play = IsPlayOf g.C.Core.opening g.C.Core.history g.C.Core.hart_count g.C.Core.space g.C.Core.evictable in
    let x = c.ticket_of-ticket.ensures.represents h.known h.represents in
    let ticket : x.0.ticket ≡ Some x.1 = ap (λ (z : Known g.row.C.Denot). z.ticket) x.3 in
    let o = c.look-serving.ensures.looked x.0 x.1 (ap (λ m. m.0) x.2.me) ticket x.2.out in
    let mine = o.4 (search rules ∙ x.4) in
    let was = c.ticket_of-ticket.new.seat in
    let same = c.ticket_of-ticket.ensures.same in
    let turn = turns_in play is_play was record {
      place = c.look-serving.new.place;
      number = was.number;
      turns = was.turns;
      ceiling = was.ceiling;
      made = was.made;
      ticket = was.ticket;
      local = c.run_ahead.new.ahead;
    }
    h.known x.0 x.1 o.0 mine.1.0 x.2 x.3 o.1 mine.1.1 mine.1.2 mine.0 refl refl refl refl in
    let e = c.serve.ensures.turn (with_seen x.0 o.0 true) mine.1.0 turn in
    let all = took_at g.C.Core.behaviour g.C.Core.opening g.C.Core.history g.C.Core.hart_count g.C.Core.space
    (RunsIn g.C.Core.opening g.C.Core.hart_count g.C.Core.is_local g.C.Core.ahead_by) c.args.self.now c.args.seat.now was c.serve.new.seat
    c.requires.seat x.0 x.1 o.0
    c.args.event c.args.most c.serve.result x.3 same.0 same.1 o.1 e.0 e.1 e.2 (c.serve.ensures.same.0 ∙ c.look-serving.ensures.same.0) c.serve.ensures.same.1
    (subst (λ (z : Terms g.row.C.Denot × ℕ).
    RunsIn g.C.Core.opening g.C.Core.hart_count g.C.Core.is_local g.C.Core.ahead_by z.0.opening.value z.1 c.serve.new.seat.local)
    (λ i. ((ap (λ (z : Known g.row.C.Denot). z.terms) x.3 ∙ h.terms_are) i, sym c.serve.ensures.same.1 i)) e.3) in
    let ran : RanAhead g.C.Core.history g.C.Core.is_at_beginning g.C.Core.goes_ahead c.args.most c.args.seat.now c.run_ahead.new.ahead = record {
      on =
          subst (λ (z : ℕ × Option (Ahead g.row.C-Local.Denot)). RunsOn g.C.Core.is_at_beginning z.0 z.1 c.run_ahead.new.ahead)
          (λ i. (c.min-limit.ensures i, same.2 i)) c.run_ahead.ensures.on;
      far = subst (λ (z : ℕ). HasComeTo g.C.Core.goes_ahead z c.run_ahead.new.ahead) c.min-limit.ensures c.run_ahead.ensures.far;
    } in
    let terms = ap (λ (z : Known g.row.C.Denot). z.terms) x.3 ∙ h.terms_are in
    let play_at : Terms g.row.C.Denot → List Event → g.row.C.Denot → Type 0 =
    IsPlayOf g.C.Core.opening g.C.Core.history g.C.Core.hart_count g.C.Core.space g.C.Core.evictable in
    record {
      seat = all.0;
      ahead =
          subst (λ (z : TryTurn). TryAhead g.C.Core.history g.C.Core.is_at_beginning g.C.Core.goes_ahead
          (play_at c.args.self.now.table.shared.key) c.args.most z c.args.seat.now c.serve.new.seat) (sym c.answer_of.ensures)
          (try_ahead g.C.Core.history g.C.Core.is_at_beginning g.C.Core.goes_ahead (play_at c.args.self.now.table.shared.key) c.args.most c.serve.result
          c.args.seat.now c.serve.new.seat record {
            before = o.0;
            last = made_entry was.number c.args.event c.serve.result;
            seen_is = seen_is c.serve.new.seat (with_turn (with_seen x.0 o.0 true) (made_entry was.number c.args.event c.serve.result)) [] e.1.me;
            core = mine.1.0;
            plays = subst (λ (z : Terms g.row.C.Denot). play_at z (events_of o.0) mine.1.0) terms mine.1.2;
            ahead = c.run_ahead.new.ahead;
            ran = ran;
            adopts =
                subst (λ (q : Quota). Adopts g.C.Core.history g.C.Core.is_at_beginning mine.1.0 q c.args.most c.run_ahead.new.ahead (count_made c.serve.result))
                c.ticket_of-ticket.ensures.quota e.4;
            again = subst (λ (z : Terms g.row.C.Denot). BeginsAgain (play_at z) g.C.Core.is_at_beginning c.serve.new.seat) terms e.5;
          });
      turn =
          subst (λ (z : TryTurn). TryTells (rules_of g.C.Core.behaviour g.C.Core.opening g.C.Core.history g.C.Core.hart_count c.args.self.now) c.args.event
          c.args.most z c.args.seat.now c.serve.new.seat) (sym c.answer_of.ensures) all.1;
    }
