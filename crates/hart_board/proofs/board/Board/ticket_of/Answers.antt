use Rattle.std.proofs.Common.{arith, ◌≡◌, ◌+◌, ap, ◌∙◌, refl, subst, ℕ, Some, None, length}
use Rattle.hart_board.specs.declared.views.View.TheVariants.{Seated}
use Rattle.hart_board.specs.Seats.{HasTicket}
use Rattle.hart_board.proofs.board.Board.ticket_of.Goals as goal

pub draw-ticket-requires-clause-free : goal.draw-ticket-requires-clause-free
draw-ticket-requires-clause-free g c κs lives = let t = c.requires.represents in
    let none : HasTicket None t.0 = subst (λ z. HasTicket z t.0) c.in-None.is t.1.ticket_is in
    let one = ap length t.1.numbers in let zero = none.1 in
    (t.0, ap (λ m. m.0) t.1.me, omega (arith, one, zero), t.1.out)

pub returns-in-Some-clause-represents : goal.returns-in-Some-clause-represents
returns-in-Some-clause-represents g c k s = let h : HasTicket (Some c.in-Some.ticket) k = subst (λ z. HasTicket z k) c.in-Some.is s.ticket_is in
    (k, h.1.0, s, (λ i. record k { drawn = h.0 i; ticket = h.1.1 i }), h.1.2)

pub returns-in-None-clause-represents : goal.returns-in-None-clause-represents
returns-in-None-clause-represents g c k s = let h : HasTicket None k = subst (λ z. HasTicket z k) c.in-None.is s.ticket_is in
    let d = c.draw-ticket.ensures.drew k (ap (λ m. m.0) s.me) in (
      record k { drawn = 1; ticket = Some d.0 },
      d.0,
      record {
        me = d.1 ∙ (λ i. (Seated (record k { drawn = ap (λ (n : ℕ). n + 1) h.1 i; ticket = Some d.0 }), ap (λ m. m.1) s.me i));
        out = s.out;
        numbers = s.numbers;
        turns_are = s.turns_are;
        ceiling_is = s.ceiling_is;
        made_is = s.made_is;
        within = s.within;
        ticket_is = (refl, (d.0, refl, d.2));
        first = λ t has below. absurd (let same : d.0 ≡ t = cc has in let none = d.4 in omega (arith, same, below, none));
      },
      refl,
      d.2,
    )
