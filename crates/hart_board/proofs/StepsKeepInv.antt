-- Each step at a board keeps its rule.
use Rattle.std.proofs.Common.{◌≡◌, ◌≢◌, ◌⊎◌, ℕ, ◌+◌, ◌%◌, ◌^◌, ◌<◌, ◌≤◌, List, [], ◌∷◌, ◌++◌, length, get_or, set, Bool, true, false, Some, sym, refl, ap}
use Rattle.std.proofs.Common.{◌∙◌, subst, inl, inr, ⊎_elim, arith, length-append, length-set, cond, eq-eqb, get_or-set_other, get_or-set_same, le_refl}
use Rattle.std.proofs.lemmas.List.Elements.{All-nil, All-weaker, All-push}
use Rattle.std.specs.Prelude.{All, nat_lt}
use Rattle.std.proofs.Math.Nat.{mod-add-mod}
use Rattle.std.proofs.lemmas.Bool.Decides.{nat_tests}
use mathlib.Core.Logic.{dite}
use mathlib.Core.Option as maybe
use mathlib.Core.Option.{some, none, some-injective}
use native.Mathlib.Decide.{ℕ_discrete}
use lib.ListN.{get_elem?}
use lib.Seq.{set-get_or}
use mathlib.Core.List.{IsPrefix}
use Rattle.machine_events.specs.declared.event.Event.{Event}
use Rattle.atomic_table.specs.Table.{State, Me, step, keeps, takes, gives, stepped, rest, Allows}
use Rattle.atomic_table.proofs.Lists.{at_set, set_else, one_turn}
use Rattle.hart_board.specs.declared.journal.Entry.{Entry}
use Rattle.hart_board.specs.declared.views.Terms.{Terms}
use Rattle.hart_board.specs.declared.views.Past.{Past}
use Rattle.hart_board.specs.declared.views.Known.{Known}
use Rattle.hart_board.specs.declared.views.View.{View}
use Rattle.hart_board.specs.declared.views.View.TheVariants.{Spent, Seated}
use Rattle.hart_board.specs.Journals.{Play, events_of, entries_by, IsTurn, IsLegal}
use Rattle.hart_board.specs.BoardRule.{times, Has, drawn_in, numbers_in, all_drawn, with_ticket, with_seen, KnownInv, ViewInv}
use Rattle.hart_board.specs.BoardRule.{IsHome, IsAway, BoardInv, IsPast, drew, looked, saw, GoesOn, with_turn, turn_of, passed}
use Rattle.hart_board.proofs.Prefixes.{prefix_self, prefix_more, prefix_trans, prefix_length}
use Rattle.hart_board.proofs.Sums.{sum_set, sum_below, set_at, term_below, terms_below}
use Rattle.hart_board.proofs.Journals.{legal_more, entries_else}

module _ {C : Type 0} where
  -- what a seat knows, where its view is no spent one
  abbrev pub known_or : Known C → View C → Known C
  known_or k Spent = k
  known_or k (Seated l) = l

  abbrev pub is_seated : (k l : Known C) → Seated k ≡ Seated l → k ≡ l
  is_seated k l e = ap (known_or k) e

module _ {C : Type 0} (c : Play) (is_play : List Event → C → Type 0) (terms : Terms C) where
  abbrev St : Type 0
  St = State C (View C)

  abbrev Rule : St → Type 0
  Rule = BoardInv c is_play terms

  -- more tickets are drawn
  pub fits_more : (journal : List Entry) (d e : ℕ) (v : View C) → d ≤ e → ViewInv c is_play terms journal d v → ViewInv c is_play terms journal e v
  fits_more journal d e Spent le f = tt
  fits_more journal d e (Seated k) le f = record {
    terms_are = f.terms_are;
    begins = f.begins;
    own = f.own;
    past = f.past;
    few = f.few;
    waits = λ t is. let w = f.waits t is in (w.0, omega (arith, w.1, le), w.2);
    served = f.served;
    first = f.first;
  }

  -- one seat knows something else, with the same journal
  reseated : (s : St) (r : Rule s) (words : List ℕ) (homes : List (maybe.Option C)) (id : ℕ) (k l : Known C) → get_elem? s.views id ≡ some (Seated k)
      → length words ≡ 2 → get_or words 0 0 ≡ length r.journal % 2 ^ 64 → get_or words 1 0 ≡ (length r.journal + all_drawn (set s.views id (Seated l))) % 2 ^ 64
      → l.numbers ≡ k.numbers → all_drawn s.views ≤ all_drawn (set s.views id (Seated l)) →
      KnownInv c is_play terms r.journal (all_drawn (set s.views id (Seated l))) l
      → ((j t : ℕ) (m : Known C) → j ≢ id → get_elem? s.views j ≡ some (Seated m) → l.ticket ≡ Some t → m.ticket ≢ Some t)
      → (IsHome c is_play terms r.journal record { words = words; homes = homes; views = set s.views id (Seated l) }
      ⊎ IsAway c is_play terms record { words = words; homes = homes; views = set s.views id (Seated l) })
      → Rule record { words = words; homes = homes; views = set s.views id (Seated l) }
  reseated s r words homes id k l at two serving ticket same more fits alone slot = record {
    journal = r.journal;
    legal = r.legal;
    seats = r.seats;
    two = two;
    serving = serving;
    ticket = ticket;
    numbers = λ n. let e = sum_set (λ (v : View C). times n (numbers_in v)) s.views id (Seated k) (Seated l) at in let q = ap (times n) same in
        let b = r.numbers n in omega (arith, e, q) ∙ b;
    count = let e = sum_set (λ (v : View C). length (numbers_in v)) s.views id (Seated k) (Seated l) at in let q = ap length same in let b = r.count in
        omega (arith, e, q) ∙ b;
    few = r.few;
    dealt = (let b = r.dealt in omega (arith, b, more));
    each = λ j v e. ⊎_elim (λ (t : (j ≡ id) × (Seated l ≡ v)). subst (ViewInv c is_play terms r.journal (all_drawn (set s.views id (Seated l)))) t.1 fits)
        (λ (t : (j ≢ id) × (get_elem? s.views j ≡ some v)).
        fits_more r.journal (all_drawn s.views) (all_drawn (set s.views id (Seated l))) v more (r.each j v t.1)) (at_set s.views id j (Seated l) v e);
    apart = λ i j t m n at_i at_j has_i has_j.
        ⊎_elim (λ (a : (i ≡ id) × (Seated l ≡ Seated m)).
        ⊎_elim (λ (b : (j ≡ id) × (Seated l ≡ Seated n)). a.0 ∙ sym b.0)
        (λ (b : (j ≢ id) × (get_elem? s.views j ≡ some (Seated n))).
        absurd (alone j t n b.0 b.1 (ap (λ (z : Known C). z.ticket) (is_seated l m a.1) ∙ has_i) has_j))
        (at_set s.views id j (Seated l) (Seated n) at_j))
        (λ (a : (i ≢ id) × (get_elem? s.views i ≡ some (Seated m))).
        ⊎_elim (λ (b : (j ≡ id) × (Seated l ≡ Seated n)). absurd (alone i t m a.0 a.1 (ap (λ (z : Known C). z.ticket) (is_seated l n b.1) ∙ has_j) has_i))
        (λ (b : (j ≢ id) × (get_elem? s.views j ≡ some (Seated n))). r.apart i j t m n a.1 b.1 has_i has_j)
        (at_set s.views id j (Seated l) (Seated n) at_j))
        (at_set s.views id i (Seated l) (Seated m) at_i);
    slot = slot;
  }

  -- where a seat that is not in its turn stays so, the core is where it was
  slot_stays : (s : St) (journal : List Entry) (words : List ℕ) (id : ℕ) (k l : Known C) → get_elem? s.views id ≡ some (Seated k) → k.in_turn ≡ false →
      l.in_turn ≡ false
      → (IsHome c is_play terms journal s ⊎ IsAway c is_play terms s)
      → (IsHome c is_play terms journal record { words = words; homes = s.homes; views = set s.views id (Seated l) }
      ⊎ IsAway c is_play terms record { words = words; homes = s.homes; views = set s.views id (Seated l) })
  slot_stays s journal words id k l at out still (inl h) = inl (
    h.0,
    λ i m e. ⊎_elim (λ (t : (i ≡ id) × (Seated l ≡ Seated m)). ap (λ (z : Known C). z.in_turn) (sym (is_seated l m t.1)) ∙ still)
        (λ (t : (i ≢ id) × (get_elem? s.views i ≡ some (Seated m))). h.1 i m t.1) (at_set s.views id i (Seated l) (Seated m) e),
  )
  slot_stays s journal words id k l at out still (inr a) =
      inr (
        a.0,
        (
          a.1.0,
          a.1.1,
          set_else s.views id a.1.0 (Seated l)
              (λ e. cc (some-injective (Seated a.1.1) (Seated k) (sym a.1.2 ∙ (ap (get_elem? s.views) e ∙ at)), a.1.3, out)) ∙ a.1.2,
          a.1.3,
        ),
      )

  -- a ticket is drawn
  pub draws : (slots id : ℕ) (me : Me C (View C)) (k : Known C) → me.0 ≡ Seated k → k.drawn < length k.numbers → k.in_turn ≡ false
      → Allows Rule slots id me 1 (λ n. (n + 1) % 2 ^ 64) (drew (step slots 1 1 0 none) me)
  draws slots id me k is some_left out s r wide at small =
      let at' : get_elem? s.views id ≡ some (Seated k) = at ∙ ap some is in
      let t : ℕ = length r.journal + all_drawn s.views in
      let l : Known C = with_ticket k t in
      let f : KnownInv c is_play terms r.journal (all_drawn s.views) k = r.each id (Seated k) at' in
      let one : all_drawn (set s.views id (Seated l)) ≡ all_drawn s.views + 1 =
      (let e = sum_set drawn_in s.views id (Seated k) (Seated l) at' in omega (arith, e)) in
      let word : get_or (set s.words 1 ((get_or s.words 1 0 + 1) % 2 ^ 64)) 1 0 ≡ (length r.journal + all_drawn (set s.views id (Seated l))) % 2 ^ 64 =
      (let two = r.two in get_or-set_same s.words 1 ((get_or s.words 1 0 + 1) % 2 ^ 64) 0 (omega (arith, two)))
      ∙ (ap (λ (z : ℕ). (z + 1) % 2 ^ 64) r.ticket ∙ (mod-add-mod t (2 ^ 64) 1 ∙ ap (λ (z : ℕ). z % 2 ^ 64) (omega (arith, one)))) in (
        Seated l,
        keeps,
        tt,
        reseated s r (set s.words 1 ((get_or s.words 1 0 + 1) % 2 ^ 64)) s.homes id k l at'
            (length-set s.words 1 ((get_or s.words 1 0 + 1) % 2 ^ 64) ∙ r.two)
            (get_or-set_other s.words 1 0 ((get_or s.words 1 0 + 1) % 2 ^ 64) 0 (λ e. omega arith) ∙ r.serving)
            word refl (omega (arith, one))
            record {
              terms_are = f.terms_are;
              begins = f.begins;
              own = f.own;
              past = f.past;
              few = omega (arith, some_left);
              waits = λ u e. let same : t ≡ u = cc e in (omega (arith, same), omega (arith, same, one), omega arith);
              served = λ e. absurd (cc (e, out));
              first = λ u e below. absurd (let same : t ≡ u = cc e in let b = r.dealt in omega (arith, same, below, b));
            }
            (λ j u m other there mine theirs. let w = (r.each j (Seated m) there).waits u theirs in let same : t ≡ u = cc mine in omega (arith, w.1, same))
            (slot_stays s r.journal (set s.words 1 ((get_or s.words 1 0 + 1) % 2 ^ 64)) id k l at' out out r.slot),
        λ k' is'. (
          t,
          ap (λ (z : Known C). (Seated (with_ticket z t), me.1)) (is_seated k k' (sym is ∙ is')),
          r.ticket,
          (let p = prefix_length k.seen r.journal f.begins in let q = ap (λ (z : Known C). length z.seen) (is_seated k k' (sym is ∙ is')) in
              omega (arith, p, q)),
          (let b = r.dealt in let p = ap (λ (z : Terms C). z.seats) f.terms_are in
              let q = ap (λ (z : Known C). z.terms.seats) (is_seated k k' (sym is ∙ is')) in omega (arith, b, p, q)),
        ),
      )

  -- fewer tickets are drawn than there are seats
  few_drawn : (s : St) (r : Rule s) → all_drawn s.views < 2 ^ 32
  few_drawn s r = let b = sum_below drawn_in (λ (v : View C). length (numbers_in v)) s.views (λ j v e. few_in v (r.each j v e)) in let n = r.count in
      let m = r.few in omega (arith, b, n, m)
    where
      few_in : (v : View C) → ViewInv c is_play terms r.journal (all_drawn s.views) v → drawn_in v ≤ length (numbers_in v)
      few_in Spent f = le_refl 0
      few_in (Seated k) f = f.few

  -- what was known of a journal is so of a longer one, if it has no turn more of these numbers
  past_stays : (journal after : List Entry) (numbers : List ℕ) (os : List Past) → IsPrefix journal after →
      ((n : ℕ) → Has n numbers → entries_by n after ≡ entries_by n journal) → All (IsPast journal numbers) os → All (IsPast after numbers) os
  past_stays journal after numbers os goes same each = All-weaker (IsPast journal numbers) (IsPast after numbers)
      (λ o h. record { begins = prefix_trans o.seen journal after h.begins goes; own = λ n has. let w = h.own n has in (w.0, same n w.0 ∙ w.1) }) os each

  -- a seat that has seen all turns fits
  fits_seen : (journal : List Entry) (d : ℕ) (k : Known C) (b : Bool) → KnownInv c is_play terms journal d k → (b ≡ true → k.ticket ≡ Some (length journal)) →
      KnownInv c is_play terms journal d (with_seen k journal b)
  fits_seen journal d k b f mine = record {
    terms_are = f.terms_are;
    begins = prefix_self journal;
    own = λ n has. refl;
    past = All-nil _;
    few = f.few;
    waits = f.waits;
    served = λ e. (mine e, refl);
    first = f.first;
  }

  -- the core is at home where a seat that isn't in its turn has the next ticket
  at_home : (s : St) (r : Rule s) (id : ℕ) (k : Known C) → get_elem? s.views id ≡ some (Seated k) → k.ticket ≡ Some (length r.journal) → k.in_turn ≡ false
      → (core : C) × (s.homes ≡ some core ∷ []) × is_play (events_of r.journal) core
  at_home s r id k at has out = ⊎_elim (λ (h : IsHome c is_play terms r.journal s). h.0)
      (λ (a : IsAway c is_play terms s). let i = a.1.0 in let l = a.1.1 in let there = a.1.2 in let turn = a.1.3 in
      let f : KnownInv c is_play terms r.journal (all_drawn s.views) l = r.each i (Seated l) there in
      let same : i ≡ id = r.apart i id (length r.journal) l k there at ((f.served turn).0) has in
      absurd (cc (some-injective (Seated l) (Seated k) (sym there ∙ (ap (get_elem? s.views) same ∙ at)), turn, out)))
      r.slot

module _ {C : Type 0} (c : Terms C → Play) (is_play : Terms C → List Event → C → Type 0) (terms : Terms C) where
  abbrev RuleAt : State C (View C) → Type 0
  RuleAt = BoardInv (c terms) (is_play terms) terms

  goes_on : (journal : List Entry) (d : ℕ) (k : Known C) → IsLegal (c terms) terms.turns terms.ceiling journal →
      KnownInv (c terms) (is_play terms) terms journal d k → GoesOn c k journal
  goes_on journal d k legal f = record {
    begins = f.begins;
    legal = subst (λ (z : Terms C). IsLegal (c z) z.turns z.ceiling journal) (sym f.terms_are) legal;
    own = f.own;
    past = f.past;
  }

  -- what a look tells a seat with this ticket
  abbrev Told : Me C (View C) → ℕ → Me C (View C) → Known C × ℕ → Type 0
  Told m found m' z = (seen : List Entry) × GoesOn c z.0 seen × (found ≡ length seen % 2 ^ 64)
      × (found ≢ z.1 % 2 ^ 64 → (length seen < z.1) × (m' ≡ (Seated (with_seen z.0 seen false), m.1)))
      × (found ≡ z.1 % 2 ^ 64 → (length seen ≡ z.1)
      × ((core : C) × (m' ≡ (Seated (with_seen z.0 seen true), (0, core) ∷ m.1)) × is_play z.0.terms (events_of seen) core))

  told : (slots word id : ℕ) (m : Me C (View C)) (found : ℕ) (m' : Me C (View C)) (k : Known C) (t : ℕ) → m.0 ≡ Seated k → k.ticket ≡ Some t →
      Told m found m' (k, t) → looked c is_play (step slots word 0 0 none) m found m'
  told slots word id m found m' k t is has h l u is' has' out =
      subst (Told m found m') (λ i. (is_seated k l (sym is ∙ is') i, cc-some t u k l (is_seated k l (sym is ∙ is')) has has' i)) h
    where
      cc-some : (t u : ℕ) (k l : Known C) → k ≡ l → k.ticket ≡ Some t → l.ticket ≡ Some u → t ≡ u
      cc-some t u k l e a b = cc (e, a, b)

  -- all turns so far are seen, and the core is taken where the ticket is the next one
  pub looks : (slots id : ℕ) (me : Me C (View C)) (k : Known C) (t : ℕ) → me.0 ≡ Seated k → k.ticket ≡ Some t → k.in_turn ≡ false
      → Allows RuleAt slots id me 0 (λ n. n) (looked c is_play (step slots 0 0 0 none) me)
  looks slots id me k t is has out s r wide at small =
      let at' : get_elem? s.views id ≡ some (Seated k) = at ∙ ap some is in
      let f : KnownInv (c terms) (is_play terms) terms r.journal (all_drawn s.views) k = r.each id (Seated k) at' in
      let w = f.waits t has in let few = few_drawn (c terms) (is_play terms) terms s r in
      let seen : GoesOn c k r.journal = goes_on r.journal (all_drawn s.views) k r.legal f in
      let words : set s.words 0 (get_or s.words 0 0) ≡ s.words = set-get_or s.words 0 0 in
      dite (ℕ_discrete (length r.journal) t)
      (λ mine. let mine' : k.ticket ≡ Some (length r.journal) = has ∙ ap Some (sym mine) in
      let home = at_home (c terms) (is_play terms) terms s r id k at' mine' out in let l : Known C = with_seen k r.journal true in
      let one : all_drawn (set s.views id (Seated l)) ≡ all_drawn s.views =
      (let e = sum_set drawn_in s.views id (Seated k) (Seated l) at' in omega (arith, e)) in (
        Seated l,
        takes 0 home.0,
        ap (λ (hs : List (maybe.Option C)). get_elem? hs 0) home.1,
        subst (λ (ws : List ℕ). RuleAt record { words = ws; homes = set s.homes 0 none; views = set s.views id (Seated l) }) (sym words)
            (reseated (c terms) (is_play terms) terms s r s.words (set s.homes 0 none) id k l at' r.two r.serving
            (r.ticket ∙ ap (λ (z : ℕ). (length r.journal + z) % 2 ^ 64) (sym one)) refl (omega (arith, one))
            (subst (λ (z : ℕ). KnownInv (c terms) (is_play terms) terms r.journal z l) (sym one)
            (fits_seen (c terms) (is_play terms) terms r.journal (all_drawn s.views) k true f (λ _. mine')))
            (λ j u m other there a b. let same : j ≡ id = r.apart j id u m k there at' b a in other same)
            (inr (ap (λ (hs : List (maybe.Option C)). set hs 0 none) home.1, (id, l, set_at s.views id (Seated k) (Seated l) at', refl)))),
        told slots 0 id me (get_or s.words 0 0) (Seated l, (0, home.0) ∷ me.1) k t is has (
          r.journal,
          seen,
          r.serving,
          (λ ne. absurd (ne (r.serving ∙ ap (λ (z : ℕ). z % 2 ^ 64) mine))),
          λ _. (mine, (home.0, refl, subst (λ (z : Terms C). is_play z (events_of r.journal) home.0) (sym f.terms_are) home.2)),
        ),
      ))
      (λ not. let l : Known C = with_seen k r.journal false in
      let one : all_drawn (set s.views id (Seated l)) ≡ all_drawn s.views =
      (let e = sum_set drawn_in s.views id (Seated k) (Seated l) at' in omega (arith, e)) in (
        Seated l,
        keeps,
        tt,
        subst (λ (ws : List ℕ). RuleAt record { words = ws; homes = s.homes; views = set s.views id (Seated l) }) (sym words)
            (reseated (c terms) (is_play terms) terms s r s.words s.homes id k l at' r.two r.serving
            (r.ticket ∙ ap (λ (z : ℕ). (length r.journal + z) % 2 ^ 64) (sym one)) refl (omega (arith, one))
            (subst (λ (z : ℕ). KnownInv (c terms) (is_play terms) terms r.journal z l) (sym one)
            (fits_seen (c terms) (is_play terms) terms r.journal (all_drawn s.views) k false f (λ e. absurd (cc e))))
            (λ j u m other there a b. let same : j ≡ id = r.apart j id u m k there at' b a in other same)
            (slot_stays (c terms) (is_play terms) terms s r.journal s.words id k l at' out refl r.slot)),
        told slots 0 id me (get_or s.words 0 0) (Seated l, me.1) k t is has (
          r.journal,
          seen,
          r.serving,
          (λ _. (omega (arith, w.0, not), refl)),
          λ e. absurd (not (one_turn (length r.journal) t (2 ^ 64) w.0 (omega (arith, w.1, few)) (sym r.serving ∙ e))),
        ),
      ))

  -- all turns so far are seen
  pub sees : (slots id : ℕ) (me : Me C (View C)) (k : Known C) → me.0 ≡ Seated k → k.in_turn ≡ false →
      Allows RuleAt slots id me 0 (λ n. n) (saw c (step slots 0 0 0 none) me)
  sees slots id me k is out s r wide at small =
      let at' : get_elem? s.views id ≡ some (Seated k) = at ∙ ap some is in
      let f : KnownInv (c terms) (is_play terms) terms r.journal (all_drawn s.views) k = r.each id (Seated k) at' in
      let l : Known C = with_seen k r.journal false in
      let one : all_drawn (set s.views id (Seated l)) ≡ all_drawn s.views =
      (let e = sum_set drawn_in s.views id (Seated k) (Seated l) at' in omega (arith, e)) in (
        Seated l,
        keeps,
        tt,
        subst (λ (ws : List ℕ). RuleAt record { words = ws; homes = s.homes; views = set s.views id (Seated l) }) (sym (set-get_or s.words 0 0))
            (reseated (c terms) (is_play terms) terms s r s.words s.homes id k l at' r.two r.serving
            (r.ticket ∙ ap (λ (z : ℕ). (length r.journal + z) % 2 ^ 64) (sym one)) refl (omega (arith, one))
            (subst (λ (z : ℕ). KnownInv (c terms) (is_play terms) terms r.journal z l) (sym one)
            (fits_seen (c terms) (is_play terms) terms r.journal (all_drawn s.views) k false f (λ e. absurd (cc e))))
            (λ j u m other there a b. let same : j ≡ id = r.apart j id u m k there at' b a in other same)
            (slot_stays (c terms) (is_play terms) terms s r.journal s.words id k l at' out refl r.slot)),
        λ k' is' out'. subst (λ (z : Known C).
            (seen : List Entry) × GoesOn c z seen × ◌≡◌ {A = Me C (View C)} (Seated l, me.1) (Seated (with_seen z seen false), me.1))
            (is_seated k k' (sym is ∙ is'))
            (r.journal, goes_on r.journal (all_drawn s.views) k r.legal f, refl),
      )

  -- the number of a view is none of another's, and there is a seat of it
  number_apart : (s : State C (View C)) (r : RuleAt s) (id j n m : ℕ) (k l : Known C) → j ≢ id → get_elem? s.views id ≡ some (Seated k) →
      get_elem? s.views j ≡ some (Seated l) → k.numbers ≡ n ∷ [] → Has m l.numbers → n ≢ m
  number_apart s r id j n m k l other at_id at_j mine theirs same =
      let g : View C → ℕ = λ v. times m (numbers_in v) in
      let both = terms_below g s.views id j (Seated k) (Seated l) other at_id at_j in
      let one : times m k.numbers ≡ 1 = ap (times m) mine ∙ one_time n m same in
      let all = r.numbers m in
      let most = at_most_one (nat_lt m terms.seats) in
      omega (arith, both, one, all, most, theirs)
    where
      one_time : (n m : ℕ) → n ≡ m → times m (n ∷ []) ≡ 1
      one_time n m e = simp (eq-eqb n m e) refl

      at_most_one : (b : Bool) → cond b 1 0 ≤ 1
      at_most_one true = le_refl 1
      at_most_one false = omega arith

  number_below : (s : State C (View C)) (r : RuleAt s) (id n : ℕ) (k : Known C) → get_elem? s.views id ≡ some (Seated k) → k.numbers ≡ n ∷ [] → n < terms.seats
  number_below s r id n k at mine =
      let g : View C → ℕ = λ v. times n (numbers_in v) in
      let here = term_below g s.views id (Seated k) at in
      let one : times n k.numbers ≡ 1 = ap (times n) mine ∙ simp (eq-eqb n n refl) refl in
      let all = r.numbers n in
      within (nat_lt n terms.seats) refl (omega (arith, here, one, all))
    where
      within : (b : Bool) → nat_lt n terms.seats ≡ b → 0 < cond b 1 0 → n < terms.seats
      within true is pos = grind (arith, nat_tests)
      within false is pos = absurd (omega arith)

  not_true : (b : Bool) → b ≢ true → b ≡ false
  not_true true n = absurd (n refl)
  not_true false n = refl

  -- a view that had no part in a turn fits after it
  fits_after : (journal : List Entry) (e : Entry) (d d' : ℕ) (v : View C) → d' + 1 ≡ d → ((m : ℕ) → Has m (numbers_in v) → e.seat ≢ m)
      → ((l : Known C) → v ≡ Seated l → l.ticket ≢ Some (length journal)) → ViewInv (c terms) (is_play terms) terms journal d v →
      ViewInv (c terms) (is_play terms) terms (journal ++ e ∷ []) d' v
  fits_after journal e d d' Spent less apart alone f = tt
  fits_after journal e d d' (Seated l) less apart alone f = record {
    terms_are = f.terms_are;
    begins = prefix_more l.seen journal e f.begins;
    own = λ m has. entries_else m journal e (apart m has) ∙ f.own m has;
    past =
        past_stays (c terms) (is_play terms) terms journal (journal ++ e ∷ []) l.numbers l.past (e ∷ [], refl)
        (λ m has. entries_else m journal e (apart m has)) f.past;
    few = f.few;
    waits = λ t has.
        let w = f.waits t has in
        let more = length-append journal (e ∷ []) in
        let not : t ≢ length journal = (λ q. alone l refl (has ∙ ap Some q)) in
        (omega (arith, w.0, not, more), omega (arith, w.1, more, less), w.2);
    served = λ q. absurd (alone l refl (f.served q).0);
    first = f.first;
  }

  apart_of : (s : State C (View C)) (r : RuleAt s) (id j n m : ℕ) (k : Known C) (v : View C) → j ≢ id → get_elem? s.views id ≡ some (Seated k) →
      get_elem? s.views j ≡ some v → k.numbers ≡ n ∷ [] → Has m (numbers_in v) → n ≢ m
  apart_of s r id j n m k Spent other at_id at_j mine theirs = absurd (omega arith)
  apart_of s r id j n m k (Seated l) other at_id at_j mine theirs = number_apart s r id j n m k l other at_id at_j mine theirs

  carried_or : C → List (ℕ × C) → C
  carried_or x [] = x
  carried_or x (y ∷ ys) = y.1

  number_or : ℕ → List ℕ → ℕ
  number_or x [] = x
  number_or x (y ∷ ys) = y

  told_turn : (slots : ℕ) (me : Me C (View C)) (history : C → List Event) (k k' : Known C) (n n' : ℕ) (core core' : C) → me ≡ (Seated k, (0, core) ∷ []) →
      me ≡ (Seated k', (0, core') ∷ [])
      → k.numbers ≡ n ∷ [] → k'.numbers ≡ n' ∷ []
      → ◌≡◌ {A = Me C (View C)} (Seated (with_turn k (turn_of c history k n core)), []) (Seated (with_turn k' (turn_of c history k' n' core')), [])
  unfolding carried_or number_or
  told_turn slots me history k k' n n' core core' is is' mine mine' =
      let views : k ≡ k' = is_seated k k' (ap (λ (m : Me C (View C)). m.0) (sym is ∙ is')) in
      let cores : core ≡ core' = ap (λ (m : Me C (View C)). carried_or core m.1) (sym is ∙ is') in
      let seats : n ≡ n' = ap (number_or n) (sym mine ∙ (ap (λ (z : Known C). z.numbers) views ∙ mine')) in
      λ i. (Seated (with_turn (views i) (turn_of c history (views i) (seats i) (cores i))), [])

  -- a turn is taken, and the core given back
  pub passes : (slots id : ℕ) (me : Me C (View C)) (history : C → List Event) (k : Known C) (n : ℕ) (core : C) → me ≡ (Seated k, (0, core) ∷ []) →
      k.numbers ≡ n ∷ [] → k.in_turn ≡ true
      → IsTurn (c k.terms) k.terms.turns k.terms.ceiling k.seen (turn_of c history k n core) →
      is_play k.terms (events_of (k.seen ++ turn_of c history k n core ∷ [])) core
      → Allows RuleAt slots id me 0 (λ x. (x + 1) % 2 ^ 64) (passed c history (step slots 0 1 0 none) me)
  passes slots id me history k n core is mine turning turn plays s r wide at small =
      let e : Entry = turn_of c history k n core in
      let l : Known C = with_turn k e in
      let at' : get_elem? s.views id ≡ some (Seated k) = at ∙ ap (λ (m : Me C (View C)). some m.0) is in
      let f : KnownInv (c terms) (is_play terms) terms r.journal (all_drawn s.views) k = r.each id (Seated k) at' in
      let seen : k.seen ≡ r.journal = (f.served turning).1 in
      let next : k.ticket ≡ Some (length r.journal) = (f.served turning).0 in
      let w = f.waits (length r.journal) next in
      let more : length (r.journal ++ e ∷ []) ≡ length r.journal + 1 = length-append r.journal (e ∷ []) in
      let one : all_drawn (set s.views id (Seated l)) + 1 ≡ all_drawn s.views =
      (let q = sum_set drawn_in s.views id (Seated k) (Seated l) at' in omega (arith, q, w.2, w.1)) in
      let sum : length (r.journal ++ e ∷ []) + all_drawn (set s.views id (Seated l)) ≡ length r.journal + all_drawn s.views = omega (arith, one, more) in
      let away : IsAway (c terms) (is_play terms) terms s =
      ⊎_elim (λ (h : IsHome (c terms) (is_play terms) terms r.journal s). absurd (cc (h.1 id k at', turning)))
      (λ (a : IsAway (c terms) (is_play terms) terms s). a) r.slot in
      let below : n < terms.seats = number_below s r id n k at' mine in
      let turn' : IsTurn (c terms) terms.turns terms.ceiling r.journal e =
      subst (λ (z : Terms C × List Entry). IsTurn (c z.0) z.0.turns z.0.ceiling z.1 e) (λ i. (f.terms_are i, seen i)) turn in
      let plays' : is_play terms (events_of (r.journal ++ e ∷ [])) core =
      subst (λ (z : Terms C × List Entry). is_play z.0 (events_of (z.1 ++ e ∷ [])) core) (λ i. (f.terms_are i, seen i)) plays in
      let alone : (j : ℕ) (m : Known C) → j ≢ id → get_elem? s.views j ≡ some (Seated m) → m.ticket ≢ Some (length r.journal) =
      (λ j m other there has. other (r.apart j id (length r.journal) m k there at' has next)) in
      let others : (j : ℕ) (v : View C) → j ≢ id → get_elem? s.views j ≡ some v → (m : ℕ) → Has m (numbers_in v) → n ≢ m =
      (λ j v other there m has. apart_of s r id j n m k v other at' there mine has) in
      let ws : List ℕ = set s.words 0 ((get_or s.words 0 0 + 1) % 2 ^ 64) in
      let homes : set s.homes 0 (some core) ≡ some core ∷ [] = ap (λ (hs : List (maybe.Option C)). set hs 0 (some core)) away.0 in
      let after : RuleAt record { words = ws; homes = set s.homes 0 (some core); views = set s.views id (Seated l) } = record {
        journal = r.journal ++ e ∷ [];
        legal = legal_more (c terms) terms.turns terms.ceiling r.journal e r.legal turn';
        seats = All-push (λ (x : Entry). x.seat < terms.seats) r.journal e r.seats below;
        two = length-set s.words 0 ((get_or s.words 0 0 + 1) % 2 ^ 64) ∙ r.two;
        serving = (let two = r.two in get_or-set_same s.words 0 ((get_or s.words 0 0 + 1) % 2 ^ 64) 0 (omega (arith, two)))
            ∙ (ap (λ (z : ℕ). (z + 1) % 2 ^ 64) r.serving ∙ (mod-add-mod (length r.journal) (2 ^ 64) 1 ∙ ap (λ (z : ℕ). z % 2 ^ 64) (sym more)));
        ticket = get_or-set_other s.words 0 1 ((get_or s.words 0 0 + 1) % 2 ^ 64) 0 (λ q. omega arith) ∙ (r.ticket ∙ ap (λ (z : ℕ). z % 2 ^ 64) (sym sum));
        numbers = λ m. let q = sum_set (λ (v : View C). times m (numbers_in v)) s.views id (Seated k) (Seated l) at' in let b = r.numbers m in
            omega (arith, q) ∙ b;
        count = let q = sum_set (λ (v : View C). length (numbers_in v)) s.views id (Seated k) (Seated l) at' in let b = r.count in omega (arith, q) ∙ b;
        few = r.few;
        dealt = (let b = r.dealt in omega (arith, b, sum));
        each =
            λ j v q. ⊎_elim (λ (t : (j ≡ id) × (Seated l ≡ v)).
            subst (ViewInv (c terms) (is_play terms) terms (r.journal ++ e ∷ []) (all_drawn (set s.views id (Seated l)))) t.1 record {
              terms_are = f.terms_are;
              begins = subst (λ (z : List Entry). IsPrefix (k.seen ++ e ∷ []) (z ++ e ∷ [])) seen (prefix_self (k.seen ++ e ∷ []));
              own = λ m has. ap (λ (z : List Entry). entries_by m (z ++ e ∷ [])) (sym seen);
              past = All-nil _;
              few = (let few = f.few in omega (arith, few));
              waits = λ u has. absurd (cc has);
              served = λ q. absurd (cc q);
              first = λ u has below. absurd (cc has);
            })
            (λ (t : (j ≢ id) × (get_elem? s.views j ≡ some v)).
            fits_after r.journal e (all_drawn s.views) (all_drawn (set s.views id (Seated l))) v one (others j v t.0 t.1)
            (λ m q. alone j m t.0 (t.1 ∙ ap some q)) (r.each j v t.1)) (at_set s.views id j (Seated l) v q);
        apart = λ i j t m p at_i at_j has_i has_j.
            ⊎_elim (λ (a : (i ≡ id) × (Seated l ≡ Seated m)). absurd (cc (ap (λ (z : Known C). z.ticket) (is_seated l m a.1) ∙ has_i)))
            (λ (a : (i ≢ id) × (get_elem? s.views i ≡ some (Seated m))).
            ⊎_elim (λ (b : (j ≡ id) × (Seated l ≡ Seated p)). absurd (cc (ap (λ (z : Known C). z.ticket) (is_seated l p b.1) ∙ has_j)))
            (λ (b : (j ≢ id) × (get_elem? s.views j ≡ some (Seated p))). r.apart i j t m p a.1 b.1 has_i has_j)
            (at_set s.views id j (Seated l) (Seated p) at_j))
            (at_set s.views id i (Seated l) (Seated m) at_i);
        slot = inl (
          (core, homes, plays'),
          λ i m q. ⊎_elim (λ (t : (i ≡ id) × (Seated l ≡ Seated m)). ap (λ (z : Known C). z.in_turn) (sym (is_seated l m t.1)))
              (λ (t : (i ≢ id) × (get_elem? s.views i ≡ some (Seated m))). not_true m.in_turn (λ q. alone i m t.0 t.1 ((r.each i (Seated m) t.1).served q).0))
              (at_set s.views id i (Seated l) (Seated m) q),
        );
      } in (
        Seated l,
        gives,
        tt,
        subst (λ (z : List (ℕ × C)). RuleAt (stepped s 0 ((get_or s.words 0 0 + 1) % 2 ^ 64) id z (Seated l) gives))
            (sym (ap (λ (m : Me C (View C)). m.1) is)) after,
        λ k' n' core' is' mine'. ap (λ (m : Me C (View C)). (Seated l, rest m.1)) is ∙ told_turn slots me history k k' n n' core core' is is' mine mine',
      )
