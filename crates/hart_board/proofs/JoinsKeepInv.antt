-- Seats are split, meet, and leave.
use Rattle.std.proofs.Common.{◌≡◌, ◌≢◌, ◌⊎◌, ℕ, zero, suc, ◌+◌, ◌%◌, ◌^◌, ◌<◌, ◌≤◌, List, [], ◌∷◌, ◌++◌, length, set, Bool, true, false}
use Rattle.std.proofs.Common.{Some, sym, refl, ap, ◌∙◌, subst, inl, inr, ⊎_elim, arith, length-append, cond, eq-eqb, le_refl}
use Rattle.std.specs.Prelude.{All, nat_lt}
use Rattle.std.proofs.lemmas.List.Elements.{All-nil, All-cons, All-weaker, All-append}
use Rattle.std.proofs.lemmas.Bool.Decides.{nat_tests}
use mathlib.Core.Logic.{dite}
use native.Mathlib.Decide.{ℕ_discrete}
use mathlib.Core.Option.{some, some-injective}
use lib.ListN.{get_elem?}
use mathlib.Core.List.{IsPrefix}
use Rattle.machine_events.specs.declared.event.Event.{Event}
use Rattle.atomic_table.specs.Table.{State, Splits, Joins, Final, Seen}
use Rattle.atomic_table.proofs.Lists.{at_set, set_else, at_snoc, at_longer}
use Rattle.hart_board.specs.declared.journal.Entry.{Entry}
use Rattle.hart_board.specs.declared.views.Terms.{Terms}
use Rattle.hart_board.specs.declared.views.Past.{Past}
use Rattle.hart_board.specs.declared.views.Known.{Known}
use Rattle.hart_board.specs.declared.views.View.{View}
use Rattle.hart_board.specs.declared.views.View.TheVariants.{Spent, Seated}
use Rattle.hart_board.specs.Journals.{Play, events_of, IsLegal}
use Rattle.hart_board.specs.BoardRule.{total, times, Has, numbers_from, dealt, drawn_in, numbers_in, all_drawn}
use Rattle.hart_board.specs.BoardRule.{beside, KnownInv, ViewInv, IsHome, IsAway, BoardInv, IsPast, longer, now_of, met, noted, Closed}
use Rattle.hart_board.proofs.StepsKeepInv.{is_seated}
use Rattle.hart_board.proofs.FirstState.{count_from, first_from, first_has}
use Rattle.hart_board.proofs.Prefixes.{prefix_self, prefix_shorter}
use Rattle.hart_board.proofs.Journals.{entries_between, all_seen}
use Rattle.hart_board.proofs.Sums.{sum_set, sum_more, term_below, terms_below}

-- a place of a list that is set to what it has
set_same : {A : Type 0} (l : List A) (j : ℕ) (v : A) → get_elem? l j ≡ some v → set l j v ≡ l
set_same [] j v e = refl
set_same (x ∷ xs) zero v e = cc (some-injective x v e)
set_same (x ∷ xs) (suc j) v e = ap (λ (ys : List _). x ∷ ys) (set_same xs j v e)

split_times : (m n : ℕ) (ns : List ℕ) → times m ns + times m (n ∷ []) ≡ times m (n ∷ ns)
split_times m n ns = omega arith

module _ {C : Type 0} (c : Play) (is_play : List Event → C → Type 0) (terms : Terms C) where
  abbrev At : State C (View C) → Type 0
  At = BoardInv c is_play terms

  either_way : (b : Bool) (X Y Z : Type 0) → (b ≡ true → X) → (b ≡ false → Y) → (X → Z) → (Y → Z) → Z
  either_way true X Y Z x y f g = f (x refl)
  either_way false X Y Z x y f g = g (y refl)

  inside : (s : State C (View C)) (r : At s) (i t : ℕ) (v : View C) → get_elem? s.views i ≡ some v → Has t (numbers_in v) → t < terms.seats
  inside s r i t v at has =
      let here = term_below (λ (u : View C). times t (numbers_in u)) s.views i v at in let all = r.numbers t in
      within (nat_lt t terms.seats) refl (omega (arith, here, all, has))
    where
      within : (b : Bool) → nat_lt t terms.seats ≡ b → 0 < cond b 1 0 → t < terms.seats
      within true is pos = grind (arith, nat_tests)
      within false is pos = absurd (omega arith)

  -- where each number is one view's, and tickets of the first turns are such numbers, no two views have the same of these tickets
  first_apart : (views : List (View C)) → ((n : ℕ) → total (λ v. times n (numbers_in v)) views ≡ cond (nat_lt n terms.seats) 1 0) →
      (i j t : ℕ) (p q : Known C) → get_elem? views i ≡ some (Seated p) → get_elem? views j ≡ some (Seated q) → Has t p.numbers → Has t q.numbers → i ≡ j
  first_apart views numbers i j t p q at_i at_j mine theirs = dite (ℕ_discrete i j) (λ e. e)
      (λ not. absurd (let both = terms_below (λ (v : View C). times t (numbers_in v)) views j i (Seated q) (Seated p) not at_j at_i in
      let all = numbers t in let most = at_most_one (nat_lt t terms.seats) in omega (arith, both, all, most, mine, theirs)))
    where
      at_most_one : (b : Bool) → cond b 1 0 ≤ 1
      at_most_one true = le_refl 1
      at_most_one false = omega arith

  -- the first number of a seat that is dealt goes to a seat of its own, with its ticket
  pub splits : (id n m : ℕ) → Splits At id (Seated (dealt terms (n ∷ numbers_from (n + 1) m))) (Seated (dealt terms (numbers_from (n + 1) m)))
      (Seated (dealt terms (n ∷ [])))
  splits id n m s r at =
      let ns : List ℕ = numbers_from (n + 1) m in
      let k : Known C = dealt terms (n ∷ ns) in
      let l : Known C = dealt terms ns in
      let a : Known C = dealt terms (n ∷ []) in
      let vs : List (View C) = set s.views id (Seated l) in
      let views : List (View C) = vs ++ Seated a ∷ [] in
      let f : KnownInv c is_play terms r.journal (all_drawn s.views) k = r.each id (Seated k) at in
      let w = f.waits n refl in
      let drawn : all_drawn views ≡ all_drawn s.views =
      (let p = sum_more drawn_in vs (Seated a) in let q = sum_set drawn_in s.views id (Seated k) (Seated l) at in omega (arith, p, q)) in
      let more : (j : ℕ) → Has j ns → Has j (n ∷ ns) = (λ j has. omega (arith, has)) in
      let one : (j : ℕ) → Has j (n ∷ []) → Has j (n ∷ ns) = (λ j has. let t = split_times j n ns in omega (arith, has, t)) in
      let low : (t : ℕ) → Has t (n ∷ ns) → t < terms.seats = (λ t has. inside s r id t (Seated k) at has) in
      let next : (t : ℕ) → l.ticket ≡ Some t → (t ≡ n + 1) × (0 < m) × Has t ns =
      (λ t is. let h = first_from (n + 1) m t is in (h.0, h.1, first_has ns t is)) in
      let fits_l : KnownInv c is_play terms r.journal (all_drawn s.views) l = record {
        terms_are = refl;
        begins = f.begins;
        own = λ j has. f.own j (more j has);
        past = All-nil _;
        few = le_refl (length ns);
        waits = λ t is. let h = next t is in let at_t = h.0 in let some_left = h.1 in let below = low t (more t h.2) in let b = r.dealt in
            let count = count_from (n + 1) m in (omega (arith, at_t, w.0), omega (arith, below, b), omega (arith, some_left, count));
        served = λ e. absurd (cc e);
        first = λ t is below. (next t is).2;
      } in
      let fits_a : KnownInv c is_play terms r.journal (all_drawn s.views) a = record {
        terms_are = refl;
        begins = f.begins;
        own = λ j has. f.own j (one j has);
        past = All-nil _;
        few = le_refl 1;
        waits = λ t is. let same : n ≡ t = cc is in (omega (arith, same, w.0), omega (arith, same, w.1), omega arith);
        served = λ e. absurd (cc e);
        first = λ t is below. first_has (n ∷ []) t is;
      } in
      let each : (j : ℕ) (v : View C) → get_elem? views j ≡ some v → ViewInv c is_play terms r.journal (all_drawn s.views) v = (λ j v e.
      ⊎_elim (λ (h : get_elem? vs j ≡ some v).
      ⊎_elim (λ (b : (j ≡ id) × (Seated l ≡ v)). subst (ViewInv c is_play terms r.journal (all_drawn s.views)) b.1 fits_l)
      (λ (b : (j ≢ id) × (get_elem? s.views j ≡ some v)). r.each j v b.1) (at_set s.views id j (Seated l) v h))
      (λ (h : Seated a ≡ v). subst (ViewInv c is_play terms r.journal (all_drawn s.views)) h fits_a) (at_snoc vs (Seated a) v j e)) in
      let numbers : (j : ℕ) → total (λ v. times j (numbers_in v)) views ≡ cond (nat_lt j terms.seats) 1 0 = (λ j.
      (let g : View C → ℕ = λ v. times j (numbers_in v) in let p = sum_more g vs (Seated a) in
      let q = sum_set g s.views id (Seated k) (Seated l) at in let b = split_times j n ns in omega (arith, p, q, b)) ∙ r.numbers j) in
      let old : (i t : ℕ) (p : Known C) → get_elem? views i ≡ some (Seated p) → p.ticket ≡ Some t → terms.seats ≤ t →
      get_elem? s.views i ≡ some (Seated p) = (λ i t p e has late.
      ⊎_elim (λ (h : get_elem? vs i ≡ some (Seated p)).
      ⊎_elim (λ (b : (i ≡ id) × (Seated l ≡ Seated p)).
      absurd (let x = next t (ap (λ (z : Known C). z.ticket) (is_seated l p b.1) ∙ has) in let below = low t (more t x.2) in omega (arith, below, late)))
      (λ (b : (i ≢ id) × (get_elem? s.views i ≡ some (Seated p))). b.1) (at_set s.views id i (Seated l) (Seated p) h))
      (λ (h : Seated a ≡ Seated p).
      absurd (let x = first_has (n ∷ []) t (ap (λ (z : Known C). z.ticket) (is_seated a p h) ∙ has) in let below = low t (one t x) in
      omega (arith, below, late))) (at_snoc vs (Seated a) (Seated p) i e)) in
      let outside : (i : ℕ) (p : Known C) → get_elem? views i ≡ some (Seated p) → (get_elem? s.views i ≡ some (Seated p)) ⊎ (p.in_turn ≡ false) = (λ i p e.
      ⊎_elim (λ (h : get_elem? vs i ≡ some (Seated p)).
      ⊎_elim (λ (b : (i ≡ id) × (Seated l ≡ Seated p)). inr (ap (λ (z : Known C). z.in_turn) (sym (is_seated l p b.1))))
      (λ (b : (i ≢ id) × (get_elem? s.views i ≡ some (Seated p))). inl b.1) (at_set s.views id i (Seated l) (Seated p) h))
      (λ (h : Seated a ≡ Seated p). inr (ap (λ (z : Known C). z.in_turn) (sym (is_seated a p h)))) (at_snoc vs (Seated a) (Seated p) i e)) in
      record {
        journal = r.journal;
        legal = r.legal;
        seats = r.seats;
        two = r.two;
        serving = r.serving;
        ticket = r.ticket ∙ ap (λ (z : ℕ). (length r.journal + z) % 2 ^ 64) (sym drawn);
        numbers = numbers;
        count = (let g : View C → ℕ = λ v. length (numbers_in v) in let p = sum_more g vs (Seated a) in let q = sum_set g s.views id (Seated k) (Seated l) at in
            omega (arith, p, q)) ∙ r.count;
        few = r.few;
        dealt = (let b = r.dealt in omega (arith, b, drawn));
        each = λ j v e. subst (λ (z : ℕ). ViewInv c is_play terms r.journal z v) (sym drawn) (each j v e);
        apart = λ i j t p q at_i at_j x y. either_way (nat_lt t terms.seats) (t < terms.seats) (terms.seats ≤ t) (i ≡ j)
            (λ is. grind (arith, nat_tests)) (λ is. grind (arith, nat_tests))
            (λ below. first_apart views numbers i j t p q at_i at_j ((each i (Seated p) at_i).first t x below) ((each j (Seated q) at_j).first t y below))
            (λ late. r.apart i j t p q (old i t p at_i x late) (old j t q at_j y late) x y);
        slot =
            ⊎_elim (λ (h : IsHome c is_play terms r.journal s).
            inl (h.0, λ i p e. ⊎_elim (λ (o : get_elem? s.views i ≡ some (Seated p)). h.1 i p o) (λ (o : p.in_turn ≡ false). o) (outside i p e)))
            (λ (b : IsAway c is_play terms s). let i = b.1.0 in let p = b.1.1 in
            let other : i ≢ id = (λ e. cc (some-injective (Seated p) (Seated k) (sym b.1.2 ∙ (ap (get_elem? s.views) e ∙ at)), b.1.3)) in
            inr (b.0, (i, p, at_longer vs (Seated a ∷ []) i (Seated p) (set_else s.views id i (Seated l) other ∙ b.1.2), b.1.3))) r.slot;
      }

module _ {C : Type 0} (c : Play) (is_play : List Event → C → Type 0) (terms : Terms C) where
  -- what a seat has seen goes to a place of its own, which takes no turns
  pub notes : (id : ℕ) (k : Known C) → k.in_turn ≡ false → Splits (At c is_play terms) id (Seated k) (Seated k) (noted (Seated k))
  notes id k out s r at =
      let m : Known C = beside k [] in
      let views : List (View C) = s.views ++ Seated m ∷ [] in
      let same : set s.views id (Seated k) ≡ s.views = set_same s.views id (Seated k) at in
      let f : KnownInv c is_play terms r.journal (all_drawn s.views) k = r.each id (Seated k) at in
      let drawn : all_drawn views ≡ all_drawn s.views = (let p = sum_more drawn_in s.views (Seated m) in omega (arith, p)) in
      let fits_m : KnownInv c is_play terms r.journal (all_drawn s.views) m = record {
        terms_are = f.terms_are;
        begins = f.begins;
        own = λ j has. absurd (omega arith);
        past = All-nil _;
        few = omega arith;
        waits = λ t e. absurd (cc e);
        served = λ e. absurd (cc e);
        first = λ t e below. absurd (cc e);
      } in
      let there : (i : ℕ) (p : Known C) → get_elem? views i ≡ some (Seated p) → (get_elem? s.views i ≡ some (Seated p)) ⊎ (m ≡ p) = (λ i p e.
      ⊎_elim (λ (h : get_elem? s.views i ≡ some (Seated p)). inl h) (λ (h : Seated m ≡ Seated p). inr (is_seated m p h))
      (at_snoc s.views (Seated m) (Seated p) i e)) in
      let ticketed : (i t : ℕ) (p : Known C) → get_elem? views i ≡ some (Seated p) → p.ticket ≡ Some t → get_elem? s.views i ≡ some (Seated p) = (λ i t p e has.
      ⊎_elim (λ (h : get_elem? s.views i ≡ some (Seated p)). h) (λ (h : m ≡ p). absurd (cc (ap (λ (z : Known C). z.ticket) h, has))) (there i p e)) in
      subst (λ (vs : List (View C)). At c is_play terms record { words = s.words; homes = s.homes; views = vs ++ Seated m ∷ [] }) (sym same) record {
        journal = r.journal;
        legal = r.legal;
        seats = r.seats;
        two = r.two;
        serving = r.serving;
        ticket = r.ticket ∙ ap (λ (z : ℕ). (length r.journal + z) % 2 ^ 64) (sym drawn);
        numbers = λ j. (let g : View C → ℕ = λ v. times j (numbers_in v) in let p = sum_more g s.views (Seated m) in omega (arith, p)) ∙ r.numbers j;
        count = (let g : View C → ℕ = λ v. length (numbers_in v) in let p = sum_more g s.views (Seated m) in omega (arith, p)) ∙ r.count;
        few = r.few;
        dealt = (let b = r.dealt in omega (arith, b, drawn));
        each = λ j v e. subst (λ (z : ℕ). ViewInv c is_play terms r.journal z v) (sym drawn)
            (⊎_elim (λ (h : get_elem? s.views j ≡ some v). r.each j v h)
            (λ (h : Seated m ≡ v). subst (ViewInv c is_play terms r.journal (all_drawn s.views)) h fits_m) (at_snoc s.views (Seated m) v j e));
        apart = λ i j t p q at_i at_j a b. r.apart i j t p q (ticketed i t p at_i a) (ticketed j t q at_j b) a b;
        slot =
            ⊎_elim (λ (h : IsHome c is_play terms r.journal s).
            inl (
              h.0,
              λ i p e. ⊎_elim (λ (o : get_elem? s.views i ≡ some (Seated p)). h.1 i p o) (λ (o : m ≡ p). ap (λ (z : Known C). z.in_turn) (sym o)) (there i p e),
            ))
            (λ (a : IsAway c is_play terms s). inr (a.0, (a.1.0, a.1.1, at_longer s.views (Seated m ∷ []) a.1.0 (Seated a.1.1) a.1.2, a.1.3))) r.slot;
      }

pub times-append : (n : ℕ) (ms ns : List ℕ) → times n (ms ++ ns) ≡ times n ms + times n ns
times-append n [] ns = omega arith
times-append n (m ∷ ms) ns = let rest = times-append n ms ns in omega (arith, rest)

-- two beginnings of a journal both begin the longer one, which begins it too
longer_of : (xs ys journal : List Entry) → IsPrefix xs journal → IsPrefix ys journal →
    IsPrefix xs (longer xs ys) × IsPrefix ys (longer xs ys) × IsPrefix (longer xs ys) journal
longer_of xs ys journal p q = either_way (nat_lt (length xs) (length ys)) refl
  where
    either_way : (b : Bool) → nat_lt (length xs) (length ys) ≡ b → IsPrefix xs (cond b ys xs) × IsPrefix ys (cond b ys xs) × IsPrefix (cond b ys xs) journal
    either_way true is = (prefix_shorter xs ys journal p q (grind (arith, nat_tests)), prefix_self ys, q)
    either_way false is = (prefix_self xs, prefix_shorter ys xs journal q p (grind (arith, nat_tests)), p)

module _ {C : Type 0} (c : Play) (is_play : List Event → C → Type 0) (terms : Terms C) where
  -- a seat takes in what another knows, with its numbers
  pub meets : (id other : ℕ) (k l : Known C) → k.in_turn ≡ false → l.in_turn ≡ false →
      Joins (At c is_play terms) id (Seated k) other (Seated l) (Seated (met k l)) Spent
  meets id other k l out out' s r at apart there =
      let m : Known C = met k l in
      let vs : List (View C) = set s.views id (Seated m) in
      let views : List (View C) = set vs other Spent in
      let at' : get_elem? s.views other ≡ some (Seated l) = sym (set_else s.views id other (Seated m) apart) ∙ there in
      let f : KnownInv c is_play terms r.journal (all_drawn s.views) k = r.each id (Seated k) at in
      let g : KnownInv c is_play terms r.journal (all_drawn s.views) l = r.each other (Seated l) at' in
      let long = longer_of k.seen l.seen r.journal f.begins g.begins in
      let has_left : (n : ℕ) → Has n k.numbers → Has n (k.numbers ++ l.numbers) =
      (λ n has. let t = times-append n k.numbers l.numbers in omega (arith, t, has)) in
      let has_right : (n : ℕ) → Has n l.numbers → Has n (k.numbers ++ l.numbers) =
      (λ n has. let t = times-append n k.numbers l.numbers in omega (arith, t, has)) in
      let wider : (ns : List ℕ) → ((n : ℕ) → Has n ns → Has n (k.numbers ++ l.numbers)) → (os : List Past) → All (IsPast r.journal ns) os →
      All (IsPast r.journal (k.numbers ++ l.numbers)) os =
      (λ ns more os each. All-weaker (IsPast r.journal ns) (IsPast r.journal (k.numbers ++ l.numbers))
      (λ o h. record { begins = h.begins; own = λ n has. let w = h.own n has in (more n w.0, w.1) }) os each) in
      let drawn : all_drawn views ≡ all_drawn s.views =
      (let p = sum_set drawn_in vs other (Seated l) Spent there in let q = sum_set drawn_in s.views id (Seated k) (Seated m) at in omega (arith, p, q)) in
      let fits_m : KnownInv c is_play terms r.journal (all_drawn s.views) m = record {
        terms_are = f.terms_are;
        begins = long.2;
        own = λ j has. ⊎_elim (λ (h : Has j k.numbers). entries_between j k.seen (longer k.seen l.seen) r.journal long.0 long.2 (f.own j h))
            (λ (h : Has j l.numbers). entries_between j l.seen (longer k.seen l.seen) r.journal long.1 long.2 (g.own j h))
            (of_either j k.numbers l.numbers has);
        past =
            All-cons (IsPast r.journal m.numbers) (now_of k) (now_of l ∷ (k.past ++ l.past)) record {
              begins = f.begins;
              own = λ n has. (has_left n has, f.own n has);
            }
            (All-cons (IsPast r.journal m.numbers) (now_of l) (k.past ++ l.past) record { begins = g.begins; own = λ n has. (has_right n has, g.own n has) }
            (All-append (IsPast r.journal m.numbers) k.past l.past (wider k.numbers has_left k.past f.past) (wider l.numbers has_right l.past g.past)));
        few = (let p = f.few in let q = g.few in let n = length-append k.numbers l.numbers in omega (arith, p, q, n));
        waits = λ t has. let w = f.waits t has in (w.0, w.1, omega (arith, w.2));
        served = λ e. absurd (cc (e, out));
        first = λ t has below. has_left t (f.first t has below);
      } in
      let is_there : (i : ℕ) (p : Known C) → get_elem? views i ≡ some (Seated p) →
      ((i ≡ id) × (m ≡ p)) ⊎ ((i ≢ id) × (get_elem? s.views i ≡ some (Seated p))) = (λ i p e.
      ⊎_elim (λ (a : (i ≡ other) × (Spent ≡ Seated p)). absurd (cc (a.1)))
      (λ (a : (i ≢ other) × (get_elem? vs i ≡ some (Seated p))).
      ⊎_elim (λ (b : (i ≡ id) × (Seated m ≡ Seated p)). inl (b.0, is_seated m p b.1)) (λ (b : (i ≢ id) × (get_elem? s.views i ≡ some (Seated p))). inr b)
      (at_set s.views id i (Seated m) (Seated p) a.1))
      (at_set vs other i Spent (Seated p) e)) in
      let had : (i t : ℕ) (p : Known C) → get_elem? views i ≡ some (Seated p) → p.ticket ≡ Some t →
      (q : Known C) × (get_elem? s.views i ≡ some (Seated q)) × (q.ticket ≡ Some t) = (λ i t p e has.
      ⊎_elim (λ (a : (i ≡ id) × (m ≡ p)). (k, ap (get_elem? s.views) a.0 ∙ at, ap (λ (z : Known C). z.ticket) a.1 ∙ has))
      (λ (a : (i ≢ id) × (get_elem? s.views i ≡ some (Seated p))). (p, a.1, has)) (is_there i p e)) in
      record {
        journal = r.journal;
        legal = r.legal;
        seats = r.seats;
        two = r.two;
        serving = r.serving;
        ticket = r.ticket ∙ ap (λ (z : ℕ). (length r.journal + z) % 2 ^ 64) (sym drawn);
        numbers =
            λ j. (let h : View C → ℕ = λ v. times j (numbers_in v) in let p = sum_set h vs other (Seated l) Spent there in
            let q = sum_set h s.views id (Seated k) (Seated m) at in let n = times-append j k.numbers l.numbers in omega (arith, p, q, n)) ∙ r.numbers j;
        count =
            (let h : View C → ℕ = λ v. length (numbers_in v) in let p = sum_set h vs other (Seated l) Spent there in
            let q = sum_set h s.views id (Seated k) (Seated m) at in let n = length-append k.numbers l.numbers in omega (arith, p, q, n)) ∙ r.count;
        few = r.few;
        dealt = (let b = r.dealt in omega (arith, b, drawn));
        each = λ j v e. subst (λ (z : ℕ). ViewInv c is_play terms r.journal z v) (sym drawn)
            (⊎_elim (λ (a : (j ≡ other) × (Spent ≡ v)). subst (ViewInv c is_play terms r.journal (all_drawn s.views)) a.1 tt)
            (λ (a : (j ≢ other) × (get_elem? vs j ≡ some v)).
            ⊎_elim (λ (b : (j ≡ id) × (Seated m ≡ v)). subst (ViewInv c is_play terms r.journal (all_drawn s.views)) b.1 fits_m)
            (λ (b : (j ≢ id) × (get_elem? s.views j ≡ some v)). r.each j v b.1) (at_set s.views id j (Seated m) v a.1))
            (at_set vs other j Spent v e));
        apart = λ i j t p q at_i at_j a b. let x = had i t p at_i a in let y = had j t q at_j b in r.apart i j t x.0 y.0 x.1 y.1 x.2 y.2;
        slot =
            ⊎_elim (λ (h : IsHome c is_play terms r.journal s).
            inl (
              h.0,
              λ i p e. ⊎_elim (λ (a : (i ≡ id) × (m ≡ p)). ap (λ (z : Known C). z.in_turn) (sym a.1) ∙ out)
                  (λ (a : (i ≢ id) × (get_elem? s.views i ≡ some (Seated p))). h.1 i p a.1) (is_there i p e),
            ))
            (λ (a : IsAway c is_play terms s). let i = a.1.0 in let p = a.1.1 in
            let not_id : i ≢ id = (λ e. cc (some-injective (Seated p) (Seated k) (sym a.1.2 ∙ (ap (get_elem? s.views) e ∙ at)), a.1.3, out)) in
            let not_other : i ≢ other = (λ e. cc (some-injective (Seated p) (Seated l) (sym a.1.2 ∙ (ap (get_elem? s.views) e ∙ at')), a.1.3, out')) in
            inr (a.0, (i, p, set_else vs other i Spent not_other ∙ (set_else s.views id i (Seated m) not_id ∙ a.1.2), a.1.3))) r.slot;
      }
    where
      of_either : (j : ℕ) (ms ns : List ℕ) → Has j (ms ++ ns) → Has j ms ⊎ Has j ns
      of_either j [] ns has = inr has
      of_either j (x ∷ ms) ns has =
          dite (ℕ_discrete (times j (x ∷ ms)) 0) (λ z. inr (let n = times-append j (x ∷ ms) ns in omega (arith, z, n, has))) (λ n. inl (omega (arith, n)))

some_number : (ns : List ℕ) → 0 < length ns → (n : ℕ) × Has n ns
some_number [] pos = absurd (omega arith)
some_number (n ∷ ns) pos = (n, let one : times n (n ∷ []) ≡ 1 = simp (eq-eqb n n refl) refl in let s = split_times n n ns in omega (arith, one, s))

module _ {C : Type 0} (c : Terms C → Play) (is_play : Terms C → List Event → C → Type 0) (terms : Terms C) where
  -- where one seat has all numbers and isn't in its turn, it has seen the whole journal, and the core is at home
  pub closes : (id : ℕ) (k : Known C) (ws : List ℕ) (xs : List C) → k.in_turn ≡ false → ((n : ℕ) → n < terms.seats → Has n k.numbers)
      → Final (Seen (At (c terms) (is_play terms) terms) id (Seated k)) ws xs → (core : C) × (get_elem? xs 0 ≡ some core) × Closed c is_play k core
  closes id k ws xs out all f =
      let s = f.0 in let r = f.1.0 in let at = f.1.1 in
      let g : KnownInv (c terms) (is_play terms) terms r.journal (all_drawn s.views) k = r.each id (Seated k) at in
      let whole : k.seen ≡ r.journal = all_seen terms.seats k.seen r.journal g.begins r.seats (λ n inside. g.own n (all n inside)) in
      let home : IsHome (c terms) (is_play terms) terms r.journal s =
      ⊎_elim (λ (h : IsHome (c terms) (is_play terms) terms r.journal s). h) (λ (a : IsAway (c terms) (is_play terms) terms s).
      let i = a.1.0 in let l = a.1.1 in
      let fl : KnownInv (c terms) (is_play terms) terms r.journal (all_drawn s.views) l = r.each i (Seated l) a.1.2 in
      let w = fl.waits (length r.journal) ((fl.served a.1.3).0) in
      let n = some_number l.numbers (let few = fl.few in omega (arith, few, w.2)) in
      let other : id ≢ i = (λ e. cc (some-injective (Seated l) (Seated k) (sym a.1.2 ∙ (ap (get_elem? s.views) (sym e) ∙ at)), a.1.3, out)) in
      let h : View C → ℕ = λ v. times n.0 (numbers_in v) in
      let most = most_one (nat_lt n.0 terms.seats) refl in
      let here = term_below h s.views i (Seated l) a.1.2 in
      let sum = r.numbers n.0 in
      let inside : n.0 < terms.seats = below n.0 terms.seats (nat_lt n.0 terms.seats) refl (let p = n.1 in omega (arith, here, sum, p)) in
      let mine = all n.0 inside in
      let both = terms_below h s.views i id (Seated l) (Seated k) other a.1.2 at in
      absurd (let p = n.1 in omega (arith, both, sum, most, mine, p))) r.slot in (
        home.0.0,
        f.4 0 home.0.0 (ap (λ hs. get_elem? hs 0) home.0.1),
        record {
          legal = subst (λ (z : Terms C × List Entry). IsLegal (c z.0) z.0.turns z.0.ceiling z.1) (λ i. (sym g.terms_are i, sym whole i)) r.legal;
          seats = subst (λ (z : Terms C × List Entry). All (λ e. e.seat < z.0.seats) z.1) (λ i. (sym g.terms_are i, sym whole i)) r.seats;
          plays = subst (λ (z : Terms C × List Entry). is_play z.0 (events_of z.1) home.0.0) (λ i. (sym g.terms_are i, sym whole i)) home.0.2;
          past = subst (λ (z : Terms C × List Entry). All (IsPast z.1 k.numbers) k.past) (λ i. (sym g.terms_are i, sym whole i)) g.past;
        },
      )
    where
      most_one : (b : Bool) {d : Bool} → d ≡ b → cond b 1 0 ≤ 1
      most_one true e = le_refl 1
      most_one false e = omega arith

      below : (n m : ℕ) (b : Bool) → nat_lt n m ≡ b → 0 < cond b 1 0 → n < m
      below n m true is pos = grind (arith, nat_tests)
      below n m false is pos = absurd (omega arith)
