-- A board at its start.
use Rattle.std.proofs.Common.{◌≡◌, ℕ, zero, suc, ◌+◌, ◌^◌, ◌<◌, ◌≤◌, List, [], ◌∷◌, length, sym, refl, ap, ◌∙◌, subst, inl, arith, cond, eq-eqb}
use Rattle.std.proofs.Common.{Some, le_refl}
use Rattle.std.specs.Prelude.{nat_lt}
use Rattle.std.proofs.lemmas.List.Elements.{All-nil}
use Rattle.std.proofs.lemmas.List.{append-nil}
use Rattle.std.proofs.lemmas.Bool.Decides.{nat_tests}
use mathlib.Core.Option.{some, some-injective, some-ne-none}
use lib.ListN.{get_elem?}
use Rattle.machine_events.specs.declared.event.Event.{Event}
use Rattle.atomic_table.specs.Table.{opening}
use Rattle.hart_board.specs.declared.views.Terms.{Terms}
use Rattle.hart_board.specs.declared.views.Known.{Known}
use Rattle.hart_board.specs.declared.views.View.{View}
use Rattle.hart_board.specs.declared.views.View.TheVariants.{Seated}
use Rattle.hart_board.specs.Journals.{Play, IsLegal}
use Rattle.hart_board.specs.BoardRule.{times, Has, numbers_from, first_ticket, newcomer, KnownInv, ViewInv, BoardInv}
use Rattle.hart_board.specs.CoreTurns.{IsPlayed}
use Rattle.hart_board.proofs.StepsKeepInv.{is_seated}

pub count_from : (at count : ℕ) → length (numbers_from at count) ≡ count
count_from at zero = refl
count_from at (suc count) = ap suc (count_from (at + 1) count)

times_from : (n at count : ℕ) → times n (numbers_from at count) ≡ cond (nat_lt n (at + count)) (cond (nat_lt n at) 0 1) 0
times_from n at zero = grind (arith, nat_tests)
times_from n at (suc count) = let rest = times_from n (at + 1) count in grind (arith, nat_tests, rest)

pub times_below : (n count : ℕ) → times n (numbers_from 0 count) + 0 ≡ cond (nat_lt n count) 1 0
times_below n count = let h = times_from n 0 count in grind (arith, nat_tests, h)

-- the ticket is that of the first number
pub first_from : (at count t : ℕ) → first_ticket (numbers_from at count) ≡ Some t → (t ≡ at) × (0 < count)
first_from at zero t is = absurd (cc is)
first_from at (suc count) t is = (cc is, omega arith)

pub first_has : (ns : List ℕ) (t : ℕ) → first_ticket ns ≡ Some t → Has t ns
first_has [] t is = absurd (cc is)
first_has (n ∷ ns) t is = let one : times t (n ∷ []) ≡ 1 = simp (eq-eqb n t (cc is)) refl in omega (arith, one)

module _ {C : Type 0} (c : Play) (is_play : List Event → C → Type 0) (terms : Terms C) where
  nothing_legal : IsLegal c terms.turns terms.ceiling []
  nothing_legal [] e after q = absurd (cc q)
  nothing_legal (x ∷ xs) e after q = absurd (cc q)

  alone : (i : ℕ) (v : View C) → get_elem? (Seated (newcomer terms) ∷ []) i ≡ some v → Seated (newcomer terms) ≡ v
  alone zero v e = some-injective (Seated (newcomer terms)) v e
  alone (suc i) v e = absurd (some-ne-none v (sym e))

  first_only : (i : ℕ) (v : View C) → get_elem? (Seated (newcomer terms) ∷ []) i ≡ some v → i ≡ 0
  first_only zero v e = refl
  first_only (suc i) v e = absurd (some-ne-none v (sym e))

  fits : (drawn : ℕ) → terms.seats ≤ drawn → KnownInv c is_play terms [] drawn (newcomer terms)
  fits drawn all = record {
    terms_are = refl;
    begins = ([], refl);
    own = λ n has. refl;
    past = All-nil _;
    few = le_refl (length (numbers_from 0 terms.seats));
    waits = λ t e. let h = first_from 0 terms.seats t e in let n = count_from 0 terms.seats in
        let same = h.0 in let some = h.1 in (omega arith, omega (arith, same, some, all), omega (arith, some, n));
    served = λ e. absurd (cc e);
    first = λ t e below. first_has (numbers_from 0 terms.seats) t e;
  }

  pub opens : (core : C) → terms.seats < 2 ^ 32 → is_play [] core →
      BoardInv c is_play terms (opening (0 ∷ terms.seats ∷ []) (core ∷ []) (Seated (newcomer terms)))
  opens core few plays = record {
    journal = [];
    legal = nothing_legal;
    seats = All-nil _;
    two = refl;
    serving = refl;
    ticket = (let n = count_from 0 terms.seats in omega (arith, n, few));
    numbers = λ n. times_below n terms.seats;
    count = let h = count_from 0 terms.seats in omega (arith, h);
    few = few;
    dealt = (let n = count_from 0 terms.seats in omega (arith, n));
    each = λ i v e. subst (ViewInv c is_play terms [] (length (numbers_from 0 terms.seats) + 0)) (alone i v e)
        (fits (length (numbers_from 0 terms.seats) + 0) (let n = count_from 0 terms.seats in omega (arith, n)));
    apart = λ i j t k l at_i at_j a b. first_only i (Seated k) at_i ∙ sym (first_only j (Seated l) at_j);
    slot = inl ((core, refl, plays), λ i k e. ap (λ (z : Known C). z.in_turn) (sym (is_seated (newcomer terms) k (alone i (Seated k) e))));
  }

-- a core goes on by no events as it is
pub played_self : {C M : Type 0} (opening : C → M) (history : C → List Event) (harts space : C → ℕ) (evictable : C → ℕ → ℕ → Type 0) (from to : C) → from ≡ to
    → IsPlayed opening history harts space evictable from [] to
played_self opening history harts space evictable from to same = subst (λ (z : _). IsPlayed opening history harts space evictable from [] z) same record {
  opens = refl;
  events_are = sym (append-nil (history from));
  harts = refl;
  room = omega arith;
  evicts = λ line mask. ((λ h. h), λ h. h);
}
