-- Legs that have come to their end.
use Rattle.std.proofs.Common.{◌≡◌, refl, ℕ, ◌+◌, ◌<◌, List, [], ◌∷◌, length, length-append, map}
use Rattle.std.proofs.Common.{cond, Bool, sym, ap, ◌∙◌, arith, eq-eqb, ne_eqb, Option, Some, None}
use Rattle.std.specs.Prelude.{MatchOption}
use Rattle.std.proofs.lemmas.List.{append-nil}
use Rattle.machine_events.specs.declared.event.Event.{Event}
use Rattle.machine_events.specs.Cores.{Behaviour}
use Rattle.hart_board.specs.BoardRule.{numbers_from}
use Rattle.hart_driver.specs.declared.start.Start.{Start}
use Rattle.hart_driver.specs.declared.stop.Stop.{Stop}
use Rattle.hart_driver.specs.Legs.{made, stop_of, workers}
use Rattle.hart_driver.specs.Driven.{HasAdvanced, IsDriven, evictions_of, leg_of}
use Rattle.hart_driver.specs.links.UnderWay.{AreStops, IsUnderWay, leg_from, since}
use Rattle.hart_driver.proofs.Stops.{stops_end}

module _ {C M V : Type 0} (b : Behaviour M) (opening : C → M) (history : C → List Event) (hart_count : C → ℕ) (coming : V → ℕ → ℕ × ℕ)
    (space : C → ℕ) (evictable : C → ℕ → ℕ → Type 0) where
  -- a leg in which each worker has a stop
  pub driven : (s : Start C V) (left : C) (counts : List ℕ) (evict_left : Option V) (stops : List Stop) →
      IsUnderWay b opening history hart_count coming space evictable s left counts evict_left →
      AreStops b opening history hart_count coming s left (workers (leg_from b opening history hart_count coming s)) stops →
      IsDriven b opening history hart_count coming space evictable s.core.value s.turns s.moment s.evict.value left stops evict_left
  driven s left counts evict_left stops u are = record {
    journal = since history s left;
    plays = u.plays;
    leg = record {
      each = u.each;
      ends = λ w inside.
          stops_end (leg_from b opening history hart_count coming s) (since history s left) 0
          (workers (leg_from b opening history hart_count coming s)) stops are w (omega arith) (omega (arith, inside));
    };
    stops_are = are;
    advanced = u.advanced;
  }

  none_advanced : (v : Option V) (count : ℕ) → count ≡ 0 → HasAdvanced coming v count v
  none_advanced None count zero = tt
  none_advanced (Some v) count zero = λ n. ap (coming v) (omega (arith, zero))

  -- where there are no harts nobody works
  pub nobody : (core : C) (turns moment : ℕ) (evict : Option V) → hart_count core ≡ 0 →
      IsDriven b opening history hart_count coming space evictable core turns moment evict core [] evict
  nobody core turns moment evict none = let leg = leg_of b opening history hart_count coming core turns moment evict in record {
    journal = [];
    plays = record {
      opens = refl;
      events_are = sym (append-nil (history core));
      harts = refl;
      room = omega arith;
      evicts = λ line mask. ((λ h. h), λ h. h);
    };
    leg = record {
      each = λ before after event q. absurd (let n = ap length q in let m = length-append before (event ∷ after) in omega (arith, n, m));
      ends = λ w inside. absurd (omega (arith, inside, no_workers));
    };
    stops_are = ap (λ (n : ℕ). map (λ w. stop_of leg w []) (numbers_from 0 n)) (sym no_workers);
    advanced = none_advanced evict (made leg (hart_count core) []) refl;
  }
    where
      no_workers : workers (leg_of b opening history hart_count coming core turns moment evict) ≡ 0
      no_workers =
          ap (λ (z : Bool). cond z 0 (hart_count core + elim (evictions_of coming evict) [ Some all ↦ 1 | None ↦ 0 ])) (eq-eqb (hart_count core) 0 none)

  -- how many workers there are
  pub workers_now : (core : C) (turns moment : ℕ) (evict : Option V) (n : ℕ) → MatchOption evict (n ≡ hart_count core) (λ v. n ≡ hart_count core + 1) →
      0 < hart_count core → n ≡ workers (leg_of b opening history hart_count coming core turns moment evict)
  workers_now core turns moment None n is some =
      sym (ap (λ (z : Bool). cond z 0 (hart_count core + 0)) (ne_eqb (hart_count core) 0 (λ e. omega (arith, e, some))) ∙ omega (arith, is))
  workers_now core turns moment (Some v) n is some =
      sym (ap (λ (z : Bool). cond z 0 (hart_count core + 1)) (ne_eqb (hart_count core) 0 (λ e. omega (arith, e, some))) ∙ omega (arith, is))

pub same_workers : {V : Type 0} (evict : Option V) (n m h k : ℕ) → MatchOption evict (n ≡ h) (λ v. n ≡ h + 1) → m ≡ n → k ≡ h →
    MatchOption evict (m ≡ k) (λ v. m ≡ k + 1)
same_workers None n m h k is p q = omega (arith, is, p, q)
same_workers (Some v) n m h k is p q = omega (arith, is, p, q)
