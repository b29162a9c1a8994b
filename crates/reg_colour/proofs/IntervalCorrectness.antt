-- The intervals of a thread's locals hold the nodes that the definition says.
use Rattle.std.proofs.Common.{◌≡◌, ◌∙◌, ◌⊎◌, ℕ, ◌<◌, ◌≤◌, List, length, get_or, slice_get, Option, Some, None, inl, inr, sym, ap, subst, arith}
use Rattle.std.proofs.lemmas.Option.{slice_get_cases, slice_get_within, slice_get-get_or, get_or_from_slice_get}
use Rattle.std.proofs.lemmas.List.Elements.{Contains-get_or}
use Rattle.flow_graph.specs.declared.graph.Part.{Part}
use Rattle.flow_graph.specs.Nodes.{Graph}
use Rattle.flow_graph.specs.Liveness.{IsLive, is_read, is_read_later, IsAssigned, Spans, AreSpanning}
use Rattle.reg_colour.specs.declared.intervals.Interval.{Interval}
use Rattle.reg_colour.specs.declared.scan.Crowd.{Crowd}
use Rattle.reg_colour.specs.declared.scan.Outcome.{Outcome}
use Rattle.reg_colour.specs.declared.scan.Outcome.TheVariants.{Coloured, Crowded}
use Rattle.reg_colour.specs.links.Intervals.{Intervals, IsInterval, IsIntervalOf, AreIntervals, Holds, AreHolding, AreFilled, AreWithin}
use Rattle.reg_colour.specs.links.LinearScan.{AreRegistersApart, IsCrowd, IsScanned}
use Rattle.reg_colour.specs.links.Threads.{IsColoured, IsCrowdOf, IsThread}
use Rattle.reg_colour.proofs.IntervalCounts.{held_within}
use Rattle.reg_colour.proofs.Scans.{room_apart}

held_by : (g : Graph) (part : Part) (xs : Intervals) (node local : ℕ) (o : Option Interval) → slice_get xs local ≡ Some o → IsIntervalOf g part local o →
    Spans g part local node → Holds xs node local
held_by g part xs node local None e h s = absurd (h s.low s.at_low)
held_by g part xs node local (Some i) e h s =
    let a : i.first ≤ s.low = h.first.first s.low s.at_low in
    let b : s.high ≤ h.last = h.is_last.last s.high s.at_high in
    record { interval = i; at = e; from_first = omega (arith, a, s.from_low); below_end = omega (arith, b, s.to_high, h.ends) }

pub held_from : (g : Graph) (part : Part) (xs : Intervals) → AreIntervals g part xs → (node local : ℕ) → local < length xs → Spans g part local node →
    Holds xs node local
held_from g part xs a node local lt s =
    elim (slice_get_cases xs local).1 [
      | inl w ↦ held_by g part xs node local w.0 w.2 (a.each local w.0 w.2) s
      | inr w ↦ absurd (omega (arith, w.0, lt))
    ]

pub spans_from : (g : Graph) (part : Part) (xs : Intervals) → AreIntervals g part xs → (node local : ℕ) → Holds xs node local → Spans g part local node
spans_from g part xs a node local h =
    let i : IsInterval g part local h.interval = a.each local (Some h.interval) h.at in
    record {
      low = h.interval.first;
      high = i.last;
      from_low = h.from_first;
      to_high = omega (arith, h.below_end, i.ends);
      at_low = i.first.touches;
      at_high = i.is_last.touches;
    }

pub filled : (g : Graph) (part : Part) (xs : Intervals) → AreIntervals g part xs → AreFilled xs
filled g part xs a = record {
  each = λ local i at.
      (let v : IsInterval g part local i = a.each local (Some i) at in
      let le : i.first ≤ v.last = v.is_last.last i.first v.first.touches in
      omega (arith, le, v.ends));
}

pub within : (g : Graph) (part : Part) (xs : Intervals) → AreIntervals g part xs → AreWithin part xs
within g part xs a = record {
  each = λ local i at. (let v : IsInterval g part local i = a.each local (Some i) at in (v.first.touches.from_first, v.first.touches.below_end));
}

-- ---- How many

pub spanning_from : (g : Graph) (part : Part) (xs : Intervals) → AreIntervals g part xs → length xs ≡ part.locals → (node wanted : ℕ) →
    AreHolding xs node wanted → AreSpanning g part node wanted
spanning_from g part xs a long node wanted h = record {
  locals = h.locals;
  each = λ l. (
    λ c. (let k : Holds xs node l = (h.each l).0 c in
        let lt : l < length xs = held_within xs node l k in
        (omega (arith, lt, long), spans_from g part xs a node l k)),
    λ p. (h.each l).1 (held_from g part xs a node l (omega (arith, p.0, long)) p.1),
  );
  once = h.once;
  count = h.count;
}

pub holding_from : (g : Graph) (part : Part) (xs : Intervals) → AreIntervals g part xs → length xs ≡ part.locals → (node wanted : ℕ) →
    AreSpanning g part node wanted → AreHolding xs node wanted
holding_from g part xs a long node wanted s = record {
  locals = s.locals;
  each = λ l. (
    λ c. (let p = (s.each l).0 c in held_from g part xs a node l (omega (arith, p.0, long)) p.1),
    λ h. (let lt : l < length xs = held_within xs node l h in (s.each l).1 (omega (arith, lt, long), spans_from g part xs a node l h)),
  );
  once = s.once;
  count = s.count;
}

-- ---- A thread

same_register : (given : List ℕ) (a b register : ℕ) → slice_get given a ≡ Some register → slice_get given b ≡ Some register →
    get_or given a 0 ≡ get_or given b 0
same_register given a b register p q = get_or_from_slice_get given a register 0 p ∙ sym (get_or_from_slice_get given b register 0 q)

pub coloured : (g : Graph) (part : Part) (xs : Intervals) (given : List ℕ) → AreIntervals g part xs → length xs ≡ part.locals → AreRegistersApart xs given →
    IsColoured g part given
coloured g part xs given a long s = record {
  count = s.count ∙ long;
  exist = λ register c. (let e : slice_get given c.0 ≡ Some register = slice_get-get_or given c.0 register c.1 ∙ ap (λ (x : ℕ). Some x) c.2 in
      subst (λ (x : ℕ). x < 18) (get_or_from_slice_get given c.0 register 0 e) (s.exist c.0 c.1));
  apart = λ node l m register p q lt x y.
      (let lm : m < length given = slice_get_within given m register q in
      let ll : l < length xs = omega (arith, lt, lm, s.count) in
      s.apart node l m lt (held_from g part xs a node l ll x) (held_from g part xs a node m (omega (arith, lm, s.count)) y)
      (same_register given l m register p q));
  room = λ node wanted h. room_apart xs given s node wanted (holding_from g part xs a long node wanted h);
}

pub crowded : (g : Graph) (part : Part) (xs : Intervals) (crowd : Crowd) → AreIntervals g part xs → length xs ≡ part.locals → IsCrowd xs crowd →
    IsCrowdOf g part crowd
crowded g part xs crowd a long c = record {
  spanning = spanning_from g part xs a long crowd.node crowd.wanted c.holding;
  crowded = c.crowded;
  first = λ earlier fewer lt h. c.first earlier lt fewer (holding_from g part xs a long earlier fewer h);
}

-- ---- Nodes that exist

live_within : (g : Graph) (local n : ℕ) → IsLive g local n → n < length g.nodes
live_within g local n (is_read x at c) = slice_get_within g.nodes n x at
live_within g local n (is_read_later x at other goes later) = slice_get_within g.nodes n x at

touched_within : (g : Graph) (local n : ℕ) → (IsLive g local n ⊎ IsAssigned g local n) → n < length g.nodes
touched_within g local n (inl l) = live_within g local n l
touched_within g local n (inr a) = slice_get_within g.nodes n a.is a.at

pub spanning_within : (g : Graph) (part : Part) (node wanted : ℕ) → 18 < wanted → AreSpanning g part node wanted → node < length g.nodes
spanning_within g part node wanted crowded s =
    let some : 0 < length s.locals = omega (arith, crowded, s.count) in
    let p = (s.each (get_or s.locals 0 0)).0 (Contains-get_or s.locals 0 0 some) in
    let lt : p.1.high < length g.nodes = touched_within g (get_or s.locals 0 0) p.1.high p.1.at_high.is in
    omega (arith, lt, p.1.to_high)

-- ---- What a scan answers

pub thread_of : (g : Graph) (part : Part) (xs : Intervals) → AreIntervals g part xs → length xs ≡ part.locals → (o : Outcome) → IsScanned xs o →
    IsThread g part o
thread_of g part xs a long (Coloured given) s = coloured g part xs given.items a long s
thread_of g part xs a long (Crowded crowd) s = crowded g part xs crowd a long s
