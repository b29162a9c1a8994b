-- A scan goes on, and what it has found when it ends.
use Rattle.std.proofs.Common.{◌≡◌, ◌∙◌, ◌≢◌, ◌⊎◌, ℕ, ◌+◌, ◌<◌, ◌≤◌, List, length, get_or, set, Some, inl, inr, sym, ap, subst, arith}
use Rattle.std.proofs.lemmas.Bool.{cases_eq, cases_order}
use Rattle.std.proofs.lemmas.List.{get_or-set_same, get_or-set_other, length-set}
use Rattle.std.proofs.lemmas.Option.{slice_get_within}
use Rattle.reg_colour.specs.declared.intervals.Interval.{Interval}
use Rattle.reg_colour.specs.links.Intervals.{Intervals, IntervalAt, Holds, AreHolding}
use Rattle.reg_colour.specs.links.LinearScan.{AreRegistersApart, IsFull, HaveRoom, IsCrowd, IsPassed, IsHeldUp, ScannedTo}
use Rattle.reg_colour.proofs.IntervalCounts.{held_within}
use Rattle.reg_colour.proofs.Pigeonhole.{not_more, not_fewer}

-- ---- One interval

same_at : (xs : Intervals) (k l : ℕ) (i j : Interval) → IntervalAt xs k i → IntervalAt xs l j → l ≡ k → j ≡ i
same_at xs k l i j a b e = cc

passed_begins : (node up_to l : ℕ) (i : Interval) → IsPassed node up_to l i → i.first ≤ node
passed_begins node up_to l i (inl a) = omega arith
passed_begins node up_to l i (inr b) = omega (arith, b.0)

-- an interval that begins at the node and is one of a local not before that has not been passed
not_passed : (node up_to l : ℕ) (i : Interval) → i.first ≡ node → up_to ≤ l → IsPassed node up_to l i → ⊥
not_passed node up_to l i e le (inl a) = omega arith
not_passed node up_to l i e le (inr b) = omega (arith, b.1)

one_further : (node k l : ℕ) (i : Interval) → IsPassed node k l i → IsPassed node (k + 1) l i
one_further node k l i (inl a) = inl a
one_further node k l i (inr b) = inr (b.0, omega (arith, b.1))

one_less : (node k l : ℕ) (i : Interval) → l ≢ k → IsPassed node (k + 1) l i → IsPassed node k l i
one_less node k l i ne (inl a) = inl a
one_less node k l i ne (inr b) = inr (b.0, omega (arith, b.1, ne))

-- ---- What has been passed, said in another way

rescanned : (xs : Intervals) (n k m j : ℕ) (given free : List ℕ) → ((l : ℕ) (i : Interval) → IntervalAt xs l i → IsPassed m j l i → IsPassed n k l i) →
    ((l : ℕ) (i : Interval) → IntervalAt xs l i → IsPassed n k l i → IsPassed m j l i) → ScannedTo xs n k given free → ScannedTo xs m j given free
rescanned xs n k m j given free to from s = record {
  count = s.count;
  every = s.every;
  exist = s.exist;
  free_later = λ l i at p. s.free_later l i at (to l i at p);
  held = λ r some. (let h = s.held r some in record {
    local = h.local;
    interval = h.interval;
    at = h.at;
    passed = from h.local h.interval h.at h.passed;
    has = h.has;
    ends = h.ends;
  });
  apart = λ a b i j lt at_a at_b p q same. s.apart a b i j lt at_a at_b (to a i at_a p) (to b j at_b q) same;
}

not_begun : (xs : Intervals) (node k l : ℕ) (i : Interval) → ((j : Interval) → IntervalAt xs k j → j.first ≡ node → ⊥) → IntervalAt xs l i → l ≡ k →
    IsPassed node (k + 1) l i → IsPassed node k l i
not_begun xs node k l i none at e (inl a) = inl a
not_begun xs node k l i none at e (inr b) = absurd (none i (subst (λ (x : ℕ). IntervalAt xs x i) e at) b.0)

-- no interval of the local begins at the node
pub not_here : (xs : Intervals) (node k : ℕ) (given free : List ℕ) → ((i : Interval) → IntervalAt xs k i → i.first ≡ node → ⊥) →
    ScannedTo xs node k given free → ScannedTo xs node (k + 1) given free
not_here xs node k given free none s =
    rescanned xs node k node (k + 1) given free
    (λ l i at p. elim (cases_eq l k) [ inl e ↦ not_begun xs node k l i none at e p | inr ne ↦ one_less node k l i ne p ])
    (λ l i at p. one_further node k l i p) s

round : (node long l : ℕ) (i : Interval) → l < long → IsPassed (node + 1) 0 l i → IsPassed node long l i
round node long l i lt (inl a) = elim (cases_eq i.first node) [ inl e ↦ inr (e, lt) | inr ne ↦ inl (omega arith) ]
round node long l i lt (inr b) = absurd (omega (arith, b.1))

-- all of the node's intervals have been passed
pub next_node : (xs : Intervals) (node up_to : ℕ) (given free : List ℕ) → length xs ≤ up_to → ScannedTo xs node up_to given free →
    ScannedTo xs (node + 1) 0 given free
next_node xs node up_to given free le s =
    rescanned xs node up_to (node + 1) 0 given free
    (λ l i at p. round node up_to l i (let w : l < length xs = slice_get_within xs l (Some i) at in omega arith) p)
    (λ l i at p. inl (let b : i.first ≤ node = passed_begins node up_to l i p in omega arith)) s

-- ---- One more interval has a register

-- the local's interval begins at the node, and the register is free there
pub record IntervalBegins (xs : Intervals) (node k register : ℕ) (free : List ℕ) : Type 0 where
  pub interval : Interval
  pub at : IntervalAt xs k interval
  pub starts : interval.first ≡ node
  pub filled : interval.first < interval.end
  pub exists : register < length free
  pub is_free : get_or free register 0 ≤ node

free_then : (xs : Intervals) (node k r : ℕ) (given free : List ℕ) (b : IntervalBegins xs node k r free) → ScannedTo xs node k given free →
    (l : ℕ) (i : Interval) →
    IntervalAt xs l i → IsPassed node (k + 1) l i →
    i.end ≤ get_or (set free r b.interval.end) (get_or (set given k r) l 0) 0
free_then xs node k r given free b s l i at p =
    let w : k < length given = (let v : k < length xs = slice_get_within xs k (Some b.interval) b.at in omega (arith, v, s.count)) in
    elim (cases_eq l k) [
      | inl e ↦
          let one : i ≡ b.interval = same_at xs k l b.interval i b.at at e in
          let reg : get_or (set given k r) l 0 ≡ r = ap (λ (x : ℕ). get_or (set given k r) x 0) e ∙ get_or-set_same given k r 0 w in
          let val : get_or (set free r b.interval.end) (get_or (set given k r) l 0) 0 ≡ b.interval.end =
          ap (λ (x : ℕ). get_or (set free r b.interval.end) x 0) reg ∙ get_or-set_same free r b.interval.end 0 b.exists in
          let same : i.end ≡ b.interval.end = ap (λ (x : Interval). x.end) one in
          omega (arith, val, same)
      | inr ne ↦
          let old : i.end ≤ get_or free (get_or given l 0) 0 = s.free_later l i at (one_less node k l i ne p) in
          let reg : get_or (set given k r) l 0 ≡ get_or given l 0 = get_or-set_other given k l r 0 ne in
          let val : get_or (set free r b.interval.end) (get_or (set given k r) l 0) 0 ≡ get_or (set free r b.interval.end) (get_or given l 0) 0 =
          ap (λ (x : ℕ). get_or (set free r b.interval.end) x 0) reg in
          elim (cases_eq (get_or given l 0) r) [
            | inl e ↦
                let now : get_or (set free r b.interval.end) (get_or given l 0) 0 ≡ b.interval.end =
                ap (λ (x : ℕ). get_or (set free r b.interval.end) x 0) e ∙ get_or-set_same free r b.interval.end 0 b.exists in
                let was : get_or free (get_or given l 0) 0 ≡ get_or free r 0 = ap (λ (x : ℕ). get_or free x 0) e in
                omega (arith, val, now, was, old, b.is_free, b.starts, b.filled)
            | inr other ↦
                let now : get_or (set free r b.interval.end) (get_or given l 0) 0 ≡ get_or free (get_or given l 0) 0 =
                get_or-set_other free r (get_or given l 0) b.interval.end 0 other in
                omega (arith, val, now, old)
          ]
    ]

held_then : (xs : Intervals) (node k r : ℕ) (given free : List ℕ) (b : IntervalBegins xs node k r free) → ScannedTo xs node k given free → (q : ℕ) →
    0 < get_or (set free r b.interval.end) q 0 →
    IsHeldUp xs node (k + 1) (set given k r) q (get_or (set free r b.interval.end) q 0)
held_then xs node k r given free b s q some =
    let w : k < length given = (let v : k < length xs = slice_get_within xs k (Some b.interval) b.at in omega (arith, v, s.count)) in
    elim (cases_eq q r) [
      | inl e ↦ record {
        local = k;
        interval = b.interval;
        at = b.at;
        passed = inr (b.starts, omega arith);
        has = get_or-set_same given k r 0 w ∙ sym e;
        ends = sym (ap (λ (x : ℕ). get_or (set free r b.interval.end) x 0) e ∙ get_or-set_same free r b.interval.end 0 b.exists);
      }
      | inr ne ↦
          let val : get_or (set free r b.interval.end) q 0 ≡ get_or free q 0 = get_or-set_other free r q b.interval.end 0 ne in
          let h : IsHeldUp xs node k given q (get_or free q 0) = s.held q (omega (arith, val, some)) in
          let other : h.local ≢ k = λ e.
          (let one : h.interval ≡ b.interval = same_at xs k h.local b.interval h.interval b.at h.at e in
          let starts : h.interval.first ≡ node = ap (λ (x : Interval). x.first) one ∙ b.starts in
          not_passed node k h.local h.interval starts (omega (arith, e)) h.passed) in
          record {
            local = h.local;
            interval = h.interval;
            at = h.at;
            passed = one_further node k h.local h.interval h.passed;
            has = get_or-set_other given k h.local r 0 other ∙ h.has;
            ends = h.ends ∙ sym val;
          }
    ]

-- an interval that has been passed and has the register has ended
ended : (xs : Intervals) (node k r : ℕ) (given free : List ℕ) (b : IntervalBegins xs node k r free) → ScannedTo xs node k given free → (l : ℕ) (i : Interval) →
    IntervalAt xs l i → IsPassed node k l i →
    get_or given l 0 ≡ r → i.end ≤ b.interval.first
ended xs node k r given free b s l i at p e =
    let old : i.end ≤ get_or free (get_or given l 0) 0 = s.free_later l i at p in
    let was : get_or free (get_or given l 0) 0 ≡ get_or free r 0 = ap (λ (x : ℕ). get_or free x 0) e in
    omega (arith, old, was, b.is_free, b.starts)

apart_then : (xs : Intervals) (node k r : ℕ) (given free : List ℕ) (b : IntervalBegins xs node k r free) → ScannedTo xs node k given free →
    (l m : ℕ) (i j : Interval) → l < m → IntervalAt xs l i → IntervalAt xs m j →
    IsPassed node (k + 1) l i → IsPassed node (k + 1) m j → get_or (set given k r) l 0 ≡ get_or (set given k r) m 0 → (i.end ≤ j.first) ⊎ (j.end ≤ i.first)
apart_then xs node k r given free b s l m i j lt at_l at_m p q same =
    let w : k < length given = (let v : k < length xs = slice_get_within xs k (Some b.interval) b.at in omega (arith, v, s.count)) in
    let mine : get_or (set given k r) k 0 ≡ r = get_or-set_same given k r 0 w in
    elim (cases_eq l k) [
      | inl e ↦
          let ne : m ≢ k = (λ x. omega (arith, x, e, lt)) in
          let one : i ≡ b.interval = same_at xs k l b.interval i b.at at_l e in
          let reg : get_or given m 0 ≡ r = sym (get_or-set_other given k m r 0 ne) ∙ sym same ∙ ap (λ (x : ℕ). get_or (set given k r) x 0) e ∙ mine in
          let h : j.end ≤ b.interval.first = ended xs node k r given free b s m j at_m (one_less node k m j ne q) reg in
          inr (omega (arith, h, ap (λ (x : Interval). x.first) one))
      | inr ne_l ↦ elim (cases_eq m k) [
        | inl e ↦
            let one : j ≡ b.interval = same_at xs k m b.interval j b.at at_m e in
            let reg : get_or given l 0 ≡ r = sym (get_or-set_other given k l r 0 ne_l) ∙ same ∙ ap (λ (x : ℕ). get_or (set given k r) x 0) e ∙ mine in
            let h : i.end ≤ b.interval.first = ended xs node k r given free b s l i at_l (one_less node k l i ne_l p) reg in
            inl (omega (arith, h, ap (λ (x : Interval). x.first) one))
        | inr ne_m ↦
            let old : get_or given l 0 ≡ get_or given m 0 = sym (get_or-set_other given k l r 0 ne_l) ∙ same ∙ get_or-set_other given k m r 0 ne_m in
            s.apart l m i j lt at_l at_m (one_less node k l i ne_l p) (one_less node k m j ne_m q) old
      ]
    ]

exist_then : (k r : ℕ) (given : List ℕ) → r < 18 → ((l : ℕ) → l < length given → get_or given l 0 < 18) → (l : ℕ) → l < length (set given k r) →
    get_or (set given k r) l 0 < 18
exist_then k r given small old l lt =
    let long : length (set given k r) ≡ length given = length-set given k r in
    elim (cases_eq l k) [
      | inl e ↦
          let val : get_or (set given k r) l 0 ≡ r = ap (λ (x : ℕ). get_or (set given k r) x 0) e ∙ get_or-set_same given k r 0 (omega (arith, e, lt, long)) in
          omega (arith, val, small)
      | inr ne ↦
          let val : get_or (set given k r) l 0 ≡ get_or given l 0 = get_or-set_other given k l r 0 ne in
          let before : get_or given l 0 < 18 = old l (omega (arith, lt, long)) in
          omega (arith, val, before)
    ]

pub has_one : (xs : Intervals) (node k r : ℕ) (given free : List ℕ) (b : IntervalBegins xs node k r free) → ScannedTo xs node k given free →
    ScannedTo xs node (k + 1) (set given k r) (set free r b.interval.end)
has_one xs node k r given free b s = record {
  count = length-set given k r ∙ s.count;
  every = length-set free r b.interval.end ∙ s.every;
  exist = exist_then k r given (omega (arith, b.exists, s.every)) s.exist;
  free_later = free_then xs node k r given free b s;
  held = held_then xs node k r given free b s;
  apart = apart_then xs node k r given free b s;
}

-- ---- There is room at a node

-- where the locals whose intervals hold a node have different registers
room : (xs : Intervals) (node : ℕ) (given : List ℕ) → ((l : ℕ) → Holds xs node l → get_or given l 0 < 18) →
    ((a b : ℕ) → a < b → Holds xs node a → Holds xs node b → get_or given a 0 ≡ get_or given b 0 → ⊥) → HaveRoom xs node
room xs node given exist apart wanted h =
    let n : length h.locals ≤ 18 = not_more (λ l. get_or given l 0) h.locals 18 h.once
    (λ a b p q same. elim (cases_order a b) [
      | inl e ↦ e
      | inr o ↦ elim o [
        | inl lt ↦ absurd (apart a b lt ((h.each a).0 p) ((h.each b).0 q) same)
        | inr gt ↦ absurd (apart b a gt ((h.each b).0 q) ((h.each a).0 p) (sym same))
      ]
    ])
    (λ a p. exist a ((h.each a).0 p)) in
    omega (arith, n, h.count)

pub room_apart : (xs : Intervals) (given : List ℕ) → AreRegistersApart xs given → (node : ℕ) → HaveRoom xs node
room_apart xs given s node = room xs node given (λ l h. s.exist l (omega (arith, held_within xs node l h, s.count))) (s.apart node)

-- locals whose intervals hold a node that has been passed have different registers
apart_passed : (xs : Intervals) (node up_to at : ℕ) (given free : List ℕ) → ScannedTo xs node up_to given free →
    ((l : ℕ) (i : Interval) → IntervalAt xs l i → i.first ≤ at → IsPassed node up_to l i) →
    (a b : ℕ) → a < b → Holds xs at a → Holds xs at b → get_or given a 0 ≡ get_or given b 0 → ⊥
apart_passed xs node up_to at given free s passed a b lt p q same =
    elim (s.apart a b p.interval q.interval lt p.at q.at (passed a p.interval p.at p.from_first) (passed b q.interval q.at q.from_first) same) [
      | inl x ↦ omega (arith, x, p.below_end, q.from_first)
      | inr y ↦ omega (arith, y, q.below_end, p.from_first)
    ]

pub room_before : (xs : Intervals) (node : ℕ) (given free : List ℕ) → ScannedTo xs node 0 given free → (earlier : ℕ) → earlier < node → HaveRoom xs earlier
room_before xs node given free s earlier lt =
    room xs earlier given (λ l h. s.exist l (omega (arith, held_within xs earlier l h, s.count)))
    (apart_passed xs node 0 earlier given free s (λ l i at le. inl (omega arith)))

-- ---- There is no room at a node

-- the local's interval begins at the node, and no register is free
pub full : (xs : Intervals) (node k : ℕ) (given free : List ℕ) (i : Interval) → ScannedTo xs node k given free → IntervalAt xs k i → i.first ≡ node →
    i.first < i.end →
    ((r : ℕ) → r < length free → node < get_or free r 0) → IsFull xs node
full xs node k given free i s at starts filled busy wanted h =
    let w : k < length given = (let v : k < length xs = slice_get_within xs k (Some i) at in omega (arith, v, s.count)) in
    let n : 19 ≤ length h.locals = not_fewer (λ l. get_or (set given k 18) l 0) h.locals 19 (λ q lt. elim (cases_eq q 18) [
      | inl e ↦
          let own : Holds xs node k = record { interval = i; at = at; from_first = omega arith; below_end = omega arith } in
          (k, (h.each k).1 own, get_or-set_same given k 18 0 w ∙ sym e)
      | inr ne ↦
          let late : node < get_or free q 0 = busy q (omega (arith, s.every, lt, ne)) in
          let o : IsHeldUp xs node k given q (get_or free q 0) = s.held q (omega arith) in
          let other : o.local ≢ k = λ e.
          (let one : o.interval ≡ i = same_at xs k o.local i o.interval at o.at e in
          let same : o.interval.first ≡ node = ap (λ (x : Interval). x.first) one ∙ starts in
          not_passed node k o.local o.interval same (omega (arith, e)) o.passed) in
          let from : o.interval.first ≤ node = passed_begins node k o.local o.interval o.passed in
          let own : Holds xs node o.local = record { interval = o.interval; at = o.at; from_first = from; below_end = omega (arith, o.ends, late) } in
          (o.local, (h.each o.local).1 own, get_or-set_other given k o.local 18 0 other ∙ o.has)
    ]) in
    omega (arith, n, h.count)

pub crowd : (xs : Intervals) (node wanted : ℕ) (given free : List ℕ) → ScannedTo xs node 0 given free → IsFull xs node → AreHolding xs node wanted →
    IsCrowd xs (record { node = node; wanted = wanted })
crowd xs node wanted given free s f h = record { holding = h; crowded = f wanted h; first = room_before xs node given free s }

-- ---- In other names

pub named : (xs : Intervals) (node k : ℕ) (given free now then : List ℕ) → ScannedTo xs node k given free → now ≡ given → then ≡ free →
    ScannedTo xs node k now then
named xs node k given free now then s e f =
    subst (λ (x : List ℕ). ScannedTo xs node k x then) (sym e) (subst (λ (x : List ℕ). ScannedTo xs node k given x) (sym f) s)
