-- Registers of one more thread, and of all.
use Rattle.std.proofs.Common.{◌≡◌, ◌∙◌, ◌⊎◌, ℕ, ◌+◌, ◌<◌, ◌≤◌, List, [], ◌∷◌, ◌++◌, length, get_or, Contains}
use Rattle.std.proofs.Common.{slice_get, Option, Some, None, Vec, Global, inl, inr, sym, ap, subst, arith}
use Rattle.std.proofs.lemmas.Bool.{cases_eq}
use Rattle.std.proofs.lemmas.Option.{slice_get_within, get_or_from_slice_get, slice_get-get_or}
use Rattle.std.proofs.lemmas.List.{length-append, map-append}
use Rattle.ido_base.specs.declared.place.Place.{Place}
use Rattle.flow_graph.specs.declared.graph.Part.{Part}
use Rattle.flow_graph.specs.Nodes.{Node, Graph}
use Rattle.flow_graph.specs.Liveness.{AreSpanning, Colouring, HasRoom, IsFirstCrowded, HasNoClash, AreRegisters}
use Rattle.reg_colour.specs.declared.scan.Crowd.{Crowd}
use Rattle.reg_colour.specs.links.Threads.{IsColoured, IsCrowdOf, AreColoured, HaveRoomBefore, IsLeastCrowd, ColouredTo, IsEarlier, lists_of}
use Rattle.reg_colour.proofs.AppendedIntervals.{pushed}

listed : (ps : List Part) (thread : ℕ) (part : Part) → slice_get ps thread ≡ Some part → Contains ps part
listed ps thread part e = (thread, slice_get_within ps thread part e, get_or_from_slice_get ps thread part part e)

same_part : (ps : List Part) (k : ℕ) (p q : Part) → slice_get ps k ≡ Some p → slice_get ps k ≡ Some q → p ≡ q
same_part ps k p q a b = cc

-- ---- One more thread

one_coloured : (g : Graph) (t : ℕ) (given : Colouring) (part : Part) (own : List ℕ) → slice_get g.threads t ≡ Some part → AreColoured g t given →
    IsColoured g part own →
    (thread : ℕ) (p : Part) (o : List ℕ) → slice_get g.threads thread ≡ Some p → ((slice_get given thread ≡ Some o) ⊎ ((thread ≡ length given) × (o ≡ own))) →
    IsColoured g p o
one_coloured g t given part own is a h thread p o e (inl old) = a.each thread p o e old
one_coloured g t given part own is a h thread p o e (inr new) =
    let k : thread ≡ t = new.0 ∙ a.count in
    let same : p ≡ part = same_part g.threads t p part (subst (λ (x : ℕ). slice_get g.threads x ≡ Some p) k e) is in
    subst (λ (x : Part). IsColoured g x o) (sym same) (subst (λ (x : List ℕ). IsColoured g part x) (sym new.1) h)

room_of : (g : Graph) (t : ℕ) (given : Colouring) → AreColoured g t given → (thread : ℕ) (other : Part) (earlier fewer : ℕ) → thread < t →
    slice_get g.threads thread ≡ Some other →
    AreSpanning g other earlier fewer → fewer ≤ 18
room_of g t given a thread other earlier fewer lt is h =
    let e : slice_get given thread ≡ Some (get_or given thread []) = slice_get-get_or given thread [] (omega (arith, lt, a.count)) in
    (a.each thread other (get_or given thread []) is e).room earlier fewer h

pub one_more : (g : Graph) (t : ℕ) (given : Colouring) (crowd : Option Crowd) (part : Part) (own : List ℕ) → slice_get g.threads t ≡ Some part →
    ColouredTo g t given crowd → IsColoured g part own →
    ColouredTo g (t + 1) (given ++ own ∷ []) crowd
one_more g t given None part own is a h = record {
  count = length-append given (own ∷ []) ∙ ap (λ (n : ℕ). n + 1) a.count;
  each = λ thread p o e at. one_coloured g t given part own is a h thread p o e (pushed given own thread o at);
}
one_more g t given (Some c) part own is a h = record {
  part = a.part;
  own = a.own;
  spanning = a.spanning;
  crowded = a.crowded;
  first = λ thread other earlier fewer lt e before s. elim (cases_eq thread t) [
    | inl k ↦
        let same : other ≡ part = same_part g.threads t other part (subst (λ (x : ℕ). slice_get g.threads x ≡ Some other) k e) is in
        h.room earlier fewer (subst (λ (x : Part). AreSpanning g x earlier fewer) same s)
    | inr ne ↦ a.first thread other earlier fewer (omega (arith, lt, ne)) e before s
  ];
}

first_with : (g : Graph) (t : ℕ) (part : Part) (c d : Crowd) → slice_get g.threads t ≡ Some part → IsCrowdOf g part d → c.node ≤ d.node →
    HaveRoomBefore g t c.node →
    (thread : ℕ) (other : Part) (earlier fewer : ℕ) → thread < t + 1 → slice_get g.threads thread ≡ Some other → earlier < c.node →
    AreSpanning g other earlier fewer → fewer ≤ 18
first_with g t part c d is h le old thread other earlier fewer lt e before s = elim (cases_eq thread t) [
  | inl k ↦
      let same : other ≡ part = same_part g.threads t other part (subst (λ (x : ℕ). slice_get g.threads x ≡ Some other) k e) is in
      h.first earlier fewer (omega (arith, before, le)) (subst (λ (x : Part). AreSpanning g x earlier fewer) same s)
  | inr ne ↦ old thread other earlier fewer (omega (arith, lt, ne)) e before s
]

own_crowd : (g : Graph) (t : ℕ) (part : Part) (d : Crowd) → slice_get g.threads t ≡ Some part → IsCrowdOf g part d →
    HaveRoomBefore g t d.node → IsLeastCrowd g (t + 1) d
own_crowd g t part d is h old = record {
  part = part;
  own = listed g.threads t part is;
  spanning = h.spanning;
  crowded = h.crowded;
  first = first_with g t part d d is h (omega arith) old;
}

one_crowd : (g : Graph) (t : ℕ) (part : Part) (c d x : Crowd) → slice_get g.threads t ≡ Some part → IsLeastCrowd g t c → IsCrowdOf g part d →
    (((x ≡ c) × (c.node ≤ d.node)) ⊎ ((x ≡ d) × (d.node < c.node))) → IsLeastCrowd g (t + 1) x
one_crowd g t part c d x is a h (inl e) = subst (λ (y : Crowd). IsLeastCrowd g (t + 1) y) (sym e.0) (record {
  part = a.part;
  own = a.own;
  spanning = a.spanning;
  crowded = a.crowded;
  first = first_with g t part c d is h e.1 a.first;
})
one_crowd g t part c d x is a h (inr e) =
    subst (λ (y : Crowd). IsLeastCrowd g (t + 1) y) (sym e.0)
    (own_crowd g t part d is h (λ thread other earlier fewer lt k before s. a.first thread other earlier fewer lt k (omega (arith, before, e.1)) s))

pub crowd_more : (g : Graph) (t : ℕ) (given : Colouring) (found : Option Crowd) (part : Part) (d x : Crowd) → slice_get g.threads t ≡ Some part →
    ColouredTo g t given found → IsCrowdOf g part d →
    IsEarlier found d x → ColouredTo g (t + 1) given (Some x)
crowd_more g t given None part d x is a h e = subst (λ (y : Crowd). IsLeastCrowd g (t + 1) y) (sym e)
    (own_crowd g t part d is h (λ thread other earlier fewer lt k before s. room_of g t given a thread other earlier fewer lt k s))
crowd_more g t given (Some c) part d x is a h e = one_crowd g t part c d x is a h e

-- ---- All threads

pub all_registers : (g : Graph) (t : ℕ) (given : Colouring) → length g.threads ≡ t → AreColoured g t given → AreRegisters g given
all_registers g t given all a = record {
  threads = a.count ∙ sym all;
  locals = λ thread part own is e. (a.each thread part own is e).count;
  exist = λ thread register own e c.
      (let lt : thread < length g.threads = (let l : thread < length given = slice_get_within given thread own e in omega (arith, l, a.count, all)) in
      let d : Part = record { first = 0; end = 0; locals = 0 } in
      (a.each thread (get_or g.threads thread d) own (slice_get-get_or g.threads thread d lt) e).exist register c);
}

pub all_apart : (g : Graph) (t : ℕ) (given : Colouring) → AreColoured g t given → HasNoClash g given
all_apart g t given a node l m c =
    (a.each c.thread c.part c.registers c.own c.of_thread).apart node l m c.register c.of_first c.of_second c.different c.first c.second

pub all_room : (g : Graph) (t : ℕ) (given : Colouring) → length g.threads ≡ t → AreColoured g t given → HasRoom g
all_room g t given all a part node wanted own h =
    room_of g t given a own.0 part node wanted (omega (arith, own.1, all)) (slice_get-get_or g.threads own.0 part own.1 ∙ ap (λ (x : Part). Some x) own.2) h

pub all_crowded : (g : Graph) (t : ℕ) (c : Crowd) (x : Node) (place : Place) → length g.threads ≡ t → slice_get g.nodes c.node ≡ Some x → place ≡ x.place →
    IsLeastCrowd g t c → IsFirstCrowded g place c.wanted
all_crowded g t c x place all at there a = record {
  part = a.part;
  node = c.node;
  is = x;
  own = a.own;
  at = at;
  there = there;
  spanning = a.spanning;
  crowded = a.crowded;
  first = λ other earlier fewer lt own s.
      a.first own.0 other earlier fewer (omega (arith, own.1, all)) (slice_get-get_or g.threads own.0 other own.1 ∙ ap (λ (p : Part). Some p) own.2) lt s;
}

-- ---- In other names

pub more_lists : (old new : List (Vec ℕ Global)) (v : Vec ℕ Global) → new ≡ old ++ v ∷ [] → lists_of new ≡ lists_of old ++ v.items ∷ []
more_lists old new v e = ap lists_of e ∙ map-append (λ (x : Vec ℕ Global). x.items) old (v ∷ [])

pub named : (g : Graph) (t : ℕ) (given now : Colouring) (crowd then : Option Crowd) → ColouredTo g t given crowd → now ≡ given → then ≡ crowd →
    ColouredTo g t now then
named g t given now crowd then a e f =
    subst (λ (x : Colouring). ColouredTo g t x then) (sym e) (subst (λ (x : Option Crowd). ColouredTo g t given x) (sym f) a)
