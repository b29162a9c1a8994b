-- Where regions could be run again with the boundary, only paths that pass the node can overwrite what they have read without it.
use Rattle.std.proofs.Common.{◌≡◌, ◌⊎◌, ◌↔◌, inl, inr, ℕ, zero, suc, ◌+◌, ◌-◌, ◌<◌, ◌≤◌, Bool, true, false, not, List, [], ◌∷◌, length, Option, Some, None}
use Rattle.std.proofs.Common.{refl, ap, sym, subst, ◌∙◌, arith}
use Rattle.std.specs.Prelude.{slice_get, IsTrue}
use Rattle.std.proofs.lemmas.Bool.{cases_eq, cases_lt}
use Rattle.std.proofs.lemmas.Option.{slice_get_within}
use Rattle.ido_base.specs.declared.location.Location.{Location}
use Rattle.ido_base.specs.Locations.{overlap, same}
use Rattle.flow_graph.specs.Nodes.{Node, Graph}
use Rattle.flow_graph.specs.Liveness.{NodeAt}
use Rattle.flow_graph.specs.IdempotentCuts.{Boundaries, IsBoundary, IsInside, stays, goes_on, IsIdempotent, HasBefore}
use Rattle.flow_graph.specs.IdempotentCuts.{WritesAt, ReadsAt, BeginsRegion, past_lock, at_boundary}
use Rattle.flow_graph.specs.IdempotentCuts.{IsWrittenBefore, without}
use Rattle.region_cutter.specs.links.GraphSearch.{ReachesEnd, there}
use Rattle.region_cutter.specs.links.GraphSearch as s
use Rattle.region_cutter.specs.links.RemovalPaths.{Inside, ReadsElements, WritesOver, WritesSame, InsidePast, IsOverAny, IsOverwritten, IsUnwritten, StoresTo}
use Rattle.region_cutter.specs.links.RemovalPaths.{AreWrittenFrom, ComesBack, ExposesOver, IsExposedBefore, IsKnownWithout, OverwritesRead}
use Rattle.region_cutter.proofs.Lists.{get_set_other, had}
use Rattle.region_cutter.proofs.Edges.{same_node}

-- ---- A conflict is a path

-- from the node on, the path writes over the elements
record Writing (g : Graph) (b : Boundaries) (elements : Location) (node : ℕ) : Type 0 where
  pub path : List ℕ
  pub inside : IsInside g b (node ∷ path)
  pub j : ℕ
  pub written : Location
  pub writes : WritesAt g (node ∷ path) j written
  pub over : IsTrue (overlap written elements)

writing : (g : Graph) (b : Boundaries) (elements : Location) (node : ℕ) → ReachesEnd (Inside g b) (WritesOver g elements) node → Writing g b elements node
writing g b elements node (there _ end) = record {
  path = [];
  inside = stays node;
  j = 0;
  written = end.written;
  writes = record { node = node; is = end.is; there = refl; at = end.at; writes = end.writes };
  over = end.over;
}
writing g b elements node (s.goes_on _ to step rest) =
    let w = writing g b elements to rest in record {
      path = to ∷ w.path;
      inside = goes_on node to w.path step.edge step.free w.inside;
      j = suc w.j;
      written = w.written;
      writes = record { node = w.writes.node; is = w.writes.is; there = w.writes.there; at = w.writes.at; writes = w.writes.writes };
      over = w.over;
    }

record Conflicts (g : Graph) (b : Boundaries) (elements : Location) (from : ℕ) : Type 0 where
  pub path : List ℕ
  pub inside : IsInside g b (from ∷ path)
  pub i : ℕ
  pub j : ℕ
  pub later : i < j
  pub written : Location
  pub reads : ReadsAt g (from ∷ path) i elements
  pub writes : WritesAt g (from ∷ path) j written
  pub over : IsTrue (overlap written elements)
  pub unwritten : ¬ (IsWrittenBefore g (from ∷ path) i elements)

-- what is written before a position of a path that is longer by its first node
shorter : (g : Graph) (element : Location) (from : ℕ) (path : List ℕ) (i : ℕ) → ¬ (WritesSame g element from) →
    IsWrittenBefore g (from ∷ path) (suc i) element → IsWrittenBefore g path i element
shorter g element from path i past w = at w.earlier w.before w.writes
  where
    at : (earlier : ℕ) → earlier < suc i → WritesAt g (from ∷ path) earlier w.written → IsWrittenBefore g path i element
    at zero lt writes =
        let here : from ≡ writes.node = (let e = writes.there in cc) in
        absurd (past (subst (λ (n : ℕ). WritesSame g element n) (sym here)
        (record { is = writes.is; at = writes.at; written = w.written; writes = writes.writes; same = w.is })))
    at (suc earlier) lt writes = record {
      earlier = earlier;
      written = w.written;
      before = omega arith;
      writes = record { node = writes.node; is = writes.is; there = writes.there; at = writes.at; writes = writes.writes };
      is = w.is;
    }

conflicts : (g : Graph) (b : Boundaries) (elements : Location) (node from : ℕ) → ReadsElements g elements node → IsOverwritten g b elements node →
    ReachesEnd (InsidePast g b elements) (λ n. n ≡ node) from → Conflicts g b elements from
conflicts g b elements node from reads over (there _ is) =
    let o = subst (λ (n : ℕ). IsOverwritten g b elements n) (sym is) over in
    let r = subst (λ (n : ℕ). ReadsElements g elements n) (sym is) reads in
    let w = writing g b elements o.to o.comes in record {
      path = o.to ∷ w.path;
      inside = goes_on from o.to w.path o.inside.edge o.inside.free w.inside;
      i = 0;
      j = suc w.j;
      later = omega arith;
      written = w.written;
      reads = record { node = from; is = r.is; there = refl; at = r.at; reads = r.reads };
      writes = record { node = w.writes.node; is = w.writes.is; there = w.writes.there; at = w.writes.at; writes = w.writes.writes };
      over = w.over;
      unwritten = λ before. absurd (let lt = before.before in omega (arith, lt));
    }
conflicts g b elements node from reads over (s.goes_on _ to step rest) =
    let c = conflicts g b elements node to reads over rest in record {
      path = to ∷ c.path;
      inside = goes_on from to c.path step.inside.edge step.inside.free c.inside;
      i = suc c.i;
      j = suc c.j;
      later = (let lt = c.later in omega (arith, lt));
      written = c.written;
      reads = record { node = c.reads.node; is = c.reads.is; there = c.reads.there; at = c.reads.at; reads = c.reads.reads };
      writes = record { node = c.writes.node; is = c.writes.is; there = c.writes.there; at = c.writes.at; writes = c.writes.writes };
      over = c.over;
      unwritten = λ before. c.unwritten (shorter g elements from (to ∷ c.path) c.i step.past before);
    }

pub exposed_conflicts : (g : Graph) (b : Boundaries) (elements : Location) (node : ℕ) → ReadsElements g elements node → IsUnwritten g b elements node →
    IsOverwritten g b elements node → ¬ (IsIdempotent g b)
exposed_conflicts g b elements node reads u over h =
    let c = conflicts g b elements node u.from reads over u.comes in
    c.unwritten (h u.from c.path u.begins c.inside c.i c.j elements c.written c.later c.reads c.writes c.over)

-- ---- What paths say

pub writes_same_or_not : (g : Graph) (element : Location) (node : ℕ) → WritesSame g element node ⊎ ¬ (WritesSame g element node)
writes_same_or_not g element node = at (slice_get g.nodes node) refl
  where
    by_bool : (x : Node) (w : Location) → NodeAt g node x → x.writes ≡ Some w → (b : Bool) → same w element ≡ b → WritesSame g element node ⊎
        ¬ (WritesSame g element node)
    by_bool x w is writes true e = inl (record { is = x; at = is; written = w; writes = writes; same = e })
    by_bool x w is writes false e = inr (λ k.
        let sames : x ≡ k.is = same_node g node x k.is is k.at in
        let both : Some w ≡ Some k.written = sym writes ∙ ap (λ (y : Node). y.writes) sames ∙ k.writes in
        let one : w ≡ k.written = cc in
        let yes' : same w element ≡ true = ap (λ (v : Location). same v element) one ∙ k.same in
        cc)

    by_writes : (x : Node) → NodeAt g node x → (o : Option Location) → x.writes ≡ o → WritesSame g element node ⊎ ¬ (WritesSame g element node)
    by_writes x is None e = inr (λ k.
        let sames : x ≡ k.is = same_node g node x k.is is k.at in
        let both : None ≡ Some k.written = sym e ∙ ap (λ (y : Node). y.writes) sames ∙ k.writes in
        cc)
    by_writes x is (Some w) e = by_bool x w is e (same w element) refl

    at : (o : Option Node) → slice_get g.nodes node ≡ o → WritesSame g element node ⊎ ¬ (WritesSame g element node)
    at None e = inr (λ k. let both : None ≡ Some k.is = sym e ∙ k.at in cc)
    at (Some x) e = by_writes x e x.writes refl

-- the element was written before, or the region comes to the node and has not written it
unwritten_or : (g : Graph) (b : Boundaries) (element : Location) (path : List ℕ) → IsInside g b path → (i from node : ℕ) → slice_get path 0 ≡ Some from →
    slice_get path i ≡ Some node →
    IsWrittenBefore g path i element ⊎ ReachesEnd (InsidePast g b element) (λ n. n ≡ node) from
unwritten_or g b element path inside zero from node first is =
    inr (there from (let both : Some from ≡ Some node = sym first ∙ is in let e : from ≡ node = cc in e))
unwritten_or g b element path (stays x) (suc i) from node first is = absurd (cc)
unwritten_or g b element path (goes_on x to rest edge free inside) (suc i) from node first is =
    elim (writes_same_or_not g element x) [
      | inl w ↦ inl (record {
        earlier = 0;
        written = w.written;
        before = omega arith;
        writes =
            record { node = x; is = w.is; there = refl; at = w.at; writes = w.writes };
        is = w.same;
      })
      | inr past ↦ elim (unwritten_or g b element (to ∷ rest) inside i to node refl is) [
        | inl w ↦ inl (record {
          earlier = suc w.earlier;
          written = w.written;
          before = (let lt = w.before in omega (arith, lt));
          writes = record { node = w.writes.node; is = w.writes.is; there = w.writes.there; at = w.writes.at; writes = w.writes.writes };
          is = w.is;
        })
        | inr comes ↦ inr (
            let e : x ≡ from = cc in
            subst (λ (n : ℕ). ReachesEnd (InsidePast g b element) (λ m. m ≡ node) n) e
            (s.goes_on x to (record { inside = record { edge = edge; free = free }; past = past }) comes))
      ]
    ]

comes_over : (g : Graph) (b : Boundaries) (elements : Location) (path : List ℕ) → IsInside g b path → (j from : ℕ) (written : Location) → slice_get path 0 ≡
    Some from → WritesAt g path j written → IsTrue (overlap written elements) →
    ReachesEnd (Inside g b) (WritesOver g elements) from
comes_over g b elements path inside zero from written first w over =
    let both : Some w.node ≡ Some from = sym w.there ∙ first in
    let e : w.node ≡ from = cc in
    there from (subst (λ (n : ℕ). WritesOver g elements n) e (record { is = w.is; at = w.at; written = written; writes = w.writes; over = over }))
comes_over g b elements path (stays x) (suc j) from written first w over = absurd (let e = w.there in cc)
comes_over g b elements path (goes_on x to rest edge free inside) (suc j) from written first w over =
    let e : x ≡ from = cc in
    subst (λ (n : ℕ). ReachesEnd (Inside g b) (WritesOver g elements) n) e
    (s.goes_on x to (record { edge = edge; free = free })
    (comes_over g b elements (to ∷ rest) inside j to written refl (record { node = w.node; is = w.is; there = w.there; at = w.at; writes = w.writes }) over))

over_at : (g : Graph) (b : Boundaries) (elements : Location) (path : List ℕ) → IsInside g b path → (i j node : ℕ) (written : Location) → i < j →
    slice_get path i ≡ Some node → WritesAt g path j written →
    IsTrue (overlap written elements) → IsOverwritten g b elements node
over_at g b elements path inside i zero node written lt is w over = absurd (omega arith)
over_at g b elements path (stays x) i (suc j) node written lt is w over = absurd (let e = w.there in cc)
over_at g b elements path (goes_on x to rest edge free inside) zero (suc j) node written lt is w over =
    let e : x ≡ node = cc in
    subst (λ (n : ℕ). IsOverwritten g b elements n) e (record {
      to = to;
      inside = record { edge = edge; free = free };
      comes = comes_over g b elements (to ∷ rest) inside j to written refl
          (record { node = w.node; is = w.is; there = w.there; at = w.at; writes = w.writes }) over;
    })
over_at g b elements path (goes_on x to rest edge free inside) (suc i) (suc j) node written lt is w over =
    over_at g b elements (to ∷ rest) inside i j node written (omega arith) is
    (record { node = w.node; is = w.is; there = w.there; at = w.at; writes = w.writes }) over

-- ---- Steps along paths and back

-- from the path's first node to the one at a position
reaches_at : (g : Graph) (b : Boundaries) (path : List ℕ) → IsInside g b path → (j from node : ℕ) → slice_get path 0 ≡ Some from → slice_get path j ≡
    Some node → ReachesEnd (Inside g b) (λ m. m ≡ node) from
reaches_at g b path inside zero from node first is = there from (let both : Some from ≡ Some node = sym first ∙ is in let e : from ≡ node = cc in e)
reaches_at g b path (stays x) (suc j) from node first is = absurd (cc)
reaches_at g b path (goes_on x to rest edge free inside) (suc j) from node first is =
    let e : x ≡ from = cc in
    subst (λ (n : ℕ). ReachesEnd (Inside g b) (λ m. m ≡ node) n) e
    (s.goes_on x to (record { edge = edge; free = free }) (reaches_at g b (to ∷ rest) inside j to node refl is))

-- from the node at one position to the one at another
reaches_later : (g : Graph) (b : Boundaries) (path : List ℕ) → IsInside g b path → (k j from node : ℕ) → k ≤ j → slice_get path k ≡ Some from →
    slice_get path j ≡ Some node → ReachesEnd (Inside g b) (λ m. m ≡ node) from
reaches_later g b path inside zero j from node le at is = reaches_at g b path inside j from node at is
reaches_later g b path (stays x) (suc k) j from node le at is = absurd (cc)
reaches_later g b path (goes_on x to rest edge free inside) (suc k) zero from node le at is = absurd (omega arith)
reaches_later g b path (goes_on x to rest edge free inside) (suc k) (suc j) from node le at is =
    reaches_later g b (to ∷ rest) inside k j from node (omega arith) at is

-- the last step to a node that comes later
record LastStep (g : Graph) (b : Boundaries) (from node : ℕ) : Type 0 where
  pub before : ℕ
  pub step : Inside g b before node
  pub comes : ReachesEnd (Inside g b) (λ m. m ≡ before) from

last_step : (g : Graph) (b : Boundaries) (path : List ℕ) → IsInside g b path → (i k from node : ℕ) → i < k → slice_get path i ≡ Some from →
    slice_get path k ≡ Some node → LastStep g b from node
last_step g b path inside i zero from node lt at is = absurd (omega arith)
last_step g b path (stays x) i (suc k) from node lt at is = absurd (cc)
last_step g b path (goes_on x to rest edge free inside) (suc i) (suc k) from node lt at is =
    last_step g b (to ∷ rest) inside i k from node (omega arith) at is
last_step g b path (goes_on x to rest edge free inside) zero (suc zero) from node lt at is =
    let e : x ≡ from = cc in
    let f : to ≡ node = cc in
    record { before = x; step = subst (λ (m : ℕ). Inside g b x m) f (record { edge = edge; free = free }); comes = there from (sym e) }
last_step g b path (goes_on x to rest edge free inside) zero (suc (suc k)) from node lt at is =
    let e : x ≡ from = cc in
    let l = last_step g b (to ∷ rest) inside 0 (suc k) to node (omega arith) refl is in
    record {
      before = l.before;
      step = l.step;
      comes = subst (λ (n : ℕ). ReachesEnd (Inside g b) (λ m. m ≡ l.before) n) e (s.goes_on x to (record { edge = edge; free = free }) l.comes);
    }

-- ---- Paths that pass the node

-- the path up to a position passes no boundary that stood before either
record Prefix (g : Graph) (b : Boundaries) (path : List ℕ) (j : ℕ) : Type 0 where
  pub prefix : List ℕ
  pub inside : IsInside g b prefix
  pub same : (k : ℕ) → k ≤ j → slice_get prefix k ≡ slice_get path k
  pub first : ℕ
  pub rest : List ℕ
  pub is : prefix ≡ first ∷ rest

-- the path comes to the node again, no later than there, and goes on from it
record ComesTo (g : Graph) (b : Boundaries) (n : ℕ) (path : List ℕ) (j : ℕ) : Type 0 where
  pub k : ℕ
  pub later : 0 < k
  pub before : k ≤ j
  pub rest : List ℕ
  pub inside : IsInside g (without b n) (n ∷ rest)
  pub same : (m p : ℕ) → p ≡ m + k → slice_get (n ∷ rest) m ≡ slice_get path p

-- edges that are inside without the boundary, and lead elsewhere, were inside with it
pub inside_before : (g : Graph) (b : Boundaries) (n from to : ℕ) → (to ≡ n → ⊥) → ¬ (IsBoundary g (without b n) from to) → ¬ (IsBoundary g b from to)
inside_before g b n from to other free (inl after) = free (inl (record { locks = after.locks; stands = after.stands }))
inside_before g b n from to other free (inr has) = free (inr (get_set_other b.before n to false other ∙ has))

prefix_or_comes : (g : Graph) (b : Boundaries) (n : ℕ) (path : List ℕ) → IsInside g (without b n) path → (j : ℕ) →
    Prefix g b path j ⊎ ComesTo g b n path j
prefix_or_comes g b n path (stays x) j = inl (record { prefix = x ∷ []; inside = stays x; same = λ k le. refl; first = x; rest = []; is = refl })
prefix_or_comes g b n path (goes_on x to rest edge free inside) zero =
    inl (record { prefix = x ∷ []; inside = stays x; same = λ k le. first_only x to rest k le; first = x; rest = []; is = refl })
  where
    first_only : (x to : ℕ) (rest : List ℕ) (k : ℕ) → k ≤ 0 → slice_get (x ∷ []) k ≡ slice_get (x ∷ to ∷ rest) k
    first_only x to rest zero le = refl
    first_only x to rest (suc k) le = absurd (omega arith)
prefix_or_comes g b n path (goes_on x to rest edge free inside) (suc j) = elim (cases_eq to n) [
  | inl here ↦ inr (record {
    k = 1;
    later = omega arith;
    before = omega arith;
    rest = rest;
    inside = subst (λ (m : ℕ). IsInside g (without b n) (m ∷ rest)) here inside;
    same = λ m p e. ap (λ (l : ℕ). slice_get (l ∷ rest) m) (sym here) ∙ one_on x (to ∷ rest) m p e;
  })
  | inr other ↦ elim (prefix_or_comes g b n (to ∷ rest) inside j) [
    | inr c ↦ inr (record {
      k = suc c.k;
      later = omega arith;
      before = (let le = c.before in omega (arith, le));
      rest = c.rest;
      inside = c.inside;
      same = λ m p e. more_on x (to ∷ rest) (n ∷ c.rest) c.k m p c.same e;
    })
    | inl f ↦ inl (record {
      prefix = x ∷ f.prefix;
      inside =
          let first : f.first ≡ to = (let at = f.same 0 (omega arith) in let e : slice_get f.prefix 0 ≡ Some f.first =
          ap (λ (p : List ℕ). slice_get p 0) f.is in let both : Some f.first ≡ Some to = sym e ∙ at in let z : f.first ≡ to = cc in z) in
          let tail : f.prefix ≡ to ∷ f.rest = f.is ∙ ap (λ (m : ℕ). m ∷ f.rest) first in
          subst (λ (p : List ℕ). IsInside g b (x ∷ p)) (sym tail)
          (goes_on x to f.rest edge (inside_before g b n x to other free) (subst (λ (p : List ℕ). IsInside g b p) tail f.inside));
      same = λ k le. longer x f.prefix (to ∷ rest) j f.same k le;
      first = x;
      rest = f.prefix;
      is = refl;
    })
  ]
]
  where
    longer : (x : ℕ) (prefix path : List ℕ) (j : ℕ) → ((k : ℕ) → k ≤ j → slice_get prefix k ≡ slice_get path k) → (k : ℕ) → k ≤ suc j →
        slice_get (x ∷ prefix) k ≡ slice_get (x ∷ path) k
    longer x prefix path j same zero le = refl
    longer x prefix path j same (suc k) le = same k (omega arith)

    one_on : (x : ℕ) (tail : List ℕ) (m p : ℕ) → p ≡ m + 1 → slice_get tail m ≡ slice_get (x ∷ tail) p
    one_on x tail m zero e = absurd (omega (arith, e))
    one_on x tail m (suc p) e = ap (λ (k : ℕ). slice_get tail k) (omega (arith, e))

    more_on : (x : ℕ) (tail one : List ℕ) (k m p : ℕ) → ((i q : ℕ) → q ≡ i + k → slice_get one i ≡ slice_get tail q) → p ≡ m + suc k →
        slice_get one m ≡ slice_get (x ∷ tail) p
    more_on x tail one k m zero same e = absurd (omega (arith, e))
    more_on x tail one k m (suc p) same e = same m p (omega (arith, e))

-- ---- Nothing is exposed

pub begins_before : (g : Graph) (b : Boundaries) (n from : ℕ) → BeginsRegion g (without b n) from → BeginsRegion g b from
begins_before g b n from (past_lock x after edge) = past_lock x (record { locks = after.locks; stands = after.stands }) edge
begins_before g b n from (at_boundary has) = at_boundary (had b.before n from has)

-- between the two positions, or at the second, the path comes to the node
record PassedBetween (path : List ℕ) (n i j : ℕ) : Type 0 where
  pub k : ℕ
  pub later : i < k
  pub before : k ≤ j
  pub at : slice_get path k ≡ Some n

-- what a region overwrites without the boundary it had written before, or it passes the node between the read and the store
covered_or_passed : (g : Graph) (b : Boundaries) (n : ℕ) → HasBefore b n → IsIdempotent g b → (size from : ℕ) (path : List ℕ) → BeginsRegion g b from →
    IsInside g (without b n) (from ∷ path) → (i j : ℕ) (read written : Location) → j < size → i < j → ReadsAt g (from ∷ path) i read →
    WritesAt g (from ∷ path) j written → IsTrue (overlap written read) →
    IsWrittenBefore g (from ∷ path) i read ⊎ PassedBetween (from ∷ path) n i j
covered_or_passed g b n has h zero from path begins inside i j read written below lt reads w over = absurd (omega (arith, below))
covered_or_passed g b n has h (suc size) from path begins inside i j read written below lt reads w over =
    elim (prefix_or_comes g b n (from ∷ path) inside j) [
      | inl f ↦ inl (
          let first : f.first ≡ from = (let at = f.same 0 (omega arith) in let e : slice_get f.prefix 0 ≡ Some f.first =
          ap (λ (p : List ℕ). slice_get p 0) f.is in let both : Some f.first ≡ Some from = sym e ∙ at in let z : f.first ≡ from = cc in z) in
          let tail : f.prefix ≡ from ∷ f.rest = f.is ∙ ap (λ (m : ℕ). m ∷ f.rest) first in
          let same = λ (k : ℕ) (le : k ≤ j). ap (λ (p : List ℕ). slice_get p k) (sym tail) ∙ f.same k le in
          let r = h from f.rest begins (subst (λ (p : List ℕ). IsInside g b p) tail f.inside) i j read written lt
          (record { node = reads.node; is = reads.is; there = same i (omega arith) ∙ reads.there; at = reads.at; reads = reads.reads })
          (record { node = w.node; is = w.is; there = same j (omega arith) ∙ w.there; at = w.at; writes = w.writes }) over in
          record {
            earlier = r.earlier;
            written = r.written;
            before = r.before;
            writes = record {
              node = r.writes.node;
              is = r.writes.is;
              there = sym (same r.earlier (let l = r.before in omega (arith, l, lt))) ∙
                  r.writes.there;
              at = r.writes.at;
              writes = r.writes.writes;
            };
            is = r.is;
          })
      | inr c ↦ elim (cases_lt i c.k) [
        | inl less ↦ inr (record { k = c.k; later = less; before = c.before; at = sym (c.same 0 c.k (omega arith)) })
        | inr most ↦ (
            let later = c.later in
            let before = c.before in
            elim (covered_or_passed g b n has h size n c.rest (at_boundary has) c.inside (i - c.k) (j - c.k) read written
            (omega (arith, below, later, before)) (omega (arith, lt, most, before))
            (record { node = reads.node; is = reads.is; there = c.same (i - c.k) i (omega (arith, most)) ∙ reads.there; at = reads.at; reads = reads.reads })
            (record { node = w.node; is = w.is; there = c.same (j - c.k) j (omega (arith, before)) ∙ w.there; at = w.at; writes = w.writes }) over) [
              | inl r ↦ inl (record {
                earlier = r.earlier + c.k;
                written = r.written;
                before = (let l = r.before in omega (arith, l, most));
                writes = record {
                  node = r.writes.node;
                  is = r.writes.is;
                  there = sym (c.same r.earlier (r.earlier + c.k) refl) ∙ r.writes.there;
                  at = r.writes.at;
                  writes = r.writes.writes;
                };
                is = r.is;
              })
              | inr q ↦ inr (record {
                k = q.k + c.k;
                later = (let l = q.later in omega (arith, l, most));
                before = (let l = q.before in omega (arith, l, before));
                at = sym (c.same q.k (q.k + c.k) refl) ∙ q.at;
              })
            ])
      ]
    ]

reversed_onto : (Step Back : ℕ → ℕ → Type 0) (End : ℕ → Type 0) → ((x y : ℕ) → Step x y → Back y x) → (target n : ℕ) →
    ReachesEnd Step (λ m. m ≡ target) n → ReachesEnd Back End n → ReachesEnd Back End target
reversed_onto Step Back End turn target n (there _ is) rest = subst (λ (m : ℕ). ReachesEnd Back End m) is rest
reversed_onto Step Back End turn target n (s.goes_on _ to step comes) rest =
    reversed_onto Step Back End turn target to comes (s.goes_on to n (turn n to step) rest)

pub reaches_as : {Step : ℕ → ℕ → Type 0} (End Other : ℕ → Type 0) → ((m : ℕ) → End m → Other m) → (n : ℕ) → ReachesEnd Step End n → ReachesEnd Step Other n
reaches_as End Other turn n (there _ end) = there n (turn n end)
reaches_as End Other turn n (s.goes_on _ to step rest) = s.goes_on n to step (reaches_as End Other turn to rest)

pub reaches_more : {Step : ℕ → ℕ → Type 0} (node to : ℕ) → Step node to → (from : ℕ) → ReachesEnd Step (λ m. m ≡ node) from →
    ReachesEnd Step (λ m. m ≡ to) from
reaches_more {Step} node to step from (there _ is) = s.goes_on from to (subst (λ (m : ℕ). Step m to) (sym is) step) (there to refl)
reaches_more node to step from (s.goes_on _ next first rest) = s.goes_on from next first (reaches_more node to step next rest)

-- back from the node to where a region begins
pub unwritten_back : (g : Graph) (b : Boundaries) (element : Location) (node : ℕ) → IsUnwritten g b element node →
    ReachesEnd (ComesBack g b (Some element)) (BeginsRegion g b) node
unwritten_back g b element node u =
    reversed_onto (InsidePast g b element) (ComesBack g b (Some element)) (BeginsRegion g b) (λ x y step. turned x y step) node u.from u.comes
    (there u.from u.begins)
  where
    turned : (x y : ℕ) → InsidePast g b element x y → ComesBack g b (Some element) y x
    turned x y step = record {
      inside = step.inside;
      spares = λ w. step.past (let e : w.element ≡ element = (let is = w.is in cc) in subst (λ (l : Location). WritesSame g l x) e w.writes);
    }

pub back_unwritten : (g : Graph) (b : Boundaries) (element : Location) (node : ℕ) → ReachesEnd (ComesBack g b (Some element)) (BeginsRegion g b) node →
    IsUnwritten g b element node
back_unwritten g b element node (there _ begins) = record { from = node; begins = begins; comes = there node refl }
back_unwritten g b element node (s.goes_on _ from step rest) =
    let u = back_unwritten g b element from rest in
    let past : ¬ (WritesSame g element from) = λ w. step.spares (record { element = element; is = refl; writes = w }) in
    record { from = u.from; begins = u.begins; comes = reaches_more from node (record { inside = step.inside; past = past }) u.from u.comes }

-- forward from a node to the one to which steps back led from it
record Forward (g : Graph) (b : Boundaries) (End : ℕ → Type 0) (node : ℕ) : Type 0 where
  pub from : ℕ
  pub end : End from
  pub comes : ReachesEnd (Inside g b) (λ m. m ≡ node) from

forward : (g : Graph) (b : Boundaries) (End : ℕ → Type 0) (node : ℕ) → ReachesEnd (ComesBack g b None) End node → Forward g b End node
forward g b End node (there _ end) = record { from = node; end = end; comes = there node refl }
forward g b End node (s.goes_on _ one step rest) =
    let f = forward g b End one rest in record { from = f.from; end = f.end; comes = reaches_more one node step.inside f.from f.comes }

overwritten_along : (g : Graph) (b : Boundaries) (elements : Location) (target node : ℕ) → IsOverwritten g b elements target →
    ReachesEnd (Inside g b) (λ m. m ≡ target) node → IsOverwritten g b elements node
overwritten_along g b elements target node over (there _ is) = subst (λ (m : ℕ). IsOverwritten g b elements m) (sym is) over
overwritten_along g b elements target node over (s.goes_on _ to step rest) =
    let o = overwritten_along g b elements target to over rest in record { to = to; inside = step; comes = s.goes_on to o.to o.inside o.comes }

pub comes_over_any : (g : Graph) (b : Boundaries) (writes : List Location) (from : ℕ) (elements : Location) → AreWrittenFrom g b from writes →
    IsOverAny writes elements → ReachesEnd (Inside g b) (WritesOver g elements) from
comes_over_any g b writes from elements are any = reaches_as (StoresTo g any.written) (WritesOver g elements)
    (λ m x. record { is = x.is; at = x.at; written = any.written; writes = x.writes; over = any.over }) from (are.are any.written any.among)

pub over_any_comes : (g : Graph) (b : Boundaries) (writes : List Location) (from : ℕ) (elements : Location) → AreWrittenFrom g b from writes →
    ReachesEnd (Inside g b) (WritesOver g elements) from → IsOverAny writes elements
over_any_comes g b writes from elements are comes = let f = found from comes in record { written = f.0; among = are.all f.0 f.2; over = f.1 }
  where
    found : (n : ℕ) → ReachesEnd (Inside g b) (WritesOver g elements) n →
        (written : Location) × IsTrue (overlap written elements) × ReachesEnd (Inside g b) (StoresTo g written) n
    found n (there _ end) = (end.written, end.over, there n (record { is = end.is; at = end.at; writes = end.writes }))
    found n (s.goes_on _ to step rest) = let f = found to rest in (f.0, f.1, s.goes_on n to step f.2)

-- ---- With and without a boundary

none_exposed : (g : Graph) (b : Boundaries) (n : ℕ) (writes : List Location) → HasBefore b n → AreWrittenFrom g (without b n) n writes → IsIdempotent g b →
    ¬ (IsExposedBefore g (without b n) writes n) → IsIdempotent g (without b n)
none_exposed g b n writes has are h none from path begins inside i j read written lt reads w over =
    elim (covered_or_passed g b n has h (suc j) from path (begins_before g b n from begins) inside i j read written (omega arith) lt reads w over) [
      | inl before ↦ before
      | inr passed ↦ elim (unwritten_or g (without b n) read (from ∷ path) inside i from reads.node refl reads.there) [
        | inl before ↦ before
        | inr comes ↦ (
            let last = last_step g (without b n) (from ∷ path) inside i passed.k reads.node n passed.later reads.there passed.at in
            let stores : ReachesEnd (Inside g (without b n)) (StoresTo g written) n = reaches_as (λ (m : ℕ). m ≡ w.node) (StoresTo g written)
            (λ m e. subst (λ (l : ℕ). StoresTo g written l) (sym e) (record { is = w.is; at = w.at; writes = w.writes })) n
            (reaches_later g (without b n) (from ∷ path) inside passed.k j n w.node passed.before passed.at w.there) in
            let exposes : ExposesOver g (without b n) writes reads.node = record {
              elements = read;
              reads = record { is = reads.is; at = reads.at; reads = reads.reads };
              exposed = record {
                over = record { written = written; among = are.all written stores; over = over };
                unwritten = record { from = from; begins = begins; comes = comes };
              };
            } in
            absurd (none (record {
              from = last.before;
              comes = back last.before n last.step;
              exposes = reversed_onto (Inside g (without b n)) (ComesBack g (without b n) None) (ExposesOver g (without b n) writes)
                  (λ x y step. back x y step) last.before reads.node last.comes (there reads.node exposes);
            })))
      ]
    ]
  where
    back : (x y : ℕ) → Inside g (without b n) x y → ComesBack g (without b n) None y x
    back x y step = record { inside = step; spares = λ p. (let e = p.is in cc) }

some_exposed : (g : Graph) (now : Boundaries) (n : ℕ) (writes : List Location) → AreWrittenFrom g now n writes → IsExposedBefore g now writes n →
    ¬ (IsIdempotent g now)
some_exposed g now n writes are e =
    let f = forward g now (ExposesOver g now writes) e.from e.exposes in
    let elements = f.end.elements in
    let over : IsOverwritten g now elements e.from =
    record { to = n; inside = e.comes.inside; comes = comes_over_any g now writes n elements are f.end.exposed.over } in
    exposed_conflicts g now elements f.from f.end.reads f.end.exposed.unwritten (overwritten_along g now elements e.from f.from over f.comes)

pub known_by : (g : Graph) (now : Boundaries) (n : ℕ) (writes : List Location) (exposed : Bool) → AreWrittenFrom g now n writes →
    (IsTrue exposed ↔ IsExposedBefore g now writes n) → IsKnownWithout g now n (not exposed)
known_by g now n writes true are k b is has h =
    (λ t. let wrong : false ≡ true = t in absurd (cc), λ idempotent. absurd (some_exposed g now n writes are (k.0 refl) idempotent))
known_by g now n writes false are k b is has h = (
  λ t. subst (λ (c : Boundaries). IsIdempotent g c) (sym is) (none_exposed g b n writes has (subst (λ (c : Boundaries). AreWrittenFrom g c n writes) is are) h
      (subst (λ (c : Boundaries). ¬ (IsExposedBefore g c writes n)) is (λ e. let wrong : false ≡ true = k.1 e in absurd (cc)))),
  λ _. refl,
)

-- ---- Whether regions may be run again

pub read_conflicts : (g : Graph) (b : Boundaries) (node : ℕ) → OverwritesRead g b node → ¬ (IsIdempotent g b)
read_conflicts g b node o = exposed_conflicts g b o.overwrites.elements node o.overwrites.reads o.overwrites.unwritten
    (record { to = o.to; inside = o.inside; comes = o.overwrites.comes })

pub all_safe : (g : Graph) (b : Boundaries) → ((node : ℕ) → node < length g.nodes → ¬ (OverwritesRead g b node)) → IsIdempotent g b
all_safe g b safe from path begins inside i j read written lt reads w over =
    elim (unwritten_or g b read (from ∷ path) inside i from reads.node refl reads.there) [
      | inl before ↦ before
      | inr comes ↦ (
          let o = over_at g b read (from ∷ path) inside i j reads.node written lt reads.there w over in
          absurd (safe reads.node (slice_get_within g.nodes reads.node reads.is reads.at) (record {
            to = o.to;
            inside = o.inside;
            overwrites = record {
              elements = read;
              reads = record { is = reads.is; at = reads.at; reads = reads.reads };
              unwritten = record { from = from; begins = begins; comes = comes };
              comes = o.comes;
            };
          })))
    ]
