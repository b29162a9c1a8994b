-- How far regions of straight code may go, as seen from each of its nodes, from the last to the first.
use Rattle.std.proofs.Common.{◌≡◌, ◌⊎◌, ◌↔◌, inl, inr, ℕ, suc, ◌+◌, ◌<◌, ◌≤◌, Bool, List, [], ◌∷◌, ◌++◌, length, set, get_or, Some, refl, ap, sym}
use Rattle.std.proofs.Common.{subst, ◌∙◌, arith}
use Rattle.std.proofs.Common.{length-set}
use Rattle.std.specs.Prelude.{slice_get, Contains, IsTrue}
use Rattle.std.proofs.Math.Nat.{eq-or-lt_of_le}
use Rattle.std.proofs.lemmas.Option.{slice_get_within, slice_get-get_or}
use Rattle.flow_graph.proofs.Public.{same_or_other}
use Rattle.ido_base.specs.declared.location.Location.{Location}
use Rattle.flow_graph.specs.Nodes.{Node, Graph}
use Rattle.flow_graph.specs.Liveness.{NodeAt}
use Rattle.region_cutter.specs.declared.region_limits.Track.{Track}
use Rattle.region_cutter.specs.Elements.{ReadsElements, WritesOver, WritesSame}
use Rattle.region_cutter.specs.FewestCuts.{Conflict, ConflictOver}
use Rattle.region_cutter.specs.links.RegionLimits.{IsNext, IsHit, IsTracked, HasTrack, AreTracked, HaveReads, IsLeastHit, IsLimit, AddsTracks, AreAtEnd}
use Rattle.region_cutter.proofs.Edges.{same_node}
use Rattle.region_cutter.proofs.TrialParts.{contained}
use Rattle.region_cutter.proofs.Lists.{get_set_same, get_set_other, get_below, get_last, get_push, some_same}

-- ---- One location, a node back

pub next_here : (g : Graph) (e : Location) (number past : ℕ) → number < past → WritesOver g e number → IsNext g e number past number
next_here g e number past lt w = record {
  from_there = omega arith;
  to_past = omega (arith, lt);
  none = λ node a b. absurd (omega (arith, a, b));
  writes = λ _. w;
}

pub next_later : (g : Graph) (e : Location) (number past next : ℕ) → ¬ (WritesOver g e number) → IsNext g e (suc number) past next →
    IsNext g e number past next
next_later g e number past next never n = record {
  from_there = omega (arith, n.from_there);
  to_past = n.to_past;
  none = λ node a b. elim (eq-or-lt_of_le a) [
    | inl is ↦ subst (λ (k : ℕ). ¬ (WritesOver g e k)) is never
    | inr lt ↦ n.none node (omega (arith, lt)) b
  ];
  writes = n.writes;
}

pub hit_read : (g : Graph) (e : Location) (number past next : ℕ) → ReadsElements g e number → IsNext g e (suc number) past next → IsHit g e number past next
hit_read g e number past next r n = record {
  to_past = n.to_past;
  free = λ c. let a = c.within in let b = c.later in n.none c.store (omega (arith, a, b)) c.below c.writes;
  conflict = λ lt. record {
    read = number;
    store = next;
    within = omega arith;
    later = omega (arith, n.from_there);
    below = omega arith;
    reads = r;
    writes = n.writes lt;
    exposed = λ earlier a b. absurd (omega (arith, a, b));
  };
}

-- the read stands later, where the node doesn't read the elements
later_read : (g : Graph) (e : Location) (number to : ℕ) → ¬ (ReadsElements g e number) → (c : ConflictOver g e number to) → number < c.read
later_read g e number to never c = elim (eq-or-lt_of_le c.within) [
  | inl is ↦ absurd (never (subst (λ (k : ℕ). ReadsElements g e k) (sym is) c.reads))
  | inr lt ↦ lt
]

pub hit_written : (g : Graph) (e : Location) (number past : ℕ) → ¬ (ReadsElements g e number) → WritesSame g e number → IsHit g e number past past
hit_written g e number past never w = record {
  to_past = omega arith;
  free = λ c. c.exposed number (omega arith) (later_read g e number past never c) w;
  conflict = λ lt. absurd (omega (arith, lt));
}

pub hit_later : (g : Graph) (e : Location) (number past hit : ℕ) → ¬ (ReadsElements g e number) → ¬ (WritesSame g e number) → IsHit g e (suc number) past hit →
    IsHit g e number past hit
hit_later g e number past hit never free h = record {
  to_past = h.to_past;
  free = λ c. h.free (record {
    read = c.read;
    store = c.store;
    within = let r = later_read g e number hit never c in omega (arith, r);
    later = c.later;
    below = c.below;
    reads = c.reads;
    writes = c.writes;
    exposed = λ earlier a b. c.exposed earlier (omega (arith, a)) b;
  });
  conflict = λ lt. let c = h.conflict lt in record {
    read = c.read;
    store = c.store;
    within = let a = c.within in omega (arith, a);
    later = c.later;
    below = c.below;
    reads = c.reads;
    writes = c.writes;
    exposed = λ earlier a b. elim (eq-or-lt_of_le a) [
      | inl is ↦ subst (λ (k : ℕ). ¬ (WritesSame g e k)) is free
      | inr more ↦ c.exposed earlier (omega (arith, more)) b
    ];
  };
}

-- ---- All locations, a node back

-- the tracks below this one are seen from the node, and the others from the next
pub record GoesBack (g : Graph) (number past below : ℕ) (old new : List Track) : Type 0 where
  pub long : length new ≡ length old
  pub done : (k : ℕ) (track : Track) → slice_get new k ≡ Some track → k < below → IsTracked g number past track
  pub left : (k : ℕ) (track : Track) → slice_get new k ≡ Some track → below ≤ k → IsTracked g (suc number) past track
  pub kept : (e : Location) → HasTrack old e → HasTrack new e

pub back_none : (g : Graph) (number past : ℕ) (old : List Track) → AreTracked g (suc number) past old → GoesBack g number past 0 old old
back_none g number past old are = record {
  long = refl;
  done = λ k track there lt. absurd (omega (arith, lt));
  left = λ k track there le. are k track there;
  kept = λ e h. h;
}

pub back_more : (g : Graph) (number past below : ℕ) (old now : List Track) (was is : Track) → slice_get now below ≡ Some was →
    IsTracked g number past is → is.elements ≡ was.elements → GoesBack g number past below old now → GoesBack g number past (suc below) old (set now below is)
back_more g number past below old now was is there tracked same b =
    let lt : below < length now = slice_get_within now below was there in
    let here : slice_get (set now below is) below ≡ Some is = get_set_same now below is lt in
    record {
      long = length-set now below is ∙ b.long;
      done = λ k track at l. elim (eq-or-lt_of_le l) [
        | inl e ↦ (
            let e' : k ≡ below = omega (arith, e) in
            let mine : Some is ≡ Some track = sym here ∙ ap (λ i. slice_get (set now below is) i) (sym e') ∙ at in
            subst (λ (t : Track). IsTracked g number past t) (some_same is track mine) tracked)
        | inr less ↦ b.done k track (sym (get_set_other now below k is (λ e. absurd (omega (arith, e, less)))) ∙ at) (omega (arith, less))
      ];
      left = λ k track at l. b.left k track (sym (get_set_other now below k is (λ e. absurd (omega (arith, e, l)))) ∙ at) (omega (arith, l));
      kept = λ e h. let m = b.kept e h in elim (same_or_other m.number below) [
        | inl e' ↦ (
            let mine : Some was ≡ Some m.track = sym there ∙ ap (λ i. slice_get now i) (sym e') ∙ m.there in
            record { number = below; track = is; there = here; is = same ∙ ap (λ (t : Track). t.elements) (some_same was m.track mine) ∙ m.is })
        | inr ne ↦ record { number = m.number; track = m.track; there = get_set_other now below m.number is ne ∙ m.there; is = m.is }
      ];
    }

pub back_all : (g : Graph) (number past below : ℕ) (old now : List Track) → length now ≤ below → GoesBack g number past below old now →
    AreTracked g number past now
back_all g number past below old now le b = λ k track there. b.done k track there (omega (arith, slice_get_within now k track there, le))

-- ---- The least hit

-- of the tracks below this one
pub record IsLeastBelow (past below least : ℕ) (tracks : List Track) : Type 0 where
  pub to_past : least ≤ past
  pub no_more : (k : ℕ) (track : Track) → slice_get tracks k ≡ Some track → k < below → least ≤ track.hit
  pub one : (least ≡ past) ⊎ ((track : Track) × (number : ℕ) × (slice_get tracks number ≡ Some track) × (least ≡ track.hit))

-- a conflict below that node is one below a later node
pub widened : (g : Graph) (e : Location) (from to wide : ℕ) → to ≤ wide → ConflictOver g e from to → ConflictOver g e from wide
widened g e from to wide le c = record {
  read = c.read;
  store = c.store;
  within = c.within;
  later = c.later;
  below = let b = c.below in omega (arith, b, le);
  reads = c.reads;
  writes = c.writes;
  exposed = c.exposed;
}

pub limit_of : (g : Graph) (first number past limit : ℕ) (tracks : List Track) → first ≤ number → number < past → AreTracked g number past tracks →
    HaveReads g first past tracks → IsLeastHit past limit tracks → IsLimit g number past limit
limit_of g first number past limit tracks from lt are have is =
    let last : limit < past → Conflict g number (suc limit) = λ less. elim is.one [
      | inl e ↦ absurd (omega (arith, less, e))
      | inr p ↦ (
        p.0.elements,
        subst (λ (n : ℕ). ConflictOver g p.0.elements number (suc n)) (sym p.3)
            ((are p.1 p.0 p.2).hit.conflict (omega (arith, less, p.3))),
      )
    ] in
    record {
      later = elim (eq-or-lt_of_le is.to_past) [
        | inl e ↦ omega (arith, e, lt)
        | inr less ↦ (let c = (last less).1 in let a = c.within in let b = c.later in let d = c.below in omega (arith, a, b, d))
      ];
      to_past = is.to_past;
      free = λ p. (
          let c = p.1 in
          let a = c.within in let b = c.later in let d = c.below in
          let h = have c.read p.0 (omega (arith, from, a)) (omega (arith, b, d, is.to_past)) c.reads in
          let t = are h.number h.track h.there in
          let wide : ConflictOver g p.0 number h.track.hit = widened g p.0 number limit h.track.hit (is.least h.number h.track h.there) c in
          t.hit.free (subst (λ (e : Location). ConflictOver g e number h.track.hit) (sym h.is) wide));
      conflict = last;
    }

-- ---- Locations that are read

pub tracks_kept : (past : ℕ) (tracks : List Track) (IsRead : Location → Type 0) → ((e : Location) → IsRead e → HasTrack tracks e) →
    AddsTracks past IsRead tracks tracks
tracks_kept past tracks IsRead have = record { kept = λ e h. h; added = have; fresh = λ k track there. inl there }

pub track_added : (past : ℕ) (tracks : List Track) (one : Track) → one.next ≡ past → one.hit ≡ past →
    AddsTracks past (λ read. one.elements ≡ read) tracks (tracks ++ one ∷ [])
track_added past tracks one next hit = record {
  kept = λ e h. record {
    number = h.number;
    track = h.track;
    there = get_below tracks one h.number (slice_get_within tracks h.number h.track h.there) ∙ h.there;
    is = h.is;
  };
  added = λ e is. record { number = length tracks; track = one; there = get_last tracks one; is = is };
  fresh = λ k track there. elim (get_push tracks one k track there) [
    | inl was ↦ inl was
    | inr is ↦ inr (ap (λ (t : Track). t.next) (sym is.1) ∙ next, ap (λ (t : Track). t.hit) (sym is.1) ∙ hit)
  ];
}

-- what was added and what is added then
pub tracks_more : (past : ℕ) (First Second IsRead : Location → Type 0) (old mid new : List Track) →
    ((e : Location) → IsRead e → First e ⊎ Second e) → AddsTracks past First old mid → AddsTracks past Second mid new → AddsTracks past IsRead old new
tracks_more past First Second IsRead old mid new either a b = record {
  kept = λ e h. b.kept e (a.kept e h);
  added = λ e r. elim (either e r) [ inl x ↦ b.kept e (a.added e x) | inr y ↦ b.added e y ];
  fresh = λ k track there. elim (b.fresh k track there) [ inl was ↦ a.fresh k track was | inr end ↦ inr end ];
}

pub at_end_more : (past : ℕ) (IsRead : Location → Type 0) (old new : List Track) → AreAtEnd past old → AddsTracks past IsRead old new → AreAtEnd past new
at_end_more past IsRead old new are a = λ k track there. elim (a.fresh k track there) [ inl was ↦ are k track was | inr end ↦ end ]

pub tracked_at_end : (g : Graph) (past : ℕ) (tracks : List Track) → AreAtEnd past tracks → AreTracked g past past tracks
tracked_at_end g past tracks are = λ k track there.
    let d = are k track there in
    record {
      next = record {
        from_there = omega (arith, d.0);
        to_past = omega (arith, d.0);
        none = λ node a b. absurd (omega (arith, a, b, d.0));
        writes = λ lt. absurd (omega (arith, lt, d.0));
      };
      hit = record {
        to_past = omega (arith, d.1);
        free = λ c. (let a = c.within in let b = c.later in let e = c.below in absurd (omega (arith, a, b, e, d.1)));
        conflict = λ lt. absurd (omega (arith, lt, d.1));
      };
    }

pub reads_is : (g : Graph) (n : ℕ) (x : Node) (e : Location) (answer : Bool) → NodeAt g n x → (IsTrue answer ↔ Contains x.reads e) →
    IsTrue answer ↔ ReadsElements g e n
reads_is g n x e answer at k = (
  λ h. record { is = x; at = at; reads = k.0 h },
  λ r. k.1 (subst (λ (y : Node). Contains y.reads e) (same_node g n r.is x r.at at) r.reads),
)

-- what is among the first elements of a list, or the next one
pub one_more_read : (reads : List Location) (k : ℕ) (none : Location) → k < length reads → (e : Location) →
    ((i : ℕ) × (i < k + 1) × (slice_get reads i ≡ Some e)) → ((i : ℕ) × (i < k) × (slice_get reads i ≡ Some e)) ⊎ (get_or reads k none ≡ e)
one_more_read reads k none lt e p = elim (same_or_other p.0 k) [
  | inl is ↦ inr (some_same (get_or reads k none) e (sym (slice_get-get_or reads k none lt) ∙ ap (λ (i : ℕ). slice_get reads i) (sym is) ∙ p.2))
  | inr other ↦ inl (p.0, omega (arith, p.1, other), p.2)
]

pub reads_all : (past : ℕ) (reads : List Location) (count : ℕ) (old new : List Track) → length reads ≤ count →
    AddsTracks past (λ e. (i : ℕ) × (i < count) × (slice_get reads i ≡ Some e)) old new → AddsTracks past (Contains reads) old new
reads_all past reads count old new le a = record {
  kept = a.kept;
  added = λ e k. (let d = contained reads e k in a.added e (d.0, omega (arith, d.1, le), d.2));
  fresh = a.fresh;
}

pub have_more : (g : Graph) (first n past : ℕ) (x : Node) (old new : List Track) → NodeAt g n x → AddsTracks past (Contains x.reads) old new →
    HaveReads g first n old → HaveReads g first (n + 1) new
have_more g first n past x old new at a have = λ node e from lt r. elim (same_or_other node n) [
  | inl is ↦ a.added e (subst (λ (y : Node). Contains y.reads e) (same_node g n r.is x (subst (λ (m : ℕ). NodeAt g m r.is) is r.at) at) r.reads)
  | inr other ↦ a.kept e (have node e from (omega (arith, lt, other)) r)
]
