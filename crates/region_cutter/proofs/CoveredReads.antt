-- What is known of reads stays so as boundaries are taken away, and where one is put back, of the nodes that don't lie ahead of it.
use Rattle.std.proofs.Common.{◌≡◌, ◌⊎◌, ◌↔◌, inl, inr, ℕ, ◌+◌, ◌<◌, ◌≤◌, ◌++◌, ◌∷◌, [], Bool, true, false, List, length, replicate, set, Vec, Global}
use Rattle.std.proofs.Common.{Some, refl, ap, sym, subst, ◌∙◌, arith, length-set}
use Rattle.std.specs.Prelude.{slice_get, IsTrue}
use Rattle.std.proofs.lemmas.Bool.{cases_eq}
use Rattle.std.proofs.lemmas.List.{length-replicate, length_push}
use Rattle.std.proofs.lemmas.Option.{slice_get_within}
use Rattle.ido_base.specs.declared.location.Location.{Location}
use Rattle.flow_graph.specs.Nodes.{Node, Graph}
use Rattle.flow_graph.specs.Liveness.{NodeAt}
use Rattle.flow_graph.specs.IdempotentCuts.{Boundaries, HasBefore, IsBoundary, BeginsRegion, past_lock, at_boundary, without}
use Rattle.region_cutter.specs.declared.covered.Read.{Read}
use Rattle.region_cutter.specs.links.GraphSearch.{ReachesEnd, there, goes_on, IsSeen}
use Rattle.region_cutter.specs.links.RemovalPaths.{Inside, InsidePast, IsUnwritten, AreAhead}
use Rattle.region_cutter.specs.links.CoveredReads.{IsRead, IsCovered, IsFlagged, HasPlace, AreUnflagged, AreCovered, AreCoveredAfter, AreFound, IsNoted, Notes}
use Rattle.region_cutter.specs.links.CoveredReads.{Flags}
use Rattle.region_cutter.proofs.Edges.{same_node}
use Rattle.region_cutter.proofs.Lists.{get_push, get_last, get_below, get_set_same, get_set_other, had, some_same}
use Rattle.region_cutter.proofs.ConflictPaths.{begins_before, inside_before, reaches_more}
use Rattle.region_cutter.proofs.GraphSearchComplete.{none_seen}

-- ---- With and without a boundary

pub unwritten_with : (g : Graph) (b : Boundaries) (n : ℕ) (element : Location) (node : ℕ) → HasBefore b n → IsUnwritten g (without b n) element node →
    IsUnwritten g b element node
unwritten_with g b n element node has u =
    along u.from (record { from = u.from; begins = begins_before g b n u.from u.begins; comes = there u.from refl }) u.comes
  where
    along : (x : ℕ) → IsUnwritten g b element x → ReachesEnd (InsidePast g (without b n) element) (λ m. m ≡ node) x → IsUnwritten g b element node
    along x h (there _ is) = subst (λ (m : ℕ). IsUnwritten g b element m) is h
    along x h (goes_on _ to step rest) = along to (elim (cases_eq to n) [
      | inl here ↦ record { from = to; begins = at_boundary (subst (λ (m : ℕ). HasBefore b m) (sym here) has); comes = there to refl }
      | inr other ↦ record {
        from = h.from;
        begins = h.begins;
        comes = reaches_more x to
            (record { inside = record { edge = step.inside.edge; free = inside_before g b n x to other step.inside.free }; past = step.past }) h.from h.comes;
      }
    ]) rest

inside_without : (g : Graph) (b : Boundaries) (n x y : ℕ) → Inside g b x y → Inside g (without b n) x y
inside_without g b n x y i = record { edge = i.edge; free = λ over. i.free (boundary over) }
  where
    boundary : IsBoundary g (without b n) x y → IsBoundary g b x y
    boundary (inl after) = inl (record { locks = after.locks; stands = after.stands })
    boundary (inr has) = inr (had b.before n y has)

unwritten_without : (g : Graph) (b : Boundaries) (n : ℕ) (ahead : List Bool) (element : Location) (node : ℕ) → AreAhead g (without b n) n ahead →
    node < length g.nodes → ¬ (IsSeen ahead node) → IsUnwritten g b element node →
    IsUnwritten g (without b n) element node
unwritten_without g b n ahead element node are lt free u =
    record { from = u.from; begins = begins u.from u.begins (inside u.from u.comes); comes = past u.from u.comes }
  where
    past : (x : ℕ) → ReachesEnd (InsidePast g b element) (λ m. m ≡ node) x → ReachesEnd (InsidePast g (without b n) element) (λ m. m ≡ node) x
    past x (there _ is) = there x is
    past x (goes_on _ to step rest) = goes_on x to (record { inside = inside_without g b n x to step.inside; past = step.past }) (past to rest)

    inside : (x : ℕ) → ReachesEnd (InsidePast g b element) (λ m. m ≡ node) x → ReachesEnd (Inside g (without b n)) (λ m. m ≡ node) x
    inside x (there _ is) = there x is
    inside x (goes_on _ to step rest) = goes_on x to (inside_without g b n x to step.inside) (inside to rest)

    begins : (x : ℕ) → BeginsRegion g b x → ReachesEnd (Inside g (without b n)) (λ m. m ≡ node) x → BeginsRegion g (without b n) x
    begins x (past_lock from after edge) comes = past_lock from (record { locks = after.locks; stands = after.stands }) edge
    begins x (at_boundary has) comes = elim (cases_eq x n) [
      | inl here ↦ absurd (free (are node lt (subst (λ (m : ℕ). ReachesEnd (Inside g (without b n)) (λ k. k ≡ node) m) here comes)))
      | inr other ↦ at_boundary (get_set_other b.before n x false other ∙ has)
    ]

pub covered_without : (g : Graph) (b : Boundaries) (n : ℕ) (covered : List (Vec Bool Global)) → HasBefore b n → AreCovered g b covered →
    AreCovered g (without b n) covered
covered_without g b n covered has h read flagged elements is u = h read flagged elements is (unwritten_with g b n elements read.node has u)

pub covered_after : (g : Graph) (now : Boundaries) (n : ℕ) (found : List Read) (ahead : List Bool) (gone : Bool) (old new : List (Vec Bool Global)) →
    AreAhead g now n ahead → AreCovered g now old → AreFound g now found → Notes found ahead gone old new → AreCoveredAfter g now n gone old new
covered_after g now n found ahead gone old new are h f notes = record {
  without_it = λ e read flagged. elim (notes.new_is read flagged) [
    | inl known ↦ h read known
    | inr noted ↦ f noted.place read noted.is
  ];
  with_it = λ b e is has k read flagged. elim (notes.new_is read flagged) [
    | inl known ↦ k read known
    | inr noted ↦ (λ elements reads u. elim noted.free [
      | inl all ↦ absurd (let yes' : gone ≡ true = all in cc)
      | inr free ↦ subst (λ (c : Boundaries). AreFound g c found) is f noted.place read noted.is elements reads
          (unwritten_without g b n ahead elements read.node (subst (λ (c : Boundaries). AreAhead g c n ahead) is are)
          (slice_get_within g.nodes read.node reads.is reads.at) free u)
    ])
  ];
}

-- ---- Notes

-- of the nodes below the number there is room for each read, and none is flagged
pub record AreUnflaggedBelow (g : Graph) (number : ℕ) (covered : List (Vec Bool Global)) : Type 0 where
  pub long : length covered ≡ number
  pub none : (read : Read) → ¬ (IsFlagged covered read)
  pub places : (read : Read) (elements : Location) → read.node < number → IsRead g read elements → HasPlace covered read

pub unflagged_none : (g : Graph) (covered : List (Vec Bool Global)) → covered ≡ [] → AreUnflaggedBelow g 0 covered
unflagged_none g covered is = record {
  long = ap length is;
  none = λ read f. (let at = f.at in let lt = slice_get_within covered read.node f.flags at in omega (arith, lt, ap length is));
  places = λ read elements below reads. absurd (omega (arith, below));
}

pub unflagged_more : (g : Graph) (n : ℕ) (x : Node) (old : List (Vec Bool Global)) (v : Vec Bool Global) → NodeAt g n x →
    v.items ≡ replicate (length x.reads) false → AreUnflaggedBelow g n old → AreUnflaggedBelow g (n + 1) (old ++ v ∷ [])
unflagged_more g n x old v at is h = record {
  long = (let long = h.long in omega (arith, length_push old v, long));
  none = λ read f. elim (get_push old v read.node f.flags f.at) [
    | inl before ↦ h.none read (record { flags = f.flags; at = before; stands = f.stands })
    | inr last ↦ none_seen (length x.reads) read.number (
        let e : f.flags.items ≡ replicate (length x.reads) false = ap (λ (w : Vec Bool Global). w.items) (sym last.1) ∙ is in
        subst (λ (xs : List Bool). IsSeen xs read.number) e f.stands)
  ];
  places = λ read elements below reads. elim (cases_eq read.node n) [
    | inl here ↦ record {
      flags = v;
      at = subst (λ (k : ℕ). slice_get (old ++ v ∷ []) k ≡ Some v) (h.long ∙ sym here) (get_last old v);
      within =
          let same : reads.is ≡ x = same_node g n reads.is x (subst (λ (k : ℕ). NodeAt g k reads.is) here reads.at) at in
          let lt = slice_get_within reads.is.reads read.number elements reads.reads in
          let lt' : read.number < length x.reads = subst (λ (y : Node). read.number < length y.reads) same lt in
          omega (arith, lt', ap length is, length-replicate (length x.reads) false);
    }
    | inr other ↦ (
        let p = h.places read elements (omega (arith, below, other)) reads in
        let lt = slice_get_within old read.node p.flags p.at in
        record { flags = p.flags; at = get_below old v read.node lt ∙ p.at; within = p.within })
  ];
}

pub unflagged_all : (g : Graph) (n : ℕ) (covered : List (Vec Bool Global)) → length g.nodes ≤ n → AreUnflaggedBelow g n covered → AreUnflagged g covered
unflagged_all g n covered all h = record {
  none = h.none;
  places = λ read elements reads. h.places read elements
      (let lt = slice_get_within g.nodes read.node reads.is reads.at in omega (arith, lt, all)) reads;
}

pub flagged_is : (covered : List (Vec Bool Global)) (read : Read) (v : Vec Bool Global) (answer : Bool) → slice_get covered read.node ≡ Some v →
    (IsTrue answer ↔ (slice_get v.items read.number ≡ Some true)) → IsTrue answer ↔ IsFlagged covered read
flagged_is covered read v answer at k = (
  λ t. record { flags = v; at = at; stands = k.0 t },
  λ f. k.1 (subst (λ (w : Vec Bool Global). slice_get w.items read.number ≡ Some true) (some_same f.flags v (sym f.at ∙ at)) f.stands),
)

pub flagged_none : (covered : List (Vec Bool Global)) (read : Read) → length covered ≤ read.node → IsTrue false ↔ IsFlagged covered read
flagged_none covered read le = (
  λ t. let wrong : false ≡ true = t in absurd (cc),
  λ f. absurd (let lt = slice_get_within covered read.node f.flags f.at in omega (arith, lt, le)),
)

-- the first of those found are noted
pub record AreNotedBelow (found : List Read) (ahead : List Bool) (all : Bool) (below : ℕ) (old new : List (Vec Bool Global)) : Type 0 where
  pub kept : (read : Read) → IsFlagged old read → IsFlagged new read
  pub places : (read : Read) → HasPlace old read → HasPlace new read
  pub new_is : (read : Read) → IsFlagged new read → IsFlagged old read ⊎ IsNoted found ahead all read
  pub noted : (read : Read) (is : IsNoted found ahead all read) → is.place < below → HasPlace old read → IsFlagged new read

pub noted_none : (found : List Read) (ahead : List Bool) (all : Bool) (old : List (Vec Bool Global)) → AreNotedBelow found ahead all 0 old old
noted_none found ahead all old = record {
  kept = λ read f. f;
  places = λ read p. p;
  new_is = λ read f. inl f;
  noted = λ read is below p. absurd (omega (arith, below));
}

pub noted_more : (found : List Read) (ahead : List Bool) (all : Bool) (i : ℕ) (old now new : List (Vec Bool Global)) (read : Read) →
    slice_get found i ≡ Some read → AreNotedBelow found ahead all i old now → IsTrue all ⊎ ¬ (IsSeen ahead read.node) → Flags read now new →
    AreNotedBelow found ahead all (i + 1) old new
noted_more found ahead all i old now new read at h free f = record {
  kept = λ other k. f.kept other (h.kept other k);
  places = λ other p. f.places other (h.places other p);
  new_is = λ other flagged. elim (f.new_is other flagged) [
    | inl known ↦ h.new_is other known
    | inr same ↦ inr (subst (λ (r : Read). IsNoted found ahead all r) (sym same) (record { place = i; is = at; free = free }))
  ];
  noted = λ other is below p. elim (cases_eq is.place i) [
    | inr ne ↦ f.kept other (h.noted other is (omega (arith, below, ne)) p)
    | inl here ↦ (
        let same : read ≡ other = some_same read other (sym at ∙ ap (λ (k : ℕ). slice_get found k) (sym here) ∙ is.is) in
        subst (λ (r : Read). IsFlagged new r) same (f.flagged (h.places read (subst (λ (r : Read). HasPlace old r) (sym same) p))))
  ];
}

pub noted_over : (found : List Read) (ahead : List Bool) (all : Bool) (i : ℕ) (old now : List (Vec Bool Global)) (read : Read) →
    slice_get found i ≡ Some read → AreNotedBelow found ahead all i old now → all ≡ false → IsSeen ahead read.node →
    AreNotedBelow found ahead all (i + 1) old now
noted_over found ahead all i old now read at h some_not seen = record {
  kept = h.kept;
  places = h.places;
  new_is = h.new_is;
  noted = λ other is below p. elim (cases_eq is.place i) [
    | inr ne ↦ h.noted other is (omega (arith, below, ne)) p
    | inl here ↦ absurd (
        let same : read ≡ other = some_same read other (sym at ∙ ap (λ (k : ℕ). slice_get found k) (sym here) ∙ is.is) in
        elim is.free [
          | inl every ↦ (let is_all : all ≡ true = every in cc)
          | inr free ↦ free (subst (λ (r : Read). IsSeen ahead r.node) same seen)
        ])
  ];
}

pub noted_all : (found : List Read) (ahead : List Bool) (all : Bool) (i : ℕ) (old new : List (Vec Bool Global)) → length found ≤ i →
    AreNotedBelow found ahead all i old new → Notes found ahead all old new
noted_all found ahead all i old new le h = record {
  kept = h.kept;
  new_is = h.new_is;
  noted = λ read is p. h.noted read is (let lt = slice_get_within found is.place read is.is in omega (arith, lt, le)) p;
}

pub flags_not : (old : List (Vec Bool Global)) (read : Read) → ¬ (HasPlace old read) → Flags read old old
flags_not old read none = record { kept = λ other f. f; places = λ other p. p; new_is = λ other f. inl f; flagged = λ p. absurd (none p) }

pub no_place : (old : List (Vec Bool Global)) (read : Read) → length old ≤ read.node → ¬ (HasPlace old read)
no_place old read le p = let lt = slice_get_within old read.node p.flags p.at in omega (arith, lt, le)

pub no_room : (old : List (Vec Bool Global)) (read : Read) (v : Vec Bool Global) → slice_get old read.node ≡ Some v → length v.items ≤ read.number →
    ¬ (HasPlace old read)
no_room old read v at le p =
    let same : p.flags ≡ v = some_same p.flags v (sym p.at ∙ at) in
    let lt : read.number < length v.items = subst (λ (w : Vec Bool Global). read.number < length w.items) same p.within in
    omega (arith, lt, le)

pub flags_one : (old : List (Vec Bool Global)) (read : Read) (v v' : Vec Bool Global) → slice_get old read.node ≡ Some v →
    read.number < length v.items → v'.items ≡ set v.items read.number true → Flags read old (set old read.node v')
flags_one old read v v' at room is = record {
  kept = λ other f. elim (cases_eq other.node read.node) [
    | inr ne ↦ record { flags = f.flags; at = get_set_other old read.node other.node v' ne ∙ f.at; stands = f.stands }
    | inl here ↦ (let was : slice_get v.items other.number ≡ Some true = had_by other f here in
        record {
          flags = v';
          at = there other here;
          stands = ap (λ (xs : List Bool). slice_get xs other.number) is ∙ (elim (cases_eq other.number read.number) [
            | inl number ↦ subst (λ (k : ℕ). slice_get (set v.items read.number true) k ≡ Some true) (sym number) (get_set_same v.items read.number true room)
            | inr ne ↦ get_set_other v.items read.number other.number true ne ∙ was
          ]);
        })
  ];
  places = λ other p. elim (cases_eq other.node read.node) [
    | inr ne ↦ record { flags = p.flags; at = get_set_other old read.node other.node v' ne ∙ p.at; within = p.within }
    | inl here ↦ record {
      flags = v';
      at = there other here;
      within =
          let same : p.flags ≡ v = some_same p.flags v (sym p.at ∙ subst (λ (n : ℕ). slice_get old n ≡ Some v) (sym here) at) in
          let lt : other.number < length v.items = subst (λ (w : Vec Bool Global). other.number < length w.items) same p.within in
          omega (arith, lt, ap length is, length-set v.items read.number true);
    }
  ];
  new_is = λ other f. elim (cases_eq other.node read.node) [
    | inr ne ↦ inl (record { flags = f.flags; at = sym (get_set_other old read.node other.node v' ne) ∙ f.at; stands = f.stands })
    | inl here ↦ (
        let same : v' ≡ f.flags = some_same v' f.flags (sym (there other here) ∙ f.at) in
        let stands' : slice_get (set v.items read.number true) other.number ≡ Some true =
        subst (λ (xs : List Bool). slice_get xs other.number ≡ Some true) is (subst (λ (w : Vec Bool Global). slice_get w.items other.number ≡ Some true)
        (sym same) f.stands) in
        elim (cases_eq other.number read.number) [
          | inl number ↦ inr (one_read other read here number)
          | inr ne ↦ inl (record {
            flags = v;
            at = subst (λ (n : ℕ). slice_get old n ≡ Some v) (sym here) at;
            stands = sym (get_set_other v.items read.number other.number true ne) ∙ stands';
          })
        ])
  ];
  flagged = λ p. record {
    flags = v';
    at = there read refl;
    stands = ap (λ (xs : List Bool). slice_get xs read.number) is ∙ get_set_same v.items read.number true room;
  };
}
  where
    one_read : (one two : Read) → one.node ≡ two.node → one.number ≡ two.number → one ≡ two
    one_read one two e f = ap (λ (n : ℕ). let r : Read = record { node = n; number = one.number } in r) e ∙
        ap (λ (k : ℕ). let r : Read = record { node = two.node; number = k } in r) f

    there : (other : Read) → other.node ≡ read.node → slice_get (set old read.node v') other.node ≡ Some v'
    there other here = subst (λ (n : ℕ). slice_get (set old read.node v') n ≡ Some v') (sym here)
        (get_set_same old read.node v' (slice_get_within old read.node v at))

    had_by : (other : Read) → IsFlagged old other → other.node ≡ read.node → slice_get v.items other.number ≡ Some true
    had_by other f here =
        let same : f.flags ≡ v = some_same f.flags v (sym f.at ∙ subst (λ (n : ℕ). slice_get old n ≡ Some v) (sym here) at) in
        subst (λ (w : Vec Bool Global). slice_get w.items other.number ≡ Some true) same f.stands

pub found_none : (g : Graph) (b : Boundaries) → AreFound g b []
found_none g b k read e = absurd (cc)

pub found_more : (g : Graph) (b : Boundaries) (old : List Read) (read : Read) (elements : Location) → IsRead g read elements →
    ¬ (IsUnwritten g b elements read.node) → AreFound g b old → AreFound g b (old ++ read ∷ [])
found_more g b old read elements is covered h k other at = elim (get_push old read k other at) [
  | inl known ↦ h k other known
  | inr last ↦ subst (λ (r : Read). IsCovered g b r) last.1 (λ others is' u. covered (
      let x : is.is ≡ is'.is = same_node g read.node is.is is'.is is.at is'.at in
      let both : Some elements ≡ Some others = sym is.reads ∙ ap (λ (y : Node). slice_get y.reads read.number) x ∙ is'.reads in
      subst (λ (l : Location). IsUnwritten g b l read.node) (sym (some_same elements others both)) u))
]

pub covered_none : (g : Graph) (b : Boundaries) (covered : List (Vec Bool Global)) → ((read : Read) → ¬ (IsFlagged covered read)) → AreCovered g b covered
covered_none g b covered none read f = absurd (none read f)
