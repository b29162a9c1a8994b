-- The fewest boundaries in straight code, as they are placed, and as others are taken away.
use Rattle.std.proofs.Common.{◌≡◌, ◌⊎◌, ◌↔◌, inl, inr, ℕ, zero, suc, ◌-◌, ◌<◌, ◌≤◌, Bool, true, false, List, [], ◌∷◌, length, get_or, set, Some, refl, ap, sym}
use Rattle.std.proofs.Common.{subst, ◌∙◌, arith, length-set}
use Rattle.std.specs.Prelude.{slice_get, Contains}
use Rattle.std.proofs.Math.Nat.{eq-or-lt_of_le}
use Rattle.std.proofs.lemmas.Option.{slice_get-get_or, get_or_from_slice_get}
use Rattle.std.proofs.lemmas.List.{length-map}
use Rattle.flow_graph.specs.Nodes.{Graph}
use Rattle.flow_graph.specs.IdempotentCuts.{Boundaries, IsEdge, IsLock, IsUnlock, HasBefore, HasBoundaryAfter, Writes, AreCuts, locks}
use Rattle.flow_graph.proofs.Public.{below_or_past, same_or_other}
use Rattle.region_cutter.specs.declared.straight.Stretch.{Stretch}
use Rattle.region_cutter.specs.FewestCuts.{IsPlain, Synchronises, IsStretch, Divides, one_region, region_and, AreFewest, AreInside, none_inside, one_inside}
use Rattle.region_cutter.specs.FewestCuts.{HasFewest, AreFewestCuts, NoneHasFewer, AreStretches}
use Rattle.region_cutter.specs.links.FewBoundaries.{ArePlaced, AreFewIn}
use Rattle.region_cutter.specs.links.BoundaryTrials as t
use Rattle.region_cutter.proofs.Lists.{get_set_same, get_set_other, answered, asked, some_same}
use Rattle.region_cutter.proofs.TrialParts.{contained}
use Rattle.region_cutter.proofs.BoundariesEverywhere.{locked, places_everywhere}
use Rattle.region_cutter.proofs.FewestRegions.{begins_before}
use Rattle.region_cutter.proofs.StretchRegions.{plain_no_lock, plain_no_unlock, has_before, divided}
use Rattle.region_cutter.proofs.StretchPaths.{AreLocked, few_idempotent}

-- ---- Boundaries inside straight code

fewest_bound : (g : Graph) (first past : ℕ) (cuts : List ℕ) → IsStretch g first past → AreFewest g first past cuts → NoneHasFewer g first past (length cuts)
fewest_bound g first past cuts s f = λ b others c inside. f.fewest others (divided g b first past others s c inside)

inside_same : (old new : Boundaries) (past from : ℕ) (cuts : List ℕ) → ((n : ℕ) → from < n → n < past → slice_get new.before n ≡ slice_get old.before n) →
    AreInside old past from cuts → AreInside new past from cuts
inside_same old new past from [] same (none_inside _ never) = none_inside from (λ n a b h. never n a b (sym (same n a b) ∙ h))
inside_same old new past from (cut ∷ cuts) same (one_inside _ _ _ a before stands never rest) =
    one_inside from cut cuts a before (same cut a before ∙ stands) (λ n x y h. never n x y (sym (same n x (omega (arith, y, before))) ∙ h))
    (inside_same old new past cut cuts (λ n x y. same n (omega (arith, x, a)) y) rest)

-- the nodes of which boundaries are said to be chosen, from the first one on
head : (cut n : ℕ) (cuts : List ℕ) → Contains (cut ∷ cuts) n → (cut ≡ n) ⊎ Contains cuts n
head cut n cuts (zero, lt, is) = inl is
head cut n cuts (suc k, lt, is) = inr (k, omega (arith, lt), is)

here : (cut : ℕ) (cuts : List ℕ) → Contains (cut ∷ cuts) cut
here cut cuts = (0, omega arith, refl)

more : (cut n : ℕ) (cuts : List ℕ) → Contains cuts n → Contains (cut ∷ cuts) n
more cut n cuts (k, lt, is) = (suc k, omega (arith, lt), is)

-- regions end at later and later nodes
pub divides_later : (g : Graph) (past from : ℕ) (cuts : List ℕ) → Divides g past from cuts → (n : ℕ) → Contains cuts n → (from < n) × (n < past)
divides_later g past from [] (one_region _ lt free) n k = absurd (let l = k.1 in omega (arith, l))
divides_later g past from (cut ∷ cuts) (region_and _ _ _ lt free rest) n k = elim (head cut n cuts k) [
  | inl is ↦ (omega (arith, lt, is), let b = begins_before g past cut cuts rest in omega (arith, b, is))
  | inr k' ↦ (let d = divides_later g past cut cuts rest n k' in let a = d.0 in (omega (arith, lt, a), d.1))
]

inside_from : (g : Graph) (b : Boundaries) (past from : ℕ) (cuts : List ℕ) → Divides g past from cuts →
    ((n : ℕ) → from < n → n < past → (slice_get b.before n ≡ Some true) ↔ Contains cuts n) → AreInside b past from cuts
inside_from g b past from [] (one_region _ lt free) is = none_inside from (λ n a c h. (let k = (is n a c).0 h in let l = k.1 in absurd (omega (arith, l))))
inside_from g b past from (cut ∷ cuts) (region_and _ _ _ lt free rest) is =
    let before = begins_before g past cut cuts rest in
    one_inside from cut cuts lt before ((is cut lt before).1 (here cut cuts))
    (λ n a c h. elim (head cut n cuts ((is n a (omega (arith, c, before))).0 h)) [
      | inl e ↦ absurd (omega (arith, e, c))
      | inr k ↦ (let d = divides_later g past cut cuts rest n k in let l = d.0 in absurd (omega (arith, l, c)))
    ])
    (inside_from g b past cut cuts rest (λ n a c. (
      λ h. elim (head cut n cuts ((is n (omega (arith, a, lt)) c).0 h)) [ inl e ↦ absurd (omega (arith, e, a)) | inr k ↦ k ],
      λ k. (is n (omega (arith, a, lt)) c).1 (more cut n cuts k),
    )))

pub contains_at : (xs : List ℕ) (k none : ℕ) → k < length xs → Contains xs (get_or xs k none)
contains_at xs k none lt =
    (k, lt, get_or_from_slice_get xs k (get_or xs k none) (get_or xs k none) (slice_get-get_or xs k none lt))

-- ---- Boundaries that are taken away

-- of the boundaries inside those that are left
record AreLeft (b : Boundaries) (past from : ℕ) (cuts : List ℕ) : Type 0 where
  pub left : List ℕ
  pub inside : AreInside b past from left
  pub fewer : length left ≤ length cuts
  pub same : length left ≡ length cuts → left ≡ cuts

inside_earlier : (b : Boundaries) (past from cut : ℕ) (cuts : List ℕ) → from < cut → ((n : ℕ) → from < n → n ≤ cut → ¬ (HasBefore b n)) →
    AreInside b past cut cuts → AreInside b past from cuts
inside_earlier b past from cut [] lt none (none_inside _ never) = none_inside from (λ n a c. elim (below_or_past cut n) [
  | inl later ↦ never n later c
  | inr most ↦ none n a most
])
inside_earlier b past from cut (next ∷ cuts) lt none (one_inside _ _ _ a before stands never rest) =
    one_inside from next cuts (omega (arith, lt, a)) before stands (λ n x y. elim (below_or_past cut n) [
      | inl later ↦ never n later y
      | inr most ↦ none n x most
    ]) rest

left_of : (old new : Boundaries) (past from : ℕ) (cuts : List ℕ) → ((n : ℕ) → HasBefore new n → HasBefore old n) → AreInside old past from cuts →
    AreLeft new past from cuts
left_of old new past from [] less (none_inside _ never) =
    record { left = []; inside = none_inside from (λ n a c h. never n a c (less n h)); fewer = omega arith; same = λ e. refl }
left_of old new past from (cut ∷ cuts) less (one_inside _ _ _ a before stands never rest) =
    let l = left_of old new past cut cuts less rest in
    let fewer = l.fewer in
    elim (has_before new cut) [
      | inl has ↦ record {
        left = cut ∷ l.left;
        inside = one_inside from cut l.left a before has (λ n x y h. never n x y (less n h)) l.inside;
        fewer = omega (arith, fewer);
        same = λ e. ap (λ (cs : List ℕ). cut ∷ cs) (l.same (omega (arith, e)));
      }
      | inr gone ↦ record {
        left = l.left;
        inside = inside_earlier new past from cut l.left a (λ n x y. elim (eq-or-lt_of_le y) [
          | inl e ↦ subst (λ (m : ℕ). ¬ (HasBefore new m)) (sym e) gone
          | inr lt ↦ (λ h. never n x lt (less n h))
        ]) l.inside;
        fewer = omega (arith, fewer);
        same = λ e. absurd (omega (arith, fewer, e));
      }
    ]

-- a cut set has them all, since there can't be fewer
pub still_fewest : (g : Graph) (old new : Boundaries) → AreCuts g new → ((n : ℕ) → HasBefore new n → HasBefore old n) → AreFewestCuts g old →
    AreFewestCuts g new
still_fewest g old new c less are first past s =
    let h = are first past s in
    let l = left_of old new past first h.cuts less h.inside in
    let least = h.fewest.fewest l.left (divided g new first past l.left s c l.inside) in
    let fewer = l.fewer in
    let same : l.left ≡ h.cuts = l.same (omega (arith, least, fewer)) in
    record {
      cuts = h.cuts;
      inside = subst (λ (cs : List ℕ). AreInside new past first cs) same l.inside;
      fewest = h.fewest;
      none_fewer = h.none_fewer;
    }

-- ---- Two stretches

pub no_sync : (g : Graph) (node : ℕ) → IsPlain g node → ¬ (Synchronises g node)
no_sync g node plain s = elim s.takes_or_gives [
  | inl takes ↦ plain_no_lock g node plain takes
  | inr gives ↦ plain_no_unlock g node plain gives
]

pub apart : (g : Graph) (first past first' past' : ℕ) → IsStretch g first past → IsStretch g first' past' → first < first' → past ≤ first'
apart g first past first' past' s s' lt = elim (below_or_past first' past) [
  | inr le ↦ le
  | inl inner ↦ (
      let node : ℕ = first' - 1 in
      let is : first' ≡ suc node = omega arith in
      let entry : IsEdge g s'.before (suc node) = subst (λ (n : ℕ). IsEdge g s'.before n) is s'.enters in
      let same : s'.before ≡ node = s.only_from node s'.before (omega arith) (omega arith) entry in
      absurd (no_sync g node (s.plain node (omega arith) (omega arith)) (subst (λ (n : ℕ). Synchronises g n) same s'.begins)))
]

-- ---- Placing

-- before the nodes up to that one none stands
pub record AreCleared (first past number : ℕ) (old new : List Bool) : Type 0 where
  pub long : length new ≡ length old
  pub outside : (node : ℕ) → ¬ ((first < node) × (node < past)) → slice_get new node ≡ slice_get old node
  pub cleared : (node : ℕ) → first < node → node < number → ¬ (slice_get new node ≡ Some true)

pub cleared_none : (first past number : ℕ) (old : List Bool) → number ≤ suc first → AreCleared first past number old old
cleared_none first past number old le = record {
  long = refl;
  outside = λ node never. refl;
  cleared = λ node a c. absurd (omega (arith, a, c, le));
}

set_no : (xs : List Bool) (k : ℕ) → ¬ (slice_get (set xs k false) k ≡ Some true)
set_no [] k e = absurd (cc)
set_no (x ∷ xs) zero e = absurd (cc)
set_no (x ∷ xs) (suc k) e = set_no xs k e

pub cleared_more : (first past number : ℕ) (old now : List Bool) → first < number → number < past → AreCleared first past number old now →
    AreCleared first past (suc number) old (set now number false)
cleared_more first past number old now a b c = record {
  long = length-set now number false ∙ c.long;
  outside = λ node never. get_set_other now number node false (λ e. never (omega (arith, e, a), omega (arith, e, b))) ∙ c.outside node never;
  cleared = λ node x y. elim (eq-or-lt_of_le y) [
    | inl e ↦ subst (λ (n : ℕ). ¬ (slice_get (set now number false) n ≡ Some true)) (omega (arith, e)) (set_no now number)
    | inr lt ↦ (λ h. c.cleared node x (omega (arith, lt)) (sym (get_set_other now number node false (λ e. absurd (omega (arith, e, lt)))) ∙ h))
  ];
}

-- of the chosen nodes the first so many have their boundary
pub record ArePlacedBelow (first past count : ℕ) (chosen : List ℕ) (old new : List Bool) : Type 0 where
  pub long : length new ≡ length old
  pub outside : (node : ℕ) → ¬ ((first < node) × (node < past)) → slice_get new node ≡ slice_get old node
  pub only : (node : ℕ) → first < node → node < past → slice_get new node ≡ Some true → Contains chosen node
  pub each : (k node : ℕ) → k < count → slice_get chosen k ≡ Some node → slice_get new node ≡ Some true

pub placed_none : (first past number : ℕ) (chosen : List ℕ) (old now : List Bool) → past ≤ number → AreCleared first past number old now →
    ArePlacedBelow first past 0 chosen old now
placed_none first past number chosen old now le c = record {
  long = c.long;
  outside = c.outside;
  only = λ node a b h. absurd (c.cleared node a (omega (arith, b, le)) h);
  each = λ k node lt. absurd (omega (arith, lt));
}

pub placed_more : (first past count cut : ℕ) (chosen : List ℕ) (old now : List Bool) → slice_get chosen count ≡ Some cut → Contains chosen cut →
    first < cut → cut < past → cut < length now → ArePlacedBelow first past count chosen old now →
    ArePlacedBelow first past (suc count) chosen old (set now cut true)
placed_more first past count cut chosen old now at among a b lt p = record {
  long = length-set now cut true ∙ p.long;
  outside = λ node never. get_set_other now cut node true (λ e. never (omega (arith, e, a), omega (arith, e, b))) ∙ p.outside node never;
  only = λ node x y h. elim (same_or_other node cut) [
    | inl e ↦ subst (λ (n : ℕ). Contains chosen n) (sym e) among
    | inr ne ↦ p.only node x y (sym (get_set_other now cut node true ne) ∙ h)
  ];
  each = λ k node l is. elim (same_or_other node cut) [
    | inl e ↦ ap (λ (n : ℕ). slice_get (set now cut true) n) e ∙ get_set_same now cut true lt
    | inr ne ↦ get_set_other now cut node true ne ∙ p.each k node (elim (same_or_other k count) [
      | inl same ↦ absurd (ne (some_same node cut (sym is ∙ ap (λ (n : ℕ). slice_get chosen n) same ∙ at)))
      | inr other ↦ omega (arith, l, other)
    ]) is
  ];
}

pub placed_all : (first past count : ℕ) (chosen : List ℕ) (old now : List Bool) → length chosen ≤ count → ArePlacedBelow first past count chosen old now →
    ArePlaced first past chosen old now
placed_all first past count chosen old now le p = record {
  long = p.long;
  outside = p.outside;
  inside = λ node a b. (
    p.only node a b,
    λ k. let d = contained chosen node k in let lt = d.1 in p.each d.0 node (omega (arith, lt, le)) d.2,
  );
}

-- ---- All stretches

pub few_none : (g : Graph) (stretches : List Stretch) (b : Boundaries) → t.AreEverywhere g b → AreFewIn g stretches 0 b
few_none g stretches b e =
    let p = places_everywhere g b e in
    record {
      after = e.after;
      long = p.long;
      places = p.places;
      stands = λ node w. inl (p.stands node w);
      done = λ k s lt. absurd (omega (arith, lt));
    }

-- where boundaries were placed in one more stretch
pub few_more : (g : Graph) (stretches : List Stretch) (count : ℕ) (s : Stretch) (chosen : List ℕ) (old new : Boundaries) → AreStretches g stretches →
    slice_get stretches count ≡ Some s → AreFewest g s.first s.past chosen → ((n : ℕ) → Contains chosen n → Writes g n) →
    ArePlaced s.first s.past chosen old.before new.before → new.after_lock ≡ old.after_lock → AreFewIn g stretches count old →
    AreFewIn g stretches (suc count) new
few_more g stretches count s chosen old new are at fewest writes p after f =
    let stretch = are.is count s at in
    let in_or = λ (node : ℕ). in_or_out s.first s.past node in
    record {
      after = after ∙ f.after;
      long = p.long ∙ f.long;
      places = λ node has. elim (in_or node) [
        | inl i ↦ inr (writes node ((p.inside node i.0 i.1).0 has))
        | inr never ↦ f.places node (sym (p.outside node never) ∙ has)
      ];
      stands = λ node w. elim (in_or node) [
        | inl i ↦ inr (record { first = s.first; past = s.past; stretch = stretch; later = i.0; before = i.1 })
        | inr never ↦ elim (f.stands node w) [ inl has ↦ inl (p.outside node never ∙ has) | inr i ↦ inr i ]
      ];
      done = λ k u lt there. elim (eq-or-lt_of_le lt) [
        | inl e ↦ (
            let same : s ≡ u = some_same s u (sym at ∙ ap (λ (n : ℕ). slice_get stretches n) (omega (arith, e)) ∙ there) in
            subst (λ (v : Stretch). HasFewest g new v.first v.past) same (record {
              cuts = chosen;
              inside = inside_from g new s.past s.first chosen fewest.divides p.inside;
              fewest = fewest;
              none_fewer = fewest_bound g s.first s.past chosen stretch fewest;
            }))
        | inr less ↦ (
            let h = f.done k u (omega (arith, less)) there in
            let far = apart g u.first u.past s.first s.past (are.is k u there) stretch (are.in_order k count u s (omega (arith, less)) there at) in
            record {
              cuts = h.cuts;
              inside = inside_same old new u.past u.first h.cuts (λ n a b. p.outside n (λ i. (let l = i.0 in omega (arith, l, b, far)))) h.inside;
              fewest = h.fewest;
              none_fewer = h.none_fewer;
            })
      ];
    }
  where
    in_or_out : (first past node : ℕ) → ((first < node) × (node < past)) ⊎ ¬ ((first < node) × (node < past))
    in_or_out first past node = elim (below_or_past first node) [
      | inr le ↦ inr (λ i. (let l = i.0 in omega (arith, l, le)))
      | inl lt ↦ elim (below_or_past node past) [
        | inl less ↦ inl (lt, less)
        | inr le ↦ inr (λ i. (let l = i.1 in omega (arith, l, le)))
      ]
    ]

-- with all stretches done, what is left are cuts at writes, and the fewest
pub few_kept : (g : Graph) (stretches : List Stretch) (b : Boundaries) (count : ℕ) → length stretches ≤ count → AreStretches g stretches →
    AreFewIn g stretches count b → t.AreKept g b × AreFewestCuts g b
few_kept g stretches b count le are f =
    let few : AreFewestCuts g b = λ first past s. (
    let k : Contains stretches (record { first = first; past = past }) = are.all first past s in
    let d = contained stretches (record { first = first; past = past }) k in
    let lt = d.1 in
    f.done d.0 (record { first = first; past = past }) (omega (arith, lt, le)) d.2) in
    let after : (n : ℕ) → IsLock g n → HasBoundaryAfter g b n = λ n lock. elim lock [
      | locks x lock next at is ↦ record {
        locks = locks x lock next at is;
        stands = subst (λ (bs : List Bool). slice_get bs n ≡ Some true) (sym f.after) (answered t.takes g.nodes n x at (ap t.locks is));
      }
    ] in
    let before : (n : ℕ) → IsUnlock g n → HasBefore b n = λ n unlock. elim (f.stands n (inl unlock)) [
      | inl has ↦ has
      | inr i ↦ (let l = i.later in absurd (plain_no_unlock g n (i.stretch.plain n (omega (arith, l)) i.before) unlock))
    ] in
    let locked' : AreLocked g b = record { past_locks = after; before_unlocks = before } in (
      record {
        cuts = record {
          past_locks = after;
          before_unlocks = before;
          idempotent = few_idempotent g b locked' (λ n w. f.stands n (inr w)) few;
        };
        places = record {
          after = λ n has.
              let k = asked t.takes g.nodes n (subst (λ (bs : List Bool). slice_get bs n ≡ Some true) f.after has) in
              locked g n k.is k.is.action k.at refl k.yes;
          before = f.places;
          before_count = f.long;
          after_count = ap length f.after ∙ simp length-map;
        };
      },
      few,
    )
