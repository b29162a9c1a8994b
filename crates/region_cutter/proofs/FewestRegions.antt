-- Regions that lead to the latest node from which one region less is needed are the fewest.
use Rattle.std.proofs.Common.{◌≡◌, ◌⊎◌, inl, inr, ℕ, zero, suc, ◌-◌, ◌<◌, ◌≤◌, List, [], ◌∷◌, length, map, get_or, Option, Some, None, refl, ap, sym}
use Rattle.std.proofs.Common.{subst, ◌∙◌, arith}
use Rattle.std.proofs.Math.Nat.{eq-or-lt_of_le}
use Rattle.std.proofs.lemmas.Bool.{cases_order}
use Rattle.std.proofs.lemmas.List.{get_or-map}
use Rattle.std.specs.Prelude.{slice_get, Contains}
use Rattle.ido_base.specs.declared.location.Location.{Location}
use Rattle.flow_graph.specs.Nodes.{Node, Graph}
use Rattle.flow_graph.specs.IdempotentCuts.{Writes}
use Rattle.flow_graph.proofs.Public.{below_or_past}
use Rattle.region_cutter.specs.FewestCuts.{Conflict, Divides, one_region, region_and, IsNoLater, none, earlier, equal, AreFewest, AreLabels, at}
use Rattle.region_cutter.specs.links.RegionLimits.{IsLimit, AreLimits, AreSteps, LeadsOn, AreCounts, IsLatestCut, AreChosen, one_left, one_chosen}
use Rattle.region_cutter.proofs.Edges.{same_node}
use Rattle.region_cutter.proofs.RegionLimits.{widened}

-- a region that may be run again goes no further than the limit
pub within_limit : (g : Graph) (from past limit to : ℕ) → IsLimit g from past limit → to ≤ past → ¬ (Conflict g from to) → to ≤ limit
within_limit g from past limit to is end free = elim (below_or_past limit to) [
  | inr le ↦ le
  | inl lt ↦ (let c = is.conflict (omega (arith, lt, end)) in absurd (free (c.0, widened g c.0 from (suc limit) to (omega (arith, lt)) c.1)))
]

-- a region that goes no further than the limit may be run again
pub free_to : (g : Graph) (from past limit to : ℕ) → IsLimit g from past limit → to ≤ limit → ¬ (Conflict g from to)
free_to g from past limit to is le = λ c. is.free (c.0, widened g c.0 from to limit le c.1)

pub begins_before : (g : Graph) (past from : ℕ) (cuts : List ℕ) → Divides g past from cuts → from < past
begins_before g past from [] (one_region _ lt free) = lt
begins_before g past from (cut ∷ cuts) (region_and _ _ _ lt free rest) = (let l = begins_before g past cut cuts rest in omega (arith, l, lt))

-- regions are no fewer than counted
pub no_fewer : (g : Graph) (first past from : ℕ) (limits counts others : List ℕ) → AreLimits g first past first limits →
    AreCounts first past first limits counts →
    first ≤ from → Divides g past from others → at first counts from ≤ suc (length others)
no_fewer g first past from limits counts [] are c a (one_region _ lt free) =
    let le = within_limit g from past (at first limits from) past (are.each from a lt) (omega arith) free in
    let k = c.least from past a lt lt le in
    let end = c.end in
    omega (arith, k, end)
no_fewer g first past from limits counts (cut ∷ others) are c a (region_and _ _ _ lt free rest) =
    let before = begins_before g past cut others rest in
    let le = within_limit g from past (at first limits from) cut (are.each from a (omega (arith, lt, before))) (omega (arith, before)) free in
    let k = c.least from cut a (omega (arith, lt, before)) lt le in
    let more = no_fewer g first past cut limits counts others are c (omega (arith, a, lt)) rest in
    omega (arith, k, more)

-- only from the end no region is needed
pub at_end : (first past node : ℕ) (limits counts : List ℕ) → AreCounts first past first limits counts → first ≤ node → node ≤ past →
    at first counts node ≡ 0 → node ≡ past
at_end first past node limits counts c a b is = elim (eq-or-lt_of_le b) [
  | inl e ↦ e
  | inr lt ↦ (let l = c.leads node a lt in let k = l.count in absurd (omega (arith, is, k)))
]

-- regions from the node on, as many as counted, of which each leads to the latest such node
pub record AreBest (g : Graph) (first past : ℕ) (counts : List ℕ) (from : ℕ) (cuts : List ℕ) : Type 0 where
  pub divides : Divides g past from cuts
  pub count : at first counts from ≡ suc (length cuts)
  pub latest : (others : List ℕ) → Divides g past from others → length others ≡ length cuts → IsNoLater others cuts

latest_none : (g : Graph) (past from : ℕ) (others : List ℕ) → Divides g past from others → length others ≡ 0 → IsNoLater others []
latest_none g past from [] d e = none
latest_none g past from (other ∷ others) d e = absurd (omega (arith, e))

pub best_one : (g : Graph) (first past from : ℕ) (limits counts : List ℕ) → AreLimits g first past first limits → AreCounts first past first limits counts →
    first ≤ from → from < past → at first counts from ≤ 1 → AreBest g first past counts from []
best_one g first past from limits counts are c a b le =
    let l = c.leads from a b in
    let k = l.count in
    let lt = l.later in
    let w = l.within in
    let is = are.each from a b in
    let far = is.to_past in
    let last : l.to ≡ past = at_end first past l.to limits counts c (omega (arith, a, lt)) (omega (arith, w, far)) (omega (arith, k, le)) in
    record {
      divides = one_region from b (free_to g from past (at first limits from) past is (omega (arith, w, last)));
      count = omega (arith, k, le);
      latest = latest_none g past from;
    }

later_none : (g : Graph) (first past from cut : ℕ) (limits counts cuts others : List ℕ) → AreLimits g first past first limits →
    AreCounts first past first limits counts → first ≤ from → from < past → IsLatestCut first limits counts from cut → AreBest g first past counts cut cuts →
    Divides g past from others → length others ≡ suc (length cuts) → IsNoLater others (cut ∷ cuts)
later_none g first past from cut limits counts cuts [] are c a b is best (one_region _ _ _) e = absurd (omega (arith, e))
later_none g first past from cut limits counts cuts (other ∷ others) are c a b is best (region_and _ _ _ lt free rest) e =
    let before = begins_before g past other others rest in
    let le = within_limit g from past (at first limits from) other (are.each from a b) (omega (arith, before)) free in
    let k = c.least from other a b lt le in
    let more = no_fewer g first past other limits counts others are c (omega (arith, a, lt)) rest in
    let is' = is.count in
    let of = best.count in
    let same : at first counts from ≡ suc (at first counts other) = omega (arith, k, more, is', of, e) in
    elim (cases_order other cut) [
      | inl eq ↦ subst (λ (n : ℕ). IsNoLater (n ∷ others) (cut ∷ cuts)) (sym eq)
          (equal cut others cuts (best.latest others (subst (λ (n : ℕ). Divides g past n others) eq rest) (omega (arith, e))))
      | inr apart ↦ elim apart [
        | inl less ↦ earlier other cut others cuts less
        | inr more' ↦ absurd (is.latest other more' le same)
      ]
    ]

pub best_next : (g : Graph) (first past from cut : ℕ) (limits counts cuts : List ℕ) → AreLimits g first past first limits →
    AreCounts first past first limits counts → first ≤ from → from < past → IsLatestCut first limits counts from cut → AreBest g first past counts cut cuts →
    AreBest g first past counts from (cut ∷ cuts)
best_next g first past from cut limits counts cuts are c a b is best = record {
  divides = region_and from cut cuts is.later (free_to g from past (at first limits from) cut (are.each from a b) is.within) best.divides;
  count = is.count ∙ ap suc best.count;
  latest = λ others d e. later_none g first past from cut limits counts cuts others are c a b is best d e;
}

pub best_of : (g : Graph) (first past from : ℕ) (limits counts cuts : List ℕ) → AreLimits g first past first limits → AreCounts first past first limits counts →
    first ≤ from → from < past → AreChosen first past limits counts from cuts → AreBest g first past counts from cuts
best_of g first past from limits counts [] are c a b (one_left _ le) = best_one g first past from limits counts are c a b le
best_of g first past from limits counts (cut ∷ cuts) are c a b (one_chosen _ _ _ lt is rest) =
    best_next g first past from cut limits counts cuts are c a b is
    (best_of g first past cut limits counts cuts are c (let l = is.later in omega (arith, a, l)) lt rest)

pub fewest_of : (g : Graph) (first past : ℕ) (limits counts cuts : List ℕ) → AreLimits g first past first limits → AreCounts first past first limits counts →
    AreBest g first past counts first cuts → AreFewest g first past cuts
fewest_of g first past limits counts cuts are c best = record {
  divides = best.divides;
  fewest = λ others d. (
      let k = no_fewer g first past first limits counts others are c (omega arith) d in
      let of = best.count in
      omega (arith, k, of));
  latest = best.latest;
}

-- ---- Where they stand

writes_or : (g : Graph) (node : ℕ) → Writes g node ⊎ ¬ (Writes g node)
writes_or g node = at (slice_get g.nodes node) refl
  where
    by_writes : (x : Node) → slice_get g.nodes node ≡ Some x → (o : Option Location) → x.writes ≡ o → Writes g node ⊎ ¬ (Writes g node)
    by_writes x is None e = inr (λ w. let both : None ≡ Some w.written = sym e ∙ ap (λ (y : Node). y.writes) (same_node g node x w.is is w.at) ∙ w.writes in cc)
    by_writes x is (Some l) e = inl (record { is = x; at = is; written = l; writes = e })

    at : (o : Option Node) → slice_get g.nodes node ≡ o → Writes g node ⊎ ¬ (Writes g node)
    at None e = inr (λ w. let both : None ≡ Some w.is = sym e ∙ w.at in cc)
    at (Some x) e = by_writes x e x.writes refl

-- a region that begins one node earlier may be run again no longer, where that node doesn't write
conflict_earlier : (g : Graph) (node to : ℕ) → ¬ (Writes g node) → Conflict g (suc node) to → Conflict g node to
conflict_earlier g node to never p =
    let c = p.1 in
    let a = c.within in (
      p.0,
      record {
        read = c.read;
        store = c.store;
        within = omega (arith, a);
        later = c.later;
        below = c.below;
        reads = c.reads;
        writes = c.writes;
        exposed = λ earlier x y w. elim (eq-or-lt_of_le x) [
          | inl is ↦ never (subst (λ (n : ℕ). Writes g n) (sym is) (record { is = w.is; at = w.at; written = w.written; writes = w.writes }))
          | inr more ↦ c.exposed earlier (omega (arith, more)) y w
        ];
      },
    )

-- at the limit a node writes
limit_writes : (g : Graph) (from past limit : ℕ) → IsLimit g from past limit → limit < past → Writes g limit
limit_writes g from past limit is lt =
    let p = is.conflict lt in
    let c = p.1 in
    let below = c.below in
    elim (eq-or-lt_of_le below) [
      | inl e ↦ subst (λ (n : ℕ). Writes g n) (omega (arith, e))
          (record { is = c.writes.is; at = c.writes.at; written = c.writes.written; writes = c.writes.writes })
      | inr less ↦ absurd (is.free (
        p.0,
        record {
          read = c.read;
          store = c.store;
          within = c.within;
          later = c.later;
          below = omega (arith, less);
          reads = c.reads;
          writes = c.writes;
          exposed = c.exposed;
        },
      ))
    ]

-- the latest node from which one region less is needed writes, since else the one after it would do
latest_writes : (g : Graph) (first past from cut : ℕ) (limits counts : List ℕ) → AreLimits g first past first limits →
    AreCounts first past first limits counts → first ≤ from → from < past → cut < past → IsLatestCut first limits counts from cut → Writes g cut
latest_writes g first past from cut limits counts are c a b end is = elim (writes_or g cut) [
  | inl answer ↦ answer
  | inr never ↦ elim (eq-or-lt_of_le is.within) [
    | inl e ↦ subst (λ (n : ℕ). Writes g n) (sym e) (limit_writes g from past (at first limits from) (are.each from a b) (omega (arith, e, end)))
    | inr lt ↦ (
        let later = is.later in
        let far = (are.each from a b).to_past in
        let l = c.leads cut (omega (arith, a, later)) end in
        let to_later = l.later in
        let to_within = l.within in
        let to_far = (are.each cut (omega (arith, a, later)) end).to_past in
        let count = is.count in
        let least = c.least from (suc cut) a b (omega (arith, later)) lt in
        let to_count = l.count in
        elim (eq-or-lt_of_le to_later) [
          | inl one ↦ absurd (let same : at first counts l.to ≡ at first counts (suc cut) = ap (at first counts) (sym one) in
              omega (arith, count, least, to_count, same))
          | inr more ↦ (
              let free : ¬ (Conflict g (suc cut) l.to) = λ p.
              free_to g cut past (at first limits cut) l.to (are.each cut (omega (arith, a, later)) end) to_within (conflict_earlier g cut l.to never p) in
              let next = are.each (suc cut) (omega (arith, a, later)) (omega (arith, more, to_within, to_far)) in
              let le = within_limit g (suc cut) past (at first limits (suc cut)) l.to next (omega (arith, to_within, to_far)) free in
              let few = c.least (suc cut) l.to (omega (arith, a, later)) (omega (arith, more, to_within, to_far)) more le in
              absurd (is.latest (suc cut) (omega arith) lt (omega (arith, count, least, to_count, few))))
        ])
  ]
]

pub chosen_write : (g : Graph) (first past from : ℕ) (limits counts cuts : List ℕ) → AreLimits g first past first limits →
    AreCounts first past first limits counts →
    first ≤ from → from < past → AreChosen first past limits counts from cuts → (node : ℕ) → Contains cuts node → Writes g node
chosen_write g first past from limits counts [] are c a b (one_left _ le) node k = absurd (let lt = k.1 in omega (arith, lt))
chosen_write g first past from limits counts (cut ∷ cuts) are c a b (one_chosen _ _ _ lt is rest) node (zero, l, e) =
    subst (λ (n : ℕ). Writes g n) e (latest_writes g first past from cut limits counts are c a b lt is)
chosen_write g first past from limits counts (cut ∷ cuts) are c a b (one_chosen _ _ _ lt is rest) node (suc k, l, e) =
    chosen_write g first past cut limits counts cuts are c (let m = is.later in omega (arith, a, m)) lt rest node (k, omega (arith, l), e)

pub cut_before_past : (first past from cut : ℕ) (limits counts : List ℕ) → AreSteps first past limits →
    AreCounts first past first limits counts → first ≤ from →
    from < past → 1 < at first counts from → IsLatestCut first limits counts from cut → cut < past
cut_before_past first past from cut limits counts steps c a b more is =
    let far = steps.to_past from a b in
    let within = is.within in
    let count = is.count in
    let end = c.end in
    let le : cut ≤ past = omega (arith, far, within) in
    elim (eq-or-lt_of_le le) [
      | inl e ↦ absurd (let same : at first counts cut ≡ at first counts past = ap (at first counts) e in omega (arith, same, count, end, more))
      | inr lt ↦ lt
    ]

-- ---- Labels

label : (first node : ℕ) (counts labels : List ℕ) → labels ≡ map (λ count. get_or counts 0 0 - count) counts → node - first < length counts →
    at first labels node ≡ get_or counts 0 0 - at first counts node
label first node counts labels is lt =
    ap (λ (xs : List ℕ). at first xs node) is ∙ get_or-map (λ count. get_or counts 0 0 - count) counts (node - first) 0 0 lt

pub labels_of : (g : Graph) (first past : ℕ) (limits counts labels cuts : List ℕ) → first < past → labels ≡ map (λ count. get_or counts 0 0 - count) counts →
    AreLimits g first past first limits → AreCounts first past first limits counts → AreBest g first past counts first cuts →
    AreLabels g first past (length cuts) labels
labels_of g first past limits counts labels cuts some is are c best =
    let long = c.long in
    let zero' : first - first ≡ 0 = omega arith in
    let first' : at first counts first ≡ get_or counts 0 0 = ap (λ k. get_or counts k 0) zero' in
    let all = best.count in
    let end = c.end in
    let label_of = λ (node : ℕ) (le : node ≤ past). label first node counts labels is (omega (arith, long, le, some)) in
    record {
      start = omega (arith, label_of first (omega (arith, some)), first');
      edges = λ from to s. (
          let a = s.from_first in
          let lt = s.later in
          let b = s.to_past in
          let le = within_limit g from past (at first limits from) to (are.each from a (omega (arith, lt, b))) b s.free in
          let k = c.least from to a (omega (arith, lt, b)) lt le in
          let high = s.greater in
          absurd (omega (arith, k, high, label_of from (omega (arith, lt, b)), label_of to b)));
      end = omega (arith, label_of past (omega arith), first', all, end);
    }

-- ---- The search for a cut

-- below the node or at it stands the latest one from which one region less is needed
pub record IsAbove (first : ℕ) (limits counts : List ℕ) (from cut : ℕ) : Type 0 where
  pub within : cut ≤ at first limits from
  pub later : (other : ℕ) → cut < other → other ≤ at first limits from → ¬ (at first counts from ≡ suc (at first counts other))
  pub to : ℕ
  pub after : from < to
  pub below : to ≤ cut
  pub count : at first counts from ≡ suc (at first counts to)

pub above_first : (first past from : ℕ) (limits counts : List ℕ) → LeadsOn first past limits counts from →
    IsAbove first limits counts from (at first limits from)
above_first first past from limits counts l = record {
  within = omega arith;
  later = λ other a b. absurd (omega (arith, a, b));
  to = l.to;
  after = l.later;
  below = l.within;
  count = l.count;
}

pub above_more : (first from cut lower : ℕ) (limits counts : List ℕ) → suc lower ≡ cut → ¬ (at first counts from ≡ suc (at first counts cut)) →
    IsAbove first limits counts from cut → IsAbove first limits counts from lower
above_more first from cut lower limits counts is never a =
    let w = a.within in
    record {
      within = omega (arith, w, is);
      later = λ other l b. elim (eq-or-lt_of_le l) [
        | inl e ↦ subst (λ (k : ℕ). ¬ (at first counts from ≡ suc (at first counts k))) (sym is ∙ e) never
        | inr more ↦ a.later other (omega (arith, more, is)) b
      ];
      to = a.to;
      after = a.after;
      below = elim (eq-or-lt_of_le a.below) [
        | inl e ↦ absurd (never (subst (λ (k : ℕ). at first counts from ≡ suc (at first counts k)) e a.count))
        | inr less ↦ omega (arith, less, is)
      ];
      count = a.count;
    }

pub above_is : (first from cut : ℕ) (limits counts : List ℕ) → at first counts from ≡ suc (at first counts cut) → IsAbove first limits counts from cut →
    IsLatestCut first limits counts from cut
above_is first from cut limits counts is a = record {
  later = let l = a.after in let b = a.below in omega (arith, l, b);
  within = a.within;
  count = is;
  latest = a.later;
}
