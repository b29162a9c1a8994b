-- How many boundaries stand inside straight code, counted; where they are the fewest, no cut set has fewer.
use Rattle.std.proofs.Common.{◌≡◌, refl, ℕ, zero, suc, ◌+◌, ◌-◌, ◌<◌, ◌≤◌, Bool, true, false, List, [], ◌∷◌, length, Some, ap, ap₂, sym, subst, ◌∙◌, arith}
use Rattle.std.specs.Prelude.{slice_get, slice_index_or, Contains, if◌then◌else◌}
use Rattle.std.proofs.lemmas.Option.{slice_get_read}
use Rattle.flow_graph.specs.IdempotentCuts.{Boundaries, HasBefore}
use Rattle.flow_graph.specs.Nodes.{Graph}
use Rattle.region_cutter.specs.FewestCuts.{AreFewestCuts, AreInside, IsStretch, NoneHasFewer, none_inside, one_inside}
use Rattle.region_cutter.specs.declared.straight.Stretch.{Stretch}
use Rattle.ido_cli.specs.Regions.{AreLeast, AreTold, boundaries_among, boundaries_inside}
use Rattle.ido_cli.specs.links.Regions.{HaveNodes}

no_flag : (flags : List Bool) (node : ℕ) → ¬ (slice_get flags node ≡ Some true) → slice_index_or flags node false ≡ false
no_flag [] node none = refl
no_flag (true ∷ flags) zero none = absurd (none refl)
no_flag (false ∷ flags) zero none = refl
no_flag (flag ∷ flags) (suc node) none = no_flag flags node none

a_flag : (flags : List Bool) (node : ℕ) → slice_get flags node ≡ Some true → slice_index_or flags node false ≡ true
a_flag [] node some = absurd (cc)
a_flag (true ∷ flags) zero some = refl
a_flag (false ∷ flags) zero some = absurd (cc)
a_flag (flag ∷ flags) (suc node) some = a_flag flags node some

module _ (b : Boundaries) where
  -- no boundary stands before so many nodes
  abbrev Free : (node count : ℕ) → Type 0
  Free node count = (n : ℕ) → node ≤ n → n < node + count → ¬ (HasBefore b n)

  further : (node count : ℕ) → Free node (suc count) → Free (node + 1) count
  further node count free n from below = free n (omega (arith, from)) (omega (arith, below))

  -- the boundary before the node counts as one, or none does
  abbrev counting : Bool → (rest : ℕ) → ℕ
  counting flag rest = (if flag then 1 else 0) + rest

  among_more : (node past : ℕ) → node < past → boundaries_among b node (past - node)
      ≡ counting (slice_index_or b.before node false) (boundaries_among b (node + 1) (past - (node + 1)))
  among_more node past below = ap (boundaries_among b node) (let e : past - node ≡ suc (past - (node + 1)) = omega (arith, below) in e)

  pub one_more : (node past inside all : ℕ) → node < past → slice_index_or b.before node false ≡ true →
      inside + boundaries_among b node (past - node) ≡ all → inside + 1 + boundaries_among b (node + 1) (past - (node + 1)) ≡ all
  one_more node past inside all below has so_far =
      let rest = boundaries_among b (node + 1) (past - (node + 1)) in
      let step : boundaries_among b node (past - node) ≡ 1 + rest = among_more node past below ∙ ap (λ (flag : Bool). counting flag rest) has in
      omega (arith, so_far, step)

  pub none_more : (node past inside all : ℕ) → node < past → slice_index_or b.before node false ≡ false →
      inside + boundaries_among b node (past - node) ≡ all → inside + boundaries_among b (node + 1) (past - (node + 1)) ≡ all
  none_more node past inside all below has so_far =
      let rest = boundaries_among b (node + 1) (past - (node + 1)) in
      let step : boundaries_among b node (past - node) ≡ 0 + rest = among_more node past below ∙ ap (λ (flag : Bool). counting flag rest) has in
      omega (arith, so_far, step)

  among_past : (node count all rest : ℕ) → all ≡ count + rest → Free node count → boundaries_among b node all ≡ boundaries_among b (node + count) rest
  among_past node zero all rest is free = ap₂ (boundaries_among b) (omega arith) (omega (arith, is))
  among_past node (suc count) zero rest is free = absurd (omega (arith, is))
  among_past node (suc count) (suc all) rest is free =
      let here : slice_index_or b.before node false ≡ false = no_flag b.before node (free node (omega arith) (omega arith)) in
      let next : node + 1 + count ≡ node + suc count = omega arith in
      let more : boundaries_among b node (suc all) ≡ 0 + boundaries_among b (node + 1 + count) rest =
      ap₂ counting here (among_past (node + 1) count all rest (omega (arith, is)) (further node count free)) in
      omega (arith, more, ap (λ (n : ℕ). boundaries_among b n rest) next)

  counted : (past from : ℕ) (cuts : List ℕ) → from < past → AreInside b past from cuts → length cuts ≡ boundaries_among b (from + 1) (past - (from + 1))
  counted past from [] some (none_inside _ none) =
      let all = past - (from + 1) in
      sym (among_past (from + 1) all all 0 (omega arith) (λ n a c. none n (omega (arith, a)) (omega (arith, c, some))))
  counted past from (cut ∷ cuts) some (one_inside _ _ _ later within has none more) =
      let first = from + 1 in
      let rest = past - (cut + 1) in
      let skipped : boundaries_among b first (past - first) ≡ boundaries_among b (first + (cut - first)) (suc rest) =
      among_past first (cut - first) (past - first) (suc rest) (omega (arith, later, within))
      (λ n a c. none n (omega (arith, a)) (omega (arith, c, later))) in
      let there : first + (cut - first) ≡ cut = omega (arith, later) in
      let one : boundaries_among b cut (suc rest) ≡ 1 + boundaries_among b (cut + 1) rest =
      ap (λ (flag : Bool). counting flag (boundaries_among b (cut + 1) rest)) (a_flag b.before cut has) in
      omega (arith, skipped, ap (λ (n : ℕ). boundaries_among b n (suc rest)) there, one, counted past cut cuts within more)

  none_fewer : (g : Graph) (s : Stretch) → AreFewestCuts g b → IsStretch g s.first s.past → NoneHasFewer g s.first s.past (boundaries_inside b s)
  none_fewer g s fewest is =
      let h = fewest s.first s.past is in
      subst (λ (n : ℕ). NoneHasFewer g s.first s.past n) (counted s.past s.first h.cuts is.some h.inside) h.none_fewer

  pub are_least : (least : Bool) (g : Graph) (stretches : List Stretch) → AreFewestCuts g b → AreTold least g stretches → AreLeast g b stretches
  are_least false g stretches fewest none s among = absurd (in_none s (subst (λ (ss : List Stretch). Contains ss s) none among))
    where
      in_none : (s : Stretch) → Contains [] s → ⊥
      in_none s c = omega (arith, c.1)
  are_least true g stretches fewest are s among =
      none_fewer g s fewest (are.is among.0 s (slice_get_read stretches (length stretches) among.0 s refl among.1 (sym among.2)))

stretches_have_nodes : (g : Graph) (ss : List Stretch) → ((k : ℕ) (s : Stretch) → slice_get ss k ≡ Some s → IsStretch g s.first s.past) → HaveNodes ss
stretches_have_nodes g [] are = tt
stretches_have_nodes g (s ∷ ss) are = ((are 0 s refl).some, stretches_have_nodes g ss (λ k t at. are (suc k) t at))

pub have_nodes : (least : Bool) (g : Graph) (stretches : List Stretch) → AreTold least g stretches → HaveNodes stretches
have_nodes false g stretches none = subst (λ (ss : List Stretch). HaveNodes ss) (sym none) tt
have_nodes true g stretches are = stretches_have_nodes g stretches are.is
