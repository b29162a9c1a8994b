-- Worked rows: a section that reads a variable and then stores into it is straight code, and has one boundary.
use Rattle.std.proofs.Common.{◌≡◌, ◌⊎◌, inl, inr, ℕ, zero, suc, ◌<◌, ◌≤◌, List, [], ◌∷◌, length, Some, None, refl, sym, subst, ◌∙◌, arith}
use Rattle.ido_base.specs.declared.place.Place.{Place}
use Rattle.ido_ints.specs.declared.kinds.Kind.TheVariants as kind
use Rattle.c_tree.specs.Exprs as e
use Rattle.flow_graph.specs.Nodes.{Node, Graph, Lock, Unlock, End, next_of, other_of}
use Rattle.flow_graph.specs.Liveness.{NodeAt}
use Rattle.flow_graph.specs.Lowering.{Table, plain_node, store_node, eval_node}
use Rattle.flow_graph.specs.IdempotentCuts.{IsEdge, locks, unlocks}
use Rattle.flow_graph.proofs.Public.{same_or_other}
use Rattle.region_cutter.specs.FewestCuts.{IsPlain, evaluates, stores, IsStretch, Conflict, Divides, one_region, region_and, IsNoLater, none, earlier, equal}
use Rattle.region_cutter.specs.FewestCuts.{AreFewest, AreLabels, at}
use Rattle.region_cutter.proofs.Lists.{some_same}
use Rattle.region_cutter.proofs.Edges.{edge_to, edge_from}

abbrev no_table : Table
no_table = record { variables = []; names = [] }

abbrev here : Place
here = record { 0 = 0 }

-- x = x + 1, without the constant
abbrev value : e.Placed
value = record { place = here; expr = e.Variable here 0 kind.Long }

abbrev evaluation : Node
evaluation = eval_node no_table here (e.ToVariable here 0 kind.Long) value 2

abbrev store : Node
store = store_node here 0 kind.Long (record { variable = 0; lo = 0; hi = 0; key = None }) 3

abbrev mutex : e.LockName
mutex = record { mutex = 0; key = None }

abbrev section : Graph
section = record { nodes = plain_node here (Lock mutex 1) ∷ evaluation ∷ store ∷ plain_node here (Unlock mutex 4) ∷ plain_node here End ∷ []; threads = [] }

-- ---- It is straight code

leads_to : (n next to : ℕ) (x : Node) → NodeAt section n x → next_of x.action ≡ Some next → other_of x.action ≡ None → IsEdge section n to → next ≡ to
leads_to n next to x at is no_other edge = elim (edge_from section n to x at edge) [
  | inl goes ↦ some_same next to (sym is ∙ goes)
  | inr goes ↦ (let both : None ≡ Some to = sym no_other ∙ goes in absurd (cc))
]

next_number : (n to : ℕ) → IsEdge section n to → to ≡ suc n
next_number zero to edge = sym (leads_to 0 1 to (plain_node here (Lock mutex 1)) refl refl refl edge)
next_number (suc zero) to edge = sym (leads_to 1 2 to evaluation refl refl refl edge)
next_number (suc (suc zero)) to edge = sym (leads_to 2 3 to store refl refl refl edge)
next_number (suc (suc (suc zero))) to edge = sym (leads_to 3 4 to (plain_node here (Unlock mutex 4)) refl refl refl edge)
next_number (suc (suc (suc (suc zero)))) to edge = (
    let none_next : None ≡ Some to ⊎ None ≡ Some to = edge_from section 4 to (plain_node here End) refl edge in
    elim none_next [ inl goes ↦ absurd (cc) | inr goes ↦ absurd (cc) ])
next_number (suc (suc (suc (suc (suc n))))) to edge = (let both : None ≡ Some edge.is = edge.at in absurd (cc))

is_stretch : IsStretch section 1 3
is_stretch = record {
  some = omega arith;
  plain = λ n a b. elim (same_or_other n 1) [
    | inl is ↦ subst (λ (m : ℕ). IsPlain section m) (sym is) (evaluates evaluation (e.ToVariable here 0 kind.Long) value 2 refl refl)
    | inr ne ↦ (
        let is : 2 ≡ n = omega (arith, a, b, ne) in
        subst (λ (m : ℕ). IsPlain section m) is (stores store 0 kind.Long 3 refl refl))
  ];
  goes_on = λ n a b. (let is : 1 ≡ n = omega (arith, a, b) in subst (λ (m : ℕ). IsEdge section m (suc m)) is (edge_to section 1 2 evaluation refl (inl refl)));
  only_from = λ n from a b edge. (let k = next_number from (suc n) edge in omega (arith, k));
  before = 0;
  begins = record {
    is = plain_node here (Lock mutex 1);
    at = refl;
    takes_or_gives = inl (locks (plain_node here (Lock mutex 1)) mutex 1 refl refl);
    no_reads = refl;
    no_write = refl;
  };
  enters = edge_to section 0 1 (plain_node here (Lock mutex 1)) refl (inl refl);
  only_enters = λ from edge. (let k = next_number from 1 edge in omega (arith, k));
  after = 3;
  ends = record {
    is = plain_node here (Unlock mutex 4);
    at = refl;
    takes_or_gives = inr (unlocks (plain_node here (Unlock mutex 4)) mutex 4 refl refl);
    no_reads = refl;
    no_write = refl;
  };
  leaves = λ last is. (let two : 2 ≡ last = omega (arith, is) in subst (λ (m : ℕ). IsEdge section m 3) two (edge_to section 2 3 store refl (inl refl)));
}

-- ---- It has one boundary

-- the store overwrites what was read
conflict : Conflict section 1 3
conflict = (
  record { variable = 0; lo = 0; hi = 0; key = None },
  record {
    read = 1;
    store = 2;
    within = omega arith;
    later = omega arith;
    below = omega arith;
    reads = record { is = evaluation; at = refl; reads = (0, omega arith, refl) };
    writes = record { is = store; at = refl; written = record { variable = 0; lo = 0; hi = 0; key = None }; writes = refl; over = refl };
    exposed = λ n a b. absurd (omega (arith, a, b));
  },
)

-- in a region of one node nothing is overwritten
one_node : (n : ℕ) → ¬ (Conflict section n (suc n))
one_node n p = (let c = p.1 in let a = c.within in let b = c.later in let d = c.below in absurd (omega (arith, a, b, d)))

no_fewer : (others : List ℕ) → Divides section 3 1 others → 1 ≤ length others
no_fewer [] (one_region _ lt free) = absurd (free conflict)
no_fewer (cut ∷ others) d = omega arith

no_later : (others : List ℕ) → Divides section 3 1 others → length others ≡ 1 → IsNoLater others (2 ∷ [])
no_later [] d e = absurd (omega (arith, e))
no_later (cut ∷ []) (region_and _ _ _ lt free (one_region _ less last)) e = (
    let is : 2 ≡ cut = omega (arith, lt, less) in
    subst (λ (n : ℕ). IsNoLater (n ∷ []) (2 ∷ [])) is (equal 2 [] [] none))
no_later (cut ∷ other ∷ others) d e = absurd (omega (arith, e))

fewest : AreFewest section 1 3 (2 ∷ [])
fewest = record {
  divides = region_and 1 2 [] (omega arith) (one_node 1) (one_region 2 (omega arith) (one_node 2));
  fewest = no_fewer;
  latest = no_later;
}

-- labels 0, 1, 2 show it
labelled : AreLabels section 1 3 1 (0 ∷ 1 ∷ 2 ∷ [])
labelled = record {
  start = refl;
  edges = λ from to s. elim (same_or_other from 1) [
    | inl is ↦ elim (same_or_other to 3) [
      | inl is' ↦ s.free (subst (λ (n : ℕ). Conflict section n to) (sym is) (subst (λ (m : ℕ). Conflict section 1 m) (sym is') conflict))
      | inr ne ↦ (
          let two : to ≡ 2 = (let a = s.later in let b = s.to_past in omega (arith, a, b, ne, is)) in
          let more : 1 < 1 = subst (λ (m : ℕ). 1 < at 1 (0 ∷ 1 ∷ 2 ∷ []) m) two
          (subst (λ (n : ℕ). suc (at 1 (0 ∷ 1 ∷ 2 ∷ []) n) < at 1 (0 ∷ 1 ∷ 2 ∷ []) to) is s.greater) in
          absurd (omega (arith, more)))
    ]
    | inr ne ↦ (
        let two : from ≡ 2 = (let a = s.from_first in let b = s.later in let d = s.to_past in omega (arith, a, b, d, ne)) in
        let three : to ≡ 3 = (let b = s.later in let d = s.to_past in omega (arith, b, d, two)) in
        let more : 2 < 2 = subst (λ (m : ℕ). 2 < at 1 (0 ∷ 1 ∷ 2 ∷ []) m) three
        (subst (λ (n : ℕ). suc (at 1 (0 ∷ 1 ∷ 2 ∷ []) n) < at 1 (0 ∷ 1 ∷ 2 ∷ []) to) two s.greater) in
        absurd (omega (arith, more)))
  ];
  end = refl;
}

-- labels that show more than that aren't any: a region may lead from the one node to the other
too_high : ¬ (AreLabels section 1 3 2 (0 ∷ 2 ∷ 3 ∷ []))
too_high l = l.edges 1 2 (record { from_first = omega arith; later = omega arith; to_past = omega arith; free = one_node 1; greater = omega arith })

-- ---- Which boundaries are later

later_first : IsNoLater (3 ∷ 9 ∷ []) (4 ∷ 5 ∷ [])
later_first = earlier 3 4 (9 ∷ []) (5 ∷ []) (omega arith)

not_earlier_first : ¬ (IsNoLater (4 ∷ 5 ∷ []) (3 ∷ 9 ∷ []))
not_earlier_first (earlier _ _ _ _ lt) = absurd (omega (arith, lt))
