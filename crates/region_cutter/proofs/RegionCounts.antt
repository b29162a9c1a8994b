-- How many regions are needed from each node of straight code on, from the last to the first.
use Rattle.std.proofs.Common.{◌≡◌, inl, inr, ℕ, zero, suc, ◌+◌, ◌-◌, ◌<◌, ◌≤◌, List, [], ◌∷◌, ◌++◌, length, set, get_or, replicate, Some, refl, ap}
use Rattle.std.proofs.Common.{sym, subst, ◌∙◌, arith, length-set}
use Rattle.std.specs.Prelude.{slice_get}
use Rattle.std.proofs.Math.Nat.{eq-or-lt_of_le}
use Rattle.std.proofs.lemmas.List.{get_or-set_same, get_or-set_other, length_push}
use Rattle.std.proofs.lemmas.Option.{slice_get_within, slice_get-get_or}
use Rattle.flow_graph.specs.Nodes.{Graph}
use Rattle.flow_graph.proofs.Public.{below_or_past}
use Rattle.region_cutter.specs.FewestCuts.{at}
use Rattle.region_cutter.specs.links.RegionLimits.{IsLimit, AreLimits, AreSteps, LeadsOn, AreCounts, AreNearest, AreWithin}
use Rattle.region_cutter.proofs.Lists.{get_push}

-- ---- One number is set

at_same : (first node value : ℕ) (xs : List ℕ) → node - first < length xs → at first (set xs (node - first) value) node ≡ value
at_same first node value xs lt = get_or-set_same xs (node - first) value 0 lt

at_other : (first node other value : ℕ) (xs : List ℕ) → first ≤ node → first ≤ other → ¬ (other ≡ node) →
    at first (set xs (node - first) value) other ≡ at first xs other
at_other first node other value xs a b ne = get_or-set_other xs (node - first) (other - first) value 0 (λ e. ne (omega (arith, a, b, e)))

-- ---- Limits

pub limits_none : (g : Graph) (first past : ℕ) (limits : List ℕ) → length limits ≡ past - first → AreLimits g first past past limits
limits_none g first past limits long = record { long = long; each = λ node a b. absurd (omega (arith, a, b)) }

pub limits_more : (g : Graph) (first past number limit : ℕ) (limits : List ℕ) → first ≤ number → number < past → IsLimit g number past limit →
    AreLimits g first past (suc number) limits → AreLimits g first past number (set limits (number - first) limit)
limits_more g first past number limit limits a b is are = record {
  long = length-set limits (number - first) limit ∙ are.long;
  each = λ node from lt. elim (eq-or-lt_of_le from) [
    | inl e ↦ (
        let here : at first (set limits (number - first) limit) number ≡ limit =
        at_same first number limit limits (let l = are.long in omega (arith, l, a, b)) in
        let set' = set limits (number - first) limit in
        subst (λ (n : ℕ). IsLimit g n past (at first set' n)) e (subst (λ (k : ℕ). IsLimit g number past k) (sym here) is))
    | inr more ↦ (
        let there : at first (set limits (number - first) limit) node ≡ at first limits node =
        at_other first number node limit limits a (omega (arith, a, from)) (λ e. absurd (omega (arith, e, more))) in
        subst (λ (k : ℕ). IsLimit g node past k) (sym there) (are.each node (omega (arith, more)) lt))
  ];
}

pub steps_of : (g : Graph) (first past : ℕ) (limits : List ℕ) → AreLimits g first past first limits → AreSteps first past limits
steps_of g first past limits are = record {
  long = are.long;
  later = λ node a b. (are.each node a b).later;
  to_past = λ node a b. (are.each node a b).to_past;
}

-- ---- Counts

all_zero : (n k : ℕ) → get_or (replicate {A = ℕ} n 0) k 0 ≡ 0
all_zero zero k = refl
all_zero (suc n) zero = refl
all_zero (suc n) (suc k) = all_zero n k

length_zero : (n : ℕ) → length (replicate {A = ℕ} n 0) ≡ n
length_zero zero = refl
length_zero (suc n) = ap suc (length_zero n)

pub counts_none : (first past n : ℕ) (limits counts : List ℕ) → n ≡ suc (past - first) → counts ≡ replicate n 0 → AreCounts first past past limits counts
counts_none first past n limits counts long is = record {
  long = ap length is ∙ length_zero n ∙ long;
  end = ap (λ (xs : List ℕ). at first xs past) is ∙ all_zero n (past - first);
  least = λ node to a b. absurd (omega (arith, a, b));
  leads = λ node a b. absurd (omega (arith, a, b));
}

get_one : (x y k : ℕ) → slice_get (x ∷ []) k ≡ Some y → (k ≡ 0) × (x ≡ y)
get_one x y zero e = (refl, cc)
get_one x y (suc k) e = absurd (cc)

pub nearest_none : (first past : ℕ) (counts : List ℕ) → at first counts past ≡ 0 → AreNearest first past past counts (past ∷ [])
nearest_none first past counts end = record {
  some = omega arith;
  from_there = λ count node there. omega (arith, (get_one past node count there).1);
  to_past = λ count node there. omega (arith, (get_one past node count there).1);
  counted = λ count node there. (
      let d = get_one past node count there in
      ap (at first counts) (sym d.1) ∙ end ∙ sym d.0);
  least = λ count node other there from le few. omega (arith, (get_one past node count there).1, from);
  last = λ count node l there. sym (get_one past node count there).1;
}

-- the last of the nearest nodes within the limit
record IsLast (first past number : ℕ) (limits counts mid : List ℕ) : Type 0 where
  pub count : ℕ
  pub node : ℕ
  pub is : suc count ≡ length mid
  pub there : slice_get mid count ≡ Some node
  pub later : number < node
  pub within : node ≤ at first limits number
  pub counted : at first counts node ≡ count

last_of : (first past number : ℕ) (limits counts old mid : List ℕ) → AreNearest first past (suc number) counts old →
    AreWithin (at first limits number) old mid → IsLast first past number limits counts mid
last_of first past number limits counts old mid n w =
    let some = w.some in
    let count : ℕ = length mid - 1 in
    let is : suc count ≡ length mid = omega (arith, some) in
    let there : slice_get mid count ≡ Some (get_or mid count 0) = slice_get-get_or mid count 0 (omega (arith, some)) in
    let was = w.kept count (get_or mid count 0) there in
    record {
      count = count;
      node = get_or mid count 0;
      is = is;
      there = there;
      later = let k = n.from_there count (get_or mid count 0) was in omega (arith, k);
      within = w.within count (get_or mid count 0) is there;
      counted = n.counted count (get_or mid count 0) was;
    }

-- no region from the node leads to one from which two regions less are needed
no_less : (first past number to : ℕ) (limits counts old mid : List ℕ) → AreNearest first past (suc number) counts old →
    AreWithin (at first limits number) old mid → number < to → to ≤ at first limits number → to ≤ past → length mid ≤ suc (at first counts to)
no_less first past number to limits counts old mid n w lt le end = elim (below_or_past (suc (at first counts to)) (length mid)) [
  | inr past' ↦ past'
  | inl below ↦ (
      let count : ℕ = length mid - 2 in
      let there : slice_get mid count ≡ Some (get_or mid count 0) = slice_get-get_or mid count 0 (omega (arith, below)) in
      let was = w.kept count (get_or mid count 0) there in
      let far = w.past count (get_or mid count 0) (omega (arith, below)) there in
      let near = n.least count (get_or mid count 0) to was (omega (arith, lt)) end (omega (arith, below)) in
      absurd (omega (arith, far, near, le)))
]

pub counts_more : (first past number : ℕ) (limits counts old mid : List ℕ) → first ≤ number → number < past → AreSteps first past limits →
    AreCounts first past (suc number) limits counts → AreNearest first past (suc number) counts old → AreWithin (at first limits number) old mid →
    AreCounts first past number limits (set counts (number - first) (length mid))
counts_more first past number limits counts old mid a b steps c n w =
    let new = set counts (number - first) (length mid) in
    let long = c.long in
    let here : at first new number ≡ length mid = at_same first number (length mid) counts (omega (arith, long, a, b)) in
    let there = λ (node : ℕ) (lt : number < node).
    at_other first number node (length mid) counts a (omega (arith, a, lt)) (λ e. absurd (omega (arith, e, lt))) in
    let last = last_of first past number limits counts old mid n w in
    record {
      long = length-set counts (number - first) (length mid) ∙ long;
      end = there past b ∙ c.end;
      least = λ node to from lt later le. elim (eq-or-lt_of_le from) [
        | inl e ↦ (
            let later' : number < to = omega (arith, e, later) in
            let le' : to ≤ at first limits number = subst (λ (k : ℕ). to ≤ at first limits k) (sym e) le in
            let fits = no_less first past number to limits counts old mid n w later' le' (let s = steps.to_past number a b in omega (arith, s, le')) in
            subst (λ (k : ℕ). at first new k ≤ suc (at first new to)) e (omega (arith, here, there to later', fits)))
        | inr more ↦ (
            let old' = c.least node to (omega (arith, more)) lt later le in
            omega (arith, old', there node more, there to (omega (arith, more, later))))
      ];
      leads = λ node from lt. elim (eq-or-lt_of_le from) [
        | inl e ↦ subst (λ (k : ℕ). LeadsOn first past limits new k) e (record {
          to = last.node;
          later = last.later;
          within = last.within;
          count = here ∙ sym last.is ∙ ap suc (sym last.counted ∙ sym (there last.node last.later));
        })
        | inr more ↦ (
            let l = c.leads node (omega (arith, more)) lt in
            record {
              to = l.to;
              later = l.later;
              within = l.within;
              count = there node more ∙ l.count ∙ ap suc (sym (there l.to (let k = l.later in omega (arith, more, k))));
            })
      ];
    }

pub nearest_more : (first past number : ℕ) (limits counts old mid : List ℕ) → first ≤ number → number < past → AreSteps first past limits →
    AreCounts first past (suc number) limits counts → AreNearest first past (suc number) counts old → AreWithin (at first limits number) old mid →
    AreNearest first past number (set counts (number - first) (length mid)) (mid ++ number ∷ [])
nearest_more first past number limits counts old mid a b steps c n w =
    let new = set counts (number - first) (length mid) in
    let long = c.long in
    let here : at first new number ≡ length mid = at_same first number (length mid) counts (omega (arith, long, a, b)) in
    let there = λ (node : ℕ) (lt : number < node).
    at_other first number node (length mid) counts a (omega (arith, a, lt)) (λ e. absurd (omega (arith, e, lt))) in
    let pushed : length (mid ++ number ∷ []) ≡ length mid + 1 = length_push mid number in
    record {
      some = omega (arith, pushed);
      from_there = λ count node at'. elim (get_push mid number count node at') [
        | inl was ↦ (let lt = n.from_there count node (w.kept count node was) in omega (arith, lt))
        | inr is ↦ omega (arith, is.1)
      ];
      to_past = λ count node at'. elim (get_push mid number count node at') [
        | inl was ↦ n.to_past count node (w.kept count node was)
        | inr is ↦ omega (arith, is.1, b)
      ];
      counted = λ count node at'. elim (get_push mid number count node at') [
        | inl was ↦ there node (let k = n.from_there count node (w.kept count node was) in omega (arith, k)) ∙ n.counted count node (w.kept count node was)
        | inr is ↦ ap (at first new) (sym is.1) ∙ here ∙ sym is.0
      ];
      least = λ count node other at' from le few. elim (get_push mid number count node at') [
        | inl was ↦ elim (eq-or-lt_of_le from) [
          | inl e ↦ (
              let few' : at first new number ≤ count = subst (λ (k : ℕ). at first new k ≤ count) (sym e) few in
              let lt = slice_get_within mid count node was in
              absurd (omega (arith, few', here, lt)))
          | inr more ↦ n.least count node other (w.kept count node was) (omega (arith, more)) le (omega (arith, few, there other more))
        ]
        | inr is ↦ omega (arith, is.1, from)
      ];
      last = λ count node l at'. elim (get_push mid number count node at') [
        | inl was ↦ (let lt = slice_get_within mid count node was in absurd (omega (arith, lt, l, pushed)))
        | inr is ↦ sym is.1
      ];
    }
