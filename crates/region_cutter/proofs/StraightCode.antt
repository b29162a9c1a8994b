-- How straight code is found.
use Rattle.std.proofs.Common.{◌≡◌, ◌≢◌, ◌⊎◌, ◌↔◌, inl, inr, ℕ, zero, suc, ◌+◌, ◌-◌, ◌<◌, ◌≤◌, Bool, true, false, List, [], ◌∷◌, ◌++◌, length, get_or}
use Rattle.std.proofs.Common.{replicate, Option, Some, None, refl, ap, sym, subst, ◌∙◌, arith}
use Rattle.std.specs.Prelude.{slice_get, Contains, IsTrue, nat_eq}
use Rattle.std.proofs.lemmas.Bool.{cases_order, eqb-true, eq-eqb}
use Rattle.std.proofs.lemmas.List.Elements.{Contains-append_left, Contains-push}
use Rattle.std.proofs.lemmas.Option.{slice_get_within, slice_get-get_or, slice_get_read, slice_get-map, slice_get_past}
use Rattle.std.specs.Option.{option_map}
use Rattle.flow_graph.specs.declared.graph.Node as node
use Rattle.flow_graph.specs.declared.graph.Graph as code
use Rattle.flow_graph.specs.Nodes.{Action, Eval, Store, Test, Lock, Unlock, End, Node, Graph, next_of, other_of, node_of, graph_of}
use Rattle.flow_graph.specs.Liveness.{NodeAt}
use Rattle.flow_graph.specs.IdempotentCuts.{IsEdge, IsLock, IsUnlock}
use Rattle.flow_graph.specs.IdempotentCuts as i
use Rattle.flow_graph.proofs.Public.{same_or_other}
use Rattle.region_cutter.specs.declared.straight.Entry.{Entry}
use Rattle.region_cutter.specs.declared.straight.Entry.TheVariants.{Nowhere, From, Several}
use Rattle.region_cutter.specs.declared.straight.Stretch.{Stretch}
use Rattle.region_cutter.specs.FewestCuts.{IsPlain, evaluates, stores, Synchronises, IsStretch, AreStretches}
use Rattle.region_cutter.specs.links.Stretches.{plain, IsSync, Enters, EntersAt, IsEntryOf, IsEdgeBelow, AreEntries, IsEnteredFrom, GoesStraight}
use Rattle.region_cutter.specs.links.Stretches.{IsStraightEnd, LeadsToSync, IsStretchAt, AreStretchesBelow}
use Rattle.region_cutter.specs.links.BoundaryTrials as t
use Rattle.region_cutter.proofs.Lists.{some_same, get_push}
use Rattle.region_cutter.proofs.Edges.{same_node, edge_to, edge_from, or_either, or_left, or_right, is_lock}
use Rattle.region_cutter.proofs.BoundariesEverywhere.{locked, unlocked}
use Rattle.region_cutter.proofs.FewBoundaries.{no_sync}

-- ---- Nodes

plain_by : (g : Graph) (n : ℕ) (x : Node) (a : Action) → NodeAt g n x → x.action ≡ a → plain a ≡ true → IsPlain g n
plain_by g n x (Eval target value next) at is e = evaluates x target value next at is
plain_by g n x (Store variable kind next) at is e = stores x variable kind next at is
plain_by g n x (Test condition holds fails) at is e = absurd (cc)
plain_by g n x (Lock lock next) at is e = absurd (cc)
plain_by g n x (Unlock lock next) at is e = absurd (cc)
plain_by g n x End at is e = absurd (cc)

plain_to : (g : Graph) (n : ℕ) (x : Node) → NodeAt g n x → IsPlain g n → plain x.action ≡ true
plain_to g n x at (evaluates y target value next at' is) = ap (λ (z : Node). plain z.action) (same_node g n x y at at') ∙ ap plain is
plain_to g n x at (stores y variable kind next at' is) = ap (λ (z : Node). plain z.action) (same_node g n x y at at') ∙ ap plain is

pub plain_is : (g : Graph) (n : ℕ) (x : Node) (answer : Bool) → NodeAt g n x → answer ≡ plain x.action → IsTrue answer ↔ IsPlain g n
plain_is g n x answer at is = (λ h. plain_by g n x x.action at refl (sym is ∙ h), λ p. is ∙ plain_to g n x at p)

node_of_plain : (g : Graph) (n : ℕ) → IsPlain g n → (x : Node) × NodeAt g n x
node_of_plain g n (evaluates x target value next at is) = (x, at)
node_of_plain g n (stores x variable kind next at is) = (x, at)

pub plain_within : (g : Graph) (n : ℕ) → IsPlain g n → n < length g.nodes
plain_within g n p = let x = node_of_plain g n p in slice_get_within g.nodes n x.0 x.1

no_node : (g : Graph) (n : ℕ) (x : Node) → slice_get g.nodes n ≡ None → NodeAt g n x → ⊥
no_node g n x none at = let both : None ≡ Some x = sym none ∙ at in cc

pub plain_none : (g : Graph) (n : ℕ) → slice_get g.nodes n ≡ None → IsTrue false ↔ IsPlain g n
plain_none g n none = (λ h. let wrong : false ≡ true = h in absurd (cc), λ p. let x = node_of_plain g n p in absurd (no_node g n x.0 none x.1))

is_unlock : (g : Graph) (n : ℕ) (x : Node) → NodeAt g n x → IsUnlock g n → t.unlocks x.action ≡ true
is_unlock g n x at (i.unlocks y lock next at' is) = ap (λ (z : Node). t.unlocks z.action) (same_node g n x y at at') ∙ ap t.unlocks is

sync_by : (g : Graph) (n : ℕ) (x : Node) → NodeAt g n x → IsSync x → Synchronises g n
sync_by g n x at s = record {
  is = x;
  at = at;
  takes_or_gives = elim (or_either (t.locks x.action) (t.unlocks x.action) s.takes_or_gives) [
    | inl takes ↦ inl (locked g n x x.action at refl takes)
    | inr gives ↦ inr (unlocked g n x x.action at refl gives)
  ];
  no_reads = s.no_reads;
  no_write = s.no_write;
}

sync_to : (g : Graph) (n : ℕ) (x : Node) → NodeAt g n x → Synchronises g n → IsSync x
sync_to g n x at s =
    let same : s.is ≡ x = same_node g n s.is x s.at at in
    record {
      takes_or_gives = elim s.takes_or_gives [
        | inl takes ↦ or_left (t.locks x.action) (t.unlocks x.action) (is_lock g n x at takes)
        | inr gives ↦ or_right (t.locks x.action) (t.unlocks x.action) (is_unlock g n x at gives)
      ];
      no_reads = ap (λ (y : Node). y.reads) (sym same) ∙ s.no_reads;
      no_write = ap (λ (y : Node). y.writes) (sym same) ∙ s.no_write;
    }

pub sync_is : (g : Graph) (n : ℕ) (x : Node) (answer : Bool) → NodeAt g n x → (IsTrue answer ↔ IsSync x) → IsTrue answer ↔ Synchronises g n
sync_is g n x answer at k = (λ h. sync_by g n x at (k.0 h), λ s. k.1 (sync_to g n x at s))

pub sync_none : (g : Graph) (n : ℕ) → slice_get g.nodes n ≡ None → IsTrue false ↔ Synchronises g n
sync_none g n none = (λ h. let wrong : false ≡ true = h in absurd (cc), λ s. absurd (no_node g n s.is none s.at))

-- ---- Edges to a node

-- of each node, where edges lead to it as said
abbrev AreEntriesOf : (ℕ → ℕ → Type 0) → List Entry → Type 0
AreEntriesOf Leads entries = (node : ℕ) (entry : Entry) → slice_get entries node ≡ Some entry → IsEntryOf (Leads node) entry

entry_as : (E F : ℕ → Type 0) (entry : Entry) → ((from : ℕ) → E from ↔ F from) → IsEntryOf E entry → IsEntryOf F entry
entry_as E F Nowhere same none = λ from h. none from ((same from).1 h)
entry_as E F (From one) same k = ((same one).0 k.0, λ from h. k.1 from ((same from).1 h))
entry_as E F Several same k = (k.0, k.1, k.2, (same k.0).0 k.3, (same k.1).0 k.4)

entry_more : (E : ℕ → Type 0) (from : ℕ) (was is : Entry) → IsEntryOf E was → Enters was from is → IsEntryOf (λ f. E f ⊎ (from ≡ f)) is
entry_more E from Nowhere is none e = subst (λ (x : Entry). IsEntryOf (λ f. E f ⊎ (from ≡ f)) x) (sym e) mine
  where
    mine : IsEntryOf (λ f. E f ⊎ (from ≡ f)) (From from)
    mine = (inr refl, λ f h. elim h [ inl old ↦ absurd (none f old) | inr new ↦ sym new ])
entry_more E from (From one) is k e = elim (same_or_other one from) [
  | inl same ↦ subst (λ (x : Entry). IsEntryOf (λ f. E f ⊎ (from ≡ f)) x) (sym (e.0 same)) (alone same)
  | inr other ↦ subst (λ (x : Entry). IsEntryOf (λ f. E f ⊎ (from ≡ f)) x) (sym (e.1 other)) (several other)
]
  where
    alone : one ≡ from → IsEntryOf (λ f. E f ⊎ (from ≡ f)) (From one)
    alone same = (inl k.0, λ f h. elim h [ inl old ↦ k.1 f old | inr new ↦ sym new ∙ sym same ])

    several : one ≢ from → IsEntryOf (λ f. E f ⊎ (from ≡ f)) Several
    several other = (one, from, other, inl k.0, inr refl)
entry_more E from Several is k e = subst (λ (x : Entry). IsEntryOf (λ f. E f ⊎ (from ≡ f)) x) (sym e) mine
  where
    mine : IsEntryOf (λ f. E f ⊎ (from ≡ f)) Several
    mine = (k.0, k.1, k.2, inl k.3, inl k.4)

leads_or : (to : Option ℕ) (node : ℕ) → (to ≡ Some node) ⊎ ¬ (to ≡ Some node)
leads_or None node = inr (λ e. (cc))
leads_or (Some n) node = elim (same_or_other n node) [ inl e ↦ inl (ap (λ (k : ℕ). Some k) e) | inr ne ↦ inr (λ e. ne (some_same n node e)) ]

entries_more : (Leads : ℕ → ℕ → Type 0) (from : ℕ) (to : Option ℕ) (old new : List Entry) → AreEntriesOf Leads old → EntersAt from to old new →
    AreEntriesOf (λ node f. Leads node f ⊎ ((from ≡ f) × (to ≡ Some node))) new
entries_more Leads from to old new are e node entry at = elim (leads_or to node) [
  | inl is ↦ (
      let long = e.long in
      let lt : node < length new = slice_get_within new node entry at in
      let was : slice_get old node ≡ Some (get_or old node Nowhere) = slice_get-get_or old node Nowhere (omega (arith, lt, long)) in
      let noted = e.noted node (get_or old node Nowhere) entry is was at in
      entry_as (λ f. Leads node f ⊎ (from ≡ f)) (λ f. Leads node f ⊎ ((from ≡ f) × (to ≡ Some node))) entry (λ f. (
        λ h. elim h [ inl x ↦ inl x | inr y ↦ inr (y, is) ],
        λ h. elim h [ inl x ↦ inl x | inr y ↦ inr y.0 ],
      )) (entry_more (Leads node) from (get_or old node Nowhere) entry (are node (get_or old node Nowhere) was) noted))
  | inr never ↦ entry_as (Leads node) (λ f. Leads node f ⊎ ((from ≡ f) × (to ≡ Some node))) entry (λ f. (
    λ h. inl h,
    λ h. elim h [ inl x ↦ x | inr y ↦ absurd (never y.1) ],
  )) (are node entry (sym (e.same node never) ∙ at))
]

nowhere : (n k : ℕ) (entry : Entry) → slice_get (replicate n Nowhere) k ≡ Some entry → entry ≡ Nowhere
nowhere zero k entry e = absurd (cc)
nowhere (suc n) zero entry e = sym (some_same Nowhere entry e)
nowhere (suc n) (suc k) entry e = nowhere n k entry e

length_nowhere : (n : ℕ) → length (replicate n Nowhere) ≡ n
length_nowhere zero = refl
length_nowhere (suc n) = ap suc (length_nowhere n)

pub entries_none : (g : Graph) (n : ℕ) (entries : List Entry) → n ≡ length g.nodes → entries ≡ replicate n Nowhere → AreEntries g 0 entries
entries_none g n entries long is = record {
  long = ap length is ∙ length_nowhere n ∙ long;
  each = λ node entry at. subst (λ (x : Entry). IsEntryOf (IsEdgeBelow g 0 node) x)
      (sym (nowhere n node entry (ap (λ (xs : List Entry). slice_get xs node) (sym is) ∙ at))) (none node);
}
  where
    none : (node : ℕ) → IsEntryOf (IsEdgeBelow g 0 node) Nowhere
    none node = λ from e. (let lt = e.below_it in omega (arith, lt))

-- both edges of one node are noted
pub entries_both : (g : Graph) (number : ℕ) (x : Node) (old mid new : List Entry) → NodeAt g number x → EntersAt number (next_of x.action) old mid →
    EntersAt number (other_of x.action) mid new → AreEntries g number old → AreEntries g (number + 1) new
entries_both g number x old mid new at e f are = record {
  long = f.long ∙ e.long ∙ are.long;
  each = λ node entry there. entry_as
      (λ from. (IsEdgeBelow g number node from ⊎ ((number ≡ from) × (next_of x.action ≡ Some node))) ⊎ ((number ≡ from) × (other_of x.action ≡ Some node)))
      (IsEdgeBelow g (number + 1) node) entry (both node)
      (entries_more (λ n from. IsEdgeBelow g number n from ⊎ ((number ≡ from) × (next_of x.action ≡ Some n))) number (other_of x.action) mid new
      (entries_more (IsEdgeBelow g number) number (next_of x.action) old mid are.each e) f node entry there);
}
  where
    new_edge : (node from : ℕ) → number ≡ from → (next_of x.action ≡ Some node) ⊎ (other_of x.action ≡ Some node) → IsEdgeBelow g (number + 1) node from
    new_edge node from is goes = record { below_it = omega (arith, is); edge = subst (λ (n : ℕ). IsEdge g n node) is (edge_to g number node x at goes) }

    both : (node from : ℕ) →
        ((IsEdgeBelow g number node from ⊎ ((number ≡ from) × (next_of x.action ≡ Some node))) ⊎ ((number ≡ from) × (other_of x.action ≡ Some node))) ↔
        IsEdgeBelow g (number + 1) node from
    both node from = (
      λ h. elim h [
        | inl k ↦ elim k [
          | inl old' ↦ record { below_it = let lt = old'.below_it in omega (arith, lt); edge = old'.edge }
          | inr p ↦ new_edge node from p.0 (inl p.1)
        ]
        | inr p ↦ new_edge node from p.0 (inr p.1)
      ],
      λ d. elim (same_or_other number from) [
        | inl is ↦ elim (edge_from g number node x at (subst (λ (n : ℕ). IsEdge g n node) (sym is) d.edge)) [
          | inl goes ↦ inl (inr (is, goes))
          | inr goes ↦ inr (is, goes)
        ]
        | inr ne ↦ inl (inl (record { below_it = let lt = d.below_it in omega (arith, lt, ne); edge = d.edge }))
      ],
    )

-- ---- Straight on

edge_below : (g : Graph) (from node : ℕ) → IsEdge g from node → IsEdgeBelow g (length g.nodes) node from
edge_below g from node e = record { below_it = slice_get_within g.nodes from e.is e.at; edge = e }

entered_by : (g : Graph) (from node : ℕ) (entry : Entry) → IsEntryOf (IsEdgeBelow g (length g.nodes) node) entry → entry ≡ From from → IsEnteredFrom g from node
entered_by g from node entry k e =
    let k' : IsEntryOf (IsEdgeBelow g (length g.nodes) node) (From from) = subst (λ (x : Entry). IsEntryOf (IsEdgeBelow g (length g.nodes) node) x) e k in
    record { edge = k'.0.edge; only = λ other edge. k'.1 other (edge_below g other node edge) }

pub entered_from : (g : Graph) (entries : List Entry) (below from node : ℕ) → below ≡ length g.nodes → AreEntries g below entries →
    slice_get entries node ≡ Some (From from) → IsEnteredFrom g from node
entered_from g entries below from node all are at =
    entered_by g from node (From from) (subst (λ (n : ℕ). IsEntryOf (IsEdgeBelow g n node) (From from)) all (are.each node (From from) at)) refl

-- from several nodes edges lead to it, or from none
not_entered : (g : Graph) (from node : ℕ) (entry : Entry) → IsEntryOf (IsEdgeBelow g (length g.nodes) node) entry → IsEnteredFrom g from node →
    entry ≡ From from
not_entered g from node Nowhere none e = absurd (none from (edge_below g from node e.edge))
not_entered g from node (From one) k e = ap From (e.only one k.0.edge)
not_entered g from node Several k e = absurd (k.2 (e.only k.0 k.3.edge ∙ sym (e.only k.1 k.4.edge)))

pub entry_is : (g : Graph) (entries : List Entry) (below from node : ℕ) (entry : Entry) → below ≡ length g.nodes → AreEntries g below entries →
    slice_get entries node ≡ Some entry → IsEnteredFrom g from node → entry ≡ From from
entry_is g entries below from node entry all are at e =
    not_entered g from node entry (subst (λ (n : ℕ). IsEntryOf (IsEdgeBelow g n node) entry) all (are.each node entry at)) e

-- a node that evaluates or stores leads to one node
leads_by : (g : Graph) (n to : ℕ) (x : Node) (a : Action) → NodeAt g n x → x.action ≡ a → plain a ≡ true → IsEdge g n to → next_of a ≡ Some to
leads_by g n to x a at is p e = elim (edge_from g n to x at e) [
  | inl next ↦ ap next_of (sym is) ∙ next
  | inr other ↦ no_other a p to (ap other_of (sym is) ∙ other)
]
  where
    no_other : (c : Action) → plain c ≡ true → (m : ℕ) → other_of c ≡ Some m → next_of c ≡ Some m
    no_other (Eval target value next) y m o = absurd (cc)
    no_other (Store variable kind next) y m o = absurd (cc)
    no_other (Test condition holds fails) y m o = absurd (cc)
    no_other (Lock lock next) y m o = absurd (cc)
    no_other (Unlock lock next) y m o = absurd (cc)
    no_other End y m o = absurd (cc)

pub leads_to : (g : Graph) (n to : ℕ) (x : Node) → NodeAt g n x → IsPlain g n → IsEdge g n to → next_of x.action ≡ Some to
leads_to g n to x at p e = leads_by g n to x x.action at refl (plain_to g n x at p) e

only_one : (g : Graph) (n a c : ℕ) → IsPlain g n → IsEdge g n a → IsEdge g n c → a ≡ c
only_one g n a c p e f = let x = node_of_plain g n p in some_same a c (sym (leads_to g n a x.0 x.1 p e) ∙ leads_to g n c x.0 x.1 p f)

pub sync_leads : (g : Graph) (last after : ℕ) (x : Node) (answer : Bool) → NodeAt g last x → IsPlain g last → next_of x.action ≡ Some after →
    (IsTrue answer ↔ Synchronises g after) → IsTrue answer ↔ LeadsToSync g last
sync_leads g last after x answer at p next k = (
  λ h. record { after = after; edge = edge_to g last after x at (inl next); ends = k.0 h },
  λ l. k.1 (subst (λ (n : ℕ). Synchronises g n) (some_same l.after after (sym (leads_to g last l.after x at p l.edge) ∙ next)) l.ends),
)

pub sync_leads_none : (g : Graph) (last : ℕ) (x : Node) → NodeAt g last x → IsPlain g last → next_of x.action ≡ None → IsTrue false ↔ LeadsToSync g last
sync_leads_none g last x at p none = (
  λ h. let wrong : false ≡ true = h in absurd (cc),
  λ l. let both : None ≡ Some l.after = sym none ∙ leads_to g last l.after x at p l.edge in absurd (cc),
)

-- ---- The stretch that begins at a node

pub stretch_found : (g : Graph) (before first past : ℕ) → IsEnteredFrom g before first → Synchronises g before → IsStraightEnd g first past →
    LeadsToSync g (past - 1) → IsStretch g first past
stretch_found g before first past entered sync e l = record {
  some = e.some;
  plain = e.plain;
  goes_on = λ node a b. (e.straight node a b).entered.edge;
  only_from = λ node from a b edge. (e.straight node a b).entered.only from edge;
  before = before;
  begins = sync;
  enters = entered.edge;
  only_enters = entered.only;
  after = l.after;
  ends = l.ends;
  leaves = λ last is. subst (λ (n : ℕ). IsEdge g n l.after) (omega (arith, is)) l.edge;
}

pub stretch_begins : (g : Graph) (before first past : ℕ) → IsEnteredFrom g before first → IsStretch g first past → Synchronises g before
stretch_begins g before first past entered s = subst (λ (n : ℕ). Synchronises g n) (entered.only s.before s.enters) s.begins

pub stretch_plain : (g : Graph) (first past : ℕ) → IsStretch g first past → IsPlain g first
stretch_plain g first past s = s.plain first (omega arith) s.some

pub stretch_ends : (g : Graph) (first past : ℕ) → IsStretch g first past → LeadsToSync g (past - 1)
stretch_ends g first past s =
    let some = s.some in
    record { after = s.after; edge = s.leaves (past - 1) (omega (arith, some)); ends = s.ends }

stretch_straight : (g : Graph) (first past : ℕ) → IsStretch g first past → (node : ℕ) → first ≤ node → suc node < past → GoesStraight g node
stretch_straight g first past s node a b = record {
  entered = record { edge = s.goes_on node a b; only = λ other e. s.only_from node other a b e };
  plain = s.plain (suc node) (omega (arith, a)) b;
}

stretch_stops : (g : Graph) (first past : ℕ) → IsStretch g first past → (last : ℕ) → suc last ≡ past → ¬ (GoesStraight g last)
stretch_stops g first past s last is straight =
    let some = s.some in
    let same : s.after ≡ suc last =
    only_one g last s.after (suc last) (s.plain last (omega (arith, some, is)) (omega (arith, is))) (s.leaves last is) straight.entered.edge in
    no_sync g (suc last) straight.plain (subst (λ (n : ℕ). Synchronises g n) same s.ends)

pub end_same : (g : Graph) (first past other : ℕ) → IsStraightEnd g first past → IsStretch g first other → past ≡ other
end_same g first past other e s = elim (cases_order past other) [
  | inl is ↦ is
  | inr apart ↦ elim apart [
    | inl less ↦ (
        let some = e.some in
        absurd (e.ends (past - 1) (omega (arith, some)) (stretch_straight g first other s (past - 1) (omega (arith, some)) (omega (arith, some, less)))))
    | inr more ↦ (
        let some = s.some in
        absurd (stretch_stops g first other s (other - 1) (omega (arith, some)) (e.straight (other - 1) (omega (arith, some)) (omega (arith, some, more)))))
  ]
]

pub stretch_within : (g : Graph) (first past : ℕ) → IsStretch g first past → past ≤ length g.nodes
stretch_within g first past s =
    let some = s.some in
    let lt = plain_within g (past - 1) (s.plain (past - 1) (omega (arith, some)) (omega (arith, some))) in
    omega (arith, lt, some)

pub no_stretch : (g : Graph) (first : ℕ) (found : Option Stretch) → found ≡ None → ((past : ℕ) → ¬ (IsStretch g first past)) → IsStretchAt g first found
no_stretch g first found none never = record {
  is = λ s e. (let both : None ≡ Some s = sym none ∙ e in absurd (cc));
  all = λ past s. absurd (never past s);
}

pub one_stretch : (g : Graph) (first past : ℕ) (found : Option Stretch) → found ≡ Some (record { first = first; past = past }) → IsStretch g first past →
    ((other : ℕ) → IsStretch g first other → past ≡ other) → IsStretchAt g first found
one_stretch g first past found is stretch only = record {
  is = λ s e. (
      let same : record { first = first; past = past } ≡ s = some_same (record { first = first; past = past }) s (sym is ∙ e) in
      (ap (λ (t : Stretch). t.first) (sym same), subst (λ (t : Stretch). IsStretch g t.first t.past) same stretch));
  all = λ other s. is ∙ ap (λ (n : ℕ). Some (record { first = first; past = n })) (only other s);
}

-- ---- All of them

pub below_none : (g : Graph) → AreStretchesBelow g 0 []
below_none g = record {
  is = λ k s e. absurd (cc);
  all = λ first past lt. absurd (omega (arith, lt));
  in_order = λ k l s t lt e. absurd (cc);
  below_it = λ k s e. absurd (cc);
}

pub below_more : (g : Graph) (first : ℕ) (stretches : List Stretch) (s : Stretch) (found : Option Stretch) → found ≡ Some s → IsStretchAt g first found →
    AreStretchesBelow g first stretches → AreStretchesBelow g (first + 1) (stretches ++ s ∷ [])
below_more g first stretches s found e at b =
    let mine = at.is s e in
    record {
      is = λ k u there. elim (get_push stretches s k u there) [
        | inl old ↦ b.is k u old
        | inr new ↦ subst (λ (v : Stretch). IsStretch g v.first v.past) new.1 mine.1
      ];
      all = λ start past lt stretch. elim (same_or_other start first) [
        | inl is ↦ (
            let here = at.all past (subst (λ (n : ℕ). IsStretch g n past) is stretch) in
            let same : s ≡ record { first = first; past = past } = some_same s (record { first = first; past = past }) (sym e ∙ here) in
            subst (λ (n : ℕ). Contains (stretches ++ s ∷ []) (record { first = n; past = past })) (sym is)
            (subst (λ (v : Stretch). Contains (stretches ++ s ∷ []) v) same (Contains-push stretches s)))
        | inr ne ↦ Contains-append_left stretches (s ∷ []) (record { first = start; past = past }) (b.all start past (omega (arith, lt, ne)) stretch)
      ];
      in_order = λ k l u v lt there there'. elim (get_push stretches s l v there') [
        | inl old' ↦ elim (get_push stretches s k u there) [
          | inl old ↦ b.in_order k l u v lt old old'
          | inr new ↦ (let less = slice_get_within stretches l v old' in absurd (omega (arith, less, lt, new.0)))
        ]
        | inr new' ↦ elim (get_push stretches s k u there) [
          | inl old ↦ (
              let less = b.below_it k u old in
              let same : s.first ≡ v.first = ap (λ (w : Stretch). w.first) new'.1 in
              omega (arith, less, mine.0, same))
          | inr new ↦ absurd (omega (arith, lt, new.0, new'.0))
        ]
      ];
      below_it = λ k u there. elim (get_push stretches s k u there) [
        | inl old ↦ (let less = b.below_it k u old in omega (arith, less))
        | inr new ↦ (let same : s.first ≡ u.first = ap (λ (w : Stretch). w.first) new.1 in omega (arith, mine.0, same))
      ];
    }

pub below_same : (g : Graph) (first : ℕ) (stretches : List Stretch) (found : Option Stretch) → found ≡ None → IsStretchAt g first found →
    AreStretchesBelow g first stretches → AreStretchesBelow g (first + 1) stretches
below_same g first stretches found e at b = record {
  is = b.is;
  all = λ start past lt stretch. elim (same_or_other start first) [
    | inl is ↦ (
        let here = at.all past (subst (λ (n : ℕ). IsStretch g n past) is stretch) in
        let both : None ≡ Some (record { first = first; past = past }) = sym e ∙ here in
        absurd (cc))
    | inr ne ↦ b.all start past (omega (arith, lt, ne)) stretch
  ];
  in_order = b.in_order;
  below_it = λ k u there. (let less = b.below_it k u there in omega (arith, less));
}

pub below_all : (g : Graph) (below : ℕ) (stretches : List Stretch) → length g.nodes ≤ below → AreStretchesBelow g below stretches → AreStretches g stretches
below_all g below stretches le b = record {
  is = b.is;
  all = λ first past s. (let lt = plain_within g first (stretch_plain g first past s) in b.all first past (omega (arith, lt, le)) s);
  in_order = b.in_order;
}

-- ---- As the code finds it

pub node_found : (x : code.Graph) (items : List node.Node) (n : ℕ) (is : node.Node) → items ≡ x.nodes.items → n < length items → is ≡ get_or items n is →
    NodeAt (graph_of x) n (node_of is)
node_found x items n is same lt e =
    slice_get-map node_of x.nodes.items n
    ∙ ap (option_map node_of) (subst (λ (xs : List node.Node). slice_get xs n ≡ Some is) same (slice_get_read items (length items) n is refl lt e))

pub node_lacking : (x : code.Graph) (items : List node.Node) (n : ℕ) → items ≡ x.nodes.items → length items ≤ n → slice_get (graph_of x).nodes n ≡ None
node_lacking x items n same le =
    slice_get-map node_of x.nodes.items n
    ∙ ap (option_map node_of) (subst (λ (xs : List node.Node). slice_get xs n ≡ None) same (slice_get_past items n le))

entry_there : (g : Graph) (entries : List Entry) (below n : ℕ) → below ≡ length g.nodes → AreEntries g below entries → n < below →
    slice_get entries n ≡ Some (get_or entries n Nowhere)
entry_there g entries below n all are lt = (let long = are.long in slice_get-get_or entries n Nowhere (omega (arith, lt, long, all)))

pub entered_at : (g : Graph) (entries : List Entry) (below from n : ℕ) → below ≡ length g.nodes → AreEntries g below entries → n < below →
    get_or entries n Nowhere ≡ From from → IsEnteredFrom g from n
entered_at g entries below from n all are lt is =
    entered_from g entries below from n all are (entry_there g entries below n all are lt ∙ ap (λ (e : Entry). Some e) is)

entry_of : (g : Graph) (entries : List Entry) (below from n : ℕ) → below ≡ length g.nodes → AreEntries g below entries → n < below →
    IsEnteredFrom g from n → get_or entries n Nowhere ≡ From from
entry_of g entries below from n all are lt e = entry_is g entries below from n (get_or entries n Nowhere) all are (entry_there g entries below n all are lt) e

same_from : (x y : ℕ) → From x ≡ From y → x ≡ y
same_from x y e = cc

pub entered_is : (g : Graph) (entries : List Entry) (below from n other : ℕ) → below ≡ length g.nodes → AreEntries g below entries → n < below →
    get_or entries n Nowhere ≡ From other → IsTrue (nat_eq other from) ↔ IsEnteredFrom g from n
entered_is g entries below from n other all are lt is = (
  λ h. entered_at g entries below from n all are lt (is ∙ ap From (eqb-true other from h)),
  λ e. eq-eqb other from (same_from other from (sym is ∙ entry_of g entries below from n all are lt e)),
)

pub not_entered_at : (g : Graph) (entries : List Entry) (below n : ℕ) → below ≡ length g.nodes → AreEntries g below entries → n < below →
    ((x : ℕ) → get_or entries n Nowhere ≡ From x → ⊥) → (past : ℕ) → ¬ (IsStretch g n past)
not_entered_at g entries below n all are lt never past s =
    never s.before (entry_of g entries below s.before n all are lt (record { edge = s.enters; only = s.only_enters }))

pub entered_not : (g : Graph) (entries : List Entry) (below from n : ℕ) → below ≡ length g.nodes → AreEntries g below entries → n < below →
    ((x : ℕ) → get_or entries n Nowhere ≡ From x → ⊥) → IsTrue false ↔ IsEnteredFrom g from n
entered_not g entries below from n all are lt never = (
  λ h. let wrong : false ≡ true = h in absurd (cc),
  λ e. absurd (never from (entry_of g entries below from n all are lt e)),
)

pub straight_is : (g : Graph) (n next : ℕ) (answer : Bool) → next ≡ suc n → IsPlain g next → (IsTrue answer ↔ IsEnteredFrom g n next) →
    IsTrue answer ↔ GoesStraight g n
straight_is g n next answer is p k = (
  λ h. record {
    entered = subst (λ (m : ℕ). IsEnteredFrom g n m) is (k.0 h);
    plain = subst (λ (m : ℕ). IsPlain g m) is p;
  },
  λ s. k.1 (subst (λ (m : ℕ). IsEnteredFrom g n m) (sym is) s.entered),
)

pub straight_not : (g : Graph) (n next : ℕ) (answer : Bool) → next ≡ suc n → answer ≡ false → (IsTrue answer ↔ IsPlain g next) →
    IsTrue answer ↔ GoesStraight g n
straight_not g n next answer is none k = (
  λ h. let wrong : false ≡ true = sym none ∙ h in absurd (cc),
  λ s. k.1 (subst (λ (m : ℕ). IsPlain g m) (sym is) s.plain),
)

pub plain_first : (g : Graph) (first : ℕ) → IsPlain g first → (node : ℕ) → first ≤ node → node ≤ first → IsPlain g node
plain_first g first p node a b = (let is : first ≡ node = omega (arith, a, b) in subst (λ (n : ℕ). IsPlain g n) is p)

pub plain_more : (g : Graph) (first last next : ℕ) → next ≡ suc last → ((node : ℕ) → first ≤ node → node ≤ last → IsPlain g node) → GoesStraight g last →
    (node : ℕ) → first ≤ node → node ≤ next → IsPlain g node
plain_more g first last next is old s node a b = elim (same_or_other node next) [
  | inl e ↦ subst (λ (n : ℕ). IsPlain g n) (sym (e ∙ is)) s.plain
  | inr other ↦ old node a (omega (arith, b, other, is))
]

pub straight_more : (g : Graph) (first last next : ℕ) → next ≡ suc last → ((node : ℕ) → first ≤ node → node < last → GoesStraight g node) →
    GoesStraight g last →
    (node : ℕ) → first ≤ node → node < next → GoesStraight g node
straight_more g first last next is old s node a b = elim (same_or_other node last) [
  | inl e ↦ subst (λ (n : ℕ). GoesStraight g n) (sym e) s
  | inr other ↦ old node a (omega (arith, b, other, is))
]

pub straight_ends : (g : Graph) (first last past : ℕ) → past ≡ suc last → first ≤ last → ((node : ℕ) → first ≤ node → node ≤ last → IsPlain g node) →
    ((node : ℕ) → first ≤ node → node < last → GoesStraight g node) → ¬ (GoesStraight g last) → IsStraightEnd g first past
straight_ends g first last past is a plain straight ends =
    let lt = plain_within g last (plain last a (omega arith)) in
    record {
      some = omega (arith, a, is);
      within = omega (arith, lt, is);
      plain = λ node x y. plain node x (omega (arith, y, is));
      straight = λ node x y. straight node x (omega (arith, y, is));
      ends = λ node e s. ends (subst (λ (n : ℕ). GoesStraight g n) (omega (arith, e, is)) s);
    }

-- a stretch ends where the code goes straight on no further
pub ends_at : (g : Graph) (first past other : ℕ) → IsStraightEnd g first past → IsStretch g first other → LeadsToSync g (past - 1)
ends_at g first past other e s =
    let is : past ≡ other = end_same g first past other e s in
    subst (λ (n : ℕ). LeadsToSync g (n - 1)) (sym is) (stretch_ends g first other s)
