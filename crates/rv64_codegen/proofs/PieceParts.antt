-- The three parts of a node's piece: a boundary or nothing, what the node does, and a jump or nothing.
use Rattle.std.proofs.Common.{◌≡◌, ◌≢◌, ◌⊎◌, inl, inr, ℕ, ◌+◌, ◌-◌, ◌*◌, ◌≤◌, List, [], ◌++◌, length, refl, ap, arith, sym, ◌∙◌, subst, Bool, true, false}
use Rattle.std.proofs.Common.{Option, Some, None}
use Rattle.std.specs.Prelude.{slice_get}
use Rattle.std.proofs.lemmas.Bool.{true≢false}
use Rattle.std.proofs.lemmas.List.{length-append, append-nil}
use Rattle.std.proofs.lemmas.Option.{none-some, same_Some}
use Rattle.rv64_isa.specs.declared.object.CodeItem.{CodeItem}
use Rattle.rv64_link.specs.LabelledCode.{label_position}
use Rattle.code_runs.specs.ComputingRuns.{config}
use Rattle.code_runs.specs.CodeTraces.{Program, MarkedEnvironment, Meets, Observation, GoesThrough}
use Rattle.flow_graph.specs.Nodes.{Action, Eval, Store, Test, Lock, Unlock, End, Node, Graph}
use Rattle.flow_graph.specs.IdempotentCuts.{Boundaries, IsUnlock, unlocks, IsChosen}
use Rattle.flow_graph.specs.Liveness.{NodeAt}
use Rattle.node_code.specs.Sites.{IsPart, Site, mark_waits}
use Rattle.node_code.specs.Pieces.{IsClosed, words_in}
use Rattle.node_code.proofs.Public.{pieces_close, part_left, part_right, waits_left, waits_right, words_are, fragment, weaker, more_room, moved, two_legs}
use Rattle.thread_code.specs.Plans.{Plan, Thread, IsNodeOf, IsPlan, IsThread}
use Rattle.thread_code.specs.NodeCodeEffects.{Places}
use Rattle.ido_base.specs.declared.place.Place.{Place}
use Rattle.ido_ints.specs.declared.kinds.Kind.{Kind}
use Rattle.c_tree.specs.Exprs as e
use Rattle.rv64_codegen.specs.ThreadPieces.{Choices, AreChoices, IsGuard, IsGuarded, IsComputedBefore, nothing, computed, GoesTo, IsChoosing, turned, straight}
use Rattle.rv64_codegen.specs.ThreadPieces.{IsAssigning, IsSetting, in_register, in_section, outside, IsDoing}
use Rattle.rv64_codegen.proofs.PieceSites.{IsLinkedIn, Spot, Spots, spot_site, IsSited, AgreesAt, bare, bare_meets}

-- ---- A boundary is chosen or not

abbrev is_unlock : Action → Bool
is_unlock (Eval target value next) = false
is_unlock (Store variable kind next) = false
is_unlock (Test condition holds fails) = false
is_unlock (Lock lock next) = false
is_unlock (Unlock lock next) = true
is_unlock End = false

pub chosen_or_not : (g : Graph) (b : Boundaries) (node : ℕ) (is : Node) → NodeAt g node is → IsChosen g b node ⊎ (IsChosen g b node → ⊥)
chosen_or_not g b node is at = by (slice_get b.before node) refl
  where
    not_unlock : (u : Bool) → is_unlock is.action ≡ u → u ≡ false → IsUnlock g node → ⊥
    not_unlock u e off (unlocks x lock next here does) =
        let same : x ≡ is = same_Some x is (sym here ∙ at) in
        let one : is_unlock is.action ≡ true = ap (λ (y : Node). is_unlock y.action) (sym same) ∙ ap is_unlock does in
        true≢false (sym one ∙ e ∙ off)

    here : slice_get b.before node ≡ Some true → (a : Action) → is.action ≡ a → IsChosen g b node ⊎ (IsChosen g b node → ⊥)
    here stands (Unlock lock next) e = inr (λ ch. ch.free (unlocks is lock next at e))
    here stands (Eval target value next) e = inl (record { stands = stands; free = not_unlock false (ap is_unlock e) refl })
    here stands (Store variable kind next) e = inl (record { stands = stands; free = not_unlock false (ap is_unlock e) refl })
    here stands (Test condition holds fails) e = inl (record { stands = stands; free = not_unlock false (ap is_unlock e) refl })
    here stands (Lock lock next) e = inl (record { stands = stands; free = not_unlock false (ap is_unlock e) refl })
    here stands End e = inl (record { stands = stands; free = not_unlock false (ap is_unlock e) refl })

    by : (o : Option Bool) → slice_get b.before node ≡ o → IsChosen g b node ⊎ (IsChosen g b node → ⊥)
    by None none = inr (λ ch. none-some true (sym none ∙ ch.stands))
    by (Some false) some = inr (λ ch. true≢false (sym (same_Some false true (sym some ∙ ch.stands))))
    by (Some true) some = here some is.action refl

pub same_or_other : (m n : ℕ) → (m ≡ n) ⊎ (m ≢ n)
same_or_other m n = grind arith

nothing_closed : IsClosed []
nothing_closed = record { waits = refl; labels = λ label. refl }

-- a node of a thread, with the three parts of its piece where that stands in linked code
pub record PlacedNode (p : Plan) (t : Thread) (c : Choices) (entry : ℕ → ℕ) : Type 0 where
  pub program : Program
  pub items : List CodeItem
  pub n : IsLinkedIn program items
  pub node : ℕ
  pub is : Node
  pub at : NodeAt p.graph node is
  pub before : List CodeItem
  pub does : List CodeItem
  pub goes : List CodeItem
  pub guarded : IsGuarded p t c node is.action before
  pub doing : IsDoing p t c node is.action does goes
  pub sited : IsSited t program items n entry node (before ++ (does ++ goes))

module _ (p : Plan) (t : Thread) (c : Choices) where
  pub computing_closed : (node : ℕ) (a : Action) (piece : List CodeItem) → IsComputedBefore p t c node a piece → IsClosed piece
  computing_closed node a piece (nothing none empty) = subst (λ (xs : List CodeItem). IsClosed xs) (sym empty) nothing_closed
  computing_closed node a piece (computed logged place local kind value next same prep) = prep.closed

  guard_closed : (node : ℕ) (a : Action) (piece : List CodeItem) → IsGuard p t c node a piece → IsClosed piece
  guard_closed node a piece g =
      subst (λ (xs : List CodeItem). IsClosed xs) (sym g.split)
      (pieces_close g.computing g.keeping (computing_closed node a g.computing g.computes) (g.keeps []).closed)

  pub guarded_closed : (node : ℕ) (is : Node) (piece : List CodeItem) → NodeAt p.graph node is → IsGuarded p t c node is.action piece → IsClosed piece
  guarded_closed node is piece at g = by (chosen_or_not p.graph p.boundaries node is at)
    where
      by : IsChosen p.graph p.boundaries node ⊎ (IsChosen p.graph p.boundaries node → ⊥) → IsClosed piece
      by (inl chosen) = guard_closed node is.action piece (g.chosen chosen)
      by (inr plain) = subst (λ (xs : List CodeItem). IsClosed xs) (sym (g.plain plain)) nothing_closed

  setting_closed : (node : ℕ) (place : Place) (local : ℕ) (kind : Kind) (value : e.Expr) (does : List CodeItem) →
      IsSetting p t c node place local kind value does → IsClosed does
  setting_closed node place local kind value does (in_register register home d) = d.closed
  setting_closed node place local kind value does (in_section word home is d) = d.closed
  setting_closed node place local kind value does (outside word home none d) = d.closed

  assigning_closed : (node : ℕ) (target : e.Lvalue) (value : e.Expr) (does : List CodeItem) → IsAssigning p t c node target value does → IsClosed does
  assigning_closed node (e.ToLocal place local kind) value does d = setting_closed node place local kind value does d
  assigning_closed node (e.ToVariable place variable kind) value does d = d.closed
  assigning_closed node (e.ToElement place variable kind index) value does d = d.closed

  pub does_closed : (node : ℕ) (a : Action) (does goes : List CodeItem) → IsDoing p t c node a does goes → IsClosed does
  does_closed node (Eval target value next) does goes d = assigning_closed node target value.expr does d.0
  does_closed node (Store variable kind next) does goes d = d.0.closed
  does_closed node (Test condition holds fails) does goes d = by d
    where
      by : IsChoosing p t c node condition holds fails does goes → IsClosed does
      by (turned same test none) = test.closed
      by (straight test goes_to) = test.closed
  does_closed node (Lock lock next) does goes d = (d.0 []).closed
  does_closed node (Unlock lock next) does goes d = (d.0.1 []).closed
  does_closed node End does goes d = d.0.closed

module _ {p : Plan} {t : Thread} {c : Choices} {entry : ℕ → ℕ} (it : PlacedNode p t c entry) where
  open it use {program, items, n, node, is, at, before, does, goes, guarded, doing, sited}

  abbrev pub to : ℕ → ℕ
  to k = n.linked.address_of k

  -- where the parts begin
  abbrev pub first_at : ℕ
  first_at = sited.position

  abbrev pub does_at : ℕ
  does_at = sited.position + length before

  abbrev pub goes_at : ℕ
  goes_at = sited.position + length before + length does

  abbrev pub before_spot : Spot items before
  before_spot = record {
    position = first_at;
    is_part = part_left items sited.position before (does ++ goes) sited.is_part;
    closed = waits_left items sited.position before (does ++ goes) sited.is_part ∙ sited.closed;
  }

  pub inner : IsPart items (sited.position + length before) (does ++ goes)
  inner = part_right items sited.position before (does ++ goes) sited.is_part

  pub inner_closed : mark_waits false inner.before ≡ false
  unfolding inner
  inner_closed =
      waits_right items sited.position before (does ++ goes) sited.is_part ∙ ap (λ (w : Bool). mark_waits w before) sited.closed ∙
      (guarded_closed p t c node is before at guarded).waits

  abbrev pub does_spot : Spot items does
  does_spot = record {
    position = does_at;
    is_part = part_left items (sited.position + length before) does goes inner;
    closed = waits_left items (sited.position + length before) does goes inner ∙ inner_closed;
  }

  abbrev pub goes_spot : Spot items goes
  goes_spot = record {
    position = goes_at;
    is_part = part_right items (sited.position + length before) does goes inner;
    closed = waits_right items (sited.position + length before) does goes inner ∙ ap (λ (w : Bool). mark_waits w does) inner_closed ∙
        (does_closed p t c node is.action does goes doing).waits;
  }

  abbrev pub does_in : (s : MarkedEnvironment) → Meets program s → Site does
  does_in s meets = spot_site n does does_spot s meets

  abbrev pub does_bare : Site does
  does_bare = does_in (bare program) (bare_meets program)

  -- where its call stands
  abbrev pub call_of : (b : Action) → IsDoing p t c node b does goes → ℕ
  call_of (Eval target value next) d = 0
  call_of (Store variable kind next) d = 0
  call_of (Test condition holds fails) d = 0
  call_of (Lock lock next) d = ((d.0 []).at does_bare).call
  call_of (Unlock lock next) d = ((d.0.1 []).at does_bare).call
  call_of End d = (d.0.at does_bare).call

  -- where the store of an assignment outside sections stands, else where what the node does begins
  abbrev pub setting_store : {place : Place} → {local : ℕ} → {kind : Kind} → {value : e.Expr} → IsSetting p t c node place local kind value does → ℕ
  setting_store (in_register register home d) = to does_at
  setting_store (in_section word home is d) = to does_at
  setting_store (outside word home none d) = (d.at does_bare).store

  abbrev pub assigning_store : (target : e.Lvalue) → (value : e.Expr) → IsAssigning p t c node target value does → ℕ
  assigning_store (e.ToLocal place local kind) value d = setting_store d
  assigning_store (e.ToVariable place variable kind) value d = to does_at
  assigning_store (e.ToElement place variable kind index) value d = to does_at

  abbrev pub store_of : (b : Action) → IsDoing p t c node b does goes → ℕ
  store_of (Eval target value next) d = assigning_store target value.expr d.0
  store_of (Store variable kind next) d = to does_at
  store_of (Test condition holds fails) d = to does_at
  store_of (Lock lock next) d = to does_at
  store_of (Unlock lock next) d = to does_at
  store_of End d = to does_at

  abbrev pub spots_in : Spots
  spots_in = record { core = to does_at; call = call_of is.action doing; after = to goes_at; store = store_of is.action doing }

  pub ends : to (goes_at + length goes) ≡ entry (node + 1)
  ends =
      let whole : length (before ++ (does ++ goes)) ≡ length before + length (does ++ goes) = length-append before (does ++ goes) in
      let rest : length (does ++ goes) ≡ length does + length goes = length-append does goes in
      let same : sited.position + length before + length does + length goes ≡ sited.position + length (before ++ (does ++ goes)) =
      omega (arith, whole, rest) in
      ap to same ∙ sited.end

  -- ---- Words

  abbrev pub before_words : ℕ
  before_words = words_in before (spot_site n before before_spot (bare program) (bare_meets program))

  abbrev pub does_words : ℕ
  does_words = words_in does (spot_site n does does_spot (bare program) (bare_meets program))

  abbrev pub goes_words : ℕ
  goes_words = words_in goes (spot_site n goes goes_spot (bare program) (bare_meets program))

  module _ (words : ℕ) (counted : entry (node + 1) ≡ entry node + 4 * words) where
    pub all_words : before_words + (does_words + goes_words) ≡ words
    all_words =
        let a : to does_at ≡ to first_at + 4 * before_words = words_are before (spot_site n before before_spot (bare program) (bare_meets program)) in
        let b : to goes_at ≡ to does_at + 4 * does_words = words_are does (spot_site n does does_spot (bare program) (bare_meets program)) in
        let d : to (goes_at + length goes) ≡ to goes_at + 4 * goes_words = words_are goes (spot_site n goes goes_spot (bare program) (bare_meets program)) in
        let begin : to first_at ≡ entry node = sited.begin in
        omega (arith, a, b, d, ends, begin, counted)

    -- ---- How the code goes on

    goes_leg : (next : ℕ) → IsNodeOf t next → GoesTo p t c node next goes → (s : MarkedEnvironment) → Meets program s → (x : List ℕ) →
        GoesThrough s (fragment x (to goes_at) (entry next) goes_words) [] (λ y. y ≡ x)
    goes_leg next of_next g s meets x = by (same_or_other next (node + 1))
      where
        by : (next ≡ node + 1) ⊎ (next ≢ node + 1) → GoesThrough s (fragment x (to goes_at) (entry next) goes_words) [] (λ y. y ≡ x)
        by (inl same) =
            let none : goes ≡ [] = g.follows same in
            let e : goes_at ≡ goes_at + length goes = let l : length goes ≡ 0 = ap length none in omega (arith, l) in
            let here : to goes_at ≡ entry next = ap to e ∙ ends ∙ ap entry (sym same) in
            record { registers = x; steps = 0; walks = (ap (λ (a : ℕ). config x a) here, refl); short = omega arith; are = refl }
        by (inr other) =
            moved s x (to goes_at) (to goes_at) (to (label_position (next - t.part.first) items)) (entry next) goes_words [] (λ y. y ≡ x) refl
            (sited.labels next of_next) (((g.jumps other).at (spot_site n goes goes_spot s meets)).jumps x)

    -- after the boundary alone
    pub then_core : (s : MarkedEnvironment) (x : List ℕ) (ss : List Observation) (P : List ℕ → Type 0) →
        GoesThrough s (fragment x (to first_at) (to does_at) before_words) ss P → GoesThrough s (fragment x (entry node) (to does_at) words) ss P
    then_core s x ss P g =
        more_room s x (entry node) (to does_at) before_words words ss P (omega (arith, all_words))
        (moved s x (to first_at) (entry node) (to does_at) (to does_at) before_words ss P sited.begin refl g)

    -- within what the node does
    pub within : (s : MarkedEnvironment) (x : List ℕ) (from there : ℕ) (ss : List Observation) (P : List ℕ → Type 0) →
        GoesThrough s (fragment x from there does_words) ss P → GoesThrough s (fragment x from there words) ss P
    within s x from there ss P g = more_room s x from there does_words words ss P (omega (arith, all_words)) g

    -- after what the node does, within what so many of its words leave
    pub on_from_after : (least : ℕ) → least ≤ does_words → (next : ℕ) → IsNodeOf t next → GoesTo p t c node next goes → (s : MarkedEnvironment) →
        Meets program s → (x : List ℕ) → GoesThrough s (fragment x (to goes_at) (entry next) (words - least)) [] (λ y. y ≡ x)
    on_from_after least some next of_next g s meets x =
        more_room s x (to goes_at) (entry next) goes_words (words - least) [] (λ y. y ≡ x) (omega (arith, all_words, some))
        (goes_leg next of_next g s meets x)

    -- the last of what the node does, and on to the next
    pub then_goes : (next : ℕ) → IsNodeOf t next → GoesTo p t c node next goes → (s : MarkedEnvironment) → Meets program s →
        (x : List ℕ) (from : ℕ) (ss : List Observation) (P : List ℕ → Type 0) → GoesThrough s (fragment x from (to goes_at) does_words) ss P →
        GoesThrough s (fragment x from (entry next) words) ss P
    then_goes next of_next g s meets x from ss P leg =
        more_room s x from (entry next) (does_words + goes_words) words ss P (omega (arith, all_words))
        (subst (λ (ts : List Observation). GoesThrough s (fragment x from (entry next) (does_words + goes_words)) ts P) (append-nil ss)
        (two_legs s x from (to goes_at) (entry next) does_words goes_words ss [] P P leg
        (λ y h. weaker s (fragment y (to goes_at) (entry next) goes_words) [] (λ z. z ≡ y) P (λ z same. subst P (sym same) h)
        (goes_leg next of_next g s meets y))))

    -- what the node does, and on to the next
    pub then_next : (next : ℕ) → IsNodeOf t next → GoesTo p t c node next goes → (s : MarkedEnvironment) → Meets program s →
        (x : List ℕ) (ss : List Observation)
        (P : List ℕ → Type 0) → GoesThrough s (fragment x (to does_at) (to goes_at) does_words) ss P →
        GoesThrough s (fragment x (to does_at) (entry next) words) ss P
    then_next next of_next g s meets x ss P leg = then_goes next of_next g s meets x (to does_at) ss P leg

-- it is a node of a plan's thread, whose places have its addresses
pub record HasPlaces {p : Plan} {t : Thread} {c : Choices} (places : Places) (it : PlacedNode p t c places.entry) : Type 0 where
  pub plan : IsPlan p
  pub of : IsThread p t
  pub choices : AreChoices p t c
  pub own : IsNodeOf t it.node
  pub agrees : AgreesAt places it.program c.live c.kept c.cleans it.node (spots_in it)
