-- Which lines the pieces of nodes clean.
use Rattle.std.proofs.Common.{◌≡◌, ◌⊎◌, inl, inr, ⊎_elim, ℕ, ◌+◌, ◌<◌, List, [], ◌∷◌, ◌++◌, append_assoc, length, map, refl, ap, arith, sym, subst, ◌∙◌}
use Rattle.std.proofs.Common.{Bool, true, false}
use Rattle.std.specs.Prelude.{if◌then◌else◌}
use Rattle.std.proofs.lemmas.Bool.{true≢false}
use Rattle.std.proofs.lemmas.Option.{slice_get_within}
use Rattle.ido_base.specs.declared.place.Place.{Place}
use Rattle.ido_ints.specs.declared.kinds.Kind.{Kind}
use Rattle.ido_ints.specs.declared.kinds.Kind.TheVariants.{UnsignedLong}
use Rattle.c_tree.specs.Exprs as e
use Rattle.expr_code.specs.declared.home.Home.TheVariants.{InRegister, InFrame}
use Rattle.rv64_isa.specs.declared.instr.Instr.TheVariants.{CboClean}
use Rattle.rv64_isa.specs.declared.object.CodeItem.{CodeItem}
use Rattle.rv64_isa.specs.declared.object.CodeItem.TheVariants.{Instruction}
use Rattle.memory_layout.specs.Roles.{pending_address}
use Rattle.boundary_code.specs.Boundaries.{Boundary}
use Rattle.flow_graph.specs.Nodes.{Action, Eval, Store, Test, Lock, Unlock, End, Node}
use Rattle.flow_graph.specs.IdempotentCuts.{IsChosen}
use Rattle.flow_graph.specs.Liveness.{NodeAt}
use Rattle.node_code.specs.BoundaryCode.{CleansInBoundary}
use Rattle.node_code.specs.Cleans.{cleans_in, IsStoreThenClean}
use Rattle.node_code.proofs.Public.{cleans_append}
use Rattle.thread_code.specs.Plans.{Plan, Thread, IsLogged, IsPlan, IsThread, IsNodeOf}
use Rattle.rv64_codegen.specs.ThreadPieces.{Choices, AreChoices, GoesTo, IsChoosing, turned, straight, IsDoing, IsGuarded, IsNodePiece, IsEmitted, IsSetting}
use Rattle.rv64_codegen.specs.ThreadPieces.{in_register, in_section, outside}
use Rattle.rv64_codegen.specs.StoreCleans.{CleansLogged, CleansInBoundaries, nowhere, in_one, IsLeftOut, CleansStore, CleansAsNode, CleansAtOnce}
use Rattle.rv64_codegen.specs.StoreCleans.{AllCleanAtOnce}
use Rattle.rv64_codegen.specs.links.Emission.{AreEmitted}
use Rattle.rv64_codegen.proofs.ClosedPieces.{thread_closed}
use Rattle.rv64_codegen.proofs.PieceParts.{chosen_or_not, same_or_other}
use Rattle.rv64_codegen.proofs.GuardParts.{guard_cleans}
use Rattle.rv64_codegen.proofs.KnownNodes.{assigned_sets, known_of, logged_home, not_logged, sets_local}
use Rattle.rv64_codegen.proofs.Nodes.{Known}
use Rattle.rv64_codegen.proofs.PlannedNodes.{chosen_writes, IsStoring, node_exists}

-- items that clean no line, after others
more : (b : Boundary) (xs ys : List CodeItem) → CleansInBoundary b xs → cleans_in ys ≡ 0 → CleansInBoundary b (xs ++ ys)
more b xs ys c none = record {
  before = c.before;
  codes = c.codes;
  code = c.code;
  after = c.after ++ ys;
  split = ap (λ (zs : List CodeItem). zs ++ ys) c.split ∙ append_assoc c.before (map Instruction c.code ++ c.after) ys
      ∙ ap (λ (zs : List CodeItem). c.before ++ zs) (append_assoc (map Instruction c.code) c.after ys);
  is_code = c.is_code;
  quiet = c.quiet;
  none_before = c.none_before;
  none_after = let a = c.none_after in omega (arith, a, none, cleans_append c.after ys);
}

none_of_two : (xs ys : List CodeItem) → cleans_in xs ≡ 0 → cleans_in ys ≡ 0 → cleans_in (xs ++ ys) ≡ 0
none_of_two xs ys h k = omega (arith, h, k, cleans_append xs ys)

-- the clean of a store's line, or nothing
abbrev cleaning : Bool → List CodeItem
cleaning b = if b then Instruction (CboClean pending_address) ∷ [] else []

module _ (p : Plan) (t : Thread) (c : Choices) (plan : IsPlan p) (of : IsThread p t) (choices : AreChoices p t c) (node : ℕ) (is : Node)
    (own : IsNodeOf t node) (at : NodeAt p.graph node is) where
  goes_none : (next : ℕ) (goes : List CodeItem) → GoesTo p t c node next goes → cleans_in goes ≡ 0
  goes_none next goes g = by (same_or_other next (node + 1))
    where
      by : (next ≡ node + 1) ⊎ (next ≡ node + 1 → ⊥) → cleans_in goes ≡ 0
      by (inl same) = ap cleans_in (g.follows same)
      by (inr other) = (g.jumps other).cleans

  -- before a node that stores nothing and assigns no local stands no boundary by choice
  unchosen : (a : Action) → is.action ≡ a → (IsStoring p plan a → ⊥) → sets_local a ≡ false → IsChosen p.graph p.boundaries node → ⊥
  unchosen a e never off chosen =
      ⊎_elim (λ s. never (subst (λ (b : Action). IsStoring p plan b) e s))
      (λ f. true≢false (sym (assigned_sets p t plan of node is at f.1.0 f.1.1) ∙ (ap sets_local e ∙ off)))
      (chosen_writes p plan node is at chosen)

  -- where nothing stands before what it does
  alone : (before does goes : List CodeItem) → before ≡ [] → CleansInBoundaries p t (does ++ goes) → CleansInBoundaries p t (before ++ (does ++ goes))
  alone before does goes none d = subst (λ (xs : List CodeItem). CleansInBoundaries p t (xs ++ (does ++ goes))) (sym none) d

  -- what stands before the core
  guard_cleaned : (before : List CodeItem) → IsGuarded p t c node is.action before → CleansInBoundaries p t before
  guard_cleaned before g = by (chosen_or_not p.graph p.boundaries node is at)
    where
      by : IsChosen p.graph p.boundaries node ⊎ (IsChosen p.graph p.boundaries node → ⊥) → CleansInBoundaries p t before
      by (inl chosen) = in_one _ refl (guard_cleans p t c node is.action before (g.chosen chosen))
      by (inr plain) = nowhere (ap cleans_in (g.plain plain))

  -- what cleans nothing after it
  then_none : (before rest : List CodeItem) → CleansInBoundaries p t before → cleans_in rest ≡ 0 → CleansInBoundaries p t (before ++ rest)
  then_none before rest (nowhere none) after = nowhere (none_of_two before rest none after)
  then_none before rest (in_one b same inside) after = in_one b same (more b before rest inside after)

  logged_cleans : (piece before does goes : List CodeItem) → piece ≡ before ++ (does ++ goes) → CleansInBoundaries p t before →
      IsStoreThenClean UnsignedLong true does → cleans_in goes ≡ 0 → CleansLogged p t piece
  logged_cleans piece before does goes split earlier s none = record {
    before = before;
    width = s.width;
    after = goes;
    split = split ∙ ap (λ (xs : List CodeItem). before ++ (xs ++ goes)) s.items_are;
    width_is = s.width_is;
    earlier = earlier;
    later = none;
  }

  -- an assignment that isn't logged cleans nothing
  plain_cleans : (x : (before : List CodeItem) × IsGuarded p t c node is.action before) (does goes : List CodeItem) → cleans_in does ≡ 0 → cleans_in goes ≡ 0 →
      CleansInBoundaries p t (x.0 ++ (does ++ goes))
  plain_cleans x does goes first last = then_none x.0 (does ++ goes) (guard_cleaned x.0 x.1) (none_of_two does goes first last)

  abbrev AssignsAs : List CodeItem → Type 0
  AssignsAs piece = (IsLogged p t node → CleansLogged p t piece) × (¬ (IsLogged p t node) → CleansInBoundaries p t piece)

  setting_cleans : (piece before does goes : List CodeItem) → piece ≡ before ++ (does ++ goes) → IsGuarded p t c node is.action before →
      (place : Place) (local : ℕ) (kind : Kind) (value : e.Expr) → IsSetting p t c node place local kind value does → local < length t.kinds →
      cleans_in goes ≡ 0 → AssignsAs piece
  setting_cleans piece before does goes split g place local kind value (in_register register home d) below none = (
    λ it_is. let other = logged_home p t plan of node is at it_is local below in absurd (let z : ⊥ = cc in z),
    λ other. subst (λ (xs : List CodeItem). CleansInBoundaries p t xs) (sym split) (plain_cleans (before, g) does goes d.cleans none),
  )
  setting_cleans piece before does goes split g place local kind value (in_section word home it_is d) below none = (
    λ it. logged_cleans piece before does goes split (guard_cleaned before g) d.code none,
    λ other. absurd (other it_is),
  )
  setting_cleans piece before does goes split g place local kind value (outside word home unlogged d) below none = (
    λ it. absurd (unlogged it),
    λ it. subst (λ (xs : List CodeItem). CleansInBoundaries p t xs) (sym split) (plain_cleans (before, g) does goes d.cleans none),
  )

  store_cleans : (kind : Kind) (piece before does goes : List CodeItem) → piece ≡ before ++ (does ++ goes) → CleansInBoundaries p t before →
      IsStoreThenClean kind (c.cleans node) does → cleans_in goes ≡ 0 →
      (IsLeftOut p t node → c.cleans node ≡ false) → (c.cleans node ≡ false → IsLeftOut p t node) → CleansStore p t node kind piece
  store_cleans kind piece before does goes split earlier s none out back = record {
    before = before;
    width = s.width;
    after = cleaning (c.cleans node) ++ goes;
    split = split ∙ ap (λ (xs : List CodeItem). before ++ (xs ++ goes)) s.items_are;
    width_is = s.width_is;
    earlier = earlier;
    cleaned = λ kept. by (c.cleans node) refl kept;
    left_out = λ h. ap (λ (b : Bool). cleans_in (cleaning b ++ goes)) (out h) ∙ none;
  }
    where
      by : (b : Bool) → c.cleans node ≡ b → (IsLeftOut p t node → ⊥) →
          (rest : List CodeItem) × (cleaning (c.cleans node) ++ goes ≡ Instruction (CboClean pending_address) ∷ rest) × (cleans_in rest ≡ 0)
      by true e kept = (goes, ap (λ (b : Bool). cleaning b ++ goes) e, none)
      by false e kept = absurd (kept (back e))

  cleans_by : (piece : List CodeItem) (x : IsNodePiece p t c node is piece) (a : Action) → is.action ≡ a → IsDoing p t c node a x.does x.goes →
      CleansAsNode p t node a piece
  cleans_by piece x (Eval (e.ToLocal place local kind) value next) same d =
      let known = subst (λ (b : Action). Known p.flat t.kinds t.part.first t.part.end p.graph.nodes is b) same (known_of p t plan of node is own at) in
      setting_cleans piece x.before x.does x.goes x.split x.guarded place local kind value.expr d.0 (slice_get_within t.kinds local kind known.target_is.0)
      (goes_none next x.goes d.1)
  cleans_by piece x (Eval (e.ToVariable place variable kind) value next) same d = (
    λ it. absurd (not_logged p t plan of node is at (ap sets_local same) it),
    λ other. subst (λ (xs : List CodeItem). CleansInBoundaries p t xs) (sym x.split)
        (plain_cleans (x.before, x.guarded) x.does x.goes d.0.cleans (goes_none next x.goes d.1)),
  )
  cleans_by piece x (Eval (e.ToElement place variable kind index) value next) same d = (
    λ it. absurd (not_logged p t plan of node is at (ap sets_local same) it),
    λ other. subst (λ (xs : List CodeItem). CleansInBoundaries p t xs) (sym x.split)
        (plain_cleans (x.before, x.guarded) x.does x.goes d.0.cleans (goes_none next x.goes d.1)),
  )
  cleans_by piece x (Store variable kind next) e d =
      store_cleans kind piece x.before x.does x.goes x.split (guard_cleaned x.before x.guarded) d.0.code (goes_none next x.goes d.1)
      (λ h. (choices.cleaned node is variable kind next own at e).1 h) (λ h. (choices.cleaned node is variable kind next own at e).0 h)
  cleans_by piece x (Test condition holds fails) e d =
      subst (λ (xs : List CodeItem). CleansInBoundaries p t xs) (sym x.split)
      (alone x.before x.does x.goes (x.guarded.plain (unchosen (Test condition holds fails) e (λ h. h) refl)) (nowhere (by d)))
    where
      by : IsChoosing p t c node condition holds fails x.does x.goes → cleans_in (x.does ++ x.goes) ≡ 0
      by (turned same test none) = none_of_two x.does x.goes test.cleans (ap cleans_in none)
      by (straight test goes_on) = none_of_two x.does x.goes test.cleans (goes_none fails x.goes goes_on)
  cleans_by piece x (Lock lock next) e d =
      subst (λ (xs : List CodeItem). CleansInBoundaries p t xs) (sym x.split)
      (alone x.before x.does x.goes (x.guarded.plain (unchosen (Lock lock next) e (λ h. h) refl))
      (in_one _ refl (more _ x.does x.goes (d.0 []).cleans (goes_none next x.goes d.1))))
  cleans_by piece x (Unlock lock next) e d =
      subst (λ (xs : List CodeItem). CleansInBoundaries p t xs) (sym x.split)
      (alone x.before x.does x.goes (x.guarded.plain (unchosen (Unlock lock next) e (λ h. h) refl))
      (in_one _ refl (more _ x.does x.goes (d.0.1 []).cleans (goes_none next x.goes d.1))))
  cleans_by piece x End e d =
      subst (λ (xs : List CodeItem). CleansInBoundaries p t xs) (sym x.split)
      (alone x.before x.does x.goes (x.guarded.plain (unchosen End e (λ h. h) refl))
      (nowhere (none_of_two x.does x.goes d.0.cleans (ap cleans_in d.1))))

-- ---- Threads

module _ (p : Plan) (plan : IsPlan p) where
  thread_cleans : (t : Thread) → IsThread p t → (items : List CodeItem) → IsEmitted p t items → CleansAtOnce p t items
  thread_cleans t th items e =
      let count = e.of_nodes.count in
      let mine : (i : ℕ) → i < length e.pieces → IsNodeOf t (t.part.first + i) =
      λ i below. record { from_first = omega arith; below_end = omega (arith, below, count) } in
      record {
        nodes = e.pieces;
        count = count;
        labelled = thread_closed p t e.choices e.pieces e.of_nodes (λ i below. node_exists p plan t th (t.part.first + i) (mine i below));
        joined_are = e.joined_are;
        each = λ i code is g at.
            let x = e.of_nodes.each i code is g at in
            cleans_by p t e.choices plan th e.are (t.part.first + i) is (mine i (slice_get_within e.pieces i code g)) at code x is.action refl x.doing;
      }

  pub all_clean : (threads : List (List CodeItem)) → AreEmitted p threads → AllCleanAtOnce p threads
  all_clean threads are = record { count = are.count; each = λ t items th at. thread_cleans t th items (are.each t items th at) }
