-- Pieces of the nodes of a thread whose code is made.
use Rattle.std.proofs.Common.{◌≡◌, ◌≢◌, ◌⊎◌, ◌↔◌, inl, inr, ⊎_elim, refl, ℕ, zero, suc, ◌+◌, ◌-◌, ◌<◌, ◌≤◌, ◌^◌, List, [], ◌∷◌, ◌++◌, append_assoc, length}
use Rattle.std.proofs.Common.{◌∙◌, ap, sym, subst, arith, Some, None, Bool, true, false, not, if◌then◌else◌}
use Rattle.std.proofs.lemmas.Bool.{true≢false}
use Rattle.std.proofs.lemmas.Option.{none-some, same_Some}
use Rattle.std.specs.Prelude.{slice_get, slice_index_or, sum_by, IsTrue, Vec, pos, ℤ}
use Rattle.std.specs.Global.{Global}
use Rattle.std.specs.List.{list_all}
use Rattle.std.proofs.lemmas.List.Sums.{sum_by-append}
use Rattle.log_schemes.specs.declared.log.Log.{Log}
use Rattle.ido_base.specs.declared.limits.TheConstants.{MOST_PRICE, MOST_THREADS}
use Rattle.c_tree.specs.Exprs as e
use Rattle.ido_ints.specs.declared.kinds.Kind.{Kind}
use Rattle.c_tree.specs.Prices.{key_nodes, node_price}
use Rattle.c_tree.specs.Temporaries.{key_exprs}
use Rattle.c_tree.specs.WellFormed.{IsExpr, IsFlatLockName, IsTarget}
use Rattle.rv64_isa.specs.declared.object.CodeItem.{CodeItem}
use Rattle.rv64_link.specs.LabelledCode.{most_words_of}
use Rattle.memory_layout.specs.Roles.{pending_address, pending_value}
use Rattle.log_schemes.specs.Schemes.{locals_of, may_keep}
use Rattle.log_schemes.specs.declared.locals.Locals.TheVariants.{Frame}
use Rattle.boundary_code.specs.Boundaries.{Boundary}
use Rattle.boundary_code.specs.declared.written.Written.{Written}
use Rattle.expr_code.specs.EvaluationCode.{Homes, AreAtHome, homes_of}
use Rattle.flow_graph.specs.Nodes.{Action, Eval, Store, Test, Lock, Unlock, End, Node}
use Rattle.flow_graph.specs.IdempotentCuts.{IsChosen, IsStoreNode, stores}
use Rattle.flow_graph.specs.Liveness.{NodeAt}
use Rattle.flow_graph.proofs.Public.{found_in}
use Rattle.node_code.specs.declared.kept.Kept as kept
use Rattle.node_code.specs.Pieces.{Appends, IsBoundaryPiece, IsBoundaryOf, IsUnmarked, KeepsFrom, boundary_of, kept_words}
use Rattle.node_code.proofs.Public.{boundary_from}
use Rattle.thread_code.specs.Plans.{Plan, Thread, IsLogged, IsNodeOf, homes, locks_before, held_names_before, hold_words}
use Rattle.thread_code.specs.NodeCodeEffects.{bytes_written}
use Rattle.thread_code.specs.Programs.{action_nodes, names_kept}
use Rattle.rv64_codegen.specs.declared.thread.ThreadPlan as opened
use Rattle.rv64_isa.specs.declared.instr.Instr.{Instr}
use Rattle.ido_ints.specs.Kinds.{bytes_of}
use Rattle.expr_code.proofs.Public.{bytes_small}
use Rattle.rv64_codegen.specs.Evaluations.{IsAtHome, IsPreparation, NeedFew}
use Rattle.rv64_codegen.specs.links.Targets.{IsSelected}
use Rattle.rv64_codegen.proofs.Pieces.{is_preparation}
use Rattle.rv64_codegen.specs.ThreadPieces.{Choices, AreChoices, IsComputedBefore, computed, nothing, IsGuard, IsGuarded, IsKeeping, IsDoing, IsNodePiece}
use Rattle.rv64_codegen.specs.ThreadPieces.{MayEnter, boundary_words}
use Rattle.rv64_codegen.specs.links.LiveRegisters.{AreLiveRegisters}
use Rattle.rv64_codegen.specs.links.Numbers.{IsReady}
use Rattle.rv64_codegen.proofs.TextNames.{name_ready}
use Rattle.rv64_codegen.specs.links.Threads.{IsOpen, IsOwn, IsTargetHome, HasAction, IsKeptFor, Guards, KeepsAt, PreparesAt, is_logged}
use Rattle.rv64_codegen.specs.links.Threads.{GoesToNode, DoesAction, DoesAt, IsPiece, action_exprs, most_doing, list_at}
use Rattle.rv64_codegen.specs.links.Threads.{plan_in, thread_of, choices_of}
use Rattle.rv64_codegen.proofs.Homes.{has_homes}
use Rattle.rv64_codegen.proofs.KnownNodes.{assigned_sets, not_logged, sets_local}
use Rattle.rv64_codegen.proofs.LoggedNodes.{keepable_before, kept_before, logged_else, logged_then}
use Rattle.rv64_codegen.proofs.PieceParts.{chosen_or_not}
use Rattle.rv64_codegen.proofs.PlannedNodes.{chosen_writes, IsStoring, node_exists, sound_node, cheap_node, few_nodes, end_within, thread_below}
use Rattle.rv64_codegen.proofs.LiveRegisterLists.{are_kept, are_keepable, none_live}
use Rattle.rv64_codegen.proofs.LoweredNodes as sound
use Rattle.rv64_codegen.proofs.ReadLocals.{formed_is_at_home, target_is_at_home}

-- ---- Choices

pub twice : (b : Bool) → not (not b) ≡ b
twice true = refl
twice false = refl

list_there : (lists : List (Vec ℕ Global)) (i : ℕ) (v : Vec ℕ Global) → slice_get lists i ≡ Some v → list_at lists i ≡ v.items
list_there [] i v g = cc
list_there (w ∷ lists) zero v g = let same : w ≡ v = cc in ap (λ (u : Vec ℕ Global). u.items) same
list_there (w ∷ lists) (suc i) v g = list_there lists i v g

flagged : (xs : List Bool) (k : ℕ) → (not (slice_index_or xs k false) ≡ false) ↔ (slice_get xs k ≡ Some true)
flagged [] k = (λ h. cc, λ h. cc)
flagged (true ∷ xs) zero = (λ h. refl, λ h. refl)
flagged (false ∷ xs) zero = (λ h. cc, λ h. cc)
flagged (x ∷ xs) (suc k) = flagged xs k

abbrev made : Log → ℕ → List ℕ → List ℕ → (resume : ℕ) → Written → Boundary
made log thread locks live resume written =
    record { log = log; thread = thread; locks = locks; live = live; resume = pos resume; written = written.bytes; opens = written.opens }

module _ (x : opened.ThreadPlan) (o : IsOpen x) where
  abbrev p : Plan
  p = plan_in x

  abbrev t : Thread
  t = thread_of x

  abbrev c : Choices
  c = choices_of x

  pub live_at : (node : ℕ) → IsNodeOf t node → AreLiveRegisters p.graph t.locals p.live node (c.live node)
  live_at node own =
      let i = node - t.part.first in
      let there = found_in x.live.now i (omega (arith, o.lists.count, own.from_first, own.below_end)) in
      let e : t.part.first + i ≡ node = omega (arith, own.from_first) in
      let at : AreLiveRegisters p.graph t.locals p.live node there.0.items =
      subst (λ (n : ℕ). AreLiveRegisters p.graph t.locals p.live n there.0.items) e (o.lists.each i there.0 there.1) in
      subst (AreLiveRegisters p.graph t.locals p.live node) (sym (list_there x.live.now i there.0 there.1)) at

  pub are_choices : AreChoices p t c
  are_choices = record {
    live_are = λ node own. are_kept p o.plan t o.thread node (c.live node) (live_at node own);
    kept_are = λ node own.
        let there = node_exists p o.plan t o.thread node own in
        kept_before x o node own there.0 there.1 (are_kept p o.plan t o.thread node (c.live node) (live_at node own));
    cleaned = λ node is variable k next own at does.
        let f = flagged x.later.now node in
        let g = o.later.each node in
        (λ h. g.0 (f.0 h), λ h. f.1 (g.1 h));
  }

  -- ---- What a boundary keeps

  pub kept_thread : (node : ℕ) (live : List ℕ) (written : Written) (k : kept.Kept) → IsKeptFor x node live written k → k.thread < MOST_THREADS
  kept_thread node live written k is = omega (arith, is.thread_is, thread_below p o.plan t o.thread)

  pub live_keepable : (node : ℕ) → IsNodeOf t node → list_all (may_keep p.log) (c.live node) ≡ true
  live_keepable node own = are_keepable p o.plan t o.thread node (c.live node) (live_at node own)

  pub before_keepable : (node : ℕ) → IsNodeOf t node → list_all (may_keep p.log) (c.kept node) ≡ true
  before_keepable node own =
      let there = node_exists p o.plan t o.thread node own in
      keepable_before x o node own there.0 there.1 (live_keepable node own)

  pub kept_live : (node : ℕ) (live : List ℕ) (written : Written) (k : kept.Kept) → list_all (may_keep p.log) live ≡ true → IsKeptFor x node live written k →
      IsTrue (list_all (may_keep k.log) k.live.now)
  kept_live node live written k keepable is =
      ap (λ (log : Log). list_all (may_keep log) k.live.now) is.log_is ∙ (ap (λ (rs : List ℕ). list_all (may_keep p.log) rs) is.live_is ∙ keepable)

  pub boundary_is : (live : List ℕ) (written : Written) (locals : List ℤ) (node : ℕ) (k : kept.Kept) (resume : ℕ) → IsKeptFor x node live written k →
      boundary_of k (locks_before p t locals node) resume ≡ made p.log x.number (locks_before p t locals node) live resume written
  boundary_is live written locals node k resume is =
      let locks : List ℕ = locks_before p t locals node in
      ap (λ (log : Log). made log k.thread locks k.live.now resume k.written) is.log_is
      ∙ (ap (λ (n : ℕ). made p.log n locks k.live.now resume k.written) is.thread_is
      ∙ (ap (λ (l : List ℕ). made p.log x.number locks l resume k.written) is.live_is
      ∙ ap (λ (w : Written). made p.log x.number locks live resume w) is.written_is))

  pub few_live : (node : ℕ) → IsNodeOf t node → length (c.live node) ≤ 20
  few_live node own = (live_at node own).few

  -- ---- A node's piece

  -- the write that a node makes, as a boundary tells it
  abbrev pub write_of : Action → Written
  write_of a = record { bytes = bytes_written a; opens = false }

  pub keeps_is : (node : ℕ) (a : Action) (k : kept.Kept) (piece : List CodeItem) → IsKeptFor x node (c.kept node) (write_of a) k → IsBoundaryOf k piece →
      IsKeeping p t c node a piece
  keeps_is node a k piece is own locals =
      let locks : List ℕ = locks_before p t locals node in
      let most : ℕ = boundary_words p.log (held_names_before p t node) in
      subst (λ (b : Boundary). IsBoundaryPiece b (MayEnter p t locals node) most piece) (boundary_is (c.kept node) (write_of a) locals node k 0 is)
      (boundary_from (boundary_of k locks 0) (KeepsFrom k locks) (MayEnter p t locals node) (kept_words k) most piece (is.leave locals) is.few
      (own locks (is.locks_are locals)))

  -- a write has few bytes
  pub bytes_few : (a : Action) (bytes : ℕ) → bytes_written a ≡ Some bytes → bytes ≤ 8
  bytes_few (Eval target value next) bytes same = let e : 8 ≡ bytes = same_Some 8 bytes same in omega (arith, e)
  bytes_few (Store variable kind next) bytes same = let e : bytes_of kind ≡ bytes = same_Some (bytes_of kind) bytes same in omega (arith, e, bytes_small kind)
  bytes_few (Test condition holds fails) bytes same = absurd (none-some bytes same)
  bytes_few (Lock lock next) bytes same = absurd (none-some bytes same)
  bytes_few (Unlock lock next) bytes same = absurd (none-some bytes same)
  bytes_few End bytes same = absurd (none-some bytes same)

  pub none_written : (k : kept.Kept) (w : Written) → k.written ≡ w → w.bytes ≡ None → (bytes : ℕ) → k.written.bytes ≡ Some bytes → bytes ≤ 8
  none_written k w same none bytes some = absurd (none-some bytes (sym (ap (λ (v : Written). v.bytes) same ∙ none) ∙ some))

  pub written_few : (k : kept.Kept) (w : Written) → k.written ≡ w → (a : Action) → w.bytes ≡ bytes_written a → (bytes : ℕ) → k.written.bytes ≡ Some bytes →
      bytes ≤ 8
  written_few k w same a is bytes some = bytes_few a bytes (sym (ap (λ (v : Written). v.bytes) same ∙ is) ∙ some)

  -- what a logged assignment computes
  prepares_by : (node : ℕ) (target : e.Lvalue) (value : e.Placed) (next : ℕ) (is : Node) → NodeAt p.graph node is → is.action ≡ Eval target value next →
      IsLogged p t node → (piece : List CodeItem) → IsPreparation (homes_of x.frame) target value.expr piece → IsComputedBefore p t c node is.action piece
  prepares_by node (e.ToLocal place local kind) value next is at same logged piece prep =
      computed logged place local kind value next same
      (subst (λ (h : Homes). IsPreparation h (e.ToLocal place local kind) value.expr piece) o.homes prep)
  prepares_by node (e.ToVariable place variable kind) value next is at same logged piece prep =
      absurd (not_logged p t o.plan o.thread node is at (ap sets_local same) logged)
  prepares_by node (e.ToElement place variable kind index) value next is at same logged piece prep =
      absurd (not_logged p t o.plan o.thread node is at (ap sets_local same) logged)

  pub prepares_is : (node : ℕ) (own : IsNodeOf t node) (target : e.Lvalue) (value : e.Placed) (next : ℕ) (code : List Instr) (piece : List CodeItem) →
      HasAction x node (Eval target value next) → is_logged x node ≡ true → IsSelected (homes_of x.frame) target value.expr code → IsUnmarked code piece →
      PreparesAt x node piece
  prepares_is node own target value next code piece has on sel unmarked is at =
      let same : has.is ≡ is = same_Some has.is is (sym has.at ∙ at) in
      prepares_by node target value next is at (ap (λ (n : Node). n.action) (sym same) ∙ has.action_is) (logged_then x o node own is at on) piece
      (is_preparation (homes_of x.frame) target value.expr code sel piece unmarked)

  -- no other node is one
  pub nothing_prepared : (node : ℕ) (own : IsNodeOf t node) (is : Node) → NodeAt p.graph node is → sets_local is.action ≡ false → is_logged x node ≡ true →
      (items : List CodeItem) → Appends items items (PreparesAt x node)
  nothing_prepared node own is at off on items = absurd (not_logged p t o.plan o.thread node is at off (logged_then x o node own is at on))

  pub guard_absent : (node : ℕ) → (IsChosen p.graph p.boundaries node → ⊥) → Guards x node []
  guard_absent node none is at = record { chosen = λ chosen. absurd (none chosen); plain = λ _. refl }

  guarded_by : (node : ℕ) (is : Node) (piece : List CodeItem) → IsChosen p.graph p.boundaries node → IsGuard p t c node is.action piece →
      IsGuarded p t c node is.action piece
  guarded_by node is piece chosen g = record { chosen = λ _. g; plain = λ none. absurd (none chosen) }

  -- a logged assignment computes what it stores before the boundary
  pub guard_logged : (node : ℕ) (old mid new : List CodeItem) → IsChosen p.graph p.boundaries node → Appends old mid (PreparesAt x node) →
      Appends mid new (KeepsAt x node) → Appends old new (Guards x node)
  guard_logged node old mid new chosen d k = record {
    piece = d.piece ++ k.piece;
    appended = k.appended ∙ ap (λ (xs : List CodeItem). xs ++ k.piece) d.appended ∙ append_assoc old d.piece k.piece;
    is = λ is at. guarded_by node is (d.piece ++ k.piece) chosen (record {
      computing = d.piece;
      keeping = k.piece;
      split = refl;
      computes = d.is is at;
      keeps = k.is is at;
    });
  }

  -- before any other node stands the boundary alone
  pub guard_plain : (node : ℕ) (own : IsNodeOf t node) (old new : List CodeItem) → IsChosen p.graph p.boundaries node → is_logged x node ≡ false →
      Appends old new (KeepsAt x node) → Appends old new (Guards x node)
  guard_plain node own old new chosen off k = record {
    piece = k.piece;
    appended = k.appended;
    is = λ is at. guarded_by node is k.piece chosen (record {
      computing = [];
      keeping = k.piece;
      split = refl;
      computes = nothing (logged_else x o node own is at off) refl;
      keeps = k.is is at;
    });
  }

  -- ---- Its price

  abbrev paid : Action → (node : ℕ) → ℕ
  paid a node = node_price (action_nodes a) + hold_words p.log (names_kept p t a node)

  -- where nothing stands before it
  within : (logged : Bool) (a : Action) (node : ℕ) → most_doing logged p t a ≤ paid a node
  within true (Eval target value next) node = omega arith
  within false (Eval target value next) node = omega arith
  within true (Store variable kind next) node = omega arith
  within false (Store variable kind next) node = omega arith
  within true (Test condition holds fails) node = omega arith
  within false (Test condition holds fails) node = omega arith
  within true (Lock lock next) node = omega arith
  within false (Lock lock next) node = omega arith
  within true (Unlock lock next) node = omega arith
  within false (Unlock lock next) node = omega arith
  within true End node = omega arith
  within false End node = omega arith

  abbrev held_words : (node : ℕ) → ℕ
  held_words node = hold_words p.log (held_names_before p t node)

  -- before a store
  store_within : (logged : Bool) (a : Action) (node before : ℕ) → IsStoring p o.plan a → before ≤ 92 + held_words node →
      before + most_doing logged p t a ≤ paid a node
  store_within logged (Eval target value next) node before h few = absurd h
  store_within true (Store variable kind next) node before h few = omega (arith, few)
  store_within false (Store variable kind next) node before h few = omega (arith, few)
  store_within logged (Test condition holds fails) node before h few = absurd h
  store_within logged (Lock lock next) node before h few = absurd h
  store_within logged (Unlock lock next) node before h few = absurd h
  store_within logged End node before h few = absurd h

  -- before an assignment of a local, where locals stand in the frame
  set_within : (a : Action) (node before : ℕ) → sets_local a ≡ true → before ≤ 72 + held_words node → before + most_doing false p t a ≤ paid a node
  set_within (Eval (e.ToLocal place local kind) value next) node before h few = omega (arith, few)
  set_within (Eval (e.ToVariable place variable kind) value next) node before h few = absurd (true≢false (sym h))
  set_within (Eval (e.ToElement place variable kind index) value next) node before h few = absurd (true≢false (sym h))
  set_within (Store variable kind next) node before h few = absurd (true≢false (sym h))
  set_within (Test condition holds fails) node before h few = absurd (true≢false (sym h))
  set_within (Lock lock next) node before h few = absurd (true≢false (sym h))
  set_within (Unlock lock next) node before h few = absurd (true≢false (sym h))
  set_within End node before h few = absurd (true≢false (sym h))

  -- of a logged one what is computed stands before, too
  logged_within : (node : ℕ) (a : Action) (computing : List CodeItem) (before : ℕ) → IsLogged p t node → IsComputedBefore p t c node a computing →
      before ≤ sum_by most_words_of computing + (74 + held_words node) → before + most_doing true p t a ≤ paid a node
  logged_within node a computing before logged (nothing none empty) few = absurd (none logged)
  logged_within node a computing before logged (computed it place local kind value next same prep) few =
      subst (λ (b : Action). before + most_doing true p t b ≤ paid b node) (sym same) (omega (arith, few, prep.few))

  none_computed : (node : ℕ) (a : Action) (computing : List CodeItem) → (IsLogged p t node → ⊥) → IsComputedBefore p t c node a computing →
      sum_by most_words_of computing ≡ 0
  none_computed node a computing none (nothing unlogged empty) = ap (λ (xs : List CodeItem). sum_by most_words_of xs) empty
  none_computed node a computing none (computed it place local kind value next same prep) = absurd (none it)

  no_store : (node : ℕ) (is : Node) → NodeAt p.graph node is → sets_local is.action ≡ true → IsStoreNode p.graph node → ⊥
  no_store node is at sets (stores n variable kind next there does) =
      let same : n ≡ is = same_Some n is (sym there ∙ at) in
      let off : sets_local is.action ≡ false = ap (λ (m : Node). sets_local m.action) (sym same) ∙ ap sets_local does in
      true≢false (sym sets ∙ off)

  chosen_price : (node : ℕ) (is : Node) (before : List CodeItem) → IsNodeOf t node → NodeAt p.graph node is → IsChosen p.graph p.boundaries node →
      IsGuard p t c node is.action before →
      sum_by most_words_of before + most_doing (is_logged x node) p t is.action ≤ paid is.action node
  chosen_price node is before own at chosen g = by (is_logged x node) refl
    where
      all : sum_by most_words_of before ≤ sum_by most_words_of g.computing + (length (c.kept node) + (72 + held_words node))
      all =
          let whole = ap (λ (xs : List CodeItem). sum_by most_words_of xs) g.split in
          let sum = sum_by-append most_words_of g.computing g.keeping in
          let few = (g.keeps []).few in
          omega (arith, whole, sum, few)

      kept_long : (b : Bool) → is_logged x node ≡ b → length (c.kept node) ≡ length (if b then pending_address ∷ pending_value ∷ [] else c.live node)
      kept_long b same = ap (λ (z : Bool). length (if z then pending_address ∷ pending_value ∷ [] else c.live node)) same

      unlogged_price : is_logged x node ≡ false → sum_by most_words_of before + most_doing false p t is.action ≤ paid is.action node
      unlogged_price off =
          let none = none_computed node is.action g.computing (logged_else x o node own is at off) g.computes in
          ⊎_elim
          (λ s. store_within false is.action node (sum_by most_words_of before) s (omega (arith, all, none, kept_long false off, few_live node own)))
          (λ f.
          let sets = assigned_sets p t o.plan o.thread node is at f.1.0 f.1.1 in
          let empty = none_live p o.plan t o.thread node (c.live node) (live_at node own) f.0 (no_store node is at sets) in
          set_within is.action node (sum_by most_words_of before) sets (omega (arith, all, none, kept_long false off, empty)))
          (chosen_writes p o.plan node is at chosen)

      by : (b : Bool) → is_logged x node ≡ b → sum_by most_words_of before + most_doing (is_logged x node) p t is.action ≤ paid is.action node
      by true on =
          let two : length (c.kept node) ≡ 2 = kept_long true on in
          subst (λ (z : Bool). sum_by most_words_of before + most_doing z p t is.action ≤ paid is.action node) (sym on)
          (logged_within node is.action g.computing (sum_by most_words_of before) (logged_then x o node own is at on) g.computes (omega (arith, all, two)))
      by false off =
          subst (λ (z : Bool). sum_by most_words_of before + most_doing z p t is.action ≤ paid is.action node) (sym off) (unlogged_price off)

  guard_price : (node : ℕ) (is : Node) (before : List CodeItem) → IsNodeOf t node → NodeAt p.graph node is → IsGuarded p t c node is.action before →
      sum_by most_words_of before + most_doing (is_logged x node) p t is.action ≤ paid is.action node
  guard_price node is before own at g = by (chosen_or_not p.graph p.boundaries node is at)
    where
      by : IsChosen p.graph p.boundaries node ⊎ (IsChosen p.graph p.boundaries node → ⊥) →
          sum_by most_words_of before + most_doing (is_logged x node) p t is.action ≤ paid is.action node
      by (inl chosen) = chosen_price node is before own at chosen (g.chosen chosen)
      by (inr none) =
          omega (arith, ap (λ (xs : List CodeItem). sum_by most_words_of xs) (g.plain none), within (is_logged x node) is.action node)

  pub piece_is : (node : ℕ) (is : Node) (before rest : List CodeItem) → IsNodeOf t node → NodeAt p.graph node is → IsGuarded p t c node is.action before →
      DoesAction x node is.action rest → IsNodePiece p t c node is (before ++ rest)
  piece_is node is before rest own at g d = record {
    before = before;
    does = d.does;
    goes = d.goes;
    split = ap (λ (xs : List CodeItem). before ++ xs) d.split;
    guarded = g;
    doing = d.doing;
    price = omega (arith, sum_by-append most_words_of before rest, d.few, guard_price node is before own at g);
  }

  pub node_is : (node : ℕ) (old mid new : List CodeItem) → IsNodeOf t node → Appends old mid (Guards x node) → Appends mid new (DoesAt x node) →
      Appends old new (IsPiece x node)
  node_is node old mid new own g d = record {
    piece = g.piece ++ d.piece;
    appended = d.appended ∙ ap (λ (xs : List CodeItem). xs ++ d.piece) g.appended ∙ append_assoc old g.piece d.piece;
    is = λ is at. piece_is node is g.piece d.piece own at (g.is is at) (d.is is at);
  }

  -- ---- What a node does

  fragment_few : (node next : ℕ) (goes : List CodeItem) → GoesToNode x node next goes → (next ≡ node + 1) ⊎ (next ≢ node + 1) → sum_by most_words_of goes ≤ 1
  fragment_few node next goes g (inl e) = omega (arith, ap (λ (xs : List CodeItem). sum_by most_words_of xs) (g.follows e))
  fragment_few node next goes g (inr n) = (g.jumps n).few

  pub same_or_not : (n m : ℕ) → (n ≡ m) ⊎ (n ≢ m)
  same_or_not zero zero = inl refl
  same_or_not zero (suc m) = inr (λ e. cc)
  same_or_not (suc n) zero = inr (λ e. cc)
  same_or_not (suc n) (suc m) = ⊎_elim (λ e. inl (ap suc e)) (λ no. inr (λ e. no (omega (arith, e)))) (same_or_not n m)

  pub two_appended : (node next : ℕ) (old mid new : List CodeItem) (Is : List CodeItem → Type 0) (a : Action) (most : ℕ) → Appends old mid Is →
      Appends mid new (GoesToNode x node next) → ((does goes : List CodeItem) → Is does → GoesToNode x node next goes → IsDoing p t c node a does goes) →
      ((does : List CodeItem) → Is does → sum_by most_words_of does ≤ most) → most + 1 ≤ most_doing (is_logged x node) p t a →
      Appends old new (DoesAction x node a)
  two_appended node next old mid new Is a most d g doing few price = record {
    piece = d.piece ++ g.piece;
    appended = g.appended ∙ ap (λ (xs : List CodeItem). xs ++ g.piece) d.appended ∙ append_assoc old d.piece g.piece;
    is = record {
      does = d.piece;
      goes = g.piece;
      split = refl;
      doing = doing d.piece g.piece d.is g.is;
      few = omega (
        arith,
        sum_by-append most_words_of d.piece g.piece,
        few d.piece d.is,
        fragment_few node next g.piece g.is
            (same_or_not next (node + 1)),
        price,
      );
    };
  }

  pub one_appended : (node : ℕ) (old new : List CodeItem) (Is : List CodeItem → Type 0) (a : Action) → Appends old new Is →
      ((does : List CodeItem) → Is does → IsDoing p t c node a does []) → ((does : List CodeItem) → Is does →
      sum_by most_words_of does ≤ most_doing (is_logged x node) p t a) →
      Appends old new (DoesAction x node a)
  one_appended node old new Is a d doing few = record {
    piece = d.piece;
    appended = d.appended;
    is = record { does = d.piece; goes = []; split = sym (append_nil d.piece); doing = doing d.piece d.is; few = few d.piece d.is };
  }
    where
      append_nil : (xs : List CodeItem) → xs ++ [] ≡ xs
      append_nil [] = refl
      append_nil (y ∷ ys) = ap (λ (zs : List CodeItem). y ∷ zs) (append_nil ys)

-- ---- What is known at a node

module _ (x : opened.ThreadPlan) (node : ℕ) where
  abbrev q : Plan
  q = plan_in x

  abbrev u : Thread
  u = thread_of x

  pub home_of : (a : Action) (t : e.Expr) → (at : HasAction x node a) → IsExpr q.flat.variables at.own.open_is.thread.text.locals t →
      AreAtHome (homes_of x.frame) t
  home_of a t at formed =
      let o = at.own.open_is in
      subst (λ (h : Homes). AreAtHome h t) (sym o.homes)
      (formed_is_at_home q.flat.variables o.thread.text.locals (homes q u) t (has_homes q o.plan u o.thread) formed)

  pub target_home : (a : Action) (t : e.Lvalue) → (at : HasAction x node a) → IsTarget q.flat.variables at.own.open_is.thread.text.locals t →
      IsAtHome (homes_of x.frame) t
  target_home a t at formed =
      let o = at.own.open_is in
      subst (λ (h : Homes). IsAtHome h t) (sym o.homes)
      (target_is_at_home q.flat.variables o.thread.text.locals (homes q u) t (has_homes q o.plan u o.thread) formed)

  own_at : (a : Action) (at : HasAction x node a) (next : ℕ) → (u.part.first ≤ next) × (next < u.part.end) → IsOwn x next
  own_at a at next w = record { open_is = at.own.open_is; own = record { from_first = w.0; below_end = w.1 } }

  pub cheap_at : (a : Action) (at : HasAction x node a) → node_price (action_nodes a) ≤ MOST_PRICE
  cheap_at a at =
      let o = at.own.open_is in
      omega (arith, cheap_node q o.plan u o.thread node at.is at.own.own at.at, ap (λ (b : Action). action_nodes b) at.action_is)

  -- its expressions need few enough temporaries
  pub few_at : (a : Action) (at : HasAction x node a) → NeedFew (action_exprs a)
  few_at a at = subst (λ (b : Action). NeedFew (action_exprs b)) at.action_is (at.own.open_is.few node at.is at.at)

  -- what the node's action names is there
  abbrev pub Formed : (a : Action) → HasAction x node a → Type 0
  Formed (Eval target value next) at =
      IsAtHome (homes_of x.frame) target × (AreAtHome (homes_of x.frame) value.expr × IsOwn x next)
  Formed (Store variable kind next) at = IsOwn x next
  Formed (Test condition holds fails) at = AreAtHome (homes_of x.frame) condition.expr × (IsOwn x holds × IsOwn x fails)
  Formed (Lock lock next) at = IsReady (homes_of x.frame) lock × IsOwn x next
  Formed (Unlock lock next) at = IsReady (homes_of x.frame) lock × IsOwn x next
  Formed End at = Unit {0}

  -- the code of a lock's number may be made
  ready_at : (a : Action) (lock : e.LockName) (at : HasAction x node a) → IsFlatLockName q.flat.mutexes at.own.open_is.thread.text.locals lock →
      NeedFew (key_exprs lock) → node_price (key_nodes lock) ≤ MOST_PRICE → IsReady (homes_of x.frame) lock
  ready_at a lock at formed few cheap =
      let o = at.own.open_is in
      subst (λ (h : Homes). IsReady h lock) (sym o.homes)
      (name_ready q o.plan u o.thread lock (subst (λ (ks : List Kind). IsFlatLockName q.flat.mutexes ks lock) (sym o.thread.kinds) formed) few cheap)

  formed_by : (a : Action) (at : HasAction x node a) → sound.IsFormed q.flat at.own.open_is.thread.text.locals u.part.first u.part.end
      at.own.open_is.plan.formed.shared.variables a → Formed a at
  formed_by (Eval target value next) at f = (target_home _ target at f.0.0, (home_of _ value.expr at f.1.0.0, own_at _ at next f.1.1))
  formed_by (Store variable kind next) at f = own_at _ at next f
  formed_by (Test condition holds fails) at f = (home_of _ condition.expr at f.0.0, (own_at _ at holds f.1.0, own_at _ at fails f.1.1))
  formed_by (Lock lock next) at f = (ready_at _ lock at f.0 (few_at _ at) (cheap_at _ at), own_at _ at next f.1)
  formed_by (Unlock lock next) at f = (ready_at _ lock at f.0 (few_at _ at) (cheap_at _ at), own_at _ at next f.1)
  formed_by End at f = tt

  pub formed_at : (a : Action) (at : HasAction x node a) → Formed a at
  formed_at a at =
      let o = at.own.open_is in
      let s = sound_node q o.plan u o.thread node at.is at.own.own at.at in
      formed_by a at (subst (λ (b : Action). sound.IsFormed q.flat o.thread.text.locals u.part.first u.part.end o.plan.formed.shared.variables b)
      at.action_is s.formed)

  -- what its action assigns has a home
  pub target_at : (a : Action) → HasAction x node a → IsTargetHome (homes_of x.frame) a
  target_at (Eval target value next) at = (formed_at (Eval target value next) at).0
  target_at (Store variable kind next) at = tt
  target_at (Test condition holds fails) at = tt
  target_at (Lock lock next) at = tt
  target_at (Unlock lock next) at = tt
  target_at End at = tt

  pub exists_at : (at : IsOwn x node) → node < length q.graph.nodes
  exists_at at =
      let o = at.open_is in
      omega (arith, at.own.below_end, end_within q o.plan u o.thread)

  pub label_at : (at : IsOwn x node) → node - u.part.first < 2 ^ 32
  label_at at =
      let o = at.open_is in
      omega (arith, at.own.below_end, few_nodes q o.plan u o.thread)
