-- What each node does, of the parts that are appended for it.
use Rattle.std.proofs.Common.{◌≡◌, refl, ℕ, ◌+◌, ◌-◌, ◌*◌, ◌≤◌, List, [], length, ap, subst, sym, arith, Bool, true, false, None}
use Rattle.ido_base.specs.declared.limits.TheConstants.{MOST_LOCKS}
use Rattle.ido_ints.specs.declared.kinds.Kind.{Kind}
use Rattle.ido_ints.specs.declared.kinds.Kind.TheVariants.{UnsignedLong}
use Rattle.std.proofs.lemmas.Bool.{true≢false}
use Rattle.std.proofs.lemmas.Option.{slice_get_within}
use Rattle.c_tree.specs.Exprs as e
use Rattle.c_tree.specs.Prices.{key_nodes, nodes_of}
use Rattle.c_tree.specs.Values.{lock_number}
use Rattle.rv64_isa.specs.declared.instr.Instr.{Instr}
use Rattle.rv64_isa.specs.declared.object.CodeItem.{CodeItem}
use Rattle.boundary_code.specs.Boundaries.{Boundary}
use Rattle.expr_code.specs.EvaluationCode.{Homes, home_of, homes_of}
use Rattle.expr_code.specs.declared.home.Home.{Home}
use Rattle.expr_code.specs.declared.home.Home.TheVariants.{InRegister, InFrame}
use Rattle.flow_graph.specs.Nodes.{Action, Eval, Store, Test, Lock, Unlock, End}
use Rattle.node_code.specs.declared.kept.Kept as kept
use Rattle.node_code.specs.Pieces.{Appends, IsStorePiece, IsLockPiece, IsLockOf, IsUnlockPiece, IsUnlockOf, IsEnd, KeepsFrom, boundary_of, giving_bytes}
use Rattle.node_code.specs.Pieces.{kept_words}
use Rattle.node_code.specs.Numbers.{AsksNumber}
use Rattle.node_code.proofs.Public.{lock_from, unlock_from}
use Rattle.thread_code.specs.Plans.{IsLogged, Plan, Thread, held_names_before, hold_words, homes, locks_before}
use Rattle.thread_code.specs.Programs as programs
use Rattle.rv64_codegen.specs.declared.thread.ThreadPlan as opened
use Rattle.rv64_codegen.specs.Evaluations.{IsEvaluation, IsPlainAssignment, IsTest, target_nodes}
use Rattle.rv64_codegen.specs.ThreadPieces.{IsAssigning, IsSetting, MayEnter, call_words, in_register, in_section, outside, turned, straight}
use Rattle.rv64_codegen.specs.links.Numbers.{IsCallCode}
use Rattle.rv64_codegen.proofs.CallNumbers.{asks_at}
use Rattle.rv64_codegen.proofs.HeldCodes.{call_words_by}
use Rattle.rv64_codegen.proofs.KnownNodes.{known_of, logged_home, not_logged, sets_local}
use Rattle.rv64_codegen.proofs.LocalRegisters.{word_of}
use Rattle.rv64_codegen.proofs.LoggedNodes.{logged_else, logged_then}
use Rattle.rv64_codegen.proofs.Nodes.{Known}
use Rattle.rv64_codegen.specs.links.Threads.{IsOwn, HasAction, IsKeptFor, GoesToNode, DoesAction, is_framed, is_logged, is_word, most_doing, opens_at}
use Rattle.rv64_codegen.specs.links.Threads.{plan_in, thread_of}
use Rattle.rv64_codegen.specs.links.Threads.{choices_of}
use Rattle.rv64_codegen.proofs.NodePieces.{two_appended, one_appended, boundary_is, few_live}

pub nodes_lockstep : (t : e.Lvalue) → target_nodes t ≡ programs.target_nodes t
nodes_lockstep (e.ToLocal place local kind) = refl
nodes_lockstep (e.ToVariable place variable kind) = refl
nodes_lockstep (e.ToElement place variable kind index) = refl

module _ (x : opened.ThreadPlan) (node : ℕ) where
  -- ---- What it does

  -- what is known of the node
  known_at : (a : Action) (at : HasAction x node a) →
      Known (plan_in x).flat (thread_of x).kinds (thread_of x).part.first (thread_of x).part.end (plan_in x).graph.nodes at.is a
  known_at a at =
      let p : Plan = plan_in x in
      let t : Thread = thread_of x in
      subst (λ (b : Action). Known p.flat t.kinds t.part.first t.part.end p.graph.nodes at.is b) at.action_is
      (known_of p t at.own.open_is.plan at.own.open_is.thread node at.is at.own.own at.at)

  -- an evaluation, but of a local that stands in the frame
  assigns : (at : IsOwn x node) (target : e.Lvalue) (value : e.Expr) (does : List CodeItem) → is_framed x.frame.locals.now target ≡ false →
      IsEvaluation (homes_of x.frame) target value does → IsAssigning (plan_in x) (thread_of x) (choices_of x) node target value does
  assigns at (e.ToLocal place local kind) value does off is = by (home_of x.frame.locals.now local) refl off
    where
      by : (home : Home) → home_of x.frame.locals.now local ≡ home → is_word home ≡ false →
          IsSetting (plan_in x) (thread_of x) (choices_of x) node place local kind value does
      by (InRegister register) same h =
          in_register register same (subst (λ (h : Homes). IsEvaluation h (e.ToLocal place local kind) value does) at.open_is.homes is)
      by (InFrame word) same h = absurd (true≢false h)
  assigns at (e.ToVariable place variable kind) value does off is =
      subst (λ (h : Homes). IsEvaluation h (e.ToVariable place variable kind) value does) at.open_is.homes is
  assigns at (e.ToElement place variable kind index) value does off is =
      subst (λ (h : Homes). IsEvaluation h (e.ToElement place variable kind index) value does) at.open_is.homes is

  -- a local that stands in the frame, outside sections
  assigns_plain : (at : IsOwn x node) (target : e.Lvalue) (value : e.Expr) (does : List CodeItem) → is_framed x.frame.locals.now target ≡ true →
      (IsLogged (plan_in x) (thread_of x) node → ⊥) → IsPlainAssignment (homes_of x.frame) target value does →
      IsAssigning (plan_in x) (thread_of x) (choices_of x) node target value does
  assigns_plain at (e.ToLocal place local kind) value does on none is = by (home_of x.frame.locals.now local) refl on
    where
      by : (home : Home) → home_of x.frame.locals.now local ≡ home → is_word home ≡ true →
          IsSetting (plan_in x) (thread_of x) (choices_of x) node place local kind value does
      by (InRegister register) same h = absurd (true≢false (sym h))
      by (InFrame word) same h =
          outside word same none (subst (λ (h : Homes). IsPlainAssignment h (e.ToLocal place local kind) value does) at.open_is.homes is)
  assigns_plain at (e.ToVariable place variable kind) value does on none is = absurd (true≢false (sym on))
  assigns_plain at (e.ToElement place variable kind index) value does on none is = absurd (true≢false (sym on))

  pub eval_done : (target : e.Lvalue) (value : e.Placed) (next : ℕ) (old mid new : List CodeItem) → HasAction x node (Eval target value next) →
      is_logged x node ≡ false → is_framed x.frame.locals.now target ≡ false →
      Appends old mid (IsEvaluation (homes_of x.frame) target value.expr) → Appends mid new (GoesToNode x node next) →
      Appends old new (DoesAction x node (Eval target value next))
  eval_done target value next old mid new at off plain a g =
      two_appended x at.own.open_is node next old mid new (IsEvaluation (homes_of x.frame) target value.expr) (Eval target value next)
      (16 * (target_nodes target + nodes_of value.expr) + 17) a g
      (λ does goes is fragment. (assigns at.own target value.expr does plain is, fragment)) (λ does is. is.few)
      (subst (λ (b : Bool). 16 * (target_nodes target + nodes_of value.expr) + 17 + 1 ≤ most_doing b (plan_in x) (thread_of x) (Eval target value next)) (sym
      off)
      (omega (arith, nodes_lockstep target)))

  pub plain_done : (target : e.Lvalue) (value : e.Placed) (next : ℕ) (old mid new : List CodeItem) → HasAction x node (Eval target value next) →
      is_logged x node ≡ false → is_framed x.frame.locals.now target ≡ true →
      Appends old mid (IsPlainAssignment (homes_of x.frame) target value.expr) → Appends mid new (GoesToNode x node next) →
      Appends old new (DoesAction x node (Eval target value next))
  plain_done target value next old mid new at off framed a g =
      let o = at.own.open_is in
      let none = logged_else x o node at.own.own at.is at.at off in
      two_appended x o node next old mid new (IsPlainAssignment (homes_of x.frame) target value.expr) (Eval target value next)
      (16 * (target_nodes target + nodes_of value.expr) + 18) a g
      (λ does goes is fragment. (assigns_plain at.own target value.expr does framed none is, fragment)) (λ does is. is.few)
      (subst (λ (b : Bool). 16 * (target_nodes target + nodes_of value.expr) + 18 + 1 ≤ most_doing b (plan_in x) (thread_of x) (Eval target value next)) (sym
      off)
      (omega (arith, nodes_lockstep target)))

  logged_assigns : (target : e.Lvalue) (value : e.Placed) (next : ℕ) (at : HasAction x node (Eval target value next)) →
      IsLogged (plan_in x) (thread_of x) node → (does : List CodeItem) → IsStorePiece UnsignedLong true does →
      IsAssigning (plan_in x) (thread_of x) (choices_of x) node target value.expr does
  logged_assigns (e.ToLocal place local kind) value next at it does is =
      let o = at.own.open_is in
      let p : Plan = plan_in x in
      let t : Thread = thread_of x in
      let known = known_at (Eval (e.ToLocal place local kind) value next) at in
      let home = logged_home p t o.plan o.thread node at.is at.at it local (slice_get_within t.kinds local kind known.target_is.0) in
      in_section (word_of p t o.plan o.thread local) home it is
  logged_assigns (e.ToVariable place variable kind) value next at it does is =
      absurd (not_logged (plan_in x) (thread_of x) at.own.open_is.plan at.own.open_is.thread node at.is at.at (ap sets_local at.action_is) it)
  logged_assigns (e.ToElement place variable kind index) value next at it does is =
      absurd (not_logged (plan_in x) (thread_of x) at.own.open_is.plan at.own.open_is.thread node at.is at.at (ap sets_local at.action_is) it)

  pub logged_done : (target : e.Lvalue) (value : e.Placed) (next : ℕ) (old mid new : List CodeItem) → HasAction x node (Eval target value next) →
      is_logged x node ≡ true → Appends old mid (IsStorePiece UnsignedLong true) → Appends mid new (GoesToNode x node next) →
      Appends old new (DoesAction x node (Eval target value next))
  logged_done target value next old mid new at on a g =
      let o = at.own.open_is in
      let it = logged_then x o node at.own.own at.is at.at on in
      two_appended x o node next old mid new (IsStorePiece UnsignedLong true) (Eval target value next) 2 a g
      (λ does goes is fragment. (logged_assigns target value next at it does is, fragment)) (λ does is. is.few)
      (subst (λ (b : Bool). 2 + 1 ≤ most_doing b (plan_in x) (thread_of x) (Eval target value next)) (sym on) (omega arith))

  pub turned_done : (condition : e.Placed) (fails label : ℕ) (old new : List CodeItem) → HasAction x node (Test condition (node + 1) fails) →
      label ≡ fails - x.part.first → Appends old new (IsTest (homes_of x.frame) condition.expr true label) →
      Appends old new (DoesAction x node (Test condition (node + 1) fails))
  turned_done condition fails label old new at e a =
      let o = at.own.open_is in
      one_appended x o node old new (IsTest (homes_of x.frame) condition.expr true label) (Test condition (node + 1) fails) a
      (λ does is. turned refl (subst (λ (l : ℕ). IsTest (homes (plan_in x) (thread_of x)) condition.expr true l does) e
      (subst (λ (h : Homes). IsTest h condition.expr true label does) o.homes is)) refl)
      (λ does is. omega (arith, is.few))

  pub straight_done : (condition : e.Placed) (holds fails label : ℕ) (old mid new : List CodeItem) → HasAction x node (Test condition holds fails) →
      label ≡ holds - x.part.first → Appends old mid (IsTest (homes_of x.frame) condition.expr false label) → Appends mid new (GoesToNode x node fails) →
      Appends old new (DoesAction x node (Test condition holds fails))
  straight_done condition holds fails label old mid new at e a g =
      let o = at.own.open_is in
      two_appended x o node fails old mid new (IsTest (homes_of x.frame) condition.expr false label) (Test condition holds fails)
      (16 * nodes_of condition.expr + 10) a g
      (λ does goes is fragment. straight (subst (λ (l : ℕ). IsTest (homes (plan_in x) (thread_of x)) condition.expr false l does) e
      (subst (λ (h : Homes). IsTest h condition.expr false label does) o.homes is)) fragment) (λ does is. is.few) (omega arith)

  pub store_done : (variable : ℕ) (kind : Kind) (next : ℕ) (cleans : Bool) (old mid new : List CodeItem) → HasAction x node (Store variable kind next) →
      cleans ≡ (choices_of x).cleans node → Appends old mid (IsStorePiece kind cleans) → Appends mid new (GoesToNode x node next) →
      Appends old new (DoesAction x node (Store variable kind next))
  store_done variable kind next cleans old mid new at e a g =
      two_appended x at.own.open_is node next old mid new (IsStorePiece kind cleans) (Store variable kind next) 2 a g
      (λ does goes is fragment. (subst (λ (b : Bool). IsStorePiece kind b does) e is, fragment)) (λ does is. is.few) (omega arith)

  few_locks : length (plan_in x).flat.mutexes ≤ MOST_LOCKS → length (plan_in x).flat.mutexes ≤ 1024
  few_locks few = omega (arith, few)

  pub lock_done : (lock : e.LockName) (next : ℕ) (k : kept.Kept) (numbering : List Instr) (old mid new : List CodeItem) →
      IsCallCode (homes_of x.frame) lock numbering → HasAction x node (Lock lock next) → IsOwn x next →
      IsKeptFor x next ((choices_of x).live next) (record { bytes = None; opens = opens_at x node }) k → Appends old mid (IsLockOf k numbering) →
      Appends mid new (GoesToNode x node next) →
      Appends old new (DoesAction x node (Lock lock next))
  lock_done lock next k numbering old mid new made at own is_kept a g =
      let o = at.own.open_is in
      let p : Plan = plan_in x in
      let t : Thread = thread_of x in
      let code : IsCallCode (homes p t) lock numbering = subst (λ (h : Homes). IsCallCode h lock numbering) o.homes made in
      let words = (call_words_by (homes p t) lock.mutex lock.key numbering code).1 in
      let known = known_at (Lock lock next) at in
      let asks = asks_at p t o.plan o.thread (few_locks o.plan.formed.shared.mutexes) node at.is at.at lock next known in
      let names : List e.LockName = held_names_before p t next in
      let most : ℕ = call_words p.log names lock in
      two_appended x o node next old mid new (IsLockOf k numbering) (Lock lock next) (16 * key_nodes lock + 95 + hold_words p.log names) a g
      (λ does goes is fragment. (
        λ locals.
            let locks : List ℕ = locks_before p t locals next in
            let number : ℕ = lock_number locals lock in
            subst (λ (b : Boundary). IsLockPiece b (MayEnter p t locals node) (MayEnter p t locals next) most number does)
            (boundary_is x o ((choices_of x).live next) (record { bytes = None; opens = opens_at x node }) locals next k 0 is_kept)
            (lock_from (boundary_of k locks 0) (λ around y. AsksNumber around y number numbering) (MayEnter p t locals node) (KeepsFrom k locks) (MayEnter p t
            locals next)
            (kept_words k + length numbering) most number does (let few = is_kept.few in omega (arith, few, words))
            (λ around y may. asks locals numbering code around y may) (is_kept.leave locals) (is locks number (is_kept.locks_are locals))),
        fragment,
      ))
      (λ does is.
      let few = (is (locks_before p t [] next) 0 (is_kept.locks_are [])).few in
      omega (arith, few, few_live x o next own.own, is_kept.few, ap (λ (l : List ℕ). length l) is_kept.live_is, words))
      (omega arith)

  pub unlock_done : (lock : e.LockName) (next : ℕ) (k : kept.Kept) (numbering : List Instr) (old mid new : List CodeItem) →
      IsCallCode (homes_of x.frame) lock numbering → HasAction x node (Unlock lock next) → IsOwn x next →
      IsKeptFor x next ((choices_of x).live next) (record { bytes = None; opens = false }) k → Appends old mid (IsUnlockOf k numbering) →
      Appends mid new (GoesToNode x node next) →
      Appends old new (DoesAction x node (Unlock lock next))
  unlock_done lock next k numbering old mid new made at own is_kept a g =
      let o = at.own.open_is in
      let p : Plan = plan_in x in
      let t : Thread = thread_of x in
      let bytes : ℕ = giving_bytes numbering in
      let code : IsCallCode (homes p t) lock numbering = subst (λ (h : Homes). IsCallCode h lock numbering) o.homes made in
      let words = (call_words_by (homes p t) lock.mutex lock.key numbering code).1 in
      let known = known_at (Unlock lock next) at in
      let asks = asks_at p t o.plan o.thread (few_locks o.plan.formed.shared.mutexes) node at.is at.at lock next known in
      let names : List e.LockName = held_names_before p t next in
      let most : ℕ = call_words p.log names lock in
      two_appended x o node next old mid new (IsUnlockOf k numbering) (Unlock lock next) (16 * key_nodes lock + 95 + hold_words p.log names) a g
      (λ does goes is fragment. (
        (
          bytes,
          λ locals.
              let locks : List ℕ = locks_before p t locals next in
              let number : ℕ = lock_number locals lock in
              subst (λ (b : Boundary). IsUnlockPiece b (MayEnter p t locals node) (MayEnter p t locals next) most number does)
              (boundary_is x o ((choices_of x).live next) (record { bytes = None; opens = false }) locals next k bytes is_kept)
              (unlock_from (boundary_of k locks bytes) (λ around y. AsksNumber around y number numbering) (MayEnter p t locals node) (KeepsFrom k locks)
              (MayEnter p t locals next) (kept_words k + length numbering) most number does (let few = is_kept.few in omega (arith, few, words))
              (λ around y may. asks locals numbering code around y may) (is_kept.leave locals) (is locks number (is_kept.locks_are locals))),
        ),
        fragment,
      ))
      (λ does is.
      let few = (is (locks_before p t [] next) 0 (is_kept.locks_are [])).few in
      omega (arith, few, few_live x o next own.own, is_kept.few, ap (λ (l : List ℕ). length l) is_kept.live_is, words))
      (omega arith)

  pub end_done : (old new : List CodeItem) → HasAction x node End → Appends old new IsEnd → Appends old new (DoesAction x node End)
  end_done old new at a =
      one_appended x at.own.open_is node old new IsEnd End a (λ does is. (is, refl)) (λ does is. is.few)
