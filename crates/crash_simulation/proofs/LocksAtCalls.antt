-- What a thread holds, locks and unlocks where its graph thread is at a call.
use Rattle.crash_simulation.proofs.Common.{◌≡◌, ◌≢◌, ℕ, List, ◌∷◌, sym, ◌∙◌, ap, arith, subst, false, Option, Some, None, refl, suc, ◌<◌, [], length}
use Rattle.crash_simulation.proofs.Common.{zero, slice_get, true≢false, is_some, ℤ, AllByRecursion, nat_tests, none-some, same_Some, Held, holds, none_held}
use Rattle.crash_simulation.proofs.Common.{lock_names, Pending, source_step, lock_number, KeepList, StateKeeps, locks, first_lock, run_keeps, lock_below}
use Rattle.crash_simulation.proofs.Common.{locks_found, IsThreadOf, IsStatementLeft, zip_found, GraphThread, FlowState, seen_by, effect_of, graph_step, NodeAt}
use Rattle.crash_simulation.proofs.Common.{Standing, free, threads_standings, lowered, Action, Node, Graph, ActionLeads, Agree, Locks, now, is_there, IsThere}
use Rattle.crash_simulation.proofs.Common.{IsLockOf, IsEndOf, Code, AbstractRun, now_of, System, IsSystem, flat_of}
use Rattle.c_tree.specs.Flats as f
use Rattle.c_tree.specs.Source as m
use Rattle.flow_graph.specs.Actions as g
use Rattle.crash_simulation.proofs.NodeEffects.{IsAtNode, step_is, source_steps}
use Rattle.crash_simulation.proofs.StatesMatchSource.{resumed, now_good}
use Rattle.crash_simulation.proofs.GraphAfterBegin.{matches_now}
use Rattle.crash_simulation.proofs.NodeEffects as nodes

pub none_in : (count mutex : ℕ) → holds (none_held count) mutex ≡ false
none_in zero mutex = refl
none_in (suc count) zero = refl
none_in (suc count) (suc mutex) = none_in count mutex

-- what stands at a node
pub standing_of : (all : List Standing) (ns : List Node) (ss : List Standing) (k : ℕ) (n : Node) → Agree all ns ss → slice_get ns k ≡ Some n →
    (s : Standing) × (slice_get ss k ≡ Some s) × ActionLeads all n.action s
standing_of all [] ss k n h e = absurd (none-some n e)
standing_of all (x ∷ ns) [] k n h e = absurd h
standing_of all (x ∷ ns) (s ∷ ss) zero n h e = (s, refl, subst (λ (y : Node). ActionLeads all y.action s) (same_Some x n e) h.0)
standing_of all (x ∷ ns) (s ∷ ss) (suc k) n h e = standing_of all ns ss k n h.1 e

ahead_by : (o : Option Pending) (ls : List ℤ) (left : List f.Statement) → is_some o ≡ false →
    (let r : Option ℕ = elim o [ Some p ↦ None | None ↦ first_lock ls left ] in r) ≡ first_lock ls left
ahead_by o ls left h = grind (arith, nat_tests)

module _ (y : System) (s : IsSystem y) (b : AbstractRun y) (code : Code y.plan) (graph_thread : GraphThread)
    (there : slice_get (now_of y b).graph_threads code.thread.number ≡ Some graph_thread) where
  open code.thread use {number}

  abbrev all : List Standing
  all = threads_standings (flat_of y).threads

  keeps : StateKeeps (flat_of y) (now b.config)
  keeps = run_keeps (flat_of y) b.config.kept b.config.uncommitted (resumed y s b).resumed.invariant.keeps

  in_lowered : (node : ℕ) (is : Node) → NodeAt y.plan.graph node is → NodeAt (lowered (flat_of y)) node is
  in_lowered node is at = subst (λ (graph : Graph). NodeAt graph node is) s.plan.lowered at

  abbrev at_node : (is : Node) → NodeAt y.plan.graph graph_thread.at is → IsAtNode (flat_of y) (now_of y b) (now b.config) number
  at_node is at =
      let at_lowered = in_lowered graph_thread.at is at in
      record { formed = s.plan.formed; matches = matches_now y s b; graph_thread = graph_thread; found = there; node = is; at = at_lowered }

  abbrev standing_now : {z : m.State} {is : Node} → IsThere (flat_of y) z number graph_thread is → Standing
  standing_now th = record { left = th.thread.left; owes = is_some th.thread.pending }

  -- ---- At a lock

  module _ (mutex next : ℕ) (lock : IsLockOf y.plan code.thread graph_thread.at graph_thread.locals mutex next) where
    locks_there : {z : m.State} (th : IsThere (flat_of y) z number graph_thread lock.is) → Locks all lock.lock next (standing_now th)
    locks_there th = subst (λ (a : Action). ActionLeads all a (standing_now th)) lock.locks th.does

    pub locks_it : locks (now b.config) number ≡ Some mutex
    locks_it =
        let th = nodes.there (at_node lock.is lock.at) in
        let l = locks_there th in
        locks_found (now b.config) number th.thread th.there
        ∙ (ahead_by th.thread.pending th.thread.locals th.thread.left (ap (λ (z : Standing). z.owes) l.is)
        ∙ ap (first_lock th.thread.locals) (ap (λ (z : Standing). z.left) l.is)
        ∙ ap Some (ap (λ (ls : List ℤ). lock_number ls lock.lock) (sym th.match.locals) ∙ lock.number))

    -- the mutex is there
    pub mutex_there : mutex < length (flat_of y).mutexes
    mutex_there =
        let good = now_good y s b in
        let th = is_there (flat_of y) s.plan.formed number (now_of y b) good.source good.matches graph_thread lock.is there
        (in_lowered graph_thread.at lock.is lock.at) in
        let l = locks_there th in
        let own = zip_found (λ (t : f.Thread) (k : m.Thread). IsThreadOf (flat_of y) t.locals k) (flat_of y).threads good.source.threads number th.thread
        good.formed.threads th.there in
        let left : AllByRecursion (IsStatementLeft (flat_of y) own.it.locals) (f.Lock l.place lock.lock ∷ l.rest) =
        subst (λ (ss : List f.Statement). AllByRecursion (IsStatementLeft (flat_of y) own.it.locals) ss) (ap (λ (z : Standing). z.left) l.is)
        own.related.left in
        let is : lock_number th.thread.locals lock.lock ≡ mutex = ap (λ (ls : List ℤ). lock_number ls lock.lock) (sym th.match.locals) ∙ lock.number in
        subst (λ (k : ℕ). k < length (flat_of y).mutexes) is
        (lock_below (flat_of y).mutexes own.it.locals th.thread.locals lock.lock own.related.locals left.0.1)

    -- the thread takes it where it is free
    abbrev pub taken : FlowState
    taken = g.with_graph_thread (g.with_holder (now_of y b) mutex (Some number)) number (record graph_thread { at = next })

    pub takes_it : slice_get (now_of y b).holders mutex ≡ Some None → graph_step (lowered (flat_of y)) (now_of y b) number ≡ Some taken
    takes_it is_free =
        step_is (at_node lock.is lock.at) (g.Takes mutex next) (ap (λ (a : Action). effect_of a (seen_by (now_of y b) graph_thread)) lock.locks
        ∙ ap (λ (k : ℕ). Some (g.Takes k next)) lock.number)
        ∙ ap (λ (o : Option (Option ℕ)). let r : Option FlowState = elim o [ Some None ↦ Some taken | _ ↦ None ] in r) is_free

    pub source_takes : slice_get (now_of y b).holders mutex ≡ Some None → (after : m.State) × (source_step (now b.config) number ≡ Some after)
    source_takes is_free = let m = source_steps (at_node lock.is lock.at) taken (takes_it is_free) in (m.0, m.1)

  -- ---- At the end

  module _ (last : IsEndOf y.plan code.thread graph_thread.at) where
    pub ends_free : (lock : ℕ) → slice_get (now_of y b).holders lock ≢ Some (Some number)
    ends_free lock held =
        let th = nodes.there (at_node last.is last.at) in
        let is : standing_now th ≡ free [] = subst (λ (a : Action). ActionLeads all a (standing_now th)) last.ends th.does in
        let own = keeps.each number th.thread th.there in
        let names = lock_names (flat_of y) own.text in
        let none : own.set ≡ none_held (length names) =
        subst (λ (ss : List f.Statement). KeepList (flat_of y).variables names own.set ss (none_held (length names)))
        (ap (λ (z : Standing). z.left) is) own.left in
        let r = own.held.only lock (ap (λ (hs : List (Option ℕ)). slice_get hs lock) (sym (matches_now y s b).holders) ∙ held) in
        true≢false (sym r.held ∙ (ap (λ (h : Held). holds h r.number) none ∙ none_in (length names) r.number))
