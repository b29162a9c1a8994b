-- A hart at its node's code makes its step.
use Rattle.crash_simulation.proofs.Common.{◌≡◌, ◌≢◌, ℕ, sym, ◌∙◌, ap, subst, true, Some, refl, Kind, LockName, World, effect_of, NodeAt, lowered, Action, Store}
use Rattle.crash_simulation.proofs.Common.{Node, Graph, Eval, Test, Lock, End, Unlock, now, MarksPass, now_of, CoresStep, System, IsSystem, flat_of}
use Rattle.flow_graph.specs.Actions.{Effect}
use Rattle.c_tree.specs.Exprs as e
use Rattle.crash_simulation.proofs.OwnHartSteps.{view, StepOf, own_step, AtNode}
use Rattle.crash_simulation.proofs.NodeEffects.{is_quiet, some_node, owes_here}
use Rattle.crash_simulation.proofs.GraphAfterBegin.{matches_now}
use Rattle.crash_simulation.proofs.Common.{◌∷◌, [], ℤ, List, Home, InRegister, held_names_before, home_of, true≢false}
use Rattle.expr_code.specs.declared.home.Home.TheVariants.{InFrame}
use Rattle.flow_graph.specs.Actions as a
use Rattle.crash_simulation.proofs.LocalNodeSteps.{quiet_step}
use Rattle.crash_simulation.proofs.LoggedNodeSteps.{AssignsLogged, logged_step}
use Rattle.crash_simulation.proofs.MarksAtNodes.{IsPlainSet, IsUnlogged}
use Rattle.crash_simulation.proofs.StoreNodeSteps.{MakesStore, store_step}
use Rattle.crash_simulation.proofs.UnlockNodeSteps.{unlock_step}

module _ {y : System} {s : IsSystem y} {w : World} {h : ℕ} (site : AtNode y s w h) where
  open view site.hart use {b, code, t, n, graph_thread, seen}

  pub found : (node : Node) × NodeAt (lowered (flat_of y)) graph_thread.at node
  found = some_node (flat_of y) s.plan.formed (now_of y b) (now b.config) n (matches_now y s b) graph_thread t.walks

  -- the pending store that the node makes
  pub makes_store : (variable : ℕ) (kind : Kind) (next : ℕ) → found.0.action ≡ Store variable kind next → MakesStore found.0 graph_thread
  makes_store variable kind next is =
      let owed = owes_here (flat_of y) s.plan.formed (now_of y b) (now b.config) n (matches_now y s b) graph_thread t.walks found.0 found.1
      (record { variable = variable; kind = kind; next = next; is = is }) in
      record { variable = variable; kind = kind; next = next; action = is; store = owed.0; pending = owed.1 }

  -- what holds of each node that takes no mutex: of one without a store, of one with, and of an unlock's
  module _ (P : Type 0) (free : (is : Node) (lock : LockName) (next : ℕ) → NodeAt y.plan.graph graph_thread.at is → is.action ≢ Lock lock next)
      (quiet : (e : Effect) → effect_of found.0.action seen ≡ Some e → is_quiet e ≡ true → IsUnlogged y.plan code.thread graph_thread.at e → P)
      (logged : AssignsLogged site found.0 → P) (store : MakesStore found.0 graph_thread → P)
      (unlock : (lock : LockName) (next : ℕ) → found.0.action ≡ Unlock lock next → P) where
    quietly : (z : Action) → found.0.action ≡ z → (effect : Effect) → effect_of z seen ≡ Some effect → is_quiet effect ≡ true → P
    quietly z is effect does plain = by effect (ap (λ (x : Action). effect_of x seen) is ∙ does) plain
      where
        set : (local : ℕ) (number : ℤ) (next : ℕ) → effect_of found.0.action seen ≡ Some (a.Sets local number next) → (home : Home) (held : List LockName) →
            home_of code.thread.locals local ≡ home → held_names_before y.plan code.thread graph_thread.at ≡ held → P
        set local number next now (InRegister register) held at_home holds = quiet (a.Sets local number next) now refl
            (coe 0 1 (i. IsPlainSet ((sym at_home) i) ((sym holds) i)) tt)
        set local number next now (InFrame word) [] at_home holds = quiet (a.Sets local number next) now refl
            (coe 0 1 (i. IsPlainSet ((sym at_home) i) ((sym holds) i)) tt)
        set local number next now (InFrame word) (name ∷ held) at_home holds = logged (record {
          local = local;
          number = number;
          next_node = next;
          does = now;
          word = word;
          home = at_home;
          name = name;
          held = held;
          holds = holds;
        })

        by : (f : Effect) → effect_of found.0.action seen ≡ Some f → is_quiet f ≡ true → P
        by (a.Sets local number next) now plain =
            set local number next now (home_of code.thread.locals local) (held_names_before y.plan code.thread graph_thread.at) refl refl
        by (a.Owes store next) now plain = quiet (a.Owes store next) now refl tt
        by (a.Makes store next) now plain = absurd (true≢false (sym plain))
        by (a.Goes next) now plain = quiet (a.Goes next) now refl tt
        by (a.Takes mutex next) now plain = absurd (true≢false (sym plain))
        by (a.Gives mutex next) now plain = absurd (true≢false (sym plain))
        by a.Ends now plain = quiet a.Ends now refl tt

    by_action : (z : Action) → found.0.action ≡ z → P
    by_action (Eval (e.ToLocal place local kind) value next) is = quietly _ is _ refl refl
    by_action (Eval (e.ToVariable place variable kind) value next) is = quietly _ is _ refl refl
    by_action (Eval (e.ToElement place variable kind index) value next) is = quietly _ is _ refl refl
    by_action (Store variable kind next) is = store (makes_store variable kind next is)
    by_action (Test condition holds fails) is = quietly _ is _ refl refl
    by_action (Lock lock next) is = absurd (free found.0 lock next (subst (λ (g : Graph). NodeAt g graph_thread.at found.0) (sym s.plan.lowered) found.1) is)
    by_action (Unlock lock next) is = unlock lock next is
    by_action End is = quietly _ is _ refl refl

    pub by_node : P
    by_node = by_action found.0.action refl

pub cores_step : MarksPass → CoresStep
cores_step marks y s w h hart i core free =
    let site : AtNode y s w h = record { hart = hart; core = core } in
    own_step site.hart i (by_node site (StepOf site.hart (view site.hart).n) free
    (λ e does quiet plain. quiet_step site (found site).0 (found site).1 (record { e = e; does = does; quiet = quiet }) plain marks)
    (λ logged. logged_step site (found site).0 (found site).1 logged marks)
    (λ makes. store_step site (found site).0 (found site).1 makes marks)
    (λ lock next is. unlock_step site (found site).0 (found site).1 (record { lock = lock; next_node = next; action = is }) marks))
