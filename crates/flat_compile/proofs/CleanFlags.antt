-- Of a thread's code it may be said that all but stores clean: that says nothing of it.
use Rattle.std.proofs.Common.{◌≡◌, ◌↔◌, refl, ℕ, ℤ, ◌+◌, ◌<◌, List, map, Bool, true, false, Option, Some, None, ap, sym, subst, ◌∙◌}
use Rattle.std.specs.Prelude.{slice_get}
use Rattle.c_tree.specs.WellFormed.{shape_of}
use Rattle.ido_ints.specs.declared.kinds.Kind.{Kind}
use Rattle.c_tree.specs.Exprs as e
use Rattle.c_tree.specs.Source.{Pending}
use Rattle.rv64_isa.specs.Rows.{read}
use Rattle.memory_layout.specs.Roles.{pending_value}
use Rattle.flow_graph.specs.Nodes.{Action, Eval, Store, Test, Lock, Unlock, End, Node}
use Rattle.flow_graph.specs.Actions as a
use Rattle.flow_graph.specs.Actions.{Effect, Seen, effect_of}
use Rattle.flow_graph.specs.OmittedCleans.{IsCleanedLater}
use Rattle.flow_graph.specs.Liveness.{NodeAt}
use Rattle.code_runs.specs.CodeTraces.{Program}
use Rattle.expr_code.specs.declared.home.Home.{Home}
use Rattle.expr_code.specs.declared.home.Home.TheVariants.{InRegister, InFrame}
use Rattle.expr_code.specs.EvaluationCode.{home_of}
use Rattle.flow_graph.specs.IdempotentCuts.{IsChosen}
use Rattle.thread_code.specs.Plans.{Plan, Thread, IsNodeOf}
use Rattle.thread_code.specs.RegistersAtNodes.{Enters, LogView}
use Rattle.thread_code.specs.NodeCodeEffects.{Places, Entrance, Performs, Passing, Asking, Storing, StoringWord, GoesOnAfter, pending_observations, seen_after}
use Rattle.thread_code.specs.NodeCodeEffects.{SetsIn, SetsLogged, SetsPlain, StoresPlain, BoundaryBefore, IsAnsweredAt}
use Rattle.thread_code.specs.Programs.{IsThreadCode, IsNodeCode, IsCalling, IsCallWithin, IsCleaning, IsAtOwnNode, IsAtOwnCore}
use Rattle.thread_code.specs.Programs.{IsResumeAddress, at_chosen, past_lock, past_unlock, mark_of}

-- of an action: that the node cleans, where it is no store
abbrev cleans_by : Places → (node : ℕ) → Action → Bool
cleans_by c node (Eval target value next) = true
cleans_by c node (Store variable kind next) = c.cleans node
cleans_by c node (Test condition holds fails) = true
cleans_by c node (Lock lock next) = true
cleans_by c node (Unlock lock next) = true
cleans_by c node End = true

abbrev cleans_in : Places → (node : ℕ) → Option Node → Bool
cleans_in c node (Some is) = cleans_by c node is.action
cleans_in c node None = true

module _ (p : Plan) (t : Thread) (program : Program) (code : IsThreadCode p t program) where
  abbrev old : Places
  old = code.places

  abbrev new : Places
  new = record old { cleans = λ (node : ℕ). cleans_in old node (slice_get p.graph.nodes node) }

  here : (node : ℕ) (is : Node) → NodeAt p.graph node is → new.cleans node ≡ cleans_by old node is.action
  here node is at = ap (cleans_in old node) at

  -- a store cleans or doesn't as before
  as_before : (node : ℕ) (is : Node) (variable : ℕ) (kind : Kind) (next : ℕ) → NodeAt p.graph node is → is.action ≡ Store variable kind next →
      old.cleans node ≡ new.cleans node
  as_before node is variable kind next at stores = sym (here node is at ∙ ap (cleans_by old node) stores)

  -- ---- What a node does

  storing : (m : Entrance) (k : Kind) (store : Pending) → Storing p t old m k store → Storing p t new m k store
  storing m k store s = record { instr = s.instr; stands = s.stands; does = s.does; value = s.value }

  storing_word : (m : Entrance) (at word : ℕ) → StoringWord p t old m at word → StoringWord p t new m at word
  storing_word m at word s = record { instr = s.instr; stands = s.stands; does = s.does }

  sets_logged : (m : Entrance) (word local : ℕ) (number : ℤ) (next : ℕ) → SetsLogged p t old m word local number next →
      SetsLogged p t new m word local number next
  sets_logged m word local number next s = record { storing = storing_word m (old.core m.node) word s.storing; passes = s.passes }

  stores_plain : (m : Entrance) (word local : ℕ) (number : ℤ) (next : ℕ) → StoresPlain p t old m word local number next →
      StoresPlain p t new m word local number next
  stores_plain m word local number next s = record { storing = storing_word m (old.store m.node) word s.storing; plain = s.plain; passes = s.passes }

  sets_plain : (m : Entrance) (word local : ℕ) (number : ℤ) (next : ℕ) → SetsPlain p t old m word local number next →
      SetsPlain p t new m word local number next
  sets_plain m word local number next s = record {
    computes = s.computes;
    stores = λ other meets node seen may. stores_plain other word local number next (s.stores other meets node seen may);
  }

  sets : (home : Home) (m : Entrance) (local : ℕ) (number : ℤ) (next : ℕ) → SetsIn p t old home m local number next → SetsIn p t new home m local number next
  sets (InRegister register) m local number next h = h
  sets (InFrame word) m local number next h =
      (λ logged. sets_logged m word local number next (h.0 logged), λ none. sets_plain m word local number next (h.1 none))

  asking : (number mutex next : ℕ) (seen : Seen) (view : LogView) (registers : List ℕ) → Asking p t old number mutex next seen view registers →
      Asking p t new number mutex next seen view registers
  asking number mutex next seen view registers k = record { call = k.call; lock = k.lock; enters = k.enters }

  goes_on : (node next : ℕ) → GoesOnAfter p t old node next → GoesOnAfter p t new node next
  goes_on node next g = record { on = g.on }

  -- what is pending is made by stores alone
  makes_store : (node : ℕ) (is : Node) (seen : Seen) (action : Action) (store : Pending) (next : ℕ) → NodeAt p.graph node is → is.action ≡ action →
      effect_of action seen ≡ Some (a.Makes store next) → old.cleans node ≡ new.cleans node
  makes_store node is seen (Eval (e.ToLocal place local kind) value to) store next at same makes = cc
  makes_store node is seen (Eval (e.ToVariable place variable kind) value to) store next at same makes = cc
  makes_store node is seen (Eval (e.ToElement place variable kind index) value to) store next at same makes = cc
  makes_store node is seen (Store variable kind to) store next at same makes = as_before node is variable kind to at same
  makes_store node is seen (Test condition holds fails) store next at same makes = cc
  makes_store node is seen (Lock lock to) store next at same makes = cc
  makes_store node is seen (Unlock lock to) store next at same makes = cc
  makes_store node is seen End store next at same makes = cc

  performs : (is : Node) (m : Entrance) (effect : Effect) → NodeAt p.graph m.node is → effect_of is.action m.seen ≡ Some effect →
      Performs p t old m effect → Performs p t new m effect
  performs is m (a.Sets local number next) at does h = sets (home_of t.locals local) m local number next h
  performs is m (a.Owes store next) at does h = h
  performs is m (a.Makes store next) at does h = λ k kind.
      let both = h k kind in
      let same = makes_store m.node is m.seen is.action store next at refl does in (
        storing m k store both.0,
        subst (λ (b : Bool). Passing p t old m (old.core m.node) (old.entry next) (pending_observations p t old k store (read m.registers pending_value) b)
            (Enters p t next (seen_after (a.Makes store next) m.seen) m.view)) same both.1,
      )
  performs is m (a.Goes next) at does h = h
  performs is m (a.Takes mutex next) at does h = record {
    registers = h.registers;
    steps = h.steps;
    walks = h.walks;
    short = h.short;
    are = asking _ mutex next m.seen m.view h.registers h.are;
  }
  performs is m (a.Gives mutex next) at does h = record {
    registers = h.registers;
    steps = h.steps;
    walks = h.walks;
    short = h.short;
    are = asking _ mutex next m.seen _ h.registers h.are;
  }
  performs is m a.Ends at does h = h

  calls : (action : Action) (node : ℕ) → IsCalling p t old action node → IsCalling p t new action node
  calls (Eval target value next) node h = tt
  calls (Store variable kind next) node h = tt
  calls (Test condition holds fails) node h = tt
  calls (Lock lock next) node h = (h.0, goes_on node next h.1, h.2)
  calls (Unlock lock next) node h = (h.0, goes_on node next h.1, h.2, h.3)
  calls End node h = h

  cleaning : (node : ℕ) (is : Node) (action : Action) → NodeAt p.graph node is → is.action ≡ action → IsCleaning p t old action node →
      IsCleaning p t new action node
  cleaning node is (Eval target value next) at same h = tt
  cleaning node is (Store variable kind next) at same h =
      subst (λ (b : Bool). (b ≡ false) ↔ IsCleanedLater p.graph p.boundaries (map shape_of p.flat.variables) node)
      (as_before node is variable kind next at same) h
  cleaning node is (Test condition holds fails) at same h = tt
  cleaning node is (Lock lock next) at same h = tt
  cleaning node is (Unlock lock next) at same h = tt
  cleaning node is End at same h = tt

  call_within : (action : Action) (node : ℕ) → IsCallWithin old action node → IsCallWithin new action node
  call_within (Eval target value next) node h = h
  call_within (Store variable kind next) node h = h
  call_within (Test condition holds fails) node h = h
  call_within (Lock lock next) node h = h
  call_within (Unlock lock next) node h = h
  call_within End node h = h

  at_node : (m : Entrance) → IsAtOwnNode p t new m → IsAtOwnNode p t old m
  at_node m stands = record { meets = stands.meets; own = stands.own; enters = stands.enters }

  at_core : (m : Entrance) → IsAtOwnCore p t new m → IsAtOwnCore p t old m
  at_core m stands = record { meets = stands.meets; own = stands.own; ready = stands.ready }

  answered_as : (m : Entrance) (action : Action) → IsAnsweredAt p t new m action → IsAnsweredAt p t old m action
  answered_as m action h = record { variables = h.variables; frame = h.frame }

  boundary : (m : Entrance) (action : Action) → BoundaryBefore p t old m action → BoundaryBefore p t new m action
  boundary m action b = record { registers = b.registers; same = b.same; ready = b.ready; passes = b.passes }

  node_code : (node : ℕ) (is : Node) → NodeAt p.graph node is → IsNodeCode p t old node is → IsNodeCode p t new node is
  node_code node is at n = record {
    chosen = λ c m same stands answered owed. boundary m is.action (n.chosen c m same (at_node m stands) (answered_as m is.action answered) owed);
    plain = n.plain;
    performs = λ m effect same stands answered owed does.
        performs is m effect (ap (slice_get p.graph.nodes) same ∙ at) does
        (n.performs m effect same (at_core m stands) (λ none. answered_as m is.action (answered none)) owed does);
    assigns = λ m same stands logged word home.
        sets_logged m word logged.local m.owed logged.assigns.next (n.assigns m same (at_core m stands) logged word home);
    calls = calls is.action node n.calls;
    cleans = cleaning node is is.action at refl n.cleans;
    price = n.price;
    within = record { core = n.within.core; after_core = n.within.after_core; call = call_within is.action node n.within.call };
    words = n.words;
  }

  -- ---- The thread

  mark_same : (action : Action) (node : ℕ) → mark_of old action node ≡ mark_of new action node
  mark_same (Eval target value next) node = refl
  mark_same (Store variable kind next) node = refl
  mark_same (Test condition holds fails) node = refl
  mark_same (Lock lock next) node = refl
  mark_same (Unlock lock next) node = refl
  mark_same End node = refl

  to_new : (address : ℕ) → IsResumeAddress p t old address → IsResumeAddress p t new address
  to_new address (at_chosen node own chosen) = at_chosen node own chosen
  to_new address (past_lock node lock next is own at does) = past_lock node lock next is own at does
  to_new address (past_unlock node lock next is own at does some) = past_unlock node lock next is own at does some

  to_old : (address : ℕ) → IsResumeAddress p t new address → IsResumeAddress p t old address
  to_old address (at_chosen node own chosen) = at_chosen node own chosen
  to_old address (past_lock node lock next is own at does) = past_lock node lock next is own at does
  to_old address (past_unlock node lock next is own at does some) = past_unlock node lock next is own at does some

  pub recleaned : IsThreadCode p t program
  recleaned = record {
    places = new;
    of_program = code.of_program;
    begins = code.begins;
    ends = code.ends;
    follows = code.follows;
    code = λ node is own at. node_code node is at (code.code node is own at);
    live = code.live;
    kept = code.kept;
    marks = λ i is own at. code.marks i is own at ∙ ap (λ (mark : ℕ). Some mark) (mark_same is.action (t.part.first + i));
    marks_count = code.marks_count;
    resumes = λ address. (λ found. to_new address ((code.resumes address).0 found), λ is. (code.resumes address).1 (to_old address is));
    ascending = code.ascending;
  }

  pub recleaned_spaced : ((node : ℕ) → IsNodeOf t node → IsChosen p.graph p.boundaries node → old.entry node < old.core node) →
      (node : ℕ) → IsNodeOf t node → IsChosen p.graph p.boundaries node → recleaned.places.entry node < recleaned.places.core node
  unfolding recleaned
  recleaned_spaced h = h

  -- a clean is left out of stores alone, which are cleaned later
  pub recleaned_later : (node : ℕ) (is : Node) → IsNodeOf t node → NodeAt p.graph node is → recleaned.places.cleans node ≡ false →
      IsCleanedLater p.graph p.boundaries (map shape_of p.flat.variables) node
  unfolding recleaned
  recleaned_later node is own at h = by is.action (sym (here node is at) ∙ h) (code.code node is own at).cleans
    where
      by : (action : Action) → cleans_by old node action ≡ false → IsCleaning p t old action node →
          IsCleanedLater p.graph p.boundaries (map shape_of p.flat.variables) node
      by (Eval target value next) e c = cc
      by (Store variable kind next) e c = c.0 e
      by (Test condition holds fails) e c = cc
      by (Lock lock next) e c = cc
      by (Unlock lock next) e c = cc
      by End e c = cc
