-- Compiled code has its form.
use Rattle.std.proofs.Common.{◌≡◌, ◌≢◌, ◌⊎◌, ◌↔◌, inl, inr, refl, ℕ, ℤ, suc, ◌+◌, ◌-◌, ◌*◌, ◌^◌, ◌<◌, ◌≤◌, List, [], ◌∷◌, length, map, sym, ◌∙◌, ap}
use Rattle.std.proofs.Common.{subst, arith, zero, pos}
use Rattle.c_tree.specs.Values.{lock_number}
use Rattle.c_tree.specs.Exprs.{LockName, Lvalue, Placed, ToLocal}
use Rattle.c_tree.specs.Source.{Pending}
use Rattle.std.proofs.Common.{◌++◌, Bool, true, false, not, ◌==◌, Option, Some, None, slice_get, slice_index, slice_index_or, Contains}
use Rattle.std.proofs.lemmas.Bool.{cases_Bool, ne_eqb}
use Rattle.std.proofs.lemmas.List.{length-map}
use Rattle.ido_base.specs.declared.place.Place.{Place}
use Rattle.ido_ints.specs.Reduction.{reduced}
use Rattle.ido_ints.specs.TypedNumbers.{Typed, typed, register_form_of}
use Rattle.memory_layout.specs.Roles.{pending_address, pending_value}
use Rattle.log_schemes.specs.declared.locals.Locals.{Locals}
use Rattle.log_schemes.specs.declared.locals.Locals.TheVariants.{Registers, Frame}
use Rattle.std.specs.List.Sorted.{IsStrictlyIncreasing}
use Rattle.std.proofs.lemmas.Option.{slice_get_within, get_or_from_slice_get, none-some, same_Some}
use Rattle.thread_code.specs.Plans.{home_of_colour, Plan, IsPlan, Thread, IsThread, IsNodeOf, IsKept, IsKeptBefore, IsLogged, language_of, locks_held_from}
use Rattle.thread_code.specs.Plans.{held_names_before, names_in, set_before}
use Rattle.thread_code.proofs.Public.{names_are, nothing_held, nothing_named}
use Rattle.code_runs.specs.CodeTraces.{Trace, Program, MarkedEnvironment, Meets, Mark, Observation}
use Rattle.code_runs.proofs.Public.{along}
use Rattle.node_code.specs.Pieces.{boundary_observations, store_observations}
use Rattle.code_runs.specs.ComputingRuns.{LocalConfig, config}
use Rattle.boundary_code.specs.Boundaries.{Boundary, IsOnSide}
use Rattle.log_schemes.specs.Schemes.{keeping_of, locals_of}
use Rattle.log_schemes.specs.declared.log.Log.{Log}
use Rattle.ido_ints.specs.declared.kinds.Kind.{Kind}
use Rattle.c_tree.specs.Flats as f
use Rattle.c_tree.specs.LockNames.{Held, held_names, holds, lock_names}
use Rattle.c_tree.specs.HoldPrices.{full_price}
use Rattle.flow_graph.specs.declared.graph.Part.{Part}
use Rattle.flow_graph.specs.Actions.{Effect, Seen, Sets, Gives, effect_of, number_in}
use Rattle.flow_graph.specs.Nodes.{Action, Eval, Store, Lock, Unlock, Node, Graph, successors}
use Rattle.flow_graph.specs.Liveness.{NodeAt, IsLive, AreRegisters, HasNoClash}
use Rattle.flow_graph.specs.Lowering.{table_of, lowered, thread_count, thread_nodes, parts}
use Rattle.flow_graph.specs.IdempotentCuts.{IsLock, locks, IsUnlock, unlocks, IsStoreNode, stores, Writes, IsChosen, AreCuts, AreAtWrites}
use Rattle.flow_graph.proofs.Public.{length-thread_nodes, found_in}
use Rattle.region_cutter.specs.LocksAtBoundaries.{ChosenAreLocked}
use Rattle.rv64_link.specs.LinkedCode.{AreInstructions, IsInstructionAt}
use Rattle.rv64_isa.specs.declared.instr.Instr.TheVariants.{Ecall}
use Rattle.rv64_isa.specs.Programs.{code_of, code_start}
use Rattle.hart_runs.specs.Laws.{program_at}
use Rattle.thread_code.specs.Plans as plans
use Rattle.thread_code.specs.NodeCodeEffects.{Places, Entrance, IsOwed, SetsIn, bytes_written, keeping_before, view_after}
use Rattle.thread_code.specs.RegistersAtNodes.{Enters, IsAnswered, IsFrameAnswered, IsReady, to_enter, to_assign, LogView, source_of}
use Rattle.thread_code.specs.Programs as c
use Rattle.thread_code.specs.Programs.{IsOn, IsThreadCode, IsCallWithin, IsCalling, boundary_count, mark_of}
use Rattle.rv64_codegen.proofs.Public.{cost_of, costs, thread_costs, IsFormed, IsStoring, threads_are, end_is, node_in, node_exists, held_there, sound_node}
use Rattle.rv64_codegen.proofs.Public.{colours_long, held_sets, set_long}
use Rattle.log_states.proofs.Public.{contains_first}
use Rattle.thread_runs.specs.CodeFragments.{IsPlaced}
use Rattle.thread_runs.proofs.Public.{plans_are_placed as placed}
use Rattle.crash_simulation.specs.Systems.{System, IsSystem, flat_of, thread_count as threads_of}
use Rattle.crash_simulation.proofs.Public.{pending_free}
use Rattle.compiler_correctness.specs.Translations.{marks_of}
use Rattle.compiler_correctness.specs.Forms.{Sites, IsAmong, CallsAt, HasNodeForm, holds_some, IsResume, at_chosen, past_lock, past_unlock, HasThreadForm}
use Rattle.compiler_correctness.specs.Forms.{HasBoundaries, HasWrite, HoldLocals, IsLiveRegister, of_local, of_address, of_value, homes_by, StandsBoundary}
use Rattle.compiler_correctness.specs.Forms.{IsRecorded, LogsAssignment, boundary_at}
use Rattle.compiler_correctness.specs.Laws.{translation_of, CompiledCodeHasForm}
use Rattle.compiler_correctness.proofs.FramedLocals.{at_home, framed_home, in_word, same_word, view_of, word_is}
use Rattle.compiler_correctness.proofs.NodesOfThreads.{alone, alone_at_writes, alone_stands, chosen_kind}
use Rattle.expr_code.specs.EvaluationCode.{AreLoaded, HomeCarries, home_of}
use Rattle.expr_code.specs.declared.home.Home.{Home}
use Rattle.expr_code.specs.declared.home.Home.TheVariants.{InRegister, InFrame}

-- ---- Sets and their locks

some_held : (at : ℕ) (held : Held) → locks_held_from at held ≢ [] → holds_some held ≡ true
some_held at [] some = absurd (some refl)
some_held at (true ∷ held) some = refl
some_held at (false ∷ held) some = some_held (at + 1) held some

has_locks : (at : ℕ) (held : Held) → holds_some held ≡ true → locks_held_from at held ≢ []
has_locks at [] some none = cc
has_locks at (true ∷ held) some none = cc
has_locks at (false ∷ held) some none = has_locks (at + 1) held some none

one_held : (held : Held) (mutex : ℕ) → holds held mutex ≡ true → holds_some held ≡ true
one_held [] mutex is = cc
one_held (true ∷ held) mutex is = refl
one_held (false ∷ held) zero is = cc
one_held (false ∷ held) (suc mutex) is = one_held held mutex is

none_held : (at : ℕ) (held : Held) → holds_some held ≡ false → locks_held_from at held ≡ []
none_held at [] none = refl
none_held at (true ∷ held) none = cc
none_held at (false ∷ held) none = none_held (at + 1) held none

some_long : (names : List LockName) → names ≢ [] → (length names == 0) ≡ false
some_long [] some = absurd (some refl)
some_long (x ∷ names) some = ne_eqb (length (x ∷ names)) 0 (λ none. absurd (omega (arith, none)))

-- ---- Where locals stand

no_frame : {l : Locals} → l ≡ Registers → l ≡ Frame → ⊥
no_frame registers frame = let both : Registers ≡ Frame = sym registers ∙ frame in cc

answered_word : (loads : (address bytes : ℕ) → Option ℕ) (x : List ℕ) (home : Home) (word : ℕ) (v : Typed) → home ≡ InFrame word →
    HomeCarries loads x home v → loads word 8 ≡ Some (register_form_of v)
answered_word loads x home word v is carries = (subst (λ (h : Home). HomeCarries loads x h v) is carries).answer

-- ---- What nodes do

-- an unlock assigns no local
gives_none : (lock : LockName) (next : ℕ) (target : Lvalue) (value : Placed) (then : ℕ) → Unlock lock next ≡ Eval target value then → ⊥
gives_none lock next target value then same = cc

-- what an assignment does, in one way
one_local : (place spot : Place) (local other : ℕ) (kind like : Kind) (value same : Placed) (next then : ℕ) →
    Eval (ToLocal place local kind) value next ≡ Eval (ToLocal spot other like) same then → local ≡ other
one_local place spot local other kind like value same next then is = cc

one_number : (local other : ℕ) (number same : ℤ) (next then : ℕ) → Some (Sets local number next) ≡ Some (Sets other same then) → number ≡ same
one_number local other number same next then is = cc

stores_none : (variable : ℕ) (kind : Kind) (next : ℕ) (target : Lvalue) (value : Placed) (then : ℕ) → Store variable kind next ≡ Eval target value then → ⊥
stores_none variable kind next target value then same = cc

in_no_register : (register word : ℕ) → InRegister register ≡ InFrame word → ⊥
in_no_register register word same = cc

gives_sets : (mutex next local : ℕ) (number : ℤ) (then : ℕ) → Some (Gives mutex next) ≡ Some (Sets local number then) → ⊥
gives_sets mutex next local number then same = cc

module _ (p : Plan) (t : Thread) (plan : IsPlan p) where
  -- a store reads nothing
  reads_none : (locals : List ℤ) (a : Action) → IsStoring p plan a → (loads : (address bytes : ℕ) → Option ℕ) →
      IsAnswered (source_of p t (record { locals = locals; pending = None; variables = [] })) loads a
  reads_none locals (Store variable kind next) storing loads = tt
  reads_none locals a storing loads = absurd storing

  -- and owes no local a number
  owes_none : (c : Places) (m : Entrance) (a : Action) → IsStoring p plan a → m.seen.pending ≡ None → IsOwed p t c m a
  owes_none c m (Store variable kind next) storing none local number then sets =
      absurd (none-some (Sets local number then)
      (sym (ap (λ (o : Option Pending). effect_of (Store variable kind next) (record m.seen { pending = o })) none) ∙ sets))
  owes_none c m a storing none local number then sets = absurd storing

-- ---- Whole words

through : (a b d : ℕ) → IsOn a b → IsOn b d → IsOn a d
through a b d x y = let p = x.is in let q = y.is in record { words = x.words + y.words; is = omega (arith, p, q) }

none_between : (a : ℕ) → IsOn a a
none_between a = record { words = 0; is = omega arith }

-- ---- Prices

-- nodes from the one on that are each within their price are together
paid : (p : Plan) (t : Thread) (ns : List Node) (first : ℕ) (entry words : ℕ → ℕ) →
    ((i node : ℕ) (n : Node) → node ≡ first + i → slice_get ns i ≡ Some n →
    (entry (node + 1) ≡ entry node + 4 * words node) × (words node ≤ cost_of p t p.log n node)) →
    entry (first + length ns) ≤ entry first + 4 * costs p t p.log ns first
paid p t [] first entry words each = let e : entry (first + 0) ≡ entry first = ap entry (omega arith) in omega (arith, e)
paid p t (n ∷ ns) first entry words each =
    let here = each 0 first n (omega arith) refl in
    let rest = paid p t ns (suc first) entry words (λ i node m at there. each (suc i) node m (omega (arith, at)) there) in
    let e : entry (first + length (n ∷ ns)) ≡ entry (suc first + length ns) = ap entry (omega arith) in
    let next : entry (first + 1) ≡ entry (suc first) = ap entry (omega arith) in
    omega (arith, e, rest, next, here.0, here.1)

-- ---- The thread's own program

abbrev program_in : System → (number : ℕ) → Program
program_in y number = program_at y.runs.program number (slice_index_or y.runs.marks number []) (slice_index_or y.runs.resumes number [])

module _ (locked : ChosenAreLocked) (y : System) (s : IsSystem y) (t : Thread) (of : IsThread y.plan t)
    (code : IsThreadCode y.plan t (program_in y t.number))
    (room : (program_in y t.number).start + 4 * length (program_in y t.number).code < 2 ^ 64) where
  open y use {plan as p}

  graph_is : p.graph ≡ lowered p.flat
  graph_is = s.plan.lowered

  node_at : (node : ℕ) (x : Node) → NodeAt (lowered p.flat) node x → NodeAt p.graph node x
  node_at node x at = subst (λ (g : Graph). NodeAt g node x) (sym graph_is) at

  own_of : (node : ℕ) → IsAmong t.part node → IsNodeOf t node
  own_of node among = record { from_first = among.from_first; below_end = among.below_end }

  among_of : (node : ℕ) → IsNodeOf t node → IsAmong t.part node
  among_of node own = record { from_first = own.from_first; below_end = own.below_end }

  -- ---- Places of nodes

  mark_by : Option Node → (node : ℕ) → ℕ
  mark_by (Some x) node = mark_of code.places x.action node
  mark_by None node = 0

  abbrev sites : Sites
  sites = record { start = code.places.entry; mark = λ node. mark_by (slice_get p.graph.nodes node) node; after = code.places.after }

  mark_is : (node : ℕ) (x : Node) → NodeAt p.graph node x → sites.mark node ≡ mark_of code.places x.action node
  unfolding mark_by
  mark_is node x at = ap (λ (o : Option Node). mark_by o node) at

  mark_on : (a : Action) (node : ℕ) → c.IsWithin code.places a node →
      IsOn (code.places.entry node) (mark_of code.places a node) × IsOn (mark_of code.places a node + 4) (code.places.entry (node + 1))
  mark_on (Lock lock next) node w = (through _ _ _ w.core w.call.0, through _ _ _ w.call.1 w.call.2)
  mark_on a node w = (w.core, w.after_core)

  -- ---- Marks

  marked : (node : ℕ) (x : Node) → IsNodeOf t node → NodeAt p.graph node x →
      slice_get (marks_of (translation_of y) t.number) (node - t.part.first) ≡ Some (sites.mark node)
  marked node x own at =
      let i : ℕ = node - t.part.first in
      let same : t.part.first + i ≡ node = omega (arith, own.from_first) in
      code.marks i x (subst (IsNodeOf t) (sym same) own) (subst (λ (k : ℕ). NodeAt p.graph k x) (sym same) at)
      ∙ ap (λ (k : ℕ). Some (mark_of code.places x.action k)) same
      ∙ ap (λ (k : ℕ). Some k) (sym (mark_is node x at))

  -- ---- Calls

  abbrev stands : (address : ℕ) → Type 0
  stands address = IsInstructionAt (code_start y.runs.program t.number) (code_of y.runs.program t.number) address Ecall

  stood : (address : ℕ) → IsInstructionAt code.places.program.start code.places.program.code address Ecall → stands address
  stood address there = subst (λ (q : Program). IsInstructionAt q.start q.code address Ecall) code.of_program there

  module _ (node : ℕ) (own : IsNodeOf t node) where
    abbrev call : (address : ℕ) → Type 0
    call address = CallsAt (translation_of y) t.number t.part sites node address

    taken : (x : Node) (lock : LockName) (next : ℕ) (at : NodeAt p.graph node x) → x.action ≡ Lock lock next →
        call (sites.mark node) × (IsOn (sites.mark node + 4) (code.places.after node) × IsOn (code.places.after node) (code.places.entry (node + 1)))
    taken x lock next at is =
        let it = code.code node x own at in
        let w = subst (λ (a : Action). IsCallWithin code.places a node) is it.within.call in
        let calls = subst (λ (a : Action). IsCalling p t code.places a node) is it.calls in
        let mark : sites.mark node ≡ code.places.call node = mark_is node x at ∙ ap (λ (a : Action). mark_of code.places a node) is in
        subst (λ (m : ℕ). call m × (IsOn (m + 4) (code.places.after node) × IsOn (code.places.after node) (code.places.entry (node + 1)))) (sym mark) (
          record {
            stands = stood (code.places.call node) calls.0;
            from_mark = subst (λ (m : ℕ). IsOn m (code.places.call node)) (sym mark) (none_between (code.places.call node));
            to_end = through _ _ _ w.1 w.2;
          },
          (w.1, w.2),
        )

    given : (x : Node) (lock : LockName) (next : ℕ) (at : NodeAt p.graph node x) → x.action ≡ Unlock lock next →
        (address : ℕ) × call address × (code.places.after node ≡ address + 4)
    given x lock next at is =
        let it = code.code node x own at in
        let w = subst (λ (a : Action). IsCallWithin code.places a node) is it.within.call in
        let calls = subst (λ (a : Action). IsCalling p t code.places a node) is it.calls in
        let mark : sites.mark node ≡ code.places.core node = mark_is node x at ∙ ap (λ (a : Action). mark_of code.places a node) is in (
          code.places.call node,
          record {
            stands = stood (code.places.call node) calls.0;
            from_mark = subst (λ (m : ℕ). IsOn m (code.places.call node)) (sym mark) w.0;
            to_end = through _ _ _ w.1 w.2;
          },
          calls.2,
        )

    takes : IsLock (lowered p.flat) node →
        call (sites.mark node) × (IsOn (sites.mark node + 4) (code.places.after node) × IsOn (code.places.after node) (code.places.entry (node + 1)))
    takes (locks x lock next at is) = taken x lock next (node_at node x at) is

    gives : IsUnlock (lowered p.flat) node → (address : ℕ) × call address × (code.places.after node ≡ address + 4)
    gives (unlocks x lock next at is) = given x lock next (node_at node x at) is

    has_form : HasNodeForm (translation_of y) t.number t.part sites node
    has_form =
        let there = node_exists p s.plan t of node own in
        let it = code.code node there.0 own there.1 in
        let on = mark_on there.0.action node it.within in
        let mark = mark_is node there.0 there.1 in
        record {
          words = subst (λ (q : Program). AreInstructions q.start q.code (code.places.entry node) (code.places.entry (node + 1))
              (2 * boundary_count p.boundaries node)) code.of_program it.words;
          from_start = subst (λ (m : ℕ). IsOn (code.places.entry node) m) (sym mark) on.0;
          to_end = subst (λ (m : ℕ). IsOn (m + 4) (code.places.entry (node + 1))) (sym mark) on.1;
          marked = marked node there.0 own there.1;
          takes = λ lock. (takes lock).0;
          goes_on = λ lock. (takes lock).1;
          gives = gives;
        }

  -- ---- Where the thread may be resumed

  abbrev held : List Held
  held = slice_index_or p.held t.number []

  core_of : (a : Action) (node : ℕ) → IsStoring p s.plan a → mark_of code.places a node ≡ code.places.core node
  core_of (Store variable kind next) node is = refl
  core_of a node is = absurd is

  -- the action of a logged assignment
  assigned : (node : ℕ) (x : Node) → NodeAt p.graph node x → (logged : IsLogged p t node) →
      x.action ≡ Eval (ToLocal logged.assigns.place logged.local logged.assigns.kind) logged.assigns.assigned logged.assigns.next
  assigned node x at logged =
      ap (λ (z : Node). z.action) (same_Some x logged.assigns.is (sym at ∙ logged.assigns.at)) ∙ logged.assigns.action

  chosen_mark : (node : ℕ) → IsNodeOf t node → IsChosen p.graph p.boundaries node → sites.mark node ≡ code.places.core node
  chosen_mark node own chosen =
      let there = node_exists p s.plan t of node own in
      mark_is node there.0 there.1 ∙ elim (chosen_kind p s.plan t of node own there.0 there.1 chosen) [
        | inl writes ↦ core_of there.0.action node writes.0
        | inr logged ↦ ap (λ (a : Action). mark_of code.places a node) (assigned node there.0 there.1 logged)
      ]

  abbrev Resume : (address : ℕ) → Type 0
  Resume address = IsResume (translation_of y) t.part held sites address

  in_place : IsPlaced p t code.places p.log (t.number + 1)
  in_place =
      placed p t code.places p.log (t.number + 1) s.plan of code.live code.kept refl (omega arith)
      (subst (λ (q : Program). q.start + 4 * length q.code < 2 ^ 64) (sym code.of_program) room)

  own_next : (node : ℕ) (x : Node) (next : ℕ) → IsNodeOf t node → NodeAt p.graph node x → Contains (successors x.action) next → IsNodeOf t next
  own_next node x next own at goes = in_place.closed node next x own at goes

  after_own : (node : ℕ) (lock : LockName) (next : ℕ) (x : Node) → IsNodeOf t node → NodeAt p.graph node x → x.action ≡ Unlock lock next → IsNodeOf t next
  after_own node lock next x own at is =
      own_next node x next own at (subst (λ (a : Action). Contains (successors a) next) (sym is) (contains_first next []))

  in_form : (address : ℕ) → c.IsResumeAddress p t code.places address → Resume address
  in_form address (c.at_chosen node own chosen) =
      subst Resume (chosen_mark node own chosen)
      (at_chosen node (among_of node own) (subst (λ (g : Graph). IsChosen g p.boundaries node) graph_is chosen))
  in_form address (c.past_lock node lock next x own at is) =
      past_lock node (among_of node own) (locks x lock next (subst (λ (g : Graph). NodeAt g node x) graph_is at) is)
  in_form address (c.past_unlock node lock next x own at is some) =
      past_unlock node lock next x (among_of node own) (subst (λ (g : Graph). NodeAt g node x) graph_is at) is
      (some_held 0 (slice_index_or held (next - t.part.first) [])
      (λ none. some (nothing_named 0 (names_in p t) (set_before p t next) none)))

  lock_in_code : (node : ℕ) → IsNodeOf t node → IsLock (lowered p.flat) node → c.IsResumeAddress p t code.places (code.places.after node)
  lock_in_code node own (locks x lock next at is) = c.past_lock node lock next x own (node_at node x at) is

  in_code : (address : ℕ) → Resume address → c.IsResumeAddress p t code.places address
  in_code address (at_chosen node among chosen) =
      let there = subst (λ (g : Graph). IsChosen g p.boundaries node) (sym graph_is) chosen in
      subst (c.IsResumeAddress p t code.places) (sym (chosen_mark node (own_of node among) there)) (c.at_chosen node (own_of node among) there)
  in_code address (past_lock node among lock) = lock_in_code node (own_of node among) lock
  in_code address (past_unlock node lock next x among at is some) =
      let own = own_of node among in
      c.past_unlock node lock next x own (node_at node x at) is
      (λ none. has_locks 0 (slice_index_or held (next - t.part.first) []) some
      (nothing_held 0 (names_in p t) (set_before p t next) (set_long p s.plan t of next (after_own node lock next x own (node_at node x at) is)) none))

  -- ---- Boundaries

  -- the set before a node of the thread
  abbrev before : (node : ℕ) → Held
  before node = slice_index_or held (node - t.part.first) []

  named : (node : ℕ) → held_names_before p t node ≢ [] → holds_some (before node) ≡ true
  named node some = some_held 0 (before node) (λ none. some (nothing_named 0 (names_in p t) (before node) none))

  nameless : (node : ℕ) → IsNodeOf t node → holds_some (before node) ≡ true → held_names_before p t node ≢ []
  nameless node own some none =
      has_locks 0 (before node) some (nothing_held 0 (names_in p t) (before node) (set_long p s.plan t of node own) none)

  -- a lock opens a section where none is held
  opens_is : (node : ℕ) → IsNodeOf t node → (length (held_names_before p t node) == 0) ≡ not (holds_some (before node))
  opens_is node own = elim (cases_Bool (holds_some (before node))) [
    | inl some ↦ some_long (held_names_before p t node) (nameless node own some) ∙ ap not (sym some)
    | inr none ↦
        ap (λ (ns : List LockName). length ns == 0) (nothing_named 0 (names_in p t) (before node) (none_held 0 (before node) none)) ∙ ap not (sym none)
  ]

  abbrev Live : (node register : ℕ) → Type 0
  Live = IsLiveRegister (translation_of y) t.number of.text t.part held t.locals

  kind_is : (local : ℕ) → slice_get of.text.locals local ≡ slice_get t.kinds local
  kind_is local = ap (λ (ks : List Kind). slice_get ks local) (sym of.kinds)

  live_there : (local node : ℕ) → IsLive (lowered p.flat) local node → IsLive p.graph local node
  live_there local node live = subst (λ (g : Graph). IsLive g local node) (sym graph_is) live

  live_kept : (node register : ℕ) → IsKept p t node register → Live node register
  live_kept node register (plans.of_local local k own there live at) =
      of_local local k own (kind_is local ∙ there) (subst (λ (g : Graph). IsLive g local node) graph_is live) at
  live_kept node register (plans.of_address store) = of_address (subst (λ (g : Graph). IsStoreNode g node) graph_is store)
  live_kept node register (plans.of_value store) = of_value (subst (λ (g : Graph). IsStoreNode g node) graph_is store)

  kept_live : (node register : ℕ) → Live node register → IsKept p t node register
  kept_live node register (of_local local k own there live at) = plans.of_local local k own (sym (kind_is local) ∙ there) (live_there local node live) at
  kept_live node register (of_address store) = plans.of_address (subst (λ (g : Graph). IsStoreNode g node) (sym graph_is) store)
  kept_live node register (of_value store) = plans.of_value (subst (λ (g : Graph). IsStoreNode g node) (sym graph_is) store)

  are_live : (node : ℕ) → IsNodeOf t node → (register : ℕ) → Contains (code.places.live node) register ↔ Live node register
  are_live node own register =
      (λ has. live_kept node register ((code.live node own register).0 has), λ live. (code.live node own register).1 (kept_live node register live))

  -- before a node that is no logged assignment
  entry_kept : (node register : ℕ) → ¬ (IsLogged p t node) → IsKeptBefore p t node register → IsKept p t node register
  entry_kept node register plain (plans.of_entry r kept) = kept
  entry_kept node register plain (plans.of_word logged) = absurd (plain logged)
  entry_kept node register plain (plans.of_number logged) = absurd (plain logged)

  are_kept : (node : ℕ) → IsNodeOf t node → ¬ (IsLogged p t node) → (register : ℕ) → Contains (code.places.kept node) register ↔ Live node register
  are_kept node own plain register = (
    λ has. live_kept node register (entry_kept node register plain ((code.kept node own register).0 has)),
    λ live. (code.kept node own register).1 (plans.of_entry register (kept_live node register live)),
  )

  abbrev Holds : (node side : ℕ) (locals : List ℤ) (loads : (address bytes : ℕ) → Option ℕ) (x : List ℕ) → Type 0
  Holds = HoldLocals (translation_of y) t.number of.text t.part held t.locals

  abbrev seeing : List ℤ → List (List ℤ) → Seen
  seeing locals variables = record { locals = locals; pending = None; variables = variables }

  enters : (node side : ℕ) (locals : List ℤ) (variables : List (List ℤ)) (loads : (address bytes : ℕ) → Option ℕ) (x : List ℕ) →
      Holds node side locals loads x → Enters p t node (seeing locals variables) (view_of side loads) x
  enters node side locals variables loads x has = record {
    at_side = subst (λ (l : Log). IsOnSide l side x) (sym s.log) has.at_side;
    count = has.count ∙ ap (λ (ks : List Kind). length ks) (sym of.kinds);
    locals = λ local k there live.
        at_home side loads x (home_of t.locals local) (typed k (slice_index_or locals local (pos 0)))
        (has.live local k (kind_is local ∙ there) (subst (λ (g : Graph). IsLive g local node) graph_is live));
    pending = λ is at. pending_free p is.action (seeing locals variables) x refl;
  }

  -- as many homes as locals
  homes_long : length t.locals ≡ length of.text.locals
  homes_long =
      ap (λ (hs : List Home). length hs) of.locals ∙ (length-map of.colours (home_of_colour p.log t.number) ∙ colours_long p s.plan t of)

  framed : (node side : ℕ) (locals : List ℤ) (loads : (address bytes : ℕ) → Option ℕ) (x : List ℕ) → Holds node side locals loads x →
      IsFrameAnswered p t (view_of side loads) node loads
  framed node side locals loads x has local word live home =
      let below : local < length of.text.locals = let inside = in_word t.locals local word home in let long = homes_long in omega (arith, inside, long) in
      let there = found_in of.text.locals local below in
      let answer = answered_word loads x (home_of t.locals local) word (typed there.0 (slice_index_or locals local (pos 0))) home
      (has.live local there.0 there.1 (subst (λ (g : Graph). IsLive g local node) graph_is live)) in
      answer ∙ ap (λ (n : ℕ). Some n) (sym (word_is side loads word _ answer))

  abbrev entrance : MarkedEnvironment → (node : ℕ) → Seen → (view : LogView) (owed : ℤ) (x : List ℕ) → Entrance
  entrance z node seen view owed x = record { environment = z; node = node; seen = seen; view = view; owed = owed; registers = x }

  met : (z : MarkedEnvironment) → Meets (program_in y t.number) z → Meets code.places.program z
  met z meets = subst (λ (q : Program). Meets q z) (sym code.of_program) meets

  abbrev Stands : (entered node from to resume : ℕ) (written : Option ℕ) (opens : Bool) → List Observation → Type 0
  Stands = StandsBoundary (translation_of y) t.number of.text t.part held t.locals

  -- the boundary before a node, of a log, where the thread's locks have these names and its locals these numbers
  abbrev boundary_by : Log → List LockName → (node : ℕ) (written : Option ℕ) (opens : Bool) (live : List ℕ) (locals : List ℤ) → Boundary
  boundary_by log names node written opens live locals = record {
    log = log;
    thread = t.number;
    locks = map (lock_number locals) (held_names names (before node));
    live = live;
    resume = pos 0;
    written = written;
    opens = opens;
  }

  -- the plan's log is the machine's
  of_log : (node : ℕ) (written : Option ℕ) (opens : Bool) (live : List ℕ) (locals : List ℤ) →
      boundary_by p.log (names_in p t) node written opens live locals
      ≡ boundary_at (translation_of y) t.number of.text t.part held t.locals node written opens live locals
  of_log node written opens live locals =
      ap (λ (l : Log). boundary_by l (names_in p t) node written opens live locals) s.log
      ∙ ap (λ (ns : List LockName). boundary_by y.runs.log ns node written opens live locals) (names_are p t of)

  -- what is seen of a boundary first
  abbrev Walks : MarkedEnvironment → (steps : ℕ) (from : LocalConfig) (first : List Observation) (side resume : ℕ) (x : List ℕ) (to : LocalConfig) →
      Boundary → Type 0
  Walks z steps from first side resume x to b = Trace z steps from (first ++ boundary_observations b side resume x) to

  -- ---- Logged assignments

  abbrev Logs : (node : ℕ) → Type 0
  Logs = LogsAssignment (translation_of y) t.number of.text t.part held t.locals

  logs : (node : ℕ) → IsLogged p t node → Logs node
  logs node logged = record {
    framed = ap locals_of (sym s.log) ∙ logged.frame;
    locked = named node logged.holds;
    is = logged.assigns.is;
    at = subst (λ (g : Graph). NodeAt g node logged.assigns.is) graph_is logged.assigns.at;
    place = logged.assigns.place;
    local = logged.local;
    kind = logged.assigns.kind;
    value = logged.assigns.assigned;
    next = logged.assigns.next;
    assigns = logged.assigns.action;
  }

  logged_by : (node : ℕ) → IsNodeOf t node → Logs node → IsLogged p t node
  logged_by node own a = record {
    local = a.local;
    assigns = record { is = a.is; at = node_at node a.is a.at; place = a.place; kind = a.kind; assigned = a.value; next = a.next; action = a.assigns };
    frame = ap locals_of s.log ∙ a.framed;
    holds = nameless node own a.locked;
  }

  -- ---- Where they stand

  chosen_stands : (node : ℕ) → IsNodeOf t node → IsChosen p.graph p.boundaries node → ¬ (IsLogged p t node) → (is : Node) (at : NodeAt p.graph node is) →
      Stands node node (code.places.entry node) (code.places.core node) (code.places.core node) (bytes_written is.action) false []
  chosen_stands node own chosen plain is at = record {
    live = code.places.kept node;
    are_live = are_kept node own plain;
    leads = λ z meets side locals x has.
        let m = entrance z node (seeing locals []) (view_of side z.around.loads) (pos 0) x in
        let storing : IsStoring p s.plan is.action = elim (chosen_kind p s.plan t of node own is at chosen) [
          | inl writes ↦ writes.0
          | inr logged ↦ absurd (plain logged)
        ] in
        let goes = (code.code node is own at).chosen chosen m refl
        (record { meets = met z meets; own = own; enters = enters node side locals [] z.around.loads x has })
        (record { variables = reads_none p t s.plan locals is.action storing z.around.loads; frame = framed node side locals z.around.loads x has })
        (owes_none p t s.plan code.places m is.action storing refl) in (
          goes.passes.steps,
          goes.passes.registers,
          subst (Walks z goes.passes.steps (config x (code.places.entry node)) [] side (code.places.core node) x
              (config goes.passes.registers (code.places.core node))) (of_log node (bytes_written is.action) false (code.places.kept node) locals)
              (subst (λ (b : List ℕ). Walks z goes.passes.steps (config x (code.places.entry node)) [] side (code.places.core node) b
              (config goes.passes.registers (code.places.core node))
              (boundary_by p.log (names_in p t) node (bytes_written is.action) false (code.places.kept node) locals)) (goes.same plain) goes.passes.walks),
        );
  }

  lock_stands : (node : ℕ) → IsNodeOf t node → (is : Node) (lock : LockName) (next : ℕ) → NodeAt p.graph node is → is.action ≡ Lock lock next →
      Stands next next (code.places.call node + 4) (code.places.after node) (code.places.after node) None (not (holds_some (before node))) []
  lock_stands node own is lock next at does =
      let calls = subst (λ (a : Action). IsCalling p t code.places a node) does (code.code node is own at).calls in
      let own_it = own_next node is next own at (subst (λ (a : Action). Contains (successors a) next) (sym does) (contains_first next [])) in
      record {
        live = code.places.live next;
        are_live = are_live next own_it;
        leads = λ z meets side locals x has.
            let m = entrance z node (seeing locals []) (view_of side z.around.loads) (pos 0) x in
            let goes = calls.2 m (met z meets) refl (enters next side locals [] z.around.loads x has) (framed next side locals z.around.loads x has) in (
              goes.steps,
              goes.registers,
              subst (Walks z goes.steps (config x (code.places.call node + 4)) [] side (code.places.after node) x
                  (config goes.registers (code.places.after node)))
                  (ap (λ (opens : Bool). boundary_by p.log (names_in p t) next None opens (code.places.live next) locals) (opens_is node own)
                  ∙ of_log next None (not (holds_some (before node))) (code.places.live next) locals) goes.walks,
            );
      }

  unlock_stands : (node : ℕ) → IsNodeOf t node → (is : Node) (lock : LockName) (next : ℕ) → NodeAt p.graph node is → is.action ≡ Unlock lock next →
      Stands node next (code.places.core node) (code.places.call node) (code.places.after node) None false (Mark ∷ [])
  unlock_stands node own is lock next at does =
      let it = code.code node is own at in
      let own_it = own_next node is next own at (subst (λ (a : Action). Contains (successors a) next) (sym does) (contains_first next [])) in
      record {
        live = code.places.live next;
        are_live = are_live next own_it;
        leads = λ z meets side locals x has.
            let m = entrance z node (seeing locals []) (view_of side z.around.loads) (pos 0) x in
            let plain : ¬ (IsLogged p t node) = λ logged. gives_none lock next _ _ _ (sym does ∙ assigned node is at logged) in
            let goes = it.performs m (Gives (lock_number m.seen.locals lock) next) refl
            (record { meets = met z meets; own = own; ready = to_enter plain (enters node side locals [] z.around.loads x has) })
            (λ none. record {
              variables = subst (λ (a : Action). IsAnswered (source_of p t m.seen) z.around.loads a) (sym does) tt;
              frame = framed node side locals z.around.loads x has;
            })
            (λ local number then sets. absurd (gives_sets _ _ _ _ _ (sym (ap (λ (a : Action). effect_of a m.seen) does) ∙ sets)))
            (ap (λ (a : Action). effect_of a m.seen) does) in (
              goes.steps,
              goes.registers,
              subst (Walks z goes.steps (config x (code.places.core node)) (Mark ∷ []) side (code.places.after node) x
                  (config goes.registers (code.places.call node))) (of_log next None false (code.places.live next) locals) goes.walks,
            );
      }

  -- the kind of the local that is assigned
  kind_there : (node : ℕ) → IsNodeOf t node → (a : Logs node) → slice_get of.text.locals a.local ≡ Some a.kind
  kind_there node own a =
      (subst (λ (z : Action). IsFormed p.flat of.text.locals t.part.first t.part.end s.plan.formed.shared.variables z) a.assigns
      (sound_node p s.plan t of node a.is own (node_at node a.is a.at)).formed).0.0

  -- where a local stands, where locals stand in the log
  word_there : locals_of y.runs.log ≡ Frame → (local : ℕ) → local < length of.text.locals → (word : ℕ) × (home_of t.locals local ≡ InFrame word)
  word_there framed local below =
      let long = colours_long p s.plan t of in
      let found = framed_home p.log t.number (ap locals_of s.log ∙ framed) of.colours local (omega (arith, below, long)) in
      (found.0, ap (λ (hs : List Home). home_of hs local) of.locals ∙ found.1)

  same_local : (node : ℕ) (a : Logs node) (logged : IsLogged p t node) → logged.local ≡ a.local
  same_local node a logged = one_local _ _ _ _ _ _ _ _ _ _ (sym (assigned node a.is (node_at node a.is a.at) logged) ∙ a.assigns)

  -- ready for it, registers have the write that it makes
  has_write : (node : ℕ) → IsNodeOf t node → (a : Logs node) → IsLogged p t node → (word : ℕ) → home_of t.locals a.local ≡ InFrame word → (seen : Seen)
      (view : LogView) (owed : ℤ) (x : List ℕ) → IsReady p t node seen view owed x → HasWrite word (typed a.kind owed) x
  has_write node own a logged word home seen view owed x (to_enter none has) = absurd (none logged)
  has_write node own a logged word home seen view owed x (to_assign it may) =
      let same : it.local ≡ a.local = same_local node a it in
      let there : home_of t.locals a.local ≡ InFrame may.assigned.word =
      subst (λ (n : ℕ). home_of t.locals n ≡ InFrame may.assigned.word) same may.assigned.home in
      record {
        address = may.assigned.address ∙ same_word may.assigned.word word (sym there ∙ home);
        value = (may.assigned.carries a.kind (subst (λ (n : ℕ). slice_get t.kinds n ≡ Some a.kind) (sym same)
            (sym (kind_is a.local) ∙ kind_there node own a))).form;
      }

  -- its boundary keeps the two registers of that
  pending_kept : (node : ℕ) → IsNodeOf t node → (a : Logs node) → IsLogged p t node → (register : ℕ) →
      Contains (code.places.kept node) register ↔ ((register ≡ pending_address) ⊎ (register ≡ pending_value))
  pending_kept node own a logged register = (
    λ has. by register ((code.kept node own register).0 has),
    λ either. (code.kept node own register).1 (elim either [
      | inl is ↦ subst (λ (r : ℕ). IsKeptBefore p t node r) (sym is) (plans.of_word logged)
      | inr is ↦ subst (λ (r : ℕ). IsKeptBefore p t node r) (sym is) (plans.of_number logged)
    ]),
  )
    where
      no_store : IsStoreNode p.graph node → ⊥
      no_store (stores x variable kind next at is) =
          let same : x ≡ a.is = same_Some x a.is (sym at ∙ node_at node a.is a.at) in
          stores_none variable kind next _ _ _ (sym is ∙ (ap (λ (z : Node). z.action) same ∙ a.assigns))

      by_entry : (register : ℕ) → IsKept p t node register → ⊥
      by_entry register (plans.of_local local k own there live at) =
          let word = word_there a.framed local (slice_get_within of.text.locals local k (kind_is local ∙ there)) in
          in_no_register register word.0 (sym at ∙ word.1)
      by_entry register (plans.of_address store) = no_store store
      by_entry register (plans.of_value store) = no_store store

      by : (register : ℕ) → IsKeptBefore p t node register → (register ≡ pending_address) ⊎ (register ≡ pending_value)
      by register (plans.of_entry r kept) = absurd (by_entry r kept)
      by register (plans.of_word it) = inl refl
      by register (plans.of_number it) = inr refl

  recorded : (node : ℕ) → IsNodeOf t node → (a : Logs node) → IsLogged p t node →
      IsRecorded (translation_of y) t.number of.text t.part held t.locals a (code.places.entry node) (code.places.core node) (code.places.entry a.next)
  recorded node own a logged =
      let it = code.code node a.is own (node_at node a.is a.at) in
      let found = word_there a.framed a.local (slice_get_within of.text.locals a.local a.kind (kind_there node own a)) in
      record {
        word = found.0;
        home = found.1;
        live = code.places.kept node;
        are_live = pending_kept node own a logged;
        leads = λ z meets side seen x has loaded.
            let sees : Seen = seeing seen.locals seen.variables in
            let number : ℤ = reduced a.kind (number_in seen a.value.expr) in
            let view : LogView = view_of side z.around.loads in
            let m : Entrance = entrance z node sees view number x in
            let does : effect_of a.is.action sees ≡ Some (Sets a.local number a.next) = ap (λ (d : Action). effect_of d sees) a.assigns in
            let owing : IsOwed p t code.places m a.is.action = λ local n then sets. one_number _ _ _ _ _ _ (sym does ∙ sets) in
            let first = it.chosen (in_place.recorded node own logged) m refl
            (record { meets = met z meets; own = own; enters = enters node side seen.locals seen.variables z.around.loads x has })
            (record {
              variables = subst (λ (d : Action). IsAnswered (source_of p t sees) z.around.loads d) (sym a.assigns) (
                tt,
                subst (λ (ks : List Kind). AreLoaded (record {
                  variables = p.flat.variables;
                  kinds = ks;
                  locals = seen.locals;
                  numbers = seen.variables;
                }) z.around.loads a.value.expr) (sym of.kinds) loaded,
              );
              frame = framed node side seen.locals z.around.loads x has;
            }) owing in
            let mid : List ℕ = first.passes.registers in
            let there : LogView = view_after (keeping_before p t code.places a.is.action seen.locals node) view in
            let n : Entrance = entrance z node sees there number mid in
            let sets = it.performs n (Sets a.local number a.next) refl (record { meets = met z meets; own = own; ready = first.passes.are })
            (λ none. absurd (none logged)) owing does in
            let last = ((subst (λ (h : Home). SetsIn p t code.places h n a.local number a.next) found.1 sets).0 logged).passes in
            let value = (has_write node own a logged found.0 found.1 sees there number mid first.passes.are).value in
            let keeps = ap (λ (w : Option ℕ). boundary_by p.log (names_in p t) node w false (code.places.kept node) seen.locals) (ap bytes_written a.assigns)
            ∙ of_log node (Some 8) false (code.places.kept node) seen.locals in (
              first.registers,
              has_write node own a logged found.0 found.1 sees view number first.registers first.ready,
              (
                first.passes.steps + last.steps,
                last.registers,
                along z first.passes.steps last.steps (config x (code.places.entry node)) (config mid (code.places.core node))
                    (config last.registers (code.places.entry a.next)) _ _
                    (subst (Walks z first.passes.steps (config x (code.places.entry node)) [] side (code.places.core node) first.registers
                    (config mid (code.places.core node))) keeps first.passes.walks)
                    (subst (λ (v : ℕ). Trace z last.steps (config mid (code.places.core node)) (store_observations found.0 8 v true)
                    (config last.registers (code.places.entry a.next))) value last.walks),
              ),
            );
      }

  mark_at_core : (a : Action) (node : ℕ) (x : Node) → NodeAt p.graph node x → x.action ≡ a → ¬ (IsLock (lowered p.flat) node) →
      mark_of code.places a node ≡ code.places.core node
  mark_at_core (Lock lock next) node x at is other = absurd (other (locks x lock next (subst (λ (g : Graph). NodeAt g node x) graph_is at) is))
  mark_at_core a node x at is other = refl

  boundaries_at : (node : ℕ) → IsNodeOf t node → HasBoundaries (translation_of y) t.number of.text t.part held t.locals sites node
  boundaries_at node own =
      let there = node_exists p s.plan t of node own in
      let it = code.code node there.0 own there.1 in
      record {
        chosen = λ chosen plain is at.
            let here = subst (λ (g : Graph). IsChosen g p.boundaries node) (sym graph_is) chosen in
            subst (λ (m : ℕ). Stands node node (code.places.entry node) m m (bytes_written is.action) false []) (sym (chosen_mark node own here))
            (chosen_stands node own here (λ logged. plain (logs node logged)) is (node_at node is at));
        logged = λ a.
            let logged = logged_by node own a in
            subst (λ (m : ℕ). IsRecorded (translation_of y) t.number of.text t.part held t.locals a (code.places.entry node) m (code.places.entry a.next))
            (sym (chosen_mark node own (in_place.recorded node own logged))) (recorded node own a logged);
        plain = λ none other.
            it.plain (λ chosen. none (subst (λ (g : Graph). IsChosen g p.boundaries node) graph_is chosen))
            ∙ sym (mark_is node there.0 there.1 ∙ mark_at_core there.0.action node there.0 there.1 refl other);
        past_lock = λ is lock next at does.
            let own_at = node_at node is at in
            let mark : sites.mark node ≡ code.places.call node = mark_is node is own_at ∙ ap (λ (a : Action). mark_of code.places a node) does in
            subst (λ (m : ℕ). Stands next next (m + 4) (code.places.after node) (code.places.after node) None (not (holds_some (before node))) []) (sym mark)
            (lock_stands node own is lock next own_at does);
        before_unlock = λ is lock next call at does after.
            let own_at = node_at node is at in
            let mark : sites.mark node ≡ code.places.core node = mark_is node is own_at ∙ ap (λ (a : Action). mark_of code.places a node) does in
            let calls = subst (λ (a : Action). IsCalling p t code.places a node) does (code.code node is own own_at).calls in
            let same : code.places.call node ≡ call = omega (arith, after, calls.2) in
            subst (λ (m : ℕ). Stands node next m call (code.places.after node) None false (Mark ∷ [])) (sym mark)
            (subst (λ (k : ℕ). Stands node next (code.places.core node) k (code.places.after node) None false (Mark ∷ [])) same
            (unlock_stands node own is lock next own_at does));
      }

  -- ---- The thread

  ended : t.part.end ≡ t.part.first + thread_count of.text
  ended = end_is p s.plan t of

  marks_ascend : IsStrictlyIncreasing (marks_of (translation_of y) t.number)
  marks_ascend k within =
      let node : ℕ = t.part.first + k in
      let own : IsNodeOf t node = record { from_first = omega arith; below_end = omega (arith, within, code.marks_count) } in
      let next : IsNodeOf t (node + 1) = record { from_first = omega arith; below_end = omega (arith, within, code.marks_count) } in
      let one = has_form node own in
      let two = has_form (node + 1) next in
      let here = at_number node k (omega arith) one.marked in
      let there = at_number (node + 1) (k + 1) (omega arith) two.marked in
      omega (arith, here, there, one.to_end.is, two.from_start.is)
    where
      at_number : (node i : ℕ) → node ≡ t.part.first + i →
          slice_get (marks_of (translation_of y) t.number) (node - t.part.first) ≡ Some (sites.mark node) →
          slice_index (marks_of (translation_of y) t.number) i ≡ sites.mark node
      at_number node i is found =
          let same : node - t.part.first ≡ i = omega (arith, is) in
          get_or_from_slice_get (marks_of (translation_of y) t.number) i (sites.mark node) 0
          (subst (λ (n : ℕ). slice_get (marks_of (translation_of y) t.number) n ≡ Some (sites.mark node)) same found)

  price : length (code_of y.runs.program t.number) ≤ full_price (language_of p.log) p.flat of.text
  price =
      let ns = thread_nodes (table_of p.flat of.text) of.text t.part.first in
      let total = paid p t ns t.part.first code.places.entry code.places.words (λ i node n is there.
      let count = length-thread_nodes (table_of p.flat of.text) of.text t.part.first in
      let within = slice_get_within ns i n there in
      let own : IsNodeOf t node = record { from_first = omega (arith, is); below_end = omega (arith, is, within, count, ended) } in
      let x = node_exists p s.plan t of node own in
      let step : node - t.part.first ≡ i = omega (arith, is) in
      let found : Some x.0 ≡ Some n =
      sym (node_in p s.plan t of node x.0 own x.1) ∙ ap (slice_get ns) step ∙ there in
      let same : x.0 ≡ n = cc in
      (code.follows node own, subst (λ (z : Node). code.places.words node ≤ cost_of p t p.log z node) same (code.code node x.0 own x.1).price)) in
      let from : code.places.entry (t.part.first + length ns) ≡ code.places.entry t.part.end =
      ap code.places.entry (let count = length-thread_nodes (table_of p.flat of.text) of.text t.part.first in omega (arith, count, ended)) in
      omega (arith, total, from, code.begins, code.ends, thread_costs p t s.plan of)

  sets_there : (sets : List Held) × (slice_get p.held t.number ≡ Some sets)
  sets_there = found_in p.held t.number (held_there p s.plan t of)

  held_is : held ≡ sets_there.0
  held_is = get_or_from_slice_get p.held t.number sets_there.0 [] sets_there.1

  holds_there : (node : ℕ) → IsNodeOf t node → IsChosen p.graph p.boundaries node → holds_some (before node) ≡ true
  holds_there node own chosen =
      let x = node_exists p s.plan t of node own in
      elim (chosen_kind p s.plan t of node own x.0 x.1 chosen) [ inl writes ↦ by_store writes.1 | inr logged ↦ named node logged.holds ]
    where
      by_store : Writes p.graph node → holds_some (before node) ≡ true
      by_store writes =
          let step : ℕ = node - t.part.first in
          let set = found_in held step (held_sets p s.plan t of node own) in
          let here = locked p.flat p.held (alone p.graph node writes) t.number step node set.0 s.plan.held
          (subst (λ (g : Graph). AreAtWrites g (alone p.graph node writes)) graph_is (alone_at_writes p.graph node writes))
          (record {
            stands = alone_stands p.graph node writes;
            free = λ gives. chosen.free (subst (λ (g : Graph). IsUnlock g node) (sym graph_is) gives);
          }) (
          record {
            part = t.part;
            own = subst (λ (g : Graph). slice_get g.threads t.number ≡ Some t.part) graph_is of.nodes;
            is = omega (arith, own.from_first);
            sets = sets_there.0;
            row = sets_there.1;
            before = subst (λ (hs : List Held). slice_get hs step ≡ Some set.0) held_is set.1;
          }) in
          ap holds_some (get_or_from_slice_get held step set.0 [] set.1) ∙ one_held set.0 _ here.locked

  homes_are : t.locals ≡ homes_by y.runs.log p.colours t.number
  homes_are =
      of.locals
      ∙ (ap (λ (cs : List ℕ). map (home_of_colour p.log t.number) cs) (sym (get_or_from_slice_get p.colours t.number of.colours [] of.of_colours))
      ∙ ap (λ (l : Log). homes_by l p.colours t.number) s.log)

  pub formed : HasThreadForm (translation_of y) held y.plan.colours t.number of.text
  formed = record {
    part = t.part;
    nodes = subst (λ (g : Graph). slice_get g.threads t.number ≡ Some t.part) graph_is of.nodes;
    price = subst (λ (l : Log). length (code_of y.runs.program t.number) ≤ full_price (language_of l) p.flat of.text) s.log price;
    sites = sites;
    begins = code.begins;
    ends = code.ends;
    each = λ node among. has_form node (own_of node among);
    boundaries = λ node among.
        subst (λ (hs : List Home). HasBoundaries (translation_of y) t.number of.text t.part held hs sites node) homes_are
        (boundaries_at node (own_of node among));
    marks_count = code.marks_count;
    marks_ascend = marks_ascend;
    resumes = λ address. (λ has. in_form address ((code.resumes address).0 has), λ is. (code.resumes address).1 (in_code address is));
    resumes_ascend = code.ascending;
    locked = λ node among chosen. holds_there node (own_of node among) (subst (λ (g : Graph). IsChosen g p.boundaries node) (sym graph_is) chosen);
  }

-- ---- Programs

length_parts : (ts : List f.Thread) (first : ℕ) → length (parts ts first) ≡ length ts
length_parts [] first = refl
length_parts (t ∷ ts) first = ap suc (length_parts ts (first + thread_count t))

-- the thread of a code has the form of the text of its number
form_of : ChosenAreLocked → (y : System) → (s : IsSystem y) → (n : ℕ) (below : n < threads_of y) (text : f.Thread) →
    slice_get (flat_of y).threads n ≡ Some text → HasThreadForm (translation_of y) (slice_index_or y.plan.held n []) y.plan.colours n text
form_of locked y s n below text there =
    let code = s.codes.each n below in
    let own = s.own n below in
    let number : code.thread.number ≡ n = s.codes.number n below in
    let form = formed locked y s code.thread code.of (subst (λ (q : Program). IsThreadCode y.plan code.thread q) own.program code.is)
    (subst (λ (q : Program). q.start + 4 * length q.code < 2 ^ 64) own.program own.room) in
    let found : slice_get (flat_of y).threads n ≡ Some code.of.text =
    subst (λ (k : ℕ). slice_get (flat_of y).threads k ≡ Some code.of.text) number code.of.of_text in
    let both : Some code.of.text ≡ Some text = sym found ∙ there in
    let same : code.of.text ≡ text = cc in
    subst (λ (x : f.Thread). HasThreadForm (translation_of y) (slice_index_or y.plan.held n []) y.plan.colours n x) same
    (subst (λ (k : ℕ). HasThreadForm (translation_of y) (slice_index_or y.plan.held k []) y.plan.colours k code.of.text) number form)

pub compiled_code_has_form : ChosenAreLocked → CompiledCodeHasForm
compiled_code_has_form locked y s its =
    let many : threads_of y ≡ length (flat_of y).threads =
    ap (λ (xs : List Part). length xs) (threads_are y.plan s.plan) ∙ length_parts (flat_of y).threads 0 in
    record {
      single = λ masks. (s.plan.plain (ap keeping_of s.log ∙ masks)).single;
      initial = s.initial;
      mutexes = s.mutexes;
      count = s.count ∙ many;
      held = y.plan.held;
      sets = s.plan.held;
      colours = y.plan.colours;
      registers = subst (λ (g : Graph). AreRegisters g y.plan.colours) s.plan.lowered s.plan.registers;
      apart = subst (λ (g : Graph). HasNoClash g y.plan.colours) s.plan.lowered s.plan.apart;
      threads = λ n text there.
          let within = slice_get_within (flat_of y).threads n text there in
          form_of locked y s n (omega (arith, within, many)) text there;
      cuts = subst (λ (g : Graph). AreCuts g y.plan.boundaries) s.plan.lowered s.plan.cuts;
      at_writes = λ registers. subst (λ (g : Graph). AreAtWrites g y.plan.boundaries) s.plan.lowered (
          record {
            after = s.plan.at_writes.after;
            before = λ node has. elim (s.plan.at_writes.before node has) [
              | inl gives ↦ inl gives
              | inr (inl writes) ↦ inr writes
              | inr (inr logged) ↦ absurd (no_frame registers (ap locals_of (sym s.log) ∙ logged.logged.frame))
            ];
            before_count = s.plan.at_writes.before_count;
            after_count = s.plan.at_writes.after_count;
          });
      placed = its;
    }
