-- Boundaries that a thread's code begins: they can be recovered from, and their records describe the state.
use Rattle.crash_simulation.proofs.Common.{◌≡◌, ℕ, List, sym, ◌∙◌, ap, arith, subst, false, Some, refl, suc, ◌+◌, ◌<◌, [], length, zero, slice_get, ◌≤◌, ◌*◌}
use Rattle.crash_simulation.proofs.Common.{◌%◌, ◌^◌, map, ℤ, sum_by, take, slice_index_or, pos, slice_get_within, variable_at, Typed, typed, Kind}
use Rattle.crash_simulation.proofs.Common.{register_below, Pending, shape_of, IsThreadOf, IsStoreInRange, zip_found, read, Instr, GraphThread, FlowState}
use Rattle.crash_simulation.proofs.Common.{seen_by, NodeAt, lowered, Action, Store, Node, Graph, Good, found_in, IsInstructionAt, well_formed_placed, Carries}
use Rattle.crash_simulation.proofs.Common.{is_there, owes_at, Program, recorded_by, IsRecoverable, HomeCarries, Home, Places, Plan, IsNodeOf, IsKept}
use Rattle.crash_simulation.proofs.Common.{of_local, of_address, of_value, IsPlan, IsCalling, IsPendingIn, HasPending, Enters, IsLockOf, IsUnlockOf}
use Rattle.crash_simulation.proofs.Common.{AtBoundary, Code, IsOrderly, Describes, boundaries_recover, commits_describe, System, IsSystem, thread_count}
use Rattle.crash_simulation.proofs.Common.{IsCallWithin, IsFrameWord, IsLogged, IsReady, LogView, NodePlace, the_core, the_entry, to_assign, to_enter}
use Rattle.crash_simulation.proofs.Common.{IsBoundaryAt, after_lock, before_core, of_unlock, same_Some, words_exist, words_in, words_are_listed, Contains}
use Rattle.crash_simulation.proofs.Common.{◌∷◌, Boundary, IsThread, Log, Thread, home_of, locals_are, length-map, InRegister}
use Rattle.expr_code.specs.declared.home.Home.TheVariants.{InFrame}
use Rattle.log_schemes.specs.declared.locals.Locals.{Locals}
use Rattle.log_schemes.specs.declared.locals.Locals.TheVariants.{Frame}
use Rattle.memory_layout.specs.Roles.{pending_address, pending_value}
use Rattle.thread_code.specs.Plans.{IsKeptBefore, home_at, home_of_colour, of_entry, of_number, of_word}
use Rattle.thread_code.specs.Programs.{IsOn}
use Rattle.thread_code.specs.RegistersAtNodes.{HasAssigned, frame_loads}
use Rattle.recovered_threads.specs.RecordDescriptions.{AreCounted, MayGoOn, registers_kept}
use Rattle.flow_graph.specs.IdempotentCuts.{stores}
use Rattle.c_tree.specs.Flats as f
use Rattle.c_tree.specs.Source as m
use Rattle.crash_simulation.proofs.Elements.{element_below}
use Rattle.crash_simulation.proofs.StepsAfterMarks.{room}

-- ---- Addresses in a thread's code

-- one from which a run may begin
pub record IsAddress (address : ℕ) : Type 0 where
  pub aligned : address % 4 ≡ 0
  pub somewhere : 0 < address
  pub below : address < 2 ^ 64

module _ (y : System) (s : IsSystem y) (n : ℕ) (below : n < thread_count y) where
  abbrev code : Code y.plan
  code = s.codes.each n below

  abbrev c : Places
  c = code.is.places

  -- a word of it, or its end
  pub in_code : (i : ℕ) → i ≤ length c.program.code → IsAddress (c.program.start + 4 * i)
  in_code i within = grind (arith, room, sum_by, take)

  pub stands_in : (address : ℕ) (instr : Instr) → IsInstructionAt c.program.start c.program.code address instr → IsAddress address
  stands_in address instr st = subst (λ (a : ℕ). IsAddress a) (sym st.1) (in_code st.0 (omega (arith, slice_get_within c.program.code st.0 _ st.2)))

  -- where a thread is resumed after an unlock
  pub after_unlock_in : (from : ℕ) (locals : List ℤ) (mutex next : ℕ) → IsUnlockOf y.plan code.thread from locals mutex next → IsAddress (c.after from)
  after_unlock_in from locals mutex next u =
      let calls = subst (λ (a : Action). IsCalling y.plan code.thread c a from) u.unlocks (code.is.code from u.is u.own u.at).calls in
      let st = calls.0 in
      subst (λ (a : ℕ). IsAddress a) (let e : c.program.start + 4 * suc st.0 ≡ c.after from = omega (arith, calls.2) in e)
      (in_code (suc st.0) (omega (arith, slice_get_within c.program.code st.0 _ st.2)))

  -- a node's entry
  pub entry_in : (node : ℕ) → IsNodeOf code.thread node → IsAddress (c.entry node)
  entry_in node own =
      let r = room y.plan code.thread code.program code.is node own in
      let starts = ap (λ (p : Program). p.start) code.is.of_program in
      let sizes = ap (λ (p : Program). length p.code) code.is.of_program in
      subst (λ (a : ℕ). IsAddress a) (let e : c.program.start + 4 * r.from ≡ c.entry node = omega (arith, r.place, starts) in e)
      (in_code r.from (omega (arith, r.within, sizes)))

  -- a place after the node's entry, by whole words, with the words of an instruction or more before the next node's
  place_in : (node words : ℕ) (address : ℕ) → IsNodeOf code.thread node → address ≡ c.entry node + 4 * words → IsOn address (c.entry (node + 1)) →
      IsAddress address
  place_in node words address own is on =
      let r = room y.plan code.thread code.program code.is node own in
      let starts = ap (λ (p : Program). p.start) code.is.of_program in
      let sizes = ap (λ (p : Program). length p.code) code.is.of_program in
      let after = code.is.follows node own in
      subst (λ (a : ℕ). IsAddress a) (let e : c.program.start + 4 * (r.from + words) ≡ address = omega (arith, is, r.place, starts) in e)
      (in_code (r.from + words) (omega (arith, is, on.is, after, r.within, sizes)))

  -- where a node's code begins, past the boundary before it
  pub core_in : (node : ℕ) (is : Node) → IsNodeOf code.thread node → NodeAt y.plan.graph node is → IsAddress (c.core node)
  core_in node is own at =
      let within = (code.is.code node is own at).within in
      place_in node within.core.words (c.core node) own within.core.is
      (record { words = suc within.after_core.words; is = omega (arith, within.after_core.is) })

  -- where a thread is resumed after a lock
  pub after_lock_in : (from : ℕ) (locals : List ℤ) (mutex next : ℕ) → IsLockOf y.plan code.thread from locals mutex next → IsAddress (c.after from)
  after_lock_in from locals mutex next l =
      let within = (code.is.code from l.is l.own l.at).within in
      let calls = subst (λ (a : Action). IsCallWithin c a from) l.locks within.call in
      place_in from (within.core.words + calls.0.words + 1 + calls.1.words) (c.after from) l.own
      (omega (arith, within.core.is, calls.0.is, calls.1.is)) calls.2

-- ---- Homes

-- in the frame no local stands in a register
homes_framed : (log : Log) (thread : ℕ) (colours : List ℕ) (local register : ℕ) → local < length colours →
    home_of (map (home_at Frame log thread) colours) local ≡ InRegister register → ⊥
homes_framed log thread [] local register below is = omega (arith, below)
homes_framed log thread (c ∷ cs) zero register below is = cc
homes_framed log thread (c ∷ cs) (suc local) register below is = homes_framed log thread cs local register (omega (arith, below)) is

within_homes : (homes : List Home) (local word : ℕ) → home_of homes local ≡ InFrame word → local < length homes
within_homes [] local word is = cc
within_homes (home ∷ homes) zero word is = omega arith
within_homes (home ∷ homes) (suc local) word is = omega (arith, within_homes homes local word is)

-- a local that stands there has a kind
pub local_kind : (p : Plan) → IsPlan p → (t : Thread) → IsThread p t → (local word : ℕ) → home_of t.locals local ≡ InFrame word →
    (k : Kind) × (slice_get t.kinds local ≡ Some k)
local_kind p plan t is local word home =
    let count = plan.registers.locals t.number t.part is.colours is.nodes is.of_colours in
    let homes : length t.locals ≡ length is.colours = ap (λ (hs : List Home). length hs) is.locals ∙ length-map is.colours (home_of_colour p.log t.number) in
    found_in t.kinds local (omega (arith, within_homes t.locals local word home, homes, count, locals_are p t plan is))

module _ (p : Plan) (plan : IsPlan p) (t : Thread) (is : IsThread p t) (node : ℕ) (logged : IsLogged p t node) where
  none_in_register : (local register : ℕ) → local < length t.kinds → home_of t.locals local ≡ InRegister register → ⊥
  none_in_register local register below at =
      let count = plan.registers.locals t.number t.part is.colours is.nodes is.of_colours in
      homes_framed p.log t.number is.colours local register (omega (arith, below, count, locals_are p t plan is))
      (subst (λ (l : Locals). home_of (map (home_at l p.log t.number) is.colours) local ≡ InRegister register) logged.frame
      (ap (λ (hs : List Home). home_of hs local) (sym is.locals) ∙ at))

  no_store : (other : Node) (variable : ℕ) (kind : Kind) (next : ℕ) → NodeAt p.graph node other → other.action ≡ Store variable kind next → ⊥
  no_store other variable kind next at does =
      let same = ap (λ (n : Node). n.action) (same_Some other logged.assigns.is (sym at ∙ logged.assigns.at)) in
      let both = sym does ∙ (same ∙ logged.assigns.action) in cc

  -- at a logged assignment no register is live
  entry_none : (register : ℕ) → IsKept p t node register → ⊥
  entry_none register (of_local local k own there live at) = none_in_register local own (slice_get_within t.kinds local k there) at
  entry_none register (of_address (stores other variable kind next at does)) = no_store other variable kind next at does
  entry_none register (of_value (stores other variable kind next at does)) = no_store other variable kind next at does

-- ---- What registers hold

-- 64 bits of a value that a register carries
pub carried_small : (x : List ℕ) (register : ℕ) (v : Typed) → Carries x register v → read x register < 2 ^ 64
carried_small x register v carries = subst (λ (k : ℕ). k < 2 ^ 64) (sym carries.form) (register_below v.kind v.number)

module _ (p : Plan) (code : Code p) (plan : IsPlan p) (s : FlowState) (good : Good p.flat s) (graph_thread : GraphThread)
    (there : slice_get s.graph_threads code.thread.number ≡ Some graph_thread) where
  -- a store that is pending is of an element that is there
  pub store_is : (store : Pending) → graph_thread.pending ≡ Some store → IsStoreInRange p.flat.variables store
  store_is store owes =
      let inside = slice_get_within s.graph_threads code.thread.number graph_thread there in
      let thread = found_in good.source.threads code.thread.number (omega (arith, inside, good.matches.count)) in
      let match = good.matches.each code.thread.number graph_thread thread.0 there thread.1 in
      let own = zip_found (λ (t : f.Thread) (k : m.Thread). IsThreadOf p.flat t.locals k) p.flat.threads good.source.threads code.thread.number thread.0
      good.formed.threads thread.1 in
      own.related.pending store (sym match.pending ∙ owes)

  pub address_small : (store : Pending) → graph_thread.pending ≡ Some store → variable_at (map shape_of p.flat.variables) store.variable store.element < 2 ^ 64
  address_small store owes =
      let is = store_is store owes in
      let below = element_below p.flat.variables (well_formed_placed p.flat plan.formed).room store.variable store.element is.it is.found is.element in
      omega (arith, below)

  -- before a store one is pending
  pub store_ahead : (is : Node) (variable : ℕ) (kind : Kind) (next : ℕ) → NodeAt p.graph graph_thread.at is → is.action ≡ Store variable kind next →
      (store : Pending) × (graph_thread.pending ≡ Some store)
  store_ahead is variable kind next at stores_there =
      let found : NodeAt (lowered p.flat) graph_thread.at is = subst (λ (g : Graph). NodeAt g graph_thread.at is) plan.lowered at in
      let th = is_there p.flat plan.formed code.thread.number s good.source good.matches graph_thread is there found in
      let owed = owes_at _ is.action th.thread.left th.thread.pending (record { variable = variable; kind = kind; next = next; is = stores_there }) th.does in
      (owed.0, th.match.pending ∙ owed.1)

  module _ (view : LogView) (x : List ℕ) (enters : Enters p code.thread graph_thread.at (seen_by s graph_thread) view x) where
    pending_there : (is : Node) (variable : ℕ) (kind : Kind) (next : ℕ) → NodeAt p.graph graph_thread.at is → is.action ≡ Store variable kind next →
        (store : Pending) → graph_thread.pending ≡ Some store → HasPending p store variable kind x
    pending_there is variable kind next at stores_there store owes =
        subst (λ (a : Action). IsPendingIn p a (seen_by s graph_thread) x) stores_there (enters.pending is at) store owes

    -- what a boundary keeps has 64 bits
    pub kept_small : (register : ℕ) → IsKept p code.thread graph_thread.at register → read x register < 2 ^ 64
    kept_small register (of_local local k own found live at) =
        let v = typed k (slice_index_or (seen_by s graph_thread).locals local (pos 0)) in
        carried_small x own v (subst (λ (home : Home). HomeCarries (frame_loads view) x home v) at (enters.locals local k found live))
    kept_small register (of_address (stores is variable kind next at stores_there)) =
        let store = store_ahead is variable kind next at stores_there in
        subst (λ (k : ℕ). k < 2 ^ 64) (sym (pending_there is variable kind next at stores_there store.0 store.1).address) (address_small store.0 store.1)
    kept_small register (of_value (stores is variable kind next at stores_there)) =
        let store = store_ahead is variable kind next at stores_there in
        (pending_there is variable kind next at stores_there store.0 store.1).value.below

  -- and so has what the boundary before the node keeps
  module _ (view : LogView) (owed : ℤ) (x : List ℕ) where
    pub assigned_small : (logged : IsLogged p code.thread graph_thread.at) → HasAssigned code.thread logged.local owed x →
        (read x pending_address < 2 ^ 64) × (read x pending_value < 2 ^ 64)
    assigned_small logged h =
        let k = local_kind p plan code.thread code.of logged.local h.word h.home in
        (subst (λ (n : ℕ). n < 2 ^ 64) (sym h.address) h.below, carried_small x pending_value (typed k.0 owed) (h.carries k.0 k.1))

    kept_before : IsReady p code.thread graph_thread.at (seen_by s graph_thread) view owed x → (register : ℕ) →
        IsKeptBefore p code.thread graph_thread.at register → read x register < 2 ^ 64
    kept_before (to_enter plain enters) register (of_entry own kept) = kept_small view x enters own kept
    kept_before (to_enter plain enters) register (of_word logged) = absurd (plain logged)
    kept_before (to_enter plain enters) register (of_number logged) = absurd (plain logged)
    kept_before (to_assign logged may) register (of_entry own kept) =
        absurd (entry_none p plan code.thread code.of graph_thread.at logged own kept)
    kept_before (to_assign logged may) register (of_word other) = (assigned_small logged may.assigned).0
    kept_before (to_assign logged may) register (of_number other) = (assigned_small logged may.assigned).1

    pub may_small : (place : NodePlace) → MayGoOn p code.thread graph_thread.at place (seen_by s graph_thread) view owed x →
        (node : ℕ) → node ≡ graph_thread.at → IsNodeOf code.thread node → (register : ℕ) →
        Contains (registers_kept code.is.places node place) register → read x register < 2 ^ 64
    may_small the_entry may node same own register has = kept_small view x may register
        (subst (λ (n : ℕ). IsKept p code.thread n register) same ((code.is.live node own register).0 has))
    may_small the_core may node same own register has = kept_before may.0 register
        (subst (λ (n : ℕ). IsKeptBefore p code.thread n register) same ((code.is.kept node own register).0 has))

-- the registers that it keeps are those of where it stands
live_is : (p : Plan) (code : Code p) (graph_thread : GraphThread) (place : NodePlace) (b : Boundary) (resume : ℕ) →
    IsBoundaryAt p code graph_thread place b resume → b.live ≡ registers_kept code.is.places graph_thread.at place
live_is p _ graph_thread _ _ _ (before_core is at chosen) = refl
live_is p _ graph_thread _ _ _ (after_lock from lock is own at locks) = refl
live_is p _ graph_thread _ _ _ (of_unlock from lock is own at unlocks) = refl

-- ---- A boundary begins

-- a thread stands at a node in a state, its log is so, and x are registers at the boundary; it may be resumed at the address
pub record IsBeginning (p : Plan) (code : Code p) (s : FlowState) (b : Boundary) (view : LogView) (resume : ℕ) (x : List ℕ) : Type 0 where
  pub graph_thread : GraphThread
  pub there : slice_get s.graph_threads code.thread.number ≡ Some graph_thread
  pub goes_on : graph_thread.ended ≡ false
  pub own : IsNodeOf code.thread graph_thread.at
  pub place : NodePlace
  pub boundary : IsBoundaryAt p code graph_thread place b resume
  pub owed : ℤ
  pub may : MayGoOn p code.thread graph_thread.at place (seen_by s graph_thread) view owed x
  pub address : IsAddress resume

-- the boundary can be recovered from, and its record, which counts on these words, describes that state
pub record BoundaryIsRecoverable (p : Plan) (code : Code p) (s : FlowState) (b : Boundary) (node : ℕ) (place : NodePlace) (view : LogView) (resume : ℕ)
    (x : List ℕ) : Type 0 where
  pub recoverable : IsRecoverable b resume x
  pub framed : List ℕ
  pub counted : AreCounted p code.thread node place framed
  pub exist : (word : ℕ) → Contains framed word → IsFrameWord p.log word
  pub describes : Describes p code s (recorded_by b framed (words_in p.log code.thread.number view) view.side resume x)

module _ {p : Plan} (code : Code p) {s : FlowState} {b : Boundary} {view : LogView} {resume : ℕ} {x : List ℕ} (plan : IsPlan p) (orderly : IsOrderly p s)
    (good : Good p.flat s) (k : IsBeginning p code s b view resume x) where
  abbrev at_boundary : AtBoundary p code s b view resume x
  at_boundary = record {
    graph_thread = k.graph_thread;
    there = k.there;
    goes_on = k.goes_on;
    own = k.own;
    place = k.place;
    boundary = k.boundary;
    owed = k.owed;
    may = k.may;
    aligned = k.address.aligned;
    somewhere = k.address.somewhere;
    below = k.address.below;
    registers = λ register has. may_small p code plan s good k.graph_thread k.there view k.owed x k.place k.may k.graph_thread.at refl k.own register
        (subst (λ (registers : List ℕ). Contains registers register) (live_is p code k.graph_thread k.place b resume k.boundary) has);
  }

  pub boundaries_begin : BoundaryIsRecoverable p code s b k.graph_thread.at k.place view resume x
  boundaries_begin =
      let listed = words_are_listed p code.thread k.graph_thread.at k.place plan code.of in
      record {
        recoverable = boundaries_recover p code s b view resume x plan orderly at_boundary;
        framed = listed.0;
        counted = listed.1;
        exist = λ word has. words_exist p code.thread k.graph_thread.at k.place word plan code.of ((listed.1 word).0 has);
        describes = commits_describe p code s b view resume x listed.0 plan orderly at_boundary listed.1;
      }
