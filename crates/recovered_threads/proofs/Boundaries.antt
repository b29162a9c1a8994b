-- The boundaries of a thread's code can be recovered from.
use Rattle.std.proofs.Common.{◌≡◌, ◌≢◌, ℕ, zero, suc, ◌%◌, ◌^◌, ◌<◌, ◌≤◌, List, [], ◌∷◌, length, refl, ap, arith, sym, ◌∙◌, subst, Bool, true, false}
use Rattle.std.proofs.Common.{Some, None}
use Rattle.std.specs.Prelude.{slice_index, Contains}
use Rattle.std.specs.List.{list_all}
use Rattle.std.proofs.lemmas.Bool.{and_parts}
use Rattle.std.proofs.lemmas.Option.{none-some, same_Some, slice_get_within}
use Rattle.log_schemes.specs.declared.locals.Locals.{Locals}
use Rattle.log_schemes.specs.declared.locals.Locals.TheVariants.{Registers, Frame}
use Rattle.log_schemes.specs.declared.log.Log.{Log}
use Rattle.log_schemes.specs.SchemeFacts.{AreLoggable}
use Rattle.log_schemes.specs.Schemes.{locals_of, may_keep, may_keep_at}
use Rattle.memory_layout.specs.declared.roles.TheConstants.{LOCALS}
use Rattle.memory_layout.specs.Roles.{is_kept}
use Rattle.rv64_isa.specs.Rows.{read}
use Rattle.boundary_code.specs.Boundaries.{Boundary}
use Rattle.expr_code.specs.declared.home.Home.TheVariants.{InRegister}
use Rattle.expr_code.specs.EvaluationCode.{home_of}
use Rattle.expr_code.proofs.Public.{bytes_small, same_register}
use Rattle.flow_graph.specs.Nodes.{Action, Eval, Store, Test, Lock, Unlock, End, Node}
use Rattle.flow_graph.specs.Actions.{GraphThread}
use Rattle.flow_graph.specs.IdempotentCuts.{IsStoreNode, stores}
use Rattle.flow_graph.specs.Liveness.{NodeAt}
use Rattle.flow_graph.proofs.Public.{found_in}
use Rattle.log_states.specs.Laws.{IsRecoverable}
use Rattle.log_states.proofs.Public.{contains_first, is_tellable, kept_are_keepable}
use Rattle.thread_code.specs.Plans.{Plan, Thread, IsKept, IsKeptBefore, IsNodeOf, IsThread, IsPlan, held_names_before, home_at, locks_before}
use Rattle.thread_code.specs.Plans.{of_address, of_entry, of_local, of_number, of_value, of_word}
use Rattle.thread_code.specs.NodeCodeEffects.{bytes_written, keeping, opens_section}
use Rattle.thread_code.proofs.Public.{locals_are}
use Rattle.recovered_threads.specs.RecordDescriptions.{Code, ComesNext, NodePlace, ResumesAt, at_chosen, past_lock, past_unlock}
use Rattle.recovered_threads.specs.RecordDescriptions.{registers_kept}
use Rattle.recovered_threads.specs.Laws.{BoundariesRecover, IsBoundaryAt, after_lock, before_core, of_unlock}
use Rattle.recovered_threads.proofs.HomesByColour.{contained_at, home_at_colour, no_register}
use Rattle.recovered_threads.proofs.LivenessAtUnlocks.{free_after_lock, free_after_unlock}
use Rattle.recovered_threads.proofs.RecordedLocks.{are_loggable}

-- ---- Registers that may be kept

one_kept : (xs : List ℕ) (at : ℕ) → list_all is_kept xs ≡ true → at < length xs → is_kept (slice_index xs at) ≡ true
one_kept [] at h below = absurd (let z : ⊥ = omega (arith, below) in z)
one_kept (x ∷ xs) zero h below = (and_parts (is_kept x) (list_all is_kept xs) h).0
one_kept (x ∷ xs) (suc at) h below = one_kept xs at (and_parts (is_kept x) (list_all is_kept xs) h).1 (omega (arith, below))

-- a register that is the home of a colour
home_kept : (log : Log) (thread : ℕ) (l : Locals) (colour register : ℕ) → colour < 18 → home_at l log thread colour ≡ InRegister register →
    may_keep_at l register ≡ true
home_kept log thread Registers colour register exists at =
    ap is_kept (same_register register (slice_index LOCALS colour) (sym at)) ∙ one_kept LOCALS colour refl exists
home_kept log thread Frame colour register exists at = absurd (no_register log thread colour register at)

address_kept : (l : Locals) → may_keep_at l 28 ≡ true
address_kept Registers = refl
address_kept Frame = refl

value_kept : (l : Locals) → may_keep_at l 29 ≡ true
value_kept Registers = refl
value_kept Frame = refl

pub none_contained : (xs : List ℕ) → ((x : ℕ) → Contains xs x → ⊥) → xs ≡ []
none_contained [] none = refl
none_contained (x ∷ xs) none = absurd (none x (contains_first x xs))

module _ (p : Plan) (plan : IsPlan p) (t : Thread) (is : IsThread p t) (node : ℕ) where
  -- each local has a colour
  record HasColour (local : ℕ) : Type 0 where
    colour : ℕ
    home : home_of t.locals local ≡ home_at (locals_of p.log) p.log t.number colour
    exists : colour < 18

  has_colour : (local : ℕ) → local < length t.kinds → HasColour local
  has_colour local below =
      let count = plan.registers.locals t.number t.part is.colours is.nodes is.of_colours in
      let found = found_in is.colours local (omega (arith, below, count, locals_are p t plan is)) in
      record {
        colour = found.0;
        home = home_at_colour p plan t is local found.0 found.1;
        exists = plan.registers.exist t.number found.0 is.colours is.of_colours (contained_at is.colours local found.0 found.1);
      }

  pub kept_is : (register : ℕ) → IsKept p t node register → may_keep p.log register ≡ true
  kept_is register (of_local local k own there live at) =
      let has = has_colour local (slice_get_within t.kinds local k there) in
      home_kept p.log t.number (locals_of p.log) has.colour own has.exists (sym has.home ∙ at)
  kept_is register (of_address store) = address_kept (locals_of p.log)
  kept_is register (of_value store) = value_kept (locals_of p.log)

  pub kept_before_is : (register : ℕ) → IsKeptBefore p t node register → may_keep p.log register ≡ true
  kept_before_is register (of_entry own kept) = kept_is own kept
  kept_before_is register (of_word logged) = address_kept (locals_of p.log)
  kept_before_is register (of_number logged) = value_kept (locals_of p.log)

  -- where locals stand in the frame, what is kept is of a write
  local_none : locals_of p.log ≡ Frame → (local register : ℕ) → local < length t.kinds → home_of t.locals local ≡ InRegister register → ⊥
  local_none frame local register below at =
      let has = has_colour local below in
      no_register p.log t.number has.colour register (ap (λ (l : Locals). home_at l p.log t.number has.colour) (sym frame) ∙ (sym has.home ∙ at))

  pub entry_none : locals_of p.log ≡ Frame → ¬ (IsStoreNode p.graph node) → (register : ℕ) → IsKept p t node register → ⊥
  entry_none frame none register (of_local local k own there live at) = local_none frame local own (slice_get_within t.kinds local k there) at
  entry_none frame none register (of_address store) = none store
  entry_none frame none register (of_value store) = none store

  -- a node before which no write is told of makes none
  stores_none : (is : Node) → NodeAt p.graph node is → bytes_written is.action ≡ None → IsStoreNode p.graph node → ⊥
  stores_none is at none (stores x variable kind next there does) =
      none-some _ (sym none ∙ (ap (λ (n : Node). bytes_written n.action) (same_Some is x (sym at ∙ there)) ∙ ap bytes_written does))

  pub core_none : locals_of p.log ≡ Frame → (is : Node) → NodeAt p.graph node is → bytes_written is.action ≡ None → (register : ℕ) →
      IsKeptBefore p t node register → ⊥
  core_none frame is at none register (of_entry own kept) = entry_none frame (stores_none is at none) own kept
  core_none frame is at none register (of_word logged) =
      let a = logged.assigns in
      none-some 8 (sym none ∙ (ap (λ (n : Node). bytes_written n.action) (same_Some is a.is (sym at ∙ a.at)) ∙ ap bytes_written a.action))
  core_none frame is at none register (of_number logged) =
      let a = logged.assigns in
      none-some 8 (sym none ∙ (ap (λ (n : Node). bytes_written n.action) (same_Some is a.is (sym at ∙ a.at)) ∙ ap bytes_written a.action))

-- a write has few bytes
pub few_bytes : (a : Action) (bytes : ℕ) → bytes_written a ≡ Some bytes → bytes ≤ 8
few_bytes (Eval target value next) bytes e = let z : 8 ≡ bytes = same_Some 8 bytes e in omega (arith, z)
few_bytes (Store variable kind next) bytes e = subst (λ (n : ℕ). n ≤ 8) (same_Some _ bytes e) (bytes_small kind)
few_bytes (Test condition to other) bytes e = absurd (none-some bytes e)
few_bytes (Lock lock next) bytes e = absurd (none-some bytes e)
few_bytes (Unlock lock next) bytes e = absurd (none-some bytes e)
few_bytes End bytes e = absurd (none-some bytes e)

-- ---- What a boundary of the code is

module _ (p : Plan) (code : Code p) (graph_thread : GraphThread) where
  pub of_locks : (place : NodePlace) (b : Boundary) (resume : ℕ) → IsBoundaryAt p code graph_thread place b resume →
      b.locks ≡ locks_before p code.thread graph_thread.locals graph_thread.at
  of_locks _ _ _ (before_core is at chosen) = refl
  of_locks _ _ _ (after_lock from lock is own at locks) = refl
  of_locks _ _ _ (of_unlock from lock is own at unlocks) = refl

  pub of_registers : (place : NodePlace) (b : Boundary) (resume : ℕ) → IsBoundaryAt p code graph_thread place b resume →
      b.live ≡ registers_kept code.is.places graph_thread.at place
  of_registers _ _ _ (before_core is at chosen) = refl
  of_registers _ _ _ (after_lock from lock is own at locks) = refl
  of_registers _ _ _ (of_unlock from lock is own at unlocks) = refl

  pub of_write : (place : NodePlace) (b : Boundary) (resume : ℕ) → IsBoundaryAt p code graph_thread place b resume →
      ComesNext p graph_thread.at place b.written
  of_write _ _ _ (before_core is at chosen) = λ other there. ap (λ (n : Node). bytes_written n.action) (same_Some is other (sym at ∙ there))
  of_write _ _ _ (after_lock from lock is own at locks) = refl
  of_write _ _ _ (of_unlock from lock is own at unlocks) = refl

  -- in a section it resumes the thread
  pub resumes_there : (place : NodePlace) (b : Boundary) (resume : ℕ) → IsBoundaryAt p code graph_thread place b resume →
      held_names_before p code.thread graph_thread.at ≢ [] → ResumesAt p code graph_thread.at place resume
  resumes_there _ _ _ (before_core is at chosen) holds = at_chosen chosen
  resumes_there _ _ _ (after_lock from lock is own at locks) holds = past_lock from lock is own at locks
  resumes_there _ _ _ (of_unlock from lock is own at unlocks) holds = past_unlock from lock is own at unlocks holds

-- ---- It can be recovered from

module _ (p : Plan) (plan : IsPlan p) (code : Code p) (graph_thread : GraphThread) (own : IsNodeOf code.thread graph_thread.at) (x : List ℕ)
    (loggable : AreLoggable p.log (locks_before p code.thread graph_thread.locals graph_thread.at)) where
  abbrev node : ℕ
  node = graph_thread.at

  -- of registers and an address these are known
  record AreFit (b : Boundary) (resume : ℕ) : Type 0 where
    registers : (register : ℕ) → Contains b.live register → read x register < 2 ^ 64
    aligned : resume % 4 ≡ 0
    somewhere : 0 < resume
    below : resume < 2 ^ 64

  at_entry : ¬ (IsStoreNode p.graph node) → (opens : Bool) (resume : ℕ) → AreFit (keeping p code.thread code.is.places opens graph_thread.locals node) resume →
      IsRecoverable (keeping p code.thread code.is.places opens graph_thread.locals node) resume x
  at_entry none opens resume fit = record {
    locks = loggable;
    live = λ register has. kept_are_keepable p.log register (kept_is p plan code.thread code.of node register ((code.is.live node own register).0 has));
    registers = fit.registers;
    told = is_tellable p.log None (λ bytes e. absurd (none-some bytes e));
    for_write = λ frame told. none_contained (code.is.places.live node)
        (λ register has. entry_none p plan code.thread code.of node frame none register ((code.is.live node own register).0 has));
    aligned = fit.aligned;
    somewhere = fit.somewhere;
    below = fit.below;
  }

  recovers : (place : NodePlace) (b : Boundary) (resume : ℕ) → IsBoundaryAt p code graph_thread place b resume → AreFit b resume → IsRecoverable b resume x
  recovers _ _ _ (before_core is at chosen) fit = record {
    locks = loggable;
    live = λ register has. kept_are_keepable p.log register (kept_before_is p plan code.thread code.of node register ((code.is.kept node own register).0 has));
    registers = fit.registers;
    told = is_tellable p.log (bytes_written is.action) (few_bytes is.action);
    for_write = λ frame told. none_contained (code.is.places.kept node)
        (λ register has. core_none p plan code.thread code.of node frame is at told register ((code.is.kept node own register).0 has));
    aligned = fit.aligned;
    somewhere = fit.somewhere;
    below = fit.below;
  }
  recovers _ _ _ (after_lock from lock is from_own at locks) fit =
      at_entry (free_after_lock p plan from node lock is at locks) (opens_section p code.thread code.is.places from) (code.is.places.after from) fit
  recovers _ _ _ (of_unlock from lock is from_own at unlocks) fit =
      at_entry (free_after_unlock p plan from node lock is at unlocks) false (code.is.places.after from) fit

pub boundaries_recover : BoundariesRecover
boundaries_recover p code s b view resume x plan orderly k =
    recovers p plan code k.graph_thread k.own x (are_loggable p s plan orderly code.thread code.of k.graph_thread k.there k.own) k.place b resume k.boundary
    (record { registers = k.registers; aligned = k.aligned; somewhere = k.somewhere; below = k.below })
