-- A hart at its call stores nothing, and leaves words as they are.
use Rattle.std.proofs.Common.{◌≡◌, refl, ℕ, List, ap, sym, ◌∙◌, subst, Bool, true, false, Option, Some, None, slice_get, ◌==◌, if◌then◌else◌}
use Rattle.flow_graph.specs.Nodes.{Action}
use Rattle.rv64_isa.specs.declared.instr.Instr.{Instr}
use Rattle.rv64_isa.specs.declared.instr.Instr.TheVariants.{Ecall}
use Rattle.rv64_isa.specs.declared.object.Slot.{Slot}
use Rattle.rv64_isa.specs.declared.object.Slot.TheVariants.{NoRow, Row}
use Rattle.rv64_isa.specs.Programs.{fetched}
use Rattle.rv64_isa.specs.Rows.{Calls, read, row}
use Rattle.machine_events.specs.declared.event.Cause.TheVariants.{NoCall, NotHeld}
use Rattle.machine_events.specs.declared.event.Event.TheVariants.{Step}
use Rattle.ido_base.specs.Locks.{is_held_by, least_held}
use Rattle.machine_model.specs.declared.phase.Phase.TheVariants.{Done, Ended, Run}
use Rattle.machine_model.specs.Machine.{Hart, Outcome, World, acquired, after_event, called, done_if_over, ended, executed, gone_on, hart_step, is_taking}
use Rattle.machine_model.specs.Machine.{moved, over_after, released, stuck, with_hart, with_holder}
use Rattle.machine_model.specs.Schedule.{is_running}
use Rattle.machine_model.proofs.Public.{get-set_same}
use Rattle.node_code.specs.Pieces.{ends, gives, takes}
use Rattle.hart_runs.specs.Calls.{IsAtCall}
use Rattle.hart_runs.specs.HartsOnRuns.{instr_at, instr_of}
use Rattle.hart_runs.proofs.Public.{by_phase, effect_is, none_some, same_there}
use Rattle.thread_code.specs.Programs.{IsCalling}
use Rattle.thread_runs.proofs.Public.{call_there}
use Rattle.thread_runs.specs.CodeFragments.{ExitPoint, Asks, Ends, Gives, IsEndOf, IsUnlockOf}
use Rattle.log_states.specs.Machines.{IsNext}
use Rattle.crash_simulation.specs.AbstractRuns.{now_of}
use Rattle.crash_simulation.specs.InstructionSteps as moving
use Rattle.crash_simulation.specs.InstructionSteps.{OnFragmentNow, Site}
use Rattle.crash_simulation.specs.SimulationRelation.{AreHeld}
use Rattle.crash_simulation.specs.Systems.{System, IsSystem}
use Rattle.crash_simulation.proofs.Public.{fragment, lock, view}

-- ---- The hart's instruction is a call

pub record CallsNow (y : System) (w : World) (h : ℕ) : Type 0 where
  pub number : ℕ
  pub at : IsAtCall y.runs.program w h number

module _ {y : System} {s : IsSystem y} {w : World} {h : ℕ} (site : Site y s w h) (held : AreHeld w site.stands.ghosts (now_of y site.stands.abstract)) where
  open view site use {code, n, places, graph_thread}

  asks_now : (mutex next : ℕ) → OnFragmentNow site (Asks mutex next) 0 → CallsNow y w n
  asks_now mutex next o =
      let there = fragment site held o in
      let lock_here = lock site held o in
      let calls = subst (λ (a : Action). IsCalling y.plan code.thread places a graph_thread.at) lock_here.locks
      (code.is.code graph_thread.at lock_here.is lock_here.own lock_here.at).calls in
      record { number = takes; at = call_there there graph_thread.at refl calls.0 takes there.has.call }

  gives_now : (from mutex : ℕ) → OnFragmentNow site (Gives from mutex) 0 → CallsNow y w n
  gives_now from mutex o =
      let there = fragment site held o in
      let unlock : IsUnlockOf y.plan code.thread from _ mutex graph_thread.at = there.of_graph in
      let calls = subst (λ (a : Action). IsCalling y.plan code.thread places a from) unlock.unlocks (code.is.code from unlock.is unlock.own unlock.at).calls in
      record { number = gives; at = call_there there from refl calls.0 gives there.has.call }

  ends_now : OnFragmentNow site Ends 0 → CallsNow y w n
  ends_now o =
      let there = fragment site held o in
      let last : IsEndOf y.plan code.thread graph_thread.at = there.of_graph in
      let calls = subst (λ (a : Action). IsCalling y.plan code.thread places a graph_thread.at) last.ends
      (code.is.code graph_thread.at last.is last.own last.at).calls in
      record { number = ends; at = call_there there graph_thread.at refl calls.0 ends there.has }

  pub calls_now : (exit : ExitPoint) → OnFragmentNow site exit 0 → moving.IsCalling exit → CallsNow y w n
  calls_now _ o (moving.asks mutex next) = asks_now mutex next o
  calls_now _ o (moving.gives from mutex) = gives_now from mutex o
  calls_now _ o moving.ends = ends_now o

pub calls_next : (program : List (List Slot)) (w : World) (h number : ℕ) (a : IsAtCall program w h number) → IsNext program w h a.hart Calls
unfolding row
calls_next program w h number a =
    record { here = a.here; runs = ap is_running a.runs; is = effect_is program w h a.hart a.here a.runs Ecall a.calls }

-- what it fetches
fetched_by : (o : Option Slot) (instr : Instr) → instr_of o ≡ Some instr → o ≡ Some (Row instr)
fetched_by None instr e = absurd (none_some instr e)
fetched_by (Some (NoRow word)) instr e = absurd (none_some instr e)
fetched_by (Some (Row i)) instr e = ap (λ (j : Instr). Some (Row j)) (same_there (Some i) i instr refl e)

fetched_is : (program : List (List Slot)) (h pc : ℕ) (instr : Instr) → instr_at program h pc ≡ Some instr → fetched program h pc ≡ Some (Row instr)
fetched_is program h pc instr e = fetched_by (fetched program h pc) instr e

-- ---- It leaves words as they are, and takes no locks in recovery

module _ (program : List (List Slot)) (w : World) (h number : ℕ) (a : IsAtCall program w h number) where
  -- the hart takes none of its record's locks then
  abbrev IsPast : World → Type 0
  IsPast v = (later : Hart) → slice_get v.harts h ≡ Some later → is_taking later.phase ≡ false

  pub record LeavesWords (v : World) : Type 0 where
    pub words : v.words ≡ w.words
    pub past : IsPast v

  running : is_taking a.hart.phase ≡ false
  running = ap is_taking a.runs

  past_as : (v : World) (new : Hart) → slice_get v.harts h ≡ Some new → is_taking new.phase ≡ false → IsPast v
  past_as v new at none later there = ap (λ (x : Hart). is_taking x.phase) (same_there (slice_get v.harts h) later new there at) ∙ none

  as_it_is : LeavesWords w
  as_it_is = record { words = refl; past = past_as w a.hart a.here running }

  with_other : (v : World) (new : Hart) → v.words ≡ w.words → v.harts ≡ w.harts → is_taking new.phase ≡ false → LeavesWords (with_hart v h new)
  with_other v new words harts none = record {
    words = words;
    past = past_as (with_hart v h new) new (get-set_same v.harts h new a.hart (ap (λ (hs : List Hart). slice_get hs h) harts ∙ a.here)) none;
  }

  acquires : (lock : ℕ) (o : Option (Option ℕ)) → LeavesWords (acquired w h a.hart lock o).0
  acquires lock None = as_it_is
  acquires lock (Some None) = with_other (with_holder w lock (Some h)) (gone_on a.hart) refl refl running
  acquires lock (Some (Some holder)) = as_it_is

  gives_by : (lock : ℕ) (own : Bool) →
      LeavesWords (if own then moved (with_holder w lock None) h (gone_on a.hart) else stuck w (NotHeld lock)).0
  gives_by lock true = with_other (with_holder w lock None) (gone_on a.hart) refl refl running
  gives_by lock false = as_it_is

  releases : (lock : ℕ) (o : Option (Option ℕ)) → LeavesWords (released w h a.hart lock o).0
  releases lock None = as_it_is
  releases lock (Some holder) = gives_by lock (is_held_by h holder)

  finishes : (o : Option ℕ) → LeavesWords (ended w h a.hart o).0
  finishes None = with_other w (record (gone_on a.hart) { phase = Ended }) refl refl refl
  finishes (Some lock) = as_it_is

  by_number : (one two three : Bool) (asked lock : ℕ) → LeavesWords (
      if one then acquired w h a.hart lock (slice_get w.holders lock)
      else if two then released w h a.hart lock (slice_get w.holders lock)
      else if three then ended w h a.hart (least_held w.holders h)
      else stuck w (NoCall asked)).0
  by_number true two three asked lock = acquires lock (slice_get w.holders lock)
  by_number false true three asked lock = releases lock (slice_get w.holders lock)
  by_number false false true asked lock = finishes (least_held w.holders h)
  by_number false false false asked lock = as_it_is

  abbrev called_now : Outcome
  called_now = called w h a.hart (read a.hart.registers 17) (read a.hart.registers 10)

  calls_leave : LeavesWords called_now.0
  calls_leave =
      by_number (read a.hart.registers 17 == 1) (read a.hart.registers 17 == 2) (read a.hart.registers 17 == 3) (read a.hart.registers 17)
      (read a.hart.registers 10)

  done_by : (v : World) (later : Hart) (over : Bool) → slice_get v.harts h ≡ Some later → LeavesWords v →
      LeavesWords (if over then with_hart v h (record later { phase = Done }) else v)
  done_by v later false at leaves = leaves
  done_by v later true at leaves = record {
    words = leaves.words;
    past = past_as (with_hart v h (record later { phase = Done })) (record later { phase = Done })
        (get-set_same v.harts h (record later { phase = Done }) later at) refl;
  }

  done_or_on : (v : World) (o : Option Hart) → slice_get v.harts h ≡ o → LeavesWords v → LeavesWords (done_if_over w h o v)
  done_or_on v None at leaves = leaves
  done_or_on v (Some later) at leaves = done_by v later (over_after w v h) at leaves

  executes : hart_step program w h a.hart ≡ called_now
  unfolding row
  executes = ap (λ (o : Option Slot). executed w h a.hart o) (fetched_is program h a.hart.pc Ecall a.calls)

  pub call_leaves : LeavesWords (after_event program w (Step h))
  call_leaves =
      subst (λ (o : Outcome). LeavesWords o.0)
      (sym (by_phase program w h a.hart a.here Run a.runs ∙ ap (λ (o : Outcome). (done_if_over w h (slice_get o.0.harts h) o.0, o.1)) executes))
      (done_or_on called_now.0 (slice_get called_now.0.harts h) refl calls_leave)
