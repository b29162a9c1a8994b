-- Threads that ask for a mutex.
use Rattle.std.proofs.Common.{◌≡◌, inl, ℕ, ◌+◌, List, [], length, refl, ap, sym, ◌∙◌, subst, true, false, Some, None, ◌==◌}
use Rattle.std.specs.Prelude.{slice_get, ◌&&◌, Contains, pos}
use Rattle.std.specs.List.{list_any}
use Rattle.machine_events.specs.declared.event.Event.TheVariants.{Step}
use Rattle.machine_events.specs.declared.event.Reply.TheVariants.{Waits}
use Rattle.rv64_isa.specs.Rows.{Effect, next, read}
use Rattle.machine_model.specs.Machine.{Hart, World, Outcome, with_holder, moved, gone_on, happens, after_event}
use Rattle.machine_model.specs.Schedule.{has_moved, is_mark, passes_mark}
use Rattle.boundary_code.specs.Boundaries.{Boundary, boundary_effects}
use Rattle.node_code.specs.Pieces.{takes}
use Rattle.flow_graph.specs.Nodes.{Action, Lock, successors}
use Rattle.flow_graph.specs.Actions.{Seen}
use Rattle.code_runs.specs.ComputingRuns.{LocalConfig, config}
use Rattle.code_runs.specs.CodeTraces.{Program, seen_effects}
use Rattle.hart_runs.specs.HartsOnRuns.{Agrees, IsRunningAt, MayGo}
use Rattle.hart_runs.specs.Calls.{IsAtCall, lock_asked}
use Rattle.hart_runs.specs.Laws as r
use Rattle.hart_runs.proofs.Public as k
use Rattle.hart_runs.proofs.Public.{moved_harts_begin}
use Rattle.thread_code.specs.Plans.{Plan, Thread, IsNodeOf}
use Rattle.thread_code.specs.RegistersAtNodes.{IsFrameAnswered, LogView}
use Rattle.thread_code.specs.NodeCodeEffects.{Places, keeping, opens_section, view_after}
use Rattle.thread_code.specs.Programs.{IsThreadCode, IsCalling, mark_of}
use Rattle.thread_runs.specs.CodeFragments as ways
use Rattle.thread_runs.specs.CodeFragments.{ReadsOwn, Running, IsLockOf, IsOnFragment, IsPlaced}
use Rattle.thread_runs.specs.Laws.{TakesMutex, LocksTake, LocksWait}
use Rattle.thread_runs.proofs.Boundaries.{boundary_may, boundary_apart}
use Rattle.thread_runs.proofs.FragmentStarts.{on_fragment, contains_first}
use Rattle.thread_runs.proofs.RunObservations.{mark_of_machine}
use Rattle.thread_runs.proofs.Graph.{mark_there}
use Rattle.thread_runs.proofs.ThreadsAtCalls.{agrees_on, words_stay, count_stays, log_stays, has_moved_by}
use Rattle.thread_runs.proofs.ThreadsAtCalls.{and_right, pc_is, registers_are, call_there, boundary_after_is}

module _ {p : Plan} {t : Thread} {own : Program} (code : IsThreadCode p t own) {running : Running} {node mutex next : ℕ} {seen : Seen} {view : LogView}
    {effects : List Effect} (counts : r.CallsCount)
    (fragment : IsOnFragment p t code.places running (record { exit = ways.Asks mutex next; node = node; seen = seen; view = view }) 0 effects) where
  open running use {program, world as w, hart as h, environment as s}

  abbrev c : Places
  c = code.places

  abbrev lock : IsLockOf p t node seen.locals mutex next
  lock = fragment.of_graph

  abbrev hart : Hart
  hart = fragment.on.hart

  calling : IsCalling p t c (Lock lock.lock next) node
  calling = subst (λ (a : Action). IsCalling p t c a node) lock.locks (code.code node lock.is lock.own lock.at).calls

  abbrev at_call : IsAtCall program w h takes
  at_call = call_there fragment node refl calling.0 takes fragment.has.call

  lock_is : lock_asked hart ≡ mutex
  lock_is = ap (λ (x : List ℕ). read x 10) (registers_are fragment node refl calling.0) ∙ fragment.has.lock

  pc : hart.pc ≡ c.call node
  pc = pc_is fragment node refl calling.0

  pub waits : (holder : ℕ) → slice_get w.holders mutex ≡ Some (Some holder) → (happens program w (Step h) ≡ (w, Waits mutex holder)) ×
      ((marks : List (List ℕ)) → passes_mark marks program w h ≡ false)
  waits holder held =
      let does : happens program w (Step h) ≡ (w, Waits mutex holder) =
      subst (λ (l : ℕ). happens program w (Step h) ≡ (w, Waits l holder)) lock_is
      (k.acquires_wait program w h holder at_call (ap (λ (l : ℕ). slice_get w.holders l) lock_is ∙ held)) in
      (does, λ marks. (counts program w h takes at_call).0 marks ∙ ap (λ (o : Outcome). has_moved o.1 && is_mark marks h hart.pc) does)

  module _ (placed : IsPlaced p t c w.log (length w.harts)) (reads : ReadsOwn w.log t.number s)
      (framed : IsFrameAnswered p t view next s.around.loads) (free : slice_get w.holders mutex ≡ Some None) where
    does : happens program w (Step h) ≡ moved (with_holder w mutex (Some h)) h (gone_on hart)
    does = subst (λ (l : ℕ). happens program w (Step h) ≡ moved (with_holder w l (Some h)) h (gone_on hart)) lock_is
        (k.acquires_take program w h at_call (ap (λ (l : ℕ). slice_get w.holders l) lock_is ∙ free))

    abbrev v : World
    v = after_event program w (Step h)

    same_count : length v.harts ≡ length w.harts
    same_count = count_stays program w (with_holder w mutex (Some h)) h (gone_on hart) does refl

    same_log : v.log ≡ w.log
    same_log = log_stays program w (with_holder w mutex (Some h)) h (gone_on hart) does refl

    after : IsRunningAt v h (config fragment.registers (c.call node + 4))
    after = subst (λ (m : LocalConfig). IsRunningAt v h m)
        (boundary_after_is fragment node refl calling.0 placed.room)
        (moved_harts_begin program w (with_holder w mutex (Some h)) h hart (gone_on hart) fragment.on.here does fragment.on.runs)

    agrees_after : Agrees program v h s
    agrees_after =
        agrees_on program w v h s (words_stay program w (with_holder w mutex (Some h)) h (gone_on hart) does refl) same_count same_log fragment.agrees

    own_next : IsNodeOf t next
    own_next = placed.closed node next lock.is lock.own lock.at (subst (λ (a : Action). Contains (successors a) next) (sym lock.locks) (contains_first next []))

    marked_there : list_any (λ mark. mark == hart.pc) s.marks ≡ true
    marked_there =
        subst (λ (x : ℕ). list_any (λ mark. mark == x) s.marks ≡ true) (sym pc)
        (subst (λ (a : Action). list_any (λ mark. mark == mark_of c a node) s.marks ≡ true) lock.locks
        (mark_there p t own code s fragment.meets node lock.is lock.own lock.at))

    abbrev b : Boundary
    b = keeping p t c (opens_section p t c node) seen.locals next

    pub takes_it : TakesMutex p t c running mutex next (record { exit = ways.Asks mutex next; node = node; seen = seen; view = view }) hart
        fragment.registers
    takes_it = record {
      does = does;
      on = on_fragment p t c program v h s fragment.meets agrees_after
          (record { exit = ways.Took node; node = next; seen = seen; view = view_after b view }) (c.words node) (c.call node + 4)
          fragment.registers (boundary_effects b view.side (c.after node) fragment.registers) own_next (mutex, lock)
          (boundary_apart w.log (length w.harts) s b view.side (c.after node) fragment.registers placed.log reads placed.number
          (placed.locks seen.locals next own_next)
          (λ r q. placed.slots next r own_next (inl q)))
          (subst (λ (n : ℕ). MayGo v.log n (seen_effects (boundary_effects b view.side (c.after node) fragment.registers)))
          (sym same_count)
          (boundary_may v.log (length w.harts) b view.side (c.after node) fragment.registers (placed.log ∙ sym same_log) placed.number
          (placed.locks seen.locals next own_next)
          (λ r q. placed.slots next r own_next (inl q))))
          after
          (calling.2 (record { environment = s; node = node; seen = seen; view = view; owed = pos 0; registers = fragment.registers }) fragment.meets refl
          fragment.has.enters framed);
      mark = λ marks same. (counts program w h takes at_call).0 marks
          ∙ (and_right _ _ (has_moved_by program w (with_holder w mutex (Some h)) h (gone_on hart) does)
          ∙ mark_of_machine marks h s hart.pc true same marked_there);
      counts = ((counts program w h takes at_call).1, (counts program w h takes at_call).2);
    }

pub locks_take : r.CallsCount → LocksTake
locks_take counts p t program own code w h s node mutex next seen view effects placed reads fragment framed free =
    takes_it code counts fragment placed reads framed free

pub locks_wait : r.CallsCount → LocksWait
locks_wait counts p t program own code w h s node mutex next seen view effects holder fragment held =
    waits code counts fragment holder held
