-- Threads that give a mutex back, and those that end.
use Rattle.std.proofs.Common.{◌≡◌, ℕ, List, length, refl, ap, sym, ◌∙◌, subst, false, Some, None, ◌==◌}
use Rattle.std.specs.Prelude.{slice_get, slice_set}
use Rattle.std.specs.List.{list_any}
use Rattle.machine_events.specs.declared.event.Event.TheVariants.{Step}
use Rattle.rv64_isa.specs.Rows.{Effect, next, read}
use Rattle.machine_model.specs.Machine.{Hart, World, with_holder, moved, gone_on, happens, after_event}
use Rattle.node_code.specs.Pieces.{gives, ends}
use Rattle.flow_graph.specs.Nodes.{Action, Unlock, End}
use Rattle.flow_graph.specs.Actions.{Seen}
use Rattle.code_runs.specs.ComputingRuns.{LocalConfig, config}
use Rattle.code_runs.specs.CodeTraces.{Program}
use Rattle.hart_runs.specs.HartsOnRuns.{IsRunningAt}
use Rattle.hart_runs.specs.Calls.{IsAtCall, lock_asked, phase_after}
use Rattle.hart_runs.specs.Laws as r
use Rattle.hart_runs.proofs.Public as k
use Rattle.hart_runs.proofs.Public.{moved_harts_begin}
use Rattle.thread_code.specs.Plans.{Plan, Thread}
use Rattle.thread_code.specs.RegistersAtNodes.{LogView}
use Rattle.thread_code.specs.NodeCodeEffects.{Places}
use Rattle.thread_code.specs.Programs.{IsThreadCode, IsCalling}
use Rattle.thread_runs.specs.CodeFragments as ways
use Rattle.thread_runs.specs.CodeFragments.{Running, IsUnlockOf, IsOnFragment, IsPlaced}
use Rattle.thread_runs.specs.Laws.{GivesMutex, UnlocksGive, EndsEnd}
use Rattle.thread_runs.proofs.RunObservations.{mark_of_machine, none_marked}
use Rattle.thread_runs.proofs.ThreadsAtCalls.{agrees_on, words_stay, count_stays, log_stays, and_none, pc_is, registers_are, call_there, boundary_after_is}

module _ {p : Plan} {t : Thread} {own : Program} (code : IsThreadCode p t own) {running : Running} {from mutex next : ℕ} {seen : Seen} {view : LogView}
    {effects : List Effect} (counts : r.CallsCount) (placed : IsPlaced p t code.places running.world.log (length running.world.harts))
    (fragment : IsOnFragment p t code.places running (record { exit = ways.Gives from mutex; node = next; seen = seen; view = view }) 0 effects)
    (held : slice_get running.world.holders mutex ≡ Some (Some running.hart)) where
  open running use {program, world as w, hart as h, environment as s}

  abbrev c : Places
  c = code.places

  abbrev unlock : IsUnlockOf p t from seen.locals mutex next
  unlock = fragment.of_graph

  abbrev hart : Hart
  hart = fragment.on.hart

  calling : IsCalling p t c (Unlock unlock.lock next) from
  calling = subst (λ (a : Action). IsCalling p t c a from) unlock.unlocks (code.code from unlock.is unlock.own unlock.at).calls

  abbrev at_call : IsAtCall program w h gives
  at_call = call_there fragment from refl calling.0 gives fragment.has.call

  lock_is : lock_asked hart ≡ mutex
  lock_is = ap (λ (x : List ℕ). read x 10) (registers_are fragment from refl calling.0) ∙ fragment.has.lock

  pc : hart.pc ≡ c.call from
  pc = pc_is fragment from refl calling.0

  abbrev after : Hart
  after = record (gone_on hart) { phase = phase_after w h (slice_set w.holders mutex None) }

  does : happens program w (Step h) ≡ moved (with_holder w mutex None) h after
  does = subst (λ (l : ℕ). happens program w (Step h) ≡
      moved (with_holder w l None) h (record (gone_on hart) { phase = phase_after w h (slice_set w.holders l None) })) lock_is
      (k.releases_give program w h at_call (ap (λ (l : ℕ). slice_get w.holders l) lock_is ∙ held))

  abbrev v : World
  v = after_event program w (Step h)

  plain : list_any (λ mark. mark == hart.pc) s.marks ≡ false
  plain =
      subst (λ (x : ℕ). list_any (λ mark. mark == x) s.marks ≡ false) (sym pc)
      (subst (λ (ms : List ℕ). list_any (λ mark. mark == c.call from) ms ≡ false) (sym fragment.meets.marks)
      (none_marked c.program.nodes (c.call from) calling.3))

  pub gives_it : GivesMutex p t c running from mutex (record { exit = ways.Gives from mutex; node = next; seen = seen; view = view }) hart fragment.registers
  gives_it = record {
    does = does;
    agrees = agrees_on program w v h s (words_stay program w (with_holder w mutex None) h after does refl)
        (count_stays program w (with_holder w mutex None) h after does refl) (log_stays program w (with_holder w mutex None) h after does refl) fragment.agrees;
    at = λ runs. subst (λ (m : LocalConfig). IsRunningAt v h m)
        (boundary_after_is fragment from refl calling.0 placed.room ∙ ap (λ (x : ℕ). config fragment.registers x) (sym calling.2))
        (moved_harts_begin program w (with_holder w mutex None) h hart after fragment.on.here does runs);
    enters = fragment.has.enters;
    no_mark = λ marks same. (counts program w h gives at_call).0 marks ∙ and_none _ _ (mark_of_machine marks h s hart.pc false same plain);
    counts = ((counts program w h gives at_call).1, (counts program w h gives at_call).2);
  }

pub unlocks_give : r.CallsCount → UnlocksGive
unlocks_give counts p t program own code w h s from mutex next seen view effects placed fragment held =
    gives_it code counts placed fragment held

-- ---- Ends

pub ends_end : r.CallsCount → EndsEnd
ends_end counts p t program own code w h s node seen view effects fragment none =
    let c : Places = code.places in
    let hart : Hart = fragment.on.hart in
    let of_end = fragment.of_graph in
    let calling : IsCalling p t c End node = subst (λ (a : Action). IsCalling p t c a node) of_end.ends (code.code node of_end.is of_end.own of_end.at).calls in
    let at_call : IsAtCall program w h ends = call_there fragment node refl calling.0 ends fragment.has in
    let pc : hart.pc ≡ c.call node = pc_is fragment node refl calling.0 in
    let plain : list_any (λ mark. mark == hart.pc) s.marks ≡ false =
    subst (λ (x : ℕ). list_any (λ mark. mark == x) s.marks ≡ false) (sym pc)
    (subst (λ (ms : List ℕ). list_any (λ mark. mark == c.call node) ms ≡ false) (sym fragment.meets.marks)
    (none_marked c.program.nodes (c.call node) calling.1)) in (
      k.ends_end program w h at_call none,
      λ marks same. (counts program w h ends at_call).0 marks ∙ and_none _ _ (mark_of_machine marks h s hart.pc false same plain),
    )
