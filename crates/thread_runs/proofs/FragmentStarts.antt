-- Where fragments begin that no mark begins.
use Rattle.std.proofs.Common.{◌≡◌, ◌∙◌, ap, ℕ, zero, suc, ◌-◌, ◌≤◌, List, [], ◌∷◌, length, refl, arith, sym, subst, Some, true, inr}
use Rattle.std.specs.Prelude.{Contains, slice_get, pos}
use Rattle.rv64_isa.specs.declared.object.Slot.{Slot}
use Rattle.rv64_isa.specs.declared.instr.Instr.{Instr}
use Rattle.rv64_isa.specs.Rows.{Effect, Stores, row, read}
use Rattle.machine_model.specs.Machine.{Hart, World}
use Rattle.machine_model.specs.Schedule.{effect_at}
use Rattle.rv64_link.specs.LinkedCode.{IsInstructionAt}
use Rattle.memory_layout.specs.Roles.{pending_value}
use Rattle.boundary_code.specs.Boundaries.{Boundary, boundary_effects}
use Rattle.flow_graph.specs.Nodes.{Action, Node, successors}
use Rattle.flow_graph.specs.Liveness.{NodeAt}
use Rattle.code_runs.specs.ComputingRuns.{LocalConfig, config}
use Rattle.code_runs.specs.CodeTraces.{MarkedEnvironment, Meets, Observation, Does, GoesThrough, Trace, seen_effects}
use Rattle.hart_runs.specs.HartsOnRuns.{Agrees, MayGo, IsRunningAt, IsOnTrace, is_access}
use Rattle.hart_runs.proofs.Public.{effect_is, same_there}
use Rattle.thread_code.specs.Plans.{Plan, Thread, IsNodeOf}
use Rattle.thread_code.specs.RegistersAtNodes.{to_enter, with_word}
use Rattle.thread_code.specs.NodeCodeEffects.{Places, Entrance, BoundaryBefore, keeping_before, view_after, GoesOnAfter}
use Rattle.thread_code.specs.Programs.{IsNodeCode, IsCalling}
use Rattle.thread_runs.specs.CodeFragments.{Stage, Arrives, Keeps, AreEffectsApart, end_of, Has, IsAssignmentOf, IsInGraph, IsOnFragment, StoresNumber}
use Rattle.thread_runs.specs.CodeFragments.{on_machine}
use Rattle.thread_runs.specs.Laws.{IsOnSomeFragment, ArrivalsEnd, ComputesEnd, GoesOnFrom, LocksGoOn, UnlocksGoOn, TookEnd}
use Rattle.thread_runs.proofs.Boundaries.{boundary_may, boundary_apart, word_access}
use Rattle.thread_runs.proofs.RunObservations.{some_steps}

-- a hart at a local config stands on the run that begins there
pub sets_out : (w : World) (h : ℕ) (s : MarkedEnvironment) (steps : ℕ) (seen : List Observation) (m to : LocalConfig) (at : IsRunningAt w h m) →
    Trace s steps m seen to →
    MayGo w.log (length w.harts) seen → IsOnTrace w h s steps seen to
sets_out w h s steps seen m to at walks may = record {
  hart = at.hart;
  here = at.here;
  runs = at.runs;
  walks = subst (λ (x : LocalConfig). Trace s steps x seen to) (sym at.is) walks;
  may = may;
}

module _ (p : Plan) (t : Thread) (c : Places) (program : List (List Slot)) (w : World) (h : ℕ) (s : MarkedEnvironment) (meets : Meets c.program s)
    (agrees : Agrees program w h s) where
  -- where the code goes through a fragment, the hart is in it
  pub on_fragment : (stage : Stage) (most from : ℕ) (registers : List ℕ) (effects : List Effect) → IsNodeOf t stage.node →
      IsInGraph p t c stage.exit stage.node stage.seen →
      AreEffectsApart s effects → MayGo w.log (length w.harts) (seen_effects effects) → IsRunningAt w h (config registers from) →
      GoesThrough s (record { registers = registers; from = from; to = end_of p t c stage.exit stage.node; most = most }) (seen_effects effects)
      (λ (x : List ℕ). Has p t c stage.exit stage x) → IsOnSomeFragment p t c (on_machine program w h s) stage most effects
  on_fragment stage most from registers effects own graph apart may at goes = record {
    steps = goes.steps;
    short = goes.short;
    on = record {
      meets = meets;
      agrees = agrees;
      apart = apart;
      own = own;
      of_graph = graph;
      registers = goes.registers;
      on = sets_out w h s goes.steps (seen_effects effects) (config registers from)
          (config goes.registers (end_of p t c stage.exit stage.node)) at goes.walks may;
      has = goes.are;
    };
  }

-- what a hart does that stands at an instruction of the code
module _ (c : Places) (program : List (List Slot)) (w : World) (h : ℕ) (s : MarkedEnvironment) (meets : Meets c.program s) (agrees : Agrees program w h s) where
  pub does_there : (registers : List ℕ) (pc : ℕ) → IsRunningAt w h (config registers pc) → (instr : Instr) →
      IsInstructionAt c.program.start c.program.code pc instr → (hart : Hart) → slice_get w.harts h ≡ Some hart → (effect : Effect) →
      effect_at program h hart ≡ Some effect → effect ≡ row instr registers pc
  does_there registers pc at instr stands hart here effect is_next =
      let same : hart ≡ at.hart = same_there (slice_get w.harts h) hart at.hart here at.here in
      let there : at.hart.pc ≡ pc = ap (λ (x : LocalConfig). x.pc) at.is in
      let fetched : s.around.fetch at.hart.pc ≡ Some instr =
      subst (λ (x : ℕ). s.around.fetch x ≡ Some instr) (sym there) (meets.fetches pc instr stands) in
      let does : effect_at program h at.hart ≡ Some (row instr at.hart.registers at.hart.pc) =
      effect_is program w h at.hart at.here at.runs instr (agrees.fetches at.hart.pc instr fetched) in
      let next : effect_at program h at.hart ≡ Some effect = subst (λ (x : Hart). effect_at program h x ≡ Some effect) same is_next in
      same_there (effect_at program h at.hart) effect (row instr at.hart.registers at.hart.pc) next does
      ∙ ap (λ (x : LocalConfig). row instr x.registers x.pc) at.is

pub at_end : (w : World) (h : ℕ) (s : MarkedEnvironment) (seen : List Observation) (to : LocalConfig) → IsOnTrace w h s 0 seen to → IsRunningAt w h to
at_end w h s seen to on = record { hart = on.hart; here = on.here; runs = on.runs; is = on.walks.0 }

-- ---- At the entry of a node

pub arrivals_end : ArrivalsEnd
arrivals_end p t program own code w h s node seen view effects placed reads is found fragment =
    let c : Places = code.places in
    let at : IsRunningAt w h (config fragment.registers (c.entry node)) =
    at_end w h s (seen_effects effects) (config fragment.registers (c.entry node)) fragment.on in
    let of_node : IsNodeCode p t c node is = code.code node is fragment.own found in
    let b : Boundary = keeping_before p t c is.action seen.locals node in
    record {
      chosen = λ k answered framed owed owing.
          let m : Entrance = record { environment = s; node = node; seen = seen; view = view; owed = owed; registers = fragment.registers } in
          let before : BoundaryBefore p t c m is.action = of_node.chosen k m refl (record { meets = fragment.meets; own = fragment.own; enters = fragment.has })
          (record { variables = answered; frame = framed }) owing in
          record {
            registers = before.registers;
            ready = before.ready;
            on = on_fragment p t c program w h s fragment.meets fragment.agrees
                (record { exit = Keeps owed; node = node; seen = seen; view = view_after b view }) (c.words node) (c.entry node) fragment.registers
                (boundary_effects b view.side (c.core node) before.registers) fragment.own tt
                (boundary_apart w.log (length w.harts) s b view.side (c.core node) before.registers placed.log reads placed.number
                (placed.locks seen.locals node fragment.own)
                (λ r q. placed.slots node r fragment.own (inr q)))
                (boundary_may w.log (length w.harts) b view.side (c.core node) before.registers placed.log placed.number
                (placed.locks seen.locals node fragment.own)
                (λ r q. placed.slots node r fragment.own (inr q)))
                at before.passes;
          };
      plain = λ k owed. record {
        own = fragment.own;
        at = subst (λ (a : ℕ). IsRunningAt w h (config fragment.registers a)) (of_node.plain k) at;
        ready = to_enter (λ logged. k (placed.recorded node fragment.own logged)) fragment.has;
      };
    }

-- ---- At the store of an assignment

pub computes_end : ComputesEnd
computes_end p t c program w h s from local number node seen view effects placed fragment apart =
    let assignment : IsAssignmentOf p t c from local number node seen = fragment.of_graph in
    let x : List ℕ = fragment.registers in
    let value : ℕ = read x pending_value in
    let word : ℕ = assignment.word in
    let m : Entrance = record { environment = s; node = from; seen = seen; view = view; owed = number; registers = x } in
    let stores : StoresNumber p t c m word node = assignment.stores m fragment.meets refl refl fragment.has in
    let at : IsRunningAt w h (config x (c.store from)) = at_end w h s (seen_effects effects) (config x (c.store from)) fragment.on in
    let access : is_access w.log (length w.harts) word 8 ≡ true =
    word_access w.log (length w.harts) t.number word placed.number (placed.words local word assignment.home) in
    let stage : Stage = record { exit = Arrives; node = node; seen = seen; view = with_word view word value } in
    let on : IsOnSomeFragment p t c (on_machine program w h s) stage (c.words from) (Stores word 8 value ∷ []) =
    on_fragment p t c program w h s fragment.meets fragment.agrees stage (c.words from) (c.store from) x (Stores word 8 value ∷ []) fragment.own tt
    (apart, tt) (access, tt) at stores.passes in
    let some : (k : ℕ) × (on.steps ≡ suc k) =
    some_steps s on.steps (config on.on.on.hart.registers on.on.on.hart.pc) (config on.on.registers (c.entry node)) (Does (Stores word 8 value)) []
    on.on.on.walks in
    let there : IsOnFragment p t c (on_machine program w h s) stage (suc some.0) (Stores word 8 value ∷ []) =
    subst (λ (n : ℕ). IsOnFragment p t c (on_machine program w h s) stage n (Stores word 8 value ∷ [])) some.1 on.on in
    record {
      steps = some.0;
      short = subst (λ (n : ℕ). n ≤ c.words from) some.1 on.short;
      on = there;
      first = λ effect is_next.
          does_there c program w h s fragment.meets fragment.agrees x (c.store from) at stores.storing.instr stores.storing.stands there.on.hart there.on.here
          effect is_next ∙ stores.storing.does;
    }

-- ---- After calls

pub contains_first : (x : ℕ) (xs : List ℕ) → Contains (x ∷ xs) x
contains_first x xs = (zero, omega arith, refl)

module _ (p : Plan) (t : Thread) (from next : ℕ) (is : Node) (own : IsNodeOf t from) (found : NodeAt p.graph from is)
    (follows : Contains (successors is.action) next) where
  goes_on : ((c : Places) → IsCalling p t c is.action from → GoesOnAfter p t c from next) → GoesOnFrom from next p t
  goes_on after program whole code w h s seen view registers placed meets agrees at enters =
      let c : Places = code.places in
      let m : Entrance = record { environment = s; node = from; seen = seen; view = view; owed = pos 0; registers = registers } in
      on_fragment p t c program w h s meets agrees (record { exit = Arrives; node = next; seen = seen; view = view }) (c.words from - 3)
      (c.after from) registers []
      (placed.closed from next is own found follows) tt tt tt at ((after c (code.code from is own found).calls).on m meets refl enters)

pub locks_go_on : LocksGoOn
locks_go_on p t from locals mutex next l =
    goes_on p t from next l.is l.own l.at
    (subst (λ (a : Action). Contains (successors a) next) (sym l.locks) (contains_first next []))
    (λ c calls. (subst (λ (a : Action). IsCalling p t c a from) l.locks calls).1)

pub unlocks_go_on : UnlocksGoOn
unlocks_go_on p t from locals mutex next l =
    goes_on p t from next l.is l.own l.at
    (subst (λ (a : Action). Contains (successors a) next) (sym l.unlocks) (contains_first next []))
    (λ c calls. (subst (λ (a : Action). IsCalling p t c a from) l.unlocks calls).1)

pub took_end : TookEnd
took_end p t program own code w h s from node seen view effects placed fragment =
    locks_go_on p t from seen.locals fragment.of_graph.0 node fragment.of_graph.1 program own code w h s seen view fragment.registers placed
    fragment.meets fragment.agrees
    (at_end w h s (seen_effects effects) (config fragment.registers (code.places.after from)) fragment.on) fragment.has
