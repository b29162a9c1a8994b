-- Threads at their nodes' code, and what they see of variables.
use Rattle.std.proofs.Common.{◌≡◌, ℕ, List, refl, ap, sym, subst, ◌∙◌, ℤ}
use Rattle.std.specs.Prelude.{slice_get}
use Rattle.rv64_isa.specs.Rows.{read}
use Rattle.memory_layout.specs.Roles.{pending_value}
use Rattle.machine_model.specs.Machine.{Hart}
use Rattle.flow_graph.specs.Nodes.{Action, Eval, Store, Test, Lock, Unlock, End}
use Rattle.flow_graph.specs.Actions.{Seen}
use Rattle.code_runs.specs.ComputingRuns.{config}
use Rattle.hart_runs.proofs.Public.{same_there, others_leave}
use Rattle.thread_code.specs.Plans.{Plan, Thread}
use Rattle.thread_code.specs.RegistersAtNodes.{IsPendingIn, Enters, LogView, with_word}
use Rattle.thread_code.proofs.Public.{ready_whatever}
use Rattle.thread_code.specs.NodeCodeEffects.{Places, Asking}
use Rattle.thread_runs.specs.CodeFragments as ways
use Rattle.thread_runs.specs.CodeFragments.{ExitPoint, Has, IsAssignmentOf, Stage}
use Rattle.thread_runs.proofs.AssignedLocals.{may_assign_again}
use Rattle.thread_runs.proofs.RunObservations.{goes_with}
use Rattle.thread_runs.specs.Laws.{OthersKeepCores, StaysAreAtCore, ThreadsStart, sees, stage_sees, FragmentsSeeAll, CoresSeeAll}

pub others_keep_cores : OthersKeepCores
others_keep_cores p t c program w h node seen view owed registers event sound other core = record {
  own = core.own;
  at = record { hart = core.at.hart; here = (others_leave program w h event sound other).0 ∙ core.at.here; runs = core.at.runs; is = core.at.is };
  ready = core.ready;
}

pub stays_are_at_core : StaysAreAtCore
stays_are_at_core p t c program w h s e stage steps effects at stays node seen view owed registers core =
    let d = stays.drains in
    let same : core.at.hart ≡ at.on.hart = same_there (slice_get w.harts h) core.at.hart at.on.hart core.at.here at.on.here in
    record {
      own = core.own;
      at = record {
        hart = d.on.hart;
        here = d.on.here;
        runs = d.on.runs;
        is = ap (λ (x : Hart). config x.registers x.pc) d.same ∙ (ap (λ (x : Hart). config x.registers x.pc) (sym same) ∙ core.at.is);
      };
      ready = core.ready;
    }

pub threads_start : ThreadsStart
threads_start p t program own code w h s seen view registers meets agrees of at enters = record {
  meets = meets;
  agrees = agrees;
  apart = tt;
  own = of;
  of_graph = tt;
  registers = registers;
  on = record {
    hart = at.hart;
    here = at.here;
    runs = at.runs;
    walks = (at.is ∙ ap (λ (x : ℕ). config registers x) (sym code.begins), refl);
    may = tt;
  };
  has = enters;
}

-- ---- Variables

pending_seen : (p : Plan) (action : Action) (seen : Seen) (variables : List (List ℤ)) (x : List ℕ) → IsPendingIn p action seen x →
    IsPendingIn p action (sees variables seen) x
pending_seen p (Eval target value next) seen variables x h = tt
pending_seen p (Store variable kind next) seen variables x h = h
pending_seen p (Test condition holds fails) seen variables x h = tt
pending_seen p (Lock lock next) seen variables x h = tt
pending_seen p (Unlock lock next) seen variables x h = tt
pending_seen p End seen variables x h = tt

enters_seen : (p : Plan) (t : Thread) (node : ℕ) (seen : Seen) (view : LogView) (x : List ℕ) (variables : List (List ℤ)) → Enters p t node seen view x →
    Enters p t node (sees variables seen) view x
enters_seen p t node seen view x variables h = record {
  at_side = h.at_side;
  count = h.count;
  locals = h.locals;
  pending = λ is found. pending_seen p is.action seen variables x (h.pending is found);
}

asking_seen : (p : Plan) (t : Thread) (c : Places) (number mutex next : ℕ) (seen : Seen) (view : LogView) (x : List ℕ) (variables : List (List ℤ)) →
    Asking p t c number mutex next seen view x → Asking p t c number mutex next (sees variables seen) view x
asking_seen p t c number mutex next seen view x variables h =
    record { call = h.call; lock = h.lock; enters = enters_seen p t next seen view x variables h.enters }

has_seen : (p : Plan) (t : Thread) (c : Places) (exit : ExitPoint) (stage : Stage) (x : List ℕ) (variables : List (List ℤ)) →
    Has p t c exit stage x → Has p t c exit (stage_sees variables stage) x
has_seen p t c ways.Arrives stage x variables h = enters_seen p t stage.node stage.seen stage.view x variables h
has_seen p t c (ways.Keeps owed) stage x variables h = ready_whatever p t stage.node stage.seen variables stage.view owed x h
has_seen p t c (ways.Computes from local number) stage x variables h =
    may_assign_again p t from local number stage.seen (sees variables stage.seen) stage.view x refl (λ other differs. refl) h
has_seen p t c (ways.Asks mutex next) stage x variables h = asking_seen p t c _ mutex next stage.seen stage.view x variables h
has_seen p t c (ways.Took from) stage x variables h = enters_seen p t stage.node stage.seen stage.view x variables h
has_seen p t c (ways.Gives from mutex) stage x variables h = asking_seen p t c _ mutex stage.node stage.seen stage.view x variables h
has_seen p t c ways.Ends stage x variables h = h

assignment_seen : (p : Plan) (t : Thread) (c : Places) (from local : ℕ) (number : ℤ) (node : ℕ) (seen : Seen) (variables : List (List ℤ)) →
    IsAssignmentOf p t c from local number node seen → IsAssignmentOf p t c from local number node (sees variables seen)
assignment_seen p t c from local number node seen variables h = record {
  own = h.own;
  assigns = h.assigns;
  goes = h.goes;
  plain = h.plain;
  word = h.word;
  home = h.home;
  stores = λ m meets at is may.
      let there = h.stores (record m { seen = seen }) meets at refl
      (may_assign_again p t from local number (sees variables seen) seen m.view m.registers refl (λ other differs. refl) may) in
      let then : LogView = with_word m.view h.word (read m.registers pending_value) in
      record {
        storing = record { instr = there.storing.instr; stands = there.storing.stands; does = there.storing.does };
        passes = goes_with (λ x enters. subst (λ (z : Seen). Enters p t node z then x) (sym is) (enters_seen p t node seen then x variables enters))
            there.passes;
      };
}

graph_seen : (p : Plan) (t : Thread) (c : Places) (exit : ExitPoint) (node : ℕ) (seen : Seen) (variables : List (List ℤ)) →
    ways.IsInGraph p t c exit node seen → ways.IsInGraph p t c exit node (sees variables seen)
graph_seen p t c ways.Arrives node seen variables h = h
graph_seen p t c (ways.Keeps owed) node seen variables h = h
graph_seen p t c (ways.Computes from local number) node seen variables h = assignment_seen p t c from local number node seen variables h
graph_seen p t c (ways.Asks mutex next) node seen variables h = h
graph_seen p t c (ways.Took from) node seen variables h = h
graph_seen p t c (ways.Gives from mutex) node seen variables h = h
graph_seen p t c ways.Ends node seen variables h = h

pub fragments_see_all : FragmentsSeeAll
fragments_see_all p t c program w h s stage steps effects variables fragment = record {
  meets = fragment.meets;
  agrees = fragment.agrees;
  apart = fragment.apart;
  own = fragment.own;
  of_graph = graph_seen p t c stage.exit stage.node stage.seen variables fragment.of_graph;
  registers = fragment.registers;
  on = fragment.on;
  has = has_seen p t c stage.exit stage fragment.registers variables fragment.has;
}

pub cores_see_all : CoresSeeAll
cores_see_all p t c w h node seen view owed registers variables core =
    record { own = core.own; at = core.at; ready = ready_whatever p t node seen variables view owed registers core.ready }
