-- Worked rows: a thread that has its end alone, and assignments of a local in the frame.
use Rattle.std.proofs.Common.{◌≡◌, ℕ, ◌+◌, ◌*◌, List, [], ◌∷◌, replicate, refl, arith, Bool, true, false, Option, Some, None}
use Rattle.std.specs.Prelude.{slice_get, slice_set, pos}
use Rattle.c_tree.specs.Exprs.{LockName}
use Rattle.expr_code.specs.declared.home.Home.TheVariants.{InFrame}
use Rattle.log_schemes.specs.declared.log.Log.TheVariants.{V1}
use Rattle.ido_base.specs.declared.place.Place.{Place}
use Rattle.machine_events.specs.declared.event.Event.TheVariants.{Step}
use Rattle.rv64_isa.specs.declared.instr.Instr.TheVariants.{OpImmediate, Ecall}
use Rattle.rv64_isa.specs.declared.instr.ImmediateOperation.TheVariants.{Addi}
use Rattle.rv64_isa.specs.declared.object.Slot.{Slot}
use Rattle.rv64_isa.specs.declared.object.Slot.TheVariants.{Row}
use Rattle.machine_model.specs.declared.phase.Phase.{Phase}
use Rattle.machine_model.specs.declared.phase.Phase.TheVariants.{Run, Ended}
use Rattle.rv64_isa.specs.Arithmetic.{result_of}
use Rattle.rv64_isa.specs.Rows.{Cleans, Stores, row}
use Rattle.machine_model.specs.Machine.{Hart, World, happens, after_event, after_events}
use Rattle.machine_model.specs.Schedule.{passes_mark}
use Rattle.flow_graph.specs.Nodes.{End, Node}
use Rattle.flow_graph.specs.Actions as a
use Rattle.code_runs.specs.ComputingRuns.{config}
use Rattle.code_runs.specs.CodeTraces.{MarkedEnvironment, Mark}
use Rattle.hart_runs.specs.HartsOnRuns.{environment_of}
use Rattle.hart_runs.specs.Laws.{EnvironmentsAgree, EnvironmentsMeet, program_at}
use Rattle.thread_code.specs.Plans.{Plan, Thread}
use Rattle.thread_code.specs.RegistersAtNodes.{LogView}
use Rattle.thread_code.specs.NodeCodeEffects.{Places}
use Rattle.thread_runs.specs.CodeFragments.{Computes, IsAtMark, effects_set, stage_after, on_machine, view_set}

abbrev code : List Slot
code = Row (OpImmediate Addi 17 0 3) ∷ Row Ecall ∷ []

abbrev program : List (List Slot)
program = code ∷ []

-- the mark is the first instruction
abbrev marks : List ℕ
marks = 0x10000 ∷ []

abbrev registers : (seventeen : ℕ) → List ℕ
registers seventeen = slice_set (replicate 32 0) 17 seventeen

abbrev w : World
w = record { log = V1; words = []; harts = record { registers = registers 0; pc = 0x10000; phase = Run; queue = [] } ∷ []; holders = []; recovering = false }

abbrev no_loads : ℕ → ℕ → Bool
no_loads address bytes = false

abbrev s : MarkedEnvironment
s = environment_of program marks no_loads w 0

abbrev seen : a.Seen
seen = record { locals = []; pending = None; variables = [] }

abbrev view : LogView
view = record { side = 0; frame = λ address. 0 }

abbrev t : Thread
t = record { number = 0; part = record { first = 0; end = 1; locals = 0 }; kinds = []; locals = [] }

abbrev c : Places
c = record {
  program = program_at program 0 marks [];
  entry = λ node. 0x10000 + 8 * node;
  core = λ node. 0x10000 + 8 * node;
  words = λ node. 2;
  call = λ node. 0x10000 + 8 * node + 4;
  after = λ node. 0;
  live = λ node. [];
  kept = λ node. [];
  store = λ node. 0;
  cleans = λ node. false;
}

module _ (place : Place) (agree : EnvironmentsAgree) (meet : EnvironmentsMeet) where
  abbrev end : Node
  end = record { place = place; action = End; uses = []; assigns = None; reads = []; writes = None }

  abbrev p : Plan
  p = record {
    log = V1;
    flat = record { mutexes = []; variables = []; threads = [] };
    graph = record { nodes = end ∷ []; threads = record { first = 0; end = 1; locals = 0 } ∷ [] };
    boundaries = record { before = false ∷ []; after_lock = false ∷ [] };
    held = [];
    live = [];
    colours = [];
  }

  -- outside sections the thread goes on to the store of a local that stands in the frame, and its log is as it was
  abbrev framed : Thread
  framed = record t { locals = InFrame 0x2000_0200 ∷ [] }

  abbrev with_local : (number : ℕ) → a.Seen
  with_local number = record seen { locals = pos number ∷ [] }

  outside : stage_after p framed c 0 (with_local 3) view (registers 0) (a.Sets 0 (pos 7) 1) ≡
      record { exit = Computes 0 0 (pos 7); node = 1; seen = with_local 7; view = view }
  outside = refl

  -- in a section the mark stores the number, of which x29 has the form, and the word has it then, but no other word
  inside : (name : LockName) → effects_set p framed c (InFrame 0x2000_0200) (name ∷ []) (slice_set (replicate 32 0) 29 7) ≡
      Stores 0x2000_0200 8 7 ∷ Cleans 0x2000_0200 ∷ []
  inside name = refl

  word : (name : LockName) → (view_set p framed c (InFrame 0x2000_0200) (name ∷ []) (slice_set (replicate 32 0) 29 7) view).frame 0x2000_0200 ≡ 7
  word name = refl

  other : (name : LockName) → (view_set p framed c (InFrame 0x2000_0200) (name ∷ []) (slice_set (replicate 32 0) 29 7) view).frame 0x2000_0208 ≡ 0
  other name = refl

  -- before its first step the thread is at the mark of its end
  at_mark : IsAtMark p t c (on_machine program w 0 s) a.Ends (stage_after p t c 0 seen view (registers 0) a.Ends) 0 []
  unfolding row result_of
  at_mark = record {
    meets = meet program marks [] no_loads w 0;
    agrees = agree program marks no_loads w 0;
    apart = tt;
    own = record { from_first = omega arith; below_end = omega arith };
    of_graph = record { own = record { from_first = omega arith; below_end = omega arith }; is = end; at = refl; ends = refl };
    registers = registers 3;
    on = record {
      hart = record { registers = registers 0; pc = 0x10000; phase = Run; queue = [] };
      here = refl;
      runs = refl;
      walks = (
        config (registers 3) 0x10004,
        Mark ∷ [],
        [],
        record { instr = OpImmediate Addi 17 0 3; stands = refl; does = refl; sees = refl },
        (refl, refl),
        refl,
      );
      may = tt;
    };
    has = refl;
    mark = refl;
    made = λ effect is. tt;
  }

-- the hart's first step passes the mark, its second one no mark, and then it has ended
first : passes_mark (marks ∷ []) program w 0 ≡ true
unfolding happens row
first = refl

second : passes_mark (marks ∷ []) program (after_event program w (Step 0)) 0 ≡ false
unfolding happens row result_of
second = refl

abbrev phase_of : Option Hart → Option Phase
phase_of None = None
phase_of (Some hart) = Some hart.phase

ended : phase_of (slice_get (after_events program w (Step 0 ∷ Step 0 ∷ [])).harts 0) ≡ Some Ended
unfolding happens row result_of
ended = refl
