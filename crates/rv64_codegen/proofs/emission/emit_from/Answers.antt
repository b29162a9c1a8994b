use Rattle.std.proofs.Common.{refl, arith}
use Rattle.rv64_codegen.specs.declared.thread.ThreadPlan as opened
use Rattle.rv64_codegen.specs.Plans.{plan_of}
use Rattle.rv64_codegen.specs.links.Threads.{IsOpen}
use Rattle.rv64_codegen.proofs.ChosenBoundaries.{read_get}
use Rattle.rv64_codegen.proofs.JoinedPieces.{of_thread}
use Rattle.rv64_codegen.proofs.PlannedThreads.{few_threads, is_open}
use Rattle.rv64_codegen.proofs.emission.emit_from.Goals as goal
use Rattle.rv64_codegen.proofs.emission.emit_from.Goals.{After-index}

pub overflow_cast-thread : goal.overflow_cast-thread
overflow_cast-thread c = omega (arith, few_threads (plan_of c.args.plan.now) c.requires.plan, c.requires.number)

abbrev thread : After-index → opened.ThreadPlan
thread c = record {
  plan = c.args.plan;
  number = c.args.number;
  part = c.index.result.now;
  frame = record { addresses = c.args.addresses; locals = c.args.homes };
  names = c.args.names;
  live = c.args.live;
  later = c.args.later;
}

opens : (c : After-index) → IsOpen (thread c)
opens c =
    is_open (thread c) c.requires.plan c.requires.shallow c.requires.addresses c.requires.later
    (read_get c.args.plan.now.graph.now.threads.items c.args.number c.index.result.now c.requires.number c.index.ensures) c.requires.homes
    c.requires.live c.requires.names

pub thread_items-requires : goal.thread_items-requires
thread_items-requires c = opens (goal.at.thread_items-requires c).After-index

pub returns : goal.returns
returns c =
    of_thread (thread (goal.at.returns c).After-index) c.args.number c.in_ok-items.items.items refl (opens (goal.at.returns c).After-index)
    c.in_ok-items.ensures
