use Rattle.std.proofs.Common.{arith, subst, sym, ap, map, List}
use Rattle.c_tree.specs.Programs as p
use Rattle.c_tree.specs.Programs.{variable_of}
use Rattle.c_tree.specs.WellFormed.{shape_of, initial_numbers}
use Rattle.memory_layout.specs.Variables.{AreCounted}
use Rattle.rv64_codegen.specs.Plans.{plan_of}
use Rattle.rv64_codegen.proofs.CleanedStores.{all_clean}
use Rattle.rv64_codegen.proofs.JoinedPieces.{are_emitted, few_words}
use Rattle.rv64_codegen.proofs.ProgramCode.{are_code}
use Rattle.rv64_codegen.proofs.PlannedThreads.{all_counted, few_threads}
use Rattle.rv64_codegen.proofs.emission.emit.Goals as goal

pub initial_bytes-requires : goal.initial_bytes-requires
initial_bytes-requires c =
    subst (λ (vs : List p.Variable). AreCounted (map shape_of vs) (map initial_numbers vs)) (sym (ap (map variable_of) c.deref.ensures.value))
    (all_counted (plan_of c.args.plan.now) c.requires.plan)

pub returns-clause-code : goal.returns-clause-code
returns-clause-code c =
    are_code (plan_of c.args.plan.now) _ c.requires.plan
    (are_emitted (plan_of c.args.plan.now) c.requires.plan c.in_ok-threads.threads.items c.in_ok-threads.ensures)

pub returns-clause-cleans : goal.returns-clause-cleans
returns-clause-cleans c =
    all_clean (plan_of c.args.plan.now) c.requires.plan _
    (are_emitted (plan_of c.args.plan.now) c.requires.plan c.in_ok-threads.threads.items c.in_ok-threads.ensures)

pub returns-clause-threads : goal.returns-clause-threads
returns-clause-threads c = omega (arith, few_threads (plan_of c.args.plan.now) c.requires.plan, c.in_ok-threads.ensures.long)

pub returns-clause-few : goal.returns-clause-few
returns-clause-few c = λ k d below. few_words (plan_of c.args.plan.now) c.requires.plan c.in_ok-threads.threads.items _ k d c.in_ok-threads.ensures below
