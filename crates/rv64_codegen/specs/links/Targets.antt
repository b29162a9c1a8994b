-- Code of evaluations, before it is an item of a thread's code.
use Rattle.std.specs.Prelude.{◌≡◌, ℕ, ◌+◌, ◌*◌, ◌≤◌, List, length, not, Bool, if◌then◌else◌}
use Rattle.c_tree.specs.Exprs as e
use Rattle.c_tree.specs.Prices.{nodes_of}
use Rattle.c_tree.specs.Values.{value}
use Rattle.rv64_isa.specs.declared.instr.Instr.{Instr}
use Rattle.operator_code.specs.declared.branches.Test.{Test}
use Rattle.operator_code.specs.ComputingCode.{passes}
use Rattle.code_runs.specs.ComputingRuns.{Environment, LocalConfig}
use Rattle.expr_code.specs.EvaluationCode.{Homes, Source, HasCodeThere, EvaluationEnds, impure_among}
use Rattle.rv64_codegen.specs.Evaluations.{MayReach, MayEvaluate, may_write, Has, target_nodes}

-- the code does what is assigned
pub record IsTargetCode (h : Homes) (target : e.Lvalue) (t : e.Expr) (code : List Instr) : Type 0 where
  pub ends : (s : Source) (r : Environment) (m : LocalConfig) → HasCodeThere r code m → MayReach h s r m.registers target → MayEvaluate h s r m.registers t →
      EvaluationEnds r code (may_write h target) (λ y. Has h s y target (value s.locals s.numbers t)) m

pub record IsSelected (h : Homes) (target : e.Lvalue) (t : e.Expr) (code : List Instr) : Type 0 where
  pub does : IsTargetCode h target t code
  pub short : length code ≤ 16 * (target_nodes target + nodes_of t) + 16
  pub pure : impure_among code ≡ 0

-- the one test is passed where the other is, or where it isn't
pub record IsTurned (other test : Test) (turned : Bool) : Type 0 where
  pub passed : (x : List ℕ) → passes test x ≡ (if turned then not (passes other x) else passes other x)
