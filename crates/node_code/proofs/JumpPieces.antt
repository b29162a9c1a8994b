-- Jumps and branches.
use Rattle.std.proofs.Common.{[], ◌∷◌, refl, arith, false}
use Rattle.rv64_isa.specs.declared.object.CodeItem.TheVariants.{BranchTo, JumpTo}
use Rattle.rv64_isa.specs.declared.object.Label.{Label}
use Rattle.operator_code.specs.declared.branches.Test.{Test}
use Rattle.node_code.specs.Pieces.{IsJump, IsBranch}
use Rattle.node_code.proofs.LinkedPartRuns.{jump_part, branch_part}

pub is_jump : (to : Label) → IsJump to.0 (JumpTo 0 to ∷ [])
is_jump to = record {
  closed = record { waits = refl; labels = λ label. refl };
  few = omega arith;
  fences = refl;
  cleans = refl;
  at = λ site. record {
    jumps = λ x. jump_part site.items site.linking site.position to site.is_part x site.closed;
    marks = refl;
    resumes = refl;
  };
}

pub is_branch : (test : Test) (to : Label) → IsBranch test to.0 (BranchTo test.condition test.rs1 test.rs2 to ∷ [])
is_branch test to = record {
  closed = record { waits = refl; labels = λ label. refl };
  few = omega arith;
  fences = refl;
  cleans = refl;
  at = λ site. record {
    branches = λ x. branch_part site.items site.linking site.position test.condition test.rs1 test.rs2 to site.is_part x false site.closed;
    marks = refl;
    resumes = refl;
  };
}
