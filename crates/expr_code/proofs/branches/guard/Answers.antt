use Rattle.std.proofs.Common.{sym, subst, List, lit<}
use Rattle.rv64_isa.specs.declared.instr.Instr.{Instr}
use Rattle.expr_code.specs.links.ForwardJumps.{IsGuard}
use Rattle.expr_code.proofs.ForwardBranches.{near_guard, far_guard}
use Rattle.expr_code.proofs.PureCode.{one_none, two_none, skips_none, skips_where_none}
use Rattle.expr_code.proofs.branches.guard.Goals as goal

pub returns-in_Some-near-clause-code : goal.returns-in_Some-near-clause-code
returns-in_Some-near-clause-code c =
    subst (λ (code : List Instr). IsGuard c.args.words c.args.test code) (sym c.in_ok-vec.ensures.items)
    (near_guard c.args.words c.args.test c.negated.result c.in_Some-near.near c.negated.ensures c.in_Some-near.ensures.skips)

pub returns-clause-code : goal.returns-clause-code
returns-clause-code c =
    subst (λ (code : List Instr). IsGuard c.args.words c.args.test code) (sym c.in_ok-vec-2.ensures.items)
    (far_guard c.args.words c.args.test c.unwrap.result c.jump.result (rw c.unwrap.ensures at c.branch-test.ensures.skips) c.jump.ensures)

pub returns-in_Some-near-clause-pure : goal.returns-in_Some-near-clause-pure
returns-in_Some-near-clause-pure c =
    one_none c.in_Some-near.near _ c.in_ok-vec.ensures.items
    (skips_where_none c.args.words c.negated.result c.in_Some-near.near c.requires c.in_Some-near.ensures.skips)

pub returns-clause-pure : goal.returns-clause-pure
returns-clause-pure c =
    two_none c.unwrap.result c.jump.result _ c.in_ok-vec-2.ensures.items
    (skips_where_none 1 c.args.test c.unwrap.result (lit< tt) (rw c.unwrap.ensures at c.branch-test.ensures.skips))
    (skips_none c.args.words c.jump.result c.requires c.jump.ensures)
