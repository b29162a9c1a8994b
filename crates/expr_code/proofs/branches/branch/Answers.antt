use Rattle.std.proofs.Common.{◌≡◌, ◌+◌, ◌*◌, arith, rules}
use Rattle.expr_code.proofs.ForwardBranches.{branch_skips}
use Rattle.expr_code.proofs.branches.branch.Goals as goal

pub returns-clause-skips : goal.returns-clause-skips
returns-clause-skips c =
    let e : c.unwrap.result ≡ 4 * (c.args.words + 1) = search rules in
    branch_skips c.args.words c.unwrap.result c.args.test e (omega arith)
