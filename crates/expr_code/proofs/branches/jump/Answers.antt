use Rattle.std.proofs.Common.{◌≡◌, ◌+◌, ◌*◌, arith, rules}
use Rattle.expr_code.proofs.ForwardBranches.{jump_skips}
use Rattle.expr_code.proofs.branches.jump.Goals as goal

pub returns : goal.returns
returns c =
    let e : c.unwrap.result ≡ 4 * (c.args.words + 1) = search rules in
    jump_skips c.args.words c.unwrap.result e (omega arith)
