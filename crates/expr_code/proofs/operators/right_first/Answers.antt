use Rattle.std.proofs.Common.{◌≡◌, ◌++◌, arith}
use Rattle.expr_code.proofs.OperationCode.{right_pair}
use Rattle.expr_code.proofs.PureCode.{both_among}
use Rattle.expr_code.proofs.operators.right_first.Goals as goal

pub returns-clause-pair : goal.returns-clause-pair
returns-clause-pair c = λ h x y held a b.
    let e : c.append.new.code.items ≡ c.args.right.code.items ++ c.args.left.code.items = cc (c.in_ok-append.ensures, c.deref.ensures.value) in
    right_pair h x y held (record { code = c.append.new.code; left = c.args.left.register; right = c.args.right.register })
    c.args.left.code.items c.args.right.code.items e a b

pub returns-clause-pure : goal.returns-clause-pure
returns-clause-pure c =
    let e : c.append.new.code.items ≡ c.args.right.code.items ++ c.args.left.code.items = cc (c.in_ok-append.ensures, c.deref.ensures.value) in
    let sum = both_among c.args.right.code.items c.args.left.code.items c.append.new.code.items e in
    omega (arith, sum)
