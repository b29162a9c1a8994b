use Rattle.std.proofs.Common.{◌≡◌, ◌++◌}
use Rattle.expr_code.proofs.OperationCode.{left_pair}
use Rattle.expr_code.proofs.PureCode.{both_among}
use Rattle.expr_code.proofs.operators.left_first.Goals as goal

pub returns-clause-pair : goal.returns-clause-pair
returns-clause-pair c = λ h x y held a b.
    let e : c.append.new.code.items ≡ c.args.left.code.items ++ c.args.right.code.items = cc (c.in_ok-append.ensures, c.deref.ensures.value) in
    left_pair h x y held (record { code = c.append.new.code; left = c.args.left.register; right = c.args.right.register })
    c.args.left.code.items c.args.right.code.items e a b

pub returns-clause-pure : goal.returns-clause-pure
returns-clause-pure c =
    let e : c.append.new.code.items ≡ c.args.left.code.items ++ c.args.right.code.items = cc (c.in_ok-append.ensures, c.deref.ensures.value) in
    both_among c.args.left.code.items c.args.right.code.items _ e
