use Rattle.std.proofs.lemmas.Result.{IfOk-weaker}
use Rattle.operator_code.proofs.ConstantSteps.{all_digits}
use Rattle.operator_code.proofs.constant.constant.Goals as goal

pub returns-clause-code : goal.returns-clause-code
returns-clause-code c = IfOk-weaker c.digits.result _ _ (λ code k. all_digits c.args.rd c.args.number _ k) c.digits.ensures.code
