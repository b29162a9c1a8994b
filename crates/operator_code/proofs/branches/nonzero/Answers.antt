use Rattle.operator_code.proofs.Comparisons.{nonzero_where}
use Rattle.operator_code.proofs.branches.nonzero.Goals as goal

pub returns : goal.returns
returns c = λ kind. nonzero_where kind c.args.rs
