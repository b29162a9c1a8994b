use Rattle.run_scripts.specs.declared.script.Command.TheVariants.{Point}
use Rattle.run_scripts.proofs.LineReader.{failed}
use Rattle.run_scripts.proofs.script.point_line.Goals as goal

pub returns-in_err-hart : goal.returns-in_err-hart
returns-in_err-hart c = failed _ c.in_err-hart.field-0.0 c.from_residual.result c.from_residual.ensures.1 (c.in_err-hart.ensures.refused (λ n. Point n))

pub returns : goal.returns
returns c = c.in_ok-hart.ensures.number (λ n. Point n)
