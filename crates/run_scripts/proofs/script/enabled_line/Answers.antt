use Rattle.run_scripts.specs.declared.script.Command.TheVariants.{Enabled}
use Rattle.run_scripts.proofs.LineReader.{failed}
use Rattle.run_scripts.proofs.script.enabled_line.Goals as goal

pub returns-in_err-count : goal.returns-in_err-count
returns-in_err-count c = failed _ c.in_err-count.field-0.0 c.from_residual.result c.from_residual.ensures.1 (c.in_err-count.ensures.refused (λ n. Enabled n))

pub returns : goal.returns
returns c = c.in_ok-count.ensures.number (λ n. Enabled n)
