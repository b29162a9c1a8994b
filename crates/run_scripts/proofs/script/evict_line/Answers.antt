use Rattle.run_scripts.specs.declared.script.Command.TheVariants.{Evict}
use Rattle.run_scripts.proofs.LineReader.{failed}
use Rattle.run_scripts.proofs.script.evict_line.Goals as goal

pub returns-in_err-evicted : goal.returns-in_err-evicted
returns-in_err-evicted c =
    failed _ c.in_err-evicted.field-0.0 c.from_residual.result c.from_residual.ensures.1 (c.in_err-evicted.ensures.refused (λ n m. Evict n m))

pub returns : goal.returns
returns c = c.in_ok-evicted.ensures.numbers (λ n m. Evict n m)
