use Rattle.std.proofs.Common.{arith}
use Rattle.std.proofs.lemmas.Grind.{common_steps}
use Rattle.c_typer.proofs.FirstFaultLaws.{noted_append}
use Rattle.c_typer.proofs.assignment.arguments.Goals as goal

pub loop-argument-preserved : goal.loop-argument-preserved
loop-argument-preserved c = record { made = grind (arith, common_steps); noted = grind (arith, common_steps, noted_append) }
