use Rattle.std.proofs.Common.{◌<◌, length, arith}
use Rattle.std.proofs.lemmas.Bool.Decides.{nat_tests}
use Rattle.run_scripts.specs.links.ReportViews as views
use Rattle.ido_cli.proofs.Sums.{said_unsettled}
use Rattle.ido_cli.proofs.load.say_summed.Goals as goal

pub returns-then-not-is_empty : goal.returns-then-not-is_empty
returns-then-not-is_empty c =
    let some : 0 < length c.args.state.now.unsettled.items = grind (arith, nat_tests, c.is_empty.ensures, c.if-not-is_empty.true) in
    said_unsettled (views.state_of c.args.state.now) c.in_ok-output.output.items some c.in_ok-output.ensures
