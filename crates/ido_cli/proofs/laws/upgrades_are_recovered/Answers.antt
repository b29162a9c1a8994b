use Rattle.ido_cli.proofs.UpgradedRuns.{upgrades_are_recovered, upgrades_go_on}
use Rattle.ido_cli.proofs.laws.upgrades_are_recovered.Goals as goal

pub returns-clause-read : goal.returns-clause-read
returns-clause-read c =
    upgrades_are_recovered c.one_verdict.ensures.flat c.one_verdict.ensures.not_both c.runs_leave_no_fault.ensures.references c.images_are_crashes.ensures

pub returns-clause-lives : goal.returns-clause-lives
returns-clause-lives c =
    upgrades_go_on c.one_verdict.ensures.flat c.one_verdict.ensures.not_both c.runs_leave_no_fault.ensures.references c.images_are_crashes.ensures
    c.accepted_images_go_on.ensures
