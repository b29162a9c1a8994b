use Rattle.ido_cli.proofs.UpgradedRunImages.{run_images_are_upgraded}
use Rattle.ido_cli.proofs.laws.run_images_are_upgraded.Goals as goal

pub returns : goal.returns
returns c =
    run_images_are_upgraded c.one_verdict.ensures.flat c.one_verdict.ensures.not_both c.machines_resume.ensures c.machines_record.ensures
    c.runs_leave_no_fault.ensures.state c.runs_leave_no_fault.ensures.references
