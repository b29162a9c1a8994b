use Rattle.std.proofs.Common.{map, arith}
use Rattle.run_scripts.specs.links.ReportViews.{steps_of}
use Rattle.crash_images.proofs.WrittenImages.{each_merged, each_told, spelled_as, written_again, written_short}
use Rattle.crash_images.proofs.writing.write_image.Goals as goal

pub returns-clause-spelled : goal.returns-clause-spelled
returns-clause-spelled c =
    spelled_as c.args.log c.args.source.now c.args.variables.now c.args.logs.now c.args.schedules.now c.spelled.result c.spelled.ensures.text

pub returns-clause-again : goal.returns-clause-again
returns-clause-again c =
    written_again c.args.log c.args.source.now c.args.variables.now c.args.logs.now c.args.schedules.now c.spelled.result c.requires.source
    c.requires.variables c.requires.lives
    (λ i. omega (arith, c.type_inv.variables i)) (λ i. omega (arith, c.type_inv.logs i))
    (spelled_as c.args.log c.args.source.now c.args.variables.now c.args.logs.now c.args.schedules.now c.spelled.result c.spelled.ensures.text)
    c.spelled.ensures.fits

pub returns-clause-short : goal.returns-clause-short
returns-clause-short c =
    written_short c.args.log c.args.source.now c.args.variables.now c.args.logs.now c.args.schedules.now c.spelled.result c.requires.source
    c.requires.variables c.requires.logs c.requires.few c.requires.steps
    (spelled_as c.args.log c.args.source.now c.args.variables.now c.args.logs.now c.args.schedules.now c.spelled.result c.spelled.ensures.text)

pub returns-clause-steps : goal.returns-clause-steps
returns-clause-steps c = each_told (map steps_of c.args.schedules.now)

pub returns-clause-merged : goal.returns-clause-merged
returns-clause-merged c = each_merged (map steps_of c.args.schedules.now)
