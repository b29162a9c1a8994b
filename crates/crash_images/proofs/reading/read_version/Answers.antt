use Rattle.std.proofs.Common.{ap, subst, ◌∙◌}
use Rattle.file_fields.specs.links.ReaderResults.{ViewsFault}
use Rattle.crash_images.specs.ImageDecoder.{version_in}
use Rattle.crash_images.specs.declared.version.ImageVersion.{ImageVersion}
use Rattle.crash_images.proofs.Images.{version_is_again, version_read}
use Rattle.crash_images.proofs.reading.read_version.Goals as goal

pub returns-clause-only : goal.returns-clause-only
returns-clause-only c = λ version rest le e.
    version_read c.version_in.result version
    (subst (λ f. ViewsFault {Y = ImageVersion} (λ x. x) c.version_in.result f)
    (ap (version_in c.args.newest) e ∙ version_is_again c.args.newest version rest le) c.version_in.ensures)
