use Rattle.std.proofs.Common.{List, ℕ, ap, subst, ◌∙◌, arith}
use Rattle.file_fields.specs.links.ReaderResults.{ViewsFault}
use Rattle.crash_images.specs.ImageDecoder.{source_at}
use Rattle.crash_images.proofs.Images.{source_is_found, source_again, read_as}
use Rattle.crash_images.proofs.reading.read_source.Goals as goal

pub returns-clause-found : goal.returns-clause-found
returns-clause-found c = source_is_found _ c.args.version c.args.bytes.now c.source_at.result (λ i. omega (arith, c.type_inv.bytes i)) c.source_at.ensures

pub returns-clause-only : goal.returns-clause-only
returns-clause-only c = λ source rest few e.
    read_as (λ x. x.0.now) (λ x. x.1.now) c.source_at.result source rest
    (subst (λ f. ViewsFault {Y = List ℕ × List ℕ} (λ x. (x.0.now, x.1.now)) c.source_at.result f)
    (ap (source_at c.args.version) e ∙ source_again c.args.version source rest few)
    c.source_at.ensures)
