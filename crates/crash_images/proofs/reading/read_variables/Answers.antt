use Rattle.std.proofs.Common.{List, ℕ, ap, subst, ◌∙◌, arith}
use Rattle.file_fields.specs.links.ReaderResults.{Gives}
use Rattle.crash_images.specs.ImageDecoder.{variables_at}
use Rattle.crash_images.proofs.Images.{variables_again, variables_are_found}
use Rattle.crash_images.proofs.reading.read_variables.Goals as goal

pub returns-clause-found : goal.returns-clause-found
returns-clause-found c =
    variables_are_found (λ x. (x.0.items, x.1.now)) c.args.total c.args.size c.args.rest.now c.variables_at.result (λ i. omega (arith, c.type_inv.rest i))
    c.requires.whole c.variables_at.ensures

pub returns-clause-only : goal.returns-clause-only
returns-clause-only c = λ variables after good e.
    subst (λ f. Gives {Y = List ℕ × List ℕ} (λ x. (x.0.items, x.1.now)) c.variables_at.result f)
    (ap (variables_at c.args.total c.args.size) e ∙ variables_again c.args.total c.args.size variables after (omega (arith, c.ranges.size)) good)
    c.variables_at.ensures
