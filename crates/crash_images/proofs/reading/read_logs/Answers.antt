use Rattle.std.proofs.Common.{List, ℕ, ap, subst, sym, ◌∙◌, arith}
use Rattle.file_fields.specs.links.ReaderResults.{Gives}
use Rattle.crash_images.specs.ImageDecoder.{logs_at}
use Rattle.crash_images.specs.links.Views.{state_of}
use Rattle.crash_images.proofs.Images.{logs_again, logs_are_found}
use Rattle.crash_images.proofs.reading.read_logs.Goals as goal

pub returns-clause-found : goal.returns-clause-found
returns-clause-found c =
    logs_are_found c.args.version c.args.total c.args.threads c.args.variables.items c.args.rest.now c.logs_at.result (λ i. omega (arith, c.type_inv.rest i))
    c.logs_at.ensures

pub returns-clause-only : goal.returns-clause-only
returns-clause-only c = λ size s same good e.
    subst (λ f. Gives state_of c.logs_at.result f)
    (ap (λ (words : List ℕ). logs_at c.args.version c.args.total c.args.threads words c.args.rest.now) (sym same)
    ∙ ap (logs_at c.args.version c.args.total c.args.threads s.variables) e
    ∙ logs_again c.args.version c.args.total size c.args.threads s good)
    c.logs_at.ensures
