use Rattle.std.proofs.Common.{ap, subst, ◌∙◌, arith}
use Rattle.file_fields.specs.links.ReaderResults.{Gives}
use Rattle.object_format.specs.Contents.{contents_of}
use Rattle.object_format.specs.ObjectDecoder.{read}
use Rattle.object_format.proofs.Objects.{is_found, object_again}
use Rattle.object_format.proofs.reading.read_object.Goals as goal

pub returns-clause-found : goal.returns-clause-found
returns-clause-found c = is_found c.args.bytes.now c.read.result (λ i. omega (arith, c.type_inv.bytes i)) c.read.ensures

pub returns-clause-only : goal.returns-clause-only
returns-clause-only c = λ o fits e. subst (λ f. Gives contents_of c.read.result f) (ap read e ∙ object_again o fits) c.read.ensures
