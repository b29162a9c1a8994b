-- A product with an end that is too wide fits no kind.
use Rattle.std.proofs.Common.{◌∙◌}
use Rattle.c_ranges.specs.Bounds.{interval_of}
use Rattle.c_ranges.proofs.Products.{ordered, wide_product}
use Rattle.c_ranges.proofs.operators.product.Goals as goal

pub fitted-requires : goal.fitted-requires
fitted-requires c = ordered c.in-Some.exact (interval_of c.args.x) (interval_of c.args.y) c.in-Some.ensures

pub returns-in-None-clause-value : goal.returns-in-None-clause-value
returns-in-None-clause-value c = c.full.ensures.value ∙ wide_product c.args.kind (interval_of c.args.x) (interval_of c.args.y) c.in-None.ensures
