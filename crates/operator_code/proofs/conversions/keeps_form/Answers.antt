use Rattle.std.proofs.Common.{sym, ◌∙◌}
use Rattle.operator_code.proofs.RegisterExtensions.{keeps_law}
use Rattle.operator_code.proofs.LossyConversions.{keeps_where}
use Rattle.operator_code.proofs.conversions.keeps_form.Goals as goal

pub returns : goal.returns
returns c = (
  λ t. keeps_law c.args.from c.args.to (sym c.is_kept.ensures ∙ t),
  λ f. c.is_kept.ensures ∙ keeps_where c.args.from c.args.to f,
)
