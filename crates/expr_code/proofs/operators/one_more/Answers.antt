use Rattle.std.proofs.Common.{ℕ, refl, sym, subst}
use Rattle.std.specs.Prelude.{pos}
use Rattle.ido_ints.specs.declared.kinds.Kind.TheVariants.{UnsignedLong}
use Rattle.ido_ints.specs.declared.operators.Binary.TheVariants.{Add}
use Rattle.ido_ints.specs.TypedNumbers.{typed}
use Rattle.operator_code.specs.Constants.{IsWithConstant}
use Rattle.expr_code.specs.links.OperandCode.{reference_operation}
use Rattle.expr_code.proofs.OperationCode.{one_form}
use Rattle.expr_code.proofs.operators.one_more.Goals as goal

pub unwrap-requires : goal.unwrap-requires
unwrap-requires c = c.with_constant.ensures.some.1 refl

pub returns : goal.returns
returns c = record {
  number = typed UnsignedLong (pos 1);
  is = refl;
  gives = subst (λ (n : ℕ). IsWithConstant (reference_operation Add) n c.unwrap.result) (sym one_form)
      (rw c.unwrap.ensures at c.with_constant.ensures.code);
}
