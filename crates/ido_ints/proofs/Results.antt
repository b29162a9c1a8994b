-- The kind of each result holds its number.
use Rattle.std.proofs.Common.{arith, Bool, true, false}
use Rattle.std.specs.Prelude.{ℤ}
use Rattle.std.proofs.lemmas.Int.{ints}
use Rattle.ido_ints.specs.declared.kinds.Kind.{Kind}
use Rattle.ido_ints.specs.declared.kinds.Kind.TheVariants.{Int}
use Rattle.ido_ints.specs.declared.operators.Unary.{Unary}
use Rattle.ido_ints.specs.declared.operators.Unary.TheVariants.{Plus, Minus, Complement, Not}
use Rattle.ido_ints.specs.declared.operators.Binary.{Binary}
use Rattle.ido_ints.specs.declared.operators.Binary.TheVariants.{Mul, Div, Rem, Add, Sub, ShiftLeft, ShiftRight, Less, Greater, LessEqual}
use Rattle.ido_ints.specs.declared.operators.Binary.TheVariants.{GreaterEqual, Equal, NotEqual, And, Xor, Or, LogicalAnd, LogicalOr}
use Rattle.ido_ints.specs.Kinds.{Holds, promoted, common_of}
use Rattle.ido_ints.specs.Operators.{truth, unary_kind, unary_number, binary_kind, binary_number}
use Rattle.ido_ints.proofs.ReductionLaws.{Holds-reduced}

pub Holds-truth : (t : Bool) → Holds Int (truth t)
Holds-truth true = record { from_least = omega (arith, ints); to_greatest = omega (arith, ints) }
Holds-truth false = record { from_least = omega (arith, ints); to_greatest = omega (arith, ints) }

pub Holds-unary_number : (op : Unary) (k : Kind) (z : ℤ) → Holds (unary_kind op k) (unary_number op k z)
Holds-unary_number Plus k z = Holds-reduced (promoted k) _
Holds-unary_number Minus k z = Holds-reduced (promoted k) _
Holds-unary_number Complement k z = Holds-reduced (promoted k) _
Holds-unary_number Not k z = Holds-truth _

pub Holds-binary_number : (op : Binary) (j : Kind) (a : ℤ) (k : Kind) (b : ℤ) → Holds (binary_kind op j k) (binary_number op j a k b)
Holds-binary_number Mul j a k b = Holds-reduced (common_of j k) _
Holds-binary_number Div j a k b = Holds-reduced (common_of j k) _
Holds-binary_number Rem j a k b = Holds-reduced (common_of j k) _
Holds-binary_number Add j a k b = Holds-reduced (common_of j k) _
Holds-binary_number Sub j a k b = Holds-reduced (common_of j k) _
Holds-binary_number ShiftLeft j a k b = Holds-reduced (promoted j) _
Holds-binary_number ShiftRight j a k b = Holds-reduced (promoted j) _
Holds-binary_number Less j a k b = Holds-truth _
Holds-binary_number Greater j a k b = Holds-truth _
Holds-binary_number LessEqual j a k b = Holds-truth _
Holds-binary_number GreaterEqual j a k b = Holds-truth _
Holds-binary_number Equal j a k b = Holds-truth _
Holds-binary_number NotEqual j a k b = Holds-truth _
Holds-binary_number And j a k b = Holds-reduced (common_of j k) _
Holds-binary_number Xor j a k b = Holds-reduced (common_of j k) _
Holds-binary_number Or j a k b = Holds-reduced (common_of j k) _
Holds-binary_number LogicalAnd j a k b = Holds-truth _
Holds-binary_number LogicalOr j a k b = Holds-truth _
