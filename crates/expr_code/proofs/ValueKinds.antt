-- The kind of a value.
use Rattle.std.proofs.Common.{◌≡◌, List, refl, ap}
use Rattle.std.specs.Prelude.{ℤ}
use Rattle.ido_ints.specs.declared.kinds.Kind.{Kind}
use Rattle.ido_ints.specs.Operators.{unary_kind, binary_kind}
use Rattle.c_tree.specs.Exprs as e
use Rattle.c_tree.specs.Values.{value}
use Rattle.c_tree.specs.Elaboration.{kind_of}

both : (f : Kind → Kind → Kind) (a b c d : Kind) → a ≡ b → c ≡ d → f a c ≡ f b d
both f a b c d g h = cc

pub kind_is : (ls : List ℤ) (ns : List (List ℤ)) (x : e.Expr) → (value ls ns x).kind ≡ kind_of x
kind_is ls ns (e.Constant v) = refl
kind_is ls ns (e.Local local kind) = refl
kind_is ls ns (e.Variable place variable kind) = refl
kind_is ls ns (e.Element place variable kind index_place index) = refl
kind_is ls ns (e.Address variable index_place index) = refl
kind_is ls ns (e.Referent place last local) = refl
kind_is ls ns (e.Unary op x) = ap (unary_kind op) (kind_is ls ns x)
kind_is ls ns (e.Cast kind x) = refl
kind_is ls ns (e.Converted kind x) = refl
kind_is ls ns (e.Binary op x y) =
    both (binary_kind op) (value ls ns x).kind (kind_of x) (value ls ns y).kind (kind_of y) (kind_is ls ns x) (kind_is ls ns y)
kind_is ls ns (e.Conditional kind x y z) = refl
