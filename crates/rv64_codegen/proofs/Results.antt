-- Results of the code of evaluations.
use Rattle.std.proofs.Common.{◌≡◌, ℕ, ◌+◌, ◌*◌, ◌≤◌, List, ◌++◌, length, sym, arith, subst}
use Rattle.std.proofs.lemmas.List.{length-append}
use Rattle.ido_base.specs.declared.place.Place.{Place}
use Rattle.ido_ints.specs.declared.kinds.Kind.{Kind}
use Rattle.c_tree.specs.Exprs as e
use Rattle.c_tree.specs.Prices.{nodes_of}
use Rattle.rv64_isa.specs.declared.instr.Instr.{Instr}
use Rattle.expr_code.specs.EvaluationCode.{Homes, IsConvertedCode, IsVariableAddressCode, IsElementAddressCode, impure_among, home_of}
use Rattle.expr_code.proofs.Public.{among_append, constant_none}
use Rattle.rv64_codegen.specs.links.Targets.{IsSelected}
use Rattle.operator_code.specs.StraightLineCode.{IsConstant}
use Rattle.rv64_codegen.proofs.EvaluationCode.{framed_target, local_target, variable_target, element_target}
use Rattle.expr_code.specs.declared.home.Home.TheVariants.{InRegister, InFrame}

pub local_selected : (h : Homes) (place : Place) (local rd : ℕ) (k : Kind) (t : e.Expr) (code : List Instr) → home_of h.locals local ≡ InRegister rd →
    length code ≤ 16 * nodes_of t + 8 → impure_among code ≡ 0 → IsConvertedCode h t k rd code → IsSelected h (e.ToLocal place local k) t code
local_selected h place local rd k t code same short none c = record {
  does = local_target h place local rd k t code same c;
  short = omega (arith, short);
  pure = none;
}

-- a local that stands in a word of memory
pub framed_selected : (h : Homes) (place : Place) (local address : ℕ) (k : Kind) (t : e.Expr) (a b code : List Instr) → code ≡ a ++ b →
    home_of h.locals local ≡ InFrame address → IsConstant 28 address a → length a ≤ 8 → length b ≤ 16 * nodes_of t + 8 → impure_among b ≡ 0 →
    IsConvertedCode h t k 29 b → IsSelected h (e.ToLocal place local k) t code
framed_selected h place local address k t a b code same is constant short_a short_b none_b c =
    subst (λ (is : List Instr). IsSelected h (e.ToLocal place local k) t is)
    (sym same) (record {
      does = framed_target h t k a b c place local address is constant;
      short = omega (arith, short_a, short_b, length-append a b);
      pure = omega (arith, constant_none 28 address a constant, none_b, among_append a b);
    })

pub variable_selected : (h : Homes) (place : Place) (variable : ℕ) (k : Kind) (t : e.Expr) (a b code : List Instr) → code ≡ a ++ b → length a ≤ 8 →
    length b ≤ 16 * nodes_of t + 8 → impure_among a ≡ 0 → impure_among b ≡ 0 →
    IsVariableAddressCode h variable 28 a → IsConvertedCode h t k 29 b → IsSelected h (e.ToVariable place variable k) t code
variable_selected h place variable k t a b code same short_a short_b none_a none_b v c =
    subst (λ (is : List Instr). IsSelected h (e.ToVariable place variable k) t is)
    (sym same) (record {
      does = variable_target h t k a b c place variable v;
      short = omega (arith, short_a, short_b, length-append a b);
      pure = omega (arith, none_a, none_b, among_append a b);
    })

pub element_selected : (h : Homes) (place : Place) (variable : ℕ) (k : Kind) (index : e.Placed) (t : e.Expr) (a b code : List Instr) → code ≡ a ++ b →
    length a ≤ 16 * nodes_of index.expr + 8 →
    length b ≤ 16 * nodes_of t + 8 → impure_among a ≡ 0 → impure_among b ≡ 0 →
    IsElementAddressCode h variable k index 28 a → IsConvertedCode h t k 29 b → IsSelected h (e.ToElement place variable k index) t code
element_selected h place variable k index t a b code same short_a short_b none_a none_b v c = subst
    (λ (is : List Instr). IsSelected h (e.ToElement place variable k index) t is) (sym same) (record {
      does = element_target h t k a b c place variable index v;
      short = omega (arith, short_a, short_b, length-append a b);
      pure = omega (arith, none_a, none_b, among_append a b);
    })
