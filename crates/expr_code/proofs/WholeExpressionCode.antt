-- From code in which no temporary is held to code of a whole expression.
use Rattle.std.proofs.Common.{◌≡◌, ℕ, List, ◌==◌}
use Rattle.std.specs.Prelude.{not, ◌||◌}
use Rattle.ido_ints.specs.declared.kinds.Kind.{Kind}
use Rattle.ido_ints.specs.Operators.{is_zero}
use Rattle.ido_ints.specs.TypedNumbers.{converted}
use Rattle.c_tree.specs.Exprs as e
use Rattle.c_tree.specs.Values.{value}
use Rattle.rv64_isa.specs.declared.instr.Instr.{Instr}
use Rattle.memory_layout.specs.Roles.{is_temporary}
use Rattle.operator_code.specs.declared.branches.Test.{Test}
use Rattle.operator_code.specs.ComputingCode.{Carries, passes}
use Rattle.expr_code.specs.EvaluationCode.{Homes, IsValueCode, IsConvertedCode, IsTestCode}
use Rattle.expr_code.specs.links.OperandCode.{is_free, IsEvaluation, IsTest}
use Rattle.expr_code.proofs.CodeComposition.{wider}
use Rattle.expr_code.proofs.ElementLoadCode.{free_first, as_temporary}

pub value_code : (h : Homes) (x : e.Expr) (rd : ℕ) (a : List Instr) → IsEvaluation h x 0 rd a → IsValueCode h x rd a
value_code h x rd a g = record {
  ends = λ s r m l b. wider r a (λ n. n == rd || is_free 0 n) (λ n. n == rd || is_temporary n) (λ y. Carries y rd (value s.locals s.numbers x)) m
      (λ n q. as_temporary rd n q) (g.ends s r m l b);
}

pub converted_code : (h : Homes) (x : e.Expr) (k : Kind) (rd : ℕ) (a : List Instr) → IsEvaluation h (e.Converted k x) 0 rd a → IsConvertedCode h x k rd a
converted_code h x k rd a g = record {
  ends = λ s r m l b. wider r a (λ n. n == rd || is_free 0 n) (λ n. n == rd || is_temporary n) (λ y. Carries y rd (converted (value s.locals s.numbers x) k)) m
      (λ n q. as_temporary rd n q) (g.ends s r m (record { suits = l.suits; formed = l.formed; fits = l.fits; loaded = l.loaded })
      (record { at = b.at; locals = b.locals }));
}

pub test_code : (h : Homes) (x : e.Expr) (t : Test) (a : List Instr) → IsTest h x 0 t a → IsTestCode h x t a
test_code h x t a g = record {
  ends = λ s r m l b. wider r a (is_free 0) is_temporary (λ y. passes t y ≡ not (is_zero (value s.locals s.numbers x).number)) m
      (λ n q. rw (free_first n) q) (g.ends s r m l b);
}
