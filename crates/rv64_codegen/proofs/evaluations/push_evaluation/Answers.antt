use Rattle.std.proofs.Common.{List, subst}
use Rattle.std.proofs.lemmas.Result.{on_ok_weaker}
use Rattle.rv64_isa.specs.declared.instr.Instr.{Instr}
use Rattle.c_tree.specs.Exprs.{expr_of, lvalue_of}
use Rattle.expr_code.specs.EvaluationCode.{homes_of}
use Rattle.node_code.specs.Pieces.{IsComputing}
use Rattle.rv64_codegen.proofs.Pieces.{is_evaluation}
use Rattle.rv64_codegen.proofs.evaluations.push_evaluation.Goals as goal

pub returns : goal.returns
returns c =
    on_ok_weaker c.push_computing.result (λ a. record {
      piece = a.piece;
      appended = a.appended;
      is = is_evaluation (homes_of c.args.frame.now) (lvalue_of c.args.target.now) (expr_of c.args.value.now.expr) c.in_ok-code.code.items
          c.in_ok-code.ensures a.piece
          (subst (λ (is : List Instr). IsComputing is a.piece) c.deref.ensures.value a.is);
    }) c.push_computing.ensures
