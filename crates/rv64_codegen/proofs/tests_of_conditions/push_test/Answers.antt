use Rattle.std.proofs.Common.{List, subst}
use Rattle.std.proofs.lemmas.Result.{on_ok_weaker}
use Rattle.rv64_isa.specs.declared.instr.Instr.{Instr}
use Rattle.c_tree.specs.Exprs.{expr_of}
use Rattle.expr_code.specs.EvaluationCode.{homes_of}
use Rattle.node_code.specs.Pieces.{IsChoice}
use Rattle.rv64_codegen.proofs.Pieces.{is_test}
use Rattle.rv64_codegen.proofs.tests_of_conditions.push_test.Goals as goal

pub returns : goal.returns
returns c =
    on_ok_weaker c.push_choice.result (λ a. record {
      piece = a.piece;
      appended = a.appended;
      is = is_test (homes_of c.args.frame.now) (expr_of c.args.condition.now.expr) c.args.is_turned c.args.to.0 c.in_ok-selected.selected.code.items
          c.in_ok-selected.selected.test c.turned-test.result
          a.piece c.in_ok-selected.ensures.short c.in_ok-selected.ensures.pure c.in_ok-selected.ensures.code c.turned-test.ensures
          (subst (λ (is : List Instr). IsChoice is c.turned-test.result c.args.to.0 a.piece) c.deref.ensures.value a.is);
    }) c.push_choice.ensures
