-- Each check begins with what the ones before it have found.
use Rattle.std.proofs.Common.{subst}
use Rattle.c_tree.specs.declared.language.Language.{Language}
use Rattle.c_tree.specs.AcceptedTexts.{IsFlattened, IsTyped, IsRanged}
use Rattle.c_tree.specs.Flats.{flat_of}
use Rattle.c_tree.specs.Programs.{program_of}
use Rattle.c_tree.specs.Views.{items_of}
use Rattle.ido_compile.specs.links.FrontEndAnswers.{IsFlatAnswerAs, of_range, of_inline, of_source}
use Rattle.ido_compile.proofs.FrontEndChecks.{by_error}
use Rattle.ido_compile.proofs.LoggedTexts.{calls_refused, range_refused, reading_refused, typing_refused}
use Rattle.ido_compile.proofs.compiler.flatten.Goals as goal

pub returns-in_err-tree : goal.returns-in_err-tree
returns-in_err-tree c =
    by_error (IsFlatAnswerAs c.args.log c.args.text.now) (of_source c.in_err-tree.field-0.0) c.from_residual.result c.from_residual.ensures.1
    (reading_refused c.language_of-language.result c.args.log c.args.text.now c.language_of-language.ensures c.in_err-tree.field-0.0
    c.in_err-tree.ensures.refused)

pub returns-in_err-program : goal.returns-in_err-program
returns-in_err-program c =
    by_error (IsFlatAnswerAs c.args.log c.args.text.now) (of_source c.in_err-program.field-0.0)
    c.from_residual-in_err-program.result c.from_residual-in_err-program.ensures.1
    (typing_refused c.language_of-language.result c.args.log c.args.text.now c.language_of-language.ensures (items_of c.in_ok-tree.tree)
    c.in_err-program.field-0.0 c.in_ok-tree.ensures.read c.in_err-program.ensures)

pub returns-in_err-check : goal.returns-in_err-check
returns-in_err-check c =
    let typed : IsTyped c.language_of-language.result c.args.text.now (program_of c.in_ok-program.program) =
    record { items = items_of c.in_ok-tree.tree; read = c.in_ok-tree.ensures.read; faultless = c.in_ok-program.ensures.0; typed = c.in_ok-program.ensures.1 } in
    by_error (IsFlatAnswerAs c.args.log c.args.text.now) (of_range c.in_err-check.field-0.0)
    c.from_residual-in_err-check.result c.from_residual-in_err-check.ensures.1
    (range_refused c.language_of-language.result c.args.log c.args.text.now c.language_of-language.ensures (program_of c.in_ok-program.program)
    c.in_err-check.field-0.0 typed c.in_err-check.ensures)

pub returns-in_err-flat : goal.returns-in_err-flat
returns-in_err-flat c =
    let typed : IsTyped c.language_of-language.result c.args.text.now (program_of c.in_ok-program.program) =
    record { items = items_of c.in_ok-tree.tree; read = c.in_ok-tree.ensures.read; faultless = c.in_ok-program.ensures.0; typed = c.in_ok-program.ensures.1 } in
    let ranged : IsRanged c.language_of-language.result c.args.text.now (program_of c.in_ok-program.program) =
    record { typed = typed; fits = c.in_ok-check.ensures.0; never_null = c.in_ok-check.ensures.1 } in
    by_error (IsFlatAnswerAs c.args.log c.args.text.now) (of_inline c.in_err-flat.field-0.0)
    c.from_residual-in_err-flat.result c.from_residual-in_err-flat.ensures.1
    (calls_refused c.language_of-language.result c.args.log c.args.text.now c.language_of-language.ensures (program_of c.in_ok-program.program)
    c.in_err-flat.field-0.0 ranged c.in_err-flat.ensures)

pub returns : goal.returns
returns c =
    let typed : IsTyped c.language_of-language.result c.args.text.now (program_of c.in_ok-program.program) =
    record { items = items_of c.in_ok-tree.tree; read = c.in_ok-tree.ensures.read; faultless = c.in_ok-program.ensures.0; typed = c.in_ok-program.ensures.1 } in
    let ranged : IsRanged c.language_of-language.result c.args.text.now (program_of c.in_ok-program.program) =
    record { typed = typed; fits = c.in_ok-check.ensures.0; never_null = c.in_ok-check.ensures.1 } in
    let made = c.in_ok-flat.ensures in
    let flattened : IsFlattened c.language_of-language.result c.args.text.now (flat_of c.in_ok-flat.flat) = record {
      program = program_of c.in_ok-program.program;
      ranged = ranged;
      ends = made.0;
      short = made.1;
      flattened = made.2;
    } in
    subst (λ (l : Language). IsFlattened l c.args.text.now (flat_of c.in_ok-flat.flat)) c.language_of-language.ensures flattened
