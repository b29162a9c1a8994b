-- What is translated of the flat form of an accepted text is a compilation of it.
use Rattle.c_tree.specs.Flats.{flat_of}
use Rattle.ido_compile.specs.CompileAnswers.{IsCompileAnswerAs}
use Rattle.ido_compile.specs.declared.error.CompileError.TheVariants as error
use Rattle.ido_compile.proofs.FrontEndChecks.{by_error}
use Rattle.ido_compile.proofs.LoggedTexts.{not_compiled}
use Rattle.ido_compile.proofs.compiler.compile.Goals as goal

pub returns-in_err-flat : goal.returns-in_err-flat
returns-in_err-flat c =
    let refused = c.in_err-flat.field-0.0 in
    by_error (IsCompileAnswerAs c.args.log c.args.text.now) refused c.from_residual.result c.from_residual.ensures.1
    (not_compiled c.args.log c.args.text.now refused c.in_err-flat.ensures)

pub returns-in_err-translated : goal.returns-in_err-translated
returns-in_err-translated c =
    let refused = c.in_err-translated.field-0.0 in
    by_error (IsCompileAnswerAs c.args.log c.args.text.now) refused
    c.from_residual-in_err-translated.result c.from_residual-in_err-translated.ensures.1
    (not_compiled c.args.log c.args.text.now refused c.in_err-translated.ensures)

pub returns-in_err-text : goal.returns-in_err-text
returns-in_err-text c =
    by_error (IsCompileAnswerAs c.args.log c.args.text.now) error.Memory
    c.from_residual-in_err-text.result c.from_residual-in_err-text.ensures.1 tt

pub returns : goal.returns
returns c =
    let flat = flat_of c.in_ok-flat.flat in
    let made = c.in_ok-translated.translated in
    let is = c.in_ok-translated.ensures in
    record {
      text_is = c.in_ok-text.ensures;
      accepted = is.0;
      translated = is.1.0;
      resumable = is.1.1;
      compilation = c.translations_are_compilations.ensures c.args.log flat made.object made.marks made.cuts is.1.0;
    }
