-- What is answered to a text: its object, or the first rule that it breaks.
use Rattle.std.specs.Prelude.{◌≡◌, ℕ, List, Result, Ok, Err}
use Rattle.log_schemes.specs.declared.log.Log.{Log}
use Rattle.c_tree.specs.Flats.{Flat, flat_of}
use Rattle.machine_model.specs.declared.object.Object.{Object}
use Rattle.rv64_isa.specs.declared.object.Marks.{Marks}
use Rattle.flow_graph.specs.declared.cuts.Cuts.{Cuts}
use Rattle.compiler_correctness.specs.Translations.{Translation, translation_to}
use Rattle.compiler_correctness.specs.Compilations.{IsCompilation}
use Rattle.flat_compile.specs.TranslatedForms.{IsTranslatedAs, IsResumableAs}
use Rattle.ido_compile.specs.declared.compiler.Compiled.{Compiled}
use Rattle.ido_compile.specs.LoggedTexts.{IsAcceptedAs, IsRefusedAs}
use Rattle.ido_compile.specs.declared.error.CompileError.{CompileError}
use Rattle.ido_compile.specs.declared.error.CompileError.TheVariants as e

-- what is translated does what the source does, whatever happens
abbrev pub TranslationsAreCompilations : Type 0
TranslationsAreCompilations = (log : Log) (flat : Flat) (object : Object) (marks : Marks) (cuts : Cuts) → IsTranslatedAs log flat object marks cuts →
    IsCompilation (translation_to flat object marks cuts)

abbrev pub translation_in : Compiled → Translation
translation_in c = translation_to (flat_of c.flat) c.translated.object c.translated.marks c.translated.cuts

-- the text is accepted for the log, what a machine runs is a translation of its flat form, and so it does what the source does, whatever happens
pub record IsCompiledAs (log : Log) (text : List ℕ) (c : Compiled) : Type 0 where
  pub text_is : c.text.items ≡ text
  pub accepted : IsAcceptedAs log text (flat_of c.flat)
  pub translated : IsTranslatedAs log (flat_of c.flat) c.translated.object c.translated.marks c.translated.cuts
  -- of each thread it tells what it has where recovery may resume it
  pub resumable : IsResumableAs log (flat_of c.flat) c.translated.object c.translated.marks c.translated.cuts c.translated.resumes.items
  pub compilation : IsCompilation (translation_in c)

abbrev pub IsCompileAnswerAs : Log → (text : List ℕ) → Result Compiled CompileError → Type 0
IsCompileAnswerAs log text (Ok c) = IsCompiledAs log text c
IsCompileAnswerAs log text (Err (e.Refused x)) = IsRefusedAs log text x.rule x.place
IsCompileAnswerAs log text (Err e.Memory) = Unit {0}
