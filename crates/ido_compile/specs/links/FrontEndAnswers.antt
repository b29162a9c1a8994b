-- What is answered to a text: its flat form, or the first rule that it breaks.
use Rattle.std.specs.Prelude.{ℕ, List, Result, Ok, Err}
use Rattle.log_schemes.specs.declared.log.Log.{Log}
use Rattle.c_tree.specs.Flats as f
use Rattle.c_tree.specs.Flats.{flat_of}
use Rattle.c_tree.specs.declared.flat.Flat.{Flat}
use Rattle.ido_base.specs.declared.place.Place.{Place}
use Rattle.c_tree.specs.declared.rule.Rule.{Rule}
use Rattle.c_tree.specs.declared.rule.Rule.TheVariants as rule
use Rattle.c_tree.specs.declared.refusal.SourceError.{SourceError}
use Rattle.c_tree.specs.declared.refusal.SourceError.TheVariants as source
use Rattle.c_ranges.specs.declared.checking.RangeError.{RangeError}
use Rattle.c_ranges.specs.declared.checking.RangeError.TheVariants as range
use Rattle.c_inline.specs.declared.inline.InlineError as inline
use Rattle.c_inline.specs.declared.inline.InlineError.TheVariants as inline_error
use Rattle.flat_analysis.specs.declared.analyses.Analysis.{Analysis}
use Rattle.flat_compile.specs.declared.compile.Translated.{Translated}
use Rattle.flat_analysis.specs.Analyses.{IsAnalysis}
use Rattle.flat_compile.specs.TranslatedForms.{IsTranslatedAs, IsResumableAs}
use Rattle.thread_code.specs.Plans.{language_of}
use Rattle.ido_compile.specs.LoggedTexts.{IsAcceptedAs, IsFlattenedAs, IsRefusedAs}
use Rattle.ido_compile.specs.declared.error.CompileError.{CompileError}
use Rattle.ido_compile.specs.declared.error.CompileError.TheVariants as e

-- the text is refused; want of memory may come at any time
abbrev pub IsRefusalAs : Log → (text : List ℕ) → CompileError → Type 0
IsRefusalAs log text (e.Refused x) = IsRefusedAs log text x.rule x.place
IsRefusalAs log text e.Memory = Unit {0}

-- by the checks up to the flat form
abbrev pub IsFlatAnswerAs : Log → (text : List ℕ) → Result Flat CompileError → Type 0
IsFlatAnswerAs log text (Ok flat) = IsFlattenedAs log text (flat_of flat)
IsFlatAnswerAs log text (Err x) = IsRefusalAs log text x

-- by the checks of the flat form
abbrev pub IsAnalysisAnswerAs : Log → (text : List ℕ) → f.Flat → Result Analysis CompileError → Type 0
IsAnalysisAnswerAs log text flat (Ok a) = IsAcceptedAs log text flat × IsAnalysis (language_of log) a
IsAnalysisAnswerAs log text flat (Err x) = IsRefusalAs log text x

-- what a machine runs for the flat form
abbrev pub IsTranslationAnswerAs : Log → (text : List ℕ) → f.Flat → Result Translated CompileError → Type 0
IsTranslationAnswerAs log text flat (Ok t) =
    IsAcceptedAs log text flat × (IsTranslatedAs log flat t.object t.marks t.cuts × IsResumableAs log flat t.object t.marks t.cuts t.resumes.items)
IsTranslationAnswerAs log text flat (Err x) = IsRefusalAs log text x

-- by all checks
abbrev pub IsFrontAnswerAs : Log → (text : List ℕ) → Result Flat CompileError → Type 0
IsFrontAnswerAs log text (Ok flat) = IsAcceptedAs log text (flat_of flat)
IsFrontAnswerAs log text (Err x) = IsRefusalAs log text x

-- ---- The same error, of each check

abbrev pub of_source : SourceError → CompileError
of_source (source.Refused x) = e.Refused x
of_source source.Memory = e.Memory

abbrev pub refused : Rule → Place → CompileError
refused found place = e.Refused (record { rule = found; place = place })

abbrev pub of_range : RangeError → CompileError
of_range (range.Index x) = refused rule.Index x.place
of_range (range.Null place) = refused rule.Null place
of_range range.Memory = e.Memory

abbrev pub of_inline : inline.InlineError → CompileError
of_inline (inline_error.Recursion place) = refused rule.Recursion place
of_inline (inline_error.Code place) = refused rule.Code place
of_inline inline_error.Memory = e.Memory
