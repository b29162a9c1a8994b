-- What refuses a text in the language of a log, or accepts it, does so for the log.
use Rattle.std.proofs.Common.{◌≡◌, refl, subst, ℕ, List, Some, IfSome}
use Rattle.std.specs.Prelude.{Err}
use Rattle.log_schemes.specs.declared.log.Log.{Log}
use Rattle.ido_base.specs.declared.place.Place.{Place}
use Rattle.c_tree.specs.declared.language.Language.{Language}
use Rattle.c_tree.specs.AcceptedTexts.{IsTyped, IsRanged}
use Rattle.c_tree.specs.Flats as f
use Rattle.c_tree.specs.HoldPrices.{price_fault}
use Rattle.c_tree.specs.Inlining.{flat_form}
use Rattle.c_tree.specs.Programs as p
use Rattle.c_tree.specs.TextReadings.{IsRead, IsRefused}
use Rattle.c_tree.specs.Trees.{Item}
use Rattle.c_tree.specs.TypeRules.{IsFirst, type_faults}
use Rattle.c_tree.specs.declared.rule.Rule.{Rule}
use Rattle.c_tree.specs.Refusals.{fault_in, fault_of}
use Rattle.c_tree.specs.declared.refusal.SourceError.{SourceError}
use Rattle.c_tree.specs.declared.refusal.SourceError.TheVariants as source
use Rattle.c_typer.specs.Answers.{Answers}
use Rattle.c_ranges.specs.Faults.{IsFaultOf}
use Rattle.c_ranges.specs.declared.checking.RangeError.{RangeError}
use Rattle.c_ranges.specs.declared.checking.RangeError.TheVariants as range
use Rattle.c_inline.specs.Inline.{IsInlining}
use Rattle.c_inline.specs.declared.inline.InlineError as inline
use Rattle.c_inline.specs.declared.inline.InlineError.TheVariants as inline_error
use Rattle.flat_analysis.specs.CompilableForms.{IsAcceptedForm, IsFormRefusal, IsRefusedForm}
use Rattle.flat_analysis.specs.CompilableForms as form
use Rattle.thread_code.specs.Plans.{language_of}
use Rattle.ido_compile.specs.CompileAnswers.{IsCompileAnswerAs}
use Rattle.ido_compile.specs.LoggedTexts.{IsAcceptedAs, IsFlattenedAs, IsRefusedAs}
use Rattle.ido_compile.specs.LoggedTexts as logged
use Rattle.ido_compile.specs.links.FrontEndAnswers.{IsRefusalAs, of_range, of_inline, of_source}
use Rattle.ido_compile.specs.declared.error.CompileError.{CompileError}
use Rattle.ido_compile.specs.declared.error.CompileError.TheVariants as error

-- ---- Checks up to the flat form, in a language that is the log's

module _ (l : Language) (log : Log) (text : List ℕ) (same : l ≡ language_of log) where
  pub reading_refused : (e : SourceError) → IfSome (fault_in e) (λ x. IsRefused l text x.rule x.place) → IsRefusalAs log text (of_source e)
  reading_refused (source.Refused x) h = logged.unread (subst (λ (k : Language). IsRefused k text x.rule x.place) same h)
  reading_refused source.Memory h = tt

  pub typing_refused : (items : List Item) (e : SourceError) → IsRead l text items → Answers l items (Err e) → IsRefusalAs log text (of_source e)
  typing_refused items (source.Refused x) is h =
      logged.mistyped items (subst (λ (k : Language). IsRead k text items) same is)
      (subst (λ (k : Language). IsFirst (type_faults k items) (fault_of x)) same h)
  typing_refused items source.Memory is h = tt

  pub range_refused : (x : p.Program) (e : RangeError) → IsTyped l text x → IsFaultOf x e → IsRefusalAs log text (of_range e)
  range_refused x (range.Index e) is h = logged.outside x (subst (λ (k : Language). IsTyped k text x) same is) h.0
  range_refused x (range.Null place) is h = logged.outside x (subst (λ (k : Language). IsTyped k text x) same is) h
  range_refused x range.Memory is h = tt

  pub calls_refused : (x : p.Program) (e : inline.InlineError) → IsRanged l text x → IsInlining l x (Err e) → IsRefusalAs log text (of_inline e)
  calls_refused x (inline_error.Recursion place) is h = logged.leads_back x (subst (λ (k : Language). IsRanged k text x) same is) h refl
  calls_refused x (inline_error.Code place) is h =
      logged.too_long x (subst (λ (k : Language). IsRanged k text x) same is) h.0
      (subst (λ (k : Language). price_fault k (flat_form x) ≡ Some place) same h.1) refl
  calls_refused x inline_error.Memory is h = tt

-- ---- Checks of the flat form

module _ (log : Log) (text : List ℕ) where
  module _ (flat : f.Flat) (is : IsFlattenedAs log text flat) where
    refused_form : (found : Rule) (place : Place) → IsRefusedForm (language_of log) flat found place → IsRefusedAs log text found place
    refused_form found place (form.undisciplined x h rule_is place_is) = logged.undisciplined flat x is h rule_is place_is
    refused_form found place (form.crowded wanted locks h rule_is) = logged.crowded flat wanted is locks h rule_is
    refused_form found place (form.too_deep locks room h rule_is) = logged.too_deep flat is locks room h rule_is

    pub form_refused : (e : SourceError) → IsFormRefusal (language_of log) flat e → IsRefusalAs log text (of_source e)
    form_refused (source.Refused x) h = refused_form x.rule x.place h
    form_refused source.Memory h = tt

    pub form_accepted : IsAcceptedForm (language_of log) flat → IsAcceptedAs log text flat
    form_accepted h = record { form = is; disciplined = h.disciplined; room = h.room; shallow = h.shallow }

  pub not_compiled : (x : CompileError) → IsRefusalAs log text x → IsCompileAnswerAs log text (Err x)
  not_compiled (error.Refused x) h = h
  not_compiled error.Memory h = tt
