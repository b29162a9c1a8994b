-- What is answered to a source that isn't compiled.
use Rattle.std.proofs.Common.{◌≡◌, ℕ, Bool, List, ap, ◌∙◌, subst}
use Rattle.std.specs.Prelude.{Err}
use Rattle.log_schemes.specs.declared.log.Log.{Log}
use Rattle.machine_events.specs.declared.event.Event.{Event}
use Rattle.ido_compile.specs.LoggedTexts.{IsRefusedAs}
use Rattle.flat_compile.specs.TranslatedForms.{command_log}
use Rattle.compiler_correctness.specs.Translations.{Translation}
use Rattle.ido_compile.specs.CompileAnswers.{IsCompileAnswerAs}
use Rattle.ido_compile.specs.links.FrontEndAnswers.{IsFrontAnswerAs, IsRefusalAs}
use Rattle.ido_compile.specs.declared.error.CompileError.{CompileError}
use Rattle.ido_compile.specs.declared.error.CompileError.TheVariants as error
use Rattle.ido_cli.specs.Answers.{CompileAnswer, uncompiled, OrderAnswer, unlocked, RegionsAnswer, uncut}
use Rattle.ido_cli.specs.Answers.{ScriptedAnswer, unplayed, SourceAnswer, unaccepted, SeededAnswer, undrawn}
use Rattle.ido_cli.specs.Inputs.{source_of}
use Rattle.ido_cli.specs.Refusals.{code_of, line_at}
use Rattle.ido_cli.specs.links.CompileRefusals.{TellsRefusal}

pub compile_refused : (log : Log) (source : List ℕ) (found : CompileError) → IsCompileAnswerAs log source (Err found) → (status : ℕ) (output : List ℕ) →
    TellsRefusal found source status output → CompileAnswer log source status output
compile_refused log source (error.Refused x) refused status output told = uncompiled x.rule x.place refused told
compile_refused log source error.Memory refused status output none = absurd none

pub regions_refused : (least : Bool) (source : List ℕ) (found : CompileError) → IsRefusalAs command_log source found → (status : ℕ) (output : List ℕ) →
    TellsRefusal found source status output → RegionsAnswer least source status output
regions_refused least source (error.Refused x) refused status output told = uncut x.rule x.place refused told
regions_refused least source error.Memory refused status output none = absurd none

pub order_refused : (source : List ℕ) (found : CompileError) → IsFrontAnswerAs command_log source (Err found) → (status : ℕ) (output : List ℕ) →
    TellsRefusal found source status output → OrderAnswer source status output
order_refused source (error.Refused x) refused status output told = unlocked x.rule x.place refused told
order_refused source error.Memory refused status output none = absurd none

pub draw_refused : (log : Log) (seed turns : ℕ) (crashes : List ℕ) (journal : Bool) (source : List ℕ) (found : CompileError) →
    IsCompileAnswerAs log source (Err found) → (status : ℕ) (output : List ℕ) →
    TellsRefusal found source status output → SeededAnswer log seed turns crashes journal source status output
draw_refused log seed turns crashes journal source (error.Refused x) refused status output told = undrawn x.rule x.place refused told
draw_refused log seed turns crashes journal source error.Memory refused status output none = absurd none

-- the source of an input
module _ (source input : List ℕ) (is : source ≡ source_of input) where
  pub run_refused : (found : CompileError) → IsFrontAnswerAs command_log source (Err found) → (status : ℕ) (output : List ℕ) →
      TellsRefusal found source status output →
      SourceAnswer input status output
  run_refused (error.Refused x) refused status output (one, told) =
      unaccepted x.rule x.place (subst (λ (text : List ℕ). IsRefusedAs command_log text x.rule x.place) is refused)
      (one, told ∙ ap (λ (text : List ℕ). line_at (code_of x.rule) text x.place.0) is)
  run_refused error.Memory refused status output none = absurd none

  pub script_refused : (log : Log) (Says : Translation → List Event → ℕ → List ℕ → Type 0) (found : CompileError) →
      IsCompileAnswerAs log source (Err found) → (status : ℕ) (output : List ℕ) → TellsRefusal found source status output →
      ScriptedAnswer log Says input status output
  script_refused log Says (error.Refused x) refused status output (one, told) =
      unplayed x.rule x.place (subst (λ (text : List ℕ). IsRefusedAs log text x.rule x.place) is refused)
      (one, told ∙ ap (λ (text : List ℕ). line_at (code_of x.rule) text x.place.0) is)
  script_refused log Says error.Memory refused status output none = absurd none
