-- What is answered to a script that is read, and to one that isn't.
use Rattle.std.proofs.Common.{◌≡◌, ℕ, ◌+◌, ◌-◌, List, length, sym, ap, ◌∙◌, subst, Option, Some, None, IfSome, IsSome, All}
use Rattle.machine_model.specs.Machine as isa
use Rattle.log_schemes.specs.declared.log.Log.{Log}
use Rattle.machine_events.specs.declared.event.Event.{Event}
use Rattle.c_tree.specs.Flats as f
use Rattle.ido_compile.specs.LoggedTexts.{IsAcceptedAs}
use Rattle.run_scripts.specs.Scripts as e
use Rattle.run_scripts.specs.Scripts.{IsDoable}
use Rattle.run_scripts.specs.declared.script.Line.{Line}
use Rattle.compiler_correctness.specs.Translations.{Translation}
use Rattle.ido_cli.specs.Answers.{ScriptedAnswer, no_script, of_script}
use Rattle.ido_cli.specs.Inputs.{rest_of, source_of}
use Rattle.ido_cli.specs.Plays.{IsTranslationOf, ScriptAnswer}
use Rattle.ido_cli.specs.Refusals.{IsRefusedAt, script_fault_code, script_fault_place}

module _ (input rest : List ℕ) (flat : f.Flat) (log : Log) (harts : ℕ) (is : rest ≡ rest_of input) (many : harts ≡ length flat.threads)
    (accepted : IsAcceptedAs log (source_of input) flat)
    (Says : Translation → List Event → ℕ → List ℕ → Type 0) where
  read_is : e.read log (length flat.threads) (rest_of input) ≡ e.read log harts rest
  read_is = ap (λ (n : ℕ). e.read log n (rest_of input)) (sym many) ∙ sym (ap (e.read log harts) is)

  pub script_fault_answer : (o : Option e.Fault) (status : ℕ) (output : List ℕ) → IsSome o → IfSome o (λ x. e.read log harts rest ≡ e.Refused x) →
      IfSome o (λ x. IsRefusedAt 6 (script_fault_code x) input (length input - length rest + script_fault_place x) status output) →
      ScriptedAnswer log Says input status output
  script_fault_answer (Some x) status output some read said =
      no_script flat accepted x (read_is ∙ read)
      (subst (λ (r : List ℕ). IsRefusedAt 6 (script_fault_code x) input (length input - length r + script_fault_place x) status output) is said)
  script_fault_answer None status output some read said = absurd (cc some)

  pub script_run_answer : (lines : List e.Line) (c : Translation) (status : ℕ) (output : List ℕ) → e.read log harts rest ≡ e.Lines lines →
      IsTranslationOf log flat c →
      ScriptAnswer c (Says c) (record { lines = lines; input = input; begins = length input - length rest }) status output →
      ScriptedAnswer log Says input status output
  script_run_answer lines c status output read translation answer =
      of_script flat accepted lines (read_is ∙ read) c translation
      (subst (λ (r : List ℕ). ScriptAnswer c (Says c) (record { lines = lines; input = input; begins = length input - length r }) status output) is
      answer)

-- what exists at so many harts
pub all_doable : (log own : Log) (harts many : ℕ) (lines : List Line) → own ≡ log → harts ≡ many →
    All (λ (line : Line). IsDoable harts (isa.IsEviction own harts) line.command) lines →
    All (λ (line : Line). IsDoable many (isa.IsEviction log many) line.command) lines
all_doable log own harts many lines logs same all =
    subst (λ (l : Log). All (λ (line : Line). IsDoable many (isa.IsEviction l many) line.command) lines) logs
    (subst (λ (n : ℕ). All (λ (line : Line). IsDoable n (isa.IsEviction own n) line.command) lines) same all)
