-- What is said of a schedule that isn't read, or that can't be made.
use Rattle.std.proofs.Common.{◌≡◌, ℕ, ◌+◌, ◌-◌, List, length, sym, ap, ◌∙◌, subst, Option, Some, None, IfSome, IsSome, IfOk}
use Rattle.std.specs.Prelude.{Result, Ok, Err}
use Rattle.c_tree.specs.Flats as f
use Rattle.ido_compile.specs.LoggedTexts.{IsAcceptedAs}
use Rattle.flat_compile.specs.TranslatedForms.{command_log}
use Rattle.run_scripts.specs.Schedules as s
use Rattle.ido_cli.specs.Answers.{SourceAnswer, no_schedule}
use Rattle.ido_cli.specs.Inputs.{rest_of, source_of}
use Rattle.ido_cli.specs.Refusals.{IsRefusedAt, fault_code, fault_place}

pub both_ok : {X E : Type 0} (r : Result X E) (P Q : X → Type 0) → IfOk r P → IfOk r Q → IfOk r (λ x. P x × Q x)
both_ok (Ok x) P Q p q = (p, q)
both_ok (Err e) P Q p q = tt

pub fault_answer : (input rest : List ℕ) (flat : f.Flat) (o : Option s.Fault) (status : ℕ) (output : List ℕ) → rest ≡ rest_of input → IsSome o →
    IfSome o (λ x. s.read rest ≡ s.Refused x) → IfSome o (λ x. IsRefusedAt 6 (fault_code x) input (length input - length rest + fault_place x) status output) →
    IsAcceptedAs command_log (source_of input) flat → SourceAnswer input status output
fault_answer input rest flat (Some x) status output is some read said accepted =
    no_schedule flat accepted x (sym (ap s.read is) ∙ read)
    (subst (λ (r : List ℕ). IsRefusedAt 6 (fault_code x) input (length input - length r + fault_place x) status output) is said)
fault_answer input rest flat None status output is some read said accepted = absurd (cc some)
