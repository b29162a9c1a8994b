-- What is said to an input, and what came of writing it.
use Rattle.std.specs.Prelude.{◌≡◌, ◌<◌, ◌≤◌, ℕ, List, [], length, true, false, Option, None, Some, IfSome, codes}
use Rattle.ido_base.specs.declared.limits.TheConstants.{MOST_INPUT_BYTES}
use Rattle.ido_outside.specs.Causes.{Rose}
use Rattle.ido_outside.specs.Sink.{Adds, AddsPrefix}
use Rattle.ido_cli.specs.declared.said.Said.{Said}
use Rattle.command_words.specs.declared.command.Command.{Command}
use Rattle.command_words.specs.Commands.{reads_input}
use Rattle.ido_cli.specs.Answers.{AnswerToInput, Refuses}

-- What was taken of what was left where the source tells it: all of it, for a command that reads its input; nothing, for one that doesn't; none where it is
-- past every limit.
abbrev pub IsTaken : Command → (left : Option (List ℕ)) → (taken : Option (List ℕ)) → Type 0
IsTaken c left (Some bytes) =
    (length bytes ≤ MOST_INPUT_BYTES) × (reads_input c ≡ true → IfSome left (λ all. bytes ≡ all)) × (reads_input c ≡ false → bytes ≡ [])
IsTaken c left None = (reads_input c ≡ true) × IfSome left (λ all. MOST_INPUT_BYTES < length all)

-- the answer to an input of a command, which is what was left where the source tells it
pub record IsSaidToInput (c : Command) (left : Option (List ℕ)) (said : Said) : Type 0 where
  pub input : List ℕ
  pub told : IfSome left (λ bytes. input ≡ bytes)
  pub answer : AnswerToInput c input said.status said.output.items

-- what is said to words that aren't taken, or name this command
pub data IsSaidTo (named : Option Command) (left : Option (List ℕ)) (said : Said) : Type 0 where
  to_wrong_words : named ≡ None → Refuses 2 said.status (codes "words") said.output.items → IsSaidTo named left said
  to_command : (c : Command) → named ≡ Some c → IsSaidToInput c left said → IsSaidTo named left said

-- by the status that is answered then
pub data IsDelivered (said : Said) (written_before written : Option (List ℕ)) (faults_before faults : ℕ) (status : ℕ) : Type 0 where
  whole : status ≡ said.status → Adds written_before written said.output.items → IsDelivered said written_before written faults_before faults status
  broken : status ≡ 5 → Rose faults_before faults → AddsPrefix written_before written said.output.items →
      IsDelivered said written_before written faults_before faults status
