-- What an input within its limits is answered.
use Rattle.std.proofs.Common.{◌≡◌, inl, inr, ℕ, ◌<◌, ◌≤◌, Bool, Option, List, length, subst, arith}
use Rattle.std.specs.Prelude.{IfOk, Result, Ok, Err, codes}
use Rattle.ido_base.specs.declared.limits.TheConstants.{MOST_INPUT_BYTES, MOST_SOURCE_BYTES}
use Rattle.file_fields.specs.Fields as fields
use Rattle.object_format.specs.ObjectDecoder as o
use Rattle.command_words.specs.declared.command.Command.TheVariants as command
use Rattle.command_words.specs.declared.scheme.SchemeName.{SchemeName}
use Rattle.ido_cli.specs.declared.answer.Product.{Product}
use Rattle.ido_cli.specs.declared.answer.Product.TheVariants as products
use Rattle.ido_cli.specs.declared.play.Asked.{Asked}
use Rattle.ido_cli.specs.declared.play.Asked.TheVariants as asks
use Rattle.ido_cli.specs.declared.said.Said.{Said}
use Rattle.ido_cli.specs.Answers.{AnswerToInput, CommandAnswer, IsSourcePastLimits, ListAnswer, LiveAnswer, Refuses}
use Rattle.ido_cli.specs.Answers.{ScriptedAnswer, SeededAnswer, SourceAnswer, SweepAnswer, no_object, past_limits, within_limits}
use Rattle.ido_cli.specs.Inputs.{source_of}
use Rattle.ido_cli.specs.Schemes.{log_by}
use Rattle.ido_cli.specs.links.RunRequests.{Says, TellsLives, command_asking, command_making}
use Rattle.command_words.specs.declared.scheme.SchemeName.TheVariants.{Ido, Justdo}
use Rattle.ido_cli.specs.Refusals.{line_at_byte, object_fault_code, object_fault_place}

pub refuses : {E : Type 0} (input : List ℕ) (fault : fields.Fault) (r : Result Said E) → o.read input ≡ Err fault → IfOk r (λ said. said.status ≡ 6)
    → IfOk r (λ said. said.output.items ≡ line_at_byte (object_fault_code fault) (object_fault_place fault)) →
    IfOk r (λ said. ListAnswer input said.status said.output.items)
refuses input fault (Ok said) read status output = no_object fault read status output
refuses input fault (Err e) read status output = tt

not_past : (input : List ℕ) → length input ≤ MOST_INPUT_BYTES → length (source_of input) ≤ MOST_SOURCE_BYTES → IsSourcePastLimits input → ⊥
not_past input short short_source (inl long) = omega (arith, short, long)
not_past input short short_source (inr long) = omega (arith, short_source, long)

pub made : {E : Type 0} (product : Product) (input : List ℕ) (r : Result Said E) → length input ≤ MOST_SOURCE_BYTES
    → IfOk r (λ said. CommandAnswer (command_making product) input said.status said.output.items) →
    IfOk r (λ said. AnswerToInput (command_making product) input said.status said.output.items)
made (products.Object scheme) input (Ok said) short answer = within_limits (λ long. omega (arith, short, long)) answer
made (products.Regions least) input (Ok said) short answer = within_limits (λ long. omega (arith, short, long)) answer
made products.Order input (Ok said) short answer = within_limits (λ long. omega (arith, short, long)) answer
made product input (Err e) short answer = tt

pub draws : {E : Type 0} (scheme : SchemeName) (seed turns : ℕ) (crashes : List ℕ) (journal : Bool) (input : List ℕ) (r : Result Said E) →
    length input ≤ MOST_SOURCE_BYTES
    → IfOk r (λ said. SeededAnswer (log_by scheme) seed turns crashes journal input said.status said.output.items) →
    IfOk r (λ said. AnswerToInput (command.Seeded seed turns crashes journal scheme) input said.status said.output.items)
draws scheme seed turns crashes journal input (Ok said) short answer = within_limits (λ long. omega (arith, short, long)) answer
draws scheme seed turns crashes journal input (Err e) short answer = tt

pub lives : {E : Type 0} (scheme : SchemeName) (turns : ℕ) (crashes : List ℕ) (evict : Option ℕ) (journal : Bool) (input : List ℕ) (r : Result Said E) →
    length input ≤ MOST_SOURCE_BYTES → IfOk r (λ said. LiveAnswer (log_by scheme) turns crashes evict journal input said.status said.output.items) →
    IfOk r (λ said. AnswerToInput (command.Live turns crashes evict journal scheme) input said.status said.output.items)
lives scheme turns crashes evict journal input (Ok said) short answer = within_limits (λ long. omega (arith, short, long)) answer
lives scheme turns crashes evict journal input (Err e) short answer = tt

-- where the limit is past, whatever is made
pub made_past : (product : Product) (input : List ℕ) (status : ℕ) (output : List ℕ) → MOST_SOURCE_BYTES < length input →
    Refuses 6 status (codes "limit") output →
    AnswerToInput (command_making product) input status output
made_past (products.Object scheme) input status output past refuses = past_limits past refuses
made_past (products.Regions least) input status output past refuses = past_limits past refuses
made_past products.Order input status output past refuses = past_limits past refuses

pub plays : {E : Type 0} (scheme : SchemeName) (asked : Asked) (input source : List ℕ) (r : Result Said E) → length input ≤ MOST_INPUT_BYTES →
    length source ≤ MOST_SOURCE_BYTES → source ≡ source_of input
    → IfOk r (λ said. ScriptedAnswer (log_by scheme) (Says asked (source_of input)) input said.status said.output.items) →
    IfOk r (λ said. AnswerToInput (command_asking asked scheme) input said.status said.output.items)
plays scheme (asks.Report fences) input source (Ok said) short short_source is answer =
    within_limits (not_past input short (subst (λ s. length s ≤ MOST_SOURCE_BYTES) is short_source)) answer
plays scheme asks.Image input source (Ok said) short short_source is answer =
    within_limits (not_past input short (subst (λ s. length s ≤ MOST_SOURCE_BYTES) is short_source)) answer
plays scheme asked input source (Err e) short short_source is answer = tt

pub scheme_tells : (scheme : SchemeName) → TellsLives (log_by scheme)
scheme_tells Ido lives counted = counted
scheme_tells Justdo lives counted = counted

-- where the limits are past, whatever is asked
pub plays_past : (scheme : SchemeName) (asked : Asked) (input : List ℕ) (status : ℕ) (output : List ℕ) → IsSourcePastLimits input →
    Refuses 6 status (codes "limit") output →
    AnswerToInput (command_asking asked scheme) input status output
plays_past scheme (asks.Report fences) input status output past refuses = past_limits past refuses
plays_past scheme asks.Image input status output past refuses = past_limits past refuses

pub runs : {E : Type 0} (input source : List ℕ) (r : Result Said E) → length input ≤ MOST_INPUT_BYTES → length source ≤ MOST_SOURCE_BYTES →
    source ≡ source_of input
    → IfOk r (λ said. SourceAnswer input said.status said.output.items) → IfOk r (λ said. AnswerToInput command.Source input said.status said.output.items)
runs input source (Ok said) short short_source is answer =
    within_limits (not_past input short (subst (λ s. length s ≤ MOST_SOURCE_BYTES) is short_source)) answer
runs input source (Err e) short short_source is answer = tt

pub sweeps : {E : Type 0} (scheme : SchemeName) (input source : List ℕ) (r : Result Said E) → length input ≤ MOST_INPUT_BYTES →
    length source ≤ MOST_SOURCE_BYTES → source ≡ source_of input
    → IfOk r (λ said. SweepAnswer (log_by scheme) input said.status said.output.items) →
    IfOk r (λ said. AnswerToInput (command.Sweep scheme) input said.status said.output.items)
sweeps scheme input source (Ok said) short short_source is answer =
    within_limits (not_past input short (subst (λ s. length s ≤ MOST_SOURCE_BYTES) is short_source)) answer
sweeps scheme input source (Err e) short short_source is answer = tt
