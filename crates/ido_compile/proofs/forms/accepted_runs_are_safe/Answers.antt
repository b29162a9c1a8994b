-- The flat form is well formed, so each state of its lives is one of it.
use Rattle.thread_code.specs.Plans.{language_of}
use Rattle.ido_compile.proofs.SourceLives.{lives_so}
use Rattle.ido_compile.proofs.forms.accepted_runs_are_safe.Goals as goal

pub returns-clause-runs : goal.returns-clause-runs
returns-clause-runs c = λ log text flat lives h.
    let kept = c.values_keep_to_their_kinds.ensures in
    lives_so kept.begins kept.stays flat (c.flattened_is_formed.ensures (language_of log) text flat h.form) lives

pub returns-clause-values : goal.returns-clause-values
returns-clause-values c = λ log text flat lives thread it y rest h n.
    let kept = c.values_keep_to_their_kinds.ensures in
    let state = lives_so kept.begins kept.stays flat (c.flattened_is_formed.ensures (language_of log) text flat h.form) lives in
    c.indexes_stay_in_range.ensures.values flat _ thread it y rest state n

pub returns-clause-indexes : goal.returns-clause-indexes
returns-clause-indexes c = λ log text flat lives thread it y rest h n.
    let kept = c.values_keep_to_their_kinds.ensures in
    let state = lives_so kept.begins kept.stays flat (c.flattened_is_formed.ensures (language_of log) text flat h.form) lives in
    c.indexes_stay_in_range.ensures.indexes flat _ thread it y rest state n

pub returns-clause-references : goal.returns-clause-references
returns-clause-references c = λ log text flat lives thread it y rest h n.
    let kept = c.values_keep_to_their_kinds.ensures in
    let state = lives_so kept.begins kept.stays flat (c.flattened_is_formed.ensures (language_of log) text flat h.form) lives in
    c.references_hold.ensures flat _ thread it y rest state n
