use Rattle.std.proofs.Common.{◌∙◌}
use Rattle.run_scripts.specs.links.ScriptViews.{rule_of}
use Rattle.run_scripts.proofs.LineReader.{argument_number, after_space, after_space_err}
use Rattle.run_scripts.proofs.script.argument.Goals as goal

pub returns-then-line-at-eq32-clause-number : goal.returns-then-line-at-eq32-clause-number
returns-then-line-at-eq32-clause-number c =
    after_space c.number.result _ _ (λ x h. λ after.
    argument_number (rule_of c.args.rule) c.args.line.now c.args.place c.args.at after c.if-at-line.true c.if-line-at-eq32.true ∙ h after)
    c.number.ensures.number

pub returns-then-line-at-eq32-clause-refused : goal.returns-then-line-at-eq32-clause-refused
returns-then-line-at-eq32-clause-refused c =
    after_space_err c.number.result _ _
    (λ x h. λ after. argument_number (rule_of c.args.rule) c.args.line.now c.args.place c.args.at after c.if-at-line.true c.if-line-at-eq32.true ∙ h after)
    c.number.ensures.refused
