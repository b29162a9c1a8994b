use Rattle.std.proofs.Common.{◌+◌, ◌∙◌, ap, drop, sym}
use Rattle.std.specs.List.{prefix_len}
use Rattle.run_scripts.specs.Schedules.{is_digit}
use Rattle.run_scripts.specs.links.ScriptViews.{rule_of}
use Rattle.run_scripts.proofs.Gaps.{up_to_end}
use Rattle.run_scripts.proofs.LineReader.{no_number}
use Rattle.run_scripts.proofs.script.number.Goals as goal

pub returns-then-digits-eq0-clause-refused : goal.returns-then-digits-eq0-clause-refused
returns-then-digits-eq0-clause-refused c = λ after.
    let text = c.args.line.now in
    let rest = up_to_end text c.args.at in
    no_number (rule_of c.args.rule) (drop c.args.at text) (c.args.place + c.args.at) after
    (sym (ap (prefix_len is_digit) rest) ∙ (sym c.leading_digits-digits.ensures.count ∙ c.if-digits-eq0.true))
