use Rattle.std.proofs.Common.{ap, sym, ◌∙◌}
use Rattle.std.specs.Option.{option_map}
use Rattle.ido_cli.proofs.InputSteps.{source_to_mark, rest_after_mark, source_to_end, no_rest}
use Rattle.ido_cli.proofs.input.split.Goals as goal

pub returns-in-Some-clause-source : goal.returns-in-Some-clause-source
returns-in-Some-clause-source c =
    source_to_mark c.loop-i.begins c.args.input.now c.in-Some.rest.now c.loop-i.i c.loop-i-test.true c.loop-i.invariant.0
    (sym c.after_mark_at.ensures ∙ ap (option_map (λ r. r.now)) c.in-Some.is)

pub returns-in-Some-clause-rest : goal.returns-in-Some-clause-rest
returns-in-Some-clause-rest c =
    rest_after_mark c.loop-i.begins c.args.input.now c.in-Some.rest.now c.loop-i.i c.loop-i-test.true c.loop-i.invariant.1
    (sym c.after_mark_at.ensures ∙ ap (option_map (λ r. r.now)) c.in-Some.is)

pub returns-clause-source : goal.returns-clause-source
returns-clause-source c = source_to_end c.loop-i.begins c.args.input.now c.loop-i.i c.loop-i-test.false c.loop-i.invariant.0

pub returns-clause-rest : goal.returns-clause-rest
returns-clause-rest c = no_rest c.loop-i.begins c.args.input.now c.loop-i.i c.loop-i-test.false c.loop-i.invariant.1
