use Rattle.std.proofs.Common.{◌++◌, flat_map}
use Rattle.run_scripts.specs.GeneratedSources.{four, variable_item}
use Rattle.run_scripts.proofs.FourNumbers.{no_more, one_more}
use Rattle.run_scripts.proofs.generated.put_variables.Goals as goal

pub loop-variable-preserved : goal.loop-variable-preserved
loop-variable-preserved c =
    let f = variable_item in
    one_more f c.loop-variable.variable c.loop-variable.text.items c.put_variable.new.text.items (c.args.text.now.items ++ flat_map f four)
    c.loop-variable-test.true
    c.in_ok-put_variable.ensures c.loop-variable.invariant

pub returns : goal.returns
returns c =
    let f = variable_item in
    no_more f c.loop-variable.variable c.loop-variable.text.items (c.args.text.now.items ++ flat_map f four) c.loop-variable-test.false
    c.loop-variable.invariant
