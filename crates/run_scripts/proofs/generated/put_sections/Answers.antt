use Rattle.std.proofs.Common.{ℕ, List, ◌++◌, flat_map}
use Rattle.run_scripts.specs.GeneratedSources.{addend_of, four, mutex_of, section_line}
use Rattle.run_scripts.proofs.FourNumbers.{no_more, one_more}
use Rattle.run_scripts.proofs.generated.put_sections.Goals as goal

pub loop-statement-preserved : goal.loop-statement-preserved
loop-statement-preserved c =
    let f : ℕ → List ℕ = λ j. section_line (mutex_of c.args.seed c.args.thread j) (addend_of c.args.seed c.args.thread j) in
    one_more f c.loop-statement.statement c.loop-statement.text.items c.put_statement.new.text.items (c.args.text.now.items ++ flat_map f four)
    c.loop-statement-test.true
    c.in_ok-put_statement.ensures c.loop-statement.invariant

pub returns : goal.returns
returns c =
    let f : ℕ → List ℕ = λ j. section_line (mutex_of c.args.seed c.args.thread j) (addend_of c.args.seed c.args.thread j) in
    no_more f c.loop-statement.statement c.loop-statement.text.items (c.args.text.now.items ++ flat_map f four) c.loop-statement-test.false
    c.loop-statement.invariant
