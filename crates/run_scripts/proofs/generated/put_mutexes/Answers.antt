use Rattle.std.proofs.Common.{◌++◌, flat_map}
use Rattle.run_scripts.specs.GeneratedSources.{four, mutex_item}
use Rattle.run_scripts.proofs.FourNumbers.{no_more, one_more}
use Rattle.run_scripts.proofs.generated.put_mutexes.Goals as goal

pub loop-mutex-preserved : goal.loop-mutex-preserved
loop-mutex-preserved c =
    let f = mutex_item in
    one_more f c.loop-mutex.mutex c.loop-mutex.text.items c.put_mutex.new.text.items (c.args.text.now.items ++ flat_map f four) c.loop-mutex-test.true
    c.in_ok-put_mutex.ensures c.loop-mutex.invariant

pub returns : goal.returns
returns c =
    let f = mutex_item in
    no_more f c.loop-mutex.mutex c.loop-mutex.text.items (c.args.text.now.items ++ flat_map f four) c.loop-mutex-test.false c.loop-mutex.invariant
