use Rattle.std.proofs.Common.{◌++◌, flat_map}
use Rattle.run_scripts.specs.GeneratedSources.{four, thread_item}
use Rattle.run_scripts.proofs.FourNumbers.{no_more, one_more}
use Rattle.run_scripts.proofs.generated.put_threads.Goals as goal

pub loop-thread-preserved : goal.loop-thread-preserved
loop-thread-preserved c =
    let f = thread_item c.args.rounds c.args.seed in
    one_more f c.loop-thread.thread c.loop-thread.text.items c.put_thread.new.text.items (c.args.text.now.items ++ flat_map f four) c.loop-thread-test.true
    c.in_ok-put_thread.ensures c.loop-thread.invariant

pub returns : goal.returns
returns c =
    let f = thread_item c.args.rounds c.args.seed in
    no_more f c.loop-thread.thread c.loop-thread.text.items (c.args.text.now.items ++ flat_map f four) c.loop-thread-test.false c.loop-thread.invariant
