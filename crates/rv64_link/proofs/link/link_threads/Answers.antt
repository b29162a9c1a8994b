use Rattle.std.proofs.Common.{arith}
use Rattle.rv64_link.proofs.Threads.{count_more, linked_more}
use Rattle.rv64_link.proofs.link.link_threads.Goals as goal

pub loop-items-preserved : goal.loop-items-preserved
loop-items-preserved c =
    let words = c.in_ok-words.words in
    let i = c.loop-items.items-index in
    record {
      linked =
          linked_more c.args.threads.now i c.loop-items.first c.loop-items.code.items c.push.new.self.items c.loop-items.marks.items
          c.push-in-loop-items.new.self.items _ c.items-item.result words c.in_ok-words.thread_marks c.deref.result.now
          c.loop-items-test.true c.items-item.is c.deref.ensures.value c.in_ok-push.ensures.items c.in_ok-push-2.ensures.items c.loop-items.invariant.linked
          c.loop-items.invariant.first c.in_ok-words.ensures.linked;
      first =
          omega (
            arith,
            c.len.ensures,
            words.ok,
            count_more c.loop-items.code.items c.push.new.self.items words c.loop-items.first c.in_ok-push.ensures.items c.loop-items.invariant.first,
          );
      low = omega (arith, c.loop-items.invariant.low, c.in_ok-words.ensures.few, c.len.ensures, words.ok);
    }
