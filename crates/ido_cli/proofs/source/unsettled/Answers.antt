use Rattle.std.proofs.Common.{◌≡◌, ◌<◌, rules, true, false, not, length, arith}
use Rattle.c_tree.specs.Source.{is_between}
use Rattle.ido_cli.specs.Runs.{unsettled_threads}
use Rattle.ido_cli.proofs.GatheredReports.{filter_passed, filter_pushed, filter_whole}
use Rattle.ido_cli.proofs.source.unsettled.Goals.{then-not-between+in_ok-push, else-not-between}
use Rattle.ido_cli.proofs.source.unsettled.Goals as goal

pub loop-thread-preserved : goal.loop-thread-preserved
loop-thread-preserved c = record {
  end = c.loop-thread.invariant.end;
  so_far = λ s ended stands.
      let k = c.loop-thread.thread in
      let within : k < length s.threads = omega (arith, c.loop-thread-test.true, c.loop-thread.invariant.end, stands.count) in
      let is = c.between.ensures s ended stands in
      elim c.if-not-between.branch [
        | then-not-between+in_ok-push w ↦
            filter_pushed (λ t. not (is_between s t)) c.loop-thread.threads.items (unsettled_threads s) c.if-not-between.threads.items
            (length s.threads) k within
            (let e : not (is_between s k) ≡ true = search (rules, is, w.if-not-between) in e)
            (search (rules, w.threads-is, w.push.ensures.items)) (c.loop-thread.invariant.so_far s ended stands)
        | else-not-between w ↦
            filter_passed (λ t. not (is_between s t)) c.loop-thread.threads.items (unsettled_threads s) c.if-not-between.threads.items
            (length s.threads) k within
            (let e : not (is_between s k) ≡ false = search (rules, is, w.if-not-between) in e)
            (search (rules, w.threads-is)) (c.loop-thread.invariant.so_far s ended stands)
      ];
}

pub returns : goal.returns
returns c = λ s ended stands.
    filter_whole (λ t. not (is_between s t)) c.loop-thread.threads.items (unsettled_threads s) (length s.threads) c.loop-thread.thread
    (omega (arith, c.loop-thread-test.false, c.loop-thread.invariant.end, stands.count)) (c.loop-thread.invariant.so_far s ended stands)
