use Rattle.std.proofs.Common.{ap, ◌∙◌, arith, ◌++◌, ◌∷◌, []}
use Rattle.run_scripts.specs.Draws.{drawn_words, events_from}
use Rattle.run_scripts.proofs.DrawnRuns.{drawn_on, drawn_out, some_threads}
use Rattle.run_scripts.proofs.draw.draw.Goals as goal

pub loop-draws-preserved : goal.loop-draws-preserved
loop-draws-preserved c =
    let crashes = c.args.crashes.now in
    let log = c.args.log in
    let threads = c.args.threads in
    let lines = c.args.lines in (
      drawn_on crashes log threads lines c.loop-draws.draws c.args.turns c.loop-draws.words c.next_word-word.result c.next_word-word.new.self
          (events_from crashes log threads lines 0 (drawn_words c.args.seed c.args.turns)) c.loop-draws.events.items c.push_due_crashes.new.events.items
          c.push.new.events.items c.loop-draws-test.true c.next_word-word.ensures c.in_ok-next.ensures.events
          (c.in_ok-push.ensures ∙ ap (λ e. c.push_due_crashes.new.events.items ++ e ∷ []) c.drawn_event.ensures) c.loop-draws.invariant.0,
      c.in_ok-next.ensures.quiet,
    )

pub returns : goal.returns
returns c =
    let crashes = c.args.crashes.now in
    let log = c.args.log in
    let threads = c.args.threads in
    let lines = c.args.lines in
    drawn_out crashes log threads lines c.loop-draws.draws c.args.turns c.loop-draws.words c.count_at.result
    (events_from crashes log threads lines 0 (drawn_words c.args.seed c.args.turns)) c.loop-draws.events.items c.push_crashes.new.events.items
    c.loop-draws-test.false c.loop-draws.auto.draws-end c.count_at.ensures c.in_ok-push_crashes.ensures c.loop-draws.invariant.0
    ∙ some_threads crashes log threads lines c.args.seed c.args.turns (omega (arith, c.if-threads-eq0.false))
