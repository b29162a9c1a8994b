use Rattle.std.proofs.Common.{◌∙◌, ◌+◌, take, drop, get_or, arith}
use Rattle.std.proofs.lemmas.List.{length-take-le}
use Rattle.c_tree.specs.Source.{after_from, ended_from}
use Rattle.source_machine.specs.declared.answers.RefusedKind.TheVariants as kind
use Rattle.source_machine.proofs.StateRuns.{did_more, unknown, waits_stuck, ended_stuck, ran_all, ran_refused, ran_stuck, split_at, one_more, whole}
use Rattle.source_machine.proofs.state.SourceState.run.Goals as goal

pub returns-then-thread-len-clause-ran : goal.returns-then-thread-len-clause-ran
returns-then-thread-len-clause-ran c = λ s ended st.
    let xs = c.args.schedule.now in
    let i = c.loop-i.i in
    let g = c.loop-i.invariant.going s ended st in
    let size = length-take-le i xs (omega arith) in
    ran_refused c.loop-i.self s ended xs (take i xs) (get_or xs i 0) (drop (i + 1) xs) (record { kind = kind.UnknownThread; step = i + 1 })
    (split_at xs i c.loop-i-test.true) g.runs
    (unknown c.loop-i.self _ _ (get_or xs i 0) g.stands (omega (arith, c.len.ensures, c.if-thread-len.true, c.loop-i.self.threads.ok.0)))
    (omega (arith, size)) g.stands

pub returns-in-Waits-clause-ran : goal.returns-in-Waits-clause-ran
returns-in-Waits-clause-ran c = λ s ended st.
    let xs = c.args.schedule.now in
    let i = c.loop-i.i in
    let g = c.loop-i.invariant.going s ended st in
    let size = length-take-le i xs (omega arith) in
    let a = c.in-Waits.ensures.after (after_from s (take i xs)) (λ k. ended k + ended_from s (take i xs) k) g.stands in
    ran_stuck c.loop-i.self c.step.new.self s ended xs (take i xs) (get_or xs i 0) (drop (i + 1) xs) (record { kind = kind.Waits; step = i + 1 }) _
    (split_at xs i c.loop-i-test.true) g
    (waits_stuck c.loop-i.self _ _ (get_or xs i 0) g.stands c.in-Waits.lock
    (omega (arith, c.len.ensures, c.if-thread-len.false, c.loop-i.self.threads.ok.0)) a.answered) (omega (arith, size)) a

pub returns-in-Ended-clause-ran : goal.returns-in-Ended-clause-ran
returns-in-Ended-clause-ran c = λ s ended st.
    let xs = c.args.schedule.now in
    let i = c.loop-i.i in
    let g = c.loop-i.invariant.going s ended st in
    let size = length-take-le i xs (omega arith) in
    let a = c.in-Ended.ensures.after (after_from s (take i xs)) (λ k. ended k + ended_from s (take i xs) k) g.stands in
    ran_stuck c.loop-i.self c.step.new.self s ended xs (take i xs) (get_or xs i 0) (drop (i + 1) xs) (record { kind = kind.Ended; step = i + 1 }) _
    (split_at xs i c.loop-i-test.true) g
    (ended_stuck c.loop-i.self _ _ (get_or xs i 0) g.stands (omega (arith, c.len.ensures, c.if-thread-len.false, c.loop-i.self.threads.ok.0)) a.answered)
    (omega (arith, size)) a

pub loop-i-preserved : goal.loop-i-preserved
loop-i-preserved c = record {
  threads = c.in-Did.ensures.threads ∙ c.loop-i.invariant.threads;
  run = λ x r. c.in-Did.ensures.run x (c.loop-i.invariant.run x r);
  going = λ s ended st.
      let xs = c.args.schedule.now in
      let i = c.loop-i.i in
      let g = c.loop-i.invariant.going s ended st in
      one_more c.step.new.self s ended xs i c.loop-i-test.true
      (did_more c.loop-i.self c.step.new.self s ended (take i xs) (get_or xs i 0) g
      (c.in-Did.ensures.after (after_from s (take i xs)) (λ k. ended k + ended_from s (take i xs) k) g.stands));
}

pub returns-clause-ran : goal.returns-clause-ran
returns-clause-ran c = λ s ended st. ran_all c.loop-i.self s ended c.args.schedule.now
    (whole c.loop-i.self s ended c.args.schedule.now c.loop-i.i c.loop-i-test.false (c.loop-i.invariant.going s ended st))
