use Rattle.std.proofs.Common.{◌≡◌, ◌+◌, ◌∙◌, ℕ, List, length, map, ap, arith}
use Rattle.std.specs.Prelude.{Vec}
use Rattle.std.specs.Global.{Global}
use Rattle.std.proofs.lemmas.List.{length-map, take_all}
use Rattle.run_tracker.specs.links.AccountRepresentation.{ends_from}
use Rattle.run_tracker.specs.links.EarlierLives.{schedule_in}
use Rattle.run_tracker.proofs.LivesEnd.{as_many_ends}
use Rattle.run_tracker.proofs.EarlierSchedules.{one_end_more, steps_more, steps_within}
use Rattle.run_tracker.proofs.earlier.ends_of.Goals as goal

pub overflow_add-end : goal.overflow_add-end
overflow_add-end c =
    let v = c.life-item.result in
    omega (
      arith,
      steps_within c.args.lives.now c.loop-life.life-index v c.loop-life-test.true c.life-item.is,
      c.loop-life.invariant.end,
      c.requires,
      c.len.ensures,
      v.ok.0,
    )

pub loop-life-preserved : goal.loop-life-preserved
loop-life-preserved c =
    let lives = c.args.lives.now in
    let i = c.loop-life.life-index in
    let v = c.life-item.result in
    let inv = c.loop-life.invariant in
    let size : c.len.result ≡ length v.items = omega (arith, c.len.ensures, v.ok.0) in
    record {
      ends = one_end_more lives i v c.loop-life-test.true c.life-item.is c.loop-life.ends.items c.push_reserved.new.self.items
          (c.loop-life.end + c.len.result) inv.ends (omega (arith, inv.end, size)) c.push_reserved.ensures.items;
      end = omega (arith, steps_more lives i v c.loop-life-test.true c.life-item.is, inv.end, size);
      len = omega (arith, c.push_reserved.ensures.len, inv.len);
      capacity = omega (arith, c.push_reserved.ensures.capacity, inv.capacity);
    }

pub returns-clause-ends : goal.returns-clause-ends
returns-clause-ends c =
    let lives = c.args.lives.now in
    c.loop-life.invariant.ends
    ∙ ap (λ (all : List (Vec ℕ Global)). ends_from 0 (map schedule_in all)) (take_all c.loop-life.life-index lives (omega (arith, c.loop-life-test.false)))

pub returns-clause-len : goal.returns-clause-len
returns-clause-len c =
    let lives = c.args.lives.now in
    let ends_are : c.loop-life.ends.items ≡ ends_from 0 (map schedule_in lives) =
    c.loop-life.invariant.ends
    ∙ ap (λ (all : List (Vec ℕ Global)). ends_from 0 (map schedule_in all)) (take_all c.loop-life.life-index lives (omega (arith, c.loop-life-test.false))) in
    omega (arith, ap length ends_are, as_many_ends 0 (map schedule_in lives), length-map lives schedule_in, c.loop-life.ends.ok.0)
