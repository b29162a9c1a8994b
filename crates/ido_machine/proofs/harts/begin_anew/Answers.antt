use Rattle.std.proofs.Common.{◌≡◌, ◌<◌, length, replicate, get_or, ap, ◌∙◌, arith}
use Rattle.hart_core.specs.declared.hart.Hart.{Hart}
use Rattle.ido_machine.proofs.BegunAnew.{anew_set, all_are_anew, none_anew}
use Rattle.ido_machine.proofs.Lists.{get_is}
use Rattle.ido_machine.proofs.harts.begin_anew.Goals as goal

pub loop-thread-init : goal.loop-thread-init
loop-thread-init c = none_anew c.args.program.now c.args.harts.now

pub loop-thread-preserved : goal.loop-thread-preserved
loop-thread-preserved c =
    let harts = c.loop-thread.harts in
    let thread = c.loop-thread.thread in
    let within : thread < length harts =
    omega (arith, c.loop-thread-test.true, c.threads-thread-end.ensures.count, c.requires, c.loop-thread.invariant.size) in
    let was : Hart = get_or harts thread c.index-harts-at.result in
    let is : c.begin_anew.new.self ≡ record was { registers = replicate 32 0; pc = c.start_of.result } = c.begin_anew.ensures in
    anew_set c.args.program.now c.args.harts.now harts thread was c.begin_anew.new.self (get_is harts thread c.index-harts-at.result within)
    (record {
      registers = ap (λ (x : Hart). x.registers) is;
      pc = ap (λ (x : Hart). x.pc) is ∙ c.start_of.ensures;
      queue = ap (λ (x : Hart). x.queue) is;
    })
    c.loop-thread.invariant

pub returns : goal.returns
returns c =
    all_are_anew c.args.program.now c.args.harts.now c.loop-thread.harts c.loop-thread.thread
    (omega (arith, c.loop-thread-test.false, c.threads-thread-end.ensures.count, c.requires)) c.loop-thread.invariant
