use Rattle.std.proofs.Common.{ap, length, refl, subst, arith}
use Rattle.std.proofs.lemmas.List.{take_all}
use Rattle.crash_images.specs.links.WrittenLives.{AreWritten}
use Rattle.crash_images.proofs.WrittenImages.{none_longer, none_written, one_written}
use Rattle.crash_images.proofs.writing.put_lives.Goals as goal

pub loop-i-init : goal.loop-i-init
loop-i-init c = record { written = none_written c.args.out.now.items; end = refl }

pub put_schedule-requires : goal.put_schedule-requires
put_schedule-requires c =
    let inv = c.loop-i.invariant in
    omega (
      arith,
      none_longer c.args.schedules.now c.loop-i.i c.index-schedules-i.result (omega (arith, c.loop-i-test.true, inv.end)) c.index-schedules-i.is,
      ap length c.deref.ensures.value,
      c.requires,
    )

pub loop-i-preserved : goal.loop-i-preserved
loop-i-preserved c =
    let inv = c.loop-i.invariant in
    record {
      written = one_written c.args.out.now.items c.loop-i.out.items c.put_schedule.new.out.items c.args.schedules.now c.loop-i.i c.index-schedules-i.result
          c.deref.result.now (omega (arith, c.loop-i-test.true, inv.end)) c.index-schedules-i.is c.deref.ensures.value inv.written
          c.in_ok-put_schedule.ensures.text c.in_ok-put_schedule.ensures.fits;
      end = inv.end;
    }

pub returns : goal.returns
returns c =
    let inv = c.loop-i.invariant in
    subst (λ schedules. AreWritten c.args.out.now.items schedules c.loop-i.out.items)
    (take_all c.loop-i.i c.args.schedules.now (omega (arith, c.loop-i-test.false, inv.end))) inv.written
