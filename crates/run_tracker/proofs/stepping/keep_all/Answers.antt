use Rattle.std.proofs.Common.{ℕ, ◌<◌, length, sym, subst, ◌∙◌, arith, add-one}
use Rattle.machine_model.specs.Schedule.{with_all_kept}
use Rattle.ido_machine.specs.Machines.{program_in}
use Rattle.run_tracker.specs.links.AccountRepresentation.{AccountInv}
use Rattle.run_tracker.specs.links.SectionRepresentation.{section_at}
use Rattle.run_tracker.proofs.StepsStayOpen.{still_none}
use Rattle.run_tracker.proofs.stepping.keep_all.Goals as goal

pub loop-hart-preserved : goal.loop-hart-preserved
loop-hart-preserved c =
    let h = c.loop-hart.hart in
    let inv = c.loop-hart.invariant in
    let one = c.keep_seen.ensures in
    let sections = c.args.sections.now in
    let exists : h < length (program_in c.args.machine.now) = omega (arith, c.loop-hart-test.true, c.harts-hart-end.ensures) in
    record {
      harts = one.harts ∙ inv.harts;
      stores = one.stores ∙ inv.stores;
      capacity = one.capacity ∙ inv.capacity;
      at = one.at;
      stands =
          λ w s m a above. subst (λ (k : ℕ). AccountInv c.keep_seen.new.account (with_all_kept w.log w.words k s)) (sym (add-one h))
          (one.stands w (with_all_kept w.log w.words h s) m (inv.stands w s m a above)
          (still_none w.log w.words h s h (section_at sections h).position (above h exists)));
    }
