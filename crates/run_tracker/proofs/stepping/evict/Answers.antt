use Rattle.std.proofs.Common.{ℕ, length, ap, sym, subst, ◌∙◌}
use Rattle.log_schemes.specs.declared.log.Log.{Log}
use Rattle.machine_events.specs.declared.event.Event.TheVariants.{Evict}
use Rattle.machine_model.specs.Machine.{World, after_event}
use Rattle.machine_model.specs.Schedule.{with_all_kept}
use Rattle.ido_machine.specs.Machines.{program_in}
use Rattle.run_tracker.specs.links.AccountRepresentation.{AccountInv}
use Rattle.run_tracker.specs.links.SectionRepresentation.{AreAbove}
use Rattle.run_tracker.proofs.DurablePoints.{above_seen}
use Rattle.run_tracker.proofs.Events.{eviction_is}
use Rattle.run_tracker.proofs.stepping.evict.Goals as goal

pub keep_all-requires-clause-at : goal.keep_all-requires-clause-at
keep_all-requires-clause-at c =
    let has = c.requires.at in
    record {
      world = after_event (program_in c.args.machine.now) has.world (Evict c.args.line c.args.mask);
      at = (c.evict-reply.ensures.world has.world has.at).stands;
      steps = has.steps;
      stands = has.stands;
      in_order = has.in_order;
      room = has.room;
      few = has.few;
    }

pub returns-clause-steps : goal.returns-clause-steps
returns-clause-steps c = λ marks w s m a is_open seen.
    let program = program_in c.args.machine.now in
    let next : World = after_event program w (Evict c.args.line c.args.mask) in
    let after = c.evict-reply.ensures.world w m in
    subst (AccountInv c.keep_all.new.account) (eviction_is marks program w c.args.line c.args.mask s (length c.args.account.now.harts.items) c.requires.harts)
    (subst (λ (l : Log). AccountInv c.keep_all.new.account (with_all_kept l next.words (length c.args.account.now.harts.items) s))
    (after.stands.log ∙ (c.evict-reply.ensures.log ∙ sym m.log))
    (c.keep_all.ensures.stands next s after.stands a
    (subst (λ (n : ℕ). AreAbove c.args.sections.now n s) (ap length (sym c.evict-reply.ensures.program))
    (above_seen c.args.sections.now _ w s seen is_open))))
