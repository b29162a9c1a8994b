use Rattle.std.proofs.Common.{◌≡◌, ◌∙◌, ap, sym, Bool, not, ◌&&◌}
use Rattle.ido_base.specs.Locks.{holds_none}
use Rattle.hart_core.specs.StepsOnParts.{Parts}
use Rattle.ido_machine.proofs.MachineEvents.{run_on, run_done}
use Rattle.ido_machine.proofs.running.run.Goals as goal

pub returns-then-is_over-clause-step : goal.returns-then-is_over-clause-step
returns-then-is_over-clause-step c = λ program w model next recovers s.
    let before : Parts = record { phase = c.args.phase.now; hart = c.args.hart.now; memory = c.args.memory.now; locks = c.args.locks.now } in
    let after : Parts =
    record { phase = c.execute-reply.new.phase; hart = c.execute-reply.new.hart; memory = c.execute-reply.new.memory; locks = c.execute-reply.new.locks } in
    let held : c.may_end-held.result ≡ (w.recovering && not (holds_none before.locks c.args.number)) =
    c.may_end-held.ensures ∙ ap (λ (r : Bool). r && not (holds_none before.locks c.args.number)) (sym recovers) in
    let over = c.is_over.ensures ∙ ap (λ (h : Bool). h && holds_none after.locks c.args.number) held in
    run_done program c.args.number before after c.execute-reply.result w model (sym over ∙ c.if-is_over.true) s
    ((c.execute-reply.ensures.step program next).each w model s)

pub returns-else-is_over-clause-step : goal.returns-else-is_over-clause-step
returns-else-is_over-clause-step c = λ program w model next recovers s.
    let before : Parts = record { phase = c.args.phase.now; hart = c.args.hart.now; memory = c.args.memory.now; locks = c.args.locks.now } in
    let after : Parts =
    record { phase = c.execute-reply.new.phase; hart = c.execute-reply.new.hart; memory = c.execute-reply.new.memory; locks = c.execute-reply.new.locks } in
    let held : c.may_end-held.result ≡ (w.recovering && not (holds_none before.locks c.args.number)) =
    c.may_end-held.ensures ∙ ap (λ (r : Bool). r && not (holds_none before.locks c.args.number)) (sym recovers) in
    let over = c.is_over.ensures ∙ ap (λ (h : Bool). h && holds_none after.locks c.args.number) held in
    run_on program c.args.number before after c.execute-reply.result w model (sym over ∙ c.if-is_over.false) s
    ((c.execute-reply.ensures.step program next).each w model s)
