use Rattle.std.proofs.Common.{◌≡◌, suc, ◌+◌, ◌≤◌, List, length, not, false, true, sym, ap, ◌∙◌, arith}
use Rattle.machine_events.specs.declared.event.Event.TheVariants.{Step}
use Rattle.machine_events.specs.Cores.{is_enabled, is_idle, least_enabled}
use Rattle.machine_events.proofs.Public.{least_enabled-next, least_enabled-stays}
use Rattle.rv64_isa.specs.declared.object.Slot.{Slot}
use Rattle.machine_model.specs.Machine.{reply_to}
use Rattle.run_tracker.specs.ObjectLives.{living}
use Rattle.run_tracker.proofs.life.least_enabled.Goals as goal

pub loop-hart-preserved : goal.loop-hart-preserved
loop-hart-preserved c = λ m same stands.
    let hart = c.loop-hart.hart in
    let one : suc hart ≡ hart + 1 = omega arith in
    let idle : is_enabled living m hart ≡ false =
    ap (λ (p : List (List Slot)). not (is_idle (reply_to p m.world (Step hart)))) same ∙ sym (c.is_enabled.ensures m.world stands) ∙ c.if-is_enabled.false in
    ap (least_enabled living m) (sym one) ∙ least_enabled-next living m hart false (c.loop-hart.invariant m same stands) idle

pub returns-then-is_enabled : goal.returns-then-is_enabled
returns-then-is_enabled c = λ m same stands.
    let hart = c.loop-hart.hart in
    let enabled : is_enabled living m hart ≡ true =
    ap (λ (p : List (List Slot)). not (is_idle (reply_to p m.world (Step hart)))) same ∙ sym (c.is_enabled.ensures m.world stands) ∙ c.if-is_enabled.true in
    let within : suc hart ≤ length m.runs.program = omega (arith, ap length same, c.harts-hart-end.ensures, c.loop-hart-test.true) in
    sym (least_enabled-stays living m (suc hart) (length m.runs.program) hart within
    (least_enabled-next living m hart true (c.loop-hart.invariant m same stands) enabled))
