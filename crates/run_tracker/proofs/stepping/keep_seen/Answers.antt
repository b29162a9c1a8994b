use Rattle.std.proofs.Common.{◌≡◌, ℕ, ◌<◌, length, ap, sym, subst, ◌∙◌, arith}
use Rattle.std.proofs.lemmas.List.{get_or_read}
use Rattle.machine_model.specs.Schedule.{with_kept}
use Rattle.run_tracker.specs.links.AccountRepresentation.{AccountInv, IsNoneDurable}
use Rattle.run_tracker.specs.links.SectionRepresentation.{outside, section_at}
use Rattle.run_tracker.specs.declared.sections.HartSections.{HartSections}
use Rattle.run_tracker.proofs.KeptStepBounds.{bound_few, has_later, in_order}
use Rattle.run_tracker.proofs.StepsStayOpen.{kept_none}
use Rattle.run_tracker.proofs.stepping.keep_seen.Goals as goal

pub keep-requires-clause-ascending : goal.keep-requires-clause-ascending
keep-requires-clause-ascending c =
    in_order c.args.machine.now c.args.account.now c.args.hart c.requires.at (omega (arith, c.requires.harts, c.requires.exists))

pub keep-requires-clause-few : goal.keep-requires-clause-few
keep-requires-clause-few c =
    let few = bound_few c.args.machine.now c.args.account.now c.args.hart c.requires.at (omega (arith, c.requires.harts, c.requires.exists)) in
    omega (arith, few, c.requires.at.few)

pub keep-requires-clause-room : goal.keep-requires-clause-room
keep-requires-clause-room c =
    let few = bound_few c.args.machine.now c.args.account.now c.args.hart c.requires.at (omega (arith, c.requires.harts, c.requires.exists)) in
    omega (arith, few, c.requires.at.room, ap length c.requires.at.stands.kept, c.args.account.now.kept.ok.0)

pub returns-then-index-durable-clause-at : goal.returns-then-index-durable-clause-at
returns-then-index-durable-clause-at c =
    let before = c.args.account.now in
    let h = c.args.hart in
    let has = c.requires.at in
    let within : h < length before.harts.items = omega (arith, c.requires.harts, c.requires.exists) in
    let kept : AccountInv c.keep.new.self (with_kept has.world.log has.world.words h has.steps) =
    c.keep.ensures.stands has.world.log has.world.words has.steps (c.point_durable-durable.ensures has.world has.at) has.stands in
    has_later c.args.machine.now before h has within c.keep.new.self kept c.keep.ensures.capacity

pub returns-else-index-durable-clause-stands : goal.returns-else-index-durable-clause-stands
returns-else-index-durable-clause-stands c = λ w s m a above.
    let h = c.args.hart in
    let sections = c.args.sections.now in
    let within : h < length sections.harts.items = omega (arith, c.requires.seen, c.requires.exists) in
    let here : c.index.result.now ≡ section_at sections h = get_or_read sections.harts.items h c.index.result.now within c.index.ensures outside in
    let at = sym (ap (λ (x : HartSections). x.position) here) ∙ c.if-index-durable.false ∙ c.point_durable-durable.ensures w m in
    subst (AccountInv c.args.account.now)
    (sym (kept_none w.log w.words h s (subst (λ (p : ℕ). IsNoneDurable h p s.pending) at above))) a
