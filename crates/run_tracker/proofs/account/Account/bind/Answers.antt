use Rattle.std.proofs.Common.{◌≡◌, ap, sym, ◌∙◌, arith, refl}
use Rattle.run_tracker.specs.declared.account.OpenSteps.{OpenSteps}
use Rattle.run_tracker.specs.links.AccountRepresentation.{open_at, nothing_open}
use Rattle.run_tracker.proofs.AccountUpdates.{bound-stands, found, unbound-stands}
use Rattle.run_tracker.proofs.account.Account.bind.Goals as goal

pub returns-then-steps-gt0-clause-stands : goal.returns-then-steps-gt0-clause-stands
returns-then-steps-gt0-clause-stands c = λ s stands.
    let before = c.args.self.now in
    let open_is : open_at before c.args.hart ≡ c.index.result.now =
    found before.harts.items c.args.hart nothing_open c.index.result.now c.requires.exists ∙ sym c.index.ensures in
    let open_too : open_at before c.args.hart ≡ c.index_mut.result.now =
    found before.harts.items c.args.hart nothing_open c.index_mut.result.now c.requires.exists ∙ sym c.index_mut.ensures.value in
    let was : open_at before c.args.hart ≡ record { free = c.index.result.now.free; first = c.index_mut.result.now.first } =
    ap (λ (o : OpenSteps). record { free = o.free; first = (open_at before c.args.hart).first }) open_is
    ∙ ap (λ (o : OpenSteps). record { free = c.index.result.now.free; first = o.first }) open_too in
    bound-stands before _ s c.args.hart c.args.position c.index.result.now.free c.index_mut.result.now.first stands c.requires.exists was
    c.if-steps-gt0.true refl c.push_reserved.ensures.items refl

pub returns-else-steps-gt0-clause-stands : goal.returns-else-steps-gt0-clause-stands
returns-else-steps-gt0-clause-stands c = λ s stands.
    let before = c.args.self.now in
    let open_is : open_at before c.args.hart ≡ c.index.result.now =
    found before.harts.items c.args.hart nothing_open c.index.result.now c.requires.exists ∙ sym c.index.ensures in
    unbound-stands before s c.args.hart c.args.position stands c.requires.exists
    (omega (arith, ap (λ (o : OpenSteps). o.free) open_is, c.if-steps-gt0.false))
