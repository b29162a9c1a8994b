use Rattle.std.proofs.Common.{◌≡◌, ◌≤◌, List, length, drop, sym, ap, subst, ◌∙◌, arith, refl}
use Rattle.run_tracker.specs.declared.account.OpenSteps.{OpenSteps}
use Rattle.run_tracker.specs.declared.account.PointStore.{PointStore}
use Rattle.run_tracker.specs.links.AccountRepresentation.{bound_in, durable_steps, nothing_open, open_at, total}
use Rattle.run_tracker.proofs.BoundSteps.{later}
use Rattle.run_tracker.proofs.StoreScans.{durable_few}
use Rattle.run_tracker.proofs.AccountUpdates.{found, kept-stands}
use Rattle.run_tracker.proofs.account.Account.keep.Goals as goal

pub push_steps-requires : goal.push_steps-requires
push_steps-requires c =
    let open_is : open_at c.args.self.now c.args.hart ≡ c.index.result.now =
    found c.args.self.now.harts.items c.args.hart nothing_open c.index.result.now c.requires.exists ∙ sym c.index.ensures in
    let few = durable_few c.args.durable (bound_in (drop c.index.result.now.first c.deref.result.now) c.args.hart) in
    let same = ap (λ (o : OpenSteps). total (bound_in (drop o.first c.args.self.now.stores.items) c.args.hart)) open_is in
    let stored = ap (λ (xs : List PointStore). total (bound_in (drop c.index.result.now.first xs) c.args.hart)) c.deref.ensures.value in
    record { room = omega (arith, few, same, stored, c.kept_of-kept.ensures.steps, c.requires.room) }

pub returns-clause-stands : goal.returns-clause-stands
returns-clause-stands c = λ log words s durable stands.
    let before = c.args.self.now in
    let h = c.args.hart in
    let kept = c.kept_of-kept.result in
    let open_is : open_at before h ≡ c.index.result.now = found before.harts.items h nothing_open c.index.result.now c.requires.exists ∙ sym c.index.ensures in
    let open_too : open_at before h ≡ c.index_mut.result.now =
    found before.harts.items h nothing_open c.index_mut.result.now c.requires.exists ∙ sym c.index_mut.ensures.value in
    let was : open_at before h ≡ record { free = c.index_mut.result.now.free; first = c.index.result.now.first } =
    ap (λ (o : OpenSteps). record { free = (open_at before h).free; first = o.first }) open_is
    ∙ ap (λ (o : OpenSteps). record { free = o.free; first = c.index.result.now.first }) open_too in
    kept-stands before _ log words s h c.args.durable c.index_mut.result.now.free kept.first c.index.result.now.first kept.steps stands
    c.requires.exists durable was
    c.push_steps.ensures.items refl refl
    (c.kept_of-kept.ensures.steps ∙ ap (λ (xs : List PointStore). durable_steps c.args.durable (bound_in (drop c.index.result.now.first xs) h))
    c.deref.ensures.value)
    (subst (λ (xs : List PointStore). bound_in (drop kept.first xs) h ≡ later c.args.durable (bound_in (drop c.index.result.now.first xs) h))
    c.deref.ensures.value c.kept_of-kept.ensures.rest)
    (subst (λ (xs : List PointStore). kept.first ≤ length xs) c.deref.ensures.value c.kept_of-kept.ensures.within)
