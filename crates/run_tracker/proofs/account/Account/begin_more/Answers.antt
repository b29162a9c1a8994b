use Rattle.std.proofs.Common.{◌≡◌, ℕ, ◌+◌, slice_set, ap, sym, ◌∙◌, refl}
use Rattle.run_tracker.specs.declared.account.OpenSteps.{OpenSteps}
use Rattle.run_tracker.specs.links.AccountRepresentation.{open_at, nothing_open}
use Rattle.run_tracker.proofs.AccountUpdates.{found}
use Rattle.run_tracker.proofs.MoreBegun.{more-stands}
use Rattle.run_tracker.proofs.account.Account.begin_more.Goals as goal

pub returns-clause-stands : goal.returns-clause-stands
returns-clause-stands c = λ s stands.
    let before = c.args.self.now in
    let h = c.args.hart in
    let was : c.index_mut.result.now ≡ open_at before h =
    c.index_mut.ensures.value ∙ sym (found before.harts.items h nothing_open c.index_mut.result.now c.requires.exists) in
    more-stands before _ s h c.args.count stands c.requires.exists refl refl
    (ap (λ (o : OpenSteps). slice_set before.harts.items h (record { free = o.free + c.from.result; first = o.first })) was
    ∙ ap (λ (n : ℕ). slice_set before.harts.items h (record (open_at before h) { free = (open_at before h).free + n })) c.from.ensures)
