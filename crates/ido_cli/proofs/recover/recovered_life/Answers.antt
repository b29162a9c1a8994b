use Rattle.std.proofs.Common.{◌≡◌, ◌+◌, ◌*◌, ◌-◌, ◌≤◌, min, ap, ap₂, ℕ, [], None, arith, length, refl, ◌∙◌, subst}
use Rattle.c_tree.specs.Flats.{flat_of}
use Rattle.run_tracker.specs.links.EarlierLives.{kept_count}
use Rattle.ido_cli.specs.Answers.{file_in}
use Rattle.ido_cli.specs.ThreadedRuns.{most_leg_events}
use Rattle.ido_cli.proofs.LastLifeApart.{steps_counted}
use Rattle.ido_cli.proofs.LegRuns.{IsLifeDriven}
use Rattle.ido_cli.proofs.RecoveredRuns.{begun_from, few_harts, has_recovered, none_made, room_left}
use Rattle.ido_cli.proofs.recover.recovered_life.Goals as goal

pub of_words-requires-clause-cap : goal.of_words-requires-clause-cap
of_words-requires-clause-cap g c =
    let lives = c.args.image.now.lives in
    omega (
      arith,
      c.requires.steps,
      c.requires.lives,
      c.leg_room-most.ensures,
      steps_counted lives.earlier.items lives.schedule.items,
      ap₂ kept_count c.deref-2.ensures.value c.deref-3.ensures.value,
      ap length c.deref-2.ensures.value,
    )

pub drive-requires-clause-harts : goal.drive-requires-clause-harts
drive-requires-clause-harts g c =
    let x = c.args.image.now.compiled in
    let y = x.translated in
    let lives = c.args.image.now.lives in
    let begun = begun_from y.object y.marks c.deref.result.now c.args.image.now.words.items c.deref-2.result.now lives.earlier.items c.deref-3.result.now
    lives.schedule.items c.leg_room-most.result c.in_ok-life.life c.in_ok-life.ensures c.deref.ensures.value c.deref-2.ensures.value
    c.deref-3.ensures.value in
    let few = few_harts (flat_of x.flat) y.object y.marks y.cuts c.requires.translated (file_in c.args.image.now) [] c.leg_room-most.result
    c.in_ok-life.life begun in
    omega (arith, few)

pub drive-requires-clause-moment : goal.drive-requires-clause-moment
drive-requires-clause-moment g c κs within =
    let x = c.args.image.now.compiled in
    let y = x.translated in
    let lives = c.args.image.now.lives in
    let begun = begun_from y.object y.marks c.deref.result.now c.args.image.now.words.items c.deref-2.result.now lives.earlier.items c.deref-3.result.now
    lives.schedule.items c.leg_room-most.result c.in_ok-life.life c.in_ok-life.ensures c.deref.ensures.value c.deref-2.ensures.value
    c.deref-3.ensures.value in
    let none = none_made (flat_of x.flat) y.object y.marks y.cuts c.requires.translated (file_in c.args.image.now) [] c.leg_room-most.result
    c.in_ok-life.life begun in
    let room = room_left (flat_of x.flat) y.object y.marks y.cuts c.requires.translated (file_in c.args.image.now) [] c.leg_room-most.result
    c.in_ok-life.life begun in
    let life = c.in_ok-life.life in
    let most = c.leg_room-most.result in
    let both : (length life.journal ≤ most) × (most ≤ length life.journal + (life.cap - length life.journal)) = (omega (arith, ap length none), room) in
    both

pub returns : goal.returns
returns g c =
    let x = c.args.image.now.compiled in
    let y = x.translated in
    let lives = c.args.image.now.lives in
    let begun = begun_from y.object y.marks c.deref.result.now c.args.image.now.words.items c.deref-2.result.now lives.earlier.items c.deref-3.result.now
    lives.schedule.items c.leg_room-most.result c.in_ok-life.life c.in_ok-life.ensures c.deref.ensures.value c.deref-2.ensures.value
    c.deref-3.ensures.value in
    let left = c.in_ok-driven.driven in
    let threads : c.len.result ≡ length y.object.code.items = omega arith in
    let room : c.leg_room-most.result ≡ min most_leg_events (length y.object.code.items * c.args.turns + 1) =
    c.leg_room-most.ensures ∙ ap (λ (n : ℕ). min most_leg_events (n * c.args.turns + 1)) threads in
    let d = subst (λ (n : ℕ). IsLifeDriven c.in_ok-life.life n c.leg_room-most.result None left.core left.stops.items left.evict) c.from.ensures
    c.in_ok-driven.ensures in
    has_recovered (flat_of x.flat) y.object y.marks y.cuts c.requires.translated (file_in c.args.image.now) [] c.leg_room-most.result c.in_ok-life.life begun
    left.core d.plays.opens c.files_begin.ensures refl c.args.turns c.leg_room-most.result left.stops.items left.evict room d c.requires.words c.requires.steps

pub of_words-requires-clause-ended : goal.of_words-requires-clause-ended
of_words-requires-clause-ended g c = λ h. omega arith
