-- One more place.
use Rattle.std.proofs.Common.{refl, ◌<◌, List, length, get_or, subst, arith}
use Rattle.std.proofs.lemmas.List.{get_or_default, take_all}
use Rattle.ido_base.specs.declared.place.Place.{Place}
use Rattle.c_ranges.specs.links.FirstNull.{IsLeastOf}
use Rattle.c_ranges.proofs.FirstFaults.{next_least}
use Rattle.c_ranges.proofs.checking.least_of.Goals as goal

pub loop-place-init : goal.loop-place-init
loop-place-init c = refl

pub loop-place-preserved : goal.loop-place-preserved
loop-place-preserved c =
    let places = c.args.places.now in
    let i = c.loop-place.place-index in
    let none : Place = record { 0 = 0 } in
    let place : Place = get_or places i none in
    let low : i < length places = omega arith in
    next_least places i place c.loop-place.least _ low (get_or_default places i none place low) c.lesser_place-least.ensures c.loop-place.invariant

pub returns : goal.returns
returns c =
    subst (λ (places : List Place). IsLeastOf places c.loop-place.least) (take_all c.loop-place.place-index c.args.places.now (omega arith))
    c.loop-place.invariant
