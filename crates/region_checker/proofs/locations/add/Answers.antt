use Rattle.std.proofs.Common.{◌≡◌, [], ◌∷◌, ◌++◌, List, subst}
use Rattle.std.specs.Prelude.{Contains}
use Rattle.ido_base.specs.declared.location.Location.{Location}
use Rattle.region_checker.proofs.CollectedLocations.{kept, pushed}
use Rattle.region_checker.proofs.locations.add.Goals as goal

pub returns-then-is_among : goal.returns-then-is_among
returns-then-is_among c = record {
  keeps = λ x k. k;
  there = subst (λ (xs : List Location). Contains xs c.args.location) c.deref.ensures.value (c.is_among.ensures.0 c.if-is_among.true);
}

pub returns : goal.returns
returns c =
    let old = c.args.locations.now.items in
    let now = c.push.new.self.items in
    let e : now ≡ old ++ c.args.location ∷ [] = c.in_ok-push.ensures.items in
    record { keeps = kept old now c.args.location e; there = pushed old now c.args.location e }
