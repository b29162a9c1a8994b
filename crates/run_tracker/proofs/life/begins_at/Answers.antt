use Rattle.std.proofs.Common.{◌≡◌, ◌≢◌, ◌-◌, ℕ, zero, suc, List, refl, ap, arith}
use Rattle.std.specs.Prelude.{slice_index}
use Rattle.run_tracker.specs.links.AccountRepresentation.{life_place}
use Rattle.run_tracker.proofs.life.begins_at.Goals as goal

-- behind the first one
later : (ends : List ℕ) (life : ℕ) → life ≢ 0 → slice_index ends (life - 1) ≡ life_place 0 ends life
later ends zero some = absurd (some refl)
later ends (suc life) some = let one : suc life - 1 ≡ life = omega arith in ap (slice_index ends) one

pub returns : goal.returns
returns c = later c.args.ends.now c.args.life c.if-life-eq0.false
