use Rattle.std.proofs.Common.{◌≡◌, ℕ, Bool, true, false, Option, Some, None, refl, ap, ◌&&◌, if◌then◌else◌}
use Rattle.hart_runs.proofs.laws.environments_agree.Goals as goal

-- what one world lets pass and gives, the other does
gives_too : (reads one other : Bool) (a b value : ℕ) → (if reads && one then Some a else None) ≡ Some value → other ≡ true → b ≡ value →
    (if reads && other then Some b else None) ≡ Some value
gives_too true true true a b value e may is = ap Some is
gives_too true true false a b value e may is = cc
gives_too true false other a b value e may is = cc
gives_too false one other a b value e may is = cc

pub returns-clause-answers : goal.returns-clause-answers
returns-clause-answers c = λ program marks reads w v h a. record {
  fetches = λ address. refl;
  loads = λ address bytes value e. gives_too (reads address bytes) _ _ _ _ value e (a.loads address bytes value e).may (a.loads address bytes value e).is;
  marks = refl;
}
