-- What can still be added to a set of locals: it falls with each local that is added.
use Rattle.std.specs.Prelude.{◌-◌, ◌^◌, ℕ, List, sum_by}

unfoldable pub room : (set : List ℕ) → ℕ
room set = sum_by (λ word. 2 ^ 64 - word) set
