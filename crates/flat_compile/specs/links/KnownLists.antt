-- Lists of known locals, as vectors hold them.
use Rattle.std.specs.Prelude.{ℕ, List, map, Vec}
use Rattle.std.specs.Global.{Global}

abbrev pub known_lists : List (Vec ℕ Global) → List (List ℕ)
known_lists steps = map (λ (known : Vec ℕ Global). known.items) steps
