-- Parts of variables that are read and written.
use Rattle.std.specs.Prelude.{Bool, false, not, ℕ, Option, Some, None, nat_le, ◌==◌, ◌&&◌, ◌||◌}
use Rattle.ido_base.specs.declared.location.Location.{Location}

-- ---- Keys

-- both have a key, and it is one key
abbrev pub have_one_key : Option ℕ → Option ℕ → Bool
have_one_key (Some one) (Some other) = one == other
have_one_key (Some one) None = false
have_one_key None other = false

-- both have a key, and these are two
abbrev pub have_two_keys : Option ℕ → Option ℕ → Bool
have_two_keys (Some one) (Some other) = not (one == other)
have_two_keys (Some one) None = false
have_two_keys None other = false

-- ---- Locations

-- an element may be in both: two keys name two elements
abbrev pub overlap : Location → Location → Bool
overlap a b = (a.variable == b.variable) && ((nat_le a.lo b.hi && nat_le b.lo a.hi) && not (have_two_keys a.key b.key))

-- both are one and the same single element: the only one of their ranges, or the one that their key names
abbrev pub same : Location → Location → Bool
same a b = (a.variable == b.variable) && (((a.lo == a.hi) && ((b.lo == b.hi) && (a.lo == b.lo))) || have_one_key a.key b.key)
