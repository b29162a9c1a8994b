-- What two sets say of a name.
use Rattle.std.specs.Prelude.{Bool, not, if◌then◌else◌}

-- one is true and the other isn't
abbrev pub differ : Bool → Bool → Bool
differ a b = if a then not b else b
