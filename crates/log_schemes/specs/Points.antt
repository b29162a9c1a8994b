-- What the point of a log says.
use Rattle.std.specs.Prelude.{ℕ, ◌-◌, ◌%◌, ◌==◌, if◌then◌else◌}
use Rattle.log_schemes.specs.declared.point.Point.{Point}
use Rattle.log_schemes.specs.declared.point.Point.TheVariants.{Idle, At}

-- 0 stands between two sections, any other word is a resume address plus the number of a bank
abbrev pub point_of : (word : ℕ) → Point
point_of word = if word == 0 then Idle else At (word - word % 2) (word % 2)
