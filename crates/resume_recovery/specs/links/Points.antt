-- What is read of a point.
use Rattle.std.specs.Prelude.{ℕ}
use Rattle.log_schemes.specs.declared.point.Point.{Point}
use Rattle.log_schemes.specs.declared.point.Point.TheVariants.{Idle, At}

-- the bank of a point; the first where it is idle
abbrev pub bank_in : Point → ℕ
bank_in Idle = 0
bank_in (At address bank) = bank
