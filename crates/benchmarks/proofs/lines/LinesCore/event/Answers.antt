use Rattle.std.proofs.Common.{inl, inr}
use Rattle.benchmarks.proofs.lines.LinesCore.event.Goals as goal

pub byte_of-requires : goal.byte_of-requires
byte_of-requires c = elim c.requires.valid [
  | inl any ↦ any
  | inr starts ↦ absurd (cc starts.1)
]
