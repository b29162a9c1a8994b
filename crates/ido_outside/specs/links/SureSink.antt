-- What a sink in memory that never fails tells, and what it was made with.
use Rattle.std.specs.Prelude.{ℕ, List, Some, None, Option, if◌then◌else◌}
use Rattle.ido_outside.specs.declared.memory_sink.SureSink.{SureSink}

-- the bytes written, until a piece did not fit
abbrev pub told_bytes : SureSink → Option (List ℕ)
told_bytes sink = if sink.overflowed then None else Some sink.kept.bytes.items

-- the most bytes that a call takes
abbrev pub piece_of : SureSink → ℕ
piece_of sink = sink.piece

-- the most bytes that it tells
abbrev pub capacity_of : SureSink → ℕ
capacity_of sink = sink.kept.capacity
