-- What a source in memory that never fails holds.
use Rattle.std.specs.Prelude.{ℕ, List, drop}
use Rattle.ido_outside.specs.declared.memory_source.SureSource.{SureSource}

-- the bytes left
abbrev pub left_bytes : SureSource → List ℕ
left_bytes source = drop source.next source.bytes.items

-- the most bytes that a call gives
abbrev pub piece_of : SureSource → ℕ
piece_of source = source.piece
