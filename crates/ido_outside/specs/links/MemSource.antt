-- What a source in memory holds, what it was made with, and its calls so far.
use Rattle.std.specs.Prelude.{ℕ, List, drop}
use Rattle.ido_outside.specs.declared.memory_source.MemSource.{MemSource}

-- the bytes left
abbrev pub left_bytes : MemSource → List ℕ
left_bytes source = drop source.feed.next source.feed.bytes.items

-- the most bytes that a call gives
abbrev pub piece_of : MemSource → ℕ
piece_of source = source.feed.piece

-- the numbers of the calls that fail
abbrev pub failing_calls : MemSource → List ℕ
failing_calls source = source.plan.fails.items

-- how many calls there were; it ends at 2^64 - 1
abbrev pub call_count : MemSource → ℕ
call_count source = source.plan.calls

-- how many of them failed; it ends at 2^64 - 1
abbrev pub fault_count : MemSource → ℕ
fault_count source = source.plan.faults
