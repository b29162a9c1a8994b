-- What a sink in memory was made with, and its calls so far.
use Rattle.std.specs.Prelude.{ℕ, List}
use Rattle.ido_outside.specs.declared.memory_sink.MemSink.{MemSink}

-- the most bytes that a call takes
abbrev pub piece_of : MemSink → ℕ
piece_of sink = sink.piece

-- the most bytes that it holds
abbrev pub capacity_of : MemSink → ℕ
capacity_of sink = sink.kept.capacity

-- the bytes that it holds
abbrev pub held_bytes : MemSink → List ℕ
held_bytes sink = sink.kept.bytes.items

-- the numbers of the calls that fail
abbrev pub failing_calls : MemSink → List ℕ
failing_calls sink = sink.plan.fails.items

-- how many calls there were; it ends at 2^64 - 1
abbrev pub call_count : MemSink → ℕ
call_count sink = sink.plan.calls

-- how many of them failed; it ends at 2^64 - 1
abbrev pub fault_count : MemSink → ℕ
fault_count sink = sink.plan.faults
