use Rattle.std.proofs.Common.{◌≡◌, ◌-◌, map}
use Rattle.file_fields.specs.Fields.{repeated}
use Rattle.file_fields.proofs.RepeatedReads.{with_prefix}
use Rattle.file_fields.proofs.reading.repeated.Given as goal

abbrev pub invariant-loop : goal.invariant-loop
invariant-loop g l =
    with_prefix (map g.R.Reader.view l.items.items) (repeated (g.R.Reader.reading l.reader) (l.count - l.counter) l.rest)
    ≡ repeated (g.R.Reader.reading l.reader) l.count l.bytes
