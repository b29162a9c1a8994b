use Rattle.std.proofs.Common.{◌≡◌, ◌++◌, drop, map}
use Rattle.rv64_isa.specs.Programs.{slot_of}
use Rattle.rv64_link.specs.links.Layout.{slots}
use Rattle.rv64_link.proofs.thread.words.Given as goal

abbrev pub invariant-loop-position : goal.invariant-loop-position
invariant-loop-position l = map slot_of l.words.items ++ slots l.items l.numbers l.position (drop l.position l.items) ≡ slots l.items l.numbers 0 l.items
