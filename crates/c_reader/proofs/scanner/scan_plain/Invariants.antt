use Rattle.std.proofs.Common.{length}
use Rattle.c_reader.specs.links.Tokens.{tokens_of}
use Rattle.c_reader.proofs.Scans.{IsTextLeft}
use Rattle.c_reader.proofs.scanner.scan_plain.Given as goal

abbrev pub invariant-loop-bytes : goal.invariant-loop-bytes
invariant-loop-bytes l = IsTextLeft l.text l.rest (tokens_of l.tokens.items)

abbrev pub decreases-loop-bytes : goal.decreases-loop-bytes
decreases-loop-bytes l = length l.rest
