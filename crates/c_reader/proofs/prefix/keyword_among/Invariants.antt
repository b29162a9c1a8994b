use Rattle.std.proofs.Common.{◌≡◌, drop, map}
use Rattle.c_reader.specs.links.Prefixes.{keyword_in}
use Rattle.c_reader.proofs.prefix.keyword_among.Given as goal

abbrev pub invariant-loop-bytes : goal.invariant-loop-bytes
invariant-loop-bytes l =
    keyword_in (map (λ e. (e.0.now, e.1)) (drop l.bytes-index l.entries)) l.word ≡ keyword_in (map (λ e. (e.0.now, e.1)) l.entries) l.word
