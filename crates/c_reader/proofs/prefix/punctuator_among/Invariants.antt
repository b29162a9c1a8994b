use Rattle.std.proofs.Common.{◌≡◌, drop, map}
use Rattle.c_reader.specs.links.Prefixes.{punctuator_in}
use Rattle.c_reader.proofs.prefix.punctuator_among.Given as goal

abbrev pub invariant-loop-bytes : goal.invariant-loop-bytes
invariant-loop-bytes l =
    punctuator_in (map (λ e. (e.0.now, e.1)) (drop l.bytes-index l.entries)) l.text ≡ punctuator_in (map (λ e. (e.0.now, e.1)) l.entries) l.text
