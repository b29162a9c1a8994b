use Rattle.std.proofs.Common.{List, length, take, refl, subst}
use Rattle.c_reader.specs.declared.token.Token.{Token}
use Rattle.c_reader.specs.links.Prefixes.{scanned_of}
use Rattle.c_reader.specs.links.Tokens.{tokens_of}
use Rattle.c_reader.specs.links.ParserOutcomes.{IsFirstHigh, Parses, reach}
use Rattle.c_reader.proofs.Refusals.{first_high_told, looked_told, refused_told}
use Rattle.c_reader.proofs.Depths.{shallow_told}
use Rattle.c_reader.proofs.reader.read.Goals as goal

pub judge-requires-clause-high : goal.judge-requires-clause-high
judge-requires-clause-high c =
    let told = c.first_high-high.ensures in
    let P : List Token → Type 0 = λ xs. IsFirstHigh (tokens_of xs) c.first_high-high.result in
    subst P c.deref.ensures.value (first_high_told c.args.language c.deref.result.now c.first_high-high.result told.none told.within told.before told.high)

pub judge-requires-clause-parsed : goal.judge-requires-clause-parsed
judge-requires-clause-parsed c =
    let P : List Token → Type 0 = λ xs.
    Parses c.args.language (take (reach c.first_high-high.result (length (tokens_of xs))) (tokens_of xs)) c.in_ok-outcome.outcome in
    subst P c.deref-2.ensures.value (looked_told c.args.language c.deref-2.result.now c.looked_at.result.now c.first_high-high.result c.in_ok-outcome.outcome
    c.looked_at.ensures c.in_ok-outcome.ensures)

pub returns-clause-refused : goal.returns-clause-refused
returns-clause-refused c =
    refused_told c.args.language c.args.text.now (scanned_of c.in_ok-found.found) _ c.judge.result c.in_ok-found.ensures refl c.judge.ensures.refused

pub returns-clause-shallow : goal.returns-clause-shallow
returns-clause-shallow c =
    shallow_told c.args.language c.args.text.now (scanned_of c.in_ok-found.found) c.judge.result c.in_ok-found.ensures c.judge.ensures.read
