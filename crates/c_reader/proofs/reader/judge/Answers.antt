use Rattle.std.proofs.Common.{◌∙◌, sym, ap, Some}
use Rattle.std.proofs.Math.ListN.{get_or-map}
use Rattle.c_reader.specs.links.Prefixes.{scanned_of}
use Rattle.c_reader.specs.links.Tokens.{token_of}
use Rattle.c_reader.specs.links.ParserOutcomes.{IsParsed}
use Rattle.c_tree.specs.Refusals.{fault_of}
use Rattle.c_reader.specs.declared.parser.Outcome.TheVariants as outcome
use Rattle.c_reader.proofs.Refusals.{told_after, told_wrong, short_begins, short_end, whole_begins, whole_read}
use Rattle.c_reader.proofs.reader.judge.Goals as goal

pub returns-in-WrongAt-clause-refused : goal.returns-in-WrongAt-clause-refused
returns-in-WrongAt-clause-refused c = λ text e end.
    let s = scanned_of c.args.found.now in
    let own = c.index.result.now in
    let i = c.in-WrongAt.index in
    let parsed : IsParsed c.args.language s c.args.high (outcome.WrongAt i) = rw c.in-WrongAt.is at c.requires.parsed in
    told_wrong c.args.language text s c.args.high i (token_of own) e c.requires.high parsed
    (get_or-map token_of c.args.found.now.tokens.items i own ∙ ap token_of (sym c.index.ensures))

pub returns-in-Some-clause-refused : goal.returns-in-Some-clause-refused
returns-in-Some-clause-refused c =
    let s = scanned_of c.args.found.now in
    let parsed : IsParsed c.args.language s c.args.high outcome.TooShort = rw c.in-TooShort.is at c.requires.parsed in
    told_after c.args.language s c.args.high c.args.end (Some (fault_of c.in-Some.refusal)) c.requires.high (short_begins c.args.language s c.args.high parsed)
    c.in-Some.ensures

pub returns-in-None-clause-refused : goal.returns-in-None-clause-refused
returns-in-None-clause-refused c = λ text e end.
    let s = scanned_of c.args.found.now in
    let parsed : IsParsed c.args.language s c.args.high outcome.TooShort = rw c.in-TooShort.is at c.requires.parsed in
    short_end c.args.language text s c.args.high c.args.end e c.requires.high parsed c.in-None.ensures end

pub returns-in-Some-after-clause-refused : goal.returns-in-Some-after-clause-refused
returns-in-Some-after-clause-refused c =
    let s = scanned_of c.args.found.now in
    let parsed : IsParsed c.args.language s c.args.high (outcome.Whole c.in-Whole.tree) = rw c.in-Whole.is at c.requires.parsed in
    told_after c.args.language s c.args.high c.args.end (Some (fault_of c.in-Some-after.refusal)) c.requires.high
    (whole_begins c.args.language s c.args.high _ parsed)
    c.in-Some-after.ensures

pub returns-in-None-after-clause-read : goal.returns-in-None-after-clause-read
returns-in-None-after-clause-read c = λ text e.
    let s = scanned_of c.args.found.now in
    let parsed : IsParsed c.args.language s c.args.high (outcome.Whole c.in-Whole.tree) = rw c.in-Whole.is at c.requires.parsed in
    whole_read c.args.language text s c.args.high _ e c.requires.high parsed c.in-None-after.ensures
