use Rattle.std.proofs.Common.{ap, sym, ◌∙◌}
use Rattle.c_typer.specs.links.FirstFaults.{first_of, noted}
use Rattle.c_typer.proofs.Counts.{past_at, past_none}
use Rattle.c_typer.proofs.item.note_count.Goals as goal

pub returns-in-Some : goal.returns-in-Some
returns-in-Some c =
    let found = c.in-Some.ensures.lookup in
    c.note.ensures ∙ ap (noted (first_of c.args.faults.now)) (sym (past_at c.args.numbers.now c.args.count c.in-Some.number.now found.3.0 found.1))

pub returns-in_default : goal.returns-in_default
returns-in_default c =
    let found = c.in_default.ensures.lookup in
    ap (noted (first_of c.args.faults.now)) (sym (past_none c.args.numbers.now c.args.count found.3))
