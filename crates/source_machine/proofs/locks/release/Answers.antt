use Rattle.std.proofs.Common.{sym, Some}
use Rattle.source_machine.specs.links.SectionEnds.{is_one}
use Rattle.source_machine.proofs.SectionEndCases.{ends_freed, ends_freed_none, counted_same, counted_as, holder_read}
use Rattle.source_machine.proofs.locks.release.Goals as goal

pub returns-then-holds_none-clause-sections : goal.returns-then-holds_none-clause-sections
returns-then-holds_none-clause-sections c =
    let held = holder_read c.args.holders.now c.args.lock (Some c.in-Some.thread) c.if-lock-holders.true c.in-Some.is in
    λ ended h. counted_as c.count.new.sections ended (is_one c.in-Some.thread) _
    (λ k. ends_freed c.args.holders.now c.args.lock c.in-Some.thread k held (sym c.if-holds_none.ensures)) (c.count.ensures ended h)

pub returns-else-holds_none-clause-sections : goal.returns-else-holds_none-clause-sections
returns-else-holds_none-clause-sections c =
    let held = holder_read c.args.holders.now c.args.lock (Some c.in-Some.thread) c.if-lock-holders.true c.in-Some.is in
    λ ended h. counted_same c.args.sections.now ended _ (λ k. ends_freed_none c.args.holders.now c.args.lock c.in-Some.thread k held
    (sym c.if-holds_none.ensures)) h
