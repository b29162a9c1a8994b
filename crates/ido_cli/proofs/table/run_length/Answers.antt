use Rattle.std.proofs.Common.{◌≡◌, ℕ, List, true, false, length, refl, sym, ◌∙◌, ap₂, arith}
use Rattle.std.specs.Prelude.{nat_eq, not}
use Rattle.std.specs.Cmp.Lexicographic.{pointwise}
use Rattle.std.proofs.lemmas.List.{length-map}
use Rattle.std.proofs.lemmas.Option.{slice_get_past, slice_get_read}
use Rattle.ido_cli.specs.Sweeps.{reports_of}
use Rattle.ido_cli.proofs.SweptTables.{one_more_report, other_report, same_report, stops_at}
use Rattle.ido_cli.proofs.table.run_length.Goals as goal

pub returns-then-ne-clause-stops : goal.returns-then-ne-clause-stops
returns-then-ne-clause-stops c =
    let os = c.args.outcomes.now in
    let o = c.index-outcomes-i.result in
    let report = c.args.report.now in
    let there = slice_get_read os (length os) c.loop-i.i o refl c.loop-i-test.true c.index-outcomes-i.is in
    let differ : true ≡ not (pointwise nat_eq o.report report) =
    sym c.if-ne.true ∙ c.ne.ensures ∙ ap₂ (λ (a b : List ℕ). not (pointwise nat_eq a b)) c.bytes.ensures c.bytes-in-loop-i.ensures in
    stops_at os c.loop-i.i o there report (other_report o.report report differ)

pub loop-i-preserved : goal.loop-i-preserved
loop-i-preserved c =
    let os = c.args.outcomes.now in
    let o = c.index-outcomes-i.result in
    let report = c.args.report.now in
    let there = slice_get_read os (length os) c.loop-i.i o refl c.loop-i-test.true c.index-outcomes-i.is in
    let differ : false ≡ not (pointwise nat_eq o.report report) =
    sym c.if-ne.false ∙ c.ne.ensures ∙ ap₂ (λ (a b : List ℕ). not (pointwise nat_eq a b)) c.bytes.ensures c.bytes-in-loop-i.ensures in
    one_more_report os c.loop-i.i o there report (same_report o.report report differ) c.loop-i.invariant

pub returns-clause-stops : goal.returns-clause-stops
returns-clause-stops c = λ there.
    let past = slice_get_past (reports_of c.args.outcomes.now) (length c.args.outcomes.now) (omega (arith, length-map c.args.outcomes.now (λ o. o.report))) in
    cc (sym past ∙ there)
