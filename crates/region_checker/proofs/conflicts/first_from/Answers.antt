use Rattle.std.proofs.Common.{◌≡◌, false, true, sym, ◌∙◌}
use Rattle.std.proofs.lemmas.Option.{slice_get-get_or}
use Rattle.flow_graph.specs.Nodes.{graph_of}
use Rattle.region_checker.proofs.LeastNumbers.{first_marked, first_unmarked}
use Rattle.region_checker.proofs.conflicts.first_from.Goals as goal

pub returns-then-marks-number : goal.returns-then-marks-number
returns-then-marks-number c =
    let marks = c.args.marks.now in
    let n = c.args.number in
    first_marked (graph_of c.args.graph.now) c.args.location c.args.paths.now marks n _ c.first_on.result
    (slice_get-get_or c.args.paths.now n _ c.requires.exists) c.if-marks-number.true c.first_on.ensures

pub returns-else-marks-number : goal.returns-else-marks-number
returns-else-marks-number c =
    first_unmarked (graph_of c.args.graph.now) c.args.location c.args.paths.now c.args.marks.now c.args.number
    (λ m. let both : true ≡ false = sym m ∙ c.if-marks-number.false in absurd (cc))
