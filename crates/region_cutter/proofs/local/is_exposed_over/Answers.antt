use Rattle.std.proofs.Common.{◌≡◌, List, true, false, sym, subst, arith}
use Rattle.std.proofs.lemmas.List.{length-map}
use Rattle.std.proofs.lemmas.Option.{slice_get_within}
use Rattle.flow_graph.specs.Nodes.{graph_of, node_of}
use Rattle.flow_graph.specs.IdempotentCuts.{boundaries_of}
use Rattle.region_cutter.specs.declared.covered.Read.{Read}
use Rattle.region_cutter.specs.links.CoveredReads.{AreFound}
use Rattle.region_cutter.proofs.CoveredReads.{found_more}
use Rattle.region_cutter.proofs.local.is_exposed_over.Goals as goal

pub is_unwritten-requires-clause-exists : goal.is_unwritten-requires-clause-exists
is_unwritten-requires-clause-exists c =
    let g = graph_of c.args.graph.now in
    omega (arith, slice_get_within g.nodes c.args.read.node c.requires.read.is c.requires.read.at, length-map c.args.graph.now.nodes.items node_of)

pub returns-then-is_covered-clause-exposed : goal.returns-then-is_covered-clause-exposed
returns-then-is_covered-clause-exposed c = (
  λ t. let wrong : false ≡ true = t in absurd (cc),
  λ e. absurd (c.requires.covered c.args.read (c.is_covered.ensures.0 c.if-is_covered.true) c.args.elements c.requires.read e.unwritten),
)

pub returns-clause-found : goal.returns-clause-found
returns-clause-found c =
    let g = graph_of c.args.graph.now in
    let b = boundaries_of c.args.cuts.now in
    subst (λ (xs : List Read). AreFound g b xs) (sym c.in_ok-push.ensures.items)
    (found_more g b c.args.found.now.items c.args.read c.args.elements c.requires.read
    (λ u. let yes' : c.in_ok-is_unwritten.field-0 ≡ true = c.in_ok-is_unwritten.ensures.1 u in
    let no' : c.in_ok-is_unwritten.field-0 ≡ false = c.if-branch.false in cc) c.requires.found)
