use Rattle.std.proofs.Common.{◌≡◌, inl, inr, ◌≤◌, ℕ, true, false, length, refl, subst, ap, arith}
use Rattle.std.proofs.lemmas.Bool.{cases_lt}
use Rattle.std.proofs.lemmas.List.{length-map}
use Rattle.flow_graph.specs.Nodes.{graph_of, node_of}
use Rattle.flow_graph.specs.IdempotentCuts.{boundaries_of}
use Rattle.region_cutter.specs.links.RemovalPaths.{OverwritesRead}
use Rattle.region_cutter.proofs.ConflictPaths.{all_safe, read_conflicts}
use Rattle.region_cutter.proofs.regions.is_idempotent.Goals as goal

pub returns-then-branch : goal.returns-then-branch
returns-then-branch c = (
  λ t. let wrong : false ≡ true = t in absurd (cc),
  λ h. absurd (read_conflicts (graph_of c.args.graph.now) (boundaries_of c.args.cuts.now) c.loop-number.number
      (c.in_ok-overwrites_read.ensures.0 c.if-branch.true) h),
)

pub loop-number-preserved : goal.loop-number-preserved
loop-number-preserved c = λ node lt o. elim (cases_lt node c.loop-number.number) [
  | inl less ↦ c.loop-number.invariant node less o
  | inr most ↦ (
      let is : node ≡ c.loop-number.number = omega (arith, lt, most) in
      let o' = subst (λ (m : ℕ). OverwritesRead (graph_of c.args.graph.now) (boundaries_of c.args.cuts.now) m) is o in
      let yes' : c.in_ok-overwrites_read.field-0 ≡ true = c.in_ok-overwrites_read.ensures.1 o' in
      let no' : c.in_ok-overwrites_read.field-0 ≡ false = c.if-branch.false in
      cc)
]

pub returns : goal.returns
returns c =
    let nodes = c.args.graph.now.nodes.items in
    let least : length c.deref-node-items.result.now ≤ c.loop-number.number = c.loop-number-test.false in
    let same : length c.deref-node-items.result.now ≡ length nodes = ap length c.deref-node-items.ensures.value in (
      λ t. all_safe (graph_of c.args.graph.now) (boundaries_of c.args.cuts.now)
          (λ node lt. c.loop-number.invariant node (omega (arith, lt, least, same, length-map nodes node_of))),
      λ h. refl,
    )
