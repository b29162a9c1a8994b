use Rattle.std.proofs.Common.{◌≡◌, ℕ, true, false, sym, ◌∙◌, arith}
use Rattle.flow_graph.specs.Nodes.{graph_of}
use Rattle.region_checker.specs.links.ConflictSearch.{HitsAny}
use Rattle.region_checker.proofs.FoundConflicts.{least_here, none_more, reads_within}
use Rattle.region_checker.proofs.conflicts.first_read.Goals as goal

pub returns-then-branch : goal.returns-then-branch
returns-then-branch c b r =
    let P : ℕ → Type 0 = λ n. HitsAny (graph_of c.args.graph.now) b n c.args.store in
    least_here P c.loop-read.read (c.loop-read.invariant b r) ((c.in_ok-conflict.ensures b r).0 c.if-branch.true)

pub loop-read-preserved : goal.loop-read-preserved
loop-read-preserved c b r =
    let P : ℕ → Type 0 = λ n. HitsAny (graph_of c.args.graph.now) b n c.args.store in
    none_more P c.loop-read.read (c.loop-read.invariant b r) (λ h.
    let t : c.in_ok-conflict.field-0 ≡ true = (c.in_ok-conflict.ensures b r).1 h in
    let both : true ≡ false = sym t ∙ c.if-branch.false in
    absurd (cc))

pub returns : goal.returns
returns c b r n h =
    c.loop-read.invariant b r n
    (omega (arith, reads_within c.args.graph.now b n c.args.store h, c.loop-read-test.false, c.len-read-end.ensures, c.args.graph.now.nodes.ok.0)) h
