use Rattle.std.proofs.Common.{◌≡◌, ◌+◌, ◌/◌, ◌<◌, ℕ, List, [], ◌∷◌, ◌++◌, Some, length, refl, sym, subst, arith}
use Rattle.std.specs.Prelude.{slice_get}
use Rattle.std.proofs.lemmas.Option.{slice_get_read}
use Rattle.flow_live.specs.links.Passes.{AreLong}
use Rattle.flow_live.proofs.ReadSets.{AreReadUpTo, read_none, read_more, read_all, long_none, long_more}
use Rattle.flow_live.proofs.reading.read_by_each.Goals as goal

pub loop-node-init : goal.loop-node-init
loop-node-init c =
    let none = sym c.new-sets.ensures.items in (
      subst (λ (ss : List (List ℕ)). AreReadUpTo c.args.nodes.now ss 0) none (read_none c.args.nodes.now),
      subst (λ (ss : List (List ℕ)). AreLong ss (c.args.most / 64 + 1)) none (long_none (c.args.most / 64 + 1)),
    )

pub read_by-requires : goal.read_by-requires
read_by-requires c local k =
    let nodes = c.args.nodes.now in
    let i = c.loop-node.node-index in
    let lt : i < length nodes = omega (arith, c.loop-node-test.true) in
    c.requires.each i local c.node-item.result (slice_get_read nodes (length nodes) i c.node-item.result refl lt c.node-item.is) k

pub loop-node-preserved : goal.loop-node-preserved
loop-node-preserved c =
    let nodes = c.args.nodes.now in
    let i = c.loop-node.node-index in
    let x = c.node-item.result in
    let sets = c.loop-node.sets.items in
    let to = c.in_ok-read_by.field-0 in
    let lt : i < length nodes = omega (arith, c.loop-node-test.true) in
    let at : slice_get nodes i ≡ Some x = slice_get_read nodes (length nodes) i x refl lt c.node-item.is in
    let pushed : c.push.new.self.items ≡ sets ++ to ∷ [] = c.in_ok-push.ensures.items in (
      subst (λ (ss : List (List ℕ)). AreReadUpTo nodes ss (i + 1)) (sym pushed)
          (read_more nodes sets i x to at c.loop-node.invariant.0 c.in_ok-read_by.ensures.has),
      subst (λ (ss : List (List ℕ)). AreLong ss (c.args.most / 64 + 1)) (sym pushed)
          (long_more sets to (c.args.most / 64 + 1) c.loop-node.invariant.1 c.in_ok-read_by.ensures.long),
    )

pub returns-clause-read : goal.returns-clause-read
returns-clause-read c =
    read_all c.args.nodes.now c.loop-node.sets.items c.loop-node.node-index (omega (arith, c.loop-node-test.false))
    (omega (arith, c.loop-node.auto.node-index-end)) c.loop-node.invariant.0
