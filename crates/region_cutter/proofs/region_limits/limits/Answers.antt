use Rattle.std.proofs.Common.{◌≡◌, ℕ, suc, ◌-◌, List, ◌++◌, take, drop, length, sym, subst, ap, arith}
use Rattle.std.proofs.lemmas.List.{take_at}
use Rattle.flow_graph.specs.Nodes.{graph_of}
use Rattle.region_cutter.specs.declared.region_limits.Track.{Track}
use Rattle.region_cutter.specs.links.RegionLimits.{AreTracked, HaveReads, AreLimits}
use Rattle.region_cutter.proofs.RegionCounts.{limits_more}
use Rattle.region_cutter.proofs.region_limits.limits.Goals as goal

pub limit_at-requires-clause-tracked : goal.limit_at-requires-clause-tracked
limit_at-requires-clause-tracked c =
    let g = graph_of c.args.graph.now in
    let is : c.loop-number.number ≡ suc (c.loop-number.number - 1) = omega arith in
    subst (λ (n : ℕ). AreTracked g n c.args.past c.deref_mut.result.now) is
    (subst (λ (xs : List Track). AreTracked g c.loop-number.number c.args.past xs) (sym c.deref_mut.ensures.value) c.loop-number.invariant.tracked)

pub limit_at-requires-clause-reads : goal.limit_at-requires-clause-reads
limit_at-requires-clause-reads c =
    subst (λ (xs : List Track). HaveReads (graph_of c.args.graph.now) c.args.first c.args.past xs) (sym c.deref_mut.ensures.value) c.loop-number.invariant.reads

pub loop-number-preserved : goal.loop-number-preserved
loop-number-preserved c =
    let g = graph_of c.args.graph.now in
    let first = c.args.first in
    let past = c.args.past in
    let number = c.loop-number.number - 1 in
    let i = c.loop-number.invariant in
    let is : c.loop-number.number ≡ suc number = omega arith in
    let a = i.from_first in
    let b = i.to_past in
    let tracks = c.limit_at.new.tracks in
    let long : length tracks ≡ c.loop-number.tracks.len =
    omega (arith, c.limit_at.auto.tracks, c.deref_mut.ensures.len, ap length c.deref_mut.ensures.value, c.loop-number.tracks.ok.0) in
    let back : take c.loop-number.tracks.len (tracks ++ drop (length tracks) c.loop-number.tracks.items) ≡ tracks =
    take_at tracks (drop (length tracks) c.loop-number.tracks.items) c.loop-number.tracks.len long in
    record {
      from_first = omega (arith, a);
      to_past = omega (arith, b);
      tracked = subst (λ (xs : List Track). AreTracked g number past xs) (sym back) c.limit_at.ensures.tracked;
      reads = subst (λ (xs : List Track). HaveReads g first past xs) (sym back) c.limit_at.ensures.reads;
      limits = limits_more g first past number c.limit_at.result c.loop-number.limits.items (omega (arith, a)) (omega (arith, b)) c.limit_at.ensures.limit
          (subst (λ (n : ℕ). AreLimits g first past n c.loop-number.limits.items) is i.limits);
    }
