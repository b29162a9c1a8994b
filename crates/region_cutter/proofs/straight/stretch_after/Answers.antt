use Rattle.std.proofs.Common.{◌≡◌, ◌-◌, true, refl, arith}
use Rattle.flow_graph.specs.Nodes.{graph_of}
use Rattle.std.proofs.Common.{None, Some}
use Rattle.region_cutter.proofs.StraightCode.{no_stretch, one_stretch, stretch_begins, stretch_plain, stretch_found, ends_at, end_same}
use Rattle.region_cutter.proofs.straight.stretch_after.Goals as goal
use Rattle.region_cutter.proofs.straight.stretch_after.Goals.{then-not-synchronises-via-then-not-synchronises}
use Rattle.region_cutter.proofs.straight.stretch_after.Goals.{then-not-synchronises-via-else-not-synchronises+then-not-is_plain}

pub returns-then-not-synchronises : goal.returns-then-not-synchronises
returns-then-not-synchronises c =
    let g = graph_of c.args.graph.now in
    no_stretch g c.args.first None refl (λ past s. elim c.then-not-synchronises.branch [
      | then-not-synchronises-via-then-not-synchronises w ↦ (
          let e : c.synchronises.result ≡ true = c.synchronises.ensures.1 (stretch_begins g c.args.before c.args.first past c.requires.entered s) in
          cc (w.if-not-synchronises.true))
      | then-not-synchronises-via-else-not-synchronises+then-not-is_plain w ↦ (
          let e : w.is_plain.result ≡ true = w.is_plain.ensures.1 (stretch_plain g c.args.first past s) in
          cc (w.if-not-is_plain.true))
    ])

pub straight_end-past-requires-clause-plain : goal.straight_end-past-requires-clause-plain
straight_end-past-requires-clause-plain c = c.is_plain.ensures.0 c.if-not-is_plain.false

pub leads_to_sync-requires : goal.leads_to_sync-requires
leads_to_sync-requires c =
    let e = c.straight_end-past.ensures in
    let some = e.some in
    e.plain (c.straight_end-past.result - 1) (omega (arith, some)) (omega (arith, some))

pub returns-then-leads_to_sync : goal.returns-then-leads_to_sync
returns-then-leads_to_sync c =
    let g = graph_of c.args.graph.now in
    let past = c.straight_end-past.result in
    let e = c.straight_end-past.ensures in
    one_stretch g c.args.first past (Some (record { first = c.args.first; past = past })) refl
    (stretch_found g c.args.before c.args.first past c.requires.entered (c.synchronises.ensures.0 c.if-not-synchronises.false) e
    (c.leads_to_sync.ensures.0 c.if-leads_to_sync.true))
    (λ other s. end_same g c.args.first past other e s)

pub returns-else-leads_to_sync : goal.returns-else-leads_to_sync
returns-else-leads_to_sync c =
    let g = graph_of c.args.graph.now in
    let past = c.straight_end-past.result in
    no_stretch g c.args.first None refl (λ other s.
    let l = ends_at g c.args.first past other c.straight_end-past.ensures s in
    let e : c.leads_to_sync.result ≡ true = c.leads_to_sync.ensures.1 l in
    cc (c.if-leads_to_sync.false))
