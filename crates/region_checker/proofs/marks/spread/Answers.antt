use Rattle.std.proofs.Common.{◌≡◌, ◌↔◌, ◌<◌, Bool, List, length, sym, subst, ap, arith}
use Rattle.region_checker.specs.links.MarkPropagation.{IsMarked, PathLeads, Arrives, IsMarkPass}
use Rattle.region_checker.proofs.PropagationPasses.{reached_first, reached_all, written}
use Rattle.region_checker.proofs.marks.spread.Goals as goal

pub loop-init : goal.loop-init
loop-init c = reached_first c.args.paths.now c.args.stops.now c.args.marks.items

pub returns-clause-spread : goal.returns-clause-spread
returns-clause-spread c n =
    let paths = c.args.paths.now in
    let stops = c.args.stops.now in
    let start = c.args.marks.items in
    let before = c.loop.marks.items in
    let after = c.spread_once.new.marks in
    let grows = c.spread_once.result in
    let passes : IsMarkPass paths stops (length paths) before after grows =
    subst (λ (ms : List Bool). IsMarkPass paths stops (length paths) ms after grows) c.deref_mut.ensures.value c.spread_once.ensures in
    let h : IsMarked after n ↔ ((n < length start) × Arrives (PathLeads paths) (IsMarked start) (IsMarked stops) n) =
    reached_all paths stops start before after grows c.requires.paths c.loop-test.false c.loop.invariant passes n in
    let count : length after ≡ c.loop.marks.len =
    omega (arith, c.spread_once.auto.marks, c.deref_mut.ensures.len, ap length c.deref_mut.ensures.value, c.loop.marks.ok.0) in
    subst (λ (ms : List Bool). IsMarked ms n ↔ ((n < length start) × Arrives (PathLeads paths) (IsMarked start) (IsMarked stops) n))
    (sym (written c.loop.marks.len after before count)) h
