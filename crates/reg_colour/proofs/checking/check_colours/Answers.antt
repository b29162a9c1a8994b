use Rattle.std.proofs.Common.{◌≡◌, ◌∙◌, ℕ, ◌+◌, ◌<◌, Option, Some, None, List, length, get_or, slice_get, sym, ap, subst, arith}
use Rattle.std.proofs.lemmas.Option.{slice_get-get_or}
use Rattle.flow_graph.specs.declared.graph.Part.{Part}
use Rattle.flow_graph.specs.Nodes.{graph_of}
use Rattle.flow_graph.specs.Colours.{colouring_of}
use Rattle.reg_colour.specs.declared.checking.Found.{Found}
use Rattle.reg_colour.specs.links.Intervals.{Intervals, AreIntervals}
use Rattle.reg_colour.specs.links.LeastClash.{IsLeastOf}
use Rattle.reg_colour.proofs.Clashes.{ClashBelow, one_in, none_more, registers_at, no_registers, no_clash_at_all, first_clash}
use Rattle.reg_colour.proofs.checking.check_colours.Goals as goal
use Rattle.reg_colour.proofs.checking.check_colours.Goals.{then-thread-len+in_ok-intervals, else-thread-len}

pub loop-thread-preserved : goal.loop-thread-preserved
loop-thread-preserved c =
    let g = graph_of c.args.graph.now in
    let vs = c.args.colours.now.threads.items in
    let colours = colouring_of c.args.colours.now in
    let t = c.loop-thread.thread in
    let ps = c.deref-part-items.result.now in
    let none : Part = record { first = 0; end = 0; locals = 0 } in
    let part : Part = get_or ps t none in
    let lt : t < length ps = omega (arith, c.loop-thread-test.true) in
    let at : slice_get c.args.graph.now.threads.items t ≡ Some part =
    subst (λ (x : List Part). slice_get x t ≡ Some part) c.deref-part-items.ensures.value (slice_get-get_or ps t none lt) in
    elim c.if-thread-len.branch [
      | then-thread-len+in_ok-intervals w ↦
          let v = w.index-registers.result.now in
          let xs = w.deref.result.now in
          let own = w.deref-then-thread-len.result.now in
          let within : t < length vs = omega (arith, w.if-thread-len.true, c.len.ensures, c.args.colours.now.threads.ok.0) in
          let same : own ≡ v.items = w.deref-then-thread-len.ensures.value in
          let has : slice_get colours t ≡ Some own = registers_at vs t v within w.index-registers.ensures ∙ ap (λ (x : List ℕ). Some x) (sym same) in
          let all : xs ≡ w.in_ok-intervals.intervals.items = w.deref.ensures.value in
          let are : AreIntervals g part xs = subst (λ (x : Intervals). AreIntervals g part x) (sym all) w.in_ok-intervals.ensures.each in
          let long : length xs ≡ length own =
          omega (
            arith,
            ap (λ (x : Intervals). length x) all,
            w.in_ok-intervals.ensures.count,
            w.len-then-thread-len.ensures,
            v.ok.0,
            ap (λ
                (x : List ℕ). length x) same,
          ) in
          subst (λ (o : Option Found). IsLeastOf (ClashBelow g colours (t + 1)) o) (sym w.found-is)
          (one_in g colours t part own xs c.loop-thread.found w.first_in.result w.earlier-found.result at has are long c.loop-thread.invariant
          w.first_in.ensures w.earlier-found.ensures)
      | else-thread-len w ↦
          let none_there : slice_get colours t ≡ None =
          no_registers vs t (omega (arith, w.if-thread-len.false, c.len.ensures, c.args.colours.now.threads.ok.0)) in
          subst (λ (o : Option Found). IsLeastOf (ClashBelow g colours (t + 1)) o) (sym w.found-is)
          (none_more g colours t c.loop-thread.found none_there c.loop-thread.invariant)
    ]

pub returns-in-None-clause-apart : goal.returns-in-None-clause-apart
returns-in-None-clause-apart c =
    let g = graph_of c.args.graph.now in
    let colours = colouring_of c.args.colours.now in
    let t = c.loop-thread.thread in
    let all : length c.args.graph.now.threads.items ≡ t =
    omega (arith, c.loop-thread-test.false, ap (λ (x : List Part). length x) c.deref-part-items.ensures.value) in
    no_clash_at_all g colours t all (subst (λ (o : Option Found). IsLeastOf (ClashBelow g colours t) o) c.in-None.is c.loop-thread.invariant)

pub returns-in-Some-clause-first : goal.returns-in-Some-clause-first
returns-in-Some-clause-first c =
    let g = graph_of c.args.graph.now in
    let colours = colouring_of c.args.colours.now in
    let t = c.loop-thread.thread in
    let all : length c.args.graph.now.threads.items ≡ t =
    omega (arith, c.loop-thread-test.false, ap (λ (x : List Part). length x) c.deref-part-items.ensures.value) in
    first_clash g colours t c.in-Some.field-0 all (subst (λ (o : Option Found). IsLeastOf (ClashBelow g colours t) o) c.in-Some.is c.loop-thread.invariant)
