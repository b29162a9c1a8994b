use Rattle.std.proofs.Common.{◌∙◌, ◌+◌, ◌<◌, Option, Some, None, length, refl, ap, arith}
use Rattle.std.proofs.lemmas.Option.{slice_get-get_or, get_or_from_slice_get}
use Rattle.reg_colour.specs.declared.intervals.Interval.{Interval}
use Rattle.reg_colour.specs.links.Intervals.{IntervalAt}
use Rattle.reg_colour.proofs.Scans.{not_here, has_one, named, full, next_node}
use Rattle.reg_colour.proofs.scan.begin.Goals as goal
use Rattle.reg_colour.proofs.scan.begin.Goals.{in-None, in-Some+in-Some-free_register}

pub returns-in-None-free_register : goal.returns-in-None-free_register
returns-in-None-free_register c =
    let xs = c.args.intervals.now in
    let k = c.loop-local.local in
    let i : Interval = record { first = c.args.node; end = c.in-Some.end } in
    let lt : k < length xs = omega (arith, c.loop-local-test.true) in
    let at : IntervalAt xs k i = slice_get-get_or xs k None lt ∙ ap (λ (o : Option Interval). Some o) c.in-Some.ensures in
    full xs c.args.node k c.loop-local.registers c.loop-local.free i c.loop-local.invariant at refl
    (c.requires.filled.each k i at) c.in-None-free_register.ensures

pub loop-local-preserved : goal.loop-local-preserved
loop-local-preserved c =
    let xs = c.args.intervals.now in
    let k = c.loop-local.local in
    let given = c.loop-local.registers in
    let free = c.loop-local.free in
    let lt : k < length xs = omega (arith, c.loop-local-test.true) in
    elim c.match-end_from.branch [
      | in-None w ↦
          let none = λ (i : Interval) (at : IntervalAt xs k i). w.in-None.ensures i (get_or_from_slice_get xs k (Some i) None at) in
          named xs c.args.node (k + 1) given free c.match-end_from.registers c.match-end_from.free
          (not_here xs c.args.node k given free none c.loop-local.invariant) w.registers-is w.free-is
      | in-Some+in-Some-free_register w ↦
          let i : Interval = record { first = c.args.node; end = w.in-Some.end } in
          let at : IntervalAt xs k i = slice_get-get_or xs k None lt ∙ ap (λ (o : Option Interval). Some o) w.in-Some.ensures in
          let r = w.in-Some-free_register.register in
          named xs c.args.node (k + 1) _ _ c.match-end_from.registers c.match-end_from.free
          (has_one xs c.args.node k r given free
          (record {
            interval = i;
            at = at;
            starts = refl;
            filled = c.requires.filled.each k i at;
            exists = w.in-Some-free_register.ensures.exists;
            is_free = w.in-Some-free_register.ensures.is;
          }) c.loop-local.invariant) w.registers-is w.free-is
    ]

pub returns : goal.returns
returns c =
    next_node c.args.intervals.now c.args.node c.loop-local.local c.loop-local.registers c.loop-local.free
    (omega (arith, c.loop-local-test.false)) c.loop-local.invariant
