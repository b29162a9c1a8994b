use Rattle.std.proofs.Common.{ℕ, ◌<◌, List, Option, map, MatchBool, arith, sym, ap, subst}
use Rattle.std.proofs.lemmas.List.{length-map}
use Rattle.c_tree.specs.Programs.{function_of}
use Rattle.c_inline.specs.links.KnownWeights.{IsClosed, found}
use Rattle.c_inline.proofs.Passes.{after_found, after_same, at_most_found, same_known, closed_all}
use Rattle.c_inline.proofs.weigh.weigh_both_ways.Goals as goal
use Rattle.c_inline.proofs.weigh.weigh_both_ways.Goals.{then-weigh_function, else-weigh_function}

pub loop-number-preserved : goal.loop-number-preserved
loop-number-preserved c =
    let fs = map function_of c.args.functions.now in
    let k0 = c.args.known.now.items in
    let k1 = c.loop-number.known.items in
    let k2 = c.weigh_function.new.known.items in
    let r = c.weigh_function.result in
    elim c.if-weigh_function.branch [
      | then-weigh_function w ↦ (
        c.weigh_function.ensures.right,
        after_found k0 k1 k2 c.if-weigh_function.found r _ _ c.loop-number.invariant.2 w.if-weigh_function.true c.weigh_function.ensures.found w.found-is,
        omega (arith, c.loop-number.invariant.2, at_most_found k1 k2 r _ w.if-weigh_function.true c.weigh_function.ensures.found),
      )
      | else-weigh_function w ↦ (
        c.weigh_function.ensures.right,
        after_same fs k0 k1 k2 c.loop-number.number c.loop-number.found c.if-weigh_function.found r c.loop-number.invariant.1 w.if-weigh_function.false
            c.weigh_function.ensures.found w.found-is,
        omega (
          arith,
          c.loop-number.invariant.2,
          ap found (same_known fs k0 k1 k2 c.loop-number.number r w.if-weigh_function.false c.weigh_function.ensures.found).0,
        ),
      )
    ]

pub loop-number-2-init : goal.loop-number-2-init
loop-number-2-init c = (
  c.loop-number.invariant.0,
  closed_all (map function_of c.args.functions.now) c.args.known.now.items c.loop-number.known.items c.loop-number.known.items c.loop-number.number
      c.loop-number.found
      (omega (arith, c.loop-number-test.false, c.loop-number.invariant.0.covers, length-map c.args.functions.now function_of)) c.loop-number.invariant.1,
  c.loop-number.invariant.2,
)

pub loop-number-2-preserved-then-weigh_function-2 : goal.loop-number-2-preserved-then-weigh_function-2
loop-number-2-preserved-then-weigh_function-2 c =
    let m = c.if-weigh_function-2.ensures.found in
    (c.weigh_function-in-loop-number-2.ensures.right, omega (arith, m, c.loop-number-2.invariant.2), omega (arith, m, c.loop-number-2.invariant.2))

pub loop-number-2-preserved : goal.loop-number-2-preserved
loop-number-2-preserved c =
    let m = c.if-weigh_function-2.ensures.found in (
      c.weigh_function-in-loop-number-2.ensures.right,
      subst (λ (k : List (Option ℕ)).
          MatchBool c.loop-number-2.found (found c.args.known.now.items < found k) (IsClosed (map function_of c.args.functions.now) k)) (sym m.0)
          c.loop-number-2.invariant.1,
      omega (arith, c.loop-number-2.invariant.2, ap found m.0),
    )
