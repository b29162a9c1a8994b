use Rattle.std.proofs.Common.{◌≡◌, ◌+◌, ◌∙◌, arith, sym}
use Rattle.std.proofs.lemmas.Grind.{common_steps}
use Rattle.c_inline.proofs.InlinedStatements.{passed_step, passed_all}
use Rattle.c_inline.proofs.build.pass.Goals as goal

pub loop-index-preserved : goal.loop-index-preserved
loop-index-preserved c =
    let j = c.loop-index.index in
    let n = c.loop-index.local in
    let next : c.in_ok-local.local ≡ n + 1 = grind (arith, common_steps, c.in_ok-local.ensures) in (
      omega (arith, next, c.loop-index.invariant.0),
      passed_step c.args.place c.args.by j c.args.locals.now c.args.arguments.now c.loop-index.made.items c.push.new.self.items n c.in_ok-local.local
          c.index-arguments-index.result c.in_ok-value.value c.kind_of.result c.loop-index-test.true c.index-arguments-index.is c.in_ok-value.ensures
          c.kind_of.ensures next c.in_ok-push.ensures.items
          ∙ c.loop-index.invariant.1,
    )

pub returns : goal.returns
returns c =
    sym (passed_all c.args.place c.args.by c.loop-index.index c.args.locals.now c.args.arguments.now c.loop-index.made.items c.loop-index.made.items
    c.loop-index.local c.loop-index-test.false) ∙ c.loop-index.invariant.1
