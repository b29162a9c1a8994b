use Rattle.std.proofs.Common.{List, map, ap, arith}
use Rattle.c_tree.specs.Programs.{function_of, thread_of, statements_of}
use Rattle.c_tree.specs.declared.program.Statement.{Statement}
use Rattle.c_inline.specs.links.Weights.{price, known_weight, statements_weight}
use Rattle.c_inline.proofs.InlinedWeights.{price_known}
use Rattle.c_inline.proofs.inline.thread_price.Goals as goal

pub returns : goal.returns
returns c =
    let fs = map function_of c.args.functions.now in
    let a = price_known fs c.args.prices.now c.requires.right c.requires.known (thread_of c.args.thread.now) in
    let b = ap (λ (xs : List Statement). statements_weight price 0 fs (known_weight c.args.prices.now) (statements_of xs)) c.deref.ensures.value in
    omega (arith, a, b)
