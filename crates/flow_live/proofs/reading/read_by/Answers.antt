use Rattle.std.proofs.Common.{◌≡◌, ◌<◌, ◌≤◌, ℕ, List, length, get_or, ap, arith}
use Rattle.std.proofs.lemmas.List.{get_or_default}
use Rattle.flow_live.proofs.reading.read_by.Goals as goal

pub insert-requires : goal.insert-requires
insert-requires c =
    let uses = c.args.node.now.uses.items in
    let i = c.loop-local.local-index in
    let same : c.deref-local-items.result.now ≡ uses = c.deref-local-items.ensures.value in
    let lt : i < length uses = omega (arith, c.loop-local-test.true, ap length same) in
    let local = get_or uses i 0 in
    let le : local ≤ c.args.most = c.requires local (i, lt, get_or_default uses i local 0 lt) in
    omega (arith, le, c.loop-local.invariant.1, ap (λ (xs : List ℕ). get_or xs i 0) same)
