use Rattle.std.proofs.Common.{◌≡◌, ◌<◌, Option, None, length, get_or, sym, subst, arith}
use Rattle.std.proofs.lemmas.Option.{slice_get-get_or}
use Rattle.reg_colour.specs.declared.checking.Found.{Found}
use Rattle.reg_colour.specs.links.LeastClash.{IsLeastOf, ClashBoth, locals_of}
use Rattle.reg_colour.proofs.Clashes.{disjoint, shared_first}
use Rattle.reg_colour.proofs.checking.clash.Goals as goal

pub returns-in_err-node : goal.returns-in_err-node
returns-in_err-node c =
    let xs = c.args.intervals.now in
    let rs = c.args.registers.now in
    let a = c.args.a in
    let b = c.args.b in
    let la : a < length xs = omega (arith, c.requires.order, c.requires.exists, c.requires.long) in
    let lb : b < length xs = omega (arith, c.requires.exists, c.requires.long) in
    subst (λ (o : Option Found). IsLeastOf (ClashBoth (locals_of xs rs) a b) o) (sym c.from_residual.ensures)
    (disjoint xs rs a b (get_or xs a None) (get_or xs b None) (slice_get-get_or xs a None la) (slice_get-get_or xs b None lb) c.in_err-node.ensures)

pub returns : goal.returns
returns c =
    let xs = c.args.intervals.now in
    let rs = c.args.registers.now in
    let a = c.args.a in
    let b = c.args.b in
    let la : a < length xs = omega (arith, c.requires.order, c.requires.exists, c.requires.long) in
    let lb : b < length xs = omega (arith, c.requires.exists, c.requires.long) in
    let ra : a < length rs = omega (arith, c.requires.order, c.requires.exists) in
    let same : get_or rs a 0 ≡ get_or rs b 0 = omega (arith, c.if-registers-a.false) in
    shared_first xs rs a b (get_or rs a 0) (get_or rs b 0) c.in_ok-node.node (get_or xs a None) (get_or xs b None) c.requires.order
    (slice_get-get_or rs a 0 ra) (slice_get-get_or rs b 0 c.requires.exists) same (slice_get-get_or xs a None la)
    (slice_get-get_or xs b None lb) c.in_ok-node.ensures
