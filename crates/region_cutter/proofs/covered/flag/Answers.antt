use Rattle.std.proofs.Common.{◌≡◌, ◌<◌, Bool, true, Vec, Global, length, refl, sym, subst, ◌∙◌, arith}
use Rattle.std.proofs.lemmas.Option.{slice_get_read}
use Rattle.std.specs.Vec.{with_item}
use Rattle.region_cutter.proofs.Lists.{some_same}
use Rattle.region_cutter.proofs.CoveredReads.{flags_not, flags_one, no_place, no_room}
use Rattle.region_cutter.proofs.covered.flag.Goals as goal

pub returns-then-read-len : goal.returns-then-read-len
returns-then-read-len c =
    flags_not c.args.covered.now.items c.args.read
    (no_place c.args.covered.now.items c.args.read (omega (arith, c.if-read-len.true, c.len.ensures, c.args.covered.now.ok.0)))

pub returns-then-read-len-2 : goal.returns-then-read-len-2
returns-then-read-len-2 c =
    let xs = c.args.covered.now.items in
    let v = c.index.result.now in
    flags_not xs c.args.read (no_room xs c.args.read v
    (slice_get_read xs (length xs) c.args.read.node v refl (omega (arith, c.if-read-len.false, c.len.ensures, c.args.covered.now.ok.0)) c.index.ensures)
    (omega (arith, c.if-read-len-2.true, c.len-2.ensures, v.ok.0)))

pub returns : goal.returns
returns c =
    let xs = c.args.covered.now.items in
    let v = c.index_mut.result.now in
    let u = c.index.result.now in
    let below : c.args.read.node < length xs = omega (arith, c.if-read-len.false, c.len.ensures, c.args.covered.now.ok.0) in
    let at = slice_get_read xs (length xs) c.args.read.node v refl below c.index_mut.ensures.value in
    let at' = slice_get_read xs (length xs) c.args.read.node u refl below c.index.ensures in
    let same : u ≡ v = some_same u v (sym at' ∙ at) in
    let room : c.args.read.number < length u.items = omega (arith, c.if-read-len-2.false, c.len-2.ensures, u.ok.0) in
    flags_one xs c.args.read v (with_item v c.args.read.number true) at
    (subst (λ (w : Vec Bool Global). c.args.read.number < length w.items) same room) refl
