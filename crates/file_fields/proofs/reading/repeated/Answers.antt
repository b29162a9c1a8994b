use Rattle.std.proofs.Common.{◌≡◌, ◌++◌, ◌∷◌, [], map}
use Rattle.std.proofs.lemmas.Result.{err_from_is_err_and}
use Rattle.std.proofs.lemmas.List.{map_push}
use Rattle.file_fields.specs.Fields.{repeated}
use Rattle.file_fields.proofs.RepeatedReads.{goes_on, ends, is_done}
use Rattle.file_fields.proofs.reading.repeated.Goals as goal

pub returns-in_err-item : goal.returns-in_err-item
returns-in_err-item g c =
    let p = err_from_is_err_and c.from_residual.result c.from_residual.ensures.1 in
    let reading = g.R.Reader.reading c.args.reader.now in
    rw (p.1, p.2) (ends reading c.in_err-item.field-0.0 (map g.R.Reader.view c.loop.items.items) c.args.count c.loop.counter c.loop.rest.now
    (repeated reading c.args.count c.args.bytes.now) c.loop-test.true c.in_err-item.ensures c.loop.invariant)

pub loop-preserved : goal.loop-preserved
loop-preserved g c =
    let item = c.in_ok-item.item in
    let view = g.R.Reader.view in
    let reading = g.R.Reader.reading c.args.reader.now in
    let e : map view c.push.new.items.items ≡ map view c.loop.items.items ++ view item ∷ [] = rw c.in_ok-push.ensures (map_push view c.loop.items.items item) in
    rw e (goes_on reading (map view c.loop.items.items) c.args.count c.loop.counter c.loop.rest.now (view item) c.in_ok-item.after.now
    (repeated reading c.args.count c.args.bytes.now) c.loop-test.true c.in_ok-item.ensures c.loop.invariant)

pub returns : goal.returns
returns g c =
    let reading = g.R.Reader.reading c.args.reader.now in
    is_done reading (map g.R.Reader.view c.loop.items.items) c.args.count c.loop.counter c.loop.rest.now (repeated reading c.args.count c.args.bytes.now)
    c.loop-test.false c.loop.invariant
