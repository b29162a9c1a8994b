use Rattle.std.proofs.Common.{◌≡◌, ◌<◌, length, slice_get, Some, arith, ap, ◌∙◌}
use Rattle.machine_model.specs.Machine.{Hart}
use Rattle.machine_model.specs.Schedule.{is_running}
use Rattle.ido_machine.proofs.Public.{get_some}
use Rattle.run_tracker.specs.links.AccountRepresentation.{point_word}
use Rattle.run_tracker.proofs.PointWords.{point_exists}
use Rattle.run_tracker.proofs.stepping.look.Goals as goal

pub returns : goal.returns
returns c = λ tables table w stands owned next.
    let machine = c.args.machine.now in
    let h = c.args.hart in
    let some : (hart : Hart) × (slice_get w.harts h ≡ Some hart) =
    get_some w.harts h (omega (arith, stands.standing.count, machine.sized, machine.harts.ok.0, c.requires)) in
    let hart : Hart = some.0 in
    let point : point_word w.log h < length w.words = point_exists machine w h stands c.requires in
    record {
      hart = hart;
      found = some.1;
      running = c.is_running.ensures ∙ ap is_running (c.phase.ensures w hart stands some.1);
      table = table;
      owned = owned;
      sign = next hart some.1;
      position = λ stores. c.position_if.ensures.asked stores w stands;
      unstored = c.position_if.ensures.unasked;
      point = point;
      durable = (stands.words.cells.each (point_word w.log h) (omega (arith, stands.words.cells.size, point))).order;
    }
