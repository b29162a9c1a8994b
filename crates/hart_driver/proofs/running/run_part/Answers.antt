use Rattle.std.proofs.Common.{◌∙◌, sym, subst, ap, refl, length, arith}
use Rattle.std.specs.Vec.{with_items}
use Rattle.hart_driver.specs.declared.running.Part.TheVariants.{Harts}
use Rattle.hart_driver.proofs.RunSeats.{refilled}
use Rattle.std.specs.Prelude.{All}
use Rattle.hart_board.specs.CoreTurns.{RunsIn}
use Rattle.hart_board.specs.Seats.{IsSeatOf, numbers_of}
use Rattle.hart_driver.specs.declared.running.Part.{Part}
use Rattle.hart_driver.specs.links.Parts.{CanRun, HasRun, IsHartSeat}
use Rattle.hart_driver.proofs.running.run_part.Goals as goal

pub run_harts-requires-after_bounds : goal.run_harts-requires-after_bounds
run_harts-requires-after_bounds g c κs within =
    subst (All (IsHartSeat g.C.Core.history g.C.Core.space (RunsIn g.C.Core.opening g.C.Core.hart_count g.C.Core.is_local g.C.Core.ahead_by) g.C.Core.hart_count
    c.args.board.now)) (sym c.as_mut_slice.ensures.value)
    (subst (CanRun g.C.Core.history g.C.Core.space (RunsIn g.C.Core.opening g.C.Core.hart_count g.C.Core.is_local g.C.Core.ahead_by) g.C.Core.hart_count
    g.C.Core.evictable g.V.Evictions.coming c.args.board.now) c.in-Harts.is c.requires)

pub returns-in-Harts : goal.returns-in-Harts
returns-in-Harts g c =
    let size = c.run_harts.auto.seats in let value = c.as_mut_slice.ensures.value in
    let same = refilled c.in-Harts.seats.len c.in-Harts.seats.items c.run_harts.new.seats c.in-Harts.seats.ok.0 (omega (arith, size, ap length value)) in
    let ran : HasRun g.C.Core.history g.C.Core.space (RunsIn g.C.Core.opening g.C.Core.hart_count g.C.Core.is_local g.C.Core.ahead_by) g.V.Evictions.coming
    c.args.board.now (Harts c.in-Harts.seats) (Harts (with_items c.in-Harts.seats c.run_harts.new.seats)) = (
      subst (All (IsSeatOf g.C.Core.history g.C.Core.space (RunsIn g.C.Core.opening g.C.Core.hart_count g.C.Core.is_local g.C.Core.ahead_by) c.args.board.now))
          (sym same) c.run_harts.ensures.seats,
      ap numbers_of same ∙ (c.run_harts.ensures.numbers ∙ ap numbers_of c.as_mut_slice.ensures.value),
      refl,
    ) in
    subst (λ (p : Part g.row.C.Denot g.row.C-Local.Denot g.row.V.Denot).
    HasRun g.C.Core.history g.C.Core.space (RunsIn g.C.Core.opening g.C.Core.hart_count g.C.Core.is_local g.C.Core.ahead_by) g.V.Evictions.coming
    c.args.board.now p (Harts (with_items c.in-Harts.seats c.run_harts.new.seats))) (sym c.in-Harts.is) ran
