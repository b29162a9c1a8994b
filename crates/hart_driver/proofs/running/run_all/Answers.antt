use Rattle.std.proofs.Common.{◌∙◌, sym, subst, ap, arith, length, [], ◌∷◌}
use Rattle.hart_board.specs.CoreTurns.{RunsIn}
use Rattle.hart_driver.specs.declared.running.Part.TheVariants.{Evictor, Harts}
use Rattle.hart_driver.specs.links.Parts.{HasRun}
use Rattle.hart_driver.proofs.Parts.{both_run, last_same, pushed_both, still_evictor, still_harts}
use Rattle.hart_driver.proofs.RunSeats.{refilled}
use Rattle.hart_driver.proofs.running.run_all.Goals as goal

pub pop_evictor-last-requires : goal.pop_evictor-last-requires
pop_evictor-last-requires g c = let value = c.as_mut_slice.ensures.value in let size = c.run_parts.auto.parts in
    let runs = RunsIn g.C.Core.opening g.C.Core.hart_count g.C.Core.is_local g.C.Core.ahead_by in
    let all = pushed_both c.args.parts.items c.push_reserved.new.self.items c.push_reserved-2.new.self.items (Harts c.args.seats)
    (Evictor c.args.last c.args.evict) c.requires.room.0 c.push_reserved.ensures.items c.push_reserved-2.ensures.items in
    let r = both_run g.C.Core.history g.C.Core.space runs g.V.Evictions.coming c.args.board.now (Harts c.args.seats)
    (Evictor c.args.last c.args.evict) c.as_mut_slice.result.now c.run_parts.new.parts (value ∙ all) c.run_parts.ensures in
    let same = refilled c.push_reserved-2.new.self.len c.push_reserved-2.new.self.items c.run_parts.new.parts c.push_reserved-2.new.self.ok.0
    (omega (arith, size, ap length value)) in (
      r.0 ∷ [],
      r.1,
      same ∙ r.2,
      still_evictor g.C.Core.history g.C.Core.space runs g.V.Evictions.coming c.args.board.now (Evictor c.args.last c.args.evict) r.1 tt r.4,
    )

pub pop_harts-seats-requires : goal.pop_harts-seats-requires
pop_harts-seats-requires g c = let value = c.as_mut_slice.ensures.value in let size = c.run_parts.auto.parts in
    let runs = RunsIn g.C.Core.opening g.C.Core.hart_count g.C.Core.is_local g.C.Core.ahead_by in
    let all = pushed_both c.args.parts.items c.push_reserved.new.self.items c.push_reserved-2.new.self.items (Harts c.args.seats)
    (Evictor c.args.last c.args.evict) c.requires.room.0 c.push_reserved.ensures.items c.push_reserved-2.ensures.items in
    let r = both_run g.C.Core.history g.C.Core.space runs g.V.Evictions.coming c.args.board.now (Harts c.args.seats)
    (Evictor c.args.last c.args.evict) c.as_mut_slice.result.now c.run_parts.new.parts (value ∙ all) c.run_parts.ensures in
    let same = refilled c.push_reserved-2.new.self.len c.push_reserved-2.new.self.items c.run_parts.new.parts c.push_reserved-2.new.self.ok.0
    (omega (arith, size, ap length value)) in
    let cut = last_same (r.0 ∷ []) c.pop_evictor-last.new.parts.items r.1 (Evictor c.pop_evictor-last.result.0 c.pop_evictor-last.result.1)
    (sym (same ∙ r.2) ∙ c.pop_evictor-last.ensures) in (
      [],
      r.0,
      sym cut.1,
      still_harts g.C.Core.history g.C.Core.space runs g.V.Evictions.coming c.args.board.now (Harts c.args.seats) r.0 tt r.3,
    )

pub returns : goal.returns
returns g c = let value = c.as_mut_slice.ensures.value in let size = c.run_parts.auto.parts in
    let runs = RunsIn g.C.Core.opening g.C.Core.hart_count g.C.Core.is_local g.C.Core.ahead_by in
    let all = pushed_both c.args.parts.items c.push_reserved.new.self.items c.push_reserved-2.new.self.items (Harts c.args.seats)
    (Evictor c.args.last c.args.evict) c.requires.room.0 c.push_reserved.ensures.items c.push_reserved-2.ensures.items in
    let r = both_run g.C.Core.history g.C.Core.space runs g.V.Evictions.coming c.args.board.now (Harts c.args.seats)
    (Evictor c.args.last c.args.evict) c.as_mut_slice.result.now c.run_parts.new.parts (value ∙ all) c.run_parts.ensures in
    let same = refilled c.push_reserved-2.new.self.len c.push_reserved-2.new.self.items c.run_parts.new.parts c.push_reserved-2.new.self.ok.0
    (omega (arith, size, ap length value)) in
    let cut = last_same (r.0 ∷ []) c.pop_evictor-last.new.parts.items r.1 (Evictor c.pop_evictor-last.result.0 c.pop_evictor-last.result.1)
    (sym (same ∙ r.2) ∙ c.pop_evictor-last.ensures) in
    let first = last_same [] c.pop_harts-seats.new.parts.items r.0 (Harts c.pop_harts-seats.result) (cut.1 ∙ c.pop_harts-seats.ensures) in (
      subst (HasRun g.C.Core.history g.C.Core.space runs g.V.Evictions.coming c.args.board.now (Harts c.args.seats)) first.0 r.3,
      subst (HasRun g.C.Core.history g.C.Core.space runs g.V.Evictions.coming c.args.board.now (Evictor c.args.last c.args.evict)) cut.0 r.4,
    )
