use Rattle.std.proofs.Common.{◌≡◌, ◌+◌, ◌<◌, ℕ, false, true, refl, List, map, length, slice_get, slice_index_or, Some, subst, ap, ◌∙◌, arith}
use Rattle.std.proofs.lemmas.Option.{slice_get-map, slice_get-get_or}
use Rattle.std.proofs.lemmas.List.{length-map}
use Rattle.std.specs.Option.{option_map}
use Rattle.image_checks.specs.links.PrefixBeforeFault.{IsCut}
use Rattle.run_scripts.specs.links.RunViews.{run_of}
use Rattle.run_scripts.specs.declared.runs.Run.{Run}
use Rattle.image_checks.proofs.ScheduleLaws.{goes_so, stops_so, fills_so, ends_so}
use Rattle.image_checks.proofs.schedules.prefix_of.Goals as goal

-- the run at an index, as the lemmas see it
there : (runs : List Run) (i : ℕ) (d : Run) → i < length runs → slice_get (map run_of runs) i ≡ Some (run_of (slice_index_or runs i d))
there runs i d lt = slice_get-map run_of runs i ∙ ap (option_map run_of) (slice_get-get_or runs i d lt)

pub returns-then-not-follows : goal.returns-then-not-follows
returns-then-not-follows c =
    let runs = map run_of c.args.runs.now in
    let steps = c.loop-run.steps.items in
    let count : c.args.before + length steps + 1 ≡ c.args.before + c.len.result + 1 = omega (arith, c.len.ensures, c.loop-run.steps.ok.0) in
    subst (IsCut c.args.before runs steps) count
    (stops_so c.args.before runs c.loop-run.run-index steps c.loop-run.last _ c.loop-run.invariant
    (there c.args.runs.now c.loop-run.run-index _ c.loop-run-test.true)
    (λ ok. let e : false ≡ true = c.if-not-follows.ensures.1 ok in cc))

pub returns-then-count-room : goal.returns-then-count-room
returns-then-count-room c =
    fills_so c.args.before (map run_of c.args.runs.now) c.loop-run.run-index c.loop-run.steps.items c.loop-run.last _ c.loop-run.invariant
    (there c.args.runs.now c.loop-run.run-index _ c.loop-run-test.true)
    c.push_steps.new.steps.items _ (c.if-not-follows.ensures.0 refl)
    (omega (arith, c.len.ensures, c.loop-run.steps.ok.0)) (omega (arith, c.if-count-room.true))
    c.in_ok-push_steps.ensures

pub loop-run-preserved : goal.loop-run-preserved
loop-run-preserved c =
    goes_so c.args.before (map run_of c.args.runs.now) c.loop-run.run-index c.loop-run.steps.items c.loop-run.last _ c.loop-run.invariant
    (there c.args.runs.now c.loop-run.run-index _ c.loop-run-test.true)
    c.push_steps-in-loop-run.new.steps.items _ (c.if-not-follows.ensures.0 refl) refl
    (omega (arith, c.len.ensures, c.loop-run.steps.ok.0, c.if-count-room.false, c.loop-run.invariant.few)) c.in_ok-push_steps-2.ensures

pub returns : goal.returns
returns c =
    ends_so c.args.before (map run_of c.args.runs.now) c.loop-run.run-index c.loop-run.steps.items c.loop-run.last
    (omega (arith, length-map c.args.runs.now run_of, c.loop-run-test.false)) c.loop-run.invariant
