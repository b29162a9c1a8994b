use Rattle.std.proofs.Common.{◌≡◌, ◌<◌, rules, true, false, not, length, arith}
use Rattle.machine_model.specs.Machine.{is_settled_hart}
use Rattle.run_tracker.specs.ObjectLives.{world_of}
use Rattle.ido_cli.specs.Reports.{unsettled_harts}
use Rattle.ido_cli.proofs.GatheredReports.{filter_passed, filter_pushed, filter_whole}
use Rattle.ido_cli.proofs.report.unsettled.Goals.{then-unsettled+in_ok-push, else-unsettled}
use Rattle.ido_cli.proofs.report.unsettled.Goals as goal

pub loop-hart-preserved : goal.loop-hart-preserved
loop-hart-preserved c = record {
  end = c.loop-hart.invariant.end;
  so_far =
      let w = world_of c.args.life.now in
      let k = c.loop-hart.hart in
      let within : k < length w.harts = omega (arith, c.loop-hart-test.true, c.loop-hart.invariant.end, c.requires) in
      let is = c.unsettled.ensures in
      elim c.if-unsettled.branch [
        | then-unsettled+in_ok-push w' ↦
            filter_pushed (λ h. not (is_settled_hart w h)) c.loop-hart.harts.items (unsettled_harts w) c.if-unsettled.harts.items (length w.harts) k within
            (let e : not (is_settled_hart w k) ≡ true = search (rules, is, w'.if-unsettled) in e)
            (search (rules, w'.harts-is, w'.push.ensures.items)) c.loop-hart.invariant.so_far
        | else-unsettled w' ↦
            filter_passed (λ h. not (is_settled_hart w h)) c.loop-hart.harts.items (unsettled_harts w) c.if-unsettled.harts.items (length w.harts) k within
            (let e : not (is_settled_hart w k) ≡ false = search (rules, is, w'.if-unsettled) in e)
            (search (rules, w'.harts-is)) c.loop-hart.invariant.so_far
      ];
}

pub returns : goal.returns
returns c =
    let w = world_of c.args.life.now in
    filter_whole (λ h. not (is_settled_hart w h)) c.loop-hart.harts.items (unsettled_harts w) (length w.harts) c.loop-hart.hart
    (omega (arith, c.loop-hart-test.false, c.loop-hart.invariant.end, c.requires)) c.loop-hart.invariant.so_far
