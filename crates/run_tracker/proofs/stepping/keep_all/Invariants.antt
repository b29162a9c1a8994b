use Rattle.std.proofs.Common.{◌≡◌, length}
use Rattle.std.specs.Vec.{vec_capacity}
use Rattle.machine_model.specs.Machine.{World}
use Rattle.machine_model.specs.Schedule.{Steps, with_all_kept}
use Rattle.ido_machine.specs.Machines.{RepresentsMachine, program_in}
use Rattle.run_tracker.specs.links.AccountRepresentation.{AccountInv}
use Rattle.run_tracker.specs.links.LifeParts.{HasSteps}
use Rattle.run_tracker.specs.links.SectionRepresentation.{AreAbove}
use Rattle.run_tracker.proofs.stepping.keep_all.Given as goal

abbrev pub invariant-loop-hart : goal.invariant-loop-hart
invariant-loop-hart l = record {
  harts : length l.account.harts.items ≡ length l.initial.account.harts.items;
  stores : l.account.stores ≡ l.initial.account.stores;
  capacity : vec_capacity l.account.kept ≡ vec_capacity l.initial.account.kept;
  at : HasSteps l.machine l.account;
  stands : (w : World) (s : Steps) → RepresentsMachine l.machine w → AccountInv l.initial.account s → AreAbove l.sections (length (program_in l.machine)) s →
      AccountInv l.account (with_all_kept w.log w.words l.hart s);
}
