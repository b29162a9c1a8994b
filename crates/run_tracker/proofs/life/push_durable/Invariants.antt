use Rattle.std.proofs.Common.{◌≡◌, ◌+◌, ◌++◌}
use Rattle.std.specs.Vec.{vec_capacity, vec_len}
use Rattle.machine_model.specs.Machine.{World}
use Rattle.ido_machine.specs.Machines.{RepresentsMachine}
use Rattle.run_tracker.proofs.DurableWords.{durable_from}
use Rattle.run_tracker.proofs.life.push_durable.Given as goal

abbrev pub invariant-loop-at : goal.invariant-loop-at
invariant-loop-at l = record {
  items : (w : World) → RepresentsMachine l.machine w → l.words.items ≡ l.initial.words.items ++ durable_from w.words l.from l.at;
  len : vec_len l.words ≡ vec_len l.initial.words + l.at;
  capacity : vec_capacity l.words ≡ vec_capacity l.initial.words;
}
