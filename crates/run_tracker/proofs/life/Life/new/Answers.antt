use Rattle.std.proofs.Common.{arith}
use Rattle.machine_model.proofs.Public.{starts_simulate}
use Rattle.machine_model.specs.Objects.{program_of}
use Rattle.run_tracker.proofs.life.Life.new.Goals as goal

pub begun-requires-clause-sound : goal.begun-requires-clause-sound
begun-requires-clause-sound c =
    (starts_simulate c.args.object.now.log (program_of c.args.object.now) c.args.object.now.mutexes c.args.object.now.initial.items).0

pub begun-requires-clause-ended : goal.begun-requires-clause-ended
begun-requires-clause-ended c = λ h. omega arith
