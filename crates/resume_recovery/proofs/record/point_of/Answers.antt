use Rattle.std.proofs.Common.{◌∙◌, ap}
use Rattle.log_schemes.specs.Points.{point_of}
use Rattle.resume_recovery.proofs.Points.{bank-below}
use Rattle.resume_recovery.proofs.record.point_of.Goals as goal

pub returns-clause-point : goal.returns-clause-point
returns-clause-point c = λ words s. c.read_point.ensures ∙ ap point_of (c.durable_point.ensures words s)

pub returns-clause-bank : goal.returns-clause-bank
returns-clause-bank c = rw c.read_point.ensures (bank-below c.durable_point.result)
