-- What an error says.
use Rattle.std.specs.Prelude.{Option, Some, None}
use Rattle.c_tree.specs.declared.rule.Rule.TheVariants as rule
use Rattle.c_tree.specs.Exprs.{lock_ref_of}
use Rattle.c_tree.specs.LockDiscipline.{Fault}
use Rattle.lock_discipline.specs.declared.error.LockError.{LockError}
use Rattle.lock_discipline.specs.declared.error.LockError.TheVariants as error

-- the fault; none where memory was wanting
abbrev pub fault_of : LockError → Option Fault
fault_of (error.Unheld place lock) = Some (record { rule = rule.Unheld; place = place; lock = lock_ref_of lock })
fault_of (error.Again place lock) = Some (record { rule = rule.Again; place = place; lock = lock_ref_of lock })
fault_of (error.NotHeld place lock) = Some (record { rule = rule.NotHeld; place = place; lock = lock_ref_of lock })
fault_of (error.Join place lock) = Some (record { rule = rule.Join; place = place; lock = lock_ref_of lock })
fault_of (error.EndHeld place lock) = Some (record { rule = rule.EndHeld; place = place; lock = lock_ref_of lock })
fault_of (error.Frozen place lock) = Some (record { rule = rule.Frozen; place = place; lock = lock_ref_of lock })
fault_of (error.Held place lock) = Some (record { rule = rule.Held; place = place; lock = lock_ref_of lock })
fault_of error.Memory = None
