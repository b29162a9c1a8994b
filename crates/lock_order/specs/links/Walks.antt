-- How far the code of a walk has come, and what it says where an error is told.
use Rattle.std.specs.Prelude.{◌≡◌, IfSome}
use Rattle.lock_order.specs.declared.walk.Walk.{Walk}
use Rattle.lock_order.specs.declared.error.OrderError.{OrderError}
use Rattle.lock_order.specs.LockOrder.{Progress, Walked, Broken}
use Rattle.lock_order.specs.Faults.{fault_of}

abbrev pub progress_of : Walk → Progress
progress_of w = record { held = w.held.items; met = w.met.items }

-- where it isn't want of memory, the walk breaks with its fault
abbrev pub Refuses : Walked → OrderError → Type 0
Refuses w x = IfSome (fault_of x) (λ fault. w ≡ Broken fault)
