-- What an error says.
use Rattle.std.specs.Prelude.{Option, Some, None}
use Rattle.lock_order.specs.declared.error.OrderError.{OrderError}
use Rattle.lock_order.specs.declared.error.OrderError.TheVariants as error
use Rattle.lock_order.specs.LockOrder.{OrderFault}

-- the fault; none where memory was wanting
abbrev pub fault_of : OrderError → Option OrderFault
fault_of (error.NotAbove place earlier) = Some (record { place = place; earlier = earlier })
fault_of error.Memory = None
