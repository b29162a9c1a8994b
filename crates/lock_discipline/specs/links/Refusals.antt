-- What the walk says where an error is told.
use Rattle.std.specs.Prelude.{◌≡◌, IfSome, List}
use Rattle.c_tree.specs.LockNames.{Held}
use Rattle.c_tree.specs.LockDiscipline.{Walked, Broken}
use Rattle.lock_discipline.specs.declared.error.LockError.{LockError}
use Rattle.lock_discipline.specs.Faults.{fault_of}

-- where it isn't want of memory, the walk breaks with its fault
abbrev pub Refuses : Walked → LockError → Type 0
Refuses w x = IfSome (fault_of x) (λ fault. w ≡ Broken fault)

-- where it isn't want of memory, the walk breaks with its fault, whatever stands after its part
abbrev pub RefusesAny : ((List Held → Walked) → Walked) → LockError → Type 0
RefusesAny w x = IfSome (fault_of x) (λ fault. (after : List Held → Walked) → w after ≡ Broken fault)
