-- The faults that refusals and errors tell.
use Rattle.std.specs.Prelude.{Option, Some, None}
use Rattle.c_tree.specs.LexicalScan.{Fault}
use Rattle.c_tree.specs.declared.refusal.Refusal.{Refusal}
use Rattle.c_tree.specs.declared.refusal.SourceError.{SourceError}
use Rattle.c_tree.specs.declared.refusal.SourceError.TheVariants.{Refused, Memory}

abbrev pub fault_of : Refusal → Fault
fault_of x = record { rule = x.rule; place = x.place }

-- the fault that an error tells; none for want of memory
abbrev pub fault_in : SourceError → Option Fault
fault_in (Refused x) = Some (fault_of x)
fault_in Memory = None
