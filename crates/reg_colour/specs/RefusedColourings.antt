-- Why a graph's locals have no registers, and why registers are refused.
use Rattle.flow_graph.specs.Nodes.{Graph}
use Rattle.flow_graph.specs.Liveness.{Colouring, IsFirstCrowded, IsFirstClash}
use Rattle.reg_colour.specs.declared.colouring.ColourRefusal.{ColourRefusal}
use Rattle.reg_colour.specs.declared.colouring.ColourRefusal.TheVariants as refusal
use Rattle.reg_colour.specs.declared.checking.ColourError.{ColourError}
use Rattle.reg_colour.specs.declared.checking.ColourError.TheVariants as error

-- want of memory may come at any time
abbrev pub IsRefusedColouring : Graph → ColourRefusal → Type 0
IsRefusedColouring g (refusal.Locals place wanted) = IsFirstCrowded g place wanted
IsRefusedColouring g refusal.Memory = Unit {0}

abbrev pub IsWrong : Graph → Colouring → ColourError → Type 0
IsWrong g colours (error.Clash node a b) = IsFirstClash g colours node a b
IsWrong g colours error.Memory = Unit {0}
