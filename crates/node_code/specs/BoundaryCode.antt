-- Where lines are cleaned among the items of boundaries.
use Rattle.std.specs.Prelude.{◌≡◌, List, ◌++◌, map}
use Rattle.std.specs.List.{AllByRecursion}
use Rattle.rv64_isa.specs.declared.instr.Instr.{Instr}
use Rattle.rv64_isa.specs.declared.object.CodeItem.{CodeItem}
use Rattle.rv64_isa.specs.declared.object.CodeItem.TheVariants.{Instruction}
use Rattle.rv64_link.specs.LabelledCode.{fences_in}
use Rattle.boundary_code.specs.Boundaries.{Boundary, IsBoundaryCode}
use Rattle.node_code.specs.Cleans.{cleans_in}

-- it has no FENCE and cleans no line
pub record IsQuiet (code : List Instr) : Type 0 where
  pub fences : fences_in (map Instruction code) ≡ 0
  pub cleans : cleans_in (map Instruction code) ≡ 0

-- among the items stands the code of the boundary, where the codes of locks' numbers clean no line, and none of the other items does
pub record CleansInBoundary (b : Boundary) (items : List CodeItem) : Type 0 where
  pub before : List CodeItem
  pub codes : List (List Instr)
  pub code : List Instr
  pub after : List CodeItem
  pub split : items ≡ before ++ (map Instruction code ++ after)
  pub is_code : IsBoundaryCode b codes code
  pub quiet : AllByRecursion IsQuiet codes
  pub none_before : cleans_in before ≡ 0
  pub none_after : cleans_in after ≡ 0
