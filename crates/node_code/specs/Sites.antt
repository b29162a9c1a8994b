-- Where a part of a thread's items stands, and what is around it there.
use Rattle.std.specs.Prelude.{◌≡◌, ℕ, ◌+◌, ◌*◌, ◌^◌, ◌<◌, List, [], ◌∷◌, ◌++◌, length, Bool, true, false}
use Rattle.rv64_isa.specs.declared.object.CodeItem.{CodeItem}
use Rattle.rv64_isa.specs.declared.object.CodeItem.TheVariants.{Instruction, BranchTo, JumpTo, Here, MarkNext, ResumeNext}
use Rattle.rv64_link.specs.LabelledCode.{label_position}
use Rattle.rv64_link.specs.LinkedCode.{IsLinked}
use Rattle.code_runs.specs.CodeTraces.{Program, MarkedEnvironment, Meets}

-- a mark that stands after the items, or stood before them, still waits for its instruction
abbrev pub mark_waits : Bool → List CodeItem → Bool
mark_waits waits [] = waits
mark_waits waits (Instruction instr ∷ items) = mark_waits false items
mark_waits waits (BranchTo condition rs1 rs2 to ∷ items) = mark_waits false items
mark_waits waits (JumpTo rd to ∷ items) = mark_waits false items
mark_waits waits (Here here ∷ items) = mark_waits waits items
mark_waits waits (MarkNext ∷ items) = mark_waits true items
mark_waits waits (ResumeNext ∷ items) = mark_waits waits items

-- a thread's items, linked, and what its runs meet
pub record Linking (items : List CodeItem) : Type 0 where
  pub program : Program
  pub linked : IsLinked program.start items program.code program.nodes program.resumes
  pub room : program.start + 4 * length program.code < 2 ^ 64
  pub environment : MarkedEnvironment
  pub meets : Meets program environment

-- the part of items that begins at a position
pub record IsPart (items : List CodeItem) (position : ℕ) (part : List CodeItem) : Type 0 where
  pub before : List CodeItem
  pub after : List CodeItem
  pub split : items ≡ before ++ (part ++ after)
  pub at : position ≡ length before

-- a part of a thread's items where no mark waits for its first instruction
pub record Site (part : List CodeItem) : Type 0 where
  pub items : List CodeItem
  pub position : ℕ
  pub linking : Linking items
  pub is_part : IsPart items position part
  pub closed : mark_waits false is_part.before ≡ false

-- where the part's code begins, and where it ends
abbrev pub begin_of : (part : List CodeItem) → Site part → ℕ
begin_of part at = at.linking.linked.address_of at.position

abbrev pub end_of : (part : List CodeItem) → Site part → ℕ
end_of part at = at.linking.linked.address_of (at.position + length part)

-- where a label stands
abbrev pub label_of : (part : List CodeItem) → Site part → (label : ℕ) → ℕ
label_of part at label = at.linking.linked.address_of (label_position label at.items)
