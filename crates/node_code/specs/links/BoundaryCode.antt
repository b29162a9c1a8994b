-- Code of boundaries, as it is made.
use Rattle.std.specs.Prelude.{ℕ, ◌+◌, ◌≤◌, List, [], ◌∷◌, length}
use Rattle.std.specs.List.{AllByRecursion}
use Rattle.rv64_isa.specs.declared.instr.Instr.{Instr}
use Rattle.rv64_isa.specs.declared.instr.Instr.TheVariants.{OpImmediate}
use Rattle.rv64_isa.specs.declared.instr.ImmediateOperation.TheVariants.{Addi}
use Rattle.boundary_code.specs.Boundaries.{Boundary, IsBoundaryCode, words_beside}
use Rattle.node_code.specs.declared.kept.Kept as kept
use Rattle.node_code.specs.BoundaryCode.{IsQuiet}
use Rattle.node_code.specs.Pieces.{MayKeep, boundary_of, codes_of}

-- leaves the number of a mutex in x5
abbrev pub number_code : (mutex : ℕ) → List Instr
number_code mutex = OpImmediate Addi 5 0 mutex ∷ []

-- leaves it in x10, for a call
abbrev pub call_code : (mutex : ℕ) → List Instr
call_code mutex = OpImmediate Addi 10 0 mutex ∷ []

-- the code is that of the boundary, and not long, and in the codes of locks' numbers is no FENCE and no clean
pub record IsCodeOf (b : Boundary) (codes : List (List Instr)) (code : List Instr) : Type 0 where
  pub short : length code ≤ length b.live + words_beside b.log codes
  pub is : IsBoundaryCode b codes code
  pub quiet : AllByRecursion IsQuiet codes

-- whatever locks are kept, it is the code of the boundary that resumes so many bytes after its end
abbrev pub IsCodeFor : kept.Kept → (resume : ℕ) → (code : List Instr) → Type 0
IsCodeFor k resume code = (locks : List ℕ) → MayKeep k.locks locks → IsCodeOf (boundary_of k locks resume) (codes_of k.locks) code
