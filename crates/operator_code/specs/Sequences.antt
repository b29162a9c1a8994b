-- Short code as a list.
use Rattle.std.specs.Prelude.{List, [], ◌∷◌}
use Rattle.rv64_isa.specs.declared.instr.Instr.{Instr}
use Rattle.operator_code.specs.declared.sequences.Sequence.{Sequence}
use Rattle.operator_code.specs.declared.sequences.Sequence.TheVariants.{Empty, One, Two}

abbrev pub listed : Sequence → List Instr
listed Empty = []
listed (One i) = i ∷ []
listed (Two i j) = i ∷ j ∷ []
