use Rattle.std.proofs.Common.{List, ◌++◌, drop}
use Rattle.std.specs.List.{AllZip}
use Rattle.c_tree.specs.LockNames.{held_names}
use Rattle.c_tree.specs.links.KnownNames.{names_of}
use Rattle.rv64_isa.specs.declared.instr.Instr.{Instr}
use Rattle.expr_code.specs.EvaluationCode.{homes_of}
use Rattle.boundary_code.specs.Boundaries.{lists_of}
use Rattle.rv64_codegen.specs.links.Numbers.{IsNumberCode}
use Rattle.rv64_codegen.proofs.numbers.held_numbers.Given as goal

abbrev pub invariant-loop-number : goal.invariant-loop-number
invariant-loop-number l = (later : List (List Instr)) →
    AllZip (IsNumberCode (homes_of l.frame) l.log) (held_names (drop l.number (names_of l.names)) (drop l.number l.held)) later →
    AllZip (IsNumberCode (homes_of l.frame) l.log) (held_names (names_of l.names) l.held) (lists_of l.codes.items ++ later)
