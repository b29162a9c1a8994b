use Rattle.std.proofs.Common.{List, [], ◌∷◌, ◌++◌, ◌∙◌, ap}
use Rattle.rv64_isa.specs.declared.instr.Instr.{Instr}
use Rattle.rv64_isa.specs.declared.instr.Instr.TheVariants.{Op}
use Rattle.rv64_isa.specs.declared.instr.Operation.TheVariants.{Add}
use Rattle.rv64_codegen.proofs.numbers.keyed_number.Goals as goal

pub returns : goal.returns
returns c = record {
  of_value = c.in_ok-value.value.items;
  value = c.in_ok-value.ensures;
  is = c.in_ok-code.ensures ∙ ap (λ (is : List Instr). (is ++ c.args.log.now) ++ Op Add 30 31 3 ∷ []) c.in_ok-number.ensures;
}
