use Rattle.rv64_codegen.proofs.numbers.key_value.Goals as goal

pub returns : goal.returns
returns c = record { is_value = c.in_ok-code.ensures.code; short = c.in_ok-code.ensures.short; pure = c.in_ok-code.ensures.pure }
