use Rattle.rv64_codegen.proofs.numbers.keyed_call.Goals as goal

pub returns : goal.returns
returns c = record { of_value = c.in_ok-value.value.items; value = c.in_ok-value.ensures; is = c.in_ok-code.ensures }
