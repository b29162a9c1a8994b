-- The arguments of `decode_fields` are the word's fields.
use Rattle.std.proofs.Common.{◌/◌, ◌%◌, ◌∙◌, arith}
use Rattle.rv64_isa.proofs.EncodeThenDecode.{decoded_at}
use Rattle.rv64_isa.proofs.Words.{found_at, complete_at}
use Rattle.rv64_isa.proofs.word.decode.Goals as goal

exact : goal.returns-clause-exact
exact c =
    c.decode_fields.ensures ∙ decoded_at c.args.word (c.args.word % 128) c.register_at.result (c.args.word / 0x1000 % 8) c.register_at-2.result
    c.register_at-3.result (c.args.word / 0x200_0000) (omega arith) (omega arith) (omega arith) (omega arith) (omega arith) (omega arith)

pub returns-clause-exact : goal.returns-clause-exact
returns-clause-exact c = exact c

pub returns-clause-found : goal.returns-clause-found
returns-clause-found c = found_at c.args.word c.decode_fields.result (omega arith) (exact c)

pub returns-clause-complete : goal.returns-clause-complete
returns-clause-complete c i = complete_at c.args.word c.decode_fields.result (exact c) i
