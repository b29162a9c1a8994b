use Rattle.std.proofs.Common.{◌≡◌, ◌+◌, ◌<◌, ◌≤◌, length, arith}
use Rattle.c_reader.specs.links.Tokens.{tokens_of}
use Rattle.c_reader.specs.links.ParserFunctions.{Wrong}
use Rattle.c_reader.specs.links.ParserSteps.{all_items}
use Rattle.c_reader.proofs.Answers.{left_within, wrong_program}
use Rattle.c_reader.proofs.parser.parse.Goals as goal

pub overflow_sub-result : goal.overflow_sub-result
overflow_sub-result c =
    let read = rw c.in-Err-Wrong.field-0-is at c.in-Err-Wrong.ensures in
    let stopped : all_items c.args.language (length c.args.tokens.now + 1) (tokens_of c.args.tokens.now) ≡ Wrong c.items.new.tokens = cc in
    let within : length c.items.new.tokens ≤ length c.args.tokens.now = left_within c.args.language c.args.tokens.now c.items.new.tokens stopped in
    omega arith

pub returns-in_default : goal.returns-in_default
returns-in_default c =
    let read = rw c.in-Err-Wrong.field-0-is at c.in-Err-Wrong.ensures in
    let stopped : all_items c.args.language (length c.args.tokens.now + 1) (tokens_of c.args.tokens.now) ≡ Wrong c.items.new.tokens = cc in
    let left : c.left.result ≡ length c.items.new.tokens = c.left.ensures in
    let some : 0 < length c.items.new.tokens = omega arith in
    rw left (wrong_program c.args.language c.args.tokens.now c.items.new.tokens stopped some).1
