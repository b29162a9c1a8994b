use Rattle.std.proofs.Common.{◌≡◌, ◌<◌, ◌^◌, ℕ, arith, subst, sym}
use Rattle.rv64_codegen.proofs.LocalRegisters.{word_low}
use Rattle.rv64_codegen.proofs.registers.home_of_colour.Goals as goal

pub overflow_cast-result : goal.overflow_cast-result
overflow_cast-result c =
    let low = word_low c.args.log c.args.thread c.args.colour c.requires.thread c.requires.colour in
    omega (arith, low, c.frame_at.ensures)
