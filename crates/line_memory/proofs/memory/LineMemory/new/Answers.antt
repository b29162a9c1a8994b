use Rattle.std.proofs.Common.{◌≡◌, ℕ, ◌*◌, ap, arith, refl}
use Rattle.log_schemes.specs.Layout.{log_words}
use Rattle.line_memory.proofs.NewCells.{represents-of, initial_cells}
use Rattle.line_memory.proofs.memory.LineMemory.new.Goals as goal

pub returns-clause-stands : goal.returns-clause-stands
returns-clause-stands c =
    represents-of _ _ refl (initial_cells c.push_zeros.new.cells.items c.push_bytes.new.cells.items c.in_ok-cells.cells.items c.args.log
    c.args.threads c.args.vars.now 8192 (c.words.result * c.args.threads) refl (ap (λ (n : ℕ). n * c.args.threads) c.words.ensures.is)
    c.in_ok-cells.ensures.items c.in_ok-push_bytes.ensures.items c.in_ok-push_zeros.ensures.items)

pub invariant_of-result-clause-sized : goal.invariant_of-result-clause-sized
invariant_of-result-clause-sized c =
    let logs : c.words.result * c.args.threads ≡ log_words c.args.log * c.args.threads = ap (λ (n : ℕ). n * c.args.threads) c.words.ensures.is in
    omega (arith, c.in_ok-push_zeros.ensures.len, c.in_ok-push_bytes.ensures.len, c.in_ok-cells.ensures.len, logs)
