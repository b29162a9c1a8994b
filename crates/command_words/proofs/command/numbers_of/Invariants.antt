use Rattle.std.proofs.Common.{◌≡◌, ℕ, List, length, map}
use Rattle.std.specs.Borrow.{Bor}
use Rattle.command_words.specs.Commands.{numbers_of}
use Rattle.command_words.proofs.Commands.{after_numbers}
use Rattle.command_words.proofs.command.numbers_of.Given as goal

abbrev pub invariant-loop-rest : goal.invariant-loop-rest
invariant-loop-rest l =
    numbers_of (map (λ (t : Bor (List ℕ)). t.now) l.texts) ≡ after_numbers l.numbers.items (numbers_of (map (λ (t : Bor (List ℕ)). t.now) l.rest))

abbrev pub decreases-loop-rest : goal.decreases-loop-rest
decreases-loop-rest l = length l.rest
