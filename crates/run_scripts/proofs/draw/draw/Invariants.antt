use Rattle.std.proofs.Common.{◌≡◌, ℕ, ◌-◌, ◌<◌, ◌≤◌, ◌==◌, ◌++◌, count_by}
use Rattle.rand_core.specs.Steps.{first_words}
use Rattle.rand_xoshiro.specs.SplitMix64.{mix_u64}
use Rattle.run_scripts.specs.Draws.{drawn_words, events_from}
use Rattle.run_scripts.proofs.draw.draw.Given as goal

abbrev pub invariant-loop-draws : goal.invariant-loop-draws
invariant-loop-draws l =
    (events_from l.crashes l.log l.threads l.lines 0 (drawn_words l.seed l.turns)
    ≡ l.events.items ++ events_from l.crashes l.log l.threads l.lines l.draws (first_words mix_u64 (l.turns - l.draws) l.words))
    × ((k : ℕ) → l.draws ≤ k → k < l.next → count_by (λ c. c == k) l.crashes ≡ 0)
