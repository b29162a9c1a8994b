use Rattle.std.proofs.Common.{◌≡◌, ℕ, ◌<◌, ◌≤◌, ◌==◌, count_by, drop}
use Rattle.run_scripts.proofs.draw.next_crash.Given as goal

-- the crash words so far are none of these numbers
abbrev pub invariant-loop-crash : goal.invariant-loop-crash
invariant-loop-crash l =
    (k : ℕ) → l.draws ≤ k → k < l.next → count_by (λ c. c == k) (drop l.crash-index l.crashes) ≡ count_by (λ c. c == k) l.crashes
