-- Steps of one hart of a life, one after another.
use Rattle.std.proofs.Common.{◌≡◌, ℕ, ◌+◌, List, ◌++◌, length, replicate, ap, ◌∙◌}
use Rattle.std.proofs.lemmas.List.{append_assoc, length-append, length-replicate, replicate-append-replicate}
use Rattle.machine_events.specs.declared.event.Event.{Event}
use Rattle.machine_events.specs.declared.event.Event.TheVariants.{Step}
use Rattle.run_tracker.specs.ObjectLives.{Course}
use Rattle.run_tracker.specs.LocalRuns.{with_steps}

-- some after some
pub more_steps : (life : Course) (h some more : ℕ) → with_steps (with_steps life h some) h more ≡ with_steps life h (some + more)
more_steps life h some more =
    ap (λ (j : List Event). record life { journal = j })
    (append_assoc life.journal (replicate some (Step h)) (replicate more (Step h))
    ∙ ap (λ (es : List Event). life.journal ++ es) (replicate-append-replicate some more (Step h)))

-- how many events there are after them
pub length-steps : (life : Course) (h some : ℕ) → length (with_steps life h some).journal ≡ length life.journal + some
length-steps life h some =
    length-append life.journal (replicate some (Step h)) ∙ ap (λ (n : ℕ). length life.journal + n) (length-replicate some (Step h))
