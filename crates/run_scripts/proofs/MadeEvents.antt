-- Events that stay valid while they are made.
use Rattle.std.proofs.Common.{◌≡◌, ℕ, ◌<◌, subst, sym}
use Rattle.std.specs.Prelude.{◌↔◌}
use Rattle.machine_events.specs.declared.event.Event.{Event}
use Rattle.machine_events.specs.declared.event.Event.TheVariants.{Step, Evict, Crash, Start}
use Rattle.machine_events.specs.Cores.{IsValid}

pub still_valid : (harts other : ℕ) (P Q : ℕ → ℕ → Type 0) → other ≡ harts → ((line mask : ℕ) → Q line mask ↔ P line mask) → (e : Event) →
    IsValid harts P e → IsValid other Q e
still_valid harts other P Q same both (Step hart) valid = subst (λ n. hart < n) (sym same) valid
still_valid harts other P Q same both (Evict line mask) valid = (both line mask).1 valid
still_valid harts other P Q same both Crash valid = tt
still_valid harts other P Q same both Start valid = absurd valid
