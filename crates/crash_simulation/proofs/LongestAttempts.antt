-- What happens by a thread leaves what is kept, and each attempt as far as any before, where power stays on.
use Rattle.crash_simulation.proofs.Common.{◌≡◌, ℕ, List, ◌∷◌, ap, arith, true, refl, [], ◌++◌, Bool, nat_tests, Attempt, IsAttempted, attempt_at, Config}
use Rattle.crash_simulation.proofs.Common.{attempt_of, Memory, stores, IsSettled, begun, persists, ConfigStep, steps_locally, synchronises, commits, crashes}
use Rattle.crash_simulation.proofs.Common.{settled_by, same_or_other, AbstractRun, begins, StepsOrStutters, stays, goes, IsDoneBy, is_begun, System}
use Rattle.recovery_semantics.specs.Events.{stepped}
use Rattle.crash_simulation.proofs.AccountUpdates.{begun_by}

abbrev pub HasComeFurthest : Attempt → Type 0
HasComeFurthest a = a.done ≡ a.longest

abbrev pub AreFurthest : Config → Type 0
AreFurthest m = (thread : ℕ) → HasComeFurthest (attempt_of m thread)

-- each attempt has come as far as any before where one has, and all others are as they were
attempted_furthest : (old new : List Attempt) (k : ℕ) (attempt : Attempt) → IsAttempted old new k attempt → HasComeFurthest attempt →
    ((n : ℕ) → HasComeFurthest (attempt_at old n)) → (n : ℕ) → HasComeFurthest (attempt_at new n)
attempted_furthest old new k attempt h4 h5 h6 n = grind (arith, nat_tests, same_or_other)

-- where a thread's steps are kept
pub settled_furthest : (m : Config) (k : ℕ) (attempts : List Attempt) → IsSettled m k attempts → AreFurthest m → AreFurthest (settled_by m k attempts)
settled_furthest m k attempts settled furthest = attempted_furthest m.attempts attempts k _ settled.attempt (let e : 0 ≡ 0 = omega arith in e) furthest

-- ---- What happens by a thread

-- nothing more is kept, a step of the thread is begun or none, and each attempt has come as far as any before
pub record StepsInConfig (m next : Config) (thread : ℕ) (begun : Bool) : Type 0 where
  pub kept : next.kept ≡ m.kept
  pub pending : next.uncommitted ≡ begun_by begun thread m.uncommitted
  pub tried : AreFurthest m → AreFurthest next

longer_step : (m : Config) {u thread : ℕ} (memory : Memory) (attempts : List Attempt) → u ≡ thread →
    IsAttempted m.attempts attempts u (stepped (attempt_of m u)) → StepsInConfig m (begun m u memory attempts) thread true
longer_step m memory attempts h3 h4 = grind (arith, nat_tests, same_or_other)

config_steps : (m next : Config) (thread : ℕ) (h : ConfigStep m next) → IsDoneBy thread h → StepsInConfig m next thread (is_begun h)
config_steps m _ thread (steps_locally u attempts g) by = longer_step m m.memory attempts by g.attempt
config_steps m _ thread (stores u memory attempts g) by = longer_step m memory attempts by g.attempt
config_steps m _ thread (synchronises u g) by = record { kept = refl; pending = ap (λ (k : ℕ). m.uncommitted ++ k ∷ []) by; tried = λ furthest. furthest }
config_steps m _ thread (persists memory g) by = record { kept = refl; pending = refl; tried = λ furthest. furthest }
config_steps m _ thread (commits u attempts g) by = absurd by
config_steps m _ thread (crashes attempts g) by = absurd by

-- of an abstract run, to which nothing may happen, too
pub record StepsInRun (y : System) (b next : AbstractRun y) (thread : ℕ) (begun : Bool) : Type 0 where
  pub origin : next.origin ≡ b.origin
  pub schedule : next.schedule ≡ b.schedule
  pub config : StepsInConfig b.config next.config thread begun

pub led_of : (y : System) (b : AbstractRun y) (thread : ℕ) (next : AbstractRun y) (led : StepsOrStutters y b thread next) →
    StepsInRun y b next thread (begins led)
led_of y b thread _ stays = record { origin = refl; schedule = refl; config = record { kept = refl; pending = refl; tried = λ furthest. furthest } }
led_of y b thread _ (goes next h by execution respects) = record { origin = refl; schedule = refl; config = config_steps b.config next thread h by }
