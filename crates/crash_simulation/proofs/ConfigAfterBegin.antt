-- A step of a thread is begun: the config after it.
use Rattle.crash_simulation.proofs.Common.{◌≡◌, ◌≢◌, ℕ, List, ◌∷◌, sym, ◌∙◌, ap, arith, subst, Option, Some, None, refl, suc, [], ◌++◌, ◌⊎◌, inl, inr, zero}
use Rattle.crash_simulation.proofs.Common.{replicate, slice_set, slice_get, get_or-set_same, get_or-set_other, length-replicate, length-append, Flat, Pending}
use Rattle.crash_simulation.proofs.Common.{unlocks, unlock_ahead, below_or_past, Writes, no_attempt, Attempt, IsAttempted, attempt_at, store_ahead, solo}
use Rattle.crash_simulation.proofs.Common.{WritesAt, now, Config, attempt_of, Invariant, Memory, IsGoing, begun, counted_own, goes_alone}
use Rattle.recovery_semantics.specs.Events.{stepped}
use Rattle.c_tree.specs.Source as m
use Rattle.crash_simulation.proofs.StatesMatchSource.{repeated_or}

-- ---- Attempts

-- the attempts with that one of the thread
abbrev pub with_attempt : List Attempt → (thread : ℕ) → Attempt → List Attempt
with_attempt attempts thread a = slice_set (attempts ++ replicate (suc thread) no_attempt) thread a

same_padded : (attempts : List Attempt) (more n : ℕ) → attempt_at (attempts ++ replicate more no_attempt) n ≡ attempt_at attempts n
same_padded [] more n = repeated_or more n no_attempt
same_padded (x ∷ xs) more zero = refl
same_padded (x ∷ xs) more (suc n) = same_padded xs more n

own_attempt : (attempts : List Attempt) (n : ℕ) (a : Attempt) → attempt_at (with_attempt attempts n a) n ≡ a
own_attempt attempts n a = get_or-set_same (attempts ++ replicate (suc n) no_attempt) n a no_attempt
    (omega (arith, length-append attempts (replicate (suc n) no_attempt), length-replicate (suc n) no_attempt))

other_attempt : (attempts : List Attempt) (n u : ℕ) (a : Attempt) → u ≢ n → attempt_at (with_attempt attempts n a) u ≡ attempt_at attempts u
other_attempt attempts n u a other = get_or-set_other (attempts ++ replicate (suc n) no_attempt) n u a no_attempt other ∙ same_padded attempts (suc n) u

pub attempted : (attempts : List Attempt) (n : ℕ) (a : Attempt) → IsAttempted attempts (with_attempt attempts n a) n a
attempted attempts n a = record { own = own_attempt attempts n a; others = λ u other. other_attempt attempts n u a other }

-- the thread's attempt is one step longer
abbrev pub one_longer : Config → (thread : ℕ) → List Attempt
one_longer old t = with_attempt old.attempts t (stepped (attempt_of old t))

pub done_longer : (old : Config) (t : ℕ) → (attempt_at (one_longer old t) t).done ≡ suc (attempt_of old t).done
done_longer old t = ap (λ (a : Attempt). a.done) (own_attempt old.attempts t (stepped (attempt_of old t)))

-- ---- The config after the step

pub goes_still : (old : Config) (t : ℕ) (memory : Memory) → IsGoing old t → IsGoing (begun old t memory (one_longer old t)) t
goes_still old t memory going = counted_own t old.uncommitted ∙ ap suc going ∙ sym (done_longer old t)

-- what it has written is what it had, or what this step writes
pub wrote : (s : m.State) (t done v e : ℕ) → Writes s t (suc done) v e → Writes s t done v e ⊎ WritesAt s t done v e
wrote s t done v e writes = elim (below_or_past writes.before done) [
  | inl less ↦ inl (record { before = writes.before; within = less; at = writes.at })
  | inr past ↦ inr (subst (λ (n : ℕ). WritesAt s t n v e) (let e : writes.before ≡ done = omega (arith, writes.within, past) in e) writes.at)
]

-- the thread alone is what it is now
module _ (x : Flat) (old : Config) (invariant : Invariant x old) (t : ℕ) (going : IsGoing old t) where
  alone_threads : slice_get (solo old.kept t (attempt_of old t).done).threads t ≡ slice_get (now old).threads t
  alone_threads = sym (goes_alone x old t invariant going).own

  pub alone_ahead : store_ahead (solo old.kept t (attempt_of old t).done) t ≡ store_ahead (now old) t
  alone_ahead = ap (λ (o : Option m.Thread). elim o as (λ _. Option Pending) [ Some z ↦ z.pending | None ↦ None ]) alone_threads

  pub alone_unlocks : unlocks (solo old.kept t (attempt_of old t).done) t ≡ unlocks (now old) t
  alone_unlocks = ap (λ (o : Option m.Thread). elim o as (λ _. Option ℕ) [ Some z ↦ unlock_ahead z | None ↦ None ]) alone_threads
