-- What a thread stores by the steps that it has begun and that aren't kept, its attempt does.
use Rattle.std.proofs.Common.{◌≡◌, inl, inr, ℕ, ◌<◌, ap, sym, ◌∙◌, arith, Some}
use Rattle.std.proofs.lemmas.Bool.{cases_eq}
use Rattle.std.proofs.lemmas.Bool.Decides.{nat_tests}
use Rattle.c_tree.specs.Flats.{Flat}
use Rattle.c_tree.specs.Source.{Pending, State}
use Rattle.recovery_semantics.specs.Attempts.{PassesMutex, Writes, WritesAt, solo, store_ahead}
use Rattle.recovery_semantics.specs.Configs.{AreBegun, Config, Invariant, attempt_of}
use Rattle.recovery_semantics.specs.Events.{steps_begun}

-- a thread that is about to pass a mutex stores nothing
no_store : (s : State) (thread mutex : ℕ) (store : Pending) → PassesMutex s thread mutex → store_ahead s thread ≡ Some store → ⊥
no_store s thread mutex store passes ahead = grind (arith, nat_tests)

pub done_by : (x : Flat) (m : Config) (n k : ℕ) → Invariant x m → k < steps_begun m n → (v e : ℕ) → WritesAt m.kept n k v e → k < (attempt_of m n).done
done_by x m n k invariant within v e writes = by (invariant.tried n).begun
  where
    by : AreBegun m n → k < (attempt_of m n).done
    by (inl going) = omega (arith, within, going)
    by (inr passed) = elim (cases_eq k (attempt_of m n).done) [
      | inl last ↦
          absurd (no_store (solo m.kept n (attempt_of m n).done) n passed.1.0 writes.store passed.1.1
          (ap (λ (j : ℕ). store_ahead (solo m.kept n j) n) (sym last) ∙ writes.is))
      | inr sooner ↦ omega (arith, within, passed.0, sooner)
    ]

-- so whatever it writes
pub written_by : (x : Flat) (m : Config) (n : ℕ) → Invariant x m → (v e : ℕ) → Writes m.kept n (steps_begun m n) v e → Writes m.kept n (attempt_of m n).done v e
written_by x m n invariant v e writes =
    record { before = writes.before; within = done_by x m n writes.before invariant writes.within v e writes.at; at = writes.at }
