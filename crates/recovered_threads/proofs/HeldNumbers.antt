-- The numbers of held names, by the locals, are the locks that a thread holds.
use Rattle.std.proofs.Common.{◌≡◌, ◌↔◌, ◌==◌, ◌||◌, ℕ, zero, suc, List, [], ◌∷◌, map, ap, sym, ◌∙◌, subst, Bool, true, false, Option, Some, refl}
use Rattle.std.specs.Prelude.{slice_get, ℤ}
use Rattle.std.proofs.lemmas.Bool.{true≢false, eq-eqb, eqb-true, or_left, or_right}
use Rattle.std.proofs.lemmas.Option.{none-some, same_Some}
use Rattle.ido_base.specs.Locks.{has_lock}
use Rattle.c_tree.specs.Exprs.{LockName}
use Rattle.c_tree.specs.LockNames.{Held, held_names, holds}
use Rattle.c_tree.specs.Values.{lock_number}
use Rattle.source_machine.specs.Discipline.{HoldsNames, IsOfName}

abbrev numbers : (locals : List ℤ) → List LockName → Held → List ℕ
numbers ls names h = map (lock_number ls) (held_names names h)

-- each number is that of a held name
found_name : (ls : List ℤ) (names : List LockName) (h : Held) (lock : ℕ) → has_lock (numbers ls names h) lock ≡ true → IsOfName names h ls lock
found_name ls [] h lock e = absurd (true≢false (sym e))
found_name ls (x ∷ xs) [] lock e = absurd (true≢false (sym e))
found_name ls (x ∷ xs) (false ∷ h) lock e =
    let r = found_name ls xs h lock e in
    record { number = suc r.number; name = r.name; there = r.there; held = r.held; is = r.is }
found_name ls (x ∷ xs) (true ∷ h) lock e = by (lock_number ls x == lock) refl e (found_name ls xs h lock)
  where
    by : (b : Bool) → (lock_number ls x == lock) ≡ b → (b || has_lock (numbers ls xs h) lock) ≡ true →
        (has_lock (numbers ls xs h) lock ≡ true → IsOfName xs h ls lock) → IsOfName (x ∷ xs) (true ∷ h) ls lock
    by true is e more = record { number = 0; name = x; there = refl; held = refl; is = eqb-true (lock_number ls x) lock is }
    by false is e more =
        let r = more e in
        record { number = suc r.number; name = r.name; there = r.there; held = r.held; is = r.is }

-- each held name has its number among them
named_there : (ls : List ℤ) (names : List LockName) (h : Held) (k : ℕ) (x : LockName) → slice_get names k ≡ Some x → holds h k ≡ true →
    has_lock (numbers ls names h) (lock_number ls x) ≡ true
named_there ls [] h k x g e = absurd (none-some x g)
named_there ls (y ∷ ys) [] k x g e = absurd (true≢false (sym e))
named_there ls (y ∷ ys) (false ∷ h) zero x g e = absurd (true≢false (sym e))
named_there ls (y ∷ ys) (true ∷ h) zero x g e =
    or_left (lock_number ls y == lock_number ls x) (has_lock (numbers ls ys h) (lock_number ls x))
    (eq-eqb (lock_number ls y) (lock_number ls x) (ap (lock_number ls) (same_Some y x g)))
named_there ls (y ∷ ys) (true ∷ h) (suc k) x g e =
    or_right (lock_number ls y == lock_number ls x) (has_lock (numbers ls ys h) (lock_number ls x)) (named_there ls ys h k x g e)
named_there ls (y ∷ ys) (false ∷ h) (suc k) x g e = named_there ls ys h k x g e

-- of a thread that holds what its set says they are exactly the locks that it holds
pub held_numbers : (ls : List ℤ) (names : List LockName) (h : Held) (holders : List (Option ℕ)) (n : ℕ) → HoldsNames names h ls holders n → (lock : ℕ) →
    (has_lock (numbers ls names h) lock ≡ true) ↔ (slice_get holders lock ≡ Some (Some n))
held_numbers ls names h holders n owns lock = (
  λ e.
      let r = found_name ls names h lock e in
      ap (slice_get holders) (sym r.is) ∙ owns.all r.number r.name r.there r.held,
  λ g.
      let r = owns.only lock g in
      subst (λ (m : ℕ). has_lock (numbers ls names h) m ≡ true) r.is (named_there ls names h r.number r.name r.there r.held),
)
