-- Sets over the names of mutexes that are in no array: a mutex's number is its name's.
use Rattle.std.proofs.Common.{◌≡◌, ◌≤◌, ℕ, zero, suc, List, [], ◌∷◌, length, None, true, false, refl, sym, ap, ◌∙◌, arith, ⊎_elim}
use Rattle.std.specs.List.{AllByRecursion}
use Rattle.std.proofs.lemmas.Bool.{cases_lt}
use Rattle.c_tree.specs.Exprs as e
use Rattle.c_tree.specs.LockNames.{Held, holds, number_in, plain_names}
use Rattle.c_tree.specs.Programs.{Mutex, Variable, Guard}
use Rattle.c_tree.specs.LockDiscipline.{Use, name_under, is_guarded}
use Rattle.c_tree.specs.WellFormed.{IsSingle, IsVariable}
use Rattle.c_tree.proofs.Public.{one_mutex, plain_number, plain_past}
use Rattle.source_machine.specs.ElementLocks.{lock_under, element_lock}

abbrev named : ℕ → e.LockName
named mutex = record { mutex = mutex; key = None }

past_holds : (h : Held) (k : ℕ) → length h ≤ k → holds h k ≡ false
past_holds [] k low = refl
past_holds (b ∷ h) zero low = absurd (omega (arith, low))
past_holds (b ∷ h) (suc k) low = past_holds h k (omega (arith, low))

holds_plain : (h : Held) (mutex : ℕ) → holds h (number_in (plain_names (length h)) (named mutex)) ≡ holds h mutex
holds_plain h mutex = ⊎_elim
    (λ low. ap (holds h) (plain_number (length h) mutex low))
    (λ high. ap (holds h) (plain_past (length h) mutex (λ l. omega (arith, l, high))) ∙ (past_holds h (length h) (omega arith) ∙ sym (past_holds h mutex high)))
    (cases_lt mutex (length h))

-- ---- What guards a variable of a well formed form

-- a set of mutexes that has the name of a use's guard has the lock of each element of the variable
pub element_held : (ms : List Mutex) (vs : List Variable) (h : Held) (u : Use) (n : ℕ) → AllByRecursion IsSingle ms → AllByRecursion (IsVariable ms) vs →
    is_guarded vs (plain_names (length h)) h u ≡ true → holds h (element_lock vs u.variable n) ≡ true
unfolding element_lock
element_held ms vs h u n single formed g =
    let one = one_mutex ms vs u.variable single formed in
    ap (λ (guard : Guard). holds h (lock_under guard n)) one.1
    ∙ (sym (holds_plain h one.0) ∙ (ap (λ (guard : Guard). holds h (number_in (plain_names (length h)) (name_under guard u.index))) (sym one.1) ∙ g))
