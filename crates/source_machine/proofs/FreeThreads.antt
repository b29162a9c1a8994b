-- Threads that hold no mutex.
use Rattle.std.proofs.Common.{◌≡◌, refl, ℕ, zero, suc, ◌+◌, ◌<◌, ◌≤◌, List, drop, get_or, length, sym, ◌∙◌, ap, subst, arith, inl, inr, Option, Some, None}
use Rattle.std.proofs.Common.{Bool, true, false, true≢false, ◌&&◌, ◌==◌}
use Rattle.std.specs.Prelude.{if◌then◌else◌, is_none, nat_lt}
use Rattle.std.proofs.lemmas.Bool.{cases_lt, eqb-true, eq-eqb, lt-ltb, ltb-true}
use Rattle.std.proofs.lemmas.List.{drop_all, drop_more}
use Rattle.ido_base.specs.Locks.{held_from, holds_none, is_held_by}
use Rattle.c_tree.specs.Source.{State}
use Rattle.source_machine.specs.Lives.{are_between}
use Rattle.source_machine.specs.links.Holders.{hold_none, is_among}

pub between_is_none : (s : State) (count : ℕ) → are_between s count ≡ hold_none s.holders count
between_is_none s zero = refl
between_is_none s (suc n) = ap (λ b. b && holds_none s.holders n) (between_is_none s n)

-- each holds none
pub all_hold_none : (holders : List (Option ℕ)) (count : ℕ) → ((thread : ℕ) → thread < count → holds_none holders thread ≡ true) →
    hold_none holders count ≡ true
all_hold_none holders zero each = refl
all_hold_none holders (suc n) each =
    (λ i. (all_hold_none holders n (λ thread below. each thread (omega (arith, below)))) i && each n (omega arith) i)

and_false : (b : Bool) → (b && false) ≡ false
and_false true = refl
and_false false = refl

-- one of them holds one
pub one_holds : (holders : List (Option ℕ)) (count thread : ℕ) → thread < count → holds_none holders thread ≡ false → hold_none holders count ≡ false
one_holds holders zero thread below holds = absurd (omega (arith, below))
one_holds holders (suc n) thread below holds = elim (cases_lt thread n) [
  | inl before ↦ ap (λ b. b && holds_none holders n) (one_holds holders n thread before holds)
  | inr last ↦
      let same : thread ≡ n = omega (arith, below, last) in
      ap (λ k. hold_none holders n && holds_none holders k) (sym same) ∙ (ap (λ b. hold_none holders n && b) holds ∙ and_false (hold_none holders n))
]

-- ---- Along the holders

-- none of the threads is that one
pass_by : (o : Option ℕ) (count thread at : ℕ) (rest : Option ℕ) → thread < count → false ≡ is_among count o →
    (if is_held_by thread o then Some at else rest) ≡ rest
pass_by None count thread at rest below other = refl
pass_by (Some k) count thread at rest below other = by (thread == k) refl
  where
    by : (b : Bool) → (thread == k) ≡ b → (if b then Some at else rest) ≡ rest
    by false is = refl
    by true is =
        let same : thread ≡ k = eqb-true thread k is in
        let within : nat_lt k count ≡ true = lt-ltb k count (subst (λ n. n < count) same below) in
        absurd (true≢false (sym within ∙ sym other))

pub others_pass : (holders : List (Option ℕ)) (count i thread : ℕ) (d : Option ℕ) → i < length holders → thread < count →
    false ≡ is_among count (get_or holders i d) → held_from i (drop i holders) thread ≡ held_from (i + 1) (drop (i + 1) holders) thread
others_pass holders count i thread d within below other =
    ap (λ hs. held_from i hs thread) (drop_more holders i d within)
    ∙ pass_by (get_or holders i d) count thread i (held_from (i + 1) (drop (i + 1) holders) thread) below other

-- one of them is
among_is : (o : Option ℕ) (count : ℕ) → true ≡ is_among count o → (k : ℕ) × (k < count) × (is_held_by k o ≡ true)
among_is None count is = absurd (true≢false is)
among_is (Some k) count is = (k, ltb-true k count (sym is), eq-eqb k k refl)

-- where none before holds one, and the holder there is one of the threads
pub one_is_among : (holders : List (Option ℕ)) (count i : ℕ) (d : Option ℕ) → i < length holders →
    ((thread : ℕ) → thread < count → held_from 0 holders thread ≡ held_from i (drop i holders) thread) →
    true ≡ is_among count (get_or holders i d) → hold_none holders count ≡ false
one_is_among holders count i d within before is =
    let one = among_is (get_or holders i d) count is in
    let rest = held_from (i + 1) (drop (i + 1) holders) one.0 in
    one_holds holders count one.0 one.1
    (ap is_none (before one.0 one.1 ∙ (ap (λ hs. held_from i hs one.0) (drop_more holders i d within)
    ∙ ap (λ b. if b then Some i else rest) one.2)))

pub none_is_among : (holders : List (Option ℕ)) (count i : ℕ) → length holders ≤ i →
    ((thread : ℕ) → thread < count → held_from 0 holders thread ≡ held_from i (drop i holders) thread) → hold_none holders count ≡ true
none_is_among holders count i past each =
    all_hold_none holders count (λ thread below. ap is_none (each thread below ∙ ap (λ hs. held_from i hs thread) (drop_all i holders past)))
