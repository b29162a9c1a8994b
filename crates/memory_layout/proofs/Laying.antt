-- Addresses of variables, one after another.
use Rattle.std.proofs.Common.{◌≡◌, ℕ, zero, suc, ◌+◌, ◌*◌, ◌<◌, ◌≤◌, List, [], ◌∷◌, ◌++◌}
use Rattle.std.proofs.Common.{◌==◌, ◌||◌, length, take, get_or, sym, ◌∙◌, ap, subst, arith, IsTrue}
use Rattle.std.proofs.Common.{⊎_elim}
use Rattle.std.specs.Int.{next_multiple_of}
use Rattle.std.proofs.lemmas.Bool.{cases_lt, or_cases, and_parts, eqb-true}
use Rattle.std.proofs.lemmas.List.{take_more, get_or_append_left, get_or-append-add, length-append}
use Rattle.ido_base.specs.declared.limits.TheConstants.{MOST_VARIABLE_BYTES}
use Rattle.ido_base.specs.declared.location.Shape.{Shape}
use Rattle.ido_base.specs.Layout.{aligned_up, start_from, end_from, variable_at, variables_base}
use Rattle.memory_layout.specs.Variables.{is_size, are_sizes}
use Rattle.memory_layout.specs.links.Bytes.{after}
use Rattle.memory_layout.proofs.VariableEnds.{none, sizes, end-append, end-take, start_at, element_at}

-- what holds of 1, 2, 4 and 8 holds of each size
pub by_size : (P : ℕ → Type 0) → P 1 → P 2 → P 4 → P 8 → (b : ℕ) → IsTrue (is_size b) → P b
by_size P one two four eight b h = ⊎_elim
    (λ l. ⊎_elim
    (λ m. ⊎_elim
    (λ e. subst P (sym (eqb-true b 1 e)) one)
    (λ e. subst P (sym (eqb-true b 2 e)) two)
    (or_cases (b == 1) (b == 2) m))
    (λ e. subst P (sym (eqb-true b 4 e)) four)
    (or_cases (b == 1 || b == 2) (b == 4) l))
    (λ e. subst P (sym (eqb-true b 8 e)) eight)
    (or_cases (b == 1 || b == 2 || b == 4) (b == 8) h)

pub multiple_is : (b n : ℕ) → IsTrue (is_size b) → next_multiple_of n b ≡ aligned_up n b
multiple_is b n h = by_size (λ b. next_multiple_of n b ≡ aligned_up n b) (omega arith) (omega arith) (omega arith) (omega arith) b h

size_at : (ss : List Shape) (i : ℕ) → IsTrue (are_sizes ss) → i < length ss → IsTrue (is_size (get_or ss i none).bytes)
size_at [] i h l = absurd (omega (arith, l))
size_at (s ∷ ss) zero h l = (and_parts (is_size s.bytes) (are_sizes ss) h).0
size_at (s ∷ ss) (suc i) h l = size_at ss i (and_parts (is_size s.bytes) (are_sizes ss) h).1 (omega (arith, l))

-- the addresses of the first i variables, which end at `end`
pub record IsSoFar (ss : List Shape) (i end : ℕ) (addresses : List ℕ) : Type 0 where
  pub end_is : end ≡ end_from 0 (take i ss)
  pub count : length addresses ≡ i
  pub each : (v : ℕ) → v < i → get_or addresses v 0 ≡ variable_at ss v 0

module _ (ss : List Shape) (i : ℕ) (shaped : IsTrue (are_sizes ss)) (l : i < length ss) where
  abbrev s : Shape
  s = get_or ss i none

  pub up_is : (end : ℕ) → next_multiple_of end s.bytes ≡ aligned_up end s.bytes
  up_is end = multiple_is s.bytes end (size_at ss i shaped l)

  end_more : end_from 0 (take (i + 1) ss) ≡ after (end_from 0 (take i ss)) s
  end_more = ap (λ (xs : List Shape). end_from 0 xs) (take_more ss i none l) ∙ end-append 0 (take i ss) (s ∷ [])

  -- no sum on the way is large
  pub next_fits : (end : ℕ) → end_from 0 ss ≤ MOST_VARIABLE_BYTES → end ≡ end_from 0 (take i ss) → after end s ≤ MOST_VARIABLE_BYTES
  next_fits end room end_is =
      let within = end-take 0 (i + 1) ss (sizes ss shaped) in
      let here : after end s ≡ after (end_from 0 (take i ss)) s = ap (λ (n : ℕ). after n s) end_is in
      omega (arith, room, end_more, within, here)

  pub more_so_far : (end first next : ℕ) (addresses : List ℕ) → IsSoFar ss i end addresses → first ≡ aligned_up end s.bytes →
      next ≡ first + s.bytes * s.length → IsSoFar ss (i + 1) next (addresses ++ (variables_base + first) ∷ [])
  more_so_far end first next addresses h up next_is =
      let up' : first ≡ aligned_up (end_from 0 (take i ss)) s.bytes = up ∙ ap (λ (n : ℕ). aligned_up n s.bytes) h.end_is in
      let start : start_from 0 ss i ≡ first =
      start_at 0 ss i l ∙ sym up' in
      let own : variable_at ss i 0 ≡ variables_base + first = let a = element_at ss i 0 l in omega (arith, a, start) in
      record {
        end_is = omega (arith, next_is, up', end_more);
        count = let a = length-append addresses ((variables_base + first) ∷ []) in omega (arith, a, h.count);
        each = λ j below. ⊎_elim
            (λ earlier. get_or_append_left addresses ((variables_base + first) ∷ []) 0 j (omega (arith, earlier, h.count)) ∙ h.each j earlier)
            (λ last.
            let e : j ≡ i = omega (arith, below, last) in
            let place : j ≡ length addresses + 0 = omega (arith, e, h.count) in
            ap (λ (k : ℕ). get_or (addresses ++ (variables_base + first) ∷ []) k 0) place
            ∙ (get_or-append-add addresses ((variables_base + first) ∷ []) 0 0
            ∙ (sym own ∙ ap (λ (k : ℕ). variable_at ss k 0) (sym e))))
            (cases_lt j i);
      }
