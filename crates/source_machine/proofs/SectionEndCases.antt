-- Which sections end where a mutex is taken or freed.
use Rattle.std.proofs.Common.{◌≡◌, ◌≢◌, refl, ℕ, zero, suc, ◌+◌, ◌<◌, List, [], ◌∷◌, sym, ◌∙◌, ap, subst, arith, Bool}
use Rattle.std.proofs.Common.{true, false, cond, Option, Some, None, slice_set, get_or, not, ◌&&◌, ◌==◌, ⊎_elim}
use Rattle.std.specs.Prelude.{slice_get, is_none, min, length, ◌^◌, ◌-◌}
use Rattle.std.proofs.lemmas.Bool.{cases_eq}
use Rattle.std.proofs.lemmas.Bool.Decides.{nat_tests}
use Rattle.std.proofs.lemmas.Option.{slice_get-get_or}
use Rattle.ido_base.specs.Locks.{is_held_by, held_from, holds_none}
use Rattle.source_machine.specs.Sections.{AreCounted}
use Rattle.source_machine.specs.links.SectionEnds.{ends, is_one}

not_equal : (a b : ℕ) → a ≢ b → (a == b) ≡ false
not_equal a b h = grind (arith, nat_tests)

equal : (a : ℕ) → (a == a) ≡ true
equal a = grind (arith, nat_tests)

-- a holder that isn't the thread, in place of none or by none
held_more : (at : ℕ) (hs : List (Option ℕ)) (m u k : ℕ) → k ≢ u → slice_get hs m ≡ Some None → held_from at (slice_set hs m (Some u)) k ≡ held_from at hs k
held_more at [] m u k n h = refl
held_more at (x ∷ hs) zero u k n h =
    let is : x ≡ None = cc in
    rw is (rw (not_equal k u n) refl)
held_more at (x ∷ hs) (suc m) u k n h = ap (λ o. cond (is_held_by k x) (Some at) o) (held_more (at + 1) hs m u k n h)

held_less : (at : ℕ) (hs : List (Option ℕ)) (m u k : ℕ) → k ≢ u → slice_get hs m ≡ Some (Some u) → held_from at (slice_set hs m None) k ≡ held_from at hs k
held_less at [] m u k n h = refl
held_less at (x ∷ hs) zero u k n h =
    let is : x ≡ Some u = cc in
    rw is (rw (not_equal k u n) refl)
held_less at (x ∷ hs) (suc m) u k n h = ap (λ o. cond (is_held_by k x) (Some at) o) (held_less (at + 1) hs m u k n h)

chosen_some : (b : Bool) (at : ℕ) (o : Option ℕ) → is_none o ≡ false → is_none (cond b (Some at) o) ≡ false
chosen_some true at o h = refl
chosen_some false at o h = h

held_there : (at : ℕ) (hs : List (Option ℕ)) (m u : ℕ) → slice_get hs m ≡ Some (Some u) → is_none (held_from at hs u) ≡ false
held_there at [] m u h = cc
held_there at (x ∷ hs) zero u h =
    let is : x ≡ Some u = cc in
    rw is (rw (equal u) refl)
held_there at (x ∷ hs) (suc m) u h = chosen_some (is_held_by u x) at _ (held_there (at + 1) hs m u h)

-- ---- Ends

abbrev counted : Bool → ℕ
counted b = cond b 1 0

none_ends : (b c : Bool) → b ≡ c → counted (not b && c) ≡ 0
none_ends true c e = refl
none_ends false c e = rw (sym e) refl

never_ends : (b c : Bool) → c ≡ false → counted (not b && c) ≡ 0
never_ends true c e = refl
never_ends false c e = rw e refl

pub ends_same : (hs hs' : List (Option ℕ)) (k : ℕ) → hs' ≡ hs → ends hs hs' k ≡ 0
ends_same hs hs' k e = none_ends (holds_none hs k) (holds_none hs' k) (ap (λ x. holds_none x k) (sym e))

set_found : (hs : List (Option ℕ)) (m u : ℕ) (o x : Option ℕ) → slice_get hs m ≡ Some o → slice_get (slice_set hs m x) m ≡ Some x
set_found [] m u o x h = cc
set_found (y ∷ hs) zero u o x h = refl
set_found (y ∷ hs) (suc m) u o x h = set_found hs m u o x h

pub ends_taken : (hs : List (Option ℕ)) (m u k : ℕ) → slice_get hs m ≡ Some None → ends hs (slice_set hs m (Some u)) k ≡ 0
ends_taken hs m u k h = ⊎_elim
    (λ same.
    let holds = held_there 0 (slice_set hs m (Some u)) m u (set_found hs m u None (Some u) h) in
    let P : ℕ → Type 0 = λ j. ends hs (slice_set hs m (Some u)) j ≡ 0 in
    subst P (sym same) (never_ends (holds_none hs u) (holds_none (slice_set hs m (Some u)) u) holds))
    (λ other. none_ends (holds_none hs k) (holds_none (slice_set hs m (Some u)) k) (sym (ap is_none (held_more 0 hs m u k other h))))
    (cases_eq k u)

pub ends_freed : (hs : List (Option ℕ)) (m u k : ℕ) → slice_get hs m ≡ Some (Some u) → holds_none (slice_set hs m None) u ≡ true →
    is_one u k ≡ ends hs (slice_set hs m None) k
ends_freed hs m u k h e = ⊎_elim
    (λ same.
    let P : ℕ → Type 0 = λ j. is_one u j ≡ ends hs (slice_set hs m None) j in
    subst P (sym same) (rw (equal u) (rw (held_there 0 hs m u h, e) refl)))
    (λ other.
    let apart : u ≢ k = λ s. other (sym s) in
    rw (not_equal u k apart) (sym (none_ends (holds_none hs k) (holds_none (slice_set hs m None) k) (sym (ap is_none (held_less 0 hs m u k other h))))))
    (cases_eq k u)

pub ends_freed_none : (hs : List (Option ℕ)) (m u k : ℕ) → slice_get hs m ≡ Some (Some u) → holds_none (slice_set hs m None) u ≡ false →
    ends hs (slice_set hs m None) k ≡ 0
ends_freed_none hs m u k h e = ⊎_elim
    (λ same.
    let P : ℕ → Type 0 = λ j. ends hs (slice_set hs m None) j ≡ 0 in
    subst P (sym same) (never_ends (holds_none hs u) (holds_none (slice_set hs m None) u) e))
    (λ other. none_ends (holds_none hs k) (holds_none (slice_set hs m None) k) (sym (ap is_none (held_less 0 hs m u k other h))))
    (cases_eq k u)

-- ---- Counts

pub counted_same : (sections : List ℕ) (ended f : ℕ → ℕ) → ((k : ℕ) → f k ≡ 0) → AreCounted sections ended → AreCounted sections (λ k. ended k + f k)
counted_same sections ended f z c k l = c k l ∙ ap (λ n. min n (2 ^ 64 - 1)) (omega (arith, z k))

pub counted_as : (sections : List ℕ) (ended f g : ℕ → ℕ) → ((k : ℕ) → f k ≡ g k) → AreCounted sections (λ k. ended k + f k) →
    AreCounted sections (λ k. ended k + g k)
counted_as sections ended f g z c k l = c k l ∙ ap (λ n. min (ended k + n) (2 ^ 64 - 1)) (z k)

-- a read of a holder
pub holder_read : (hs : List (Option ℕ)) (m : ℕ) (o : Option ℕ) → m < length hs → get_or hs m None ≡ o → slice_get hs m ≡ Some o
holder_read hs m o l e = slice_get-get_or hs m None l ∙ ap Some e
