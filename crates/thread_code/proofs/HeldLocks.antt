-- The numbers of held locks, and the mask that has a bit for each.
use Rattle.std.proofs.Common.{◌≡◌, ◌≢◌, ℕ, zero, suc, ◌+◌, ◌*◌, ◌/◌, ◌%◌, ◌^◌, ◌<◌, ◌≤◌, ◌==◌, ◌||◌, List, [], ◌∷◌, length, refl, ap, ap₂, arith, ◌∙◌, cond}
use Rattle.std.proofs.Common.{Bool, true, false, Some, pow-suc, pow_mono, lt_of_lt_of_le, map, subst, sym}
use Rattle.std.specs.Prelude.{slice_get, slice_index_or, ℤ}
use Rattle.std.proofs.lemmas.Option.{none-some, same_Some}
use Rattle.std.proofs.lemmas.Bool.{or_left, ne_eqb, eq-eqb}
use Rattle.ido_base.specs.Locks.{has_lock, locks_from, locks_in, mask_with}
use Rattle.c_tree.specs.Exprs.{LockName}
use Rattle.c_tree.specs.Flats as f
use Rattle.c_tree.specs.LockNames.{Held, held_names, holds, lock_names, plain_from, plain_names}
use Rattle.c_tree.specs.Values.{lock_number}
use Rattle.c_tree.specs.WellFormed.{IsSingle}
use Rattle.c_tree.proofs.Public.{names_are_plain}
use Rattle.std.specs.List.{AllByRecursion}
use Rattle.lock_discipline.specs.Masks.{mask_of}
use Rattle.lock_discipline.proofs.Public.{mask_of-bound}
use Rattle.thread_code.specs.Plans.{Plan, Thread, IsThread, locks_before, locks_held_from, locks_held, names_in, set_before}

-- ---- The mask

pub lowest : (b : Bool) (m : ℕ) → ((cond b 1 0 + 2 * m) % 2 == 1) ≡ b
lowest true m = let e : (1 + 2 * m) % 2 ≡ 1 = omega arith in ap (λ (n : ℕ). n == 1) e
lowest false m = let e : (0 + 2 * m) % 2 ≡ 0 = omega arith in ap (λ (n : ℕ). n == 1) e

pub half : (b : Bool) (m : ℕ) → (cond b 1 0 + 2 * m) / 2 ≡ m
half true m = omega arith
half false m = omega arith

along : (at bits : ℕ) (held : Held) → length held ≤ bits → locks_from at bits (mask_of held) ≡ locks_held_from at held
along at zero [] few = refl
along at zero (b ∷ held) few = absurd (let z : ⊥ = omega (arith, few) in z)
along at (suc bits) [] few = along (at + 1) bits [] (omega arith)
along at (suc bits) (b ∷ held) few =
    ap₂ (λ (odd : Bool) (more : ℕ). cond odd (at ∷ locks_from (at + 1) bits more) (locks_from (at + 1) bits more))
    (lowest b (mask_of held)) (half b (mask_of held))
    ∙ ap (λ (more : List ℕ). cond b (at ∷ more) more) (along (at + 1) bits held (omega (arith, few)))

-- the locks of a set's mask are those that it holds
pub mask_has_held : (held : Held) → length held ≤ 64 → locks_in (mask_of held) ≡ locks_held held
unfolding locks_in
mask_has_held held few = along 0 64 held few

-- and the mask with these locks is the set's
next_power : (at : ℕ) → 2 ^ (at + 1) ≡ 2 ^ at * 2
next_power at = let s : at + 1 ≡ suc at = omega arith in ap (λ (n : ℕ). 2 ^ n) s ∙ pow-suc 2 at

with_held_from : (at : ℕ) (held : Held) → mask_with (locks_held_from at held) ≡ mask_of held * 2 ^ at
with_held_from at [] = let e : 0 ≡ 0 * 2 ^ at = omega arith in e
with_held_from at (true ∷ held) =
    ap (λ (k : ℕ). 2 ^ at + k) (with_held_from (at + 1) held ∙ ap (λ (p : ℕ). mask_of held * p) (next_power at))
    ∙ (let e : 2 ^ at + mask_of held * (2 ^ at * 2) ≡ (1 + 2 * mask_of held) * 2 ^ at = omega arith in e)
with_held_from at (false ∷ held) =
    with_held_from (at + 1) held ∙ (ap (λ (p : ℕ). mask_of held * p) (next_power at)
    ∙ (let e : mask_of held * (2 ^ at * 2) ≡ (0 + 2 * mask_of held) * 2 ^ at = omega arith in e))

pub mask_with_held : (held : Held) → mask_with (locks_held held) ≡ mask_of held
mask_with_held held = with_held_from 0 held ∙ (let e : mask_of held * 1 ≡ mask_of held = omega arith in e)

-- a log can hold them
pub held_fits : (held : Held) → length held ≤ 64 → mask_with (locks_held held) < 2 ^ 64
held_fits held few =
    subst (λ (mask : ℕ). mask < 2 ^ 64) (sym (mask_with_held held))
    (lt_of_lt_of_le (mask_of-bound held) (pow_mono {i = length held} {j = 64} few))

pub held_read_back : (held : Held) → length held ≤ 64 → locks_in (mask_with (locks_held held)) ≡ locks_held held
held_read_back held few = ap locks_in (mask_with_held held) ∙ mask_has_held held few

-- ---- Where no mutex is in an array

plain_from_set : (ls : List ℤ) (n : ℕ) (h : Held) → map (lock_number ls) (held_names (plain_from n (length h)) h) ≡ locks_held_from n h
plain_from_set ls n [] = refl
plain_from_set ls n (true ∷ h) =
    ap (λ (locks : List ℕ). n ∷ locks)
    (plain_from_set ls (suc n) h ∙ ap (λ (at : ℕ). locks_held_from at h) (let e : suc n ≡ n + 1 = omega arith in e))
plain_from_set ls n (false ∷ h) = plain_from_set ls (suc n) h ∙ ap (λ (at : ℕ). locks_held_from at h) (let e : suc n ≡ n + 1 = omega arith in e)

-- the numbers of held names are those of the mutexes, whatever locals hold
pub plain_numbers : (ls : List ℤ) (h : Held) → map (lock_number ls) (held_names (plain_names (length h)) h) ≡ locks_held h
plain_numbers ls h = plain_from_set ls 0 h

-- ---- By the names of a thread's text

pub names_at : (x : f.Flat) (ts : List f.Thread) (k : ℕ) (text : f.Thread) → slice_get ts k ≡ Some text →
    slice_index_or (map (λ (t : f.Thread). lock_names x t) ts) k [] ≡ lock_names x text
names_at x [] k text g = absurd (none-some text g)
names_at x (t ∷ ts) zero text g = ap (λ (u : f.Thread). lock_names x u) (same_Some t text g)
names_at x (t ∷ ts) (suc k) text g = names_at x ts k text g

pub names_are : (p : Plan) (t : Thread) (of : IsThread p t) → names_in p t ≡ lock_names p.flat of.text
names_are p t of = names_at p.flat p.flat.threads t.number of.text of.of_text

-- where no mutex is in an array, the numbers of the names held before a node are those of their mutexes, whatever numbers locals have
pub plain_before : (p : Plan) (t : Thread) (of : IsThread p t) → AllByRecursion IsSingle p.flat.mutexes → (locals : List ℤ) (node : ℕ) →
    length (set_before p t node) ≡ length p.flat.mutexes → locks_held (set_before p t node) ≡ locks_before p t locals node
plain_before p t of single locals node long =
    let set : Held = set_before p t node in
    let names : names_in p t ≡ plain_names (length set) = names_are p t of ∙ (names_are_plain p.flat of.text single ∙ ap plain_names (sym long)) in
    sym (ap (λ (ns : List LockName). map (lock_number locals) (held_names ns set)) names ∙ plain_numbers locals set)

-- where nothing is held no name is
pub nothing_named : (at : ℕ) (names : List LockName) (held : Held) → locks_held_from at held ≡ [] → held_names names held ≡ []
nothing_named at [] held none = refl
nothing_named at (x ∷ names) [] none = refl
nothing_named at (x ∷ names) (true ∷ held) none = cc
nothing_named at (x ∷ names) (false ∷ held) none = nothing_named (at + 1) names held none

-- where no name is held nothing is, since each has a name
pub nothing_held : (at : ℕ) (names : List LockName) (held : Held) → length held ≡ length names → held_names names held ≡ [] → locks_held_from at held ≡ []
nothing_held at names [] long none = refl
nothing_held at [] (b ∷ held) long none = absurd (omega (arith, long))
nothing_held at (x ∷ names) (true ∷ held) long none = cc
nothing_held at (x ∷ names) (false ∷ held) long none = nothing_held (at + 1) names held (omega (arith, long)) none

-- each name that is held has a number, and no other
pub named_some : (ls : List ℤ) (names : List LockName) → map (lock_number ls) names ≢ [] → names ≢ []
named_some ls names some = λ e. some (ap (λ (ns : List LockName). map (lock_number ls) ns) e)

pub numbers_some : (ls : List ℤ) (names : List LockName) → names ≢ [] → map (lock_number ls) names ≢ []
numbers_some ls [] some = absurd (some refl)
numbers_some ls (x ∷ names) some = λ e. cc

-- ---- Each lock

none_before : (at : ℕ) (held : Held) (lock : ℕ) → lock < at → has_lock (locks_held_from at held) lock ≡ false
none_before at [] lock below = refl
none_before at (true ∷ held) lock below =
    ap (λ (b : Bool). b || has_lock (locks_held_from (at + 1) held) lock) (ne_eqb at lock (λ e. omega (arith, e, below)))
    ∙ none_before (at + 1) held lock (omega (arith, below))
none_before at (false ∷ held) lock below = none_before (at + 1) held lock (omega (arith, below))

has_from : (at : ℕ) (held : Held) (k : ℕ) → has_lock (locks_held_from at held) (at + k) ≡ holds held k
has_from at [] k = refl
has_from at (true ∷ held) zero =
    or_left (at == at + 0) (has_lock (locks_held_from (at + 1) held) (at + 0)) (eq-eqb at (at + 0) (let z : at ≡ at + 0 = omega arith in z))
has_from at (false ∷ held) zero = none_before (at + 1) held (at + 0) (omega arith)
has_from at (true ∷ held) (suc k) =
    ap (λ (b : Bool). b || has_lock (locks_held_from (at + 1) held) (at + suc k)) (ne_eqb at (at + suc k) (λ e. omega (arith, e)))
    ∙ (ap (λ (n : ℕ). has_lock (locks_held_from (at + 1) held) n) (let z : at + suc k ≡ at + 1 + k = omega arith in z) ∙ has_from (at + 1) held k)
has_from at (false ∷ held) (suc k) =
    ap (λ (n : ℕ). has_lock (locks_held_from (at + 1) held) n) (let z : at + suc k ≡ at + 1 + k = omega arith in z) ∙ has_from (at + 1) held k

pub has_held : (held : Held) (lock : ℕ) → has_lock (locks_held held) lock ≡ holds held lock
has_held held lock = ap (λ (n : ℕ). has_lock (locks_held held) n) (let z : lock ≡ 0 + lock = omega arith in z) ∙ has_from 0 held lock
