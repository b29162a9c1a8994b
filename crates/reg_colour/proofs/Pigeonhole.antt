-- How long a list can be in which no number stands twice.
use Rattle.std.proofs.Common.{◌≡◌, ◌∙◌, ℕ, ◌<◌, ◌≤◌, ◌≢◌, List, length, get_or, map, Contains, AllPairs, slice_get, Some, sym, ap, subst, arith}
use Rattle.std.specs.Cmp.{unsigned_Decides}
use Rattle.std.proofs.lemmas.List.{length-map, get_or-map}
use Rattle.std.proofs.lemmas.List.Elements.{Contains-get_or}
use Rattle.std.proofs.lemmas.Option.{slice_get-get_or}
use Rattle.std.proofs.lemmas.Map.Made.{is_member-Decides, IsDistinct-from_AllPairs}
use Rattle.std.proofs.lemmas.Map.Steps.{length-le_from_distinct_below, le-length_from_below}

-- no number stands twice in the list
abbrev pub Once : List ℕ → Type 0
Once xs = (i j x : ℕ) → slice_get xs i ≡ Some x → slice_get xs j ≡ Some x → i ≡ j

image : (f : ℕ → ℕ) (xs : List ℕ) (a : ℕ) → Contains xs a → Contains (map f xs) (f a)
image f xs a c = (c.0, omega (arith, c.1, length-map xs f), get_or-map f xs c.0 a (f a) c.1 ∙ ap f c.2)

original : (f : ℕ → ℕ) (xs : List ℕ) (q : ℕ) → Contains (map f xs) q → (a : ℕ) × Contains xs a × (f a ≡ q)
original f xs q c =
    let lt : c.0 < length xs = omega (arith, c.1, length-map xs f) in
    (get_or xs c.0 0, Contains-get_or xs c.0 0 lt, sym (get_or-map f xs c.0 0 q lt) ∙ c.2)

apart : (f : ℕ → ℕ) (xs : List ℕ) → Once xs → ((a b : ℕ) → Contains xs a → Contains xs b → f a ≡ f b → a ≡ b) → AllPairs (λ (x y : ℕ). x ≢ y) (map f xs)
apart f xs once one i j d lt within same =
    let short : j < length xs = omega (arith, within, length-map xs f) in
    let first : i < length xs = omega arith in
    let e : f (get_or xs i 0) ≡ f (get_or xs j 0) = sym (get_or-map f xs i 0 d first) ∙ same ∙ get_or-map f xs j 0 d short in
    let eq : get_or xs i 0 ≡ get_or xs j 0 = one (get_or xs i 0) (get_or xs j 0) (Contains-get_or xs i 0 first) (Contains-get_or xs j 0 short) e in
    let k : i ≡ j = once i j (get_or xs j 0) (slice_get-get_or xs i 0 first ∙ ap (λ (x : ℕ). Some x) eq) (slice_get-get_or xs j 0 short) in
    omega (arith, k, lt)

-- a list is no longer than there are values, where its numbers have different ones
pub not_more : (f : ℕ → ℕ) (xs : List ℕ) (n : ℕ) → Once xs → ((a b : ℕ) → Contains xs a → Contains xs b → f a ≡ f b → a ≡ b) →
    ((a : ℕ) → Contains xs a → f a < n) → length xs ≤ n
not_more f xs n once one below =
    let h : length (map f xs) ≤ n = length-le_from_distinct_below (map f xs) n (IsDistinct-from_AllPairs unsigned_Decides (map f xs) (apart f xs once one))
    (λ q any. let o = original f xs q ((is_member-Decides unsigned_Decides (map f xs) q).0 any) in subst (λ (x : ℕ). x < n) o.2 (below o.0 o.1)) in
    omega (arith, h, length-map xs f)

-- a list is as long as there are values, where each is that of one of its numbers
pub not_fewer : (f : ℕ → ℕ) (xs : List ℕ) (n : ℕ) → ((q : ℕ) → q < n → (a : ℕ) × Contains xs a × (f a ≡ q)) → n ≤ length xs
not_fewer f xs n each =
    let h : n ≤ length (map f xs) = le-length_from_below (map f xs) n
    (λ q lt. let e = each q lt in (is_member-Decides unsigned_Decides (map f xs) q).1 (subst (λ (x : ℕ). Contains (map f xs) x) e.2 (image f xs e.0 e.1))) in
    omega (arith, h, length-map xs f)
