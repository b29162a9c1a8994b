-- What locations tell of the elements that they have.
use Rattle.std.proofs.Common.{◌≡◌, ◌≤◌, refl, ℕ, Option, Some, None, Bool, true, false, sym, ap, ◌∙◌, arith, ⊎_elim, inl, inr, ◌⊎◌}
use Rattle.std.proofs.lemmas.Bool.Decides.{nat_tests}
use Rattle.ido_base.specs.declared.location.Location.{Location}
use Rattle.ido_base.specs.Locations.{have_one_key, have_two_keys, overlap, same}
use Rattle.flow_graph.specs.Paths.{Element, Naming, AreApart, no_names, IsInRange, Lies}

-- ---- Keys

pub none_apart : AreApart no_names
none_apart variable one other element h k = cc

-- keys that name one element aren't two
not_two : (names : Naming) (variable element : ℕ) (j k : Option ℕ) → AreApart names → ((key : ℕ) → j ≡ Some key → names variable key ≡ Some element) →
    ((key : ℕ) → k ≡ Some key → names variable key ≡ Some element) → have_two_keys j k ≡ false
not_two names variable element (Some one) (Some other) apart h l =
    let is : one ≡ other = apart variable one other element (h one refl) (l other refl) in grind (arith, nat_tests)
not_two names variable element (Some one) None apart h l = refl
not_two names variable element None other apart h l = refl

-- one key names one element
names_one : (names : Naming) (variable one other : ℕ) (j k : Option ℕ) → have_one_key j k ≡ true →
    ((key : ℕ) → j ≡ Some key → k ≡ Some key → names variable key ≡ Some one) → ((key : ℕ) → k ≡ Some key → names variable key ≡ Some other) → one ≡ other
names_one names variable one other (Some a) (Some b) t h l =
    let is : a ≡ b = grind (arith, nat_tests) in
    let here : names variable a ≡ Some one = h a refl (ap Some (sym is)) in
    let there : names variable a ≡ Some other = ap (names variable) is ∙ l b refl in
    cc
names_one names variable one other (Some a) None t h l = cc
names_one names variable one other None k t h l = cc

-- ---- Locations

pub common_overlaps : (names : Naming) (l r : Location) (one : Element) → AreApart names → Lies names l one → Lies names r one → overlap l r ≡ true
common_overlaps names l r one apart h k =
    let v : l.variable ≡ r.variable = h.within.variable ∙ sym k.within.variable in
    let a : l.lo ≤ r.hi = omega (arith, h.within.from_lo, k.within.to_hi) in
    let b : r.lo ≤ l.hi = omega (arith, k.within.from_lo, h.within.to_hi) in
    let keys : have_two_keys l.key r.key ≡ false = not_two names one.variable one.element l.key r.key apart h.by_key k.by_key in
    grind (arith, nat_tests)

record IsOne (l r : Location) : Type 0 where
  left : l.lo ≡ l.hi
  right : r.lo ≡ r.hi
  both : l.lo ≡ r.lo

one_variable : (l r : Location) → same l r ≡ true → l.variable ≡ r.variable
one_variable l r h = grind (arith, nat_tests)

one_or_key : (l r : Location) (b : Bool) → have_one_key l.key r.key ≡ b → same l r ≡ true → IsOne l r ⊎ (b ≡ true)
one_or_key l r true key h = inr refl
one_or_key l r false key h =
    inl (record { left = grind (arith, nat_tests); right = grind (arith, nat_tests); both = grind (arith, nat_tests) })

-- of two locations that are the same only a key of both needs to name what is in the one
pub same_by_key : (names : Naming) (l r : Location) (one other : Element) → same l r ≡ true → IsInRange l one →
    ((key : ℕ) → l.key ≡ Some key → r.key ≡ Some key → names one.variable key ≡ Some one.element) → Lies names r other → one ≡ other
same_by_key names l r one other s h named k =
    let v : one.variable ≡ other.variable = sym h.variable ∙ (one_variable l r s ∙ k.within.variable) in
    let n : one.element ≡ other.element =
    ⊎_elim
    (λ is. omega (arith, is.left, is.right, is.both, h.from_lo, h.to_hi, k.within.from_lo, k.within.to_hi))
    (λ key.
    let there : (j : ℕ) → r.key ≡ Some j → names one.variable j ≡ Some other.element = λ j is. ap (λ (w : ℕ). names w j) v ∙ k.by_key j is in
    names_one names one.variable one.element other.element l.key r.key key named there)
    (one_or_key l r (have_one_key l.key r.key) refl s) in
    λ i. record { variable = v i; element = n i }

pub same_element : (names : Naming) (l r : Location) (one other : Element) → same l r ≡ true → Lies names l one → Lies names r other → one ≡ other
same_element names l r one other s h k = same_by_key names l r one other s h.within (λ key is is_too. h.by_key key is) k
