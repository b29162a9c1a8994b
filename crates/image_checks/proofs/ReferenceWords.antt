-- Words of references: one that is no more than the number of an array's elements is that of null or of a reference to one of them, and no other is.
use Rattle.std.proofs.Common.{◌≡◌, ◌≢◌, refl, ℕ, ◌+◌, ◌*◌, ◌%◌, ◌<◌, ◌≤◌, ◌^◌, List, ap, sym, ◌∙◌, subst, arith, Option, Some, None}
use Rattle.std.specs.Prelude.{slice_get, ℤ, pos, ◌≤ℤ◌, unsigned_abs}
use Rattle.std.specs.List.{AllByRecursion}
use Rattle.std.proofs.lemmas.Int.{ints}
use Rattle.ido_base.specs.declared.limits.TheConstants.{MOST_ELEMENTS}
use Rattle.ido_ints.specs.declared.kinds.Kind.{Kind}
use Rattle.ido_ints.specs.declared.kinds.Kind.TheVariants.{UnsignedLong}
use Rattle.ido_ints.specs.Kinds.{Holds, bytes_of}
use Rattle.ido_ints.specs.Reduction.{reduced, register_of}
use Rattle.ido_ints.proofs.Public.{reduced-register, reduced_held, register_below}
use Rattle.c_tree.specs.Programs.{Mutex, Variable}
use Rattle.c_tree.specs.Ranges.{elements_of}
use Rattle.c_tree.specs.References.{HasNulls, IsVariableReferring, variable_refers}
use Rattle.c_tree.specs.WellFormed.{elements_in, IsVariable}
use Rattle.c_ranges.specs.Laws.{IsNullOrReference}
use Rattle.c_ranges.specs.RunInvariants.{RefersSo}
use Rattle.flow_graph.proofs.Public.{all_at}
use Rattle.image_checks.specs.Checks.{IsReferenceWord}

-- ---- A word and its number

word_held : (word : ℕ) → word < 2 ^ 64 → Holds UnsignedLong (pos word)
word_held word low = record { from_least = omega (arith, ints); to_greatest = omega (arith, ints, low) }

pub reference_of_word : (elements word : ℕ) → elements ≤ MOST_ELEMENTS → word ≤ elements → IsNullOrReference elements (reduced UnsignedLong (pos word))
reference_of_word elements word most low =
    let held = word_held word (omega (arith, most, low)) in
    subst (IsNullOrReference elements) (sym (reduced_held UnsignedLong (pos word) held))
    (record { held = held; names = record { from_low = omega (arith, ints); to_high = omega (arith, ints, low) } })

pub some_of_word : (word : ℕ) → word < 2 ^ 64 → word ≢ 0 → reduced UnsignedLong (pos word) ≢ pos 0
some_of_word word low some zeroth =
    some (ap unsigned_abs (sym (reduced_held UnsignedLong (pos word) (word_held word low)) ∙ zeroth))

pub word_is : (z : ℤ) → Holds UnsignedLong z → pos (register_of UnsignedLong z) ≡ z
word_is z held =
    let w : ℕ = register_of UnsignedLong z in
    sym (reduced_held UnsignedLong (pos w) (word_held w (register_below UnsignedLong z))) ∙ reduced-register UnsignedLong z held

pub word_of_reference : (elements : ℕ) (z : ℤ) → IsNullOrReference elements z → register_of UnsignedLong z ≤ elements
word_of_reference elements z r =
    let w : ℕ = register_of UnsignedLong z in
    let high : pos w ≤ℤ pos elements = subst (λ (n : ℤ). n ≤ℤ pos elements) (sym (word_is z r.held)) r.names.to_high in
    omega (arith, ints, high)

-- ---- Of what refers

-- arrays are no longer than they may be
short_array : (o : Option ℕ) → elements_in o ≤ MOST_ELEMENTS → ◌≤◌ (elim o as (λ _. ℕ) [ Some n ↦ n | None ↦ 0 ]) MOST_ELEMENTS
short_array None h = omega arith
short_array (Some n) h = h

pub few_elements : (ms : List Mutex) (vs : List Variable) (variable : ℕ) → AllByRecursion (IsVariable ms) vs → elements_of vs variable ≤ MOST_ELEMENTS
few_elements ms vs variable formed = by (slice_get vs variable) refl
  where
    by : (o : Option Variable) → slice_get vs variable ≡ o →
        ◌≤◌ (elim o as (λ _. ℕ) [ Some v ↦ elim v.length as (λ _. ℕ) [ Some n ↦ n | None ↦ 0 ] | None ↦ 0 ]) MOST_ELEMENTS
    by None is = omega arith
    by (Some v) is = short_array v.length (all_at (IsVariable ms) vs variable v formed is).not_too_long

-- an `unsigned long`
abbrev pub IsLong : (refers : Option ℕ) → Kind → Type 0
IsLong None k = Unit {0}
IsLong (Some array) k = k ≡ UnsignedLong

nulls_long : (refers : Option ℕ) (v : Variable) → HasNulls refers v → IsLong refers v.kind
nulls_long None v h = tt
nulls_long (Some array) v h = h.0

-- a variable that refers is one
pub variable_long : (vs : List Variable) (variable : ℕ) (it : Variable) → AllByRecursion (IsVariableReferring vs) vs → slice_get vs variable ≡ Some it →
    IsLong (variable_refers vs variable) it.kind
variable_long vs variable it referring found =
    let own : variable_refers vs variable ≡ it.refers =
    ap (λ (o : Option Variable). elim o as (λ _. Option ℕ) [ Some v ↦ v.refers | None ↦ None ]) found in
    subst (λ (r : Option ℕ). IsLong r it.kind) (sym own) (nulls_long it.refers it (all_at (IsVariableReferring vs) vs variable it referring found).1)

module _ (ms : List Mutex) (vs : List Variable) (formed : AllByRecursion (IsVariable ms) vs) where
  pub refers_by : (refers : Option ℕ) (k : Kind) (word : ℕ) → IsLong refers k → IsReferenceWord vs refers word → RefersSo vs refers (reduced k (pos word))
  refers_by None k word is right = tt
  refers_by (Some array) k word is right =
      subst (λ (j : Kind). IsNullOrReference (elements_of vs array) (reduced j (pos word))) (sym is)
      (reference_of_word (elements_of vs array) word (few_elements ms vs array formed) right)

-- a word whose low bytes are those of such a number: of an `unsigned long` these are all
long_word : (word elements : ℕ) (z : ℤ) → word < 2 ^ 64 → word % 2 ^ 64 ≡ register_of UnsignedLong z % 2 ^ 64 → IsNullOrReference elements z →
    word ≤ elements
long_word word elements z small low refer =
    let r : ℕ = register_of UnsignedLong z in
    let top : r < 2 ^ 64 = register_below UnsignedLong z in
    let same : word % 2 ^ 64 ≡ r % 2 ^ 64 = low in
    let most : r ≤ elements = word_of_reference elements z refer in
    omega (arith, small, top, same, most)

pub word_by_bytes : (vs : List Variable) (refers : Option ℕ) (k : Kind) (word : ℕ) (z : ℤ) → IsLong refers k → word < 2 ^ 64 →
    word % 2 ^ (8 * bytes_of k) ≡ register_of k z % 2 ^ (8 * bytes_of k) → RefersSo vs refers z → IsReferenceWord vs refers word
word_by_bytes vs None k word z is small low refer = tt
word_by_bytes vs (Some array) k word z is small low refer =
    long_word word (elements_of vs array) z small
    (subst (λ (j : Kind). word % 2 ^ (8 * bytes_of j) ≡ register_of j z % 2 ^ (8 * bytes_of j)) is low) refer
