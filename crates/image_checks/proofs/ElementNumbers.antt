-- Numbers of elements by the words of all variables: whether each is that of null, or of a reference to an element.
use Rattle.std.proofs.Common.{◌≡◌, ◌⊎◌, inl, inr, refl, ℕ, zero, suc, ◌+◌, ◌-◌, ◌*◌, ◌^◌, ◌<◌, ◌≤◌, sym, ◌∙◌, ap, subst, arith}
use Rattle.std.proofs.Common.{Option, Some, None, List, [], ◌∷◌, length, map, get_or, ℤ}
use Rattle.std.specs.Prelude.{pos, slice_get, slice_index, slice_index_or, ◌≤ℤ◌, ◌<ℤ◌}
use Rattle.std.proofs.lemmas.Bool.{cases_lt, cases_order}
use Rattle.std.proofs.lemmas.Int.{ints}
use Rattle.std.proofs.lemmas.List.{get_or_default}
use Rattle.std.proofs.lemmas.Option.{none-some, same_Some, slice_get_past, slice_get_read}
use Rattle.ido_base.specs.declared.location.Shape.{Shape}
use Rattle.ido_base.specs.declared.limits.TheConstants.{MOST_VARIABLE_BYTES}
use Rattle.ido_base.specs.Layout.{byte_number, start_from, variable_at, variables_base}
use Rattle.ido_base.specs.Words.{Word, durable_value, word_at, word_of}
use Rattle.ido_ints.specs.declared.kinds.Kind.{Kind}
use Rattle.ido_ints.specs.declared.kinds.Kind.TheVariants.{UnsignedLong}
use Rattle.ido_ints.specs.Kinds.{bytes_of}
use Rattle.ido_ints.proofs.Public.{Holds-zero}
use Rattle.c_tree.specs.declared.program.Variable as declared
use Rattle.c_tree.specs.Flats.{Flat}
use Rattle.c_tree.specs.Programs.{Variable, variable_of}
use Rattle.c_tree.specs.Ranges.{elements_of}
use Rattle.c_tree.specs.References.{variable_refers}
use Rattle.c_tree.specs.WellFormed.{elements_in}
use Rattle.c_ranges.specs.Laws.{IsNullOrReference}
use Rattle.c_ranges.specs.RunInvariants.{RefersSo}
use Rattle.memory_layout.specs.Variables.{AreAddresses, HaveRoom}
use Rattle.log_schemes.specs.Schemes.{numbers_from}
use Rattle.variable_words.specs.Variables.{durable_variables, number_of_byte, variables_from}
use Rattle.variable_words.proofs.Public.{shapes, address_is, length-shapes, length-variables, number_is, variable_at_index, within_end}
use Rattle.image_checks.specs.declared.error.ImageError.TheVariants as e
use Rattle.image_checks.specs.Laws.{NoneIfReferences, OneReferenceFault}
use Rattle.image_checks.specs.links.ElementNumbers.{AreRight, AreRightBy, IsFirstOutside, IsFirstWrongBy, IsFirstWrongIn, IsVariableRight, number_there}
use Rattle.image_checks.specs.VariableReferences.{IsBefore, IsNumberRight, IsReferenceFault, numbers_in, outside}

-- ---- A number

-- a word that has its value alone
pub durable_word : (words : List ℕ) (n : ℕ) → slice_index words n ≡ durable_value (word_at (map word_of words) n)
durable_word [] n = refl
durable_word (w ∷ words) zero = refl
durable_word (w ∷ words) (suc n) = durable_word words n

-- ---- Numbers of references

null_number : (elements : ℕ) → IsNullOrReference elements (pos 0)
null_number elements = record { held = Holds-zero UnsignedLong; names = record { from_low = omega (arith, ints); to_high = omega (arith, ints) } }

pub right_number : (elements : ℕ) (z : ℤ) → elements < 2 ^ 32 → pos 0 ≤ℤ z → z ≤ℤ pos elements → IsNullOrReference elements z
right_number elements z few from to = record {
  held = record { from_least = from; to_greatest = omega (arith, ints, few, to) };
  names = record { from_low = from; to_high = to };
}

pub below_null : (elements : ℕ) (z : ℤ) → z <ℤ pos 0 → ¬ (IsNullOrReference elements z)
below_null elements z less h = let low : pos 0 ≤ℤ z = h.names.from_low in absurd (omega (arith, ints, less, low))

pub one_right : (words : List ℕ) (kind : Kind) (first elements element size : ℕ) → size ≡ bytes_of kind → AreRight words kind first elements element →
    IsNullOrReference elements (number_of_byte durable_value (map word_of words) kind (first + size * element)) →
    AreRight words kind first elements (element + 1)
one_right words kind first elements element size is so_far here k below = elim (cases_lt k element) [
  | inl less ↦ so_far k less
  | inr last ↦
      let same : element ≡ k = omega (arith, below, last) in
      subst (λ (n : ℕ). IsNullOrReference elements (number_there words kind first n)) same
      (subst (λ (n : ℕ). IsNullOrReference elements (number_of_byte durable_value (map word_of words) kind (first + n * element))) is here)
]

-- ---- The numbers of a variable

module _ (words : List Word) (ss : List Shape) where
  -- the number of the element, where the variable is that of the number
  abbrev at_element : (number : ℕ) → Variable → (element : ℕ) → ℤ
  at_element number v element = number_of_byte durable_value words v.kind (byte_number (variable_at ss number element))

  numbers_of_variable : (number : ℕ) (vs : List Variable) (v : ℕ) (is : Variable) → slice_get vs v ≡ Some is →
      slice_index_or (variables_from durable_value words ss number vs) v [] ≡ map (at_element (number + v) is) (numbers_from 0 (elements_in is.length))
  numbers_of_variable number [] v is there = absurd (none-some is there)
  numbers_of_variable number (x ∷ vs) zero is there =
      let same : number ≡ number + 0 = omega arith in
      λ i. map (at_element (same i) (same_Some x is there i)) (numbers_from 0 (elements_in (same_Some x is there i).length))
  numbers_of_variable number (x ∷ vs) (suc v) is there =
      let more : number + 1 + v ≡ number + suc v = omega arith in
      numbers_of_variable (number + 1) vs v is there
      ∙ ap (λ (k : ℕ). map (at_element k is) (numbers_from 0 (elements_in is.length))) more

mapped_at : (g : ℕ → ℤ) (from count i : ℕ) → i < count → slice_index_or (map g (numbers_from from count)) i (pos 0) ≡ g (from + i)
mapped_at g from zero i below = absurd (omega (arith, below))
mapped_at g from (suc count) zero below = let same : from ≡ from + 0 = omega arith in ap g same
mapped_at g from (suc count) (suc i) below =
    let more : from + 1 + i ≡ from + suc i = omega arith in mapped_at g (from + 1) count i (omega (arith, below)) ∙ ap g more

mapped_past : (g : ℕ → ℤ) (from count i : ℕ) → count ≤ i → slice_index_or (map g (numbers_from from count)) i (pos 0) ≡ pos 0
mapped_past g from zero i past = refl
mapped_past g from (suc count) zero past = absurd (omega (arith, past))
mapped_past g from (suc count) (suc i) past = mapped_past g (from + 1) count i (omega (arith, past))

refers_at : (vs : List Variable) (v : ℕ) (is : Variable) → slice_get vs v ≡ Some is → variable_refers vs v ≡ is.refers
refers_at vs v is there = ap (λ (o : Option Variable). elim o [ Some x ↦ x.refers | None ↦ None ]) there

-- ---- Whether they are right

module _ (flat : Flat) (words : List ℕ) where
  abbrev Right : (variable element : ℕ) → Type 0
  Right variable element = IsNumberRight flat words variable element

  abbrev vs : List Variable
  vs = flat.variables

  -- a variable that isn't there, or that refers to nothing
  none_refers : (variable element : ℕ) → variable_refers vs variable ≡ None → Right variable element
  none_refers variable element none = subst (λ (r : Option ℕ). RefersSo vs r (element_is variable element)) (sym none) tt
    where
      element_is : (variable element : ℕ) → ℤ
      element_is variable element = slice_index_or (slice_index_or (numbers_in flat words) variable []) element (pos 0)

  no_variable : (variable element : ℕ) → slice_get vs variable ≡ None → Right variable element
  no_variable variable element none =
      none_refers variable element (ap (λ (o : Option Variable). elim o [ Some x ↦ x.refers | None ↦ None ]) none)

  module _ (room : HaveRoom (shapes vs)) (variable first : ℕ) (is : Variable) (there : slice_get vs variable ≡ Some is)
      (at : first ≡ start_from 0 (shapes vs) variable) where
    own_numbers : slice_index_or (numbers_in flat words) variable []
        ≡ map (at_element (map word_of words) (shapes vs) variable is) (numbers_from 0 (elements_in is.length))
    unfolding durable_variables
    own_numbers =
        let none : 0 + variable ≡ variable = omega arith in
        numbers_of_variable (map word_of words) (shapes vs) 0 vs variable is there
        ∙ ap (λ (k : ℕ). map (at_element (map word_of words) (shapes vs) k is) (numbers_from 0 (elements_in is.length))) none

    number_within : (element : ℕ) → element < elements_in is.length →
        slice_index_or (slice_index_or (numbers_in flat words) variable []) element (pos 0) ≡ number_there words is.kind first element
    number_within element below =
        let byte : byte_number (variable_at (shapes vs) variable element) ≡ first + bytes_of is.kind * element =
        number_is vs variable element is room there (omega (arith, below)) ∙ ap (λ (n : ℕ). n + bytes_of is.kind * element) (sym at) in
        let none : 0 + element ≡ element = omega arith in
        ap (λ (ns : List ℤ). slice_index_or ns element (pos 0)) own_numbers
        ∙ (mapped_at (at_element (map word_of words) (shapes vs) variable is) 0 (elements_in is.length) element below
        ∙ (ap (at_element (map word_of words) (shapes vs) variable is) none
        ∙ ap (number_of_byte durable_value (map word_of words) is.kind) byte))

    number_past : (element : ℕ) → elements_in is.length ≤ element →
        slice_index_or (slice_index_or (numbers_in flat words) variable []) element (pos 0) ≡ pos 0
    number_past element past =
        ap (λ (ns : List ℤ). slice_index_or ns element (pos 0)) own_numbers
        ∙ mapped_past (at_element (map word_of words) (shapes vs) variable is) 0 (elements_in is.length) element past

    module _ (array : ℕ) (refers : is.refers ≡ Some array) where
      refers_is : variable_refers vs variable ≡ Some array
      refers_is = refers_at vs variable is there ∙ refers

      right_of : (element : ℕ) (z : ℤ) → slice_index_or (slice_index_or (numbers_in flat words) variable []) element (pos 0) ≡ z →
          IsNullOrReference (elements_of vs array) z → Right variable element
      right_of element z same h =
          subst (λ (r : Option ℕ). RefersSo vs r (slice_index_or (slice_index_or (numbers_in flat words) variable []) element (pos 0))) (sym refers_is)
          (subst (IsNullOrReference (elements_of vs array)) (sym same) h)

      of_right : (element : ℕ) (z : ℤ) → slice_index_or (slice_index_or (numbers_in flat words) variable []) element (pos 0) ≡ z →
          Right variable element → IsNullOrReference (elements_of vs array) z
      of_right element z same h =
          subst (IsNullOrReference (elements_of vs array)) same
          (subst (λ (r : Option ℕ). RefersSo vs r (slice_index_or (slice_index_or (numbers_in flat words) variable []) element (pos 0))) refers_is h)

      array_right : AreRight words is.kind first (elements_of vs array) (elements_in is.length) → (element : ℕ) → Right variable element
      array_right all element = elim (cases_lt element (elements_in is.length)) [
        | inl below ↦ right_of element (number_there words is.kind first element) (number_within element below) (all element below)
        | inr past ↦ right_of element (pos 0) (number_past element past) (null_number (elements_of vs array))
      ]

      array_wrong : (element : ℕ) → IsFirstOutside words is.kind first (elements_of vs array) (elements_in is.length) element →
          ((v i : ℕ) → v < variable → Right v i) → IsReferenceFault flat words (e.Reference variable element)
      array_wrong element f earlier =
          outside variable element
          (λ h. f.outside (of_right element (number_there words is.kind first element) (number_within element f.within) h))
          before
        where
          before : (v i : ℕ) → IsBefore v i variable element → Right v i
          before v i (inl less) = earlier v i less
          before v i (inr own) =
              let below : i < elements_in is.length = omega (arith, own.1, f.within) in
              subst (λ (n : ℕ). Right n i) (sym own.0)
              (right_of i (number_there words is.kind first i) (number_within i below) (f.before i own.1))

    variable_right : (refers : Option ℕ) → is.refers ≡ refers → AreRightBy vs words is first refers → (element : ℕ) → Right variable element
    variable_right None none h element = none_refers variable element (refers_at vs variable is there ∙ none)
    variable_right (Some array) some h element = array_right array some h element

    variable_wrong : (refers : Option ℕ) → is.refers ≡ refers → (element : ℕ) → IsFirstWrongBy vs words is first refers element →
        ((v i : ℕ) → v < variable → Right v i) → IsReferenceFault flat words (e.Reference variable element)
    variable_wrong None none element h earlier = absurd h
    variable_wrong (Some array) some element h earlier = array_wrong array some element h earlier

    pub own_right : IsVariableRight vs words is first → (element : ℕ) → Right variable element
    own_right h element = variable_right is.refers refl h element

    pub own_wrong : (element : ℕ) → IsFirstWrongIn vs words is first element → ((v i : ℕ) → v < variable → Right v i) →
        IsReferenceFault flat words (e.Reference variable element)
    own_wrong element h earlier = variable_wrong is.refers refl element h earlier

-- ---- By declared variables and their addresses

module _ (xs : List declared.Variable) (addresses : List ℕ) (i address : ℕ) (x : declared.Variable)
    (are : AreAddresses (shapes (map variable_of xs)) addresses) (below : i < length xs) (is : x ≡ get_or xs i x)
    (read : address ≡ get_or addresses i address) where
  abbrev us : List Variable
  us = map variable_of xs

  pub there_is : slice_get us i ≡ Some (variable_of x)
  there_is = slice_get_read us (length us) i (variable_of x) refl (omega (arith, below, length-variables xs)) (variable_at_index xs i x below is)

  pub first_is : address - variables_base ≡ start_from 0 (shapes us) i
  first_is =
      let within : i < length addresses = omega (arith, below, are.count, length-shapes xs) in
      let own : address ≡ slice_index addresses i = read ∙ get_or_default addresses i address 0 within in
      let each = are.each i (omega (arith, below, length-shapes xs)) in
      let a = address_is us i 0 (variable_of x) there_is in
      omega (arith, own, each, a)

  pub variable_fits : HaveRoom (shapes us) → address - variables_base + bytes_of x.kind * elements_in x.length ≤ MOST_VARIABLE_BYTES
  variable_fits room = omega (arith, first_is, room, within_end 0 us i (variable_of x) there_is)

pub one_variable : (flat : Flat) (words : List ℕ) (i : ℕ) → ((v e : ℕ) → v < i → IsNumberRight flat words v e) → ((e : ℕ) → IsNumberRight flat words i e) →
    (v e : ℕ) → v < i + 1 → IsNumberRight flat words v e
one_variable flat words i so_far here v e below = elim (cases_lt v i) [
  | inl less ↦ so_far v e less
  | inr last ↦ let same : i ≡ v = omega (arith, below, last) in subst (λ (n : ℕ). IsNumberRight flat words n e) same (here e)
]

pub all_variables : (flat : Flat) (words : List ℕ) (i : ℕ) → length flat.variables ≤ i → ((v e : ℕ) → v < i → IsNumberRight flat words v e) →
    (v e : ℕ) → IsNumberRight flat words v e
all_variables flat words i past so_far v e = elim (cases_lt v (length flat.variables)) [
  | inl less ↦ so_far v e (omega (arith, less, past))
  | inr beyond ↦ no_variable flat words v e (slice_get_past flat.variables v beyond)
]

-- ---- One fault at most

ordered : (v i w j : ℕ) → ((v ≡ w) × (i ≡ j)) ⊎ (IsBefore v i w j ⊎ IsBefore w j v i)
ordered v i w j = elim (cases_order v w) [
  | inl same ↦ elim (cases_order i j) [
    | inl also ↦ inl (same, also)
    | inr other ↦ elim other [
      | inl less ↦ inr (inl (inr (same, less)))
      | inr more ↦ inr (inr (inr (sym same, more)))
    ]
  ]
  | inr other ↦ elim other [
    | inl less ↦ inr (inl (inl less))
    | inr more ↦ inr (inr (inl more))
  ]
]

pub one_reference : OneReferenceFault
one_reference flat words x y (outside v i wrong before) (outside w j wrong' before') = elim (ordered v i w j) [
  | inl same ↦ λ k. e.Reference (same.0 k) (same.1 k)
  | inr other ↦ elim other [
    | inl less ↦ absurd (wrong (before' v i less))
    | inr more ↦ absurd (wrong' (before w j more))
  ]
]

pub none_if_references : NoneIfReferences
none_if_references flat words x are (outside v i wrong before) = wrong (are v i)
