-- The numbers of variables in words are those of memory, element by element.
use Rattle.std.proofs.Common.{◌≡◌, refl, ℕ, zero, suc, ◌+◌, ◌*◌, ◌/◌, ◌%◌, ◌<◌, ◌≤◌, List, [], ◌∷◌, sym, ◌∙◌, ap, arith, Some, ℤ}
use Rattle.std.specs.Prelude.{slice_get, map}
use Rattle.ido_base.specs.declared.location.Shape.{Shape}
use Rattle.ido_base.specs.Words.{Word, word_at, live_value, durable_value}
use Rattle.ido_base.specs.Layout.{start_from, byte_number, variable_at}
use Rattle.ido_ints.specs.declared.kinds.Kind.{Kind}
use Rattle.ido_ints.specs.Kinds.{bytes_of}
use Rattle.c_tree.specs.Programs.{Variable}
use Rattle.c_tree.specs.WellFormed as f
use Rattle.log_schemes.specs.Schemes.{numbers_from}
use Rattle.memory_layout.specs.Variables.{HaveRoom}
use Rattle.variable_words.proofs.VariableBounds.{shapes}
use Rattle.recovery_semantics.specs.ElementHistories.{History, live_number, durable_number}
use Rattle.recovery_semantics.specs.Elements.{number_in, element_in}
use Rattle.recovery_semantics.specs.VariableSpots.{elements_in, memory_in}
use Rattle.recovery_semantics.proofs.Public.{live_in, durable_in}
use Rattle.variable_words.specs.VariablesInWords.{spots_from, spots_of}
use Rattle.variable_words.specs.Variables.{number_of_byte, variables_from, live_variables, durable_variables, LiveAreMemory, DurableAreMemory}
use Rattle.variable_words.proofs.ElementsInWords.{number_is}

-- a history's number is that of the word's value
module _ (value : Word → ℕ) (number_of : History → ℤ) (words : List Word)
    (reads : (kind : Kind) (byte : ℕ) (word : Word) → number_in kind byte (value word) ≡ number_of (element_in kind byte word)) where
  -- elements stand one after another from a byte on
  elements_are : (kind : Kind) (place : ℕ → ℕ) (start from count : ℕ) →
      ((e : ℕ) → from ≤ e → e < from + count → place e ≡ start + bytes_of kind * e) →
      map (λ e. number_of_byte value words kind (place e)) (numbers_from from count) ≡
      map number_of (elements_in words kind (start + bytes_of kind * from) count)
  elements_are kind place start from zero at = refl
  elements_are kind place start from (suc count) at =
      let first : place from ≡ start + bytes_of kind * from = at from (omega arith) (omega arith) in
      let here : number_of_byte value words kind (place from) ≡
      number_of (element_in kind ((start + bytes_of kind * from) % 8) (word_at words ((start + bytes_of kind * from) / 8))) =
      ap (number_of_byte value words kind) first ∙ reads kind _ _ in
      let next : start + bytes_of kind * (from + 1) ≡ start + bytes_of kind * from + bytes_of kind = omega arith in
      let rest = elements_are kind place start (from + 1) count (λ e low below. at e (omega (arith, low)) (omega (arith, below)))
      ∙ ap (λ (n : ℕ). map number_of (elements_in words kind n count)) next in
      λ i. here i ∷ rest i

  -- the last variables of all
  variables_are : (all : List Variable) (number : ℕ) (vs : List Variable) → HaveRoom (shapes all) →
      ((i : ℕ) (is : Variable) → slice_get vs i ≡ Some is → slice_get all (number + i) ≡ Some is) →
      variables_from value words (shapes all) number vs ≡ map (map number_of) (memory_in (spots_from (shapes all) number vs) words)
  variables_are all number [] room are = refl
  variables_are all number (v ∷ vs) room are =
      let none : number + 0 ≡ number = omega arith in
      let there : slice_get all number ≡ Some v = ap (slice_get all) (sym none) ∙ are 0 v refl in
      let first = number_is all number 0 v room there (omega arith) in
      let start : start_from 0 (shapes all) number + bytes_of v.kind * 0 ≡ byte_number (variable_at (shapes all) number 0) = sym first in
      let own = elements_are v.kind (λ e. byte_number (variable_at (shapes all) number e)) (start_from 0 (shapes all) number) 0 (f.elements_in v.length)
      (λ e low below. number_is all number e v room there (omega (arith, below)))
      ∙ ap (λ (n : ℕ). map number_of (elements_in words v.kind n (f.elements_in v.length))) start in
      let rest = variables_are all (number + 1) vs room (λ i is h. let more : number + 1 + i ≡ number + suc i = omega arith in
      ap (slice_get all) more ∙ are (suc i) is h) in
      λ i. own i ∷ rest i

pub live_are_memory : LiveAreMemory
unfolding live_variables
live_are_memory vs words room =
    variables_are live_value live_number words live_in vs 0 vs room (λ i is h. let same : 0 + i ≡ i = omega arith in ap (slice_get vs) same ∙ h)

pub durable_are_memory : DurableAreMemory
unfolding durable_variables
durable_are_memory vs words room =
    variables_are durable_value durable_number words durable_in vs 0 vs room (λ i is h. let same : 0 + i ≡ i = omega arith in ap (slice_get vs) same ∙ h)
