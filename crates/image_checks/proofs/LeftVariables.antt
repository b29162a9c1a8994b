-- The references among the variables that a run leaves are null or lead to elements.
use Rattle.std.proofs.Common.{◌≡◌, ◌⊎◌, inl, inr, refl, sym, ◌∙◌, ap, subst, ℕ, zero, suc, ◌+◌, ◌/◌, ◌%◌, ◌*◌, ◌^◌, List, [], ◌∷◌, map, take}
use Rattle.std.specs.Prelude.{slice_index_or, ℤ, pos}
use native.Mathlib.Nat.{zero-div, zero-mod}
use Rattle.ido_base.specs.declared.location.Shape.{Shape}
use Rattle.ido_base.specs.Layout.{byte_number, variable_at}
use Rattle.ido_base.specs.Words.{Word, word_of, word_at, durable_value, part}
use Rattle.ido_ints.specs.declared.kinds.Kind.{Kind}
use Rattle.ido_ints.specs.Kinds.{bytes_of}
use Rattle.ido_ints.specs.Reduction.{reduced}
use Rattle.ido_ints.proofs.Public.{Holds-zero, reduced_held}
use Rattle.c_tree.specs.Programs.{Variable}
use Rattle.c_tree.specs.References.{variable_refers}
use Rattle.c_tree.specs.Values.{element_number}
use Rattle.c_tree.specs.WellFormed.{shape_of, elements_in}
use Rattle.c_ranges.specs.RunInvariants.{RefersSo}
use Rattle.machine_model.specs.Machine.{World}
use Rattle.log_schemes.specs.Schemes.{numbers_from}
use Rattle.memory_layout.specs.Variables.{HaveRoom}
use Rattle.recovery_semantics.specs.ElementHistories.{Memory, durable_number, history_at, history_of}
use Rattle.recovery_semantics.specs.Elements.{number_in}
use Rattle.recovery_semantics.proofs.Public.{index_map}
use Rattle.variable_words.specs.Variables.{durable_variables, number_of_byte, variables_from}
use Rattle.variable_words.proofs.Public.{durable_are_memory, well_formed_placed}
use Rattle.known_references.proofs.Public.{durable_refer, zero_refers}
use Rattle.crash_simulation.specs.SimulationRelation.{Simulates}
use Rattle.crash_simulation.specs.Systems.{System, IsSystem, flat_of}
use Rattle.image_checks.specs.VariableReferences.{AreReferences}

-- ---- Words of which some are lost

-- the number is that one, or it is lost
abbrev IsOrNone : (number kept : ℤ) → Type 0
IsOrNone number kept = (number ≡ kept) ⊎ (number ≡ pos 0)

either_at : (f g : ℕ → ℤ) → ((i : ℕ) → IsOrNone (f i) (g i)) → (is : List ℕ) (k : ℕ) →
    IsOrNone (slice_index_or (map f is) k (pos 0)) (slice_index_or (map g is) k (pos 0))
either_at f g h [] k = inl refl
either_at f g h (i ∷ is) zero = h i
either_at f g h (i ∷ is) (suc k) = either_at f g h is k

-- a word of zeros has the number 0, whatever its kind
none_in : (kind : Kind) (byte : ℕ) → number_in kind byte 0 ≡ pos 0
none_in kind byte =
    let none : part 0 byte (bytes_of kind) ≡ 0 =
    ap (λ (n : ℕ). n % 2 ^ (8 * bytes_of kind)) (zero-div (2 ^ (8 * byte))) ∙ zero-mod (2 ^ (8 * bytes_of kind)) in
    ap (λ (n : ℕ). reduced kind (pos n)) none ∙ reduced_held kind (pos 0) (Holds-zero kind)

module _ (few all : List Word)
    (each : (k : ℕ) → (durable_value (word_at few k) ≡ durable_value (word_at all k)) ⊎ (durable_value (word_at few k) ≡ 0)) where
  byte_is : (kind : Kind) (number : ℕ) → IsOrNone (number_of_byte durable_value few kind number) (number_of_byte durable_value all kind number)
  byte_is kind number = elim (each (number / 8)) [
    | inl same ↦ inl (ap (number_in kind (number % 8)) same)
    | inr lost ↦ inr (ap (number_in kind (number % 8)) lost ∙ none_in kind (number % 8))
  ]

  numbers_are : (shapes : List Shape) (number : ℕ) (vs : List Variable) (variable element : ℕ) →
      IsOrNone (element_number (variables_from durable_value few shapes number vs) variable element)
      (element_number (variables_from durable_value all shapes number vs) variable element)
  numbers_are shapes number [] variable element = inl refl
  numbers_are shapes number (v ∷ vs) zero element =
      either_at (λ (i : ℕ). number_of_byte durable_value few v.kind (byte_number (variable_at shapes number i)))
      (λ (i : ℕ). number_of_byte durable_value all v.kind (byte_number (variable_at shapes number i)))
      (λ i. byte_is v.kind (byte_number (variable_at shapes number i))) (numbers_from 0 (elements_in v.length)) element
  numbers_are shapes number (v ∷ vs) (suc variable) element = numbers_are shapes (number + 1) vs variable element

  durable_is : (vs : List Variable) (variable element : ℕ) →
      IsOrNone (element_number (durable_variables few vs) variable element) (element_number (durable_variables all vs) variable element)
  unfolding durable_variables
  durable_is vs variable element = numbers_are (map shape_of vs) 0 vs variable element

kept_at : (words : List Word) (k : ℕ) → durable_value (word_at (map word_of (map durable_value words)) k) ≡ durable_value (word_at words k)
kept_at [] k = refl
kept_at (word ∷ words) zero = refl
kept_at (word ∷ words) (suc k) = kept_at words k

-- past the first n none is left
taken_at : (words : List Word) (n k : ℕ) →
    let left = durable_value (word_at (map word_of (take n (map durable_value words))) k) in (left ≡ durable_value (word_at words k)) ⊎ (left ≡ 0)
taken_at words zero k = inr refl
taken_at [] (suc n) k = inr refl
taken_at (word ∷ words) (suc n) zero = inl refl
taken_at (word ∷ words) (suc n) (suc k) = taken_at words n k

-- ---- A machine that simulates an abstract run

module _ (y : System) (s : IsSystem y) (w : World) (stands : Simulates y s w) where
  abbrev vs : List Variable
  vs = (flat_of y).variables

  abbrev memory : Memory
  memory = stands.abstract.config.memory

  abbrev Refers : (variable : ℕ) → ℤ → Type 0
  Refers variable number = RefersSo vs (variable_refers vs variable) number

  room : HaveRoom (map shape_of vs)
  room = (well_formed_placed (flat_of y) s.plan.formed).room

  numbers_left : durable_variables w.words vs ≡ map (map durable_number) memory
  numbers_left = durable_are_memory vs w.words room ∙ ap (λ (ms : Memory). map (map durable_number) ms) stands.memory

  number_left : (variable element : ℕ) → element_number (durable_variables w.words vs) variable element ≡ durable_number (history_at memory variable element)
  number_left variable element =
      ap (λ (ns : List (List ℤ)). element_number ns variable element) numbers_left
      ∙ (ap (λ (ns : List ℤ). slice_index_or ns element (pos 0)) (index_map (map durable_number) memory variable [])
      ∙ index_map durable_number (slice_index_or memory variable []) element (history_of (pos 0)))

  refers : (variable element : ℕ) → Refers variable (element_number (durable_variables w.words vs) variable element)
  refers variable element =
      let b = stands.abstract in
      subst (Refers variable) (sym (number_left variable element))
      (durable_refer (flat_of y) b.origin b.config b.schedule s.plan.formed b.execution variable element)

  -- also where some of its words are lost
  some_refer : (words : List ℕ) → ((k : ℕ) → (durable_value (word_at (map word_of words) k) ≡ durable_value (word_at w.words k))
      ⊎ (durable_value (word_at (map word_of words) k) ≡ 0)) → AreReferences (flat_of y) words
  some_refer words each variable element = elim (durable_is (map word_of words) w.words each vs variable element) [
    | inl kept ↦ subst (Refers variable) (sym kept) (refers variable element)
    | inr lost ↦ subst (Refers variable) (sym lost) (zero_refers vs (variable_refers vs variable))
  ]

  pub left_refer : AreReferences (flat_of y) (map durable_value w.words)
  left_refer = some_refer (map durable_value w.words) (λ k. inl (kept_at w.words k))

  -- those of a file that has so many of the words
  pub taken_refer : (n : ℕ) → AreReferences (flat_of y) (take n (map durable_value w.words))
  taken_refer n = some_refer (take n (map durable_value w.words)) (λ k. taken_at w.words n k)
