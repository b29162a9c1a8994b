-- Whether the references among variables are null or lead to elements, and the first that isn't and doesn't.
use Rattle.std.specs.Prelude.{◌≡◌, ◌⊎◌, ℕ, ◌<◌, List, map, ℤ}
use Rattle.ido_base.specs.Words.{word_of}
use Rattle.c_tree.specs.Flats.{Flat}
use Rattle.c_tree.specs.References.{variable_refers}
use Rattle.c_tree.specs.Values.{element_number}
use Rattle.c_ranges.specs.RunInvariants.{RefersSo}
use Rattle.variable_words.specs.Variables.{durable_variables}
use Rattle.image_checks.specs.declared.error.ImageError.{ImageError}
use Rattle.image_checks.specs.declared.error.ImageError.TheVariants as e

-- of each variable the numbers of its elements, by the words of all
abbrev pub numbers_in : Flat → (words : List ℕ) → List (List ℤ)
numbers_in flat words = durable_variables (map word_of words) flat.variables

-- the element stands before the other one
abbrev pub IsBefore : (variable element other at : ℕ) → Type 0
IsBefore variable element other at = (variable < other) ⊎ ((variable ≡ other) × (element < at))

module _ (flat : Flat) (words : List ℕ) where
  -- the number of the element is one of what refers so; past the elements it is 0, which is null
  abbrev pub IsNumberRight : (variable element : ℕ) → Type 0
  IsNumberRight variable element =
      RefersSo flat.variables (variable_refers flat.variables variable) (element_number (numbers_in flat words) variable element)

  abbrev pub AreReferences : Type 0
  AreReferences = (variable element : ℕ) → IsNumberRight variable element

  -- the first element whose number isn't
  pub data IsReferenceFault : ImageError → Type 0 where
    outside : (variable element : ℕ) → ¬ (IsNumberRight variable element) →
        ((v i : ℕ) → IsBefore v i variable element → IsNumberRight v i) → IsReferenceFault (e.Reference variable element)
