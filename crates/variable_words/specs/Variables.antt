-- The numbers of variables in the words of a machine, as loads give them and as a crash leaves them, in two's complement
-- (C11 6.2.6.2).
use Rattle.std.specs.Prelude.{◌≡◌, ℕ, ◌+◌, ◌/◌, ◌%◌, List, [], ◌∷◌, map, ℤ}
use Rattle.ido_base.specs.declared.location.Shape.{Shape}
use Rattle.ido_base.specs.Words.{Word, word_at, live_value, durable_value}
use Rattle.ido_base.specs.Layout.{byte_number, variable_at}
use Rattle.ido_ints.specs.declared.kinds.Kind.{Kind}
use Rattle.c_tree.specs.Programs.{Variable}
use Rattle.c_tree.specs.WellFormed.{shape_of, elements_in}
use Rattle.log_schemes.specs.Schemes.{numbers_from}
use Rattle.memory_layout.specs.Variables.{HaveRoom}
use Rattle.recovery_semantics.specs.ElementHistories.{live_number, durable_number}
use Rattle.recovery_semantics.specs.Elements.{number_in}
use Rattle.recovery_semantics.specs.VariableSpots.{memory_in}
use Rattle.variable_words.specs.VariablesInWords.{spots_of}

-- values of words may be the live ones or the durable ones
module _ (value : Word → ℕ) (words : List Word) where
  -- the number of the kind in the bytes from the one of that number on
  abbrev pub number_of_byte : Kind → (number : ℕ) → ℤ
  number_of_byte kind number = number_in kind (number % 8) (value (word_at words (number / 8)))

  -- the shapes are those of all variables, and these are the variables from the number on
  abbrev pub variables_from : List Shape → (number : ℕ) → List Variable → List (List ℤ)
  variables_from shapes number [] = []
  variables_from shapes number (v ∷ vs) =
      map (λ element. number_of_byte v.kind (byte_number (variable_at shapes number element))) (numbers_from 0 (elements_in v.length)) ∷
      variables_from shapes (number + 1) vs

-- of each variable the numbers of its elements, as loads give them
unfoldable pub live_variables : List Word → List Variable → List (List ℤ)
live_variables words vs = variables_from live_value words (map shape_of vs) 0 vs

-- of each variable the numbers of its elements, as a crash leaves them
unfoldable pub durable_variables : List Word → List Variable → List (List ℤ)
durable_variables words vs = variables_from durable_value words (map shape_of vs) 0 vs

-- ---- Laws

-- the variables' numbers are those of memory
abbrev pub LiveAreMemory : Type 0
LiveAreMemory = (vs : List Variable) (words : List Word) → HaveRoom (map shape_of vs) →
    live_variables words vs ≡ map (map live_number) (memory_in (spots_of vs) words)

abbrev pub DurableAreMemory : Type 0
DurableAreMemory = (vs : List Variable) (words : List Word) → HaveRoom (map shape_of vs) →
    durable_variables words vs ≡ map (map durable_number) (memory_in (spots_of vs) words)
