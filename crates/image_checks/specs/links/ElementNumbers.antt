-- The numbers of a variable's elements, of which the first stands at a byte of the variables, by the words of all.
use Rattle.std.specs.Prelude.{ℕ, ◌+◌, ◌*◌, ◌<◌, List, map, Option, Some, None, ℤ}
use Rattle.ido_base.specs.Words.{durable_value, word_of}
use Rattle.ido_ints.specs.Kinds.{bytes_of}
use Rattle.ido_ints.specs.declared.kinds.Kind.{Kind}
use Rattle.c_tree.specs.Programs.{Variable}
use Rattle.c_tree.specs.Ranges.{elements_of}
use Rattle.c_tree.specs.WellFormed.{elements_in}
use Rattle.c_ranges.specs.Laws.{IsNullOrReference}
use Rattle.variable_words.specs.Variables.{number_of_byte}

module _ (words : List ℕ) (kind : Kind) (first : ℕ) where
  abbrev pub number_there : (element : ℕ) → ℤ
  number_there element = number_of_byte durable_value (map word_of words) kind (first + bytes_of kind * element)

  -- each of so many is that of null, or of a reference to one of so many elements
  abbrev pub AreRight : (elements count : ℕ) → Type 0
  AreRight elements count = (element : ℕ) → element < count → IsNullOrReference elements (number_there element)

  -- the first of so many that isn't
  pub record IsFirstOutside (elements count element : ℕ) : Type 0 where
    pub within : element < count
    pub outside : ¬ (IsNullOrReference elements (number_there element))
    pub before : AreRight elements element

-- those of a variable that refers so
abbrev pub AreRightBy : List Variable → (words : List ℕ) → Variable → (first : ℕ) → (refers : Option ℕ) → Type 0
AreRightBy vs words v first None = Unit {0}
AreRightBy vs words v first (Some array) = AreRight words v.kind first (elements_of vs array) (elements_in v.length)

abbrev pub IsFirstWrongBy : List Variable → (words : List ℕ) → Variable → (first : ℕ) → (refers : Option ℕ) → (element : ℕ) → Type 0
IsFirstWrongBy vs words v first None element = ⊥
IsFirstWrongBy vs words v first (Some array) element = IsFirstOutside words v.kind first (elements_of vs array) (elements_in v.length) element

-- of a variable, by what it refers to
abbrev pub IsVariableRight : List Variable → (words : List ℕ) → Variable → (first : ℕ) → Type 0
IsVariableRight vs words v first = AreRightBy vs words v first v.refers

abbrev pub IsFirstWrongIn : List Variable → (words : List ℕ) → Variable → (first element : ℕ) → Type 0
IsFirstWrongIn vs words v first element = IsFirstWrongBy vs words v first v.refers element
