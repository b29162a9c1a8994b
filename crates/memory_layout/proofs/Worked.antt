-- Worked rows of the definitions.
use Rattle.std.proofs.Common.{◌≡◌, ℕ, List, [], ◌∷◌, refl, false}
use Rattle.std.specs.Prelude.{filter, ℤ, pos, negsuc}
use Rattle.ido_base.specs.declared.location.Shape.{Shape}
use Rattle.ido_base.specs.Layout.{aligned_up, end_from}
use Rattle.memory_layout.specs.declared.roles.TheConstants.{LOCALS, TEMPORARIES}
use Rattle.memory_layout.specs.Roles.{is_temporary, is_local, is_kept}
use Rattle.memory_layout.specs.Variables.{are_sizes, elements_of, offset_of}
use Rattle.memory_layout.specs.links.Bytes.{numbers_bytes, variable_bytes, bytes_from}

-- x0 to x31
registers : List ℕ
registers = 0 ∷ 1 ∷ 2 ∷ 3 ∷ 4 ∷ 5 ∷ 6 ∷ 7 ∷ 8 ∷ 9 ∷ 10 ∷ 11 ∷ 12 ∷ 13 ∷ 14 ∷ 15 ∷ 16 ∷ 17 ∷ 18 ∷ 19 ∷ 20 ∷ 21 ∷ 22 ∷ 23 ∷ 24 ∷ 25 ∷ 26 ∷ 27 ∷ 28 ∷
    29 ∷ 30 ∷ 31 ∷ []

locals : filter is_local registers ≡ 8 ∷ 9 ∷ 11 ∷ 12 ∷ 13 ∷ 14 ∷ 15 ∷ 16 ∷ 18 ∷ 19 ∷ 20 ∷ 21 ∷ 22 ∷ 23 ∷ 24 ∷ 25 ∷ 26 ∷ 27 ∷ []
unfolding registers
locals = refl

temporaries : filter is_temporary registers ≡ 5 ∷ 6 ∷ 7 ∷ 30 ∷ 31 ∷ []
unfolding registers
temporaries = refl

listed_locals : filter is_local registers ≡ LOCALS
unfolding registers
listed_locals = refl

listed_temporaries : filter is_temporary registers ≡ TEMPORARIES
unfolding registers
listed_temporaries = refl

kept : filter is_kept (10 ∷ 27 ∷ 28 ∷ 29 ∷ 30 ∷ []) ≡ 27 ∷ 28 ∷ 29 ∷ []
kept = refl

three_bytes : are_sizes (record { bytes = 3; length = 1 } ∷ []) ≡ false
three_bytes = refl

second_elements : elements_of (record { bytes = 1; length = 3 } ∷ record { bytes = 8; length = 5 } ∷ []) 1 ≡ 5
second_elements = refl

-- ---- One byte after two in one word, and three times four across two words

abbrev two : Shape
two = record { bytes = 2; length = 1 }

abbrev one : Shape
one = record { bytes = 1; length = 1 }

abbrev array : Shape
array = record { bytes = 4; length = 3 }

abbrev three : List Shape
three = two ∷ one ∷ array ∷ []

abbrev numbers : List (List ℤ)
numbers = (negsuc 1 ∷ []) ∷ (pos 7 ∷ []) ∷ (pos 1 ∷ pos 258 ∷ negsuc 0 ∷ []) ∷ []

one_after_two : offset_of three 1 0 ≡ 2
one_after_two = refl

array_aligned : offset_of three 2 0 ≡ 4
array_aligned = refl

last_in_second_word : offset_of three 2 2 ≡ 12
last_in_second_word = refl

whole_words : aligned_up (end_from 0 (two ∷ one ∷ [])) 8 ≡ 8
whole_words = refl

all_bytes : bytes_from 0 three numbers ≡ 254 ∷ 255 ∷ 7 ∷ 0 ∷ 1 ∷ 0 ∷ 0 ∷ 0 ∷ 2 ∷ 1 ∷ 0 ∷ 0 ∷ 255 ∷ 255 ∷ 255 ∷ 255 ∷ []
unfolding numbers_bytes variable_bytes bytes_from
all_bytes = refl
