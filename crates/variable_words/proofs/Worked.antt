-- Worked rows: a `char` after a `short` in one word, and an array of three `int` across two words.
use Rattle.std.proofs.Common.{◌≡◌, ◌+◌, refl, List, [], ◌∷◌, None, Some}
use Rattle.std.specs.Prelude.{pos, negsuc, map}
use Rattle.log_schemes.specs.declared.log.Log.TheVariants.{V1}
use Rattle.ido_base.specs.Layout.{word_number}
use Rattle.ido_base.specs.Words as w
use Rattle.ido_base.specs.Words.{Word, word_of}
use Rattle.ido_ints.specs.declared.kinds.Kind.TheVariants as kind
use Rattle.ido_ints.specs.Reduction as reduction
use Rattle.c_tree.specs.Programs.{Variable, By}
use Rattle.recovery_semantics.specs.ElementHistories.{history_of}
use Rattle.recovery_semantics.specs.VariableSpots.{memory_in}
use Rattle.variable_words.specs.VariablesInWords.{spots_of}
use Rattle.variable_words.specs.Logs.{Point, Slot, log_address}

abbrev short : Variable
short = record { name = record { text = []; place = record { 0 = 0 } }; guard = By 0; kind = kind.Short; refers = None; length = None; initial = negsuc 1 ∷ [] }

abbrev char : Variable
char = record short { kind = kind.Char; initial = pos 7 ∷ [] }

abbrev array : Variable
array = record short { kind = kind.Int; length = Some 3; initial = pos 1 ∷ pos 258 ∷ negsuc 0 ∷ [] }

abbrev three : List Variable
three = short ∷ char ∷ array ∷ []

spots : spots_of three ≡ record { kind = kind.Short; start = 0; elements = 1 } ∷ record { kind = kind.Char; start = 2; elements = 1 } ∷
    record { kind = kind.Int; start = 4; elements = 3 } ∷ []
spots = refl

-- the two words that they begin with
abbrev words : List Word
words = word_of 0x0000_0001_0007_FFFE ∷ word_of 0xFFFF_FFFF_0000_0102 ∷ []

memory : memory_in (spots_of three) words ≡ map (map history_of) ((negsuc 1 ∷ []) ∷ (pos 7 ∷ []) ∷ (pos 1 ∷ pos 258 ∷ negsuc 0 ∷ []) ∷ [])
unfolding reduction.from_least_on
memory = refl

-- a store to the `char` appends to the history of each element in its word, and to none of the other word
store : memory_in (spots_of three) (w.stored words 2 1 9) ≡
    (record { values = negsuc 1 ∷ negsuc 1 ∷ []; durable = 0 } ∷ []) ∷ (record { values = pos 7 ∷ pos 9 ∷ []; durable = 0 } ∷ []) ∷
    (record { values = pos 1 ∷ pos 1 ∷ []; durable = 0 } ∷ history_of (pos 258) ∷ history_of (negsuc 0) ∷ []) ∷ []
unfolding reduction.from_least_on
store = refl

-- the point of the third thread's log, and the last slot of the first one's
third_point : word_number (log_address V1 2 Point) ≡ 8192 + 256
third_point = refl

last_slot : word_number (log_address V1 0 (Slot 1 31)) ≡ 8192 + 8 + 32 + 31
last_slot = refl
