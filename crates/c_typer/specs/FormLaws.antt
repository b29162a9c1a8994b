-- A text whose names and kinds keep the rules is a well formed program.
use Rattle.std.specs.Prelude.{ℕ, List}
use Rattle.c_tree.specs.declared.language.Language.{Language}
use Rattle.c_tree.specs.declared.language.Language.TheVariants.{Plain}
use Rattle.c_tree.specs.AcceptedTexts.{IsTyped}
use Rattle.c_tree.specs.Programs as p
use Rattle.c_tree.specs.WellFormed.{ArePlain, IsProgram}

-- names and numbers, kinds, counts and limits are right, and each reference is to its array; whether indexes and keys fit is asked after it, and whether a
-- reference that is followed may be null
abbrev pub TypedIsFormed : Type 0
TypedIsFormed = (l : Language) (text : List ℕ) (x : p.Program) → IsTyped l text x → IsProgram x

-- of the plain language: no mutex is in an array, and there are no more than a mask has bits
abbrev pub TypedIsPlain : Type 0
TypedIsPlain = (text : List ℕ) (x : p.Program) → IsTyped Plain text x → ArePlain x.mutexes
