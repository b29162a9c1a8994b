-- What a function that parses ensures.
use Rattle.std.specs.Prelude.{◌≡◌, List, Result, Ok, Err}
use Rattle.c_tree.specs.Tokens.{Token}
use Rattle.c_reader.specs.declared.halt.Halt.{Halt}
use Rattle.c_reader.specs.declared.halt.Halt.TheVariants as halt
use Rattle.c_reader.specs.links.ParserFunctions.{Parsed, Read, Wrong}

-- the parser's answer, with the tokens that are left; nothing where memory fails
abbrev pub Reads : {A B : Type 0} → (view : B → A) → Parsed A → Result B Halt → (left : List Token) → Type 0
Reads view answer (Ok x) left = answer ≡ Read (view x) left
Reads view answer (Err halt.Wrong) left = answer ≡ Wrong left
Reads view answer (Err halt.Memory) left = Unit {0}

-- the parser's answer, of what is its own view
abbrev pub Gives : {A : Type 0} → Parsed A → Result A Halt → (left : List Token) → Type 0
Gives answer result left = Reads (λ x. x) answer result left
