-- What the parser made of tokens, and what is refused after them.
use Rattle.std.specs.Prelude.{◌≡◌, ℕ, ◌+◌, ◌<◌, List, [], length, take, drop, slice_get, Option, Some, None, true, false}
use Rattle.std.specs.Option.{option_map}
use Rattle.c_tree.specs.LexicalScan.{Fault, Scanned}
use Rattle.c_tree.specs.TextReadings.{nests_high}
use Rattle.c_tree.specs.declared.rule.Rule.TheVariants as rule
use Rattle.c_tree.specs.declared.language.Language.{Language}
use Rattle.c_tree.specs.Tokens.{Token}
use Rattle.c_tree.specs.Views.{items_of}
use Rattle.c_reader.specs.declared.parser.Outcome.{Outcome}
use Rattle.c_reader.specs.declared.parser.Outcome.TheVariants as outcome
use Rattle.c_reader.specs.links.ParserFunctions.{Read, Wrong, parse_program}

-- the tokens are a whole program; the one at an index is wrong; they end too early
abbrev pub Parses : Language → List Token → Outcome → Type 0
Parses l ts (outcome.Whole tree) = parse_program l ts ≡ Read (items_of tree) []
Parses l ts (outcome.WrongAt index) = (index < length ts) × (parse_program l ts ≡ Wrong (drop index ts))
Parses l ts outcome.TooShort = parse_program l ts ≡ Wrong []

-- the first token that nests too high, where there is one
abbrev pub IsFirstHigh : List Token → Option ℕ → Type 0
IsFirstHigh ts None = nests_high ts ≡ false
IsFirstHigh ts (Some i) = (i < length ts) × (nests_high (take i ts) ≡ false) × (nests_high (take (i + 1) ts) ≡ true)

-- how many tokens are looked at: up to that one, and with it
abbrev pub reach : (high : Option ℕ) → (tokens : ℕ) → ℕ
reach None n = n
reach (Some i) n = i + 1

-- what is refused after them
abbrev pub after_of : Scanned → (high : Option ℕ) → Option Fault
after_of s None = s.fault
after_of s (Some i) = option_map (λ (t : Token). record { rule = rule.High; place = t.place }) (slice_get s.tokens i)

-- the tokens that are looked at are parsed as this
abbrev pub IsParsed : Language → Scanned → (high : Option ℕ) → Outcome → Type 0
IsParsed l s high outcome = Parses l (take (reach high (length s.tokens)) s.tokens) outcome
