-- The prefixes and tokens of a text that the types of `prefix` and `scanner` represent.
use Rattle.std.specs.Prelude.{ℕ, List, length, find, nat_eq, Option}
use Rattle.std.specs.List.{starts_with}
use Rattle.std.specs.Option.{option_map}
use Rattle.c_tree.specs.declared.token.Keyword.{Keyword}
use Rattle.c_tree.specs.declared.token.Punctuator.{Punctuator}
use Rattle.c_tree.specs.Refusals.{fault_of}
use Rattle.c_tree.specs.LexicalScan as s
use Rattle.c_reader.specs.declared.prefix.Prefix.{Prefix}
use Rattle.c_reader.specs.declared.prefix.Prefix.TheVariants.{Blank, Lexed, Broken, End}
use Rattle.c_reader.specs.declared.scanner.Scanned.{Scanned}
use Rattle.c_reader.specs.links.Tokens.{lexeme_of, tokens_of}

abbrev pub prefix_of : Prefix → s.Prefix
prefix_of (Blank bytes) = s.Blank bytes
prefix_of (Lexed lexeme bytes) = s.Lexed (lexeme_of lexeme) bytes
prefix_of (Broken rule) = s.Broken rule
prefix_of End = s.End

abbrev pub scanned_of : Scanned → s.Scanned
scanned_of x = record { tokens = tokens_of x.tokens.items; fault = option_map fault_of x.fault }

-- the reserved word that the bytes are, of those listed
abbrev pub keyword_in : List (List ℕ × Keyword) → (word : List ℕ) → Option Keyword
keyword_in entries word = option_map (λ e. e.1) (find (λ e. s.same e.0 word) entries)

-- the first punctuator of those listed that stands at the front of a text, and how many bytes it has
abbrev pub punctuator_in : List (List ℕ × Punctuator) → (text : List ℕ) → Option (Punctuator × ℕ)
punctuator_in entries text = option_map (λ e. (e.1, length e.0)) (find (λ e. starts_with nat_eq text e.0) entries)
