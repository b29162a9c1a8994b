-- Worked rows: tokens of references and their trees, and that a plain program has none.
use Rattle.std.proofs.Common.{◌≡◌, ℕ, [], ◌∷◌, refl}
use Rattle.std.specs.Prelude.{codes}
use Rattle.ido_ints.specs.declared.operators.Binary.TheVariants as b
use Rattle.c_tree.specs.declared.language.Language.TheVariants.{Plain, Full}
use Rattle.c_tree.specs.declared.rule.Rule as r
use Rattle.c_tree.specs.declared.rule.Rule.TheVariants as rule
use Rattle.c_tree.specs.declared.token.Keyword.TheVariants as k
use Rattle.c_tree.specs.declared.token.Punctuator.TheVariants as mark
use Rattle.c_tree.specs.Tokens.{Token, Lexeme, Name, Keyword, Punctuator}
use Rattle.c_tree.specs.LexicalScan.{Fault, prefix, plain_scanned, scanned}
use Rattle.c_tree.specs.Grammar.{expression, target, type_name}
use Rattle.c_tree.specs.Trees as t
use Rattle.c_tree.specs.TypeRules.{type_faults}
use Rattle.c_tree.proofs.Samples.{at, name, through, ref_to, references, null_followed}

-- ---- Tokens and trees

abbrev token : ℕ → Lexeme → Token
token place lexeme = record { place = at place; lexeme = lexeme }

abbrev star : ℕ → Token
star place = token place (Punctuator mark.Star)

abbrev named : ℕ → Token
named place = token place (Name (codes "p"))

tokens : (scanned Full (codes "ref null *p")).tokens ≡ token 0 (Keyword k.Ref) ∷ token 4 (Keyword k.Null) ∷ star 9 ∷ named 10 ∷ []
unfolding scanned plain_scanned prefix
tokens = refl

more_tokens : (scanned Full (codes "&& *= & refs")).tokens ≡
    token 0 (Punctuator (mark.Binary b.LogicalAnd)) ∷ token 3 (Punctuator (mark.Update b.Mul)) ∷ token 6 (Punctuator mark.Ampersand) ∷
    token 8 (Name (codes "refs")) ∷ []
unfolding scanned plain_scanned prefix
more_tokens = refl

-- in the plain language the words are names
plain_tokens : (scanned Plain (codes "ref *")).tokens ≡ token 0 (Name (codes "ref")) ∷ token 4 (Punctuator (mark.Binary b.Mul)) ∷ []
unfolding scanned plain_scanned prefix
plain_tokens = refl

-- `*p`
is_referent : expression (t.Referent (at 9) (name (codes "p") 10)) (star 9 ∷ named 10 ∷ [])
is_referent = (star 9 ∷ [], _, refl, refl, refl)

is_target : target (through 9 (name (codes "p") 10)) (star 9 ∷ named 10 ∷ [])
is_target = (star 9 ∷ [], _, refl, refl, refl)

-- `ref(a)`
is_type : type_name (ref_to (codes "a") 4) (token 0 (Keyword k.Ref) ∷ token 3 (Punctuator mark.OpenParenthesis) ∷ token 4 (Name (codes "a")) ∷
    token 5 (Punctuator mark.CloseParenthesis) ∷ [])
is_type = (
  token 0 (Keyword k.Ref) ∷ [],
  _,
  refl,
  (at 0, refl),
  (token 3 (Punctuator mark.OpenParenthesis) ∷ [], _, refl, (at 3, refl), (token 4 (Name (codes "a")) ∷ [], _, refl, refl, (at 5, refl))),
)

-- `null`
is_null : expression (t.Null (at 5)) (token 5 (Keyword k.Null) ∷ [])
is_null = refl

-- ---- Rules

abbrev at_rule : r.Rule → ℕ → Fault
at_rule found place = record { rule = found; place = at place }

-- a plain program has none: the array of each type, `&`, `null` and `*` are told
refused : type_faults Plain references ≡
    at_rule rule.WrongSort 71 ∷ at_rule rule.WrongSort 108 ∷ at_rule rule.WrongSort 101 ∷ at_rule rule.WrongSort 124 ∷ at_rule rule.WrongSort 132 ∷
    at_rule rule.WrongSort 137 ∷ []
unfolding type_faults
refused = refl

null_refused : type_faults Plain null_followed ≡ at_rule rule.WrongSort 56 ∷ at_rule rule.WrongSort 49 ∷ at_rule rule.WrongSort 71 ∷ []
unfolding type_faults
null_refused = refl

allowed : type_faults Full references ≡ []
unfolding type_faults
allowed = refl

null_allowed : type_faults Full null_followed ≡ []
unfolding type_faults
null_allowed = refl
