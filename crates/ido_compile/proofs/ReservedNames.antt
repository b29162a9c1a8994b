-- In a text of the full language neither of the two words that it alone reserves stands where a name is declared.
use Rattle.std.proofs.Common.{◌≡◌, refl, sym, ◌∙◌, ap, subst, ℕ, zero, suc, ◌+◌, ◌≤◌, List, [], ◌∷◌, ◌++◌, Option, Some, None, Bool, true, false, ◌&&◌}
use Rattle.std.proofs.Common.{arith, ⊎_elim, true≢false, le_of_suc-le-suc}
use Rattle.std.specs.Prelude.{Contains}
use Rattle.std.specs.List.{AllByRecursion}
use Rattle.ido_base.specs.declared.place.Place.{Place}
use Rattle.ido_ints.specs.TypedNumbers.{Typed}
use Rattle.ido_ints.specs.declared.kinds.Kind.{Kind}
use Rattle.ido_ints.specs.declared.kinds.Kind.TheVariants as kind
use Rattle.ido_ints.specs.declared.operators.Binary.{Binary}
use Rattle.ido_ints.specs.declared.operators.Binary.TheVariants as binary
use Rattle.c_tree.specs.Tokens.{Token, Lexeme, Name, Keyword, Number, Punctuator}
use Rattle.c_tree.specs.declared.token.Keyword as kw
use Rattle.c_tree.specs.declared.token.Keyword.TheVariants as k
use Rattle.c_tree.specs.declared.token.Punctuator as pn
use Rattle.c_tree.specs.declared.token.Punctuator.TheVariants as p
use Rattle.c_tree.specs.declared.language.Language.TheVariants.{Full}
use Rattle.c_tree.specs.Trees as t
use Rattle.c_tree.specs.Languages.{empty, never, provided, ◌⋅◌, ◌or◌, starting_at, word, word_at, mark, mark_at}
use Rattle.c_tree.specs.Languages.{lexeme_at, number, number_at, name, words, all_of, more_of, some_of, list_of, maybe}
use Rattle.c_tree.specs.Grammar as g
use Rattle.c_tree.specs.Grammar.{expression, expression_from, highest_precedence, operator, precedence, spellings, type, type_name, unary_mark}

-- ---- Words that open a declaration

-- a name is declared after it
abbrev pub opens_word : kw.Keyword → Bool
opens_word k.Mutex = true
opens_word k.Thread = true
opens_word k.Void = true
opens_word k.Char = true
opens_word k.Short = true
opens_word k.Int = true
opens_word k.Long = true
opens_word k.Signed = true
opens_word k.Unsigned = true
opens_word _ = false

abbrev pub opens : Lexeme → Bool
opens (Name bytes) = false
opens (Keyword x) = opens_word x
opens (Number value) = false
opens (Punctuator x) = false

-- only the full language reserves it
abbrev pub is_new_word : kw.Keyword → Bool
is_new_word k.Ref = true
is_new_word k.Null = true
is_new_word _ = false

abbrev pub is_new : Lexeme → Bool
is_new (Name bytes) = false
is_new (Keyword x) = is_new_word x
is_new (Number value) = false
is_new (Punctuator x) = false

not_new : (x : kw.Keyword) → opens_word x ≡ true → is_new_word x ≡ false
not_new k.Ref h = absurd (true≢false (sym h))
not_new k.Null h = absurd (true≢false (sym h))
not_new _ h = refl

-- no such word stands after one that opens a declaration
abbrev pub Apart : (opened : Bool) → List Token → Type 0
Apart o [] = Unit {0}
Apart o (x ∷ xs) = ((o && is_new x.lexeme) ≡ false) × Apart (opens x.lexeme) xs

-- whether the last word opens a declaration
abbrev pub opened : (before : Bool) → List Token → Bool
opened o [] = o
opened o (x ∷ xs) = opened (opens x.lexeme) xs

apart_both : (o : Bool) (us vs : List Token) → Apart o us → Apart (opened o us) vs → Apart o (us ++ vs)
apart_both o [] vs h q = q
apart_both o (u ∷ us) vs h q = (h.0, apart_both (opens u.lexeme) us vs h.1 q)

opened_both : (o : Bool) (us vs : List Token) → opened o (us ++ vs) ≡ opened (opened o us) vs
opened_both o [] vs = refl
opened_both o (u ∷ us) vs = opened_both (opens u.lexeme) us vs

pub apart_first : (o : Bool) (us vs : List Token) → Apart o (us ++ vs) → Apart o us
apart_first o [] vs h = tt
apart_first o (u ∷ us) vs h = (h.0, apart_first (opens u.lexeme) us vs h.1)

pub apart_last : (o : Bool) (us vs : List Token) → Apart o (us ++ vs) → Apart (opened o us) vs
apart_last o [] vs h = h
apart_last o (u ∷ us) vs h = apart_last (opens u.lexeme) us vs h.1

-- ---- Parts of a text: what ends closed, may stand after any word, or is apart and may end open

abbrev pub IsClosed : List Token → Type 0
IsClosed ts = Apart false ts × (opened false ts ≡ false)

abbrev IsFirm : List Token → Type 0
IsFirm ts = (o : Bool) → Apart o ts × (opened o ts ≡ false)

pub record Closed (P : List Token → Type 0) : Type 0 where
  pub by : (ts : List Token) → P ts → IsClosed ts

record Firm (P : List Token → Type 0) : Type 0 where
  by : (ts : List Token) → P ts → IsFirm ts

record Open (P : List Token → Type 0) : Type 0 where
  by : (ts : List Token) → P ts → Apart false ts

closed_both : (ts us vs : List Token) → ts ≡ us ++ vs → IsClosed us → IsClosed vs → IsClosed ts
closed_both ts us vs e h q = subst IsClosed (sym e) (
  apart_both false us vs h.0 (subst (λ (o : Bool). Apart o vs) (sym h.1) q.0),
  opened_both false us vs ∙ (ap (λ (o : Bool). opened o vs) h.1 ∙ q.1),
)

firm_both : (ts us vs : List Token) → ts ≡ us ++ vs → IsFirm us → IsClosed vs → IsFirm ts
firm_both ts us vs e h q = subst IsFirm (sym e) (λ o. (
  apart_both o us vs (h o).0 (subst (λ (b : Bool). Apart b vs) (sym (h o).1) q.0),
  opened_both o us vs ∙ (ap (λ (b : Bool). opened b vs) (h o).1 ∙ q.1),
))

open_both : (ts us vs : List Token) → ts ≡ us ++ vs → Apart false us → IsFirm vs → IsClosed ts
open_both ts us vs e h q = subst IsClosed (sym e) (
  apart_both false us vs h (q (opened false us)).0,
  opened_both false us vs ∙ (q (opened false us)).1,
)

closed_seq : {P Q : List Token → Type 0} → Closed P → Closed Q → Closed (P ⋅ Q)
closed_seq h q = record { by = λ ts d. closed_both ts d.0 d.1 d.2 (h.by d.0 d.3) (q.by d.1 d.4) }

firm_seq : {P Q : List Token → Type 0} → Firm P → Closed Q → Firm (P ⋅ Q)
firm_seq h q = record { by = λ ts d. firm_both ts d.0 d.1 d.2 (h.by d.0 d.3) (q.by d.1 d.4) }

open_seq : {P Q : List Token → Type 0} → Open P → Firm Q → Closed (P ⋅ Q)
open_seq h q = record { by = λ ts d. open_both ts d.0 d.1 d.2 (h.by d.0 d.3) (q.by d.1 d.4) }

closed : {P : List Token → Type 0} → Firm P → Closed P
closed h = record { by = λ ts d. h.by ts d false }

half : {P : List Token → Type 0} → Closed P → Open P
half h = record { by = λ ts d. (h.by ts d).0 }

closed_or : {P Q : List Token → Type 0} → Closed P → Closed Q → Closed (P or Q)
closed_or h q = record { by = λ ts d. ⊎_elim (λ e. h.by ts e) (λ e. q.by ts e) d }

closed_provided : (A : Type 0) {P : List Token → Type 0} → Closed P → Closed (provided A P)
closed_provided A h = record { by = λ ts d. h.by ts d.1 }

closed_starting : (place : Place) {P : List Token → Type 0} → Closed P → Closed (starting_at place P)
closed_starting place h = record { by = λ ts d. h.by ts d.1 }

closed_never : Closed never
closed_never = record { by = λ ts d. absurd d }

closed_empty : Closed empty
closed_empty = record { by = λ ts e. subst IsClosed (sym e) (tt, refl) }

closed_maybe : {A : Type 0} {P : A → List Token → Type 0} → ((x : A) → Closed (P x)) → (o : Option A) → Closed (maybe P o)
closed_maybe h None = closed_empty
closed_maybe h (Some x) = h x

closed_all : {A : Type 0} {P : A → List Token → Type 0} → ((x : A) → Closed (P x)) → (xs : List A) → Closed (all_of P xs)
closed_all h [] = closed_empty
closed_all h (x ∷ xs) = closed_seq (h x) (closed_all h xs)

-- ---- Single tokens

and_false : (a b : Bool) → b ≡ false → (a && b) ≡ false
and_false true b h = h
and_false false b h = refl

firm_lexeme : (place : Place) (x : Lexeme) → is_new x ≡ false → opens x ≡ false → (ts : List Token) → lexeme_at place x ts → IsFirm ts
firm_lexeme place x old shut ts e = subst IsFirm (sym e) (λ o. ((and_false o (is_new x) old, tt), shut))

firm_mark_at : (place : Place) (x : pn.Punctuator) → Firm (mark_at place x)
firm_mark_at place x = record { by = λ ts e. firm_lexeme place (Punctuator x) refl refl ts e }

firm_mark : (x : pn.Punctuator) → Firm (mark x)
firm_mark x = record { by = λ ts d. firm_lexeme d.0 (Punctuator x) refl refl ts d.1 }

firm_name : (x : t.Name) → Firm (name x)
firm_name x = record { by = λ ts e. firm_lexeme x.place (Name x.text) refl refl ts e }

mark_closed : (x : pn.Punctuator) → Closed (mark x)
mark_closed x = closed (firm_mark x)

mark_at_closed : (place : Place) (x : pn.Punctuator) → Closed (mark_at place x)
mark_at_closed place x = closed (firm_mark_at place x)

name_closed : (x : t.Name) → Closed (name x)
name_closed x = closed (firm_name x)

number_at_closed : (place : Place) (value : Typed) → Closed (number_at place value)
number_at_closed place value = record { by = λ ts e. firm_lexeme place (Number value) refl refl ts e false }

number_closed : (value : Typed) → Closed (number value)
number_closed value = record { by = λ ts d. firm_lexeme d.0 (Number value) refl refl ts d.1 false }

word_open : (x : kw.Keyword) → Open (word x)
word_open x = record { by = λ ts d. subst (Apart false) (sym d.1) (refl, tt) }

-- a word that opens no declaration
word_closed : (x : kw.Keyword) → opens_word x ≡ false → Closed (word x)
word_closed x shut = record { by = λ ts d. subst IsClosed (sym d.1) ((refl, tt), shut) }

word_at_closed : (place : Place) (x : kw.Keyword) → opens_word x ≡ false → Closed (word_at place x)
word_at_closed place x shut = record { by = λ ts e. subst IsClosed (sym e) ((refl, tt), shut) }

-- ---- Kinds

-- one word at least, and each opens a declaration
abbrev AreOpening : List kw.Keyword → Type 0
AreOpening ks = AllByRecursion (λ (x : kw.Keyword). opens_word x ≡ true) ks

abbrev Opening : List kw.Keyword → Type 0
Opening [] = ⊥
Opening (x ∷ xs) = (opens_word x ≡ true) × AreOpening xs

kinds_open : (x : Kind) → AllByRecursion Opening (spellings x)
kinds_open kind.Char = ((refl, tt), tt)
kinds_open kind.UnsignedChar = ((refl, (refl, tt)), tt)
kinds_open kind.SignedChar = ((refl, (refl, tt)), tt)
kinds_open kind.Short = ((refl, tt), ((refl, (refl, tt)), ((refl, (refl, tt)), ((refl, (refl, (refl, tt))), tt))))
kinds_open kind.UnsignedShort = ((refl, (refl, tt)), ((refl, (refl, (refl, tt))), tt))
kinds_open kind.Int = ((refl, tt), ((refl, tt), ((refl, (refl, tt)), tt)))
kinds_open kind.UnsignedInt = ((refl, tt), ((refl, (refl, tt)), tt))
kinds_open kind.Long = ((refl, tt), ((refl, (refl, tt)), ((refl, (refl, tt)), ((refl, (refl, (refl, tt))), tt))))
kinds_open kind.UnsignedLong = ((refl, (refl, tt)), ((refl, (refl, (refl, tt))), tt))

within : {A : Type 0} (P : A → Type 0) (xs : List A) (x : A) → AllByRecursion P xs → Contains xs x → P x
within P [] x h (n, low, e) = absurd (omega (arith, low))
within P (y ∷ ys) x h (zero, low, e) = subst P e h.0
within P (y ∷ ys) x h (suc n, low, e) = within P ys x h.1 (n, le_of_suc-le-suc low, e)

abbrev first_or : {A : Type 0} → A → List A → A
first_or d [] = d
first_or d (x ∷ xs) = x

abbrev rest_of : {A : Type 0} → List A → List A
rest_of [] = []
rest_of (x ∷ xs) = xs

pub first_word : (x : kw.Keyword) (xs : List kw.Keyword) (u : Token) (us : List Token) → words (x ∷ xs) (u ∷ us) → u.lexeme ≡ Keyword x
first_word x xs u us e = ap (first_or u.lexeme) e

pub other_words : (x : kw.Keyword) (xs : List kw.Keyword) (u : Token) (us : List Token) → words (x ∷ xs) (u ∷ us) → words xs us
other_words x xs u us e = ap rest_of e

words_apart : (ks : List kw.Keyword) (ts : List Token) → AreOpening ks → words ks ts → (o : Bool) → Apart o ts
words_apart [] [] h e o = tt
words_apart [] (u ∷ us) h e o = absurd (cc)
words_apart (x ∷ xs) [] h e o = absurd (cc)
words_apart (x ∷ xs) (u ∷ us) h e o =
    let old : is_new u.lexeme ≡ false = subst (λ (l : Lexeme). is_new l ≡ false) (sym (first_word x xs u us e)) (not_new x h.0) in
    (and_false o (is_new u.lexeme) old, words_apart xs us h.1 (other_words x xs u us e) (opens u.lexeme))

words_opened : (ks : List kw.Keyword) (ts : List Token) → AreOpening ks → words ks ts → (o : Bool) → o ≡ true → opened o ts ≡ true
words_opened [] [] h e o is = is
words_opened [] (u ∷ us) h e o is = absurd (cc)
words_opened (x ∷ xs) [] h e o is = absurd (cc)
words_opened (x ∷ xs) (u ∷ us) h e o is =
    words_opened xs us h.1 (other_words x xs u us e) (opens u.lexeme)
    (subst (λ (l : Lexeme). opens l ≡ true) (sym (first_word x xs u us e)) h.0)

opening_apart : (ks : List kw.Keyword) (ts : List Token) → Opening ks → words ks ts → (o : Bool) → Apart o ts
opening_apart [] ts h e o = absurd h
opening_apart (x ∷ xs) ts h e o = words_apart (x ∷ xs) ts h e o

opening_opened : (ks : List kw.Keyword) (ts : List Token) → Opening ks → words ks ts → (o : Bool) → opened o ts ≡ true
opening_opened [] ts h e o = absurd h
opening_opened (x ∷ xs) [] h e o = absurd (cc)
opening_opened (x ∷ xs) (u ∷ us) h e o =
    words_opened xs us h.1 (other_words x xs u us e) (opens u.lexeme)
    (subst (λ (l : Lexeme). opens l ≡ true) (sym (first_word x xs u us e)) h.0)

-- a kind opens a declaration
pub type_opened : (x : Kind) (ts : List Token) → type x ts → (o : Bool) → opened o ts ≡ true
type_opened x ts d o = opening_opened d.0 ts (within Opening (spellings x) d.0 (kinds_open x) d.1) d.2 o

type_open : (x : Kind) → Open (type x)
type_open x = record { by = λ ts d. opening_apart d.0 ts (within Opening (spellings x) d.0 (kinds_open x) d.1) d.2 false }

type_name_open : (x : t.TypeName) → Open (type_name x)
type_name_open (t.OfKind x) = type_open x
type_name_open (t.RefTo array) =
    half (closed_seq (word_closed k.Ref refl) (closed_seq (mark_closed p.OpenParenthesis) (closed_seq (name_closed array) (mark_closed p.CloseParenthesis))))

-- ---- Expressions, assignments, calls

operator_closed : (x : Binary) → Closed (operator x)
operator_closed binary.Mul = closed_or (mark_closed (p.Binary binary.Mul)) (mark_closed p.Star)
operator_closed binary.And = closed_or (mark_closed (p.Binary binary.And)) (mark_closed p.Ampersand)
operator_closed x = mark_closed (p.Binary x)

bracketed : {P : List Token → Type 0} → Closed P → Closed (mark p.OpenBracket ⋅ P ⋅ mark p.CloseBracket)
bracketed h = closed_seq (mark_closed p.OpenBracket) (closed_seq h (mark_closed p.CloseBracket))

expression_closed : (x : t.Expression) (n : ℕ) → Closed (expression_from x n)
expression_closed (t.Number place value) n = number_at_closed place value
expression_closed (t.Named x) n = name_closed x
expression_closed (t.Element array index) n = closed_seq (name_closed array) (bracketed (expression_closed index 0))
expression_closed (t.Null place) n = word_at_closed place k.Null refl
expression_closed (t.Address place array index) n =
    closed_seq (mark_at_closed place p.Ampersand) (closed_seq (name_closed array) (bracketed (expression_closed index 0)))
expression_closed (t.Referent place reference) n = closed_seq (mark_at_closed place p.Star) (name_closed reference)
expression_closed (t.Parenthesised place inner) n =
    closed_seq (mark_at_closed place p.OpenParenthesis) (closed_seq (expression_closed inner 0) (mark_closed p.CloseParenthesis))
expression_closed (t.Unary place x operand) n = closed_seq (mark_at_closed place (unary_mark x)) (expression_closed operand highest_precedence)
expression_closed (t.Cast place x operand) n =
    closed_seq (mark_at_closed place p.OpenParenthesis)
    (open_seq (type_open x) (firm_seq (firm_mark p.CloseParenthesis) (expression_closed operand highest_precedence)))
expression_closed (t.Binary x left right) n =
    closed_provided (n ≤ precedence x)
    (closed_seq (expression_closed left (precedence x)) (closed_seq (operator_closed x) (expression_closed right (precedence x + 1))))
expression_closed (t.Conditional condition chosen otherwise) n =
    closed_provided (n ≡ 0) (closed_seq (expression_closed condition 1) (closed_seq (mark_closed p.Question)
    (closed_seq (expression_closed chosen 0) (closed_seq (mark_closed p.Colon) (expression_closed otherwise 0)))))

value_closed : (x : t.Expression) → Closed (expression x)
value_closed x = expression_closed x 0

more_closed : {A : Type 0} {P : A → List Token → Type 0} → ((x : A) → Closed (P x)) → (xs : List A) → Closed (more_of P xs)
more_closed {P = P} h xs = closed_all {P = λ x. mark p.Comma ⋅ P x} (λ x. closed_seq (mark_closed p.Comma) (h x)) xs

list_closed : {A : Type 0} {P : A → List Token → Type 0} → ((x : A) → Closed (P x)) → (xs : List A) → Closed (list_of P xs)
list_closed h [] = closed_empty
list_closed h (x ∷ xs) = closed_seq (h x) (more_closed h xs)

index_closed : (i : Option t.Expression) → Closed (g.index i)
index_closed None = closed_empty
index_closed (Some x) = bracketed (value_closed x)

target_closed : (x : t.Lvalue) → Closed (g.target x)
target_closed (t.Target x i) = closed_seq (name_closed x) (index_closed i)
target_closed (t.Followed place reference) = closed_seq (mark_at_closed place p.Star) (name_closed reference)

changed_closed : (x : t.Lvalue) (c : t.Change) → Closed (g.changed x c)
changed_closed x (t.Set value) = closed_seq (target_closed x) (closed_seq (mark_closed p.Assign) (value_closed value))
changed_closed x (t.Update operator value) = closed_seq (target_closed x) (closed_seq (mark_closed (p.Update operator)) (value_closed value))
changed_closed x t.Increment = closed_or (closed_seq (target_closed x) (mark_closed p.Increment)) (closed_seq (mark_closed p.Increment) (target_closed x))
changed_closed x t.Decrement = closed_or (closed_seq (target_closed x) (mark_closed p.Decrement)) (closed_seq (mark_closed p.Decrement) (target_closed x))

assignment_closed : (x : t.Assignment) → Closed (g.assignment x)
assignment_closed x = closed_starting x.place (changed_closed x.target x.change)

call_closed : (x : t.Call) → Closed (g.call x)
call_closed x =
    closed_seq (name_closed x.function)
    (closed_seq (mark_closed p.OpenParenthesis) (closed_seq (list_closed value_closed x.arguments) (mark_closed p.CloseParenthesis)))

-- ---- Statements

initial_closed : (x : t.Initial) → Closed (g.initial x)
initial_closed t.Absent = closed_empty
initial_closed (t.Value x) = closed_seq (mark_closed p.Assign) (value_closed x)
initial_closed (t.Result x) = closed_seq (mark_closed p.Assign) (call_closed x)

-- a type, a name that is declared, and what stands after it
declared_closed : (x : t.TypeName) (y : t.Name) {Q : List Token → Type 0} → Closed Q → Closed (type_name x ⋅ name y ⋅ Q)
declared_closed x y h = open_seq (type_name_open x) (firm_seq (firm_name y) h)

declaration_closed : (x : t.Declaration) → Closed (g.declaration x)
declaration_closed x = closed_starting x.place (declared_closed x.type_name x.name (initial_closed x.initial))

initial_of_first_closed : (x : t.Initial) → Closed (g.initial_of_first x)
initial_of_first_closed t.Absent = closed_empty
initial_of_first_closed (t.Value x) = closed_seq (mark_closed p.Assign) (value_closed x)
initial_of_first_closed (t.Result x) = closed_never

first_closed : (x : t.First) → Closed (g.first x)
first_closed t.NoFirst = closed_empty
first_closed (t.Declared x) = closed_starting x.place (declared_closed x.type_name x.name (initial_of_first_closed x.initial))
first_closed (t.Assigned x) = assignment_closed x

condition_closed : (x : t.Expression) → Closed (g.condition x)
condition_closed x = closed_seq (mark_closed p.OpenParenthesis) (closed_seq (value_closed x) (mark_closed p.CloseParenthesis))

key_closed : (x : Option t.Expression) → Closed (g.key Full x)
key_closed None = closed_empty
key_closed (Some x) = bracketed (value_closed x)

-- `lock` or `unlock`
lock_closed : (place : Place) (w : kw.Keyword) (mutex : t.Name) (x : Option t.Expression) → opens_word w ≡ false →
    Closed (word_at place w ⋅ mark p.OpenParenthesis ⋅ name mutex ⋅ g.key Full x ⋅ mark p.CloseParenthesis ⋅ mark p.Semicolon)
lock_closed place w mutex x shut =
    closed_seq (word_at_closed place w shut) (closed_seq (mark_closed p.OpenParenthesis)
    (closed_seq (name_closed mutex) (closed_seq (key_closed x) (closed_seq (mark_closed p.CloseParenthesis) (mark_closed p.Semicolon)))))

mutual
  statement_closed : (x : t.Statement) → Closed (g.statement Full x)
  statement_closed (t.BlockOf x) = block_closed x
  statement_closed (t.Empty place) = mark_at_closed place p.Semicolon
  statement_closed (t.Declare x) = closed_seq (declaration_closed x) (mark_closed p.Semicolon)
  statement_closed (t.Assign x) = closed_seq (assignment_closed x) (mark_closed p.Semicolon)
  statement_closed (t.AssignResult x c) =
      closed_seq (target_closed x) (closed_seq (mark_closed p.Assign) (closed_seq (call_closed c) (mark_closed p.Semicolon)))
  statement_closed (t.CallOnly c) = closed_seq (call_closed c) (mark_closed p.Semicolon)
  statement_closed (t.If place arms otherwise) = closed_seq (closed_starting place (arms_closed arms)) (otherwise_closed otherwise)
  statement_closed (t.While place x inside) = closed_seq (word_at_closed place k.While refl) (closed_seq (condition_closed x) (block_closed inside))
  statement_closed (t.Do place inside x) =
      closed_seq (word_at_closed place k.Do refl) (closed_seq (block_closed inside) (closed_seq (word_closed k.While refl)
      (closed_seq (condition_closed x) (mark_closed p.Semicolon))))
  statement_closed (t.For place start x last inside) =
      closed_seq (word_at_closed place k.For refl) (closed_seq (mark_closed p.OpenParenthesis)
      (closed_seq (first_closed start) (closed_seq (mark_closed p.Semicolon)
      (closed_seq (closed_maybe value_closed x) (closed_seq (mark_closed p.Semicolon)
      (closed_seq (closed_maybe assignment_closed last) (closed_seq (mark_closed p.CloseParenthesis) (block_closed inside))))))))
  statement_closed (t.Lock place mutex x) = lock_closed place k.Lock mutex x refl
  statement_closed (t.Unlock place mutex x) = lock_closed place k.Unlock mutex x refl

  block_closed : (x : t.Block) → Closed (g.block Full x)
  block_closed (t.Braced opening inside closing) =
      closed_seq (mark_at_closed opening p.OpenBrace) (closed_seq (statements_closed inside) (mark_at_closed closing p.CloseBrace))

  statements_closed : (xs : t.Statements) → Closed (g.statements Full xs)
  statements_closed t.no_statement = closed_empty
  statements_closed (t.statement_and x rest) = closed_seq (statement_closed x) (statements_closed rest)

  arms_closed : (xs : t.Arms) → Closed (g.arms_of Full xs)
  arms_closed t.no_arm = closed_never
  arms_closed (t.arm_and x inside rest) =
      closed_seq (word_closed k.If refl) (closed_seq (condition_closed x) (closed_seq (block_closed inside) (more_arms_closed rest)))

  more_arms_closed : (xs : t.Arms) → Closed (g.more_arms_of Full xs)
  more_arms_closed t.no_arm = closed_empty
  more_arms_closed (t.arm_and x inside rest) =
      closed_seq (word_closed k.Else refl) (closed_seq (word_closed k.If refl)
      (closed_seq (condition_closed x) (closed_seq (block_closed inside) (more_arms_closed rest))))

  otherwise_closed : (x : t.Otherwise) → Closed (g.otherwise_of Full x)
  otherwise_closed t.Nothing = closed_empty
  otherwise_closed (t.Else inside) = closed_seq (word_closed k.Else refl) (block_closed inside)

-- ---- Items

returned_closed : (x : t.Return) → Closed (g.returned x)
returned_closed x = closed_seq (word_at_closed x.place k.Return refl) (closed_seq (closed_maybe value_closed x.value) (mark_closed p.Semicolon))

parameter_closed : (x : t.Parameter) → Closed (g.parameter x)
parameter_closed x = open_seq (type_name_open x.type_name) (firm_name x.name)

parameters_open : (xs : List t.Parameter) → Open (g.parameters xs)
parameters_open [] = record { by = λ ts d. ⊎_elim (λ e. (closed_empty.by ts e).0) (λ e. (word_open k.Void).by ts e) d }
parameters_open (x ∷ xs) = half (closed_seq (parameter_closed x) (more_closed parameter_closed xs))

result_open : (x : Option t.TypeName) → Open (g.result x)
result_open None = word_open k.Void
result_open (Some x) = type_name_open x

sign_closed : (negative : Bool) → Closed (g.sign negative)
sign_closed true = mark_closed (p.Binary binary.Sub)
sign_closed false = closed_empty

signed_closed : (x : t.Signed) → Closed (g.signed x)
signed_closed x = closed_starting x.place (closed_seq (sign_closed x.negative) (number_closed x.value))

initialiser_closed : (x : t.Initialiser) → Closed (g.initialiser x)
initialiser_closed (t.Single x) = signed_closed x
initialiser_closed (t.InBraces place xs) =
    closed_seq (mark_at_closed place p.OpenBrace) (closed_seq (some_closed xs) (closed_seq (closed_or closed_empty (mark_closed p.Comma))
    (mark_closed p.CloseBrace)))
  where
    some_closed : (ys : List t.Signed) → Closed (some_of g.signed ys)
    some_closed [] = closed_never
    some_closed (y ∷ ys) = closed_seq (signed_closed y) (more_closed signed_closed ys)

length_closed : (x : t.Length) → Closed (g.length_of x)
length_closed x = bracketed (number_at_closed x.place x.value)

assigned_closed : (x : t.Initialiser) → Closed (g.assigned x)
assigned_closed x = closed_seq (mark_closed p.Assign) (initialiser_closed x)

brackets_closed : (each : Bool) → Closed (g.brackets Full each)
brackets_closed false = closed_empty
brackets_closed true = closed_seq (mark_closed p.OpenBracket) (mark_closed p.CloseBracket)

mutex_length_closed : (x : Option t.Length) → Closed (g.mutex_length Full x)
mutex_length_closed None = closed_empty
mutex_length_closed (Some x) = length_closed x

body_closed : (x : t.Body) → Closed (g.body Full x)
body_closed x =
    closed_seq (mark_at_closed x.opening p.OpenBrace) (closed_seq (statements_closed x.statements)
    (closed_seq (closed_maybe returned_closed x.returned) (mark_at_closed x.closing p.CloseBrace)))

item_closed : (x : t.Item) → Closed (g.item Full x)
item_closed (t.MutexItem x length) =
    open_seq (word_open k.Mutex) (firm_seq (firm_name x) (closed_seq (mutex_length_closed length) (mark_closed p.Semicolon)))
item_closed (t.PersistentItem x) =
    closed_seq (word_closed k.Persistent refl) (closed_seq (mark_closed p.OpenParenthesis) (closed_seq (name_closed x.guard.mutex)
    (closed_seq (brackets_closed x.guard.each) (closed_seq (mark_closed p.CloseParenthesis) (declared_closed x.type_name x.name
    (closed_seq (closed_maybe length_closed x.length) (closed_seq (closed_maybe assigned_closed x.initialiser) (mark_closed p.Semicolon))))))))
item_closed (t.ThreadItem x) = open_seq (word_open k.Thread) (firm_seq (firm_name x.name) (block_closed x.block))
item_closed (t.FunctionItem x) =
    open_seq (result_open x.type_name) (firm_seq (firm_name x.name) (closed_seq (mark_closed p.OpenParenthesis)
    (open_seq (parameters_open x.parameters) (firm_seq (firm_mark p.CloseParenthesis) (body_closed x.body)))))

pub program_closed : (xs : List t.Item) → Closed (g.program Full xs)
program_closed [] = closed_never
program_closed (x ∷ xs) = closed_seq (item_closed x) (closed_all item_closed xs)
