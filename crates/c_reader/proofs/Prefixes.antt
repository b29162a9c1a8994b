-- Words, numbers and punctuators at the front of a text.
use Rattle.std.proofs.Common.{◌≡◌, ℕ, ◌<◌, ◌≤◌, Option, Some, None, List, [], ◌∷◌, length, take, get_or, refl, ap, sym, ◌∙◌, arith}
use Rattle.std.specs.Prelude.{find, nat_eq}
use Rattle.std.specs.List.{prefix_len, starts_with}
use Rattle.std.specs.Option.{option_map}
use Rattle.std.proofs.lemmas.List.Folds.{length-prefix_len}
use Rattle.std.proofs.lemmas.Option.{some_pair_parts}
use Rattle.c_tree.specs.declared.token.Keyword as kw
use Rattle.c_tree.specs.declared.token.Punctuator as pn
use Rattle.c_tree.specs.declared.rule.Rule.TheVariants as rule
use Rattle.c_reader.specs.links.Prefixes.{keyword_in, punctuator_in}
use Rattle.c_tree.specs.Tokens.{Lexeme, Name, Keyword, Punctuator}
use Rattle.c_tree.specs.LexicalScan.{Prefix, Lexed, Broken, End, prefix, prefix_from, is_word_byte, same, reserved, word_lexeme}
use Rattle.c_tree.specs.LexicalScan.{word_prefix, punctuators, punctuator_prefix}

-- ---- Words

abbrev lexeme_by : List ℕ → Option (List ℕ × kw.Keyword) → Lexeme
lexeme_by word o = elim o [ Some entry ↦ Keyword entry.1 | None ↦ Name word ]

pub by_keyword : (word : List ℕ) (o : Option (List ℕ × kw.Keyword)) (k : kw.Keyword) → option_map (λ e. e.1) o ≡ Some k → lexeme_by word o ≡ Keyword k
by_keyword word (Some entry) k e = let same : entry.1 ≡ k = cc in ap Keyword same
by_keyword word None k e = cc

pub by_name : (word : List ℕ) (o : Option (List ℕ × kw.Keyword)) → option_map (λ e. e.1) o ≡ None → lexeme_by word o ≡ Name word
by_name word (Some entry) e = cc
by_name word None e = refl

word_prefix_is : (text : List ℕ) (n : ℕ) (l : Lexeme) → n ≡ prefix_len is_word_byte text → word_lexeme (take n text) ≡ l → Lexed l n ≡ word_prefix text
word_prefix_is text n l e h =
    ap (λ x. Lexed x n) (sym h ∙ ap (λ k. word_lexeme (take k text)) e)
    ∙ ap (Lexed (word_lexeme (take (prefix_len is_word_byte text) text))) (e ∙ sym (length-prefix_len is_word_byte text))

pub word_prefix-Keyword : (text : List ℕ) (n : ℕ) (k : kw.Keyword) → n ≡ prefix_len is_word_byte text → keyword_in reserved (take n text) ≡ Some k
    → Lexed (Keyword k) n ≡ word_prefix text
word_prefix-Keyword text n k e h =
    word_prefix_is text n (Keyword k) e (by_keyword (take n text) (find (λ e. same e.0 (take n text)) reserved) k h)

pub word_prefix-Name : (text : List ℕ) (n : ℕ) → n ≡ prefix_len is_word_byte text → keyword_in reserved (take n text) ≡ None
    → Lexed (Name (take n text)) n ≡ word_prefix text
word_prefix-Name text n e h =
    word_prefix_is text n (Name (take n text)) e (by_name (take n text) (find (λ e. same e.0 (take n text)) reserved) h)

-- ---- Punctuators

abbrev punctuator_by : Option (List ℕ × pn.Punctuator) → Prefix
punctuator_by o = elim o [ Some entry ↦ Lexed (Punctuator entry.1) (length entry.0) | None ↦ Broken rule.Byte ]

-- a punctuator and how many bytes it has
abbrev pair : pn.Punctuator → ℕ → Option (pn.Punctuator × ℕ)
pair x n = Some (x, n)

by_punctuator : (o : Option (List ℕ × pn.Punctuator)) (x : pn.Punctuator) (n : ℕ) → pair x n ≡ option_map (λ e. (e.1, length e.0)) o
    → Lexed (Punctuator x) n ≡ punctuator_by o
by_punctuator (Some entry) x n e =
    let both = some_pair_parts x entry.1 n (length entry.0) e in
    ap (λ y. Lexed (Punctuator y) n) both.0 ∙ ap (Lexed (Punctuator entry.1)) both.1
by_punctuator None x n e = cc

pub punctuator_prefix-Punctuator : (text : List ℕ) (x : pn.Punctuator) (n : ℕ) → pair x n ≡ punctuator_in punctuators text
    → Lexed (Punctuator x) n ≡ punctuator_prefix text
punctuator_prefix-Punctuator text x n e = by_punctuator (find (λ e. starts_with nat_eq text e.0) punctuators) x n e

-- ---- By the first byte

pub prefix-none : (text : List ℕ) → length text < 1 → End ≡ prefix text
unfolding prefix
prefix-none [] short = refl
prefix-none (c ∷ cs) short = absurd (omega arith)

pub prefix-some : (text : List ℕ) → 1 ≤ length text → prefix_from (get_or text 0 0) text ≡ prefix text
unfolding prefix
prefix-some [] long = absurd (omega arith)
prefix-some (c ∷ cs) long = refl
