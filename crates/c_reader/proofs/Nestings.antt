-- Nesting after tokens, one after another.
use Rattle.std.proofs.Common.{◌≡◌, ℕ, ◌+◌, ◌<◌, Bool, true, false, ◌||◌, List, [], ◌∷◌, ◌++◌, length, take, get_or, refl, ap, sym, ◌∙◌}
use Rattle.std.proofs.lemmas.List.{take_more, map-append}
use Rattle.c_tree.specs.Tokens as t
use Rattle.c_tree.specs.TextReadings.{Nesting, outside, within_lexeme, is_high, is_high_from, nests_high}
use Rattle.c_reader.specs.declared.token.Token.{Token}
use Rattle.c_reader.specs.links.Tokens.{lexeme_of, token_of, tokens_of}

-- the nesting after tokens
abbrev pub nesting_after : Nesting → List t.Token → Nesting
nesting_after n [] = n
nesting_after n (x ∷ xs) = nesting_after (within_lexeme x.lexeme n) xs

nesting_after-push : (n : Nesting) (xs : List t.Token) (x : t.Token) → nesting_after n (xs ++ x ∷ []) ≡ within_lexeme x.lexeme (nesting_after n xs)
nesting_after-push n [] x = refl
nesting_after-push n (y ∷ ys) x = nesting_after-push (within_lexeme y.lexeme n) ys x

or_false : (b : Bool) → (b || false) ≡ b
or_false true = refl
or_false false = refl

or_assoc : (a b c : Bool) → (a || (b || c)) ≡ ((a || b) || c)
or_assoc true b c = refl
or_assoc false b c = refl

is_high_from-push : (n : Nesting) (xs : List t.Token) (x : t.Token)
    → is_high_from n (xs ++ x ∷ []) ≡ (is_high_from n xs || is_high (within_lexeme x.lexeme (nesting_after n xs)))
is_high_from-push n [] x = or_false (is_high (within_lexeme x.lexeme n))
is_high_from-push n (y ∷ ys) x =
    let m : Nesting = within_lexeme y.lexeme n in
    ap (λ b. is_high m || b) (is_high_from-push m ys x) ∙ or_assoc (is_high m) (is_high_from m ys) (is_high (within_lexeme x.lexeme (nesting_after m ys)))

more : (xs : List Token) (i : ℕ) (d : Token) → i < length xs → tokens_of (take (i + 1) xs) ≡ tokens_of (take i xs) ++ token_of (get_or xs i d) ∷ []
more xs i d within = ap tokens_of (take_more xs i d within) ∙ map-append token_of (take i xs) (get_or xs i d ∷ [])

nesting_after_more : (xs : List Token) (i : ℕ) (d : Token) → i < length xs
    → nesting_after outside (tokens_of (take (i + 1) xs)) ≡ within_lexeme (token_of (get_or xs i d)).lexeme (nesting_after outside (tokens_of (take i xs)))
nesting_after_more xs i d within =
    ap (nesting_after outside) (more xs i d within) ∙ nesting_after-push outside (tokens_of (take i xs)) (token_of (get_or xs i d))

nests_high_more : (xs : List Token) (i : ℕ) (d : Token) → i < length xs → nests_high (tokens_of (take i xs)) ≡ false
    → nests_high (tokens_of (take (i + 1) xs)) ≡ is_high (nesting_after outside (tokens_of (take (i + 1) xs)))
unfolding nests_high
nests_high_more xs i d within low =
    ap (is_high_from outside) (more xs i d within)
    ∙ is_high_from-push outside (tokens_of (take i xs)) (token_of (get_or xs i d))
    ∙ ap (λ b. b || is_high (within_lexeme (token_of (get_or xs i d)).lexeme (nesting_after outside (tokens_of (take i xs))))) low
    ∙ ap is_high (sym (nesting_after_more xs i d within))

-- the nesting after the first i tokens, none of which nests too high
pub record IsNesting (xs : List Token) (i : ℕ) (n : Nesting) : Type 0 where
  pub nesting : n ≡ nesting_after outside (tokens_of (take i xs))
  pub low : nests_high (tokens_of (take i xs)) ≡ false

-- one more token
pub nesting_more : (xs : List Token) (i : ℕ) (d : Token) (n m : Nesting) → IsNesting xs i n → i < length xs
    → m ≡ within_lexeme (lexeme_of (get_or xs i d).lexeme) n
    → (m ≡ nesting_after outside (tokens_of (take (i + 1) xs))) × (nests_high (tokens_of (take (i + 1) xs)) ≡ is_high m)
nesting_more xs i d n m h within e =
    let same : m ≡ nesting_after outside (tokens_of (take (i + 1) xs)) = e ∙ ap (within_lexeme (lexeme_of (get_or xs i d).lexeme)) h.nesting
    ∙ sym (nesting_after_more xs i d within) in
    (same, nests_high_more xs i d within h.low ∙ ap is_high (sym same))

pub nests_high_none : nests_high [] ≡ false
unfolding nests_high
nests_high_none = refl

-- ---- Prefixes of tokens

or_prefix : (b r s : Bool) → (r ≡ false → s ≡ false) → (b || r) ≡ false → (b || s) ≡ false
or_prefix true r s f e = e
or_prefix false r s f e = f e

pub is_high_from-prefix : (n : Nesting) (xs ys : List t.Token) → is_high_from n (xs ++ ys) ≡ false → is_high_from n xs ≡ false
is_high_from-prefix n [] ys e = refl
is_high_from-prefix n (x ∷ xs) ys e =
    let m : Nesting = within_lexeme x.lexeme n in
    or_prefix (is_high m) (is_high_from m (xs ++ ys)) (is_high_from m xs) (is_high_from-prefix m xs ys) e

-- tokens that don't nest too high have no prefix that does
pub nests_high-prefix : (xs ys : List t.Token) → nests_high (xs ++ ys) ≡ false → nests_high xs ≡ false
unfolding nests_high
nests_high-prefix xs ys e = is_high_from-prefix outside xs ys e
