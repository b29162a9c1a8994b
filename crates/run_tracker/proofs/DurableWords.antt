-- Durable words one by one.
use Rattle.std.proofs.Common.{◌≡◌, ℕ, zero, suc, ◌+◌, ◌<◌, ◌≤◌, List, [], ◌∷◌, ◌++◌, length, map, take, drop, get_or, ap, sym, ◌∙◌, arith}
use Rattle.std.proofs.lemmas.List.{length-map, length-take, length-drop, get_or-map, get_or-take, get_or-drop, take_all}
use Rattle.ido_base.specs.declared.limits.TheConstants.{VARIABLE_WORDS}
use Rattle.ido_base.specs.Words.{Word, word_of, word_at, durable_value}
use Rattle.log_schemes.specs.Schemes.{numbers_from}
use Rattle.ido_machine.proofs.Public.{from_each}
use Rattle.run_tracker.specs.ObjectLives.{left_words}

-- the durable values of so many words from one on
abbrev pub durable_from : List Word → (at count : ℕ) → List ℕ
durable_from words at count = map (λ i. durable_value (word_at words i)) (numbers_from at count)

-- with one more
pub durable_next : (words : List Word) (at count : ℕ) →
    durable_from words at (count + 1) ≡ durable_from words at count ++ durable_value (word_at words (at + count)) ∷ []
durable_next words at zero = let same : at ≡ at + 0 = omega arith in ap (λ (i : ℕ). durable_value (word_at words i) ∷ []) same
durable_next words at (suc count) =
    let same : at + 1 + count ≡ at + suc count = omega arith in
    let more : suc count + 1 ≡ suc (count + 1) = omega arith in
    ap (durable_from words at) more ∙ ap (λ (xs : List ℕ). durable_value (word_at words at) ∷ xs)
    (durable_next words (at + 1) count ∙ ap (λ (i : ℕ). durable_from words (at + 1) count ++ durable_value (word_at words i) ∷ []) same)

-- a part of those of all
pub durable_part : (words : List Word) (at count : ℕ) → at + count ≤ length words → take count (drop at (map durable_value words)) ≡ durable_from words at count
durable_part words at count within =
    from_each (λ i. durable_value (word_at words i)) at part 0 each ∙ ap (λ (n : ℕ). durable_from words at n) long
  where
    all : List ℕ
    all = map durable_value words

    part : List ℕ
    part = take count (drop at all)

    long : length part ≡ count
    long = omega (arith, length-take count (drop at all), length-drop at all, length-map words durable_value, within)

    each : (n : ℕ) → n < length part → get_or part n 0 ≡ durable_value (word_at words (at + n))
    each n below =
        get_or-take count (drop at all) n 0 (omega (arith, below, long)) ∙ get_or-drop at all n 0
        ∙ get_or-map durable_value words (at + n) (word_of 0) 0 (omega (arith, below, long, within))

-- what a crash would leave is those of the variables and those of the logs
pub left_is : (words : List Word) (variable_words logs : ℕ) → variable_words ≤ length words → VARIABLE_WORDS + logs ≡ length words →
    durable_from words 0 variable_words ++ durable_from words VARIABLE_WORDS logs ≡ left_words variable_words words
unfolding left_words
left_is words variable_words logs within long =
    let all = map durable_value words in
    let count : length (drop VARIABLE_WORDS all) ≤ logs = omega (arith, length-drop VARIABLE_WORDS all, length-map words durable_value, long) in
    let first : durable_from words 0 variable_words ≡ take variable_words all = sym (durable_part words 0 variable_words (omega (arith, within))) in
    let after : durable_from words VARIABLE_WORDS logs ≡ drop VARIABLE_WORDS all =
    sym (durable_part words VARIABLE_WORDS logs (omega (arith, long))) ∙ take_all logs (drop VARIABLE_WORDS all) count in
    ap (λ (xs : List ℕ). xs ++ durable_from words VARIABLE_WORDS logs) first ∙ ap (λ (xs : List ℕ). take variable_words all ++ xs) after
