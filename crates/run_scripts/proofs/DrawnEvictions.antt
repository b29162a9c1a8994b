-- Evictions of a seed, word by word.
use Rattle.std.proofs.Common.{◌≡◌, ℕ, zero, suc, ◌+◌, ap, sym, ◌∙◌, add-one, get_or}
use Rattle.rand_core.specs.Steps.{first_words}
use Rattle.rand_xoshiro.specs.SplitMix64.{mix_u64}
use Rattle.run_scripts.specs.Draws.{drawn_word}
use Rattle.run_scripts.specs.links.Evictors.{word_then}

-- the words from a state on are its first and then those of the state after it
pub words_from : (state word after : ℕ) → (word, after) ≡ mix_u64 state → (n : ℕ) → word_then word after n ≡ drawn_word state n
unfolding first_words
words_from state word after drawn zero = ap (λ (p : ℕ × ℕ). p.0) drawn
words_from state word after drawn (suc n) =
    ap (λ (p : ℕ × ℕ). drawn_word p.1 n) drawn
    ∙ ap (λ k. get_or (first_words mix_u64 k (mix_u64 state).1) n 0) (add-one n)
    ∙ sym (ap (λ k. get_or (first_words mix_u64 k state) (suc n) 0) (add-one (suc n)))

-- once a word is over, the words after it come
pub words_after : (gone state word after : ℕ) → (word, after) ≡ mix_u64 state → (n : ℕ) → word_then word after n ≡ word_then gone state (n + 1)
words_after gone state word after drawn n = words_from state word after drawn n ∙ ap (word_then gone state) (sym (add-one n))
