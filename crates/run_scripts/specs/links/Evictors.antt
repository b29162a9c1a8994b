-- What an evictor has still to draw.
use Rattle.std.specs.Prelude.{ℕ, zero, suc}
use Rattle.run_scripts.specs.Draws.{drawn_eviction, drawn_word}
use Rattle.run_scripts.specs.declared.evictor.Evictor.{Evictor}

-- a word and then the words of SplitMix64 from a state on
abbrev pub word_then : (word state n : ℕ) → ℕ
word_then word state zero = word
word_then word state (suc n) = drawn_word state n

-- its evictions, the next one first
abbrev pub evictions_of : Evictor → ℕ → ℕ × ℕ
evictions_of e n = drawn_eviction e.log e.threads e.lines (word_then e.word e.words n)
