-- The pieces of lines with numbers, one after another.
use Rattle.std.proofs.Common.{◌≡◌, ℕ, List, [], ◌∷◌, ◌++◌, codes, refl, append_assoc, decimal}
use Rattle.run_scripts.specs.GeneratedSources.{section_line, thread_head, variable_item}

-- a line with two numbers, two lines with a number each, and a line with four
two : (a x b y c n : List ℕ) → a ++ (x ++ (b ++ (y ++ (c ++ n)))) ≡ (a ++ x ++ b ++ y ++ c) ++ n
two a x b y c n = simp append_assoc refl

one_each : (a x b c y d n : List ℕ) → a ++ (x ++ (b ++ (n ++ (c ++ (y ++ (d ++ n)))))) ≡ ((a ++ x ++ b) ++ n) ++ ((c ++ y ++ d) ++ n)
one_each a x b c y d n = simp append_assoc refl

four : (a x b y c z d w e n : List ℕ) →
    a ++ (x ++ (b ++ (y ++ (c ++ (z ++ (d ++ (w ++ (e ++ n)))))))) ≡ (a ++ x ++ b ++ y ++ c ++ z ++ d ++ w ++ e) ++ n
four a x b y c z d w e n = simp append_assoc refl

pub variable_pieces : (n : ℕ) → codes "persistent(m" ++ (decimal n ++ (codes ") long a" ++ (decimal n ++ codes "[16];\n"))) ≡ variable_item n
unfolding variable_item
variable_pieces n = two (codes "persistent(m") (decimal n) (codes ") long a") (decimal n) (codes "[16];") (10 ∷ [])

pub head_pieces : (rounds thread : ℕ) →
    codes "thread t" ++ (decimal thread ++ (codes " {\n  for (int i = 0; i < " ++ (decimal rounds ++ codes "; i++) {\n"))) ≡ thread_head rounds thread
unfolding thread_head
head_pieces rounds thread =
    one_each (codes "thread t") (decimal thread) (codes " {") (codes "  for (int i = 0; i < ") (decimal rounds) (codes "; i++) {") (10 ∷ [])

pub section_pieces : (mutex addend : ℕ) →
    codes "    lock(m" ++ (decimal mutex ++ (codes "); a" ++ (decimal mutex ++ (codes "[i & 15] += " ++ (decimal addend ++ (codes "; unlock(m" ++
    (decimal mutex ++ codes ");\n"))))))) ≡ section_line mutex addend
unfolding section_line
section_pieces mutex addend =
    four (codes "    lock(m") (decimal mutex) (codes "); a") (decimal mutex) (codes "[i & 15] += ") (decimal addend) (codes "; unlock(m") (decimal mutex)
    (codes ");") (10 ∷ [])
