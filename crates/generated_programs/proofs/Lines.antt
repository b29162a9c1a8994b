-- The tokens of each line of a generated source.
use Rattle.std.proofs.Common.{◌≡◌, ℕ, ◌+◌, ◌^◌, ◌<◌, List, ◌∷◌, ◌++◌, length, refl, subst, arith, append_assoc, length-append}
use Rattle.std.specs.Prelude.{codes, decimal}
use Rattle.std.proofs.lemmas.Fmt.{decimal_digit, decimal_nonempty}
use Rattle.std.proofs.Math.Seq.{drop-append_seam}
use Rattle.c_tree.specs.Tokens.{Token, Number}
use Rattle.c_tree.specs.LexicalScan.{Lexed, prefix}
use Rattle.run_scripts.specs.GeneratedSources.{mutex_item, variable_item, section_line, thread_head}
use Rattle.generated_programs.proofs.Scans.{Scans, blank, lexed, tokens, rebased}
use Rattle.generated_programs.proofs.Numerals.{numeral, number_lexed}
use Rattle.generated_programs.proofs.Words.{mutex_declared, mutex_named, array_named, thread_named}
use Rattle.generated_programs.proofs.Tokens.{mutex_tokens, variable_tokens, head_tokens, opening_tokens, section_tokens, closing_tokens}
use Rattle.generated_programs.proofs.Tokens.{lock_tokens, update_tokens, unlock_tokens}

-- ---- With a digit for each number below 10

mutex_bytes : (n : ℕ) (rest : List ℕ) → n < 10 → mutex_item n ++ rest ≡ codes "mutex m" ++ ((48 + n) ∷ (codes ";\n" ++ rest))
unfolding mutex_item
mutex_bytes n rest h = rw (decimal_digit n h) refl

variable_bytes : (n : ℕ) (rest : List ℕ) → n < 10
    → variable_item n ++ rest ≡ codes "persistent(m" ++ ((48 + n) ∷ (codes ") long a" ++ ((48 + n) ∷ (codes "[16];\n" ++ rest))))
unfolding variable_item
variable_bytes n rest h = rw (decimal_digit n h) refl

section_bytes : (mutex addend : ℕ) (rest : List ℕ) → mutex < 10 → addend < 10 → section_line mutex addend ++ rest
    ≡ codes "    lock(m" ++ ((48 + mutex) ∷ (codes "); a" ++ ((48 + mutex) ∷ (codes "[i & 15] += " ++ ((48 + addend) ∷ (codes "; unlock(m"
    ++ ((48 + mutex) ∷ (codes ");\n" ++ rest))))))))
unfolding section_line
section_bytes mutex addend rest h g = rw (decimal_digit mutex h, decimal_digit addend g) refl

head_bytes : (rounds thread : ℕ) (rest : List ℕ) → thread < 10 → thread_head rounds thread ++ rest
    ≡ codes "thread t" ++ ((48 + thread) ∷ (codes " {\n  for (int i = 0; i < " ++ (decimal rounds ++ (codes "; i++) {\n" ++ rest))))
unfolding thread_head
head_bytes rounds thread rest h = rw (decimal_digit thread h) (simp append_assoc refl)

digit_lexed : (n : ℕ) → n < 10 → (rest : List ℕ) → prefix ((48 + n) ∷ 59 ∷ rest) ≡ Lexed (Number (numeral n)) 1
digit_lexed n h rest =
    subst (λ ds. prefix (ds ++ 59 ∷ rest) ≡ Lexed (Number (numeral n)) (length ds)) (decimal_digit n h) (number_lexed n (omega arith) 59 rest refl)

-- ---- Tokens

pub mutex_scans : (base n : ℕ) (rest : List ℕ) (ts : List Token) → n < 4 → Scans base 10 rest ts
    → Scans base 0 (mutex_item n ++ rest) (mutex_tokens base n ++ ts)
unfolding prefix
mutex_scans base n rest ts h s =
    let m = mutex_declared n h in
    rw (mutex_bytes n rest (omega arith)) (lexed 4 refl refl (blank refl (lexed 1 (m.front (10 ∷ rest)) m.means (lexed 0 refl refl (blank refl s)))))

pub variable_scans : (base n : ℕ) (rest : List ℕ) (ts : List Token) → n < 4 → Scans base 28 rest ts
    → Scans base 0 (variable_item n ++ rest) (variable_tokens base n ++ ts)
unfolding prefix
variable_scans base n rest ts h s =
    let m = mutex_named n h in
    let a = array_named n h in
    rw (variable_bytes n rest (omega arith)) (
    lexed 9 refl refl (lexed 0 refl refl (lexed 1 (m.front _) m.means (lexed 0 refl refl (blank refl (
    lexed 3 refl refl (blank refl (lexed 1 (a.front _) a.means (lexed 0 refl refl (lexed 1 refl refl (lexed 0 refl refl (
    lexed 0 refl refl (blank refl s)))))))))))))

lock_scans : (base mutex : ℕ) (rest : List ℕ) (ts : List Token) → mutex < 4 → Scans base 13 rest ts
    → Scans base 0 (codes "    lock(m" ++ ((48 + mutex) ∷ (codes ");" ++ rest))) (lock_tokens base mutex ++ ts)
unfolding prefix
lock_scans base mutex rest ts h s =
    let m = mutex_named mutex h in
    blank refl (blank refl (blank refl (blank refl (
    lexed 3 refl refl (lexed 0 refl refl (lexed 1 (m.front _) m.means (lexed 0 refl refl (lexed 0 refl refl s))))))))

update_scans : (base mutex addend : ℕ) (rest : List ℕ) (ts : List Token) → mutex < 4 → addend < 10 → Scans base 30 rest ts
    → Scans base 13 (codes " a" ++ ((48 + mutex) ∷ (codes "[i & 15] += " ++ ((48 + addend) ∷ (codes ";" ++ rest)))))
    (update_tokens base mutex (numeral addend) ++ ts)
unfolding prefix
update_scans base mutex addend rest ts h g s =
    let a = array_named mutex h in
    blank refl (lexed 1 (a.front _) a.means (lexed 0 refl refl (lexed 0 refl refl (blank refl (lexed 0 refl refl (blank refl (lexed 1 refl refl (
    lexed 0 refl refl (blank refl (lexed 1 refl refl (blank refl (lexed 0 (digit_lexed addend g rest) refl (lexed 0 refl refl s)))))))))))))

unlock_scans : (base mutex : ℕ) (rest : List ℕ) (ts : List Token) → mutex < 4 → Scans base 43 rest ts
    → Scans base 30 (codes " unlock(m" ++ ((48 + mutex) ∷ (codes ");\n" ++ rest))) (unlock_tokens base mutex ++ ts)
unfolding prefix
unlock_scans base mutex rest ts h s =
    let m = mutex_named mutex h in
    blank refl (lexed 5 refl refl (lexed 0 refl refl (lexed 1 (m.front _) m.means (lexed 0 refl refl (lexed 0 refl refl (blank refl s))))))

pub section_scans : (base mutex addend : ℕ) (rest : List ℕ) (ts : List Token) → mutex < 4 → addend < 10 → Scans base 43 rest ts
    → Scans base 0 (section_line mutex addend ++ rest) (section_tokens base mutex (numeral addend) ++ ts)
section_scans base mutex addend rest ts h g s =
    rw (section_bytes mutex addend rest (omega arith) g) (
    lock_scans base mutex _ _ h (update_scans base mutex addend _ _ h g (unlock_scans base mutex rest ts h s)))

opening_scans : (base : ℕ) (rest : List ℕ) (ts : List Token) → Scans base 9 rest ts
    → Scans base 0 (codes "; i++) {\n" ++ rest) (opening_tokens base ++ ts)
unfolding prefix
opening_scans base rest ts s =
    lexed 0 refl refl (blank refl (lexed 0 refl refl (lexed 1 refl refl (lexed 0 refl refl (blank refl (lexed 0 refl refl (blank refl s)))))))

-- the digits of the rounds stand between
pub head_scans : (base rounds thread : ℕ) (rest : List ℕ) (ts : List Token) → thread < 4 → rounds < 2 ^ 32
    → Scans (base + (34 + length (decimal rounds))) 9 rest ts
    → Scans base 0 (thread_head rounds thread ++ rest)
    (head_tokens base thread (numeral rounds) ++ (opening_tokens (base + (34 + length (decimal rounds))) ++ ts))
unfolding prefix
head_scans base rounds thread rest ts h g s =
    let t = thread_named thread h in
    let after : Scans base (34 + length (decimal rounds)) (codes "; i++) {\n" ++ rest) (opening_tokens (base + (34 + length (decimal rounds))) ++ ts) =
    rebased base (34 + length (decimal rounds)) _ _ (opening_scans (base + (34 + length (decimal rounds))) rest ts s) in
    rw (head_bytes rounds thread rest (omega arith)) (
    lexed 5 refl refl (blank refl (lexed 1 (t.front _) t.means (blank refl (lexed 0 refl refl (blank refl (
    blank refl (blank refl (lexed 2 refl refl (blank refl (lexed 0 refl refl (lexed 2 refl refl (blank refl (lexed 0 refl refl (blank refl (
    lexed 0 refl refl (blank refl (lexed 0 refl refl (lexed 0 refl refl (blank refl (lexed 0 refl refl (blank refl (lexed 0 refl refl (blank refl (
    tokens base 34 (length (decimal rounds)) (decimal rounds ++ (codes "; i++) {\n" ++ rest)) (codes "; i++) {\n" ++ rest) (Number (numeral rounds))
    (Number (numeral rounds)) _ (number_lexed rounds g 59 (codes " i++) {\n" ++ rest) refl) refl (drop-append_seam (decimal rounds) _)
    (omega (arith, length-append (decimal rounds) (codes "; i++) {\n" ++ rest), decimal_nonempty rounds (omega arith))) after)))))))))))))))))))))))))

pub closing_scans : (base : ℕ) (rest : List ℕ) (ts : List Token) → Scans base 6 rest ts
    → Scans base 0 (codes "  }\n}\n" ++ rest) (closing_tokens base ++ ts)
unfolding prefix
closing_scans base rest ts s = blank refl (blank refl (lexed 0 refl refl (blank refl (lexed 0 refl refl (blank refl s)))))
