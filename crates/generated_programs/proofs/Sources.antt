-- The tokens of whole generated sources.
use Rattle.std.proofs.Common.{◌≡◌, ℕ, ◌+◌, ◌%◌, ◌^◌, ◌<◌, suc, List, [], ◌++◌, length, refl, ap, sym, subst, ◌∙◌, arith, append_assoc, lit<, zero}
use Rattle.std.specs.Prelude.{codes, decimal}
use Rattle.std.proofs.Math.Nat.{mod-add-mod}
use Rattle.ido_ints.specs.TypedNumbers.{Typed}
use Rattle.c_tree.specs.Tokens.{Token}
use Rattle.run_scripts.specs.GeneratedSources.{mutex_item, variable_item, section_line, thread_head, thread_item, generated_source, mutex_of, addend_of}
use Rattle.generated_programs.proofs.Scans.{Scans, rebased, at_end}
use Rattle.generated_programs.proofs.Numerals.{numeral}
use Rattle.generated_programs.proofs.Lines.{mutex_scans, variable_scans, section_scans, head_scans, closing_scans}
use Rattle.generated_programs.proofs.Tokens.{section_tokens}
use Rattle.generated_programs.proofs.Trees.{Reading, mutex_in, thread_tokens, source_tokens}

-- the addends, as they are read
abbrev pub addend_in : (seed thread section : ℕ) → Typed
addend_in seed thread section = numeral (addend_of seed thread section)

-- where the number of rounds ends, of a thread that begins there
abbrev pub opening_after : (base rounds : ℕ) → ℕ
opening_after base rounds = base + (34 + length (decimal rounds))

moved : (base past next : ℕ) (text : List ℕ) (ts : List Token) → base + past ≡ next → Scans next 0 text ts → Scans base past text ts
moved base past next text ts same s = rebased base past text ts (subst (λ n. Scans n 0 text ts) (sym same) s)

-- the mutexes depend on the remainder of the seed by 4 alone
rotated : (seed thread section : ℕ) → mutex_of seed thread section ≡ mutex_in (seed % 4) thread section
rotated seed thread section =
    let one : seed + thread + section ≡ seed + (thread + section) = omega arith in
    let other : seed % 4 + thread + section ≡ seed % 4 + (thread + section) = omega arith in
    ap (λ n. n % 4) one ∙ sym (mod-add-mod seed 4 (thread + section)) ∙ ap (λ n. n % 4) (sym other)

-- ---- A thread

module _ (rounds seed thread : ℕ) where
  abbrev line_of : ℕ → List ℕ
  line_of section = section_line (mutex_of seed thread section) (addend_of seed thread section)

  section_from : (base section : ℕ) (rest : List ℕ) (ts : List Token) → Scans base 43 rest ts
      → Scans base 0 (line_of section ++ rest) (section_tokens base (mutex_in (seed % 4) thread section) (addend_in seed thread section) ++ ts)
  section_from base section rest ts s =
      subst (λ mutex. Scans base 0 (line_of section ++ rest) (section_tokens base mutex (addend_in seed thread section) ++ ts))
      (rotated seed thread section)
      (section_scans base (mutex_of seed thread section) (addend_of seed thread section) rest ts (omega arith) (omega arith) s)

  -- its lines, one after another
  thread_lines : (rest : List ℕ) → thread_item rounds seed thread ++ rest
      ≡ thread_head rounds thread ++ (line_of 0 ++ (line_of 1 ++ (line_of 2 ++ (line_of 3 ++ (codes "  }\n}\n" ++ rest)))))
  unfolding thread_item
  thread_lines rest = simp append_assoc refl

  pub thread_scans : (base next : ℕ) (rest : List ℕ) (ts : List Token) → thread < 4 → rounds < 2 ^ 32 → opening_after base rounds + 187 ≡ next
      → Scans next 0 rest ts
      → Scans base 0 (thread_item rounds seed thread ++ rest) (thread_tokens thread base (opening_after base rounds) (numeral rounds)
      (mutex_in (seed % 4) thread) (addend_in seed thread) ++ ts)
  thread_scans base next rest ts h g same s =
      let opening = opening_after base rounds in
      rw (thread_lines rest) (head_scans base rounds thread _ _ h g (moved opening 9 (opening + 9) _ _ refl (section_from (opening + 9) 0 _ _ (
      moved (opening + 9) 43 (opening + 52) _ _ (omega arith) (section_from (opening + 52) 1 _ _ (
      moved (opening + 52) 43 (opening + 95) _ _ (omega arith) (section_from (opening + 95) 2 _ _ (
      moved (opening + 95) 43 (opening + 138) _ _ (omega arith) (section_from (opening + 138) 3 _ _ (
      moved (opening + 138) 43 (opening + 181) _ _ (omega arith) (closing_scans (opening + 181) rest ts (
      moved (opening + 181) 6 next _ _ (omega arith) s))))))))))))

-- ---- All of it

-- where each thread begins
abbrev pub base_of : (rounds thread : ℕ) → ℕ
base_of rounds zero = 152
base_of rounds (suc n) = opening_after (base_of rounds n) rounds + 187

abbrev pub opening_of : (rounds thread : ℕ) → ℕ
opening_of rounds thread = opening_after (base_of rounds thread) rounds

source_lines : (rounds seed : ℕ) → generated_source rounds seed
    ≡ mutex_item 0 ++ (mutex_item 1 ++ (mutex_item 2 ++ (mutex_item 3 ++ (variable_item 0 ++ (variable_item 1 ++ (variable_item 2 ++ (variable_item 3 ++
    (thread_item rounds seed 0 ++ (thread_item rounds seed 1 ++ (thread_item rounds seed 2 ++ (thread_item rounds seed 3 ++ [])))))))))))
unfolding generated_source
source_lines rounds seed = simp append_assoc refl

abbrev pub reading_of : (rounds seed : ℕ) → Reading
reading_of rounds seed = record { rounds = numeral rounds; addend = addend_in seed; base = base_of rounds; opening = opening_of rounds }

pub source_scans : (rounds seed : ℕ) → rounds < 2 ^ 32
    → Scans 0 0 (generated_source rounds seed) (source_tokens (seed % 4) (reading_of rounds seed))
source_scans rounds seed g =
    rw (source_lines rounds seed) (
    mutex_scans 0 0 _ _ (lit< _) (moved 0 10 10 _ _ refl (mutex_scans 10 1 _ _ (lit< _) (moved 10 10 20 _ _ refl (
    mutex_scans 20 2 _ _ (lit< _) (moved 20 10 30 _ _ refl (mutex_scans 30 3 _ _ (lit< _) (moved 30 10 40 _ _ refl (
    variable_scans 40 0 _ _ (lit< _) (moved 40 28 68 _ _ refl (variable_scans 68 1 _ _ (lit< _) (moved 68 28 96 _ _ refl (
    variable_scans 96 2 _ _ (lit< _) (moved 96 28 124 _ _ refl (variable_scans 124 3 _ _ (lit< _) (moved 124 28 152 _ _ refl (
    thread_scans rounds seed 0 (base_of rounds 0) (base_of rounds 1) _ _ (lit< _) g refl (
    thread_scans rounds seed 1 (base_of rounds 1) (base_of rounds 2) _ _ (lit< _) g refl (
    thread_scans rounds seed 2 (base_of rounds 2) (base_of rounds 3) _ _ (lit< _) g refl (
    thread_scans rounds seed 3 (base_of rounds 3) (base_of rounds 4) _ _ (lit< _) g refl (at_end (base_of rounds 4) 0)))))))))))))))))))))
