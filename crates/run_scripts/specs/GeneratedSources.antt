-- The source that two numbers give: four threads, each with sections on four mutexes in an order of its own.
use Rattle.std.specs.Prelude.{ℕ, ◌+◌, ◌*◌, ◌%◌, List, [], ◌∷◌, ◌++◌, codes, decimal, flat_map}
use Rattle.run_scripts.specs.Reports.{line}

-- the numbers of its mutexes, variables, threads, and statements of a round
abbrev pub four : List ℕ
four = 0 ∷ 1 ∷ 2 ∷ 3 ∷ []

-- `mutex m0;`
unfoldable pub mutex_item : (mutex : ℕ) → List ℕ
mutex_item mutex = line (codes "mutex m" ++ decimal mutex ++ codes ";")

-- `persistent(m0) long a0[16];`
unfoldable pub variable_item : (variable : ℕ) → List ℕ
variable_item variable = line (codes "persistent(m" ++ decimal variable ++ codes ") long a" ++ decimal variable ++ codes "[16];")

-- the mutex of a statement
abbrev pub mutex_of : (seed thread statement : ℕ) → ℕ
mutex_of seed thread statement = (seed + thread + statement) % 4

-- what it adds
abbrev pub addend_of : (seed thread statement : ℕ) → ℕ
addend_of seed thread statement = 1 + (seed + 3 * thread + 5 * statement) % 9

-- `    lock(m1); a1[i & 15] += 4; unlock(m1);`
unfoldable pub section_line : (mutex addend : ℕ) → List ℕ
section_line mutex addend =
    line (
    codes "    lock(m" ++ decimal mutex ++ codes "); a" ++ decimal mutex ++ codes "[i & 15] += " ++ decimal addend ++ codes "; unlock(m"
    ++ decimal mutex ++ codes ");"
    )

-- what stands before the sections of a thread that makes so many rounds
unfoldable pub thread_head : (rounds thread : ℕ) → List ℕ
thread_head rounds thread =
    line (codes "thread t" ++ decimal thread ++ codes " {") ++ line (codes "  for (int i = 0; i < " ++ decimal rounds ++ codes "; i++) {")

-- such a thread
unfoldable pub thread_item : (rounds seed thread : ℕ) → List ℕ
thread_item rounds seed thread =
    thread_head rounds thread ++ flat_map (λ j. section_line (mutex_of seed thread j) (addend_of seed thread j)) four ++ codes "  }\n}\n"

unfoldable pub generated_source : (rounds seed : ℕ) → List ℕ
generated_source rounds seed = flat_map mutex_item four ++ flat_map variable_item four ++ flat_map (thread_item rounds seed) four
