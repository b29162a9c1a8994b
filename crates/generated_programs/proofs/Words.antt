-- What stands at the front of the names in generated sources.
use Rattle.std.proofs.Common.{◌≡◌, ℕ, ◌+◌, ◌<◌, List, ◌∷◌, refl}
use Rattle.c_tree.specs.Tokens.{Name}
use Rattle.c_tree.specs.LexicalScan.{Lexed, prefix, full_lexeme}
use Rattle.generated_programs.proofs.Cases.{below_four}
use Rattle.generated_programs.proofs.Tokens.{numbered}

-- the name is read before this byte, and is one in each language
pub record IsNamed (letter byte number : ℕ) : Type 0 where
  pub front : (rest : List ℕ) → prefix (letter ∷ (48 + number) ∷ byte ∷ rest) ≡ Lexed (Name (numbered letter number)) 2
  pub means : full_lexeme (Name (numbered letter number)) ≡ Name (numbered letter number)

-- a mutex before `;`
pub mutex_declared : (n : ℕ) → n < 4 → IsNamed 109 59 n
unfolding prefix
mutex_declared = below_four (IsNamed 109 59) (record { front = λ rest. refl; means = refl }) (record { front = λ rest. refl; means = refl })
    (record { front = λ rest. refl; means = refl }) (record { front = λ rest. refl; means = refl })

-- a mutex before `)`
pub mutex_named : (n : ℕ) → n < 4 → IsNamed 109 41 n
unfolding prefix
mutex_named = below_four (IsNamed 109 41) (record { front = λ rest. refl; means = refl }) (record { front = λ rest. refl; means = refl })
    (record { front = λ rest. refl; means = refl }) (record { front = λ rest. refl; means = refl })

-- an array before `[`
pub array_named : (n : ℕ) → n < 4 → IsNamed 97 91 n
unfolding prefix
array_named = below_four (IsNamed 97 91) (record { front = λ rest. refl; means = refl }) (record { front = λ rest. refl; means = refl })
    (record { front = λ rest. refl; means = refl }) (record { front = λ rest. refl; means = refl })

-- a thread before a space
pub thread_named : (n : ℕ) → n < 4 → IsNamed 116 32 n
unfolding prefix
thread_named = below_four (IsNamed 116 32) (record { front = λ rest. refl; means = refl }) (record { front = λ rest. refl; means = refl })
    (record { front = λ rest. refl; means = refl }) (record { front = λ rest. refl; means = refl })
