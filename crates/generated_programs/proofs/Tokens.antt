-- The tokens of generated sources, part by part. Places are numbers of bytes after that of the part.
use Rattle.std.proofs.Common.{ℕ, ◌+◌, List, [], ◌∷◌, ◌++◌}
use Rattle.std.specs.Prelude.{pos}
use Rattle.ido_ints.specs.declared.kinds.Kind.TheVariants as kind
use Rattle.ido_ints.specs.declared.operators.Binary.TheVariants as b
use Rattle.ido_ints.specs.TypedNumbers.{Typed, typed}
use Rattle.c_tree.specs.declared.token.Keyword.TheVariants as k
use Rattle.c_tree.specs.declared.token.Punctuator.TheVariants as p
use Rattle.c_tree.specs.Tokens.{Token, Name, Keyword, Number, Punctuator}
use Rattle.generated_programs.proofs.Scans.{token}

-- a letter and a digit
abbrev pub numbered : (letter number : ℕ) → List ℕ
numbered letter n = letter ∷ (48 + n) ∷ []

abbrev pub mutex_name : ℕ → List ℕ
mutex_name n = numbered 109 n

abbrev pub array_name : ℕ → List ℕ
array_name n = numbered 97 n

abbrev pub thread_name : ℕ → List ℕ
thread_name n = numbered 116 n

abbrev pub index_name : List ℕ
index_name = 105 ∷ []

abbrev pub int : ℕ → Typed
int n = typed kind.Int (pos n)

-- `mutex m0;`
abbrev pub mutex_tokens : (base number : ℕ) → List Token
mutex_tokens base n =
    token (base + 0) (Keyword k.Mutex) ∷ token (base + 6) (Name (mutex_name n)) ∷ token (base + 8) (Punctuator p.Semicolon) ∷ []

-- `persistent(m0) long a0[16];`
abbrev pub variable_tokens : (base number : ℕ) → List Token
variable_tokens base n =
    token (base + 0) (Keyword k.Persistent) ∷ token (base + 10) (Punctuator p.OpenParenthesis) ∷ token (base + 11) (Name (mutex_name n)) ∷
    token (base + 13) (Punctuator p.CloseParenthesis) ∷ token (base + 15) (Keyword k.Long) ∷ token (base + 20) (Name (array_name n)) ∷
    token (base + 22) (Punctuator p.OpenBracket) ∷ token (base + 23) (Number (int 16)) ∷ token (base + 25) (Punctuator p.CloseBracket) ∷
    token (base + 26) (Punctuator p.Semicolon) ∷ []

-- `thread t0 {` and `for (int i = 0; i < 9`
abbrev pub head_tokens : (base number : ℕ) (rounds : Typed) → List Token
head_tokens base n rounds =
    token (base + 0) (Keyword k.Thread) ∷ token (base + 7) (Name (thread_name n)) ∷ token (base + 10) (Punctuator p.OpenBrace) ∷
    token (base + 14) (Keyword k.For) ∷ token (base + 18) (Punctuator p.OpenParenthesis) ∷ token (base + 19) (Keyword k.Int) ∷
    token (base + 23) (Name index_name) ∷ token (base + 25) (Punctuator p.Assign) ∷ token (base + 27) (Number (int 0)) ∷
    token (base + 28) (Punctuator p.Semicolon) ∷ token (base + 30) (Name index_name) ∷ token (base + 32) (Punctuator (p.Binary b.Less)) ∷
    token (base + 34) (Number rounds) ∷ []

-- `; i++) {`
abbrev pub opening_tokens : (base : ℕ) → List Token
opening_tokens base =
    token (base + 0) (Punctuator p.Semicolon) ∷ token (base + 2) (Name index_name) ∷ token (base + 3) (Punctuator p.Increment) ∷
    token (base + 5) (Punctuator p.CloseParenthesis) ∷ token (base + 7) (Punctuator p.OpenBrace) ∷ []

-- `lock(m0);`
abbrev pub lock_tokens : (base mutex : ℕ) → List Token
lock_tokens base mutex =
    token (base + 4) (Keyword k.Lock) ∷ token (base + 8) (Punctuator p.OpenParenthesis) ∷ token (base + 9) (Name (mutex_name mutex)) ∷
    token (base + 11) (Punctuator p.CloseParenthesis) ∷ token (base + 12) (Punctuator p.Semicolon) ∷ []

-- `a0[i & 15] += 1;`
abbrev pub update_tokens : (base mutex : ℕ) (addend : Typed) → List Token
update_tokens base mutex addend =
    token (base + 14) (Name (array_name mutex)) ∷ token (base + 16) (Punctuator p.OpenBracket) ∷ token (base + 17) (Name index_name) ∷
    token (base + 19) (Punctuator p.Ampersand) ∷ token (base + 21) (Number (int 15)) ∷ token (base + 23) (Punctuator p.CloseBracket) ∷
    token (base + 25) (Punctuator (p.Update b.Add)) ∷ token (base + 28) (Number addend) ∷ token (base + 29) (Punctuator p.Semicolon) ∷ []

-- `unlock(m0);`
abbrev pub unlock_tokens : (base mutex : ℕ) → List Token
unlock_tokens base mutex =
    token (base + 31) (Keyword k.Unlock) ∷ token (base + 37) (Punctuator p.OpenParenthesis) ∷ token (base + 38) (Name (mutex_name mutex)) ∷
    token (base + 40) (Punctuator p.CloseParenthesis) ∷ token (base + 41) (Punctuator p.Semicolon) ∷ []

abbrev pub section_tokens : (base mutex : ℕ) (addend : Typed) → List Token
section_tokens base mutex addend = lock_tokens base mutex ++ (update_tokens base mutex addend ++ unlock_tokens base mutex)

-- `}` of the loop and `}` of the thread
abbrev pub closing_tokens : (base : ℕ) → List Token
closing_tokens base = token (base + 2) (Punctuator p.CloseBrace) ∷ token (base + 4) (Punctuator p.CloseBrace) ∷ []
