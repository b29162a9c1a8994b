-- The tokens of generated sources spell their trees.
use Rattle.std.proofs.Common.{ℕ, ◌+◌, List, [], ◌∷◌, ◌++◌, refl, lit≤, lit<, inl, inr}
use Rattle.ido_ints.specs.declared.operators.Binary.TheVariants as b
use Rattle.ido_ints.specs.TypedNumbers.{Typed}
use Rattle.c_tree.specs.declared.language.Language.TheVariants.{Full}
use Rattle.c_tree.specs.declared.token.Keyword.TheVariants as k
use Rattle.c_tree.specs.declared.token.Punctuator.TheVariants as p
use Rattle.c_tree.specs.Tokens.{Token, Name, Keyword, Number, Punctuator}
use Rattle.c_tree.specs.Languages.{◌⋅◌}
use Rattle.c_tree.specs.Grammar.{item, statement, statements, program}
use Rattle.c_tree.specs.Trees as t
use Rattle.generated_programs.proofs.Tokens.{mutex_tokens, variable_tokens, opening_tokens, section_tokens}
use Rattle.generated_programs.proofs.Scans.{token}
use Rattle.generated_programs.proofs.Tokens.{index_name, int, lock_tokens, update_tokens, unlock_tokens}
use Rattle.generated_programs.proofs.Trees.{at, mutex_tree, variable_tree, lock_tree, update_tree, unlock_tree, section_tree}
use Rattle.generated_programs.proofs.Trees.{round_tree, loop_tree, thread_tree, round_tokens, thread_tokens, mutex_in}
use Rattle.generated_programs.proofs.Trees.{Reading, items, thread_by, tokens_by, source_tokens}

-- ---- Parts, one after another

one : {P Q : List Token → Type 0} {x : Token} {vs : List Token} → P (x ∷ []) → Q vs → (P ⋅ Q) (x ∷ vs)
one {P} {Q} {x} {vs} p q = (x ∷ [], vs, refl, p, q)

none : {P Q : List Token → Type 0} {vs : List Token} → P [] → Q vs → (P ⋅ Q) vs
none {P} {Q} {vs} p q = ([], vs, refl, p, q)

both : {P Q : List Token → Type 0} (us vs : List Token) → P us → Q vs → (P ⋅ Q) (us ++ vs)
both us vs p q = (us, vs, refl, p, q)

-- ---- Declarations

mutex_spelled : (base n : ℕ) → item Full (mutex_tree base n) (mutex_tokens base n)
mutex_spelled base n = one (at _, refl) (one refl (none refl (at _, refl)))

variable_spelled : (base n : ℕ) → item Full (variable_tree base n) (variable_tokens base n)
variable_spelled base n =
    one (at _, refl) (one (at _, refl) (one refl (none refl (one (at _, refl) (one (k.Long ∷ [], (0, lit< _, refl), refl) (one refl (
    both (_ ∷ _ ∷ _ ∷ []) _ (one (at _, refl) (one refl (at _, refl))) (none refl (at _, refl)))))))))

-- ---- A section

lock_spelled : (base mutex : ℕ) → statement Full (lock_tree base mutex) (lock_tokens base mutex)
lock_spelled base mutex = one refl (one (at _, refl) (one refl (none refl (one (at _, refl) (at _, refl)))))

unlock_spelled : (base mutex : ℕ) → statement Full (unlock_tree base mutex) (unlock_tokens base mutex)
unlock_spelled base mutex = one refl (one (at _, refl) (one refl (none refl (one (at _, refl) (at _, refl)))))

update_spelled : (base mutex : ℕ) (addend : Typed) → statement Full (update_tree base mutex addend) (update_tokens base mutex addend)
update_spelled base mutex addend =
    both (_ ∷ _ ∷ _ ∷ _ ∷ _ ∷ _ ∷ _ ∷ _ ∷ []) _ (
      refl,
      both (_ ∷ _ ∷ _ ∷ _ ∷ _ ∷ _ ∷ []) _ (one refl (one (at _, refl) (
          both (_ ∷ _ ∷ _ ∷ []) _ (lit≤ _, one refl (one (inr (at _, refl)) refl)) (at _, refl)))) (one (at _, refl) refl),
    ) (at _, refl)

section_spelled : (base mutex : ℕ) (addend : Typed) (rest : t.Statements) (after : List Token) → statements Full rest after
    → statements Full (section_tree base mutex addend rest) (section_tokens base mutex addend ++ after)
section_spelled base mutex addend rest after more =
    both (lock_tokens base mutex) _ (lock_spelled base mutex) (both (update_tokens base mutex addend) _ (update_spelled base mutex addend)
    (both (unlock_tokens base mutex) _ (unlock_spelled base mutex) more))

round_spelled : (opening : ℕ) (mutex : ℕ → ℕ) (addend : ℕ → Typed)
    → statements Full (round_tree opening mutex addend) (round_tokens opening mutex addend [])
round_spelled opening mutex addend =
    section_spelled (opening + 9) (mutex 0) (addend 0) second second_tokens (section_spelled (opening + 52) (mutex 1) (addend 1) third third_tokens
    (section_spelled (opening + 95) (mutex 2) (addend 2) fourth fourth_tokens
    (section_spelled (opening + 138) (mutex 3) (addend 3) t.no_statement [] nothing)))
  where
    nothing : statements Full t.no_statement []
    nothing = refl

    fourth : t.Statements
    fourth = section_tree (opening + 138) (mutex 3) (addend 3) t.no_statement

    third : t.Statements
    third = section_tree (opening + 95) (mutex 2) (addend 2) fourth

    second : t.Statements
    second = section_tree (opening + 52) (mutex 1) (addend 1) third

    fourth_tokens : List Token
    fourth_tokens = section_tokens (opening + 138) (mutex 3) (addend 3) ++ []

    third_tokens : List Token
    third_tokens = section_tokens (opening + 95) (mutex 2) (addend 2) ++ fourth_tokens

    second_tokens : List Token
    second_tokens = section_tokens (opening + 52) (mutex 1) (addend 1) ++ third_tokens

-- ---- Threads

abbrev end_of_loop : (opening : ℕ) → Token
end_of_loop opening = token (opening + 181 + 2) (Punctuator p.CloseBrace)

abbrev end_of_thread : (opening : ℕ) → Token
end_of_thread opening = token (opening + 181 + 4) (Punctuator p.CloseBrace)

-- from `for` to the end of the loop
abbrev loop_tokens : (base opening : ℕ) (rounds : Typed) (mutex : ℕ → ℕ) (addend : ℕ → Typed) → List Token
loop_tokens base opening rounds mutex addend =
    token (base + 14) (Keyword k.For) ∷ token (base + 18) (Punctuator p.OpenParenthesis) ∷ token (base + 19) (Keyword k.Int) ∷
    token (base + 23) (Name index_name) ∷ token (base + 25) (Punctuator p.Assign) ∷ token (base + 27) (Number (int 0)) ∷
    token (base + 28) (Punctuator p.Semicolon) ∷ token (base + 30) (Name index_name) ∷ token (base + 32) (Punctuator (p.Binary b.Less)) ∷
    token (base + 34) (Number rounds) ∷ (opening_tokens opening ++ (round_tokens opening mutex addend [] ++ end_of_loop opening ∷ []))

loop_spelled : (base opening : ℕ) (rounds : Typed) (mutex : ℕ → ℕ) (addend : ℕ → Typed)
    → statement Full (loop_tree base opening rounds mutex addend) (loop_tokens base opening rounds mutex addend)
loop_spelled base opening rounds mutex addend =
    one refl (one (at _, refl) (
    both (_ ∷ _ ∷ _ ∷ _ ∷ []) _ (refl, one (k.Int ∷ [], (0, lit< _, refl), refl) (one refl (one (at _, refl) refl))) (one (at _, refl) (
    both (_ ∷ _ ∷ _ ∷ []) _ (lit≤ _, one refl (one (at _, refl) refl)) (one (at _, refl) (
    both (_ ∷ _ ∷ []) _ (refl, inl (both (_ ∷ []) _ (one refl refl) (at _, refl))) (one (at _, refl) (
    one refl (both (round_tokens opening mutex addend []) _ (round_spelled opening mutex addend) refl)))))))))

thread_spelled : (n base opening : ℕ) (rounds : Typed) (mutex : ℕ → ℕ) (addend : ℕ → Typed)
    → item Full (thread_tree n base opening rounds mutex addend) (thread_tokens n base opening rounds mutex addend)
thread_spelled n base opening rounds mutex addend =
    one (at _, refl) (one refl (one refl (
    both (loop_tokens base opening rounds mutex addend) (end_of_thread opening ∷ [])
    (both (loop_tokens base opening rounds mutex addend) [] (loop_spelled base opening rounds mutex addend) refl) refl)))

-- ---- Sources

pub source_spelled : (first : ℕ) (r : Reading) → program Full (items first r) (source_tokens first r)
source_spelled first r =
    both (mutex_tokens 0 0) _ (mutex_spelled 0 0) (both (mutex_tokens 10 1) _ (mutex_spelled 10 1) (
    both (mutex_tokens 20 2) _ (mutex_spelled 20 2) (both (mutex_tokens 30 3) _ (mutex_spelled 30 3) (
    both (variable_tokens 40 0) _ (variable_spelled 40 0) (both (variable_tokens 68 1) _ (variable_spelled 68 1) (
    both (variable_tokens 96 2) _ (variable_spelled 96 2) (both (variable_tokens 124 3) _ (variable_spelled 124 3) (
    both (tokens_by first r 0) _ (spelled 0) (both (tokens_by first r 1) _ (spelled 1) (
    both (tokens_by first r 2) _ (spelled 2) (both (tokens_by first r 3) _ (spelled 3) refl)))))))))))
  where
    spelled : (n : ℕ) → item Full (thread_by first r n) (tokens_by first r n)
    spelled n = thread_spelled n (r.base n) (r.opening n) r.rounds (mutex_in first n) (r.addend n)
