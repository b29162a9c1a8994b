-- The parsers of what stands after the block of an `if` keep its language.
use Rattle.std.proofs.Common.{◌≡◌, ℕ, zero, suc, ◌-◌, ◌≤◌, List, [], ◌++◌, Option, Some, true, false}
use Rattle.std.proofs.Common.{refl, ap, ◌∙◌, subst, inl, inr, append_assoc, arith}
use Rattle.std.specs.Prelude.{◌⊎◌}
use Rattle.c_tree.specs.declared.language.Language.{Language}
use Rattle.c_tree.specs.Tokens.{Token, Lexeme, Punctuator}
use Rattle.c_tree.specs.declared.token.Keyword.TheVariants as k
use Rattle.c_tree.specs.declared.token.Punctuator.TheVariants as p
use Rattle.c_tree.specs.Trees as t
use Rattle.c_tree.specs.Languages.{◌⋅◌}
use Rattle.c_tree.specs.Grammar.{condition}
use Rattle.c_tree.specs.Grammar as g
use Rattle.c_reader.specs.links.ParserFunctions.{Parser, give, head_of, head_is, is_word, parse_word}
use Rattle.c_reader.specs.links.ParserFunctions.{with_arm, arms_after}
use Rattle.c_reader.specs.links.ParserFunctions.{◌>>=◌, ◌>>◌}
use Rattle.c_reader.proofs.CorrectParsers.{Spelling, Good, ◌▷◌, ◌▹◌, just, Anything, good_give, good_to, good_less}
use Rattle.c_reader.proofs.CorrectParsers.{good_map, good_where, good_then, good_then_less, good_small}
use Rattle.c_reader.proofs.Tokens.{worded, good_word, worded-strict}
use Rattle.c_reader.proofs.SimpleStatements.{good_condition}

-- no `else` may follow
abbrev pub StatementEnd : Option Lexeme → Type 0
StatementEnd h = head_is (is_word k.Else) h ≡ false

module _ (language : Language) where
  abbrev block : Spelling t.Block
  block = g.block language

  abbrev more_arms_of : Spelling t.Arms
  more_arms_of = g.more_arms_of language

  abbrev otherwise_of : Spelling t.Otherwise
  otherwise_of = g.otherwise_of language

  -- what stands after the block of an `if`
  abbrev pub ArmsLanguage : Spelling (t.Arms × t.Otherwise)
  ArmsLanguage x = more_arms_of x.0 ⋅ otherwise_of x.1

  abbrev ElseIf : Spelling (t.Arms × t.Otherwise)
  ElseIf = worded k.If ▷ (λ i. condition ▷ (λ x. block ▷ (λ b. ArmsLanguage ▹ with_arm x b)))

  abbrev ElseBlock : Spelling (t.Arms × t.Otherwise)
  ElseBlock = block ▹ (λ b. (t.no_arm, t.Else b))

  abbrev AfterElse : Spelling (t.Arms × t.Otherwise)
  AfterElse y us = ElseIf y us ⊎ ElseBlock y us

  abbrev WithElse : Spelling (t.Arms × t.Otherwise)
  WithElse = worded k.Else ▷ (λ e. AfterElse)

  else_up : (y : t.Arms × t.Otherwise) (us : List Token) → WithElse y us → ArmsLanguage y us
  else_up y us (w, us₁, us₂, e, l, inr (b, m, q)) = subst (λ y. ArmsLanguage y us) q ([], us, refl, refl, (us₁, us₂, e, (w, l), m))
  else_up y us (w, us₁, us₂, e, l, inl (i, us₃, us₄, e₁, m, (x, us₅, us₆, e₂, n, (b, us₇, us₈, e₃, o, ((arms, last), (us₉, us₁₀, e₄, a, z), q))))) =
      subst (λ y. ArmsLanguage y us) q (
        us₁ ++ (us₃ ++ (us₅ ++ (us₇ ++ us₉))),
        us₁₀,
        path,
        (
          us₁,
          us₃ ++ (us₅ ++ (us₇ ++ us₉)),
          refl,
          (w, l),
          (us₃, us₅ ++ (us₇ ++ us₉), refl, (i, m), (us₅, us₇ ++ us₉, refl, n, (us₇, us₉, refl, o, a))),
        ),
        z,
      )
    where
      path : us ≡ (us₁ ++ (us₃ ++ (us₅ ++ (us₇ ++ us₉)))) ++ us₁₀
      path = rw (e, e₁, e₂, e₃, e₄) (simp append_assoc refl)

  abbrev no_more : t.Arms × t.Otherwise
  no_more = (t.no_arm, t.Nothing)

  pub block_head : (b : t.Block) (us rest : List Token) → block b us → head_of (us ++ rest) ≡ Some (Punctuator p.OpenBrace)
  block_head (t.Braced opening inside closing) us rest (us₁, us₂, e, l, m) = rw (e, l) refl

  after_else_out : (y : t.Arms × t.Otherwise) (us rest : List Token) → AfterElse y us
      → (ElseIf y us × (head_is (is_word k.If) (head_of (us ++ rest)) ≡ true)) ⊎ (ElseBlock y us × (head_is (is_word k.If) (head_of (us ++ rest)) ≡ false))
  after_else_out y us rest (inl (i, us₁, us₂, e, l, m)) = inl ((i, us₁, us₂, e, l, m), rw (e, l) refl)
  after_else_out y us rest (inr (b, m, q)) = inr ((b, m, q), rw (block_head b us rest m) refl)

  else_out : (y : t.Arms × t.Otherwise) (us rest : List Token) → ArmsLanguage y us → StatementEnd (head_of rest) →
      (WithElse y us × (head_is (is_word k.Else) (head_of (us ++ rest)) ≡ true))
      ⊎ (just no_more y us × (head_is (is_word k.Else) (head_of (us ++ rest)) ≡ false))
  else_out (t.no_arm, t.Nothing) us rest (us₁, us₂, e, n, m) f = let z : us ≡ [] = rw (e, n, m) refl in inr ((refl, z), rw z f)
  else_out (t.no_arm, t.Else b) us rest (us₁, us₂, e, n, (us₃, us₄, e', (w, l), m)) f =
      let z : us ≡ us₂ = rw (e, n) refl in
      inl ((w, us₃, us₄, z ∙ e', l, inr (b, m, refl)), rw (z, e', l) refl)
  else_out (t.arm_and x b arms, o) us rest (us₁, us₂, e, (vs₁, vs₂, e₁, (w, l), (vs₃, vs₄, e₂, (i, l'), (vs₅, vs₆, e₃, n, (vs₇, vs₈, e₄, m, a)))), z) f =
      inl (
        (
          w,
          vs₁,
          vs₂ ++ us₂,
          e ∙ ap (λ l. l ++ us₂) e₁ ∙ append_assoc vs₁ vs₂ us₂,
          l,
          inl (
            i,
            vs₃,
            vs₄ ++ us₂,
            ap (λ l. l ++ us₂) e₂ ∙ append_assoc vs₃ vs₄ us₂,
            l',
            (
              x,
              vs₅,
              vs₆ ++ us₂,
              ap (λ l. l ++ us₂) e₃ ∙ append_assoc vs₅ vs₆ us₂,
              n,
              (b, vs₇, vs₈ ++ us₂, ap (λ l. l ++ us₂) e₄ ∙ append_assoc vs₇ vs₈ us₂, m, ((arms, o), (vs₈, us₂, refl, a, z), refl)),
            ),
          ),
        ),
        rw (e, e₁, l) refl,
      )

  else_if_good : {b : ℕ} {B B' : Parser t.Block} → Good b block block Anything B B' → {C C' : Parser t.Expression} → Good b condition condition Anything C C'
      → {R R' : Parser (t.Arms × t.Otherwise)} → Good b ArmsLanguage ArmsLanguage StatementEnd R R' →
      Good b ElseIf ElseIf StatementEnd (do parse_word k.If; x ← C; y ← B; rest ← R; give (with_arm x y rest))
      (do parse_word k.If; x ← C'; y ← B'; rest ← R'; give (with_arm x y rest))
  else_if_good g c r =
      good_then {M = λ i. condition ▷ (λ x. block ▷ (λ b. ArmsLanguage ▹ with_arm x b))} {F = Anything} {G = StatementEnd} (good_word k.If)
      (λ i. good_then {M = λ x. block ▷ (λ b. ArmsLanguage ▹ with_arm x b)} {F = Anything} {G = StatementEnd} c
      (λ x. good_then {M = λ b. ArmsLanguage ▹ with_arm x b} {F = Anything} {G = StatementEnd} g (λ b. good_map (with_arm x b) r) (λ b y us rest m f. tt))
      (λ x y us rest m f. tt)) (λ i y us rest m f. tt)

  arms_step : {b c : ℕ} → b ≤ suc c → c ≤ b → {B B' : Parser t.Block} → Good b block block Anything B B' → (fuel fuel' : ℕ) → b ≤ suc fuel → b ≤ suc fuel' →
      Good c ArmsLanguage ArmsLanguage StatementEnd (arms_after B fuel) (arms_after B' fuel')
      → Good b ArmsLanguage ArmsLanguage StatementEnd (arms_after B (suc fuel)) (arms_after B' (suc fuel'))
  arms_step {b = b} {c = c} bc cb g fuel fuel' h h' r =
      good_where {K₁ = WithElse} {K₂ = just no_more} (head_is (is_word k.Else))
      (good_to {U = WithElse} {K = WithElse} {F = StatementEnd}
      (good_then_less {M = λ e. AfterElse} {F = Anything} {G = StatementEnd} bc (worded-strict k.Else) (good_word k.Else)
      (λ e. good_where {U = AfterElse} {K₁ = ElseIf} {K₂ = ElseBlock} (head_is (is_word k.If))
      (good_to (else_if_good (good_less g cb) (good_less (good_condition (suc fuel) (suc fuel') b h h') cb) r) (λ y us u. inl u) (λ y us u. u) (λ h f. f))
      (good_to (good_map (λ b. (t.no_arm, t.Else b)) (good_less g cb)) (λ y us u. inr u) (λ y us u. u) (λ h f. tt))
      (λ y us rest u f. after_else_out y us rest u))
      (λ x y us rest m f. tt))
      else_up (λ y us u. u) (λ h f. f))
      (good_to {U' = ArmsLanguage} {K' = just no_more} (good_give no_more)
      (λ y us (q, e). subst (λ y. ArmsLanguage y us) q ([], [], e, refl, refl)) (λ y us u. u)
      (λ h f. tt))
      else_out

  pub good_arms : (fuel fuel' b : ℕ) → b ≤ fuel → b ≤ fuel' → {B B' : Parser t.Block} → Good b block block Anything B B' → Good 0 block block Anything B B →
      Good b ArmsLanguage ArmsLanguage StatementEnd (arms_after B fuel) (arms_after B' fuel')
  good_arms zero fuel' b h h' g g₀ = good_small h (λ ts. ([], refl, [], no_more, ([], [], refl, refl, refl)))
  good_arms (suc fuel) zero b h h' g g₀ =
      good_small h' (arms_step {b = 0} {c = 0} (omega arith) (omega arith) g₀ fuel fuel (omega arith) (omega arith)
      (good_arms fuel fuel 0 (omega arith) (omega arith) g₀ g₀)).sure
  good_arms (suc fuel) (suc fuel') b h h' g g₀ =
      arms_step {b = b} {c = b - 1} (omega arith) (omega arith) g fuel fuel' h h'
      (good_arms fuel fuel' (b - 1) (omega (arith, h)) (omega (arith, h')) (good_less g (omega arith)) g₀)
