-- The parsers of statements and blocks keep their languages.
use Rattle.std.proofs.Common.{◌≡◌, ℕ, zero, suc, ◌-◌, ◌≤◌, List, [], ◌∷◌, ◌++◌, length, Option, Some, true, false}
use Rattle.std.proofs.Common.{sym, refl, ap, ◌∙◌, subst, inl, inr, append_assoc, arith, true≢false, zero-lt-suc}
use Rattle.std.specs.Prelude.{◌⊎◌}
use Rattle.ido_base.specs.declared.place.Place.{Place}
use Rattle.ido_ints.specs.declared.operators.Unary.{Unary}
use Rattle.ido_ints.specs.declared.operators.Unary.TheVariants as unary
use Rattle.c_tree.specs.declared.language.Language.{Language}
use Rattle.c_tree.specs.Tokens.{Token, Lexeme, Name, Keyword, Punctuator}
use Rattle.c_tree.specs.declared.token.Keyword.TheVariants as k
use Rattle.c_tree.specs.declared.token.Punctuator.TheVariants as p
use Rattle.c_tree.specs.Trees as t
use Rattle.c_tree.specs.Elaboration.{target_place}
use Rattle.c_tree.specs.Languages.{maybe, mark, ◌⋅◌, first_place}
use Rattle.c_tree.specs.Grammar.{expression, call, initial, first, condition, assignment, changed, target}
use Rattle.c_tree.specs.Grammar.{unary_mark}
use Rattle.c_tree.specs.Grammar as g
use Rattle.c_reader.specs.links.ParserFunctions.{Parser, give, head_of, head_is, is_mark, is_word, begins_type, begins_statement}
use Rattle.c_reader.specs.links.ParserFunctions.{parse_expression, parse_assignment, parse_initial, declaration_over, parse_unless}
use Rattle.c_reader.specs.links.ParserFunctions.{ended, statements_over, block_over, with_arm, if_of, statement_by}
use Rattle.c_reader.specs.links.ParserFunctions.{statement_over, parse_statement, parse_statements, parse_block, ◌>>=◌}
use Rattle.c_reader.proofs.CorrectParsers.{Spelling, Good, ◌▷◌, ◌▹◌, just, Anything, Strict, good_give, good_to, good_less}
use Rattle.c_reader.proofs.CorrectParsers.{good_map, good_where, good_head, good_then, good_then_less, good_small}
use Rattle.c_reader.proofs.Tokens.{some_same, marked, worded, named, good_mark, good_word, good_name, marked-strict}
use Rattle.c_reader.proofs.OptionalParts.{Where, good_unless}
use Rattle.c_reader.proofs.Types.{type_name_begins}
use Rattle.c_reader.proofs.Operands.{ExpressionEnd, good_expression}
use Rattle.c_reader.proofs.Assignments.{FollowedLanguage, good_followed, followed_up, target_lexeme, target_head, target_first, good_assignment, plain_up}
use Rattle.c_reader.proofs.Calls.{RightEnd, call_up, Foreign, expression_foreign}
use Rattle.c_reader.proofs.SimpleStatements.{InitialEnd, good_initial, DeclarationLanguage, good_declaration, good_condition, LockInside, good_lock_inside}
use Rattle.c_reader.proofs.SimpleStatements.{FirstEnd, good_first, assignment_first, type_first, AfterTarget, after_target_good, AfterName}
use Rattle.c_reader.proofs.SimpleStatements.{after_name_good}
use Rattle.c_reader.proofs.Arms.{StatementEnd, ArmsLanguage, block_head, good_arms}

-- ---- Statements that a semicolon ends

abbrev Ended : Spelling t.Statement → Spelling t.Statement
Ended L = L ▷ (λ x. marked p.Semicolon ▹ (λ c. x))

good_ended : {b : ℕ} (L : Spelling t.Statement) (F G : Option Lexeme → Type 0) {P P' : Parser t.Statement} → F (Some (Punctuator p.Semicolon))
    → Good b L L F P P' → Good b (Ended L) (Ended L) G (ended P) (ended P')
good_ended L F G s g = good_then {M = λ x. marked p.Semicolon ▹ (λ c. x)} {F = F} {G = G} g
    (λ x. good_to (good_map (λ c. x) (good_mark p.Semicolon)) (λ y us u. u) (λ y us u. u) (λ h f. tt)) (λ x y us rest (c, m, q) f. rw m s)

right_semicolon : RightEnd (Some (Punctuator p.Semicolon))
right_semicolon = (((refl, λ n h. refl), refl), refl)

expression_semicolon : ExpressionEnd (Some (Punctuator p.Semicolon))
expression_semicolon = ((refl, λ n h. refl), refl)

-- statements that begin with a name or with `++` or `--`, before their semicolon
abbrev Prefix : Spelling t.Statement
Prefix (t.Assign x) us = assignment x us
Prefix (t.AssignResult x c) us = (target x ⋅ mark p.Assign ⋅ call c) us
Prefix (t.CallOnly c) us = call c us
Prefix _ us = ⊥

target_prefix : (x : t.Lvalue) (y : t.Statement) (us us₁ us₂ : List Token) → us ≡ us₁ ++ us₂
    → target x us₁ → AfterTarget x y us₂ → Prefix y us
target_prefix x y us us₁ us₂ e u (inl (o, vs₁, vs₂, e', l, (t.Value z, m, q))) =
    subst (λ y. Prefix y us) q (plain_up _ us (x, us₁, us₂, e, u, (t.Set z, (vs₁, vs₂, e', (o, l), m), refl)))
target_prefix x y us us₁ us₂ e u (inl (o, vs₁, vs₂, e', l, (t.Result c, m, q))) =
    subst (λ y. Prefix y us) q (us₁, us₂, e, u, (vs₁, vs₂, e', (o, l), m))
target_prefix x y us us₁ us₂ e u (inl (o, vs₁, vs₂, e', l, (t.Absent, m, q))) = absurd m
target_prefix x y us us₁ us₂ e u (inr (c, o, m, q)) =
    subst (λ y. Prefix y us) q (plain_up _ us (x, us₁, us₂, e, u, (c, m, refl)))

prefix_up : (y : t.Statement) (us : List Token) → (named ▷ AfterName) y us → Prefix y us
prefix_up y us (n, us₁, us₂, e, l, inl (c, m, q)) = subst (λ y. Prefix y us) q (rw e (call_up n c us₁ us₂ l m))
prefix_up y us (n, us₁, us₂, e, l, inr (i, us₃, us₄, e', m, b)) =
    target_prefix (t.Target n i) y us (us₁ ++ us₃) us₄ (e ∙ ap (λ l. us₁ ++ l) e' ∙ sym (append_assoc us₁ us₃ us₄)) (us₁, us₃, refl, l, m) b

followed_prefix : (y : t.Statement) (us : List Token) → (FollowedLanguage ▷ AfterTarget) y us → Prefix y us
followed_prefix y us (x, us₁, us₂, e, u, b) = target_prefix x y us us₁ us₂ e (followed_up x us₁ u) b

-- ---- What may follow, and parts of a `for`

-- no statement and no `else` may follow
abbrev pub StatementsEnd : Option Lexeme → Type 0
StatementsEnd h = (head_is begins_statement h ≡ false) × StatementEnd h

no_else : (h : Option Lexeme) → head_is begins_statement h ≡ true → StatementEnd h
no_else (Some (Keyword k.Else)) q = absurd (true≢false (sym q))
no_else (Some (Keyword x)) q = not_else x q
  where
    not_else : (x : _) → begins_statement (Keyword x) ≡ true → is_word k.Else (Keyword x) ≡ false
    not_else k.Else q = absurd (true≢false (sym q))
    not_else _ q = refl
no_else _ q = refl

semicolon_foreign : Foreign (head_is (is_mark p.Semicolon))
semicolon_foreign = (λ v. refl, λ v. refl, refl, on, refl, refl, refl)
  where
    on : (o : Unary) → head_is (is_mark p.Semicolon) (Some (Punctuator (unary_mark o))) ≡ false
    on unary.Plus = refl
    on unary.Minus = refl
    on unary.Complement = refl
    on unary.Not = refl

pub maybe_expression_good : (fuel fuel' b : ℕ) → b ≤ fuel → b ≤ fuel'
    → Good b (maybe expression) (maybe expression) (Where (is_mark p.Semicolon) ExpressionEnd) (parse_unless (is_mark p.Semicolon) (parse_expression fuel))
    (parse_unless (is_mark p.Semicolon) (parse_expression fuel'))
maybe_expression_good fuel fuel' b h h' =
    good_unless (is_mark p.Semicolon) (good_expression fuel fuel' b h h')
    (λ x us rest u. expression_foreign (head_is (is_mark p.Semicolon)) semicolon_foreign 0 x us rest u)

maybe_assignment_good : (fuel fuel' b : ℕ) → b ≤ fuel → b ≤ fuel'
    → Good b (maybe assignment) (maybe assignment) (Where (is_mark p.CloseParenthesis) ExpressionEnd)
    (parse_unless (is_mark p.CloseParenthesis) (parse_assignment fuel)) (parse_unless (is_mark p.CloseParenthesis) (parse_assignment fuel'))
maybe_assignment_good fuel fuel' b h h' =
    good_unless (is_mark p.CloseParenthesis) (good_assignment fuel fuel' b h h')
    (λ x us rest u. assignment_first (head_is (is_mark p.CloseParenthesis)) false (λ bytes. refl) refl refl refl x us rest u)

module _ (language : Language) where
  -- what spells parts that have statements
  abbrev statement : Spelling t.Statement
  statement = g.statement language

  abbrev statements : Spelling t.Statements
  statements = g.statements language

  abbrev block : Spelling t.Block
  block = g.block language

  abbrev more_arms_of : Spelling t.Arms
  more_arms_of = g.more_arms_of language

  abbrev otherwise_of : Spelling t.Otherwise
  otherwise_of = g.otherwise_of language

  ended_up : (y : t.Statement) (us : List Token) → Ended Prefix y us → statement y us
  ended_up y us (x, us₁, us₂, e, u, (c, m, q)) = subst (λ y. statement y us) q (go x u)
    where
      go : (x : t.Statement) → Prefix x us₁ → statement x us
      go (t.Assign x) u = (us₁, us₂, e, u, (c, m))
      go (t.AssignResult x r) (vs₁, vs₂, e₁, u, (vs₃, vs₄, e₂, o, v)) = (
        vs₁,
        vs₂ ++ us₂,
        e ∙ ap (λ l. l ++ us₂) e₁ ∙ append_assoc vs₁ vs₂ us₂,
        u,
        (vs₃, vs₄ ++ us₂, ap (λ l. l ++ us₂) e₂ ∙ append_assoc vs₃ vs₄ us₂, o, (vs₄, us₂, refl, v, (c, m))),
      )
      go (t.CallOnly r) u = (us₁, us₂, e, u, (c, m))
      go _ u = absurd u

  named_ended_up : (y : t.Statement) (us : List Token) → Ended (named ▷ AfterName) y us → statement y us
  named_ended_up y us (x, us₁, us₂, e, u, m) = ended_up y us (x, us₁, us₂, e, prefix_up x us₁ u, m)

  followed_ended_up : (y : t.Statement) (us : List Token) → Ended (FollowedLanguage ▷ AfterTarget) y us → statement y us
  followed_ended_up y us (x, us₁, us₂, e, u, m) = ended_up y us (x, us₁, us₂, e, followed_prefix x us₁ u, m)

  assign_ended_up : (y : t.Statement) (us : List Token) → Ended (assignment ▹ t.Assign) y us → statement y us
  assign_ended_up y us (x, us₁, us₂, e, (a, u, q), m) = ended_up y us (x, us₁, us₂, e, subst (λ x. Prefix x us₁) q u, m)

  declare_ended_up : (y : t.Statement) (us : List Token) → Ended (DeclarationLanguage initial ▹ t.Declare) y us → statement y us
  declare_ended_up y us (x, us₁, us₂, e, (a, u, q), (c, m, q')) = subst (λ y. statement y us) (q ∙ q') (us₁, us₂, e, u, (c, m))

  -- ---- Statements by their first token

  abbrev IfLanguage : Spelling t.Statement
  IfLanguage = worded k.If ▷ (λ place. condition ▷ (λ x. block ▷ (λ b. ArmsLanguage language ▹ (λ rest. if_of place (with_arm x b rest)))))

  abbrev WhileLanguage : Spelling t.Statement
  WhileLanguage = worded k.While ▷ (λ place. condition ▷ (λ x. block ▹ t.While place x))

  abbrev DoLanguage : Spelling t.Statement
  DoLanguage = worded k.Do ▷ (λ place. block ▷ (λ b. worded k.While ▷ (λ w. condition ▷ (λ x. marked p.Semicolon ▹ (λ c. t.Do place b x)))))

  abbrev ForTail : Place → t.First → Option t.Expression → Spelling t.Statement
  ForTail place start x = maybe assignment ▷ (λ last. marked p.CloseParenthesis ▷ (λ c. block ▹ t.For place start x last))

  abbrev ForMiddle : Place → t.First → Spelling t.Statement
  ForMiddle place start = maybe expression ▷ (λ x. marked p.Semicolon ▷ (λ s. ForTail place start x))

  abbrev ForLanguage : Spelling t.Statement
  ForLanguage = worded k.For ▷ (λ place. marked p.OpenParenthesis ▷ (λ o. first ▷ (λ start. marked p.Semicolon ▷ (λ s. ForMiddle place start))))

  abbrev LockLanguage : Spelling t.Statement
  LockLanguage = worded k.Lock ▷ (λ place. LockInside language ▷ (λ x. marked p.Semicolon ▹ (λ c. t.Lock place x.0 x.1)))

  abbrev UnlockLanguage : Spelling t.Statement
  UnlockLanguage = worded k.Unlock ▷ (λ place. LockInside language ▷ (λ x. marked p.Semicolon ▹ (λ c. t.Unlock place x.0 x.1)))

  abbrev statement_language : Option Lexeme → Spelling t.Statement
  statement_language (Some (Name bytes)) = Ended (named ▷ AfterName)
  statement_language (Some (Punctuator p.OpenBrace)) = block ▹ t.BlockOf
  statement_language (Some (Punctuator p.Semicolon)) = marked p.Semicolon ▹ t.Empty
  statement_language (Some (Punctuator p.Star)) = Ended (FollowedLanguage ▷ AfterTarget)
  statement_language (Some (Punctuator p.Increment)) = Ended (assignment ▹ t.Assign)
  statement_language (Some (Punctuator p.Decrement)) = Ended (assignment ▹ t.Assign)
  statement_language (Some (Keyword k.If)) = IfLanguage
  statement_language (Some (Keyword k.While)) = WhileLanguage
  statement_language (Some (Keyword k.Do)) = DoLanguage
  statement_language (Some (Keyword k.For)) = ForLanguage
  statement_language (Some (Keyword k.Lock)) = LockLanguage
  statement_language (Some (Keyword k.Unlock)) = UnlockLanguage
  statement_language _ = Ended (DeclarationLanguage initial ▹ t.Declare)

  if_good : (fuel fuel' b : ℕ) → b ≤ fuel → b ≤ fuel' → {B B' : Parser t.Block} → Good b block block Anything B B' → Good 0 block block Anything B B →
      Good b IfLanguage IfLanguage StatementEnd (statement_by language B fuel (Some (Keyword k.If))) (statement_by language B' fuel' (Some (Keyword k.If)))
  if_good fuel fuel' b h h' g g₀ =
      good_then {M = λ place. condition ▷ (λ x. block ▷ (λ b. ArmsLanguage language ▹ (λ rest. if_of place (with_arm x b rest))))} {F = Anything}
      {G = StatementEnd}
      (good_word k.If)
      (λ place. good_then {M = λ x. block ▷ (λ b. ArmsLanguage language ▹ (λ rest. if_of place (with_arm x b rest)))} {F = Anything} {G = StatementEnd}
      (good_condition fuel fuel' b h h')
      (λ x. good_then {M = λ b. ArmsLanguage language ▹ (λ rest. if_of place (with_arm x b rest))} {F = Anything} {G = StatementEnd} g
      (λ y. good_map (λ rest. if_of place (with_arm x y rest)) (good_arms language fuel fuel' b h h' g g₀))
      (λ b y us rest m f. tt)) (λ x y us rest m f. tt)) (λ i y us rest m f. tt)

  while_good : (fuel fuel' b : ℕ) → b ≤ fuel → b ≤ fuel' → {B B' : Parser t.Block} → Good b block block Anything B B' →
      Good b WhileLanguage WhileLanguage Anything (statement_by language B fuel (Some (Keyword k.While)))
      (statement_by language B' fuel' (Some (Keyword k.While)))
  while_good fuel fuel' b h h' g =
      good_then {M = λ place. condition ▷ (λ x. block ▹ t.While place x)} {F = Anything} {G = Anything} (good_word k.While)
      (λ place. good_then {M = λ x. block ▹ t.While place x} {F = Anything} {G = Anything} (good_condition fuel fuel' b h h')
      (λ x. good_map (t.While place x) g)
      (λ x y us rest m f. tt)) (λ i y us rest m f. tt)

  do_good : (fuel fuel' b : ℕ) → b ≤ fuel → b ≤ fuel' → {B B' : Parser t.Block} → Good b block block Anything B B' →
      Good b DoLanguage DoLanguage Anything (statement_by language B fuel (Some (Keyword k.Do))) (statement_by language B' fuel' (Some (Keyword k.Do)))
  do_good fuel fuel' b h h' g =
      good_then {M = λ place. block ▷ (λ b. worded k.While ▷ (λ w. condition ▷ (λ x. marked p.Semicolon ▹ (λ c. t.Do place b x))))}
      {F = Anything} {G = Anything}
      (good_word k.Do)
      (λ place. good_then {M = λ b. worded k.While ▷ (λ w. condition ▷ (λ x. marked p.Semicolon ▹ (λ c. t.Do place b x)))} {F = Anything} {G = Anything} g
      (λ y. good_then {M = λ w. condition ▷ (λ x. marked p.Semicolon ▹ (λ c. t.Do place y x))} {F = Anything} {G = Anything} (good_word k.While)
      (λ w. good_then {M = λ x. marked p.Semicolon ▹ (λ c. t.Do place y x)} {F = Anything} {G = Anything} (good_condition fuel fuel' b h h')
      (λ x. good_map (λ c. t.Do place y x) (good_mark p.Semicolon))
      (λ x y us rest m f. tt)) (λ x y us rest m f. tt)) (λ x y us rest m f. tt)) (λ i y us rest m f. tt)

  for_good : (fuel fuel' b : ℕ) → b ≤ fuel → b ≤ fuel' → {B B' : Parser t.Block} → Good b block block Anything B B' →
      Good b ForLanguage ForLanguage Anything (statement_by language B fuel (Some (Keyword k.For))) (statement_by language B' fuel' (Some (Keyword k.For)))
  for_good fuel fuel' b h h' g =
      good_then {M = λ place. marked p.OpenParenthesis ▷ (λ o. first ▷ (λ start. marked p.Semicolon ▷ (λ s. ForMiddle place start)))} {F = Anything}
      {G = Anything} (good_word k.For)
      (λ place. good_then {M = λ o. first ▷ (λ start. marked p.Semicolon ▷ (λ s. ForMiddle place start))} {F = Anything} {G = Anything}
      (good_mark p.OpenParenthesis)
      (λ o. good_then {M = λ start. marked p.Semicolon ▷ (λ s. ForMiddle place start)} {F = FirstEnd} {G = Anything} (good_first fuel fuel' b h h')
      (λ start. good_then {M = λ s. ForMiddle place start} {F = Anything} {G = Anything} (good_mark p.Semicolon)
      (λ s. good_then {M = λ x. marked p.Semicolon ▷ (λ s. ForTail place start x)} {F = Where (is_mark p.Semicolon) ExpressionEnd} {G = Anything}
      (maybe_expression_good fuel fuel' b h h')
      (λ x. good_then {M = λ s. ForTail place start x} {F = Anything} {G = Anything} (good_mark p.Semicolon)
      (λ s. good_then {M = λ last. marked p.CloseParenthesis ▷ (λ c. block ▹ t.For place start x last)} {F = Where (is_mark p.CloseParenthesis) ExpressionEnd}
      {G = Anything} (maybe_assignment_good fuel fuel' b h h')
      (λ last. good_then {M = λ c. block ▹ t.For place start x last} {F = Anything} {G = Anything} (good_mark p.CloseParenthesis)
      (λ c. good_map (t.For place start x last) g) (λ c y us rest m f. tt))
      (λ last y us rest (c, us₁, us₂, e, l, m) f. rw (e, l) (((refl, λ n h. refl), refl), refl)))
      (λ s y us rest m f. tt))
      (λ x y us rest (c, us₁, us₂, e, l, m) f. rw (e, l) (expression_semicolon, refl)))
      (λ s y us rest m f. tt))
      (λ start y us rest (c, us₁, us₂, e, l, m) f. rw (e, l) (refl, (expression_semicolon, refl))))
      (λ o y us rest m f. tt))
      (λ place y us rest m f. tt)

  lock_good : (fuel fuel' b : ℕ) → b ≤ fuel → b ≤ fuel' → (B B' : Parser t.Block)
      → Good b LockLanguage LockLanguage Anything (statement_by language B fuel (Some (Keyword k.Lock)))
      (statement_by language B' fuel' (Some (Keyword k.Lock)))
  lock_good fuel fuel' b h h' B B' =
      good_then {M = λ place. LockInside language ▷ (λ x. marked p.Semicolon ▹ (λ c. t.Lock place x.0 x.1))} {F = Anything} {G = Anything} (good_word k.Lock)
      (λ place. good_then {M = λ x. marked p.Semicolon ▹ (λ c. t.Lock place x.0 x.1)} {F = Anything} {G = Anything}
      (good_lock_inside language fuel fuel' b h h')
      (λ x. good_map (λ c. t.Lock place x.0 x.1) (good_mark p.Semicolon)) (λ x y us rest m f. tt)) (λ x y us rest m f. tt)

  unlock_good : (fuel fuel' b : ℕ) → b ≤ fuel → b ≤ fuel' → (B B' : Parser t.Block)
      → Good b UnlockLanguage UnlockLanguage Anything (statement_by language B fuel (Some (Keyword k.Unlock)))
      (statement_by language B' fuel' (Some (Keyword k.Unlock)))
  unlock_good fuel fuel' b h h' B B' =
      good_then {M = λ place. LockInside language ▷ (λ x. marked p.Semicolon ▹ (λ c. t.Unlock place x.0 x.1))} {F = Anything} {G = Anything}
      (good_word k.Unlock)
      (λ place. good_then {M = λ x. marked p.Semicolon ▹ (λ c. t.Unlock place x.0 x.1)} {F = Anything} {G = Anything}
      (good_lock_inside language fuel fuel' b h h')
      (λ x. good_map (λ c. t.Unlock place x.0 x.1) (good_mark p.Semicolon)) (λ x y us rest m f. tt)) (λ x y us rest m f. tt)

  if_up : (y : t.Statement) (us : List Token) → IfLanguage y us → statement y us
  if_up y us (place, us₁, us₂, e, l, (x, us₃, us₄, e₁, c, (b, us₅, us₆, e₂, g, (rest, (us₇, us₈, e₃, a, o), q)))) =
      subst (λ y. statement y us) q (
        us₁ ++ (us₃ ++ (us₅ ++ us₇)),
        us₈,
        path,
        (rw l refl, (us₁, us₃ ++ (us₅ ++ us₇), refl, (place, l), (us₃, us₅ ++ us₇, refl, c, (us₅, us₇, refl, g, a)))),
        o,
      )
    where
      path : us ≡ (us₁ ++ (us₃ ++ (us₅ ++ us₇))) ++ us₈
      path = rw (e, e₁, e₂, e₃) (simp append_assoc refl)

  while_up : (y : t.Statement) (us : List Token) → WhileLanguage y us → statement y us
  while_up y us (place, us₁, us₂, e, l, (x, us₃, us₄, e₁, c, (b, g, q))) = subst (λ y. statement y us) q (us₁, us₂, e, l, (us₃, us₄, e₁, c, g))

  do_up : (y : t.Statement) (us : List Token) → DoLanguage y us → statement y us
  do_up y us (place, us₁, us₂, e, l, (b, us₃, us₄, e₁, g, (w, us₅, us₆, e₂, l', (x, us₇, us₈, e₃, c, (s, m, q))))) =
      subst (λ y. statement y us) q (us₁, us₂, e, l, (us₃, us₄, e₁, g, (us₅, us₆, e₂, (w, l'), (us₇, us₈, e₃, c, (s, m)))))

  for_up : (y : t.Statement) (us : List Token) → ForLanguage y us → statement y us
  for_up y us (
    place,
    us₁,
    us₂,
    e,
    l,
    (
      o,
      us₃,
      us₄,
      e₁,
      l₁,
      (
        start,
        us₅,
        us₆,
        e₂,
        f,
        (
          s,
          us₇,
          us₈,
          e₃,
          l₃,
          (
            x,
            us₉,
            us₁₀,
            e₄,
            m,
            (s', us₁₁, us₁₂, e₅, l₅, (last, us₁₃, us₁₄, e₆, n, (c, us₁₅, us₁₆, e₇, l₇, (b, g, q)))),
          ),
        ),
      ),
    ),
  ) =
      subst (λ y. statement y us) q (
        us₁,
        us₂,
        e,
        l,
        (
          us₃,
          us₄,
          e₁,
          (o, l₁),
          (us₅, us₆, e₂, f, (us₇, us₈, e₃, (s, l₃), (us₉, us₁₀, e₄, m, (us₁₁, us₁₂, e₅, (s', l₅), (us₁₃, us₁₄, e₆, n, (us₁₅, us₁₆, e₇, (c, l₇), g)))))),
        ),
      )

  lock_up : (y : t.Statement) (us : List Token) → LockLanguage y us → statement y us
  lock_up y us (place, us₁, us₂, e, l, (x, us₃, us₄, e₁, (us₅, us₆, e₂, o, (us₇, us₈, e₃, n, (us₉, us₁₀, e₄, k, c))), (s, m, q))) =
      subst (λ y. statement y us) q (
        us₁,
        us₂,
        e,
        l,
        (
          us₅,
          us₆ ++ us₄,
          e₁ ∙ ap (λ l. l ++ us₄) e₂
              ∙ append_assoc us₅ us₆ us₄,
          o,
          (
            us₇,
            us₈ ++ us₄,
            ap (λ l. l ++ us₄) e₃ ∙ append_assoc us₇ us₈ us₄,
            n,
            (us₉, us₁₀ ++ us₄, ap (λ l. l ++ us₄) e₄ ∙ append_assoc us₉ us₁₀ us₄, k, (us₁₀, us₄, refl, c, (s, m))),
          ),
        ),
      )

  unlock_up : (y : t.Statement) (us : List Token) → UnlockLanguage y us → statement y us
  unlock_up y us (place, us₁, us₂, e, l, (x, us₃, us₄, e₁, (us₅, us₆, e₂, o, (us₇, us₈, e₃, n, (us₉, us₁₀, e₄, k, c))), (s, m, q))) =
      subst (λ y. statement y us) q (
        us₁,
        us₂,
        e,
        l,
        (
          us₅,
          us₆ ++ us₄,
          e₁ ∙ ap (λ l. l ++ us₄) e₂
              ∙ append_assoc us₅ us₆ us₄,
          o,
          (
            us₇,
            us₈ ++ us₄,
            ap (λ l. l ++ us₄) e₃ ∙ append_assoc us₇ us₈ us₄,
            n,
            (us₉, us₁₀ ++ us₄, ap (λ l. l ++ us₄) e₄ ∙ append_assoc us₉ us₁₀ us₄, k, (us₁₀, us₄, refl, c, (s, m))),
          ),
        ),
      )

  declared_good : (fuel fuel' b : ℕ) → b ≤ fuel → b ≤ fuel'
      → Good b statement (Ended (DeclarationLanguage initial ▹ t.Declare)) StatementEnd
      (ended (do x ← declaration_over (parse_initial fuel); give (t.Declare x)))
      (ended (do x ← declaration_over (parse_initial fuel'); give (t.Declare x)))
  declared_good fuel fuel' b h h' =
      good_to (good_ended (DeclarationLanguage initial ▹ t.Declare) InitialEnd Anything (right_semicolon, refl)
      (good_map t.Declare (good_declaration initial InitialEnd (good_initial fuel fuel' b h h')))) declare_ended_up (λ y us u. u) (λ h f. tt)

  statement_good : (fuel fuel' b : ℕ) → b ≤ fuel → b ≤ fuel' → (B B' : Parser t.Block) → Good b block block Anything B B' → Good 0 block block Anything B B →
      (h : Option Lexeme) → Good b statement (statement_language h) StatementEnd (statement_by language B fuel h) (statement_by language B' fuel' h)
  statement_good fuel fuel' b h h' B B' g g₀ (Some (Name bytes)) =
      good_to (good_ended (named ▷ AfterName) RightEnd Anything right_semicolon
      (good_then {M = AfterName} {F = Anything} {G = RightEnd} good_name (after_name_good fuel fuel' b h h') (λ x y us rest m f. tt))) named_ended_up
      (λ y us u. u) (λ h f. tt)
  statement_good fuel fuel' b h h' B B' g g₀ (Some (Punctuator p.OpenBrace)) =
      good_to (good_map t.BlockOf g) (λ y us (x, m, q). subst (λ y. statement y us) q m) (λ y us u. u) (λ h f. tt)
  statement_good fuel fuel' b h h' B B' g g₀ (Some (Punctuator p.Semicolon)) =
      good_to (good_map t.Empty (good_mark p.Semicolon)) (λ y us (x, m, q). subst (λ y. statement y us) q m) (λ y us u. u) (λ h f. tt)
  statement_good fuel fuel' b h h' B B' g g₀ (Some (Punctuator p.Star)) =
      good_to (good_ended (FollowedLanguage ▷ AfterTarget) RightEnd Anything right_semicolon
      (good_then {M = AfterTarget} {F = Anything} {G = RightEnd} good_followed (after_target_good fuel fuel' b h h') (λ x y us rest m f. tt))) followed_ended_up
      (λ y us u. u) (λ h f. tt)
  statement_good fuel fuel' b h h' B B' g g₀ (Some (Punctuator p.Increment)) =
      good_to (good_ended (assignment ▹ t.Assign) ExpressionEnd Anything expression_semicolon (good_map t.Assign (good_assignment fuel fuel' b h h')))
      assign_ended_up (λ y us u. u) (λ h f. tt)
  statement_good fuel fuel' b h h' B B' g g₀ (Some (Punctuator p.Decrement)) =
      good_to (good_ended (assignment ▹ t.Assign) ExpressionEnd Anything expression_semicolon (good_map t.Assign (good_assignment fuel fuel' b h h')))
      assign_ended_up (λ y us u. u) (λ h f. tt)
  statement_good fuel fuel' b h h' B B' g g₀ (Some (Keyword k.If)) = good_to (if_good fuel fuel' b h h' g g₀) if_up (λ y us u. u) (λ h f. f)
  statement_good fuel fuel' b h h' B B' g g₀ (Some (Keyword k.While)) = good_to (while_good fuel fuel' b h h' g) while_up (λ y us u. u) (λ h f. tt)
  statement_good fuel fuel' b h h' B B' g g₀ (Some (Keyword k.Do)) = good_to (do_good fuel fuel' b h h' g) do_up (λ y us u. u) (λ h f. tt)
  statement_good fuel fuel' b h h' B B' g g₀ (Some (Keyword k.For)) = good_to (for_good fuel fuel' b h h' g) for_up (λ y us u. u) (λ h f. tt)
  statement_good fuel fuel' b h h' B B' g g₀ (Some (Keyword k.Lock)) = good_to (lock_good fuel fuel' b h h' B B') lock_up (λ y us u. u) (λ h f. tt)
  statement_good fuel fuel' b h h' B B' g g₀ (Some (Keyword k.Unlock)) = good_to (unlock_good fuel fuel' b h h' B B') unlock_up (λ y us u. u) (λ h f. tt)
  statement_good fuel fuel' b h h' B B' g g₀ _ = declared_good fuel fuel' b h h'

  -- ---- Each statement is found by its first token

  -- what begins with this target
  abbrev FromHead : t.Lvalue → Spelling t.Statement
  FromHead (t.Target n i) = named ▷ AfterName
  FromHead (t.Followed place n) = FollowedLanguage ▷ AfterTarget

  target_down : (x : t.Lvalue) (y : t.Statement) (us us₁ us₂ : List Token) → us ≡ us₁ ++ us₂ → target x us₁ → AfterTarget x y us₂ → FromHead x y us
  target_down (t.Target n i) y us us₁ us₂ e (vs₁, vs₂, e', m, k) b =
      (n, vs₁, vs₂ ++ us₂, e ∙ ap (λ l. l ++ us₂) e' ∙ append_assoc vs₁ vs₂ us₂, m, inr (i, vs₂, us₂, refl, k, b))
  target_down (t.Followed place n) y us us₁ us₂ e (vs₁, vs₂, e', l, m) b = (t.Followed place n, us₁, us₂, e, (place, vs₁, vs₂, e', l, (n, m, refl)), b)

  target_name : (x : t.Lvalue) (us us₁ us₂ rest : List Token) → us ≡ us₁ ++ us₂ → target x us₁ → head_of (us ++ rest) ≡ Some (target_lexeme x)
  target_name x us us₁ us₂ rest e u = rw (e, append_assoc us₁ us₂ rest) (target_head x us₁ (us₂ ++ rest) u)

  -- which its first token finds
  from_head : (x : t.Lvalue) (y : t.Statement) (us : List Token) → Ended (FromHead x) y us → statement_language (Some (target_lexeme x)) y us
  from_head (t.Target n i) y us u = u
  from_head (t.Followed place n) y us u = u

  -- an assignment begins with its target, or with `++` or `--`
  assign_cases : (x : t.Assignment) (us : List Token) → assignment x us →
      (FromHead x.target (t.Assign x) us × ((rest : List Token) → head_of (us ++ rest) ≡ Some (target_lexeme x.target))) ⊎
      (((rest : List Token) → head_of (us ++ rest) ≡ Some (Punctuator p.Increment))
      ⊎ ((rest : List Token) → head_of (us ++ rest) ≡ Some (Punctuator p.Decrement)))
  assign_cases x us (f, u) = go x.change u
    where
      Cases : t.Change → Type 0
      Cases c =
          (FromHead x.target (t.Assign (record { place = x.place; target = x.target; change = c })) us
          × ((rest : List Token) → head_of (us ++ rest) ≡ Some (target_lexeme x.target))) ⊎
          (((rest : List Token) → head_of (us ++ rest) ≡ Some (Punctuator p.Increment))
          ⊎ ((rest : List Token) → head_of (us ++ rest) ≡ Some (Punctuator p.Decrement)))

      same_place : (us₁ us₂ : List Token) → us ≡ us₁ ++ us₂ → target x.target us₁ → target_place x.target ≡ x.place
      same_place us₁ us₂ e u = some_same (target_place x.target) x.place (sym (ap first_place e ∙ target_first x.target us₁ us₂ u) ∙ f)

      other : (c : t.Change) (us₁ us₂ : List Token) → us ≡ us₁ ++ us₂ → target x.target us₁
          → AfterTarget x.target (t.Assign (record { place = target_place x.target; target = x.target; change = c })) us₂ → Cases c
      other c us₁ us₂ e u b =
          inl (
            target_down x.target _ us us₁ us₂ e u
                (subst (λ place. AfterTarget x.target (t.Assign (record { place = place; target = x.target; change = c })) us₂)
                (same_place us₁ us₂ e u) b),
            λ rest. target_name x.target us us₁ us₂ rest e u,
          )

      go : (c : t.Change) → changed x.target c us → Cases c
      go (t.Set value) (us₁, us₂, e, u, (us₃, us₄, e', (o, l), m)) = other (t.Set value) us₁ us₂ e u (inl (o, us₃, us₄, e', l, (t.Value value, m, refl)))
      go (t.Update operator value) (us₁, us₂, e, u, m) = other (t.Update operator value) us₁ us₂ e u (inr (t.Update operator value, tt, m, refl))
      go t.Increment (inl (us₁, us₂, e, u, m)) = other t.Increment us₁ us₂ e u (inr (t.Increment, tt, m, refl))
      go t.Decrement (inl (us₁, us₂, e, u, m)) = other t.Decrement us₁ us₂ e u (inr (t.Decrement, tt, m, refl))
      go t.Increment (inr (us₁, us₂, e, (o, l), m)) = inr (inl (λ rest. rw (e, l) refl))
      go t.Decrement (inr (us₁, us₂, e, (o, l), m)) = inr (inr (λ rest. rw (e, l) refl))

  -- a word of a type leads to a declaration
  declared_at : (h : Option Lexeme) (y : t.Statement) (us : List Token) → head_is begins_type h ≡ true → Ended (DeclarationLanguage initial ▹ t.Declare) y us
      → statement_language h y us
  declared_at (Some (Name bytes)) y us q u = absurd (true≢false (sym q))
  declared_at (Some (Punctuator p.OpenBrace)) y us q u = absurd (true≢false (sym q))
  declared_at (Some (Punctuator p.Semicolon)) y us q u = absurd (true≢false (sym q))
  declared_at (Some (Punctuator p.Star)) y us q u = absurd (true≢false (sym q))
  declared_at (Some (Punctuator p.Increment)) y us q u = absurd (true≢false (sym q))
  declared_at (Some (Punctuator p.Decrement)) y us q u = absurd (true≢false (sym q))
  declared_at (Some (Keyword k.If)) y us q u = absurd (true≢false (sym q))
  declared_at (Some (Keyword k.While)) y us q u = absurd (true≢false (sym q))
  declared_at (Some (Keyword k.Do)) y us q u = absurd (true≢false (sym q))
  declared_at (Some (Keyword k.For)) y us q u = absurd (true≢false (sym q))
  declared_at (Some (Keyword k.Lock)) y us q u = absurd (true≢false (sym q))
  declared_at (Some (Keyword k.Unlock)) y us q u = absurd (true≢false (sym q))
  declared_at _ y us q u = u

  statement_out : (y : t.Statement) (us rest : List Token) → statement y us → statement_language (head_of (us ++ rest)) y us
  statement_out (t.BlockOf b) us rest u = rw (block_head language b us rest u) (b, u, refl)
  statement_out (t.Empty place) us rest u = rw u (place, refl, refl)
  statement_out (t.Declare x) us rest (us₁, us₂, e, (f, (us₃, us₄, e', l, m)), (c, n)) =
      declared_at (head_of (us ++ rest)) (t.Declare x) us (rw (e, e', append_assoc us₃ us₄ us₂, append_assoc us₃ (us₄ ++ us₂) rest)
      (type_name_begins x.type_name us₃ ((us₄ ++ us₂) ++ rest) l))
      (t.Declare x, us₁, us₂, e, (x, (f, (us₃, us₄, e', l, m)), refl), (c, n, refl))
  statement_out (t.Assign x) us rest (us₁, us₂, e, a, (c, n)) = go (assign_cases x us₁ a)
    where
      go : (FromHead x.target (t.Assign x) us₁ × ((rest : List Token) → head_of (us₁ ++ rest) ≡ Some (target_lexeme x.target))) ⊎
          (((rest : List Token) → head_of (us₁ ++ rest) ≡ Some (Punctuator p.Increment))
          ⊎ ((rest : List Token) → head_of (us₁ ++ rest) ≡ Some (Punctuator p.Decrement))) →
          statement_language (head_of (us ++ rest)) (t.Assign x) us
      go (inl (m, h)) = let q : head_of (us ++ rest) ≡ Some (target_lexeme x.target) = rw (e, append_assoc us₁ us₂ rest) (h (us₂ ++ rest)) in
          rw q (from_head x.target (t.Assign x) us (t.Assign x, us₁, us₂, e, m, (c, n, refl)))
      go (inr (inl h)) = let q : head_of (us ++ rest) ≡ Some (Punctuator p.Increment) = rw (e, append_assoc us₁ us₂ rest) (h (us₂ ++ rest)) in
          rw q (t.Assign x, us₁, us₂, e, (x, a, refl), (c, n, refl))
      go (inr (inr h)) = let q : head_of (us ++ rest) ≡ Some (Punctuator p.Decrement) = rw (e, append_assoc us₁ us₂ rest) (h (us₂ ++ rest)) in
          rw q (t.Assign x, us₁, us₂, e, (x, a, refl), (c, n, refl))
  statement_out (t.AssignResult x r) us rest (us₁, us₂, e, u, (us₃, us₄, e', (o, l), (us₅, us₆, e₂, m, (c, n)))) =
      let q : head_of (us ++ rest) ≡ Some (target_lexeme x) = target_name x us us₁ us₂ rest e u in
      let z : us ≡ (us₁ ++ (us₃ ++ us₅)) ++ us₆ = rw (e, e', e₂) (simp append_assoc refl) in
      rw q (from_head x (t.AssignResult x r) us (
        t.AssignResult x r,
        us₁ ++ (us₃ ++ us₅),
        us₆,
        z,
        target_down x (t.AssignResult x r) (us₁ ++ (us₃ ++ us₅)) us₁ (us₃ ++ us₅) refl u
            (inl (o, us₃, us₅, refl, l, (t.Result r, m, refl))),
        (c, n, refl),
      ))
  statement_out (t.CallOnly r) us rest (us₁, us₂, e, (us₃, us₄, e', l, m), (c, n)) =
      let q : head_of (us ++ rest) ≡ Some (Name r.function.text) = rw (e, e', l) refl in
      rw q (t.CallOnly r, us₁, us₂, e, (r.function, us₃, us₄, e', l, inl (r, (refl, m), refl)), (c, n, refl))
  statement_out (t.If place t.no_arm o) us rest (us₁, us₂, e, (f, u), m) = absurd u
  statement_out (t.If place (t.arm_and x b arms) o) us rest (us₁, us₂, e, (f, (vs₁, vs₂, e₁, (w, l), (vs₃, vs₄, e₂, n, (vs₅, vs₆, e₃, g, a)))), m) =
      let q : head_of (us ++ rest) ≡ Some (Keyword k.If) = rw (e, e₁, l) refl in
      let s : w ≡ place = some_same w place (sym (ap first_place (e₁ ∙ ap (λ l. l ++ vs₂) l)) ∙ f) in
      rw q (
        place,
        vs₁,
        vs₂ ++ us₂,
        e ∙ ap (λ l. l ++ us₂) e₁ ∙ append_assoc vs₁ vs₂ us₂,
        subst (λ w. worded k.If w vs₁) s l,
        (
          x,
          vs₃,
          vs₄ ++ us₂,
          ap (λ l. l ++ us₂) e₂ ∙ append_assoc vs₃ vs₄ us₂,
          n,
          (b, vs₅, vs₆ ++ us₂, ap (λ l. l ++ us₂) e₃ ∙ append_assoc vs₅ vs₆ us₂, g, ((arms, o), (vs₆, us₂, refl, a, m), refl)),
        ),
      )
  statement_out (t.While place x b) us rest (us₁, us₂, e, l, (us₃, us₄, e₁, c, g)) =
      let q : head_of (us ++ rest) ≡ Some (Keyword k.While) = rw (e, l) refl in rw q (place, us₁, us₂, e, l, (x, us₃, us₄, e₁, c, (b, g, refl)))
  statement_out (t.Do place b x) us rest (us₁, us₂, e, l, (us₃, us₄, e₁, g, (us₅, us₆, e₂, (w, l'), (us₇, us₈, e₃, c, (s, m))))) =
      let q : head_of (us ++ rest) ≡ Some (Keyword k.Do) = rw (e, l) refl in
      rw q (place, us₁, us₂, e, l, (b, us₃, us₄, e₁, g, (w, us₅, us₆, e₂, l', (x, us₇, us₈, e₃, c, (s, m, refl)))))
  statement_out (t.For place start x last b) us rest (
    us₁,
    us₂,
    e,
    l,
    (
      us₃,
      us₄,
      e₁,
      (o, l₁),
      (
        us₅,
        us₆,
        e₂,
        f,
        (
          us₇,
          us₈,
          e₃,
          (s, l₃),
          (us₉, us₁₀, e₄, m, (us₁₁, us₁₂, e₅, (s', l₅), (us₁₃, us₁₄, e₆, n, (us₁₅, us₁₆, e₇, (c, l₇), g)))),
        ),
      ),
    ),
  ) =
      let q : head_of (us ++ rest) ≡ Some (Keyword k.For) = rw (e, l) refl in
      rw q (
        place,
        us₁,
        us₂,
        e,
        l,
        (
          o,
          us₃,
          us₄,
          e₁,
          l₁,
          (
            start,
            us₅,
            us₆,
            e₂,
            f,
            (s, us₇, us₈, e₃, l₃, (x, us₉, us₁₀, e₄, m, (s', us₁₁, us₁₂, e₅, l₅, (last, us₁₃, us₁₄, e₆, n, (c, us₁₅, us₁₆, e₇, l₇, (b, g, refl)))))),
          ),
        ),
      )
  statement_out (t.Lock place x y) us rest (us₁, us₂, e, l, (us₃, us₄, e₁, o, (us₅, us₆, e₂, n, (us₇, us₈, e₃, i, (us₉, us₁₀, e₄, c, (s, m)))))) =
      let q : head_of (us ++ rest) ≡ Some (Keyword k.Lock) = rw (e, l) refl in
      let z : us₂ ≡ (us₃ ++ (us₅ ++ (us₇ ++ us₉))) ++ us₁₀ = rw (e₁, e₂, e₃, e₄) (simp append_assoc refl) in
      rw q (
        place,
        us₁,
        us₂,
        e,
        l,
        (
          (x, y),
          us₃ ++ (us₅ ++ (us₇ ++ us₉)),
          us₁₀,
          z,
          (us₃, us₅ ++ (us₇ ++ us₉), refl, o, (us₅, us₇ ++ us₉, refl, n, (us₇, us₉, refl, i, c))),
          (s, m, refl),
        ),
      )
  statement_out (t.Unlock place x y) us rest (us₁, us₂, e, l, (us₃, us₄, e₁, o, (us₅, us₆, e₂, n, (us₇, us₈, e₃, i, (us₉, us₁₀, e₄, c, (s, m)))))) =
      let q : head_of (us ++ rest) ≡ Some (Keyword k.Unlock) = rw (e, l) refl in
      let z : us₂ ≡ (us₃ ++ (us₅ ++ (us₇ ++ us₉))) ++ us₁₀ = rw (e₁, e₂, e₃, e₄) (simp append_assoc refl) in
      rw q (
        place,
        us₁,
        us₂,
        e,
        l,
        (
          (x, y),
          us₃ ++ (us₅ ++ (us₇ ++ us₉)),
          us₁₀,
          z,
          (us₃, us₅ ++ (us₇ ++ us₉), refl, o, (us₅, us₇ ++ us₉, refl, n, (us₇, us₉, refl, i, c))),
          (s, m, refl),
        ),
      )

  statement_over_good : (fuel fuel' b : ℕ) → b ≤ fuel → b ≤ fuel' → (B B' : Parser t.Block) → Good b block block Anything B B' →
      Good 0 block block Anything B B →
      Good b statement statement StatementEnd (statement_over language B fuel) (statement_over language B' fuel')
  statement_over_good fuel fuel' b h h' B B' g g₀ =
      good_head {K = statement_language} (statement_good fuel fuel' b h h' B B' g g₀) (λ y us rest u f. statement_out y us rest u)

  -- ---- Statements in a row, and blocks

  begins_at : (x : t.Lvalue) → head_is begins_statement (Some (target_lexeme x)) ≡ true
  begins_at (t.Target n i) = refl
  begins_at (t.Followed place n) = refl

  pub statement_begins : (y : t.Statement) (us rest : List Token) → statement y us → head_is begins_statement (head_of (us ++ rest)) ≡ true
  statement_begins (t.BlockOf b) us rest u = rw (block_head language b us rest u) refl
  statement_begins (t.Empty place) us rest u = rw u refl
  statement_begins (t.Declare x) us rest (us₁, us₂, e, (f, (us₃, us₄, e', l, m)), (c, n)) =
      rw (e, e', append_assoc us₃ us₄ us₂, append_assoc us₃ (us₄ ++ us₂) rest)
      (type_first (head_is begins_statement) true refl refl refl refl refl refl refl x.type_name us₃ ((us₄ ++ us₂) ++ rest) l)
  statement_begins (t.Assign x) us rest (us₁, us₂, e, a, (c, n)) =
      rw (e, append_assoc us₁ us₂ rest) (assignment_first (head_is begins_statement) true (λ bytes. refl) refl refl refl x us₁ (us₂ ++ rest) a)
  statement_begins (t.AssignResult x r) us rest (us₁, us₂, e, u, m) = rw (target_name x us us₁ us₂ rest e u) (begins_at x)
  statement_begins (t.CallOnly r) us rest (us₁, us₂, e, (us₃, us₄, e', l, m), (c, n)) = rw (e, e', l) refl
  statement_begins (t.If place t.no_arm o) us rest (us₁, us₂, e, (f, u), m) = absurd u
  statement_begins (t.If place (t.arm_and x b arms) o) us rest (us₁, us₂, e, (f, (vs₁, vs₂, e₁, (w, l), a)), m) = rw (e, e₁, l) refl
  statement_begins (t.While place x b) us rest (us₁, us₂, e, l, m) = rw (e, l) refl
  statement_begins (t.Do place b x) us rest (us₁, us₂, e, l, m) = rw (e, l) refl
  statement_begins (t.For place start x last b) us rest (us₁, us₂, e, l, m) = rw (e, l) refl
  statement_begins (t.Lock place x y) us rest (us₁, us₂, e, l, m) = rw (e, l) refl
  statement_begins (t.Unlock place x y) us rest (us₁, us₂, e, l, m) = rw (e, l) refl

  statement_strict : Strict statement
  statement_strict y [] u = let q : false ≡ true = statement_begins y [] [] u in absurd (true≢false (sym q))
  statement_strict y (a ∷ us) u = zero-lt-suc (length us)

  abbrev More : Spelling t.Statements
  More = statement ▷ (λ x. statements ▹ t.statement_and x)

  statements_ends : (y : t.Statements) (us rest : List Token) → statements y us → StatementsEnd (head_of rest) → StatementEnd (head_of (us ++ rest))
  statements_ends t.no_statement us rest u f = rw u f.1
  statements_ends (t.statement_and x y) us rest (us₁, us₂, e, u, m) f =
      rw (e, append_assoc us₁ us₂ rest) (no_else (head_of (us₁ ++ (us₂ ++ rest))) (statement_begins x us₁ (us₂ ++ rest) u))

  statements_step : {b c : ℕ} → b ≤ suc c → {S S' : Parser t.Statement} → Good b statement statement StatementEnd S S' → (fuel fuel' : ℕ) →
      Good c statements statements StatementsEnd (statements_over S fuel) (statements_over S' fuel')
      → Good b statements statements StatementsEnd (statements_over S (suc fuel)) (statements_over S' (suc fuel'))
  statements_step bc g fuel fuel' r =
      good_where {K₁ = More} {K₂ = just t.no_statement} (head_is begins_statement)
      (good_to {U = More} {K = More} {F = StatementsEnd}
      (good_then_less {M = λ x. statements ▹ t.statement_and x} {F = StatementEnd} {G = StatementsEnd} bc statement_strict g
      (λ x. good_map (t.statement_and x) r)
      (λ x y us rest (z, m, q) f. statements_ends z us rest m f))
      (λ y us (x, us₁, us₂, e, u, (z, m, q)). subst (λ y. statements y us) q (us₁, us₂, e, u, m)) (λ y us u. u) (λ h f. f))
      (good_to {U' = statements} {K' = just t.no_statement} (good_give t.no_statement) (λ y us (q, e). subst (λ y. statements y us) q e) (λ y us u. u)
      (λ h f. tt))
      out
    where
      out : (y : t.Statements) (us rest : List Token) → statements y us → StatementsEnd (head_of rest) →
          (More y us × (head_is begins_statement (head_of (us ++ rest)) ≡ true))
          ⊎ (just t.no_statement y us × (head_is begins_statement (head_of (us ++ rest)) ≡ false))
      out t.no_statement us rest u f = inr ((refl, u), rw u f.0)
      out (t.statement_and x y) us rest (us₁, us₂, e, u, m) f =
          inl ((x, us₁, us₂, e, u, (y, m, refl)), rw (e, append_assoc us₁ us₂ rest) (statement_begins x us₁ (us₂ ++ rest) u))

  pub statements_over_good : (fuel fuel' b : ℕ) → b ≤ fuel → b ≤ fuel' → {S S' : Parser t.Statement} → Good b statement statement StatementEnd S S'
      → Good 0 statement statement StatementEnd S S →
      Good b statements statements StatementsEnd (statements_over S fuel) (statements_over S' fuel')
  statements_over_good zero fuel' b h h' g g₀ = good_small h (λ ts. ([], refl, [], t.no_statement, refl))
  statements_over_good (suc fuel) zero b h h' g g₀ =
      good_small h' (statements_step {b = 0} {c = 0} (omega arith) g₀ fuel fuel (statements_over_good fuel fuel 0 (omega arith) (omega arith) g₀ g₀)).sure
  statements_over_good (suc fuel) (suc fuel') b h h' g g₀ =
      statements_step {b = b} {c = b - 1} (omega arith) g fuel fuel'
      (statements_over_good fuel fuel' (b - 1) (omega (arith, h)) (omega (arith, h')) (good_less g (omega arith)) g₀)

  abbrev BlockParts : Spelling t.Block
  BlockParts = marked p.OpenBrace ▷ (λ opening. statements ▷ (λ xs. marked p.CloseBrace ▹ t.Braced opening xs))

  -- a block, whose statements are read of fewer tokens
  block_over_good : {b c : ℕ} → b ≤ suc c → (fuel fuel' : ℕ) → c ≤ fuel → c ≤ fuel' → {S S' : Parser t.Statement} → Good c statement statement StatementEnd S S'
      → Good 0 statement statement StatementEnd S S →
      Good b block block Anything (block_over S fuel) (block_over S' fuel')
  block_over_good {b = b} {c = c} bc fuel fuel' h h' g g₀ =
      good_to {U = BlockParts} {K = BlockParts} {F = Anything}
      (good_then_less {M = λ opening. statements ▷ (λ xs. marked p.CloseBrace ▹ t.Braced opening xs)} {F = Anything} {G = Anything} bc
      (marked-strict p.OpenBrace)
      (good_mark p.OpenBrace)
      (λ opening. good_then {M = λ xs. marked p.CloseBrace ▹ t.Braced opening xs} {F = StatementsEnd} {G = Anything}
      (statements_over_good fuel fuel' c h h' g g₀)
      (λ xs. good_map (t.Braced opening xs) (good_mark p.CloseBrace))
      (λ xs y us rest (z, m, q) f. rw m (refl, refl)))
      (λ x y us rest m f. tt))
      (λ y us (opening, us₁, us₂, e, l, (xs, us₃, us₄, e', m, (closing, n, q))). subst (λ y. block y us) q (us₁, us₂, e, l, (us₃, us₄, e', m, n)))
      down (λ h f. f)
    where
      down : (y : t.Block) (us : List Token) → block y us → BlockParts y us
      down (t.Braced opening inside closing) us (us₁, us₂, e, l, (us₃, us₄, e', m, n)) =
          (opening, us₁, us₂, e, l, (inside, us₃, us₄, e', m, (closing, n, refl)))

  -- ---- The recursion

  parse_statement_step : {b c : ℕ} → b ≤ suc c → (fuel fuel' : ℕ) → b ≤ suc fuel → b ≤ suc fuel' → c ≤ fuel → c ≤ fuel' →
      Good c statement statement StatementEnd (parse_statement language fuel) (parse_statement language fuel')
      → Good 0 statement statement StatementEnd (parse_statement language fuel) (parse_statement language fuel) →
      Good b statement statement StatementEnd (parse_statement language (suc fuel)) (parse_statement language (suc fuel'))
  unfolding parse_statement
  parse_statement_step {b = b} bc fuel fuel' h h' k k' g g₀ =
      statement_over_good (suc fuel) (suc fuel') b h h' (block_over (parse_statement language fuel) fuel) (block_over (parse_statement language fuel') fuel')
      (block_over_good bc fuel fuel' k k' g g₀)
      (block_over_good {b = 0} {c = 0} (omega arith) fuel fuel (omega arith) (omega arith) g₀ g₀)

  pub good_statement : (fuel fuel' b : ℕ) → b ≤ fuel → b ≤ fuel' →
      Good b statement statement StatementEnd (parse_statement language fuel) (parse_statement language fuel')
  unfolding parse_statement
  good_statement zero fuel' b h h' =
      let z : Place = record { 0 = 0 } in
      good_small h (λ ts. ([], refl, record { place = z; lexeme = Punctuator p.Semicolon } ∷ [], t.Empty z, refl))
  good_statement (suc fuel) zero b h h' =
      let g : Good 0 statement statement StatementEnd (parse_statement language fuel) (parse_statement language fuel) =
      good_statement fuel fuel 0 (omega arith) (omega arith) in
      good_small h' (parse_statement_step {b = 0} {c = 0} (omega arith) fuel fuel (omega arith) (omega arith) (omega arith) (omega arith) g g).sure
  good_statement (suc fuel) (suc fuel') b h h' =
      parse_statement_step {b = b} {c = b - 1} (omega arith) fuel fuel' h h' (omega (arith, h)) (omega (arith, h'))
      (good_statement fuel fuel' (b - 1) (omega (arith, h)) (omega (arith, h'))) (good_statement fuel fuel 0 (omega arith) (omega arith))

  pub good_statements : (fuel fuel' b : ℕ) → b ≤ fuel → b ≤ fuel' →
      Good b statements statements StatementsEnd (parse_statements language fuel) (parse_statements language fuel')
  good_statements fuel fuel' b h h' =
      statements_over_good fuel fuel' b h h' (good_statement fuel fuel' b h h') (good_statement fuel fuel 0 (omega arith) (omega arith))

  pub good_block : (fuel fuel' b : ℕ) → b ≤ fuel → b ≤ fuel' → Good b block block Anything (parse_block language fuel) (parse_block language fuel')
  good_block fuel fuel' b h h' =
      block_over_good {b = b} {c = b} (omega arith) fuel fuel' h h' (good_statement fuel fuel' b h h') (good_statement fuel fuel 0 (omega arith) (omega arith))
