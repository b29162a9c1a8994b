-- The parser's steps at statements with blocks, and at what was found before: one equation for each.
use Rattle.std.proofs.Common.{◌≡◌, ℕ, suc, ◌+◌, ◌-◌, ◌<◌, ◌≤◌, List, [], ◌∷◌, ◌++◌, Option, Some, None, Bool, true, false, refl, ap, sym, ◌∙◌, arith}
use Rattle.ido_base.specs.declared.place.Place.{Place}
use Rattle.c_tree.specs.declared.language.Language.{Language}
use Rattle.c_tree.specs.Tokens.{Token, Lexeme, Name, Keyword, Number, Punctuator}
use Rattle.c_tree.specs.declared.token.Keyword as kw
use Rattle.c_tree.specs.declared.token.Keyword.TheVariants as k
use Rattle.c_tree.specs.declared.token.Punctuator as pn
use Rattle.c_tree.specs.declared.token.Punctuator.TheVariants as p
use Rattle.c_tree.specs.Trees as t
use Rattle.c_tree.specs.Views as v
use Rattle.c_tree.specs.declared.tree.Statement as s
use Rattle.c_tree.specs.declared.tree.Arm as arm
use Rattle.c_reader.specs.links.ParserFunctions.{Parsed, Parser, Read, Wrong, give, follow, ◌>>=◌, ◌>>◌, head_of, by_head, where_head}
use Rattle.c_reader.specs.links.ParserFunctions.{head_is, is_mark, is_word, begins_statement, parse_mark, parse_word, parse_condition}
use Rattle.c_reader.specs.links.ParserFunctions.{parse_expression, parse_assignment, parse_unless, parse_first}
use Rattle.c_reader.specs.links.ParserFunctions.{parse_statement, parse_statements, parse_block, statements_over}
use Rattle.c_reader.specs.links.ParserFunctions.{statement_by, statement_over, arms_after, with_arm, if_of}
use Rattle.c_reader.specs.links.ParserSteps.{statement_by_word, statement_by_mark, parse_named_statement, parse_declaration_statement}
use Rattle.c_reader.specs.links.ParserSteps.{parse_assignment_statement, parse_followed_statement, parse_lock}
use Rattle.c_reader.specs.links.ParserSteps.{parse_unlock, parse_if, parse_while, parse_do, parse_for}
use Rattle.c_reader.specs.links.ParserSteps.{parse_start_of_for, parse_middle_of_for, parse_end_of_for, parse_head_of_for}
use Rattle.c_reader.specs.links.ParserSteps.{parse_arm, then_statements, then_arms, more_statements, more_arms}
use Rattle.c_reader.proofs.ParserStepEquations.{where_followed}

-- ---- Ways to go on

-- what follows on an answer goes through to the last part
pub through : {A B C : Type 0} (r : Parsed A) (f : A → Parser B) (g : B → Parser C) (h : A → Parser C)
    → ((x : A) (rest : List Token) → follow (f x rest) g ≡ h x rest) → follow (follow r f) g ≡ follow r h
through (Read x rest) f g h e = e x rest
through (Wrong rest) f g h e = refl

same : {A B : Type 0} (r : Parsed A) (f g : A → Parser B) → ((x : A) (rest : List Token) → f x rest ≡ g x rest) → follow r f ≡ follow r g
same (Read x rest) f g e = e x rest
same (Wrong rest) f g e = refl

pub by_same : {A : Type 0} (test : Option Lexeme → Bool) (then then' otherwise otherwise' : Parser A) (ts : List Token) → then ts ≡ then' ts
    → otherwise ts ≡ otherwise' ts
    → where_head test then otherwise ts ≡ where_head test then' otherwise' ts
by_same {A = A} test then then' otherwise otherwise' ts e e' = go (test (head_of ts))
  where
    go : (b : Bool) → elim b as (λ p. Parsed A) [ true ↦ then ts | false ↦ otherwise ts ]
        ≡ elim b as (λ p. Parsed A) [ true ↦ then' ts | false ↦ otherwise' ts ]
    go true = e
    go false = e'

-- what follows on a choice goes through to its branches
pub through_where : {A B : Type 0} (test : Option Lexeme → Bool) (then otherwise : Parser A) (g : A → Parser B) (then' otherwise' : Parser B) (ts : List Token)
    → follow (then ts) g ≡ then' ts → follow (otherwise ts) g ≡ otherwise' ts
    → follow (where_head test then otherwise ts) g ≡ where_head test then' otherwise' ts
through_where test then otherwise g then' otherwise' ts e e' =
    where_followed test then otherwise g ts ∙ by_same test (then >>= g) then' (otherwise >>= g) otherwise' ts e e'

-- ---- Rows

pub then_no_statement : (xs : t.Statements) → then_statements xs t.no_statement ≡ xs
then_no_statement t.no_statement = refl
then_no_statement (t.statement_and x rest) = ap (t.statement_and x) (then_no_statement rest)

pub then_one_statement : (xs : t.Statements) (x : t.Statement) (more : t.Statements)
    → then_statements xs (t.statement_and x more) ≡ then_statements (then_statements xs (t.statement_and x t.no_statement)) more
then_one_statement t.no_statement x more = refl
then_one_statement (t.statement_and y rest) x more = ap (t.statement_and y) (then_one_statement rest x more)

pub push_statement : (xs : List s.Statement) (x : s.Statement)
    → v.statements_of (xs ++ x ∷ []) ≡ then_statements (v.statements_of xs) (t.statement_and (v.statement_of x) t.no_statement)
push_statement [] x = refl
push_statement (y ∷ ys) x = ap (t.statement_and (v.statement_of y)) (push_statement ys x)

pub then_no_arm : (xs : t.Arms) → then_arms xs t.no_arm ≡ xs
then_no_arm t.no_arm = refl
then_no_arm (t.arm_and x b rest) = ap (t.arm_and x b) (then_no_arm rest)

pub then_one_arm : (xs : t.Arms) (x : t.Expression) (b : t.Block) (more : t.Arms)
    → then_arms xs (t.arm_and x b more) ≡ then_arms (then_arms xs (t.arm_and x b t.no_arm)) more
then_one_arm t.no_arm x b more = refl
then_one_arm (t.arm_and y c rest) x b more = ap (t.arm_and y c) (then_one_arm rest x b more)

pub push_arm : (xs : List arm.Arm) (x : arm.Arm) → v.arms_list_of (xs ++ x ∷ [])
    ≡ then_arms (v.arms_list_of xs) (t.arm_and (v.expression_of x.condition) (v.block_of x.block) t.no_arm)
push_arm [] x = refl
push_arm (y ∷ ys) x = ap (t.arm_and (v.expression_of y.condition) (v.block_of y.block)) (push_arm ys x)

module _ (language : Language) where
  -- ---- Statements

  abbrev pub statement_by_head : (fuel : ℕ) → Option Lexeme → Parser t.Statement
  statement_by_head fuel (Some (Name bytes)) = parse_named_statement fuel
  statement_by_head fuel (Some (Punctuator first)) = statement_by_mark language fuel first
  statement_by_head fuel (Some (Keyword first)) = statement_by_word language fuel first
  statement_by_head fuel _ = parse_declaration_statement fuel

  -- ---- A `for`, whose head is read in parts

  abbrev with_head : (fuel : ℕ) → Place → t.First → Option t.Expression → Option t.Assignment → Parser t.Statement
  with_head fuel place start x last = do parse_mark p.CloseParenthesis; b ← parse_block language (fuel - 1); give (t.For place start x last b)

  abbrev past_condition : (fuel : ℕ) → Place → t.First → Option t.Expression → Parser t.Statement
  past_condition fuel place start x =
      do parse_mark p.Semicolon; last ← parse_unless (is_mark p.CloseParenthesis) (parse_assignment fuel); with_head fuel place start x last

  abbrev past_start : (fuel : ℕ) → Place → t.First → Parser t.Statement
  past_start fuel place start = do parse_mark p.Semicolon; x ← parse_unless (is_mark p.Semicolon) (parse_expression fuel); past_condition fuel place start x

  abbrev past_word : (fuel : ℕ) → Place → Parser t.Statement
  past_word fuel place = do parse_mark p.OpenParenthesis; start ← parse_first fuel; past_start fuel place start

  end_is : (fuel : ℕ) (place : Place) (start : t.First) (x : Option t.Expression) (ts : List Token)
      → follow (parse_end_of_for fuel ts) (with_head fuel place start x) ≡ past_condition fuel place start x ts
  unfolding parse_end_of_for
  end_is fuel place start x ts = through (parse_mark p.Semicolon ts) _ _ _ (λ y rest. refl)

  middle_is : (fuel : ℕ) (place : Place) (start : t.First) (ts : List Token)
      → follow (parse_middle_of_for fuel ts) (λ x. parse_end_of_for fuel >>= with_head fuel place start x) ≡ past_start fuel place start ts
  unfolding parse_middle_of_for
  middle_is fuel place start ts =
      through (parse_mark p.Semicolon ts) _ _ _
      (λ y rest. same (parse_unless (is_mark p.Semicolon) (parse_expression fuel) rest) _ _ (λ x more. end_is fuel place start x more))

  start_is : (fuel : ℕ) (place : Place) (ts : List Token)
      → follow (parse_start_of_for fuel ts) (λ start. parse_middle_of_for fuel >>= λ x. parse_end_of_for fuel >>= with_head fuel place start x)
      ≡ past_word fuel place ts
  unfolding parse_start_of_for
  start_is fuel place ts =
      through (parse_mark p.OpenParenthesis ts) _ _ _ (λ y rest. same (parse_first fuel rest) _ _ (λ start more. middle_is fuel place start more))

  whole_is : (fuel : ℕ) (place : Place) (ts : List Token) → follow (parse_head_of_for fuel ts) (λ h. with_head fuel place h.start h.condition h.last)
      ≡ follow (parse_start_of_for fuel ts) (λ start. parse_middle_of_for fuel >>= λ x. parse_end_of_for fuel >>= with_head fuel place start x)
  unfolding parse_head_of_for
  whole_is fuel place ts =
      through (parse_start_of_for fuel ts) _ _ _ (λ start rest. through (parse_middle_of_for fuel rest) _ _ _
      (λ x more. through (parse_end_of_for fuel more) _ _ _ (λ last left. refl)))

  for_is : (fuel : ℕ) (ts : List Token) → statement_by language (parse_block language (fuel - 1)) fuel (Some (Keyword k.For)) ts ≡ parse_for language fuel ts
  unfolding parse_for
  for_is fuel ts = same (parse_word k.For ts) (past_word fuel) _ (λ place rest. sym (whole_is fuel place rest ∙ start_is fuel place rest))

  pub statement_none : (fuel : ℕ) (ts : List Token) → fuel ≡ 0 → parse_statement language fuel ts ≡ Wrong ts
  unfolding parse_statement
  statement_none fuel ts none = ap (λ n. parse_statement language n ts) none

  pub statement_some : (fuel : ℕ) (ts : List Token) → 0 < fuel → parse_statement language fuel ts ≡ by_head (statement_by_head fuel) ts
  unfolding parse_statement parse_named_statement parse_followed_statement parse_declaration_statement parse_assignment_statement
      parse_lock parse_unlock parse_if parse_while parse_do
  statement_some fuel ts some =
      let e : fuel ≡ suc (fuel - 1) = omega arith in
      ap (λ (n : ℕ). parse_statement language n ts) e ∙ ap (λ (n : ℕ). statement_over language (parse_block language (fuel - 1)) n ts) (sym e)
      ∙ by_lexeme (head_of ts)
    where
      by_word_is : (x : kw.Keyword) → statement_by language (parse_block language (fuel - 1)) fuel (Some (Keyword x)) ts ≡ statement_by_word language fuel x ts
      by_word_is k.If = refl
      by_word_is k.While = refl
      by_word_is k.Do = refl
      by_word_is k.For = for_is fuel ts
      by_word_is k.Lock = refl
      by_word_is k.Unlock = refl
      by_word_is _ = refl

      by_mark_is : (x : pn.Punctuator) →
          statement_by language (parse_block language (fuel - 1)) fuel (Some (Punctuator x)) ts ≡ statement_by_mark language fuel x ts
      by_mark_is p.OpenBrace = refl
      by_mark_is p.Semicolon = refl
      by_mark_is p.Increment = refl
      by_mark_is p.Decrement = refl
      by_mark_is _ = refl

      by_lexeme : (h : Option Lexeme) → statement_by language (parse_block language (fuel - 1)) fuel h ts ≡ statement_by_head fuel h ts
      by_lexeme None = refl
      by_lexeme (Some (Name bytes)) = refl
      by_lexeme (Some (Number value)) = refl
      by_lexeme (Some (Keyword x)) = by_word_is x
      by_lexeme (Some (Punctuator x)) = by_mark_is x

  -- ---- More statements

  statements_suc : (fuel count : ℕ) (found : t.Statements) (ts : List Token) → more_statements language fuel (suc count) found ts
      ≡ where_head (head_is begins_statement)
      (do x ← parse_statement language fuel; more_statements language fuel count (then_statements found (t.statement_and x t.no_statement)))
      (give found) ts
  unfolding more_statements
  statements_suc fuel count found ts =
      through_where (head_is begins_statement)
      (do x ← parse_statement language fuel; xs ← statements_over (parse_statement language fuel) count; give (t.statement_and x xs)) (give t.no_statement)
      (λ xs. give (then_statements found xs))
      (do x ← parse_statement language fuel; more_statements language fuel count (then_statements found (t.statement_and x t.no_statement))) (give found) ts
      (through (parse_statement language fuel ts) _ _ _ (λ x rest. last x (statements_over (parse_statement language fuel) count rest)))
      (ap (λ (xs : t.Statements). Read xs ts) (then_no_statement found))
    where
      last : (x : t.Statement) (r : Parsed t.Statements) → follow (follow r (λ xs. give (t.statement_and x xs))) (λ xs. give (then_statements found xs))
          ≡ follow r (λ xs. give (then_statements (then_statements found (t.statement_and x t.no_statement)) xs))
      last x (Read xs rest) = ap (λ (l : t.Statements). Read l rest) (then_one_statement found x xs)
      last x (Wrong rest) = refl

  pub statements_end : (fuel at : ℕ) (found : t.Statements) (ts : List Token) → fuel ≤ at → more_statements language fuel (fuel - at) found ts ≡ Wrong ts
  unfolding more_statements
  statements_end fuel at found ts done = let e : fuel - at ≡ 0 = omega arith in ap (λ n. more_statements language fuel n found ts) e

  pub statements_some : (fuel at : ℕ) (found : t.Statements) (ts : List Token) → at < fuel → more_statements language fuel (fuel - at) found ts
      ≡ where_head (head_is begins_statement) (do
        x ← parse_statement language fuel
        more_statements language fuel (fuel - (at + 1)) (then_statements found (t.statement_and x t.no_statement))) (give found) ts
  statements_some fuel at found ts below =
      let e : fuel - at ≡ suc (fuel - (at + 1)) = omega arith in
      ap (λ n. more_statements language fuel n found ts) e ∙ statements_suc fuel (fuel - (at + 1)) found ts

  pub statements_start : (fuel : ℕ) (ts : List Token) → parse_statements language fuel ts ≡ more_statements language fuel (fuel - 0) t.no_statement ts
  unfolding more_statements
  statements_start fuel ts =
      let e : fuel ≡ fuel - 0 = omega arith in
      same (statements_over (parse_statement language fuel) fuel ts) ∙ ap (λ n. more_statements language fuel n t.no_statement ts) e
    where
      same : (r : Parsed t.Statements) → r ≡ follow r (λ xs. give xs)
      same (Read xs rest) = refl
      same (Wrong rest) = refl

  -- ---- More arms

  abbrev in_arm : t.Expression → t.Block → t.Expression × t.Block
  in_arm x b = (x, b)

  abbrev last_block : t.Block → t.Arms × t.Otherwise
  last_block b = (t.no_arm, t.Else b)

  abbrev no_block : t.Arms × t.Otherwise
  no_block = (t.no_arm, t.Nothing)

  after_block : (place : Place) (found : t.Arms) (x : t.Expression) (b : t.Block) (r : Parsed (t.Arms × t.Otherwise))
      → follow (follow r (λ rest. give (with_arm x b rest))) (λ rest. give (t.If place (then_arms found rest.0) rest.1))
      ≡ follow r (λ rest. give (t.If place (then_arms (then_arms found (t.arm_and x b t.no_arm)) rest.0) rest.1))
  after_block place found x b (Read rest ts) = ap (λ (l : t.Arms). Read (t.If place l rest.1) ts) (then_one_arm found x b rest.0)
  after_block place found x b (Wrong ts) = refl

  after_if : (fuel count : ℕ) (place : Place) (found : t.Arms) (ts : List Token)
      →
      follow ((do x ← parse_condition (suc count); b ← parse_block language fuel; rest ← arms_after (parse_block language fuel) count; give (with_arm x b rest))
      ts)
      (λ rest. give (t.If place (then_arms found rest.0) rest.1))
      ≡ (do a ← parse_arm language (suc count) fuel; more_arms language fuel count place (then_arms found (t.arm_and a.0 a.1 t.no_arm))) ts
  unfolding more_arms
  after_if fuel count place found ts = at_condition (parse_condition (suc count) ts)
    where
      at_block : (x : t.Expression) (r : Parsed t.Block)
          → follow (follow r (λ b. arms_after (parse_block language fuel) count >>= λ rest. give (with_arm x b rest)))
          (λ rest. give (t.If place (then_arms found rest.0) rest.1))
          ≡ follow (follow r (λ b. give (in_arm x b))) (λ a. more_arms language fuel count place (then_arms found (t.arm_and a.0 a.1 t.no_arm)))
      at_block x (Read b rest) = after_block place found x b (arms_after (parse_block language fuel) count rest)
      at_block x (Wrong rest) = refl

      at_condition : (r : Parsed t.Expression)
          → follow (follow r (λ x. parse_block language fuel >>= λ b. arms_after (parse_block language fuel) count >>= λ rest. give (with_arm x b rest)))
          (λ rest. give (t.If place (then_arms found rest.0) rest.1))
          ≡ follow (follow r (λ x. parse_block language fuel >>= λ b. give (in_arm x b)))
          (λ a. more_arms language fuel count place (then_arms found (t.arm_and a.0 a.1 t.no_arm)))
      at_condition (Read x rest) = at_block x (parse_block language fuel rest)
      at_condition (Wrong rest) = refl

  after_else : (fuel : ℕ) (place : Place) (found : t.Arms) (ts : List Token)
      → follow ((do b ← parse_block language fuel; give (last_block b)) ts) (λ rest. give (t.If place (then_arms found rest.0) rest.1))
      ≡ (do b ← parse_block language fuel; give (t.If place found (t.Else b))) ts
  after_else fuel place found ts = go (parse_block language fuel ts)
    where
      go : (r : Parsed t.Block) → follow (follow r (λ b. give (last_block b))) (λ rest. give (t.If place (then_arms found rest.0) rest.1))
          ≡ follow r (λ b. give (t.If place found (t.Else b)))
      go (Read b rest) = ap (λ (l : t.Arms). Read (t.If place l (t.Else b)) rest) (then_no_arm found)
      go (Wrong rest) = refl

  arms_suc : (fuel count : ℕ) (place : Place) (found : t.Arms) (ts : List Token) → more_arms language fuel (suc count) place found ts
      ≡ where_head (head_is (is_word k.Else))
      (do
        parse_word k.Else
        where_head (head_is (is_word k.If))
            (do parse_word k.If; a ← parse_arm language (suc count) fuel; more_arms language fuel count place (then_arms found (t.arm_and a.0 a.1 t.no_arm)))
            (do b ← parse_block language fuel; give (t.If place found (t.Else b))))
      (give (t.If place found t.Nothing)) ts
  unfolding more_arms
  arms_suc fuel count place found ts =
      through_where (head_is (is_word k.Else))
      (do
        parse_word k.Else
        where_head (head_is (is_word k.If))
            (do
              parse_word k.If
              x ← parse_condition (suc count)
              b ← parse_block language fuel
              rest ← arms_after (parse_block language fuel) count
              give (with_arm x b rest))
            (do b ← parse_block language fuel; give (last_block b)))
      (give no_block)
      (λ rest. give (t.If place (then_arms found rest.0) rest.1))
      (do
        parse_word k.Else
        where_head (head_is (is_word k.If))
            (do parse_word k.If; a ← parse_arm language (suc count) fuel; more_arms language fuel count place (then_arms found (t.arm_and a.0 a.1 t.no_arm)))
            (do b ← parse_block language fuel; give (t.If place found (t.Else b))))
      (give (t.If place found t.Nothing)) ts
      (through (parse_word k.Else ts) _ _ _ (λ w us.
      through_where (head_is (is_word k.If))
      (do
        parse_word k.If
        x ← parse_condition (suc count)
        b ← parse_block language fuel
        rest ← arms_after (parse_block language fuel) count
        give (with_arm x b rest))
      (do b ← parse_block language fuel; give (last_block b))
      (λ rest. give (t.If place (then_arms found rest.0) rest.1))
      (do parse_word k.If; a ← parse_arm language (suc count) fuel; more_arms language fuel count place (then_arms found (t.arm_and a.0 a.1 t.no_arm)))
      (do b ← parse_block language fuel; give (t.If place found (t.Else b))) us
      (through (parse_word k.If us) _ _ _ (λ x rest. after_if fuel count place found rest))
      (after_else fuel place found us)))
      (ap (λ (l : t.Arms). Read (t.If place l t.Nothing) ts) (then_no_arm found))

  pub arms_end : (fuel total at : ℕ) (place : Place) (found : t.Arms) (ts : List Token) → total ≤ at →
      more_arms language fuel (total - at) place found ts ≡ Wrong ts
  unfolding more_arms
  arms_end fuel total at place found ts done = let e : total - at ≡ 0 = omega arith in ap (λ n. more_arms language fuel n place found ts) e

  pub arms_some : (fuel total at : ℕ) (place : Place) (found : t.Arms) (ts : List Token) → at < total → more_arms language fuel (total - at) place found ts
      ≡ where_head (head_is (is_word k.Else))
      (do
        parse_word k.Else
        where_head (head_is (is_word k.If))
            (do
              parse_word k.If
              a ← parse_arm language (total - at) fuel
              more_arms language fuel (total - (at + 1)) place (then_arms found (t.arm_and a.0 a.1 t.no_arm)))
            (do b ← parse_block language fuel; give (t.If place found (t.Else b))))
      (give (t.If place found t.Nothing)) ts
  arms_some fuel total at place found ts below =
      let e : total - at ≡ suc (total - (at + 1)) = omega arith in
      ap (λ n. more_arms language fuel n place found ts) e
      ∙ arms_suc fuel (total - (at + 1)) place found ts
      ∙ ap (λ (n : ℕ). where_head (head_is (is_word k.Else))
      (do
        parse_word k.Else
        where_head (head_is (is_word k.If))
            (do parse_word k.If; a ← parse_arm language n fuel; more_arms language fuel (total - (at + 1)) place (then_arms found (t.arm_and a.0 a.1 t.no_arm)))
            (do b ← parse_block language fuel; give (t.If place found (t.Else b))))
      (give (t.If place found t.Nothing)) ts) (sym e)

  pub if_start : (fuel : ℕ) (ts : List Token) → parse_if language fuel ts
      ≡ (do place ← parse_word k.If; a ← parse_arm language fuel (fuel - 1); more_arms language (fuel - 1) (fuel - 0) place (t.arm_and a.0 a.1 t.no_arm)) ts
  unfolding parse_if more_arms
  if_start fuel ts = at_word (parse_word k.If ts)
    where
      at_block : (place : Place) (x : t.Expression) (r : Parsed t.Block)
          → follow r (λ b. arms_after (parse_block language (fuel - 1)) fuel >>= λ rest. give (if_of place (with_arm x b rest)))
          ≡ follow (follow r (λ b. give (in_arm x b))) (λ a. more_arms language (fuel - 1) (fuel - 0) place (t.arm_and a.0 a.1 t.no_arm))
      at_block place x (Read b rest) = let e : fuel ≡ fuel - 0 = omega arith in ap (λ n. more_arms language (fuel - 1) n place (t.arm_and x b t.no_arm) rest) e
      at_block place x (Wrong rest) = refl

      at_condition : (place : Place) (r : Parsed t.Expression)
          → follow r (λ x. parse_block language (fuel - 1) >>= λ b. arms_after (parse_block language (fuel - 1)) fuel >>= λ rest.
          give (if_of place (with_arm x b rest)))
          ≡ follow (follow r (λ x. parse_block language (fuel - 1) >>= λ b. give (in_arm x b)))
          (λ a. more_arms language (fuel - 1) (fuel - 0) place (t.arm_and a.0 a.1 t.no_arm))
      at_condition place (Read x rest) = at_block place x (parse_block language (fuel - 1) rest)
      at_condition place (Wrong rest) = refl

      at_word : (r : Parsed Place)
          → follow r (λ place. parse_condition fuel >>= λ x. parse_block language (fuel - 1) >>= λ b. arms_after (parse_block language (fuel - 1)) fuel
          >>= λ rest. give (if_of place (with_arm x b rest)))
          ≡ follow r (λ place. parse_arm language fuel (fuel - 1) >>= λ a. more_arms language (fuel - 1) (fuel - 0) place (t.arm_and a.0 a.1 t.no_arm))
      at_word (Read place rest) = at_condition place (parse_condition fuel rest)
      at_word (Wrong rest) = refl
