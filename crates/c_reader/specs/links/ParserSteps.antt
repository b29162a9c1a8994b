-- Steps of the parser that functions of the code take. Each of the later ones is opaque, so that no goal holds the precedences of all operators.
use Rattle.std.specs.Prelude.{ℕ, ◌-◌, List, [], ◌∷◌, ◌++◌, Option, Bool, true, false}
use Rattle.ido_base.specs.declared.place.Place.{Place}
use Rattle.ido_ints.specs.declared.operators.Unary.{Unary}
use Rattle.ido_ints.specs.declared.operators.Binary.{Binary}
use Rattle.c_tree.specs.declared.language.Language.{Language}
use Rattle.c_tree.specs.Tokens.{Token}
use Rattle.c_tree.specs.Trees as t
use Rattle.c_tree.specs.declared.token.Keyword.{Keyword}
use Rattle.c_tree.specs.declared.token.Keyword.TheVariants as k
use Rattle.c_tree.specs.declared.token.Punctuator.{Punctuator}
use Rattle.c_tree.specs.declared.token.Punctuator.TheVariants as p
use Rattle.c_reader.specs.links.ParserFunctions.{Parser, give, ◌>>=◌, ◌>>◌, is_mark, ended, declaration_over, with_arm, if_of, arms_after}
use Rattle.c_reader.specs.links.ParserFunctions.{statements_over, items_over, parse_statement, parse_item, parse_items, parse_persistent}
use Rattle.c_reader.specs.links.ParserFunctions.{parse_function, parse_initialiser, parse_signed, parse_numbers_to_end, parse_more_of}
use Rattle.c_reader.specs.links.ParserFunctions.{parse_mark, parse_word, parse_name, parse_lock_name, parse_mutex_length}
use Rattle.c_reader.specs.links.ParserFunctions.{parse_expression, parse_assignment, parse_condition, parse_unless, parse_first}
use Rattle.c_reader.specs.links.ParserFunctions.{parse_block, taking, unary_in, update_in, operators_at, operators_after}
use Rattle.c_reader.specs.links.ParserFunctions.{parse_operand, expression_after_name, right_after_name, parse_right}
use Rattle.c_reader.specs.links.ParserFunctions.{parse_initial, parse_followed, statement_after_target, statement_after_name}

-- an operator with one operand
abbrev pub parse_unary : Parser (Place × Unary)
parse_unary = taking unary_in

-- the operator of an update
abbrev pub parse_update : Parser Binary
parse_update = taking update_in

-- the operators of the so many greatest precedences after an operand
unfoldable pub operators_past : (fuel levels : ℕ) → (left : t.Expression) → Parser t.Expression
operators_past fuel levels left ts = operators_after (parse_operand fuel) fuel levels left ts

-- an operand and the operators of so many precedences after it
abbrev pub right_operand : (fuel levels : ℕ) → Parser t.Expression
right_operand fuel levels = parse_operand fuel >>= operators_past fuel levels

-- at most so many operators of the next precedence after a left operand
unfoldable pub operators_from : (fuel levels count : ℕ) → (left : t.Expression) → Parser t.Expression
operators_from fuel levels count left ts = operators_at (10 - levels) (right_operand fuel levels) count left ts

-- what was found, and at most so many more with commas before them
unfoldable pub more_of : {A : Type 0} → (part : Parser A) → (count : ℕ) → (found : List A) → Parser (List A)
more_of part count found = parse_more_of count part >>= λ xs. give (found ++ xs)

-- the expression that begins with this name, read from after the name
unfoldable pub expression_past_name : (fuel : ℕ) → t.Name → Parser t.Expression
expression_past_name fuel x ts = expression_after_name fuel x ts

-- a call of this name, or the expression that begins with it, read from after the name
unfoldable pub right_past_name : (fuel : ℕ) → t.Name → Parser t.Initial
right_past_name fuel x ts = right_after_name fuel x ts

-- an expression or a call
unfoldable pub right_side : (fuel : ℕ) → Parser t.Initial
right_side fuel ts = parse_right fuel ts

-- what a local begins with, where it is written
unfoldable pub maybe_initial : (fuel : ℕ) → Parser t.Initial
maybe_initial fuel ts = parse_initial fuel ts

-- what stands after the target of a statement
unfoldable pub statement_past_target : (fuel : ℕ) → t.Lvalue → Parser t.Statement
statement_past_target fuel x ts = statement_after_target fuel x ts

-- what stands after the name that a statement begins with
unfoldable pub statement_past_name : (fuel : ℕ) → t.Name → Parser t.Statement
statement_past_name fuel x ts = statement_after_name fuel x ts

-- the kinds of statements, by their first tokens
unfoldable pub parse_named_statement : (fuel : ℕ) → Parser t.Statement
parse_named_statement fuel ts = ended (do x ← parse_name; statement_after_name fuel x) ts

unfoldable pub parse_followed_statement : (fuel : ℕ) → Parser t.Statement
parse_followed_statement fuel ts = ended (do x ← parse_followed; statement_after_target fuel x) ts

unfoldable pub parse_declaration_statement : (fuel : ℕ) → Parser t.Statement
parse_declaration_statement fuel ts = ended (do x ← declaration_over (parse_initial fuel); give (t.Declare x)) ts

unfoldable pub parse_assignment_statement : (fuel : ℕ) → Parser t.Statement
parse_assignment_statement fuel ts = ended (do x ← parse_assignment fuel; give (t.Assign x)) ts

unfoldable pub parse_lock : Language → (fuel : ℕ) → Parser t.Statement
parse_lock l fuel ts = (do place ← parse_word k.Lock; x ← parse_lock_name l fuel; parse_mark p.Semicolon; give (t.Lock place x.0 x.1)) ts

unfoldable pub parse_unlock : Language → (fuel : ℕ) → Parser t.Statement
parse_unlock l fuel ts = (do place ← parse_word k.Unlock; x ← parse_lock_name l fuel; parse_mark p.Semicolon; give (t.Unlock place x.0 x.1)) ts

unfoldable pub parse_if : Language → (fuel : ℕ) → Parser t.Statement
parse_if l fuel ts = (do
  place ← parse_word k.If
  x ← parse_condition fuel
  b ← parse_block l (fuel - 1)
  rest ← arms_after (parse_block l (fuel - 1)) fuel
  give (if_of place (with_arm x b rest))) ts

unfoldable pub parse_while : Language → (fuel : ℕ) → Parser t.Statement
parse_while l fuel ts = (do place ← parse_word k.While; x ← parse_condition fuel; b ← parse_block l (fuel - 1); give (t.While place x b)) ts

unfoldable pub parse_do : Language → (fuel : ℕ) → Parser t.Statement
parse_do l fuel ts = (do
  place ← parse_word k.Do
  b ← parse_block l (fuel - 1)
  parse_word k.While
  x ← parse_condition fuel
  parse_mark p.Semicolon
  give (t.Do place b x)) ts

-- the head of a `for`, in parts: each takes the token before it
pub record ForHead : Type 0 where
  pub start : t.First
  pub condition : Option t.Expression
  pub last : Option t.Assignment

unfoldable pub parse_start_of_for : (fuel : ℕ) → Parser t.First
parse_start_of_for fuel ts = (do parse_mark p.OpenParenthesis; parse_first fuel) ts

unfoldable pub parse_middle_of_for : (fuel : ℕ) → Parser (Option t.Expression)
parse_middle_of_for fuel ts = (do parse_mark p.Semicolon; parse_unless (is_mark p.Semicolon) (parse_expression fuel)) ts

unfoldable pub parse_end_of_for : (fuel : ℕ) → Parser (Option t.Assignment)
parse_end_of_for fuel ts = (do parse_mark p.Semicolon; parse_unless (is_mark p.CloseParenthesis) (parse_assignment fuel)) ts

unfoldable pub parse_head_of_for : (fuel : ℕ) → Parser ForHead
parse_head_of_for fuel ts = (do
  start ← parse_start_of_for fuel
  x ← parse_middle_of_for fuel
  last ← parse_end_of_for fuel
  give (record { start = start; condition = x; last = last })) ts

unfoldable pub parse_for : Language → (fuel : ℕ) → Parser t.Statement
parse_for l fuel ts = (do
  place ← parse_word k.For
  head ← parse_head_of_for fuel
  parse_mark p.CloseParenthesis
  b ← parse_block l (fuel - 1)
  give (t.For place head.start head.condition head.last b)) ts

-- by the first token of a statement, where it is a reserved word or a punctuator
abbrev pub statement_by_word : Language → (fuel : ℕ) → Keyword → Parser t.Statement
statement_by_word l fuel k.If = parse_if l fuel
statement_by_word l fuel k.While = parse_while l fuel
statement_by_word l fuel k.Do = parse_do l fuel
statement_by_word l fuel k.For = parse_for l fuel
statement_by_word l fuel k.Lock = parse_lock l fuel
statement_by_word l fuel k.Unlock = parse_unlock l fuel
statement_by_word l fuel _ = parse_declaration_statement fuel

abbrev pub statement_by_mark : Language → (fuel : ℕ) → Punctuator → Parser t.Statement
statement_by_mark l fuel p.OpenBrace = do b ← parse_block l (fuel - 1); give (t.BlockOf b)
statement_by_mark l fuel p.Semicolon = do place ← parse_mark p.Semicolon; give (t.Empty place)
statement_by_mark l fuel p.Star = parse_followed_statement fuel
statement_by_mark l fuel p.Increment = parse_assignment_statement fuel
statement_by_mark l fuel p.Decrement = parse_assignment_statement fuel
statement_by_mark l fuel _ = parse_declaration_statement fuel

-- a condition and its block
abbrev pub parse_arm : Language → (fuel_of_condition fuel : ℕ) → Parser (t.Expression × t.Block)
parse_arm l fuel_of_condition fuel = do x ← parse_condition fuel_of_condition; b ← parse_block l fuel; give (x, b)

-- ---- What was found, and at most so much more

abbrev pub then_statements : t.Statements → t.Statements → t.Statements
then_statements t.no_statement more = more
then_statements (t.statement_and x rest) more = t.statement_and x (then_statements rest more)

abbrev pub then_arms : t.Arms → t.Arms → t.Arms
then_arms t.no_arm more = more
then_arms (t.arm_and x b rest) more = t.arm_and x b (then_arms rest more)

unfoldable pub more_statements : Language → (fuel count : ℕ) → (found : t.Statements) → Parser t.Statements
more_statements l fuel count found = statements_over (parse_statement l fuel) count >>= λ xs. give (then_statements found xs)

unfoldable pub more_arms : Language → (fuel count : ℕ) → (place : Place) → (found : t.Arms) → Parser t.Statement
more_arms l fuel count place found = arms_after (parse_block l fuel) count >>= λ rest. give (t.If place (then_arms found rest.0) rest.1)

-- ---- Items

-- the numbers in braces after the opening one, and the closing brace
unfoldable pub parse_numbers : (fuel : ℕ) → Parser (List t.Signed)
parse_numbers fuel = do x ← parse_signed; xs ← parse_numbers_to_end fuel; give (x ∷ xs)

-- `=` and what a persistent variable begins with
unfoldable pub parse_assigned : (fuel : ℕ) → Parser t.Initialiser
parse_assigned fuel = do parse_mark p.Assign; parse_initialiser fuel

-- the kinds of items, by their first words
unfoldable pub parse_mutex_item : Language → Parser t.Item
parse_mutex_item l = do parse_word k.Mutex; x ← parse_name; y ← parse_mutex_length l; parse_mark p.Semicolon; give (t.MutexItem x y)

unfoldable pub parse_persistent_item : Language → (fuel : ℕ) → Parser t.Item
parse_persistent_item l fuel = do x ← parse_persistent l fuel; give (t.PersistentItem x)

unfoldable pub parse_thread_item : Language → (fuel : ℕ) → Parser t.Item
parse_thread_item l fuel = do parse_word k.Thread; x ← parse_name; b ← parse_block l fuel; give (t.ThreadItem (record { name = x; block = b }))

unfoldable pub parse_function_item : Language → (fuel : ℕ) → Parser t.Item
parse_function_item l fuel = do x ← parse_function l fuel; give (t.FunctionItem x)

-- an item, and all of them
unfoldable pub one_item : Language → (fuel : ℕ) → Parser t.Item
one_item l fuel = parse_item l fuel

unfoldable pub all_items : Language → (fuel : ℕ) → Parser (List t.Item)
all_items l fuel = parse_items l fuel

-- no token is left
abbrev pub at_end : List Token → Bool
at_end [] = true
at_end (x ∷ ts) = false

unfoldable pub more_numbers : (count : ℕ) → (found : List t.Signed) → Parser (List t.Signed)
more_numbers count found = parse_numbers_to_end count >>= λ xs. give (found ++ xs)

unfoldable pub more_items : Language → (fuel count : ℕ) → (found : List t.Item) → Parser (List t.Item)
more_items l fuel count found = items_over (one_item l fuel) count >>= λ xs. give (found ++ xs)
