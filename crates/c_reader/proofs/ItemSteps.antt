-- The parser's steps at items: one equation for each.
use Rattle.std.proofs.Common.{◌≡◌, ℕ, suc, ◌+◌, ◌-◌, ◌<◌, ◌≤◌, List, [], ◌∷◌, ◌++◌, Option, Some, Bool, true, false, refl, ap, ◌∙◌, append-nil, arith}
use Rattle.ido_base.specs.declared.place.Place.{Place}
use Rattle.c_tree.specs.declared.language.Language.{Language}
use Rattle.c_tree.specs.Tokens.{Token, Lexeme, Keyword}
use Rattle.c_tree.specs.declared.token.Keyword.TheVariants as k
use Rattle.c_tree.specs.declared.token.Punctuator.TheVariants as p
use Rattle.c_tree.specs.Trees as t
use Rattle.c_reader.specs.links.ParserFunctions.{Parsed, Parser, Read, Wrong, give, follow, ◌>>=◌, ◌>>◌, by_head, where_head, head_is}
use Rattle.c_reader.specs.links.ParserFunctions.{is_mark, parse_mark, parse_signed, parse_numbers_to_end, parse_initialiser, items_over}
use Rattle.c_reader.specs.links.ParserSteps.{parse_numbers, parse_mutex_item, parse_persistent_item, parse_thread_item}
use Rattle.c_reader.specs.links.ParserSteps.{parse_function_item, one_item, all_items, at_end, more_numbers, more_items}
use Rattle.c_reader.proofs.ParserStepEquations.{one_more}
use Rattle.c_reader.proofs.Blocks.{through, through_where, by_same}

-- ---- Numbers of an initialiser

after_number : (count : ℕ) (found : List t.Signed) (ts : List Token)
    → follow ((do x ← parse_signed; xs ← parse_numbers_to_end count; give (x ∷ xs)) ts) (λ xs. give (found ++ xs))
    ≡ (do x ← parse_signed; more_numbers count (found ++ x ∷ [])) ts
unfolding more_numbers
after_number count found ts = go (parse_signed ts)
  where
    go : (r : Parsed t.Signed) → follow (follow r (λ x. parse_numbers_to_end count >>= λ xs. give (x ∷ xs))) (λ xs. give (found ++ xs))
        ≡ follow r (λ x. more_numbers count (found ++ x ∷ []))
    go (Read x rest) = one_more found x (parse_numbers_to_end count rest)
    go (Wrong rest) = refl

abbrev no_numbers : List t.Signed
no_numbers = []

closed : (found : List t.Signed) (ts : List Token) → follow ((do parse_mark p.CloseBrace; give no_numbers) ts) (λ xs. give (found ++ xs))
    ≡ (do parse_mark p.CloseBrace; give found) ts
closed found ts = go (parse_mark p.CloseBrace ts)
  where
    go : (r : Parsed Place) → follow (follow r (λ c. give no_numbers)) (λ xs. give (found ++ xs)) ≡ follow r (λ c. give found)
    go (Read c rest) = ap (λ (l : List t.Signed). Read l rest) (append-nil found)
    go (Wrong rest) = refl

numbers_suc : (count : ℕ) (found : List t.Signed) (ts : List Token) → more_numbers (suc count) found ts
    ≡ where_head (head_is (is_mark p.Comma))
    (do
      parse_mark p.Comma
      where_head (head_is (is_mark p.CloseBrace))
          (do parse_mark p.CloseBrace; give found)
          (do x ← parse_signed; more_numbers count (found ++ x ∷ [])))
    (do parse_mark p.CloseBrace; give found) ts
unfolding more_numbers
numbers_suc count found ts =
    through_where (head_is (is_mark p.Comma))
    (do
      parse_mark p.Comma
      where_head (head_is (is_mark p.CloseBrace))
          (do parse_mark p.CloseBrace; give no_numbers)
          (do x ← parse_signed; xs ← parse_numbers_to_end count; give (x ∷ xs)))
    (do parse_mark p.CloseBrace; give no_numbers)
    (λ xs. give (found ++ xs))
    (do
      parse_mark p.Comma
      where_head (head_is (is_mark p.CloseBrace))
          (do parse_mark p.CloseBrace; give found)
          (do x ← parse_signed; more_numbers count (found ++ x ∷ [])))
    (do parse_mark p.CloseBrace; give found) ts
    (through (parse_mark p.Comma ts) _ _ _ (λ c us.
    through_where (head_is (is_mark p.CloseBrace))
    (do parse_mark p.CloseBrace; give no_numbers)
    (do x ← parse_signed; xs ← parse_numbers_to_end count; give (x ∷ xs))
    (λ xs. give (found ++ xs))
    (do parse_mark p.CloseBrace; give found)
    (do x ← parse_signed; more_numbers count (found ++ x ∷ [])) us
    (closed found us)
    (after_number count found us)))
    (closed found ts)

pub numbers_end : (fuel at : ℕ) (found : List t.Signed) (ts : List Token) → fuel ≤ at → more_numbers (fuel - at) found ts ≡ Wrong ts
unfolding more_numbers
numbers_end fuel at found ts done = let e : fuel - at ≡ 0 = omega arith in ap (λ n. more_numbers n found ts) e

pub numbers_some : (fuel at : ℕ) (found : List t.Signed) (ts : List Token) → at < fuel → more_numbers (fuel - at) found ts
    ≡ where_head (head_is (is_mark p.Comma))
    (do
      parse_mark p.Comma
      where_head (head_is (is_mark p.CloseBrace))
          (do parse_mark p.CloseBrace; give found)
          (do x ← parse_signed; more_numbers (fuel - (at + 1)) (found ++ x ∷ [])))
    (do parse_mark p.CloseBrace; give found) ts
numbers_some fuel at found ts below =
    let e : fuel - at ≡ suc (fuel - (at + 1)) = omega arith in ap (λ n. more_numbers n found ts) e ∙ numbers_suc (fuel - (at + 1)) found ts

pub numbers_start : (fuel : ℕ) (ts : List Token) → parse_numbers fuel ts ≡ (do x ← parse_signed; more_numbers (fuel - 0) (x ∷ [])) ts
unfolding parse_numbers more_numbers
numbers_start fuel ts = let e : fuel ≡ fuel - 0 = omega arith in ap (λ (n : ℕ). follow (parse_signed ts) (λ x. more_numbers n (x ∷ []))) e

pub initialiser_is : (fuel : ℕ) (ts : List Token) → parse_initialiser fuel ts
    ≡ where_head (head_is (is_mark p.OpenBrace)) (do place ← parse_mark p.OpenBrace; xs ← parse_numbers fuel; give (t.InBraces place xs))
    (do x ← parse_signed; give (t.Single x)) ts
unfolding parse_numbers
initialiser_is fuel ts = same (head_is (is_mark p.OpenBrace))
  where
    at_numbers : (place : Place) (x : t.Signed) (r : Parsed (List t.Signed))
        → follow r (λ xs. give (t.InBraces place (x ∷ xs))) ≡ follow (follow r (λ xs. give (x ∷ xs))) (λ xs. give (t.InBraces place xs))
    at_numbers place x (Read xs rest) = refl
    at_numbers place x (Wrong rest) = refl

    at_first : (place : Place) (r : Parsed t.Signed)
        → follow r (λ x. parse_numbers_to_end fuel >>= λ xs. give (t.InBraces place (x ∷ xs)))
        ≡ follow (follow r (λ x. parse_numbers_to_end fuel >>= λ xs. give (x ∷ xs))) (λ xs. give (t.InBraces place xs))
    at_first place (Read x rest) = at_numbers place x (parse_numbers_to_end fuel rest)
    at_first place (Wrong rest) = refl

    at_brace : (r : Parsed Place)
        → follow r (λ place. parse_signed >>= λ x. parse_numbers_to_end fuel >>= λ xs. give (t.InBraces place (x ∷ xs)))
        ≡ follow r (λ place. parse_numbers fuel >>= λ xs. give (t.InBraces place xs))
    at_brace (Read place rest) = at_first place (parse_signed rest)
    at_brace (Wrong rest) = refl

    same : (test : Option Lexeme → Bool)
        → where_head test (do place ← parse_mark p.OpenBrace; x ← parse_signed; xs ← parse_numbers_to_end fuel; give (t.InBraces place (x ∷ xs)))
        (do x ← parse_signed; give (t.Single x)) ts
        ≡ where_head test (do place ← parse_mark p.OpenBrace; xs ← parse_numbers fuel; give (t.InBraces place xs)) (do x ← parse_signed; give (t.Single x)) ts
    same test =
        by_same test (do place ← parse_mark p.OpenBrace; x ← parse_signed; xs ← parse_numbers_to_end fuel; give (t.InBraces place (x ∷ xs)))
        (do place ← parse_mark p.OpenBrace; xs ← parse_numbers fuel; give (t.InBraces place xs)) (do x ← parse_signed; give (t.Single x))
        (do x ← parse_signed; give (t.Single x)) ts
        (at_brace (parse_mark p.OpenBrace ts)) refl

module _ (language : Language) where
  -- ---- Items

  abbrev pub item_by_head : (fuel : ℕ) → Option Lexeme → Parser t.Item
  item_by_head fuel (Some (Keyword k.Mutex)) = parse_mutex_item language
  item_by_head fuel (Some (Keyword k.Persistent)) = parse_persistent_item language fuel
  item_by_head fuel (Some (Keyword k.Thread)) = parse_thread_item language fuel
  item_by_head fuel _ = parse_function_item language fuel

  pub item_is : (fuel : ℕ) (ts : List Token) → one_item language fuel ts ≡ by_head (item_by_head fuel) ts
  unfolding one_item parse_mutex_item parse_persistent_item parse_thread_item parse_function_item
  item_is fuel ts = refl

  items_suc : (fuel count : ℕ) (found : List t.Item) (ts : List Token)
      → more_items language fuel (suc count) found ts ≡ elim (at_end ts) as (λ p. Parsed (List t.Item))
      [ true ↦ Read found ts | false ↦ follow (one_item language fuel ts) (λ y. more_items language fuel count (found ++ y ∷ [])) ]
  unfolding more_items
  items_suc fuel count found [] = ap (λ (l : List t.Item). Read l []) (append-nil found)
  items_suc fuel count found (x ∷ ts) =
      through (one_item language fuel (x ∷ ts)) _ _ _ (λ y rest. one_more found y (items_over (one_item language fuel) count rest))

  pub items_end : (fuel at : ℕ) (found : List t.Item) (ts : List Token) → fuel ≤ at → more_items language fuel (fuel - at) found ts ≡ Wrong ts
  unfolding more_items
  items_end fuel at found ts done = let e : fuel - at ≡ 0 = omega arith in ap (λ n. more_items language fuel n found ts) e

  pub items_some : (fuel at : ℕ) (found : List t.Item) (ts : List Token) → at < fuel → more_items language fuel (fuel - at) found ts
      ≡ elim (at_end ts) as (λ p. Parsed (List t.Item)) [
        | true ↦ Read found ts
        | false ↦ follow (one_item language fuel ts)
            (λ y. more_items language fuel (fuel - (at + 1)) (found ++ y ∷ []))
      ]
  items_some fuel at found ts below =
      let e : fuel - at ≡ suc (fuel - (at + 1)) = omega arith in ap (λ n. more_items language fuel n found ts) e ∙ items_suc fuel (fuel - (at + 1)) found ts

  pub items_start : (fuel : ℕ) (ts : List Token) → all_items language fuel ts ≡ (do x ← one_item language fuel; more_items language fuel (fuel - 0) (x ∷ [])) ts
  unfolding all_items one_item more_items
  items_start fuel ts = let e : fuel ≡ fuel - 0 = omega arith in ap (λ (n : ℕ). follow (one_item language fuel ts) (λ x. more_items language fuel n (x ∷ []))) e
