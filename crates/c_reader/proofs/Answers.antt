-- From what the parser's function reads to what the parser makes of tokens.
use Rattle.std.proofs.Common.{◌≡◌, ℕ, suc, ◌+◌, ◌-◌, ◌<◌, ◌≤◌, List, [], ◌∷◌, ◌++◌, length, drop, ap, sym, ◌∙◌, length-append, refl, arith}
use Rattle.std.proofs.lemmas.List.{length-map}
use Rattle.c_tree.specs.declared.language.Language.{Language}
use Rattle.c_tree.specs.Tokens as t
use Rattle.c_tree.specs.Trees.{Item}
use Rattle.c_reader.specs.declared.token.Token.{Token}
use Rattle.c_reader.specs.links.Tokens.{token_of, tokens_of}
use Rattle.c_reader.specs.links.ParserFunctions.{Read, Wrong, parse_program}
use Rattle.c_reader.specs.links.ParserSteps.{all_items}
use Rattle.c_reader.proofs.WholePrograms.{program_read, program_wrong}

module _ (language : Language) where
  program_is : (xs : List Token) → parse_program language (tokens_of xs) ≡ all_items language (length xs + 1) (tokens_of xs)
  unfolding parse_program all_items
  program_is xs = let e : suc (length (tokens_of xs)) ≡ length xs + 1 = omega (arith, length-map xs token_of) in
      ap (λ (n : ℕ). all_items language n (tokens_of xs)) e

  pub whole_program : (xs : List Token) (items : List Item) (left : List t.Token) → all_items language (length xs + 1) (tokens_of xs) ≡ Read items left
      → parse_program language (tokens_of xs) ≡ Read items []
  whole_program xs items left h =
      let e : parse_program language (tokens_of xs) ≡ Read items left = program_is xs ∙ h in
      e ∙ ap (λ (l : List t.Token). Read items l) (program_read language (tokens_of xs) items left e).0

  drop_prefix : (us vs : List t.Token) → drop (length us) (us ++ vs) ≡ vs
  drop_prefix [] vs = refl
  drop_prefix (u ∷ us) vs = drop_prefix us vs

  -- the tokens from the wrong one on
  abbrev pub IsRest : List Token → ℕ → Type 0
  IsRest xs index = (index < length (tokens_of xs)) × (parse_program language (tokens_of xs) ≡ Wrong (drop index (tokens_of xs)))

  pub wrong_program : (xs : List Token) (left : List t.Token) → all_items language (length xs + 1) (tokens_of xs) ≡ Wrong left → 0 < length left
      → (length left ≤ length xs) × IsRest xs (length xs - length left)
  wrong_program xs [] h some = absurd (omega arith)
  wrong_program xs (x ∷ w) h some =
      let e : parse_program language (tokens_of xs) ≡ Wrong (x ∷ w) = program_is xs ∙ h in
      let (before, q, wrong) = program_wrong language (tokens_of xs) x w e in
      let m : length (tokens_of xs) ≡ length xs = length-map xs token_of in
      let n : length (tokens_of xs) ≡ length before + length (x ∷ w) = ap length q ∙ length-append before (x ∷ w) in
      let k : length xs - length (x ∷ w) ≡ length before = omega (arith, m, n) in
      let rest : drop (length xs - length (x ∷ w)) (tokens_of xs) ≡ x ∷ w = ap (λ (i : ℕ). drop i (tokens_of xs)) k ∙ ap (drop (length before)) q
      ∙ drop_prefix before (x ∷ w) in
      let within : length (x ∷ w) ≤ length xs = omega (arith, m, n) in
      let below : length xs - length (x ∷ w) < length (tokens_of xs) = omega (arith, m, n) in
      (within, (below, e ∙ ap (λ (l : List t.Token). Wrong l) (sym rest)))

  pub short_program : (xs : List Token) (left : List t.Token) → all_items language (length xs + 1) (tokens_of xs) ≡ Wrong left → length left ≡ 0
      → parse_program language (tokens_of xs) ≡ Wrong []
  short_program xs [] h none = program_is xs ∙ h
  short_program xs (x ∷ w) h none = absurd (omega arith)

  pub left_within : (xs : List Token) (left : List t.Token) → all_items language (length xs + 1) (tokens_of xs) ≡ Wrong left → length left ≤ length xs
  left_within xs [] h = omega arith
  left_within xs (x ∷ w) h = (wrong_program xs (x ∷ w) h (omega arith)).0
