-- What the parser says of a whole list of tokens: its tree, or the first token that the tokens before it can't go on with.
use Rattle.std.proofs.Common.{◌≡◌, ℕ, zero, suc, ◌+◌, ◌<◌, ◌≤◌, List, [], ◌∷◌, ◌++◌, length, length-append}
use Rattle.std.proofs.Common.{sym, refl, ap, ◌∙◌, subst, inl, inr, append_assoc, append-nil, arith}
use Rattle.std.specs.Prelude.{◌⊎◌}
use Rattle.c_tree.specs.declared.language.Language.{Language}
use Rattle.c_tree.specs.Tokens.{Token}
use Rattle.c_tree.specs.Trees.{Item}
use Rattle.c_tree.specs.Grammar.{program}
use Rattle.c_tree.specs.TextReadings.{BeginsProgram, IsWhole, IsWrong}
use Rattle.c_reader.specs.links.ParserFunctions.{Parsed, Read, Wrong, Parser, follow, give, parse_item, items_over, parse_items, parse_program}
use Rattle.c_reader.proofs.CorrectParsers.{Meets, ParseLockstep}
use Rattle.c_reader.proofs.Items.{good_items}

module _ (language : Language) where
  -- what was read, and that nothing is left
  abbrev Answer : List Token → Parsed (List Item) → Type 0
  Answer ts (Read xs rest) = (rest ≡ []) × program language xs ts
  Answer ts (Wrong rest) = Meets (program language) ts (Wrong rest)

  abbrev Finished : Parsed (List Item) → Type 0
  Finished (Read xs rest) = rest ≡ []
  Finished (Wrong rest) = Unit {0}

  follow_finished : {A : Type 0} (r : Parsed A) (next : A → Parser (List Item)) → ((x : A) (rest : List Token) → Finished (next x rest))
      → Finished (follow r next)
  follow_finished (Read x rest) next f = f x rest
  follow_finished (Wrong rest) next f = tt

  give_finished : (r : Parsed (List Item)) (make : List Item → List Item) → Finished r → Finished (follow r (λ x. give (make x)))
  give_finished (Read x rest) make f = f
  give_finished (Wrong rest) make f = tt

  items_finished : (I : Parser Item) (fuel : ℕ) (ts : List Token) → Finished (items_over I fuel ts)
  items_finished I zero ts = tt
  items_finished I (suc fuel) [] = refl
  items_finished I (suc fuel) (t ∷ ts) =
      follow_finished (I (t ∷ ts)) (λ y rest. follow (items_over I fuel rest) (λ ys. give (y ∷ ys)))
      (λ y rest. give_finished (items_over I fuel rest) (λ ys. y ∷ ys) (items_finished I fuel rest))

  parse_items-finished : (fuel : ℕ) (ts : List Token) → Finished (parse_items language fuel ts)
  parse_items-finished fuel ts =
      follow_finished (parse_item language fuel ts) (λ y rest. follow (items_over (parse_item language fuel) fuel rest) (λ ys. give (y ∷ ys)))
      (λ y rest. give_finished (items_over (parse_item language fuel) fuel rest) (λ ys. y ∷ ys) (items_finished (parse_item language fuel) fuel rest))

  -- a program is read whole, whatever fuel is left
  items_whole : (fuel : ℕ) (xs : List Item) (ts : List Token) → length ts < fuel → program language xs ts → parse_items language fuel ts ≡ Read xs []
  items_whole fuel xs ts h u = rw append-nil at ((good_items language fuel fuel fuel (omega arith) (omega arith)).whole xs ts [] u h refl)

  -- the tree of a whole program is what the parser reads
  pub program_whole : (xs : List Item) (ts : List Token) → program language xs ts → parse_program language ts ≡ Read xs []
  unfolding parse_program
  program_whole xs ts u = items_whole (suc (length ts)) xs ts (omega arith) u

  -- what the parser reads is a whole program
  pub program_read : (ts : List Token) (xs : List Item) (rest : List Token) → parse_program language ts ≡ Read xs rest → (rest ≡ []) × program language xs ts
  unfolding parse_program
  program_read ts xs rest e = go (parse_items language (suc (length ts)) ts) (parse_items-finished (suc (length ts)) ts)
      ((good_items language (suc (length ts)) (suc (length ts)) 0 (omega arith) (omega arith)).sure ts) e
    where
      rest_or : Parsed (List Item) → List Token
      rest_or (Read xs rest) = rest
      rest_or (Wrong rest) = rest

      tree_or : List Item → Parsed (List Item) → List Item
      tree_or d (Read xs rest) = xs
      tree_or d (Wrong rest) = d

      go : (r : Parsed (List Item)) → Finished r → Meets (program language) ts r → r ≡ Read xs rest → (rest ≡ []) × program language xs ts
      go (Read ys rest') f (us, e, u) q =
          let same : ys ≡ xs = ap (tree_or xs) q in
          let z : ts ≡ us = e ∙ ap (λ l. us ++ l) f ∙ append-nil us in
          (sym (ap rest_or q) ∙ f, rw z (subst (λ y. program language y us) same u))
      go (Wrong rest') f m q = cc

  -- a program is spelled by one tree
  pub program_unique : (xs ys : List Item) (ts : List Token) → program language xs ts → program language ys ts → xs ≡ ys
  program_unique xs ys ts u v = ap (tree_or xs) (sym (program_whole xs ts u) ∙ program_whole ys ts v)
    where
      tree_or : List Item → Parsed (List Item) → List Item
      tree_or d (Read xs rest) = xs
      tree_or d (Wrong rest) = d

  -- a whole program is a prefix of one
  pub program_begins : (xs : List Item) (ts : List Token) → program language xs ts → BeginsProgram language ts
  program_begins xs ts u = ([], xs, rw append-nil u)

  -- what stands before a wrong token, or the end, begins a program
  wrong_prefix : (ts w : List Token) → parse_program language ts ≡ Wrong w → Meets (program language) ts (Wrong w)
  unfolding parse_program
  wrong_prefix ts w e = rw e at ((good_items language (suc (length ts)) (suc (length ts)) 0 (omega arith) (omega arith)).sure ts)

  -- no program goes on with a wrong token
  wrong_stays : (us : List Token) (t : Token) (w : List Token) → parse_program language (us ++ t ∷ w) ≡ Wrong (t ∷ w) → (more : List Token) (xs : List Item)
      → program language xs (us ++ t ∷ more) → ⊥
  unfolding parse_program
  wrong_stays us t w e more xs u =
      let m : length (us ++ t ∷ more) ≡ length us + length (t ∷ more) = length-append us (t ∷ more) in
      let n : length (us ++ t ∷ w) ≡ length us + length (t ∷ w) = length-append us (t ∷ w) in
      go (parse_items language (suc (length (us ++ t ∷ w))) (us ++ t ∷ w)) e
      ((good_items language (suc (length (us ++ t ∷ w))) (suc (length (us ++ t ∷ more))) (suc (length us)) (omega (arith, n)) (omega (arith, m))).lockstep us t
      w more
      (omega arith))
    where
      rest_or : Parsed (List Item) → List Token
      rest_or (Read xs rest) = rest
      rest_or (Wrong rest) = rest

      at : (rest : List Token) → rest ≡ t ∷ w → (length rest ≤ length w)
          ⊎ ((v : List Token) × (rest ≡ v ++ t ∷ w) × (parse_items language (suc (length (us ++ t ∷ more))) (us ++ t ∷ more) ≡ Wrong (v ++ t ∷ more))) → ⊥
      at rest q (inl h) = let z : length rest ≡ length (t ∷ w) = ap length q in omega (arith, z, h)
      at rest q (inr (v, e₁, e₂)) =
          let z : Read xs [] ≡ Wrong (v ++ t ∷ more) = sym (items_whole (suc (length (us ++ t ∷ more))) xs (us ++ t ∷ more) (omega arith) u) ∙ e₂ in cc

      go : (r : Parsed (List Item)) → r ≡ Wrong (t ∷ w) → ParseLockstep t w more r (parse_items language (suc (length (us ++ t ∷ more))) (us ++ t ∷ more)) → ⊥
      go (Read ys rest) q a = cc
      go (Wrong rest) q a = at rest (ap rest_or q) a

  -- the token where the parser stops is the first that the tokens before it can't go on with
  pub program_wrong : (ts : List Token) (t : Token) (w : List Token) → parse_program language ts ≡ Wrong (t ∷ w)
      → (before : List Token) × (ts ≡ before ++ t ∷ w) × IsWrong language before t
  program_wrong ts t w e = go (wrong_prefix ts (t ∷ w) e)
    where
      go : Meets (program language) ts (Wrong (t ∷ w)) → (before : List Token) × (ts ≡ before ++ t ∷ w) × IsWrong language before t
      go (us, q, more, xs, u) =
          let stays : parse_program language (us ++ t ∷ w) ≡ Wrong (t ∷ w) = subst (λ l. parse_program language l ≡ Wrong (t ∷ w)) q e in
          (us, q, record { begun = (more, xs, u); wrong = λ (more', ys, v). wrong_stays us t w stays more' ys (rw (append_assoc us (t ∷ []) more') at v) })

  -- where the parser wants more, the tokens are a prefix of a program and no whole one
  pub program_ends : (ts : List Token) → parse_program language ts ≡ Wrong [] → BeginsProgram language ts × (IsWhole language ts → ⊥)
  program_ends ts e = (go (wrong_prefix ts [] e), λ (xs, u). let z : Read xs [] ≡ Wrong [] = sym (program_whole xs ts u) ∙ e in cc)
    where
      go : Meets (program language) ts (Wrong []) → BeginsProgram language ts
      go (us, q, more, xs, u) = let z : ts ≡ us = q ∙ append-nil us in rw z (more, xs, u)
