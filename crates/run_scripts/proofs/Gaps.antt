-- Gaps and pieces of a text.
use Rattle.std.proofs.Common.{◌≡◌, ℕ, suc, ◌+◌, ◌-◌, ◌<◌, ◌≤◌, List, [], ◌∷◌, length, take, drop}
use Rattle.std.proofs.Common.{get_or, Bool, true, false, refl, sym, ◌∙◌, ap, arith, length-drop}
use Rattle.std.proofs.lemmas.Bool.{ne_eqb}
use Rattle.std.proofs.lemmas.Grind.{common_steps}
use Rattle.std.proofs.lemmas.List.{at_drop_more}
use Rattle.run_scripts.specs.Pieces.{begins_gap, begins_line_end, with_byte, pieces_at}
use Rattle.run_scripts.specs.links.Lengths.{gap_length, piece_length}

-- what stands after n elements, up to the end
pub up_to_end : {A : Type 0} (xs : List A) (n : ℕ) → take (length xs - n) (drop n xs) ≡ drop n xs
up_to_end xs n = grind (arith, common_steps)

-- ---- Bytes above those of a gap

pub above_line_end : (c : ℕ) (cs : List ℕ) → 13 < c → begins_line_end (c ∷ cs) ≡ false
above_line_end c [] above = ne_eqb c 10 (λ e. omega (arith, e, above))
above_line_end c (d ∷ ds) above = rw (ne_eqb c 10 (λ e. omega (arith, e, above)), ne_eqb c 13 (λ e. omega (arith, e, above))) refl

pub above_blank : (c : ℕ) (cs : List ℕ) → 32 < c → begins_gap (c ∷ cs) ≡ false
above_blank c [] above = rw (ne_eqb c 32 (λ e. omega (arith, e, above)), ne_eqb c 10 (λ e. omega (arith, e, above))) refl
above_blank c (d ∷ ds) above =
    rw (ne_eqb c 32 (λ e. omega (arith, e, above)), ne_eqb c 10 (λ e. omega (arith, e, above)), ne_eqb c 13 (λ e. omega (arith, e, above))) refl

-- ---- One byte more

module _ (gap : List ℕ → Bool) where
  gap_of : (c : ℕ) (cs : List ℕ) → gap (c ∷ cs) ≡ true → gap_length gap (c ∷ cs) ≡ 1 + gap_length gap cs
  gap_of c cs e = rw (gap_length, e) refl

  no_gap_of : (c : ℕ) (cs : List ℕ) → gap (c ∷ cs) ≡ false → gap_length gap (c ∷ cs) ≡ 0
  no_gap_of c cs e = rw (gap_length, e) refl

  in_piece : (c : ℕ) (cs : List ℕ) → gap (c ∷ cs) ≡ false → piece_length gap (c ∷ cs) ≡ 1 + piece_length gap cs
  in_piece c cs e = rw (piece_length, e) refl

  no_piece_of : (c : ℕ) (cs : List ℕ) → gap (c ∷ cs) ≡ true → piece_length gap (c ∷ cs) ≡ 0
  no_piece_of c cs e = rw (piece_length, e) refl

  pub gap_at : (text : List ℕ) (i : ℕ) → i < length text → gap (take (length text - i) (drop i text)) ≡ true →
      gap_length gap (drop i text) ≡ 1 + gap_length gap (drop (i + 1) text)
  gap_at text i within e =
      at_drop_more (gap_length gap) text i 0 within
      ∙ gap_of (get_or text i 0) (drop (i + 1) text) (sym (at_drop_more gap text i 0 within) ∙ sym (ap gap (up_to_end text i)) ∙ e)

  pub piece_at : (text : List ℕ) (i : ℕ) → i < length text → gap (take (length text - i) (drop i text)) ≡ false →
      piece_length gap (drop i text) ≡ 1 + piece_length gap (drop (i + 1) text)
  piece_at text i within e =
      at_drop_more (piece_length gap) text i 0 within
      ∙ in_piece (get_or text i 0) (drop (i + 1) text) (sym (at_drop_more gap text i 0 within) ∙ sym (ap gap (up_to_end text i)) ∙ e)

  -- ---- The pieces of a text

  -- a gap has no piece
  pieces_of_gap : (place c : ℕ) (cs : List ℕ) → gap (c ∷ cs) ≡ true → pieces_at gap place (c ∷ cs) ≡ pieces_at gap (place + 1) cs
  pieces_of_gap place c cs e = rw (pieces_at, e) refl

  pieces_of_byte : (place c : ℕ) (cs : List ℕ) → gap (c ∷ cs) ≡ false → pieces_at gap place (c ∷ cs) ≡ with_byte place c (gap cs) (pieces_at gap (place + 1) cs)
  pieces_of_byte place c cs e = rw (pieces_at, e) refl

  pub pieces_after_gap : (place : ℕ) (text : List ℕ) → pieces_at gap place text ≡ pieces_at gap (place + gap_length gap text) (drop (gap_length gap text) text)
  pieces_after_gap place [] = refl
  pieces_after_gap place (c ∷ cs) = by_test (gap (c ∷ cs)) refl (pieces_after_gap (place + 1) cs)
    where
      by_test : (b : Bool) → gap (c ∷ cs) ≡ b → pieces_at gap (place + 1) cs ≡ pieces_at gap (place + 1 + gap_length gap cs) (drop (gap_length gap cs) cs) →
          pieces_at gap place (c ∷ cs) ≡ pieces_at gap (place + gap_length gap (c ∷ cs)) (drop (gap_length gap (c ∷ cs)) (c ∷ cs))
      by_test true e after =
          let n = gap_length gap cs in
          let more : gap_length gap (c ∷ cs) ≡ suc n = gap_of c cs e ∙ omega arith in
          let places : place + 1 + n ≡ place + suc n = omega arith in
          pieces_of_gap place c cs e ∙ after ∙ ap (λ p. pieces_at gap p (drop n cs)) places ∙ sym (ap (λ m. pieces_at gap (place + m) (drop m (c ∷ cs))) more)
      by_test false e after = sym (ap (λ m. pieces_at gap (place + m) (drop m (c ∷ cs))) (no_gap_of c cs e) ∙ ap (λ p. pieces_at gap p (c ∷ cs)) (omega arith))

  last_byte : (place c : ℕ) (b : Bool) → with_byte place c b [] ≡ record { place = place; bytes = c ∷ [] } ∷ []
  last_byte place c true = refl
  last_byte place c false = refl

  -- a piece reaches to the next gap
  pub pieces_from_piece : (place : ℕ) (text : List ℕ) → 0 < length text → gap text ≡ false
      → pieces_at gap place text ≡ record { place = place; bytes = take (piece_length gap text) text } ∷
      pieces_at gap (place + piece_length gap text) (drop (piece_length gap text) text)
  pieces_from_piece place [] some e = absurd (omega (arith, some))
  pieces_from_piece place (c ∷ []) some e =
      pieces_of_byte place c [] e ∙ last_byte place c (gap [])
      ∙ sym (ap (λ m. record { place = place; bytes = take m (c ∷ []) } ∷ pieces_at gap (place + m) (drop m (c ∷ []))) (in_piece c [] e))
  pieces_from_piece place (c ∷ d ∷ ds) some e = by_test (gap (d ∷ ds)) refl (λ f. pieces_from_piece (place + 1) (d ∷ ds) (omega arith) f)
    where
      by_test : (b : Bool) → gap (d ∷ ds) ≡ b
          → (gap (d ∷ ds) ≡ false → pieces_at gap (place + 1) (d ∷ ds)
          ≡ record { place = place + 1; bytes = take (piece_length gap (d ∷ ds)) (d ∷ ds) } ∷
          pieces_at gap (place + 1 + piece_length gap (d ∷ ds)) (drop (piece_length gap (d ∷ ds)) (d ∷ ds)))
          → pieces_at gap place (c ∷ d ∷ ds)
          ≡ record { place = place; bytes = take (piece_length gap (c ∷ d ∷ ds)) (c ∷ d ∷ ds) } ∷
          pieces_at gap (place + piece_length gap (c ∷ d ∷ ds)) (drop (piece_length gap (c ∷ d ∷ ds)) (c ∷ d ∷ ds))
      by_test true f after =
          let length_is : piece_length gap (c ∷ d ∷ ds) ≡ 1 = in_piece c (d ∷ ds) e ∙ ap (λ n. 1 + n) (no_piece_of d ds f) in
          pieces_of_byte place c (d ∷ ds) e ∙ ap (λ b. with_byte place c b (pieces_at gap (place + 1) (d ∷ ds))) f
          ∙ sym (ap (λ m. record { place = place; bytes = take m (c ∷ d ∷ ds) } ∷ pieces_at gap (place + m) (drop m (c ∷ d ∷ ds))) length_is)
      by_test false f after =
          let n = piece_length gap (d ∷ ds) in
          let length_is : piece_length gap (c ∷ d ∷ ds) ≡ suc n = in_piece c (d ∷ ds) e ∙ omega arith in
          let places : place + 1 + n ≡ place + suc n = omega arith in
          pieces_of_byte place c (d ∷ ds) e ∙ ap (λ b. with_byte place c b (pieces_at gap (place + 1) (d ∷ ds))) f
          ∙ ap (with_byte place c false) (after f)
          ∙ ap (λ p. record { place = place; bytes = c ∷ take n (d ∷ ds) } ∷ pieces_at gap p (drop n (d ∷ ds))) places
          ∙ sym (ap (λ m. record { place = place; bytes = take m (c ∷ d ∷ ds) } ∷ pieces_at gap (place + m) (drop m (c ∷ d ∷ ds))) length_is)

  -- after a gap stands a piece, or nothing
  pub no_gap_after : (text : List ℕ) → gap_length gap text < length text → gap (drop (gap_length gap text) text) ≡ false
  no_gap_after [] within = absurd (omega (arith, within))
  no_gap_after (c ∷ cs) within = by_test (gap (c ∷ cs)) refl (no_gap_after cs)
    where
      by_test : (b : Bool) → gap (c ∷ cs) ≡ b → (gap_length gap cs < length cs → gap (drop (gap_length gap cs) cs) ≡ false) →
          gap (drop (gap_length gap (c ∷ cs)) (c ∷ cs)) ≡ false
      by_test true e after =
          let more : gap_length gap (c ∷ cs) ≡ suc (gap_length gap cs) = gap_of c cs e ∙ omega arith in
          let inside : gap_length gap cs < length cs = omega (arith, more, within) in
          ap (λ m. gap (drop m (c ∷ cs))) more ∙ after inside
      by_test false e after = ap (λ m. gap (drop m (c ∷ cs))) (no_gap_of c cs e) ∙ e

  -- ---- From a place on

  drop_twice : (text : List ℕ) (i j : ℕ) → drop j (drop i text) ≡ drop (i + j) text
  drop_twice text i j = grind (arith, common_steps)

  pub pieces_from_next : (text : List ℕ) (i n : ℕ) → n ≡ gap_length gap (take (length text - i) (drop i text)) →
      pieces_at gap i (drop i text) ≡ pieces_at gap (i + n) (drop (i + n) text)
  pieces_from_next text i n e =
      let reached : gap_length gap (drop i text) ≡ n = sym (e ∙ ap (gap_length gap) (up_to_end text i)) in
      pieces_after_gap i (drop i text) ∙ ap (λ m. pieces_at gap (i + m) (drop m (drop i text))) reached ∙ ap (pieces_at gap (i + n)) (drop_twice text i n)

  pub no_gap_at_next : (text : List ℕ) (i n : ℕ) → n ≡ gap_length gap (take (length text - i) (drop i text)) → i + n < length text →
      gap (drop (i + n) text) ≡ false
  no_gap_at_next text i n e within =
      let reached : gap_length gap (drop i text) ≡ n = sym (e ∙ ap (gap_length gap) (up_to_end text i)) in
      let inside : gap_length gap (drop i text) < length (drop i text) = omega (arith, reached, length-drop i text, within) in
      sym (ap gap (drop_twice text i n)) ∙ sym (ap (λ m. gap (drop m (drop i text))) reached) ∙ no_gap_after (drop i text) inside

  pub pieces_from_place : (text bytes : List ℕ) (i n : ℕ) → i < length text → gap (drop i text) ≡ false →
      n ≡ piece_length gap (take (length text - i) (drop i text)) → n ≤ length (take (length text - i) (drop i text))
      → bytes ≡ take n (take (length text - i) (drop i text)) →
      pieces_at gap i (drop i text) ≡ record { place = i; bytes = bytes } ∷ pieces_at gap (i + length bytes) (drop (i + length bytes) text)
  pieces_from_place text bytes i n within no_gap e bound b =
      let word : piece_length gap (drop i text) ≡ n = sym (e ∙ ap (piece_length gap) (up_to_end text i)) in
      let some : 0 < length (drop i text) = omega (arith, length-drop i text, within) in
      let taken : bytes ≡ take n (drop i text) = b ∙ ap (take n) (up_to_end text i) in
      let reach : length bytes ≡ n = ap length b ∙ length-take-of n (take (length text - i) (drop i text)) bound in
      pieces_from_piece i (drop i text) some no_gap
      ∙ ap (λ m. record { place = i; bytes = take m (drop i text) } ∷ pieces_at gap (i + m) (drop m (drop i text))) word
      ∙ ap (λ bs. record { place = i; bytes = bs } ∷ pieces_at gap (i + n) (drop n (drop i text))) (sym taken)
      ∙ ap (λ rest. record { place = i; bytes = bytes } ∷ pieces_at gap (i + n) rest) (drop_twice text i n)
      ∙ sym (ap (λ m. record { place = i; bytes = bytes } ∷ pieces_at gap (i + m) (drop (i + m) text)) reach)
    where
      length-take-of : (n : ℕ) (xs : List ℕ) → n ≤ length xs → length (take n xs) ≡ n
      length-take-of n xs h = grind (arith, common_steps)
