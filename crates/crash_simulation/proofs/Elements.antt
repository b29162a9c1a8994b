-- Elements of variables in the words of a machine.
use Rattle.crash_simulation.proofs.Common.{◌≡◌, ℕ, List, sym, ◌∙◌, ap, arith, subst, Option, Some, None, refl, ◌+◌, ◌<◌, length, ◌⊎◌, inl, inr, slice_get}
use Rattle.crash_simulation.proofs.Common.{nat_lt, ◌≤◌, ◌*◌, map, slice_index_or, pos, ⊎_elim, ◌/◌, cond_both, ltb-false, cases_lt, byte_number}
use Rattle.crash_simulation.proofs.Common.{variable_at, variables_base, Word, last_position, word_at, MOST_VARIABLE_BYTES, VARIABLE_WORDS, Log, bytes_of, Kind}
use Rattle.crash_simulation.proofs.Common.{Variable, shape_of, elements_in, HaveRoom, well_formed_placed, address_is, some_bytes, number_is, element_stands}
use Rattle.crash_simulation.proofs.Common.{element_whole, variables_apart, positions_meet, place, history_at, History, history_of, Spot, memory_in, IsAtSpot}
use Rattle.crash_simulation.proofs.Common.{elements_past, variable_found, variable_past, log_word, word_of_point, System, IsSystem, flat_of, shapes_of}
use Rattle.crash_simulation.proofs.Common.{places_of}

-- where variables end
abbrev pub variables_end : ℕ
variables_end = variables_base + MOST_VARIABLE_BYTES

module _ (vs : List Variable) (room : HaveRoom (map shape_of vs)) where
  pub element_ends : (v e : ℕ) (is : Variable) → slice_get vs v ≡ Some is → e < elements_in is.length →
      variable_at (map shape_of vs) v e + bytes_of is.kind ≤ variables_end
  element_ends v e is there within = omega (arith, address_is vs v e is there, (element_whole vs v e is room there within).ends)

  pub element_below : (v e : ℕ) (is : Variable) → slice_get vs v ≡ Some is → e < elements_in is.length → variable_at (map shape_of vs) v e < variables_end
  element_below v e is there within = omega (arith, element_ends v e is there within, some_bytes is.kind)

  pub record IsElement (v e : ℕ) : Type 0 where
    pub is : Variable
    pub there : slice_get vs v ≡ Some is
    pub within : e < elements_in is.length

  pub elements_apart : {v e i j : ℕ} (x : IsElement v e) (z : IsElement i j) → (i ≡ v → j ≡ e → ⊥) →
      (variable_at (map shape_of vs) v e + bytes_of x.is.kind ≤ variable_at (map shape_of vs) i j) ⊎
      (variable_at (map shape_of vs) i j + bytes_of z.is.kind ≤ variable_at (map shape_of vs) v e)
  elements_apart {v} {e} {i} {j} x z differs =
      let one = element_stands vs v e x.is room x.there x.within in
      let two = element_stands vs i j z.is room z.there z.within in
      let first = number_is vs v e x.is room x.there (omega (arith, x.within)) in
      let second = number_is vs i j z.is room z.there (omega (arith, z.within)) in
      let from = address_is vs v e x.is x.there in
      let to = address_is vs i j z.is z.there in
      ⊎_elim (λ l. inr (omega (arith, l, first, second, from, to))) (λ l. inl (omega (arith, l, first, second, from, to)))
      ((variables_apart vs VARIABLE_WORDS room (omega arith)).apart v e i j x.is.kind z.is.kind _ _ one two
      (λ same equal. differs (sym same) (sym equal)))

-- a byte of a log stands after the variables
pub log_after : (log : Log) (address thread i : ℕ) → byte_number address / 8 ≡ log_word log thread i → variables_end ≤ address
log_after log address thread i word = grind (arith, cond_both, ltb-false, nat_lt, word_of_point)

abbrev none : History
none = history_of (pos 0)

module _ (y : System) (s : IsSystem y) where
  pub room : HaveRoom (map shape_of (flat_of y).variables)
  room = (well_formed_placed (flat_of y) s.plan.formed).room

  -- the word of an element
  abbrev pub word_of_element : (v e : ℕ) → ℕ
  word_of_element v e = byte_number (variable_at (shapes_of y) v e) / 8

  -- an element is at its address
  pub record IsThere (v e : ℕ) : Type 0 where
    pub kind : Kind
    pub at : IsAtSpot (places_of y) v e kind (byte_number (variable_at (shapes_of y) v e))

  -- no element is there, in any words
  abbrev pub NoneThere : (v e : ℕ) → Type 0
  NoneThere v e = (words : List Word) → history_at (memory_in (places_of y) words) v e ≡ none

  there_by : (v e : ℕ) (o : Option Spot) → slice_get (places_of y) v ≡ o → IsThere v e ⊎ NoneThere v e
  there_by v e None h = inr (λ words. ap (λ (hs : List History). slice_index_or hs e none) (variable_past (places_of y) words v h))
  there_by v e (Some spot) h = ⊎_elim
      (λ l.
      let a : IsAtSpot (places_of y) v e spot.kind (spot.start + bytes_of spot.kind * e) =
      record { spot = spot; there = h; within = l; kind_is = refl; number_is = refl } in
      let p = place (flat_of y).variables v e spot.kind (spot.start + bytes_of spot.kind * e) room a in
      let same : spot.start + bytes_of spot.kind * e ≡ byte_number (variable_at (shapes_of y) v e) =
      p.place_is ∙ sym (number_is (flat_of y).variables v e p.is room p.there (omega (arith, p.within))) in
      inl (record { kind = spot.kind; at = subst (λ (n : ℕ). IsAtSpot (places_of y) v e spot.kind n) same a }))
      (λ l. inr (λ words. ap (λ (hs : List History). slice_index_or hs e none) (variable_found (places_of y) words v spot h)
      ∙ elements_past words spot.kind spot.start spot.elements e l))
      (cases_lt e spot.elements)

  pub there_or_none : (v e : ℕ) → IsThere v e ⊎ NoneThere v e
  there_or_none v e = there_by v e (slice_get (places_of y) v) refl

  -- a position that an element has its word has, too
  pub position_within : (words : List Word) (v e position : ℕ) → position < length (history_at (memory_in (places_of y) words) v e).values →
      (position ≤ last_position (word_at words (word_of_element v e))) ⊎ (position ≡ 0)
  position_within words v e position l = ⊎_elim
      (λ there.
      let long = (positions_meet (places_of y) words v e there.kind (byte_number (variable_at (shapes_of y) v e)) there.at).long in
      inl (omega (arith, l, long)))
      (λ past.
      let long : length (history_at (memory_in (places_of y) words) v e).values ≡ 1 = ap (λ (h : History). length h.values) (past words) in
      inr (omega (arith, l, long)))
      (there_or_none v e)

  -- a position of an element is durable once its word's is, in whatever words of the same histories
  pub position_durable : (old words : List Word) (v e position : ℕ) → position < length (history_at (memory_in (places_of y) old) v e).values →
      position ≤ (word_at words (word_of_element v e)).durable → position ≤ (history_at (memory_in (places_of y) words) v e).durable
  position_durable old words v e position l d = ⊎_elim
      (λ there.
      let same = (positions_meet (places_of y) words v e there.kind (byte_number (variable_at (shapes_of y) v e)) there.at).durable in
      omega (arith, d, same))
      (λ past.
      let long : length (history_at (memory_in (places_of y) old) v e).values ≡ 1 = ap (λ (h : History). length h.values) (past old) in
      omega (arith, l, long))
      (there_or_none v e)

  -- a word is durable as of a position once its element is
  pub word_durable : (words : List Word) (v e position : ℕ) → position ≤ (history_at (memory_in (places_of y) words) v e).durable →
      position ≤ (word_at words (word_of_element v e)).durable
  word_durable words v e position l = ⊎_elim
      (λ there.
      let same = (positions_meet (places_of y) words v e there.kind (byte_number (variable_at (shapes_of y) v e)) there.at).durable in
      omega (arith, l, same))
      (λ past.
      let low : (history_at (memory_in (places_of y) words) v e).durable ≡ 0 = ap (λ (h : History). h.durable) (past words) in
      omega (arith, l, low))
      (there_or_none v e)
