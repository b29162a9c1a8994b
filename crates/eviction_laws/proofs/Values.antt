-- The values of words, whatever of them is durable.
use Rattle.std.proofs.Common.{◌≡◌, refl, ℕ, zero, suc, ◌+◌, ◌-◌, ◌*◌, ◌/◌, ◌%◌, List, [], ◌∷◌, ◌++◌}
use Rattle.std.proofs.Common.{length, map, take, drop, set, ap, sym, ◌∙◌, cond, Bool, true, false}
use Rattle.std.specs.Prelude.{slice_index, slice_index_or, ◌==◌}
use Rattle.std.proofs.lemmas.List.{map-set, take-map, drop-map}
use Rattle.ido_base.specs.Words.{Word, Entry, word_of, word_at, last_position, live_value, written_back, with_value, with_part, part, loaded, stored, entry_of}
use Rattle.ido_base.specs.Words.{line_words, persisted, drained, evicted_from, evicted}
use Rattle.eviction_laws.specs.Evictions.{values_of}

-- ---- Write-backs and evictions leave values

written_values : (words : List Word) (at position : ℕ) → values_of (set words at (written_back (word_at words at) position)) ≡ values_of words
written_values [] at position = refl
written_values (word ∷ words) zero position = refl
written_values (word ∷ words) (suc at) position = ap (λ (vs : List (List ℕ)). word.values ∷ vs) (written_values words at position)

persisted_values : (positions : List ℕ) (words : List Word) (at : ℕ) → values_of (persisted words at positions) ≡ values_of words
persisted_values [] words at = refl
persisted_values (p ∷ ps) words at =
    persisted_values ps (set words at (written_back (word_at words at) p)) (at + 1) ∙ written_values words at p

pub drained_values : (words : List Word) (e : Entry) → values_of (drained words e) ≡ values_of words
drained_values words e = persisted_values e.positions words (8 * e.line)

chosen_values : (chosen : Bool) (words : List Word) (at position : ℕ) →
    values_of (cond chosen (set words at (written_back (word_at words at) position)) words) ≡ values_of words
chosen_values true words at position = written_values words at position
chosen_values false words at position = refl

evicted_values_from : (count : ℕ) (words : List Word) (at mask : ℕ) → values_of (evicted_from words at mask count) ≡ values_of words
evicted_values_from zero words at mask = refl
evicted_values_from (suc count) words at mask =
    evicted_values_from count (cond (mask % 2 == 1) (set words at (written_back (word_at words at) (last_position (word_at words at)))) words)
    (at + 1) (mask / 2)
    ∙ chosen_values (mask % 2 == 1) words at (last_position (word_at words at))

pub evicted_values : (words : List Word) (line mask : ℕ) → values_of (evicted words line mask) ≡ values_of words
evicted_values words line mask = evicted_values_from 8 words (8 * line) mask

-- ---- What loads, stores and cleans see

values_at : (words : List Word) (at : ℕ) → (word_at words at).values ≡ slice_index_or (values_of words) at (0 ∷ [])
values_at [] at = refl
values_at (word ∷ words) zero = refl
values_at (word ∷ words) (suc at) = values_at words at

last_of : List ℕ → ℕ
last_of values = length values - 1

positions_are : (words : List Word) → map last_position words ≡ map last_of (values_of words)
unfolding last_of
positions_are [] = refl
positions_are (word ∷ words) = ap (λ (ps : List ℕ). last_position word ∷ ps) (positions_are words)

module _ (ws vs : List Word) (same : values_of vs ≡ values_of ws) where
  pub same_at : (at : ℕ) → (word_at vs at).values ≡ (word_at ws at).values
  same_at at = values_at vs at ∙ ap (λ (values : List (List ℕ)). slice_index_or values at (0 ∷ [])) same ∙ sym (values_at ws at)

  pub same_live : (at : ℕ) → live_value (word_at vs at) ≡ live_value (word_at ws at)
  same_live at = ap (λ (values : List ℕ). slice_index values (length values - 1)) (same_at at)

  pub same_loaded : (number count : ℕ) → loaded vs number count ≡ loaded ws number count
  same_loaded number count = ap (λ (value : ℕ). part value (number % 8) count) (same_live (number / 8))

  pub same_stored : (number count value : ℕ) → values_of (stored vs number count value) ≡ values_of (stored ws number count value)
  same_stored number count value =
      let new : (values : List ℕ) (live : ℕ) → List ℕ = λ values live. values ++ with_part live (number % 8) count value ∷ [] in
      map-set (λ (word : Word). word.values) vs (number / 8) _
      ∙ ap (λ (all : List (List ℕ)). set all (number / 8) (new (word_at vs (number / 8)).values (live_value (word_at vs (number / 8))))) same
      ∙ ap (λ (values : List ℕ). set (values_of ws) (number / 8) (new values (live_value (word_at vs (number / 8))))) (same_at (number / 8))
      ∙ ap (λ (live : ℕ). set (values_of ws) (number / 8) (new (word_at ws (number / 8)).values live)) (same_live (number / 8))
      ∙ sym (map-set (λ (word : Word). word.values) ws (number / 8) _)

  -- a line has the same last positions
  line_values : (words : List Word) (line : ℕ) → values_of (line_words words line) ≡ take 8 (drop (8 * line) (values_of words))
  line_values words line =
      sym (take-map (λ (word : Word). word.values) 8 (drop (8 * line) words))
      ∙ ap (take 8) (sym (drop-map (λ (word : Word). word.values) (8 * line) words))

  pub same_entry : (line : ℕ) → entry_of vs line ≡ entry_of ws line
  same_entry line =
      let lines : values_of (line_words vs line) ≡ values_of (line_words ws line) =
      line_values vs line ∙ ap (λ (values : List (List ℕ)). take 8 (drop (8 * line) values)) same ∙ sym (line_values ws line) in
      let positions : map last_position (line_words vs line) ≡ map last_position (line_words ws line) =
      positions_are (line_words vs line) ∙ ap (map last_of) lines ∙ sym (positions_are (line_words ws line)) in
      ap (λ (ps : List ℕ). record { line = line; positions = ps }) positions
