-- What a memory represents, from its cells.
use Rattle.std.proofs.Common.{◌≡◌, ℕ, zero, suc, ◌+◌, ◌/◌, ◌%◌, ◌^◌, ◌<◌, List, [], ◌∷◌, length, map, set}
use Rattle.std.proofs.Common.{true, ◌==◌, refl, sym, ◌∙◌, ap, subst, inl, inr, arith, get_or-set_other}
use Rattle.std.proofs.lemmas.Bool.{cases_eq, eq-eqb}
use Rattle.ido_base.specs.Words.{Word, word_of, word_at, live_value, with_value, with_part, stored, crashed}
use Rattle.log_schemes.specs.Layout.{word_count}
use Rattle.line_memory.specs.declared.cell.Cell.{Cell}
use Rattle.line_memory.specs.declared.changes.Changes.{Changes}
use Rattle.line_memory.specs.ChangedWords.{HasChanged}
use Rattle.line_memory.specs.declared.memory.LineMemory.{LineMemory}
use Rattle.line_memory.specs.links.Cells.{cell_at, RepresentsCell, CellsStand}
use Rattle.line_memory.specs.links.MemoryRepresentation.{Represents}
use Rattle.line_memory.proofs.CellLoopSteps.{CellsStand-set, CellsStand-more}

-- every word of more than one value is known to have changed
abbrev pub AreKnown : Changes → List Word → Type 0
AreKnown changes words = (i : ℕ) → 1 < length (word_at words i).values → HasChanged changes i

pub known_from : (changes : Changes) (words words' : List Word) → ((j : ℕ) → (word_at words' j).values ≡ (word_at words j).values) → AreKnown changes words →
    AreKnown changes words'
known_from changes words words' same known = λ i more. known i (subst (λ (values : List ℕ). 1 < length values) (same i) more)

-- where each word has a single value, none has changed
pub known_single : (changes : Changes) (ns : List ℕ) → AreKnown changes (map word_of ns)
known_single changes ns = λ i more. absurd (omega (arith, more, single ns i))
  where
    single : (ns : List ℕ) (i : ℕ) → length (word_at (map word_of ns) i).values ≡ 1
    single [] i = refl
    single (n ∷ ns) zero = refl
    single (n ∷ ns) (suc i) = single ns i

pub known_crashed : (changes : Changes) (words : List Word) → AreKnown changes (crashed words)
known_crashed changes words = λ i more. absurd (omega (arith, more, single words i))
  where
    single : (words : List Word) (i : ℕ) → length (word_at (crashed words) i).values ≡ 1
    single [] i = refl
    single (w ∷ ws) zero = refl
    single (w ∷ ws) (suc i) = single ws i

-- a store: its word is known from now on
pub known_stored : (old new : Changes) (words : List Word) (number count value : ℕ) (cell : Cell) (stores : ℕ) →
    RepresentsCell cell (word_at words (number / 8)) stores → ((cell.version == 0) ≡ true → HasChanged new (number / 8)) →
    ((i : ℕ) → HasChanged old i → HasChanged new i) → AreKnown old words → AreKnown new (stored words number count value)
known_stored old new words number count value cell stores s added kept known = λ i more. elim (cases_eq i (number / 8)) [
  | inl same ↦ subst (λ (j : ℕ). HasChanged new j) (sym same) here
  | inr other ↦ kept i (known i (subst (λ (w : Word). 1 < length w.values) (get_or-set_other words (number / 8) i _ (word_of 0) other) more))
]
  where
    here : HasChanged new (number / 8)
    here = elim (cases_eq cell.version 0) [
      | inl first ↦ added (eq-eqb cell.version 0 first)
      | inr again ↦ kept (number / 8) (known (number / 8) (omega (arith, s.version, again)))
    ]

pub represents-from : (memory : LineMemory) (words : List Word) (cells : List Cell) → memory.cells.items ≡ cells →
    length words ≡ word_count memory.log memory.threads →
    CellsStand cells words memory.stores → AreKnown memory.changes words → Represents memory words
represents-from memory words cells same size stand known = record {
  size = size;
  changes = known;
  cells = subst (λ (cs : List Cell). CellsStand cs words memory.stores) (sym same) stand;
}

module _ (cells : List Cell) (words : List Word) (stores number count value new : ℕ) (cell after : Cell) where
  pub stored_stands : number / 8 < length cells → cell ≡ cell_at cells (number / 8) → new ≡ with_part cell.live (number % 8) count value →
      ((word : Word) (n : ℕ) → n < 2 ^ 63 → RepresentsCell cell word n → RepresentsCell after (with_value word new) (n + 1)) → stores < 2 ^ 63 →
      CellsStand cells words stores → CellsStand (set cells (number / 8) after) (stored words number count value) (stores + 1)
  stored_stands in_cells is_cell is_new f room s =
      let word = word_at words (number / 8) in
      let here : RepresentsCell cell word stores = subst (λ (c : Cell). RepresentsCell c word stores) (sym is_cell) (s.each (number / 8) in_cells) in
      let same : new ≡ with_part (live_value word) (number % 8) count value = is_new ∙ ap (λ (v : ℕ). with_part v (number % 8) count value) here.live in
      CellsStand-set cells words (stores + 1) (number / 8) after _ (CellsStand-more cells words stores (stores + 1) (omega arith) s)
      (subst (λ (v : ℕ). RepresentsCell after (with_value word v) (stores + 1)) same (f word stores room here))
