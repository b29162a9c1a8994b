-- Steps of the loops over cells.
use Rattle.std.proofs.Common.{◌≡◌, ℕ, zero, suc, ◌+◌, ◌*◌, ◌/◌, ◌%◌, ◌^◌, ◌<◌, ◌≤◌, List, [], ◌∷◌, length, get_or, take, drop}
use Rattle.std.proofs.Common.{set, map, eqb, false, refl, sym, ◌∙◌, ap, subst, ◌⊎◌, inl, inr, arith, add-one, length-set}
use Rattle.std.proofs.Common.{length-take-le, length-drop, get_or-set_same, get_or-set_other, get_or-take, get_or-drop}
use Rattle.std.proofs.lemmas.Bool.{false≢true, cases_lt, cases_eq, eq-eqb, ne_eqb, cond-true, cond-false}
use Rattle.std.proofs.lemmas.List.{get_or-map, ext_get_or, length-map}
use Rattle.std.proofs.lemmas.Nat.{shr-shr}
use Rattle.ido_base.specs.Words.{Word, word_of, word_at, written_back, last_position, persisted, evicted_from, after_crash, entry_of, line_words}
use Rattle.line_memory.specs.declared.cell.Cell.{Cell}
use Rattle.line_memory.specs.declared.queue.Saved.{Saved}
use Rattle.line_memory.specs.links.Cells.{cell_of, cell_at, newest_of, saved_at, versions_in, RepresentsCell, CellsStand, Remembers}
use Rattle.line_memory.specs.declared.changes.Changes.{Changes}
use Rattle.line_memory.specs.ChangedWords.{IsListed, HasChanged}
use Rattle.line_memory.specs.links.Queues.{RepresentsSnapshot}
use Rattle.line_memory.proofs.HistoriesGrow.{Grows-persisted, Remembers-grows, evicted_at}

module _ (cells : List Cell) (words : List Word) where
  -- a cell and its word change together
  pub CellsStand-set : (stores i : ℕ) (cell : Cell) (word : Word) → CellsStand cells words stores → RepresentsCell cell word stores →
      CellsStand (set cells i cell) (set words i word) stores
  CellsStand-set stores i cell word s c = record {
    size = length-set cells i cell ∙ s.size ∙ sym (length-set words i word);
    each = λ j below. elim (cases_eq j i) [
      | inl same ↦
          let in_cells : i < length cells = omega (arith, length-set cells i cell, same, below) in
          let in_words : i < length words = omega (arith, s.size) in
          subst (λ k. RepresentsCell (cell_at (set cells i cell) k) (word_at (set words i word) k) stores) (sym same)
          (rw (get_or-set_same cells i cell (cell_of 0) in_cells, get_or-set_same words i word (word_of 0) in_words) c)
      | inr other ↦ rw (get_or-set_other cells i j cell (cell_of 0) other, get_or-set_other words i j word (word_of 0) other)
          (s.each j (omega (arith, length-set cells i cell, below)))
    ];
  }

  -- cells represent their words where more stores are allowed
  pub CellsStand-more : (stores more : ℕ) → stores ≤ more → CellsStand cells words stores → CellsStand cells words more
  CellsStand-more stores more le s = record {
    size = s.size;
    each = λ i below. record {
      live = (s.each i below).live;
      version = (s.each i below).version;
      durable = (s.each i below).durable;
      durable_version = (s.each i below).durable_version;
      order = (s.each i below).order;
      counted = omega (arith, (s.each i below).counted, le);
    };
  }

-- ---- Write-backs

-- a word is written back to a position
abbrev pub persisted_at : List Word → (at position : ℕ) → List Word
persisted_at words at position = set words at (written_back (word_at words at) position)

-- one position more
persisted-suc : (words : List Word) (at : ℕ) (positions : List ℕ) (k : ℕ) → k < length positions →
    persisted words at (take (suc k) positions) ≡ persisted_at (persisted words at (take k positions)) (at + k) (get_or positions k 0)
persisted-suc words at [] k below = absurd (omega (arith, below))
persisted-suc words at (p ∷ ps) zero below = let e : at ≡ at + 0 = omega arith in ap (λ (i : ℕ). persisted_at words i p) e
persisted-suc words at (p ∷ ps) (suc k) below =
    let e : at + 1 + k ≡ at + suc k = omega arith in
    persisted-suc (persisted_at words at p) (at + 1) ps k (omega (arith, below))
    ∙ ap (λ (i : ℕ). persisted_at (persisted (persisted_at words at p) (at + 1) (take k ps)) i (get_or ps k 0)) e

pub version_at : (saved : List Saved) (k : ℕ) → k < length saved → get_or (versions_in saved) k 0 ≡ (saved_at saved k).version
version_at saved k below = get_or-map (λ (one : Saved). one.version) saved k (record { value = 0; version = 0 }) 0 below

module _ (cells : List Cell) (words : List Word) (stores at k : ℕ) where
  pub raise_step : (saved : List Saved) (cell : Cell) → k < 8 → length saved ≡ 8 → at + k < length cells → Remembers saved at words →
      CellsStand cells (persisted words at (take k (versions_in saved))) stores →
      ((word : Word) (n : ℕ) → RepresentsCell (cell_at cells (at + k)) word n → (saved_at saved k).version < length word.values →
      (saved_at saved k).value ≡ get_or word.values (saved_at saved k).version 0 → RepresentsCell cell (written_back word (saved_at saved k).version) n) →
      CellsStand (set cells (at + k) cell) (persisted words at (take (k + 1) (versions_in saved))) stores
  raise_step saved cell below eight in_cells kept s f =
      let so_far = persisted words at (take k (versions_in saved)) in
      let now = Remembers-grows saved at words so_far (Grows-persisted words at (take k (versions_in saved))) kept in
      let long : k < length (versions_in saved) = omega (arith, length-map saved (λ (one : Saved). one.version), below, eight) in
      let e : persisted words at (take (suc k) (versions_in saved)) ≡ persisted_at so_far (at + k) (saved_at saved k).version =
      persisted-suc words at (versions_in saved) k long ∙ ap (λ (p : ℕ). persisted_at so_far (at + k) p) (version_at saved k (omega (arith, below, eight))) in
      rw (add-one)
      (rw e (CellsStand-set cells so_far stores (at + k) cell _ s
      (f (word_at so_far (at + k)) stores (s.each (at + k) in_cells) (now.within k below) (now.same k below))))

-- ---- Evictions

-- one word more
evicted_from-suc : (words : List Word) (at mask count : ℕ) →
    evicted_from words at mask (suc count) ≡ evicted_at (evicted_from words at mask count) (at + count) (mask / 2 ^ count)
evicted_from-suc words at mask zero =
    let e : at ≡ at + 0 = omega arith in
    let f : mask ≡ mask / 1 = omega arith in
    ap (λ (i : ℕ). evicted_at words i mask) e ∙ ap (λ (m : ℕ). evicted_at words (at + 0) m) f
evicted_from-suc words at mask (suc count) =
    let e : at + 1 + count ≡ at + suc count = omega arith in
    let g : 1 + count ≡ suc count = omega arith in
    let f : mask / 2 / 2 ^ count ≡ mask / 2 ^ suc count = shr-shr mask 1 count ∙ ap (λ (n : ℕ). mask / 2 ^ n) g in
    let so_far = evicted_from (evicted_at words at mask) (at + 1) (mask / 2) count in
    evicted_from-suc (evicted_at words at mask) (at + 1) (mask / 2) count ∙ ap (λ (i : ℕ). evicted_at so_far i (mask / 2 / 2 ^ count)) e
    ∙ ap (λ (m : ℕ). evicted_at so_far (at + suc count) m) f

module _ (cells : List Cell) (words : List Word) (stores at mask k : ℕ) where
  pub evict_step : (cell : Cell) → at + k < length cells → mask / 2 ^ k % 2 ≡ 1 → CellsStand cells (evicted_from words at mask k) stores →
      ((word : Word) (n : ℕ) → RepresentsCell (cell_at cells (at + k)) word n → RepresentsCell cell (written_back word (last_position word)) n) →
      CellsStand (set cells (at + k) cell) (evicted_from words at mask (k + 1)) stores
  evict_step cell in_cells chosen s f =
      let so_far = evicted_from words at mask k in
      let e : evicted_from words at mask (suc k) ≡ set so_far (at + k) (written_back (word_at so_far (at + k)) (last_position (word_at so_far (at + k)))) =
      evicted_from-suc words at mask k ∙ cond-true (eqb (mask / 2 ^ k % 2) 1) _ _ (eq-eqb _ 1 chosen) in
      rw (add-one) (rw e (CellsStand-set cells so_far stores (at + k) cell _ s (f (word_at so_far (at + k)) stores (s.each (at + k) in_cells))))

  pub skip_step : (mask / 2 ^ k % 2 ≡ 1 → ⊥) → CellsStand cells (evicted_from words at mask k) stores →
      CellsStand cells (evicted_from words at mask (k + 1)) stores
  skip_step left s =
      let so_far = evicted_from words at mask k in
      let e : evicted_from words at mask (suc k) ≡ so_far = evicted_from-suc words at mask k ∙ cond-false (eqb (mask / 2 ^ k % 2) 1) _ _ (ne_eqb _ 1 left) in
      rw (add-one) (rw e s)

-- ---- Crashes

word_at-crashed : (words : List Word) (i : ℕ) → word_at (map after_crash words) i ≡ after_crash (word_at words i)
word_at-crashed [] i = refl
word_at-crashed (w ∷ ws) zero = refl
word_at-crashed (w ∷ ws) (suc i) = word_at-crashed ws i

module _ (old cells : List Cell) (i : ℕ) where
  pub crash_step : (cell : Cell) → i < length cells → length cells ≡ length old → ((j : ℕ) → i ≤ j → cell_at cells j ≡ cell_at old j) →
      ((words : List Word) (stores j : ℕ) → CellsStand old words stores → j < i → RepresentsCell (cell_at cells j) (after_crash (word_at words j)) 0) →
      ((word : Word) (n : ℕ) → RepresentsCell (cell_at cells i) word n → RepresentsCell cell (after_crash word) 0) → (words : List Word) (stores j : ℕ) →
      CellsStand old words stores → j < i + 1 → RepresentsCell (cell_at (set cells i cell) j) (after_crash (word_at words j)) 0
  crash_step cell in_cells size kept before f words stores j s below = elim (cases_eq j i) [
    | inl same ↦
        let here : RepresentsCell (cell_at cells i) (word_at words i) stores =
        subst (λ c. RepresentsCell c (word_at words i) stores) (sym (kept i (omega arith))) (s.each i (omega arith)) in
        subst (λ k. RepresentsCell (cell_at (set cells i cell) k) (after_crash (word_at words k)) 0) (sym same)
        (rw (get_or-set_same cells i cell (cell_of 0) in_cells) (f (word_at words i) stores here))
    | inr other ↦ rw (get_or-set_other cells i j cell (cell_of 0) other) (before words stores j s (omega (arith, other)))
  ]

  pub crash_keeps : (cell : Cell) → ((j : ℕ) → i ≤ j → cell_at cells j ≡ cell_at old j) → (j : ℕ) → i + 1 ≤ j → cell_at (set cells i cell) j ≡ cell_at old j
  crash_keeps cell kept j above =
      let other : j ≡ i → ⊥ = λ e. omega (arith, e, above) in
      get_or-set_other cells i j cell (cell_of 0) other ∙ kept j (omega (arith, above))

pub CellsStand-crashed : (old cells : List Cell) → length cells ≡ length old →
    ((words : List Word) (stores i : ℕ) → CellsStand old words stores → i < length cells → RepresentsCell (cell_at cells i) (after_crash (word_at words i)) 0) →
    (words : List Word) (stores : ℕ) → CellsStand old words stores → CellsStand cells (map after_crash words) 0
CellsStand-crashed old cells size f words stores s = record {
  size = size ∙ s.size ∙ sym (length-map words after_crash);
  each = λ i below. rw (word_at-crashed words i) (f words stores i s below);
}

-- a cell keeps its durable value alone
pub RepresentsCell-crashed : (cell : Cell) (word : Word) (stores : ℕ) → RepresentsCell cell word stores →
    RepresentsCell (cell_of cell.durable) (after_crash word) 0
RepresentsCell-crashed cell word stores s =
    record { live = s.durable; version = refl; durable = s.durable; durable_version = refl; order = omega arith; counted = omega arith }

-- one whose word has a single value stays as it is
RepresentsCell-unchanged : (cell : Cell) (word : Word) (stores : ℕ) → length word.values ≤ 1 → RepresentsCell cell word stores →
    RepresentsCell cell (after_crash word) 0
RepresentsCell-unchanged cell word stores single s =
    let last_is : last_position word ≡ word.durable = omega (arith, s.order, single) in
    record {
      live = s.live ∙ ap (λ (p : ℕ). get_or word.values p 0) last_is;
      version = omega (arith, s.version, single);
      durable = s.durable;
      durable_version = omega (arith, s.durable_version, s.order, single);
      order = omega arith;
      counted = omega (arith, s.version, single);
    }

-- where not every word counts as changed, those that have changed are listed
pub only_listed : (changes : Changes) (numbers : List ℕ) (i : ℕ) → changes.is_all ≡ false → numbers ≡ changes.numbers.items → HasChanged changes i →
    IsListed numbers i
only_listed changes numbers i some same (inl all) = absurd (false≢true (sym some ∙ all))
only_listed changes numbers i some same (inr listed) = subst (λ (ns : List ℕ). IsListed ns i) (sym same) listed

-- each cell is as it was or as after a crash, and those of the first so many numbers are as after a crash
pub record AreCrashed (old cells : List Cell) (numbers : List ℕ) (count : ℕ) : Type 0 where
  pub size : length cells ≡ length old
  pub either : (j : ℕ) → (cell_at cells j ≡ cell_at old j) ⊎ (cell_at cells j ≡ cell_of (cell_at old j).durable)
  pub listed : (p : ℕ) → p < count → get_or numbers p 0 < length old → cell_at cells (get_or numbers p 0) ≡ cell_of (cell_at old (get_or numbers p 0)).durable

module _ (old cells : List Cell) (numbers : List ℕ) (count : ℕ) (a : AreCrashed old cells numbers count) where
  pub CellsStand-some : count ≡ length numbers → (words : List Word) (stores : ℕ) → CellsStand old words stores →
      ((i : ℕ) → 1 < length (word_at words i).values → IsListed numbers i) → CellsStand cells (map after_crash words) 0
  CellsStand-some all words stores s changed = record {
    size = a.size ∙ s.size ∙ sym (length-map words after_crash);
    each = λ i below. rw (word_at-crashed words i) (one i (omega (arith, a.size, below)));
  }
    where
      by_list : (i : ℕ) → i < length old → IsListed numbers i → RepresentsCell (cell_at cells i) (after_crash (word_at words i)) 0
      by_list i below l =
          let is : cell_at cells i ≡ cell_of (cell_at old i).durable =
          subst (λ (j : ℕ). cell_at cells j ≡ cell_of (cell_at old j).durable) l.same
          (a.listed l.place (omega (arith, l.within, all)) (omega (arith, l.same, below))) in
          subst (λ (c : Cell). RepresentsCell c (after_crash (word_at words i)) 0) (sym is)
          (RepresentsCell-crashed (cell_at old i) (word_at words i) stores (s.each i below))

      unlisted : (i : ℕ) → i < length old → length (word_at words i).values ≤ 1 → RepresentsCell (cell_at cells i) (after_crash (word_at words i)) 0
      unlisted i below single = elim (a.either i) [
        | inl e ↦ subst (λ (c : Cell). RepresentsCell c (after_crash (word_at words i)) 0) (sym e)
            (RepresentsCell-unchanged (cell_at old i) (word_at words i) stores single (s.each i below))
        | inr e ↦ subst (λ (c : Cell). RepresentsCell c (after_crash (word_at words i)) 0) (sym e)
            (RepresentsCell-crashed (cell_at old i) (word_at words i) stores (s.each i below))
      ]

      one : (i : ℕ) → i < length old → RepresentsCell (cell_at cells i) (after_crash (word_at words i)) 0
      one i below = elim (cases_lt 1 (length (word_at words i).values)) [
        | inl more ↦ by_list i below (changed i more)
        | inr single ↦ unlisted i below single
      ]

-- ---- Snapshots

module _ (cells : List Cell) (words : List Word) (stores line : ℕ) (saved : List Saved) (exists : 8 * line + 8 ≤ length cells)
    (s : CellsStand cells words stores) where
  here : (k : ℕ) → k < 8 → RepresentsCell (cell_at cells (8 * line + k)) (word_at words (8 * line + k)) stores
  here k below = s.each (8 * line + k) (omega (arith, below, exists))

  line_words-at : (k : ℕ) → k < 8 → get_or (map last_position (line_words words line)) k 0 ≡ last_position (word_at words (8 * line + k))
  line_words-at k below =
      let long : k < length (take 8 (drop (8 * line) words)) =
      omega (arith, length-take-le 8 (drop (8 * line) words) (omega (arith, length-drop (8 * line) words, exists, s.size)), below) in
      get_or-map last_position (take 8 (drop (8 * line) words)) k (word_of 0) 0 long
      ∙ ap last_position (get_or-take 8 (drop (8 * line) words) k (word_of 0) below ∙ get_or-drop (8 * line) words k (word_of 0))

  length-line_words : length (map last_position (line_words words line)) ≡ 8
  length-line_words =
      length-map (line_words words line) last_position ∙ length-take-le 8 (drop (8 * line) words) (omega (arith, length-drop (8 * line) words, exists, s.size))

  pub snapshot_stands : length saved ≡ 8 → ((k : ℕ) → k < 8 → saved_at saved k ≡ newest_of (cell_at cells (8 * line + k))) →
      RepresentsSnapshot (record { line = line; words = saved }) (entry_of words line) words
  snapshot_stands eight newest = record {
    line = refl;
    exists = omega (arith, exists, s.size);
    positions = ext_get_or 0 _ (versions_in saved) (length-line_words ∙ sym (length-map saved (λ (one : Saved). one.version) ∙ eight)) (λ k below.
        let in_line : k < 8 = omega (arith, below, length-line_words) in
        line_words-at k in_line ∙ omega (arith, (here k in_line).version) ∙ sym (version_at saved k (omega (arith, in_line, eight)) ∙ same_version k in_line));
    kept = record {
      within = λ k below. omega (arith, same_version k below, (here k below).version);
      same = λ k below.
          let position : last_position (word_at words (8 * line + k)) ≡ (saved_at saved k).version =
          omega (arith, (here k below).version, same_version k below) in
          same_value k below ∙ (here k below).live ∙ ap (λ (p : ℕ). get_or (word_at words (8 * line + k)).values p 0) position;
    };
  }
    where
      same_version : (k : ℕ) → k < 8 → (saved_at saved k).version ≡ (cell_at cells (8 * line + k)).version
      same_version k below = ap (λ (one : Saved). one.version) (newest k below)

      same_value : (k : ℕ) → k < 8 → (saved_at saved k).value ≡ (cell_at cells (8 * line + k)).live
      same_value k below = ap (λ (one : Saved). one.value) (newest k below)
