-- The cells of a new memory.
use Rattle.std.proofs.Common.{◌≡◌, ℕ, zero, suc, ◌+◌, ◌-◌, ◌*◌, ◌<◌, ◌≤◌, List, [], ◌∷◌, ◌++◌, length, get_or, take, drop, set, map, replicate, refl, sym}
use Rattle.std.proofs.Common.{◌∙◌, ap, subst, inl, inr, arith, add-one, append_assoc, length-set, get_or-set_same, get_or-set_other, get_or-take, get_or-drop}
use Rattle.std.proofs.lemmas.Bool.{cases_eq}
use Rattle.std.proofs.lemmas.List.{get_or-map, length-map, map-append, take_all, drop-drop, get_or_past}
use Rattle.std.specs.Int.{w64, from_le_bytes}
use Rattle.log_schemes.specs.declared.log.Log.{Log}
use Rattle.ido_base.specs.Words.{word_of}
use Rattle.ido_base.specs.Layout.{words_of_bytes, variable_lines, spread_words}
use Rattle.log_schemes.specs.Layout.{word_count, log_words, initial_words}
use Rattle.line_memory.specs.declared.memory.LineMemory.{LineMemory}
use Rattle.line_memory.specs.links.MemoryRepresentation.{Represents}
use Rattle.line_memory.specs.declared.cell.Cell.{Cell}
use Rattle.line_memory.proofs.Memories.{known_single}
use Rattle.line_memory.specs.links.Cells.{cell_of, RepresentsCell, CellsStand}

-- ---- A word from bytes

-- the first k bytes of a word are copied, the others are 0
pub record IsCopied (word bytes : List ℕ) (at k : ℕ) : Type 0 where
  pub size : length word ≡ 8
  pub copied : (i : ℕ) → i < k → get_or word i 0 ≡ get_or bytes (at + i) 0
  pub zeros : (i : ℕ) → k ≤ i → get_or word i 0 ≡ 0

pub IsCopied-set : (word bytes : List ℕ) (at k : ℕ) → k < 8 → IsCopied word bytes at k → IsCopied (set word k (get_or bytes (at + k) 0)) bytes at (k + 1)
IsCopied-set word bytes at k below c =
    let byte = get_or bytes (at + k) 0 in
    let in_word : k < length word = omega (arith, c.size, below) in
    record {
      size = length-set word k byte ∙ c.size;
      copied = λ i h. elim (cases_eq i k) [
        | inl same ↦ subst (λ (j : ℕ). get_or (set word k byte) j 0 ≡ get_or bytes (at + j) 0) (sym same) (get_or-set_same word k byte 0 in_word)
        | inr other ↦ get_or-set_other word k i byte 0 other ∙ c.copied i (omega (arith, other, h))
      ];
      zeros = λ i h. let other : i ≡ k → ⊥ = λ e. omega (arith, e, h) in get_or-set_other word k i byte 0 other ∙ c.zeros i (omega (arith, h));
    }

pub IsCopied-past : (word bytes : List ℕ) (at k : ℕ) → length bytes ≤ at + k → IsCopied word bytes at k → IsCopied word bytes at (k + 1)
IsCopied-past word bytes at k past c = record {
  size = c.size;
  copied = λ i h. elim (cases_eq i k) [
    | inl same ↦ subst (λ (j : ℕ). get_or word j 0 ≡ get_or bytes (at + j) 0) (sym same) (c.zeros k (omega arith) ∙ sym (get_or_past bytes (at + k) 0 past))
    | inr other ↦ c.copied i (omega (arith, other, h))
  ];
  zeros = λ i h. c.zeros i (omega (arith, h));
}

-- eight equal bytes are one word
from_le_bytes-same : (xs ys : List ℕ) → ((i : ℕ) → i < 8 → get_or xs i 0 ≡ get_or ys i 0) → from_le_bytes w64 xs ≡ from_le_bytes w64 ys
from_le_bytes-same xs ys h =
    cc (h 0 (omega arith), h 1 (omega arith), h 2 (omega arith), h 3 (omega arith), h 4 (omega arith), h 5 (omega arith), h 6 (omega arith), h 7 (omega arith))

pub from_le_bytes-copied : (word bytes : List ℕ) (at k : ℕ) → k ≡ 8 → IsCopied word bytes at k →
    from_le_bytes w64 word ≡ from_le_bytes w64 (take 8 (drop at bytes))
from_le_bytes-copied word bytes at k eight c =
    from_le_bytes-same word (take 8 (drop at bytes))
    (λ i h. c.copied i (omega (arith, h, eight)) ∙ sym (get_or-take 8 (drop at bytes) i 0 h ∙ get_or-drop at bytes i 0))

-- ---- Words from bytes

word_number : List ℕ → ℕ → ℕ
word_number bytes i = from_le_bytes w64 (take 8 (drop (8 * i) bytes))

words_of_bytes-suc : (bytes : List ℕ) (n : ℕ) → words_of_bytes bytes (suc n) ≡ words_of_bytes bytes n ++ word_number bytes n ∷ []
unfolding word_number
words_of_bytes-suc bytes zero = refl
words_of_bytes-suc bytes (suc n) =
    let e : 8 + 8 * n ≡ 8 * suc n = omega arith in
    ap (λ (ws : List ℕ). from_le_bytes w64 (take 8 bytes) ∷ ws)
    (words_of_bytes-suc (drop 8 bytes) n
    ∙ ap (λ (xs : List ℕ). words_of_bytes (drop 8 bytes) n ++ from_le_bytes w64 (take 8 xs) ∷ []) (drop-drop (8 * n) 8 bytes ∙ ap (λ (m : ℕ). drop m bytes) e))

pub push_bytes_step : (old items new : List Cell) (bytes : List ℕ) (i word : ℕ) (cell : Cell) → items ≡ old ++ map cell_of (words_of_bytes bytes i) →
    new ≡ items ++ cell ∷ [] → cell ≡ cell_of word → word ≡ from_le_bytes w64 (take 8 (drop (8 * i) bytes)) →
    new ≡ old ++ map cell_of (words_of_bytes bytes (i + 1))
unfolding word_number
push_bytes_step old items new bytes i word cell before pushed is_cell is_word =
    let grown : map cell_of (words_of_bytes bytes (suc i)) ≡ map cell_of (words_of_bytes bytes i) ++ cell_of (word_number bytes i) ∷ [] =
    ap (map cell_of) (words_of_bytes-suc bytes i) ∙ map-append cell_of (words_of_bytes bytes i) (word_number bytes i ∷ []) in
    rw (add-one) (pushed ∙ ap (λ (xs : List Cell). xs ++ cell ∷ []) before ∙ append_assoc old (map cell_of (words_of_bytes bytes i)) (cell ∷ [])
    ∙ ap (λ (c : Cell). old ++ (map cell_of (words_of_bytes bytes i) ++ c ∷ [])) (is_cell ∙ ap cell_of is_word)
    ∙ ap (λ (xs : List Cell). old ++ xs) (sym grown))

-- ---- Zeros

map-zeros : (n : ℕ) → map cell_of (replicate n 0) ≡ replicate n (cell_of 0)
map-zeros zero = refl
map-zeros (suc n) = ap (λ (cells : List Cell). cell_of 0 ∷ cells) (map-zeros n)

pub push_zeros_step : (old new : List Cell) (cell : Cell) (len count : ℕ) → len ≡ length old → cell ≡ cell_of 0 →
    new ≡ take (len + count) old ++ replicate (len + count - len) cell → new ≡ old ++ map cell_of (replicate count 0)
push_zeros_step old new cell len count is_len is_cell is_new =
    let n : len + count - len ≡ count = omega arith in
    is_new ∙ ap (λ (xs : List Cell). xs ++ replicate (len + count - len) cell) (take_all (len + count) old (omega (arith, is_len)))
    ∙ ap (λ (m : ℕ). old ++ replicate m cell) n ∙ ap (λ (c : Cell). old ++ replicate count c) is_cell
    ∙ ap (λ (xs : List Cell). old ++ xs) (sym (map-zeros count))

-- ---- All cells

RepresentsCell-of : (n : ℕ) → RepresentsCell (cell_of n) (word_of n) 0
RepresentsCell-of n = record { live = refl; version = refl; durable = refl; durable_version = refl; order = omega arith; counted = omega arith }

pub CellsStand-of : (ns : List ℕ) → CellsStand (map cell_of ns) (map word_of ns) 0
CellsStand-of ns = record {
  size = length-map ns cell_of ∙ sym (length-map ns word_of);
  each = λ i below.
      let in_ns : i < length ns = omega (arith, below, length-map ns cell_of) in
      rw (get_or-map cell_of ns i 0 (cell_of 0) in_ns, get_or-map word_of ns i 0 (word_of 0) in_ns) (RepresentsCell-of (get_or ns i 0));
}

-- ---- New memories

length-made : (memory : LineMemory) (ns : List ℕ) → memory.cells.items ≡ map cell_of ns → length (map word_of ns) ≡ word_count memory.log memory.threads
length-made memory ns same = length-map ns word_of ∙ sym (length-map ns cell_of) ∙ ap length (sym same) ∙ sym memory.cells.ok.0 ∙ memory.sized

pub represents-of : (memory : LineMemory) (ns : List ℕ) → memory.stores ≡ 0 → memory.cells.items ≡ map cell_of ns → Represents memory (map word_of ns)
represents-of memory ns none same = record {
  size = length-made memory ns same;
  changes = known_single memory.changes ns;
  cells =
      subst (λ (n : ℕ). CellsStand memory.cells.items (map word_of ns) n) (sym none)
      (subst (λ (cs : List Cell). CellsStand cs (map word_of ns) 0) (sym same) (CellsStand-of ns));
}

-- three parts, one after another
parts : (all first second : List Cell) (a b d : List ℕ) → first ≡ map cell_of a → second ≡ first ++ map cell_of b → all ≡ second ++ map cell_of d →
    all ≡ map cell_of (a ++ b ++ d)
parts all first second a b d e f g =
    let ab : second ≡ map cell_of (a ++ b) = f ∙ ap (λ (xs : List Cell). xs ++ map cell_of b) e ∙ sym (map-append cell_of a b) in
    g ∙ ap (λ (xs : List Cell). xs ++ map cell_of d) ab ∙ sym (map-append cell_of (a ++ b) d)

initial_words-at : (log : Log) (threads : ℕ) (bytes : List ℕ) (n m : ℕ) → n ≡ 8 * variable_lines → m ≡ log_words log * threads →
    words_of_bytes bytes n ++ replicate m 0 ≡ initial_words log threads bytes
unfolding initial_words
initial_words-at log threads bytes n m variables logs =
    ap (λ (k : ℕ). words_of_bytes bytes n ++ replicate k 0) logs ∙ ap (λ (k : ℕ). words_of_bytes bytes k ++ replicate (log_words log * threads) 0) variables

-- the words at the start
pub initial_cells : (all second first : List Cell) (log : Log) (threads : ℕ) (bytes : List ℕ) (n m : ℕ) → n ≡ 8 * variable_lines → m ≡ log_words log * threads →
    first ≡ [] → second ≡ first ++ map cell_of (words_of_bytes bytes n) → all ≡ second ++ map cell_of (replicate m 0) →
    all ≡ map cell_of (initial_words log threads bytes)
initial_cells all second first log threads bytes n m variables logs e f g =
    parts all first second [] (words_of_bytes bytes n) (replicate m 0) e f g ∙ ap (map cell_of) (initial_words-at log threads bytes n m variables logs)

-- the words that are given
pub spread_cells : (all third second first : List Cell) (variable_words : ℕ) (words : List ℕ) (n : ℕ) → n ≡ 8 * variable_lines - variable_words → first ≡ [] →
    second ≡ first ++ map cell_of (take variable_words words) → third ≡ second ++ map cell_of (replicate n 0) →
    all ≡ third ++ map cell_of (drop variable_words words) → all ≡ map cell_of (spread_words variable_words words)
unfolding spread_words
spread_cells all third second first variable_words words n zeros e f g h =
    parts all second third (take variable_words words) (replicate n 0) (drop variable_words words)
    (f ∙ ap (λ (xs : List Cell). xs ++ map cell_of (take variable_words words)) e) g h
    ∙ ap (λ (k : ℕ). map cell_of (take variable_words words ++ replicate k 0 ++ drop variable_words words)) zeros
