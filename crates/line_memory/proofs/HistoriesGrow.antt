-- Histories only grow: what a queue represents stays so through stores, write-backs and evictions.
use Rattle.std.proofs.Common.{◌≡◌, ℕ, zero, suc, ◌+◌, ◌*◌, ◌/◌, ◌%◌, ◌<◌, List, [], ◌∷◌, length, get_or, set, eqb, cond, refl}
use Rattle.std.proofs.Common.{sym, ◌∙◌, ap, subst, inl, inr, arith, length-append, length-set, get_or-set_same, get_or-set_other}
use Rattle.std.proofs.lemmas.List.{get_or_append_left, set_past}
use Rattle.std.proofs.lemmas.Bool.{cases_lt, cases_eq, cond_both}
use Rattle.ido_base.specs.Words.{Word, Entry, word_of, word_at, last_position, with_value, written_back, stored, persisted, drained, evicted_from, evicted}
use Rattle.line_memory.specs.links.Cells.{Remembers}
use Rattle.line_memory.specs.links.Queues.{RepresentsSnapshot, RepresentsQueue}
use Rattle.line_memory.specs.declared.queue.Saved.{Saved}
use Rattle.line_memory.specs.declared.queue.Snapshot.{Snapshot}
use Rattle.line_memory.specs.declared.queue.Queue.{Queue}

-- every position of the word's history stays, with its value
pub record WordGrows (old new : Word) : Type 0 where
  pub within : (p : ℕ) → p < length old.values → p < length new.values
  pub same : (p : ℕ) → p < length old.values → get_or new.values p 0 ≡ get_or old.values p 0

-- of every word
pub record Grows (old new : List Word) : Type 0 where
  pub size : length new ≡ length old
  pub each : (i : ℕ) → WordGrows (word_at old i) (word_at new i)

WordGrows-refl : (word : Word) → WordGrows word word
WordGrows-refl word = record { within = λ p h. h; same = λ p h. refl }

WordGrows-trans : (a b c : Word) → WordGrows a b → WordGrows b c → WordGrows a c
WordGrows-trans a b c g h = record { within = λ p l. h.within p (g.within p l); same = λ p l. h.same p (g.within p l) ∙ g.same p l }

WordGrows-with_value : (word : Word) (n : ℕ) → WordGrows word (with_value word n)
WordGrows-with_value word n = record {
  within = λ p l. omega (arith, length-append word.values (n ∷ []));
  same = λ p l. get_or_append_left word.values (n ∷ []) 0 p l;
}

WordGrows-written_back : (word : Word) (position : ℕ) → WordGrows word (written_back word position)
WordGrows-written_back word position = record { within = λ p h. h; same = λ p h. refl }

pub Grows-refl : (words : List Word) → Grows words words
Grows-refl words = record { size = refl; each = λ i. WordGrows-refl (word_at words i) }

pub Grows-trans : (a b c : List Word) → Grows a b → Grows b c → Grows a c
Grows-trans a b c g h = record { size = h.size ∙ g.size; each = λ i. WordGrows-trans _ _ _ (g.each i) (h.each i) }

-- a word that grew in its place
Grows-set : (words : List Word) (at : ℕ) (word : Word) → WordGrows (word_at words at) word → Grows words (set words at word)
Grows-set words at word g = record {
  size = length-set words at word;
  each = λ i. elim (cases_eq i at) [
    | inl same ↦ elim (cases_lt at (length words)) [
      | inl within ↦ subst (λ w. WordGrows (word_at words i) w)
          (sym (ap (λ j. get_or (set words at word) j (word_of 0)) same ∙ get_or-set_same words at word (word_of 0) within))
          (subst (λ j. WordGrows (word_at words j) word) (sym same) g)
      | inr past ↦ subst (λ ws. WordGrows (word_at words i) (word_at ws i)) (sym (set_past words at word past)) (WordGrows-refl (word_at words i))
    ]
    | inr other ↦ subst (λ w. WordGrows (word_at words i) w) (sym (get_or-set_other words at i word (word_of 0) other)) (WordGrows-refl (word_at words i))
  ];
}

pub Grows-stored : (words : List Word) (number count value : ℕ) → Grows words (stored words number count value)
Grows-stored words number count value = Grows-set words (number / 8) _ (WordGrows-with_value _ _)

Grows-back : (words : List Word) (at position : ℕ) → Grows words (set words at (written_back (word_at words at) position))
Grows-back words at position = Grows-set words at _ (WordGrows-written_back _ position)

pub Grows-persisted : (words : List Word) (at : ℕ) (positions : List ℕ) → Grows words (persisted words at positions)
Grows-persisted words at [] = Grows-refl words
Grows-persisted words at (p ∷ ps) = Grows-trans _ _ _ (Grows-back words at p) (Grows-persisted (set words at (written_back (word_at words at) p)) (at + 1) ps)

pub Grows-drained : (words : List Word) (entry : Entry) → Grows words (drained words entry)
Grows-drained words entry = Grows-persisted words (8 * entry.line) entry.positions

-- a word is evicted, or not
abbrev pub evicted_at : List Word → (at mask : ℕ) → List Word
evicted_at words at mask = cond (eqb (mask % 2) 1) (set words at (written_back (word_at words at) (last_position (word_at words at)))) words

Grows-evicted_at : (words : List Word) (at mask : ℕ) → Grows words (evicted_at words at mask)
Grows-evicted_at words at mask =
    cond_both (eqb (mask % 2) 1) (set words at (written_back (word_at words at) (last_position (word_at words at)))) words (λ ws. Grows words ws)
    (λ _. Grows-back words at (last_position (word_at words at))) (λ _. Grows-refl words)

pub Grows-evicted_from : (words : List Word) (at mask count : ℕ) → Grows words (evicted_from words at mask count)
Grows-evicted_from words at mask zero = Grows-refl words
Grows-evicted_from words at mask (suc count) =
    Grows-trans _ _ _ (Grows-evicted_at words at mask) (Grows-evicted_from (evicted_at words at mask) (at + 1) (mask / 2) count)

pub Grows-evicted : (words : List Word) (line mask : ℕ) → Grows words (evicted words line mask)
Grows-evicted words line mask = Grows-evicted_from words (8 * line) mask 8

pub Remembers-grows : (saved : List Saved) (at : ℕ) (old new : List Word) → Grows old new → Remembers saved at old → Remembers saved at new
Remembers-grows saved at old new g r = record {
  within = λ k h. (g.each (at + k)).within _ (r.within k h);
  same = λ k h. r.same k h ∙ sym ((g.each (at + k)).same _ (r.within k h));
}

pub RepresentsSnapshot-grows : (snapshot : Snapshot) (entry : Entry) (old new : List Word) → Grows old new → RepresentsSnapshot snapshot entry old →
    RepresentsSnapshot snapshot entry new
RepresentsSnapshot-grows snapshot entry old new g s = record {
  line = s.line;
  exists = omega (arith, g.size, s.exists);
  positions = s.positions;
  kept = Remembers-grows _ _ old new g s.kept;
}

pub RepresentsQueue-grows : (queue : Queue) (entries : List Entry) (old new : List Word) → Grows old new → RepresentsQueue queue entries old →
    RepresentsQueue queue entries new
RepresentsQueue-grows queue entries old new g q = record { size = q.size; each = λ i h. RepresentsSnapshot-grows _ _ old new g (q.each i h) }

pub RepresentsQueue-stored : (queue : Queue) (entries : List Entry) (words : List Word) (number count value : ℕ) → RepresentsQueue queue entries words →
    RepresentsQueue queue entries (stored words number count value)
RepresentsQueue-stored queue entries words number count value q = RepresentsQueue-grows queue entries words _ (Grows-stored words number count value) q

pub RepresentsQueue-drained : (queue : Queue) (entries : List Entry) (words : List Word) (entry : Entry) → RepresentsQueue queue entries words →
    RepresentsQueue queue entries (drained words entry)
RepresentsQueue-drained queue entries words entry q = RepresentsQueue-grows queue entries words _ (Grows-drained words entry) q

pub RepresentsQueue-evicted : (queue : Queue) (entries : List Entry) (words : List Word) (line mask : ℕ) → RepresentsQueue queue entries words →
    RepresentsQueue queue entries (evicted words line mask)
RepresentsQueue-evicted queue entries words line mask q = RepresentsQueue-grows queue entries words _ (Grows-evicted words line mask) q

-- ---- Write-backs give no word a further value

values-back : (words : List Word) (at position j : ℕ) → (word_at (set words at (written_back (word_at words at) position)) j).values ≡ (word_at words j).values
values-back [] at position j = refl
values-back (w ∷ words) zero position zero = refl
values-back (w ∷ words) zero position (suc j) = refl
values-back (w ∷ words) (suc at) position zero = refl
values-back (w ∷ words) (suc at) position (suc j) = values-back words at position j

values-persisted : (words : List Word) (at : ℕ) (positions : List ℕ) (j : ℕ) → (word_at (persisted words at positions) j).values ≡ (word_at words j).values
values-persisted words at [] j = refl
values-persisted words at (p ∷ ps) j = values-persisted (set words at (written_back (word_at words at) p)) (at + 1) ps j ∙ values-back words at p j

pub values-drained : (words : List Word) (entry : Entry) (j : ℕ) → (word_at (drained words entry) j).values ≡ (word_at words j).values
values-drained words entry j = values-persisted words (8 * entry.line) entry.positions j

values-evicted_at : (words : List Word) (at mask j : ℕ) → (word_at (evicted_at words at mask) j).values ≡ (word_at words j).values
values-evicted_at words at mask j =
    cond_both (eqb (mask % 2) 1) (set words at (written_back (word_at words at) (last_position (word_at words at)))) words
    (λ ws. (word_at ws j).values ≡ (word_at words j).values) (λ _. values-back words at (last_position (word_at words at)) j) (λ _. refl)

values-evicted_from : (words : List Word) (at mask count j : ℕ) → (word_at (evicted_from words at mask count) j).values ≡ (word_at words j).values
values-evicted_from words at mask zero j = refl
values-evicted_from words at mask (suc count) j = values-evicted_from (evicted_at words at mask) (at + 1) (mask / 2) count j ∙ values-evicted_at words at mask j

pub values-evicted : (words : List Word) (line mask j : ℕ) → (word_at (evicted words line mask) j).values ≡ (word_at words j).values
values-evicted words line mask j = values-evicted_from words (8 * line) mask 8 j
