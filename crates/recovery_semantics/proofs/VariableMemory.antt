-- Variables in words change as their words do.
use Rattle.std.proofs.Common.{◌≡◌, ◌⊎◌, inl, inr, refl, ℕ, zero, suc, ◌+◌, ◌*◌, ◌/◌, ◌%◌, ◌<◌, ◌≤◌, List, [], ◌∷◌, length, map, sym, ◌∙◌, ap, subst, arith}
use Rattle.std.proofs.Common.{Option, Some, None, ℤ, slice_set, ⊎_elim, slice_get, slice_index_or, pos}
use Rattle.std.proofs.lemmas.Bool.{cases_eq, cases_lt}
use Rattle.ido_ints.specs.declared.kinds.Kind.{Kind}
use Rattle.ido_ints.specs.Kinds.{bytes_of, Holds}
use Rattle.ido_ints.specs.Reduction.{register_of}
use Rattle.ido_base.specs.Words as w
use Rattle.ido_base.specs.Words.{Word, word_of, word_at, with_value, with_part, live_value}
use Rattle.recovery_semantics.specs.ElementHistories.{History, Memory, history_of, history_at, live_number, with_number, after_crash, IsPersisted, IsOther}
use Rattle.recovery_semantics.specs.ElementHistories.{IsStored, sizes}
use Rattle.recovery_semantics.specs.Elements.{element_in}
use Rattle.recovery_semantics.specs.VariableSpots.{Spot, elements_in, variable_in, memory_in, IsAtSpot, AreSpotsApart, MemoryStored, MemoryPersisted}
use Rattle.recovery_semantics.specs.VariableSpots.{MemoryCrashed, MemoryLoaded, MemoryStays}
use Rattle.recovery_semantics.proofs.StableHistories.{index_map}
use Rattle.recovery_semantics.proofs.Elements.{live_in, persisted_in, crashed_in, stored_in, beside_in}

abbrev none : History
none = history_of (pos 0)

-- ---- Where an element is

elements_at : (words : List Word) (kind : Kind) (number count e : ℕ) → e < count →
    slice_index_or (elements_in words kind number count) e none ≡ element_in kind ((number + bytes_of kind * e) % 8)
    (word_at words ((number + bytes_of kind * e) / 8))
elements_at words kind number zero e h = absurd (omega (arith, h))
elements_at words kind number (suc n) zero h =
    let is : number ≡ number + bytes_of kind * 0 = omega arith in
    ap (λ (k : ℕ). element_in kind (k % 8) (word_at words (k / 8))) is
elements_at words kind number (suc n) (suc e) h =
    let is : number + bytes_of kind + bytes_of kind * e ≡ number + bytes_of kind * suc e = omega arith in
    elements_at words kind (number + bytes_of kind) n e (omega (arith, h)) ∙ ap (λ (k : ℕ). element_in kind (k % 8) (word_at words (k / 8))) is

pub elements_past : (words : List Word) (kind : Kind) (number count e : ℕ) → count ≤ e → slice_index_or (elements_in words kind number count) e none ≡ none
elements_past words kind number zero e h = refl
elements_past words kind number (suc n) zero h = absurd (omega (arith, h))
elements_past words kind number (suc n) (suc e) h = elements_past words kind (number + bytes_of kind) n e (omega (arith, h))

elements_size : (words : List Word) (kind : Kind) (number count : ℕ) → length (elements_in words kind number count) ≡ count
elements_size words kind number zero = refl
elements_size words kind number (suc n) = ap suc (elements_size words kind (number + bytes_of kind) n)

pub sizes_same : (spots : List Spot) (old new : List Word) → sizes (memory_in spots new) ≡ sizes (memory_in spots old)
sizes_same [] old new = refl
sizes_same (s ∷ ss) old new = λ i. (elements_size new s.kind s.start s.elements ∙ sym (elements_size old s.kind s.start s.elements)) i ∷ sizes_same ss old new i

pub variable_found : (spots : List Spot) (words : List Word) (v : ℕ) (s : Spot) → slice_get spots v ≡ Some s →
    slice_index_or (memory_in spots words) v [] ≡ variable_in words s
variable_found [] words v s h = cc
variable_found (x ∷ spots) words zero s h = let is : x ≡ s = cc in ap (variable_in words) is
variable_found (x ∷ spots) words (suc v) s h = variable_found spots words v s h

pub variable_past : (spots : List Spot) (words : List Word) (v : ℕ) → slice_get spots v ≡ None → slice_index_or (memory_in spots words) v [] ≡ []
variable_past [] words v h = refl
variable_past (x ∷ spots) words zero h = cc
variable_past (x ∷ spots) words (suc v) h = variable_past spots words v h

-- in all words: where an element is, or that there is none
record Found (spots : List Spot) (v e : ℕ) : Type 0 where
  kind : Kind
  number : ℕ
  at : IsAtSpot spots v e kind number

abbrev NoneThere : List Spot → (v e : ℕ) → Type 0
NoneThere spots v e = (words : List Word) → history_at (memory_in spots words) v e ≡ none

found_by : (spots : List Spot) (v e : ℕ) (o : Option Spot) → slice_get spots v ≡ o → Found spots v e ⊎ NoneThere spots v e
found_by spots v e None h = inr (λ words. ap (λ (hs : List History). slice_index_or hs e none) (variable_past spots words v h))
found_by spots v e (Some s) h = ⊎_elim
    (λ l. inl (record {
      kind = s.kind;
      number = s.start + bytes_of s.kind * e;
      at = record { spot = s; there = h; within = l; kind_is = refl; number_is = refl };
    }))
    (λ l. inr (λ words. ap (λ (hs : List History). slice_index_or hs e none) (variable_found spots words v s h)
    ∙ elements_past words s.kind s.start s.elements e l))
    (cases_lt e s.elements)

found : (spots : List Spot) (v e : ℕ) → Found spots v e ⊎ NoneThere spots v e
found spots v e = found_by spots v e (slice_get spots v) refl

pub at_spot : (spots : List Spot) (words : List Word) (v e : ℕ) (kind : Kind) (number : ℕ) → IsAtSpot spots v e kind number →
    history_at (memory_in spots words) v e ≡ element_in kind (number % 8) (word_at words (number / 8))
at_spot spots words v e kind number a =
    ap (λ (hs : List History). slice_index_or hs e none) (variable_found spots words v a.spot a.there)
    ∙ (elements_at words a.spot.kind a.spot.start a.spot.elements e a.within
    ∙ (λ i. element_in (sym a.kind_is i) (sym a.number_is i % 8) (word_at words (sym a.number_is i / 8))))

-- ---- Words

word_set_same : (words : List Word) (i : ℕ) (x : Word) → i < length words → word_at (slice_set words i x) i ≡ x
word_set_same [] i x h = absurd (omega (arith, h))
word_set_same (y ∷ words) zero x h = refl
word_set_same (y ∷ words) (suc i) x h = word_set_same words i x (omega (arith, h))

word_set_other : (words : List Word) (i j : ℕ) (x : Word) → (j ≡ i → ⊥) → word_at (slice_set words i x) j ≡ word_at words j
word_set_other [] i j x n = refl
word_set_other (y ∷ words) zero zero x n = absurd (n refl)
word_set_other (y ∷ words) zero (suc j) x n = refl
word_set_other (y ∷ words) (suc i) zero x n = refl
word_set_other (y ∷ words) (suc i) (suc j) x n = word_set_other words i j x (λ e. n (ap suc e))

-- ---- A store

module _ {spots : List Spot} (words : List Word) {i j : ℕ} {kind : Kind} {number : ℕ} (n : ℤ) (apart : AreSpotsApart spots (length words))
    (a : IsAtSpot spots i j kind number) (holds : Holds kind n) where
  abbrev old : Word
  old = word_at words (number / 8)

  abbrev new : Word
  new = with_value old (with_part (live_value old) (number % 8) (bytes_of kind) (register_of kind n))

  abbrev after : List Word
  after = slice_set words (number / 8) new

  own : history_at (memory_in spots after) i j ≡ with_number (history_at (memory_in spots words) i j) n
  own = at_spot spots after i j kind number a
      ∙ (ap (element_in kind (number % 8)) (word_set_same words (number / 8) new (apart.whole i j kind number a).1)
      ∙ (stored_in kind (number % 8) old n holds ∙ ap (λ (h : History). with_number h n) (sym (at_spot spots words i j kind number a))))

  abbrev IsAgain : (v e : ℕ) → Type 0
  IsAgain v e = (history_at (memory_in spots after) v e ≡ history_at (memory_in spots words) v e) ⊎
      (history_at (memory_in spots after) v e ≡ with_number (history_at (memory_in spots words) v e) (live_number (history_at (memory_in spots words) v e)))

  -- an element in the same word
  beside : (v e : ℕ) (other : Kind) (at : ℕ) → IsAtSpot spots v e other at → IsOther i j v e → at / 8 ≡ number / 8 → IsAgain v e
  beside v e other at b differs same =
      let bytes : (number % 8 + bytes_of kind ≤ at % 8) ⊎ (at % 8 + bytes_of other ≤ number % 8) = ⊎_elim
      (λ l. inl (omega (arith, l, same)))
      (λ l. inr (omega (arith, l, same)))
      (apart.apart v e i j other kind at number b a differs) in
      let word : word_at after (at / 8) ≡ new = ap (word_at after) same ∙ word_set_same words (number / 8) new (apart.whole i j kind number a).1 in
      let before : history_at (memory_in spots words) v e ≡ element_in other (at % 8) old = at_spot spots words v e other at b
      ∙ ap (λ (k : ℕ). element_in other (at % 8) (word_at words k)) same in
      inr (at_spot spots after v e other at b
      ∙ (ap (element_in other (at % 8)) word
      ∙ (beside_in other (at % 8) old (number % 8) (bytes_of kind) (register_of kind n) bytes
      ∙ ap (λ (h : History). with_number h (live_number h)) (sym before))))

  -- one in another word
  elsewhere : (v e : ℕ) (other : Kind) (at : ℕ) → IsAtSpot spots v e other at → (at / 8 ≡ number / 8 → ⊥) → IsAgain v e
  elsewhere v e other at b differs =
      inl (at_spot spots after v e other at b
      ∙ (ap (element_in other (at % 8)) (word_set_other words (number / 8) (at / 8) new differs) ∙ sym (at_spot spots words v e other at b)))

  others : (v e : ℕ) → IsOther i j v e → IsAgain v e
  others v e differs = ⊎_elim
      (λ r. ⊎_elim
      (λ same. beside v e r.kind r.number r.at differs same)
      (λ apart'. elsewhere v e r.kind r.number r.at apart')
      (cases_eq (r.number / 8) (number / 8)))
      (λ past. inl (past after ∙ sym (past words)))
      (found spots v e)

  stored : IsStored (memory_in spots words) (memory_in spots after) i j n
  stored = record { size = sizes_same spots words after; own = own; others = others }

pub memory_stored : MemoryStored
memory_stored spots words v e kind number n apart a holds = stored words n apart a holds

-- ---- A load, and a store elsewhere

pub memory_loaded : MemoryLoaded
memory_loaded spots words v e kind number a = grind (arith, live_in, at_spot)

elements_same : (gs hs : List History) → length gs ≡ length hs → ((e : ℕ) → slice_index_or gs e none ≡ slice_index_or hs e none) → gs ≡ hs
elements_same [] [] l same = refl
elements_same [] (h ∷ hs) l same = absurd (omega (arith, l))
elements_same (g ∷ gs) [] l same = absurd (omega (arith, l))
elements_same (g ∷ gs) (h ∷ hs) l same = λ i. same 0 i ∷ elements_same gs hs (omega (arith, l)) (λ e. same (suc e)) i

memory_same : (a b : Memory) → sizes a ≡ sizes b → ((v e : ℕ) → history_at a v e ≡ history_at b v e) → a ≡ b
memory_same [] [] l same = refl
memory_same [] (h ∷ b) l same = cc
memory_same (g ∷ a) [] l same = cc
memory_same (g ∷ a) (h ∷ b) l same =
    let one : length g ≡ length h = cc in
    let more : sizes a ≡ sizes b = cc in
    λ i. elements_same g h one (same 0) i ∷ memory_same a b more (λ v. same (suc v)) i

pub memory_stays : MemoryStays
memory_stays spots words number count value apart =
    let after = w.stored words number count value in
    memory_same (memory_in spots after) (memory_in spots words) (sizes_same spots words after) (λ v e. ⊎_elim
    (λ f. at_spot spots after v e f.kind f.number f.at
    ∙ (ap (element_in f.kind (f.number % 8)) (word_set_other words (number / 8) (f.number / 8) _ (apart v e f.kind f.number f.at))
    ∙ sym (at_spot spots words v e f.kind f.number f.at)))
    (λ past. past after ∙ sym (past words))
    (found spots v e))

-- ---- Persisted, and a crash

pub memory_persisted : MemoryPersisted
memory_persisted spots old new r = record {
  size = sizes_same spots old new;
  each = λ v e. ⊎_elim
      (λ f.
      subst (λ (h : History). IsPersisted h (history_at (memory_in spots new) v e)) (sym (at_spot spots old v e f.kind f.number f.at))
      (subst (λ (h : History). IsPersisted (element_in f.kind (f.number % 8) (word_at old (f.number / 8))) h) (sym (at_spot spots new v e f.kind f.number f.at))
      (persisted_in f.kind (f.number % 8) (word_at old (f.number / 8)) (word_at new (f.number / 8)) (r.each (f.number / 8)))))
      (λ past. subst (λ (h : History). IsPersisted h (history_at (memory_in spots new) v e)) (sym (past old))
      (subst (λ (h : History). IsPersisted none h) (sym (past new)) (record { values = refl; no_lower = omega arith; within = λ l. l })))
      (found spots v e);
}

crashed_word : (words : List Word) (i : ℕ) → word_at (w.crashed words) i ≡ w.after_crash (word_at words i)
crashed_word words i = index_map w.after_crash words i (word_of 0)

crashed_elements : (words : List Word) (kind : Kind) (number count : ℕ) →
    elements_in (w.crashed words) kind number count ≡ map after_crash (elements_in words kind number count)
crashed_elements words kind number zero = refl
crashed_elements words kind number (suc n) = λ i. (ap (element_in kind (number % 8)) (crashed_word words (number / 8))
    ∙ crashed_in kind (number % 8) (word_at words (number / 8))) i ∷ crashed_elements words kind (number + bytes_of kind) n i

pub memory_crashed : MemoryCrashed
memory_crashed [] words = refl
memory_crashed (s ∷ spots) words = λ i. crashed_elements words s.kind s.start s.elements i ∷ memory_crashed spots words i
