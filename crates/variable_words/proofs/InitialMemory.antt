-- What memory begins with, and what a crash leaves of it.
use Rattle.std.proofs.Common.{◌≡◌, refl, ℕ, zero, suc, ◌+◌, ◌-◌, ◌*◌, ◌/◌, ◌%◌, ◌^◌, ◌<◌, ◌≤◌, ◌++◌, List, [], ◌∷◌, length, map, take, drop, replicate}
use Rattle.std.proofs.Common.{get_or, sym, ◌∙◌, ap, subst, arith, Some, ℤ, ⊎_elim}
use Rattle.std.specs.Prelude.{slice_get, pos}
use Rattle.std.specs.Int.{w64, from_le_bytes}
use Rattle.std.specs.List.{AllByRecursion}
use Rattle.std.specs.Option.{option_map}
use Rattle.std.proofs.lemmas.Option.{slice_get-map}
use Rattle.std.proofs.Math.Nat.{mod-lt}
use Rattle.std.proofs.lemmas.List.{get_or_append_left, get_or-take, length-append, length-take-le, drop-drop}
use Rattle.ido_ints.specs.declared.kinds.Kind.{Kind}
use Rattle.ido_ints.specs.Kinds.{bytes_of, modulus_of, Holds}
use Rattle.ido_ints.specs.Reduction.{reduced, residue}
use Rattle.ido_ints.proofs.Public.{Same, Same_trans, Same-mod, reduced-same, reduced_held, Same-modulus, residue-Same}
use Rattle.log_schemes.specs.declared.log.Log.{Log}
use Rattle.ido_base.specs.declared.location.Shape.{Shape}
use Rattle.ido_base.specs.Words as w
use Rattle.ido_base.specs.Words.{Word, word_of, word_at, durable_value, after_crash, part}
use Rattle.ido_base.specs.Layout.{start_from, words_of_bytes, end_from, spread_words}
use Rattle.log_schemes.specs.Layout.{log_words, initial_words}
use Rattle.c_tree.specs.Programs.{Mutex, Variable}
use Rattle.c_tree.specs.WellFormed.{elements_in, IsVariable, shape_of, initial_numbers}
use Rattle.memory_layout.specs.Variables.{HaveRoom, AreInitial, bits_of}
use Rattle.variable_words.proofs.VariableBounds.{shapes, some_bytes, address_is}
use Rattle.memory_layout.proofs.Public.{get_below}
use Rattle.machine_model.specs.Machine.{happens, start_of, after_crash_of}
use Rattle.recovery_semantics.specs.ElementHistories.{history_of}
use Rattle.recovery_semantics.specs.Elements.{element_in}
use Rattle.recovery_semantics.specs.VariableSpots as spots
use Rattle.recovery_semantics.specs.VariableSpots.{variable_in, memory_in}
use Rattle.recovery_semantics.proofs.Public.{index_map, memory_crashed}
use Rattle.variable_words.specs.VariablesInWords.{spots_from, spots_of, StartsHold, CrashesHold, ImagesHold}
use Rattle.variable_words.proofs.Digits.{number_of, part_is, low_is, word_is}
use Rattle.variable_words.proofs.ElementsInWords.{spot, number_is, within_end, next_element, IsWhole, element_whole}

-- ---- A crash

kept : (words : List Word) → map word_of (map durable_value words) ≡ w.crashed words
kept [] = refl
kept (x ∷ xs) = ap (λ (ws : List Word). after_crash x ∷ ws) (kept xs)

pub crashes_hold : CrashesHold
unfolding happens after_crash_of
crashes_hold spots program w = ap (memory_in spots) (kept w.words) ∙ memory_crashed spots w.words

-- ---- The words at the start

first_words : (bytes : List ℕ) (count i : ℕ) → i < count → get_or (words_of_bytes bytes count) i 0 ≡ from_le_bytes w64 (take 8 (drop (8 * i) bytes))
first_words bytes zero i l = absurd (omega (arith, l))
first_words bytes (suc count) zero l = refl
first_words bytes (suc count) (suc i) l =
    let place : 8 * suc i ≡ 8 + 8 * i = omega arith in
    first_words (drop 8 bytes) count i (omega (arith, l))
    ∙ ap (λ (bs : List ℕ). from_le_bytes w64 (take 8 bs)) (drop-drop (8 * i) 8 bytes ∙ ap (λ (k : ℕ). drop k bytes) (sym place))

words_size : (bytes : List ℕ) (count : ℕ) → length (words_of_bytes bytes count) ≡ count
words_size bytes zero = refl
words_size bytes (suc count) = ap suc (words_size (drop 8 bytes) count)

-- a byte of all, and 0 after them
abbrev byte : List ℕ → ℕ → ℕ
byte bytes k = get_or bytes k 0

-- a word of the variables
word_at_start : (log : Log) (threads : ℕ) (bytes : List ℕ) (i : ℕ) → i < 8192 →
    word_at (map word_of (initial_words log threads bytes)) i ≡ word_of (number_of (byte bytes) (8 * i) 8)
unfolding initial_words
word_at_start log threads bytes i l =
    index_map word_of (initial_words log threads bytes) i 0
    ∙ ap word_of (get_or_append_left (words_of_bytes bytes 8192) (replicate (log_words log * threads) 0) 0 i (omega (arith, l, words_size bytes 8192))
    ∙ (first_words bytes 8192 i l ∙ word_is bytes (8 * i)))

-- a number's bits are its residue
bits_are : (z : ℤ) → bits_of z ≡ residue 64 z
unfolding residue
bits_are z = refl

module _ (vs : List Variable) (bytes : List ℕ) (room : HaveRoom (shapes vs)) (initial : AreInitial (shapes vs) (map initial_numbers vs) bytes) where
  small : (i : ℕ) → byte bytes i < 256
  small i = ⊎_elim
      (λ r. let some : 0 < 256 = omega arith in let below = mod-lt (bits_of r.number / 2 ^ (8 * r.byte)) some in omega (arith, r.value_is, below))
      (λ zero. omega (arith, zero))
      (initial.others i)

  -- the bytes of an element
  own_byte : (v e : ℕ) (is : Variable) (z : ℤ) (k : ℕ) → slice_get vs v ≡ Some is → slice_get is.initial e ≡ Some z → k < bytes_of is.kind →
      byte bytes (start_from 0 (shapes vs) v + bytes_of is.kind * e + k) ≡ part (residue 64 z) k 1
  own_byte v e is z k h begins l =
      let a = address_is vs v e is h in
      initial.elements (start_from 0 (shapes vs) v + bytes_of is.kind * e + k) (part (bits_of z) k 1) (record {
        variable = v;
        shape = shape_of is;
        shaped = slice_get-map shape_of vs v ∙ ap (option_map shape_of) h;
        own = is.initial;
        there = slice_get-map initial_numbers vs v ∙ ap (option_map initial_numbers) h;
        element = e;
        number = z;
        begins = begins;
        byte = k;
        within = l;
        offset_is = omega (arith, a);
        value_is = refl;
      }) ∙ ap (λ (n : ℕ). part n k 1) (bits_are z)

  -- what an element has in the words at the start
  begins_with : (log : Log) (threads v e : ℕ) (is : Variable) (z : ℤ) → slice_get vs v ≡ Some is → slice_get is.initial e ≡ Some z → e < elements_in is.length →
      Holds is.kind z →
      (number : ℕ) → number ≡ start_from 0 (shapes vs) v + bytes_of is.kind * e →
      element_in is.kind (number % 8) (word_at (map word_of (initial_words log threads bytes)) (number / 8)) ≡ history_of z
  begins_with log threads v e is z h begins l holds number n =
      let whole : IsWhole is.kind number = subst (λ (m : ℕ). IsWhole is.kind m) (sym n) (element_whole vs v e is room h l) in
      let b = bytes_of is.kind in
      let rest : ℕ = 8 - (number % 8 + b) in
      let eight : 8 ≡ number % 8 + (b + rest) = omega (arith, whole.in_word) in
      let place : 8 * (number / 8) + number % 8 ≡ number = omega arith in
      let word = number_of (byte bytes) (8 * (number / 8)) 8 in
      let own : part word (number % 8) b ≡ number_of (byte bytes) number b =
      ap (λ (m : ℕ). part (number_of (byte bytes) (8 * (number / 8)) m) (number % 8) b) eight
      ∙ (part_is (byte bytes) (8 * (number / 8)) (number % 8) b rest small ∙ ap (λ (m : ℕ). number_of (byte bytes) m b) place) in
      let low : number_of (byte bytes) number b ≡ residue 64 z % 2 ^ (8 * b) =
      low_is (byte bytes) number b (residue 64 z) (λ k k_below. ap (λ (m : ℕ). byte bytes (m + k)) n ∙ own_byte v e is z k h begins k_below) in
      let same : Same (modulus_of is.kind) (pos (residue 64 z % 2 ^ (8 * b))) z =
      Same_trans (modulus_of is.kind) _ (pos (residue 64 z)) z (Same-mod (residue 64 z) (modulus_of is.kind))
      (Same-modulus is.kind (pos (residue 64 z)) z (residue-Same 64 z)) in
      ap (element_in is.kind (number % 8)) (word_at_start log threads bytes (number / 8) (omega (arith, whole.ends, some_bytes is.kind)))
      ∙ ap history_of (ap (λ (m : ℕ). reduced is.kind (pos m)) (own ∙ low)
      ∙ (reduced-same is.kind (pos (residue 64 z % 2 ^ (8 * b))) z same ∙ reduced_held is.kind z holds))

-- ---- All elements of a variable, and all variables

all_elements : (words : List Word) (kind : Kind) (number : ℕ) (zs : List ℤ) →
    ((e : ℕ) (z : ℤ) → slice_get zs e ≡ Some z →
    element_in kind ((number + bytes_of kind * e) % 8) (word_at words ((number + bytes_of kind * e) / 8)) ≡ history_of z) →
    spots.elements_in words kind number (length zs) ≡ map history_of zs
all_elements words kind number [] h = refl
all_elements words kind number (z ∷ zs) h =
    let here : number + bytes_of kind * 0 ≡ number = omega arith in
    let first : element_in kind (number % 8) (word_at words (number / 8)) ≡ history_of z =
    sym (ap (λ (n : ℕ). element_in kind (n % 8) (word_at words (n / 8))) here) ∙ h 0 z refl in
    let rest = all_elements words kind (number + bytes_of kind) zs (λ e y there.
    let more : number + bytes_of kind + bytes_of kind * e ≡ number + bytes_of kind * suc e = omega arith in
    ap (λ (n : ℕ). element_in kind (n % 8) (word_at words (n / 8))) more ∙ h (suc e) y there) in
    λ i. first i ∷ rest i

all_variables : (ss : List Shape) (words : List Word) (number : ℕ) (vs : List Variable) →
    ((v : ℕ) (is : Variable) → slice_get vs v ≡ Some is → variable_in words (spot ss (number + v) is) ≡ map history_of is.initial) →
    memory_in (spots_from ss number vs) words ≡ map (map history_of) (map (λ (v : Variable). v.initial) vs)
all_variables ss words number [] h = refl
all_variables ss words number (v ∷ vs) h =
    let here : number + 0 ≡ number = omega arith in
    let first : variable_in words (spot ss number v) ≡ map history_of v.initial = sym (ap (λ (n : ℕ). variable_in words (spot ss n v)) here) ∙ h 0 v refl in
    let rest = all_variables ss words (number + 1) vs (λ j is there.
    let more : number + 1 + j ≡ number + suc j = omega arith in
    ap (λ (n : ℕ). variable_in words (spot ss n is)) more ∙ h (suc j) is there) in
    λ i. first i ∷ rest i

variable_of : (mutexes : List Mutex) (vs : List Variable) (v : ℕ) (is : Variable) → AllByRecursion (IsVariable mutexes) vs → slice_get vs v ≡ Some is →
    IsVariable mutexes is
variable_of mutexes [] v is h there = cc
variable_of mutexes (x ∷ vs) zero is h there = let same : x ≡ is = cc in subst (λ (y : Variable). IsVariable mutexes y) same h.0
variable_of mutexes (x ∷ vs) (suc v) is h there = variable_of mutexes vs v is h.1 there

held_at : (kind : Kind) (zs : List ℤ) (e : ℕ) (z : ℤ) → AllByRecursion (Holds kind) zs → slice_get zs e ≡ Some z → Holds kind z
held_at kind [] e z h there = cc
held_at kind (y ∷ zs) zero z h there = let same : y ≡ z = cc in subst (λ (x : ℤ). Holds kind x) same h.0
held_at kind (y ∷ zs) (suc e) z h there = held_at kind zs e z h.1 there

pub starts_hold : StartsHold
unfolding start_of
starts_hold log x program locks bytes h initial =
    let vs = x.variables in
    let shared = h.shared in
    all_variables (shapes vs) (map word_of (initial_words log (length program) bytes)) 0 vs (λ v is there.
    let none : 0 + v ≡ v = omega arith in
    let good = variable_of _ vs v is shared.variables there in
    let start = number_is vs v 0 is shared.bytes there (omega arith) in
    ap (λ (n : ℕ). variable_in (map word_of (initial_words log (length program) bytes)) (spot (shapes vs) n is)) none
    ∙ (ap (λ (n : ℕ). spots.elements_in (map word_of (initial_words log (length program) bytes)) is.kind (spot (shapes vs) v is).start n) (sym good.count)
    ∙ all_elements (map word_of (initial_words log (length program) bytes)) is.kind (spot (shapes vs) v is).start is.initial (λ e z begins.
    begins_with vs bytes shared.bytes initial log (length program) v e is z there begins (omega (arith, get_below is.initial e z begins, good.count))
    (held_at is.kind is.initial e z good.held begins) ((spot (shapes vs) v is).start + bytes_of is.kind * e) (omega (arith, start)))))

-- ---- An image

-- elements whose words are the same
same_elements : (a b : List Word) (kind : Kind) (number count : ℕ) →
    ((e : ℕ) → e < count → word_at a ((number + bytes_of kind * e) / 8) ≡ word_at b ((number + bytes_of kind * e) / 8)) →
    spots.elements_in a kind number count ≡ spots.elements_in b kind number count
same_elements a b kind number zero h = refl
same_elements a b kind number (suc count) h =
    let here : number + bytes_of kind * 0 ≡ number = omega arith in
    let first : word_at a (number / 8) ≡ word_at b (number / 8) = subst (λ (n : ℕ). word_at a (n / 8) ≡ word_at b (n / 8)) here (h 0 (omega arith)) in
    let rest = same_elements a b kind (number + bytes_of kind) count (λ e l.
    let more : number + bytes_of kind * suc e ≡ number + bytes_of kind + bytes_of kind * e = omega arith in
    subst (λ (n : ℕ). word_at a (n / 8) ≡ word_at b (n / 8)) more (h (suc e) (omega (arith, l)))) in
    λ i. element_in kind (number % 8) (first i) ∷ rest i

same_variables : (ss : List Shape) (a b : List Word) (number : ℕ) (vs : List Variable) →
    ((v : ℕ) (is : Variable) → slice_get vs v ≡ Some is → variable_in a (spot ss (number + v) is) ≡ variable_in b (spot ss (number + v) is)) →
    memory_in (spots_from ss number vs) a ≡ memory_in (spots_from ss number vs) b
same_variables ss a b number [] h = refl
same_variables ss a b number (v ∷ vs) h =
    let here : number + 0 ≡ number = omega arith in
    let first : variable_in a (spot ss number v) ≡ variable_in b (spot ss number v) =
    subst (λ (n : ℕ). variable_in a (spot ss n v) ≡ variable_in b (spot ss n v)) here (h 0 v refl) in
    let rest = same_variables ss a b (number + 1) vs (λ j is there.
    let more : number + suc j ≡ number + 1 + j = omega arith in
    subst (λ (n : ℕ). variable_in a (spot ss n is) ≡ variable_in b (spot ss n is)) more (h (suc j) is there)) in
    λ i. first i ∷ rest i

-- memory is in the words of the variables alone
same_memory : (vs : List Variable) (count : ℕ) (a b : List Word) → HaveRoom (shapes vs) → end_from 0 (shapes vs) ≤ 8 * count →
    ((j : ℕ) → j < count → word_at a j ≡ word_at b j) → memory_in (spots_of vs) a ≡ memory_in (spots_of vs) b
same_memory vs count a b room enough same = same_variables (shapes vs) a b 0 vs (λ v is there.
    let none : v ≡ 0 + v = omega arith in
    let start = number_is vs v 0 is room there (omega arith) in
    let within = within_end 0 vs v is there in
    subst (λ (n : ℕ). variable_in a (spot (shapes vs) n is) ≡ variable_in b (spot (shapes vs) n is)) none
    (same_elements a b is.kind (spot (shapes vs) v is).start (elements_in is.length) (λ e l.
    let next = next_element (bytes_of is.kind) e (elements_in is.length) l in
    same (((spot (shapes vs) v is).start + bytes_of is.kind * e) / 8) (omega (arith, start, within, next, enough, some_bytes is.kind)))))

spread_word : (count : ℕ) (image : List ℕ) (j : ℕ) → count ≤ length image → j < count → get_or (spread_words count image) j 0 ≡ get_or image j 0
unfolding spread_words
spread_word count image j enough l =
    let prefix = length-take-le count image enough in
    let middle = length-append (take count image) (replicate (8192 - count) 0) in
    get_or_append_left (take count image ++ replicate (8192 - count) 0) (drop count image) 0 j (omega (arith, l, prefix, middle))
    ∙ (get_or_append_left (take count image) (replicate (8192 - count) 0) 0 j (omega (arith, l, prefix)) ∙ get_or-take count image j 0 l)

pub images_hold : ImagesHold
unfolding after_crash_of
images_hold log vs program locks count words image room enough long same =
    same_memory vs count (map word_of (spread_words count image)) (w.crashed words) room enough (λ j l.
    index_map word_of (spread_words count image) j 0
    ∙ (ap word_of (spread_word count image j long l ∙ same j l) ∙ sym (index_map after_crash words j (word_of 0))))
    ∙ memory_crashed (spots_of vs) words
