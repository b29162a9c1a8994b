-- The words of sets of locals.
use Rattle.std.proofs.Common.{◌≡◌, ◌≢◌, ◌⊎◌, ◌↔◌, inl, inr, ℕ, zero, suc, ◌+◌, ◌-◌, ◌*◌, ◌/◌, ◌%◌, ◌^◌, ◌<◌, ◌≤◌, max}
use Rattle.std.proofs.Common.{Bool, true, false, List, [], ◌∷◌, ◌++◌, length, get_or, set, replicate, refl, ap, sym}
use Rattle.std.proofs.Common.{subst, ◌∙◌, arith, w64, bit_and, bit_or, length-set, get_or-set_same, get_or-set_other}
use Rattle.std.specs.Prelude.{IsTrue, nat_eq, Contains}
use Rattle.std.specs.List.Sorted.{IsStrictlyIncreasing}
use Rattle.std.specs.Int.{bit_at, bit_not}
use Rattle.std.specs.Int.Bits.{or_zero_r}
use Rattle.std.proofs.lemmas.List.{get_or_past, get_or-replicate, length-replicate, get_or_append_left, get_or_push, length_push}
use Rattle.std.proofs.lemmas.List.Elements.{Contains-append_left, Contains-append_cases, Contains-push}
use Rattle.std.proofs.lemmas.Bool.{eqb-true, eq-eqb}
use Rattle.std.proofs.lemmas.List.Sums.{sum_by-set}
use Rattle.std.proofs.lemmas.Nat.{le_or_l}
use Rattle.std.proofs.lemmas.Nat.Bits.{bit_at-zero, bit_at-lt, bit_at_or, bit_at_set_same, bit_at_set_other, bit_at_clear_same, bit_at_clear_other, shr_and_one}
use Rattle.flow_graph.specs.LocalSets.{Has, HasAt}
use Rattle.flow_graph.specs.links.SetCapacity.{room}

pub same_or_other : (i m : ℕ) → (i ≡ m) ⊎ (i ≢ m)
same_or_other i m = grind arith

pub below_or_past : (i n : ℕ) → (i < n) ⊎ (n ≤ i)
below_or_past i n = grind arith

-- a local of an empty word is not in the set
empty_word : (words : List ℕ) (local : ℕ) → get_or words (local / 64) 0 ≡ 0 → Has words local → ⊥
unfolding Has
empty_word words local e h =
    let one : 0 ≡ 1 = sym (bit_at-zero (local % 64)) ∙ ap (λ n. bit_at n (local % 64)) (sym e) ∙ h in
    absurd (omega arith)

pub none_past : (words : List ℕ) (local : ℕ) → length words ≤ local / 64 → Has words local → ⊥
none_past words local le h = empty_word words local (get_or_past words (local / 64) 0 le) h

pub none_empty : (local : ℕ) → Has [] local → ⊥
none_empty local h = empty_word [] local refl h

pub none_at : (sets : List (List ℕ)) (number local : ℕ) → length sets ≤ number → HasAt sets number local → ⊥
none_at sets number local le h = none_empty local (subst (λ (words : List ℕ). Has words local) (get_or_past sets number [] le) h)

word_zero : (n i : ℕ) → get_or (replicate {A = ℕ} n 0) i 0 ≡ 0
word_zero n i = elim (below_or_past i n) [
  | inl lt ↦ get_or-replicate {A = ℕ} n i 0 0 lt
  | inr le ↦ get_or_past {X = ℕ} (replicate {A = ℕ} n 0) i 0 (subst (λ (m : ℕ). m ≤ i) (sym (length-replicate {A = ℕ} n 0)) le)
]

pub none_zero : (n local : ℕ) → Has (replicate {A = ℕ} n 0) local → ⊥
none_zero n local h = empty_word (replicate {A = ℕ} n 0) local (word_zero n (local / 64)) h

-- the word and the bit say which local it is
other_bit : (a b : ℕ) → a ≢ b → a / 64 ≡ b / 64 → a % 64 ≢ b % 64
other_bit a b ne e same = ne (omega arith)

-- ---- One local more or less

-- words that differ in one bit alone
at_other : (words : List ℕ) (local word other : ℕ) → local / 64 < length words →
    (other / 64 ≡ local / 64 → bit_at word (other % 64) ≡ bit_at (get_or words (local / 64) 0) (other % 64)) →
    bit_at (get_or (set words (local / 64) word) (other / 64) 0) (other % 64) ≡ bit_at (get_or words (other / 64) 0) (other % 64)
at_other words local word other lt same = elim (same_or_other (other / 64) (local / 64)) [
  | inl e ↦ ap (λ k. bit_at (get_or (set words (local / 64) word) k 0) (other % 64)) e
      ∙ ap (λ w. bit_at w (other % 64)) (get_or-set_same words (local / 64) word 0 lt)
      ∙ same e
      ∙ ap (λ k. bit_at (get_or words k 0) (other % 64)) (sym e)
  | inr ne ↦ ap (λ w. bit_at w (other % 64)) (get_or-set_other words (local / 64) (other / 64) word 0 ne)
]

bit_of : (local : ℕ) → local % 64 < 64
bit_of local = omega arith

abbrev pub with_bit : (word local : ℕ) → ℕ
with_bit word local = bit_or word (1 * 2 ^ (local % 64) % 2 ^ 64)

abbrev pub without_bit : (word local : ℕ) → ℕ
without_bit word local = bit_and word (bit_not w64 (1 * 2 ^ (local % 64) % 2 ^ 64))

pub inserted : (words : List ℕ) (local other : ℕ) → local / 64 < length words →
    Has (set words (local / 64) (with_bit (get_or words (local / 64) 0) local)) other ↔ (Has words other ⊎ (other ≡ local))
unfolding Has
inserted words local other lt =
    let old = get_or words (local / 64) 0 in
    let here : Has (set words (local / 64) (with_bit old local)) local =
    ap (λ w. bit_at w (local % 64)) (get_or-set_same words (local / 64) (with_bit old local) 0 lt) ∙ bit_at_set_same w64 old (local % 64) (bit_of local) in
    elim (same_or_other other local) [
      | inl e ↦ (λ _. inr e, λ _. subst (λ (v : ℕ). Has (set words (local / 64) (with_bit old local)) v) (sym e) here)
      | inr ne ↦
          let same = at_other words local (with_bit old local) other lt
          (λ e. bit_at_set_other w64 old (local % 64) (bit_of local) (other % 64) (other_bit other local ne e)) in
          (λ h. inl (sym same ∙ h), λ d. elim d [ inl h ↦ same ∙ h | inr e ↦ absurd (ne e) ])
    ]

pub removed : (words : List ℕ) (local other : ℕ) → local / 64 < length words →
    Has (set words (local / 64) (without_bit (get_or words (local / 64) 0) local)) other ↔ (Has words other × (other ≢ local))
unfolding Has
removed words local other lt =
    let old = get_or words (local / 64) 0 in
    let here : bit_at (get_or (set words (local / 64) (without_bit old local)) (local / 64) 0) (local % 64) ≡ 0 =
    ap (λ w. bit_at w (local % 64)) (get_or-set_same words (local / 64) (without_bit old local) 0 lt) ∙ bit_at_clear_same w64 old (local % 64) (bit_of local) in
    elim (same_or_other other local) [
      | inl e ↦ (
        λ h.
            let one : 0 ≡ 1 = sym here ∙ subst (λ (v : ℕ). Has (set words (local / 64) (without_bit old local)) v) e h in
            absurd (omega arith),
        λ d. absurd (d.1 e),
      )
      | inr ne ↦
          let same = at_other words local (without_bit old local) other lt
          (λ e. bit_at_clear_other w64 old (local % 64) (bit_of local) (other % 64) (bit_of other) (other_bit other local ne e)) in
          (λ h. (sym same ∙ h, ne), λ d. same ∙ d.0)
    ]

pub nothing_removed : (words : List ℕ) (local other : ℕ) → length words ≤ local / 64 → Has words other ↔ (Has words other × (other ≢ local))
nothing_removed words local other le = (λ h. (h, λ e. none_past words local le (subst (λ (v : ℕ). Has words v) e h)), λ d. d.0)

-- ---- All locals of another set

-- the first `count` words of a set are joined with those of another
pub record Joins (old added now : List ℕ) (count : ℕ) (grows : Bool) : Type 0 where
  pub long : length now ≡ length old
  pub joined : (k : ℕ) → k < count → get_or now k 0 ≡ bit_or (get_or old k 0) (get_or added k 0)
  pub rest : (k : ℕ) → count ≤ k → get_or now k 0 ≡ get_or old k 0
  pub same : grows ≡ false → now ≡ old
  pub fewer : grows ≡ true → room now < room old

-- where a word grows less can be added
less_room : (words : List ℕ) (i word : ℕ) → i < length words → get_or words i 0 < word → get_or words i 0 < 2 ^ 64 → room (set words i word) < room words
unfolding room
less_room words i word lt more fits = omega (arith, sum_by-set (λ w. 2 ^ 64 - w) words i word 0 lt)

at_most : (old added now : List ℕ) (i : ℕ) (grows : Bool) → Joins old added now i grows → room now ≤ room old
at_most old added now i true j = omega (arith, j.fewer refl)
at_most old added now i false j = omega (arith, ap room (j.same refl))

joins_more : (old added now : List ℕ) (i : ℕ) (grows : Bool) → Joins old added now i grows → i < length now →
    bit_or (get_or now i 0) (get_or added i 0) ≢ get_or now i 0 → get_or now i 0 < 2 ^ 64 →
    Joins old added (set now i (bit_or (get_or now i 0) (get_or added i 0))) (i + 1) true
joins_more old added now i grows j lt ne fits =
    let word = bit_or (get_or now i 0) (get_or added i 0) in
    let more : get_or now i 0 < word = omega (arith, le_or_l (get_or now i 0) (get_or added i 0)) in
    record {
      long = length-set now i word ∙ j.long;
      joined = λ k le. elim (same_or_other k i) [
        | inl e ↦ ap (λ m. get_or (set now i word) m 0) e ∙ get_or-set_same now i word 0 lt
            ∙ ap (λ w. bit_or w (get_or added i 0)) (j.rest i (omega arith)) ∙ ap (λ m. bit_or (get_or old m 0) (get_or added m 0)) (sym e)
        | inr other ↦ get_or-set_other now i k word 0 other ∙ j.joined k (omega arith)
      ];
      rest = λ k le. get_or-set_other now i k word 0 (omega arith) ∙ j.rest k (omega arith);
      same = λ no. cc;
      fewer = λ _. omega (arith, less_room now i word lt more fits, at_most old added now i grows j);
    }

joins_same : (old added now : List ℕ) (i : ℕ) (grows : Bool) → Joins old added now i grows →
    bit_or (get_or now i 0) (get_or added i 0) ≡ get_or now i 0 → Joins old added now (i + 1) grows
joins_same old added now i grows j e =
    let first = j.rest i (omega arith) in
    record {
      long = j.long;
      joined = λ k le. elim (same_or_other k i) [
        | inl is ↦ ap (λ m. get_or now m 0) is ∙ sym e ∙ ap (λ w. bit_or w (get_or added i 0)) first
            ∙ ap (λ m. bit_or (get_or old m 0) (get_or added m 0)) (sym is)
        | inr other ↦ j.joined k (omega arith)
      ];
      rest = λ k le. j.rest k (omega arith);
      same = j.same;
      fewer = j.fewer;
    }

either : (n x y : ℕ) → n ≡ max x y → x < 2 → y < 2 → (n ≡ 1) ↔ ((x ≡ 1) ⊎ (y ≡ 1))
either n x y e lx ly = (
  λ h. elim (same_or_other x 1) [ inl is ↦ inl is | inr other ↦ inr (omega arith) ],
  λ d. elim d [ inl h ↦ omega arith | inr h ↦ omega arith ],
)

pub joins_write : (old added now to : List ℕ) (i word other : ℕ) (grows : Bool) → Joins old added now i grows → i < length now →
    to ≡ set now i (bit_or word other) → word ≡ get_or now i 0 → other ≡ get_or added i 0 → bit_or word other ≢ word → word < 2 ^ 64 →
    Joins old added to (i + 1) true
joins_write old added now to i word other grows j lt written e e' ne fits =
    let P : ℕ → ℕ → Type 0 = λ w o. bit_or w o ≢ w → w < 2 ^ 64 → Joins old added (set now i (bit_or w o)) (i + 1) true in
    let h : P word other = subst (λ (w : ℕ). P w other) (sym e) (subst (λ (o : ℕ). P (get_or now i 0) o) (sym e') (joins_more old added now i grows j lt)) in
    subst (λ (ws : List ℕ). Joins old added ws (i + 1) true) (sym written) (h ne fits)

pub joins_kept : (old added now to : List ℕ) (i word other : ℕ) (grows : Bool) → Joins old added now i grows →
    to ≡ now → word ≡ get_or now i 0 → other ≡ get_or added i 0 → bit_or word other ≡ word → Joins old added to (i + 1) grows
joins_kept old added now to i word other grows j kept e e' same =
    let P : ℕ → ℕ → Type 0 = λ w o. bit_or w o ≡ w → Joins old added now (i + 1) grows in
    let h : P word other = subst (λ (w : ℕ). P w other) (sym e) (subst (λ (o : ℕ). P (get_or now i 0) o) (sym e') (joins_same old added now i grows j)) in
    subst (λ (ws : List ℕ). Joins old added ws (i + 1) grows) (sym kept) (h same)

pub joined_all : (old added now : List ℕ) (count : ℕ) (grows : Bool) → Joins old added now count grows → length old ≤ count → length added ≤ count →
    (local : ℕ) → Has now local ↔ (Has old local ⊎ Has added local)
unfolding Has
joined_all old added now count grows j le le' local =
    let i = local / 64 in
    let b = local % 64 in
    let word : get_or now i 0 ≡ bit_or (get_or old i 0) (get_or added i 0) = elim (below_or_past i count) [
      | inl lt ↦ j.joined i lt
      | inr past ↦ j.rest i past ∙ sym (ap (λ w. bit_or (get_or old i 0) w) (get_or_past added i 0 (omega arith)) ∙ or_zero_r (get_or old i 0))
    ] in
    let bits : bit_at (get_or now i 0) b ≡ max (bit_at (get_or old i 0) b) (bit_at (get_or added i 0) b) =
    ap (λ w. bit_at w b) word ∙ bit_at_or (get_or old i 0) (get_or added i 0) b in
    either (bit_at (get_or now i 0) b) (bit_at (get_or old i 0) b) (bit_at (get_or added i 0) b) bits (bit_at-lt (get_or old i 0) b)
    (bit_at-lt (get_or added i 0) b)

-- ---- The test of one local

pub tested : (words : List ℕ) (local word : ℕ) → word ≡ get_or words (local / 64) 0 → IsTrue (nat_eq (bit_and (word / 2 ^ (local % 64)) 1) 1) ↔ Has words local
unfolding Has
tested words local word is =
    let same : bit_and (word / 2 ^ (local % 64)) 1 ≡ bit_at (get_or words (local / 64) 0) (local % 64) =
    shr_and_one word (local % 64) ∙ ap (λ w. bit_at w (local % 64)) is in
    (λ t. sym same ∙ eqb-true (bit_and (word / 2 ^ (local % 64)) 1) 1 t, λ h. eq-eqb (bit_and (word / 2 ^ (local % 64)) 1) 1 (same ∙ h))

-- ---- The locals one after another

-- the locals below the count
pub record Lists (words items : List ℕ) (count : ℕ) : Type 0 where
  pub below : (k : ℕ) → k < length items → get_or items k 0 < count
  pub ascending : IsStrictlyIncreasing items
  pub only : (local : ℕ) → Contains items local → Has words local
  pub each : (local : ℕ) → local < count → Has words local → Contains items local

only_one : (m local : ℕ) → Contains (m ∷ []) local → m ≡ local
only_one m local (zero, lt, is) = is
only_one m local (suc i, lt, is) = absurd (omega arith)

pub lists_more : (words items : List ℕ) (count : ℕ) → Lists words items count → Has words count → Lists words (items ++ count ∷ []) (count + 1)
lists_more words items count l has =
    let long = length_push items count in
    let last = get_or_push items count 0 (length items) refl in
    let before = λ (k : ℕ) (lt : k < length items). get_or_append_left items (count ∷ []) 0 k lt in
    record {
      below = λ k lt. elim (same_or_other k (length items)) [
        | inl e ↦ omega (arith, last, ap (λ i. get_or (items ++ count ∷ []) i 0) e)
        | inr other ↦ (
            let less : k < length items = omega arith in
            omega (arith, before k less, l.below k less))
      ];
      ascending = λ k lt. elim (same_or_other (k + 1) (length items)) [
        | inl e ↦ (
            let less : k < length items = omega arith in
            omega (arith, before k less, l.below k less, last, ap (λ i. get_or (items ++ count ∷ []) i 0) e))
        | inr other ↦ (
            let less : k + 1 < length items = omega arith in
            omega (arith, before k (omega arith), before (k + 1) less, l.ascending k less))
      ];
      only = λ local c. elim (Contains-append_cases items (count ∷ []) local c) [
        | inl old ↦ l.only local old
        | inr new ↦ subst (λ (v : ℕ). Has words v) (only_one count local new) has
      ];
      each = λ local lt h. elim (same_or_other local count) [
        | inl e ↦ subst (λ (v : ℕ). Contains (items ++ count ∷ []) v) (sym e) (Contains-push items count)
        | inr other ↦ Contains-append_left items (count ∷ []) local (l.each local (omega arith) h)
      ];
    }

pub lists_same : (words items : List ℕ) (count : ℕ) → Lists words items count → (Has words count → ⊥) → Lists words items (count + 1)
lists_same words items count l none = record {
  below = λ k lt. omega (arith, l.below k lt);
  ascending = l.ascending;
  only = l.only;
  each = λ local lt h. elim (same_or_other local count) [
    | inl e ↦ absurd (none (subst (λ (v : ℕ). Has words v) e h))
    | inr other ↦ l.each local (omega arith) h
  ];
}

pub lists_all : (words items : List ℕ) (count : ℕ) → Lists words items count → 64 * length words ≤ count → (local : ℕ) → Contains items local ↔ Has words local
lists_all words items count l le local = (
  l.only local,
  λ h. elim (below_or_past (local / 64) (length words)) [
    | inl lt ↦ l.each local (omega arith) h
    | inr past ↦ absurd (none_past words local past h)
  ],
)
