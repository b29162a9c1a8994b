-- Addresses of items that lie one after another: they go up by whole words, and a mark's instruction takes one.
use Rattle.std.proofs.Common.{◌≡◌, ℕ, zero, suc, ◌+◌, ◌-◌, ◌*◌, ◌<◌, ◌≤◌, List, [], ◌∷◌, length, map, refl, ◌∙◌, ap, arith, subst, inl, inr}
use Rattle.std.proofs.Common.{Bool, true, false, lit≤}
use Rattle.std.specs.Prelude.{slice_index_or, Contains, ◌⊎◌}
use Rattle.std.proofs.lemmas.Bool.{true≢false}
use Rattle.std.proofs.lemmas.List.Elements.{Contains-append_cases}
use Rattle.rv64_isa.specs.declared.object.CodeItem.{CodeItem}
use Rattle.rv64_isa.specs.declared.object.CodeItem.TheVariants.{Instruction, BranchTo, JumpTo, Here, MarkNext, ResumeNext}
use Rattle.rv64_link.specs.LabelledCode.{most_words_of, least_words_of, is_mark, positions_from, fences_of, fences_in}
use Rattle.rv64_link.specs.LinkedCode.{IsRoom}
use Rattle.node_code.specs.Sites.{mark_waits}
use Rattle.node_code.proofs.Public.{Lies, fences_cons}
use Rattle.thread_code.specs.Programs.{IsOn}

-- ---- Whole words

pub on_here : (a b : ℕ) → a ≡ b → IsOn a b
on_here a b e = record { words = 0; is = omega (arith, e) }

pub on_then : (a b c : ℕ) → IsOn a b → IsOn b c → IsOn a c
on_then a b c f g = record { words = f.words + g.words; is = let e : b ≡ a + 4 * f.words = f.is in let h : c ≡ b + 4 * g.words = g.is in omega (arith, e, h) }

pub on_up : (a b : ℕ) → IsOn a b → a ≤ b
on_up a b f = let e : b ≡ a + 4 * f.words = f.is in omega (arith, e)

item_on : (x : CodeItem) (from to : ℕ) → IsRoom x from to → IsOn from to
item_on x from to room = record { words = room.words; is = room.to_is }

wide_on : (x : CodeItem) (from to : ℕ) → IsRoom x from to → 1 ≤ least_words_of x → IsOn (from + 4) to
wide_on x from to room some =
    let e : to ≡ from + 4 * room.words = room.to_is in
    let l : least_words_of x ≤ room.words = room.least in
    record { words = room.words - 1; is = omega (arith, some, l, e) }

narrow : (x : CodeItem) (from to : ℕ) → IsRoom x from to → most_words_of x ≡ 0 → to ≡ from
narrow x from to room none =
    let e : to ≡ from + 4 * room.words = room.to_is in
    let l : room.words ≤ most_words_of x = room.most in
    omega (arith, none, l, e)

pub lies_on : (at : ℕ → ℕ) (k : ℕ) (items : List CodeItem) → Lies at k items → IsOn (at k) (at (k + length items))
lies_on at k [] h = let e : k ≡ k + 0 = omega arith in on_here (at k) (at (k + 0)) (ap at e)
lies_on at k (x ∷ xs) h =
    let e : k + 1 + length xs ≡ k + length (x ∷ xs) = omega arith in
    subst (λ (n : ℕ). IsOn (at k) (at n)) e
    (on_then (at k) (at (k + 1)) (at (k + 1 + length xs)) (item_on x (at k) (at (k + 1)) h.0) (lies_on at (k + 1) xs h.1))

-- ---- Marks

-- after a mark that waits stands a word
waits_on : (at : ℕ → ℕ) (k : ℕ) (items : List CodeItem) → Lies at k items → mark_waits true items ≡ false → IsOn (at k + 4) (at (k + length items))
waits_on at k [] h w = absurd (true≢false w)
waits_on at k (x ∷ xs) h w =
    let e : k + 1 + length xs ≡ k + length (x ∷ xs) = omega arith in
    subst (λ (n : ℕ). IsOn (at k + 4) (at n)) e (by x h w (waits_on at (k + 1) xs))
  where
    wide : (x : CodeItem) → 1 ≤ least_words_of x → IsRoom x (at k) (at (k + 1)) → Lies at (k + 1) xs → IsOn (at k + 4) (at (k + 1 + length xs))
    wide x some room later = on_then (at k + 4) (at (k + 1)) (at (k + 1 + length xs)) (wide_on x (at k) (at (k + 1)) room some) (lies_on at (k + 1) xs later)

    stays : (x : CodeItem) → most_words_of x ≡ 0 → IsRoom x (at k) (at (k + 1)) → IsOn (at (k + 1) + 4) (at (k + 1 + length xs)) →
        IsOn (at k + 4) (at (k + 1 + length xs))
    stays x none room later = subst (λ (a : ℕ). IsOn (a + 4) (at (k + 1 + length xs))) (narrow x (at k) (at (k + 1)) room none) later

    by : (x : CodeItem) → Lies at k (x ∷ xs) → mark_waits true (x ∷ xs) ≡ false →
        (Lies at (k + 1) xs → mark_waits true xs ≡ false → IsOn (at (k + 1) + 4) (at (k + 1 + length xs))) → IsOn (at k + 4) (at (k + 1 + length xs))
    by (Instruction instr) h w rest = wide (Instruction instr) (lit≤ tt) h.0 h.1
    by (BranchTo condition rs1 rs2 to) h w rest = wide (BranchTo condition rs1 rs2 to) (lit≤ tt) h.0 h.1
    by (JumpTo rd to) h w rest = wide (JumpTo rd to) (lit≤ tt) h.0 h.1
    by (Here label) h w rest = stays (Here label) refl h.0 (rest h.1 w)
    by MarkNext h w rest = stays MarkNext refl h.0 (rest h.1 w)
    by ResumeNext h w rest = stays ResumeNext refl h.0 (rest h.1 w)

-- the address of a mark, and a word after it, lie among the items
pub record IsAmong (from m to : ℕ) : Type 0 where
  pub before : IsOn from m
  pub after : IsOn (m + 4) to

pub contains_one : (y x : ℕ) → Contains (y ∷ []) x → y ≡ x
contains_one y x c = by c.0 c.1 c.2
  where
    by : (k : ℕ) → k < 1 → slice_index_or (y ∷ []) k x ≡ x → y ≡ x
    by zero below is = is
    by (suc k) below is = absurd (omega (arith, below))

pub marked_among : (at : ℕ → ℕ) (k : ℕ) (items : List CodeItem) (w : Bool) → Lies at k items → mark_waits w items ≡ false →
    (m : ℕ) → Contains (map at (positions_from k is_mark items)) m → IsAmong (at k) m (at (k + length items))
marked_among at k [] w h e m c = absurd (let l : c.0 < 0 = c.1 in omega (arith, l))
marked_among at k (x ∷ xs) w h e m c =
    let same : k + 1 + length xs ≡ k + length (x ∷ xs) = omega arith in
    subst (λ (n : ℕ). IsAmong (at k) m (at n)) same (by x h e c (λ v lie waits has. marked_among at (k + 1) xs v lie waits m has))
  where
    later : (x : CodeItem) → IsRoom x (at k) (at (k + 1)) → IsAmong (at (k + 1)) m (at (k + 1 + length xs)) → IsAmong (at k) m (at (k + 1 + length xs))
    later x room r = record { before = on_then (at k) (at (k + 1)) m (item_on x (at k) (at (k + 1)) room) r.before; after = r.after }

    by : (x : CodeItem) → Lies at k (x ∷ xs) → mark_waits w (x ∷ xs) ≡ false → Contains (map at (positions_from k is_mark (x ∷ xs))) m →
        ((v : Bool) → Lies at (k + 1) xs → mark_waits v xs ≡ false → Contains (map at (positions_from (k + 1) is_mark xs)) m →
        IsAmong (at (k + 1)) m (at (k + 1 + length xs))) →
        IsAmong (at k) m (at (k + 1 + length xs))
    by (Instruction instr) h e c rest = later (Instruction instr) h.0 (rest false h.1 e c)
    by (BranchTo condition rs1 rs2 to) h e c rest = later (BranchTo condition rs1 rs2 to) h.0 (rest false h.1 e c)
    by (JumpTo rd to) h e c rest = later (JumpTo rd to) h.0 (rest false h.1 e c)
    by (Here label) h e c rest = later (Here label) h.0 (rest w h.1 e c)
    by ResumeNext h e c rest = later ResumeNext h.0 (rest w h.1 e c)
    by MarkNext h e c rest = elim (Contains-append_cases (at k ∷ []) (map at (positions_from (k + 1) is_mark xs)) m c) [
      | inl here ↦
          let is : at k ≡ m = contains_one (at k) m here in
          let stays : at (k + 1) ≡ at k = narrow MarkNext (at k) (at (k + 1)) h.0 refl in
          record {
            before = on_here (at k) m is;
            after = subst (λ (a : ℕ). IsOn (a + 4) (at (k + 1 + length xs))) (stays ∙ is) (waits_on at (k + 1) xs h.1 e);
          }
      | inr others ↦ later MarkNext h.0 (rest true h.1 e others)
    ]

-- ---- Boundaries take room

-- items that take none
abbrev Weightless : List CodeItem → Type 0
Weightless [] = Unit {0}
Weightless (x ∷ xs) = (least_words_of x ≡ 0) × Weightless xs

grows_or_not : (at : ℕ → ℕ) (k : ℕ) (items : List CodeItem) → Lies at k items → (at k < at (k + length items)) ⊎ Weightless items
grows_or_not at k [] h = inr tt
grows_or_not at k (x ∷ xs) h = by x h (grows_or_not at (k + 1) xs h.1)
  where
    wide : (x : CodeItem) → 1 ≤ least_words_of x → Lies at k (x ∷ xs) → (at k < at (k + length (x ∷ xs))) ⊎ Weightless (x ∷ xs)
    wide x some h =
        let here : at k + 4 ≤ at (k + 1) = on_up (at k + 4) (at (k + 1)) (wide_on x (at k) (at (k + 1)) h.0 some) in
        let later : at (k + 1) ≤ at (k + 1 + length xs) = on_up (at (k + 1)) (at (k + 1 + length xs)) (lies_on at (k + 1) xs h.1) in
        let e : k + 1 + length xs ≡ k + length (x ∷ xs) = omega arith in
        inl (subst (λ (n : ℕ). at k < at n) e (omega (arith, here, later)))

    stays : (x : CodeItem) → most_words_of x ≡ 0 → least_words_of x ≡ 0 → Lies at k (x ∷ xs) → (at (k + 1) < at (k + 1 + length xs)) ⊎ Weightless xs →
        (at k < at (k + length (x ∷ xs))) ⊎ Weightless (x ∷ xs)
    stays x most least h rest = elim rest [
      | inl grows ↦
          let same : at (k + 1) ≡ at k = narrow x (at k) (at (k + 1)) h.0 most in
          let e : k + 1 + length xs ≡ k + length (x ∷ xs) = omega arith in
          inl (subst (λ (n : ℕ). at k < at n) e (subst (λ (a : ℕ). a < at (k + 1 + length xs)) same grows))
      | inr none ↦ inr (least, none)
    ]

    by : (x : CodeItem) → Lies at k (x ∷ xs) → (at (k + 1) < at (k + 1 + length xs)) ⊎ Weightless xs → (at k < at (k + length (x ∷ xs))) ⊎ Weightless (x ∷ xs)
    by (Instruction instr) h rest = wide (Instruction instr) (lit≤ tt) h
    by (BranchTo condition rs1 rs2 to) h rest = wide (BranchTo condition rs1 rs2 to) (lit≤ tt) h
    by (JumpTo rd to) h rest = wide (JumpTo rd to) (lit≤ tt) h
    by (Here label) h rest = stays (Here label) refl refl h rest
    by MarkNext h rest = stays MarkNext refl refl h rest
    by ResumeNext h rest = stays ResumeNext refl refl h rest

no_fences : (item : CodeItem) → least_words_of item ≡ 0 → fences_of item ≡ 0
no_fences (Instruction instr) e = absurd (omega (arith, e))
no_fences (BranchTo condition rs1 rs2 to) e = refl
no_fences (JumpTo rd to) e = refl
no_fences (Here label) e = refl
no_fences MarkNext e = refl
no_fences ResumeNext e = refl

weightless_fences : (items : List CodeItem) → Weightless items → fences_in items ≡ 0
weightless_fences [] none = refl
weightless_fences (x ∷ xs) none =
    let here = no_fences x none.0 in
    let rest = weightless_fences xs none.1 in
    let sum = fences_cons x xs in
    omega (arith, here, rest, sum)

-- it has two FENCEs
pub boundary_grows : (piece : List CodeItem) → fences_in piece ≡ 2 → (at : ℕ → ℕ) (k : ℕ) → Lies at k piece → at k < at (k + length piece)
boundary_grows piece two at k lie = elim (grows_or_not at k piece lie) [
  | inl grows ↦ grows
  | inr none ↦ let zero_is = weightless_fences piece none in absurd (let z : ⊥ = omega (arith, two, zero_is) in z)
]
