-- Where items stand: numbers of words, and the words there.
use Rattle.std.proofs.Common.{◌≡◌, ℕ, zero, suc, ◌+◌, ◌*◌, ◌<◌, ◌≤◌, List, [], ◌∷◌, ◌++◌, length, Option, Some, Bool, true, false, refl, ap, subst, ◌∙◌, arith}
use Rattle.std.specs.Prelude.{slice_get, sum_by, if◌then◌else◌}
use Rattle.std.proofs.lemmas.List.{length-append}
use Rattle.std.proofs.lemmas.List.Sums.{sum_by-cons}
use Rattle.rv64_isa.specs.declared.instr.Condition.{Condition}
use Rattle.rv64_isa.specs.declared.object.CodeItem.{CodeItem}
use Rattle.rv64_isa.specs.declared.object.CodeItem.TheVariants.{Instruction, BranchTo, JumpTo, Here, MarkNext, ResumeNext}
use Rattle.rv64_isa.specs.declared.object.Slot.{Slot}
use Rattle.rv64_link.specs.LabelledCode.{label_position, stands_here, most_words_of}
use Rattle.rv64_link.specs.links.Layout.{is_near, size, numbers, number_at, branch_slots, slots_of, slots}

-- ---- Lists

abbrev got : {A : Type 0} → A → Option A
got x = Some x

pub none_past : {A : Type 0} (k : ℕ) (x : A) → slice_get {X = A} [] k ≡ Some x → ⊥
none_past zero x e = cc e
none_past (suc k) x e = cc e

pub within : {A : Type 0} (xs : List A) (k : ℕ) (x : A) → slice_get xs k ≡ Some x → k < length xs
within [] k x e = absurd (none_past k x e)
within (y ∷ ys) zero x e = omega arith
within (y ∷ ys) (suc k) x e = let h = within ys k x e in omega (arith, h)

pub some_at : {A : Type 0} (xs : List A) (k : ℕ) → k < length xs → (x : A) × (slice_get xs k ≡ Some x)
some_at [] k h = absurd (omega (arith, h))
some_at (x ∷ xs) zero h = (x, refl)
some_at (x ∷ xs) (suc k) h = some_at xs k (omega (arith, h))

in_prefix : {A : Type 0} (xs ys : List A) (k : ℕ) (x : A) → slice_get xs k ≡ Some x → slice_get (xs ++ ys) k ≡ Some x
in_prefix [] ys k x e = absurd (none_past k x e)
in_prefix (y ∷ xs) ys zero x e = e
in_prefix (y ∷ xs) ys (suc k) x e = in_prefix xs ys k x e

after : {A : Type 0} (xs ys : List A) (k : ℕ) → slice_get (xs ++ ys) (length xs + k) ≡ slice_get ys k
after [] ys k = let same : 0 + k ≡ k = omega arith in ap (λ n. slice_get ys n) same
after (x ∷ xs) ys k = let same : length (x ∷ xs) + k ≡ suc (length xs + k) = omega arith in ap (λ n. slice_get (x ∷ (xs ++ ys)) n) same ∙ after xs ys k

plus_zero : (n : ℕ) → n ≡ n + 0
plus_zero n = omega arith

-- ---- Sizes

pub size_small : (all : List CodeItem) (p : ℕ) (item : CodeItem) → size all p item ≤ most_words_of item
size_small all p (Instruction instr) = omega arith
size_small all p (BranchTo condition rs1 rs2 to) = by (is_near p (label_position to.0 all))
  where
    by : (b : Bool) → (if b then 1 else 2) ≤ 2
    by true = omega arith
    by false = omega arith
size_small all p (JumpTo rd to) = omega arith
size_small all p (Here here) = omega arith
size_small all p MarkNext = omega arith
size_small all p ResumeNext = omega arith

most_two : (item : CodeItem) → most_words_of item ≤ 2
most_two (Instruction instr) = omega arith
most_two (BranchTo condition rs1 rs2 to) = omega arith
most_two (JumpTo rd to) = omega arith
most_two (Here here) = omega arith
most_two MarkNext = omega arith
most_two ResumeNext = omega arith

branch_length : (condition : Condition) (rs1 rs2 : ℕ) (near : Bool) (from to : ℕ) →
    length (branch_slots condition rs1 rs2 near from to) ≡ (if near then 1 else 2)
branch_length condition rs1 rs2 true from to = refl
branch_length condition rs1 rs2 false from to = refl

pub size_is : (all : List CodeItem) (ns : List ℕ) (p : ℕ) (item : CodeItem) → length (slots_of all ns p item) ≡ size all p item
size_is all ns p (Instruction instr) = refl
size_is all ns p (BranchTo condition rs1 rs2 to) =
    branch_length condition rs1 rs2 (is_near p (label_position to.0 all)) (number_at ns p) (number_at ns (label_position to.0 all))
size_is all ns p (JumpTo rd to) = refl
size_is all ns p (Here here) = refl
size_is all ns p MarkNext = refl
size_is all ns p ResumeNext = refl

-- ---- Numbers

pub number_first : (all : List CodeItem) (first p : ℕ) (items : List CodeItem) → number_at (numbers all first p items) 0 ≡ first
number_first all first p [] = refl
number_first all first p (item ∷ items) = refl

pub number_next : (all : List CodeItem) (first p : ℕ) (items : List CodeItem) (k : ℕ) (item : CodeItem) → slice_get items k ≡ Some item
    → number_at (numbers all first p items) (k + 1) ≡ number_at (numbers all first p items) k + size all (p + k) item
number_next all first p [] k item e = absurd (none_past k item e)
number_next all first p (x ∷ items) zero item e =
    let same : x ≡ item = cc e in
    number_first all (first + size all p x) (p + 1) items ∙ ap (λ y. first + size all p y) same ∙ ap (λ q. first + size all q item) (plus_zero p)
number_next all first p (x ∷ items) (suc k) item e =
    let moved : suc k + 1 ≡ suc (k + 1) = omega arith in
    let there : p + 1 + k ≡ p + suc k = omega arith in
    ap (λ n. number_at (numbers all first p (x ∷ items)) n) moved ∙ number_next all (first + size all p x) (p + 1) items k item e
    ∙ ap (λ q. number_at (numbers all (first + size all p x) (p + 1) items) k + size all q item) there

pub number_last : (all : List CodeItem) (ns : List ℕ) (first p : ℕ) (items : List CodeItem) →
    number_at (numbers all first p items) (length items) ≡ first + length (slots all ns p items)
number_last all ns first p [] = omega arith
number_last all ns first p (item ∷ items) =
    let rest = number_last all ns (first + size all p item) (p + 1) items in
    let here = size_is all ns p item in
    let both = length-append (slots_of all ns p item) (slots all ns (p + 1) items) in
    omega (arith, rest, here, both)

-- a step is at most two words
pub number_steps : (all : List CodeItem) (first p : ℕ) (items : List CodeItem) (k m : ℕ) → k + m ≤ length items
    → (number_at (numbers all first p items) k ≤ number_at (numbers all first p items) (k + m))
    × (number_at (numbers all first p items) (k + m) ≤ number_at (numbers all first p items) k + 2 * m)
number_steps all first p items k zero h =
    subst (λ q. (number_at (numbers all first p items) k ≤ number_at (numbers all first p items) q)
    × (number_at (numbers all first p items) q ≤ number_at (numbers all first p items) k + 2 * 0)) (plus_zero k) (omega arith, omega arith)
number_steps all first p items k (suc m) h =
    let before = number_steps all first p items k m (omega (arith, h)) in
    let item = some_at items (k + m) (omega (arith, h)) in
    let next = number_next all first p items (k + m) item.0 item.1 in
    let small = size_small all (p + (k + m)) item.0 in
    let two = most_two item.0 in
    let moved : k + m + 1 ≡ k + suc m = omega arith in
    subst (λ q. (number_at (numbers all first p items) k ≤ number_at (numbers all first p items) q)
    × (number_at (numbers all first p items) q ≤ number_at (numbers all first p items) k + 2 * suc m)) moved
    (omega (arith, before.0, next), omega (arith, before.1, next, small, two))

pub number_bounded : (all : List CodeItem) (first p : ℕ) (items : List CodeItem) (k : ℕ) → k ≤ length items →
    number_at (numbers all first p items) k ≤ first + sum_by most_words_of items
number_bounded all first p [] zero h = omega arith
number_bounded all first p [] (suc k) h = absurd (omega (arith, h))
number_bounded all first p (item ∷ items) zero h = omega arith
number_bounded all first p (item ∷ items) (suc k) h =
    let rest = number_bounded all (first + size all p item) (p + 1) items k (omega (arith, h)) in
    let small = size_small all p item in
    let sum : sum_by most_words_of (item ∷ items) ≡ most_words_of item + sum_by most_words_of items = sum_by-cons most_words_of item items in
    let here : number_at (numbers all (first + size all p item) (p + 1) items) k ≤ first + sum_by most_words_of (item ∷ items) =
    omega (arith, rest, small, sum) in
    here

-- ---- Words

pub stands_at : (all : List CodeItem) (ns : List ℕ) (first p : ℕ) (items : List CodeItem) (k j : ℕ) (item : CodeItem) (s : Slot) →
    slice_get items k ≡ Some item → slice_get (slots_of all ns (p + k) item) j ≡ Some s
    → (i : ℕ) × (number_at (numbers all first p items) k + j ≡ first + i) × (slice_get (slots all ns p items) i ≡ Some s)
stands_at all ns first p [] k j item s e h = absurd (none_past k item e)
stands_at all ns first p (x ∷ items) zero j item s e h =
    let same : item ≡ x = cc e in
    let moved : p + 0 ≡ p = omega arith in
    let here = subst (λ q. slice_get (slots_of all ns q item) j ≡ Some s) moved h in
    (j, refl, in_prefix (slots_of all ns p x) (slots all ns (p + 1) items) j s (subst (λ y. slice_get (slots_of all ns p y) j ≡ Some s) same here))
stands_at all ns first p (x ∷ items) (suc k) j item s e h =
    let moved : p + suc k ≡ p + 1 + k = omega arith in
    let rest = stands_at all ns (first + size all p x) (p + 1) items k j item s e (subst (λ q. slice_get (slots_of all ns q item) j ≡ Some s) moved h) in
    let here = size_is all ns p x in
    (length (slots_of all ns p x) + rest.0, omega (arith, rest.1, here), after (slots_of all ns p x) (slots all ns (p + 1) items) rest.0 ∙ rest.2)

-- ---- Labels

pub label_within : (label : ℕ) (items : List CodeItem) → label_position label items ≤ length items
label_within label [] = omega arith
label_within label (item ∷ items) = by (stands_here label item) (label_within label items)
  where
    by : (b : Bool) → label_position label items ≤ length items → (if b then 0 else 1 + label_position label items) ≤ suc (length items)
    by true h = omega arith
    by false h = omega (arith, h)
