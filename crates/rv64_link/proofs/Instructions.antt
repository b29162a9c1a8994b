-- That all words are instructions, and which of them are FENCEs.
use Rattle.std.proofs.Common.{◌≡◌, ℕ, zero, suc, ◌+◌, ◌*◌, ◌≤◌, List, [], ◌∷◌, ◌++◌, length, take}
use Rattle.std.proofs.Common.{drop, Some, Bool, true, false, refl, sym, ap, subst, ◌∙◌, arith}
use Rattle.std.specs.Prelude.{slice_get, count_by, cond}
use Rattle.std.specs.List.{AllByRecursion}
use Rattle.std.proofs.Math.Seq.{take-add, take-append_seam, drop-append-add}
use Rattle.std.proofs.lemmas.List.{length-append}
use Rattle.std.proofs.lemmas.List.Sums.{sum_by-append}
use Rattle.rv64_isa.specs.declared.object.CodeItem.{CodeItem}
use Rattle.rv64_isa.specs.declared.object.CodeItem.TheVariants.{Instruction, BranchTo, JumpTo, Here, MarkNext, ResumeNext}
use Rattle.rv64_isa.specs.declared.object.Slot.{Slot}
use Rattle.rv64_isa.specs.declared.object.Slot.TheVariants.{Row}
use Rattle.rv64_link.specs.LabelledCode.{label_position, is_fence, one_if, fences_of}
use Rattle.rv64_link.specs.LinkedCode.{IsInstruction, AreInstructions}
use Rattle.rv64_link.specs.links.Layout.{is_near, size, numbers, number_at, branch_slots, slots_of, slots}
use Rattle.rv64_link.proofs.Places.{none_past, size_is}

-- ---- Lists

drop_further : {A : Type 0} (n m : ℕ) (xs : List A) → drop m (drop n xs) ≡ drop (n + m) xs
drop_further zero m xs = let same : m ≡ 0 + m = omega arith in ap (λ k. drop k xs) same
drop_further {A} (suc n) m [] = nothing_left m ∙ ap (λ k. drop {A = A} k []) same
  where
    same : suc (n + m) ≡ suc n + m
    same = omega arith

    nothing_left : (m : ℕ) → drop {A = A} m [] ≡ []
    nothing_left zero = refl
    nothing_left (suc m) = refl
drop_further (suc n) m (x ∷ xs) = let same : suc (n + m) ≡ suc n + m = omega arith in drop_further n m xs ∙ ap (λ k. drop k (x ∷ xs)) same

all_append : {A : Type 0} (P : A → Type 0) (xs ys : List A) → AllByRecursion P xs → AllByRecursion P ys → AllByRecursion P (xs ++ ys)
all_append P [] ys h g = g
all_append P (x ∷ xs) ys h g = (h.0, all_append P xs ys h.1 g)

-- ---- Instructions, and others after them

pub no_instructions : (start : ℕ) (code : List Slot) (at first : ℕ) → at ≡ start + 4 * first → first ≤ length code → AreInstructions start code at at 0
no_instructions start code at first e h = record {
  first = first;
  count = 0;
  from_is = e;
  to_is = omega arith;
  inside = omega (arith, h);
  rows = tt;
  fences_are = refl;
}

pub more_instructions : (start : ℕ) (code : List Slot) (from between to m n : ℕ) → AreInstructions start code from between m →
    AreInstructions start code between to n
    → AreInstructions start code from to (m + n)
more_instructions start code from between to m n a b =
    let next : b.first ≡ a.first + a.count = omega (arith, a.from_is, a.to_is, b.from_is) in
    let rest : take b.count (drop a.count (drop a.first code)) ≡ take b.count (drop b.first code) =
    ap (λ (xs : List Slot). take b.count xs) (drop_further a.first a.count code ∙ ap (λ k. drop k code) (sym next)) in
    let both : take (a.count + b.count) (drop a.first code) ≡ take a.count (drop a.first code) ++ take b.count (drop b.first code) =
    take-add a.count b.count (drop a.first code) ∙ ap (λ (xs : List Slot). take a.count (drop a.first code) ++ xs) rest in
    let sum : count_by is_fence (take a.count (drop a.first code) ++ take b.count (drop b.first code))
    ≡ count_by is_fence (take a.count (drop a.first code)) + count_by is_fence (take b.count (drop b.first code)) =
    sum_by-append (λ (s : Slot). cond (is_fence s) 1 0) (take a.count (drop a.first code)) (take b.count (drop b.first code)) in
    record {
      first = a.first;
      count = a.count + b.count;
      from_is = a.from_is;
      to_is = omega (arith, a.to_is, b.to_is);
      inside = omega (arith, next, b.inside);
      rows = subst (λ (xs : List Slot). AllByRecursion IsInstruction xs) (sym both)
          (all_append IsInstruction (take a.count (drop a.first code)) (take b.count (drop b.first code)) a.rows b.rows);
      fences_are = ap (λ (xs : List Slot). count_by is_fence xs) both ∙ omega (arith, sum, a.fences_are, b.fences_are);
    }

-- ---- The words of an item

pub rows_of : (all : List CodeItem) (ns : List ℕ) (p : ℕ) (item : CodeItem) → AllByRecursion IsInstruction (slots_of all ns p item)
rows_of all ns p (Instruction instr) = (tt, tt)
rows_of all ns p (BranchTo condition rs1 rs2 to) = by (is_near p (label_position to.0 all))
  where
    by : (b : Bool) → AllByRecursion IsInstruction (branch_slots condition rs1 rs2 b (number_at ns p) (number_at ns (label_position to.0 all)))
    by true = (tt, tt)
    by false = (tt, (tt, tt))
rows_of all ns p (JumpTo rd to) = (tt, tt)
rows_of all ns p (Here here) = tt
rows_of all ns p MarkNext = tt
rows_of all ns p ResumeNext = tt

pub fences_are_of : (all : List CodeItem) (ns : List ℕ) (p : ℕ) (item : CodeItem) → count_by is_fence (slots_of all ns p item) ≡ fences_of item
fences_are_of all ns p (Instruction instr) = by (is_fence (Row instr))
  where
    by : (b : Bool) → 0 + cond b 1 0 ≡ one_if b
    by true = refl
    by false = refl
fences_are_of all ns p (BranchTo condition rs1 rs2 to) = by (is_near p (label_position to.0 all))
  where
    by : (b : Bool) → count_by is_fence (branch_slots condition rs1 rs2 b (number_at ns p) (number_at ns (label_position to.0 all))) ≡ 0
    by true = refl
    by false = refl
fences_are_of all ns p (JumpTo rd to) = refl
fences_are_of all ns p (Here here) = refl
fences_are_of all ns p MarkNext = refl
fences_are_of all ns p ResumeNext = refl

-- where the words of the item at a position of the rest stand among those of the rest
pub record Within (all : List CodeItem) (ns : List ℕ) (start p : ℕ) (items : List CodeItem) (k : ℕ) (item : CodeItem) : Type 0 where
  pub first : ℕ
  pub number : number_at (numbers all start p items) k ≡ start + first
  pub inside : first + length (slots_of all ns (p + k) item) ≤ length (slots all ns p items)
  pub slots_are : take (length (slots_of all ns (p + k) item)) (drop first (slots all ns p items)) ≡ slots_of all ns (p + k) item

pub slots_within : (all : List CodeItem) (ns : List ℕ) (start p : ℕ) (items : List CodeItem) (k : ℕ) (item : CodeItem) → slice_get items k ≡ Some item
    → Within all ns start p items k item
slots_within all ns start p [] k item e = absurd (none_past k item e)
slots_within all ns start p (x ∷ items) zero item e =
    let same : x ≡ item = cc e in
    let moved : p ≡ p + 0 = omega arith in
    let both = length-append (slots_of all ns p x) (slots all ns (p + 1) items) in
    let slots_same : slots_of all ns p x ≡ slots_of all ns (p + 0) item = ap (λ q. slots_of all ns q x) moved ∙ ap (λ y. slots_of all ns (p + 0) y) same in
    let inside_here : 0 + length (slots_of all ns p x) ≤ length (slots_of all ns p x ++ slots all ns (p + 1) items) = omega (arith, both) in
    record {
      first = 0;
      number = omega arith;
      inside = subst (λ (ss : List Slot). 0 + length ss ≤ length (slots_of all ns p x ++ slots all ns (p + 1) items)) slots_same inside_here;
      slots_are = subst (λ (ss : List Slot). take (length ss) (slots_of all ns p x ++ slots all ns (p + 1) items) ≡ ss) slots_same
          (take-append_seam (slots_of all ns p x) (slots all ns (p + 1) items));
    }
slots_within all ns start p (x ∷ items) (suc k) item e =
    let moved : p + 1 + k ≡ p + suc k = omega arith in
    let rest : Within all ns (start + size all p x) (p + 1) items k item = slots_within all ns (start + size all p x) (p + 1) items k item e in
    let here : length (slots_of all ns p x) ≡ size all p x = size_is all ns p x in
    let number_there : number_at (numbers all (start + size all p x) (p + 1) items) k ≡ start + size all p x + rest.first = rest.number in
    let both = length-append (slots_of all ns p x) (slots all ns (p + 1) items) in
    let inside_there : rest.first + length (slots_of all ns (p + 1 + k) item) ≤ length (slots all ns (p + 1) items) = rest.inside in
    let slots_same : slots_of all ns (p + 1 + k) item ≡ slots_of all ns (p + suc k) item = ap (λ q. slots_of all ns q item) moved in
    let inside_here : length (slots_of all ns p x) + rest.first + length (slots_of all ns (p + 1 + k) item)
    ≤ length (slots_of all ns p x ++ slots all ns (p + 1) items) =
    omega (arith, both, inside_there) in
    record {
      first = length (slots_of all ns p x) + rest.first;
      number = omega (arith, number_there, here);
      inside =
          subst (λ (ss : List Slot). length (slots_of all ns p x) + rest.first + length ss ≤ length (slots_of all ns p x ++ slots all ns (p + 1) items))
          slots_same inside_here;
      slots_are =
          subst (λ (ss : List Slot). take (length ss) (drop (length (slots_of all ns p x) + rest.first) (slots_of all ns p x ++ slots all ns (p + 1) items))
          ≡ ss) slots_same
          (ap (λ (ss : List Slot). take (length (slots_of all ns (p + 1 + k) item)) ss)
          (drop-append-add (slots_of all ns p x) (slots all ns (p + 1) items) rest.first) ∙ rest.slots_are);
    }
