-- Items and their addresses in linked code.
use Rattle.std.proofs.Common.{◌≡◌, ℕ, zero, suc, ◌+◌, ◌*◌, ◌<◌, ◌≤◌, List, [], ◌∷◌, ◌++◌, length, map, refl, ap, sym, ◌∙◌, arith, subst, Bool, true}
use Rattle.std.proofs.Common.{false, Option, Some, None, ◌==◌}
use Rattle.std.specs.Prelude.{slice_get, if◌then◌else◌, ◌||◌, ◌&&◌}
use Rattle.std.specs.List.{list_any}
use Rattle.std.proofs.lemmas.List.{length-append}
use Rattle.std.proofs.lemmas.List.Folds.{list_any-append}
use Rattle.std.proofs.lemmas.Bool.Decides.{nat_tests}
use Rattle.rv64_isa.specs.declared.instr.Instr.{Instr}
use Rattle.rv64_isa.specs.declared.object.CodeItem.{CodeItem}
use Rattle.rv64_isa.specs.declared.object.CodeItem.TheVariants.{Instruction, BranchTo, JumpTo, Here, MarkNext, ResumeNext}
use Rattle.rv64_link.specs.LabelledCode.{stands_here, is_mark, is_resume, positions_from}
use Rattle.rv64_link.specs.LinkedCode.{IsRoom}
use Rattle.code_runs.specs.ComputingRuns as r
use Rattle.code_runs.specs.CodeTraces.{Mark, marked, AreUnmarked}
use Rattle.node_code.specs.Sites.{mark_waits, Linking, IsPart}

-- ---- Parts

append_same : (xs ys zs : List CodeItem) → (xs ++ ys) ++ zs ≡ xs ++ (ys ++ zs)
append_same [] ys zs = refl
append_same (x ∷ xs) ys zs = ap (λ (is : List CodeItem). x ∷ is) (append_same xs ys zs)

pub part_left : (all : List CodeItem) (k : ℕ) (a b : List CodeItem) → IsPart all k (a ++ b) → IsPart all k a
part_left all k a b p = record {
  before = p.before;
  after = b ++ p.after;
  split = p.split ∙ ap (λ (is : List CodeItem). p.before ++ is) (append_same a b p.after);
  at = p.at;
}

pub part_right : (all : List CodeItem) (k : ℕ) (a b : List CodeItem) → IsPart all k (a ++ b) → IsPart all (k + length a) b
part_right all k a b p = record {
  before = p.before ++ a;
  after = p.after;
  split = p.split ∙ ap (λ (is : List CodeItem). p.before ++ is) (append_same a b p.after) ∙ sym (append_same p.before a (b ++ p.after));
  at = let e = p.at in omega (arith, e, length-append p.before a);
}

pub waits_append : (w : Bool) (xs ys : List CodeItem) → mark_waits w (xs ++ ys) ≡ mark_waits (mark_waits w xs) ys
waits_append w [] ys = refl
waits_append w (Instruction instr ∷ xs) ys = waits_append false xs ys
waits_append w (BranchTo condition rs1 rs2 to ∷ xs) ys = waits_append false xs ys
waits_append w (JumpTo rd to ∷ xs) ys = waits_append false xs ys
waits_append w (Here here ∷ xs) ys = waits_append w xs ys
waits_append w (MarkNext ∷ xs) ys = waits_append true xs ys
waits_append w (ResumeNext ∷ xs) ys = waits_append w xs ys

pub waits_left : (all : List CodeItem) (k : ℕ) (a b : List CodeItem) (p : IsPart all k (a ++ b)) →
    mark_waits false (part_left all k a b p).before ≡ mark_waits false p.before
unfolding part_left
waits_left all k a b p = refl

pub waits_right : (all : List CodeItem) (k : ℕ) (a b : List CodeItem) (p : IsPart all k (a ++ b)) →
    mark_waits false (part_right all k a b p).before ≡ mark_waits (mark_waits false p.before) a
unfolding part_right
waits_right all k a b p = waits_append false p.before a

pub waits_plain : (w : Bool) (i : Instr) (is : List Instr) → mark_waits w (map Instruction (i ∷ is)) ≡ false
waits_plain w i is = waits_none is
  where
    waits_none : (is : List Instr) → mark_waits false (map Instruction is) ≡ false
    waits_none [] = refl
    waits_none (i ∷ is) = waits_none is

pub waits_plain_on : (code : List Instr) → mark_waits false (map Instruction code) ≡ false
waits_plain_on [] = refl
waits_plain_on (i ∷ is) = waits_plain_on is

pub labels_append : (label : ℕ) (xs ys : List CodeItem) → list_any (stands_here label) xs ≡ false → list_any (stands_here label) ys ≡ false →
    list_any (stands_here label) (xs ++ ys) ≡ false
labels_append label xs ys e f = list_any-append (stands_here label) xs ys ∙ ap (λ (b : Bool). b || list_any (stands_here label) ys) e ∙ f

pub labels_plain : (label : ℕ) (code : List Instr) → list_any (stands_here label) (map Instruction code) ≡ false
labels_plain label [] = refl
labels_plain label (i ∷ is) = labels_plain label is

in_prefix : {A : Type 0} (xs ys : List A) (k : ℕ) (x : A) → slice_get xs k ≡ Some x → slice_get (xs ++ ys) k ≡ Some x
in_prefix [] ys zero x e = cc e
in_prefix [] ys (suc k) x e = cc e
in_prefix (y ∷ xs) ys zero x e = e
in_prefix (y ∷ xs) ys (suc k) x e = in_prefix xs ys k x e

after : {A : Type 0} (xs ys : List A) (k : ℕ) → slice_get (xs ++ ys) (length xs + k) ≡ slice_get ys k
after [] ys k = let same : 0 + k ≡ k = omega arith in ap (λ n. slice_get ys n) same
after (x ∷ xs) ys k = let same : length (x ∷ xs) + k ≡ suc (length xs + k) = omega arith in ap (λ n. slice_get (x ∷ (xs ++ ys)) n) same ∙ after xs ys k

-- an item of the part is one of all
pub item_at : (all : List CodeItem) (k : ℕ) (part : List CodeItem) → IsPart all k part → (j : ℕ) (item : CodeItem) → slice_get part j ≡ Some item →
    slice_get all (k + j) ≡ Some item
item_at all k part p j item e =
    ap (λ (is : List CodeItem). slice_get is (k + j)) p.split ∙ ap (λ (n : ℕ). slice_get (p.before ++ (part ++ p.after)) (n + j)) p.at ∙
    after p.before (part ++ p.after) j ∙ in_prefix part p.after j item e

-- ---- Room

-- items lie one after another from a position on
abbrev pub Lies : (at : ℕ → ℕ) → (k : ℕ) → List CodeItem → Type 0
Lies at k [] = Unit {0}
Lies at k (item ∷ items) = IsRoom item (at k) (at (k + 1)) × Lies at (k + 1) items

pub lies_from : (at : ℕ → ℕ) (k : ℕ) (items : List CodeItem) → ((p : ℕ) (item : CodeItem) → slice_get items p ≡ Some item →
    IsRoom item (at (k + p)) (at (k + p + 1))) → Lies at k items
lies_from at k [] h = tt
lies_from at k (item ∷ items) h =
    let zeroth : k + 0 ≡ k = omega arith in
    let Q : ℕ → Type 0 = λ n. IsRoom item (at n) (at (n + 1)) in (
      subst Q zeroth (h 0 item refl),
      lies_from at (k + 1) items (λ p i e.
          let moved : k + suc p ≡ k + 1 + p = omega arith in
          let R : ℕ → Type 0 = λ n. IsRoom i (at n) (at (n + 1)) in
          subst R moved (h (suc p) i e)),
    )

pub lies_left : (at : ℕ → ℕ) (k : ℕ) (xs ys : List CodeItem) → Lies at k (xs ++ ys) → Lies at k xs
lies_left at k [] ys h = tt
lies_left at k (x ∷ xs) ys h = (h.0, lies_left at (k + 1) xs ys h.1)

pub lies_right : (at : ℕ → ℕ) (k : ℕ) (xs ys : List CodeItem) → Lies at k (xs ++ ys) → Lies at (k + length xs) ys
lies_right at k [] ys h = let e : k ≡ k + 0 = omega arith in subst (λ (n : ℕ). Lies at n ys) e h
lies_right at k (x ∷ xs) ys h =
    let e : k + 1 + length xs ≡ k + length (x ∷ xs) = omega arith in
    subst (λ (n : ℕ). Lies at n ys) e (lies_right at (k + 1) xs ys h.1)

-- addresses go up, by no more than the words of the items
pub goes_up : (at : ℕ → ℕ) (k : ℕ) (items : List CodeItem) → Lies at k items → at k ≤ at (k + length items)
goes_up at k [] h = let e : k ≡ k + 0 = omega arith in subst (λ (n : ℕ). at k ≤ at n) e (omega arith)
goes_up at k (x ∷ xs) h =
    let e : k + 1 + length xs ≡ k + length (x ∷ xs) = omega arith in
    let later : at (k + 1) ≤ at (k + 1 + length xs) = goes_up at (k + 1) xs h.1 in
    let here : at (k + 1) ≡ at k + 4 * h.0.words = h.0.to_is in
    subst (λ (n : ℕ). at k ≤ at n) e (omega arith)

-- instructions take one word each
pub one_each : (at : ℕ → ℕ) (k : ℕ) (code : List Instr) → Lies at k (map Instruction code) → at (k + length code) ≡ at k + 4 * length code
one_each at k [] h = let e : k + 0 ≡ k = omega arith in ap at e ∙ omega arith
one_each at k (i ∷ is) h =
    let e : k + length (i ∷ is) ≡ k + 1 + length is = omega arith in
    let later : at (k + 1 + length is) ≡ at (k + 1) + 4 * length is = one_each at (k + 1) is h.1 in
    let here : at (k + 1) ≡ at k + 4 * h.0.words = h.0.to_is in
    let least : 1 ≤ h.0.words = h.0.least in
    let most : h.0.words ≤ 1 = h.0.most in
    ap at e ∙ omega arith

pub all_lie : (all : List CodeItem) → (n : Linking all) → Lies n.linked.address_of 0 all
all_lie all n = lies_from n.linked.address_of 0 all (λ p item e.
    let same : p ≡ 0 + p = omega arith in
    let Q : ℕ → Type 0 = λ k. IsRoom item (n.linked.address_of k) (n.linked.address_of (k + 1)) in
    subst Q same (n.linked.room p item e))

-- items that lie before a part, those of the part, and those after it
pub record Lay (at : ℕ → ℕ) (k : ℕ) (before part after : List CodeItem) : Type 0 where
  pub first : Lies at 0 before
  pub own : Lies at k part
  pub last : Lies at (k + length part) after

pub lay_of : (all : List CodeItem) (k : ℕ) (part : List CodeItem) (n : Linking all) (p : IsPart all k part) → Lay n.linked.address_of k p.before part p.after
lay_of all k part n p =
    let at : ℕ → ℕ = n.linked.address_of in
    let whole : Lies at 0 (p.before ++ (part ++ p.after)) = subst (λ (is : List CodeItem). Lies at 0 is) p.split (all_lie all n) in
    let k_is : 0 + length p.before ≡ k = let e : k ≡ length p.before = p.at in omega arith in
    let rest : Lies at k (part ++ p.after) = subst (λ (m : ℕ). Lies at m (part ++ p.after)) k_is (lies_right at 0 p.before (part ++ p.after) whole) in
    record { first = lies_left at 0 p.before (part ++ p.after) whole; own = lies_left at k part p.after rest; last = lies_right at k part p.after rest }

-- ---- Instructions stand

stand_from : (s : r.Environment) (at : ℕ → ℕ) (k : ℕ) (code : List Instr) → ((j : ℕ) (i : Instr) → slice_get code j ≡ Some i → s.fetch (at (k + j)) ≡ Some i) →
    Lies at k (map Instruction code) → r.HasCodeAt s (at k) code
stand_from s at k [] h lie = tt
stand_from s at k (i ∷ is) h lie =
    let zeroth : k + 0 ≡ k = omega arith in
    let here : at (k + 1) ≡ at k + 4 * lie.0.words = lie.0.to_is in
    let least : 1 ≤ lie.0.words = lie.0.least in
    let most : lie.0.words ≤ 1 = lie.0.most in
    let one : at (k + 1) ≡ at k + 4 = omega arith in (
      ap (λ (n : ℕ). s.fetch (at n)) (sym zeroth) ∙ h 0 i refl,
      subst (λ (n : ℕ). r.HasCodeAt s n is) one (stand_from s at (k + 1) is (λ j x e.
          let moved : k + 1 + j ≡ k + suc j = omega arith in
          ap (λ (n : ℕ). s.fetch (at n)) moved ∙ h (suc j) x e) lie.1),
    )

get_map : (code : List Instr) (j : ℕ) (i : Instr) → slice_get code j ≡ Some i → slice_get (map Instruction code) j ≡ Some (Instruction i)
get_map [] zero i e = cc e
get_map [] (suc j) i e = cc e
get_map (x ∷ xs) zero i e = ap (λ (o : Option Instr). elim o [ Some y ↦ Some (Instruction y) | None ↦ None ]) e
get_map (x ∷ xs) (suc j) i e = get_map xs j i e

pub stand : (all : List CodeItem) (k : ℕ) (code : List Instr) (n : Linking all) → IsPart all k (map Instruction code) →
    r.HasCodeAt n.environment.around (n.linked.address_of k) code
stand all k code n p =
    stand_from n.environment.around n.linked.address_of k code
    (λ j i e. n.meets.fetches (n.linked.address_of (k + j)) i (n.linked.stands (k + j) i
    (item_at all k (map Instruction code) p j (Instruction i) (get_map code j i e))))
    (lay_of all k (map Instruction code) n p).own

-- ---- Marks

pub positions_append : (k : ℕ) (test : CodeItem → Bool) (xs ys : List CodeItem) →
    positions_from k test (xs ++ ys) ≡ positions_from k test xs ++ positions_from (k + length xs) test ys
positions_append k test [] ys = let e : k ≡ k + 0 = omega arith in ap (λ (n : ℕ). positions_from n test ys) e
positions_append k test (x ∷ xs) ys =
    let e : k + 1 + length xs ≡ k + length (x ∷ xs) = omega arith in
    let later : positions_from (k + 1) test (xs ++ ys) ≡ positions_from (k + 1) test xs ++ positions_from (k + length (x ∷ xs)) test ys =
    positions_append (k + 1) test xs ys ∙ ap (λ (n : ℕ). positions_from (k + 1) test xs ++ positions_from n test ys) e in
    by (test x) later
  where
    by : (b : Bool) → positions_from (k + 1) test (xs ++ ys) ≡ positions_from (k + 1) test xs ++ positions_from (k + length (x ∷ xs)) test ys →
        (if b then k ∷ positions_from (k + 1) test (xs ++ ys) else positions_from (k + 1) test (xs ++ ys)) ≡
        (if b then k ∷ positions_from (k + 1) test xs else positions_from (k + 1) test xs) ++ positions_from (k + length (x ∷ xs)) test ys
    by true e = ap (λ (ns : List ℕ). k ∷ ns) e
    by false e = e

pub no_marks_in : (code : List Instr) (k : ℕ) → positions_from k is_mark (map Instruction code) ≡ []
no_marks_in [] k = refl
no_marks_in (i ∷ is) k = no_marks_in is (k + 1)

pub no_resumes_in : (code : List Instr) (k : ℕ) → positions_from k is_resume (map Instruction code) ≡ []
no_resumes_in [] k = refl
no_resumes_in (i ∷ is) k = no_resumes_in is (k + 1)

pub map_append : (at : ℕ → ℕ) (xs ys : List ℕ) → map at (xs ++ ys) ≡ map at xs ++ map at ys
map_append at [] ys = refl
map_append at (x ∷ xs) ys = ap (λ (ns : List ℕ). at x ∷ ns) (map_append at xs ys)

-- one of them has the address
abbrev pub has_mark : (at : ℕ → ℕ) → (k : ℕ) → List CodeItem → (pc : ℕ) → Bool
has_mark at k items pc = list_any (λ m. m == pc) (map at (positions_from k is_mark items))

has_append : (at : ℕ → ℕ) (k : ℕ) (xs ys : List CodeItem) (pc : ℕ) → has_mark at k (xs ++ ys) pc ≡ (has_mark at k xs pc || has_mark at (k + length xs) ys pc)
has_append at k xs ys pc =
    ap (λ (ns : List ℕ). list_any (λ m. m == pc) (map at ns)) (positions_append k is_mark xs ys) ∙
    ap (λ (ns : List ℕ). list_any (λ m. m == pc) ns) (map_append at (positions_from k is_mark xs) (positions_from (k + length xs) is_mark ys)) ∙
    list_any-append (λ m. m == pc) (map at (positions_from k is_mark xs)) (map at (positions_from (k + length xs) is_mark ys))

differ : (a b : ℕ) → a < b → (a == b) ≡ false
differ a b h = grind (arith, nat_tests)

differ_above : (a b : ℕ) → b < a → (a == b) ≡ false
differ_above a b h = grind (arith, nat_tests)

both_false : (a b : Bool) → a ≡ false → b ≡ false → (a || b) ≡ false
both_false true b h k = cc
both_false false b h k = k

-- no mark of items has an address before them, or after them
pub none_below : (at : ℕ → ℕ) (k : ℕ) (items : List CodeItem) (pc : ℕ) → Lies at k items → pc < at k → has_mark at k items pc ≡ false
none_below at k [] pc h low = refl
none_below at k (x ∷ xs) pc h low =
    let here : at (k + 1) ≡ at k + 4 * h.0.words = h.0.to_is in
    let later : has_mark at (k + 1) xs pc ≡ false = none_below at (k + 1) xs pc h.1 (omega arith) in
    by (is_mark x) later
  where
    by : (b : Bool) → has_mark at (k + 1) xs pc ≡ false →
        list_any (λ m. m == pc) (map at (if b then k ∷ positions_from (k + 1) is_mark xs else positions_from (k + 1) is_mark xs)) ≡ false
    by true e = both_false (at k == pc) (has_mark at (k + 1) xs pc) (differ_above (at k) pc low) e
    by false e = e

pub none_above : (at : ℕ → ℕ) (k : ℕ) (items : List CodeItem) (pc : ℕ) → Lies at k items → at (k + length items) < pc → has_mark at k items pc ≡ false
none_above at k [] pc h high = refl
none_above at k (x ∷ xs) pc h high =
    let e : k + length (x ∷ xs) ≡ k + 1 + length xs = omega arith in
    let up : at k ≤ at (k + length (x ∷ xs)) = goes_up at k (x ∷ xs) h in
    let later : has_mark at (k + 1) xs pc ≡ false = none_above at (k + 1) xs pc h.1 (subst (λ (n : ℕ). at n < pc) e high) in
    by (is_mark x) (omega arith) later
  where
    by : (b : Bool) → at k < pc → has_mark at (k + 1) xs pc ≡ false →
        list_any (λ m. m == pc) (map at (if b then k ∷ positions_from (k + 1) is_mark xs else positions_from (k + 1) is_mark xs)) ≡ false
    by true l e = both_false (at k == pc) (has_mark at (k + 1) xs pc) (differ (at k) pc l) e
    by false l e = e

-- a mark of the items, or one that waited before them, has the address after them where it waits there
same_is : (n : ℕ) → (n == n) ≡ true
same_is n = grind (arith, nat_tests)

or_false : (w t has : Bool) → t ≡ false → has ≡ ((w && t) || has)
or_false true t has e = sym (ap (λ (b : Bool). b || has) e)
or_false false t has e = refl

or_twice : (w t has : Bool) → (t || has) ≡ ((w && t) || (t || has))
or_twice true true has = refl
or_twice true false has = refl
or_twice false t has = refl

-- what an item does to a mark that waits, where `has` says whether a mark after it has the address `n`
step : (x : CodeItem) (from to n : ℕ) (w : Bool) (xs : List CodeItem) (has : Bool) → IsRoom x from to → to ≤ n →
    ((v : Bool) → mark_waits v xs ≡ ((v && (to == n)) || has)) →
    mark_waits w (x ∷ xs) ≡ ((w && (from == n)) || (if is_mark x then (from == n) || has else has))
step (Instruction instr) from to n w xs has room up ih =
    let here : to ≡ from + 4 * room.words = room.to_is in
    let least : 1 ≤ room.words = room.least in
    ih false ∙ or_false w (from == n) has (differ from n (omega arith))
step (BranchTo condition rs1 rs2 label) from to n w xs has room up ih =
    let here : to ≡ from + 4 * room.words = room.to_is in
    let least : 1 ≤ room.words = room.least in
    ih false ∙ or_false w (from == n) has (differ from n (omega arith))
step (JumpTo rd label) from to n w xs has room up ih =
    let here : to ≡ from + 4 * room.words = room.to_is in
    let least : 1 ≤ room.words = room.least in
    ih false ∙ or_false w (from == n) has (differ from n (omega arith))
step (Here label) from to n w xs has room up ih =
    let here : to ≡ from + 4 * room.words = room.to_is in
    let most : room.words ≤ 0 = room.most in
    let same : to ≡ from = omega arith in
    ih w ∙ ap (λ (m : ℕ). (w && (m == n)) || has) same
step MarkNext from to n w xs has room up ih =
    let here : to ≡ from + 4 * room.words = room.to_is in
    let most : room.words ≤ 0 = room.most in
    let same : to ≡ from = omega arith in
    ih true ∙ ap (λ (m : ℕ). (m == n) || has) same ∙ or_twice w (from == n) has
step ResumeNext from to n w xs has room up ih =
    let here : to ≡ from + 4 * room.words = room.to_is in
    let most : room.words ≤ 0 = room.most in
    let same : to ≡ from = omega arith in
    ih w ∙ ap (λ (m : ℕ). (w && (m == n)) || has) same

pub waits_is : (at : ℕ → ℕ) (k : ℕ) (items : List CodeItem) (w : Bool) → Lies at k items →
    mark_waits w items ≡ ((w && (at k == at (k + length items))) || has_mark at k items (at (k + length items)))
waits_is at k [] w h = by w
  where
    e : at k ≡ at (k + 0)
    e = let z : k ≡ k + 0 = omega arith in ap at z

    same : (at k == at (k + 0)) ≡ true
    same = ap (λ (n : ℕ). at k == n) (sym e) ∙ same_is (at k)

    by : (w : Bool) → w ≡ ((w && (at k == at (k + 0))) || false)
    by true = sym (ap (λ (b : Bool). b || false) same)
    by false = refl
waits_is at k (x ∷ xs) w h =
    let e : k + 1 + length xs ≡ k + length (x ∷ xs) = omega arith in
    let n : ℕ = at (k + length (x ∷ xs)) in
    let ih : (v : Bool) → mark_waits v xs ≡ ((v && (at (k + 1) == n)) || has_mark at (k + 1) xs n) =
    λ v. subst (λ (m : ℕ). mark_waits v xs ≡ ((v && (at (k + 1) == at m)) || has_mark at (k + 1) xs (at m))) e (waits_is at (k + 1) xs v h.1) in
    let up : at (k + 1) ≤ n = subst (λ (m : ℕ). at (k + 1) ≤ at m) e (goes_up at (k + 1) xs h.1) in
    step x (at k) (at (k + 1)) n w xs (has_mark at (k + 1) xs n) h.0 up ih ∙ ap (λ (b : Bool). (w && (at k == n)) || b) (split (is_mark x) n)
  where
    split : (b : Bool) (n : ℕ) → (if b then (at k == n) || has_mark at (k + 1) xs n else has_mark at (k + 1) xs n) ≡
        list_any (λ m. m == n) (map at (if b then k ∷ positions_from (k + 1) is_mark xs else positions_from (k + 1) is_mark xs))
    split true n = refl
    split false n = refl

-- ---- Marks in linked code

module _ (all : List CodeItem) (n : Linking all) where
  abbrev at : ℕ → ℕ
  at = n.linked.address_of

  marks_are : (pc : ℕ) → marked n.environment.marks pc ≡ (if has_mark at 0 all pc then Mark ∷ [] else [])
  marks_are pc = ap (λ (ms : List ℕ). marked ms pc) (n.meets.marks ∙ n.linked.nodes_are)

  -- the marks of all items are those before a part, of the part, and after it
  split_marks : (k : ℕ) (part : List CodeItem) (p : IsPart all k part) (pc : ℕ) →
      has_mark at 0 all pc ≡ (has_mark at 0 p.before pc || (has_mark at k part pc || has_mark at (k + length part) p.after pc))
  split_marks k part p pc =
      let k_is : 0 + length p.before ≡ k = let e : k ≡ length p.before = p.at in omega arith in
      ap (λ (is : List CodeItem). has_mark at 0 is pc) p.split ∙ has_append at 0 p.before (part ++ p.after) pc ∙
      ap (λ (m : ℕ). has_mark at 0 p.before pc || has_mark at m (part ++ p.after) pc) k_is ∙
      ap (λ (b : Bool). has_mark at 0 p.before pc || b) (has_append at k part p.after pc)

  -- the part has no mark
  abbrev pub HasNone : List CodeItem → Type 0
  HasNone part = (k pc : ℕ) → has_mark at k part pc ≡ false

  -- within a part without marks none is passed
  pub unmarked_within : (k : ℕ) (part : List CodeItem) (p : IsPart all k part) → HasNone part → (pc : ℕ) → at k < pc → pc < at (k + length part) →
      marked n.environment.marks pc ≡ []
  unmarked_within k part p none pc low high =
      let lay : Lay at k p.before part p.after = lay_of all k part n p in
      let k_is : at (0 + length p.before) ≡ at k = let e : 0 + length p.before ≡ k = let z : k ≡ length p.before = p.at in omega arith in ap at e in
      let first : has_mark at 0 p.before pc ≡ false = none_above at 0 p.before pc lay.first (omega arith) in
      let last : has_mark at (k + length part) p.after pc ≡ false = none_below at (k + length part) p.after pc lay.last high in
      let all_false : has_mark at 0 all pc ≡ false =
      split_marks k part p pc ∙ both_false (has_mark at 0 p.before pc) (has_mark at k part pc || has_mark at (k + length part) p.after pc) first
      (both_false (has_mark at k part pc) (has_mark at (k + length part) p.after pc) (none k pc) last) in
      marks_are pc ∙ ap (λ (b : Bool). if b then Mark ∷ [] else []) all_false

  -- at a part's first address a mark is passed exactly where one waits, where its first item takes room
  pub marked_first : (k : ℕ) (part : List CodeItem) (p : IsPart all k part) → HasNone part → at k < at (k + length part) →
      marked n.environment.marks (at k) ≡ (if mark_waits false p.before then Mark ∷ [] else [])
  marked_first k part p none up =
      let lay : Lay at k p.before part p.after = lay_of all k part n p in
      let e : 0 + length p.before ≡ k = let z : k ≡ length p.before = p.at in omega arith in
      let first : has_mark at 0 p.before (at k) ≡ mark_waits false p.before =
      sym (subst (λ (m : ℕ). mark_waits false p.before ≡ has_mark at 0 p.before (at m)) e (waits_is at 0 p.before false lay.first)) in
      let last : has_mark at (k + length part) p.after (at k) ≡ false = none_below at (k + length part) p.after (at k) lay.last up in
      let later : (has_mark at k part (at k) || has_mark at (k + length part) p.after (at k)) ≡ false = both_false (has_mark at k part (at k))
      (has_mark at (k + length part) p.after (at k)) (none k (at k)) last in
      let whole : has_mark at 0 all (at k) ≡ mark_waits false p.before =
      split_marks k part p (at k) ∙ ap (λ (b : Bool). has_mark at 0 p.before (at k) || b) later ∙ or_right (has_mark at 0 p.before (at k)) ∙ first in
      marks_are (at k) ∙ ap (λ (b : Bool). if b then Mark ∷ [] else []) whole
    where
      or_right : (b : Bool) → (b || false) ≡ b
      or_right true = refl
      or_right false = refl

  pub instructions_have_none : (code : List Instr) → HasNone (map Instruction code)
  instructions_have_none code k pc = ap (λ (ns : List ℕ). list_any (λ m. m == pc) (map at ns)) (no_marks_in code k)

  pub length_map : (code : List Instr) → length (map Instruction code) ≡ length code
  length_map [] = refl
  length_map (i ∷ is) = ap suc (length_map is)

  pub unmarked_words : (from : ℕ) (words : ℕ) → ((pc : ℕ) → from ≤ pc → pc < from + 4 * words → marked n.environment.marks pc ≡ []) →
      AreUnmarked n.environment from words
  unmarked_words from zero h = tt
  unmarked_words from (suc words) h = (h from (omega arith) (omega arith), unmarked_words (from + 4) words (λ pc low high. h pc (omega arith) (omega arith)))
