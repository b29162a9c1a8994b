-- Code as it grows: each part extends what is left at the positions before it.
use Rattle.std.proofs.Common.{◌≡◌, ◌≢◌, refl, ℕ, zero, suc, ◌+◌, ◌-◌, ◌<◌, ◌≤◌, List, [], ◌∷◌, ◌++◌, length, sym, ◌∙◌, ap}
use Rattle.std.proofs.Common.{subst, arith, Some, slice_set, get_or, Bor, drop, ⊎_elim, append_assoc, length-append, replicate}
use Rattle.std.specs.Prelude.{slice_get, Result, IfOk}
use Rattle.std.proofs.lemmas.Result.{IfOk-weaker}
use Rattle.c_tree.specs.declared.flat.Arm as arm
use Rattle.std.proofs.lemmas.Bool.{cases_lt, cases_eq}
use Rattle.std.proofs.lemmas.Option.{slice_get_within, slice_get-get_or}
use Rattle.std.proofs.lemmas.List.{length-set, length-replicate, drop_all, drop_more, append-nil}
use Rattle.ido_base.specs.declared.place.Place.{Place}
use Rattle.c_tree.specs.Exprs.{Placed, placed_of}
use Rattle.c_tree.specs.Flats as f
use Rattle.c_tree.specs.declared.expr.Placed as code
use Rattle.c_tree.specs.declared.flat.Statement as s
use Rattle.c_tree.specs.Source.{opened, opened_all}
use Rattle.source_machine.specs.declared.code.Node.{Node}
use Rattle.source_machine.specs.declared.code.Node.TheVariants as node
use Rattle.source_machine.specs.links.Codes.{Lefts, At, else_part, chooses, repeats, DoesNode, IsCode}
use Rattle.source_machine.specs.links.Codes.{IsPushed, Extends, Emits, EmitsArms, EmitsTest, EmitsLoop}

-- ---- Lists

pub get_prefix : {X : Type 0} (xs ys : List X) (k : ℕ) (x : X) → slice_get xs k ≡ Some x → slice_get (xs ++ ys) k ≡ Some x
get_prefix [] ys k x h = cc
get_prefix (y ∷ xs) ys zero x h = h
get_prefix (y ∷ xs) ys (suc k) x h = get_prefix xs ys k x h

pub get_same : {X : Type 0} (xs ys : List X) (k : ℕ) → k < length xs → slice_get (xs ++ ys) k ≡ slice_get xs k
get_same [] ys k h = absurd (omega arith)
get_same (y ∷ xs) ys zero h = refl
get_same (y ∷ xs) ys (suc k) h = get_same xs ys k (omega arith)

pub get_end : {X : Type 0} (xs : List X) (y : X) → slice_get (xs ++ y ∷ []) (length xs) ≡ Some y
get_end [] y = refl
get_end (x ∷ xs) y = get_end xs y

pub get_only : {X : Type 0} (xs : List X) (y z : X) (k : ℕ) → length xs ≤ k → slice_get (xs ++ y ∷ []) k ≡ Some z → (k ≡ length xs) × (y ≡ z)
get_only [] y z zero h e = (refl, cc)
get_only [] y z (suc k) h e = cc
get_only (x ∷ xs) y z zero h e = absurd (omega arith)
get_only (x ∷ xs) y z (suc k) h e = let i = get_only xs y z k (omega arith) e in (ap suc i.0, i.1)

pub set_same : {X : Type 0} (xs : List X) (i : ℕ) (y : X) → i < length xs → slice_get (slice_set xs i y) i ≡ Some y
set_same [] i y h = absurd (omega arith)
set_same (x ∷ xs) zero y h = refl
set_same (x ∷ xs) (suc i) y h = set_same xs i y (omega arith)

pub set_other : {X : Type 0} (xs : List X) (i k : ℕ) (y : X) → k ≢ i → slice_get (slice_set xs i y) k ≡ slice_get xs k
set_other [] i k y h = refl
set_other (x ∷ xs) zero zero y h = absurd (h refl)
set_other (x ∷ xs) zero (suc k) y h = refl
set_other (x ∷ xs) (suc i) zero y h = refl
set_other (x ∷ xs) (suc i) (suc k) y h = set_other xs i k y (λ e. h (ap suc e))

-- ---- What is left at positions

pub once : (lefts : Lefts) (k : ℕ) (l m : List f.Statement) → At lefts k l → At lefts k m → l ≡ m
once lefts k l m h g = cc

abbrev pub LeftsGrow : Lefts → Lefts → Type 0
LeftsGrow lefts all = (k : ℕ) (l : List f.Statement) → At lefts k l → At all k l

pub does_still : (lefts all : Lefts) → LeftsGrow lefts all → (n : Node) (left : List f.Statement) → DoesNode lefts n left → DoesNode all n left
does_still lefts all g node.End left d = d
does_still lefts all g (node.Assign target value next) left d = record { place = d.place; rest = d.rest; follows = g next d.rest d.follows; is = d.is }
does_still lefts all g (node.Test condition holds fails) left d = elim d [
  | chooses place body arms otherwise rest h k is ↦ chooses place body arms otherwise rest (g holds _ h) (g fails _ k) is
  | repeats place body rest h k is ↦ repeats place body rest (g holds _ h) (g fails _ k) is
]
does_still lefts all g (node.Lock lock next) left d = record { place = d.place; rest = d.rest; follows = g next d.rest d.follows; is = d.is }
does_still lefts all g (node.Unlock lock next) left d = record { place = d.place; rest = d.rest; follows = g next d.rest d.follows; is = d.is }
does_still lefts all g node.Never left d = d

-- ---- Code that grows

pub nothing_more : (before : List Node) (lefts : Lefts) (next : ℕ) (rest : List f.Statement) → length lefts ≡ length before → At lefts next rest →
    Extends before before lefts next rest
nothing_more before lefts next rest size at = record {
  all = lefts;
  grown = λ k l h. h;
  count = size;
  longer = omega arith;
  kept = λ k h. refl;
  each = λ k n l h g a. let within = slice_get_within before k n g in absurd (omega arith);
  entered = at;
}

pub node_more : {before after : List Node} (lefts : Lefts) {n : Node} {position : ℕ} (left : List f.Statement) → length lefts ≡ length before →
    IsPushed before after n position → ((all : Lefts) → LeftsGrow lefts all → DoesNode all n left) → Extends before after lefts position left
node_more {before = before} {after = after} lefts {n = n} {position = position} left size p does =
    let all : Lefts = lefts ++ left ∷ [] in
    let grown : LeftsGrow lefts all = λ k l h. get_prefix lefts (left ∷ []) k l h in
    record {
      all = all;
      grown = grown;
      count = length-append lefts (left ∷ []) ∙ (ap (λ m. m + 1) size ∙ sym (ap length p.nodes ∙ length-append before (n ∷ [])));
      longer = omega (arith, ap length p.nodes, length-append before (n ∷ []));
      kept = λ k h. ap (λ ns. slice_get ns k) p.nodes ∙ get_same before (n ∷ []) k h;
      each = λ k m l h g a.
          let e = get_only before n m k h (sym (ap (λ ns. slice_get ns k) p.nodes) ∙ g) in
          let e' = get_only lefts left l k (omega (arith, size)) a in
          let P : Node → Type 0 = λ x. DoesNode all x l in
          let Q : List f.Statement → Type 0 = λ x. DoesNode all n x in
          subst P e.1 (subst Q e'.1 (does all grown));
      entered = subst (λ (k : ℕ). At all k left) (size ∙ sym p.at) (get_end lefts left);
    }

pub both : {before mid after : List Node} {lefts : Lefts} {one two : ℕ} {l m : List f.Statement} (x : Extends before mid lefts one l) →
    Extends mid after x.all two m → Extends before after lefts two m
both {mid = mid} x y = record {
  all = y.all;
  grown = λ k there h. y.grown k there (x.grown k there h);
  count = y.count;
  longer = omega (arith, x.longer, y.longer);
  kept = λ k h. y.kept k (omega (arith, x.longer)) ∙ x.kept k h;
  each = λ k n there h g a. ⊎_elim
      (λ low.
      let there' = slice_get-get_or x.all k [] (omega (arith, x.count)) in
      let same = once y.all k _ there (y.grown k _ there') a in
      let earlier = subst (λ (l : List f.Statement). At x.all k l) same there' in
      does_still x.all y.all y.grown n there (x.each k n there h (sym (y.kept k low) ∙ g) earlier))
      (λ high. y.each k n there high g a)
      (cases_lt k (length mid));
  entered = y.entered;
}

-- ---- What is emitted

pub emits_none : (before : List Node) (next : ℕ) → Emits before before [] next next
emits_none before next = record { each = λ lefts rest size at. nothing_more before lefts next rest size at }

pub emits_node : {before after : List Node} {n : Node} {position : ℕ} (does : List f.Statement) (next : ℕ) → IsPushed before after n position →
    ((all : Lefts) (rest : List f.Statement) → At all next rest → DoesNode all n (does ++ rest)) → Emits before after does next position
emits_node does next p d = record { each = λ lefts rest size at. node_more lefts (does ++ rest) size p (λ all g. d all rest (g next rest at)) }

pub emits_then : {before mid after : List Node} {later first : List f.Statement} {next one two : ℕ} → Emits before mid later next one →
    Emits mid after first one two → Emits before after (first ++ later) next two
emits_then {before = before} {after = after} {later = later} {first = first} {two = two} e k = record {
  each = λ lefts rest size at.
      let x = e.each lefts rest size at in
      let y = k.each x.all (later ++ rest) x.count x.entered in
      let P : List f.Statement → Type 0 = λ l. Extends before after lefts two l in
      subst P (sym (append_assoc first later rest)) (both x y);
}

pub emits_longer : {before after : List Node} {does : List f.Statement} {next entry : ℕ} → Emits before after does next entry → next < length before →
    length before ≤ length after
emits_longer {before = before} {next = next} e h =
    let empty : List f.Statement = [] in
    let lefts : Lefts = replicate (length before) empty in
    let size = length-replicate (length before) empty in
    (e.each lefts _ size (slice_get-get_or lefts next empty (omega (arith, size)))).longer

-- ---- Of an `if`

pub emits_never : {before after : List Node} (place : Place) (otherwise : f.Statements) (next : ℕ) {position : ℕ} →
    IsPushed before after node.Never position → Emits before after (f.If place f.no_arm otherwise ∷ []) next position
emits_never place otherwise next p = emits_node (f.If place f.no_arm otherwise ∷ []) next p
    (λ all rest at. record { place = place; otherwise = otherwise; rest = rest; is = refl })

pub emits_test : {before mid after : List Node} (condition : Bor code.Placed) (body : f.Statements) {holds fails next entry : ℕ} →
    Emits before mid (opened_all body) next holds → IsPushed mid after (node.Test condition holds fails) entry →
    EmitsTest before after (record { condition = placed_of condition.now; body = body }) fails next entry
emits_test condition body {holds = holds} {fails = fails} e p = record {
  each = λ lefts place arms otherwise rest size at failing.
      let x = e.each lefts rest size at in
      both x (node_more x.all (f.If place (f.arm_and (placed_of condition.now) body arms) otherwise ∷ rest) x.count p
      (λ all g. chooses place body arms otherwise rest (g holds _ x.entered) (g fails _ (x.grown fails _ failing)) refl));
}

pub no_arms : (before : List Node) (last next : ℕ) → EmitsArms before before f.no_arm last next last
no_arms before last next = record {
  each = λ lefts place otherwise rest size at there. nothing_more before lefts last
      (opened_all otherwise ++ rest) size there;
}

pub emits_arm : {before mid after : List Node} (condition : Placed) (body : f.Statements) {arms : f.Arms} {last fails next entry : ℕ} →
    EmitsArms before mid arms last next fails → EmitsTest mid after (record { condition = condition; body = body }) fails next entry →
    EmitsArms before after (f.arm_and condition body arms) last next entry
emits_arm condition body {arms = arms} {next = next} e k = record {
  each = λ lefts place otherwise rest size at there.
      let x = e.each lefts place otherwise rest size at there in
      both x (k.each x.all place arms otherwise rest x.count (x.grown next rest at) x.entered);
}

emits_after : {before mid after : List Node} (place : Place) (arms : f.Arms) (otherwise : f.Statements) {last next entry : ℕ} →
    Emits before mid (opened_all otherwise) next last → EmitsArms mid after arms last next entry →
    Emits before after (else_part place arms otherwise) next entry
emits_after place arms otherwise {next = next} e k = record {
  each = λ lefts rest size at.
      let x = e.each lefts rest size at in
      both x (k.each x.all place otherwise rest x.count (x.grown next rest at) x.entered);
}

pub emits_if : {before mid after : List Node} (place : Place) (arms : List arm.Arm) (otherwise : f.Statements) {last next entry : ℕ} → 0 < length arms →
    Emits before mid (opened_all otherwise) next last → EmitsArms mid after (f.arms_list_of arms) last next entry →
    Emits before after (f.If place (f.arms_list_of arms) otherwise ∷ []) next entry
emits_if place [] otherwise h e k = absurd (omega arith)
emits_if place (x ∷ xs) otherwise h e k = emits_after place (f.arms_list_of (x ∷ xs)) otherwise e k

pub emits_if_none : {before after : List Node} (place : Place) (arms : List arm.Arm) (otherwise : f.Statements) (next : ℕ) {position : ℕ} →
    length arms ≡ 0 → IsPushed before after node.Never position → Emits before after (f.If place (f.arms_list_of arms) otherwise ∷ []) next position
emits_if_none place [] otherwise next h p = emits_never place otherwise next p
emits_if_none place (x ∷ xs) otherwise next h p = absurd (omega arith)

-- ---- Of a loop

-- a node is kept for the test, then the body is emitted, which leads to that node, and then the test is put there
pub record LoopCode (before final : List Node) (condition : Bor code.Placed) (body : f.Statements) (next test begin : ℕ) : Type 0 where
  pub mid : List Node
  pub after : List Node
  pub pushed : IsPushed before mid node.Never test
  pub emits : Emits mid after (opened_all body) test begin
  pub is : final ≡ slice_set after test (node.Test condition begin next)

module _ {before final : List Node} {condition : Bor code.Placed} {body : f.Statements} {next test begin : ℕ}
    (loop : LoopCode before final condition body next test begin)
    (lefts : Lefts) (place : Place) (rest : List f.Statement) (size : length lefts ≡ length before) (at : At lefts next rest) where
  open loop use {mid, after, pushed as p, emits as e, is}

  abbrev again : List f.Statement
  again = f.While place (placed_of condition.now) body ∷ rest

  abbrev more : Lefts
  more = lefts ++ again ∷ []

  at_test : At more test again
  at_test = subst (λ (k : ℕ). At more k again) (size ∙ sym p.at) (get_end lefts again)

  sized : length more ≡ length mid
  sized = length-append lefts (again ∷ []) ∙ (ap (λ m. m + 1) size ∙ sym (ap length p.nodes ∙ length-append before (node.Never ∷ [])))

  body_of : Extends mid after more begin (opened_all body ++ again)
  body_of = e.each more again sized at_test

  -- the test in place of the node that was kept for it
  patched : (entry : ℕ) (left : List f.Statement) → At body_of.all entry left → Extends before final lefts entry left
  patched entry left there =
      let n = node.Test condition begin next in
      let y = body_of in
      let long : length mid ≡ length before + 1 = ap length p.nodes ∙ length-append before (node.Never ∷ []) in
      let same_length : length final ≡ length after = ap length is ∙ length-set after test n in
      let here : At y.all test again = y.grown test again at_test in
      let does : DoesNode y.all n again = repeats place body rest y.entered (y.grown next rest (get_prefix lefts (again ∷ []) next rest at)) refl in
      record {
        all = y.all;
        grown = λ k m h. y.grown k m (get_prefix lefts (again ∷ []) k m h);
        count = y.count ∙ sym same_length;
        longer = omega (arith, y.longer, long, same_length);
        kept = λ k h.
            ap (λ ns. slice_get ns k) is ∙ (set_other after test k n (omega (arith, p.at))
            ∙ (y.kept k (omega (arith, long)) ∙ (ap (λ ns. slice_get ns k) p.nodes ∙ get_same before (node.Never ∷ []) k h)));
        each = λ k m o h g a. ⊎_elim
            (λ same.
            let found = set_same after test n (omega (arith, y.longer, long, p.at)) in
            let at_position : slice_get (slice_set after test n) test ≡ Some m = ap (slice_get (slice_set after test n)) (sym same)
            ∙ (sym (ap (λ ns. slice_get ns k) is) ∙ g) in
            let is_node : n ≡ m = cc in
            let is_left : again ≡ o = once y.all test again o here (ap (slice_get y.all) (sym same) ∙ a) in
            let P : Node → Type 0 = λ x. DoesNode y.all x o in
            let Q : List f.Statement → Type 0 = λ x. DoesNode y.all n x in
            subst P is_node (subst Q is_left does))
            (λ other. y.each k m o (omega (arith, long, p.at, other)) (sym (ap (λ ns. slice_get ns k) is ∙ set_other after test k n other) ∙ g) a)
            (cases_eq k test);
        entered = there;
      }

  pub from_test : Extends before final lefts test again
  from_test = patched test again (body_of.grown test again at_test)

  pub from_body : Extends before final lefts begin (opened_all body ++ again)
  from_body = patched begin (opened_all body ++ again) body_of.entered

pub emits_loop : {before final : List Node} (condition : Bor code.Placed) (body : f.Statements) (next test begin : ℕ) →
    LoopCode before final condition body next test begin → EmitsLoop before final (placed_of condition.now) body next (record { test = test; body = begin })
emits_loop {before = before} {final = final} condition body next test begin loop = record {
  tests = λ place. record { each = λ lefts rest size at. from_test loop lefts place rest size at };
  begins = λ place. record {
    each = λ lefts rest size at.
        let P : List f.Statement → Type 0 = λ l. Extends before final lefts begin l in
        subst P (sym (append_assoc (opened_all body) (f.While place (placed_of condition.now) body ∷ []) rest))
        (from_body loop lefts place rest size at);
  };
}

-- ---- What was emitted, under `Ok`

pub ok_node : {Y : Type 0} (r : Result ℕ Y) (before after : List Node) (n : Node) (does : List f.Statement) (next : ℕ) →
    IfOk r (λ position. IsPushed before after n position) →
    ((all : Lefts) (rest : List f.Statement) → At all next rest → DoesNode all n (does ++ rest)) → IfOk r (λ entry. Emits before after does next entry)
ok_node r before after n does next h d = IfOk-weaker r (λ position. IsPushed before after n position) (λ entry. Emits before after does next entry)
    (λ position p. emits_node does next p d) h

pub ok_never : {Y : Type 0} (r : Result ℕ Y) (before after : List Node) (place : Place) (arms : List arm.Arm) (otherwise : f.Statements) (next : ℕ) →
    length arms ≡ 0 → IfOk r (λ position. IsPushed before after node.Never position) →
    IfOk r (λ entry. Emits before after (f.If place (f.arms_list_of arms) otherwise ∷ []) next entry)
ok_never r before after place arms otherwise next e h = IfOk-weaker r (λ position. IsPushed before after node.Never position)
    (λ entry. Emits before after (f.If place (f.arms_list_of arms) otherwise ∷ []) next entry)
    (λ position p. emits_if_none place arms otherwise next e p) h

pub ok_if : {Y : Type 0} (r : Result ℕ Y) (before mid after : List Node) (place : Place) (arms : List arm.Arm) (otherwise : f.Statements) (last next : ℕ) →
    0 < length arms → Emits before mid (opened_all otherwise) next last →
    IfOk r (λ entry. EmitsArms mid after (f.arms_list_of arms) last next entry) →
    IfOk r (λ entry. Emits before after (f.If place (f.arms_list_of arms) otherwise ∷ []) next entry)
ok_if r before mid after place arms otherwise last next some e h =
    IfOk-weaker r (λ entry. EmitsArms mid after (f.arms_list_of arms) last next entry)
    (λ entry. Emits before after (f.If place (f.arms_list_of arms) otherwise ∷ []) next entry)
    (λ entry k. emits_if place arms otherwise some e k) h

pub ok_test : {Y : Type 0} (r : Result ℕ Y) (before mid after : List Node) (condition : Bor code.Placed) (body : f.Statements) (holds fails next : ℕ) →
    Emits before mid (opened_all body) next holds → IfOk r (λ position. IsPushed mid after (node.Test condition holds fails) position) →
    IfOk r (λ entry. EmitsTest before after (record { condition = placed_of condition.now; body = body }) fails next entry)
ok_test r before mid after condition body holds fails next e h =
    IfOk-weaker r (λ position. IsPushed mid after (node.Test condition holds fails) position)
    (λ entry. EmitsTest before after (record { condition = placed_of condition.now; body = body }) fails next entry)
    (λ entry p. emits_test condition body e p) h

-- ---- From the end of a list

pub all_none : (before : List Node) (xs : List s.Statement) (next : ℕ) → Emits before before (opened_all (f.statements_of (drop (length xs) xs))) next next
all_none before xs next =
    let P : List s.Statement → Type 0 = λ ys. Emits before before (opened_all (f.statements_of ys)) next next in
    subst P (sym (drop_all (length xs) xs (omega arith))) (emits_none before next)

pub all_more : {before mid after : List Node} (xs : List s.Statement) (i : ℕ) (x : s.Statement) {next one two : ℕ} → 0 < i → i ≤ length xs →
    x ≡ get_or xs (i - 1) x → Emits before mid (opened_all (f.statements_of (drop i xs))) next one →
    Emits mid after (opened (f.statement_of x)) one two → Emits before after (opened_all (f.statements_of (drop (i - 1) xs))) next two
all_more {before = before} {after = after} xs i x {next = next} {two = two} some within is e k =
    let P : List s.Statement → Type 0 = λ ys. Emits before after (opened_all (f.statements_of ys)) next two in
    let cut : drop (i - 1) xs ≡ x ∷ drop i xs = drop_more xs (i - 1) x (omega arith)
    ∙ (ap (λ y. y ∷ drop (i - 1 + 1) xs) (sym is) ∙ ap (λ n. x ∷ drop n xs) (omega arith)) in
    subst P (sym cut) (emits_then e k)

pub arms_none : (before : List Node) (xs : List arm.Arm) (last next : ℕ) → EmitsArms before before (f.arms_list_of (drop (length xs) xs)) last next last
arms_none before xs last next =
    let P : List arm.Arm → Type 0 = λ ys. EmitsArms before before (f.arms_list_of ys) last next last in
    subst P (sym (drop_all (length xs) xs (omega arith))) (no_arms before last next)

pub arms_more : {before mid after : List Node} (xs : List arm.Arm) (i : ℕ) (x : arm.Arm) {last next one two : ℕ} → 0 < i → i ≤ length xs →
    x ≡ get_or xs (i - 1) x → EmitsArms before mid (f.arms_list_of (drop i xs)) last next one →
    EmitsTest mid after (record { condition = placed_of x.condition; body = f.statements_of x.body.items }) one next two →
    EmitsArms before after (f.arms_list_of (drop (i - 1) xs)) last next two
arms_more {before = before} {after = after} xs i x {last = last} {next = next} {two = two} some within is e k =
    let P : List arm.Arm → Type 0 = λ ys. EmitsArms before after (f.arms_list_of ys) last next two in
    let cut : drop (i - 1) xs ≡ x ∷ drop i xs = drop_more xs (i - 1) x (omega arith)
    ∙ (ap (λ y. y ∷ drop (i - 1 + 1) xs) (sym is) ∙ ap (λ n. x ∷ drop n xs) (omega arith)) in
    subst P (sym cut) (emits_arm (placed_of x.condition) (f.statements_of x.body.items) e k)

-- ---- A whole body

pub compiled : (before after : List Node) (body : f.Statements) (start : ℕ) → before ≡ node.End ∷ [] → Emits before after (opened_all body) 0 start →
    (lefts : Lefts) × IsCode after lefts × At lefts start (opened_all body)
compiled before after body start is e =
    let none : List f.Statement = [] in
    let ends : Lefts = none ∷ [] in
    let x = e.each ends [] (sym (ap length is)) refl in
    let Q : List f.Statement → Type 0 = λ l. At x.all start l in (
      x.all,
      record {
        count = x.count;
        each = λ k n l g a. ⊎_elim
            (λ low.
            let zeroth : k ≡ 0 = omega (arith, ap length is) in
            let there : slice_get after 0 ≡ Some node.End = x.kept 0 (omega (arith, ap length is)) ∙ ap (λ ns. slice_get ns 0) is in
            let there' : slice_get after 0 ≡ Some n = ap (slice_get after) (sym zeroth) ∙ g in
            let is_end : node.End ≡ n = cc in
            let nothing : none ≡ l = once x.all 0 none l (x.grown 0 none refl) (ap (slice_get x.all) (sym zeroth) ∙ a) in
            let P : Node → Type 0 = λ m. DoesNode x.all m l in
            subst P is_end (sym nothing))
            (λ high. x.each k n l high g a)
            (cases_lt k (length before));
      },
      subst Q (append-nil (opened_all body)) x.entered,
    )
