-- A node of a thread stands before the step of its text that has the node's number among the thread's own.
use Rattle.std.proofs.Common.{◌≡◌, ℕ, zero, suc, ◌+◌, ◌-◌, ◌<◌, ◌≤◌, List, [], ◌∷◌, ◌++◌, map, length, refl, ap, ap₂, arith, sym, ◌∙◌, subst, Option, Some}
use Rattle.std.specs.Prelude.{slice_get}
use Rattle.std.specs.Option.{option_map}
use Rattle.std.proofs.lemmas.Option.{none-some, same_Some, slice_get-map}
use Rattle.std.proofs.lemmas.List.{length-append}
use mathlib.Core.List.{map-append}
use Rattle.ido_base.specs.declared.place.Place.{Place}
use Rattle.c_tree.specs.Exprs as e
use Rattle.c_tree.specs.Flats as f
use Rattle.c_tree.specs.Source.{opened_all}
use Rattle.source_machine.proofs.Public.{get_same}
use Rattle.lock_discipline.specs.StepContinuations.{assign_lefts, lefts_in, lefts_in_all, lefts_in_arms, thread_lefts}
use Rattle.flow_graph.specs.declared.graph.Part.{Part}
use Rattle.flow_graph.specs.Lowering.{assign_count, count, statements_count, arms_count, thread_count, part, parts}
use Rattle.flow_graph.specs.Lockstep.{Standing, free, assign_standings, standings, all_standings, arms_standings, thread_standings, threads_standings}

-- ---- What is left before each step

abbrev left_of : Standing → List f.Statement
left_of s = s.left

assign_left : (place : Place) (target : e.Lvalue) (value : e.Placed) (rest : List f.Statement) →
    map left_of (assign_standings place target value rest) ≡ assign_lefts place target value rest
assign_left place (e.ToLocal name local kind) value rest = refl
assign_left place (e.ToVariable name variable kind) value rest = refl
assign_left place (e.ToElement name variable kind index) value rest = refl

mutual
  left_in : (x : f.Statement) (rest : List f.Statement) → map left_of (standings x rest) ≡ lefts_in x rest
  left_in (f.Assign place target value) rest = assign_left place target value rest
  left_in (f.If place arms otherwise) rest =
      map-append left_of (arms_standings arms place otherwise rest) (all_standings otherwise rest)
      ∙ ap₂ ◌++◌ (left_in_arms arms place otherwise rest) (left_in_all otherwise rest)
  left_in (f.While place condition body) rest =
      ap (λ (ls : List (List f.Statement)). (f.While place condition body ∷ rest) ∷ ls) (left_in_all body (f.While place condition body ∷ rest))
  left_in (f.Do place body condition) rest =
      map-append left_of (all_standings body (f.While place condition body ∷ rest)) (free (f.While place condition body ∷ rest) ∷ [])
      ∙ ap (λ (ls : List (List f.Statement)). ls ++ (f.While place condition body ∷ rest) ∷ []) (left_in_all body (f.While place condition body ∷ rest))
  left_in (f.Lock place name) rest = refl
  left_in (f.Unlock place name) rest = refl

  left_in_all : (xs : f.Statements) (rest : List f.Statement) → map left_of (all_standings xs rest) ≡ lefts_in_all xs rest
  left_in_all f.no_statement rest = refl
  left_in_all (f.statement_and x more) rest =
      map-append left_of (standings x (opened_all more ++ rest)) (all_standings more rest)
      ∙ ap₂ ◌++◌ (left_in x (opened_all more ++ rest)) (left_in_all more rest)

  left_in_arms : (xs : f.Arms) (place : Place) (otherwise : f.Statements) (rest : List f.Statement) →
      map left_of (arms_standings xs place otherwise rest) ≡ lefts_in_arms place otherwise xs rest
  left_in_arms f.no_arm place otherwise rest = refl
  left_in_arms (f.arm_and condition body more) place otherwise rest =
      ap (λ (ls : List (List f.Statement)). (f.If place (f.arm_and condition body more) otherwise ∷ rest) ∷ ls)
      (map-append left_of (all_standings body rest) (arms_standings more place otherwise rest)
      ∙ ap₂ ◌++◌ (left_in_all body rest) (left_in_arms more place otherwise rest))

left_in_thread : (t : f.Thread) → map left_of (thread_standings t) ≡ thread_lefts t
left_in_thread t =
    map-append left_of (all_standings t.body []) (free [] ∷ [])
    ∙ ap (λ (ls : List (List f.Statement)). ls ++ [] ∷ []) (left_in_all t.body [])

pub left_at : (t : f.Thread) (step : ℕ) (s : Standing) → slice_get (thread_standings t) step ≡ Some s → slice_get (thread_lefts t) step ≡ Some s.left
left_at t step s h =
    ap (λ (ls : List (List f.Statement)). slice_get ls step) (sym (left_in_thread t))
    ∙ (slice_get-map left_of (thread_standings t) step ∙ ap (λ (o : Option Standing). option_map left_of o) h)

-- ---- How many there are

count_assign : (target : e.Lvalue) (place : Place) (value : e.Placed) (rest : List f.Statement) →
    length (assign_standings place target value rest) ≡ assign_count target
count_assign (e.ToLocal name local kind) place value rest = refl
count_assign (e.ToVariable name variable kind) place value rest = refl
count_assign (e.ToElement name variable kind index) place value rest = refl

mutual
  count_in : (x : f.Statement) (rest : List f.Statement) → length (standings x rest) ≡ count x
  count_in (f.Assign place target value) rest = count_assign target place value rest
  count_in (f.If place arms otherwise) rest =
      length-append (arms_standings arms place otherwise rest) (all_standings otherwise rest)
      ∙ ap₂ ◌+◌ (count_in_arms arms place otherwise rest) (count_in_all otherwise rest)
  count_in (f.While place condition body) rest = ap suc (count_in_all body (f.While place condition body ∷ rest))
  count_in (f.Do place body condition) rest =
      let more = count_in_all body (f.While place condition body ∷ rest) in
      let both = length-append (all_standings body (f.While place condition body ∷ rest)) (free (f.While place condition body ∷ rest) ∷ []) in
      omega (arith, more, both)
  count_in (f.Lock place name) rest = refl
  count_in (f.Unlock place name) rest = refl

  count_in_all : (xs : f.Statements) (rest : List f.Statement) → length (all_standings xs rest) ≡ statements_count xs
  count_in_all f.no_statement rest = refl
  count_in_all (f.statement_and x more) rest =
      length-append (standings x (opened_all more ++ rest)) (all_standings more rest)
      ∙ ap₂ ◌+◌ (count_in x (opened_all more ++ rest)) (count_in_all more rest)

  count_in_arms : (xs : f.Arms) (place : Place) (otherwise : f.Statements) (rest : List f.Statement) →
      length (arms_standings xs place otherwise rest) ≡ arms_count xs
  count_in_arms f.no_arm place otherwise rest = refl
  count_in_arms (f.arm_and condition body more) place otherwise rest =
      ap suc (length-append (all_standings body rest) (arms_standings more place otherwise rest)
      ∙ ap₂ ◌+◌ (count_in_all body rest) (count_in_arms more place otherwise rest))

count_in_thread : (t : f.Thread) → length (thread_standings t) ≡ thread_count t
count_in_thread t = omega (arith, length-append (all_standings t.body []) (free [] ∷ []), count_in_all t.body [])

-- ---- The nodes of one thread

get_after : {X : Type 0} (xs ys : List X) (n k : ℕ) → n ≡ length xs + k → slice_get (xs ++ ys) n ≡ slice_get ys k
get_after [] ys n k h = let e : n ≡ k = omega (arith, h) in ap (slice_get ys) e
get_after (x ∷ xs) ys zero k h = absurd (let z : ⊥ = omega (arith, h) in z)
get_after (x ∷ xs) ys (suc n) k h = get_after xs ys n k (omega (arith, h))

from_first : (ts : List f.Thread) (first k : ℕ) (p : Part) → slice_get (parts ts first) k ≡ Some p → first ≤ p.first
from_first [] first k p h = absurd (none-some p h)
from_first (t ∷ ts) first zero p h = let same : part t first ≡ p = same_Some (part t first) p h in subst (λ (q : Part). first ≤ q.first) same (omega arith)
from_first (t ∷ ts) first (suc k) p h = omega (arith, from_first ts (first + thread_count t) k p h)

own_standing : (ts : List f.Thread) (first k : ℕ) (p : Part) (t : f.Thread) (node : ℕ) → slice_get (parts ts first) k ≡ Some p →
    slice_get ts k ≡ Some t → p.first ≤ node → node < p.end →
    slice_get (threads_standings ts) (node - first) ≡ slice_get (thread_standings t) (node - p.first)
own_standing [] first k p t node g i low high = absurd (none-some t i)
own_standing (u ∷ us) first zero p t node g i low high =
    let part_is : part u first ≡ p = same_Some (part u first) p g in
    let thread_is : u ≡ t = same_Some u t i in
    let from : first ≤ node = subst (λ (q : Part). q.first ≤ node) (sym part_is) low in
    let below : node < first + thread_count u = subst (λ (q : Part). node < q.end) (sym part_is) high in
    get_same (thread_standings u) (threads_standings us) (node - first) (let n = count_in_thread u in omega (arith, n, from, below))
    ∙ (ap (λ (v : f.Thread). slice_get (thread_standings v) (node - first)) thread_is
    ∙ ap (λ (q : Part). slice_get (thread_standings t) (node - q.first)) part_is)
own_standing (u ∷ us) first (suc k) p t node g i low high =
    let from = from_first us (first + thread_count u) k p g in
    let n = count_in_thread u in
    get_after (thread_standings u) (threads_standings us) (node - first) (node - (first + thread_count u)) (omega (arith, n, from, low))
    ∙ own_standing us (first + thread_count u) k p t node g i low high

pub standing_at : (x : f.Flat) (k : ℕ) (p : Part) (t : f.Thread) (node : ℕ) → slice_get (parts x.threads 0) k ≡ Some p → slice_get x.threads k ≡ Some t →
    p.first ≤ node → node < p.end → slice_get (threads_standings x.threads) node ≡ slice_get (thread_standings t) (node - p.first)
standing_at x k p t node g i low high =
    let e : node ≡ node - 0 = omega arith in
    ap (slice_get (threads_standings x.threads)) e ∙ own_standing x.threads 0 k p t node g i low high
