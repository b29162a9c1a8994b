-- What parameters hold once the arguments are passed.
use Rattle.std.proofs.Common.{◌≡◌, ℕ, zero, suc, ◌+◌, ◌<◌, ◌≤◌, List, [], ◌∷◌, ◌++◌, length, replicate, drop, Option}
use Rattle.std.proofs.Common.{Some, None, ℤ, pos, refl, sym, ap, ap₂, ◌∙◌, subst, arith, inl, inr, slice_set}
use Rattle.std.specs.Prelude.{slice_get, slice_index_or, if◌then◌else◌}
use Rattle.std.proofs.lemmas.Option.{slice_get_within}
use Rattle.ido_base.specs.declared.place.Place.{Place}
use Rattle.ido_ints.specs.declared.kinds.Kind.{Kind}
use Rattle.ido_ints.specs.declared.kinds.Kind.TheVariants.{Int}
use Rattle.ido_ints.specs.TypedNumbers.{Typed, typed, converted}
use Rattle.ido_ints.specs.Operators.{is_zero, unary_of, binary_of}
use Rattle.ido_ints.specs.Reduction.{reduced}
use Rattle.c_tree.specs.Exprs as e
use Rattle.c_tree.specs.Flats as f
use Rattle.c_tree.specs.Inlining as i
use Rattle.c_tree.specs.Source as m
use Rattle.c_tree.specs.Source.{source_step}
use Rattle.c_tree.specs.Values.{value, reference_to, referent, element_number, element_at}
use Rattle.c_inline.specs.CallLaws.{read, ExprReads, ListUses, AreAllBelow, local_of}
use Rattle.c_inline.proofs.WeightUpdates.{get_set_same}
use Rattle.c_inline.proofs.InlinedStatements.{passed_more}
use Rattle.c_inline.proofs.CallRuns.{step_is, after_by, index_other, local_by}

-- a value depends on the locals that are read
value_same : (x : e.Expr) (ls js : List ℤ) (vs : List (List ℤ)) → ((l : ℕ) → ExprReads x l → slice_index_or js l (pos 0) ≡ slice_index_or ls l (pos 0)) →
    value js vs x ≡ value ls vs x
value_same (e.Constant v) ls js vs h = refl
value_same (e.Local local kind) ls js vs h = ap (typed kind) (h local refl)
value_same (e.Variable place variable kind) ls js vs h = refl
value_same (e.Element place variable kind index_place index) ls js vs h = ap (λ (z : Typed). typed kind (element_number vs variable (element_at z)))
    (value_same index ls js vs h)
value_same (e.Address variable index_place index) ls js vs h = ap reference_to (value_same index ls js vs h)
value_same (e.Referent place last local) ls js vs h = ap referent (h local refl)
value_same (e.Unary operator operand) ls js vs h = ap (unary_of operator) (value_same operand ls js vs h)
value_same (e.Cast kind operand) ls js vs h = ap (λ (z : Typed). converted z kind) (value_same operand ls js vs h)
value_same (e.Converted kind operand) ls js vs h = ap (λ (z : Typed). converted z kind) (value_same operand ls js vs h)
value_same (e.Binary operator left right) ls js vs h =
    ap₂ (binary_of operator) (value_same left ls js vs (λ l k. h l (inl k))) (value_same right ls js vs (λ l k. h l (inr k)))
value_same (e.Conditional kind condition chosen otherwise) ls js vs h =
    let a = value_same condition ls js vs (λ l k. h l (inl k)) in
    let b = value_same chosen ls js vs (λ l k. h l (inr (inl k))) in
    let c = value_same otherwise ls js vs (λ l k. h l (inr (inr k))) in
    ap (λ (z : Typed). converted (if is_zero z.number then value js vs otherwise else value js vs chosen) kind) a
    ∙ ap₂ (λ (y z : Typed). converted (if is_zero (value ls vs condition).number then y else z) kind) c b

index_same : (xs : List ℤ) (k : ℕ) (y d : ℤ) → k < length xs → slice_index_or (slice_set xs k y) k d ≡ y
index_same [] k y d h = absurd (omega arith)
index_same (x ∷ xs) zero y d h = refl
index_same (x ∷ xs) (suc k) y d h = index_same xs k y d (omega arith)

length_same : (xs : List ℤ) (k : ℕ) (y : ℤ) → length (slice_set xs k y) ≡ length xs
length_same [] k y = refl
length_same (x ∷ xs) zero y = refl
length_same (x ∷ xs) (suc k) y = ap suc (length_same xs k y)

in_list : (ys : List e.Placed) (k : ℕ) (z : e.Placed) → slice_get ys k ≡ Some z → (l : ℕ) → ExprReads z.expr l → ListUses read ys l
in_list [] k z is l reads = cc
in_list (y ∷ ys) zero z is l reads = let same : z ≡ y = cc in inl (subst (λ (w : e.Placed). ExprReads w.expr l) same reads)
in_list (y ∷ ys) (suc k) z is l reads = inr (in_list ys k z is l reads)

-- the thread once an argument is passed to a local
abbrev passed_one : m.State → m.Thread → (local : ℕ) → Kind → e.Placed → List f.Statement → m.Thread
passed_one s thread local kind x more = record thread { left = more; locals = slice_set thread.locals local (reduced kind (m.value_in s thread x.expr).number) }

abbrev pending_step : m.State → ℕ → m.Thread → Option m.Pending → Option m.State
pending_step s t thread o = elim o [
  | Some p ↦ Some (m.with_thread (m.stored s p) t (record thread { pending = None }))
  | None ↦ m.left_step s t thread thread.left
]

one_step : (s : m.State) (t : ℕ) (thread : m.Thread) (place : Place) (local : ℕ) (kind : Kind) (x : e.Placed) (more : List f.Statement) →
    slice_get s.threads t ≡ Some thread → thread.pending ≡ None → thread.left ≡ f.Assign place (e.ToLocal place local kind) x ∷ more →
    source_step s t ≡ Some (m.with_thread s t (passed_one s thread local kind x more))
one_step s t thread place local kind x more found free is =
    step_is s t (Some thread) found ∙ ap (pending_step s t thread) free ∙ ap (m.left_step s t thread) is

module _ (place : Place) (ks : List Kind) (t : ℕ) (rest : List f.Statement) where
  -- of the thread after the passing: locals that were there before are kept, and the others hold arguments
  record Passed (s : m.State) (thread : m.Thread) (n j : ℕ) (xs : List e.Placed) : Type 0 where
    final : m.Thread
    found : slice_get (m.after_from s (replicate (length xs) t)).threads t ≡ Some final
    kept : (l : ℕ) → l < n → slice_index_or final.locals l (pos 0) ≡ slice_index_or thread.locals l (pos 0)
    given : (k : ℕ) (x : e.Placed) → slice_get xs k ≡ Some x → slice_index_or final.locals (n + k) (pos 0) ≡ reduced (slice_index_or ks (j + k) Int)
        (value thread.locals s.variables x.expr).number

  passes : (xs : List e.Placed) (n j : ℕ) (s : m.State) (thread : m.Thread) → slice_get s.threads t ≡ Some thread → thread.pending ≡ None →
      thread.left ≡ m.opened_all (i.passed place n (drop j ks) xs) ++ rest → AreAllBelow n xs → n + length xs ≤ length thread.locals → Passed s thread n j xs
  passes [] n j s thread found free is below long = record { final = thread; found = found; kept = λ l h. refl; given = λ k x h. cc }
  passes (x ∷ xs) n j s thread found free is below long =
      let kind = slice_index_or ks j Int in
      let more = m.opened_all (i.passed place (n + 1) (drop (suc j) ks) xs) ++ rest in
      let next = passed_one s thread n kind x more in
      let after = m.with_thread s t next in
      let stepped = one_step s t thread place n kind x more found free
      (is ∙ ap (λ (zs : f.Statements). m.opened_all zs ++ rest) (passed_more place n j ks x xs)) in
      let v = reduced kind (m.value_in s thread x.expr).number in
      let sized = length_same thread.locals n v in
      let r = passes xs (n + 1) (suc j) after next (get_set_same s.threads t next (slice_get_within s.threads t thread found)) free refl
      (λ l k. let b = below l (inr k) in omega (arith, b)) (omega (arith, long, sized)) in
      record {
        final = r.final;
        found = ap (λ (z : m.State). slice_get z.threads t) (ap (after_by (replicate (length xs) t) s) stepped) ∙ r.found;
        kept = λ l h. r.kept l (omega (arith, h)) ∙ index_other thread.locals n l v (pos 0) (λ same. omega (arith, h, same));
        given = given_of r v (omega (arith, long)) (λ l k. below l (inr k)) (r.kept n (omega arith));
      }
    where
      given_of : (r : Passed
          (m.with_thread s t (passed_one s thread n (slice_index_or ks j Int) x (m.opened_all (i.passed place (n + 1) (drop (suc j) ks) xs) ++ rest)))
          (passed_one s thread n (slice_index_or ks j Int) x (m.opened_all (i.passed place (n + 1) (drop (suc j) ks) xs) ++ rest)) (n + 1) (suc j) xs) →
          (v : ℤ) → n < length thread.locals → AreAllBelow n xs → slice_index_or r.final.locals n (pos 0) ≡ slice_index_or
          (slice_set thread.locals n (reduced (slice_index_or ks j Int) (m.value_in s thread x.expr).number)) n (pos 0) →
          (k : ℕ) (y : e.Placed) → slice_get (x ∷ xs) k ≡ Some y → slice_index_or r.final.locals (n + k) (pos 0) ≡ reduced
          (slice_index_or ks (j + k) Int) (value thread.locals s.variables y.expr).number
      given_of r v fits below kept zero y is =
          let same : x ≡ y = cc in
          let a : n + 0 ≡ n = omega arith in
          let b : j + 0 ≡ j = omega arith in
          ap (λ l. slice_index_or r.final.locals l (pos 0)) a ∙ kept ∙ index_same thread.locals n _ (pos 0) fits
          ∙ ap₂ (λ (l : ℕ) (z : e.Placed). reduced (slice_index_or ks l Int) (value thread.locals s.variables z.expr).number) (sym b) same
      given_of r v fits below kept (suc k) y is =
          let a : n + suc k ≡ n + 1 + k = omega arith in
          let b : suc j + k ≡ j + suc k = omega arith in
          let first = reduced (slice_index_or ks j Int) (m.value_in s thread x.expr).number in
          ap (λ l. slice_index_or r.final.locals l (pos 0)) a ∙ r.given k y is
          ∙ ap₂ (λ (l : ℕ) (z : Typed). reduced (slice_index_or ks l Int) z.number) b
          (value_same y.expr thread.locals (slice_set thread.locals n first) s.variables
          (λ l reads. index_other thread.locals n l first (pos 0) (λ same. let low = below l (in_list xs k y is l reads) in omega (arith, low, same))))

pub parameters_hold : (place : Place) (by : ℕ) (ks : List Kind) (xs : List e.Placed) (s : m.State) (t : ℕ) (thread : m.Thread) (rest : List f.Statement) →
    slice_get s.threads t ≡ Some thread → thread.pending ≡ None → thread.left ≡ m.opened_all (i.passed place by ks xs) ++ rest →
    AreAllBelow by xs → by + length xs ≤ length thread.locals →
    (parameter : ℕ) (x : e.Placed) → slice_get xs parameter ≡ Some x →
    local_of (m.after_from s (replicate (length xs) t)) t (by + parameter) ≡ reduced (slice_index_or ks parameter Int) (m.value_in s thread x.expr).number
parameters_hold place by ks xs s t thread rest found free is below long parameter x at =
    let r = passes place ks t rest xs by 0 s thread found free is below long in
    let same : 0 + parameter ≡ parameter = omega arith in
    ap (local_by (by + parameter)) r.found ∙ r.given parameter x at ∙ ap (λ (l : ℕ). reduced (slice_index_or ks l Int) (m.value_in s thread x.expr).number) same
