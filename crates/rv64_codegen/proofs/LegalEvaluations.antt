-- What a thread's node evaluates may be evaluated where the thread enters the node.
use Rattle.std.proofs.Common.{◌≡◌, ◌⊎◌, inl, inr, ℕ, zero, suc, ◌*◌, ◌^◌, ◌<◌, ◌≤◌, List, [], ◌∷◌, ◌++◌, length, map, get_or, refl, ap, arith, ◌∙◌}
use Rattle.std.proofs.Common.{Bool, true, Option, Some, None}
use Rattle.std.specs.Prelude.{slice_get}
use Rattle.std.proofs.lemmas.List.{get_or-map, get_or_push, get_or_append_left, length-append}
use Rattle.std.proofs.lemmas.Option.{slice_get_within}
use Rattle.log_schemes.specs.declared.log.Log.{Log}
use Rattle.ido_base.specs.declared.place.Place.{Place}
use Rattle.ido_base.specs.Layout.{variable_at}
use Rattle.ido_ints.specs.declared.kinds.Kind.{Kind}
use Rattle.ido_ints.specs.Kinds.{bytes_of}
use Rattle.c_tree.specs.Exprs as e
use Rattle.c_tree.specs.Programs as v
use Rattle.c_tree.specs.LockDiscipline.{numbers_below, expr_locals}
use Rattle.c_tree.specs.Ranges.{elements_of}
use Rattle.c_tree.specs.Values.{value, element_at}
use Rattle.c_tree.specs.WellFormed.{shape_of, elements_in, IsDeclared, IndexFits, IsFlatPlaced, IsFlatTarget}
use Rattle.c_ranges.specs.Laws.{AllHeld}
use Rattle.c_ranges.proofs.Public.{fits_element}
use Rattle.memory_layout.proofs.Public.{product_small}
use Rattle.code_runs.specs.ComputingRuns.{Environment}
use Rattle.boundary_code.specs.Boundaries.{IsOnSide}
use Rattle.operator_code.specs.ComputingCode.{AreRegisters}
use Rattle.expr_code.specs.EvaluationCode.{Suits, AreLoaded}
use Rattle.expr_code.proofs.Public.{IsNear, near_declared, bytes_small, all_held}
use Rattle.flow_graph.specs.Actions.{Seen}
use Rattle.flow_graph.specs.Lowering.{target_locals}
use Rattle.flow_graph.proofs.Public.{bounded}
use Rattle.thread_code.specs.Plans.{Plan, Thread, IsThread, IsPlan, homes}
use Rattle.thread_code.specs.RegistersAtNodes.{source_of, IsAnsweredIn}
use Rattle.rv64_codegen.specs.Evaluations.{MayEvaluate, MayReach}
use Rattle.rv64_codegen.specs.Locals.{HoldsEach}
use Rattle.rv64_codegen.proofs.ReadLocals.{reads_are_held}
use Rattle.rv64_codegen.proofs.LocalRegisters.{home_local}

-- ---- Numbers

length_numbers : (n : ℕ) → length (numbers_below n) ≡ n
length_numbers zero = refl
length_numbers (suc n) = let h : length (numbers_below n) ≡ n = length_numbers n in omega (arith, h, length-append (numbers_below n) (n ∷ []))

number_at : (n i : ℕ) → i < n → get_or (numbers_below n) i 0 ≡ i
number_at zero i l = absurd (omega (arith, l))
number_at (suc n) i l = by (below_or_last i n) (number_at n i)
  where
    below_or_last : (a b : ℕ) → (a < b) ⊎ (b ≤ a)
    below_or_last a b = grind arith

    by : (i < n) ⊎ (n ≤ i) → (i < n → get_or (numbers_below n) i 0 ≡ i) → get_or (numbers_below n ++ n ∷ []) i 0 ≡ i
    by (inl less) earlier =
        get_or_append_left (numbers_below n) (n ∷ []) 0 i (let h : length (numbers_below n) ≡ n = length_numbers n in omega (arith, h, less)) ∙
        earlier less
    by (inr more) earlier =
        let same : n ≡ i = omega (arith, l, more) in
        get_or_push (numbers_below n) n 0 i (length_numbers n ∙ same) ∙ same

pub registers_at : (log : Log) (side : ℕ) (x : List ℕ) → IsOnSide log side x → AreRegisters x
registers_at log side x a = record { count = a.count; zero_is = a.zero_is }

module _ (p : Plan) (t : Thread) (plan : IsPlan p) (of : IsThread p t) where
  abbrev vs : List v.Variable
  vs = p.flat.variables

  not_too_long : (variable : ℕ) → elements_of vs variable ≤ 4096
  not_too_long variable = by (slice_get vs variable) refl
    where
      long : (o : Option ℕ) → elements_in o ≤ 4096 → (elim o [
        | Some n ↦ n
        | None ↦ 0
      ]) ≤ 4096
      long None h = omega arith
      long (Some n) h = h

      by : (o : Option v.Variable) → slice_get vs variable ≡ o → (elim o [
        | Some it ↦ elim it.length [
          | Some n ↦ n
          | None ↦ 0
        ]
        | None ↦ 0
      ]) ≤ 4096
      by None found = omega arith
      by (Some it) found = long it.length (bounded p.flat plan.formed variable it found)

  pub suits : (seen : Seen) → Suits (homes p t) (source_of p t seen)
  suits seen = record {
    bytes = plan.formed.shared.bytes;
    lengths = not_too_long;
    address = λ variable below.
        let inside : variable < length (numbers_below (length vs)) = let h : length (numbers_below (length vs)) ≡ length vs = length_numbers (length vs) in
        omega (arith, h, below) in
        get_or-map (λ (k : ℕ). variable_at (map shape_of vs) k 0) (numbers_below (length vs)) variable 0 0 inside ∙
        ap (λ (k : ℕ). variable_at (map shape_of vs) k 0) (number_at (length vs) variable below);
    local = home_local p t plan of;
  }

  -- addresses of variables and of elements are small
  pub variable_below : (variable : ℕ) (k : Kind) (array : Bool) → IsDeclared vs variable k array → variable_at (map shape_of vs) variable 0 < 2 ^ 64
  variable_below variable k array d =
      let source = source_of p t (record { locals = []; pending = None; variables = [] }) in
      let near : IsNear source variable k = near_declared source variable k array plan.formed.shared.bytes d in
      let close = near.near in
      omega (arith, close)

  pub element_below : (seen : Seen) (variable : ℕ) (k : Kind) (place : Place) (index : e.Expr) → IsDeclared vs variable k true →
      IndexFits vs variable place index →
      AllHeld seen.locals seen.variables index →
      variable_at (map shape_of vs) variable (element_at (value seen.locals seen.variables index)) < 2 ^ 64
  element_below seen variable k place index d fits held =
      let source = source_of p t seen in
      let near : IsNear source variable k = near_declared source variable k true plan.formed.shared.bytes d in
      let close = near.near in
      let f = fits_element (elements_of vs variable) index fits seen.locals seen.variables held in
      let below = f.below in
      let short = not_too_long variable in
      let n = element_at (value seen.locals seen.variables index) in
      let small : bytes_of k * n < 2 ^ 36 = product_small (bytes_of k) n (bytes_small k) (omega (arith, below, short)) in
      let is = near.element n in
      omega (arith, close, small, is)

  module _ (seen : Seen) (around : Environment) (x : List ℕ) where
    pub may_evaluate : (t' : e.Placed) → IsFlatPlaced p.flat t.kinds t' → HoldsEach (homes p t) (source_of p t seen) around.loads x (expr_locals t'.expr) →
        AreLoaded (source_of p t seen) around.loads t'.expr → MayEvaluate (homes p t) (source_of p t seen) around x t'.expr
    may_evaluate t' formed held loaded = record {
      legal = record { suits = suits seen; formed = formed.0; fits = formed.1; loaded = loaded };
      locals = reads_are_held (homes p t) (source_of p t seen) around.loads x t'.expr formed.0 held;
    }

    pub may_reach : (target : e.Lvalue) → IsFlatTarget p.flat t.kinds target →
        HoldsEach (homes p t) (source_of p t seen) around.loads x (target_locals target) →
        IsAnsweredIn (source_of p t seen) around.loads target → MayReach (homes p t) (source_of p t seen) around x target
    may_reach (e.ToLocal place local kind) formed held loaded = tt
    may_reach (e.ToVariable place variable kind) formed held loaded = slice_get_within vs variable formed.0.it formed.0.found
    may_reach (e.ToElement place variable kind index) formed held loaded =
        (formed.0.0, formed.1.0, may_evaluate index (formed.0.1, formed.1.1) held loaded)

    pub reads_held : (t' : e.Placed) → IsFlatPlaced p.flat t.kinds t' → HoldsEach (homes p t) (source_of p t seen) around.loads x (expr_locals t'.expr) →
        AreLoaded (source_of p t seen) around.loads t'.expr → AllHeld seen.locals seen.variables t'.expr
    reads_held t' formed held loaded =
        all_held (homes p t) (source_of p t seen) around.loads x t'.expr
        (reads_are_held (homes p t) (source_of p t seen) around.loads x t'.expr formed.0 held) formed.0 loaded
