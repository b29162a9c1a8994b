-- Codes of the numbers of held names, where the locals of their keys are in their homes.
use Rattle.std.proofs.Common.{◌≡◌, ℕ, suc, ◌+◌, ◌*◌, ◌^◌, ◌<◌, ◌≤◌, List, [], ◌∷◌, length, map, refl, ap, ap₂, sym, ◌∙◌, arith, subst, true, false}
use Rattle.std.proofs.Common.{Option, Some, None, if◌then◌else◌}
use Rattle.std.specs.Prelude.{pos, slice_get, ℤ}
use Rattle.std.specs.List.{AllByRecursion, AllZip}
use Rattle.std.proofs.lemmas.Option.{none-some, slice_get_within}
use Rattle.log_schemes.specs.Layout.{bank_bytes, log_of}
use Rattle.ido_ints.specs.declared.kinds.Kind.{Kind}
use Rattle.ido_ints.specs.Operators.{binary_of, is_zero, unary_of}
use Rattle.ido_ints.specs.TypedNumbers.{Typed, converted}
use Rattle.c_tree.specs.Exprs as e
use Rattle.c_tree.specs.LockDiscipline.{key_locals}
use Rattle.c_tree.specs.LockNames.{Held, held_names, holds}
use Rattle.c_tree.specs.Ranges.{mutexes_of}
use Rattle.c_tree.specs.References.{Follows}
use Rattle.c_tree.proofs.Public.{array_within}
use Rattle.c_tree.specs.Values.{element_at, lock_number, value}
use Rattle.c_tree.specs.WellFormed.{Fits, IsExpr, IsFlatLockName}
use Rattle.c_ranges.proofs.Public.{fits_element, key_expr, key_fits}
use Rattle.rv64_isa.specs.declared.instr.Instr.{Instr}
use Rattle.operator_code.specs.StraightLineCode.{IsConstant}
use Rattle.code_runs.specs.ComputingRuns.{Environment}
use Rattle.expr_code.specs.EvaluationCode.{AreLoaded, HoldsLocals, Homes, Source}
use Rattle.expr_code.proofs.Public.{absolute, all_held}
use Rattle.node_code.specs.Numbers.{LeavesNumber, LeaveNumbers}
use Rattle.node_code.proofs.Public.{constant_leaves}
use Rattle.flow_graph.specs.Actions.{Seen}
use Rattle.thread_code.specs.Plans.{Plan, IsPlan, Thread, IsThread, IsNodeOf, held_names_before, homes, locks_before, names_in, set_before}
use Rattle.thread_code.specs.RegistersAtNodes.{Enters, IsFrameAnswered, LogView, source_of}
use Rattle.rv64_codegen.specs.Locals.{HoldsEach}
use Rattle.rv64_codegen.specs.links.Numbers.{IsNumberBy, IsNumberCode}
use Rattle.rv64_codegen.proofs.AnsweredHomes.{answered_home}
use Rattle.rv64_codegen.proofs.KeyNumbers.{key_leaves}
use Rattle.rv64_codegen.proofs.LegalEvaluations.{suits}
use Rattle.rv64_codegen.proofs.ReadLocals.{reads_are_held}

-- ---- Keys read no variables

key_unloaded : (s : Source) (loads : ℕ → ℕ → Option ℕ) (ks : List Kind) (z : e.Expr) → IsExpr [] ks z → Follows [] [] z → AreLoaded s loads z
key_unloaded s loads ks (e.Constant x) h g = tt
key_unloaded s loads ks (e.Local local kind) h g = tt
key_unloaded s loads ks (e.Variable place variable kind) h g = absurd (none-some h.it h.found)
key_unloaded s loads ks (e.Element place variable kind index_place index) h g = absurd (none-some h.0.it h.0.found)
key_unloaded s loads ks (e.Address variable index_place index) h g = absurd (none-some h.0.it h.0.found)
key_unloaded s loads ks (e.Referent place last local) h g = absurd (none-some (Some g.variable) g.refers)
key_unloaded s loads ks (e.Unary operator x) h g = key_unloaded s loads ks x h g
key_unloaded s loads ks (e.Cast kind x) h g = key_unloaded s loads ks x h g
key_unloaded s loads ks (e.Converted kind x) h g = key_unloaded s loads ks x h g
key_unloaded s loads ks (e.Binary operator x y) h g = (key_unloaded s loads ks x h.0 g.0, key_unloaded s loads ks y h.1 g.1)
key_unloaded s loads ks (e.Conditional kind x y z) h g =
    (key_unloaded s loads ks x h.0 g.0, key_unloaded s loads ks y h.1 g.1, key_unloaded s loads ks z h.2 g.2)

key_value : (ls : List ℤ) (vs : List (List ℤ)) (ks : List Kind) (z : e.Expr) → IsExpr [] ks z → value ls vs z ≡ value ls [] z
key_value ls vs ks (e.Constant x) h = refl
key_value ls vs ks (e.Local local kind) h = refl
key_value ls vs ks (e.Variable place variable kind) h = absurd (none-some h.it h.found)
key_value ls vs ks (e.Element place variable kind index_place index) h = absurd (none-some h.0.it h.0.found)
key_value ls vs ks (e.Address variable index_place index) h = absurd (none-some h.0.it h.0.found)
key_value ls vs ks (e.Referent place last local) h = refl
key_value ls vs ks (e.Unary operator x) h = ap (unary_of operator) (key_value ls vs ks x h)
key_value ls vs ks (e.Cast kind x) h = ap (λ (y : Typed). converted y kind) (key_value ls vs ks x h)
key_value ls vs ks (e.Converted kind x) h = ap (λ (y : Typed). converted y kind) (key_value ls vs ks x h)
key_value ls vs ks (e.Binary operator x y) h = ap₂ (binary_of operator) (key_value ls vs ks x h.0) (key_value ls vs ks y h.1)
key_value ls vs ks (e.Conditional kind x y z) h =
    let pick : Typed → Typed → Typed → Typed = λ c a b. converted (if is_zero c.number then b else a) kind in
    ap (λ (c : Typed). pick c (value ls vs y) (value ls vs z)) (key_value ls vs ks x h.0)
    ∙ ap₂ (pick (value ls [] x)) (key_value ls vs ks y h.1) (key_value ls vs ks z h.2)

-- ---- Codes

module _ (p : Plan) (t : Thread) (plan : IsPlan p) (of : IsThread p t) (seen : Seen) (around : Environment) (x : List ℕ)
    (few : length p.flat.mutexes ≤ 1024) where
  abbrev h : Homes
  h = homes p t

  abbrev s : Source
  s = source_of p t seen

  -- what is known of the key of a name that is formed, where its locals are in their homes
  pub record KeyKnown (mutex : ℕ) (key : e.Placed) : Type 0 where
    pub expr : IsExpr s.variables s.kinds key.expr
    pub fits : Fits s.variables key.expr
    pub locals : HoldsLocals h s around.loads x key.expr
    pub unloaded : (loads : ℕ → ℕ → Option ℕ) → AreLoaded s loads key.expr
    pub element : ℕ
    pub number : (value s.locals s.numbers key.expr).number ≡ pos element
    pub small : element + mutex < 2048
    pub same : element + mutex ≡ lock_number seen.locals (record { mutex = mutex; key = Some key })

  pub key_known : (mutex : ℕ) (key : e.Placed) → IsFlatLockName p.flat.mutexes t.kinds (record { mutex = mutex; key = Some key }) →
      HoldsEach h s around.loads x (key_locals (record { mutex = mutex; key = Some key })) → KeyKnown mutex key
  key_known mutex key formed held =
      let expr = key_expr p.flat.variables t.kinds key.expr formed.reads in
      let locals : HoldsLocals h s around.loads x key.expr = reads_are_held h s around.loads x key.expr expr held in
      let unloaded : (loads : ℕ → ℕ → Option ℕ) → AreLoaded s loads key.expr =
      λ loads. key_unloaded s loads t.kinds key.expr formed.reads formed.follows in
      let values = all_held h s around.loads x key.expr locals expr (unloaded around.loads) in
      let named = fits_element (mutexes_of p.flat.mutexes mutex) key.expr formed.fits s.locals s.numbers values in
      let element : ℕ = element_at (value s.locals s.numbers key.expr) in
      record {
        expr = expr;
        fits = key_fits p.flat.variables t.kinds key.expr formed.reads;
        locals = locals;
        unloaded = unloaded;
        element = element;
        number = absolute (value s.locals s.numbers key.expr).number named.from_zero;
        small = omega (arith, named.below, array_within p.flat.mutexes mutex formed.array, few);
        same = omega (arith, ap element_at (key_value s.locals s.numbers t.kinds key.expr formed.reads));
      }

  module _ (reach : (bank : ℕ) → bank < 2 → log_of p.log t.number + bank_bytes p.log * bank < 2 ^ 32) (address : List Instr)
      (is_log : IsConstant 31 (log_of p.log t.number) address) where
    name_by : (mutex : ℕ) (key : Option e.Placed) (code : List Instr) → IsFlatLockName p.flat.mutexes t.kinds (record { mutex = mutex; key = key }) →
        HoldsEach h s around.loads x (key_locals (record { mutex = mutex; key = key })) → IsNumberBy h address mutex key code →
        LeavesNumber around p.log t.number x (lock_number seen.locals (record { mutex = mutex; key = key })) code
    name_by mutex None code formed held is =
        let low : mutex < length p.flat.mutexes = slice_get_within p.flat.mutexes mutex formed.it formed.found in
        subst (λ (c : List Instr). LeavesNumber around p.log t.number x mutex c) (sym is) (constant_leaves around p.log t.number x mutex (omega (
          arith,
          low,
          few,
        )))
    name_by mutex (Some key) code formed held is =
        let known = key_known mutex key formed held in
        subst (λ (n : ℕ). LeavesNumber around p.log t.number x n code) known.same
        (subst (λ (c : List Instr). LeavesNumber around p.log t.number x (known.element + mutex) c) (sym is.is)
        (key_leaves h s key.expr is.of_value address p.log t.number mutex known.element is.value.is_value is_log (suits p t plan of seen) known.expr known.fits
        known.unloaded known.number known.small reach around x known.locals))

    -- of each of the names, where its key's locals are in their homes
    names_leave : (names : List e.LockName) (codes : List (List Instr)) → AllByRecursion (IsFlatLockName p.flat.mutexes t.kinds) names →
        AllByRecursion (λ (y : e.LockName). HoldsEach h s around.loads x (key_locals y)) names → AllZip (IsNumberCode h address) names codes →
        LeaveNumbers around p.log t.number x (map (lock_number seen.locals) names) codes
    names_leave [] [] formed held are = tt
    names_leave [] (code ∷ codes) formed held are = absurd are
    names_leave (y ∷ names) [] formed held are = absurd are
    names_leave (y ∷ names) (code ∷ codes) formed held are =
        (name_by y.mutex y.key code formed.0 held.0 are.0, names_leave names codes formed.1 held.1 are.1)

    all_of_held : (P : e.LockName → Type 0) (names : List e.LockName) (set : Held) →
        ((k : ℕ) (y : e.LockName) → slice_get names k ≡ Some y → holds set k ≡ true → P y) → AllByRecursion P (held_names names set)
    all_of_held P [] set each = tt
    all_of_held P (y ∷ names) [] each = tt
    all_of_held P (y ∷ names) (true ∷ set) each = (each 0 y refl refl, all_of_held P names set (λ k z. each (suc k) z))
    all_of_held P (y ∷ names) (false ∷ set) each = all_of_held P names set (λ k z. each (suc k) z)

    -- registers with which the thread enters a node have the numbers of all that it holds there
    pub held_leave : (node : ℕ) (view : LogView) (codes : List (List Instr)) → IsNodeOf t node → Enters p t node seen view x →
        IsFrameAnswered p t view node around.loads →
        ((k : ℕ) (y : e.LockName) → slice_get (names_in p t) k ≡ Some y → holds (set_before p t node) k ≡ true →
        IsFlatLockName p.flat.mutexes t.kinds y) →
        AllZip (IsNumberCode h address) (held_names_before p t node) codes →
        LeaveNumbers around p.log t.number x (locks_before p t seen.locals node) codes
    held_leave node view codes own enters frame formed are =
        names_leave (held_names_before p t node) codes
        (all_of_held (IsFlatLockName p.flat.mutexes t.kinds) (names_in p t) (set_before p t node) formed)
        (all_of_held (λ (y : e.LockName). HoldsEach h s around.loads x (key_locals y)) (names_in p t) (set_before p t node)
        (λ k y there held local kind reads is.
        let live = plan.keys_live t of node own k local y there held reads in
        answered_home p t seen view around.loads node local kind x frame live (enters.locals local kind is live)))
        are
