-- Code that leaves the number of a lock in x10, for a call, where the locals of its key are in their homes.
use Rattle.std.proofs.Common.{◌≡◌, ℕ, ◌+◌, ◌*◌, ◌<◌, ◌≤◌, List, [], ◌∷◌, ◌++◌, length, refl, ap, sym, ◌∙◌, arith, subst, lit<}
use Rattle.std.proofs.Common.{Bool, Option, Some, None, ◌==◌, ◌||◌}
use Rattle.std.specs.Prelude.{pos, slice_set, ℤ}
use Rattle.std.proofs.lemmas.Bool.{ne_eqb}
use Rattle.std.proofs.lemmas.Option.{slice_get_within}
use Rattle.c_tree.specs.Exprs as e
use Rattle.c_tree.specs.LockDiscipline.{key_locals}
use Rattle.c_tree.specs.Values.{lock_number, value}
use Rattle.c_tree.specs.WellFormed.{Fits, IsExpr, IsFlatLockName}
use Rattle.rv64_isa.specs.declared.instr.Instr.{Instr}
use Rattle.rv64_isa.specs.declared.instr.Instr.TheVariants.{OpImmediate}
use Rattle.rv64_isa.specs.declared.instr.ImmediateOperation.TheVariants.{Addi}
use Rattle.rv64_isa.specs.declared.instr.Operation.TheVariants.{Add}
use Rattle.rv64_isa.specs.Arithmetic.{result_of, sign_extended}
use Rattle.rv64_isa.specs.Rows.{Continues, next, read, row}
use Rattle.memory_layout.specs.Roles.{is_temporary}
use Rattle.operator_code.specs.ComputingCode.{Carries, Computes}
use Rattle.operator_code.proofs.Public.{RunsFrom, add_small, go, small_immediate, stop}
use Rattle.code_runs.specs.ComputingRuns.{Environment, LocalConfig, config}
use Rattle.expr_code.specs.EvaluationCode.{AreLoaded, EvaluationEnds, HasCodeThere, HoldsLocals, Homes, IsValueCode, Source, Suits}
use Rattle.expr_code.proofs.Public.{at_left, computed, index_of, locals_kept, or_right, room_right, stands_right, then_ends, wider}
use Rattle.flow_graph.specs.Actions.{Seen}
use Rattle.flow_graph.specs.Liveness.{NodeAt}
use Rattle.flow_graph.specs.Nodes.{Node}
use Rattle.node_code.specs.Numbers.{AsksNumber, IsSame, NumberAsked}
use Rattle.node_code.proofs.Public.{call_asks}
use Rattle.thread_code.specs.Plans.{Plan, IsPlan, Thread, IsThread, homes}
use Rattle.thread_code.specs.RegistersAtNodes.{source_of}
use Rattle.rv64_codegen.specs.Locals.{HoldsEach}
use Rattle.rv64_codegen.specs.ThreadPieces.{MayEnter}
use Rattle.rv64_codegen.specs.links.Numbers.{IsCallBy, IsCallCode}
use Rattle.rv64_codegen.proofs.KeyNumbers.{within}
use Rattle.rv64_codegen.proofs.LegalEvaluations.{suits}
use Rattle.rv64_codegen.proofs.NameNumbers.{key_known}
use Rattle.rv64_codegen.proofs.NodeCorrectness.{local_other, local_plain}
use Rattle.rv64_codegen.proofs.Nodes.{CallKnown}
use Rattle.rv64_codegen.proofs.ReadLocals.{live_is_enough}
use Rattle.rv64_codegen.proofs.AnsweredHomes.{answered_home}

last_row : (y : List ℕ) (first element pc : ℕ) → read y 5 ≡ element → element + first < 2048 →
    row (OpImmediate Addi 10 5 first) y pc ≡ Continues (slice_set y 10 (element + first)) (next pc)
unfolding row
last_row y first element pc is small =
    ap (λ (n : ℕ). Continues (slice_set y 10 (result_of Add n (sign_extended 12 64 first))) (next pc)) is
    ∙ (ap (λ (n : ℕ). Continues (slice_set y 10 (result_of Add element n)) (next pc)) (small_immediate first (omega (arith, small)))
    ∙ ap (λ (n : ℕ). Continues (slice_set y 10 n) (next pc)) (add_small element first (omega (arith, small))))

last_computes : (y : List ℕ) (first element : ℕ) → read y 5 ≡ element → element + first < 2048 →
    Computes (OpImmediate Addi 10 5 first ∷ []) y 10 (element + first)
last_computes y first element is small =
    let z : List ℕ = slice_set y 10 (element + first) in
    let runs : (pc : ℕ) → RunsFrom (OpImmediate Addi 10 5 first ∷ []) y pc [] z =
    λ pc. go (OpImmediate Addi 10 5 first) [] y z pc [] z (last_row y first element pc is small) (stop z (pc + 4)) in
    record { unseen = λ pc. (runs pc).sees; changes = λ pc. (runs pc).leaves }

module _ (h : Homes) (s : Source) (key : e.Expr) (code : List Instr) (first element : ℕ) (value_code : IsValueCode h key 5 code) (suits : Suits h s)
    (formed : IsExpr s.variables s.kinds key) (fits : Fits s.variables key) (unloaded : (loads : ℕ → ℕ → Option ℕ) → AreLoaded s loads key)
    (names : (value s.locals s.numbers key).number ≡ pos element) (small : element + first < 2048) where
  abbrev last : List Instr
  last = OpImmediate Addi 10 5 first ∷ []

  -- what may be written
  abbrev written : ℕ → Bool
  written n = n == 10 || is_temporary n

  module _ (around : Environment) (x y : List ℕ) (at : ℕ) (locals : HoldsLocals h s around.loads x key) (same : IsSame x y)
      (there : HasCodeThere around (code ++ last) (config y at)) where
    abbrev begin : LocalConfig
    begin = config y at

    there_1 : HasCodeThere around code begin
    there_1 = at_left around code last begin there

    locals_there : HoldsLocals h s around.loads y key
    locals_there = locals_kept h s around.loads x y key suits formed (λ n l. same n (local_plain n l) (local_other n 3 refl l)) locals

    valued : EvaluationEnds around code written (λ z. read z 5 ≡ element) begin
    valued =
        let ends = value_code.ends s around begin (record { suits = suits; formed = formed; fits = fits; loaded = unloaded around.loads })
        (record { at = there_1; locals = locals_there }) in
        let in_x5 : (z : List ℕ) → Carries z 5 (value s.locals s.numbers key) → read z 5 ≡ element =
        λ z carries. index_of (value s.locals s.numbers key) z 5 element carries names (omega (arith, small)) in
        let whole = wider around code (λ n. n == 5 || is_temporary n) written (λ z. Carries z 5 (value s.locals s.numbers key)) begin
        (λ n out. within 5 refl n (or_right (n == 10) (is_temporary n) out)) ends in
        record {
          registers = whole.registers;
          leads = whole.leads;
          short = whole.short;
          are = whole.are;
          unchanged = whole.unchanged;
          has = in_x5 whole.registers whole.has;
        }

    numbered : EvaluationEnds around (code ++ last) written (λ z. read z 10 ≡ element + first) begin
    numbered =
        then_ends around code last written (λ z. read z 5 ≡ element) (λ z. read z 10 ≡ element + first) begin valued
        (λ z are kept is.
        let here : HasCodeThere around last (config z (at + 4 * length code)) = record {
          registers = are;
          stands = stands_right around at code last there.stands;
          room = room_right around code last begin there;
        } in
        computed around last is_temporary 10 (element + first) (λ v. read v 10 ≡ element + first) (config z (at + 4 * length code)) (lit< tt) (lit< tt)
        are (last_computes z first element is small) here.stands here.room (λ v _ now _. now))

    asked : NumberAsked around (code ++ last) y at (element + first)
    asked = record {
      registers = numbered.registers;
      run = numbered.leads;
      short = numbered.short;
      are = numbered.are;
      number_is = numbered.has;
      others = λ r plain other. numbered.unchanged r (ap (λ (b : Bool). b || is_temporary r) (ne_eqb r 10 other) ∙ plain);
    }

  pub key_asks : (around : Environment) (x : List ℕ) → HoldsLocals h s around.loads x key → AsksNumber around x (element + first) (code ++ last)
  key_asks around x locals = record {
    asks = λ y at are same stands room. asked around x y at locals same (record { registers = are; stands = stands; room = room });
  }

module _ (p : Plan) (t : Thread) (plan : IsPlan p) (of : IsThread p t) (few : length p.flat.mutexes ≤ 1024) where
  call_by : (seen : Seen) (around : Environment) (x : List ℕ) (mutex : ℕ) (key : Option e.Placed) (code : List Instr) →
      IsFlatLockName p.flat.mutexes t.kinds (record { mutex = mutex; key = key }) →
      HoldsEach (homes p t) (source_of p t seen) around.loads x (key_locals (record { mutex = mutex; key = key })) → IsCallBy (homes p t) mutex key code →
      AsksNumber around x (lock_number seen.locals (record { mutex = mutex; key = key })) code
  call_by seen around x mutex None code formed held is =
      let low : mutex < length p.flat.mutexes = slice_get_within p.flat.mutexes mutex formed.it formed.found in
      subst (λ (c : List Instr). AsksNumber around x mutex c) (sym is) (call_asks around x mutex (omega (arith, low, few)))
  call_by seen around x mutex (Some key) code formed held is =
      let known = key_known p t plan of seen around x few mutex key formed held in
      subst (λ (n : ℕ). AsksNumber around x n code) known.same
      (subst (λ (c : List Instr). AsksNumber around x (known.element + mutex) c) (sym is.is)
      (key_asks (homes p t) (source_of p t seen) key.expr is.of_value mutex known.element is.value.is_value (suits p t plan of seen) known.expr known.fits
      known.unloaded known.number known.small around x known.locals))

  -- at a node that takes a lock or gives one back its locals are live
  pub asks_at : (node : ℕ) (is : Node) → NodeAt p.graph node is → (lock : e.LockName) (next : ℕ) →
      CallKnown p.flat t.kinds t.part.first t.part.end p.graph.nodes lock next is → (locals : List ℤ) (code : List Instr) → IsCallCode (homes p t) lock code →
      (around : Environment) (x : List ℕ) → MayEnter p t locals node around x → AsksNumber around x (lock_number locals lock) code
  asks_at node is at lock next known locals code made around x may =
      let h : Homes = homes p t in
      let s : Source = source_of p t may.seen in
      let all : HoldsEach h s around.loads x is.uses =
      live_is_enough p.graph node is h s around.loads x at (λ local k alive there. answered_home p t may.seen may.view around.loads node local k x may.frame
      alive
      (may.enters.locals local k there alive)) in
      subst (λ (ls : List ℤ). AsksNumber around x (lock_number ls lock) code) may.locals_are
      (call_by may.seen around x lock.mutex lock.key code known.name (subst (λ (us : List ℕ). HoldsEach h s around.loads x us) known.uses all) made)
