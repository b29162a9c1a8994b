-- What the code of a node does is what the node does.
use Rattle.std.proofs.Common.{◌≡◌, ◌≢◌, ℕ, ◌+◌, ◌^◌, ◌<◌, List, [], ◌∷◌, ◌++◌, map, refl, ap, arith, sym, ◌∙◌, subst, Bool}
use Rattle.c_tree.specs.Exprs.{LockName}
use Rattle.std.proofs.Common.{true, false, Some, None, ◌==◌, ◌||◌, if◌then◌else◌}
use Rattle.std.specs.Prelude.{slice_get, slice_set, Contains, Option, ℤ, pos, not}
use Rattle.std.specs.Option.{option_map}
use Rattle.std.proofs.lemmas.Bool.{true≢false}
use Rattle.std.proofs.lemmas.Option.{same_Some, slice_get-map, slice_get_within}
use Rattle.log_schemes.specs.declared.log.Log.{Log}
use Rattle.ido_base.specs.declared.place.Place.{Place}
use Rattle.ido_base.specs.Layout.{variable_at}
use Rattle.ido_ints.specs.declared.kinds.Kind.{Kind}
use Rattle.ido_ints.specs.declared.kinds.Kind.TheVariants.{UnsignedLong}
use Rattle.ido_ints.specs.Kinds.{bytes_of}
use Rattle.ido_ints.specs.Operators.{is_zero}
use Rattle.ido_ints.specs.Reduction.{reduced}
use Rattle.ido_ints.specs.TypedNumbers.{typed}
use Rattle.c_tree.specs.Exprs as e
use Rattle.c_tree.specs.LockDiscipline.{expr_locals}
use Rattle.c_tree.specs.Programs as v
use Rattle.c_tree.specs.Source.{Pending}
use Rattle.c_tree.specs.Values.{value, lock_number}
use Rattle.c_tree.specs.WellFormed.{shape_of}
use Rattle.rv64_isa.specs.declared.instr.Instr.TheVariants.{Store as StoreInstr}
use Rattle.rv64_isa.specs.declared.instr.StoreKind.TheVariants.{Sd}
use Rattle.rv64_isa.specs.Rows.{Stores, row, read}
use Rattle.rv64_link.specs.LinkedCode.{IsInstructionAt}
use Rattle.memory_layout.specs.Roles as roles
use Rattle.memory_layout.specs.Roles.{is_temporary, is_local}
use Rattle.boundary_code.specs.Boundaries.{Boundary, IsOnSide}
use Rattle.operator_code.specs.ComputingCode.{AreRegisters}
use Rattle.operator_code.proofs.Public.{equal_by}
use Rattle.code_runs.specs.CodeTraces.{Program, MarkedEnvironment, Meets, Observation, Does, Mark, GoesThrough, marked}
use Rattle.expr_code.specs.EvaluationCode.{Homes, Source, home_of, is_home}
use Rattle.expr_code.proofs.Public.{or_right}
use Rattle.flow_graph.specs.Nodes.{Action, Eval, Store, Test, Lock, Unlock, successors}
use Rattle.flow_graph.specs.Actions as a
use Rattle.flow_graph.specs.Actions.{Seen, number_in}
use Rattle.flow_graph.specs.Lowering.{target_locals}
use Rattle.node_code.specs.Pieces.{store_observations, boundary_observations, LeavesRegisters}
use Rattle.node_code.specs.Pieces.{Asks, IsStorePiece, Makes, Locks, Unlocks, IsEndPiece, takes, gives, ends}
use Rattle.node_code.specs.Sites.{Site, label_of}
use Rattle.node_code.proofs.Public.{fragment, weaker, moved}
use Rattle.thread_code.specs.Plans.{Plan, Thread, IsThread, IsPlan, IsNodeOf, IsKept, IsKeptBefore, IsLogged, of_local, of_address, of_value, of_entry, of_word}
use Rattle.thread_code.specs.Plans.{of_number, homes}
use Rattle.thread_code.specs.RegistersAtNodes.{HasLowBytes, HasPending, IsPendingIn, Enters, IsFrameAnswered, IsReady, LogView, MayAssign, to_assign, to_enter}
use Rattle.thread_code.specs.RegistersAtNodes.{source_of, IsAnswered, with_word}
use Rattle.thread_code.specs.NodeCodeEffects.{Places, Entrance, kind_at, keeping, Asking, SetsIn, Storing, StoresPlain, Performs, view_after, SetsLogged}
use Rattle.thread_code.proofs.Public.{enters_again, ready_again}
use Rattle.rv64_codegen.specs.Evaluations.{HasSet, IsAssigned, IsEvaluation, IsPlainAssignment, MayEvaluate, MayReach, may_write, IsTest, IsTested, is_taken}
use Rattle.rv64_codegen.specs.Evaluations.{is_in}
use Rattle.rv64_codegen.specs.Locals.{HoldsEach}
use Rattle.rv64_codegen.specs.ThreadPieces.{Choices, AreChoices, GoesTo, IsChoosing, turned, straight, boundary_at, boundary_before, label_of_node}
use Rattle.rv64_codegen.specs.ThreadPieces.{opens_section, MayEnter}
use Rattle.rv64_codegen.proofs.EvaluationCode.{spare, local_spare}
use Rattle.rv64_codegen.proofs.ReadLocals.{live_is_enough, left_held, right_held}
use Rattle.rv64_codegen.proofs.AnsweredHomes.{answered_home}
use Rattle.rv64_codegen.proofs.Nodes.{EvalKnown, StoreKnown, TestKnown, CallKnown, StoresThere}
use Rattle.rv64_codegen.proofs.StoresAfterEvaluations.{owes}
use Rattle.rv64_codegen.proofs.PieceSites.{spot_site}
use Rattle.rv64_codegen.proofs.LocalRegisters.{home_local, same_word}
use Rattle.rv64_codegen.proofs.RegistersAfterNodes.{answered_on, enters_on, enters_owing, enters_set, enters_stored, may_assign}
use Rattle.rv64_codegen.proofs.LegalEvaluations.{registers_at, may_evaluate, may_reach}
use Rattle.rv64_codegen.proofs.PieceParts as parts
use Rattle.rv64_codegen.proofs.PieceParts.{PlacedNode, HasPlaces}
use Rattle.expr_code.specs.declared.home.Home.{Home}
use Rattle.expr_code.specs.declared.home.Home.TheVariants.{InRegister, InFrame}

-- ---- Registers that are kept

pub local_plain : (r : ℕ) → is_local r ≡ true → is_temporary r ≡ false
local_plain r h = or_right (r == 28) (is_temporary r) (or_right (r == 29) (r == 28 || is_temporary r) (local_spare r h))

pub local_other : (r k : ℕ) → is_local k ≡ false → is_local r ≡ true → r ≢ k
local_other r k off h same = true≢false (sym h ∙ ap is_local same ∙ off)

differs : (r k : ℕ) → r ≢ k → (r == k) ≡ false
differs r k other = by (r == k) refl
  where
    by : (b : Bool) → (r == k) ≡ b → (r == k) ≡ false
    by false h = h
    by true h = absurd (other (equal_by r k h))

at_side_on : (log : Log) (side : ℕ) (x y : List ℕ) → IsOnSide log side x → AreRegisters y → read y 3 ≡ read x 3 → IsOnSide log side y
at_side_on log side x y a are same = record { count = are.count; zero_is = are.zero_is; offset = same ∙ a.offset; exists = a.exists }

-- an assignment of a local writes its home and temporaries
set_kept : (h : Homes) (name : Place) (local own : ℕ) (kind : Kind) (r : ℕ) → home_of h.locals local ≡ InRegister own → is_temporary r ≡ false → r ≢ own →
    may_write h (e.ToLocal name local kind) r ≡ false
set_kept h name local own kind r home plain other =
    ap (λ (z : Home). is_in z r || is_temporary r) home ∙ (ap (λ (b : Bool). b || is_temporary r) (differs r own other) ∙ plain)

-- or, where that is a word of the frame, those of what is stored
word_kept : (h : Homes) (name : Place) (local word : ℕ) (kind : Kind) (r : ℕ) → home_of h.locals local ≡ InFrame word → is_temporary r ≡ false →
    (r == 29) ≡ false → (r == 28) ≡ false → may_write h (e.ToLocal name local kind) r ≡ false
word_kept h name local word kind r home plain first second =
    ap (λ (z : Home). is_in z r || is_temporary r) home
    ∙ (ap (λ (b : Bool). (b || r == 28) || is_temporary r) first ∙ (ap (λ (b : Bool). b || is_temporary r) second ∙ plain))

module _ (p : Plan) (t : Thread) (plan : IsPlan p) (of : IsThread p t) where
  kept_plain : (node register : ℕ) → IsKept p t node register → (is_temporary register ≡ false) × (register ≢ 3)
  kept_plain node register (of_local local k own there live at) =
      let is : is_local own ≡ true = sym (ap is_home at) ∙ home_local p t plan of local (slice_get_within t.kinds local k there) in
      (local_plain own is, local_other own 3 refl is)
  kept_plain node register (of_address store) = (refl, λ same. let z : ⊥ = omega (arith, same) in z)
  kept_plain node register (of_value store) = (refl, λ same. let z : ⊥ = omega (arith, same) in z)

  kept_before_plain : (node register : ℕ) → IsKeptBefore p t node register → (is_temporary register ≡ false) × (register ≢ 3)
  kept_before_plain node register (of_entry r k) = kept_plain node r k
  kept_before_plain node register (of_word logged) = (refl, λ same. let z : ⊥ = omega (arith, same) in z)
  kept_before_plain node register (of_number logged) = (refl, λ same. let z : ⊥ = omega (arith, same) in z)

  -- after a boundary that keeps what is live there
  pub enters_kept : (c : Choices) → AreChoices p t c → (opens : Bool) (node resume : ℕ) → IsNodeOf t node → (seen : Seen) (view : LogView) (x y : List ℕ) →
      Enters p t node seen view x → LeavesRegisters (boundary_at p t c opens seen.locals node resume) view.side x y →
      Enters p t node seen (view_after (boundary_at p t c opens seen.locals node resume) view) y
  enters_kept c choices opens node resume own seen view x y enters left =
      enters_again p t node seen view (view_after (boundary_at p t c opens seen.locals node resume) view) x y (c.live node) (choices.live_are node own)
      enters left.at_side (λ local word live home. refl)
      (λ r has. let plain = kept_plain node r ((choices.live_are node own r).0 has) in left.others r plain.0 plain.1)

  -- after the boundary before its core
  pub ready_kept : (c : Choices) → AreChoices p t c → (a : Action) (node : ℕ) → IsNodeOf t node → (seen : Seen) (view : LogView) (owed : ℤ) (x y : List ℕ) →
      IsReady p t node seen view owed x → LeavesRegisters (boundary_before p t c a seen.locals node) view.side x y →
      IsReady p t node seen (view_after (boundary_before p t c a seen.locals node) view) owed y
  ready_kept c choices a node own seen view owed x y ready left =
      ready_again p t node seen view (view_after (boundary_before p t c a seen.locals node) view) owed x y (c.kept node) (choices.kept_are node own) ready
      left.at_side (λ local word counted home. refl)
      (λ r has. let plain = kept_before_plain node r ((choices.kept_are node own r).0 has) in left.others r plain.0 plain.1)

  -- a thread that may go on at a core enters the node, but at a logged assignment
  pub enters_of : (node : ℕ) (seen : Seen) (view : LogView) (owed : ℤ) (x : List ℕ) → (IsLogged p t node → ⊥) → IsReady p t node seen view owed x →
      Enters p t node seen view x
  enters_of node seen view owed x none (to_enter unlogged h) = h
  enters_of node seen view owed x none (to_assign logged h) = absurd (none logged)

-- the node evaluates into a target, which it can in an environment, and goes on to the next one
pub record Evaluates {p : Plan} {t : Thread} {c : Choices} {entry : ℕ → ℕ} (it : PlacedNode p t c entry) (s : MarkedEnvironment) (seen : Seen)
    (target : e.Lvalue) : Type 0 where
  pub val : e.Placed
  pub next : ℕ
  pub same : it.is.action ≡ Eval target val next
  pub known : EvalKnown p.flat t.kinds t.part.first t.part.end p.graph.nodes target val next it.is
  pub answered : IsAnswered (source_of p t seen) s.around.loads (Eval target val next)

module _ {p : Plan} {t : Thread} {c : Choices} (places : Places) (it : PlacedNode p t c places.entry) (has : HasPlaces places it) where
  open it use {program, items, n, node, is, at, before, does, goes, sited}
  open has use {plan, of, own, agrees}
  open agrees use {of_program, live_are, cleans}

  abbrev to : ℕ → ℕ
  to k = n.linked.address_of k

  abbrev does_at : ℕ
  does_at = parts.does_at it

  abbrev goes_at : ℕ
  goes_at = parts.goes_at it

  abbrev words : ℕ
  words = places.words node

  abbrev does_words : ℕ
  does_words = parts.does_words it

  module _ (s : MarkedEnvironment) (meets : Meets program s) where
    abbrev before_site : Site before
    before_site = spot_site n before (parts.before_spot it) s meets

    abbrev does_site : Site does
    does_site = spot_site n does (parts.does_spot it) s meets

    -- ---- Legs

    from_core : (x : List ℕ) (there : ℕ) (ss : List Observation) (P : List ℕ → Type 0) → GoesThrough s (fragment x (to does_at) there words) ss P →
        GoesThrough s (fragment x (places.core node) there words) ss P
    from_core x there ss P g = moved s x (to does_at) (places.core node) there there words ss P (sym agrees.core) refl g

    then_next : (next : ℕ) → IsNodeOf t next → GoesTo p t c node next goes → (x : List ℕ) (ss : List Observation) (P : List ℕ → Type 0) →
        GoesThrough s (fragment x (to does_at) (to goes_at) does_words) ss P → GoesThrough s (fragment x (places.core node) (places.entry next) words) ss P
    then_next next of_next g x ss P leg =
        from_core x (places.entry next) ss P (parts.then_next it words agrees.words next of_next g s meets x ss P leg)

    within : (x : List ℕ) (there : ℕ) (ss : List Observation) (P : List ℕ → Type 0) → GoesThrough s (fragment x (to does_at) there does_words) ss P →
        GoesThrough s (fragment x (places.core node) there words) ss P
    within x there ss P leg =
        from_core x there ss P (parts.within it words agrees.words s x (to does_at) there ss P leg)

    -- ---- Logged assignments

    -- the core of a logged assignment stores what was computed before the boundary
    module _ (seen : Seen) (view : LogView) (owed : ℤ) (x : List ℕ) (name : Place) (local : ℕ) (kind : Kind) (val : e.Placed) (next : ℕ)
        (same : is.action ≡ Eval (e.ToLocal name local kind) val next)
        (known : EvalKnown p.flat t.kinds t.part.first t.part.end p.graph.nodes (e.ToLocal name local kind) val next is) (word : ℕ)
        (home : home_of t.locals local ≡ InFrame word) (d : IsStorePiece UnsignedLong true does) (g : GoesTo p t c node next goes) (number : ℤ)
        (may : MayAssign p t node local number seen view x) where
      abbrev there : Entrance
      there = record { environment = s; node = node; seen = seen; view = view; owed = owed; registers = x }

      abbrev stored : ℕ
      stored = read x roles.pending_value

      word_is : may.assigned.word ≡ word
      word_is = same_word may.assigned.word word (sym may.assigned.home ∙ home)

      address_is : read x roles.pending_address ≡ word
      address_is = may.assigned.address ∙ word_is

      low : read x roles.pending_address < 2 ^ 64
      low = subst (λ (z : ℕ). z < 2 ^ 64) (sym may.assigned.address) may.assigned.below

      made_by : Makes UnsignedLong true does does_site
      made_by = d.at does_site

      abbrev After : List ℕ → Type 0
      After y = Enters p t next (record seen { locals = slice_set seen.locals local number }) (with_word view word stored) y

      set_after : After x
      set_after =
          let goes_on : Contains (successors is.action) next = subst (λ (b : Action). Contains (successors b) next) (sym same) (0, omega arith, refl) in
          subst (λ (z : ℕ). Enters p t next (record seen { locals = slice_set seen.locals local number }) (with_word view z stored) x) word_is
          (enters_stored p t plan of node next is at goes_on own local kind known.target_is.0 known.assigns seen number view x may (ap owes same))

      pub stores_logged : SetsLogged p t places there word local number next
      stores_logged = record {
        storing = record {
          instr = made_by.instr;
          stands = subst (λ (z : ℕ). IsInstructionAt places.program.start places.program.code z made_by.instr) (sym agrees.core)
              (subst (λ (q : Program). IsInstructionAt q.start q.code (to does_at) made_by.instr) (sym of_program) made_by.stands);
          does = ap (λ (z : ℕ). row made_by.instr x z) agrees.core ∙ made_by.first x low ∙ ap (λ (z : ℕ). Stores z 8 stored) address_is;
        };
        passes =
            then_next next (record { from_first = known.inside.0; below_end = known.inside.1 }) g x (store_observations word 8 stored true) After
            (subst (λ (z : ℕ). GoesThrough s (fragment x (to does_at) (to goes_at) does_words) (store_observations z 8 stored true) After) address_is
            (weaker s (fragment x (to does_at) (to goes_at) does_words) (store_observations (read x roles.pending_address) 8 stored true) (λ y. y ≡ x)
            After (λ y is_x. subst After (sym is_x) set_after) (made_by.makes x (registers_at p.log view.side x may.at_side) low)));
      }

      pub sets_logged : IsLogged p t node → Performs p t places there (a.Sets local number next)
      sets_logged logged' = subst (λ (z : Home). SetsIn p t places z there local number next) (sym home) (λ _. stores_logged, λ none. absurd (none logged'))

    module _ (seen : Seen) (view : LogView) (owed : ℤ) (x : List ℕ) (enters : Enters p t node seen view x)
        (frame : IsFrameAnswered p t view node s.around.loads) where
      abbrev m : Entrance
      m = record { environment = s; node = node; seen = seen; view = view; owed = owed; registers = x }

      abbrev side : ℕ
      side = view.side

      abbrev h : Homes
      h = homes p t

      abbrev src : Source
      src = source_of p t seen

      pub are : AreRegisters x
      are = registers_at p.log side x enters.at_side

      abbrev loads : (address bytes : ℕ) → Option ℕ
      loads = s.around.loads

      held_all : HoldsEach h src loads x is.uses
      held_all =
          live_is_enough p.graph node is h src loads x at
          (λ local k alive there. answered_home p t seen view loads node local k x frame alive (enters.locals local k there alive))

      -- ---- Evaluations

      module _ (target : e.Lvalue) (ev : Evaluates it s seen target) where
        open ev use {val, next, same, known, answered}

        pub of_next : IsNodeOf t next
        of_next = record { from_first = known.inside.0; below_end = known.inside.1 }

        pub follows : Contains (successors is.action) next
        follows = subst (λ (b : Action). Contains (successors b) next) (sym same) (0, omega arith, refl)

        pub held_uses : HoldsEach h src loads x (target_locals target ++ expr_locals val.expr)
        held_uses = subst (λ (ls : List ℕ). HoldsEach h src loads x ls) known.uses held_all

        pub reaches : MayReach h src s.around x target
        reaches =
            may_reach p t plan of seen s.around x target known.target_is
            (left_held h src loads x (target_locals target) (expr_locals val.expr) held_uses) answered.0

        pub evaluates : MayEvaluate h src s.around x val.expr
        evaluates =
            may_evaluate p t plan of seen s.around x val known.value_is
            (right_held h src loads x (target_locals target) (expr_locals val.expr) held_uses) answered.1

        eval_goes : IsEvaluation h target val.expr does → GoesTo p t c node next goes → (P : List ℕ → Type 0) →
            ((y : List ℕ) → IsAssigned h src target val.expr x y → P y) → GoesThrough s (fragment x (places.core node) (places.entry next) words) (Mark ∷ []) P
        eval_goes d g P f = then_next next of_next g x (Mark ∷ []) P
            (weaker s (fragment x (to does_at) (to goes_at) does_words) (Mark ∷ []) (IsAssigned h src target val.expr x) P f
            ((d.at does_site).evaluates src x are reaches evaluates))

      -- ---- Assignments of locals

      module _ (name : Place) (local : ℕ) (kind : Kind) (ev : Evaluates it s seen (e.ToLocal name local kind)) where
        abbrev target : e.Lvalue
        target = e.ToLocal name local kind

        abbrev number : ℤ
        number = reduced kind (number_in seen ev.val.expr)

        abbrev effect : a.Effect
        effect = a.Sets local number ev.next

        -- the local's word, and the number, are in the registers of what is stored
        pub may_set : (word : ℕ) → home_of t.locals local ≡ InFrame word → (y : List ℕ) → IsAssigned h src target ev.val.expr x y →
            MayAssign p t node local number seen view y
        may_set word home y got =
            let has : HasSet y (InFrame word) (typed kind number) = subst (λ (z : Home). HasSet y z (typed kind number)) home got.has in
            may_assign p t plan of node ev.next is at (follows target ev) own local kind ev.known.target_is.0 ev.known.assigns seen number view x y enters
            (at_side_on p.log side x y enters.at_side got.are (got.unchanged 3 (word_kept h name local word kind 3 home refl refl refl))) word home has.0 has.1

        pub sets : (register : ℕ) → home_of t.locals local ≡ InRegister register → IsEvaluation h target ev.val.expr does → GoesTo p t c node ev.next goes →
            Performs p t places m effect
        sets register home d g =
            subst (λ (z : Home). SetsIn p t places z m local number ev.next) (sym home)
            (eval_goes target ev d g _ (λ y got.
            let stands : is_local register ≡ true =
            sym (ap is_home home) ∙ home_local p t plan of local (slice_get_within t.kinds local kind ev.known.target_is.0) in
            enters_set p t plan of node ev.next is at (follows target ev) own local kind ev.known.target_is.0 ev.known.assigns seen number view x y enters
            (λ r is_one other. got.unchanged r (set_kept h name local register kind r home (local_plain r is_one) (λ z. other (ap InRegister z ∙ sym home))))
            register home (subst (λ (z : Home). HasSet y z (typed kind number)) home got.has) (ap owes ev.same)
            (at_side_on p.log side x y enters.at_side got.are
            (got.unchanged 3 (set_kept h name local register kind 3 home refl (λ e3. true≢false (sym stands ∙ sym (ap is_local e3))))))))

        -- outside sections
        module _ (word : ℕ) (home : home_of t.locals local ≡ InFrame word) (d : IsPlainAssignment h target ev.val.expr does)
            (g : GoesTo p t c node ev.next goes) (store_is : places.store node ≡ (d.at (parts.does_bare it)).store) where
          -- the store stands at one address in all environments
          store_at : (r : MarkedEnvironment) (meets_r : Meets program r) → (d.at (spot_site n does (parts.does_spot it) r meets_r)).store ≡ places.store node
          store_at r meets_r =
              let here : to goes_at ≡ (d.at (spot_site n does (parts.does_spot it) r meets_r)).store + 4 =
              (d.at (spot_site n does (parts.does_spot it) r meets_r)).after in
              let there : to goes_at ≡ (d.at (parts.does_bare it)).store + 4 = (d.at (parts.does_bare it)).after in
              omega (arith, here, there, store_is)

          computes : GoesThrough s (fragment x (places.core node) (places.store node) words) (Mark ∷ []) (MayAssign p t node local number seen view)
          computes =
              within x (places.store node) (Mark ∷ []) (MayAssign p t node local number seen view)
              (moved s x (to does_at) (to does_at) (d.at does_site).store (places.store node) does_words (Mark ∷ []) (MayAssign p t node local number seen view)
              refl (store_at s meets)
              (weaker s (fragment x (to does_at) (d.at does_site).store does_words) (Mark ∷ []) (IsAssigned h src target ev.val.expr x)
              (MayAssign p t node local number seen view) (may_set word home)
              ((d.at does_site).evaluates src x are (reaches target ev) (evaluates target ev))))

          stores : (r : MarkedEnvironment) (meets_r : Meets program r) (owed' : ℤ) (view' : LogView) (y : List ℕ) →
              MayAssign p t node local number seen view' y →
              StoresPlain p t places (record { environment = r; node = node; seen = seen; view = view'; owed = owed'; registers = y }) word local number ev.next
          stores r meets_r owed' view' y may =
              let site : Site does = spot_site n does (parts.does_spot it) r meets_r in
              let own_store = d.at site in
              let same : may.assigned.word ≡ word = same_word may.assigned.word word (sym may.assigned.home ∙ home) in
              let address : read y roles.pending_address ≡ word = may.assigned.address ∙ same in
              let small : read y roles.pending_address < 2 ^ 64 = subst (λ (z : ℕ). z < 2 ^ 64) (sym may.assigned.address) may.assigned.below in
              let value : ℕ = read y roles.pending_value in
              let seen_store : List Observation = Does (Stores word 8 value) ∷ [] in
              let P : List ℕ → Type 0 = Enters p t ev.next (record seen { locals = slice_set seen.locals local number }) (with_word view' word value) in
              let after : P y =
              subst (λ (z : ℕ). Enters p t ev.next (record seen { locals = slice_set seen.locals local number }) (with_word view' z value) y) same
              (enters_stored p t plan of node ev.next is at (follows target ev) own local kind ev.known.target_is.0 ev.known.assigns seen number view' y may
              (ap owes ev.same)) in
              record {
                storing = record {
                  instr = StoreInstr Sd roles.pending_value roles.pending_address 0;
                  stands =
                      subst (λ (z : ℕ). IsInstructionAt places.program.start places.program.code z (StoreInstr Sd roles.pending_value roles.pending_address 0))
                      (store_at r meets_r)
                      (subst (λ (q : Program). IsInstructionAt q.start q.code own_store.store (StoreInstr Sd roles.pending_value roles.pending_address 0))
                      (sym of_program) own_store.stands);
                  does =
                      subst (λ (z : ℕ). row (StoreInstr Sd roles.pending_value roles.pending_address 0) y z ≡ Stores word 8 value) (store_at r meets_r)
                      (own_store.does y small ∙ ap (λ (z : ℕ). Stores z 8 value) address);
                };
                plain =
                    subst (λ (z : ℕ). marked places.program.nodes z ≡ []) (store_at r meets_r)
                    (subst (λ (q : Program). marked q.nodes own_store.store ≡ []) (sym of_program) own_store.plain);
                passes =
                    parts.then_goes it words agrees.words ev.next (of_next target ev) g r meets_r y (places.store node) seen_store P
                    (moved r y own_store.store (places.store node) (to goes_at) (to goes_at) does_words seen_store P (store_at r meets_r) refl
                    (weaker r (fragment y own_store.store (to goes_at) does_words) seen_store (λ z. z ≡ y) P (λ z is_y. subst P (sym is_y) after)
                    (subst (λ (z : ℕ). GoesThrough r (fragment y own_store.store (to goes_at) does_words) (Does (Stores z 8 value) ∷ []) (λ v. v ≡ y)) address
                    (own_store.stores y small))));
              }

          pub sets_plain : (IsLogged p t node → ⊥) → Performs p t places m effect
          sets_plain none =
              subst (λ (z : Home). SetsIn p t places z m local number ev.next) (sym home) (
                λ logged'. absurd (none logged'),
                λ _. record {
                  computes = computes;
                  stores = λ at' meets' same_node same_seen may.
                      stores_by at'.environment meets' at'.node at'.seen at'.view at'.owed at'.registers same_node same_seen may;
                },
              )
            where
              stores_by : (r : MarkedEnvironment) (meets' : Meets places.program r) (k : ℕ) (seen' : Seen) (view' : LogView) (owed' : ℤ) (y : List ℕ) →
                  k ≡ node → seen' ≡ seen → MayAssign p t k local number seen' view' y →
                  StoresPlain p t places (record { environment = r; node = k; seen = seen'; view = view'; owed = owed'; registers = y }) word local number
                  ev.next
              stores_by r meets' k seen' view' owed' y same_node same_seen may =
                  let F : ℕ → Seen → Type 0 = λ j z. MayAssign p t j local number z view' y →
                  StoresPlain p t places (record { environment = r; node = j; seen = z; view = view'; owed = owed'; registers = y }) word local number ev.next
                  in
                  subst (λ (j : ℕ). F j seen') (sym same_node)
                  (subst (λ (z : Seen). F node z) (sym same_seen)
                  (stores r (subst (λ (q : Program). Meets q r) of_program meets') owed' view' y)) may

      -- a store is pending after it
      module _ (target : e.Lvalue) (ev : Evaluates it s seen target) (store : Pending) (variable : ℕ) (kind : Kind) (assigns : is.assigns ≡ None)
          (stores : StoresThere p.graph.nodes ev.next variable kind) (writes : (r : ℕ) → may_write h target r ≡ spare r)
          (has_it : (y : List ℕ) → IsAssigned h src target ev.val.expr x y → HasPending p store variable kind y) where
        pub owes_it : IsEvaluation h target ev.val.expr does → GoesTo p t c node ev.next goes → Performs p t places m (a.Owes store ev.next)
        owes_it d g = eval_goes target ev d g _ (λ y got.
            enters_owing p t plan of node ev.next is at (follows target ev) seen view x enters (record seen { pending = Some store }) y store variable kind
            assigns refl refl
            (at_side_on p.log side x y enters.at_side got.are (got.unchanged 3 (writes 3)))
            (λ r is_one. got.unchanged r (writes r ∙ local_spare r is_one)) stores (has_it y got))

      -- ---- Stores

      module _ (variable : ℕ) (kind : Kind) (next : ℕ) (same : is.action ≡ Store variable kind next)
          (known : StoreKnown p.flat t.kinds t.part.first t.part.end p.graph.nodes variable kind next is) (makes : Makes kind (c.cleans node) does does_site)
          (goes_to : GoesTo p t c node next goes) (store : Pending) (pending : seen.pending ≡ Some store) where
        owing : HasPending p store variable kind x
        owing = subst (λ (b : Action). IsPendingIn p b seen x) same (enters.pending is at) store pending

        abbrev address : ℕ
        address = variable_at (map shape_of p.flat.variables) store.variable store.element

        small : read x roles.pending_address < 2 ^ 64
        small = subst (λ (z : ℕ). z < 2 ^ 64) (sym owing.address) owing.below

        module _ (k : Kind) (there : kind_at p.flat.variables store.variable ≡ Some k) where
          kinds : kind ≡ k
          kinds =
              let declared : kind_at p.flat.variables variable ≡ Some known.declared.it.kind =
              slice_get-map (λ (z : v.Variable). z.kind) p.flat.variables variable ∙ ap (option_map (λ (z : v.Variable). z.kind)) known.declared.found in
              sym known.declared.kind ∙
              same_Some known.declared.it.kind k (sym declared ∙ ap (λ (z : ℕ). kind_at p.flat.variables z) (sym owing.variable_is) ∙ there)

          stores_same : Stores (read x roles.pending_address) (bytes_of kind) (read x roles.pending_value) ≡
              Stores address (bytes_of k) (read x roles.pending_value)
          stores_same =
              ap (λ (z : ℕ). Stores z (bytes_of kind) (read x roles.pending_value)) owing.address ∙
              ap (λ (j : Kind). Stores address (bytes_of j) (read x roles.pending_value)) kinds

          observations_same : store_observations (read x roles.pending_address) (bytes_of kind) (read x roles.pending_value) (c.cleans node) ≡
              store_observations address (bytes_of k) (read x roles.pending_value) (places.cleans node)
          observations_same =
              ap (λ (z : ℕ). store_observations z (bytes_of kind) (read x roles.pending_value) (c.cleans node)) owing.address ∙
              ap (λ (j : Kind). store_observations address (bytes_of j) (read x roles.pending_value) (c.cleans node)) kinds ∙
              ap (λ (b : Bool). store_observations address (bytes_of k) (read x roles.pending_value) b) (sym cleans)

          storing : Storing p t places m k store
          storing = record {
            instr = makes.instr;
            stands =
                subst (λ (z : ℕ). IsInstructionAt places.program.start places.program.code z makes.instr) (sym agrees.core)
                (subst (λ (q : Program). IsInstructionAt q.start q.code (to does_at) makes.instr) (sym of_program) makes.stands);
            does = ap (λ (z : ℕ). row makes.instr x z) agrees.core ∙ makes.first x small ∙ stores_same;
            value = subst (λ (j : Kind). HasLowBytes x roles.pending_value j store.number) kinds owing.value;
          }

          made : GoesThrough s (fragment x (places.core node) (places.entry next) words)
              (store_observations address (bytes_of k) (read x roles.pending_value) (places.cleans node))
              (Enters p t next (record seen { pending = None }) view)
          made = then_next next (record { from_first = known.inside.0; below_end = known.inside.1 }) goes_to x
              (store_observations address (bytes_of k) (read x roles.pending_value) (places.cleans node))
              (Enters p t next (record seen { pending = None }) view)
              (subst (λ (ss : List Observation). GoesThrough s (fragment x (to does_at) (to goes_at) does_words) ss
              (Enters p t next (record seen { pending = None }) view)) observations_same
              (weaker s (fragment x (to does_at) (to goes_at) does_words)
              (store_observations (read x roles.pending_address) (bytes_of kind) (read x roles.pending_value) (c.cleans node)) (λ y. y ≡ x)
              (Enters p t next (record seen { pending = None }) view)
              (λ y is_x. enters_on p t plan of node next is at (subst (λ (b : Action). Contains (successors b) next) (sym same)
              (0, omega arith, refl)) seen view x enters
              (record seen { pending = None }) view y known.assigns (ap owes same) refl
              (subst (λ (z : List ℕ). IsOnSide p.log side z) (sym is_x) enters.at_side) (λ word. refl)
              (λ r is_one. ap (λ (z : List ℕ). read z r) is_x))
              (makes.makes x are small)))

        pub makes_it : Performs p t places m (a.Makes store next)
        makes_it k there = (storing k there, made k there)

      -- ---- Tests

      module _ (condition : e.Placed) (holds fails : ℕ) (same : is.action ≡ Test condition holds fails)
          (known : TestKnown p.flat t.kinds t.part.first t.part.end p.graph.nodes condition holds fails is)
          (answered : IsAnswered src s.around.loads (Test condition holds fails)) where
        abbrev zero_there : Bool
        zero_there = is_zero (number_in seen condition.expr)

        tested : (turns : Bool) (label : ℕ) → IsTest h condition.expr turns label does →
            GoesThrough s (fragment x (to does_at)
            (if is_taken turns (value src.locals src.numbers condition.expr) then label_of does does_site label else to goes_at)
            does_words)
            (Mark ∷ []) (IsTested x)
        tested turns label test =
            (test.at does_site).tests src x are
            (may_evaluate p t plan of seen s.around x condition known.condition_is (subst (λ (ls : List ℕ). HoldsEach h src loads x ls) known.uses held_all)
            answered)

        after_it : (next : ℕ) → Contains (successors (Test condition holds fails)) next → (y : List ℕ) → IsTested x y → Enters p t next seen view y
        after_it next goes_on y got =
            enters_on p t plan of node next is at (subst (λ (b : Action). Contains (successors b) next) (sym same) goes_on) seen view x enters seen view y
            known.assigns (ap owes same) refl (at_side_on p.log side x y enters.at_side got.are (got.unchanged 3 refl)) (λ word. refl)
            (λ r is_one. got.unchanged r (local_plain r is_one))

        of_holds : IsNodeOf t holds
        of_holds = record { from_first = known.holds_inside.0; below_end = known.holds_inside.1 }

        of_fails : IsNodeOf t fails
        of_fails = record { from_first = known.fails_inside.0; below_end = known.fails_inside.1 }

        label_is : (next : ℕ) → IsNodeOf t next → label_of does does_site (label_of_node p t c next) ≡ places.entry next
        label_is next of_next = sited.labels next of_next

        -- to the label, or to what stands after the branch
        to_label : (next : ℕ) → IsNodeOf t next → Contains (successors (Test condition holds fails)) next →
            GoesThrough s (fragment x (to does_at) (label_of does does_site (label_of_node p t c next)) does_words) (Mark ∷ []) (IsTested x) →
            GoesThrough s (fragment x (places.core node) (places.entry next) words) (Mark ∷ []) (Enters p t next seen view)
        to_label next of_next goes_on leg =
            within x (places.entry next) (Mark ∷ []) (Enters p t next seen view)
            (weaker s (fragment x (to does_at) (places.entry next) does_words) (Mark ∷ []) (IsTested x) (Enters p t next seen view) (after_it next goes_on)
            (moved s x (to does_at) (to does_at) (label_of does does_site (label_of_node p t c next)) (places.entry next) does_words (Mark ∷ [])
            (IsTested x) refl
            (label_is next of_next) leg))

        to_next : (next : ℕ) → IsNodeOf t next → Contains (successors (Test condition holds fails)) next → GoesTo p t c node next goes →
            GoesThrough s (fragment x (to does_at) (to goes_at) does_words) (Mark ∷ []) (IsTested x) →
            GoesThrough s (fragment x (places.core node) (places.entry next) words) (Mark ∷ []) (Enters p t next seen view)
        to_next next of_next goes_on goes_to leg =
            then_next next of_next goes_to x (Mark ∷ []) (Enters p t next seen view)
            (weaker s (fragment x (to does_at) (to goes_at) does_words) (Mark ∷ []) (IsTested x) (Enters p t next seen view) (after_it next goes_on) leg)

        first_follows : Contains (holds ∷ fails ∷ []) holds
        first_follows = (0, omega arith, refl)

        second_follows : Contains (holds ∷ fails ∷ []) fails
        second_follows = (1, omega arith, refl)

        pub tests_it : IsChoosing p t c node condition holds fails does goes → Performs p t places m (a.Goes (if zero_there then fails else holds))
        tests_it (turned next_is test none) = by zero_there (tested true (label_of_node p t c fails) test)
          where
            by : (z : Bool) → GoesThrough s (fragment x (to does_at)
                (if (if true then z else not z) then label_of does does_site (label_of_node p t c fails) else to goes_at)
                does_words) (Mark ∷ []) (IsTested x) →
                GoesThrough s (fragment x (places.core node) (places.entry (if z then fails else holds)) words) (Mark ∷ [])
                (Enters p t (if z then fails else holds) seen view)
            by true leg = to_label fails of_fails second_follows leg
            by false leg = to_next holds of_holds first_follows (record { follows = λ e1. none; jumps = λ other. absurd (other next_is) }) leg
        tests_it (straight test goes_to) = by zero_there (tested false (label_of_node p t c holds) test)
          where
            by : (z : Bool) → GoesThrough s (fragment x (to does_at)
                (if (if false then z else not z) then label_of does does_site (label_of_node p t c holds) else to goes_at)
                does_words) (Mark ∷ []) (IsTested x) →
                GoesThrough s (fragment x (places.core node) (places.entry (if z then fails else holds)) words) (Mark ∷ [])
                (Enters p t (if z then fails else holds) seen view)
            by true leg = to_next fails of_fails second_follows goes_to leg
            by false leg = to_label holds of_holds first_follows leg

      -- ---- Locks and unlocks

      -- registers may enter this node
      enters_here : MayEnter p t seen.locals node s.around x
      enters_here = record { seen = seen; view = view; enters = enters; locals_are = refl; frame = frame }

      module _ (next : ℕ) (none : is.assigns ≡ None) (free : owes is.action ≡ false) (follows_it : Contains (successors is.action) next) where
        -- a call's registers are no local's
        asks_enter : (number mutex : ℕ) (other : LogView) (z y : List ℕ) → IsOnSide p.log other.side z → ((word : ℕ) → other.frame word ≡ view.frame word) →
            ((r : ℕ) → is_local r ≡ true → read z r ≡ read x r) →
            Asks number mutex z y →
            Asking p t places number mutex next seen other y
        asks_enter number mutex other z y on_side on kept asks = record {
          call = asks.call;
          lock = asks.lock_is;
          enters = enters_on p t plan of node next is at follows_it seen view x enters seen other y none free refl
              (at_side_on p.log other.side z y on_side asks.are
              (asks.others 3 refl (λ e1. let w : ⊥ = omega (arith, e1) in w) (λ e1. let w : ⊥ = omega (arith, e1) in w))) on
              (λ r is_one. asks.others r (local_plain r is_one) (local_other r 10 refl is_one) (local_other r 17 refl is_one) ∙ kept r is_one);
        }

        -- and the next one already
        enters_next : MayEnter p t seen.locals next s.around x
        enters_next = record {
          seen = seen;
          view = view;
          enters =
              enters_on p t plan of node next is at follows_it seen view x enters seen view x none free refl enters.at_side (λ word. refl) (λ r is_one. refl);
          locals_are = refl;
          frame = answered_on p t plan of node next is at follows_it seen view x enters none s.around.loads frame;
        }

      pub takes_it : (lock : LockName) (next : ℕ) → is.action ≡ Lock lock next → CallKnown p.flat t.kinds t.part.first t.part.end p.graph.nodes lock next is →
          (locks : Locks (boundary_at p t c (opens_section p t node) seen.locals next 0) (MayEnter p t seen.locals node) (MayEnter p t seen.locals next)
          (lock_number seen.locals lock) does does_site) → places.call node ≡ locks.call → Performs p t places m (a.Takes (lock_number seen.locals lock) next)
      takes_it lock next same known locks call =
          let number : ℕ = lock_number seen.locals lock in
          within x (places.call node) [] (Asking p t places takes number next seen view)
          (moved s x (to does_at) (to does_at) locks.call (places.call node) does_words [] (Asking p t places takes number next seen view) refl (sym call)
          (weaker s (fragment x (to does_at) locks.call does_words) [] (Asks takes number x) (Asking p t places takes number next seen view)
          (λ y asks. asks_enter next known.assigns (ap owes same) (subst (λ (b : Action). Contains (successors b) next) (sym same)
          (0, omega arith, refl)) takes number
          view x y enters.at_side (λ word. refl) (λ r is_one. refl) asks)
          (locks.asks x enters_here are)))

      pub gives_it : (lock : LockName) (next : ℕ) → is.action ≡ Unlock lock next → CallKnown p.flat t.kinds t.part.first t.part.end p.graph.nodes lock next is →
          (resume : ℕ) (unlocks : Unlocks (boundary_at p t c false seen.locals next resume) (MayEnter p t seen.locals node) (MayEnter p t seen.locals next)
          (lock_number seen.locals lock) does does_site) →
          places.call node ≡ unlocks.call →
          places.after node ≡ to goes_at →
          Performs p t places m (a.Gives (lock_number seen.locals lock) next)
      gives_it lock next same known resume unlocks call after =
          let number : ℕ = lock_number seen.locals lock in
          let b : Boundary = boundary_at p t c false seen.locals next resume in
          let P : List ℕ → Type 0 = Asking p t places gives number next seen (view_after b view) in
          let observations : List Observation = Mark ∷ boundary_observations (keeping p t places false seen.locals next) side (places.after node) x in
          let lockstep : Mark ∷ boundary_observations b side (to goes_at) x ≡ observations =
          ap (λ (z : ℕ). Mark ∷ boundary_observations b side z x) (sym after) ∙
          ap (λ (ls : List ℕ). Mark ∷ boundary_observations
          (record { log = p.log; thread = t.number; locks = b.locks; live = ls; resume = pos 0; written = None; opens = false }) side
          (places.after node) x) (sym (live_are next)) in
          within x (places.call node) observations P
          (moved s x (to does_at) (to does_at) unlocks.call (places.call node) does_words observations P refl (sym call)
          (subst (λ (ss : List Observation). GoesThrough s (fragment x (to does_at) unlocks.call does_words) ss P) lockstep
          (weaker s (fragment x (to does_at) unlocks.call does_words) (Mark ∷ boundary_observations b side (to goes_at) x)
          (λ y. (z : List ℕ) × LeavesRegisters b side x z × Asks gives number z y) P
          (λ y got. asks_enter next known.assigns (ap owes same) (subst (λ (d : Action). Contains (successors d) next) (sym same)
          (0, omega arith, refl)) gives number
          (view_after b view) got.0 y got.1.at_side (λ word. refl) (λ r is_one. got.1.others r (local_plain r is_one) (local_other r 3 refl is_one)) got.2)
          (unlocks.asks x side enters_here
          (enters_next next known.assigns (ap owes same) (subst (λ (d : Action). Contains (successors d) next) (sym same) (0, omega arith, refl)))
          enters.at_side))))

      pub ends_it : (ending : IsEndPiece does does_site) → places.call node ≡ ending.call → Performs p t places m a.Ends
      ends_it ending call =
          within x (places.call node) (Mark ∷ []) (λ y. read y roles.call ≡ ends)
          (moved s x (to does_at) (to does_at) ending.call (places.call node) does_words (Mark ∷ []) (λ y. read y roles.call ≡ ends) refl (sym call)
          (ending.asks x are))
