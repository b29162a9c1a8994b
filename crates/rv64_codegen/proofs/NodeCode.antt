-- The code of one node is its piece's.
use Rattle.std.proofs.Common.{◌≡◌, ◌↔◌, ℕ, ◌+◌, ◌-◌, ◌*◌, ◌<◌, ◌≤◌, List, [], ◌∷◌, ◌++◌, length, map, refl, ap, arith, sym, ◌∙◌, subst, Bool, true, false}
use Rattle.std.proofs.Common.{Option, Some, None, if◌then◌else◌}
use Rattle.std.specs.Prelude.{slice_index_or, pos, sum_by, ℤ}
use Rattle.std.proofs.lemmas.List.Sums.{sum_by-append}
use Rattle.std.proofs.lemmas.Option.{none-some, same_Some, slice_get_within}
use Rattle.ido_base.specs.declared.place.Place.{Place}
use Rattle.ido_ints.specs.declared.kinds.Kind.{Kind}
use Rattle.ido_ints.specs.declared.kinds.Kind.TheVariants.{UnsignedLong}
use Rattle.ido_ints.specs.TypedNumbers.{typed}
use Rattle.expr_code.specs.EvaluationCode.{HomeCarries, home_of}
use Rattle.expr_code.specs.declared.home.Home.{Home}
use Rattle.expr_code.specs.declared.home.Home.TheVariants.{InFrame}
use Rattle.ido_ints.specs.Operators.{is_zero}
use Rattle.ido_ints.specs.Reduction.{reduced}
use Rattle.c_tree.specs.Exprs as e
use Rattle.c_tree.specs.LockDiscipline.{expr_locals}
use Rattle.c_tree.specs.Prices.{node_price}
use Rattle.c_tree.specs.Source.{Pending}
use Rattle.c_tree.specs.WellFormed.{shape_of}
use Rattle.rv64_isa.specs.declared.instr.Instr.TheVariants.{Ecall}
use Rattle.rv64_isa.specs.declared.object.CodeItem.{CodeItem}
use Rattle.rv64_link.specs.LabelledCode.{most_words_of, fences_in}
use Rattle.rv64_link.specs.LinkedCode.{IsInstructionAt, AreInstructions}
use Rattle.memory_layout.specs.Roles.{pending_value}
use Rattle.boundary_code.specs.Boundaries.{Boundary, IsOnSide}
use Rattle.code_runs.specs.ComputingRuns.{config}
use Rattle.code_runs.specs.CodeTraces.{Program, MarkedEnvironment, Meets, Observation, GoesThrough, marked}
use Rattle.flow_graph.specs.Nodes.{Action, Eval, Store, Test, Lock, Unlock, End, Node}
use Rattle.flow_graph.specs.Actions as a
use Rattle.flow_graph.specs.Actions.{Seen, effect_of, number_in, element_in}
use Rattle.flow_graph.specs.OmittedCleans.{IsCleanedLater}
use Rattle.flow_graph.specs.IdempotentCuts.{IsChosen}
use Rattle.node_code.specs.Sites.{Site}
use Rattle.node_code.specs.Pieces.{IsStorePiece, LeavesRegisters, boundary_observations, Locks, words_in}
use Rattle.node_code.proofs.Public.{fragment, more_room, moved, part_instructions, two_legs, weaker, words_are_few}
use Rattle.thread_code.specs.Plans.{Plan, Thread, IsLogged, IsNodeOf, homes, hold_words}
use Rattle.thread_code.specs.RegistersAtNodes.{Enters, IsAnswered, IsFrameAnswered, IsPendingIn, IsReady, LogView, MayAssign, frame_loads, source_of}
use Rattle.thread_code.specs.RegistersAtNodes.{to_assign, to_enter}
use Rattle.thread_code.specs.NodeCodeEffects.{Places, Entrance, EntersAt, IsAnsweredAt, IsOwed, keeping, keeping_before, BoundaryAfter, BoundaryBefore}
use Rattle.thread_code.specs.NodeCodeEffects.{Performs, SetsLogged}
use Rattle.thread_code.specs.NodeCodeEffects.{GoesOnAfter, view_after}
use Rattle.thread_code.specs.Programs.{IsAtOwnCore, IsAtOwnNode, IsPlainCall, IsCalling, IsCleaning, IsNodeCode, IsWithin, action_nodes, boundary_count}
use Rattle.thread_code.specs.Programs.{names_kept}
use Rattle.rv64_codegen.specs.ThreadPieces.{Choices, GoesTo, IsComputedBefore, computed, nothing, IsGuard, IsSetting, in_register, in_section, outside}
use Rattle.rv64_codegen.specs.ThreadPieces.{IsDoing, MayEnter}
use Rattle.rv64_codegen.specs.ThreadPieces.{boundary_at, boundary_before, opens_section}
use Rattle.rv64_codegen.proofs.ReadLocals.{left_held}
use Rattle.rv64_codegen.proofs.Nodes.{Known}
use Rattle.rv64_codegen.proofs.PieceSites.{Spot, spot_site, site_in, bare, bare_meets}
use Rattle.rv64_codegen.proofs.FenceCounts.{piece_fences}
use Rattle.rv64_codegen.proofs.LegalEvaluations.{variable_below, element_below, reads_held}
use Rattle.rv64_codegen.proofs.RegistersAfterNodes.{low_bytes}
use Rattle.rv64_codegen.proofs.PieceParts as parts
use Rattle.rv64_codegen.proofs.PieceParts.{PlacedNode, HasPlaces, call_of, does_in}
use Rattle.rv64_codegen.proofs.NodeCorrectness as performs
use Rattle.rv64_codegen.proofs.NodeCorrectness.{Evaluates, enters_kept, enters_of, ready_kept}
use Rattle.rv64_codegen.proofs.GuardParts as guards
use Rattle.rv64_codegen.proofs.KnownNodes.{assigns_here, known_of, logged_home, logged_local, logged_sets, not_logged, nothing_pending, sets_local}
use Rattle.rv64_codegen.proofs.LocalRegisters.{word_of}
use Rattle.c_tree.specs.Values.{lock_number}

first_same : (x y : ℕ) → x ∷ [] ≡ y ∷ [] → x ≡ y
first_same x y same = ap (λ (xs : List ℕ). slice_index_or xs 0 0) same

module _ {p : Plan} {t : Thread} {c : Choices} (places : Places) (it : PlacedNode p t c places.entry) (has : HasPlaces places it)
    (price : sum_by most_words_of (it.before ++ (it.does ++ it.goes))
    ≤ node_price (action_nodes it.is.action) + hold_words p.log (names_kept p t it.is.action it.node)) where
  open it use {program, items, n, node, is, at, before, does, goes, guarded, doing, sited}
  open has use {plan, of, choices, own, agrees}

  abbrev addr : ℕ → ℕ
  addr k = n.linked.address_of k

  abbrev core_at : ℕ
  core_at = parts.does_at it

  abbrev on_at : ℕ
  on_at = parts.goes_at it

  abbrev words : ℕ
  words = places.words node

  abbrev site_of : (s : MarkedEnvironment) → Meets program s → Site does
  site_of s meets = does_in it s meets

  abbrev bare_site : Site does
  bare_site = site_of (bare program) (bare_meets program)

  met : (s : MarkedEnvironment) → Meets places.program s → Meets program s
  met s h = subst (λ (q : Program). Meets q s) agrees.of_program h

  abbrev entrance : MarkedEnvironment → Seen → LogView → ℤ → List ℕ → Entrance
  entrance s seen view owed x = record { environment = s; node = node; seen = seen; view = view; owed = owed; registers = x }

  -- what is said of an entrance at the node is said of any
  at_node : (Q : Entrance → Type 0) → ((s : MarkedEnvironment) (seen : Seen) (view : LogView) (owed : ℤ) (x : List ℕ) → Q (entrance s seen view owed x)) →
      (m : Entrance) → m.node ≡ node → Q m
  at_node Q f m same =
      subst (λ (k : ℕ). Q (record { environment = m.environment; node = k; seen = m.seen; view = m.view; owed = m.owed; registers = m.registers })) (sym same)
      (f m.environment m.seen m.view m.owed m.registers)

  -- ---- The boundary before it

  module _ (g : IsGuard p t c node is.action before) (s : MarkedEnvironment) (meets : Meets places.program s) (seen : Seen) (view : LogView) (owed : ℤ)
      (x : List ℕ) (enters : Enters p t node seen view x) (frame : IsFrameAnswered p t view node s.around.loads) where
    abbrev b : Boundary
    b = boundary_before p t c is.action seen.locals node

    abbrev m : Entrance
    m = entrance s seen view owed x

    abbrev spot : Spot items before
    spot = parts.before_spot it

    abbrev mid : ℕ
    mid = guards.keeps_at p t c node is.action before g n spot

    abbrev Ready : List ℕ → Type 0
    Ready y = IsReady p t node seen (view_after b view) owed y

    abbrev keeping_site : Site g.keeping
    keeping_site = spot_site n g.keeping (guards.keeping_spot p t c node is.action before g n spot) s (met s meets)

    abbrev computing_site : Site g.computing
    computing_site = spot_site n g.computing (guards.computing_spot p t c node is.action before g n spot) s (met s meets)

    abbrev computing_words : ℕ
    computing_words =
        words_in g.computing (spot_site n g.computing (guards.computing_spot p t c node is.action before g n spot) (bare program) (bare_meets program))

    abbrev keeping_words : ℕ
    keeping_words = words_in g.keeping (spot_site n g.keeping (guards.keeping_spot p t c node is.action before g n spot) (bare program) (bare_meets program))

    abbrev seen_boundary : List ℕ → List Observation
    seen_boundary y = boundary_observations (keeping_before p t places is.action seen.locals node) view.side (places.core node) y

    -- the boundary tells places and addresses as they are
    told : (y : List ℕ) → boundary_observations b view.side (addr (mid + length g.keeping)) y ≡ seen_boundary y
    told y =
        ap (λ (z : ℕ). boundary_observations b view.side z y) (guards.keeping_ends p t c node is.action before g n spot ∙ sym agrees.core)
        ∙ ap (λ (ls : List ℕ). boundary_observations (record {
          log = p.log;
          thread = t.number;
          locks = b.locks;
          live = ls;
          resume = pos 0;
          written = b.written;
          opens = false;
        }) view.side (places.core node) y) (sym (agrees.kept_are node))

    -- from registers with which the thread enters, and may go on at the core
    keeps_leg : (y : List ℕ) → Enters p t node seen view y → IsReady p t node seen view owed y →
        GoesThrough s (fragment y (addr mid) (places.core node) keeping_words) (seen_boundary y) Ready
    keeps_leg y here ready =
        subst (λ (ss : List Observation). GoesThrough s (fragment y (addr mid) (places.core node) keeping_words) ss Ready) (told y)
        (moved s y (addr mid) (addr mid) (addr (mid + length g.keeping)) (places.core node) keeping_words
        (boundary_observations b view.side (addr (mid + length g.keeping)) y) Ready refl
        (guards.keeping_ends p t c node is.action before g n spot ∙ sym agrees.core)
        (weaker s (fragment y (addr mid) (addr (mid + length g.keeping)) keeping_words) (boundary_observations b view.side (addr (mid + length g.keeping)) y)
        (LeavesRegisters b view.side y) Ready
        (λ z left. ready_kept p t plan of c choices is.action node own seen view owed y z ready left)
        (((g.keeps seen.locals).at keeping_site).keeps y view.side
        (record { seen = seen; view = view; enters = here; locals_are = refl; frame = frame }) here.at_side)))

    both_legs : (y : List ℕ) → GoesThrough s (fragment x (addr sited.position) (addr mid) computing_words) [] (λ z. z ≡ y) → Enters p t node seen view y →
        (¬ (IsLogged p t node) → y ≡ x) → IsReady p t node seen view owed y → BoundaryBefore p t places m is.action
    both_legs y leg here same ready = record {
      registers = y;
      same = same;
      ready = ready;
      passes =
          subst (λ (z : ℕ). GoesThrough s (fragment x (places.entry node) z words) (seen_boundary y) Ready) (sym agrees.core)
          (parts.then_core it words agrees.words s x (seen_boundary y) Ready
          (more_room s x (addr sited.position) (addr core_at) (computing_words + keeping_words) (parts.before_words it) (seen_boundary y) Ready
          (let same = guards.guard_words p t c node is.action before g n spot in omega (arith, same))
          (subst (λ (z : ℕ). GoesThrough s (fragment x (addr sited.position) z (computing_words + keeping_words)) (seen_boundary y) Ready) agrees.core
          (two_legs s x (addr sited.position) (addr mid) (places.core node) computing_words keeping_words [] (seen_boundary y) (λ z. z ≡ y) Ready leg
          (λ z is_y. subst (λ (v : List ℕ). GoesThrough s (fragment v (addr mid) (places.core node) keeping_words) (seen_boundary y) Ready) (sym is_y)
          (keeps_leg y here ready))))));
    }

    -- what a thread enters a node with but its registers stands in the frame, where locals do
    enters_with : (y : List ℕ) → IsLogged p t node → IsOnSide p.log view.side y → Enters p t node seen view y
    enters_with y logged on_side = record {
      at_side = on_side;
      count = enters.count;
      locals = λ local k there live.
          let home = logged_home p t plan of node is at logged local (slice_get_within t.kinds local k there) in
          subst (λ (z : Home). HomeCarries (frame_loads view) y z (typed k (slice_index_or seen.locals local (pos 0)))) (sym home)
          (subst (λ (z : Home). HomeCarries (frame_loads view) x z (typed k (slice_index_or seen.locals local (pos 0)))) home
          (enters.locals local k there live));
      pending = λ other there.
          let same : is ≡ other = same_Some is other (sym at ∙ there) in
          subst (λ (z : Node). IsPendingIn p z.action seen y) same (nothing_pending p is.action seen y (logged_sets p t plan of node is at logged));
    }

    guards_by : IsComputedBefore p t c node is.action g.computing → IsAnswered (source_of p t seen) s.around.loads is.action → IsOwed p t places m is.action →
        BoundaryBefore p t places m is.action
    guards_by (nothing none empty) answered owed_is =
        both_legs x
        (record {
          registers = x;
          steps = 0;
          walks = (
            ap (λ (z : ℕ). config x z) (let l : length g.computing ≡ 0 = ap (λ (xs : List CodeItem). length xs) empty in
                let same : sited.position ≡ mid = omega (arith, l) in ap addr same),
            refl,
          );
          short = omega arith;
          are = refl;
        })
        enters (λ plain. refl) (to_enter none enters)
    guards_by (computed logged place local kind value next same prep) answered owed_is =
        let target : e.Lvalue = e.ToLocal place local kind in
        let known = subst (λ (d : Action). Known p.flat t.kinds t.part.first t.part.end p.graph.nodes is d) same (known_of p t plan of node is own at) in
        let ev : Evaluates it s seen target = record {
          val = value;
          next = next;
          same = same;
          known = known;
          answered = subst (λ (d : Action). IsAnswered (source_of p t seen) s.around.loads d) same answered;
        } in
        let number : ℤ = reduced kind (number_in seen value.expr) in
        let below : local < length t.kinds = slice_get_within t.kinds local kind known.target_is.0 in
        let home = logged_home p t plan of node is at logged local below in
        let leg = (prep.at computing_site).prepares (source_of p t seen) x (performs.are places it has s (met s meets) seen view owed x enters frame)
        (performs.reaches places it has s (met s meets) seen view owed x enters frame target ev)
        (performs.evaluates places it has s (met s meets) seen view owed x enters frame target ev) in
        let y : List ℕ = leg.registers in
        let may : MayAssign p t node local number seen view y =
        performs.may_set places it has s (met s meets) seen view owed x enters frame place local kind ev (word_of p t plan of local) home y leg.are in
        let owes_it : number ≡ owed =
        sym (subst (λ (d : Action). IsOwed p t places m d) same owed_is local number next refl) in
        let mine : MayAssign p t node logged.local owed seen view y =
        subst (λ (l : ℕ). MayAssign p t node l owed seen view y) (sym (logged_local p t plan of node is at logged place local kind value next same))
        (subst (λ (z : ℤ). MayAssign p t node local z seen view y) owes_it may) in
        both_legs y (record { registers = y; steps = leg.steps; walks = leg.walks; short = leg.short; are = refl }) (enters_with y logged may.at_side)
        (λ plain. absurd (plain logged)) (to_assign logged mine)

  chosen : IsChosen p.graph p.boundaries node → (m : Entrance) → m.node ≡ node → IsAtOwnNode p t places m → IsAnsweredAt p t places m is.action →
      IsOwed p t places m is.action → BoundaryBefore p t places m is.action
  chosen ch m same =
      at_node (λ (k : Entrance). IsAtOwnNode p t places k → IsAnsweredAt p t places k is.action → IsOwed p t places k is.action →
      BoundaryBefore p t places k is.action)
      (λ s seen view owed x is_at answered owed_is.
      guards_by (guarded.chosen ch) s is_at.meets seen view owed x is_at.enters answered.frame (guarded.chosen ch).computes answered.variables owed_is) m same

  plain : (IsChosen p.graph p.boundaries node → ⊥) → places.entry node ≡ places.core node
  plain free =
      let none : before ≡ [] = guarded.plain free in
      let e1 : sited.position ≡ sited.position + length before = let l : length before ≡ 0 = ap length none in omega (arith, l) in
      sym sited.begin ∙ ap addr e1 ∙ sym agrees.core

  -- ---- What it does

  -- a call stands at one address in all environments, whatever numbers locals have
  lock_call : (lock : e.LockName) (next : ℕ) (d : IsDoing p t c node (Lock lock next) does goes) (s : MarkedEnvironment) (meets : Meets program s)
      (locals : List ℤ) → ((d.0 locals).at (site_of s meets)).call ≡ ((d.0 []).at bare_site).call
  lock_call lock next d s meets locals = first_same _ _ (sym ((d.0 locals).at (site_of s meets)).marks ∙ ((d.0 []).at bare_site).marks)

  unlock_call : (lock : e.LockName) (next : ℕ) (d : IsDoing p t c node (Unlock lock next) does goes) (s : MarkedEnvironment) (meets : Meets program s)
      (locals : List ℤ) → ((d.0.1 locals).at (site_of s meets)).call ≡ ((d.0.1 []).at bare_site).call
  unlock_call lock next d s meets locals =
      let here : addr on_at ≡ ((d.0.1 locals).at (site_of s meets)).call + 4 = ((d.0.1 locals).at (site_of s meets)).after in
      let there : addr on_at ≡ ((d.0.1 []).at bare_site).call + 4 = ((d.0.1 []).at bare_site).after in
      omega (arith, here, there)

  end_call : (d : IsDoing p t c node End does goes) (s : MarkedEnvironment) (meets : Meets program s) →
      (d.0.at (site_of s meets)).call ≡ (d.0.at bare_site).call
  end_call d s meets =
      let here : addr on_at ≡ (d.0.at (site_of s meets)).call + 4 = (d.0.at (site_of s meets)).after in
      let there : addr on_at ≡ (d.0.at bare_site).call + 4 = (d.0.at bare_site).after in
      omega (arith, here, there)

  module _ (s : MarkedEnvironment) (meets : Meets program s) (seen : Seen) (view : LogView) (owed : ℤ) (x : List ℕ) where
    abbrev By : a.Effect → Type 0
    By effect = Performs p t places (entrance s seen view owed x) effect

    -- a logged assignment, from registers with which its core may be gone on with
    does_logged : (place : Place) (local : ℕ) (kind : Kind) (val : e.Placed) (next : ℕ) → is.action ≡ Eval (e.ToLocal place local kind) val next →
        Known p.flat t.kinds t.part.first t.part.end p.graph.nodes is (Eval (e.ToLocal place local kind) val next) → (word : ℕ) →
        home_of t.locals local ≡ InFrame word → IsLogged p t node → IsStorePiece UnsignedLong true does → GoesTo p t c node next goes →
        IsReady p t node seen view owed x → owed ≡ reduced kind (number_in seen val.expr) → By (a.Sets local (reduced kind (number_in seen val.expr)) next)
    does_logged place local kind val next same known word home logged d g (to_enter none h) owed_is = absurd (none logged)
    does_logged place local kind val next same known word home logged d g (to_assign own_logged may) owed_is =
        let mine : MayAssign p t node local (reduced kind (number_in seen val.expr)) seen view x =
        subst (λ (l : ℕ). MayAssign p t node l (reduced kind (number_in seen val.expr)) seen view x)
        (logged_local p t plan of node is at own_logged place local kind val next same)
        (subst (λ (z : ℤ). MayAssign p t node own_logged.local z seen view x) owed_is may) in
        performs.sets_logged places it has s meets seen view owed x place local kind val next same known word home d g
        (reduced kind (number_in seen val.expr)) mine logged

    module _ (none : IsLogged p t node → ⊥) (ready : IsReady p t node seen view owed x) (answered_at : IsAnsweredAt p t places (entrance s seen view owed x)
        is.action) where
      enters : Enters p t node seen view x
      enters = enters_of p t plan of node seen view owed x none ready

      abbrev frame : IsFrameAnswered p t view node s.around.loads
      frame = answered_at.frame

      does_store : (variable : ℕ) (kind : Kind) (next : ℕ) → is.action ≡ Store variable kind next →
          Known p.flat t.kinds t.part.first t.part.end p.graph.nodes is (Store variable kind next) → IsDoing p t c node (Store variable kind next) does goes →
          (effect : a.Effect) → effect_of (Store variable kind next) seen ≡ Some effect → By effect
      does_store variable kind next same known d effect eq = by seen.pending refl eq
        where
          by : (o : Option Pending) → seen.pending ≡ o → (elim o [
            | Some store ↦ Some (a.Makes store next)
            | None ↦ None
          ]) ≡ Some effect → By effect
          by None none_there eq = absurd (none-some effect eq)
          by (Some store) pending eq =
              subst By (same_Some (a.Makes store next) effect eq)
              (performs.makes_it places it has s meets seen view owed x enters frame variable kind next same known (d.0.at (site_of s meets)) d.1 store pending)

      does_local : (place : Place) (local : ℕ) (kind : Kind) (val : e.Placed) (next : ℕ) → is.action ≡ Eval (e.ToLocal place local kind) val next →
          Known p.flat t.kinds t.part.first t.part.end p.graph.nodes is (Eval (e.ToLocal place local kind) val next) →
          IsAnswered (source_of p t seen) s.around.loads (Eval (e.ToLocal place local kind) val next) →
          (d : IsSetting p t c node place local kind val.expr does) →
          GoesTo p t c node next goes → places.store node ≡ parts.setting_store it d → By (a.Sets local (reduced kind (number_in seen val.expr)) next)
      does_local place local kind val next same known answered (in_register register home d) g store_is =
          performs.sets places it has s meets seen view owed x enters frame place local kind
          (record { val = val; next = next; same = same; known = known; answered = answered }) register home d g
      does_local place local kind val next same known answered (in_section word home it_is d) g store_is = absurd (none it_is)
      does_local place local kind val next same known answered (outside word home unlogged d) g store_is =
          performs.sets_plain places it has s meets seen view owed x enters frame place local kind
          (record { val = val; next = next; same = same; known = known; answered = answered }) word home d g store_is none

      does_it : (b : Action) → is.action ≡ b → Known p.flat t.kinds t.part.first t.part.end p.graph.nodes is b → (d : IsDoing p t c node b does goes) →
          places.call node ≡ call_of it b d → places.store node ≡ parts.store_of it b d → IsAnswered (source_of p t seen) s.around.loads b →
          (effect : a.Effect) → effect_of b seen ≡ Some effect → By effect
      does_it (Eval (e.ToLocal place local kind) val next) same known d call store_is answered effect eq =
          subst By (same_Some (a.Sets local (reduced kind (number_in seen val.expr)) next) effect eq)
          (does_local place local kind val next same known answered d.0 d.1 store_is)
      does_it (Eval (e.ToVariable place variable kind) val next) same known d call store_is answered effect eq =
          let store : Pending = record { variable = variable; element = 0; number = reduced kind (number_in seen val.expr) } in
          subst By (same_Some (a.Owes store next) effect eq)
          (performs.owes_it places it has s meets seen view owed x enters frame (e.ToVariable place variable kind)
          (record { val = val; next = next; same = same; known = known; answered = answered }) store variable kind known.assigns known.owed (λ r. refl)
          (λ y got. record {
            variable_is = refl;
            address = got.has.0;
            below = variable_below p t plan of variable kind false known.target_is.0;
            value = low_bytes y pending_value kind (reduced kind (number_in seen val.expr)) got.has.1;
          }) d.0 d.1)
      does_it (Eval (e.ToElement place variable kind index) val next) same known d call store_is answered effect eq =
          let store : Pending = record { variable = variable; element = element_in seen index.expr; number = reduced kind (number_in seen val.expr) } in
          let target : e.Lvalue = e.ToElement place variable kind index in
          let ev : Evaluates it s seen target =
          record { val = val; next = next; same = same; known = known; answered = answered } in
          let held = performs.held_uses places it has s meets seen view owed x enters frame target ev in
          subst By (same_Some (a.Owes store next) effect eq)
          (performs.owes_it places it has s meets seen view owed x enters frame target ev store variable kind known.assigns known.owed (λ r. refl)
          (λ y got. record {
            variable_is = refl;
            address = got.has.0;
            below = element_below p t plan of seen variable kind index.place index.expr known.target_is.0.0 known.target_is.1.0
                (reads_held p t plan of seen s.around x index (known.target_is.0.1, known.target_is.1.1)
                (left_held (homes p t) (source_of p t seen) s.around.loads x (expr_locals index.expr) (expr_locals val.expr) held) answered.0);
            value = low_bytes y pending_value kind (reduced kind (number_in seen val.expr)) got.has.1;
          }) d.0 d.1)
      does_it (Store variable kind next) same known d call store_is answered effect eq = does_store variable kind next same known d effect eq
      does_it (Test condition holds fails) same known d call store_is answered effect eq =
          subst By (same_Some (a.Goes (if is_zero (number_in seen condition.expr) then fails else holds)) effect eq)
          (performs.tests_it places it has s meets seen view owed x enters frame condition holds fails same known answered d)
      does_it (Lock lock next) same known d call store_is answered effect eq =
          subst By (same_Some (a.Takes (lock_number seen.locals lock) next) effect eq)
          (performs.takes_it places it has s meets seen view owed x enters frame lock next same known ((d.0 seen.locals).at (site_of s meets))
          (call ∙ sym (lock_call lock next d s meets seen.locals)))
      does_it (Unlock lock next) same known d call store_is answered effect eq =
          subst By (same_Some (a.Gives (lock_number seen.locals lock) next) effect eq)
          (performs.gives_it places it has s meets seen view owed x enters frame lock next same known d.0.0 ((d.0.1 seen.locals).at (site_of s meets))
          (call ∙ sym (unlock_call lock next d s meets seen.locals)) agrees.after)
      does_it End same known d call store_is answered effect eq =
          subst By (same_Some a.Ends effect eq)
          (performs.ends_it places it has s meets seen view owed x enters frame (d.0.at (site_of s meets)) (call ∙ sym (end_call d s meets)))

    -- whatever number it owes
    stores_owed : (logged : IsLogged p t node) (word : ℕ) → home_of t.locals logged.local ≡ InFrame word → IsReady p t node seen view owed x →
        SetsLogged p t places (entrance s seen view owed x) word logged.local owed logged.assigns.next
    stores_owed logged word home ready = by (subst (λ (b : Action). IsDoing p t c node b does goes) same doing) ready
      where
        open logged use {local, assigns}

        same : is.action ≡ Eval (e.ToLocal assigns.place local assigns.kind) assigns.assigned assigns.next
        same = assigns_here p t plan of node is at local assigns

        known : Known p.flat t.kinds t.part.first t.part.end p.graph.nodes is (Eval (e.ToLocal assigns.place local assigns.kind) assigns.assigned assigns.next)
        known = subst (λ (b : Action). Known p.flat t.kinds t.part.first t.part.end p.graph.nodes is b) same (known_of p t plan of node is own at)

        stored : IsSetting p t c node assigns.place local assigns.kind assigns.assigned.expr does → GoesTo p t c node assigns.next goes →
            MayAssign p t node local owed seen view x → SetsLogged p t places (entrance s seen view owed x) word local owed assigns.next
        stored (in_register register other ev) g may = absurd (let z : ⊥ = cc in z)
        stored (in_section other there it_is st) g may =
            performs.stores_logged places it has s meets seen view owed x assigns.place local assigns.kind assigns.assigned assigns.next same known word home
            st g owed may
        stored (outside other there unlogged st) g may = absurd (unlogged logged)

        by : IsDoing p t c node (Eval (e.ToLocal assigns.place local assigns.kind) assigns.assigned assigns.next) does goes →
            IsReady p t node seen view owed x →
            SetsLogged p t places (entrance s seen view owed x) word local owed assigns.next
        by d (to_enter none h) = absurd (none logged)
        by d (to_assign own_logged may) =
            stored d.0 d.1 (subst (λ (l : ℕ). MayAssign p t node l owed seen view x)
            (logged_local p t plan of node is at own_logged assigns.place local assigns.kind assigns.assigned assigns.next same) may)

    -- where the node is a logged assignment
    does_set : (b : Action) → is.action ≡ b → Known p.flat t.kinds t.part.first t.part.end p.graph.nodes is b → IsDoing p t c node b does goes →
        IsLogged p t node → IsReady p t node seen view owed x → IsOwed p t places (entrance s seen view owed x) b → (effect : a.Effect) →
        effect_of b seen ≡ Some effect → By effect
    does_set (Eval (e.ToLocal place local kind) val next) same known d it_is ready owed_is effect eq =
        subst By (same_Some (a.Sets local (reduced kind (number_in seen val.expr)) next) effect eq) (by d.0)
      where
        by : IsSetting p t c node place local kind val.expr does → By (a.Sets local (reduced kind (number_in seen val.expr)) next)
        by (in_register register home ev) =
            let other = logged_home p t plan of node is at it_is local (slice_get_within t.kinds local kind known.target_is.0) in
            absurd (let z : ⊥ = cc in z)
        by (in_section word home both st) =
            does_logged place local kind val next same known word home it_is st d.1 ready
            (owed_is local (reduced kind (number_in seen val.expr)) next refl)
        by (outside word home unlogged st) = absurd (unlogged it_is)
    does_set (Eval (e.ToVariable place variable kind) val next) same known d it_is ready owed_is effect eq =
        absurd (not_logged p t plan of node is at (ap sets_local same) it_is)
    does_set (Eval (e.ToElement place variable kind index) val next) same known d it_is ready owed_is effect eq =
        absurd (not_logged p t plan of node is at (ap sets_local same) it_is)
    does_set (Store variable kind next) same known d it_is ready owed_is effect eq = absurd (not_logged p t plan of node is at (ap sets_local same) it_is)
    does_set (Test condition holds fails) same known d it_is ready owed_is effect eq = absurd (not_logged p t plan of node is at (ap sets_local same) it_is)
    does_set (Lock lock next) same known d it_is ready owed_is effect eq = absurd (not_logged p t plan of node is at (ap sets_local same) it_is)
    does_set (Unlock lock next) same known d it_is ready owed_is effect eq = absurd (not_logged p t plan of node is at (ap sets_local same) it_is)
    does_set End same known d it_is ready owed_is effect eq = absurd (not_logged p t plan of node is at (ap sets_local same) it_is)

    does_all : IsReady p t node seen view owed x → ((IsLogged p t node → ⊥) → IsAnsweredAt p t places (entrance s seen view owed x) is.action) →
        IsOwed p t places (entrance s seen view owed x) is.action → (effect : a.Effect) → effect_of is.action seen ≡ Some effect → By effect
    does_all (to_enter none h) answered owed_is effect eq =
        let at_it = answered none in
        does_it none (to_enter none h) at_it is.action refl (known_of p t plan of node is own at) doing agrees.call agrees.store at_it.variables effect eq
    does_all (to_assign it_is may) answered owed_is effect eq =
        does_set is.action refl (known_of p t plan of node is own at) doing it_is (to_assign it_is may) owed_is effect eq

  performs_it : (m : Entrance) (effect : a.Effect) → m.node ≡ node → IsAtOwnCore p t places m →
      ((IsLogged p t node → ⊥) → IsAnsweredAt p t places m is.action) → IsOwed p t places m is.action → effect_of is.action m.seen ≡ Some effect →
      Performs p t places m effect
  performs_it m effect same =
      at_node (λ (k : Entrance). IsAtOwnCore p t places k → ((IsLogged p t node → ⊥) → IsAnsweredAt p t places k is.action) →
      IsOwed p t places k is.action → effect_of is.action k.seen ≡ Some effect → Performs p t places k effect)
      (λ s seen view owed x is_at answered owed_is eq. does_all s (met s is_at.meets) seen view owed x is_at.ready answered owed_is effect eq) m same

  assigns_it : (m : Entrance) → m.node ≡ node → IsAtOwnCore p t places m → (logged : IsLogged p t node) (word : ℕ) →
      home_of t.locals logged.local ≡ InFrame word → SetsLogged p t places m word logged.local m.owed logged.assigns.next
  assigns_it m same =
      at_node (λ (k : Entrance). IsAtOwnCore p t places k → (logged : IsLogged p t node) (word : ℕ) → home_of t.locals logged.local ≡ InFrame word →
      SetsLogged p t places k word logged.local k.owed logged.assigns.next)
      (λ s seen view owed x is_at logged word home. stores_owed s (met s is_at.meets) seen view owed x logged word home is_at.ready) m same

  -- ---- Calls

  goes_on_after : 3 ≤ words_in does bare_site → (next : ℕ) → IsNodeOf t next → GoesTo p t c node next goes → GoesOnAfter p t places node next
  goes_on_after calling next of_next g = record {
    on = λ m meets same enters.
        subst (λ (k : ℕ). GoesThrough m.environment (fragment m.registers (places.after node) (places.entry next) (places.words k - 3)) []
        (Enters p t next m.seen m.view))
        (sym same)
        (moved m.environment m.registers (addr on_at) (places.after node) (places.entry next) (places.entry next) (words - 3) []
        (Enters p t next m.seen m.view) (sym agrees.after) refl
        (weaker m.environment (fragment m.registers (addr on_at) (places.entry next) (words - 3)) [] (λ y. y ≡ m.registers) (Enters p t next m.seen m.view)
        (λ y is_it. subst (λ (z : List ℕ). Enters p t next m.seen m.view z) (sym is_it) enters)
        (parts.on_from_after it words agrees.words 3 calling next of_next g m.environment (met m.environment meets) m.registers)));
  }

  -- after the call of a lock
  keeps_after : (lock : e.LockName) (next : ℕ) → IsNodeOf t next → (d : IsDoing p t c node (Lock lock next) does goes) →
      places.call node ≡ ((d.0 []).at bare_site).call → (m : Entrance) → Meets places.program m.environment → m.node ≡ node → EntersAt p t places m next →
      IsFrameAnswered p t m.view next m.environment.around.loads → BoundaryAfter p t places m next
  keeps_after lock next of_next d call m meets same =
      at_node (λ (k : Entrance). Meets places.program k.environment → EntersAt p t places k next →
      IsFrameAnswered p t k.view next k.environment.around.loads → BoundaryAfter p t places k next) kept m same meets
    where
      kept : (s : MarkedEnvironment) (seen : Seen) (view : LogView) (owed : ℤ) (x : List ℕ) → Meets places.program s →
          EntersAt p t places (entrance s seen view owed x) next → IsFrameAnswered p t view next s.around.loads →
          BoundaryAfter p t places (entrance s seen view owed x) next
      kept s seen view owed x there enters frame =
          let opens : Bool = opens_section p t node in
          let b : Boundary = boundary_at p t c opens seen.locals next 0 in
          let P : List ℕ → Type 0 = Enters p t next seen (view_after b view) in
          let locks : Locks b (MayEnter p t seen.locals node) (MayEnter p t seen.locals next) (lock_number seen.locals lock) does (site_of s (met s there)) =
          (d.0 seen.locals).at (site_of s (met s there)) in
          let from : MayEnter p t seen.locals next s.around x = record { seen = seen; view = view; enters = enters; locals_are = refl; frame = frame } in
          let at_call : locks.call + 4 ≡ places.call node + 4 = ap (λ (z : ℕ). z + 4) (lock_call lock next d s (met s there) seen.locals ∙ sym call) in
          let lockstep : boundary_observations b view.side (addr on_at) x
          ≡ boundary_observations (keeping p t places opens seen.locals next) view.side (places.after node) x =
          ap (λ (z : ℕ). boundary_observations b view.side z x) (sym agrees.after) ∙
          ap (λ (ls : List ℕ). boundary_observations
          (record { log = p.log; thread = t.number; locks = b.locks; live = ls; resume = pos 0; written = None; opens = opens }) view.side
          (places.after node) x)
          (sym (agrees.live_are next)) in
          subst (λ (ss : List Observation). GoesThrough s (fragment x (places.call node + 4) (places.after node) words) ss P) lockstep
          (moved s x (locks.call + 4) (places.call node + 4) (addr on_at) (places.after node) words (boundary_observations b view.side (addr on_at) x) P at_call
          (sym agrees.after)
          (parts.within it words agrees.words s x (locks.call + 4) (addr on_at) (boundary_observations b view.side (addr on_at) x) P
          (weaker s (fragment x (locks.call + 4) (addr on_at) (parts.does_words it)) (boundary_observations b view.side (addr on_at) x)
          (LeavesRegisters b view.side x) P
          (λ y left. enters_kept p t plan of c choices opens next 0 of_next seen view x y enters left) (locks.keeps x view.side from enters.at_side))))

  stands_there : (call : ℕ) → places.call node ≡ call → IsInstructionAt program.start program.code call Ecall →
      IsInstructionAt places.program.start places.program.code (places.call node) Ecall
  stands_there call same h =
      subst (λ (z : ℕ). IsInstructionAt places.program.start places.program.code z Ecall) (sym same)
      (subst (λ (q : Program). IsInstructionAt q.start q.code call Ecall) (sym agrees.of_program) h)

  plain_there : (call : ℕ) → places.call node ≡ call → marked program.nodes call ≡ [] → IsPlainCall p t places node
  plain_there call same h =
      subst (λ (z : ℕ). marked places.program.nodes z ≡ []) (sym same) (subst (λ (q : Program). marked q.nodes call ≡ []) (sym agrees.of_program) h)

  calls_by : (b : Action) → is.action ≡ b → Known p.flat t.kinds t.part.first t.part.end p.graph.nodes is b → (d : IsDoing p t c node b does goes) →
      places.call node ≡ call_of it b d → IsCalling p t places b node
  calls_by (Eval target val next) same known d call = tt
  calls_by (Store variable kind next) same known d call = tt
  calls_by (Test condition holds fails) same known d call = tt
  calls_by (Lock lock next) same known d call =
      let of_next : IsNodeOf t next = record { from_first = known.inside.0; below_end = known.inside.1 } in (
        stands_there ((d.0 []).at bare_site).call call ((d.0 []).at bare_site).stands,
        goes_on_after ((d.0 []).at bare_site).calling next of_next d.1,
        keeps_after lock next of_next d call,
      )
  calls_by (Unlock lock next) same known d call =
      let of_next : IsNodeOf t next = record { from_first = known.inside.0; below_end = known.inside.1 } in (
        stands_there ((d.0.1 []).at bare_site).call call ((d.0.1 []).at bare_site).stands,
        goes_on_after ((d.0.1 []).at bare_site).calling next of_next d.1,
        agrees.after ∙ ((d.0.1 []).at bare_site).after ∙ ap (λ (z : ℕ). z + 4) (sym call),
        plain_there ((d.0.1 []).at bare_site).call call ((d.0.1 []).at bare_site).plain,
      )
  calls_by End same known d call =
      (stands_there (d.0.at bare_site).call call (d.0.at bare_site).stands, plain_there (d.0.at bare_site).call call (d.0.at bare_site).plain)

  cleans_by : (b : Action) → is.action ≡ b → IsCleaning p t places b node
  cleans_by (Eval target val next) same = tt
  cleans_by (Store variable kind next) same =
      subst (λ (z : Bool). (z ≡ false) ↔ IsCleanedLater p.graph p.boundaries (map shape_of p.flat.variables) node) (sym agrees.cleans)
      (choices.cleaned node is variable kind next own at same)
  cleans_by (Test condition holds fails) same = tt
  cleans_by (Lock lock next) same = tt
  cleans_by (Unlock lock next) same = tt
  cleans_by End same = tt

  -- ---- Its price

  priced : places.words node ≤ node_price (action_nodes is.action) + hold_words p.log (names_kept p t is.action node)
  priced =
      let bare_of : (part : List CodeItem) → Spot items part → Site part = λ part spot. spot_site n part spot (bare program) (bare_meets program) in
      let first = parts.before_spot it in
      let second = parts.does_spot it in
      let third = parts.goes_spot it in
      let a1 : words_in before (bare_of before first) ≤ sum_by most_words_of before = words_are_few before (bare_of before first) in
      let a2 : words_in does (bare_of does second) ≤ sum_by most_words_of does = words_are_few does (bare_of does second) in
      let a3 : words_in goes (bare_of goes third) ≤ sum_by most_words_of goes = words_are_few goes (bare_of goes third) in
      let sum : words_in before (bare_of before first) + (words_in does (bare_of does second) + words_in goes (bare_of goes third)) ≡ words =
      parts.all_words it words agrees.words in
      let b1 : sum_by most_words_of (before ++ (does ++ goes)) ≡ sum_by most_words_of before + sum_by most_words_of (does ++ goes) =
      sum_by-append most_words_of before (does ++ goes) in
      let b2 : sum_by most_words_of (does ++ goes) ≡ sum_by most_words_of does + sum_by most_words_of goes = sum_by-append most_words_of does goes in
      omega (arith, a1, a2, a3, sum, b1, b2, price)

  -- ---- Its words

  words_are : AreInstructions places.program.start places.program.code (places.entry node) (places.entry (node + 1)) (2 * boundary_count p.boundaries node)
  words_are =
      let piece : List CodeItem = before ++ (does ++ goes) in
      let count : ℕ = 2 * boundary_count p.boundaries node in
      let site : Site piece = site_in t program items n places.entry node piece sited (bare program) (bare_meets program) in
      let own_words : AreInstructions program.start program.code (addr sited.position) (addr (sited.position + length piece)) (fences_in piece) =
      part_instructions piece site in
      let fences : fences_in piece ≡ count = piece_fences plan it in
      subst (λ (q : Program). AreInstructions q.start q.code (places.entry node) (places.entry (node + 1)) count) (sym agrees.of_program)
      (subst (λ (a : ℕ). AreInstructions program.start program.code a (places.entry (node + 1)) count) sited.begin
      (subst (λ (a : ℕ). AreInstructions program.start program.code (addr sited.position) a count) sited.end
      (subst (λ (m : ℕ). AreInstructions program.start program.code (addr sited.position) (addr (sited.position + length piece)) m) fences own_words)))

  pub node_code : IsWithin places is.action node → IsNodeCode p t places node is
  node_code within = record {
    chosen = chosen;
    plain = plain;
    performs = performs_it;
    assigns = assigns_it;
    calls = calls_by is.action refl (known_of p t plan of node is own at) doing agrees.call;
    cleans = cleans_by is.action refl;
    price = priced;
    within = within;
    words = words_are;
  }
