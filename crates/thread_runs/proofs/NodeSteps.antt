-- What a thread does at its node's code.
use Rattle.std.proofs.Common.{◌≡◌, ◌⊎◌, inl, inr, ℕ, zero, suc, ◌+◌, ◌≤◌, List, [], ◌∷◌, length, map, refl, ap, arith, sym, ◌∙◌, subst, cond, Bool}
use Rattle.std.proofs.Common.{true, false, Option, Some}
use Rattle.std.proofs.Math.ListN.{length-set}
use Rattle.std.specs.Prelude.{◌&&◌, ◌||◌, ◌*◌, ℤ, nat_le, pos}
use Rattle.std.proofs.lemmas.Bool.{cond_both, eq-eqb, or_cases, and_parts, leb-true, le-leb}
use Rattle.log_schemes.specs.Schemes.{locals_of}
use Rattle.c_tree.specs.Exprs.{LockName}
use Rattle.rv64_isa.specs.declared.instr.Instr.{Instr}
use Rattle.rv64_link.specs.LinkedCode.{IsInstructionAt}
use Rattle.expr_code.specs.EvaluationCode.{home_of}
use Rattle.expr_code.specs.declared.home.Home.{Home}
use Rattle.expr_code.specs.declared.home.Home.TheVariants.{InRegister, InFrame}
use Rattle.log_schemes.specs.declared.log.Log.{Log}
use Rattle.ido_base.specs.Layout.{aligned, variable_at, variables_base, logs_base, line_bytes}
use Rattle.log_schemes.specs.Layout.{in_range, log_lines}
use Rattle.ido_ints.specs.declared.kinds.Kind.{Kind}
use Rattle.ido_ints.specs.Kinds.{bytes_of}
use Rattle.c_tree.specs.Source.{Pending}
use Rattle.c_tree.specs.WellFormed.{shape_of}
use Rattle.rv64_isa.specs.Rows.{Effect, Cleans, Stores, row, read}
use Rattle.machine_model.specs.Schedule.{effect_at}
use Rattle.memory_layout.specs.Roles.{pending_value}
use Rattle.boundary_code.specs.Boundaries.{Boundary, boundary_effects}
use Rattle.flow_graph.specs.Nodes.{Action, Node}
use Rattle.flow_graph.specs.Actions as a
use Rattle.flow_graph.specs.Actions.{Seen, effect_of, number_in}
use Rattle.ido_ints.specs.Reduction.{reduced}
use Rattle.flow_graph.specs.Liveness.{NodeAt}
use Rattle.code_runs.specs.ComputingRuns.{LocalConfig, config}
use Rattle.code_runs.specs.CodeTraces.{Program, Meets, Observation, Mark, Does, GoesThrough, Trace, seen_effects, marked}
use Rattle.hart_runs.specs.HartsOnRuns.{is_width, is_access, Agrees, MayGo}
use Rattle.hart_runs.specs.Laws.{IsApart}
use Rattle.hart_runs.proofs.Public.{same_there}
use Rattle.thread_code.specs.Plans.{Assigns, IsLogged, Plan, Thread, IsNodeOf, held_names_before}
use Rattle.thread_code.specs.RegistersAtNodes.{Enters, IsAnswered, IsFrameAnswered, IsReady, LogView, MayAssign, source_of, to_assign}
use Rattle.thread_code.specs.RegistersAtNodes.{to_enter, with_word}
use Rattle.thread_code.specs.NodeCodeEffects.{Places, Entrance, Performs, SetsIn, SetsLogged, SetsPlain, StoresPlain, Storing, kind_at, keeping}
use Rattle.thread_code.specs.NodeCodeEffects.{pending_observations, seen_after}
use Rattle.thread_code.specs.Programs.{IsThreadCode}
use Rattle.thread_runs.specs.CodeFragments.{Arrives, Stage, AreEffectsApart, IsOwnWord, ReadsOwn, end_of, Has, IsInGraph, IsAtCore, MayBeSet, IsSetBy}
use Rattle.thread_runs.specs.CodeFragments.{effects_set, exit_set, view_set}
use Rattle.thread_runs.specs.CodeFragments.{IsAtMark, IsMadeBy, AreSeen, Running, stage_after, store_of, on_machine}
use Rattle.thread_runs.specs.CodeFragments.{cleans_of, IsPlaced, MayBeMade, MayDo}
use Rattle.thread_runs.specs.Laws.{AssignmentsBegin, IsAtSomeMark, IsOwing, Performing, NodesBegin}
use Rattle.thread_runs.proofs.AssignedLocals.{may_assign_again, other_local}
use Rattle.thread_runs.proofs.Boundaries.{both_true, second_true, boundary_may, boundary_apart, word_access}
use Rattle.thread_runs.proofs.FragmentStarts.{does_there, on_fragment}
use Rattle.thread_runs.proofs.Graph.{assigns_local, next_follows, takes_lock, gives_unlock, ends_end, next_by, is_taking, core_marked}
use Rattle.thread_runs.proofs.RunObservations.{goes_with, some_steps}

-- ---- Lines

first_true : (a b : Bool) → a ≡ true → (a || b) ≡ true
first_true true b e = refl
first_true false b e = absurd (let z : ⊥ = cc in z)

byte_in_range : (log : Log) (threads address bytes : ℕ) → 1 ≤ bytes → in_range log threads address bytes ≡ true → in_range log threads address 1 ≡ true
byte_in_range log threads address bytes one inside = by (or_cases _ _ inside)
  where
    lower : (low high : ℕ) → (nat_le low address && nat_le (address + bytes) high) ≡ true → (nat_le low address && nat_le (address + 1) high) ≡ true
    lower low high e =
        let h = and_parts _ _ e in
        let top : address + bytes ≤ high = leb-true _ _ h.1 in
        both_true (nat_le low address) (nat_le (address + 1) high) h.0 (le-leb (address + 1) high (omega (arith, top, one)))

    by : ((nat_le variables_base address && nat_le (address + bytes) (variables_base + 65536)) ≡ true) ⊎
        ((nat_le logs_base address && nat_le (address + bytes) (logs_base + line_bytes * log_lines log * threads)) ≡ true) →
        in_range log threads address 1 ≡ true
    by (inl e) = first_true (nat_le variables_base address && nat_le (address + 1) (variables_base + 65536))
        (nat_le logs_base address && nat_le (address + 1) (logs_base + line_bytes * log_lines log * threads)) (lower variables_base (variables_base + 65536) e)
    by (inr e) = second_true (nat_le variables_base address && nat_le (address + 1) (variables_base + 65536))
        (nat_le logs_base address && nat_le (address + 1) (logs_base + line_bytes * log_lines log * threads))
        (lower logs_base (logs_base + line_bytes * log_lines log * threads) e)

is_some_bytes : (bytes : ℕ) → is_width bytes ≡ true → 1 ≤ bytes
is_some_bytes zero e = absurd (let z : ⊥ = cc in z)
is_some_bytes (suc n) e = omega arith

line_of_access : (log : Log) (threads address bytes : ℕ) → is_access log threads address bytes ≡ true → in_range log threads address 1 ≡ true
line_of_access log threads address bytes e =
    let h = and_parts (is_width bytes) _ e in
    let k = and_parts (in_range log threads address bytes) (aligned address bytes) h.1 in
    byte_in_range log threads address bytes (is_some_bytes bytes h.0) k.0

-- ---- Cleans

-- names that are held are some
some_names : (name : LockName) (held : List LockName) → name ∷ held ≡ [] → ⊥
some_names name held none = cc

-- what is seen of a clean that may be there
cleans_lockstep : (b : Bool) (effect : Effect) → cond b (Does effect ∷ []) [] ≡ seen_effects (cond b (effect ∷ []) [])
cleans_lockstep true effect = refl
cleans_lockstep false effect = refl

-- ---- What a thread owes

-- the number that an effect sets a local to
abbrev number_of : a.Effect → ℤ
number_of (a.Sets local number next) = number
number_of e = pos 0

owing_by : (o : Option a.Effect) (e : a.Effect) → o ≡ Some e → (local : ℕ) (number : ℤ) (next : ℕ) → o ≡ Some (a.Sets local number next) →
    number_of e ≡ number
owing_by o e is local number next sets = ap number_of (same_there o e (a.Sets local number next) is sets)

-- a word has the number that it got
word_there : (view : LogView) (word value : ℕ) → (with_word view word value).frame word ≡ value
word_there view word value = ap (λ (b : Bool). cond b value (view.frame word)) (eq-eqb word word refl)

-- ---- At a node's code

-- a hart that runs stands at the code of a node, in a machine with room for its thread and an environment that answers what the node reads
record StandsAtNode {p : Plan} {t : Thread} {own : Program} (code : IsThreadCode p t own) (running : Running) : Type 0 where
  node : ℕ
  seen : Seen
  view : LogView
  owed : ℤ
  registers : List ℕ
  is : Node
  placed : IsPlaced p t code.places running.world.log (length running.world.harts)
  meets : Meets code.places.program running.environment
  agrees : Agrees running.program running.world running.hart running.environment
  reads : ReadsOwn running.world.log t.number running.environment
  found : NodeAt p.graph node is
  at : IsAtCore p t code.places running.world running.hart node seen view owed registers

module _ {p : Plan} {t : Thread} {own : Program} (code : IsThreadCode p t own) (running : Running) (stands : StandsAtNode code running) where
  open running use {program, world as w, hart as h, environment as s}
  open stands use {node, seen, view, registers, is, placed, meets, agrees, reads, found, at}

  abbrev c : Places
  c = code.places

  abbrev entrance : (owed : ℤ) → Entrance
  entrance owed = record { environment = s; node = node; seen = seen; view = view; owed = owed; registers = registers }

  -- the code begins with the node's mark
  abbrev IsMarked : Type 0
  IsMarked = marked s.marks (c.core node) ≡ Mark ∷ []

  marks : (e : a.Effect) → effect_of is.action seen ≡ Some e → is_taking e ≡ false → IsMarked
  marks e eq plain = core_marked p t own code s meets node is seen e at.own found eq plain

  at_mark : (e : a.Effect) (stage : Stage) (effects : List Effect) → stage_after p t c node seen view registers e ≡ stage → IsMarked →
      GoesThrough s (record { registers = registers; from = c.core node; to = end_of p t c stage.exit stage.node; most = c.words node })
      (Mark ∷ seen_effects effects)
      (λ (x : List ℕ). Has p t c stage.exit stage x) →
      IsNodeOf t stage.node → IsInGraph p t c stage.exit stage.node stage.seen → AreEffectsApart s effects →
      MayGo w.log (length w.harts) (seen_effects effects) →
      ((effect : Effect) → effect_at program h at.at.hart ≡ Some effect → IsMadeBy p t c stage e effect) → AreSeen p t c node seen view registers e effects →
      IsAtSomeMark p t c running node seen view registers e
  at_mark e stage effects after mark goes own_next graph apart may made are_seen =
      let to : LocalConfig = config goes.registers (end_of p t c stage.exit stage.node) in
      let some : (k : ℕ) × (goes.steps ≡ suc k) = some_steps s goes.steps (config registers (c.core node)) to Mark (seen_effects effects) goes.walks in
      let walks : Trace s (suc some.0) (config registers (c.core node)) (Mark ∷ seen_effects effects) to =
      subst (λ (n : ℕ). Trace s n (config registers (c.core node)) (Mark ∷ seen_effects effects) to) some.1 goes.walks in
      let pc : at.at.hart.pc ≡ c.core node = ap (λ (x : LocalConfig). x.pc) at.at.is in
      record {
        steps = some.0;
        effects = effects;
        short = subst (λ (n : ℕ). n ≤ c.words node) some.1 goes.short;
        at = subst (λ (x : Stage). IsAtMark p t c running e x some.0 effects) (sym after) (record {
          meets = meets;
          agrees = agrees;
          apart = apart;
          own = own_next;
          of_graph = graph;
          registers = goes.registers;
          on = record {
            hart = at.at.hart;
            here = at.at.here;
            runs = at.at.runs;
            walks = subst (λ (x : LocalConfig). Trace s (suc some.0) x (Mark ∷ seen_effects effects) to) (sym at.at.is) walks;
            may = may;
          };
          has = goes.are;
          mark = subst (λ (x : ℕ). marked s.marks x ≡ Mark ∷ []) (sym pc) mark;
          made = made;
        });
        seen_are = are_seen;
      }

  follows : (e : a.Effect) (next : ℕ) → effect_of is.action seen ≡ Some e → next_by e ≡ Some next → IsNodeOf t next
  follows e next eq by = placed.closed node next is at.own found (next_follows is.action seen e next eq by)

  -- what the hart does next, where this instruction stands at the node's code
  does_first : (instr : Instr) → IsInstructionAt c.program.start c.program.code (c.core node) instr → (effect : Effect) →
      effect_at program h at.at.hart ≡ Some effect → effect ≡ row instr registers (c.core node)
  does_first instr there = does_there c program w h s meets agrees registers (c.core node) at.at instr there at.at.hart at.at.here

  -- ---- By the effect

  makes : (owed : ℤ) (store : Pending) (next : ℕ) → Performs p t c (entrance owed) (a.Makes store next) →
      effect_of is.action seen ≡ Some (a.Makes store next) → (k : Kind) → kind_at p.flat.variables store.variable ≡ Some k →
      MayBeMade p t c w.log (length w.harts) s k store → IsAtSomeMark p t c running node seen view registers (a.Makes store next)
  makes owed store next does eq k kind may =
      let address : ℕ = variable_at (map shape_of p.flat.variables) store.variable store.element in
      let value : ℕ = read registers pending_value in
      let clean : Effect = Cleans address in
      let lockstep : pending_observations p t c k store value (c.cleans node) ≡
      Mark ∷ seen_effects (store_of p t c k store value ∷ cleans_of p t c node store) =
      ap (λ (x : List Observation). Mark ∷ Does (store_of p t c k store value) ∷ x) (cleans_lockstep (c.cleans node) clean) in
      at_mark (a.Makes store next) (stage_after p t c node seen view registers (a.Makes store next))
      (store_of p t c k store value ∷ cleans_of p t c node store) refl (marks (a.Makes store next) eq refl)
      (subst (λ (x : List Observation). GoesThrough s (record { registers = registers; from = c.core node; to = c.entry next; most = c.words node }) x
      (λ (y : List ℕ). Has p t c Arrives (stage_after p t c node seen view registers (a.Makes store next)) y)) lockstep (does k kind).1)
      (follows (a.Makes store next) next eq refl) tt
      (may.apart, cond_both (c.cleans node) (clean ∷ []) [] (λ (es : List Effect). AreEffectsApart s es) (λ _. (tt, tt)) (λ _. tt)) (
        may.access,
        cond_both (c.cleans node) (clean ∷ []) [] (λ (es : List Effect). MayGo w.log (length w.harts) (seen_effects es))
            (λ _. (line_of_access w.log (length w.harts) address (bytes_of k) may.access, tt)) (λ _. tt),
      )
      made
      (λ other there. ap (λ (x : Kind). store_of p t c x store value ∷ cleans_of p t c node store)
      (same_there (kind_at p.flat.variables store.variable) k other kind there))
    where
      made : (effect : Effect) → effect_at program h at.at.hart ≡ Some effect →
          IsMadeBy p t c (stage_after p t c node seen view registers (a.Makes store next)) (a.Makes store next) effect
      made effect is_next other there =
          let st : Storing p t c (entrance owed) other store = (does other there).0 in
          record { value = read registers pending_value; low = st.value.low; is = does_first st.instr st.stands effect is_next ∙ st.does }

  module _ (local : ℕ) (number : ℤ) (next : ℕ) (assigns : (it : Assigns p node local) × (it.next ≡ next)) (mark : IsMarked) (next_own : IsNodeOf t next)
      (owed : ℤ) where
    abbrev e : a.Effect
    e = a.Sets local number next

    abbrev after : Seen
    after = seen_after e seen

    abbrev stage_set : Home → (held : List LockName) → Stage
    stage_set home held = record {
      exit = exit_set p t c home held node local number;
      node = next;
      seen = after;
      view = view_set p t c home held registers view;
    }

    lengths : length after.locals ≡ length seen.locals
    lengths = length-set seen.locals local number

    -- where the local stands and which locks are held
    record Standing (home : Home) (held : List LockName) : Type 0 where
      at_home : home_of t.locals local ≡ home
      holding : held_names_before p t node ≡ held

    module _ (home : Home) (held : List LockName) (there : Standing home held) where
      stage_is : stage_after p t c node seen view registers e ≡ stage_set home held
      stage_is = ap (λ (x : Home). stage_set x (held_names_before p t node)) there.at_home ∙ ap (λ (x : List LockName). stage_set home x) there.holding

      seen_is : effects_set p t c home held registers ≡ effects_set p t c (home_of t.locals local) (held_names_before p t node) registers
      seen_is = sym (ap (λ (x : Home). effects_set p t c x (held_names_before p t node) registers) there.at_home
          ∙ ap (λ (x : List LockName). effects_set p t c home x registers) there.holding)

      made_by : (effect : Effect) → IsSetBy p t c home (stage_set home held).exit (stage_set home held).view effect →
          IsMadeBy p t c (stage_set home held) e effect
      made_by effect made = subst (λ (x : Home). IsSetBy p t c x (stage_set home held).exit (stage_set home held).view effect) (sym there.at_home) made

    sets_logged : (word : ℕ) (name : LockName) (held : List LockName) → Standing (InFrame word) (name ∷ held) →
        SetsIn p t c (InFrame word) (entrance owed) local number next → IsApart s word 8 → IsAtSomeMark p t c running node seen view registers e
    sets_logged word name held there does apart =
        let value : ℕ = read registers pending_value in
        let own_word : IsOwnWord w.log t.number word = placed.words local word there.at_home in
        let logged : IsLogged p t node = record {
          local = local;
          assigns = assigns.0;
          frame = ap locals_of placed.log ∙ own_word.framed;
          holds = λ none. some_names name held (sym there.holding ∙ none);
        } in
        let sets : SetsLogged p t c (entrance owed) word local number next = does.0 logged in
        let access : is_access w.log (length w.harts) word 8 ≡ true = word_access w.log (length w.harts) t.number word placed.number own_word in
        at_mark e (stage_set (InFrame word) (name ∷ held)) (Stores word 8 value ∷ Cleans word ∷ []) (stage_is (InFrame word) (name ∷ held) there) mark
        sets.passes next_own tt (apart, (tt, tt)) (access, (line_of_access w.log (length w.harts) word 8 access, tt))
        (λ effect is_next. made_by (InFrame word) (name ∷ held) there effect (does_first sets.storing.instr sets.storing.stands effect is_next
        ∙ (sets.storing.does ∙ ap (λ (n : ℕ). Stores word 8 n) (sym (word_there view word value)))))
        (seen_is (InFrame word) (name ∷ held) there)

    sets_plain : (word : ℕ) → Standing (InFrame word) [] → SetsIn p t c (InFrame word) (entrance owed) local number next →
        IsAtSomeMark p t c running node seen view registers e
    sets_plain word there does =
        let plain : ¬ (IsLogged p t node) = λ logged. logged.holds there.holding in
        let sets : SetsPlain p t c (entrance owed) word local number next = does.1 plain in
        at_mark e (stage_set (InFrame word) []) [] (stage_is (InFrame word) [] there) mark
        (goes_with (λ x. may_assign_again p t node local number seen after view x lengths (λ other differs. other_local seen.locals local number other differs))
        sets.computes) next_own
        (record {
          own = at.own;
          assigns = assigns.0;
          goes = assigns.1;
          plain = plain;
          word = word;
          home = there.at_home;
          stores = λ m meets_code at_node sees_after may.
              let old : Entrance = record m { seen = seen } in
              let st : StoresPlain p t c old word local number next = sets.stores old meets_code at_node refl
              (subst (λ (n : ℕ). MayAssign p t n local number seen m.view m.registers) (sym at_node)
              (may_assign_again p t node local number after seen m.view m.registers (sym lengths)
              (λ other differs. sym (other_local seen.locals local number other differs)) may)) in
              record {
                storing = record { instr = st.storing.instr; stands = st.storing.stands; does = st.storing.does };
                passes = goes_with (λ x enters. subst (λ (z : Seen). Enters p t next z (with_word m.view word (read m.registers pending_value)) x)
                    (sym sees_after) enters) st.passes;
              };
        })
        tt tt (λ effect is_next. made_by (InFrame word) [] there effect tt) (seen_is (InFrame word) [] there)

    sets : (home : Home) (held : List LockName) → Standing home held → SetsIn p t c home (entrance owed) local number next → MayBeSet p t c home held s →
        IsAtSomeMark p t c running node seen view registers e
    sets (InRegister register) held there does may =
        at_mark e (stage_set (InRegister register) held) [] (stage_is (InRegister register) held there) mark does next_own tt tt tt
        (λ effect is_next. made_by (InRegister register) held there effect tt) (seen_is (InRegister register) held there)
    sets (InFrame word) [] there does may = sets_plain word there does
    sets (InFrame word) (name ∷ held) there does may = sets_logged word name held there does may

  module _ (owing : IsLogged p t node → IsOwing is.action seen stands.owed) (answered : ¬ (IsLogged p t node) →
      IsAnswered (source_of p t seen) s.around.loads is.action × IsFrameAnswered p t view node s.around.loads) where
    performs_with : (owed : ℤ) → IsReady p t node seen view owed registers → IsOwing is.action seen owed → (e : a.Effect) →
        effect_of is.action seen ≡ Some e → Performs p t c (entrance owed) e
    performs_with owed ready owing e eq =
        (code.code node is at.own found).performs (entrance owed) e refl (record { meets = meets; own = at.own; ready = ready })
        (λ plain. record { variables = (answered plain).0; frame = (answered plain).1 }) owing eq

    performs : (e : a.Effect) → effect_of is.action seen ≡ Some e → (owed : ℤ) × Performs p t c (entrance owed) e
    performs e eq = by at.ready
      where
        by : IsReady p t node seen view stands.owed registers → (owed : ℤ) × Performs p t c (entrance owed) e
        by (to_enter plain enters) =
            (number_of e, performs_with (number_of e) (to_enter plain enters) (owing_by (effect_of is.action seen) e eq) e eq)
        by (to_assign logged may) = (stands.owed, performs_with stands.owed (to_assign logged may) (owing logged) e eq)

    begins : (e : a.Effect) → effect_of is.action seen ≡ Some e → MayDo p t c w.log (length w.harts) s node e →
        Performing p t c running node seen view registers e
    begins (a.Sets local number next) eq may =
        let does = performs (a.Sets local number next) eq in
        sets local number next (assigns_local p node is seen local number next found eq) (marks (a.Sets local number next) eq refl)
        (follows (a.Sets local number next) next eq refl) does.0 (home_of t.locals local) (held_names_before p t node)
        (record { at_home = refl; holding = refl }) does.1 may
    begins (a.Owes store next) eq may =
        at_mark (a.Owes store next) (stage_after p t c node seen view registers (a.Owes store next)) [] refl (marks (a.Owes store next) eq refl)
        (performs (a.Owes store next) eq).1 (follows (a.Owes store next) next eq refl) tt tt tt (λ effect k. tt) refl
    begins (a.Makes store next) eq may =
        let does = performs (a.Makes store next) eq in makes does.0 store next does.1 eq may.0 may.1 may.2
    begins (a.Goes next) eq may =
        at_mark (a.Goes next) (stage_after p t c node seen view registers (a.Goes next)) [] refl (marks (a.Goes next) eq refl)
        (performs (a.Goes next) eq).1 (follows (a.Goes next) next eq refl) tt tt tt (λ effect k. tt) refl
    begins (a.Takes mutex next) eq may =
        on_fragment p t c program w h s meets agrees (stage_after p t c node seen view registers (a.Takes mutex next)) (c.words node) (c.core node) registers []
        at.own (let l = takes_lock is.action seen mutex next eq in record { own = at.own; is = is; at = found; lock = l.0; locks = l.1; number = l.2 }) tt tt
        at.at (performs (a.Takes mutex next) eq).1
    begins (a.Gives mutex next) eq may =
        let of_next : IsNodeOf t next = follows (a.Gives mutex next) next eq refl in
        let b : Boundary = keeping p t c false seen.locals next in
        at_mark (a.Gives mutex next) (stage_after p t c node seen view registers (a.Gives mutex next))
        (boundary_effects b view.side (c.after node) registers) refl (marks (a.Gives mutex next) eq refl) (performs (a.Gives mutex next) eq).1 of_next
        (let l = gives_unlock is.action seen mutex next eq in record { own = at.own; is = is; at = found; lock = l.0; unlocks = l.1; number = l.2 })
        (boundary_apart w.log (length w.harts) s b view.side (c.after node) registers placed.log reads placed.number
        (placed.locks seen.locals next of_next)
        (λ r q. placed.slots next r of_next (inl q)))
        (boundary_may w.log (length w.harts) b view.side (c.after node) registers placed.log placed.number
        (placed.locks seen.locals next of_next)
        (λ r q. placed.slots next r of_next (inl q)))
        (λ effect k. tt) refl
    begins a.Ends eq may =
        at_mark a.Ends (stage_after p t c node seen view registers a.Ends) [] refl (marks a.Ends eq refl) (performs a.Ends eq).1 at.own
        (record { own = at.own; is = is; at = found; ends = ends_end is.action seen eq }) tt tt (λ effect k. tt) refl

pub nodes_begin : NodesBegin
nodes_begin p t program own code w h s node seen view owed registers is e placed meets agrees reads found eq owing answered may at =
    begins code (on_machine program w h s) (record {
      node = node;
      seen = seen;
      view = view;
      owed = owed;
      registers = registers;
      is = is;
      placed = placed;
      meets = meets;
      agrees = agrees;
      reads = reads;
      found = found;
      at = at;
    }) owing answered e eq may

module _ {p : Plan} {t : Thread} {own : Program} (code : IsThreadCode p t own) (running : Running) (node : ℕ) (seen : Seen) (view : LogView) (owed : ℤ)
    (registers : List ℕ) (logged : IsLogged p t node) (word : ℕ) (home : home_of t.locals logged.local ≡ InFrame word)
    (placed : IsPlaced p t code.places running.world.log (length running.world.harts)) (meets : Meets code.places.program running.environment)
    (agrees : Agrees running.program running.world running.hart running.environment) (reads : ReadsOwn running.world.log t.number running.environment)
    (at : IsAtCore p t code.places running.world running.hart node seen view owed registers) where
  open logged use {local, assigns}

  abbrev at_assignment : StandsAtNode code running
  at_assignment = record {
    node = node;
    seen = seen;
    view = view;
    owed = owed;
    registers = registers;
    is = assigns.is;
    placed = placed;
    meets = meets;
    agrees = agrees;
    reads = reads;
    found = assigns.at;
    at = at;
  }

  -- what the node does by what the thread sees: it sets the same local
  abbrev evaluated : a.Effect
  evaluated = a.Sets local (reduced assigns.kind (number_in seen assigns.assigned.expr)) assigns.next

  evaluates : effect_of assigns.is.action seen ≡ Some evaluated
  evaluates = ap (λ (b : Action). effect_of b seen) assigns.action

  does : SetsLogged p t code.places (entrance code running at_assignment owed) word local owed assigns.next
  does = (code.code node assigns.is at.own assigns.at).assigns (entrance code running at_assignment owed) refl
      (record { meets = meets; own = at.own; ready = at.ready }) logged word home

  begins_by : IsApart running.environment word 8 → (held : List LockName) → held_names_before p t node ≡ held →
      IsAtSomeMark p t code.places running node seen view registers (a.Sets local owed assigns.next)
  begins_by apart [] none = absurd (logged.holds none)
  begins_by apart (name ∷ held) some =
      sets_logged code running at_assignment local owed assigns.next (assigns, refl) (marks code running at_assignment evaluated evaluates refl)
      (follows code running at_assignment evaluated assigns.next evaluates refl) owed word name held (record { at_home = home; holding = some })
      (λ _. does, λ none. absurd (none logged)) apart

pub assignments_begin : AssignmentsBegin
assignments_begin p t program own code w h s node seen view owed registers logged word home placed meets agrees reads apart at =
    begins_by code (on_machine program w h s) node seen view owed registers logged word home placed meets agrees reads at apart
    (held_names_before p t node) refl
