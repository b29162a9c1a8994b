-- What a crash leaves of a run has the shape.
use Rattle.std.proofs.Common.{◌≡◌, ◌≢◌, refl, ℕ, ◌<◌, List, [], length, map, ap, sym, ◌∙◌, subst, arith, Option, Some, None, Bool, true, false}
use Rattle.std.specs.Prelude.{slice_get, Contains, ℤ, slice_index_or, pos, is_some, ◌==◌}
use Rattle.std.specs.List.{AllZip}
use Rattle.std.proofs.lemmas.Bool.{cond-false, ne_eqb}
use Rattle.std.proofs.lemmas.List.{length-map}
use Rattle.std.proofs.lemmas.Option.{none-some, same_Some, slice_get_within}
use Rattle.log_schemes.specs.declared.log.Log.{Log}
use Rattle.machine_events.specs.declared.event.Event.TheVariants.{Crash}
use Rattle.ido_base.specs.declared.location.Location.{Location}
use Rattle.ido_base.specs.Layout.{variable_at}
use Rattle.log_schemes.specs.Layout.{frame_at, word_count}
use Rattle.ido_base.specs.Locks.{has_lock}
use Rattle.ido_base.specs.Words.{Word, word_of, durable_value}
use Rattle.ido_ints.specs.declared.kinds.Kind.{Kind}
use Rattle.ido_ints.specs.Kinds.{Holds}
use Rattle.ido_ints.specs.Reduction.{reduced}
use Rattle.ido_ints.specs.TypedNumbers.{typed}
use Rattle.c_tree.specs.Exprs.{LockName}
use Rattle.c_tree.specs.Flats as f
use Rattle.c_tree.specs.LockNames.{lock_names}
use Rattle.c_tree.specs.NullReferences.{is_among}
use Rattle.c_tree.specs.Ranges.{elements_of}
use Rattle.c_tree.specs.References.{IsFlatThreadReferring, IsLocalReferring, variable_refers}
use Rattle.c_tree.specs.Source as m
use Rattle.c_tree.specs.Source.{Pending}
use Rattle.c_tree.specs.WellFormed.{shape_of}
use Rattle.c_ranges.specs.Laws.{IsNullOrReference}
use Rattle.c_ranges.specs.RunInvariants.{IsReferringThread, IsStoreInRange, IsThreadOf, RefersSo}
use Rattle.c_ranges.proofs.Public.{zip_at, zip_found}
use Rattle.source_machine.specs.Discipline.{HoldsNames, KeepsLeft}
use Rattle.source_machine.proofs.Public.{held_is_given}
use Rattle.memory_layout.specs.Roles.{pending_address, pending_value}
use Rattle.rv64_isa.specs.Rows.{read}
use Rattle.machine_model.specs.Machine.{World, after_event, durable_at, happens, after_crash_of, resume_of, record_of}
use Rattle.machine_model.proofs.Public.{log_stays}
use Rattle.flow_graph.specs.Actions.{FlowState, Seen, Sets, effect_of, number_in, seen_by}
use Rattle.flow_graph.specs.IdempotentCuts.{stores}
use Rattle.flow_graph.specs.Liveness.{NodeAt, IsLive}
use Rattle.flow_graph.specs.Lockstep.{GraphThreadMatches, Standing}
use Rattle.flow_graph.specs.Lowering.{lowered, threads_nodes}
use Rattle.flow_graph.specs.Nodes.{Action, Eval, Store, Test, Lock, Unlock, End, Graph, Node}
use Rattle.flow_graph.specs.Paths.{LiesInWritten, naming_of, stored_element}
use Rattle.flow_graph.proofs.Public.{Good, ShapedAs, all_at, found_in, node_shaped, nodes_at}
use Rattle.log_states.specs.LogInvariant.{LogInv}
use Rattle.log_states.specs.Logs.{Record, IsRecord, IsRecorded, HasLog, frame_in, framed_of, nothing_recorded}
use Rattle.log_states.specs.BanksRead.{HasKept, HasTold}
use Rattle.log_states.specs.Laws.{ResumesRecord}
use Rattle.log_states.specs.Machines.{config_of}
use Rattle.log_states.proofs.Public.{crashes_standing, durable_is, ends, log_facts}
use Rattle.thread_code.specs.Plans.{Thread, IsKept, IsKeptBefore, IsLogged, locks_before, of_address, of_entry, of_local, of_number, of_value, of_word}
use Rattle.thread_code.specs.Plans.{set_before}
use Rattle.thread_code.specs.RegistersAtNodes.{HasAssigned, HasPending, IsAtHome, IsCountedOn, IsLiveBeside, IsPendingIn, IsReady, MayAssign, by_assignment}
use Rattle.thread_code.specs.RegistersAtNodes.{by_entry, frame_loads, to_assign, to_enter}
use Rattle.recovered_threads.specs.RecordDescriptions.{Code, ComesNext, CountsOn, Describes, DescribesAs, IsInside, IsNumberAssigned, IsOrderly, MayGoOn}
use Rattle.recovered_threads.specs.RecordDescriptions.{NodePlace, ResumesAt, between, inside}
use Rattle.recovered_threads.specs.RecordDescriptions.{locks_of, registers_kept, the_core, the_entry}
use Rattle.recovered_threads.proofs.Public.{records_are_apart, stands_in_word}
use Rattle.region_attempts.specs.KnownReferences.{AreUnnull, known_at}
use Rattle.known_references.proofs.Public.{kept_unnull}
use Rattle.crash_simulation.specs.AbstractRuns.{kept_of}
use Rattle.crash_simulation.specs.AccountRelation.{MachinesResume}
use Rattle.crash_simulation.specs.SimulationRelation.{Simulates}
use Rattle.crash_simulation.specs.Systems.{System, IsSystem, flat_of, thread_count}
use Rattle.crash_simulation.proofs.Public.{kept_good, left, lates, left_describes, log_of, orderly, owes_here}
use Rattle.compiler_correctness.specs.Laws.{translation_of}
use Rattle.compiler_correctness.specs.Translations.{world}
use Rattle.flat_compile.specs.ResumePlaces.{knowns_before, refers_in}
use Rattle.image_checks.specs.Logs.{AreOnce}
use Rattle.image_checks.specs.Checks.{IsElementOf, IsReferenceWord}
use Rattle.image_checks.proofs.Public.{AreApart, left_refer, locks_are, once_by, one_assigned, word_of as frame_word_of}
use Rattle.image_checks.proofs.Public.{assigned_refers}
use Rattle.flat_compile.proofs.Public.{node_there}
use Rattle.image_runs.specs.Shapes.{GoesOnAt, HasThreadShape, HasShape}
use Rattle.image_runs.specs.Shapes as shapes
use Rattle.image_runs.specs.Laws.{CrashesLeaveShape}
use Rattle.image_checks.proofs.Public.{knowns_are, refers_are, zip_there}
use Rattle.image_runs.proofs.ResumedLocals.{no_register}
use Rattle.image_runs.proofs.HeldAtNodes.{keeps}
use Rattle.image_runs.proofs.HeldAtNodes.{stands as stands_at}
use Rattle.image_checks.proofs.Public.{IsLong, variable_long, word_by_bytes}
use Rattle.image_checks.proofs.Public.{StoresAs, StoresElements, stores_elements}
use Rattle.expr_code.specs.declared.home.Home.{Home}
use Rattle.expr_code.specs.declared.home.Home.TheVariants.{InFrame, InRegister}
use Rattle.expr_code.specs.EvaluationCode.{home_of, HomeCarries}

module _ (y : System) (s : IsSystem y) (w : World) (stands : Simulates y s w)
    (on_time : (n : ℕ) → n < thread_count y → (stands.ghosts n).late ≡ false) where
  abbrev ws : List Word
  ws = map word_of (map durable_value w.words)

  abbrev after : World
  after = after_event y.runs.program w Crash

  words_are : after.words ≡ ws
  unfolding happens after_crash_of
  words_are = refl

  logs_after : after.log ≡ y.plan.log
  logs_after = log_stays y.runs.program w Crash stands.machine.sound ∙ sym stands.machine.log

  abbrev kept : FlowState
  kept = kept_of y stands.abstract

  module _ (n : ℕ) (below : n < thread_count y) where
    abbrev r : Record
    r = left y s w stands n

    standing : LogInv n nothing_recorded r after []
    standing =
        let c = stands.ghosts n in
        crashes_standing y.runs.program n c.old c.new w c.rest (s.count ∙ sym stands.machine.count) (log_of y s w stands n below)

    recorded : IsRecorded y.plan.log n r after.words
    recorded =
        subst (λ (l : Log). IsRecorded l n r after.words) logs_after
        (ends after.log n nothing_recorded r (config_of after standing.hart []) standing.log refl)

    pub has_log : HasLog y.plan.log n ws
    has_log = subst (HasLog y.plan.log n) words_are (subst (λ (l : Log). HasLog l n after.words) logs_after standing.log.log)

    pub resumes_record : ResumesRecord y.plan.log n r ws
    resumes_record =
        let is : IsRecord y.plan.log r = subst (λ (l : Log). IsRecord l r) logs_after standing.log.follows.new_is in
        subst (ResumesRecord y.plan.log n r) words_are (log_facts.registers_resumed.between y.plan.log n r after.words is recorded)

    abbrev code : Code y.plan
    code = s.codes.each n below

    abbrev t : Thread
    t = code.thread

    resumes_own : ResumesRecord y.plan.log t.number r ws
    resumes_own = subst (λ (k : ℕ). ResumesRecord y.plan.log k r ws) (sym (s.codes.number n below)) resumes_record

    -- ---- In a section

    module _ (i : IsInside y.plan code kept r) where
      abbrev at : ℕ
      at = i.graph_thread.at

      abbrev locals : List ℤ
      locals = i.graph_thread.locals

      abbrev names : List LockName
      names = lock_names (flat_of y) code.of.text

      good : Good (flat_of y) kept
      good = kept_good y s stands.abstract

      -- the thread of the source
      source : (thread : m.Thread) × (slice_get good.source.threads t.number ≡ Some thread)
      source =
          found_in good.source.threads t.number
          (let l = slice_get_within kept.graph_threads t.number i.graph_thread i.there in let count = good.matches.count in omega (arith, l, count))

      match : GraphThreadMatches (flat_of y) i.graph_thread source.0
      match = good.matches.each t.number i.graph_thread source.0 i.there source.1

      formed : IsThreadOf (flat_of y) code.of.text.locals source.0
      formed =
          let own = zip_there (λ (u : f.Thread) (z : m.Thread). IsThreadOf (flat_of y) u.locals z) (flat_of y).threads good.source.threads t.number code.of.text
          good.formed.threads code.of.of_text in
          subst (IsThreadOf (flat_of y) code.of.text.locals) (same_Some own.0 source.0 (sym own.1 ∙ source.1)) own.2

      referring : IsReferringThread (flat_of y) code.of.text source.0
      referring =
          let own = zip_there (IsReferringThread (flat_of y)) (flat_of y).threads good.source.threads t.number code.of.text good.formed.references.threads
          code.of.of_text in
          subst (IsReferringThread (flat_of y) code.of.text) (same_Some own.0 source.0 (sym own.1 ∙ source.1)) own.2

      held : AllZip Holds t.kinds locals
      held =
          subst (λ (ks : List Kind). AllZip Holds ks locals) (sym code.of.kinds)
          (subst (λ (ls : List ℤ). AllZip Holds code.of.text.locals ls) (sym match.locals) formed.locals)

      abbrev seen : Seen
      seen = seen_by kept i.graph_thread

      -- it goes on with these registers
      abbrev May : NodePlace → Type 0
      May stand = MayGoOn y.plan t at stand seen i.view i.owed r.registers

      register_there : (register : ℕ) → IsKept y.plan t at register → read (shapes.resumed y.plan code ws) register ≡ read r.registers register
      register_there register is =
          resumes_own.registers i.point register (subst (λ (live : List ℕ). Contains live register) (sym i.live) (by i.place))
        where
          by : (stand : NodePlace) → Contains (registers_kept code.is.places at stand) register
          by the_entry = (code.is.live at i.own register).1 is
          by the_core = (code.is.kept at i.own register).1 (of_entry register is)

      -- a word of the frame on which the record counts
      word_there : (word : ℕ) → Contains r.framed word → durable_at ws (frame_at y.plan.log t.number word) ≡ i.view.frame (frame_at y.plan.log t.number word)
      word_there word c =
          let counted : Contains (framed_of r) word =
          subst (λ (words : List ℕ). Contains words word) (sym (cond-false (r.point == 0) [] r.framed (ne_eqb r.point 0 i.point))) c in
          durable_is (frame_in y.plan.log ws t.number word) (r.frame word) (resumes_own.frame word counted) ∙ i.frame word c

      -- ---- Locals

      -- what stands in its home is its number, at the record's registers, where the log was so
      at_home : (local : ℕ) (k : Kind) → slice_get t.kinds local ≡ Some k → CountsOn y.plan t at i.place local →
          IsAtHome y.plan t seen i.view r.registers local k
      at_home local k kind counted = by i.place i.may counted
        where
          beside : (logged : IsLogged y.plan t at) → MayAssign y.plan t at logged.local i.owed seen i.view r.registers →
              IsLiveBeside y.plan at logged.local local → IsAtHome y.plan t seen i.view r.registers local k
          beside logged may live =
              let own = frame_word_of y.plan s.plan t code.of logged.frame local k kind in
              subst (λ (home : Home). HomeCarries (frame_loads i.view) r.registers home (typed k (slice_index_or locals local (pos 0)))) (sym own.1)
              (may.locals local own.0 k kind live own.1)

          at_core : IsReady y.plan t at seen i.view i.owed r.registers → IsCountedOn y.plan t at local → IsAtHome y.plan t seen i.view r.registers local k
          at_core (to_enter none enters) (by_entry _ free live) = enters.locals local k kind live
          at_core (to_enter none enters) (by_assignment _ logged live) = absurd (none logged)
          at_core (to_assign logged may) (by_entry _ none live) = absurd (none logged)
          at_core (to_assign logged may) (by_assignment _ other live) =
              let same : other.local ≡ logged.local = one_assigned y.plan s.plan at other.local logged.local other.assigns logged.assigns in
              beside logged may (subst (λ (k : ℕ). IsLiveBeside y.plan at k local) same live)

          by : (stand : NodePlace) → May stand → CountsOn y.plan t at stand local → IsAtHome y.plan t seen i.view r.registers local k
          by the_entry enters live = enters.locals local k kind live
          by the_core ready live = at_core ready.0 live

      -- one in a register is live
      alive : (local : ℕ) (k : Kind) (register : ℕ) → slice_get t.kinds local ≡ Some k → home_of t.locals local ≡ InRegister register →
          CountsOn y.plan t at i.place local → IsLive y.plan.graph local at
      alive local k register kind home counted = by i.place counted
        where
          at_core : IsCountedOn y.plan t at local → IsLive y.plan.graph local at
          at_core (by_entry _ none live) = live
          at_core (by_assignment _ logged live) = absurd (no_register y.plan s.plan t code.of logged.frame local k register kind home)

          by : (stand : NodePlace) → CountsOn y.plan t at stand local → IsLive y.plan.graph local at
          by the_entry live = live
          by the_core live = at_core live

      local_right : (local : ℕ) (k : Kind) → slice_get t.kinds local ≡ Some k → CountsOn y.plan t at i.place local →
          HomeCarries (frame_loads (shapes.resumed_view y.plan code ws)) (shapes.resumed y.plan code ws) (home_of t.locals local)
          (typed k (slice_index_or locals local (pos 0)))
      local_right local k there counted = by (home_of t.locals local) refl (at_home local k there counted)
        where
          by : (home : Home) → home_of t.locals local ≡ home →
              HomeCarries (frame_loads i.view) r.registers home (typed k (slice_index_or locals local (pos 0))) →
              HomeCarries (frame_loads (shapes.resumed_view y.plan code ws)) (shapes.resumed y.plan code ws) home
              (typed k (slice_index_or locals local (pos 0)))
          by (InRegister register) stands_in carried = record {
            held = carried.held;
            form = register_there register (of_local local k register there (alive local k register there stands_in counted) stands_in) ∙ carried.form;
          }
          by (InFrame address) stands_in carried =
              let word = stands_in_word y.plan s.plan t code.of local address stands_in in
              let c : Contains r.framed word.0 =
              (i.framed word.0).1 (record { local = local; counted = counted; home = stands_in ∙ ap (λ (a : ℕ). InFrame a) word.1 }) in
              let same : durable_at ws address ≡ i.view.frame address =
              subst (λ (a : ℕ). durable_at ws a ≡ i.view.frame a) (sym word.1) (word_there word.0 c) in
              record { held = carried.held; answer = ap (λ (v : ℕ). Some v) same ∙ carried.answer }

      local_refers : (local array : ℕ) → slice_get (refers_in y.plan t) local ≡ Some (Some array) →
          IsNullOrReference (elements_of (flat_of y).variables array) (slice_index_or locals local (pos 0))
      local_refers local array there =
          subst (λ (ls : List ℤ). IsNullOrReference (elements_of (flat_of y).variables array) (slice_index_or ls local (pos 0))) (sym match.locals)
          (zip_at (RefersSo (flat_of y).variables) code.of.text.refers source.0.locals local (Some array) (pos 0) referring.locals
          (ap (λ (rs : List (Option ℕ)). slice_get rs local) (sym (refers_are y.plan t code.of)) ∙ there))

      unnull : AreUnnull code.of.text.refers (known_at code.of.text t.part.first at) locals
      unnull =
          kept_unnull (flat_of y) s.plan.formed stands.abstract.origin stands.abstract.schedule t.number code.of.text t.part i.graph_thread code.of.of_text
          (subst (λ (g : Graph). slice_get g.threads t.number ≡ Some t.part) s.plan.lowered code.of.nodes) i.there

      local_some : (local array : ℕ) → slice_get (refers_in y.plan t) local ≡ Some (Some array) → is_among (knowns_before y.plan t at) local ≡ true →
          slice_index_or locals local (pos 0) ≢ pos 0
      local_some local array there among =
          unnull local array (ap (λ (rs : List (Option ℕ)). slice_get rs local) (sym (refers_are y.plan t code.of)) ∙ there)
          (ap (λ (ks : List ℕ). is_among ks local) (sym (knowns_are y.plan t code.of at)) ∙ among)

      -- ---- Locks

      ordered : IsOrderly y.plan kept
      ordered = orderly y s stands.abstract

      own_thread : (thread : m.Thread) × (slice_get ordered.source.threads t.number ≡ Some thread)
      own_thread =
          found_in ordered.source.threads t.number
          (let l = slice_get_within kept.graph_threads t.number i.graph_thread i.there in let count = ordered.matches.count in omega (arith, l, count))

      own_match : GraphThreadMatches (flat_of y) i.graph_thread own_thread.0
      own_match = ordered.matches.each t.number i.graph_thread own_thread.0 i.there own_thread.1

      left_is : own_thread.0.left ≡ (stands_at y.plan s.plan t code.of at i.own).0.left
      left_is =
          ap (λ (z : Standing). z.left)
          (same_Some (record { left = own_thread.0.left; owes = is_some own_thread.0.pending }) (stands_at y.plan s.plan t code.of at i.own).0
          (sym own_match.stands ∙ (stands_at y.plan s.plan t code.of at i.own).1))

      holds_names : HoldsNames names (set_before y.plan t at) own_thread.0.locals ordered.source.holders t.number
      holds_names =
          held_is_given (flat_of y) ordered.source t.number code.of.text own_thread.0 (set_before y.plan t at) ordered.keeps code.of.of_text own_thread.1
          (subst (KeepsLeft (flat_of y) names (set_before y.plan t at)) (sym left_is) (keeps y.plan s.plan t code.of at i.own))

      once : AreOnce (locks_before y.plan t locals at)
      once =
          subst AreOnce (sym (locks_are y.plan s.plan t code.of locals at))
          (once_by locals names (set_before y.plan t at)
          (subst (λ (ls : List ℤ). AreApart ls names (set_before y.plan t at)) (sym own_match.locals) holds_names.apart))

      -- ---- Where a store is pending

      -- before a store its address and value are there
      pending_in : (is : Node) → NodeAt y.plan.graph at is → IsPendingIn y.plan is.action seen r.registers
      pending_in is there = by i.place i.may
        where
          at_core : IsReady y.plan t at seen i.view i.owed r.registers → IsPendingIn y.plan is.action seen r.registers
          at_core (to_enter none enters) = enters.pending is there
          at_core (to_assign logged may) =
              let same : logged.assigns.is ≡ is = same_Some logged.assigns.is is (sym logged.assigns.at ∙ there) in
              subst (λ (z : Node). IsPendingIn y.plan z.action seen r.registers) same
              (subst (λ (a : Action). IsPendingIn y.plan a seen r.registers) (sym logged.assigns.action) tt)

          by : (stand : NodePlace) → May stand → IsPendingIn y.plan is.action seen r.registers
          by the_entry enters = enters.pending is there
          by the_core ready = at_core ready.0

      module _ (is : Node) (there : NodeAt y.plan.graph at is) (location : Location) (writes : is.writes ≡ Some location) where
        -- where it goes, and what it stores
        record Has : Type 0 where
          address : IsElementOf (flat_of y).variables (naming_of (flat_of y) code.of.text locals) location
              (read (shapes.resumed y.plan code ws) pending_address)
          value : IsReferenceWord (flat_of y).variables (variable_refers (flat_of y).variables location.variable)
              (read (shapes.resumed y.plan code ws) pending_value)

        flat_there : NodeAt (lowered (flat_of y)) at is
        flat_there = subst (λ (g : Graph). NodeAt g at is) s.plan.lowered there

        here : slice_get (threads_nodes (flat_of y) (flat_of y).threads 0) at ≡ Some is
        here = nodes_at (flat_of y) at is flat_there

        shaped : (a : Action) → is.action ≡ a → ShapedAs (threads_nodes (flat_of y) (flat_of y).threads 0) is a
        shaped a does = subst (λ (z : Action). ShapedAs (threads_nodes (flat_of y) (flat_of y).threads 0) is z) does (node_shaped (flat_of y) at is here)

        none : is.writes ≡ None → Has
        none e = absurd (none-some location (sym e ∙ writes))

        module _ (variable next : ℕ) (kind : Kind) (does : is.action ≡ Store variable kind next)
            (it : StoresElements (flat_of y) s.plan.formed.shared.variables is variable kind) where
          owed : (store : Pending) × (i.graph_thread.pending ≡ Some store)
          owed =
              owes_here (flat_of y) s.plan.formed kept good.source t.number good.matches i.graph_thread i.there is flat_there
              (record { variable = variable; kind = kind; next = next; is = does })

          abbrev store : Pending
          store = owed.0

          pending : HasPending y.plan store variable kind r.registers
          pending =
              subst (λ (a : Action). IsPendingIn y.plan a seen r.registers) does (pending_in is there) store owed.1

          lies : LiesInWritten (naming_of (flat_of y) code.of.text locals) is.writes (stored_element store)
          lies =
              let owes = good.owes t.number code.of.text i.graph_thread store i.there code.of.of_text owed.1 in
              subst (λ (z : Node). LiesInWritten (naming_of (flat_of y) code.of.text locals) z.writes (stored_element store))
              (same_Some owes.node is (sym owes.here ∙ here)) owes.lies

          ranged : IsStoreInRange (flat_of y).variables store
          ranged = formed.pending store (sym match.pending ∙ owed.1)

          variable_is : store.variable ≡ lies.location.variable
          variable_is = sym lies.lies.within.variable

          address_there : IsElementOf (flat_of y).variables (naming_of (flat_of y) code.of.text locals) lies.location
              (read (shapes.resumed y.plan code ws) pending_address)
          address_there = record {
            there = subst (λ (k : ℕ). k < length (flat_of y).variables) variable_is
                (slice_get_within (flat_of y).variables store.variable ranged.it ranged.found);
            element = store.element;
            from = lies.lies.within.from_lo;
            to = lies.lies.within.to_hi;
            by_key = λ key keyed.
                subst (λ (v : ℕ). naming_of (flat_of y) code.of.text locals v key ≡ Some store.element) variable_is (lies.lies.by_key key keyed);
            is = register_there pending_address (of_address (stores is variable kind next there does))
                ∙ (pending.address ∙ ap (λ (k : ℕ). variable_at (map shape_of (flat_of y).variables) k store.element) variable_is);
          }

          value_there : IsReferenceWord (flat_of y).variables (variable_refers (flat_of y).variables lies.location.variable)
              (read (shapes.resumed y.plan code ws) pending_value)
          value_there =
              let vs = (flat_of y).variables in
              let refers : Option ℕ = variable_refers vs store.variable in
              let long : IsLong refers kind =
              subst (λ (v : ℕ). IsLong (variable_refers vs v) kind) (sym pending.variable_is)
              (subst (λ (k : Kind). IsLong (variable_refers vs variable) k) it.kind_is
              (variable_long vs variable it.it s.plan.formed.referring.variables it.found)) in
              let own : IsReferenceWord vs refers (read r.registers pending_value) =
              word_by_bytes vs refers kind (read r.registers pending_value) store.number long pending.value.below pending.value.low
              (referring.pending store (sym match.pending ∙ owed.1)) in
              subst (λ (v : ℕ). IsReferenceWord vs (variable_refers vs v) (read (shapes.resumed y.plan code ws) pending_value)) variable_is
              (subst (IsReferenceWord vs refers)
              (sym (register_there pending_value (of_value (stores is variable kind next there does)))) own)

          stored : Has
          stored =
              let same : lies.location ≡ location = same_Some lies.location location (sym lies.of ∙ writes) in
              record {
                address =
                    subst (λ (z : Location). IsElementOf (flat_of y).variables (naming_of (flat_of y) code.of.text locals) z
                    (read (shapes.resumed y.plan code ws) pending_address)) same address_there;
                value =
                    subst (λ (z : Location). IsReferenceWord (flat_of y).variables (variable_refers (flat_of y).variables z.variable)
                    (read (shapes.resumed y.plan code ws) pending_value)) same value_there;
              }

        written : (a : Action) → is.action ≡ a → StoresAs (flat_of y) s.plan.formed.shared.variables is a → Has
        written (Eval target value next) does it = none (shaped (Eval target value next) does).1.writes
        written (Store variable kind next) does it = stored variable next kind does it
        written (Test condition holds fails) does it = none (shaped (Test condition holds fails) does).1.writes
        written (Lock lock next) does it = none (shaped (Lock lock next) does).1
        written (Unlock lock next) does it = none (shaped (Unlock lock next) does).1
        written End does it = none (shaped End does).1

        has : Has
        has = written is.action refl (stores_elements (flat_of y) s.plan.formed.shared.variables at is s.plan.formed.threads here)

      -- ---- Where an assignment is logged

      -- the number that it owes is one that the local may have
      owed_refers : (logged : IsLogged y.plan t at) → length locals ≡ length t.kinds → IsNumberAssigned y.plan t at seen i.owed → (array : ℕ) →
          slice_get (refers_in y.plan t) logged.local ≡ Some (Some array) → IsNullOrReference (elements_of (flat_of y).variables array) i.owed
      owed_refers logged count owes array refers =
          let a = logged.assigns in
          let number : ℤ = reduced a.kind (number_in seen a.assigned.expr) in
          let does : effect_of a.is.action seen ≡ Some (Sets logged.local number a.next) = ap (λ (z : Action). effect_of z seen) a.action in
          let own : slice_get code.of.text.refers logged.local ≡ Some (Some array) =
          ap (λ (rs : List (Option ℕ)). slice_get rs logged.local) (sym (refers_are y.plan t code.of)) ∙ refers in
          let form : AllZip IsLocalReferring code.of.text.locals code.of.text.refers =
          (all_at (IsFlatThreadReferring (flat_of y)) (flat_of y).threads t.number code.of.text s.plan.formed.referring.threads code.of.of_text).locals in
          let kind = (zip_found IsLocalReferring code.of.text.locals code.of.text.refers logged.local (Some array) form own).found in
          let within : logged.local < length locals =
          (let l = slice_get_within code.of.text.locals logged.local _ kind in
          omega (arith, l, count, ap (λ (ks : List Kind). length ks) code.of.kinds)) in
          let flat_at : NodeAt (lowered (flat_of y)) at a.is = subst (λ (g : Graph). NodeAt g at a.is) s.plan.lowered a.at in
          subst (RefersSo (flat_of y).variables (Some array)) (sym (owes a.is logged.local number a.next a.at logged does))
          (assigned_refers (flat_of y) s.plan.formed kept good t.number code.of.text code.of.of_text i.graph_thread i.there a.is flat_at logged.local a.next
          number does within (Some array) own)

      assigned : shapes.HasAssignment y.plan code ws at i.place
      assigned = by i.place refl i.may
        where
          kept_at_core : i.place ≡ the_core → (register : ℕ) → IsKeptBefore y.plan t at register →
              read (shapes.resumed y.plan code ws) register ≡ read r.registers register
          kept_at_core core register is =
              resumes_own.registers i.point register
              (subst (λ (live : List ℕ). Contains live register)
              (ap (λ (z : NodePlace). registers_kept code.is.places at z) (sym core) ∙ sym i.live) ((code.is.kept at i.own register).1 is))

          stored : i.place ≡ the_core → (logged : IsLogged y.plan t at) → MayGoOn y.plan t at the_core seen i.view i.owed r.registers →
              IsReady y.plan t at seen i.view i.owed r.registers → shapes.StoresAssigned y.plan code ws logged.local
          stored core logged may (to_enter none enters) = absurd (none logged)
          stored core logged may (to_assign other m) =
              let same : other.local ≡ logged.local = one_assigned y.plan s.plan at other.local logged.local other.assigns logged.assigns in
              let has = subst (λ (k : ℕ). HasAssigned t k i.owed r.registers) same m.assigned in
              record {
                number = i.owed;
                word = has.word;
                home = has.home;
                address = kept_at_core core pending_address (of_word logged) ∙ has.address;
                value = λ k kind.
                    let carried = has.carries k kind in
                    record { held = carried.held; form = kept_at_core core pending_value (of_number logged) ∙ carried.form };
                refer = owed_refers logged m.count may.1;
              }

          by : (stand : NodePlace) → i.place ≡ stand → May stand → shapes.HasAssignment y.plan code ws at stand
          by the_entry e may = tt
          by the_core e may = λ logged. stored e logged may may.0

      told : (written : Option ℕ) → ComesNext y.plan at i.place written → HasTold y.plan.log ws t.number written
      told written comes = subst (HasTold y.plan.log ws t.number) (by i.place i.written comes) (resumes_own.told i.point)
        where
          by : (stand : NodePlace) → ComesNext y.plan at stand r.written → ComesNext y.plan at stand written → r.written ≡ written
          by the_entry own other = own ∙ sym other
          by the_core own other = let is = node_there y.plan s.plan t code.of at i.own in own is.0 is.1 ∙ sym (other is.0 is.1)

      goes_on : GoesOnAt y.plan code ws at i.place
      goes_on = record {
        own = i.own;
        resumes = subst (λ (q : ℕ). ResumesAt y.plan code at i.place (resume_of q)) (sym resumes_own.point) i.resumes;
        numbers = locals;
        held = held;
        locals = local_right;
        refer = λ local array refers counted. local_refers local array refers;
        unnull = λ local array refers counted among. local_some local array refers among;
        locks = subst (HasKept y.plan.log ws t.number) i.locks (resumes_own.kept i.point);
        once = once;
        pending = λ is location there writes. (has is there location writes).address;
        value = λ is location there writes. (has is there location writes).value;
        assigned = assigned;
        told = told;
      }

    shape_by : Describes y.plan code kept r → HasThreadShape y.plan code ws
    shape_by (between none point) = shapes.idle (resumes_own.point ∙ point)
    shape_by (inside some i) = shapes.resumes i.graph_thread.at i.place (λ zeroth. i.point (sym resumes_own.point ∙ zeroth)) (goes_on i)

    pub thread_shape : HasThreadShape y.plan code ws
    thread_shape = shape_by (subst (λ (late : Bool). DescribesAs y.plan code kept late r) (on_time n below) (left_describes y s w stands n below))

  locks_there : (g : ℕ) → (gb : g < thread_count y) → (lock : ℕ) → has_lock (record_of y.plan.log ws g) lock ≡ true →
      has_lock (locks_of (left y s w stands g)) lock ≡ true
  locks_there g gb lock h = ap (λ (ls : List ℕ). has_lock ls lock) (sym (resumes_record g gb).locks) ∙ h

  pub has_shape : HasShape y.plan s.codes (map durable_value w.words)
  has_shape = record {
    size =
        length-map w.words durable_value ∙ stands.machine.sound.size
        ∙ (ap (λ (l : Log). word_count l (length w.harts)) (sym stands.machine.log) ∙ ap (word_count y.plan.log) stands.machine.count);
    logs = has_log;
    references = left_refer y s w stands;
    threads = thread_shape;
    apart = λ g h lock gb hb gl hl.
        records_are_apart y.plan s.codes kept (lates y s w stands) (left y s w stands) s.plan (orderly y s stands.abstract) (left_describes y s w stands)
        g h lock gb hb (locks_there g gb lock gl) (locks_there h hb lock hl);
  }

pub crashes_leave_shape : MachinesResume → CrashesLeaveShape
crashes_leave_shape machines y s events =
    has_shape y s (world (translation_of y) events) (machines y s events).is.stands (λ n below. ((machines y s events).is.counted.each n below).on_time)
