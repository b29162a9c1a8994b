-- What a crash leaves of the logs of a compiled program: each thread can be resumed by its own, and no two hold one mutex.
use Rattle.recovered_threads.specs.RecordDescriptions.{DescribesAs}
use Rattle.std.proofs.Common.{◌≡◌, ◌≢◌, ◌⊎◌, inl, inr, refl, ℕ, ◌+◌, ◌-◌, ◌/◌, ◌<◌, ◌≤◌, ap, ap₂, sym, subst, ◌∙◌, arith, cond}
use Rattle.std.proofs.Common.{Option, Some, None, Bool, true, false}
use Rattle.std.proofs.Common.{List, [], length, map, drop, get_or, get_or-drop}
use Rattle.std.specs.List.{AllZip}
use Rattle.std.specs.Prelude.{◌==◌, ◌↔◌, ◌&&◌, All, Contains, find, is_some, pos, slice_get, slice_index, slice_index_or, Vec, ℤ}
use Rattle.std.specs.Global.{Global}
use Rattle.std.proofs.lemmas.Bool.{and_parts, cases_Bool, cases_lt, cond-true, cond-false, eqb-true, eqb-false, ne_eqb, le-ltb}
use Rattle.std.proofs.lemmas.List.{get_or-map, get_or_past, length-map}
use Rattle.std.proofs.lemmas.List.Elements.{Contains-append_left, Contains-append_right, Contains-get_or}
use Rattle.std.proofs.lemmas.Option.{get_or_from_slice_get, none-some, same_Some, slice_get_within, slice_get-get_or}
use Rattle.machine_model.specs.Machine.{durable_point}
use Rattle.machine_model.proofs.Public.{log_stays}
use Rattle.log_schemes.specs.declared.log.Log.{Log}
use Rattle.log_schemes.specs.declared.keeping.Keeping.TheVariants.{Masked}
use Rattle.machine_events.specs.declared.event.Event.TheVariants.{Crash}
use Rattle.ido_base.specs.declared.location.Location.{Location}
use Rattle.ido_base.specs.Layout.{variables_base, logs_base, word_number, variable_at}
use Rattle.log_schemes.specs.Layout.{frame_at, slot_at}
use Rattle.log_schemes.specs.declared.locals.Locals.{Locals}
use Rattle.log_schemes.specs.declared.locals.Locals.TheVariants.{Registers, Frame}
use Rattle.ido_base.specs.Locks.{has_lock}
use Rattle.ido_base.specs.Words.{Word, word_of, word_at, durable_value}
use Rattle.ido_ints.specs.declared.kinds.Kind.{Kind}
use Rattle.ido_ints.specs.declared.kinds.Kind.TheVariants.{Char}
use Rattle.ido_ints.specs.Kinds.{Holds, bytes_of}
use Rattle.ido_ints.specs.Reduction.{reduced, register_of}
use Rattle.ido_ints.specs.TypedNumbers.{typed}
use Rattle.ido_ints.proofs.Public.{reduced-register}
use Rattle.c_tree.specs.Exprs.{LockName, Lvalue, Placed, ToLocal}
use Rattle.c_tree.specs.Flats as f
use Rattle.c_tree.specs.LockNames.{lock_names}
use Rattle.c_tree.specs.NullReferences.{is_among}
use Rattle.c_tree.specs.References.{IsFlatThreadReferring, IsLocalReferring, variable_refers}
use Rattle.c_tree.specs.Source as m
use Rattle.c_tree.specs.Source.{Pending}
use Rattle.c_tree.specs.Values.{lock_number}
use Rattle.c_tree.specs.WellFormed.{shape_of}
use Rattle.c_ranges.specs.RunInvariants.{IsReferringThread, IsStoreInRange, IsThreadOf, RefersSo}
use Rattle.c_ranges.proofs.Public.{zip_at}
use Rattle.log_schemes.specs.declared.point.Point.{Point}
use Rattle.log_schemes.specs.declared.point.Point.TheVariants.{Idle, At}
use Rattle.log_schemes.specs.Points.{point_of}
use Rattle.memory_layout.specs.Roles.{pending_address, pending_value}
use Rattle.memory_layout.specs.declared.roles.TheConstants.{LOCALS, PENDING_ADDRESS, PENDING_VALUE}
use Rattle.rv64_isa.specs.Rows.{read}
use Rattle.machine_model.specs.Machine.{World, after_event, bank_of, durable_at, resume_of}
use Rattle.flow_graph.specs.Actions.{FlowState, Seen, Sets, effect_of, number_in, seen_by}
use Rattle.flow_graph.specs.HeldKeys.{names_in as names_in_keys}
use Rattle.flow_graph.specs.IdempotentCuts.{IsChosen, IsUnlock, Writes, stores}
use Rattle.flow_graph.specs.Liveness.{IsLive, NodeAt}
use Rattle.flow_graph.specs.Lockstep.{GraphThreadMatches}
use Rattle.flow_graph.specs.Lowering.{lowered, threads_nodes}
use Rattle.flow_graph.specs.Nodes.{Action, Eval, Store, Test, Lock, Unlock, End, Graph, Node}
use Rattle.flow_graph.specs.Paths.{LiesInWritten, naming_of, stored_element}
use Rattle.flow_graph.proofs.Public.{Good, ShapedAs, all_at, found_in, node_shaped, nodes_at}
use Rattle.region_attempts.specs.KnownReferences.{AreUnnull, known_at}
use Rattle.known_references.proofs.Public.{kept_unnull}
use Rattle.log_states.specs.LogInvariant.{LogInv}
use Rattle.log_states.specs.Logs.{Record, IsRecord, IsRecorded, framed_of, nothing_recorded, slots_of, value_of}
use Rattle.log_states.specs.Machines.{config_of}
use Rattle.log_states.proofs.Public.{contains_none, crashes_standing, durable_is, ends, pair_value, register_value}
use Rattle.boundary_code.specs.Boundaries.{pairs_kept, slots_kept}
use Rattle.log_schemes.specs.Schemes.{keeping_of, kept_locks, locals_of, register_slot, told, told_at}
use Rattle.log_schemes.specs.SchemeFacts.{HasEach}
use Rattle.hart_runs.proofs.Public.{crashes_step}
use Rattle.thread_code.specs.Plans.{Plan, Thread, IsKept, IsKeptBefore, IsLogged, IsLoggedAt, IsNodeOf, held_names_before, home_at, home_of_colour, locks_held}
use Rattle.thread_code.specs.Plans.{names_in, set_before, of_address, of_entry, of_local, of_number, of_value, of_word}
use Rattle.thread_code.specs.NodeCodeEffects.{bytes_written}
use Rattle.thread_code.specs.RegistersAtNodes.{HasPending, IsAtHome, IsCountedOn, IsLiveBeside, IsPendingIn, IsReady, MayAssign, by_assignment, by_entry}
use Rattle.thread_code.specs.RegistersAtNodes.{frame_loads, to_assign, to_enter}
use Rattle.thread_code.proofs.Public.{names_are as thread_names}
use Rattle.recovered_threads.specs.RecordDescriptions.{Code, ComesNext, CountsOn, Describes, IsInside, MayGoOn, NodePlace, ResumesAt, at_chosen, past_lock}
use Rattle.recovered_threads.specs.RecordDescriptions.{past_unlock, between, inside, locks_of, registers_kept, the_core, the_entry}
use Rattle.recovered_threads.proofs.Public.{points_have_locks, records_are_apart, stands_in_word}
use Rattle.rv64_codegen.proofs.Public.{colours_long}
use Rattle.crash_simulation.specs.AbstractRuns.{kept_of}
use Rattle.crash_simulation.specs.SimulationRelation.{Simulates}
use Rattle.crash_simulation.specs.Systems.{System, IsSystem, flat_of, thread_count}
use Rattle.crash_simulation.proofs.Public.{kept_good, left, lates, left_describes, left_point, log_of, orderly, owes_here}
use Rattle.flat_compile.specs.declared.resumes.LiveLocal.{LiveLocal}
use Rattle.flat_compile.specs.declared.resumes.Resume.{Resume}
use Rattle.flat_compile.specs.ResumePlaces.{Spot, Before, After, IsAssignedAt, IsAssignedLocal, IsSpot, address_in, colours_in, goes_on_at, knowns_before}
use Rattle.flat_compile.specs.ResumePlaces.{place_at, place_in, refers_in}
use Rattle.flat_compile.specs.ResumePlaces.{IsFound, IsLiveLocal, AreResumes, IsResumeTable, resumes_at}
use Rattle.flat_compile.specs.ResumePlaces as places
use Rattle.flat_compile.proofs.Public.{HasEntry, coloured, entry_at, home_is, node_there}
use Rattle.image_checks.specs.Logs.{AreOnce, HavePairs, Logs, home_in, home_word, local_by, locals_by, locks_at_point, locks_by, log_locks, logged, logs_of}
use Rattle.image_checks.specs.Logs.{names_at, point_in, register_in, slot_in}
use Rattle.image_checks.specs.Checks.{HasLocal, IsElementNext, IsElementValue, IsLocalValue, IsReferenceWord, IsRight, IsUnnull, IsWordNext}
use Rattle.image_checks.specs.Checks.{bytes_next, element_bytes, kinds_of_thread, names_of_thread}
use Rattle.image_checks.specs.Checks.{AreSound, IsResumableLog, IsUnshared, idle, resume_at, resumed}
use Rattle.image_checks.proofs.BankLocals.{found_local, length-locals_by, local_at}
use Rattle.image_checks.proofs.GuardedStores.{guarded_store, key_is_held}
use Rattle.image_checks.proofs.HeldNumbers.{AreKeysAmong, keys_alive, live_same, locks_same}
use Rattle.image_checks.proofs.KeysBesideAssignments.{counted_beside}
use Rattle.image_checks.proofs.AssignedNumbers.{assigned_refers}
use Rattle.image_checks.proofs.LeftFrames.{bytes_of_element, each_pair, no_frame, one_assigned, same_word, word_of as frame_word_of}
use Rattle.image_checks.proofs.HeldOnce.{held_once}
use Rattle.image_checks.proofs.HeldSets.{held_are_plain, named_held}
use Rattle.image_checks.proofs.LeftLocals.{found_some, named_same, reference_word, unnull_word}
use Rattle.image_checks.proofs.LoggedWords.{above_frame, keeps_locks, kept_are_locks, pair_slot_kept, point_is, register_slot_kept, slot_there}
use Rattle.image_checks.proofs.ReferenceWords.{IsLong, variable_long, word_by_bytes}
use Rattle.image_checks.proofs.StoredElements.{StoresAs, StoresElements, stores_elements}
use Rattle.image_checks.proofs.Tables.{kinds_are}
use Rattle.image_checks.proofs.ThreadTexts.{knowns_are, refers_are, zip_there}
use Rattle.expr_code.specs.declared.home.Home.{Home}
use Rattle.expr_code.specs.declared.home.Home.TheVariants.{InFrame, InRegister}
use Rattle.expr_code.specs.EvaluationCode.{HomeCarries, IsFramed, home_of}
use Rattle.operator_code.specs.ComputingCode.{Carries}

-- ---- Durable words of the logs

abbrev pub logs_left : List Word → List ℕ
logs_left words = drop 8192 (map durable_value words)

durable_there : (words : List Word) (i : ℕ) → get_or (map durable_value words) i 0 ≡ durable_value (word_at words i)
durable_there words i = elim (cases_lt i (length words)) [
  | inl within ↦ get_or-map durable_value words i (word_of 0) 0 within
  | inr past ↦
      let none : word_at words i ≡ word_of 0 = get_or_past words i (word_of 0) past in
      get_or_past (map durable_value words) i 0 (omega (arith, past, length-map words durable_value)) ∙ sym (ap durable_value none)
]

logged_is : (words : List Word) (address : ℕ) → logs_base ≤ address → logged (logs_left words) address ≡ durable_at words address
logged_is words address above =
    let i = (address - logs_base) / 8 in
    let number : word_number address ≡ 8192 + i =
    ap (λ b. cond b (address - variables_base) (65536 + (address - logs_base)) / 8) (le-ltb address logs_base above) ∙ omega arith in
    get_or-drop 8192 (map durable_value words) i 0 ∙ durable_there words (8192 + i) ∙ ap (λ (k : ℕ). durable_value (word_at words k)) (sym number)

-- ---- A place where a thread is resumed

record Place (p : Plan) (code : Code p) (node : ℕ) (stand : NodePlace) (address : ℕ) : Type 0 where
  spot : Spot
  is : IsSpot p code.thread spot
  at : address_in code.is.places spot ≡ address
  goes_on : goes_on_at spot ≡ node
  stands : place_in spot ≡ stand

place : (p : Plan) (code : Code p) (node : ℕ) (stand : NodePlace) (address : ℕ) → (own : IsNodeOf code.thread node) →
    ResumesAt p code node stand address → Place p code node stand address
place p code node stand address own (at_chosen chosen) =
    record { spot = Before node; is = places.at_chosen node own chosen; at = refl; goes_on = refl; stands = refl }
place p code node stand address own (past_lock from lock is from_own there locks) =
    record { spot = After from node; is = places.past_lock from lock node is from_own there locks; at = refl; goes_on = refl; stands = refl }
place p code node stand address own (past_unlock from lock is from_own there unlocks holds) =
    record { spot = After from node; is = places.past_unlock from lock node is from_own there unlocks holds; at = refl; goes_on = refl; stands = refl }

-- ---- The log of a thread

module _ (y : System) (s : IsSystem y) (w : World) (stands : Simulates y s w) (on_time : (n : ℕ) → n < thread_count y → (stands.ghosts n).late ≡ false)
    (log : Log) (first : w.log ≡ log) where
  abbrev logs : Logs
  logs = logs_of log (logs_left w.words)

  there : (address : ℕ) → logs_base ≤ address → durable_at w.words address ≡ logged (logs_left w.words) address
  there address above = sym (logged_is w.words address above)

  abbrev after : World
  after = after_event y.runs.program w Crash

  first_after : after.log ≡ log
  first_after = log_stays y.runs.program w Crash stands.machine.sound ∙ first

  abbrev kept : FlowState
  kept = kept_of y stands.abstract

  module _ (n : ℕ) (below : n < thread_count y) where
    abbrev code : Code y.plan
    code = s.codes.each n below

    abbrev t : Thread
    t = code.thread

    abbrev r : Record
    r = left y s w stands n

    -- its record describes what is kept, and no thread is late
    describes : Describes y.plan code kept r
    describes = subst (λ (late : Bool). DescribesAs y.plan code kept late r) (on_time n below) (left_describes y s w stands n below)

    standing : LogInv n nothing_recorded r after []
    standing =
        let c = stands.ghosts n in
        crashes_standing y.runs.program n c.old c.new w c.rest (s.count ∙ sym stands.machine.count) (log_of y s w stands n below)

    recorded : IsRecorded log n r after.words
    recorded =
        subst (λ (l : Log). IsRecorded l n r after.words) first_after
        (ends after.log n nothing_recorded r (config_of after standing.hart []) standing.log refl)

    is_record : IsRecord log r
    is_record = subst (λ (l : Log). IsRecord l r) first_after standing.log.follows.new_is

    logged_point : durable_point log w.words n ≡ r.point
    logged_point = ap (λ (l : Log). durable_point l w.words n) (sym first) ∙ left_point y s w stands n below

    is_idle : r.point ≡ 0 → point_in logs n ≡ Idle
    is_idle none = point_is log w.words (logs_left w.words) there n ∙ ap point_of (logged_point ∙ none)

    is_at : r.point ≢ 0 → point_in logs n ≡ At (resume_of r.point) (bank_of r.point)
    is_at some = point_is log w.words (logs_left w.words) there n ∙ ap point_of logged_point
        ∙ cond-false (r.point == 0) Idle (At (resume_of r.point) (bank_of r.point)) (ne_eqb r.point 0 some)

    -- a slot that the record keeps has its value
    value_there : (slot : ℕ) → r.point ≢ 0 → Contains (slots_kept log r.locks r.written r.live) slot →
        slot_in logs n (bank_of r.point) slot ≡ value_of log r slot
    value_there slot some c =
        let address = slot_at log n (bank_of r.point) slot in
        let kept : Contains (slots_of log r) slot =
        subst (λ (slots : List ℕ). Contains slots slot)
        (sym (cond-false (r.point == 0) [] (slots_kept log r.locks r.written r.live) (ne_eqb r.point 0 some))) c in
        let same : durable_value (word_at after.words (word_number address)) ≡ durable_value (word_at w.words (word_number address)) =
        ap durable_value ((crashes_step y.runs.program w).words (word_number address)) in
        sym (slot_there log w.words (logs_left w.words) there n (bank_of r.point) slot) ∙ sym same
        ∙ durable_is (word_at after.words (word_number address)) (value_of log r slot) (recorded.bank slot kept)

    pair_there : (one : ℕ × ℕ) → r.point ≢ 0 → Contains (pairs_kept log r.locks r.written) one → slot_in logs n (bank_of r.point) one.0 ≡ one.1
    pair_there one some c =
        value_there one.0 some (pair_slot_kept log r.locks r.written r.live one c)
        ∙ pair_value log r is_record.locks is_record.live is_record.for_write one c

    locks_kept : r.point ≢ 0 → HasEach (λ slot. slot_in logs n (bank_of r.point) slot) (kept_locks log r.locks)
    locks_kept some one c = pair_there one some (Contains-append_left (kept_locks log r.locks) (told log r.written) one c)

    -- it is told of the write that comes
    told_there : r.point ≢ 0 → HavePairs (λ slot. slot_in logs n (bank_of r.point) slot) (told log r.written)
    told_there some =
        each_pair (λ slot. slot_in logs n (bank_of r.point) slot) (told log r.written)
        (λ one c. pair_there one some (Contains-append_right (kept_locks log r.locks) (told log r.written) one c))

    register_there : (register : ℕ) → r.point ≢ 0 → Contains r.live register → register_in logs n (bank_of r.point) register ≡ read r.registers register
    register_there register some c =
        value_there (register_slot log register) some (register_slot_kept log r.locks r.written r.live register c)
        ∙ register_value log r is_record.locks is_record.live is_record.for_write register c

    -- a word of the frame on which it counts has its number
    word_there : (word : ℕ) → r.point ≢ 0 → Contains r.framed word → logged (logs_left w.words) (frame_at log n word) ≡ r.frame word
    word_there word some c =
        let address = frame_at log n word in
        let kept : Contains (framed_of r) word =
        subst (λ (words : List ℕ). Contains words word) (sym (cond-false (r.point == 0) [] r.framed (ne_eqb r.point 0 some))) c in
        let same : durable_value (word_at after.words (word_number address)) ≡ durable_value (word_at w.words (word_number address)) =
        ap durable_value ((crashes_step y.runs.program w).words (word_number address)) in
        sym (there address (above_frame log n word)) ∙ sym same
        ∙ durable_is (word_at after.words (word_number address)) (r.frame word) (recorded.frame word kept)

    log_is : y.plan.log ≡ log
    log_is = stands.machine.log ∙ first

    -- its locks are those of its record
    locks_logged : log_locks logs n ≡ locks_of r
    locks_logged = elim (cases_Bool (r.point == 0)) [
      | inl none ↦ ap (λ (p : Point). locks_at_point logs n p) (is_idle (eqb-true r.point 0 none)) ∙ sym (cond-true (r.point == 0) [] r.locks none)
      | inr some ↦
          let is : r.point ≢ 0 = eqb-false r.point 0 some in
          ap (λ (p : Point). locks_at_point logs n p) (is_at is)
          ∙ (kept_are_locks log (λ slot. slot_in logs n (bank_of r.point) slot) r.locks is_record.locks (locks_kept is)
          ∙ sym (cond-false (r.point == 0) [] r.locks some))
    ]

    -- ---- In a section

    module _ (i : IsInside y.plan code kept r) where
      abbrev at : ℕ
      at = i.graph_thread.at

      abbrev locals : List ℤ
      locals = i.graph_thread.locals

      good : Good (flat_of y) kept
      good = kept_good y s stands.abstract

      -- the thread of the source
      source : (thread : m.Thread) × (slice_get good.source.threads t.number ≡ Some thread)
      source =
          found_in good.source.threads t.number
          (let l = slice_get_within kept.graph_threads t.number i.graph_thread i.there in let count = good.matches.count in omega (arith, l, count))

      match : GraphThreadMatches (flat_of y) i.graph_thread source.0
      match = good.matches.each t.number i.graph_thread source.0 i.there source.1

      formed : IsThreadOf (flat_of y) code.of.text.locals source.0
      formed =
          let own = zip_there (λ (u : f.Thread) (z : m.Thread). IsThreadOf (flat_of y) u.locals z) (flat_of y).threads good.source.threads t.number code.of.text
          good.formed.threads code.of.of_text in
          subst (IsThreadOf (flat_of y) code.of.text.locals) (same_Some own.0 source.0 (sym own.1 ∙ source.1)) own.2

      referring : IsReferringThread (flat_of y) code.of.text source.0
      referring =
          let own = zip_there (IsReferringThread (flat_of y)) (flat_of y).threads good.source.threads t.number code.of.text good.formed.references.threads
          code.of.of_text in
          subst (IsReferringThread (flat_of y) code.of.text) (same_Some own.0 source.0 (sym own.1 ∙ source.1)) own.2

      refers_formed : AllZip IsLocalReferring code.of.text.locals code.of.text.refers
      refers_formed =
          (all_at (IsFlatThreadReferring (flat_of y)) (flat_of y).threads t.number code.of.text s.plan.formed.referring.threads code.of.of_text).locals

      abbrev seen : Seen
      seen = seen_by kept i.graph_thread

      -- it goes on with these registers
      abbrev May : NodePlace → Type 0
      May stand = MayGoOn y.plan t at stand seen i.view i.owed r.registers

      kept_there : (register : ℕ) → IsKept y.plan t at register → Contains r.live register
      kept_there register is = subst (λ (live : List ℕ). Contains live register) (sym i.live) (by i.place)
        where
          by : (stand : NodePlace) → Contains (registers_kept code.is.places at stand) register
          by the_entry = (code.is.live at i.own register).1 is
          by the_core = (code.is.kept at i.own register).1 (of_entry register is)

      -- ---- Locals

      abbrev number_of : LiveLocal → ℤ
      number_of l = slice_index_or locals l.local (pos 0)

      -- the home of its colour is its own
      home_there : (local colour : ℕ) → slice_get (colours_in y.plan t) local ≡ Some colour → home_of t.locals local ≡ home_at (locals_of log) log n colour
      home_there local colour coloured =
          home_is y.plan s.plan t code.of local colour coloured
          ∙ (ap (λ (l : Log). home_of_colour l t.number colour) log_is ∙ ap (λ (k : ℕ). home_of_colour log k colour) (s.codes.number n below))

      -- what stands there is its number, at the record's registers, where the log was so
      at_home : (local : ℕ) (k : Kind) → slice_get t.kinds local ≡ Some k → CountsOn y.plan t at i.place local →
          IsAtHome y.plan t seen i.view r.registers local k
      at_home local k kind counted = by i.place i.may counted
        where
          beside : (logged : IsLogged y.plan t at) → MayAssign y.plan t at logged.local i.owed seen i.view r.registers →
              IsLiveBeside y.plan at logged.local local → IsAtHome y.plan t seen i.view r.registers local k
          beside logged may live =
              let own = frame_word_of y.plan s.plan t code.of logged.frame local k kind in
              subst (λ (home : Home). HomeCarries (frame_loads i.view) r.registers home (typed k (slice_index_or seen.locals local (pos 0)))) (sym own.1)
              (may.locals local own.0 k kind live own.1)

          at_core : IsReady y.plan t at seen i.view i.owed r.registers → IsCountedOn y.plan t at local → IsAtHome y.plan t seen i.view r.registers local k
          at_core (to_enter none enters) (by_entry _ free live) = enters.locals local k kind live
          at_core (to_enter none enters) (by_assignment _ logged live) = absurd (none logged)
          at_core (to_assign logged may) (by_entry _ none live) = absurd (none logged)
          at_core (to_assign logged may) (by_assignment _ other live) =
              let same : other.local ≡ logged.local = one_assigned y.plan s.plan at other.local logged.local other.assigns logged.assigns in
              beside logged may (subst (λ (k : ℕ). IsLiveBeside y.plan at k local) same live)

          by : (stand : NodePlace) → May stand → CountsOn y.plan t at stand local → IsAtHome y.plan t seen i.view r.registers local k
          by the_entry enters live = enters.locals local k kind live
          by the_core ready live = at_core ready.0 live

      -- in registers locals are live where they are counted on
      alive : locals_of log ≡ Registers → (local : ℕ) → CountsOn y.plan t at i.place local → IsLive y.plan.graph local at
      alive registers local counted = by i.place counted
        where
          at_core : IsCountedOn y.plan t at local → IsLive y.plan.graph local at
          at_core (by_entry _ none live) = live
          at_core (by_assignment _ logged live) = absurd (no_frame (locals_of log) registers (ap locals_of (sym log_is) ∙ logged.frame))

          by : (stand : NodePlace) → CountsOn y.plan t at stand local → IsLive y.plan.graph local at
          by the_entry live = live
          by the_core live = at_core live

      abbrev HasNumber : Locals → LiveLocal → Type 0
      HasNumber ls l = (home_word ls logs n (bank_of r.point) l.colour ≡ register_of l.kind (number_of l)) × Holds l.kind (number_of l)

      abbrev IsLiveHere : LiveLocal → Type 0
      IsLiveHere l = IsLiveLocal y.plan t at i.place l

      local_by_home : (ls : Locals) → locals_of log ≡ ls → (l : LiveLocal) → IsLiveHere l → HasNumber ls l
      local_by_home Registers is l live =
          let home : home_of t.locals l.local ≡ InRegister (slice_index LOCALS l.colour) =
          home_there l.local l.colour live.coloured ∙ ap (λ (ls : Locals). home_at ls log n l.colour) is in
          let register = slice_index LOCALS l.colour in
          let c = kept_there register (of_local l.local l.kind register live.kind_is (alive is l.local live.counted) home) in
          let carried : Carries r.registers register (typed l.kind (number_of l)) =
          subst (λ (h : Home). HomeCarries (frame_loads i.view) r.registers h (typed l.kind (number_of l))) home
          (at_home l.local l.kind live.kind_is live.counted) in
          (register_there register i.point c ∙ carried.form, carried.held)
      local_by_home Frame is l live =
          let address = frame_at log n l.colour in
          let home : home_of t.locals l.local ≡ InFrame address =
          home_there l.local l.colour live.coloured ∙ ap (λ (ls : Locals). home_at ls log n l.colour) is in
          let framed : IsFramed (frame_loads i.view) address (typed l.kind (number_of l)) =
          subst (λ (h : Home). HomeCarries (frame_loads i.view) r.registers h (typed l.kind (number_of l))) home
          (at_home l.local l.kind live.kind_is live.counted) in
          let same : frame_at y.plan.log t.number l.colour ≡ address =
          ap (λ (z : Log). frame_at z t.number l.colour) log_is ∙ ap (λ (k : ℕ). frame_at log k l.colour) (s.codes.number n below) in
          let word : Contains r.framed l.colour =
          (i.framed l.colour).1 (record { local = l.local; counted = live.counted; home = home ∙ ap (λ (a : ℕ). InFrame a) (sym same) }) in (
            word_there l.colour i.point word ∙ (i.frame l.colour word ∙ (ap i.view.frame same ∙ same_Some _ _ framed.answer)),
            framed.held,
          )

      -- in its home stands its number
      local_word : (l : LiveLocal) → IsLiveHere l →
          (home_in logs n (bank_of r.point) l.colour ≡ register_of l.kind (number_of l)) × Holds l.kind (number_of l)
      unfolding home_in
      local_word l live = local_by_home (locals_of log) refl l live

      local_refers : (l : LiveLocal) → IsLiveHere l → RefersSo (flat_of y).variables l.refers (number_of l)
      local_refers l live =
          subst (λ (ls : List ℤ). RefersSo (flat_of y).variables l.refers (slice_index_or ls l.local (pos 0))) (sym match.locals)
          (zip_at (RefersSo (flat_of y).variables) code.of.text.refers source.0.locals l.local l.refers (pos 0) referring.locals
          (ap (λ (rs : List (Option ℕ)). slice_get rs l.local) (sym (refers_are y.plan t code.of)) ∙ live.refers_is))

      long_of : (l : LiveLocal) → slice_get t.kinds l.local ≡ Some l.kind → slice_get (refers_in y.plan t) l.local ≡ Some l.refers →
          IsLocalReferring l.kind l.refers
      long_of l kind_is refers_is =
          let there : slice_get code.of.text.locals l.local ≡ Some l.kind =
          ap (λ (ks : List Kind). slice_get ks l.local) (sym code.of.kinds) ∙ kind_is in
          let own = zip_there IsLocalReferring code.of.text.locals code.of.text.refers l.local l.kind refers_formed there in
          let same : own.0 ≡ l.refers =
          same_Some own.0 l.refers (sym own.1 ∙ (ap (λ (rs : List (Option ℕ)). slice_get rs l.local) (sym (refers_are y.plan t code.of)) ∙ refers_is)) in
          subst (IsLocalReferring l.kind) same own.2

      local_long : (l : LiveLocal) → IsLiveHere l → IsLocalReferring l.kind l.refers
      local_long l live = long_of l live.kind_is live.refers_is

      unnull : AreUnnull code.of.text.refers (known_at code.of.text t.part.first at) locals
      unnull =
          kept_unnull (flat_of y) s.plan.formed stands.abstract.origin stands.abstract.schedule t.number code.of.text t.part i.graph_thread code.of.of_text
          (subst (λ (g : Graph). slice_get g.threads t.number ≡ Some t.part) s.plan.lowered code.of.nodes) i.there

      local_some : (l : LiveLocal) → IsLiveHere l → l.known ≡ true →
          (is_some l.refers ≡ true) × ((array : ℕ) → l.refers ≡ Some array → number_of l ≢ pos 0)
      local_some l live known =
          let both = and_parts (is_some l.refers) (is_among (knowns_before y.plan t at) l.local) (sym live.known_is ∙ known) in (
            both.0,
            λ array is.
                unnull l.local array
                (ap (λ (rs : List (Option ℕ)). slice_get rs l.local) (sym (refers_are y.plan t code.of)) ∙ (live.refers_is ∙ ap (λ (o : Option ℕ). Some o) is))
                (ap (λ (ks : List ℕ). is_among ks l.local) (sym (knowns_are y.plan t code.of at)) ∙ both.1),
          )

      local_right : (l : LiveLocal) → IsLiveHere l → HasLocal (flat_of y) logs n (bank_of r.point) l
      local_right l live =
          let vs = (flat_of y).variables in
          let word : ℕ = home_in logs n (bank_of r.point) l.colour in
          let own = local_word l live in
          let long = local_long l live in
          let refers = local_refers l live in
          record {
            form = record { number = number_of l; held = own.1; is = own.0 };
            reference = reference_word vs l.refers l.kind (number_of l) word long refers own.0;
            unnull = unnull_word vs l.known l.refers l.kind (number_of l) word long refers own.0 (local_some l live);
          }

      locals_count : length locals ≡ length t.kinds
      locals_count = by i.place i.may
        where
          at_core : IsReady y.plan t at seen i.view i.owed r.registers → length locals ≡ length t.kinds
          at_core (to_enter none enters) = enters.count
          at_core (to_assign logged may) = may.count

          by : (stand : NodePlace) → May stand → length locals ≡ length t.kinds
          by the_entry enters = enters.count
          by the_core ready = at_core ready.0

      -- the locals of keys are counted on
      keys_counted : AreKeysAmong y.plan s.plan t code.of (CountsOn y.plan t at i.place) at
      keys_counted k x named held local c = by i.place i.may
        where
          at_core : IsReady y.plan t at seen i.view i.owed r.registers → IsCountedOn y.plan t at local
          at_core (to_enter none enters) = by_entry local none (keys_alive y.plan s.plan t code.of at i.own k x named held local c)
          at_core (to_assign logged may) =
              by_assignment local logged (counted_beside y.plan s.plan t code.of at i.own logged k x named held local c)

          by : (stand : NodePlace) → May stand → CountsOn y.plan t at stand local
          by the_entry enters = keys_alive y.plan s.plan t code.of at i.own k x named held local c
          by the_core ready = at_core ready.0

      -- before a store its address and value are there
      pending_in : (is : Node) → NodeAt y.plan.graph at is → IsPendingIn y.plan is.action seen r.registers
      pending_in is there = by i.place i.may
        where
          at_core : IsReady y.plan t at seen i.view i.owed r.registers → IsPendingIn y.plan is.action seen r.registers
          at_core (to_enter none enters) = enters.pending is there
          at_core (to_assign logged may) =
              let same : logged.assigns.is ≡ is = same_Some logged.assigns.is is (sym logged.assigns.at ∙ there) in
              subst (λ (z : Node). IsPendingIn y.plan z.action seen r.registers) same
              (subst (λ (a : Action). IsPendingIn y.plan a seen r.registers) (sym logged.assigns.action) tt)

          by : (stand : NodePlace) → May stand → IsPendingIn y.plan is.action seen r.registers
          by the_entry enters = enters.pending is there
          by the_core ready = at_core ready.0

      -- ---- By an entry of its table

      module _ (entry : Resume) (node : entry.node ≡ at) (stand : place_at entry.at_core ≡ i.place) (found : IsFound y.plan t entry) where
        abbrev live : List LiveLocal
        live = entry.live.items

        abbrev names : List LockName
        names = names_of_thread (flat_of y) n

        abbrev count : ℕ
        count = length (kinds_of_thread (flat_of y) n)

        abbrev slots : (slot : ℕ) → ℕ
        slots = λ (slot : ℕ). slot_in logs n (bank_of r.point) slot

        abbrev homes : (colour : ℕ) → ℕ
        homes = λ (colour : ℕ). home_in logs n (bank_of r.point) colour

        abbrev numbers : List ℤ
        numbers = locals_by homes live count

        number_is : t.number ≡ n
        number_is = s.codes.number n below

        live_is : (l : LiveLocal) → Contains live l ↔ IsLiveHere l
        live_is l =
            subst (λ (stand : NodePlace). Contains live l ↔ IsLiveLocal y.plan t at stand l) stand
            (subst (λ (k : ℕ). Contains live l ↔ IsLiveLocal y.plan t k (place_at entry.at_core) l) node (found.live l))

        each_live : All IsLiveHere live
        each_live k d within = (live_is (get_or live k d)).0 (Contains-get_or live k d within)

        count_is : count ≡ length t.kinds
        count_is = ap length (ap (kinds_of_thread (flat_of y)) (sym number_is) ∙ kinds_are y.plan t code.of)

        -- a local of that kind that is counted on is found by its number, and has its number
        live_number : (local : ℕ) (k : Kind) → slice_get t.kinds local ≡ Some k → CountsOn y.plan t at i.place local →
            local_by homes (find (λ (l : LiveLocal). l.local == local) live) ≡ slice_index_or locals local (pos 0)
        live_number local k there counted =
            let colour = coloured y.plan s.plan t code.of local k there in
            let refers = zip_there IsLocalReferring code.of.text.locals code.of.text.refers local k refers_formed
            (ap (λ (ks : List Kind). slice_get ks local) (sym code.of.kinds) ∙ there) in
            let l : LiveLocal = record {
              colour = colour.0;
              local = local;
              kind = k;
              refers = refers.0;
              known = is_some refers.0 && is_among (knowns_before y.plan t at) local;
            } in
            let is : IsLiveHere l = record {
              kind_is = there;
              refers_is = ap (λ (rs : List (Option ℕ)). slice_get rs local) (refers_are y.plan t code.of) ∙ refers.1;
              known_is = refl;
              counted = counted;
              coloured = colour.1;
            } in
            let it = found_some live l ((live_is l).1 is) in
            let own = found_local IsLiveHere live local it.0 each_live it.1 in
            let word = local_word it.0 own.0 in
            ap (local_by homes) it.1
            ∙ (ap (λ (w : ℕ). reduced it.0.kind (pos w)) word.0 ∙ (reduced-register it.0.kind (number_of it.0) word.1
            ∙ ap (λ (k : ℕ). slice_index_or locals k (pos 0)) own.1))

        -- the numbers by the homes are those of the kept state, where locals are counted on
        agree : (local : ℕ) → CountsOn y.plan t at i.place local → slice_index_or numbers local (pos 0) ≡ slice_index_or locals local (pos 0)
        agree local counted = elim (cases_lt local count) [
          | inl less ↦
              let within : local < length t.kinds = omega (arith, less, count_is) in
              local_at homes live count local less
              ∙ live_number local (get_or t.kinds local Char) (slice_get-get_or t.kinds local Char within) counted
          | inr past ↦
              get_or_past numbers local (pos 0) (omega (arith, past, length-locals_by homes live count))
              ∙ sym (get_or_past locals local (pos 0) (omega (arith, past, count_is, locals_count)))
        ]

        names_are : names ≡ names_in y.plan t
        names_are = ap (names_of_thread (flat_of y)) (sym number_is)

        held_is : entry.held.items ≡ locks_held (set_before y.plan t at)
        held_is = found.held_is ∙ ap (λ (k : ℕ). locks_held (set_before y.plan t k)) node

        locks_named : locks_by homes names count entry ≡ r.locks
        locks_named =
            ap (λ (ns : List LockName). map (lock_number numbers) (names_at ns entry.held.items)) names_are
            ∙ (ap (λ (held : List ℕ). map (lock_number numbers) (names_at (names_in y.plan t) held)) held_is
            ∙ (ap (map (lock_number numbers)) (named_held (names_in y.plan t) (set_before y.plan t at))
            ∙ (locks_same y.plan s.plan t code.of (CountsOn y.plan t at i.place) numbers locals at keys_counted agree ∙ sym i.locks)))

        plain_held : keeping_of log ≡ Masked → entry.held.items ≡ r.locks
        plain_held masks =
            held_is ∙ (held_are_plain y.plan s.plan t code.of (s.plan.plain (ap keeping_of log_is ∙ masks)) locals at i.own ∙ sym i.locks)

        once : AreOnce r.locks
        once = subst AreOnce (sym i.locks) (held_once y.plan kept s.plan (orderly y s stands.abstract) t code.of i.graph_thread i.there i.own)

        abbrev address_word : ℕ
        address_word = register_in logs n (bank_of r.point) PENDING_ADDRESS

        abbrev value_word : ℕ
        value_word = register_in logs n (bank_of r.point) PENDING_VALUE

        -- ---- Where a store is pending

        module _ (is : Node) (there : NodeAt y.plan.graph at is) where
          abbrev HasAt : Option Location → Type 0
          HasAt o = IsElementNext (flat_of y) logs n (bank_of r.point) live o address_word × IsElementValue (flat_of y) logs n (bank_of r.point) o value_word

          flat_there : NodeAt (lowered (flat_of y)) at is
          flat_there = subst (λ (g : Graph). NodeAt g at is) s.plan.lowered there

          here : slice_get (threads_nodes (flat_of y) (flat_of y).threads 0) at ≡ Some is
          here = nodes_at (flat_of y) at is flat_there

          shaped : (a : Action) → is.action ≡ a → ShapedAs (threads_nodes (flat_of y) (flat_of y).threads 0) is a
          shaped a does = subst (λ (z : Action). ShapedAs (threads_nodes (flat_of y) (flat_of y).threads 0) is z) does (node_shaped (flat_of y) at is here)

          none : is.writes ≡ None → HasAt is.writes
          none e = subst HasAt (sym e) (tt, tt)

          module _ (variable next : ℕ) (kind : Kind) (does : is.action ≡ Store variable kind next)
              (it : StoresElements (flat_of y) s.plan.formed.shared.variables is variable kind) where
            owed : (store : Pending) × (i.graph_thread.pending ≡ Some store)
            owed =
                owes_here (flat_of y) s.plan.formed kept good.source t.number good.matches i.graph_thread i.there is flat_there
                (record { variable = variable; kind = kind; next = next; is = does })

            abbrev store : Pending
            store = owed.0

            pending : HasPending y.plan store variable kind r.registers
            pending = subst (λ (a : Action). IsPendingIn y.plan a seen r.registers) does (pending_in is there) store owed.1

            lies : LiesInWritten (naming_of (flat_of y) code.of.text locals) is.writes (stored_element store)
            lies =
                let owes = good.owes t.number code.of.text i.graph_thread store i.there code.of.of_text owed.1 in
                subst (λ (z : Node). LiesInWritten (naming_of (flat_of y) code.of.text locals) z.writes (stored_element store))
                (same_Some owes.node is (sym owes.here ∙ here)) owes.lies

            ranged : IsStoreInRange (flat_of y).variables store
            ranged = formed.pending store (sym match.pending ∙ owed.1)

            variable_is : store.variable ≡ lies.location.variable
            variable_is = sym lies.lies.within.variable

            -- the name that is the location's key is held, so it has one lock by both numbers
            key_same : (key : ℕ) → lies.location.key ≡ Some key → (x : LockName) → slice_get (lock_names (flat_of y) code.of.text) key ≡ Some x →
                lock_number locals x ≡ lock_number numbers x
            key_same key keyed x named =
                let held = key_is_held (flat_of y).variables (lock_names (flat_of y) code.of.text) (set_before y.plan t at) lies.location
                (guarded_store y.plan s.plan t code.of at i.own is lies.location there lies.of) key keyed in
                sym (live_same y.plan s.plan t code.of (CountsOn y.plan t at i.place) numbers locals at keys_counted agree key x named held)

            text_names : lock_names (flat_of y) code.of.text ≡ names
            text_names = sym (thread_names y.plan t code.of) ∙ sym names_are

            by_key : (key : ℕ) → lies.location.key ≡ Some key →
                names_in_keys (flat_of y).variables names numbers lies.location.variable key ≡ Some store.element
            by_key key keyed =
                ap (λ (ns : List LockName). names_in_keys (flat_of y).variables ns numbers lies.location.variable key) (sym text_names)
                ∙ (sym (named_same (flat_of y).variables locals numbers (lock_names (flat_of y) code.of.text) lies.location.variable key (key_same key keyed))
                ∙ (ap (λ (v : ℕ). names_in_keys (flat_of y).variables (lock_names (flat_of y) code.of.text) locals v key) (sym variable_is)
                ∙ lies.lies.by_key key keyed))

            address_there : IsElementNext (flat_of y) logs n (bank_of r.point) live (Some lies.location) address_word
            address_there = record {
              there = subst (λ (k : ℕ). k < length (flat_of y).variables) variable_is
                  (slice_get_within (flat_of y).variables store.variable ranged.it ranged.found);
              element = store.element;
              from = lies.lies.within.from_lo;
              to = lies.lies.within.to_hi;
              by_key = by_key;
              is = register_there pending_address i.point (kept_there pending_address (of_address (stores is variable kind next there does)))
                  ∙ (pending.address ∙ ap (λ (k : ℕ). variable_at (map shape_of (flat_of y).variables) k store.element) variable_is);
            }

            value_right : IsElementValue (flat_of y) logs n (bank_of r.point) (Some lies.location) value_word
            value_right =
                let vs = (flat_of y).variables in
                let refers : Option ℕ = variable_refers vs store.variable in
                let long : IsLong refers kind =
                subst (λ (v : ℕ). IsLong (variable_refers vs v) kind) (sym pending.variable_is)
                (subst (λ (k : Kind). IsLong (variable_refers vs variable) k) it.kind_is
                (variable_long vs variable it.it s.plan.formed.referring.variables it.found)) in
                let own : IsReferenceWord vs refers (read r.registers pending_value) =
                word_by_bytes vs refers kind (read r.registers pending_value) store.number long pending.value.below pending.value.low
                (referring.pending store (sym match.pending ∙ owed.1)) in
                subst (λ (v : ℕ). IsReferenceWord vs (variable_refers vs v) value_word) variable_is
                (subst (IsReferenceWord vs refers)
                (sym (register_there pending_value i.point (kept_there pending_value (of_value (stores is variable kind next there does))))) own)

            stored : HasAt is.writes
            stored = subst HasAt (sym lies.of) (address_there, value_right)

          written : (a : Action) → is.action ≡ a → StoresAs (flat_of y) s.plan.formed.shared.variables is a → HasAt is.writes
          written (Eval target value next) does it = none (shaped (Eval target value next) does).1.writes
          written (Store variable kind next) does it = stored variable next kind does it
          written (Test condition holds fails) does it = none (shaped (Test condition holds fails) does).1.writes
          written (Lock lock next) does it = none (shaped (Lock lock next) does).1
          written (Unlock lock next) does it = none (shaped (Unlock lock next) does).1
          written End does it = none (shaped End does).1

          has_store : HasAt is.writes
          has_store = written is.action refl (stores_elements (flat_of y) s.plan.formed.shared.variables at is s.plan.formed.threads here)

          -- ---- Where a local is assigned

          -- what the thread assigns next, with the number that it owes
          record Assigned (l : LiveLocal) : Type 0 where
            address : address_word ≡ frame_at log n l.colour
            value : value_word ≡ register_of l.kind i.owed
            held : Holds l.kind i.owed

          assigned_there : (l : LiveLocal) → (is_local : IsAssignedLocal y.plan t at l) → i.place ≡ the_core → Assigned l
          assigned_there l it core = by_ready (subst May core i.may).0
            where
              -- the registers of such an assignment are kept
              kept_of_it : (register : ℕ) → IsKeptBefore y.plan t at register → Contains r.live register
              kept_of_it register is =
                  subst (λ (live : List ℕ). Contains live register)
                  (sym (i.live ∙ ap (λ (stand : NodePlace). registers_kept code.is.places at stand) core)) ((code.is.kept at i.own register).1 is)

              by_ready : IsReady y.plan t at seen i.view i.owed r.registers → Assigned l
              by_ready (to_enter none enters) = absurd (none it.logged)
              by_ready (to_assign logged may) =
                  let same : logged.local ≡ l.local =
                  one_assigned y.plan s.plan at logged.local it.logged.local logged.assigns it.logged.assigns ∙ sym it.local_is in
                  let a = may.assigned in
                  let home : InFrame a.word ≡ InFrame (frame_at log n l.colour) =
                  sym a.home ∙ (ap (home_of t.locals) same ∙ (home_there l.local l.colour it.coloured
                  ∙ ap (λ (ls : Locals). home_at ls log n l.colour) (ap locals_of (sym log_is) ∙ it.logged.frame))) in
                  let carried = a.carries l.kind (ap (slice_get t.kinds) same ∙ it.kind_is) in
                  record {
                    address = register_there pending_address i.point (kept_of_it pending_address (of_word it.logged)) ∙ (a.address ∙ same_word home);
                    value = register_there pending_value i.point (kept_of_it pending_value (of_number it.logged)) ∙ carried.form;
                    held = carried.held;
                  }

          -- the entry tells it
          is_assigned : (l : LiveLocal) → entry.assigned ≡ Some l → IsAssignedLocal y.plan t at l × (i.place ≡ the_core)
          is_assigned l e = by i.place refl told
            where
              told : IsAssignedAt y.plan t at i.place l
              told =
                  subst (λ (z : NodePlace). IsAssignedAt y.plan t at z l) stand
                  (subst (λ (k : ℕ). IsAssignedAt y.plan t k (place_at entry.at_core) l) node ((found.assigned_is l).0 e))

              by : (z : NodePlace) → i.place ≡ z → IsAssignedAt y.plan t at z l → IsAssignedLocal y.plan t at l × (i.place ≡ the_core)
              by the_entry e none = absurd none
              by the_core e it = (it, e)

          word_next : IsWordNext (flat_of y) logs n (bank_of r.point) entry.assigned address_word
          word_next = by entry.assigned refl
            where
              by : (o : Option LiveLocal) → entry.assigned ≡ o → IsWordNext (flat_of y) logs n (bank_of r.point) o address_word
              by None e = tt
              by (Some l) e = let it = is_assigned l e in (assigned_there l it.0 it.1).address

          -- the number that it owes is one that the local may have
          owed_refers : (l : LiveLocal) → (it : IsAssignedLocal y.plan t at l) → i.place ≡ the_core → RefersSo (flat_of y).variables l.refers i.owed
          owed_refers l it core =
              let logged = it.logged in
              let same : logged.assigns.is ≡ is = same_Some logged.assigns.is is (sym logged.assigns.at ∙ there) in
              let action : is.action ≡ Eval (ToLocal logged.assigns.place logged.local logged.assigns.kind) logged.assigns.assigned logged.assigns.next =
              ap (λ (z : Node). z.action) (sym same) ∙ logged.assigns.action in
              let number : ℤ = reduced logged.assigns.kind (number_in seen logged.assigns.assigned.expr) in
              let does : effect_of is.action seen ≡ Some (Sets logged.local number logged.assigns.next) = ap (λ (z : Action). effect_of z seen) action in
              let within : logged.local < length locals =
              (let l = slice_get_within t.kinds logged.local l.kind (ap (slice_get t.kinds) (sym it.local_is) ∙ it.kind_is) in
              omega (arith, l, locals_count)) in
              subst (RefersSo (flat_of y).variables l.refers)
              (sym ((subst May core i.may).1 is logged.local number logged.assigns.next there logged does))
              (assigned_refers (flat_of y) s.plan.formed kept good t.number code.of.text code.of.of_text i.graph_thread i.there is flat_there logged.local
              logged.assigns.next number does within l.refers
              (ap (λ (rs : List (Option ℕ)). slice_get rs logged.local) (sym (refers_are y.plan t code.of))
              ∙ (ap (slice_get (refers_in y.plan t)) (sym it.local_is) ∙ it.refers_is)))

          local_next : IsLocalValue (flat_of y) logs n (bank_of r.point) entry.assigned value_word
          local_next = by entry.assigned refl
            where
              by : (o : Option LiveLocal) → entry.assigned ≡ o → IsLocalValue (flat_of y) logs n (bank_of r.point) o value_word
              by None e = tt
              by (Some l) e =
                  let it = is_assigned l e in
                  let own = assigned_there l it.0 it.1 in
                  record {
                    form = record { number = i.owed; held = own.held; is = own.value };
                    reference = reference_word (flat_of y).variables l.refers l.kind i.owed value_word (long_of l it.0.kind_is it.0.refers_is)
                        (owed_refers l it.0 it.1) own.value;
                    unnull = subst (λ (known : Bool). IsUnnull known value_word) (sym it.0.known_is) tt;
                  }

          -- ---- What the bank is told of a write

          no_write : is.writes ≡ None → entry.assigned ≡ None → bytes_next (flat_of y).variables is.writes entry.assigned ≡ None
          no_write none unassigned = ap₂ (λ (w : Option Location) (o : Option LiveLocal). bytes_next (flat_of y).variables w o) none unassigned

          none_assigned : ((l : LiveLocal) → ¬ (IsAssignedLocal y.plan t at l)) → entry.assigned ≡ None
          none_assigned never = by entry.assigned refl
            where
              by : (o : Option LiveLocal) → entry.assigned ≡ o → entry.assigned ≡ None
              by None e = e
              by (Some l) e = absurd (never l (is_assigned l e).0)

          not_eval : (act : Action) → is.action ≡ act → ((target : Lvalue) (value : Placed) (next : ℕ) → ¬ (act ≡ Eval target value next)) →
              (l : LiveLocal) → ¬ (IsAssignedLocal y.plan t at l)
          not_eval act does never l it =
              let same : it.logged.assigns.is ≡ is = same_Some it.logged.assigns.is is (sym it.logged.assigns.at ∙ there) in
              never _ _ _ (sym does ∙ (ap (λ (z : Node). z.action) (sym same) ∙ it.logged.assigns.action))

          holds_here : held_names_before y.plan t at ≢ []
          holds_here none =
              i.point ((points_have_locks y.plan code kept false r s.plan (orderly y s stands.abstract) describes).0
              (cond-false (r.point == 0) [] r.locks (ne_eqb r.point 0 i.point) ∙ (i.locks ∙ ap (map (lock_number locals)) none)))

          -- a logged assignment is told
          told_assigned : i.place ≡ the_core → IsLogged y.plan t at → is.writes ≡ None → Some 8 ≡ bytes_next (flat_of y).variables is.writes entry.assigned
          told_assigned core logged none_written = sym
              (ap₂ (λ (w : Option Location) (o : Option LiveLocal). bytes_next (flat_of y).variables w o) none_written ((told l).1 it))
            where
              colour : (word : ℕ) × (slice_get code.of.colours logged.local ≡ Some word)
              colour = by_ready (subst May core i.may).0
                where
                  by_ready : IsReady y.plan t at seen i.view i.owed r.registers → (word : ℕ) × (slice_get code.of.colours logged.local ≡ Some word)
                  by_ready (to_enter none enters) = absurd (none logged)
                  by_ready (to_assign other may) =
                      let same : other.local ≡ logged.local = one_assigned y.plan s.plan at other.local logged.local other.assigns logged.assigns in
                      let word = stands_in_word y.plan s.plan t code.of other.local may.assigned.word may.assigned.home in
                      (word.0, ap (slice_get code.of.colours) (sym same) ∙ word.2.there)

              kind : (k : Kind) × (slice_get t.kinds logged.local ≡ Some k)
              kind =
                  let within = slice_get_within code.of.colours logged.local colour.0 colour.1 in
                  found_in t.kinds logged.local
                  (omega (arith, within, colours_long y.plan s.plan t code.of, ap (λ (ks : List Kind). length ks) code.of.kinds))

              refers : (o : Option ℕ) × (slice_get (refers_in y.plan t) logged.local ≡ Some o)
              refers =
                  let own = zip_there IsLocalReferring code.of.text.locals code.of.text.refers logged.local kind.0 refers_formed
                  (ap (λ (ks : List Kind). slice_get ks logged.local) (sym code.of.kinds) ∙ kind.1) in
                  (own.0, ap (λ (rs : List (Option ℕ)). slice_get rs logged.local) (refers_are y.plan t code.of) ∙ own.1)

              l : LiveLocal
              l = record { colour = colour.0; local = logged.local; kind = kind.0; refers = refers.0; known = false }

              it : IsAssignedAt y.plan t at the_core l
              it = record {
                logged = logged;
                local_is = refl;
                kind_is = kind.1;
                refers_is = refers.1;
                known_is = refl;
                coloured =
                    ap (λ (cs : List ℕ). slice_get cs logged.local) (get_or_from_slice_get y.plan.colours t.number code.of.colours [] code.of.of_colours)
                    ∙ colour.1;
              }

              told : (z : LiveLocal) → (entry.assigned ≡ Some z) ↔ IsAssignedAt y.plan t at the_core z
              told z =
                  subst (λ (place : NodePlace). (entry.assigned ≡ Some z) ↔ IsAssignedAt y.plan t at place z) (stand ∙ core)
                  (subst (λ (k : ℕ). (entry.assigned ≡ Some z) ↔ IsAssignedAt y.plan t k (place_at entry.at_core) z) node (found.assigned_is z))

          bytes_at_core : i.place ≡ the_core → IsChosen y.plan.graph y.plan.boundaries at → (act : Action) → is.action ≡ act →
              StoresAs (flat_of y) s.plan.formed.shared.variables is act → bytes_written act ≡ bytes_next (flat_of y).variables is.writes entry.assigned
          bytes_at_core core chosen (Eval target value next) does it = by (s.plan.at_writes.before at chosen.stands)
            where
              none_written : is.writes ≡ None
              none_written = (shaped (Eval target value next) does).1.writes

              by : IsUnlock y.plan.graph at ⊎ Writes y.plan.graph at ⊎ IsLoggedAt y.plan at →
                  Some 8 ≡ bytes_next (flat_of y).variables is.writes entry.assigned
              by (inl it_unlocks) = absurd (chosen.free it_unlocks)
              by (inr (inl writes)) =
                  absurd (none-some writes.written (sym none_written
                  ∙ (ap (λ (z : Node). z.writes) (same_Some is writes.is (sym there ∙ writes.at)) ∙ writes.writes)))
              by (inr (inr other)) =
                  let o = other.logged in
                  told_assigned core (record { local = o.local; assigns = o.assigns; frame = o.frame; holds = holds_here }) none_written
          bytes_at_core core chosen (Store variable kind next) does it =
              sym (ap (λ (w : Option Location). bytes_next (flat_of y).variables w entry.assigned) it.writes
              ∙ ap (λ (b : ℕ). Some b) (ap (element_bytes (flat_of y).variables) it.variable_is
              ∙ (bytes_of_element (flat_of y).variables variable it.it it.found
              ∙ ap bytes_of it.kind_is)))
          bytes_at_core core chosen (Test condition holds fails) does it =
              sym (no_write (shaped (Test condition holds fails) does).1.writes (none_assigned (not_eval (Test condition holds fails) does (λ a b c e. cc e))))
          bytes_at_core core chosen (Lock lock next) does it =
              sym (no_write (shaped (Lock lock next) does).1 (none_assigned (not_eval (Lock lock next) does (λ a b c e. cc e))))
          bytes_at_core core chosen (Unlock lock next) does it =
              sym (no_write (shaped (Unlock lock next) does).1 (none_assigned (not_eval (Unlock lock next) does (λ a b c e. cc e))))
          bytes_at_core core chosen End does it = sym (no_write (shaped End does).1 (none_assigned (not_eval End does (λ a b c e. cc e))))

          stores_here : StoresAs (flat_of y) s.plan.formed.shared.variables is is.action
          stores_here = stores_elements (flat_of y) s.plan.formed.shared.variables at is s.plan.formed.threads here

          -- where each write has a record, one that says that none comes keeps no register, so no store follows
          none_stored : locals_of log ≡ Frame → r.written ≡ None → (act : Action) → is.action ≡ act →
              StoresAs (flat_of y) s.plan.formed.shared.variables is act → is.writes ≡ None
          none_stored frame untold (Eval target value next) does it = (shaped (Eval target value next) does).1.writes
          none_stored frame untold (Store variable kind next) does it =
              absurd (contains_none pending_address
              (subst (λ (live : List ℕ). Contains live pending_address) (is_record.for_write frame untold)
              (kept_there pending_address (of_address (stores is variable kind next there does)))))
          none_stored frame untold (Test condition holds fails) does it = (shaped (Test condition holds fails) does).1.writes
          none_stored frame untold (Lock lock next) does it = (shaped (Lock lock next) does).1
          none_stored frame untold (Unlock lock next) does it = (shaped (Unlock lock next) does).1
          none_stored frame untold End does it = (shaped End does).1

          written_is : locals_of log ≡ Frame → r.written ≡ bytes_next (flat_of y).variables is.writes entry.assigned
          written_is frame = by i.place refl i.written i.resumes
            where
              not_assigned : i.place ≡ the_entry → (o : Option LiveLocal) → entry.assigned ≡ o → entry.assigned ≡ None
              not_assigned entered None e = e
              not_assigned entered (Some l) e = absurd (no_core (sym entered ∙ (is_assigned l e).1))
                where
                  no_core : the_entry ≡ the_core → ⊥
                  no_core same = cc

              chosen_at : {place : NodePlace} {address : ℕ} → ResumesAt y.plan code at place address → place ≡ the_core →
                  IsChosen y.plan.graph y.plan.boundaries at
              chosen_at (at_chosen chosen) core = chosen
              chosen_at (past_lock from lock node own there does) core = absurd (cc)
              chosen_at (past_unlock from lock node own there does holds) core = absurd (cc)

              by : (z : NodePlace) → i.place ≡ z → ComesNext y.plan at z r.written → ResumesAt y.plan code at i.place (resume_of r.point) →
                  r.written ≡ bytes_next (flat_of y).variables is.writes entry.assigned
              by the_entry entered none resumes =
                  none ∙ sym (no_write (none_stored frame none is.action refl stores_here) (not_assigned entered entry.assigned refl))
              by the_core core comes resumes = comes is there ∙ bytes_at_core core (chosen_at resumes core) is.action refl stores_here

          told_next : HavePairs slots (told log (bytes_next (flat_of y).variables is.writes entry.assigned))
          told_next = by (locals_of log) refl
            where
              by : (ls : Locals) → locals_of log ≡ ls → HavePairs slots (told log (bytes_next (flat_of y).variables is.writes entry.assigned))
              by Registers e =
                  subst (λ (ls : Locals). HavePairs slots (told_at ls (bytes_next (flat_of y).variables is.writes entry.assigned))) (sym e) tt
              by Frame e = subst (λ (o : Option ℕ). HavePairs slots (told log o)) (written_is e) (told_there i.point)

        right : IsRight (flat_of y) logs n (bank_of r.point) entry
        right =
            let is = node_there y.plan s.plan t code.of at i.own in
            let pending : entry.pending ≡ is.0.writes =
            found.pending_is is.0 (subst (λ (k : ℕ). NodeAt y.plan.graph k is.0) (sym node) is.1) in
            let store : HasAt is.0 is.1 entry.pending = subst (HasAt is.0 is.1) (sym pending) (has_store is.0 is.1) in
            let told_is : HavePairs slots (told log (bytes_next (flat_of y).variables entry.pending entry.assigned)) =
            subst (λ (w : Option Location). HavePairs slots (told log (bytes_next (flat_of y).variables w entry.assigned))) (sym pending)
            (told_next is.0 is.1) in
            record {
              locks = keeps_locks slots homes names count entry r.locks log (locks_kept i.point) plain_held locks_named once;
              locals = λ k d within. local_right (get_or live k d) (each_live k d within);
              write = record {
                address = record { element = store.0; word = word_next is.0 is.1; told = told_is };
                value = record { element = store.1; local = local_next is.0 is.1 };
              };
            }

      resumable_inside : (rs : List Resume) → AreResumes y.plan t code.program code.is rs → IsResumableLog (flat_of y) rs logs n
      resumable_inside rs are =
          let address = resume_of r.point in
          let q = place y.plan code at i.place address i.own i.resumes in
          let e : HasEntry y.plan t code.program code.is rs q.spot = entry_at y.plan t code.program code.is rs are q.spot q.is in
          let first : resume_at rs address ≡ Some e.entry = subst (λ (k : ℕ). resume_at rs k ≡ Some e.entry) q.at e.first in
          resumed address (bank_of r.point) e.entry (is_at i.point) first (right e.entry (e.node_is ∙ q.goes_on) (e.stands ∙ q.stands) e.found)

    resumable_by : (rs : List Resume) → AreResumes y.plan t code.program code.is rs → Describes y.plan code kept r → IsResumableLog (flat_of y) rs logs n
    resumable_by rs are (between none point) = idle (is_idle point)
    resumable_by rs are (inside some i) = resumable_inside i rs are

    pub resumable : (rs : List Resume) → AreResumes y.plan t code.program code.is rs → IsResumableLog (flat_of y) rs logs n
    resumable rs are = resumable_by rs are describes

  -- ---- All logs

  pub are_sound : (table : List (Vec Resume Global)) → IsResumeTable y.plan s.codes table → AreSound (flat_of y) table logs
  are_sound table is thread within =
      let below : thread < thread_count y = subst (λ (k : ℕ). thread < k) is.count within in
      resumable thread below (resumes_at table thread) (is.each thread below)

  pub are_unshared : (lock : ℕ) → IsUnshared logs (thread_count y) lock
  are_unshared lock one other apart within here there =
      let below : one < thread_count y = omega (arith, apart, within) in
      let same = records_are_apart y.plan s.codes kept (lates y s w stands) (left y s w stands) s.plan (orderly y s stands.abstract)
      (left_describes y s w stands)
      one other lock below within
      (ap (λ (locks : List ℕ). has_lock locks lock) (sym (locks_logged one below)) ∙ here)
      (ap (λ (locks : List ℕ). has_lock locks lock) (sym (locks_logged other within)) ∙ there) in
      omega (arith, same, apart)
