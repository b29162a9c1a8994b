-- The thread of the source that words with the shape describe: it stands at its node, or has not begun.
use Rattle.std.proofs.Common.{◌≡◌, ◌≢◌, ◌⊎◌, refl, inl, inr, ℕ, zero, suc, ◌*◌, ◌%◌, ◌<◌, ◌≤◌, List, [], ◌∷◌, length, map, replicate, ap, sym, ◌∙◌}
use Rattle.std.proofs.Common.{subst, arith, Option, Some, None, Bool, true, false}
use Rattle.std.specs.Prelude.{slice_get, slice_index_or, slice_set, Contains, is_some, ◌^◌, ◌==◌, ℤ, pos}
use Rattle.std.specs.List.{AllZip}
use Rattle.std.specs.Option.{option_map}
use Rattle.std.proofs.lemmas.Bool.{cases_eq, cond-false, ne_eqb, true≢false}
use Rattle.std.proofs.lemmas.List.{get_or-set_other, get_or-set_same}
use Rattle.std.proofs.lemmas.List.Elements.{Contains-append_cases}
use Rattle.std.proofs.lemmas.Option.{none-some, same_Some, slice_get-get_or, slice_get-map, slice_get_within}
use Rattle.ido_base.specs.declared.location.Location.{Location}
use Rattle.ido_base.specs.Layout.{variable_at, word_number}
use Rattle.log_schemes.specs.Layout.{point_at}
use Rattle.ido_base.specs.Locks.{holds_none}
use Rattle.ido_base.specs.Words.{Word, word_of}
use Rattle.ido_ints.specs.declared.kinds.Kind.{Kind}
use Rattle.ido_ints.specs.declared.kinds.Kind.TheVariants.{Char, UnsignedChar, SignedChar, Short, UnsignedShort, Int, UnsignedInt, Long, UnsignedLong}
use Rattle.ido_ints.specs.Kinds.{Holds, bytes_of, modulus_of}
use Rattle.ido_ints.specs.Reduction.{reduced, register_of}
use Rattle.ido_ints.specs.TypedNumbers.{typed}
use Rattle.ido_ints.proofs.Public.{Holds-reduced, Holds-zero, Same, Same_refl, Same_trans, Same-reduced, register-Same, rem_euclid-mod}
use Rattle.c_tree.specs.Flats as f
use Rattle.c_tree.specs.Source as m
use Rattle.c_tree.specs.Source.{Pending}
use Rattle.c_tree.specs.Exprs.{LockName, Placed}
use Rattle.c_tree.specs.LockNames.{Held, held_names, holds, none_held, lock_names}
use Rattle.c_tree.specs.NullReferences.{is_among}
use Rattle.c_tree.specs.References.{IsFlatThreadReferring, IsLocalReferring, variable_refers}
use Rattle.c_tree.specs.LockDiscipline.{key_locals}
use Rattle.c_tree.specs.Values.{lock_number}
use Rattle.c_tree.specs.WellFormed.{AreFlatStatements, elements_in, shape_of}
use Rattle.c_tree.specs.Ranges.{elements_of}
use Rattle.c_ranges.specs.Laws.{IsNullOrReference}
use Rattle.c_ranges.specs.RunInvariants.{IsReferringThread, IsStoreInRange, IsThreadOf, RefersSo}
use Rattle.c_ranges.proofs.Public.{begins_so}
use Rattle.source_machine.specs.Discipline.{HoldsNames, KeepsLeft}
use Rattle.source_machine.specs.ElementLocks.{element_lock}
use Rattle.source_machine.proofs.Public.{keep_opened_all}
use Rattle.memory_layout.specs.Roles.{pending_address, pending_value}
use Rattle.rv64_isa.specs.Rows.{read}
use Rattle.machine_model.specs.Machine.{bank_of, durable_point, recorded, record_of, resumed_registers, resume_of}
use Rattle.boundary_code.specs.Boundaries.{IsOnSide, is_empty}
use Rattle.log_schemes.specs.Schemes.{kept_locks, told}
use Rattle.variable_words.proofs.Public.{address_is, element_whole, well_formed_placed}
use Rattle.flow_graph.specs.Actions.{FlowState, GraphThread, Seen, graph_thread_start, seen_by}
use Rattle.flow_graph.specs.IdempotentCuts.{IsEdge, IsStoreNode}
use Rattle.flow_graph.specs.Liveness.{NodeAt, IsLive}
use Rattle.flow_graph.specs.Lockstep.{GraphThreadMatches, Standing, IsOwnNode}
use Rattle.flow_graph.specs.Lowering.{lowered, threads_nodes}
use Rattle.flow_graph.specs.Nodes.{Action, Eval, Store, Test, Lock, Unlock, End, Graph, Node, successors}
use Rattle.flow_graph.proofs.Public.{ActionLeads, ShapedAs, Tests, all_at, begins_lockstep, chooses, held_keys_stay, held_names_it, node_shaped, nodes_at}
use Rattle.flow_graph.proofs.Public.{repeats}
use Rattle.flow_graph.proofs.Public.{good_start}
use Rattle.flow_graph.specs.HeldKeys.{names_in}
use Rattle.flow_graph.specs.Paths.{naming_of}
use Rattle.region_attempts.specs.KnownReferences.{AreUnnull, known_at}
use Rattle.region_attempts.specs.Origins.{IsPendingAt}
use Rattle.region_attempts.proofs.Public.{none_known}
use Rattle.log_states.specs.Logs.{Record, KeepsForWrite, IsKeepable, IsRecord, IsDurable, IsRecorded, HasLog, bank_word, frame_word, framed_of}
use Rattle.log_states.specs.Logs.{nothing_recorded, slot_in, slots_of, value_of}
use Rattle.log_schemes.specs.SchemeFacts.{AreLoggable}
use Rattle.log_states.specs.BanksRead.{HasKept}
use Rattle.log_states.proofs.Public.{banks_read, contains_first, is_tellable, log_facts, nothing_is_record, pair_value, register_value, slot_cases}
use Rattle.thread_code.specs.Plans.{Plan, Thread, IsLogged, IsNodeOf, IsPlan, IsKept, IsKeptBefore, of_address, of_entry, of_local, of_number, of_value}
use Rattle.thread_code.specs.Plans.{of_word}
use Rattle.thread_code.specs.Plans.{names_in as keys_of}
use Rattle.thread_code.specs.NodeCodeEffects.{bytes_written}
use Rattle.thread_code.specs.Plans.{held_names_before, locks_before, set_before}
use Rattle.thread_code.proofs.Public.{numbers_some}
use Rattle.thread_code.specs.RegistersAtNodes.{HasPending, IsPendingIn, IsReady, Enters, LogView, by_assignment, by_entry, frame_loads, to_assign, to_enter}
use Rattle.recovered_threads.specs.RecordDescriptions.{AreCounted, Code, ComesNext, CountsOn, DescribesAs, MayGoOn, NodePlace, ResumesAt}
use Rattle.recovered_threads.specs.RecordDescriptions.{between, inside, registers_kept, the_core, the_entry, words_in}
use Rattle.recovered_threads.proofs.Public.{words_are_listed, words_exist}
use Rattle.image_checks.specs.Checks.{IsElementOf, IsReferenceWord}
use Rattle.flat_compile.specs.ResumePlaces.{knowns_before, refers_in}
use Rattle.image_checks.specs.Logs.{AreOnce}
use Rattle.image_checks.proofs.Public.{IsGuardedStore, guarded_store, key_is_held}
use Rattle.image_runs.specs.Shapes.{GoesOnAt, HasThreadShape, StoresAssigned, idle, resumed, resumed_view, resumes}
use Rattle.image_runs.proofs.GuardedElements.{guards_element}
use Rattle.image_checks.proofs.Public.{knowns_are, refers_are, zip_there}
use Rattle.image_runs.proofs.HeldAtNodes.{all, node_is, lowered_is, stands}
use Rattle.image_runs.proofs.HeldAtNodes.{keeps, long, left_is, left_known, left_refers, sets, resumed_hold}
use Rattle.image_runs.proofs.HeldAtNodes.{IsWrite, at_core, chosen_write, no_store, free_after_assign, free_writes_none, kind_of_assigned, of_element}
use Rattle.image_runs.proofs.HeldAtNodes.{known_after_assign}
use Rattle.image_runs.proofs.HeldAtNodes.{of_local as of_assignment, own_after, set_after_assign}
use Rattle.image_checks.proofs.Public.{AreApart, apart_by, live_same, counted_beside, locks_are, locks_same, loggable, one_assigned}
use Rattle.image_runs.proofs.LeftStatements.{opened_all_left}
use Rattle.image_runs.proofs.MendedNumbers.{mended_from, mended_hold, mended_none, mended_refer, mended_stays, mended_unnull}
use Rattle.image_runs.proofs.RecordedWords.{durable_word, frame_small, nothing_is_recorded, point_small, register_small, record_none}
use Rattle.image_checks.proofs.Public.{IsLong, refers_by, variable_long}
use Rattle.image_runs.proofs.ResumedLocals.{address_keepable, local_keepable, no_register, value_keepable}
use Rattle.image_runs.proofs.SureReferences.{left_sure}
use Rattle.image_checks.proofs.Public.{StoresAs, StoresElements, stores_elements}
use Rattle.expr_code.proofs.Public.{bytes_small}
use Rattle.expr_code.specs.declared.home.Home.{Home}
use Rattle.expr_code.specs.EvaluationCode.{home_of, HomeCarries, IsFramed}

-- ---- Numbers in words

positive : (k : Kind) → 0 < modulus_of k
positive Char = omega arith
positive UnsignedChar = omega arith
positive SignedChar = omega arith
positive Short = omega arith
positive UnsignedShort = omega arith
positive Int = omega arith
positive UnsignedInt = omega arith
positive Long = omega arith
positive UnsignedLong = omega arith

same_low : (n : ℕ) → 0 < n → (a b : ℕ) → Same n (pos a) (pos b) → a % n ≡ b % n
same_low n some a b same = sym (rem_euclid-mod (pos b) a n some same) ∙ rem_euclid-mod (pos b) b n some (Same_refl n (pos b))

-- the low bytes of a word are those of the number to which it is reduced
low_bytes : (k : Kind) (w : ℕ) → w % 2 ^ (8 * bytes_of k) ≡ register_of k (reduced k (pos w)) % 2 ^ (8 * bytes_of k)
low_bytes k w =
    let z : ℤ = reduced k (pos w) in
    sym (same_low (modulus_of k) (positive k) (register_of k z) w
    (Same_trans (modulus_of k) (pos (register_of k z)) z (pos w) (register-Same k z) (Same-reduced k (pos w))))

tests_free : (ss : List Standing) (condition : Placed) (to other : ℕ) (s : Standing) → Tests ss condition to other s → s.owes ≡ false
tests_free ss condition to other s (chooses place body arms otherwise rest is a b) = ap (λ (z : Standing). z.owes) is
tests_free ss condition to other s (repeats place body rest is a b) = ap (λ (z : Standing). z.owes) is

zeros_hold : (ks : List Kind) → AllZip Holds ks (replicate (length ks) (pos 0))
zeros_hold [] = tt
zeros_hold (k ∷ ks) = (Holds-zero k, zeros_hold ks)

none_named : (ns : List LockName) (count : ℕ) → held_names ns (none_held count) ≡ []
none_named [] count = refl
none_named (x ∷ ns) zero = refl
none_named (x ∷ ns) (suc count) = none_named ns count

unheld : (count name : ℕ) → holds (none_held count) name ≡ false
unheld zero name = refl
unheld (suc count) zero = refl
unheld (suc count) (suc name) = unheld count name

as_long : (ks : List Kind) (ls : List ℤ) → AllZip Holds ks ls → length ls ≡ length ks
as_long [] [] h = refl
as_long [] (z ∷ ls) h = absurd h
as_long (k ∷ ks) [] h = absurd h
as_long (k ∷ ks) (z ∷ ls) h = ap suc (as_long ks ls h.1)

set_held : (ks : List Kind) (ls : List ℤ) (i : ℕ) (k : Kind) (z : ℤ) → AllZip Holds ks ls → slice_get ks i ≡ Some k → Holds k z →
    AllZip Holds ks (slice_set ls i z)
set_held [] ls i k z h there held = absurd (none-some k there)
set_held (j ∷ ks) [] i k z h there held = absurd h
set_held (j ∷ ks) (l ∷ ls) zero k z h there held = (subst (λ (m : Kind). Holds m z) (sym (same_Some j k there)) held, h.1)
set_held (j ∷ ks) (l ∷ ls) (suc i) k z h there held = (h.0, set_held ks ls i k z h.1 there held)

-- ---- What a thread's log says of it

-- a thread of the source and of the graph, and the record in the words that describes them
pub record IsSaid (p : Plan) (code : Code p) (words : List ℕ) : Type 0 where
  pub graph_thread : GraphThread
  pub thread : m.Thread
  pub matches : GraphThreadMatches p.flat graph_thread thread
  pub own : IsOwnNode p.flat code.thread.number graph_thread.at
  pub formed : IsThreadOf p.flat code.of.text.locals thread
  pub referring : IsReferringThread p.flat code.of.text thread
  -- no reference is null that is known not to be
  pub unnull : AreUnnull code.of.text.refers (known_at code.of.text code.thread.part.first graph_thread.at) graph_thread.locals
  -- the names that it holds
  pub set : Held
  pub left : KeepsLeft p.flat (lock_names p.flat code.of.text) set thread.left
  -- each has a lock of its own, and these are recorded
  pub apart : AreApart thread.locals (lock_names p.flat code.of.text) set
  pub locks : record_of p.log (map word_of words) code.thread.number ≡ map (lock_number thread.locals) (held_names (lock_names p.flat code.of.text) set)
  pub held : AllZip Holds code.thread.kinds thread.locals
  -- who holds them holds the lock of the element of its pending store
  pub pending : (holders : List (Option ℕ)) → HoldsNames (lock_names p.flat code.of.text) set thread.locals holders code.thread.number → (q : Pending) →
      thread.pending ≡ Some q → slice_get holders (element_lock p.flat.variables q.variable q.element) ≡ Some (Some code.thread.number)
  -- its node writes where its pending store goes, by what its keys name
  pub stored : (q : Pending) → graph_thread.pending ≡ Some q → IsPendingAt p.flat (naming_of p.flat code.of.text graph_thread.locals) graph_thread.at q
  -- whether it is past an assignment that its record tells
  pub late : Bool
  pub entry : Record
  pub is_record : IsRecord p.log entry
  pub is_recorded : IsRecorded p.log code.thread.number entry (map word_of words)
  pub describes : (kept : FlowState) → slice_get kept.graph_threads code.thread.number ≡ Some graph_thread →
      holds_none kept.holders code.thread.number ≡ is_empty (map (lock_number thread.locals) (held_names (lock_names p.flat code.of.text) set)) →
      DescribesAs p code kept late entry

-- numbers with which a thread can stand at the node, where its bank keeps these locks: those of some locals are right, and so are those of the live ones
record IsStood (p : Plan) (code : Code p) (words : List Word) (node : ℕ) (Counts : (local : ℕ) → Type 0) : Type 0 where
  own : IsNodeOf code.thread node
  some : held_names_before p code.thread node ≢ []
  numbers : List ℤ
  held : AllZip Holds code.thread.kinds numbers
  live : (local : ℕ) → IsLive p.graph local node → Counts local
  refer : (local array : ℕ) → slice_get (refers_in p code.thread) local ≡ Some (Some array) → Counts local →
      IsNullOrReference (elements_of p.flat.variables array) (slice_index_or numbers local (pos 0))
  unnull : (local array : ℕ) → slice_get (refers_in p code.thread) local ≡ Some (Some array) → Counts local →
      is_among (knowns_before p code.thread node) local ≡ true → slice_index_or numbers local (pos 0) ≢ pos 0
  locks : HasKept p.log words code.thread.number (locks_before p code.thread numbers node)
  once : AreOnce (locks_before p code.thread numbers node)
  pending : (is : Node) (location : Location) → NodeAt p.graph node is → is.writes ≡ Some location →
      IsElementOf p.flat.variables (naming_of p.flat code.of.text numbers) location (read (resumed p code words) pending_address)
  value : (is : Node) (location : Location) → NodeAt p.graph node is → is.writes ≡ Some location →
      IsReferenceWord p.flat.variables (variable_refers p.flat.variables location.variable) (read (resumed p code words) pending_value)

none_in : (xs : List ℕ) → ((x : ℕ) → Contains xs x → ⊥) → xs ≡ []
none_in [] none = refl
none_in (x ∷ xs) none = absurd (none x (contains_first x xs))

-- how many bytes are told
few_written : (a : Action) (bytes : ℕ) → bytes_written a ≡ Some bytes → bytes ≤ 8
few_written (Eval target value next) bytes e = let same = same_Some 8 bytes e in omega (arith, same)
few_written (Store variable kind next) bytes e =
    let same = same_Some (bytes_of kind) bytes e in let small = bytes_small kind in omega (arith, same, small)
few_written (Test condition to other) bytes e = absurd (none-some bytes e)
few_written (Lock lock next) bytes e = absurd (none-some bytes e)
few_written (Unlock lock next) bytes e = absurd (none-some bytes e)
few_written End bytes e = absurd (none-some bytes e)

module _ (p : Plan) (plan : IsPlan p) (code : Code p) (words : List ℕ) (log : HasLog p.log code.thread.number (map word_of words)) where
  abbrev ws : List Word
  ws = map word_of words

  abbrev t : Thread
  t = code.thread

  abbrev n : ℕ
  n = code.thread.number

  abbrev x : f.Flat
  x = p.flat

  form : IsFlatThreadReferring x code.of.text
  form = all_at (IsFlatThreadReferring x) x.threads n code.of.text plan.formed.referring.threads code.of.of_text

  abbrev own_names : List LockName
  own_names = lock_names x code.of.text

  -- ---- Between two sections

  module _ (none : durable_point p.log ws n ≡ 0) where
    begun : GraphThreadMatches x (graph_thread_start t.part) (m.thread_start code.of.text)
    begun =
        (begins_lockstep x plan.formed).each n (graph_thread_start t.part) (m.thread_start code.of.text)
        (slice_get-map graph_thread_start (lowered x).threads n ∙ ap (option_map graph_thread_start)
        (subst (λ (g : Graph). slice_get g.threads n ≡ Some t.part) plan.lowered code.of.nodes))
        (slice_get-map m.thread_start x.threads n ∙ ap (option_map m.thread_start) code.of.of_text)

    abbrev free_set : Held
    free_set = none_held (length own_names)

    abbrev start : m.Thread
    start = m.thread_start code.of.text

    referring_start : IsReferringThread x code.of.text start
    referring_start =
        let own = zip_there (IsReferringThread x) x.threads (m.start x).threads n code.of.text (begins_so x plan.formed).references.threads code.of.of_text in
        let there : slice_get (m.start x).threads n ≡ Some start =
        slice_get-map m.thread_start x.threads n ∙ ap (option_map m.thread_start) code.of.of_text in
        subst (IsReferringThread x code.of.text) (same_Some own.0 start (sym own.1 ∙ there)) own.2

    no_locks : map (lock_number start.locals) (held_names own_names free_set) ≡ []
    no_locks = ap (λ (ns : List LockName). map (lock_number start.locals) ns) (none_named own_names (length own_names))

    said_between : IsSaid p code words
    said_between = record {
      graph_thread = graph_thread_start t.part;
      thread = start;
      matches = begun;
      own = (good_start x plan.formed).own n (graph_thread_start t.part)
          (slice_get-map graph_thread_start (lowered x).threads n ∙ ap (option_map graph_thread_start)
          (subst (λ (g : Graph). slice_get g.threads n ≡ Some t.part) plan.lowered code.of.nodes));
      formed = record {
        left = opened_all_left x code.of.text.locals code.of.text.body
            (all_at (λ (u : f.Thread). AreFlatStatements x u.locals u.body) x.threads n code.of.text plan.formed.threads code.of.of_text);
        locals = zeros_hold code.of.text.locals;
        pending = λ q some. absurd (none-some q some);
      };
      referring = referring_start;
      unnull = λ local array refers among.
          absurd (true≢false (sym among ∙ ap (λ (known : List ℕ). is_among known local) (none_known code.of.text t.part.first t.part.first refl)));
      set = free_set;
      left = keep_opened_all x.variables own_names (sets p plan t code.of).disciplined;
      apart = λ one other u v a b held also same. absurd (true≢false (sym held ∙ unheld (length own_names) one));
      locks = record_none p.log ws n none ∙ sym no_locks;
      held = subst (λ (ks : List Kind). AllZip Holds ks start.locals) (sym code.of.kinds) (zeros_hold code.of.text.locals);
      pending = λ holders own q some. absurd (none-some q some);
      stored = λ q some. absurd (none-some q some);
      late = false;
      entry = nothing_recorded;
      is_record = nothing_is_record p.log;
      is_recorded = nothing_is_recorded p.log n words none;
      describes = λ kept there holding. between (holding ∙ ap is_empty no_locks) refl;
    }

  -- ---- At a node

  module _ (node : ℕ) (Counts : (local : ℕ) → Type 0) (some : durable_point p.log ws n ≢ 0) (g : IsStood p code ws node Counts) where
    abbrev registers : List ℕ
    registers = resumed_registers p.log ws n

    abbrev is : Node
    is = (node_is p plan t code.of node g.own).0

    abbrev here : NodeAt p.graph node is
    here = (node_is p plan t code.of node g.own).1

    abbrev st : Standing
    st = (stands p plan t code.of node g.own).0

    abbrev set : Held
    set = set_before p t node

    -- ---- Locals: those that the bank tells, with each reference right

    abbrev refers : List (Option ℕ)
    refers = code.of.text.refers

    abbrev known : List ℕ
    known = known_at code.of.text t.part.first node

    abbrev locals : List ℤ
    locals = mended_from x.variables known refers 0 g.numbers

    own_refers : AllZip IsLocalReferring t.kinds refers
    own_refers = subst (λ (ks : List Kind). AllZip IsLocalReferring ks refers) (sym code.of.kinds) form.locals

    locals_hold : AllZip Holds t.kinds locals
    locals_hold = mended_hold x.variables known t.kinds refers 0 g.numbers own_refers g.held

    locals_refer : AllZip (RefersSo x.variables) refers locals
    locals_refer =
        mended_refer x.variables known x.mutexes plan.formed.shared.variables t.kinds refers 0 g.numbers form.refer own_refers g.held

    locals_unnull : AreUnnull refers known locals
    locals_unnull = mended_unnull x.variables known t.kinds refers g.numbers own_refers g.held

    -- one that is right stays
    stays : (local : ℕ) → Counts local → slice_index_or g.numbers local (pos 0) ≡ slice_index_or locals local (pos 0)
    stays local counted = by (slice_get refers local) refl
      where
        array_there : (array : ℕ) → slice_get refers local ≡ Some (Some array) → slice_get (refers_in p t) local ≡ Some (Some array)
        array_there array e = ap (λ (rs : List (Option ℕ)). slice_get rs local) (refers_are p t code.of) ∙ e

        right : (r : Option ℕ) → slice_get refers local ≡ Some r → RefersSo x.variables r (slice_index_or g.numbers local (pos 0))
        right None e = tt
        right (Some array) e = g.refer local array (array_there array e) counted

        by : (o : Option (Option ℕ)) → slice_get refers local ≡ o → slice_index_or g.numbers local (pos 0) ≡ slice_index_or locals local (pos 0)
        by None e = sym (mended_none x.variables known t.kinds refers g.numbers own_refers g.held local e)
        by (Some r) e =
            sym (mended_stays x.variables known t.kinds refers g.numbers own_refers g.held local r e (right r e)
            (λ array refers_so among.
            g.unnull local array (array_there array (e ∙ ap (λ (o : Option ℕ). Some o) refers_so)) counted
            (ap (λ (ks : List ℕ). is_among ks local) (knowns_are p t code.of node) ∙ among)))

    -- ---- Locks and keys

    abbrev own_locks : List ℕ
    own_locks = locks_before p t locals node

    keys : (k : ℕ) (z : LockName) → slice_get (keys_of p t) k ≡ Some z → holds set k ≡ true → (local : ℕ) → Contains (key_locals z) local → Counts local
    keys k z there held local c = g.live local (plan.keys_live t code.of node g.own k local z there held c)

    same_locks : locks_before p t g.numbers node ≡ own_locks
    same_locks = locks_same p plan t code.of Counts g.numbers locals node keys stays

    -- a held key names one element, by these numbers and by those
    key_there : (variable key element : ℕ) → holds set key ≡ true → names_in x.variables own_names g.numbers variable key ≡ Some element →
        names_in x.variables own_names locals variable key ≡ Some element
    key_there variable key element held named =
        sym (held_names_it x.variables own_names set locals variable key held)
        ∙ (held_keys_stay x.variables own_names set locals g.numbers variable key
        (λ k y there own. sym (live_same p plan t code.of Counts g.numbers locals node keys stays k y there own))
        ∙ (held_names_it x.variables own_names set g.numbers variable key held ∙ named))

    -- ---- The pending store

    record Owed : Type 0 where
      pending : Option Pending
      owes : is_some pending ≡ st.owes
      ranged : (q : Pending) → pending ≡ Some q → IsStoreInRange x.variables q
      referring : (q : Pending) → pending ≡ Some q → RefersSo x.variables (variable_refers x.variables q.variable) q.number
      guarded : (holders : List (Option ℕ)) → HoldsNames own_names set locals holders n → (q : Pending) → pending ≡ Some q →
          slice_get holders (element_lock x.variables q.variable q.element) ≡ Some (Some n)
      stored : (q : Pending) → pending ≡ Some q → IsPendingAt x (naming_of x code.of.text locals) node q
      enters : (seen : Seen) → seen.pending ≡ pending → IsPendingIn p is.action seen registers

    nothing_owed : st.owes ≡ false → ((seen : Seen) → IsPendingIn p is.action seen registers) → Owed
    nothing_owed free enters = record {
      pending = None;
      owes = sym free;
      ranged = λ q e. absurd (none-some q e);
      referring = λ q e. absurd (none-some q e);
      guarded = λ holders own q e. absurd (none-some q e);
      stored = λ q e. absurd (none-some q e);
      enters = λ seen e. enters seen;
    }

    module _ (variable : ℕ) (kind : Kind) (next : ℕ) (does : is.action ≡ Store variable kind next) (owing : st.owes ≡ true)
        (stores : StoresElements x plan.formed.shared.variables is variable kind) where
      at_element : IsElementOf x.variables (naming_of x code.of.text g.numbers) stores.location (read registers pending_address)
      at_element = g.pending is stores.location here stores.writes

      guard : IsGuardedStore x.variables own_names set stores.location
      guard = guarded_store p plan t code.of node g.own is stores.location here stores.writes

      named : (key : ℕ) → stores.location.key ≡ Some key →
          names_in x.variables own_names locals stores.location.variable key ≡ Some at_element.element
      named key is =
          key_there stores.location.variable key at_element.element (key_is_held x.variables own_names set stores.location guard key is)
          (at_element.by_key key is)

      abbrev store : Pending
      store = record { variable = variable; element = at_element.element; number = reduced kind (pos (read registers pending_value)) }

      own_refer : RefersSo x.variables (variable_refers x.variables variable) store.number
      own_refer =
          refers_by x.mutexes x.variables plan.formed.shared.variables (variable_refers x.variables variable) kind (read registers pending_value)
          (subst (λ (k : Kind). IsLong (variable_refers x.variables variable) k) stores.kind_is
          (variable_long x.variables variable stores.it plan.formed.referring.variables stores.found))
          (subst (λ (v : ℕ). IsReferenceWord x.variables (variable_refers x.variables v) (read registers pending_value)) stores.variable_is
          (g.value is stores.location here stores.writes))

      exists : store.element < elements_in stores.it.length
      exists = let to = at_element.to in let w = stores.within in omega (arith, to, w)

      ranged : IsStoreInRange x.variables store
      ranged = record {
        it = stores.it;
        found = stores.found;
        element = exists;
        held = subst (λ (k : Kind). Holds k store.number) (sym stores.kind_is) (Holds-reduced kind (pos (read registers pending_value)));
      }

      has : HasPending p store variable kind registers
      has = record {
        variable_is = refl;
        address = at_element.is ∙ ap (λ (v : ℕ). variable_at (map shape_of x.variables) v store.element) stores.variable_is;
        below =
            omega (
              arith,
              address_is x.variables variable store.element stores.it stores.found,
              (element_whole x.variables variable store.element stores.it (well_formed_placed x plan.formed).room stores.found exists).ends,
            );
        value = record {
          held = Holds-reduced kind (pos (read registers pending_value));
          below =
              register_small p.log n ws log pending_value (value_keepable p.log);
          low = low_bytes kind (read registers pending_value);
        };
      }

      store_owed : Owed
      store_owed = record {
        pending = Some store;
        owes = sym owing;
        ranged = λ q e. subst (λ (z : Pending). IsStoreInRange x.variables z) (same_Some store q e) ranged;
        referring = λ q e. subst (λ (z : Pending). RefersSo x.variables (variable_refers x.variables z.variable) z.number) (same_Some store q e) own_refer;
        guarded = λ holders own q e.
            subst (λ (z : Pending). slice_get holders (element_lock x.variables z.variable z.element) ≡ Some (Some n)) (same_Some store q e)
            (subst (λ (v : ℕ). slice_get holders (element_lock x.variables v at_element.element) ≡ Some (Some n)) stores.variable_is
            (guards_element own_names set locals (long p plan t code.of node g.own) holders n own x.variables stores.location guard at_element.element
            at_element.to named));
        stored = λ q e. subst (λ (z : Pending). IsPendingAt x (naming_of x code.of.text locals) node z) (same_Some store q e) (record {
          node = is;
          is = lowered_is p plan t code.of node g.own;
          lies = record {
            location = stores.location;
            of = stores.writes;
            lies = record {
              within = record { variable = stores.variable_is; from_lo = at_element.from; to_hi = at_element.to };
              by_key = λ key keyed.
                  subst (λ (v : ℕ). names_in x.variables own_names locals v key ≡ Some at_element.element) stores.variable_is (named key keyed);
            };
          };
        });
        enters = λ seen e. subst (λ (a : Action). IsPendingIn p a seen registers) (sym does)
            (λ q there. subst (λ (z : Pending). HasPending p z variable kind registers) (same_Some store q (sym e ∙ there)) has);
      }

    owed_by : (a : Action) → is.action ≡ a → ActionLeads (all p plan t code.of) a st → StoresAs x plan.formed.shared.variables is a → Owed
    owed_by (Eval target value next) does leads stores =
        nothing_owed (ap (λ (z : Standing). z.owes) leads.is) (λ seen. subst (λ (a : Action). IsPendingIn p a seen registers) (sym does) tt)
    owed_by (Store variable kind next) does leads stores = store_owed variable kind next does (ap (λ (z : Standing). z.owes) leads.is) stores
    owed_by (Test condition to other) does leads stores =
        nothing_owed (tests_free _ condition to other st leads) (λ seen. subst (λ (a : Action). IsPendingIn p a seen registers) (sym does) tt)
    owed_by (Lock lock next) does leads stores =
        nothing_owed (ap (λ (z : Standing). z.owes) leads.is) (λ seen. subst (λ (a : Action). IsPendingIn p a seen registers) (sym does) tt)
    owed_by (Unlock lock next) does leads stores =
        nothing_owed (ap (λ (z : Standing). z.owes) leads.is) (λ seen. subst (λ (a : Action). IsPendingIn p a seen registers) (sym does) tt)
    owed_by End does leads stores =
        nothing_owed (ap (λ (z : Standing). z.owes) leads) (λ seen. subst (λ (a : Action). IsPendingIn p a seen registers) (sym does) tt)

    owed : Owed
    owed = owed_by is.action refl (stands p plan t code.of node g.own).2
        (stores_elements x plan.formed.shared.variables node is plan.formed.threads
        (nodes_at x node is (lowered_is p plan t code.of node g.own)))

    -- ---- The threads

    abbrev graph_thread : GraphThread
    graph_thread = record { at = node; locals = locals; pending = owed.pending; ended = false }

    abbrev thread : m.Thread
    thread = record { left = st.left; locals = locals; pending = owed.pending; ended = false }

    matches : GraphThreadMatches x graph_thread thread
    matches = record {
      locals = refl;
      pending = refl;
      ended = refl;
      stands =
          (stands p plan t code.of node g.own).1
          ∙ ap (λ (b : Bool). Some (record { left = st.left; owes = b })) (sym owed.owes);
    }

    formed : IsThreadOf x code.of.text.locals thread
    formed = record {
      left = left_is p plan t code.of node g.own;
      locals = subst (λ (ks : List Kind). AllZip Holds ks locals) code.of.kinds locals_hold;
      pending = owed.ranged;
    }

    -- ---- What its record has to be

    are_loggable : AreLoggable p.log own_locks
    are_loggable = loggable p plan t code.of locals locals_hold node

    keeps_locks : HasKept p.log ws n own_locks
    keeps_locks = subst (λ (ls : List ℕ). HasKept p.log ws n ls) same_locks g.locks

    not_empty : (ls : List ℕ) → ls ≢ [] → is_empty ls ≡ false
    not_empty [] other = absurd (other refl)
    not_empty (l ∷ ls) other = refl

    none_free : is_empty (map (lock_number locals) (held_names own_names set)) ≡ false
    none_free =
        not_empty (map (lock_number locals) (held_names own_names set))
        (λ none. numbers_some locals (held_names_before p t node) g.some (locks_are p plan t code.of locals node ∙ none))

    said_by : (late : Bool) (entry : Record) → IsRecord p.log entry → IsRecorded p.log n entry ws →
        ((kept : FlowState) → slice_get kept.graph_threads n ≡ Some graph_thread → holds_none kept.holders n ≡ false → DescribesAs p code kept late entry) →
        IsSaid p code words
    said_by late entry is_record is_recorded describes = record {
      graph_thread = graph_thread;
      thread = thread;
      matches = matches;
      own = record {
        part = t.part;
        of_thread = subst (λ (g : Graph). slice_get g.threads n ≡ Some t.part) plan.lowered code.of.nodes;
        from_first = g.own.from_first;
        below_end = g.own.below_end;
      };
      formed = formed;
      referring = record {
        left = left_refers p plan t code.of node g.own;
        known = left_sure x refers locals known st.left (left_refers p plan t code.of node g.own) (left_known p plan t code.of node g.own) locals_unnull;
        locals = locals_refer;
        pending = owed.referring;
      };
      unnull = locals_unnull;
      set = set;
      left = keeps p plan t code.of node g.own;
      apart = apart_by locals own_names set (subst AreOnce (same_locks ∙ locks_are p plan t code.of locals node) g.once);
      locks = (banks_read p.log).locks ws n own_locks are_loggable some keeps_locks ∙ locks_are p plan t code.of locals node;
      held = locals_hold;
      pending = owed.guarded;
      stored = owed.stored;
      late = late;
      entry = entry;
      is_record = is_record;
      is_recorded = is_recorded;
      describes = λ kept there holding. describes kept there (holding ∙ none_free);
    }

  -- ---- The record of where it is resumed

  module _ (node : ℕ) (place : NodePlace) (some : durable_point p.log ws n ≢ 0) (g : GoesOnAt p code ws node place) where
    abbrev view : LogView
    view = resumed_view p code ws

    abbrev own_registers : List ℕ
    own_registers = resumed_registers p.log ws n

    abbrev own_is : Node
    own_is = (node_is p plan t code.of node g.own).0

    abbrev own_here : NodeAt p.graph node own_is
    own_here = (node_is p plan t code.of node g.own).1

    -- what it is told of the write that comes
    abbrev written_at : NodePlace → Option ℕ
    written_at the_entry = None
    written_at the_core = bytes_written own_is.action

    comes : (at : NodePlace) → ComesNext p node at (written_at at)
    comes the_entry = refl
    comes the_core = λ other there. ap (λ (z : Node). bytes_written z.action) (same_Some own_is other (sym own_here ∙ there))

    tellable : (at : NodePlace) (bytes : ℕ) → written_at at ≡ Some bytes → bytes ≤ 8
    tellable the_entry bytes e = absurd (none-some bytes e)
    tellable the_core bytes e = few_written own_is.action bytes e

    -- the words on which it counts
    listed : (counted : List ℕ) × AreCounted p t node place counted
    listed = words_are_listed p t node place plan code.of

    abbrev own_entry : (locks : List ℕ) → Record
    own_entry locks = record {
      point = durable_point p.log ws n;
      locks = locks;
      live = registers_kept code.is.places node place;
      registers = own_registers;
      written = written_at place;
      framed = listed.0;
      frame = λ word. words_in p.log n view word;
    }

    kept_keepable : (slot : ℕ) → IsKept p t node slot → IsKeepable p.log slot
    kept_keepable slot (of_local local k own there live at) = local_keepable p plan t code.of local k own there at
    kept_keepable slot (of_address own) = address_keepable p.log
    kept_keepable slot (of_value own) = value_keepable p.log

    before_keepable : (slot : ℕ) → IsKeptBefore p t node slot → IsKeepable p.log slot
    before_keepable slot (of_entry _ kept) = kept_keepable slot kept
    before_keepable slot (of_word logged) = address_keepable p.log
    before_keepable slot (of_number logged) = value_keepable p.log

    live_keepable : (slot : ℕ) → Contains (registers_kept code.is.places node place) slot → IsKeepable p.log slot
    live_keepable slot c = at place c
      where
        at : (z : NodePlace) → Contains (registers_kept code.is.places node z) slot → IsKeepable p.log slot
        at the_entry c = kept_keepable slot ((code.is.live node g.own slot).0 c)
        at the_core c = before_keepable slot ((code.is.kept node g.own slot).0 c)

    -- a write comes past a boundary
    some_written : IsWrite p plan code node → bytes_written own_is.action ≡ None → ⊥
    some_written (of_element is location at writes) none = by own_is.action refl
      where
        writes_here : own_is.writes ≡ Some location
        writes_here = ap (λ (z : Node). z.writes) (same_Some own_is is (sym own_here ∙ at)) ∙ writes

        here : slice_get (threads_nodes x x.threads 0) node ≡ Some own_is
        here = nodes_at x node own_is (lowered_is p plan t code.of node g.own)

        shaped : (a : Action) → own_is.action ≡ a → ShapedAs (threads_nodes x x.threads 0) own_is a
        shaped a does = subst (λ (z : Action). ShapedAs (threads_nodes x x.threads 0) own_is z) does (node_shaped x node own_is here)

        unwritten : own_is.writes ≡ None → ⊥
        unwritten e = none-some location (sym e ∙ writes_here)

        by : (a : Action) → own_is.action ≡ a → ⊥
        by (Eval target value next) does = unwritten (shaped (Eval target value next) does).1.writes
        by (Store variable kind next) does = none-some (bytes_of kind) (sym none ∙ ap bytes_written does)
        by (Test condition to other) does = unwritten (shaped (Test condition to other) does).1.writes
        by (Lock lock next) does = unwritten (shaped (Lock lock next) does).1
        by (Unlock lock next) does = unwritten (shaped (Unlock lock next) does).1
        by End does = unwritten (shaped End does).1
    some_written (of_assignment logged) none =
        let same : own_is ≡ logged.assigns.is = same_Some own_is logged.assigns.is (sym own_here ∙ logged.assigns.at) in
        none-some 8 (sym none ∙ (ap (λ (z : Node). bytes_written z.action) same ∙ ap bytes_written logged.assigns.action))

    for_write : KeepsForWrite p.log (written_at place) (registers_kept code.is.places node place)
    for_write framed none = at place g.resumes none
      where
        kept_none : (register : ℕ) → IsKept p t node register → (IsStoreNode p.graph node → ⊥) → ⊥
        kept_none _ (of_local local k register there live home) free = no_register p plan t code.of framed local k register there home
        kept_none _ (of_address own) free = free own
        kept_none _ (of_value own) free = free own

        at : (z : NodePlace) → ResumesAt p code node z (resume_of (durable_point p.log ws n)) → written_at z ≡ None → registers_kept code.is.places node z ≡ []
        at the_entry there none =
            none_in (code.is.places.live node)
            (λ register c. kept_none register ((code.is.live node g.own register).0 c) (no_store p plan code node _ there))
        at the_core there none = absurd (some_written (chosen_write p plan code node g.own (at_core p code node _ there).0) none)

    counted_in : (locks : List ℕ) (word : ℕ) → Contains (framed_of (own_entry locks)) word → Contains listed.0 word
    counted_in locks word c =
        subst (λ (counted : List ℕ). Contains counted word)
        (cond-false (durable_point p.log ws n == 0) [] listed.0 (ne_eqb (durable_point p.log ws n) 0 some)) c

    is_record : (locks : List ℕ) → AreLoggable p.log locks → IsRecord p.log (own_entry locks)
    is_record locks fit = record {
      point = point_small p.log n ws log;
      locks = fit;
      live = live_keepable;
      registers = λ slot c. register_small p.log n ws log slot (live_keepable slot c);
      told = is_tellable p.log (written_at place) (tellable place);
      for_write = for_write;
      framed = λ word c. words_exist p t node place word plan code.of ((listed.1 word).0 (counted_in locks word c));
      frame = λ word c.
          frame_small p.log n ws log word (words_exist p t node place word plan code.of ((listed.1 word).0 (counted_in locks word c)));
    }

    module _ (locks : List ℕ) (fit : AreLoggable p.log locks) (keeps : HasKept p.log ws n locks) where
      slot_is : (slot : ℕ) → Contains (slots_of p.log (own_entry locks)) slot → recorded p.log ws n slot ≡ value_of p.log (own_entry locks) slot
      slot_is slot c =
          let r = own_entry locks in
          elim (slot_cases p.log r slot c) [
            | inl h ↦
                subst (λ (k : ℕ). recorded p.log ws n k ≡ value_of p.log r k) (sym h.is)
                (elim (Contains-append_cases (kept_locks p.log locks) (told p.log (written_at place)) h.pair h.own) [
                  | inl lock ↦ keeps h.pair lock ∙ sym (pair_value p.log r fit live_keepable for_write h.pair h.own)
                  | inr write ↦ g.told (written_at place) (comes place) h.pair write ∙ sym (pair_value p.log r fit live_keepable for_write h.pair h.own)
                ])
            | inr h ↦
                subst (λ (k : ℕ). recorded p.log ws n k ≡ value_of p.log r k) (sym h.is)
                (sym ((banks_read p.log).registers ws n h.register (live_keepable h.register h.own))
                ∙ sym (register_value p.log r fit live_keepable for_write h.register h.own))
          ]

      is_recorded : IsRecorded p.log n (own_entry locks) ws
      is_recorded = record {
        point = durable_word words (word_number (point_at p.log n));
        bank = λ slot c.
            subst (λ (v : ℕ). IsDurable (slot_in p.log ws n (own_entry locks) slot) v) (slot_is slot c)
            (durable_word words (bank_word p.log n (bank_of (durable_point p.log ws n)) slot));
        frame = λ word c. durable_word words (frame_word p.log n word);
      }

      on_side : IsOnSide p.log view.side own_registers
      on_side = (log_facts.registers_resumed.between p.log n (own_entry locks) ws (is_record locks fit) is_recorded).side.registers

    -- ---- Where it isn't past an assignment

    module _ (unlogged : ¬ (IsLogged p t node) ⊎ (place ≡ the_entry)) where
      live_counted : (local : ℕ) → IsLive p.graph local node → CountsOn p t node place local
      live_counted local live = by place refl
        where
          by : (z : NodePlace) → place ≡ z → CountsOn p t node z local
          by the_entry e = live
          by the_core e = elim unlogged [
            | inl none ↦ by_entry local none live
            | inr entry ↦ (let both : the_core ≡ the_entry = sym e ∙ entry in absurd (let z : ⊥ = cc in z))
          ]

      abbrev stood : IsStood p code ws node (CountsOn p t node place)
      stood = record {
        own = g.own;
        some = resumed_hold p plan code node place _ g.own g.resumes;
        numbers = g.numbers;
        held = g.held;
        live = live_counted;
        refer = g.refer;
        unnull = g.unnull;
        locks = g.locks;
        once = g.once;
        pending = g.pending;
        value = g.value;
      }

      abbrev here_locals : List ℤ
      here_locals = locals node (CountsOn p t node place) some stood

      abbrev here_locks : List ℕ
      here_locks = own_locks node (CountsOn p t node place) some stood

      abbrev here_thread : GraphThread
      here_thread = graph_thread node (CountsOn p t node place) some stood

      fits : AreLoggable p.log here_locks
      fits = are_loggable node (CountsOn p t node place) some stood

      kept_here : HasKept p.log ws n here_locks
      kept_here = keeps_locks node (CountsOn p t node place) some stood

      enters : (kept : FlowState) → Enters p t node (seen_by kept here_thread) view own_registers
      enters kept = record {
        at_side = on_side here_locks fits kept_here;
        count = as_long t.kinds here_locals (locals_hold node (CountsOn p t node place) some stood);
        locals = λ local k there live.
            subst (λ (z : ℤ). HomeCarries (frame_loads view) own_registers (home_of t.locals local) (typed k z))
            (stays node (CountsOn p t node place) some stood local (live_counted local live)) (g.locals local k there (live_counted local live));
        pending = λ other there.
            let same : own_is ≡ other = same_Some own_is other (sym own_here ∙ there) in
            subst (λ (z : Node). IsPendingIn p z.action (seen_by kept here_thread) own_registers) same
            ((owed node (CountsOn p t node place) some stood).enters (seen_by kept here_thread) refl);
      }

      may_go_on : (kept : FlowState) → MayGoOn p t node place (seen_by kept here_thread) view (pos 0) own_registers
      may_go_on kept = by place refl
        where
          by : (z : NodePlace) → place ≡ z → MayGoOn p t node z (seen_by kept here_thread) view (pos 0) own_registers
          by the_entry e = enters kept
          by the_core e = elim unlogged [
            | inl none ↦ (to_enter none (enters kept), λ other local number next there logged does. absurd (none logged))
            | inr entry ↦ (let both : the_core ≡ the_entry = sym e ∙ entry in absurd (let z : ⊥ = cc in z))
          ]

      said_on_time : IsSaid p code words
      said_on_time =
          said_by node (CountsOn p t node place) some stood false (own_entry here_locks) (is_record here_locks fits) (is_recorded here_locks fits kept_here)
          (λ kept there holding. inside holding (record {
            graph_thread = here_thread;
            there = there;
            goes_on = refl;
            own = g.own;
            point = some;
            place = place;
            resumes = g.resumes;
            locks = refl;
            live = refl;
            written = comes place;
            framed = listed.1;
            view = view;
            frame = λ word c. refl;
            owed = pos 0;
            may = may_go_on kept;
          }))

  -- ---- Past an assignment

  module _ (node : ℕ) (some : durable_point p.log ws n ≢ 0) (g : GoesOnAt p code ws node the_core) (logged : IsLogged p t node) where
    abbrev local : ℕ
    local = logged.local

    abbrev next : ℕ
    next = logged.assigns.next

    abbrev told_number : StoresAssigned p code ws local
    told_number = g.assigned logged

    abbrev own_next : IsNodeOf t next
    own_next = own_after p plan t code.of node g.own local logged.assigns

    kind_there : slice_get t.kinds local ≡ Some logged.assigns.kind
    kind_there = kind_of_assigned p plan t code.of node g.own local logged.assigns

    abbrev after : List ℤ
    after = slice_set g.numbers local told_number.number

    inside_numbers : local < length g.numbers
    inside_numbers =
        let l = slice_get_within t.kinds local logged.assigns.kind kind_there in let long = as_long t.kinds g.numbers g.held in omega (arith, l, long)

    own_number : slice_index_or after local (pos 0) ≡ told_number.number
    own_number = get_or-set_same g.numbers local told_number.number (pos 0) inside_numbers

    other_number : (other : ℕ) → other ≢ local → slice_index_or after other (pos 0) ≡ slice_index_or g.numbers other (pos 0)
    other_number other differs = get_or-set_other g.numbers local other told_number.number (pos 0) differs

    -- those on which it counts at the core are others
    is_other : (other : ℕ) → CountsOn p t node the_core other → other ≢ local
    is_other other (by_entry _ none live) = absurd (none logged)
    is_other other (by_assignment _ it live) =
        subst (λ (k : ℕ). other ≢ k) (one_assigned p plan node it.local local it.assigns logged.assigns) live.other

    abbrev CountsAfter : (other : ℕ) → Type 0
    CountsAfter other = (other ≡ local) ⊎ CountsOn p t node the_core other

    goes : IsEdge p.graph node next
    goes = record {
      is = logged.assigns.is;
      at = logged.assigns.at;
      goes = subst (λ (a : Action). Contains (successors a) next) (sym logged.assigns.action) (contains_first next []);
    }

    live_after : (other : ℕ) → IsLive p.graph other next → CountsAfter other
    live_after other live = elim (cases_eq other local) [
      | inl same ↦ inl same
      | inr differs ↦ inr (by_assignment other logged (record { next = next; goes = goes; live = live; other = differs }))
    ]

    refer_after : (other array : ℕ) → slice_get (refers_in p t) other ≡ Some (Some array) → CountsAfter other →
        IsNullOrReference (elements_of x.variables array) (slice_index_or after other (pos 0))
    refer_after other array its (inl same) =
        subst (IsNullOrReference (elements_of x.variables array))
        (sym own_number ∙ ap (λ (k : ℕ). slice_index_or after k (pos 0)) (sym same))
        (told_number.refer array (ap (slice_get (refers_in p t)) (sym same) ∙ its))
    refer_after other array its (inr counted) =
        subst (IsNullOrReference (elements_of x.variables array)) (sym (other_number other (is_other other counted))) (g.refer other array its counted)

    known_is : (k : ℕ) → knowns_before p t k ≡ known_at code.of.text t.part.first k
    known_is k = knowns_are p t code.of k

    unnull_after : (other array : ℕ) → slice_get (refers_in p t) other ≡ Some (Some array) → CountsAfter other →
        is_among (knowns_before p t next) other ≡ true → slice_index_or after other (pos 0) ≢ pos 0
    unnull_after other array its (inl same) among =
        absurd ((known_after_assign p plan t code.of node g.own local logged.assigns other
        (ap (λ (ks : List ℕ). is_among ks other) (sym (known_is next)) ∙ among)).1 same)
    unnull_after other array its (inr counted) among =
        let before : is_among (knowns_before p t node) other ≡ true =
        ap (λ (ks : List ℕ). is_among ks other) (known_is node)
        ∙ (known_after_assign p plan t code.of node g.own local logged.assigns other
        (ap (λ (ks : List ℕ). is_among ks other) (sym (known_is next)) ∙ among)).0 in
        λ zeroth. g.unnull other array its counted before (sym (other_number other (is_other other counted)) ∙ zeroth)

    set_stays : set_before p t next ≡ set_before p t node
    set_stays = set_after_assign p plan t code.of node g.own local logged.assigns

    -- the same locks are held
    locks_stay : locks_before p t g.numbers node ≡ locks_before p t after next
    locks_stay =
        locks_same p plan t code.of (CountsOn p t node the_core) g.numbers after node
        (λ k z there held other c. by_assignment other logged (counted_beside p plan t code.of node g.own logged k z there held other c))
        (λ other counted. sym (other_number other (is_other other counted)))
        ∙ ap (λ (h : Held). map (lock_number after) (held_names (keys_of p t) h)) (sym set_stays)

    none_written : (is : Node) (location : Location) → NodeAt p.graph next is → is.writes ≡ Some location → ⊥
    none_written is location at writes =
        let free = free_writes_none p plan t code.of next own_next
        (ap (λ (z : Standing). z.owes) (free_after_assign p plan t code.of node g.own local logged.assigns)) in
        let same : (node_is p plan t code.of next own_next).0 ≡ is = same_Some _ is (sym (node_is p plan t code.of next own_next).1 ∙ at) in
        none-some location (sym free ∙ (ap (λ (z : Node). z.writes) same ∙ writes))

    abbrev stood_after : IsStood p code ws next CountsAfter
    stood_after = record {
      own = own_next;
      some = λ none. logged.holds (ap (λ (h : Held). held_names (keys_of p t) h) (sym set_stays) ∙ none);
      numbers = after;
      held = set_held t.kinds g.numbers local logged.assigns.kind told_number.number g.held kind_there (told_number.value logged.assigns.kind kind_there).held;
      live = live_after;
      refer = refer_after;
      unnull = unnull_after;
      locks = subst (HasKept p.log ws n) locks_stay g.locks;
      once = subst AreOnce locks_stay g.once;
      pending = λ is location at writes. absurd (none_written is location at writes);
      value = λ is location at writes. absurd (none_written is location at writes);
    }

    abbrev late_locals : List ℤ
    late_locals = locals next CountsAfter some stood_after

    abbrev late_locks : List ℕ
    late_locks = own_locks next CountsAfter some stood_after

    abbrev late_thread : GraphThread
    late_thread = graph_thread next CountsAfter some stood_after

    late_fits : AreLoggable p.log late_locks
    late_fits = are_loggable next CountsAfter some stood_after

    late_kept : HasKept p.log ws n late_locks
    late_kept = keeps_locks next CountsAfter some stood_after

    late_hold : AllZip Holds t.kinds late_locals
    late_hold = locals_hold next CountsAfter some stood_after

    stays_after : (other : ℕ) → CountsAfter other → slice_index_or after other (pos 0) ≡ slice_index_or late_locals other (pos 0)
    stays_after other counted = stays next CountsAfter some stood_after other counted

    number_there : slice_get late_locals local ≡ Some told_number.number
    number_there =
        let l = slice_get_within t.kinds local logged.assigns.kind kind_there in
        let long = as_long t.kinds late_locals late_hold in
        slice_get-get_or late_locals local (pos 0) (omega (arith, l, long))
        ∙ ap (λ (z : ℤ). Some z) (sym (stays_after local (inl refl)) ∙ own_number)

    ready : (kept : FlowState) → IsReady p t node (seen_by kept late_thread) (resumed_view p code ws) told_number.number (resumed_registers p.log ws n)
    ready kept = to_assign logged (record {
      at_side = on_side node the_core some g late_locks late_fits late_kept;
      count = as_long t.kinds late_locals late_hold;
      locals = λ other word k kind live home.
          let counted : CountsOn p t node the_core other = by_assignment other logged live in
          subst (λ (z : ℤ). IsFramed (frame_loads (resumed_view p code ws)) word (typed k z))
          (sym (other_number other live.other) ∙ stays_after other (inr counted))
          (subst (λ (h : Home). HomeCarries (frame_loads (resumed_view p code ws)) (resumed_registers p.log ws n) h
          (typed k (slice_index_or g.numbers other (pos 0)))) home (g.locals other k kind counted));
      assigned = record {
        word = told_number.word;
        home = told_number.home;
        address = told_number.address;
        below = subst (λ (w : ℕ). w < 2 ^ 64) told_number.address (register_small p.log n ws log pending_address (address_keepable p.log));
        carries = told_number.value;
      };
    })

    said_late : IsSaid p code words
    said_late =
        said_by next CountsAfter some stood_after true (own_entry node the_core some g late_locks) (is_record node the_core some g late_locks late_fits)
        (is_recorded node the_core some g late_locks late_fits late_kept)
        (λ kept there holding. record {
          holds = holding;
          graph_thread = late_thread;
          there = there;
          goes_on = refl;
          own = own_next;
          point = some;
          locks = refl;
          node = node;
          own_node = g.own;
          logged = logged;
          goes = refl;
          owed = told_number.number;
          number = number_there;
          chosen = (at_core p code node _ g.resumes).0;
          resumes = (at_core p code node _ g.resumes).1;
          live = refl;
          framed = (listed node the_core some g).1;
          view = resumed_view p code ws;
          frame = λ word c. refl;
          ready = ready kept;
        })

  -- a store of an element is no logged assignment
  element_unlogged : (node : ℕ) (own : IsNodeOf t node) (is : Node) (location : Location) → NodeAt p.graph node is → is.writes ≡ Some location →
      ¬ (IsLogged p t node)
  element_unlogged node own is location at writes logged =
      let it = logged.assigns in
      let same : is ≡ it.is = same_Some is it.is (sym at ∙ it.at) in
      let lowered_at : NodeAt (lowered x) node it.is = subst (λ (g : Graph). NodeAt g node it.is) plan.lowered it.at in
      let shaped =
      subst (λ (z : Action). ShapedAs (threads_nodes x x.threads 0) it.is z) it.action (node_shaped x node it.is (nodes_at x node it.is lowered_at)) in
      none-some location (sym shaped.1.writes ∙ (ap (λ (z : Node). z.writes) (sym same) ∙ writes))

  said_at : (node : ℕ) (place : NodePlace) → durable_point p.log ws n ≢ 0 → GoesOnAt p code ws node place → IsSaid p code words
  said_at node the_entry some g = said_on_time node the_entry some g (inr refl)
  said_at node the_core some g = by (chosen_write p plan code node g.own (at_core p code node _ g.resumes).0)
    where
      by : IsWrite p plan code node → IsSaid p code words
      by (of_element is location at writes) = said_on_time node the_core some g (inl (element_unlogged node g.own is location at writes))
      by (of_assignment logged) = said_late node some g logged

  pub said : HasThreadShape p code ws → IsSaid p code words
  said (idle none) = said_between none
  said (resumes node place some g) = said_at node place some g
