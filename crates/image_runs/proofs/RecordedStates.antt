-- The state of the source that words with the shape describe.
use Rattle.std.proofs.Common.{◌≡◌, ◌⊎◌, refl, inl, inr, ℕ, zero, suc, ◌+◌, ◌<◌, ◌≤◌, List, [], ◌∷◌, length, map, ap, sym, ◌∙◌, subst, arith}
use Rattle.std.proofs.Common.{Option, Some, None, Bool, true, false, add-zero}
use Rattle.std.specs.Prelude.{slice_get, slice_index_or, ℤ, pos, ◌==◌, if◌then◌else◌}
use Rattle.std.specs.List.{AllByRecursion, AllZip}
use Rattle.std.proofs.Math.Bridge.{le_prop}
use Rattle.std.proofs.lemmas.Bool.{cases_Bool, cases_lt, cond-true, cond-false, eq-eqb, or_left, true≢false}
use Rattle.std.proofs.lemmas.List.{length-replicate}
use Rattle.std.proofs.lemmas.Option.{none-some, same_Some, slice_get_within}
use Rattle.log_schemes.specs.declared.log.Log.{Log}
use Rattle.machine_events.specs.declared.event.Event.TheVariants.{Crash}
use Rattle.ido_base.specs.declared.location.Shape.{Shape}
use Rattle.ido_base.specs.Layout.{byte_number, variable_at}
use Rattle.log_schemes.specs.Layout.{word_count}
use Rattle.ido_base.specs.Locks.{has_lock, holds_none}
use Rattle.ido_base.specs.Words.{Word, word_of, durable_value}
use Rattle.ido_ints.specs.declared.kinds.Kind.{Kind}
use Rattle.ido_ints.specs.Kinds.{Holds}
use Rattle.ido_ints.proofs.Public.{Holds-reduced}
use Rattle.c_tree.specs.Flats as f
use Rattle.c_tree.specs.Source as m
use Rattle.c_tree.specs.Programs.{Variable}
use Rattle.c_tree.specs.References.{variable_refers}
use Rattle.c_tree.specs.Source.{Pending}
use Rattle.c_tree.specs.LockNames.{held_names, lock_names}
use Rattle.c_tree.specs.Values.{element_number, lock_number}
use Rattle.c_tree.specs.WellFormed.{elements_in, shape_of}
use Rattle.c_ranges.specs.RunInvariants.{AreElementsReferring, AreNumbersOf, IsReferringThread, IsStateOf, IsThreadOf, RefersSo}
use Rattle.source_machine.specs.Mutexes.{held_by}
use Rattle.c_tree.specs.Exprs.{LockName}
use Rattle.source_machine.specs.ElementLocks.{element_lock}
use Rattle.source_machine.specs.Discipline.{HoldsNames, StateKeeps, ThreadKeeps}
use Rattle.source_machine.proofs.Public.{held_found, held_there}
use Rattle.rv64_isa.specs.declared.object.Slot.{Slot}
use Rattle.machine_model.specs.Machine.{Hart, World, after_crash_of, after_event, durable_point, fresh_hart, happens, phase_after_crash, record_of}
use Rattle.log_schemes.specs.Schemes.{numbers_from}
use Rattle.boundary_code.specs.Boundaries.{is_empty}
use Rattle.flow_graph.specs.Actions.{FlowState, GraphThread}
use Rattle.flow_graph.specs.Lockstep.{GraphThreadMatches, Matches, IsOwnNode}
use Rattle.flow_graph.specs.Lowering.{lowered, parts}
use Rattle.flow_graph.specs.Nodes.{Graph}
use Rattle.flow_graph.specs.declared.graph.Part.{Part}
use Rattle.flow_graph.proofs.Public.{lowered_threads}
use Rattle.flow_graph.specs.Paths.{naming_of}
use Rattle.region_attempts.specs.KnownReferences.{AreUnnull, KnownAreUnnull, known_at}
use Rattle.region_attempts.specs.Origins.{Origin, IsPendingAt}
use Rattle.variable_words.specs.Variables.{durable_variables, number_of_byte, variables_from}
use Rattle.log_states.specs.Logs.{Record, HasLog, IsRecord, IsRecorded, nothing_recorded}
use Rattle.log_states.specs.Machines.{config_of}
use Rattle.log_states.specs.Stages.{Over, is_committed}
use Rattle.log_states.proofs.Public.{ends_committed, nothing_is_record}
use Rattle.thread_code.specs.Plans.{locks_held}
use Rattle.thread_code.proofs.Public.{has_held}
use Rattle.recovered_threads.specs.RecordDescriptions.{AllDescribe, DescribesAs}
use Rattle.recovered_threads.specs.Machines.{RecoversTo}
use Rattle.recovered_threads.specs.RecoveryStates.{AreGathering, HasRecord}
use Rattle.recovered_threads.proofs.Public.{crashes_gather, none_where}
use Rattle.crash_simulation.specs.RecoveredWords.{IsRecoveredFrom}
use Rattle.crash_simulation.specs.Systems.{System, IsSystem, flat_of, thread_count}
use Rattle.crash_simulation.proofs.Public.{row_of}
use Rattle.image_runs.specs.Shapes.{HasShape}
use Rattle.image_runs.specs.Laws.{ShapesAreStates}
use Rattle.image_checks.proofs.Public.{found_name, name_below, named_there}
use Rattle.image_runs.proofs.ResumedThreads.{IsSaid, said}

-- ---- Rows

count_of : {A : Type 0} (g : ℕ → A) (at count : ℕ) → length (map g (numbers_from at count)) ≡ count
count_of g at zero = refl
count_of g at (suc count) = ap suc (count_of g (at + 1) count)

zip_row : {A B : Type 0} (R : A → B → Type 0) (xs : List A) (g : ℕ → B) (at : ℕ) → ((i : ℕ) (x : A) → slice_get xs i ≡ Some x → R x (g (at + i))) →
    AllZip R xs (map g (numbers_from at (length xs)))
zip_row R [] g at each = tt
zip_row {A} {B} R (x ∷ xs) g at each = (
  subst (λ (k : ℕ). R x (g k)) (add-zero at) (each 0 x refl),
  zip_row R xs g (at + 1) (λ i z e. let same : at + suc i ≡ at + 1 + i = omega arith in subst (λ (k : ℕ). R z (g k)) same (each (suc i) z e)),
)

length_parts : (ts : List f.Thread) (first : ℕ) → length (parts ts first) ≡ length ts
length_parts [] first = refl
length_parts (t ∷ ts) first = ap suc (length_parts ts _)

-- ---- Something for each number below another

module _ {A : Type 0} (none : A) (n count : ℕ) (each : n < count → A) where
  pick : (n < count) ⊎ (count ≤ n) → A
  pick (inl b) = each b
  pick (inr past) = none

  pick_is : (o : (n < count) ⊎ (count ≤ n)) (below : n < count) → pick o ≡ each below
  unfolding pick
  pick_is (inl b) below = ap each (le_prop b below)
  pick_is (inr past) below = absurd (let z : ⊥ = omega (arith, past, below) in z)

-- ---- Numbers of variables

numbers_held : (k : Kind) (place : ℕ → ℕ) (words : List Word) (from count : ℕ) →
    AllByRecursion (Holds k) (map (λ (e : ℕ). number_of_byte durable_value words k (place e)) (numbers_from from count))
numbers_held k place words from zero = tt
numbers_held k place words from (suc count) = (Holds-reduced k _, numbers_held k place words (from + 1) count)

variables_held : (words : List Word) (shapes : List Shape) (vs : List Variable) (number : ℕ) →
    AllZip AreNumbersOf vs (variables_from durable_value words shapes number vs)
variables_held words shapes [] number = tt
variables_held words shapes (v ∷ vs) number = (
  record {
    count = count_of _ 0 (elements_in v.length);
    held = numbers_held v.kind (λ (e : ℕ). byte_number (variable_at shapes number e)) words 0 (elements_in v.length);
  },
  variables_held words shapes vs (number + 1),
)

durable_held : (words : List Word) (vs : List Variable) → AllZip AreNumbersOf vs (durable_variables words vs)
unfolding durable_variables
durable_held words vs = variables_held words (map shape_of vs) vs 0

-- ---- References among them

-- what the elements of a variable refer to, where each of its numbers does
numbers_refer : (vs : List Variable) (refers : Option ℕ) (numbers : List ℤ) → ((i : ℕ) → RefersSo vs refers (slice_index_or numbers i (pos 0))) →
    AllByRecursion (RefersSo vs refers) numbers
numbers_refer vs refers [] each = tt
numbers_refer vs refers (z ∷ numbers) each = (each 0, numbers_refer vs refers numbers (λ i. each (suc i)))

refer_each : (all vs : List Variable) (numbers : List (List ℤ)) → length numbers ≡ length vs →
    ((variable i : ℕ) → RefersSo all (variable_refers vs variable) (slice_index_or (slice_index_or numbers variable []) i (pos 0))) →
    AllZip (AreElementsReferring all) vs numbers
refer_each all [] [] long each = tt
refer_each all [] (ns ∷ numbers) long each = absurd (let z : ⊥ = omega (arith, long) in z)
refer_each all (v ∷ vs) [] long each = absurd (let z : ⊥ = omega (arith, long) in z)
refer_each all (v ∷ vs) (ns ∷ numbers) long each =
    (numbers_refer all v.refers ns (each 0), refer_each all vs numbers (omega (arith, long)) (λ variable i. each (suc variable) i))

variables_long : (words : List Word) (shapes : List Shape) (vs : List Variable) (number : ℕ) →
    length (variables_from durable_value words shapes number vs) ≡ length vs
variables_long words shapes [] number = refl
variables_long words shapes (v ∷ vs) number = ap suc (variables_long words shapes vs (number + 1))

durable_long : (words : List Word) (vs : List Variable) → length (durable_variables words vs) ≡ length vs
unfolding durable_variables
durable_long words vs = variables_long words (map shape_of vs) vs 0

variables_refer : (words : List Word) (vs : List Variable) →
    ((variable i : ℕ) → RefersSo vs (variable_refers vs variable) (element_number (durable_variables words vs) variable i)) →
    AllZip (AreElementsReferring vs) vs (durable_variables words vs)
variables_refer words vs each = refer_each vs vs (durable_variables words vs) (durable_long words vs) each

-- ---- Who holds a lock, by records

module _ (has : ℕ → (lock : ℕ) → Bool) (total : ℕ)
    (apart : (g h lock : ℕ) → g < total → h < total → has g lock ≡ true → has h lock ≡ true → g ≡ h) where
  holder_among : (count lock : ℕ) → Option ℕ
  holder_among zero lock = None
  holder_among (suc n) lock = if has n lock then Some n else holder_among n lock

  holder_has : (count lock n : ℕ) → holder_among count lock ≡ Some n → (n < count) × (has n lock ≡ true)
  unfolding holder_among
  holder_has zero lock n e = absurd (none-some n e)
  holder_has (suc k) lock n e = elim (cases_Bool (has k lock)) [
    | inl own ↦
        let same : k ≡ n = same_Some k n (sym (cond-true (has k lock) (Some k) (holder_among k lock) own) ∙ e) in
        (subst (λ (i : ℕ). i < suc k) same (omega arith), subst (λ (i : ℕ). has i lock ≡ true) same own)
    | inr other ↦
        let below = holder_has k lock n (sym (cond-false (has k lock) (Some k) (holder_among k lock) other) ∙ e) in
        let l : n < k = below.0 in
        (omega (arith, l), below.1)
  ]

  holder_is : (count lock n : ℕ) → count ≤ total → n < count → has n lock ≡ true → holder_among count lock ≡ Some n
  unfolding holder_among
  holder_is zero lock n few below own = absurd (let z : ⊥ = omega (arith, below) in z)
  holder_is (suc k) lock n few below own = elim (cases_Bool (has k lock)) [
    | inl first ↦
        cond-true (has k lock) (Some k) (holder_among k lock) first
        ∙ ap (λ (i : ℕ). Some i) (apart k n lock (omega (arith, few)) (omega (arith, few, below)) first own)
    | inr other ↦
        let l : n < k = one_less k n below (λ same. true≢false (sym (ap (λ (i : ℕ). has i lock) (sym same) ∙ own) ∙ other)) in
        cond-false (has k lock) (Some k) (holder_among k lock) other ∙ holder_is k lock n (omega (arith, few)) l own
  ]
    where
      one_less : (k n : ℕ) → n < suc k → (n ≡ k → ⊥) → n < k
      one_less k n below other = grind arith

-- two lists of the same locks are both empty, or neither
same_emptiness : (xs ys : List ℕ) → ((lock : ℕ) → has_lock xs lock ≡ true → has_lock ys lock ≡ true) →
    ((lock : ℕ) → has_lock ys lock ≡ true → has_lock xs lock ≡ true) → is_empty xs ≡ is_empty ys
same_emptiness [] [] there back = refl
same_emptiness [] (y ∷ ys) there back = absurd (true≢false (sym (back y (or_left (y == y) (has_lock ys y) (eq-eqb y y refl)))))
same_emptiness (x ∷ xs) [] there back = absurd (true≢false (sym (there x (or_left (x == x) (has_lock xs x) (eq-eqb x x refl)))))
same_emptiness (x ∷ xs) (y ∷ ys) there back = refl

-- ---- The world that begins with the words

words_back : (words : List ℕ) → map durable_value (map word_of words) ≡ words
words_back [] = refl
words_back (w ∷ words) = ap (λ (ws : List ℕ). w ∷ ws) (words_back words)

module _ (log : Log) (program : List (List Slot)) (locks : ℕ) (words : List ℕ) where
  abbrev world : World
  world = after_crash_of log program locks words

  words_are : world.words ≡ map word_of words
  unfolding after_crash_of
  words_are = refl

  log_is : world.log ≡ log
  unfolding after_crash_of
  log_is = refl

  harts_count : length world.harts ≡ length program
  unfolding after_crash_of
  harts_count = count_of _ 0 (length program)

  abbrev first_hart : ℕ → Hart
  first_hart h = fresh_hart program (phase_after_crash (durable_point log (map word_of words) h)) h

  hart_there : (h : ℕ) → h < length program → slice_get world.harts h ≡ Some (first_hart h)
  unfolding after_crash_of
  hart_there h below =
      row_of first_hart 0 (length program) h below ∙ (let same : 0 + h ≡ h = omega arith in ap (λ (k : ℕ). Some (first_hart k)) same)

  again : after_event program world Crash ≡ world
  unfolding happens after_crash_of
  again =
      ap (λ (count : ℕ). after_crash_of log program count (map durable_value (map word_of words))) (length-replicate locks None)
      ∙ ap (after_crash_of log program locks) (words_back words)

  module _ (records : ℕ → Record) (logs : (h : ℕ) → h < length program → HasLog log h (map word_of words))
      (are : (h : ℕ) → h < length program → IsRecord log (records h) × IsRecorded log h (records h) (map word_of words)) where
    log_there : (h : ℕ) → h < length world.harts → HasRecord world h (records h)
    log_there h inside =
        let count = harts_count in
        let below : h < length program = omega (arith, inside, count) in
        record {
          hart = first_hart h;
          here = hart_there h below;
          log = record {
            follows = record {
              old_is = nothing_is_record world.log;
              new_is = subst (λ (l : Log). IsRecord l (records h)) (sym log_is) (are h below).0;
              apart = λ none some. absurd (none refl);
            };
            log = subst (λ (l : Log). HasLog l h world.words) (sym log_is) (subst (HasLog log h) (sym words_are) (logs h below));
            queue = tt;
            stage = Over refl (subst (λ (l : Log). IsRecorded l h (records h) world.words) (sym log_is)
                (subst (IsRecorded log h (records h)) (sym words_are) (are h below).1));
          };
        }

    gathers : AreGathering world records
    gathers =
        subst (λ (w : World). AreGathering w records) again
        (crashes_gather program world (λ h. nothing_recorded) records records (λ h. []) (sym harts_count) log_there
        (λ h below. sym (cond-true (is_committed world.log h (config_of world (log_there h below).hart [])) (records h) nothing_recorded
        (ends_committed world.log h nothing_recorded (records h) (config_of world (log_there h below).hart []) (log_there h below).log refl))))

-- ---- The state

module _ (y : System) (s : IsSystem y) (words : List ℕ) (shape : HasShape y.plan s.codes words) where
  abbrev x : f.Flat
  x = flat_of y

  abbrev ws : List Word
  ws = map word_of words

  abbrev count : ℕ
  count = thread_count y

  of : (n : ℕ) (below : n < count) → IsSaid y.plan (s.codes.each n below) words
  of n below = said y.plan s.plan (s.codes.each n below) words
      (subst (λ (k : ℕ). HasLog y.plan.log k ws) (sym (s.codes.number n below)) (shape.logs n below)) (shape.threads n below)

  -- ---- Threads

  graph_thread : (n : ℕ) → GraphThread
  graph_thread n =
      pick {A = GraphThread} (record { at = 0; locals = []; pending = None; ended = true }) n count (λ below. (of n below).graph_thread) (cases_lt n count)

  thread : (n : ℕ) → m.Thread
  thread n = pick {A = m.Thread} (record { left = []; locals = []; pending = None; ended = true }) n count (λ below. (of n below).thread) (cases_lt n count)

  entry : (n : ℕ) → Record
  entry n = pick nothing_recorded n count (λ below. (of n below).entry) (cases_lt n count)

  late : (n : ℕ) → Bool
  late n = pick false n count (λ below. (of n below).late) (cases_lt n count)

  graph_thread_is : (n : ℕ) (below : n < count) → graph_thread n ≡ (of n below).graph_thread
  unfolding graph_thread
  graph_thread_is n below = pick_is _ n count (λ b. (of n b).graph_thread) (cases_lt n count) below

  thread_is : (n : ℕ) (below : n < count) → thread n ≡ (of n below).thread
  unfolding thread
  thread_is n below = pick_is _ n count (λ b. (of n b).thread) (cases_lt n count) below

  entry_is : (n : ℕ) (below : n < count) → entry n ≡ (of n below).entry
  unfolding entry
  entry_is n below = pick_is _ n count (λ b. (of n b).entry) (cases_lt n count) below

  late_is : (n : ℕ) (below : n < count) → late n ≡ (of n below).late
  unfolding late
  late_is n below = pick_is _ n count (λ b. (of n b).late) (cases_lt n count) below

  -- ---- Holders

  abbrev has : ℕ → (lock : ℕ) → Bool
  has n lock = has_lock (record_of y.plan.log ws n) lock

  abbrev mutexes : ℕ
  mutexes = length x.mutexes

  holders : List (Option ℕ)
  holders = map (holder_among has count shape.apart count) (numbers_from 0 mutexes)

  holder_at : (lock : ℕ) → lock < mutexes → slice_get holders lock ≡ Some (holder_among has count shape.apart count lock)
  unfolding holders
  holder_at lock inside =
      row_of (holder_among has count shape.apart count) 0 mutexes lock inside
      ∙ (let e : 0 + lock ≡ lock = omega arith in ap (λ (k : ℕ). Some (holder_among has count shape.apart count k)) e)

  inside_of : (lock n : ℕ) → slice_get holders lock ≡ Some (Some n) → lock < mutexes
  unfolding holders
  inside_of lock n there =
      let l = slice_get_within holders lock (Some n) there in
      let c = count_of (holder_among has count shape.apart count) 0 mutexes in
      omega (arith, l, c)

  -- a thread holds what it has recorded
  holds_recorded : (lock n : ℕ) → slice_get holders lock ≡ Some (Some n) → (n < count) × (has n lock ≡ true)
  holds_recorded lock n there =
      holder_has has count shape.apart count lock n (same_Some _ (Some n) (sym (holder_at lock (inside_of lock n there)) ∙ there))

  recorded_held : (n lock : ℕ) → n < count → lock < mutexes → has n lock ≡ true → slice_get holders lock ≡ Some (Some n)
  recorded_held n lock below inside own =
      holder_at lock inside ∙ ap (λ (o : Option ℕ). Some o) (holder_is has count shape.apart count lock n (omega arith) below own)

  -- its locks, by its names
  abbrev own_names : (n : ℕ) → n < count → List LockName
  own_names n below = lock_names x (s.codes.each n below).of.text

  abbrev own_locks : (n : ℕ) (below : n < count) → List ℕ
  own_locks n below = map (lock_number (of n below).thread.locals) (held_names (own_names n below) (of n below).set)

  record_is : (n : ℕ) (below : n < count) → record_of y.plan.log ws n ≡ own_locks n below
  record_is n below = ap (record_of y.plan.log ws) (sym (s.codes.number n below)) ∙ (of n below).locks

  name_inside : (n : ℕ) (below : n < count) (k : ℕ) (z : LockName) → slice_get (own_names n below) k ≡ Some z →
      lock_number (of n below).thread.locals z < mutexes
  name_inside n below k z there =
      let code = s.codes.each n below in
      name_below y.plan s.plan code.thread code.of (of n below).thread.locals (of n below).held k z there

  holds_names : (n : ℕ) (below : n < count) → HoldsNames (own_names n below) (of n below).set (of n below).thread.locals holders n
  holds_names n below =
      let o = of n below in
      record {
        all = λ k z there held.
            recorded_held n (lock_number o.thread.locals z) below (name_inside n below k z there)
            (ap (λ (locks : List ℕ). has_lock locks (lock_number o.thread.locals z)) (record_is n below)
            ∙ named_there o.thread.locals (own_names n below) o.set k z there held);
        only = λ lock there.
            found_name o.thread.locals (own_names n below) o.set lock
            (sym (ap (λ (locks : List ℕ). has_lock locks lock) (record_is n below)) ∙ (holds_recorded lock n there).1);
        apart = o.apart;
      }

  -- it holds none where none is recorded
  none_held_is : (n : ℕ) (below : n < count) → holds_none holders n ≡ is_empty (own_locks n below)
  none_held_is n below =
      none_where n holders
      ∙ same_emptiness (locks_held (held_by n holders)) (own_locks n below)
      (λ lock e.
      ap (λ (locks : List ℕ). has_lock locks lock) (sym (record_is n below))
      ∙ (holds_recorded lock n (held_found n holders lock (sym (has_held (held_by n holders) lock) ∙ e))).1)
      (λ lock e.
      let own = found_name (of n below).thread.locals (own_names n below) (of n below).set lock e in
      has_held (held_by n holders) lock
      ∙ held_there n holders lock (ap (slice_get holders) (sym own.is) ∙ (holds_names n below).all own.number own.name own.there own.held))

  holders_below : (lock n : ℕ) → slice_get holders lock ≡ Some (Some n) → n < count
  holders_below lock n there = (holds_recorded lock n there).0

  -- ---- Both states

  abbrev kept : FlowState
  kept = record { variables = durable_variables ws x.variables; holders = holders; graph_threads = map graph_thread (numbers_from 0 count) }

  abbrev source : m.State
  source = record { variables = durable_variables ws x.variables; holders = holders; threads = map thread (numbers_from 0 count) }

  graph_thread_there : (n : ℕ) (below : n < count) → slice_get kept.graph_threads n ≡ Some (of n below).graph_thread
  graph_thread_there n below =
      row_of graph_thread 0 count n below
      ∙ ap (λ (g : GraphThread). Some g) ((let e : 0 + n ≡ n = omega arith in ap graph_thread e) ∙ graph_thread_is n below)

  thread_there : (n : ℕ) (below : n < count) → slice_get source.threads n ≡ Some (of n below).thread
  thread_there n below =
      row_of thread 0 count n below ∙ ap (λ (z : m.Thread). Some z) ((let e : 0 + n ≡ n = omega arith in ap thread e) ∙ thread_is n below)

  thread_inside : (n : ℕ) (z : m.Thread) → slice_get source.threads n ≡ Some z → n < count
  thread_inside n z there = let l = slice_get_within source.threads n z there in let c = count_of thread 0 count in omega (arith, l, c)

  matches : Matches x kept source
  matches = record {
    variables = refl;
    holders = refl;
    count = count_of graph_thread 0 count ∙ sym (count_of thread 0 count);
    each = λ n g z there here.
        let below = thread_inside n z here in
        let one : (of n below).graph_thread ≡ g = same_Some _ g (sym (graph_thread_there n below) ∙ there) in
        let two : (of n below).thread ≡ z = same_Some _ z (sym (thread_there n below) ∙ here) in
        subst (λ (u : GraphThread). GraphThreadMatches x u z) one
        (subst (λ (u : m.Thread). GraphThreadMatches x (of n below).graph_thread u) two (of n below).matches);
  }

  locks_count : length holders ≡ mutexes
  unfolding holders
  locks_count = count_of (holder_among has count shape.apart count) 0 mutexes

  keeps : StateKeeps x source
  keeps = record {
    locks = locks_count;
    each = λ n z here.
        let below = thread_inside n z here in
        let o = of n below in
        let code = s.codes.each n below in
        let same : o.thread ≡ z = same_Some _ z (sym (thread_there n below) ∙ here) in
        subst (λ (u : m.Thread). ThreadKeeps x n holders u) same (record {
          text = code.of.text;
          its = ap (slice_get x.threads) (sym (s.codes.number n below)) ∙ code.of.of_text;
          set = o.set;
          held = holds_names n below;
          left = o.left;
          pending = λ q e.
              subst (λ (k : ℕ). slice_get holders (element_lock x.variables q.variable q.element) ≡ Some (Some k)) (s.codes.number n below)
              (o.pending holders
              (subst (λ (k : ℕ). HoldsNames (own_names n below) o.set o.thread.locals holders k) (sym (s.codes.number n below)) (holds_names n below)) q e);
        });
  }

  text_is : (n : ℕ) (below : n < count) (text : f.Thread) → slice_get x.threads n ≡ Some text → (s.codes.each n below).of.text ≡ text
  text_is n below text its =
      let code = s.codes.each n below in
      same_Some code.of.text text (sym code.of.of_text ∙ (ap (slice_get x.threads) (s.codes.number n below) ∙ its))

  -- as many threads as the text has
  threads_count : count ≡ length x.threads
  threads_count =
      ap (λ (g : Graph). length g.threads) s.plan.lowered
      ∙ (ap (λ (ps : List Part). length ps) (lowered_threads x) ∙ length_parts x.threads 0)

  formed : IsStateOf x source
  formed = record {
    variables = durable_held ws x.variables;
    holders = locks_count;
    threads =
        subst (λ (k : ℕ). AllZip (λ (t : f.Thread) (z : m.Thread). IsThreadOf x t.locals z) x.threads (map thread (numbers_from 0 k))) (sym threads_count)
        (zip_row (λ (t : f.Thread) (z : m.Thread). IsThreadOf x t.locals z) x.threads thread 0 (λ i t there. (each i t there).0));
    references = record {
      variables = variables_refer ws x.variables shape.references;
      threads =
          subst (λ (k : ℕ). AllZip (IsReferringThread x) x.threads (map thread (numbers_from 0 k))) (sym threads_count)
          (zip_row (IsReferringThread x) x.threads thread 0 (λ i t there. (each i t there).1));
    };
  }
    where
      each : (i : ℕ) (t : f.Thread) → slice_get x.threads i ≡ Some t → IsThreadOf x t.locals (thread (0 + i)) × IsReferringThread x t (thread (0 + i))
      each i t there =
          let l = slice_get_within x.threads i t there in
          let c = threads_count in
          let below : i < count = omega (arith, l, c) in
          let code = s.codes.each i below in
          let text : code.of.text ≡ t = text_is i below t there in
          let same : (of i below).thread ≡ thread (0 + i) = sym (thread_is i below) ∙ (let e : i ≡ 0 + i = omega arith in ap thread e) in
          let o = of i below in
          subst (λ (z : m.Thread). IsThreadOf x t.locals z × IsReferringThread x t z) same
          (subst (λ (u : f.Thread). IsThreadOf x u.locals o.thread × IsReferringThread x u o.thread) text (o.formed, o.referring))

  pending_there : (n : ℕ) (text : f.Thread) (g : GraphThread) (store : Pending) → slice_get kept.graph_threads n ≡ Some g →
      slice_get x.threads n ≡ Some text → g.pending ≡ Some store → IsPendingAt x (naming_of x text g.locals) g.at store
  pending_there n text g store there its is =
      let l = slice_get_within kept.graph_threads n g there in
      let c = count_of graph_thread 0 count in
      let below : n < count = omega (arith, l, c) in
      let code = s.codes.each n below in
      let own : code.of.text ≡ text = text_is n below text its in
      let same : (of n below).graph_thread ≡ g = same_Some _ g (sym (graph_thread_there n below) ∙ there) in
      subst (λ (u : f.Thread). IsPendingAt x (naming_of x u g.locals) g.at store) own
      (subst (λ (z : GraphThread). z.pending ≡ Some store → IsPendingAt x (naming_of x code.of.text z.locals) z.at store) same
      ((of n below).stored store) is)

  known_there : KnownAreUnnull x kept
  known_there n text part g its of_part there =
      let l = slice_get_within kept.graph_threads n g there in
      let c = count_of graph_thread 0 count in
      let below : n < count = omega (arith, l, c) in
      let code = s.codes.each n below in
      let own : code.of.text ≡ text = text_is n below text its in
      let same : (of n below).graph_thread ≡ g = same_Some _ g (sym (graph_thread_there n below) ∙ there) in
      let nodes : slice_get (lowered x).threads n ≡ Some code.thread.part =
      ap (λ (graph : Graph). slice_get graph.threads n) (sym s.plan.lowered)
      ∙ (ap (slice_get y.plan.graph.threads) (sym (s.codes.number n below)) ∙ code.of.nodes) in
      let part_is : code.thread.part ≡ part = same_Some code.thread.part part (sym nodes ∙ of_part) in
      subst (λ (u : f.Thread). AreUnnull u.refers (known_at u part.first g.at) g.locals) own
      (subst (λ (q : Part). AreUnnull code.of.text.refers (known_at code.of.text q.first g.at) g.locals) part_is
      (subst (λ (z : GraphThread). AreUnnull code.of.text.refers (known_at code.of.text code.thread.part.first z.at) z.locals) same (of n below).unnull))

  own_there : (n : ℕ) (g : GraphThread) → slice_get kept.graph_threads n ≡ Some g → IsOwnNode x n g.at
  own_there n g there =
      let l = slice_get_within kept.graph_threads n g there in
      let c = count_of graph_thread 0 count in
      let below : n < count = omega (arith, l, c) in
      let same : (of n below).graph_thread ≡ g = same_Some _ g (sym (graph_thread_there n below) ∙ there) in
      subst (λ (z : GraphThread). IsOwnNode x n z.at) same
      (subst (λ (k : ℕ). IsOwnNode x k (of n below).graph_thread.at) (s.codes.number n below) (of n below).own)

  -- ---- Records

  describes : AllDescribe y.plan s.codes kept late entry
  describes n below =
      let o = of n below in
      let code = s.codes.each n below in
      let number = s.codes.number n below in
      subst (λ (l : Bool). DescribesAs y.plan code kept l (entry n)) (sym (late_is n below))
      (subst (λ (r : Record). DescribesAs y.plan code kept o.late r) (sym (entry_is n below))
      (o.describes kept (ap (slice_get kept.graph_threads) number ∙ graph_thread_there n below)
      (ap (holds_none holders) number ∙ none_held_is n below)))

  recovers : RecoversTo y.plan s.codes kept (after_crash_of y.runs.log y.runs.program y.runs.mutexes words)
  recovers = record {
    records = entry;
    gathering = gathers y.runs.log y.runs.program y.runs.mutexes words entry
        (λ h below. subst (λ (l : Log). HasLog l h ws) s.log (shape.logs h (let c = s.count in omega (arith, below, c))))
        (λ h inside.
        let c = s.count in
        let below : h < count = omega (arith, inside, c) in
        let o = of h below in
        subst (λ (l : Log). IsRecord l (entry h) × IsRecorded l h (entry h) ws) s.log
        (subst (λ (r : Record). IsRecord y.plan.log r × IsRecorded y.plan.log h r ws) (sym (entry_is h below))
        (o.is_record, subst (λ (k : ℕ). IsRecorded y.plan.log k o.entry ws) (s.codes.number h below) o.is_recorded)));
    lates = late;
    describe = describes;
  }

  pub origin : (o : Origin x) × IsRecoveredFrom y s o words
  origin = (
    record {
      flow = kept;
      source = source;
      matches = matches;
      keeps = keeps;
      formed = formed;
      own = own_there;
      holders = λ lock n there. (let b = holders_below lock n there in let c = count_of thread 0 count in omega (arith, b, c));
      pending = pending_there;
      known = known_there;
    },
    record { size = shape.size ∙ ap (λ (l : Log). word_count l (thread_count y)) s.log; recovers = recovers; variables = refl },
  )

pub shapes_are_states : ShapesAreStates
shapes_are_states y s words shape = origin y s words shape
