-- A plan's code, linked, is what its flat form is translated to.
use Rattle.std.proofs.Common.{◌≡◌, ◌⊎◌, inl, inr, ⊎_elim, refl, ℕ, zero, suc, ◌+◌, ◌-◌, ◌<◌, ◌≤◌, List, [], ◌∷◌, length, map, sym, subst, ◌∙◌, arith, true}
use Rattle.std.proofs.Common.{false}
use Rattle.std.specs.Prelude.{nat_lt, sum_by, All, Vec}
use Rattle.std.specs.List.{AllByRecursion}
use Rattle.std.specs.Global.{Global}
use Rattle.std.proofs.lemmas.List.{length-map}
use Rattle.std.proofs.lemmas.List.Elements.{All-head, All-tail, recursion_from_All}
use Rattle.std.proofs.lemmas.Option.{get_or_from_slice_get, none-some, same_Some, slice_get_within}
use Rattle.log_schemes.specs.declared.log.Log.{Log}
use Rattle.log_schemes.specs.declared.keeping.Keeping.{Keeping}
use Rattle.log_schemes.specs.declared.keeping.Keeping.TheVariants.{Masked, Listed}
use Rattle.ido_base.specs.declared.limits.TheConstants.{MOST_THREADS, MOST_CODE_WORDS}
use Rattle.c_tree.specs.declared.language.Language.TheVariants.{Full}
use Rattle.c_tree.specs.declared.language.TheConstants.{MOST_HELD}
use Rattle.c_tree.specs.Exprs.{LockName}
use Rattle.c_tree.specs.Flats as f
use Rattle.c_tree.specs.Flats.{Flat, flat_of}
use Rattle.c_tree.specs.LockDiscipline.{key_locals, lock_fault}
use Rattle.c_tree.specs.LockNames.{Held, count_held, held_names, holds, lock_names}
use Rattle.c_tree.specs.Values.{lock_number}
use Rattle.machine_model.specs.declared.object.Code.{Code}
use Rattle.rv64_isa.specs.declared.object.CodeItem.{CodeItem}
use Rattle.machine_model.specs.declared.object.Object.{Object}
use Rattle.rv64_isa.specs.declared.object.Marks.{Marks}
use Rattle.rv64_isa.specs.Programs.{code_base}
use Rattle.machine_model.specs.Objects.{program_of}
use Rattle.machine_model.specs.Executables.{resume_marks}
use Rattle.rv64_link.specs.LabelledCode.{most_words_of}
use Rattle.rv64_link.specs.LinkedCode.{AreLinked}
use Rattle.rv64_link.specs.links.Threads.{items_in}
use Rattle.c_tree.specs.WellFormed.{ArePlain, initial_numbers, shape_of}
use Rattle.memory_layout.specs.Variables.{AreInitial}
use Rattle.log_schemes.specs.Schemes.{HaveRoom, HasRoom, keeping_of, locals_of}
use Rattle.log_schemes.specs.declared.locals.Locals.{Locals}
use Rattle.log_schemes.specs.declared.locals.Locals.TheVariants.{Registers, Frame}
use Rattle.lock_discipline.specs.Discipline.{WalkIsDiscipline}
use Rattle.lock_discipline.specs.HeldSetsByStep.{AreAllSetsOf, AreSetsOf, HeldBefore, HoldsFew}
use Rattle.lock_discipline.specs.NamedForms.{HasNames}
use Rattle.flow_graph.specs.declared.cuts.Cuts.{Cuts}
use Rattle.flow_graph.specs.Liveness.{AreAssignedFirst, IsLive}
use Rattle.flow_graph.specs.Lowering.{lowered}
use Rattle.flow_graph.specs.Nodes.{Graph, graph_of}
use Rattle.flow_graph.specs.Colours.{colouring_of}
use Rattle.flow_graph.specs.IdempotentCuts.{AreCuts, boundaries_of, AreAtWrites}
use Rattle.region_cutter.specs.EachWrite.{AreAtEachWrite, AreSetsOfThreads, AssignsLocked, gives, writes, assigns}
use Rattle.region_cutter.specs.LocksAtBoundaries.{IsHeldAt}
use Rattle.region_cutter.proofs.Public.{assigned_stands, sets_of_threads}
use Rattle.flow_graph.proofs.Public.{all_at, found_in}
use Rattle.flat_analysis.specs.declared.analyses.Analysis.{Analysis}
use Rattle.flat_analysis.specs.Analyses.{IsAnalysis}
use Rattle.flat_analysis.specs.CompilableForms.{IsAcceptedForm}
use Rattle.flat_analysis.proofs.Public.{held_keys_are_live}
use Rattle.thread_code.specs.Plans.{Plan, AreAtRecords, IsLoggedAt, IsPlan, Thread, IsThread, IsNodeOf, held_names_before, home_of_colour, names_in, set_before}
use Rattle.thread_code.specs.Plans.{language_kept, language_of}
use Rattle.thread_code.proofs.Public.{names_are, nothing_held}
use Rattle.lock_discipline.proofs.Public.{held_length}
use Rattle.flat_compile.proofs.HeldNumbers.{count_none}
use Rattle.rv64_codegen.specs.StoreCleans.{AllCleanAtOnce}
use Rattle.rv64_codegen.specs.ThreadPieces.{IsCode}
use Rattle.std.proofs.Common.{ap, None, Some}
use Rattle.std.specs.Prelude.{Contains, slice_get, slice_index_or, ℤ}
use Rattle.std.proofs.lemmas.Bool.{true≢false}
use Rattle.ido_base.specs.declared.limits.TheConstants.{MOST_CODE_WORDS, MOST_THREADS}
use Rattle.rv64_isa.specs.declared.object.ThreadMarks.{ThreadMarks}
use Rattle.code_runs.specs.CodeTraces.{Program}
use Rattle.recovered_threads.specs.RecordDescriptions.{Codes}
use Rattle.crash_simulation.specs.Systems.{System, IsSystem}
use Rattle.flat_compile.specs.declared.resumes.Resume.{Resume}
use Rattle.flat_compile.specs.ResumePlaces.{AreMarksOf, AreMarked, AreSpaced, IsResumeTable}
use Rattle.flat_compile.specs.TranslatedForms.{IsTranslatedAs, IsResumableAs}
use Rattle.region_cutter.specs.BoundaryPlaces.{AreBoundariesFor}
use Rattle.flat_compile.proofs.LinkedThreads.{AllFew, marked_count}
use Rattle.flat_compile.proofs.Limits.{count, within_limits}
use Rattle.flat_compile.proofs.MasksOfSets.{of_mask}
use Rattle.flat_compile.proofs.Systems.{LinkedCode, codes_spaced, system, system_is}

-- ---- What was found out of a flat form, and the cuts of its graph

-- no more names are held than the set holds
count_most : (names : List LockName) (held : Held) → length (held_names names held) ≤ count_held held
count_most [] held = omega arith
count_most (x ∷ names) [] = omega arith
count_most (x ∷ names) (true ∷ held) = let more = count_most names held in omega (arith, more)
count_most (x ∷ names) (false ∷ held) = count_most names held

few_numbers : (locals : List ℤ) (names : List LockName) (held : Held) → length (map (lock_number locals) (held_names names held)) ≤ count_held held
few_numbers locals names held = omega (arith, length-map (held_names names held) (lock_number locals), count_most names held)

-- what stands there, or the other
found_or : {X : Type 0} (xs : List X) (k : ℕ) (other : X) → (slice_get xs k ≡ Some (slice_index_or xs k other)) ⊎ (slice_index_or xs k other ≡ other)
found_or [] k other = inr refl
found_or (x ∷ xs) zero other = inl refl
found_or (x ∷ xs) (suc k) other = found_or xs k other

not_above : (n m : ℕ) → nat_lt n m ≡ false → m ≤ n
not_above n m h = grind arith

-- no set of a form that keeps the rules of the full language holds more than may be held
module _ (law : WalkIsDiscipline) (x : Flat) (named : HasNames x) (faultless : lock_fault Full x ≡ None) (sets : List (List Held))
    (all : AreAllSetsOf x sets) where
  few_in : (thread : ℕ) (row : List Held) → slice_get sets thread ≡ Some row → (step : ℕ) (set : Held) → slice_get row step ≡ Some set →
      count_held set ≤ MOST_HELD
  few_in thread row at step set there =
      let low : thread < length x.threads = (let within = slice_get_within sets thread row at in omega (arith, within, all.each_thread)) in
      let text = found_in x.threads thread low in
      let of : AreSetsOf x text.0 row = all.sets thread text.0 row text.1 at in
      let few : AllByRecursion (HoldsFew Full x) x.threads =
      recursion_from_All (HoldsFew Full x) x.threads ((law Full x).1 named faultless).1 in
      not_above MOST_HELD (count_held set) (all_at (HoldsFew Full x) x.threads thread text.0 few text.1 step set ((of.exactly step set).0 there))

  few_of : (thread step : ℕ) → count_held (slice_index_or (slice_index_or sets thread []) step []) ≤ MOST_HELD
  few_of thread step =
      let row : List Held = slice_index_or sets thread [] in
      let set : Held = slice_index_or row step [] in
      ⊎_elim
      (λ there. ⊎_elim
      (λ at. few_in thread row at step set there)
      (λ none. absurd (none-some set (ap (λ (r : List Held). slice_get r step) (sym none) ∙ there)))
      (found_or sets thread []))
      (λ none. subst (λ (h : Held). count_held h ≤ MOST_HELD) (sym none) (omega arith))
      (found_or row step [])

-- a bank has room for each set
room_as : WalkIsDiscipline → (k : Keeping) (x : Flat) → IsAcceptedForm (language_kept k) x → (sets : List (List Held)) → AreAllSetsOf x sets →
    (locals : List ℤ) (thread step : ℕ) →
    HasRoom k (map (lock_number locals) (held_names (slice_index_or (map (λ (t : f.Thread). lock_names x t) x.threads) thread [])
    (slice_index_or (slice_index_or sets thread []) step [])))
room_as law Masked x accepted sets all locals thread step =
    let plain : ArePlain x.mutexes = accepted.plain refl in
    of_mask x plain.single (omega (arith, plain.few)) sets all locals thread step
room_as law Listed x accepted sets all locals thread step =
    let set : Held = slice_index_or (slice_index_or sets thread []) step [] in
    let names : List LockName = slice_index_or (map (λ (t : f.Thread). lock_names x t) x.threads) thread [] in
    let most : count_held set ≤ MOST_HELD = few_of law x accepted.named accepted.disciplined sets all thread step in
    omega (arith, most, few_numbers locals names set)

room_for : WalkIsDiscipline → (log : Log) (x : Flat) → IsAcceptedForm (language_of log) x → (sets : List (List Held)) → AreAllSetsOf x sets →
    (locals : List ℤ) (thread step : ℕ) →
    HaveRoom log (map (lock_number locals) (held_names (slice_index_or (map (λ (t : f.Thread). lock_names x t) x.threads) thread [])
    (slice_index_or (slice_index_or sets thread []) step [])))
room_for law log x accepted sets all locals thread step = room_as law (keeping_of log) x accepted sets all locals thread step

-- ---- Held keys

set_found : (sets : List Held) (step name : ℕ) → holds (slice_index_or sets step []) name ≡ true → slice_get sets step ≡ Some (slice_index_or sets step [])
set_found [] step name e = absurd (true≢false (sym e))
set_found (h ∷ sets) zero name e = refl
set_found (h ∷ sets) (suc step) name e = set_found sets step name e

row_found : (table : List (List Held)) (thread step name : ℕ) → holds (slice_index_or (slice_index_or table thread []) step []) name ≡ true →
    slice_get table thread ≡ Some (slice_index_or table thread [])
row_found [] thread step name e = absurd (true≢false (sym e))
row_found (row ∷ table) zero step name e = refl
row_found (row ∷ table) (suc thread) step name e = row_found table thread step name e

abbrev pub plan_at : Log → Analysis → Cuts → Plan
plan_at log a cuts = record {
  log = log;
  flat = flat_of a.flat.now;
  graph = graph_of a.graph;
  boundaries = boundaries_of cuts;
  held = a.held;
  live = a.live;
  colours = colouring_of a.colours;
}

-- where a name is held the locals of its key are live
keys_live : (log : Log) (a : Analysis) (cuts : Cuts) → IsAnalysis (language_of log) a → (t : Thread) (of : IsThread (plan_at log a cuts) t) (node : ℕ) →
    IsNodeOf t node →
    (name local : ℕ) (x : LockName) → slice_get (names_in (plan_at log a cuts) t) name ≡ Some x →
    holds (set_before (plan_at log a cuts) t node) name ≡ true → Contains (key_locals x) local → IsLive (graph_of a.graph) local node
keys_live log a cuts is t of node own name local x there held reads =
    let flat : Flat = flat_of a.flat.now in
    let step : ℕ = node - t.part.first in
    let row : List Held = slice_index_or a.held t.number [] in
    let set : Held = slice_index_or row step [] in
    let sets : AreSetsOf flat of.text row = is.held.sets t.number of.text row of.of_text (row_found a.held t.number step name held) in
    let before : HeldBefore flat of.text step set = (sets.exactly step set).0 (set_found row step name held) in
    let part : slice_get (lowered flat).threads t.number ≡ Some t.part =
    subst (λ (g : Graph). slice_get g.threads t.number ≡ Some t.part) is.lowered of.nodes in
    let live : IsLive (lowered flat) local (t.part.first + step) =
    held_keys_are_live flat t.number of.text t.part step name local set x sets.disciplined of.of_text part before
    (ap (λ (ns : List LockName). slice_get ns name) (sym (names_are (plan_at log a cuts) t of)) ∙ there) held reads in
    let at : t.part.first + step ≡ node = (let from = own.from_first in omega (arith, from)) in
    subst (λ (g : Graph). IsLive g local node) (sym is.lowered) (subst (λ (m : ℕ). IsLive (lowered flat) local m) at live)

-- ---- Where boundaries stand

-- the sets that are held are those of the graph's threads
pub sets_of : (log : Log) (a : Analysis) → IsAnalysis (language_of log) a → AreSetsOfThreads (graph_of a.graph) a.held
sets_of log a is =
    subst (λ (g : Graph). AreSetsOfThreads g a.held) (sym is.lowered)
    (sets_of_threads (language_of log) (flat_of a.flat.now) a.held is.accepted.formed is.accepted.priced is.held)

at_registers : (log : Log) (a : Analysis) (cuts : Cuts) → locals_of log ≡ Registers → AreAtWrites (graph_of a.graph) (boundaries_of cuts) →
    AreAtRecords (plan_at log a cuts)
at_registers log a cuts registers places = record {
  after = places.after;
  before = λ n has. elim (places.before n has) [ inl unlock ↦ inl unlock | inr w ↦ inr (inl w) ];
  stores = λ frame n w. absurd (never frame);
  assignments = λ n it. absurd (never it.logged.frame);
  before_count = places.before_count;
  after_count = places.after_count;
}
  where
    never : locals_of log ≡ Frame → ⊥
    never frame = let both : Registers ≡ Frame = sym registers ∙ frame in let no : ⊥ = cc in no

-- a node that assigns a local while a lock is held is a logged assignment of one of the plan's threads
logged_at : (log : Log) (a : Analysis) (cuts : Cuts) → IsAnalysis (language_of log) a → locals_of log ≡ Frame → (node : ℕ) →
    AssignsLocked (graph_of a.graph) a.held node → IsLoggedAt (plan_at log a cuts) node
logged_at log a cuts is frame node w = record {
  thread = thread;
  of = of;
  own = record {
    from_first = omega (arith, held.is);
    below_end =
        let has = (sets_of log a is).sets w.before.thread held.part held.own in
        let row : has.sets ≡ held.sets = same_Some has.sets held.sets (sym has.row ∙ held.row) in
        let below = slice_get_within held.sets w.before.step w.before.held held.before in
        omega (arith, held.is, has.each, ap (λ (s : List Held). length s) row, below);
  };
  logged = record {
    local = w.local;
    assigns = record { is = w.is; at = w.at; place = w.place; kind = w.kind; assigned = w.value; next = w.next; action = w.assigns };
    frame = frame;
    holds = λ none. w.locked (count_none 0 w.before.held (nothing_held 0 names w.before.held long (sym named ∙ none)));
  };
}
  where
    p : Plan
    p = plan_at log a cuts

    held : IsHeldAt (graph_of a.graph) a.held w.before.thread w.before.step node w.before.held
    held = w.before.at

    text : (text : f.Thread) × (slice_get (flat_of a.flat.now).threads w.before.thread ≡ Some text)
    text =
        let low = slice_get_within a.held w.before.thread held.sets held.row in
        found_in (flat_of a.flat.now).threads w.before.thread (omega (arith, low, is.held.each_thread))

    colours : (own : List ℕ) × (slice_get (colouring_of a.colours) w.before.thread ≡ Some own)
    colours =
        let low = slice_get_within (graph_of a.graph).threads w.before.thread held.part held.own in
        found_in (colouring_of a.colours) w.before.thread (omega (arith, low, is.registers.threads))

    thread : Thread
    thread = record {
      number = w.before.thread;
      part = held.part;
      kinds = text.0.locals;
      locals = map (home_of_colour log w.before.thread) colours.0;
    }

    of : IsThread (plan_at log a cuts) thread
    of = record {
      nodes = held.own;
      text = text.0;
      of_text = text.1;
      kinds = refl;
      colours = colours.0;
      of_colours = colours.1;
      locals = refl;
    }

    names : List LockName
    names = names_in (plan_at log a cuts) thread

    long : length w.before.held ≡ length names
    long =
        let sets = is.held.sets w.before.thread text.0 held.sets text.1 held.row in
        held_length (flat_of a.flat.now) text.0 w.before.step w.before.held ((sets.exactly w.before.step w.before.held).0 held.before)
        ∙ ap (λ (ns : List LockName). length ns) (sym (names_are (plan_at log a cuts) thread of))

    named : held_names_before (plan_at log a cuts) thread node ≡ held_names names w.before.held
    named =
        let step : node - held.part.first ≡ w.before.step = omega (arith, held.is) in
        ap (λ (h : Held). held_names names h)
        (ap (λ (n : ℕ). slice_index_or (slice_index_or a.held w.before.thread []) n []) step
        ∙ ap (λ (s : List Held). slice_index_or s w.before.step []) (get_or_from_slice_get a.held w.before.thread held.sets [] held.row)
        ∙ get_or_from_slice_get held.sets w.before.step w.before.held [] held.before)

at_frames : (log : Log) (a : Analysis) (cuts : Cuts) → IsAnalysis (language_of log) a → locals_of log ≡ Frame →
    AreAtEachWrite (graph_of a.graph) a.held (boundaries_of cuts) → AreAtRecords (plan_at log a cuts)
at_frames log a cuts is frame all = record {
  after = λ n stands. (all.after n).0 stands;
  before = λ n has. elim ((all.before n).0 has) [
    | gives unlock ↦ inl unlock
    | writes w ↦ inr (inl w)
    | assigns w ↦ inr (inr (logged_at log a cuts is frame n w))
  ];
  stores = λ _ n w. (all.before n).1 (writes w);
  assignments = λ n it.
      let w = it.logged.assigns in
      assigned_stands (graph_of a.graph) a.held (boundaries_of cuts) (sets_of log a is) all it.thread.number n it.thread.part w.is w.place it.logged.local
      w.kind w.assigned w.next it.of.nodes it.own.from_first it.own.below_end w.at w.action (names_in (plan_at log a cuts) it.thread) it.logged.holds;
  before_count = all.before_count;
  after_count = all.after_count;
}

records_as : (l : Locals) (log : Log) (a : Analysis) (cuts : Cuts) → locals_of log ≡ l → IsAnalysis (language_of log) a →
    AreBoundariesFor l (graph_of a.graph) a.held (boundaries_of cuts) → (locals_of log ≡ Registers → AreAtWrites (graph_of a.graph) (boundaries_of cuts)) →
    AreAtRecords (plan_at log a cuts)
records_as Registers log a cuts locals is placed places = at_registers log a cuts locals (places locals)
records_as Frame log a cuts locals is placed places = at_frames log a cuts is locals placed

pub at_records : (log : Log) (a : Analysis) (cuts : Cuts) → IsAnalysis (language_of log) a →
    AreBoundariesFor (locals_of log) (graph_of a.graph) a.held (boundaries_of cuts) →
    (locals_of log ≡ Registers → AreAtWrites (graph_of a.graph) (boundaries_of cuts)) → AreAtRecords (plan_at log a cuts)
at_records log a cuts is placed places = records_as (locals_of log) log a cuts refl is placed places

pub plan_is : WalkIsDiscipline → (log : Log) (a : Analysis) (cuts : Cuts) → IsAnalysis (language_of log) a →
    (locals_of log ≡ Frame → AreAssignedFirst (graph_of a.graph)) → AreCuts (graph_of a.graph) (boundaries_of cuts) → AreAtRecords (plan_at log a cuts) →
    IsPlan (plan_at log a cuts)
plan_is law log a cuts is first chosen places = record {
  formed = is.accepted.formed;
  lowered = is.lowered;
  cuts = chosen;
  at_writes = places;
  held = is.held;
  live = is.live;
  assigned_first = first;
  keys_live = keys_live log a cuts is;
  registers = is.registers;
  apart = is.apart;
  plain = λ masks. is.accepted.plain (ap language_kept masks);
  priced = is.accepted.priced;
  room = λ t locals node. room_for law log (flat_of a.flat.now) is.accepted a.held is.held locals t.number (node - t.part.first);
}

-- ---- Its code

-- what is emitted for a plan, before it is linked: the code of all its threads, and what the variables begin with
pub record IsCodeFor (p : Plan) (code : Code) : Type 0 where
  pub is : IsCode p (map items_in code.threads.items)
  pub cleans : AllCleanAtOnce p (map items_in code.threads.items)
  pub few_threads : length code.threads.items ≤ MOST_THREADS
  pub few : All (λ (items : Vec CodeItem Global). sum_by most_words_of items.items ≤ MOST_CODE_WORDS) code.threads.items
  pub initial : AreInitial (map shape_of p.flat.variables) (map initial_numbers p.flat.variables) code.initial.items
  pub mutexes : code.mutexes ≡ length p.flat.mutexes
  pub log : code.log ≡ p.log

abbrev IsFew : Vec CodeItem Global → Type 0
IsFew items = sum_by most_words_of items.items ≤ MOST_CODE_WORDS

few_at : (threads : List (Vec CodeItem Global)) → All IsFew threads → AllFew (map items_in threads)
few_at [] few n items there = absurd (none-some items there)
few_at (first ∷ threads) few zero items there =
    subst (λ (is : List CodeItem). sum_by most_words_of is ≤ MOST_CODE_WORDS) (same_Some first.items items there) (All-head IsFew first threads few)
few_at (first ∷ threads) few (suc n) items there = few_at threads (All-tail IsFew first threads few) n items there

-- a plan whose boundaries are those cuts, and an object that what is emitted for it is linked to
pub record LinkedPlan (p : Plan) (object : Object) (marks : Marks) (cuts : Cuts) : Type 0 where
  pub plan : IsPlan p
  pub at : p.boundaries ≡ boundaries_of cuts
  pub placed : AreBoundariesFor (locals_of p.log) p.graph p.held (boundaries_of cuts)
  pub code : Code
  pub is : IsCodeFor p code
  pub linked : AreLinked code_base (map items_in code.threads.items) (program_of object) marks.threads.items
  pub initial : object.initial ≡ code.initial
  pub mutexes : object.mutexes ≡ code.mutexes
  pub log : object.log ≡ code.log

marks_of : (y : System) (s : IsSystem y) → length y.runs.resumes ≡ length y.plan.graph.threads → AreSpaced y.plan s.codes →
    AreMarksOf y.plan s.codes y.runs.resumes
marks_of y s long spaced = record {
  count = long;
  each = λ n below.
      ap (λ (x : Program). x.resumes) (s.own n below).program ∙ ap (λ (m : ℕ). slice_index_or y.runs.resumes m []) (s.codes.number n below);
  spaced = spaced;
}

module _ {p : Plan} {object : Object} {marks : Marks} {cuts : Cuts} (l : LinkedPlan p object marks cuts) where
  open l use {plan, code, is, linked}

  abbrev threads : List (List CodeItem)
  threads = map items_in code.threads.items

  abbrev logs : p.log ≡ object.log
  logs = sym (l.log ∙ is.log)

  abbrev linked_code : LinkedCode p
  linked_code = record {
    threads = threads;
    object = object;
    marks = marks;
    coded = is.is;
    few = few_at code.threads.items is.few;
    few_threads = omega (arith, is.few_threads, length-map code.threads.items items_in);
    linked = linked;
    begins = subst (λ (bytes : Vec ℕ Global). AreInitial (map shape_of p.flat.variables) (map initial_numbers p.flat.variables) bytes.items)
        (sym l.initial) is.initial;
    mutexes = l.mutexes ∙ is.mutexes;
    logs = logs;
  }

  pub is_translated : IsTranslatedAs p.log p.flat object marks cuts
  is_translated = record {
    system = system plan linked_code;
    is = system_is plan linked_code;
    of_flat = refl;
    at_cuts = l.at;
    placed = subst (λ (g : Graph). AreBoundariesFor (locals_of p.log) g p.held (boundaries_of cuts)) plan.lowered l.placed;
    runs = refl;
    log = sym logs;
    items = threads;
    linked = linked;
    cleans = is.cleans;
    limits = within_limits plan linked_code;
    threads = marked_count code_base threads (program_of object) marks.threads.items linked ∙ sym (count plan linked_code);
  }

  -- ---- Where recovery may resume its threads

  resumes_long : length (resume_marks marks.threads.items) ≡ length p.graph.threads
  resumes_long =
      length-map marks.threads.items (λ (m : ThreadMarks). m.resumes.items)
      ∙ marked_count code_base threads (program_of object) marks.threads.items linked ∙ is.is.count

  pub marked : AreMarked p (resume_marks marks.threads.items)
  unfolding is_translated
  marked = record { codes = is_translated.is.codes; are = marks_of is_translated.system is_translated.is resumes_long (codes_spaced plan linked_code) }

  pub resumable : (table : List (Vec Resume Global)) →
      ((codes : Codes p) → AreMarksOf p codes (resume_marks marks.threads.items) → IsResumeTable p codes table) →
      IsResumableAs p.log p.flat object marks cuts table
  unfolding is_translated
  resumable table h = record {
    translated = is_translated;
    are = h is_translated.is.codes (marks_of is_translated.system is_translated.is resumes_long (codes_spaced plan linked_code));
  }
