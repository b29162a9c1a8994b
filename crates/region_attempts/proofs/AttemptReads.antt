-- What an attempt reads is right.
use Rattle.std.proofs.Common.{◌≡◌, ◌≢◌, refl, ℕ, suc, ◌<◌, ◌≤◌, List, replicate, sym, ◌∙◌, ap, subst, arith, Option, Some, None, true, ⊎_elim}
use Rattle.std.proofs.lemmas.Bool.{cases_eq}
use Rattle.std.specs.Prelude.{slice_get, Contains, IsTrue}
use Rattle.ido_base.specs.declared.location.Location.{Location}
use Rattle.ido_base.specs.Locations.{same}
use Rattle.c_tree.specs.Flats as f
use Rattle.c_tree.specs.Source as m
use Rattle.c_tree.specs.Source.{Pending}
use Rattle.c_tree.specs.LockNames.{holds}
use Rattle.source_machine.specs.ElementLocks.{element_lock}
use Rattle.source_machine.specs.Discipline.{Guards}
use Rattle.source_machine.proofs.Public.{found_same, run_keeps}
use Rattle.flow_graph.specs.Nodes.{Node}
use Rattle.flow_graph.specs.Lowering.{lowered, threads_nodes}
use Rattle.flow_graph.specs.Liveness.{NodeAt}
use Rattle.flow_graph.specs.Actions.{GraphThread, FlowState, seen_by}
use Rattle.flow_graph.specs.Lockstep.{threads_standings}
use Rattle.flow_graph.specs.IdempotentCuts.{Boundaries, ReadsAt, WritesAt, AreCuts}
use Rattle.flow_graph.specs.Paths.{Element, reads_of, stored_element, Naming, naming_of, Lies, LiesInOne, LiesInWritten}
use Rattle.flow_graph.proofs.Public.{node_shaped, Good, good_after, nodes_at, reads_lie_at, writes_lie_at, common_overlaps, same_by_key}
use Rattle.recovery_semantics.specs.ElementHistories.{number_at}
use Rattle.recovery_semantics.specs.Attempts as attempts
use Rattle.recovery_semantics.specs.Attempts.{solo, Writes, store_ahead}
use Rattle.c_tree.specs.WellFormed.{IsWellFormed}
use Rattle.recovery_semantics.specs.Configs.{Config, Invariant, now, attempt_of}
use Rattle.recovery_semantics.specs.Laws.{IsKeptBy}
use Rattle.recovery_semantics.specs.Events.{IsGoing}
use Rattle.recovery_semantics.proofs.Public.{held_same, solo_holders, storing, number_unstored, last_step, alone as schedules_alone}
use Rattle.recovery_semantics.proofs.Public.{reads_are_right as resumed_reads_are_right}
use Rattle.region_attempts.specs.GraphStates.{flow_kept, flow_now, flow_solo, node_of}
use Rattle.region_attempts.specs.Origins.{Origin}
use Rattle.region_attempts.specs.AttemptsInRegion.{Resumes, StaysInside}
use Rattle.region_attempts.specs.Laws.{LiveIsRight, Reads, ReadsHere, ReadAfter, ReadsAreRight, ReadsStayRight, ReadsAreAsMade, ReadersGuard}
use Rattle.region_attempts.specs.Laws.{IsReadAt, ReadersGuardStill, RerunReadsNothingOverwritten, StoresFollowReads}
use Rattle.region_attempts.proofs.StepBisimulation.{IsThere, is_there, guarded_at}
use Rattle.region_attempts.proofs.GraphConfigs.{GraphConfig, graph_config}
use Rattle.region_attempts.proofs.GraphRuns.{inner_runs, matched_run, alone}
use Rattle.region_attempts.proofs.Nodes.{read_held, StoresHere, owing_at, owes_at, writing_stores, written_of, reads_nothing}
use Rattle.region_attempts.proofs.AttemptNaming.{keeps, lies_along, named_along, naming, naming_apart, read_keys_held, store_key_held}
use Rattle.region_attempts.proofs.Region.{listed, listed_at, number, made_there, number_is, there_at, is_number, one_node, written_before, inside_region}

-- ---- The location of a node

pub lies_in : (names : Naming) (ls : Option Location) (l : Location) (one : Element) → LiesInWritten names ls one → ls ≡ Some l → Lies names l one
lies_in names ls l one h is = let of = h.of in let same_location : h.location ≡ l = cc in subst (λ (z : Location). Lies names z one) same_location h.lies

-- ---- Where an attempt reads

module _ (x : f.Flat) (c : GraphConfig x) (t : ℕ) (one : Element) (r : ReadsHere x c.flow c.config t one) where
  there_now : IsThere x (now c.config) t r.graph_thread r.node
  there_now =
      is_there x c.formed t (flow_now x c.flow c.config) (now c.config) (matched_run x c.formed c.config.uncommitted c.flow c.config.kept c.matches)
      r.graph_thread r.node r.found r.at

  pub reader_guards : Guards x (now c.config) t one.variable one.element
  reader_guards =
      let keeps = run_keeps x c.config.kept c.config.uncommitted c.invariant.keeps in
      let guarded = guarded_at x (now c.config) t keeps r.graph_thread r.node there_now in
      let read = read_held x.variables guarded.names guarded.set (seen_by (flow_now x c.flow c.config) r.graph_thread) one r.node.action
      guarded.guarded r.reads in
      subst (λ (z : Element). Guards x (now c.config) t z.variable z.element) read.is (guarded.each read.used (flow_now x c.flow c.config).variables read.held)

  -- the thread has the mutex of what it reads in what is kept
  pub kept_guards : Guards x c.config.kept t one.variable one.element
  kept_guards =
      let tried = c.invariant.tried t in
      let guard = element_lock x.variables one.variable one.element in
      let n = (attempt_of c.config t).done in
      let there : slice_get (solo c.config.kept t n).holders guard ≡ Some (Some t) =
      held_same t (now c.config).holders (solo c.config.kept t n).holders guard (schedules_alone x c.config t c.invariant r.going).held reader_guards in
      ap (λ (hs : List (Option ℕ)). slice_get hs guard)
      (sym (solo_holders x t n (attempt_of c.config t).longest c.config.kept c.invariant.keeps tried.inner tried.within)) ∙ there

  -- the thread's graph thread is what its own steps alone leave
  pub graph_thread_alone : slice_get (flow_solo x c.flow t (attempt_of c.config t).done).graph_threads t ≡ Some r.graph_thread
  graph_thread_alone =
      ap (λ (k : ℕ). slice_get (flow_solo x c.flow t k).graph_threads t) (sym r.going)
      ∙ (sym (alone x c.formed c.flow c.config.kept c.matches c.invariant.keeps t c.config.uncommitted c.invariant.runs c.invariant.hands) ∙ r.found)

-- ---- Where it has read

module _ (x : f.Flat) (c : GraphConfig x) (t steps : ℕ) (one : Element) (r : Reads x c.flow t steps one) where
  abbrev guard : ℕ
  guard = element_lock x.variables one.variable one.element

  guards_there : Guards x (solo c.config.kept t steps) t one.variable one.element
  guards_there =
      let s = solo c.config.kept t steps in
      let keeps = run_keeps x c.config.kept (replicate steps t) c.invariant.keeps in
      let th = is_there x c.formed t (flow_solo x c.flow t steps) s (matched_run x c.formed (replicate steps t) c.flow c.config.kept c.matches) r.graph_thread
      r.node r.found r.at in
      let guarded = guarded_at x s t keeps r.graph_thread r.node th in
      let read =
      read_held x.variables guarded.names guarded.set (seen_by (flow_solo x c.flow t steps) r.graph_thread) one r.node.action guarded.guarded r.reads in
      subst (λ (z : Element). Guards x s t z.variable z.element) read.is (guarded.each read.used (flow_solo x c.flow t steps).variables read.held)

  holders_along : (k : ℕ) → k ≤ (attempt_of c.config t).longest → (solo c.config.kept t k).holders ≡ c.config.kept.holders
  holders_along k l =
      let tried = c.invariant.tried t in
      solo_holders x t k (attempt_of c.config t).longest c.config.kept c.invariant.keeps tried.inner l

  pub guards_kept : steps ≤ (attempt_of c.config t).longest → Guards x c.config.kept t one.variable one.element
  guards_kept within = ap (λ (hs : List (Option ℕ)). slice_get hs guard) (sym (holders_along steps within)) ∙ guards_there

  module _ (done_within : steps ≤ (attempt_of c.config t).done) (going : IsGoing c.config t) where
    within : (attempt_of c.config t).done ≤ (attempt_of c.config t).longest
    within = let tried = c.invariant.tried t in tried.within

    pub guards_now : Guards x (now c.config) t one.variable one.element
    guards_now =
        let n = (attempt_of c.config t).done in
        let there : slice_get (solo c.config.kept t n).holders guard ≡ Some (Some t) =
        ap (λ (hs : List (Option ℕ)). slice_get hs guard) (holders_along n within) ∙ guards_kept (omega (arith, done_within, within)) in
        held_same t (solo c.config.kept t n).holders (now c.config).holders guard (sym (schedules_alone x c.config t c.invariant going).held) there

    -- the thread has stored nothing at the node that reads, so the number is that of the state in which the step there is made
    pub as_made : (attempt_of c.config t).done ≤ suc steps →
        number_at (now c.config) one.variable one.element ≡ number_at (solo c.config.kept t steps) one.variable one.element
    as_made few =
        let n = (attempt_of c.config t).done in
        let same = (schedules_alone x c.config t c.invariant going).guarded one.variable one.element guards_now in
        let index : number_at (now c.config) one.variable one.element ≡ number_at (solo c.config.kept t n) one.variable one.element =
        found_same (solo c.config.kept t n).variables (now c.config).variables one.variable one.element same in
        ⊎_elim
        (λ e. index ∙ ap (λ (k : ℕ). number_at (solo c.config.kept t k) one.variable one.element) e)
        (λ d. index ∙ after (omega (arith, d, few, done_within)))
        (cases_eq n steps)
      where
        unstored : (th : IsThere x (solo c.config.kept t steps) t r.graph_thread r.node) (p : Pending) → store_ahead (solo c.config.kept t steps) t ≡ Some p → ⊥
        unstored th p is =
            let s = storing (solo c.config.kept t steps) t p is in
            let same_thread : s.thread ≡ th.thread = let g = s.there in let h = th.there in cc in
            let pending : th.thread.pending ≡ Some p = ap (λ (z : m.Thread). z.pending) (sym same_thread) ∙ s.pending in
            let stores = owing_at (threads_standings x.threads) r.node.action th.thread.left th.thread.pending p pending th.does in
            reads_nothing r.node.action (seen_by (flow_solo x c.flow t steps) r.graph_thread) one stores r.reads

        after : (attempt_of c.config t).done ≡ suc steps →
            number_at (solo c.config.kept t (attempt_of c.config t).done) one.variable one.element
            ≡ number_at (solo c.config.kept t steps) one.variable one.element
        after e =
            let tried = c.invariant.tried t in
            let s = solo c.config.kept t steps in
            let th = is_there x c.formed t (flow_solo x c.flow t steps) s (matched_run x c.formed (replicate steps t) c.flow c.config.kept c.matches)
            r.graph_thread r.node r.found r.at in
            let runs = inner_runs (suc steps) (attempt_of c.config t).longest c.config.kept t tried.inner (omega (arith, within, e)) in
            let last = last_step c.config.kept t steps runs in
            ap (λ (k : ℕ). number_at (solo c.config.kept t k) one.variable one.element) e
            ∙ (ap (λ (z : m.State). number_at z one.variable one.element) last.after
            ∙ number_unstored s last.next t one.variable one.element last.is (λ p is. absurd (unstored th p is)))

-- ---- What an attempt writes

abbrev ahead_by : Option m.Thread → Option Pending
ahead_by o = elim o [
  | Some found ↦ found.pending
  | None ↦ None
]

stores_ahead : (s : m.State) (t : ℕ) (thread : m.Thread) (p : Pending) → slice_get s.threads t ≡ Some thread → thread.pending ≡ Some p →
    store_ahead s t ≡ Some p
stores_ahead s t thread p g h = ap ahead_by g ∙ h

module _ (x : f.Flat) (c : GraphConfig x) (t : ℕ) (text : f.Thread) (its : slice_get x.threads t ≡ Some text) where
  pub good_there : (k : ℕ) → Good x (flow_solo x c.flow t k)
  good_there k = good_after x (replicate k t) c.formed c.flow c.good

  abbrev pub node_there : (k : ℕ) → k < (attempt_of c.config t).longest → Node
  node_there k l = (made_there x c t k l).node

  -- what the thread's keys name there
  abbrev pub naming_there : (k : ℕ) → k < (attempt_of c.config t).longest → Naming
  naming_there k l = naming_of x text (made_there x c t k l).graph_thread.locals

  -- a step that stores an element is made at a node that writes it
  pub record StoresThere (k : ℕ) (l : k < (attempt_of c.config t).longest) (one : Element) : Type 0 where
    pub stores : StoresHere (node_there k l).action
    pub lies : LiesInWritten (naming_there k l) (node_there k l).writes one

  pub stores_there : (k : ℕ) (l : k < (attempt_of c.config t).longest) (one : Element) → attempts.WritesAt c.config.kept t k one.variable one.element →
      StoresThere k l one
  stores_there k l one wr =
      let st = made_there x c t k l in
      let th = there_at x c t k l in
      let s = storing (solo c.config.kept t k) t wr.store wr.is in
      let same_thread : s.thread ≡ th.thread = let g = s.there in let h = th.there in cc in
      let pending : th.thread.pending ≡ Some wr.store = ap (λ (z : m.Thread). z.pending) (sym same_thread) ∙ s.pending in
      let stores = owing_at (threads_standings x.threads) st.node.action th.thread.left th.thread.pending wr.store pending th.does in
      let seen = seen_by (flow_solo x c.flow t k) st.graph_thread in
      let written = written_of st.node.action seen wr.store stores (th.match.pending ∙ pending) in
      let is : stored_element wr.store ≡ one = λ j. record { variable = wr.variable_is j; element = wr.element_is j } in
      record {
        stores = stores;
        lies = writes_lie_at x c.formed (flow_solo x c.flow t k) (good_there k) t text its st.graph_thread st.node one st.found st.at (written ∙ ap Some is);
      }

  -- at a node that writes a location the step stores an element of it
  pub record Stored (k : ℕ) (l : k < (attempt_of c.config t).longest) (location : Location) : Type 0 where
    pub one : Element
    pub at : attempts.WritesAt c.config.kept t k one.variable one.element
    pub lies : Lies (naming_there k l) location one

  pub stored_there : (k : ℕ) (l : k < (attempt_of c.config t).longest) (location : Location) → (node_there k l).writes ≡ Some location → Stored k l location
  stored_there k l location h =
      let st = made_there x c t k l in
      let th = there_at x c t k l in
      let stores = writing_stores (threads_nodes x x.threads 0) st.node st.node.action location
      (node_shaped x st.graph_thread.at st.node (nodes_at x st.graph_thread.at st.node st.at)) h in
      let owed = owes_at (threads_standings x.threads) st.node.action th.thread.left th.thread.pending stores th.does in
      let seen = seen_by (flow_solo x c.flow t k) st.graph_thread in
      let written = written_of st.node.action seen owed.0 stores (th.match.pending ∙ owed.1) in
      let lies = writes_lie_at x c.formed (flow_solo x c.flow t k) (good_there k) t text its st.graph_thread st.node (stored_element owed.0) st.found st.at
      written in
      record {
        one = stored_element owed.0;
        at = record { store = owed.0; is = stores_ahead (solo c.config.kept t k) t th.thread owed.0 th.there owed.1; variable_is = refl; element_is = refl };
        lies = lies_in (naming_there k l) st.node.writes location (stored_element owed.0) lies h;
      }

-- ---- Reads are right

module _ (x : f.Flat) (b : Boundaries) (cuts : AreCuts (lowered x) b) (c : GraphConfig x) (t : ℕ) (stays : StaysInside x b c.flow c.config t)
    (one : Element) (p : ℕ) (r : IsReadAt x c.flow c.config.kept t p one) where
  abbrev done : ℕ
  done = (attempt_of c.config t).done

  -- where the read is made on the longest attempt
  module _ (below : p < (attempt_of c.config t).longest) where
    abbrev number_there : ℕ → ℕ
    number_there k = number x c t k

    -- ---- Where the attempts begin

    first : 0 < (attempt_of c.config t).longest
    first = omega (arith, below)

    abbrev thread : m.Thread
    thread = (there_at x c t 0 first).thread

    there : slice_get c.config.kept.threads t ≡ Some thread
    there = (there_at x c t 0 first).there

    abbrev text : f.Thread
    text = (keeps x c t thread there).text

    its : slice_get x.threads t ≡ Some text
    its = (keeps x c t thread there).its

    -- what the thread's keys name, along the attempts
    abbrev one_naming : Naming
    one_naming = naming x c t thread there

    abbrev node_of_step : (k : ℕ) → k < (attempt_of c.config t).longest → Node
    node_of_step k l = node_there x c t text its k l

    -- ---- What is read

    th : IsThere x (solo c.config.kept t p) t r.graph_thread r.node
    th = is_there x c.formed t (flow_solo x c.flow t p) (solo c.config.kept t p) (matched_run x c.formed (replicate p t) c.flow c.config.kept c.matches)
        r.graph_thread r.node r.found r.at

    read : LiesInOne (naming_of x text r.graph_thread.locals) r.node.reads one
    read = r.lies text its

    key_of_read : (key : ℕ) → read.location.key ≡ Some key → holds (keeps x c t thread there).set key ≡ true
    key_of_read = read_keys_held x c t thread there p (omega (arith, below)) r.graph_thread r.node th
        ((good_there x c t text its p).own t r.graph_thread r.found) r.at r.seen one r.reads read.location read.of

    read_lies : Lies one_naming read.location one
    read_lies = lies_along x c t thread there p (omega (arith, below)) r.graph_thread r.node th read.location one key_of_read read.lies

    at_read : (made_there x c t p below).graph_thread ≡ r.graph_thread
    at_read = let g = (made_there x c t p below).found in let h = r.found in cc

    node_read : NodeAt (lowered x) (number_there p) r.node
    node_read = ap (slice_get (lowered x).nodes) (number_is x c t p below ∙ ap (λ (z : GraphThread). z.at) at_read) ∙ r.at

    resumes_there : (node : ℕ) → node_of c.flow t ≡ Some node → Resumes (lowered x) b node
    resumes_there node h = stays.resumes (element_lock x.variables one.variable one.element) node r.kept_guards h

    at_node : (k : ℕ) (l : k < (attempt_of c.config t).longest) → NodeAt (lowered x) (number_there k) (node_of_step k l)
    at_node k l = ap (slice_get (lowered x).nodes) (number_is x c t k l) ∙ (made_there x c t k l).at

    -- a store isn't made where the element is read
    not_here : (k : ℕ) (l : k < (attempt_of c.config t).longest) → StoresHere (node_of_step k l).action → p ≢ k
    not_here k l stores is =
        let here : NodeAt (lowered x) (number_there k) r.node = subst (λ (n : ℕ). NodeAt (lowered x) (number_there n) r.node) is node_read in
        let one_there = one_node (lowered x) (number_there k) (node_of_step k l) r.node (at_node k l) here in
        reads_nothing r.node.action r.seen one (subst (λ (n : Node). StoresHere n.action) one_there stores) r.reads

    -- what was written before at a node that writes the very element
    written_there : (k q : ℕ) (written : Location) → p < k → q < p →
        WritesAt (lowered x) (listed number_there (suc k)) q written → IsTrue (same written read.location) →
        attempts.WritesAt c.config.kept t q one.variable one.element
    written_there k q written later low wr is =
        let low_q : q < (attempt_of c.config t).longest = omega (arith, low, below) in
        let there_q : slice_get (listed number_there (suc k)) q ≡ Some (number_there q) = listed_at number_there (suc k) q (omega (arith, low, later)) in
        let number_q : wr.node ≡ number_there q = let h = wr.there in cc in
        let at_q : NodeAt (lowered x) (number_there q) wr.is = ap (slice_get (lowered x).nodes) (sym number_q) ∙ wr.at in
        let node_q = one_node (lowered x) (number_there q) (node_of_step q low_q) wr.is (at_node q low_q) at_q in
        let stored = stored_there x c t text its q low_q written (ap (λ (z : Node). z.writes) node_q ∙ wr.writes) in
        let P : Element → Type 0 = λ z. attempts.WritesAt c.config.kept t q z.variable z.element in
        subst P (same_by_key one_naming written read.location stored.one one is stored.lies.within
        (λ key of_written of_read. named_along x c t thread there q (omega (arith, low_q)) (made_there x c t q low_q).graph_thread
        (made_there x c t q low_q).node (there_at x c t q low_q) stored.one key (key_of_read key of_read) (stored.lies.by_key key of_written))
        read_lies) stored.at

    reads_at : (k : ℕ) → p < k → ReadsAt (lowered x) (listed number_there (suc k)) p read.location
    reads_at k later =
        record { node = number_there p; is = r.node; there = listed_at number_there (suc k) p (omega (arith, later)); at = node_read; reads = read.of }

    writes_at : (k : ℕ) (l : k < (attempt_of c.config t).longest) (s : StoresThere x c t text its k l one) →
        WritesAt (lowered x) (listed number_there (suc k)) k s.lies.location
    writes_at k l s = record {
      node = number_there k;
      is = node_of_step k l;
      there = listed_at number_there (suc k) k (omega arith);
      at = at_node k l;
      writes = s.lies.of;
    }

    -- what is stored later was stored before the read
    written : (k : ℕ) (l : k < (attempt_of c.config t).longest) → p ≤ k → attempts.WritesAt c.config.kept t k one.variable one.element →
        Writes c.config.kept t p one.variable one.element
    written k l low wr =
        let s = stores_there x c t text its k l one wr in
        let apart = not_here k l s.stores in
        let later : p < k = omega (arith, low, apart) in
        let held = store_key_held x c t thread there k l (omega (arith, later)) s.stores s.lies.location s.lies.of in
        let lies = lies_along x c t thread there k (omega (arith, l)) (made_there x c t k l).graph_thread (made_there x c t k l).node (there_at x c t k l)
        s.lies.location one held s.lies.lies in
        let start = resumes_there (number_there 0) (is_number x c t 0 (omega (arith, l))) in
        let before = written_before x b cuts (number_there 0) (listed (λ (j : ℕ). number_there (suc j)) k)
        (inside_region x c t b stays k l) p read.location (record {
          later = k;
          written = s.lies.location;
          above = later;
          reads = reads_at k later;
          writes = writes_at k l s;
          meet = common_overlaps one_naming s.lies.location read.location one (naming_apart x c t thread there) lies read_lies;
        }) start in
        record {
          before = before.earlier;
          within = before.before;
          at = written_there k before.earlier before.written later before.before before.writes before.is;
        }

  pub stored_before : (k : ℕ) (l : k < (attempt_of c.config t).longest) → p ≤ k → attempts.WritesAt c.config.kept t k one.variable one.element →
      Writes c.config.kept t p one.variable one.element
  stored_before k l low wr = written (omega (arith, low, l)) k l low wr

  module _ (within : p ≤ done) (guards : Guards x (now c.config) t one.variable one.element) where
    rewritten : (k : ℕ) → done ≤ k → k < (attempt_of c.config t).longest → attempts.WritesAt c.config.kept t k one.variable one.element →
        Writes c.config.kept t done one.variable one.element
    rewritten k low l wr =
        let w = stored_before k l (omega (arith, low, within)) wr in
        let sooner = w.within in
        record { before = w.before; within = omega (arith, sooner, within); at = w.at }

    pub right : LiveIsRight c.config one
    right = resumed_reads_are_right x c.config t one.variable one.element c.invariant guards rewritten

-- where it stands now
read_now : (x : f.Flat) (c : GraphConfig x) (t : ℕ) (one : Element) → ReadsHere x c.flow c.config t one →
    IsReadAt x c.flow c.config.kept t (attempt_of c.config t).done one
read_now x c t one r =
    let good = good_after x c.config.uncommitted c.formed c.flow c.good in
    record {
      graph_thread = r.graph_thread;
      found = graph_thread_alone x c t one r;
      node = r.node;
      at = r.at;
      seen = seen_by (flow_now x c.flow c.config) r.graph_thread;
      reads = r.reads;
      lies = λ text its. reads_lie_at x c.formed (flow_now x c.flow c.config) good t text its r.graph_thread r.node one r.found r.at r.reads;
      kept_guards = kept_guards x c t one r;
    }

reads_are_right : ReadsAreRight
reads_are_right x b o old schedule t one w cuts i by stays r =
    let c = graph_config x w o old schedule i by in
    right x b cuts c t stays one (attempt_of old t).done (read_now x c t one r) (omega arith) (reader_guards x c t one r)

-- after so many steps of its own
read_there : (x : f.Flat) (c : GraphConfig x) (t steps : ℕ) (one : Element) → steps ≤ (attempt_of c.config t).longest → (r : Reads x c.flow t steps one) →
    IsReadAt x c.flow c.config.kept t steps one
read_there x c t steps one within r =
    let good = good_after x (replicate steps t) c.formed c.flow c.good in
    record {
      graph_thread = r.graph_thread;
      found = r.found;
      node = r.node;
      at = r.at;
      seen = seen_by (flow_solo x c.flow t steps) r.graph_thread;
      reads = r.reads;
      lies = λ text its. reads_lie_at x c.formed (flow_solo x c.flow t steps) good t text its r.graph_thread r.node one r.found r.at r.reads;
      kept_guards = guards_kept x c t steps one r within;
    }

longest_within : (x : f.Flat) (c : GraphConfig x) (t steps : ℕ) → steps ≤ (attempt_of c.config t).done → steps ≤ (attempt_of c.config t).longest
longest_within x c t steps l = let tried = c.invariant.tried t in let within = tried.within in omega (arith, l, within)

reads_stay_right : ReadsStayRight
reads_stay_right x b o old schedule t steps one w cuts i by stays r =
    let c = graph_config x w o old schedule i by in
    right x b cuts c t stays one steps (read_there x c t steps one (longest_within x c t steps r.within) r.read) r.within
    (guards_now x c t steps one r.read r.within r.going)

stores_follow_reads : StoresFollowReads
stores_follow_reads x b o old schedule t steps later one w cuts i by stays r low within wr =
    let c = graph_config x w o old schedule i by in
    stored_before x b cuts c t stays one steps (read_there x c t steps one (omega (arith, low, within)) r) later within low wr

-- what is read where a thread stands is read there as long as what is kept stays
pub read_here : (x : f.Flat) (o : Origin x) (old : Config) (schedule : List ℕ) (t : ℕ) (one : Element) → IsWellFormed x → Invariant x old →
    IsKeptBy o.source old.kept schedule → ReadsHere x (flow_kept x o schedule) old t one →
    IsReadAt x (flow_kept x o schedule) old.kept t (attempt_of old t).done one
read_here x o old schedule t one w i by r = read_now x (graph_config x w o old schedule i by) t one r

-- and what the attempt stores of it later it had stored before
pub stored_before_read : (x : f.Flat) (b : Boundaries) (o : Origin x) (old : Config) (schedule : List ℕ) (t steps later : ℕ) (one : Element) →
    IsWellFormed x → AreCuts (lowered x) b → Invariant x old → IsKeptBy o.source old.kept schedule → StaysInside x b (flow_kept x o schedule) old t →
    IsReadAt x (flow_kept x o schedule) old.kept t steps one → steps ≤ later → later < (attempt_of old t).longest →
    attempts.WritesAt old.kept t later one.variable one.element → Writes old.kept t steps one.variable one.element
stored_before_read x b o old schedule t steps later one w cuts i by stays r low within wr =
    stored_before x b cuts (graph_config x w o old schedule i by) t stays one steps r later within low wr

pub readers_guard : ReadersGuard
readers_guard x o old schedule t one w i by r = reader_guards x (graph_config x w o old schedule i by) t one r

pub readers_guard_still : ReadersGuardStill
readers_guard_still x o old schedule t steps one w i by r =
    guards_now x (graph_config x w o old schedule i by) t steps one r.read r.within r.going

reads_are_as_made : ReadsAreAsMade
reads_are_as_made x b o old schedule t steps one w cuts i by stays r few =
    reads_stay_right x b o old schedule t steps one w cuts i by stays r
    ∙ as_made x (graph_config x w o old schedule i by) t steps one r.read r.within r.going few

pub rerun_reads_nothing_overwritten : RerunReadsNothingOverwritten
rerun_reads_nothing_overwritten = record {
  stored = stores_follow_reads;
  here = reads_are_right;
  after = reads_stay_right;
  made = reads_are_as_made;
}
