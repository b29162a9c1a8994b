-- A hart at the code of a node that makes its thread's pending store.
use Rattle.crash_simulation.proofs.Common.{Changes, Contents}
use Rattle.crash_simulation.proofs.Common.{IsApart, IsElsewhere, Step, in_frame, log_stays}
use Rattle.crash_simulation.proofs.Elements.{element_ends}
use Rattle.crash_simulation.proofs.FrameWords.{all_named, all_words, frame_after}
use Rattle.crash_simulation.proofs.MarkSteps.{frames_passed, passed_frame, stays_all}
use Rattle.crash_simulation.proofs.NodeEnvironments.{frame_answered, frame_guarded, frame_read, read_cases, reads, reads_own, frame_loaded}
use Rattle.crash_simulation.proofs.ThreadViews.{view_persists}
use Rattle.crash_simulation.proofs.Common.{◌≡◌, ℕ, List, ◌∷◌, sym, ◌∙◌, ap, arith, subst, true, false, Option, Some, refl, ◌<◌, [], length, Bool, inl, inr}
use Rattle.crash_simulation.proofs.Common.{slice_get, if◌then◌else◌, true≢false, ◌*◌, ◌%◌, ◌^◌, ℤ, slice_index_or, Contains, AllZip, option_map, ne_eqb}
use Rattle.crash_simulation.proofs.Common.{true_from_ne_false, nat_tests, same_Some, slice_get-map, byte_number, variable_at, Word, bytes_of, typed}
use Rattle.crash_simulation.proofs.Common.{register_form_of, Kind, Variable, Pending, Guards, element_lock, IsStoreInRange, AreNumbersOf, zip_at, World}
use Rattle.crash_simulation.proofs.Common.{Effect, is_point_store, GraphThread, effect_of, NodeAt, lowered, Action, Store, Node, variables_apart}
use Rattle.crash_simulation.proofs.Common.{addresses_reach, Writes, store_ahead, WritesAt, now, attempt_of, history_at, Memory, IsStored, IsOther, stores}
use Rattle.crash_simulation.proofs.Common.{begun, ConfigStep, memory_in, since_stays, memory_stored, stored_is_since, HasCome, line_of, is_there}
use Rattle.crash_simulation.proofs.Common.{MarkedEnvironment, IsNext, variables_are_apart, stores_to_variable, is_clean, kind_at, IsAnswered, source_of}
use Rattle.crash_simulation.proofs.Common.{MayDo, cleans_of, MarksPass, same_or_other, AbstractRun, kept_of, now_of, attempts_of, MayStore, element, System}
use Rattle.crash_simulation.proofs.Common.{IsSystem, flat_of, shapes_of, places_of, ThreadGhost, is_ahead, IsFlushed, IsComing, is_fence, ◌+◌, ◌≤◌, ◌==◌}
use Rattle.crash_simulation.proofs.Common.{eqb-true, eq-eqb, cond-true, length-append, has_moved, last_position, word_at, History, positions_meet, IsOnItsWay}
use Rattle.crash_simulation.proofs.Common.{durable_there, comes_with, recorded_in}
use Rattle.machine_model.specs.Schedule.{completes}
use Rattle.crash_simulation.specs.Accesses.{is_among, stores_to}
use Rattle.crash_simulation.specs.StorePositions.{stores_into}
use Rattle.crash_simulation.specs.ThreadGhosts.{IsByteOf, IsElementAt}
use Rattle.crash_simulation.proofs.ReadBytes.{AccessesWritten}
use Rattle.crash_simulation.proofs.Common.{IsReadAt, stored_before_read}
use Rattle.flow_graph.specs.Paths.{element as named}
use Rattle.region_attempts.specs.PendingCleans.{Cleans}
use Rattle.ido_base.specs.Words as words
use Rattle.rv64_isa.specs.Rows as r
use Rattle.flow_graph.specs.Actions as a
use Rattle.crash_simulation.proofs.ConfigAfterBegin.{one_longer, attempted, done_longer, alone_ahead, wrote}
use Rattle.crash_simulation.proofs.GraphAfterBegin.{matches_now, follows_on, not_come, boundary_after_is}
use Rattle.crash_simulation.proofs.MarksAtNodes.{Doing, MarkIn, AtMark, Passes, environment, in_graph, at_some_mark}
use Rattle.crash_simulation.proofs.StatesMatchSource.{cuts, resumed, now_orderly, now_good}
use Rattle.crash_simulation.proofs.Boundaries.{store_is}
use Rattle.crash_simulation.proofs.Elements.{room, there_or_none, variables_end, element_below, word_of_element}
use Rattle.crash_simulation.proofs.NodeEffects.{ahead_is}
use Rattle.crash_simulation.proofs.NodeEnvironments.{element_access}
use Rattle.crash_simulation.proofs.OwnHartSteps.{view, StepOf, AtNode}
use Rattle.crash_simulation.proofs.PendingFlushes.{as_before}
use Rattle.crash_simulation.proofs.WriteBackSteps.{mark_step}
use Rattle.crash_simulation.proofs.CompletedEffects.{is_among_by, last_unless, next_completed, step_durable}
use Rattle.crash_simulation.proofs.MarkSteps.{flushed_on, flushed_passed, passed_record, passed_step, is_next}
use Rattle.crash_simulation.proofs.MarkSteps as passing

-- memory takes of a value the bytes that a store writes
stored_low : (ws : List Word) (number count v w : ℕ) → v % 2 ^ (8 * count) ≡ w % 2 ^ (8 * count) →
    words.stored ws number count v ≡ words.stored ws number count w
stored_low ws number count v w same = rw same refl

pub same_tail : (x z : Effect) (xs zs : List Effect) → x ∷ xs ≡ z ∷ zs → zs ≡ xs
same_tail x z xs zs e = cc

clean_if : (b : Bool) (address : ℕ) (effect : Effect) → Contains (if b then r.Cleans address ∷ [] else []) effect → is_clean effect ≡ true
clean_if b address effect has = grind (arith, nat_tests)

-- a node that makes the thread's pending store
pub record MakesStore (node : Node) (graph_thread : GraphThread) : Type 0 where
  pub variable : ℕ
  pub kind : Kind
  pub next : ℕ
  pub action : node.action ≡ Store variable kind next
  pub store : Pending
  pub pending : graph_thread.pending ≡ Some store

module _ {y : System} {s : IsSystem y} {w : World} {h : ℕ} (site : AtNode y s w h) (node : Node)
    (at : NodeAt (lowered (flat_of y)) (view site.hart).graph_thread.at node) (makes : MakesStore node (view site.hart).graph_thread) where
  open view site.hart use {b, code, c, t, n, v, places, graph_thread, seen}
  open makes use {store, pending}

  abbrev e : a.Effect
  e = a.Makes store makes.next

  pub does : effect_of node.action seen ≡ Some e
  does = grind (arith, nat_tests)

  abbrev doing : Doing site
  doing = record { node = node; at = at; effect = e; free = refl; does = does; reads = reads site.hart [] }

  abbrev here : MarkedEnvironment
  here = environment site doing

  -- ---- The store

  pub formed : IsStoreInRange (flat_of y).variables store
  formed = store_is y.plan code s.plan (now_of y b) (now_good y s b) graph_thread t.walks store pending

  open formed.it use {kind as k}

  abbrev address : ℕ
  address = variable_at (shapes_of y) store.variable store.element

  pub kind_is : kind_at (flat_of y).variables store.variable ≡ Some k
  kind_is = slice_get-map (λ (x : Variable). x.kind) (flat_of y).variables store.variable ∙ ap (option_map (λ (x : Variable). x.kind)) formed.found

  pub in_variables : address < variables_end
  in_variables = element_below (flat_of y).variables (room y s) store.variable store.element formed.it formed.found formed.element

  may_do : MayDo y.plan code.thread places w.log (length w.harts) here graph_thread.at e
  may_do = (
    k,
    kind_is,
    record {
      access = element_access w.log (flat_of y).variables (length w.harts) store.variable store.element formed.it (room y s) formed.found formed.element;
      apart = apart_here;
    },
  )
    where
      apart_here : IsApart here address (bytes_of k)
      apart_here at count value e = elim (read_cases site.hart [] at count value e) [
        | inl none ↦ absurd (true≢false (sym none))
        | inr of_word ↦
            let own = (frame_read w.log n at count of_word).0 in
            let ends = element_ends (flat_of y).variables (room y s) store.variable store.element formed.it formed.found formed.element in
            inr (omega (arith, ends, own.is, frame_after w.log n own.word))
      ]

  pub mark : MarkIn site doing
  mark = at_some_mark site doing (reads_own site.hart [])
      (λ none. (
        subst (λ (z : Action). IsAnswered (source_of y.plan code.thread seen) here.around.loads z) (sym makes.action) tt,
        frame_answered site.hart [] site.core.view site.core.frame graph_thread.at,
      )) may_do

  abbrev at_mark : AtMark site
  at_mark = record { doing = doing; mark = mark }

  -- ---- The source

  ahead : store_ahead (now b.config) n ≡ Some store
  ahead = ahead_is (in_graph site doing) ∙ pending

  abbrev memory : Memory
  memory = memory_in (places_of y) v.words

  minded : HasCome (flat_of y) y.plan.boundaries (kept_of y b) b.config n → ⊥
  minded = not_come y s b n site.core.goes.goes.going t.walks at does (λ mutex next gives. cc) site.core.fresh

  exists : store.element < length (slice_index_or (now b.config).variables store.variable [])
  exists =
      let held : AllZip AreNumbersOf (flat_of y).variables (now b.config).variables =
      subst (λ (ns : List (List ℤ)). AllZip AreNumbersOf (flat_of y).variables ns) (sym (now_good y s b).matches.variables ∙ (matches_now y s b).variables)
      (now_good y s b).formed.variables in
      let numbers = zip_at AreNumbersOf (flat_of y).variables (now b.config).variables store.variable formed.it [] held formed.found in
      omega (arith, formed.element)

  -- what the present step writes is the store
  written : (u i : ℕ) → WritesAt b.config.kept n (attempt_of b.config n).done u i → (u ≡ store.variable) × (i ≡ store.element)
  written u i writes =
      let same : writes.store ≡ store =
      same_Some _ _ (sym writes.is ∙ alone_ahead (flat_of y) b.config (resumed y s b).resumed.invariant n site.core.goes.goes.going ∙ ahead) in
      (sym writes.variable_is ∙ ap (λ (q : Pending). q.variable) same, sym writes.element_is ∙ ap (λ (q : Pending). q.element) same)

  -- the thread guards it
  guards : Guards (flat_of y) (now b.config) n store.variable store.element
  guards =
      let o = now_orderly y s b in
      let there = is_there (flat_of y) s.plan.formed n (now_of y b) o.source o.matches graph_thread node t.walks at in
      let held = (o.keeps.each n there.thread there.there).pending store (sym there.match.pending ∙ pending) in
      let lock = element_lock (flat_of y).variables store.variable store.element in
      ap (λ (hs : List (Option ℕ)). slice_get hs lock) (sym (matches_now y s b).holders ∙ o.matches.holders) ∙ held

  -- ---- The mark is passed

  abbrev cleans : List Effect
  cleans = cleans_of y.plan code.thread places graph_thread.at store

  module _ (p : Passes site at_mark) where
    abbrev value : ℕ
    value = (p.made k kind_is).value

    effect_is : p.forward.effect ≡ r.Stores address (bytes_of k) value
    effect_is = (p.made k kind_is).is

    later_is : p.later ≡ cleans
    later_is = grind (arith, effect_is, kind_is, mark, same_tail)

    may : MayStore y b n p.forward.effect
    may = subst (λ (z : Effect). MayStore y b n z) (sym effect_is) (element store.variable store.element value formed.it formed.found formed.element guards)

    no_point : is_point_store w.log n p.forward.effect ≡ false
    no_point = grind (arith, ne_eqb, variables_are_apart, effect_is, in_variables)

    words_are : v.words ≡ words.stored w.words (byte_number address) (bytes_of k) (register_form_of (typed k store.number))
    words_are = ap (λ (z : World). z.words) p.forward.world
        ∙ (ap (λ (x : Contents). x.words) (subst (λ (z : Effect). Changes (record { words = w.words; queue = mark.at.on.hart.queue }) z p.forward.contents)
        effect_is p.forward.changes)
        ∙ stored_low w.words (byte_number address) (bytes_of k) value (register_form_of (typed k store.number)) (p.made k kind_is).low)

    stored : IsStored b.config.memory memory store.variable store.element store.number
    stored =
        let apart = variables_apart (flat_of y).variables (length w.words) (room y s) (omega (arith, site.hart.stands.machine.sound.size)) in
        let is_at = (addresses_reach w.log (flat_of y).variables (length w.harts) store.variable store.element formed.it (room y s) formed.found
        formed.element).at in
        coe 0 1 (i. IsStored (site.hart.stands.memory i) (memory_in (places_of y) ((sym words_are) i)) store.variable store.element store.number)
        (memory_stored (places_of y) w.words store.variable store.element k (byte_number address) store.number apart is_at formed.held)

    abbrev happened : ConfigStep b.config (begun b.config n memory (one_longer b.config n))
    happened = stores n memory (one_longer b.config n) (record {
      going = site.core.goes.goes.going;
      store = store;
      ahead = ahead;
      there = exists;
      stored = stored;
      attempt = attempted b.config.attempts n _;
    })

    elsewhere : IsElsewhere y.runs.program w all_words n n
    elsewhere = stores_to_variable y.runs.program all_words w n n mark.at.on.hart address (bytes_of k) value
        (subst (IsNext y.runs.program w n mark.at.on.hart) effect_is (is_next site at_mark p)) in_variables

    no_end : e ≡ a.Ends → cleans ≡ []
    no_end is = cc

    abbrev passed : passing.Passing site
    passed = record {
      mark = at_mark;
      passes = p;
      plain = refl;
      cleans = cleans;
      later = later_is;
      clean = clean_if (places.cleans graph_thread.at) address;
      ends = no_end;
      sets_later = λ later. absurd later;
      frame = view_persists w v n site.core.view (log_stays y.runs.program w (Step n) site.hart.stands.machine.sound) (stays_all site at_mark p elsewhere)
          site.core.frame;
      named = all_words;
      among = all_named w.log c.new t.log.log.follows.new_is;
      elsewhere = elsewhere;
      may = may;
      no_point = no_point;
      no_fence = ap is_fence effect_is;
      memory = memory;
      memory_is = refl;
      happened = happened;
      leads = follows_on y s b _ happened refl;
      by_it = refl;
      none_kept = refl;
      minded = minded;
      is_step = refl;
    }

    abbrev next : AbstractRun y
    next = passing.next site passed

    abbrev new : ThreadGhost
    new = passing.new site passed

    -- what this step cleans is coming
    comes_now : (line : ℕ) → Cleans (attempts_of y b) n (attempt_of b.config n).done line →
        (u i position : ℕ) → line_of (shapes_of y) u i ≡ line → IsComing y v cleans p.on.on.hart u i position
    comes_now line cleaned u i position in_line =
        let is = written cleaned.variable cleaned.element cleaned.stores in
        let at_node : cleaned.node ≡ graph_thread.at =
        same_Some _ _ (sym cleaned.at ∙ boundary_after_is y s b n graph_thread site.core.goes.goes.going t.walks) in
        let here : places.cleans graph_thread.at ≡ true = true_from_ne_false _ (λ uncleaned. cleaned.cleans
        (ap (slice_get y.left_out) at_node ∙ (s.own h site.hart.below).cleans graph_thread.at site.core.core.own uncleaned)) in
        is_ahead store.variable store.element
        (subst (λ (z : Bool). Contains (if z then r.Cleans address ∷ [] else []) (r.Cleans address)) (sym here) (0, omega arith, refl))
        ((λ j. line_of (shapes_of y) ((sym is.0) j) ((sym is.1) j)) ∙ cleaned.in_line ∙ sym in_line)

    abbrev newest : IsFlushed y v next code new p.on.on.hart store.variable store.element
    newest = record {
      before = (attempt_of b.config n).done;
      within = omega (arith, done_longer b.config n);
      writes = record {
        store = store;
        is = alone_ahead (flat_of y) b.config (resumed y s b).resumed.invariant n site.core.goes.goes.going ∙ ahead;
        variable_is = refl;
        element_is = refl;
      };
      position = length (history_at b.config.memory store.variable store.element).values;
      since = stored_is_since b.config.memory memory store.variable store.element store.number stored;
      comes = λ cleaned.
          let same : cleaned.last ≡ (attempt_of b.config n).done = omega (arith, done_longer b.config n) in
          let line : ℕ = line_of (shapes_of y) store.variable store.element in
          let cleans_it = as_before (passing.passage site passed) cleaned.last line cleaned.at in
          comes_now line (subst (λ (j : ℕ). Cleans (attempts_of y b) n j line) same cleans_it) store.variable store.element _ refl;
      fenced = λ un. absurd (true≢false un);
    }

    -- one that was on its way before, if it isn't the one that is stored
    abbrev older : (u i : ℕ) → IsOther store.variable store.element u i → IsFlushed y w b code c t.log.hart u i →
        IsFlushed y v next code new p.on.on.hart u i
    older u i apart f =
        flushed_on site passed u i (λ position since.
        since_stays b.config.memory memory store.variable store.element store.number stored u i position apart since)
        (λ now line cleaned. comes_now line cleaned) f

    flushed : (u i : ℕ) → Writes next.config.kept n (attempt_of next.config n).done u i → IsFlushed y v next code new p.on.on.hart u i
    flushed u i writes = elim (same_or_other u store.variable) [
      | inl same ↦ elim (same_or_other i store.element) [
        | inl same_element ↦ coe 0 1 (j. IsFlushed y v next code new p.on.on.hart ((sym same) j) ((sym same_element) j)) newest
        | inr apart ↦ before (λ also same_element. apart same_element)
      ]
      | inr apart ↦ before (λ same same_element. apart same)
    ]
      where
        before : IsOther store.variable store.element u i → IsFlushed y v next code new p.on.on.hart u i
        before apart = flushed_passed site passed u i (λ at_once. let same = written u i at_once in apart same.0 same.1)
            (λ position since. since_stays b.config.memory memory store.variable store.element store.number stored u i position apart since)
            (λ now line cleaned. comes_now line cleaned) writes

    -- ---- Last stores

    abbrev word_stored : ℕ
    word_stored = word_of_element y s store.variable store.element

    -- the store is made into that word, and into no other
    completes_is : (word : ℕ) → completes (stores_into word) y.runs.program w (Step n) n ≡ (word_stored == word)
    completes_is word =
        next_completed (stores_into word) y.runs.program w n mark.at.on.hart p.forward.effect (is_next site at_mark p) (ap has_moved p.forward.reply)
        ∙ ap (stores_into word) effect_is

    -- the position of what it appends
    newest_last : last_position (word_at v.words word_stored) ≤ newest.position
    newest_last =
        let long : length (history_at memory store.variable store.element).values
        ≡ length (history_at b.config.memory store.variable store.element).values + 1 =
        ap (λ (h : History). length h.values) stored.own
        ∙ length-append (history_at b.config.memory store.variable store.element).values (store.number ∷ []) in
        elim (there_or_none y s store.variable store.element) [
          | inl there ↦
              let meet = positions_meet (places_of y) v.words store.variable store.element there.kind
              (byte_number (variable_at (shapes_of y) store.variable store.element)) there.at in
              omega (arith, long, meet.long)
          | inr none ↦
              let one : length (history_at memory store.variable store.element).values ≡ 1 = ap (λ (h : History). length h.values) (none v.words) in
              let other : length (history_at b.config.memory store.variable store.element).values ≡ 1 =
              ap (λ (m : Memory). length (history_at m store.variable store.element).values) (sym site.hart.stands.memory)
              ∙ ap (λ (h : History). length h.values) (none w.words) in
              absurd (omega (arith, one, long, other))
        ]

    last : (word position : ℕ) → new.last_stores word ≡ Some position → IsOnItsWay y v next code new p.on.on.hart word position
    last word position is = by (word_stored == word) refl
      where
        by : (b : Bool) → (word_stored == word) ≡ b → IsOnItsWay y v next code new p.on.on.hart word position
        by true same =
            let at : word_stored ≡ word = eqb-true word_stored word same in
            let made : Some (last_position (word_at v.words word)) ≡ Some position =
            sym (cond-true (completes (stores_into word) y.runs.program w (Step n) n) (Some (last_position (word_at v.words word))) (c.last_stores word)
            (completes_is word ∙ same)) ∙ is in
            let position_is : last_position (word_at v.words word_stored) ≡ position =
            ap (λ (k : ℕ). last_position (word_at v.words k)) at ∙ same_Some _ _ made in
            comes_with store.variable store.element newest at (omega (arith, position_is, newest_last))
        by false other =
            let was : c.last_stores word ≡ Some position =
            last_unless y.runs.program w n word (c.last_stores word) n (completes_is word ∙ other) ∙ is in
            elim (t.stored.last word position was) [
              | durable_there low ↦ durable_there (step_durable y.runs.program w n site.hart.stands.machine.sound word position low)
              | comes_with u i f at low ↦
                  comes_with u i (older u i (λ same equal. true≢false (sym (eq-eqb word_stored word
                  ((λ j. word_of_element y s ((sym same) j) ((sym equal) j)) ∙ at)) ∙ other)) f) at low
              | recorded_in among low ↦ passed_record site passed word position among low
              | in_frame own framed at low ↦ passed_frame site passed own word position framed at low
            ]

    -- ---- What it has read

    -- the element that is stored to
    pub stored_element : IsElementAt y store.variable store.element address (bytes_of k)
    stored_element = record { is = formed.it; there = formed.found; within = formed.element; address_is = refl; bytes_are = refl }

    completes_to : (byte : ℕ) → completes (stores_to byte) y.runs.program w (Step n) n ≡ is_among address (bytes_of k) byte
    completes_to byte =
        next_completed (stores_to byte) y.runs.program w n mark.at.on.hart p.forward.effect (is_next site at_mark p) (ap has_moved p.forward.reply)
        ∙ ap (stores_to byte) effect_is

    -- what it stores now it accesses
    accessed : (variable number byte : ℕ) → IsByteOf y variable number byte → variable ≡ store.variable → number ≡ store.element →
        completes (stores_to byte) y.runs.program w (Step n) n ≡ true
    accessed variable number byte of same equal =
        let at = of.at in
        let its : at.is ≡ formed.it = same_Some _ _ (sym at.there ∙ (ap (slice_get (flat_of y).variables) same ∙ formed.found)) in
        let there : of.address ≡ address = at.address_is ∙ (λ i. variable_at (shapes_of y) (same i) (equal i)) in
        let wide : of.bytes ≡ bytes_of k = at.bytes_are ∙ ap (λ (z : Variable). bytes_of z.kind) its in
        completes_to byte ∙ is_among_by address (bytes_of k) byte (omega (arith, of.from, there)) (omega (arith, of.to, there, wide))

    stored_then : AccessesWritten (passing.passage site passed)
    stored_then variable number byte writes of =
        elim (wrote b.config.kept n (attempt_of b.config n).done variable number
        (subst (λ (j : ℕ). Writes b.config.kept n j variable number) (done_longer b.config n) writes)) [
          | inl old ↦ inl old
          | inr at_once ↦ let same = written variable number at_once in inr (accessed variable number byte of same.0 same.1)
        ]

    -- what its attempt has read of that it had stored before
    pub follows : (step : ℕ) → step ≤ (attempt_of b.config n).done →
        IsReadAt (flat_of y) (kept_of y b) b.config.kept n step (named store.variable store.element) →
        Writes b.config.kept n step store.variable store.element
    follows step low read =
        let r = resumed y s next in
        let within = (r.resumed.invariant.tried n).within in
        stored_before_read (flat_of y) y.plan.boundaries b.origin next.config b.schedule n step (attempt_of b.config n).done
        (named store.variable store.element) s.plan.formed (cuts y s b) r.resumed.invariant r.resumed.kept (r.inside n) read low
        (omega (arith, within, done_longer b.config n)) newest.writes

  pub store_step : MarksPass → StepOf site.hart n
  store_step marks = mark_step site at_mark marks
      (λ p. passed_step site (passed p) (frame_guarded site.hart (now (next p).config)) (flushed p) (last p)
      (frame_loaded site.hart (next p) (new p)) (stored_then p)
      (frames_passed site (passed p) (λ own framed. inl (stays_all site at_mark p (elsewhere p) own framed))))
