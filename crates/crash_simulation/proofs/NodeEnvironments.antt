-- The environment in which a thread's hart makes a step at its node: loads of what the node reads, and of words of the own frame, are answered, and no others.
use Rattle.crash_simulation.proofs.Common.{Graph, IsChosen}
use Rattle.crash_simulation.specs.ThreadGhosts.{IsElementAt, IsLoaded, just_read, own_word, read_ahead}
use Rattle.crash_simulation.proofs.ChosenNodes.{chosen_framed, readers_store_none}
use Rattle.crash_simulation.proofs.Common.{◌≡◌, ℕ, List, sym, ◌∙◌, ap, arith, subst, true, Some, None, ◌<◌, [], length, Bool, slice_get, ◌&&◌, ◌*◌, ◌^◌, map}
use Rattle.crash_simulation.proofs.Common.{ℤ, slice_index_or, pos, Contains, mod-lt, pow_pos, and_from, and_parts, cond-true, nat_tests, cond_some}
use Rattle.crash_simulation.proofs.Common.{byte_number, variable_at, Word, loaded, Log, bytes_of, Holds, bits_of, modulus_of, reduced, residue, Kind}
use Rattle.crash_simulation.proofs.Common.{Same_sym, Holds-reduced, Same-reduced, residue-is, Variable, State, element_number, shape_of, elements_in, Guards}
use Rattle.crash_simulation.proofs.Common.{World, NodeAt, lowered, Node, Element, reads_of, HaveRoom, spots_of, addresses_reach, now, history_at, number_at}
use Rattle.crash_simulation.proofs.Common.{Memory, live_number, IsAtSpot, memory_loaded, ReadsHere, rerun_reads_nothing_overwritten, readers_guard}
use Rattle.crash_simulation.proofs.Common.{MarkedEnvironment, Agrees, is_width, environment_of, is_access, IsAnswered, source_of, kept_of, System, IsSystem}
use Rattle.crash_simulation.proofs.Common.{flat_of, AnswersGuarded, ◌∷◌, ◌⊎◌, inl, inr, ⊎_elim, ◌||◌, or_cases, or_right, eqb-true, eq-eqb, refl, false}
use Rattle.crash_simulation.proofs.Common.{contains_cases, contains_none, HasView, IsFrameAnswered, IsGoing, IsOwnWord, LogView, ReadsOwn, Site, IsFrameWord}
use Rattle.crash_simulation.proofs.Common.{frame_at, live_value, of_element, of_frame, frame_in, ◌%◌, ◌==◌, IsPlaced, Meets, contains_first, contains_later}
use Rattle.crash_simulation.proofs.Common.{cond_both, ltb-false, nat_lt, IsGuarded, word_at, ◌≤◌, ◌+◌, AbstractRun, AnswersLoaded, IsInAttempt, IsReadAt}
use Rattle.crash_simulation.proofs.Common.{ThreadGhost, attempt_of, read_here, suc}
use Rattle.log_schemes.specs.declared.locals.Locals.{Locals}
use Rattle.log_schemes.specs.declared.locals.Locals.TheVariants.{Frame, Registers}
use Rattle.log_schemes.specs.Schemes.{locals_of}
use Rattle.log_schemes.specs.SchemeFacts.{frame_index}
use Rattle.log_states.proofs.Public.{frame_in_log, frame_inside}
use Rattle.std.proofs.lemmas.Bool.{or_left}
use Rattle.ido_base.specs.Layout.{logs_base}
use Rattle.ido_base.specs.Words.{part}
use Rattle.thread_runs.proofs.Public.{word_access}
use Rattle.crash_simulation.proofs.FrameWords.{all_words, frame_after, is_named, only_named, frame_whole as frame_at_whole}
use Rattle.crash_simulation.proofs.LoadFreeEnvironment.{meets_with, placed}
use Rattle.crash_simulation.proofs.OwnHartSteps.{view}
use Rattle.thread_runs.specs.CodeFragments as runs
use Rattle.crash_simulation.proofs.StatesMatchSource.{cuts, resumed, now_good}
use Rattle.crash_simulation.proofs.Loads.{reads_all, is_read, reads_there, Loaded, answered}
use Rattle.crash_simulation.proofs.GraphAfterBegin.{matches_now}
use Rattle.crash_simulation.proofs.Elements.{room, element_ends}

-- ---- Accesses

kind_width : (k : Kind) → is_width (bytes_of k) ≡ true
kind_width k = grind (arith, nat_tests)

-- an element may be accessed, and stands before the end of the variables
pub element_access : (log : Log) (vs : List Variable) (threads v e : ℕ) (is : Variable) → HaveRoom (map shape_of vs) → slice_get vs v ≡ Some is →
    e < elements_in is.length → is_access log threads (variable_at (map shape_of vs) v e) (bytes_of is.kind) ≡ true
element_access log vs threads v e is room there within = grind (arith, addresses_reach, map, and_from, kind_width)

-- ---- Numbers

-- a load has the residue of the number
number_loaded : (k : Kind) (n : ℕ) (z : ℤ) → n < 2 ^ bits_of k → reduced k (pos n) ≡ z → (n ≡ residue (bits_of k) z) × Holds k z
number_loaded k n z below is =
    let same = Same_sym (modulus_of k) (reduced k (pos n)) (pos n) (Same-reduced k (pos n)) in
    subst (λ (z : ℤ). (n ≡ residue (bits_of k) z) × Holds k z) is (sym (residue-is (bits_of k) (reduced k (pos n)) n below same), Holds-reduced k (pos n))

loaded_below : (ws : List Word) (number count : ℕ) → loaded ws number count < 2 ^ (8 * count)
loaded_below ws number count = mod-lt _ (pow_pos (8 * count))

-- ---- Words of a frame

words_of : Locals → List ℕ
words_of Registers = []
words_of Frame = all_words

-- those that a log has for locals
pub frame_words : Log → List ℕ
frame_words log = words_of (locals_of log)

frame_words_are : (log : Log) (word : ℕ) → Contains (frame_words log) word → IsFrameWord log word
unfolding frame_words words_of
frame_words_are log word has = by (locals_of log) refl has
  where
    by : (l : Locals) → locals_of log ≡ l → Contains (words_of l) word → IsFrameWord log word
    by Registers e among = absurd (contains_none word among)
    by Frame e among = record { frame = e; exists = only_named word among }

frame_words_have : (log : Log) (word : ℕ) → IsFrameWord log word → Contains (frame_words log) word
unfolding frame_words words_of
frame_words_have log word is = subst (λ (l : Locals). Contains (words_of l) word) (sym is.frame) (is_named log word is)

-- the address is that of one of these words of the thread's
at_word : Log → (thread : ℕ) → (words : List ℕ) → (address : ℕ) → Bool
at_word log thread [] address = false
at_word log thread (word ∷ words) address = (frame_at log thread word == address) || at_word log thread words address

word_found : (log : Log) (thread : ℕ) (words : List ℕ) (address : ℕ) → at_word log thread words address ≡ true →
    (word : ℕ) × Contains words word × (address ≡ frame_at log thread word)
unfolding at_word
word_found log thread [] address h = cc
word_found log thread (word ∷ words) address h = ⊎_elim
    (λ first. (word, contains_first word words, sym (eqb-true (frame_at log thread word) address first)))
    (λ more. let r = word_found log thread words address more in (r.0, contains_later word words r.0 r.1, r.2))
    (or_cases (frame_at log thread word == address) (at_word log thread words address) h)

word_there : (log : Log) (thread : ℕ) (words : List ℕ) (word : ℕ) → Contains words word → at_word log thread words (frame_at log thread word) ≡ true
unfolding at_word
word_there log thread [] word has = absurd (contains_none word has)
word_there log thread (first ∷ words) word has = elim (contains_cases first words word has) [
  | inl same ↦ or_left _ _ (eq-eqb (frame_at log thread first) (frame_at log thread word) (ap (frame_at log thread) (sym same)))
  | inr more ↦ or_right _ _ (word_there log thread words word more)
]

-- a load of eight bytes of one
pub reads_frame : Log → (thread : ℕ) → (address bytes : ℕ) → Bool
reads_frame log thread address bytes = (bytes == 8) && at_word log thread (frame_words log) address

pub frame_read : (log : Log) (thread address bytes : ℕ) → reads_frame log thread address bytes ≡ true → IsOwnWord log thread address × (bytes ≡ 8)
unfolding reads_frame
frame_read log thread address bytes h =
    let parts = and_parts (bytes == 8) _ h in
    let found = word_found log thread (frame_words log) address parts.1 in
    let is = frame_words_are log found.0 found.1 in
    (record { framed = is.frame; word = found.0; exists = is.exists; is = found.2 }, eqb-true bytes 8 parts.0)

pub own_read : (log : Log) (thread address : ℕ) → IsOwnWord log thread address → reads_frame log thread address 8 ≡ true
unfolding reads_frame
own_read log thread address own =
    subst (λ (a : ℕ). at_word log thread (frame_words log) a ≡ true) (sym own.is)
    (word_there log thread (frame_words log) own.word (frame_words_have log own.word (record { frame = own.framed; exists = own.exists })))

pub whole_frame : (log : Log) (thread word : ℕ) → byte_number (frame_at log thread word) % 8 ≡ 0
whole_frame log thread word = grind (arith, cond_both, ltb-false, nat_lt, frame_after, frame_at_whole)

pub part_whole : (value : ℕ) → value < 2 ^ 64 → part value 0 8 ≡ value
part_whole value small = omega (arith, small)

-- eight bytes of one are its value
whole_load : (log : Log) (words : List Word) (thread word : ℕ) → live_value (frame_in log words thread word) < 2 ^ 64 →
    loaded words (byte_number (frame_at log thread word)) 8 ≡ live_value (frame_in log words thread word)
whole_load log words thread word small =
    let whole : byte_number (frame_at log thread word) % 8 ≡ 0 = whole_frame log thread word in
    ap (λ (k : ℕ). part (live_value (frame_in log words thread word)) k 8) whole ∙ part_whole (live_value (frame_in log words thread word)) small

-- ---- The environment

module _ {y : System} {s : IsSystem y} {w : World} {h : ℕ} (site : Site y s w h) where
  open view site use {b, code, t, n, places, graph_thread, seen}
  open site.stands.machine use {log as logs, count}

  abbrev pub environment_with : (reads : ℕ → ℕ → Bool) → MarkedEnvironment
  environment_with reads = environment_of y.runs.program (slice_index_or y.runs.marks n []) reads w n

  pub agrees_here : (reads : ℕ → ℕ → Bool) → Agrees y.runs.program w n (environment_with reads)
  agrees_here reads = grind (arith, and_parts, cond_some)

  pub meets_here : (reads : ℕ → ℕ → Bool) → Meets places.program (environment_with reads)
  meets_here reads = meets_with y code (s.own h site.below) w reads

  pub placed_here : IsPlaced y.plan code.thread places w.log (length w.harts)
  placed_here = placed y s w h site.below logs count

  -- ---- Of elements, and of the frame

  abbrev vs : List Variable
  vs = (flat_of y).variables

  module _ (ones : List Element) where
    abbrev pub reads : (address bytes : ℕ) → Bool
    reads address bytes = reads_all vs ones address bytes || reads_frame w.log n address bytes

    abbrev pub reading : MarkedEnvironment
    reading = environment_with reads

    pub read_cases : (address bytes value : ℕ) → reading.around.loads address bytes ≡ Some value →
        (reads_all vs ones address bytes ≡ true) ⊎ (reads_frame w.log n address bytes ≡ true)
    read_cases address bytes value e =
        or_cases (reads_all vs ones address bytes) (reads_frame w.log n address bytes)
        (and_parts (reads address bytes) _ (cond_some (reads address bytes && is_access w.log (length w.harts) address bytes) _ value e).0).0

    pub reads_own : ReadsOwn w.log n reading
    reads_own address bytes value e = elim (read_cases address bytes value e) [
      | inl of_one ↦ runs.of_variable (within of_one)
      | inr of_word ↦ let own = frame_read w.log n address bytes of_word in runs.of_frame own.0 own.1
    ]
      where
        within : reads_all vs ones address bytes ≡ true → address + bytes ≤ logs_base
        within of_one = grind (arith, nat_tests, element_ends, is_read, room)

    -- an element that it answers is one of them
    read_element : (address bytes : ℕ) → reads_all vs ones address bytes ≡ true →
        (one : Element) × Contains ones one × IsElementAt y one.variable one.element address bytes
    read_element address bytes of_one =
        let r = is_read vs ones address bytes of_one in
        (r.0, r.1, record { is = r.2.it; there = r.2.found; within = r.2.within; address_is = r.2.address_is; bytes_are = r.2.bytes_are })

    -- what it answers is loaded, where an element is
    loaded_by : (b' : AbstractRun y) (c' : ThreadGhost) → ((address bytes : ℕ) (one : Element) → Contains ones one →
        IsElementAt y one.variable one.element address bytes → IsLoaded y b' n c' address bytes) → AnswersLoaded y b' n c' reading
    loaded_by b' c' of address bytes value e = elim (read_cases address bytes value e) [
      | inl of_one ↦ let r = read_element address bytes of_one in of address bytes r.0 r.1 r.2
      | inr of_word ↦
          let own = frame_read w.log n address bytes of_word in own_word (subst (λ (l : Log). IsOwnWord l n address) (sym logs) own.0) own.1
    ]

    -- what it answers the thread guards, in any state where it guards what it reads, or has in its frame
    pub answers_guarded : (state : State) → ((one : Element) → Contains ones one → Guards (flat_of y) state n one.variable one.element) →
        AnswersGuarded y state n reading
    answers_guarded state guards address bytes value e = elim (read_cases address bytes value e) [
      | inl of_one ↦ of_element (guarded of_one)
      | inr of_word ↦
          let own = frame_read w.log n address bytes of_word in of_frame (subst (λ (l : Log). IsOwnWord l n address) (sym logs) own.0) own.1
    ]
      where
        guarded : reads_all vs ones address bytes ≡ true → IsGuarded y state n address bytes
        guarded of_one =
            let r = read_element address bytes of_one in
            record { variable = r.0.variable; number = r.0.element; at = r.2; guards = guards r.0 r.1 }

    -- loads of the words in which locals stand that are live at a node are answered, by what the thread's frame has
    pub frame_answered : (view : LogView) → HasView w n view → (node : ℕ) → IsFrameAnswered y.plan code.thread view node reading.around.loads
    frame_answered view has node local word live home =
        let own : IsOwnWord w.log n word = placed_here.words local word home in
        let is : IsFrameWord w.log own.word = record { frame = own.framed; exists = own.exists } in
        let small : live_value (frame_in w.log w.words n own.word) < 2 ^ 64 =
        subst (λ (j : ℕ). live_value (word_at w.words j) < 2 ^ 64) (sym (frame_in_log w.log n own.word))
        ((t.log.log.log.each (frame_index own.word) (frame_inside w.log own.word is)).values _) in
        let may : (reads word 8 && is_access w.log (length w.harts) word 8) ≡ true =
        and_from (reads word 8) _ (or_right (reads_all vs ones word 8) _ (own_read w.log n word own))
        (word_access w.log (length w.harts) n word placed_here.number own) in
        cond-true _ (Some (loaded w.words (byte_number word) 8)) None may
        ∙ ap Some (ap (λ (a : ℕ). loaded w.words (byte_number a) 8) own.is ∙ whole_load w.log w.words n own.word small ∙ has own.word is
        ∙ ap view.frame (sym own.is))

  -- at a call the thread reads its frame alone
  pub frame_guarded : (state : State) → AnswersGuarded y state n (reading [])
  frame_guarded state = answers_guarded [] state (λ one none. absurd (contains_none one none))

  pub frame_loaded : (b' : AbstractRun y) (c' : ThreadGhost) → AnswersLoaded y b' n c' (reading [])
  frame_loaded b' c' = loaded_by [] b' c' (λ address bytes one none. absurd (contains_none one none))

  -- ---- At a node

  module _ (going : IsGoing b.config n) (node : Node) (at : NodeAt (lowered (flat_of y)) graph_thread.at node) where
    abbrev pub ones : List Element
    ones = reads_of node.action seen

    reads_here : (one : Element) → Contains ones one → ReadsHere (flat_of y) (kept_of y b) b.config n one
    reads_here one of = record { going = going; graph_thread = graph_thread; found = t.walks; node = node; at = at; reads = of }

    pub guards_here : (one : Element) → Contains ones one → Guards (flat_of y) (now b.config) n one.variable one.element
    guards_here one of =
        let r = (resumed y s b).resumed in
        readers_guard (flat_of y) b.origin b.config b.schedule n one s.plan.formed r.invariant r.kept (reads_here one of)

    loaded_here : (one : Element) → Contains ones one → Loaded (source_of y.plan code.thread seen) (reading ones).around.loads one
    loaded_here one of it there within =
        let r = resumed y s b in
        let address : ℕ = variable_at (map shape_of vs) one.variable one.element in
        let bytes : ℕ = bytes_of it.kind in
        let access = element_access w.log vs (length w.harts) one.variable one.element it (room y s) there within in
        let may : (reads ones address bytes && is_access w.log (length w.harts) address bytes) ≡ true =
        and_from (reads ones address bytes) _ (or_left _ (reads_frame w.log n address bytes) (reads_there vs ones one it of there within)) access in
        let right =
        rerun_reads_nothing_overwritten.here (flat_of y) y.plan.boundaries b.origin b.config b.schedule n one s.plan.formed (cuts y s b)
        r.resumed.invariant r.resumed.kept (r.inside n) (reads_here one of) in
        let is_at : IsAtSpot (spots_of vs) one.variable one.element it.kind (byte_number address) =
        (addresses_reach w.log vs (length w.harts) one.variable one.element it (room y s) there within).at in
        let same : number_at (now b.config) one.variable one.element ≡ element_number seen.variables one.variable one.element =
        ap (λ (ns : List (List ℤ)). element_number ns one.variable one.element) (sym (matches_now y s b).variables) in
        let value : reduced it.kind (pos (loaded w.words (byte_number address) bytes)) ≡ element_number seen.variables one.variable one.element =
        memory_loaded (spots_of vs) w.words one.variable one.element it.kind (byte_number address) is_at
        ∙ ap (λ (m : Memory). live_number (history_at m one.variable one.element)) site.stands.memory ∙ right ∙ same in
        let number = number_loaded it.kind (loaded w.words (byte_number address) bytes) _ (loaded_below w.words (byte_number address) bytes) value in
        record {
          answer = cond-true _ (Some (loaded w.words (byte_number address) bytes)) None may ∙ ap Some number.0;
          held = number.1;
        }

    -- once the step there is begun, what it answers that reads
    pub node_loaded : (next : AbstractRun y) (new : ThreadGhost) → IsInAttempt y next.config n new →
        suc (attempt_of b.config n).done ≡ (attempt_of next.config n).done →
        ((one : Element) → IsReadAt (flat_of y) (kept_of y b) b.config.kept n (attempt_of b.config n).done one →
        IsReadAt (flat_of y) (kept_of y next) next.config.kept n (attempt_of b.config n).done one) → AnswersLoaded y next n new (reading ones)
    node_loaded next new goes longer still = loaded_by ones next new (λ address bytes one of element_at.
        let r = (resumed y s b).resumed in
        just_read (record {
          variable = one.variable;
          number = one.element;
          at = element_at;
          goes = goes;
          step = (attempt_of b.config n).done;
          last = longer;
          read = still one (read_here (flat_of y) b.origin b.config b.schedule n one s.plan.formed r.invariant r.kept (reads_here one of));
        }))

    -- where a boundary stands before it by choice, what it answers the node is to read
    pub ahead_loaded : IsChosen y.plan.graph y.plan.boundaries graph_thread.at → (new : ThreadGhost) → AnswersLoaded y b n new (reading ones)
    ahead_loaded chosen new = loaded_by ones b new (λ address bytes one of element_at.
        read_ahead one.variable one.element element_at (chosen_framed y s graph_thread.at node in_plan chosen seen one of)
        (record { graph_thread = graph_thread; found = t.walks; no_store = readers_store_none y s graph_thread.at node in_plan seen one of }))
      where
        in_plan : NodeAt y.plan.graph graph_thread.at node
        in_plan = subst (λ (g : Graph). NodeAt g graph_thread.at node) (sym s.plan.lowered) at

    -- loads of all that it reads are answered
    pub answered_here : IsAnswered (source_of y.plan code.thread seen) (reading ones).around.loads node.action
    answered_here =
        let good = now_good y s b in
        answered good (record { formed = s.plan.formed; matches = good.matches; graph_thread = graph_thread; found = t.walks; node = node; at = at })
        code.thread.kinds (reading ones).around.loads loaded_here
