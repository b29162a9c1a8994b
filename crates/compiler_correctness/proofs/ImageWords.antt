-- The words of variables and logs are all of an image: no hart of a compiled program stores between them.
use Rattle.std.proofs.Common.{◌≡◌, refl, ℕ, List, [], ◌∷◌, sym, subst, true, ◌≢◌, inl, inr, zero, suc, ◌*◌, ◌/◌, ◌<◌, ◌≤◌, length, map, drop, get_or, replicate}
use Rattle.std.proofs.Common.{ap, ap₂, arith, ◌∙◌, Some, ◌+◌, ◌-◌, ◌++◌, take, slice_get}
use Rattle.std.proofs.lemmas.Bool.{true≢false, cases_lt}
use Rattle.machine_events.specs.declared.event.Event.{Event}
use Rattle.machine_model.specs.declared.phase.Phase.{Phase}
use Rattle.machine_model.specs.declared.phase.Phase.TheVariants.{Run}
use Rattle.rv64_isa.specs.Rows.{Effect, Stores}
use Rattle.machine_model.specs.Machine.{Hart, World, after_event, after_events, happens, start_of}
use Rattle.machine_model.proofs.Public.{after_start}
use Rattle.machine_model.specs.Schedule.{is_running}
use Rattle.hart_runs.specs.Calls.{IsInPhase}
use Rattle.log_states.specs.Machines.{IsNext}
use Rattle.crash_simulation.specs.Systems.{System, IsSystem, flat_of, shapes_of}
use Rattle.crash_simulation.specs.AbstractRuns.{AbstractRun}
use Rattle.crash_simulation.specs.SimulationRelation.{Simulates}
use Rattle.crash_simulation.specs.Laws.{EventsStand}
use Rattle.crash_simulation.specs.InstructionSteps.{MayStore, FragmentsStep, CoresStep, LocalStoresStep, nothing, in_log, element}
use Rattle.crash_simulation.proofs.Public.{own_by, runs_ready, start_simulates, next_store, not_there}
use Rattle.std.proofs.lemmas.List.{get_or-map, get_or_past, length-map, length-drop, get_or_append_left, take-append-drop, drop-drop, get_or-drop}
use Rattle.std.proofs.lemmas.List.{length-take-le, length-append, append_assoc}
use Rattle.log_schemes.specs.declared.log.Log.{Log}
use Rattle.ido_base.specs.declared.limits.TheConstants.{MOST_VARIABLE_BYTES, VARIABLE_WORDS}
use Rattle.machine_events.specs.declared.event.Event.TheVariants.{Step, Evict, Crash, Start}
use Rattle.ido_base.specs.Words.{Word, Entry, word_of, word_at, durable_value, last_position}
use Rattle.ido_base.specs.Layout.{byte_number, words_of_bytes, end_from, spread_words}
use Rattle.log_schemes.specs.Layout.{log_words, initial_words, word_count}
use Rattle.ido_base.specs.Growth.{IsPersisted, ArePersisted, AreEntries}
use Rattle.ido_base.proofs.Public.{word_other, write_backs_raise, evictions_raise}
use Rattle.ido_ints.specs.Kinds.{bytes_of}
use Rattle.c_tree.specs.WellFormed.{elements_in, shape_of}
use Rattle.memory_layout.specs.Variables.{HaveRoom}
use Rattle.variable_words.proofs.Public.{some_bytes, well_formed_placed, within_end, next_element, number_is, steps_work}
use Rattle.variable_words.specs.MemoryEffects.{IsWork, Rests, Queues, WritesBack, Makes}
use Rattle.machine_model.specs.Executables.{first_world}
use Rattle.flow_graph.proofs.Public.{get_cases}
use Rattle.log_states.specs.Stages.{is_store}
use Rattle.log_states.proofs.Public.{address_of, beyond_variables, word_of_log}
use Rattle.hart_runs.proofs.Public.{crashes_step}
use Rattle.compiler_correctness.specs.Laws.{WordsBetweenStay, translation_of, FilesAreImages, FilesAreResumed, ImagesAreResumed}
use Rattle.std.proofs.Math.Seq.{take-append_seam, drop-append_seam}
use Rattle.compiler_correctness.specs.Translations.{world}
use Rattle.compiler_correctness.specs.Images.{Image, image_of, variable_words, IsInFile, IsResumedAsKept}

-- ---- Machines of compiled programs along events, and what their harts store

pub stands_along : EventsStand → (y : System) (s : IsSystem y) (events : List Event) (w : World) → Simulates y s w →
    Simulates y s (after_events y.runs.program w events)
stands_along stand y s [] w stands = stands
stands_along stand y s (event ∷ events) w stands = stands_along stand y s events (after_event y.runs.program w event) (stand y s w event stands)

pub is_run : (phase : Phase) → is_running phase ≡ true → phase ≡ Run
is_run Run e = refl
is_run phase e = absurd (true≢false (sym e))

module _ (fragments_step : FragmentsStep) (cores_step : CoresStep) (local_stores_step : LocalStoresStep) (y : System) (s : IsSystem y) (w : World) (g : ℕ) where
  -- a hart stores what its thread may
  pub stores_own : (stands : Simulates y s w) (hart : Hart) (effect : Effect) → IsNext y.runs.program w g hart effect → MayStore y stands.abstract g effect
  stores_own stands hart effect is =
      let i : IsInPhase w g Run = record { hart = hart; here = is.here; phase_is = is_run hart.phase is.runs } in
      let r = runs_ready y s w g stands i in
      subst (λ (b : AbstractRun y). MayStore y b g effect) r.similar.abstract
      ((own_by fragments_step cores_step local_stores_step y s w g r.site i r.ready).stores_own hart effect is)

-- ---- No hart stores between the variables and the logs

-- ---- Words that are 0

-- a word without a past is still such where it is persisted
persisted_zero : (old new : Word) → IsPersisted old new → old ≡ word_of 0 → new ≡ word_of 0
persisted_zero old new r zero_before =
    let last : last_position old ≡ 0 = ap last_position zero_before in
    let durable : old.durable ≡ 0 = ap (λ (u : Word). u.durable) zero_before in
    let no_higher = r.no_higher (omega (arith, durable)) in
    let still : new.durable ≡ 0 = omega (arith, no_higher, last) in
    ap₂ (λ (values : List ℕ) (position : ℕ). record { values = values; durable = position }) (r.values ∙ ap (λ (u : Word). u.values) zero_before) still

are_persisted_zero : (old new : List Word) (j : ℕ) → ArePersisted old new → word_at old j ≡ word_of 0 → word_at new j ≡ word_of 0
are_persisted_zero old new j r zero_before = persisted_zero (word_at old j) (word_at new j) (r.each j) zero_before

-- after the bytes that are given all words are 0
zero_after : (bytes : List ℕ) (count j : ℕ) → length bytes ≤ 8 * j → get_or (words_of_bytes bytes count) j 0 ≡ 0
zero_after bytes zero j after = refl
zero_after [] (suc count) zero after = refl
zero_after (b ∷ bytes) (suc count) zero after = absurd (omega (arith, after))
zero_after bytes (suc count) (suc j) after =
    let fewer = length-drop 8 bytes in
    zero_after (drop 8 bytes) count j (omega (arith, after, fewer))

length-words : (bytes : List ℕ) (count : ℕ) → length (words_of_bytes bytes count) ≡ count
length-words bytes zero = refl
length-words bytes (suc count) = let more = length-words (drop 8 bytes) count in omega (arith, more)

initial_zero : (log : Log) (threads : ℕ) (bytes : List ℕ) (j : ℕ) → length bytes ≤ 8 * j → j < VARIABLE_WORDS → get_or (initial_words log threads bytes) j 0 ≡ 0
unfolding initial_words
initial_zero log threads bytes j after below =
    let many = length-words bytes VARIABLE_WORDS in
    get_or_append_left (words_of_bytes bytes VARIABLE_WORDS) (replicate (log_words log * threads) 0) 0 j (omega (arith, many, below))
    ∙ zero_after bytes VARIABLE_WORDS j after

word_zero : (log : Log) (threads : ℕ) (bytes : List ℕ) (j : ℕ) → length bytes ≤ 8 * j → j < VARIABLE_WORDS →
    word_at (map word_of (initial_words log threads bytes)) j ≡ word_of 0
word_zero log threads bytes j after below = elim (cases_lt j (length (initial_words log threads bytes))) [
  | inl inside ↦
      get_or-map word_of (initial_words log threads bytes) j 0 (word_of 0) inside ∙ ap word_of (initial_zero log threads bytes j after below)
  | inr past ↦ get_or_past (map word_of (initial_words log threads bytes)) j (word_of 0)
      (omega (arith, past, length-map (initial_words log threads bytes) word_of))
]

module _ (y : System) (s : IsSystem y) where
  room : HaveRoom (map shape_of (flat_of y).variables)
  room = (well_formed_placed (flat_of y) s.plan.formed).room

  -- the initial bytes are whole words, and hold all variables
  pub whole_words : 8 * (length y.runs.initial / 8) ≡ length y.runs.initial
  whole_words = let size = s.initial.size in omega (arith, size)

  pub holds_variables : end_from 0 (shapes_of y) ≤ length y.runs.initial
  holds_variables = let size = s.initial.size in omega (arith, size)

  pub holds_no_more : length y.runs.initial ≤ MOST_VARIABLE_BYTES
  holds_no_more = let size = s.initial.size in let most = room in omega (arith, size, most)

  -- ---- What a hart stores

  module _ (fragments_step : FragmentsStep) (cores_step : CoresStep) (local_stores_step : LocalStoresStep) where
    module _ (j : ℕ) (from : length y.runs.initial / 8 ≤ j) (below : j < VARIABLE_WORDS) where
      -- a hart stores to the variables and to logs alone
      elsewhere : (b : AbstractRun y) (g address bytes value : ℕ) (effect : Effect) → effect ≡ Stores address bytes value → MayStore y b g effect →
          j ≢ byte_number address / 8
      elsewhere b g address bytes value _ same (nothing effect none) = absurd (true≢false (sym (ap is_store same) ∙ none))
      elsewhere b g address bytes value _ same (in_log a v k inside word) =
          subst (λ (x : ℕ). j ≢ byte_number x / 8) (ap address_of same) (λ meets.
          let beyond = beyond_variables y.plan.log g k in
          let place = word_of_log y.plan.log g k in
          omega (arith, meets, word, place, beyond, below))
      elsewhere b g address bytes value _ same (element variable number v is there within guards) =
          subst (λ (x : ℕ). j ≢ byte_number x / 8) (ap address_of same) (λ meets.
          let place = number_is (flat_of y).variables variable number is room there (omega (arith, within)) in
          let ends = within_end 0 (flat_of y).variables variable is there in
          let next = next_element (bytes_of is.kind) number (elements_in is.length) within in
          let some = some_bytes is.kind in
          omega (arith, meets, place, ends, next, some, whole_words, holds_variables, from))

      abbrev IsZero : World → Type 0
      IsZero w = word_at w.words j ≡ word_of 0

      -- ---- At each event

      worked : (w : World) (g : ℕ) (hart : Hart) (queue : List Entry) → Simulates y s w → slice_get w.harts g ≡ Some hart →
          IsWork y.runs.program w g (after_event y.runs.program w (Step g)).words hart.queue queue → IsZero w → IsZero (after_event y.runs.program w (Step g))
      worked w g hart queue stands here (Rests same q) z = ap (λ (ws : List Word). word_at ws j) same ∙ z
      worked w g hart queue stands here (Queues line same q) z = ap (λ (ws : List Word). word_at ws j) same ∙ z
      worked w g hart queue stands here (WritesBack e is q) z =
          let entries : AreEntries w.words (e ∷ queue) = subst (λ (es : List Entry). AreEntries w.words es) q (stands.machine.sound.queues g hart here) in
          ap (λ (ws : List Word). word_at ws j) is ∙ are_persisted_zero w.words _ j (write_backs_raise w.words e entries.0) z
      worked w g hart queue stands here (Makes address bytes value st is q) z =
          let may =
          stores_own fragments_step cores_step local_stores_step y s w g stands st.executes.hart (Stores address bytes value)
          (next_store y.runs.program w g address bytes value st) in
          ap (λ (ws : List Word). word_at ws j) is
          ∙ (word_other w.words (byte_number address / 8) j _
          (elsewhere stands.abstract g address bytes value (Stores address bytes value) refl may) ∙ z)

      stays_zero : (w : World) (event : Event) → Simulates y s w → IsZero w → IsZero (after_event y.runs.program w event)
      unfolding happens
      stays_zero w (Step g) stands z = elim (get_cases w.harts g) [
        | inl missing ↦ ap (λ (v : World). word_at v.words j) (sym (not_there y w g missing)) ∙ z
        | inr there ↦
            let does = steps_work y.runs.program w g there.0 there.1 in
            worked w g there.0 does.after.queue stands there.1 does.work z
      ]
      stays_zero w (Evict line mask) stands z = are_persisted_zero w.words _ j (evictions_raise w.words line mask) z
      stays_zero w Crash stands z = (crashes_step y.runs.program w).words j ∙ ap (λ (u : Word). word_of (durable_value u)) z
      stays_zero w Start stands z = after_start y.runs.program w IsZero z z

      zero_along : EventsStand → (events : List Event) (w : World) → Simulates y s w → IsZero w → IsZero (after_events y.runs.program w events)
      zero_along stand [] w stands z = z
      zero_along stand (event ∷ events) w stands z =
          zero_along stand events (after_event y.runs.program w event) (stand y s w event stands) (stays_zero w event stands z)

      zero_first : IsZero (first_world y.runs)
      unfolding start_of
      zero_first = let whole = whole_words in word_zero y.runs.log (length y.runs.program) y.runs.initial j (omega (arith, whole, from)) below

pub words_between_stay : EventsStand → FragmentsStep → CoresStep → LocalStoresStep → WordsBetweenStay
words_between_stay stand fragments_step cores_step local_stores_step y s events word from below =
    zero_along y s fragments_step cores_step local_stores_step word from below stand events (first_world y.runs) (start_simulates y s)
    (zero_first y s fragments_step cores_step local_stores_step word from below)

-- ---- The words of variables and logs are all of an image

-- ---- Zeros between others

zeros_are : (count : ℕ) (xs : List ℕ) → count ≤ length xs → ((i : ℕ) → i < count → get_or xs i 0 ≡ 0) → take count xs ≡ replicate count 0
zeros_are zero xs there each = refl
zeros_are (suc count) [] there each = absurd (omega (arith, there))
zeros_are (suc count) (x ∷ xs) there each =
    ap₂ (λ (z : ℕ) (zs : List ℕ). z ∷ zs) (each 0 (omega arith)) (zeros_are count xs (omega (arith, there)) (λ i below. each (suc i) (omega (arith, below))))

-- the first words and those from VARIABLE_WORDS on make up all words, where those between are 0
spread : (n : ℕ) (ws : List ℕ) → n ≤ VARIABLE_WORDS → VARIABLE_WORDS ≤ length ws → ((i : ℕ) → n ≤ i → i < VARIABLE_WORDS → get_or ws i 0 ≡ 0) →
    spread_words n (take n ws ++ drop VARIABLE_WORDS ws) ≡ ws
unfolding spread_words
spread n ws few many between =
    let prefix : length (take n ws) ≡ n = length-take-le n ws (omega (arith, few, many)) in
    let rest = length-drop n ws in
    let sum : n + (VARIABLE_WORDS - n) ≡ VARIABLE_WORDS = omega (arith, few) in
    let after : drop (VARIABLE_WORDS - n) (drop n ws) ≡ drop VARIABLE_WORDS ws = drop-drop (VARIABLE_WORDS - n) n ws ∙ ap (λ (k : ℕ). drop k ws) sum in
    let zeros : take (VARIABLE_WORDS - n) (drop n ws) ≡ replicate (VARIABLE_WORDS - n) 0 =
    zeros_are (VARIABLE_WORDS - n) (drop n ws) (omega (arith, rest, many)) (λ i below.
    get_or-drop n ws i 0 ∙ between (n + i) (omega arith) (omega (arith, below))) in
    let own : take n (take n ws ++ drop VARIABLE_WORDS ws) ≡ take n ws =
    ap (λ (k : ℕ). take k (take n ws ++ drop VARIABLE_WORDS ws)) (sym prefix) ∙ take-append_seam (take n ws) (drop VARIABLE_WORDS ws) in
    let logs : drop n (take n ws ++ drop VARIABLE_WORDS ws) ≡ drop VARIABLE_WORDS ws =
    ap (λ (k : ℕ). drop k (take n ws ++ drop VARIABLE_WORDS ws)) (sym prefix) ∙ drop-append_seam (take n ws) (drop VARIABLE_WORDS ws) in
    ap₂ (λ (us vs : List ℕ). us ++ replicate (VARIABLE_WORDS - n) 0 ++ vs) own logs
    ∙ (ap₂ (λ (us vs : List ℕ). take n ws ++ us ++ vs) (sym zeros) (sym after)
    ∙ (append_assoc (take n ws) (take (VARIABLE_WORDS - n) (drop n ws)) (drop (VARIABLE_WORDS - n) (drop n ws))
    ∙ ap (λ (us : List ℕ). take n ws ++ us) (take-append-drop (VARIABLE_WORDS - n) (drop n ws)) ∙ take-append-drop n ws))

-- ---- Images

module _ (stand : EventsStand) (stay : WordsBetweenStay) (y : System) (s : IsSystem y) (events : List Event) where
  abbrev words : List Word
  words = (world (translation_of y) events).words

  abbrev image : Image
  image = image_of (translation_of y) events

  abbrev n : ℕ
  n = variable_words (translation_of y)

  few : n ≤ VARIABLE_WORDS
  few = let most = holds_no_more y s in omega (arith, most)

  size : length image.words ≡ VARIABLE_WORDS + log_words y.runs.log * length y.runs.program
  size =
      let stands = stands_along stand y s events (first_world y.runs) (start_simulates y s) in
      let stands_world = world (translation_of y) events in
      let programs : length stands_world.harts ≡ length y.runs.program = stands.machine.count ∙ sym s.count in
      let logs : stands_world.log ≡ y.runs.log = sym stands.machine.log ∙ s.log in
      let all : length words ≡ word_count y.runs.log (length y.runs.program) =
      stands.machine.sound.size ∙ (ap (λ (l : Log). word_count l (length stands_world.harts)) logs ∙ ap (word_count y.runs.log) programs) in
      let mapped = length-map words durable_value in
      omega (arith, all, mapped)

  between : (i : ℕ) → n ≤ i → i < VARIABLE_WORDS → get_or image.words i 0 ≡ 0
  between i from below =
      let mapped = length-map words durable_value in
      get_or-map durable_value words i (word_of 0) 0 (omega (arith, size, mapped, below)) ∙ ap durable_value (stay y s events i from below)

  in_file : IsInFile (translation_of y) image
  in_file =
      let all = size in
      let prefix = length-take-le n image.words (omega (arith, all, few)) in
      let logs = length-drop VARIABLE_WORDS image.words in
      let both = length-append (take n image.words) (drop VARIABLE_WORDS image.words) in
      record {
        size = omega (arith, prefix, logs, both, all);
        is_all =
            ap (λ (ws : List ℕ). record { words = ws; kept = image.kept })
            (spread n image.words few (omega (arith, all)) between);
      }

pub files_are_images : EventsStand → WordsBetweenStay → FilesAreImages
files_are_images stand stay y s events = in_file stand stay y s events

pub files_are_resumed : FilesAreImages → ImagesAreResumed → FilesAreResumed
files_are_resumed files images y s before events =
    let c = translation_of y in
    subst (λ (image : Image). IsResumedAsKept c image events) (sym (files y s before).is_all) (images y s before events)
