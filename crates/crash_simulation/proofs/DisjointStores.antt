-- What a hart may store is in no other thread's log, and beside all that other threads read.
use Rattle.crash_simulation.proofs.Common.{◌≡◌, ◌≢◌, ℕ, List, ◌∷◌, sym, ◌∙◌, ap, arith, subst, true, Some, refl, ◌+◌, ◌<◌, length, inl, inr, slice_get}
use Rattle.crash_simulation.proofs.Common.{true≢false, ◌≤◌, ⊎_elim, ◌/◌, and_from, same_Some, AreEntries, byte_number, variable_at, log_words, Word, Entry}
use Rattle.crash_simulation.proofs.Common.{Step, Log, write_backs_raise, are_persisted_refl, bytes_of, Guards, IsWellFormedWorld, Hart, World, after_event}
use Rattle.crash_simulation.proofs.Common.{Effect, Stores, Slot, log_stays, MayMakeStore, IsWork, Queues, WritesBack, Makes, steps_work, by_size, now}
use Rattle.crash_simulation.proofs.Common.{MarkedEnvironment, log_word, IsElsewhere, IsNext, is_store, address_of, variables_are_apart, logs_are_apart, Agrees}
use Rattle.crash_simulation.proofs.Common.{is_width, IsApart, persisted_agrees, beside_agrees, others_leave, Code, AbstractRun, MayStore, nothing, in_log}
use Rattle.crash_simulation.proofs.Common.{element, System, IsSystem, flat_of, shapes_of, AnswersGuarded, IsGuarded}
use Rattle.crash_simulation.proofs.Common.{◌%◌, eqb-true, cases_order, of_element, of_frame, frame_at, frame_word, ◌⊎◌}
use Rattle.ido_base.specs.Growth.{ArePersisted}
use Rattle.ido_base.specs.Layout.{aligned}
use Rattle.log_schemes.specs.declared.locals.Locals.TheVariants.{Frame}
use Rattle.log_schemes.specs.SchemeFacts.{frame_index}
use Rattle.log_schemes.specs.Schemes.{locals_of}
use Rattle.log_states.proofs.Public.{frame_in_log, frame_inside}
use Rattle.crash_simulation.proofs.FrameWords.{frame_after, frame_whole}
use Rattle.variable_words.specs.MemoryEffects.{Rests}
use Rattle.crash_simulation.proofs.Elements.{room, variables_end, element_ends, element_below, elements_apart, log_after}

-- how many bytes an effect stores
abbrev width_of : Effect → ℕ
width_of (Stores address bytes value) = bytes
width_of effect = 0

-- the next instruction of a hart that makes a store
pub next_store : (program : List (List Slot)) (w : World) (h address bytes value : ℕ) (st : MayMakeStore program w h address bytes value) →
    IsNext program w h st.executes.hart (Stores address bytes value)
next_store program w h address bytes value st = grind (arith)

module _ (y : System) (s : IsSystem y) (w : World) (h : ℕ) (b : AbstractRun y)
    (logs : y.plan.log ≡ w.log)
    (stores_own : (hart : Hart) (effect : Effect) → IsNext y.runs.program w h hart effect → MayStore y b h effect) where
  abbrev after : World
  after = after_event y.runs.program w (Step h)

  -- ---- Logs

  module _ (n : ℕ) (other : h ≢ n) (address bytes value i : ℕ) (below : i < log_words w.log) where
    not_in_log : (effect : Effect) → effect ≡ Stores address bytes value → MayStore y b h effect → byte_number address / 8 ≢ log_word w.log n i
    not_in_log _ same (nothing effect none) = absurd (true≢false (sym (ap is_store same) ∙ none))
    not_in_log _ same (in_log a v k inside word) =
        subst (λ (x : ℕ). byte_number x / 8 ≢ log_word w.log n i) (ap address_of same)
        (λ meets. logs_are_apart w.log n h i k other below (subst (λ (l : Log). k < log_words l) logs inside)
        (sym (subst (λ (l : Log). byte_number a / 8 ≡ log_word l h k) logs word) ∙ meets))
    not_in_log _ same (element variable number v is there within guards) =
        subst (λ (x : ℕ). byte_number x / 8 ≢ log_word w.log n i) (ap address_of same)
        (variables_are_apart w.log n (variable_at (shapes_of y) variable number) i
        (element_below (flat_of y).variables (room y s) variable number is there within))

  -- the step stores nothing to another thread's log
  pub elsewhere : (n : ℕ) → h ≢ n → (named : List ℕ) → IsElsewhere y.runs.program w named h n
  elsewhere n other named hart address bytes value next i below meets =
      absurd (not_in_log n other address bytes value i below (Stores address bytes value) refl (stores_own hart (Stores address bytes value) next) meets)

  -- ---- What others read

  -- words of a log after the variables, of which one is another thread's, have no bytes in common
  words_apart : (log : Log) (n word address at count bytes : ℕ) → address % 8 ≡ 0 → variables_end ≤ address → at ≡ frame_at log n word → count ≡ 8 → bytes ≡ 8 →
      byte_number address / 8 ≢ frame_word log n word → (at + count ≤ address) ⊎ (address + bytes ≤ at)
  words_apart log n word address at count bytes whole after is eight size differ = elim (cases_order address at) [
    | inl same ↦ absurd (differ (ap (λ (x : ℕ). byte_number x / 8) (same ∙ is)))
    | inr (inl less) ↦ inr (apart_by less)
    | inr (inr more) ↦ inl (apart_from more)
  ]
    where
      at_whole : at % 8 ≡ 0
      at_whole = ap (λ (x : ℕ). x % 8) is ∙ frame_whole log n word

      apart_by : address < at → address + bytes ≤ at
      apart_by less = omega (arith, less, at_whole, whole, size)

      apart_from : at < address → at + count ≤ address
      apart_from more = omega (arith, more, at_whole, whole, eight)

  -- a store of a width that there is, beside all that the environment answers
  record IsAbstractAll (z : MarkedEnvironment) (address bytes : ℕ) : Type 0 where
    width : is_width bytes ≡ true
    apart : IsApart z address bytes

  module _ (code : Code y.plan) (other : h ≢ code.thread.number) (z : MarkedEnvironment) (answers : AnswersGuarded y (now b.config) code.thread.number z) where
    open code.thread use {number as n}

    answer_ends : (at count : ℕ) → IsGuarded y (now b.config) n at count → at + count ≤ variables_end
    answer_ends at count g =
        let e = g.at in
        omega (arith, element_ends (flat_of y).variables (room y s) g.variable g.number e.is e.there e.within, e.address_is, e.bytes_are)

    -- two threads guard no element both
    not_both : {at count v e : ℕ} (g : IsGuarded y (now b.config) n at count) → Guards (flat_of y) (now b.config) h v e → v ≡ g.variable → e ≡ g.number → ⊥
    not_both g own same equal = grind (arith, same_Some)

    module _ (address bytes value : ℕ) where
      abstract_all : aligned address bytes ≡ true → (effect : Effect) → effect ≡ Stores address bytes value → MayStore y b h effect →
          IsAbstractAll z address bytes
      abstract_all whole _ same (nothing effect none) = absurd (true≢false (sym (ap is_store same) ∙ none))
      abstract_all whole _ same (in_log a v k inside word) =
          let place : a ≡ address = ap address_of same in
          let size : 8 ≡ bytes = ap width_of same in
          record {
            width = subst (λ (x : ℕ). is_width x ≡ true) size refl;
            apart = λ at count found e. elim (answers at count found e) [
              | of_element g ↦ inl (omega (arith, answer_ends at count g, log_after y.plan.log a h k word, place))
              | of_frame own eight ↦
                  let whole_address : address % 8 ≡ 0 = subst (λ (x : ℕ). address % x ≡ 0) (sym size) (eqb-true (address % bytes) 0 whole) in
                  let here = subst (λ (l : Log). byte_number a / 8 ≡ log_word l h k) logs word in
                  let differ : byte_number address / 8 ≢ frame_word w.log n own.word =
                  (λ meets. logs_are_apart w.log n h (frame_index own.word) k other
                  (frame_inside w.log own.word (record { frame = subst (λ (l : Log). locals_of l ≡ Frame) logs own.framed; exists = own.exists }))
                  (subst (λ (l : Log). k < log_words l) logs inside)
                  (sym here ∙ (ap (λ (x : ℕ). byte_number x / 8) place ∙ (meets ∙ frame_in_log w.log n own.word)))) in
                  words_apart w.log n own.word address at count bytes whole_address (omega (arith, log_after y.plan.log a h k word, place))
                  (subst (λ (l : Log). at ≡ frame_at l n own.word) logs own.is) eight (sym size) differ
            ];
          }
      abstract_all whole _ same (element variable number v is there within guards) =
          let place : variable_at (shapes_of y) variable number ≡ address = ap address_of same in
          let size : bytes_of is.kind ≡ bytes = ap width_of same in
          record {
            width = subst (λ (x : ℕ). is_width x ≡ true) size (by_size (λ x. is_width x ≡ true) refl refl refl refl is.kind);
            apart = λ at count found e. elim (answers at count found e) [
              | of_element g ↦
                  let its = g.at in
                  ⊎_elim (λ l. inl (omega (arith, l, place, its.address_is, its.bytes_are))) (λ l. inr (omega (arith, l, place, size, its.address_is)))
                  (elements_apart (flat_of y).variables (room y s) {v = g.variable} {e = g.number} {i = variable} {j = number}
                  (record { is = its.is; there = its.there; within = its.within }) (record { is = is; there = there; within = within })
                  (not_both g guards))
              | of_frame own eight ↦
                  let ends = element_ends (flat_of y).variables (room y s) variable number is there within in
                  inr (omega (arith, ends, place, size, frame_after y.plan.log n own.word, own.is))
            ];
          }

    module _ (sound : IsWellFormedWorld w) (agrees : Agrees y.runs.program w n z) where
      count : length after.harts ≡ length w.harts
      count = (others_leave y.runs.program w n (Step h) sound other).1

      persisted_on : ArePersisted w.words after.words → Agrees y.runs.program after n z
      persisted_on persisted = persisted_agrees y.runs.program w after n z count (log_stays y.runs.program w (Step h) sound) persisted agrees

      same_on : after.words ≡ w.words → Agrees y.runs.program after n z
      same_on same = persisted_on (subst (λ (ws : List Word). ArePersisted w.words ws) (sym same) (are_persisted_refl w.words))

      worked_on : (hart : Hart) (queue : List Entry) → slice_get w.harts h ≡ Some hart → IsWork y.runs.program w h after.words hart.queue queue →
          Agrees y.runs.program after n z
      worked_on hart queue here (Rests same q) = same_on same
      worked_on hart queue here (Queues line same q) = same_on same
      worked_on hart queue here (WritesBack e is q) =
          let entries : AreEntries w.words (e ∷ queue) = subst (λ (es : List Entry). AreEntries w.words es) q (sound.queues h hart here) in
          persisted_on (subst (λ (ws : List Word). ArePersisted w.words ws) (sym is) (write_backs_raise w.words e entries.0))
      worked_on hart queue here (Makes address bytes value st is q) =
          let may = stores_own st.executes.hart (Stores address bytes value) (next_store y.runs.program w h address bytes value st) in
          let all = abstract_all address bytes value st.is_aligned (Stores address bytes value) refl may in
          beside_agrees y.runs.program w after n z address bytes value count (log_stays y.runs.program w (Step h) sound) is
          (and_from (is_width bytes) _ all.width (and_from _ _ st.inside st.is_aligned)) all.apart agrees

      -- memory goes on to agree with what another thread reads
      pub agrees_after : (hart : Hart) → slice_get w.harts h ≡ Some hart → Agrees y.runs.program after n z
      agrees_after hart here = let does = steps_work y.runs.program w h hart here in worked_on hart does.after.queue here does.work
