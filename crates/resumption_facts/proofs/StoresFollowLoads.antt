-- A hart stores to no byte that it has loaded on the way from where it would be resumed, unless it had stored to that byte before; and to its own frame it
-- stores where it would be resumed.
use Rattle.std.proofs.Common.{◌≡◌, ◌≢◌, inl, inr, refl, ℕ, ◌+◌, ◌*◌, ◌/◌, ◌<◌, ◌≤◌, ◌∷◌, ap, sym, ◌∙◌, subst, Option, Some, false, arith, slice_get}
use Rattle.std.proofs.lemmas.Bool.{true≢false}
use Rattle.std.proofs.lemmas.Option.{same_Some}
use Rattle.ido_base.specs.Layout.{byte_number, word_number}
use Rattle.log_schemes.specs.declared.log.Log.{Log}
use Rattle.log_schemes.specs.Layout.{log_of, point_at}
use Rattle.log_schemes.specs.SchemeFacts.{frame_index}
use Rattle.rv64_isa.specs.Rows.{Stores}
use Rattle.machine_model.specs.Machine.{Hart, World, live_at, resume_of}
use Rattle.flow_graph.specs.Actions.{GraphThread}
use Rattle.flow_graph.specs.IdempotentCuts.{IsStoreNode}
use Rattle.hart_runs.proofs.Public.{same_there}
use Rattle.log_states.specs.Logs.{IsFrameWord, log_word}
use Rattle.log_states.specs.Machines.{CleansLine, IsLogEffect, IsNext, PassesFence, StoresWord, config_of}
use Rattle.log_states.specs.Stages.{LogConfig, is_store}
use Rattle.log_states.proofs.Public.{address_of, boundaries_stay_in, ends, frame_in_log, scheme, word_of_log}
use Rattle.recovery_semantics.specs.Attempts.{Writes}
use Rattle.thread_runs.specs.Laws.{FragmentsGoOn, MarksPass}
use Rattle.crash_simulation.specs.Accesses.{Access, load}
use Rattle.crash_simulation.specs.AccountRelation.{MachinesResume}
use Rattle.crash_simulation.specs.InstructionSteps.{CoresStep, FragmentsStep, LocalStoresStep, Site}
use Rattle.crash_simulation.specs.SimulationRelation.{Simulates}
use Rattle.crash_simulation.specs.Systems.{System, IsSystem, flat_of}
use Rattle.crash_simulation.specs.ThreadGhosts.{IsByteOf, IsFrameByte, IsLoadedFirst, IsReadAhead, IsReadFirst, ReadsAt, in_own_frame, loaded_ahead, read_first}
use Rattle.crash_simulation.proofs.Public.{element_ends, elements_apart, log_after, not_recorded, room, same_number, stored_for, view}
use Rattle.compiler_correctness.specs.Laws.{translation_of}
use Rattle.compiler_correctness.specs.Translations.{world}
use Rattle.resumption_facts.specs.StoresFollowReads.{FrameIsStoredAtResumption, IsResumedHere, NoLoadIsOverwritten}
use Rattle.resumption_facts.proofs.AccessesAlong.{accesses_told}
use Rattle.resumption_facts.proofs.BanksBeforePoints.{holds, ready_now}
use Rattle.resumption_facts.proofs.OwnStores.{IsInBoundary, IsStored, IsToElement, IsToFrame, bytes_stored, in_boundary, own_store, to_element, to_frame}

module _ {y : System} {s : IsSystem y} {w : World} {h : ℕ} (site : Site y s w h) (byte address bytes : ℕ) (from : address ≤ byte)
    (to : byte < address + bytes) where
  open site use {stands}
  open view site use {b, c, t, n, graph_thread}

  -- what a boundary stores is a word of the log
  in_log : (value : ℕ) → IsInBoundary site (Stores address bytes value) → IsLogEffect w.log n (Stores address bytes value)
  in_log value i =
      (boundaries_stay_in w.log n i.old i.new (config_of w i.hart (Stores address bytes value ∷ i.later)) (Stores address bytes value) i.later i.log refl).0

  -- ---- A byte of an element

  module _ (variable number : ℕ) (of : IsByteOf y variable number byte) where
    -- it is of no other one
    other_element : (e : IsToElement site address bytes) → (e.variable ≡ variable → e.number ≡ number → ⊥) → ⊥
    other_element e apart =
        let mine = of.at in
        let its = e.at in
        elim (elements_apart (flat_of y).variables (room y s) {v = variable} {e = number} {i = e.variable} {j = e.number}
        (record { is = mine.is; there = mine.there; within = mine.within }) (record { is = its.is; there = its.there; within = its.within }) apart) [
          | inl before ↦ omega (arith, before, mine.address_is, mine.bytes_are, its.address_is, from, of.to)
          | inr after ↦ omega (arith, after, mine.address_is, its.address_is, its.bytes_are, to, of.from)
        ]

    -- a log stands after the variables
    log_effect : (value : ℕ) → IsLogEffect w.log n (Stores address bytes value) → ⊥
    log_effect value (StoresWord i stored below same) =
        let mine = of.at in
        let at : address ≡ log_of w.log n + 8 * i = ap address_of same in
        let word : byte_number address / 8 ≡ log_word w.log n i = ap (λ (a : ℕ). byte_number a / 8) at ∙ word_of_log w.log n i in
        omega (
          arith,
          log_after w.log address n i word,
          element_ends (flat_of y).variables (room y s) variable number mine.is mine.there mine.within,
          mine.address_is,
          mine.bytes_are,
          of.to,
          from,
        )
    log_effect value (CleansLine i below same) = true≢false (ap is_store same)
    log_effect value (PassesFence same) = true≢false (ap is_store same)

  -- ---- A byte that its hart has loaded first

  -- an element that the thread's next step stores has been stored before it was read
  not_read : (f : IsReadFirst y b n c byte) (e : IsToElement site address bytes) → e.variable ≡ f.variable → e.number ≡ f.number → ⊥
  not_read f e same equal =
      let low = f.below in
      let read : ReadsAt y b n f.step e.variable e.number = coe 1 0 (i. ReadsAt y b n f.step (same i) (equal i)) f.read in
      f.unwritten (coe 0 1 (i. Writes b.config.kept n f.step (same i) (equal i)) (e.follows f.step (omega (arith, low)) read))

  -- nor is one stored that is loaded ahead of a step
  not_ahead : IsReadAhead y b n c byte → IsToElement site address bytes → ⊥
  not_ahead a e = elim a.since [
    | inl still ↦
        let same : still.graph_thread ≡ graph_thread =
        same_Some still.graph_thread graph_thread (sym still.found ∙ t.walks) in
        still.no_store (subst (λ (x : GraphThread). IsStoreNode y.plan.graph x.at) (sym same) e.stands.stores)
    | inr begun ↦ let none = e.stands.fresh a.framed in let some = begun.1 in omega (arith, none, some)
  ]

  pub not_stored : (value : ℕ) → IsLoadedFirst y b n c byte → ¬ (IsFrameByte w.log n byte) → IsStored site address bytes value → ⊥
  not_stored value (read_first f) outside (to_element e) = other_element f.variable f.number f.of e (not_read f e)
  not_stored value (read_first f) outside (in_boundary i) = log_effect f.variable f.number f.of value (in_log value i)
  not_stored value (loaded_ahead a) outside (to_element e) = not_ahead a e
  not_stored value (loaded_ahead a) outside (in_boundary i) = log_effect a.variable a.number a.of value (in_log value i)
  not_stored value (in_own_frame f) outside stored = outside (subst (λ (l : Log). IsFrameByte l n byte) stands.machine.log f)
  not_stored value first outside (to_frame f) = outside (record {
    address = address;
    own = record { framed = f.framed.frame; word = f.own; exists = f.framed.exists; is = f.address_is };
    from = from;
    to = let wide = f.bytes_are in omega (arith, to, wide);
  })

  -- ---- A byte of its frame

  module _ (f : IsFrameByte w.log n byte) where
    framed : IsFrameWord w.log f.own.word
    framed = record { frame = f.own.framed; exists = f.own.exists }

    frame_is : f.address ≡ log_of w.log n + 8 * frame_index f.own.word
    frame_is = f.own.is ∙ (scheme w.log).frame.address n f.own.word

    -- the frame stands after the variables
    no_element : IsToElement site address bytes → ⊥
    no_element e =
        let its = e.at in
        let word : byte_number f.address / 8 ≡ log_word w.log n (frame_index f.own.word) =
        ap (λ (a : ℕ). byte_number a / 8) f.own.is ∙ frame_in_log w.log n f.own.word in
        omega (
          arith,
          log_after w.log f.address n (frame_index f.own.word) word,
          element_ends (flat_of y).variables (room y s) e.variable e.number its.is its.there its.within,
          its.address_is,
          its.bytes_are,
          f.from,
          to,
        )

    -- and no boundary stores to it
    same_word : (value : ℕ) → IsLogEffect w.log n (Stores address bytes value) → word_number f.address ≡ word_number address
    same_word value (StoresWord i stored below same) =
        let at : address ≡ log_of w.log n + 8 * i = ap address_of same in
        let wide : bytes ≡ 8 = ap bytes_stored same in
        let one : frame_index f.own.word ≡ i = omega (arith, frame_is, at, wide, from, to, f.from, f.to) in
        ap word_number (frame_is ∙ ap (λ (k : ℕ). log_of w.log n + 8 * k) one ∙ sym at)
    same_word value (CleansLine i below same) = absurd (true≢false (ap is_store same))
    same_word value (PassesFence same) = absurd (true≢false (ap is_store same))

    no_boundary : (value : ℕ) → IsInBoundary site (Stores address bytes value) → ⊥
    no_boundary value i =
        let m : LogConfig = config_of w i.hart (Stores address bytes value ∷ i.later) in
        not_recorded w.log n i.new f.own.word (word_number address) i.log.follows.new_is framed
        (stored_for w.log n i.old i.new m i.log address bytes value i.later refl i.log.stage)
        (ap word_number (sym f.own.is) ∙ same_word value (in_log value i))

    -- it has no point, or resumes the hart there
    resumed_there : c.late ≡ false → IsToFrame site address bytes → live_at w.words (point_at w.log n) ≢ 0 →
        t.log.hart.pc ≡ resume_of (live_at w.words (point_at w.log n))
    resumed_there on_time to some =
        let live : live_at w.words (point_at w.log n) ≡ c.new.point =
        (ends w.log n c.old c.new (config_of w t.log.hart c.rest) t.log.log to.over).point.live in
        elim (to.stands on_time) [
          | inl none ↦ absurd (some (live ∙ none))
          | inr here ↦ here ∙ ap resume_of (sym live)
        ]

    pub is_resumed : c.late ≡ false → (value : ℕ) → IsStored site address bytes value → live_at w.words (point_at w.log n) ≢ 0 →
        t.log.hart.pc ≡ resume_of (live_at w.words (point_at w.log n))
    is_resumed on_time value (to_element e) some = absurd (no_element e)
    is_resumed on_time value (in_boundary i) some = absurd (no_boundary value i)
    is_resumed on_time value (to_frame to) some = resumed_there on_time to some

-- ---- After any events

pub no_load_is_overwritten : FragmentsStep → CoresStep → LocalStoresStep → FragmentsGoOn → MarksPass → NoLoadIsOverwritten
no_load_is_overwritten fragments_step cores_step local_stores_step law marks y s events h hart address bytes value next byte from to outside is =
    let w = world (translation_of y) events in
    let told = accesses_told y s fragments_step cores_step local_stores_step law events in
    let stands : Simulates y s w = told.stands in
    let r = ready_now y s w stands h hart (Stores address bytes value) next in
    let site = r.site in
    let first : (view site).c.first_accesses byte ≡ Some load =
    ap (λ (m : ℕ → Option Access). m byte) (r.similar.same h).accesses ∙ (told.first h byte ∙ is) in
    not_stored site byte address bytes from to value ((view site).t.has_read.read byte first)
    (λ framed. outside (subst (λ (n : ℕ). IsFrameByte w.log n byte) (same_number site) framed))
    (own_store site hart address bytes value (subst (λ (n : ℕ). IsNext y.runs.program w n hart (Stores address bytes value)) (sym (same_number site)) next)
    law marks (holds y s w stands h hart (Stores address bytes value) next) r.ready)

pub frame_is_stored_at_resumption : MachinesResume → FragmentsGoOn → MarksPass → FrameIsStoredAtResumption
frame_is_stored_at_resumption machines law marks y s events h hart address bytes value next byte from to framed =
    let w = world (translation_of y) events in
    let stands : Simulates y s w = (machines y s events).is.stands in
    let r = ready_now y s w stands h hart (Stores address bytes value) next in
    let site = r.site in
    let number = same_number site in
    let own_next = subst (λ (n : ℕ). IsNext y.runs.program w n hart (Stores address bytes value)) (sym number) next in
    let same : (view site).t.log.hart ≡ hart =
    same_there (slice_get w.harts (view site).n) (view site).t.log.hart hart (view site).t.log.here own_next.here in
    let stored =
    own_store site hart address bytes value own_next law marks (holds y s w stands h hart (Stores address bytes value) next) r.ready in
    let resumed : IsResumedHere w (view site).n hart =
    subst (λ (x : Hart). IsResumedHere w (view site).n x) same
    (is_resumed site byte address bytes from to (subst (λ (n : ℕ). IsFrameByte w.log n byte) (sym number) framed)
    ((r.similar.same h).late ∙ ((machines y s events).is.counted.each h site.below).on_time) value stored) in
    subst (λ (n : ℕ). IsResumedHere w n hart) number resumed
