-- When a hart is about to store its point, the bank that this names is durable, and its record is where the thread stands.
use Rattle.std.proofs.Common.{◌≡◌, ◌⊎◌, inl, inr, refl, ℕ, ◌+◌, ◌*◌, ◌/◌, List, [], ◌∷◌, ap, sym, ◌∙◌, subst, Bool, true, false}
use Rattle.std.proofs.Common.{arith, ◌≤◌, Option, Some}
use Rattle.std.proofs.lemmas.Bool.{eqb-true, true≢false}
use Rattle.ido_base.specs.Layout.{byte_number, word_number}
use Rattle.ido_base.specs.Locks.{has_lock}
use Rattle.ido_base.specs.Words.{last_position, word_at}
use Rattle.log_schemes.specs.declared.log.Log.{Log}
use Rattle.log_schemes.specs.Layout.{log_of, point_at, slot_at}
use Rattle.rv64_isa.specs.Rows.{Effect, Continues, Loads, Stores, Cleans, Fences, Calls}
use Rattle.machine_events.specs.declared.event.Event.{Event}
use Rattle.machine_model.specs.declared.phase.Phase.{Phase}
use Rattle.machine_model.specs.declared.phase.Phase.TheVariants.{Take, Wait, Resume, Run, Done, Ended}
use Rattle.machine_model.specs.Executables.{first_world}
use Rattle.machine_model.specs.Machine.{Hart, World, bank_of}
use Rattle.machine_model.specs.Schedule.{all_lives, harts_of, is_point_store, is_running, released_count, schedules}
use Rattle.flow_graph.specs.Lockstep.{Matches}
use Rattle.c_tree.specs.Source.{State}
use Rattle.source_machine.specs.StepExchanges.{steps_of}
use Rattle.log_states.specs.Logs.{HasBank, HasFrame, Record}
use Rattle.log_states.specs.Machines.{IsLogEffect, IsNext, CleansLine, PassesFence, StoresWord, config_of}
use Rattle.log_states.specs.Stages.{LogConfig, LogIs, Over, IsWriting, PointQueued, Pointed, Stage, Writing, Written, fences_ahead, is_committed, is_store}
use Rattle.log_states.proofs.Public.{address_of, boundaries_stay_in, frame_not_point, log_facts, slot_in_log, variables_are_apart, word_of_log}
use Rattle.hart_runs.specs.Calls.{IsInPhase}
use Rattle.recovery_semantics.specs.Attempts.{Writes}
use Rattle.recovery_semantics.specs.Configs.{attempt_of, now}
use Rattle.recovery_semantics.specs.ElementHistories.{IsStable, Memory, history_at, number_at}
use Rattle.recovery_semantics.specs.Events.{steps_begun}
use Rattle.recovery_semantics.specs.VariableSpots.{memory_in}
use Rattle.recovery_semantics.proofs.Public.{since_settles}
use Rattle.recovered_threads.specs.RecordDescriptions.{Describes, locks_of}
use Rattle.recovered_threads.proofs.Public.{locks_are_held}
use Rattle.thread_runs.specs.Laws.{FragmentsGoOn, MarksPass}
use Rattle.crash_simulation.specs.AbstractRuns.{AbstractRun, now_of}
use Rattle.crash_simulation.specs.AccountRelation.{MachinesResume, SimulatesLives, first_beginning}
use Rattle.crash_simulation.specs.InstructionSteps.{CoresStep, FragmentsStep, IsReadyToStep, LocalStoresStep, SimulatesReady, Site}
use Rattle.crash_simulation.specs.SimulationRelation.{AreHeld, Simulates}
use Rattle.crash_simulation.specs.ThreadGhosts.{IsWordOf, durable_there, comes_with, in_frame, recorded_in}
use Rattle.crash_simulation.specs.Systems.{System, IsSystem, flat_of, places_of}
use Rattle.crash_simulation.proofs.Public.{as_source, now_orderly, resumed, runs_held, runs_ready, point_settled, same_number, view, word_durable}
use Rattle.compiler_correctness.specs.Compilation.{HartHolds}
use Rattle.compiler_correctness.specs.Laws.{translation_of}
use Rattle.compiler_correctness.specs.Translations.{source, steps, world}
use Rattle.compiler_correctness.specs.Translations.{now as now_events}
use Rattle.compiler_correctness.proofs.Public.{kept_is, now_is}
use Rattle.resumption_facts.specs.BanksBeforePoints.{BanksComeBeforePoints, IsUnkeptStore}
use Rattle.resumption_facts.proofs.BegunStores.{written_by}
use Rattle.resumption_facts.proofs.AccessesAlong.{accesses_told}
use Rattle.resumption_facts.proofs.SectionsUnderWay.{sectioned}
use Rattle.resumption_facts.proofs.OwnStores.{IsInBoundary, IsStored, first_address, in_boundary, own_store, to_element, to_frame}

-- ---- The store of a point

abbrev first_stores : List Effect → Bool
first_stores [] = false
first_stores (effect ∷ effects) = is_store effect

-- a store of a point is one
pub record IsStore (effect : Effect) (word : ℕ) : Type 0 where
  pub address : ℕ
  pub bytes : ℕ
  pub value : ℕ
  pub is : effect ≡ Stores address bytes value
  pub there : word_number address ≡ word

point_stores : (log : Log) (thread : ℕ) (effect : Effect) → is_point_store log thread effect ≡ true → IsStore effect (word_number (point_at log thread))
point_stores log thread (Stores address bytes value) e =
    record { address = address; bytes = bytes; value = value; is = refl; there = eqb-true (word_number address) (word_number (point_at log thread)) e }
point_stores log thread (Continues registers pc) e = absurd (true≢false (sym e))
point_stores log thread (Loads address bytes signed register) e = absurd (true≢false (sym e))
point_stores log thread (Cleans address) e = absurd (true≢false (sym e))
point_stores log thread Fences e = absurd (true≢false (sym e))
point_stores log thread Calls e = absurd (true≢false (sym e))

module _ (log : Log) (thread : ℕ) (old new : Record) (m : LogConfig) (l : LogIs log thread old new m) (address bytes value : ℕ) (later : List Effect)
    (does : m.rest ≡ Stores address bytes value ∷ later) (there : word_number address ≡ word_number (point_at log thread)) where
  -- it is that of all of the point's word
  record IsPoint : Type 0 where
    point : ℕ
    is : Stores address bytes value ≡ Stores (point_at log thread) 8 point

  whole_by : IsLogEffect log thread (Stores address bytes value) → IsPoint
  whole_by (StoresWord i point inside same) =
      let at : address ≡ log_of log thread + 8 * i = ap address_of same in
      let word : byte_number address / 8 ≡ byte_number (log_of log thread + 8 * i) / 8 = ap (λ (a : ℕ). byte_number a / 8) at in
      let zero : log_of log thread + 8 * i ≡ point_at log thread = omega (arith, word, word_of_log log thread i, there) in
      record { point = point; is = same ∙ ap (λ (a : ℕ). Stores a 8 point) zero }
  whole_by (CleansLine i inside same) = absurd (true≢false (ap is_store same))
  whole_by (PassesFence same) = absurd (true≢false (ap is_store same))

  whole : IsPoint
  whole = whole_by (boundaries_stay_in log thread old new m (Stores address bytes value) later l does).0

  -- its bank is durable, and so are the words of the frame on which it counts
  found : (whole.point ≡ new.point) × HasBank log thread new m.words × HasFrame log thread new m.words
  found = log_facts.bank_before_point.bank log thread old new m whole.point later l (does ∙ ap (λ (e : Effect). e ∷ later) whole.is)

  pub bank_found : HasBank log thread new m.words
  bank_found = found.1

  pub frame_found : HasFrame log thread new m.words
  frame_found = found.2

  pub stores_new : Stores address bytes value ≡ Stores (point_at log thread) 8 new.point
  stores_new = whole.is ∙ ap (λ (point : ℕ). Stores (point_at log thread) 8 point) found.0

  -- and one fence is ahead of it
  none_written : (slots lines framing : List ℕ) → IsWriting log thread new slots lines framing m → ⊥
  none_written [] [] [] w = true≢false (ap first_stores (sym does ∙ w.rest))
  none_written [] [] (line ∷ framing) w = true≢false (ap first_stores (sym does ∙ w.rest))
  none_written [] (line ∷ lines) framing w = true≢false (ap first_stores (sym does ∙ w.rest))
  none_written (slot ∷ slots) lines framing w =
      let at : word_number address ≡ word_number (slot_at log thread (bank_of new.point) slot) =
      ap (λ (es : List Effect). word_number (first_address es)) (sym does ∙ w.rest) in
      omega (arith, at, there, slot_in_log log thread (bank_of new.point) slot)

  by_stage : Stage log thread old new m → fences_ahead m.rest ≡ 1
  by_stage (Writing slots lines framing w h) = absurd (none_written slots lines framing w)
  by_stage (Written rest h bank frame) = ap fences_ahead rest
  by_stage (Pointed rest h) = absurd (true≢false (ap first_stores (sym does ∙ rest)))
  by_stage (PointQueued rest h r) = absurd (true≢false (ap first_stores (sym does ∙ rest)))
  by_stage (Over rest h) = absurd (true≢false (ap first_stores (sym does ∙ rest)))

  pub one_ahead : fences_ahead (Stores address bytes value ∷ later) ≡ 1
  one_ahead = ap fences_ahead (sym does) ∙ by_stage l.stage

-- ---- A hart that is about to store its point

running_is : (phase : Phase) → is_running phase ≡ true → phase ≡ Run
running_is Run e = refl
running_is Take e = absurd (true≢false (sym e))
running_is Wait e = absurd (true≢false (sym e))
running_is Resume e = absurd (true≢false (sym e))
running_is Done e = absurd (true≢false (sym e))
running_is Ended e = absurd (true≢false (sym e))

module _ {y : System} {s : IsSystem y} {w : World} {h : ℕ} (site : Site y s w h) (held : AreHeld w site.stands.ghosts (now_of y site.stands.abstract)) where
  open view site use {b, code, c, t, n}

  -- what it finds
  pub record Finds (effect : Effect) : Type 0 where
    pub recorded : Record
    pub stores : effect ≡ Stores (point_at w.log n) 8 recorded.point
    pub bank : HasBank w.log n recorded w.words
    pub frame : HasFrame w.log n recorded w.words
    pub describes : Describes y.plan code (now_of y b) recorded
    pub taken : (lock : ℕ) → has_lock (locks_of recorded) lock ≡ true → HartHolds w n lock
    pub stored : (word position : ℕ) → c.last_stores word ≡ Some position → position ≤ (word_at w.words word).durable
    pub stable : (v e : ℕ) → Writes b.config.kept n (steps_begun b.config n) v e →
        IsStable (history_at b.config.memory v e) (number_at (now b.config) v e)

  module _ (address bytes value : ℕ) (there : word_number address ≡ word_number (point_at w.log n)) where
    abbrev store : Effect
    store = Stores address bytes value

    module _ (i : IsInBoundary site store) where
      abbrev at : LogConfig
      at = config_of w i.hart (store ∷ i.later)

      few : c.rest ≡ store ∷ i.later → fences_ahead c.rest ≡ 1
      few rest = ap fences_ahead rest ∙ one_ahead w.log n i.old i.new at i.log address bytes value i.later refl there

      -- what the hart has stored last is durable once the first fence is passed
      last_durable : c.rest ≡ store ∷ i.later → i.new ≡ c.new → c.committed ≡ false → (word position : ℕ) → c.last_stores word ≡ Some position →
          position ≤ (word_at w.words word).durable
      last_durable rest new before word position is = elim (t.stored.last word position is) [
        | durable_there low ↦ low
        | comes_with v e f in_word low ↦
            let fenced = f.fenced before (omega (arith, few rest)) in
            let durable =
            word_durable y s w.words v e f.position
            (subst (λ (m : Memory). f.position ≤ (history_at m v e).durable) (sym site.stands.memory) fenced) in
            subst (λ (k : ℕ). position ≤ (word_at w.words k).durable) in_word (omega (arith, low, durable))
        | recorded_in among low ↦
            let settled = point_settled w.log n i.old i.new at i.log address bytes value i.later refl there
            (λ slot same. omega (arith, same, there, slot_in_log w.log n (bank_of i.new.point) slot)) word
            (subst (λ (r : Record). IsWordOf w.log n r word) (sym new) among) in
            omega (arith, low, settled)
        | in_frame own framed in_word low ↦
            let in_section = sectioned y s w b code c t before (λ none. (let both : [] ≡ store ∷ i.later = sym none ∙ rest in cc)) in
            let f = t.stored.frame in_section own framed in
            let fenced = f.fenced before (omega (arith, few rest)) in
            subst (λ (k : ℕ). position ≤ last_position (word_at w.words k) → position ≤ (word_at w.words k).durable) in_word (λ low_there.
            omega (arith, low_there, fenced)) low
      ]

      -- of the attempt's elements only the numbers of now can be left
      durable : c.rest ≡ store ∷ i.later → c.committed ≡ false → (v e : ℕ) → Writes b.config.kept n (attempt_of b.config n).done v e →
          IsStable (history_at b.config.memory v e) (number_at (now b.config) v e)
      durable rest before v e writes =
          let f = t.stored.flushed v e writes in
          since_settles (flat_of y) b.config n v e f.position (resumed y s b).resumed.invariant writes f.since (f.fenced before (omega (arith, few rest)))

      -- the boundary under way isn't committed, so that its record is where the thread stands now
      under_way : c.rest ≡ store ∷ i.later → i.new ≡ c.new → Finds store
      under_way rest new =
          let caught : is_committed w.log n (config_of w t.log.hart c.rest) ≡ c.committed = site.stands.caught_up h site.below (λ e. e) in
          let before : c.committed ≡ false =
          sym caught ∙ ap (λ (es : List Effect). is_committed w.log n (config_of w t.log.hart es)) rest in
          let describes = t.records.will_describe before in
          record {
            recorded = c.new;
            stores = stores_new w.log n i.old i.new at i.log address bytes value i.later refl there
                ∙ ap (λ (r : Record). Stores (point_at w.log n) 8 r.point) new;
            bank = subst (λ (r : Record). HasBank w.log n r w.words) new (bank_found w.log n i.old i.new at i.log address bytes value i.later refl there);
            frame = subst (λ (r : Record). HasFrame w.log n r w.words) new (frame_found w.log n i.old i.new at i.log address bytes value i.later refl there);
            describes = describes;
            taken = λ lock among.
                held.holds lock n ((locks_are_held y.plan code (now_of y b) false c.new s.plan (now_orderly y s b) describes lock).0 among);
            stored = last_durable rest new before;
            stable = λ v e writes. durable rest before v e (written_by (flat_of y) b.config n (resumed y s b).resumed.invariant v e writes);
          }

      finds_by : ((c.rest ≡ store ∷ i.later) × (i.new ≡ c.new)) ⊎ (fences_ahead (store ∷ i.later) ≡ 2) → Finds store
      finds_by (inl way) = under_way way.0 way.1
      finds_by (inr two) = absurd (omega (arith, two, one_ahead w.log n i.old i.new at i.log address bytes value i.later refl there))

    finds_in : IsStored site address bytes value → Finds store
    finds_in (to_element to) = absurd (omega (arith, there, variables_are_apart w.log n address 0 to.low))
    finds_in (to_frame to) = absurd (frame_not_point w.log n to.own (ap word_number (sym to.address_is) ∙ there))
    finds_in (in_boundary i) = finds_by i i.stage

  module _ (law : FragmentsGoOn) (marks : MarksPass) where
    pub finds : (hart : Hart) (effect : Effect) → IsNext y.runs.program w n hart effect → is_point_store w.log n effect ≡ true →
        IsReadyToStep site → Finds effect
    finds hart effect next is ready =
        let p = point_stores w.log n effect is in
        subst Finds (sym p.is)
        (finds_in p.address p.bytes p.value p.there
        (own_store site hart p.address p.bytes p.value (subst (λ (e : Effect). IsNext y.runs.program w n hart e) p.is next) law marks held ready))

-- ---- In a machine that simulates an abstract run

module _ (y : System) (s : IsSystem y) (w : World) (stands : Simulates y s w) where
  pub ready_now : (h : ℕ) (hart : Hart) (effect : Effect) → IsNext y.runs.program w h hart effect → SimulatesReady y s w h stands
  ready_now h hart effect next =
      runs_ready y s w h stands (record { hart = hart; here = next.here; phase_is = running_is hart.phase next.runs })

  module _ (h : ℕ) (hart : Hart) (effect : Effect) (next : IsNext y.runs.program w h hart effect) where
    abbrev site : Site y s w h
    site = (ready_now h hart effect next).site

    pub holds : AreHeld w site.stands.ghosts (now_of y site.stands.abstract)
    holds =
        let i : IsInPhase w h Run = record { hart = hart; here = next.here; phase_is = running_is hart.phase next.runs } in
        let z = site.stands in
        (runs_held y s w z.abstract z.ghosts h z.machine.log z.machine.sound i z.locks).1

    module _ (law : FragmentsGoOn) (marks : MarksPass) (is : is_point_store w.log h effect ≡ true) where
      pub finds_now : Finds site holds effect
      finds_now =
          finds site holds law marks hart effect (subst (λ (n : ℕ). IsNext y.runs.program w n hart effect) (sym (same_number site)) next)
          (subst (λ (n : ℕ). is_point_store w.log n effect ≡ true) (sym (same_number site)) is) (ready_now h hart effect next).ready

      -- what the hart has stored last is durable
      pub stored_last : (word position : ℕ) → (stands.ghosts h).last_stores word ≡ Some position → position ≤ (word_at w.words word).durable
      stored_last word position last =
          finds_now.stored word position (ap (λ (m : ℕ → Option ℕ). m word) ((ready_now h hart effect next).similar.same h).last ∙ last)

-- ---- After any events

-- in the abstract run, of what the thread has stored by its begun steps
abbrev StableOf : (y : System) → AbstractRun y → (thread v e : ℕ) → Type 0
StableOf y b n v e = Writes b.config.kept n (steps_begun b.config n) v e → IsStable (history_at b.config.memory v e) (number_at (now b.config) v e)

stable_at : (y : System) (s : IsSystem y) (events : List Event) →
    (resumes : SimulatesLives y s (first_beginning y) (world (translation_of y) events) (steps (translation_of y) events)
    (released_count y.runs.program (first_world y.runs) events)) →
    (b : AbstractRun y) → b ≡ resumes.is.stands.abstract → memory_in (places_of y) (world (translation_of y) events).words ≡ b.config.memory →
    (h v e : ℕ) → StableOf y b h v e → IsUnkeptStore (translation_of y) events h v e →
    IsStable (history_at (memory_in (places_of y) (world (translation_of y) events).words) v e)
    (number_at (source (translation_of y) (all_lives (now_events (translation_of y) events))) v e)
stable_at y s events resumes b same memory h v e stable writes =
    let w = world (translation_of y) events in
    let account = steps (translation_of y) events in
    let kept : source (translation_of y) (schedules account) ≡ b.config.kept =
    kept_is y s w account resumes ∙ ap (λ (a : AbstractRun y). a.config.kept) (sym same) in
    let pending : harts_of account.pending ≡ b.config.uncommitted =
    resumes.is.counted.pending ∙ ap (λ (a : AbstractRun y). a.config.uncommitted) (sym same) in
    let later : source (translation_of y) (all_lives (now_events (translation_of y) events)) ≡ now b.config =
    now_is y s w account resumes ∙ ap (λ (a : AbstractRun y). now a.config) (sym same) in
    let begun : Writes b.config.kept h (steps_begun b.config h) v e =
    coe 0 1 (i. Writes (kept i) h (steps_of h (pending i)) v e) writes in
    coe 1 0 (i. IsStable (history_at (memory i) v e) (number_at (later i) v e)) (stable begun)

pub banks_come_before_points : MachinesResume → FragmentsStep → CoresStep → LocalStoresStep → FragmentsGoOn → MarksPass → BanksComeBeforePoints
banks_come_before_points machines fragments_step cores_step local_stores_step law marks y s events h hart effect next is =
    let w = world (translation_of y) events in
    let resumes = machines y s events in
    let stands : Simulates y s w = resumes.is.stands in
    let r = ready_now y s w stands h hart effect next in
    let site = r.site in
    let z = site.stands in
    let number = same_number site in
    let f = finds_now y s w stands h hart effect next law marks is in
    let told = accesses_told y s fragments_step cores_step local_stores_step law events in
    record {
      recorded = f.recorded;
      stores = f.stores ∙ ap (λ (n : ℕ). Stores (point_at w.log n) 8 f.recorded.point) number;
      bank = subst (λ (n : ℕ). HasBank w.log n f.recorded w.words) number f.bank;
      frame = subst (λ (n : ℕ). HasFrame w.log n f.recorded w.words) number f.frame;
      below = site.below;
      state = now_of y z.abstract;
      matches = subst (λ (state : State). Matches (flat_of y) (now_of y z.abstract) state)
          (ap (λ (b : AbstractRun y). now b.config) r.similar.abstract ∙ sym (now_is y s w (steps (translation_of y) events) resumes))
          (as_source y s z.abstract).now_matches;
      describes = f.describes;
      taken = λ lock among. subst (λ (n : ℕ). HartHolds w n lock) number (f.taken lock among);
      stored = λ word position last. stored_last y s w told.stands h hart effect next law marks is word position (told.last h word ∙ last);
      stable = λ v e writes. stable_at y s events (machines y s events) z.abstract r.similar.abstract (z.memory) h v e
          (subst (λ (n : ℕ). StableOf y z.abstract n v e) number (f.stable v e)) writes;
    }
