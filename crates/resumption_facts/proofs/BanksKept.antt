-- No bank is stored to that a point names, by whichever hart.
use Rattle.std.proofs.Common.{◌≡◌, ◌≢◌, inl, inr, refl, ℕ, ◌/◌, ◌<◌, List, [], ◌∷◌, ap, sym, ◌∙◌, subst, Option, Some, None, slice_get, arith}
use Rattle.machine_events.specs.declared.event.Event.{Event}
use Rattle.machine_events.specs.declared.event.Event.TheVariants.{Step, Evict, Crash, Start}
use Rattle.ido_base.specs.Growth.{ArePersisted, AreEntries}
use Rattle.ido_base.specs.Layout.{byte_number, word_number}
use Rattle.ido_base.specs.Words.{Entry, Word, evicted}
use Rattle.ido_base.proofs.Public.{evictions_raise, write_backs_raise}
use Rattle.log_schemes.specs.Layout.{log_words}
use Rattle.log_schemes.specs.SchemeFacts.{slot_index}
use Rattle.rv64_isa.specs.Rows.{Stores}
use Rattle.machine_model.specs.declared.phase.Phase.TheVariants.{Run}
use Rattle.machine_model.specs.Machine.{Hart, World, after_event, bank_of, happens}
use Rattle.machine_model.proofs.Public.{after_start}
use Rattle.variable_words.specs.MemoryEffects.{IsWork, Makes, Queues, Rests, WritesBack}
use Rattle.variable_words.proofs.Public.{steps_work}
use Rattle.log_states.specs.Logs.{IsInBank, bank_word, log_word}
use Rattle.log_states.specs.Machines.{IsNext, config_of}
use Rattle.log_states.proofs.Public.{frame_not_slot, log_facts, scheme, slot_in_log, variables_are_apart, word_beside}
use Rattle.hart_runs.specs.Calls.{IsInPhase}
use Rattle.recovered_threads.proofs.Public.{same_or_other}
use Rattle.thread_runs.specs.Laws.{FragmentsGoOn, MarksPass}
use Rattle.crash_simulation.specs.AccountRelation.{MachinesResume}
use Rattle.crash_simulation.specs.InstructionSteps.{CoresStep, FragmentsStep, LocalStoresStep}
use Rattle.crash_simulation.specs.SimulationRelation.{Simulates}
use Rattle.crash_simulation.specs.Systems.{System, IsSystem}
use Rattle.crash_simulation.proofs.Public.{elsewhere, next_store, not_there, own_by, runs_held, runs_ready, same_number}
use Rattle.resumption_facts.specs.BanksKept.{BanksAreKept}
use Rattle.resumption_facts.specs.Points.{IsPointOf, named_in}
use Rattle.resumption_facts.proofs.OwnStores.{in_boundary, own_store, to_element, to_frame}

module _ (fragments_step : FragmentsStep) (cores_step : CoresStep) (local_stores_step : LocalStoresStep) (law : FragmentsGoOn) (marks : MarksPass)
    (y : System) (s : IsSystem y) (w : World) (stands : Simulates y s w) (h point slot : ℕ)
    (named : IsPointOf w h point) (some : point ≢ 0) (inside : IsInBank w.log slot) where
  abbrev word : ℕ
  word = bank_word w.log h (bank_of point) slot

  abbrev index : ℕ
  index = slot_index w.log (bank_of point) slot

  -- it is one of the hart's log
  below : index < log_words w.log
  below = (scheme w.log).stands.inside (bank_of point) slot (omega arith) inside

  in_log : word ≡ log_word w.log h index
  in_log = slot_in_log w.log h (bank_of point) slot

  -- ---- A store

  module _ (g : ℕ) (hart : Hart) (address bytes value : ℕ) (next : IsNext y.runs.program w g hart (Stores address bytes value))
      (i : IsInPhase w g Run) where
    abbrev IsBeside : Type 0
    IsBeside = byte_number address / 8 ≢ word

    by_other : g ≢ h → IsBeside
    by_other other same =
        let r = runs_ready y s w g stands i in
        let o = own_by fragments_step cores_step local_stores_step y s w g r.site i r.ready in
        other (elsewhere y s w g r.site.stands.abstract r.site.stands.machine.log o.stores_own h other [] hart address bytes value next index below
        (same ∙ in_log)).0

    by_own : g ≡ h → IsBeside
    by_own own =
        let r = runs_ready y s w g stands i in
        let z = r.site.stands in
        let held = (runs_held y s w z.abstract z.ghosts g z.machine.log z.machine.sound i z.locks).1 in
        let number = same_number r.site in
        let it =
        own_store r.site hart address bytes value (subst (λ (n : ℕ). IsNext y.runs.program w n hart (Stores address bytes value)) (sym number) next) law
        marks held r.ready in
        elim it [
          | to_element to ↦ λ same. variables_are_apart w.log h address index to.low (same ∙ in_log)
          | to_frame to ↦
              subst (λ (n : ℕ). byte_number address / 8 ≢ bank_word w.log n (bank_of point) slot) (number ∙ own) (λ same.
              frame_not_slot w.log _ to.own (bank_of point) slot to.framed (omega arith) inside
              (ap word_number (sym to.address_is) ∙ same))
          | in_boundary b ↦
              subst (λ (n : ℕ). byte_number address / 8 ≢ bank_word w.log n (bank_of point) slot) (number ∙ own)
              (log_facts.bank_kept w.log _ b.old b.new (config_of w b.hart (Stores address bytes value ∷ b.later)) address bytes value b.later b.log refl
              point (subst (λ (n : ℕ). IsPointOf w n point) (sym (number ∙ own)) named) some slot inside)
        ]

    beside : IsBeside
    beside = elim (same_or_other g h) [
      | inl same ↦ by_own same
      | inr other ↦ by_other other
    ]

  -- ---- Any event

  abbrev Kept : List Word → Type 0
  Kept words = (named_in w h point slot words).values ≡ (named_in w h point slot w.words).values

  persisted : (words : List Word) → ArePersisted w.words words → Kept words
  persisted words raised = (raised.each word).values

  by_work : (g : ℕ) (hart : Hart) (queue : List Entry) → slice_get w.harts g ≡ Some hart →
      IsWork y.runs.program w g (after_event y.runs.program w (Step g)).words hart.queue queue → Kept (after_event y.runs.program w (Step g)).words
  by_work g hart queue here (Rests same q) = subst Kept (sym same) refl
  by_work g hart queue here (Queues line same q) = subst Kept (sym same) refl
  by_work g hart queue here (WritesBack e is q) =
      let entries : AreEntries w.words (e ∷ queue) = subst (λ (es : List Entry). AreEntries w.words es) q (stands.machine.sound.queues g hart here) in
      persisted _ (subst (λ (ws : List Word). ArePersisted w.words ws) (sym is) (write_backs_raise w.words e entries.0))
  by_work g hart queue here (Makes address bytes value st is q) =
      let apart = beside g st.executes.hart address bytes value (next_store y.runs.program w g address bytes value st)
      (record { hart = st.executes.hart; here = st.executes.there; phase_is = st.executes.runs }) in
      subst Kept (sym is)
      (ap (λ (x : Word). x.values) (word_beside w.words (byte_number address) bytes value word (λ same. apart (sym same))))

  by_hart : (g : ℕ) (o : Option Hart) → slice_get w.harts g ≡ o → Kept (after_event y.runs.program w (Step g)).words
  by_hart g None none = subst (λ (v : World). Kept v.words) (not_there y w g none) refl
  by_hart g (Some hart) here = let does = steps_work y.runs.program w g hart here in by_work g hart does.after.queue here does.work

  evicts : (line mask : ℕ) → Kept (after_event y.runs.program w (Evict line mask)).words
  unfolding happens
  evicts line mask = persisted (evicted w.words line mask) (evictions_raise w.words line mask)

  pub kept_by : (event : Event) → event ≢ Crash → Kept (after_event y.runs.program w event).words
  kept_by (Step g) powered = by_hart g (slice_get w.harts g) refl
  kept_by (Evict line mask) powered = evicts line mask
  kept_by Crash powered = absurd (powered refl)
  kept_by Start powered = after_start y.runs.program w (λ (v : World). Kept v.words) refl refl

pub banks_are_kept : MachinesResume → FragmentsStep → CoresStep → LocalStoresStep → FragmentsGoOn → MarksPass → BanksAreKept
banks_are_kept machines fragments_step cores_step local_stores_step law marks y s events h _ event point slot powered named some inside =
    kept_by fragments_step cores_step local_stores_step law marks y s _ (machines y s events).is.stands h point slot named some inside event powered
