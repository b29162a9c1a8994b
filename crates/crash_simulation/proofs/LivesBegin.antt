-- Where all harts have stopped between sections another life may begin: the machine simulates an abstract run that begins with what is kept.
use Rattle.crash_simulation.proofs.Common.{◌≡◌, ◌⊎◌, inl, inr, ℕ, List, [], zero, suc, ◌<◌, ◌≤◌, length, sym, ◌∙◌, ap, arith, subst, true, refl}
use Rattle.crash_simulation.proofs.Common.{Option, Some, slice_get, true≢false, same_Some, slice_get_within, and_parts, eqb-true, cases_lt}
use Rattle.crash_simulation.proofs.Common.{is_between, holds_none, AreEntries, Hart, World, fresh_hart, Phase, Run, Log, Word}
use Rattle.crash_simulation.proofs.Common.{LogInv, nothing_recorded, AbstractRun, Simulates, IsMachineOf, gathering, gathered, System, IsSystem}
use Rattle.crash_simulation.proofs.Common.{thread_count, flat_of, places_of, InPhase, Origin, memory_in, word_count}
use Rattle.machine_model.specs.declared.phase.Phase.TheVariants.{Done, Ended}
use Rattle.machine_model.specs.Machine.{are_settled, durable_point, is_settled_hart}
use Rattle.recovery_semantics.specs.ElementHistories.{AreStable}
use Rattle.region_attempts.proofs.Public.{life_origin, settled_may_begin}
use Rattle.log_states.specs.Stages.{LogIs}
use Rattle.log_states.specs.Machines.{config_of}
use Rattle.log_states.proofs.Public.{nothing_is}
use Rattle.c_tree.specs.Source as m
use Rattle.crash_simulation.specs.LaterLives.{HaveStopped, IsBegunAnew, LivesSimulate, SimulatesAnew}
use Rattle.crash_simulation.proofs.StatesMatchSource.{none_holds, now_orderly, resumed}
use Rattle.crash_simulation.proofs.RecordsAfterCrash.{between_there}
use Rattle.crash_simulation.proofs.LastReleases.{holds_some}
use Rattle.crash_simulation.proofs.LifeBeginnings.{BeginsLife, IsAtFirstWord, life_stands}

-- ---- Settled machines

all_settled : (w : World) (count h : ℕ) → are_settled w count ≡ true → h < count → is_settled_hart w h ≡ true
all_settled w zero h all below = absurd (omega (arith, below))
all_settled w (suc n) h all below =
    let parts = and_parts (are_settled w n) (is_settled_hart w n) all in
    elim (cases_lt h n) [
      | inl before ↦ all_settled w n h parts.0 before
      | inr last ↦
          let same : n ≡ h = omega (arith, below, last) in
          subst (λ (k : ℕ). is_settled_hart w k ≡ true) same parts.1
    ]

module _ (y : System) (s : IsSystem y) (w v : World) (old : Simulates y s w) (ends : HaveStopped w) (anew : IsBegunAnew y.runs.program w v) where
  abbrev b : AbstractRun y
  b = old.abstract

  hart_settled : (n : ℕ) → n < thread_count y → is_settled_hart w n ≡ true
  hart_settled n below = all_settled w (length w.harts) n ends.settled (omega (arith, below, old.machine.count))

  holds_nothing : (n : ℕ) → n < thread_count y → holds_none w.holders n ≡ true
  holds_nothing n below = (and_parts (holds_none w.holders n) _ (hart_settled n below)).0

  points_are_none : (n : ℕ) → n < thread_count y → durable_point w.log w.words n ≡ 0
  points_are_none n below =
      let points = (and_parts (holds_none w.holders n) _ (hart_settled n below)).1 in
      eqb-true (durable_point w.log w.words n) 0 (and_parts _ _ points).0

  -- whoever holds a lock is a hart
  holder_exists : (lock n : ℕ) → slice_get w.holders lock ≡ Some (Some n) → n < thread_count y
  holder_exists lock n there = elim old.locks [
    | gathering none are ↦ (let e = (are.held lock n there).exists in omega (arith, e, old.machine.count))
    | gathered are held ↦ elim (held.held lock n there) [
      | inl has ↦ (now_orderly y s b).holders lock n has
      | inr gives ↦ (let e = gives.exists in omega (arith, e, (now_orderly y s b).count))
    ]
  ]

  unheld : (lock n : ℕ) → slice_get w.holders lock ≡ Some (Some n) → ⊥
  unheld lock n there = true≢false (sym (holds_nothing n (holder_exists lock n there)) ∙ holds_some n w.holders lock there)

  -- ---- Threads

  -- nothing is recorded of a thread whose hart has stopped, and no boundary is under way
  record IsOver (n : ℕ) : Type 0 where
    hart : Hart
    here : slice_get w.harts n ≡ Some hart
    log : LogIs w.log n nothing_recorded nothing_recorded (config_of w hart [])

  over_by : (n : ℕ) (below : n < thread_count y) (phase : Phase) → (old.each n below).log.hart.phase ≡ phase → (phase ≡ Done) ⊎ (phase ≡ Ended) →
      ((old.ghosts n).rest ≡ []) × ((old.ghosts n).new.point ≡ 0)
  over_by n below phase is stops =
      let t = old.each n below in
      let at : InPhase y w b (s.codes.each n below) (old.ghosts n) t.log.hart t.graph_thread phase =
      subst (InPhase y w b (s.codes.each n below) (old.ghosts n) t.log.hart t.graph_thread) is t.phase in
      by stops at
    where
      by : (phase ≡ Done) ⊎ (phase ≡ Ended) →
          InPhase y w b (s.codes.each n below) (old.ghosts n) (old.each n below).log.hart (old.each n below).graph_thread phase →
          ((old.ghosts n).rest ≡ []) × ((old.ghosts n).new.point ≡ 0)
      by (inl done) at =
          let d = subst (InPhase y w b (s.codes.each n below) (old.ghosts n) (old.each n below).log.hart (old.each n below).graph_thread) done at in
          (d.0.rest, d.1)
      by (inr ended) at =
          let d = subst (InPhase y w b (s.codes.each n below) (old.ghosts n) (old.each n below).log.hart (old.each n below).graph_thread) ended at in
          (d.0.goes.rest, d.1)

  is_over : (n : ℕ) → n < thread_count y → IsOver n
  is_over n below =
      let t = old.each n below in
      let number : (s.codes.each n below).thread.number ≡ n = s.codes.number n below in
      let here : slice_get w.harts n ≡ Some t.log.hart = subst (λ (k : ℕ). slice_get w.harts k ≡ Some t.log.hart) number t.log.here in
      let o = over_by n below t.log.hart.phase refl (ends.stopped n t.log.hart here) in
      record {
        hart = t.log.hart;
        here = here;
        log = subst (λ (k : ℕ). LogIs w.log k nothing_recorded nothing_recorded (config_of w t.log.hart [])) number
            (nothing_is w.log (s.codes.each n below).thread.number (old.ghosts n).old (old.ghosts n).new (config_of w t.log.hart []) refl o.1
            (subst (λ (rest : List _). LogIs w.log (s.codes.each n below).thread.number (old.ghosts n).old (old.ghosts n).new (config_of w t.log.hart rest)) o.0
            t.log.log));
      }

  abbrev hart_anew : (n : ℕ) → Hart → Hart
  hart_anew n hart = record (fresh_hart y.runs.program Run n) { queue = hart.queue }

  fresh : (n : ℕ) → n < thread_count y → IsAtFirstWord y v n
  fresh n below =
      let o = is_over n below in
      record { hart = hart_anew n o.hart; here = anew.harts n o.hart o.here; registers = refl; pc = refl; runs = refl }

  logs : (n : ℕ) → n < thread_count y → LogInv n nothing_recorded nothing_recorded v []
  logs n below =
      let o = is_over n below in
      record {
        hart = hart_anew n o.hart;
        here = anew.harts n o.hart o.here;
        log =
            subst (λ (ws : List Word). LogIs v.log n nothing_recorded nothing_recorded (record { words = ws; queue = o.hart.queue; rest = [] }))
            (sym anew.words)
            (subst (λ (l : Log). LogIs l n nothing_recorded nothing_recorded (config_of w o.hart [])) (sym anew.log) o.log);
      }

  -- ---- The machine

  -- each hart is one that was there, begun anew
  was_there : (h : ℕ) (hart : Hart) → slice_get v.harts h ≡ Some hart → (was : Hart) × (slice_get w.harts h ≡ Some was) × (hart ≡ hart_anew h was)
  was_there h hart there =
      let o = is_over h (omega (arith, slice_get_within v.harts h hart there, anew.count, old.machine.count)) in
      (o.hart, o.here, same_Some hart (hart_anew h o.hart) (sym there ∙ anew.harts h o.hart o.here))

  machine : IsMachineOf y v
  machine = record {
    count = anew.count ∙ old.machine.count;
    log = old.machine.log ∙ sym anew.log;
    mutexes = ap (λ (hs : List (Option ℕ)). length hs) anew.holders ∙ old.machine.mutexes;
    sound = record {
      size = ap (λ (ws : List Word). length ws) anew.words ∙ old.machine.sound.size ∙ ap (word_count w.log) (sym anew.count)
          ∙ ap (λ (l : Log). word_count l (length v.harts)) (sym anew.log);
      queues = λ h hart there.
          let was = was_there h hart there in
          subst (λ (ws : List Word). AreEntries ws hart.queue) (sym anew.words)
          (subst (λ (x : Hart). AreEntries w.words x.queue) (sym was.2) (old.machine.sound.queues h was.0 was.1));
    };
    short = λ h hart there.
        let was = was_there h hart there in
        subst (λ (x : Hart). length x.queue ≤ 16) (sym was.2) (old.machine.short h was.0 was.1);
  }

  -- ---- The abstract run

  abbrev pub origin : Origin (flat_of y)
  origin = life_origin (flat_of y) b.origin b.schedule s.plan.formed s.disciplined

  pub ends_between : (thread : ℕ) → is_between (m.after_from b.origin.source b.schedule) thread ≡ true
  ends_between thread =
      ap (λ (z : m.State). is_between z thread) (resumed y s b).resumed.kept.is
      ∙ between_there y s w old points_are_none thread

  stable : AreStable origin.source (memory_in (places_of y) v.words)
  stable =
      subst (AreStable origin.source) (sym old.memory ∙ ap (memory_in (places_of y)) (sym anew.words))
      (settled_may_begin (flat_of y) b.origin.source b.config b.schedule b.origin.keeps b.execution ends_between)

  pub life : BeginsLife y origin v
  life = record {
    machine = machine;
    stable = stable;
    whole = refl;
    all_free = refl;
    free = λ lock n held. none_holds _ lock n held;
    fresh = fresh;
    logs = logs;
    unheld = λ lock n there. unheld lock n (ap (λ (hs : List (Option ℕ)). slice_get hs lock) (sym anew.holders) ∙ there);
  }

  abbrev pub stands_anew : Simulates y s v
  stands_anew = life_stands y s origin v life

  pub later_stands : SimulatesAnew y s old v
  later_stands = record { stands = stands_anew; begins = refl; none = refl }

pub lives_simulate : LivesSimulate
lives_simulate y s w v old ends anew = later_stands y s w v old ends anew
