-- After a step of a hart that executes instructions, and after an eviction, the machine simulates an abstract run, where commits may still be to be taken.
use Rattle.crash_simulation.proofs.Common.{◌≢◌, ℕ, sym, ◌∙◌, arith, refl, suc, ◌<◌, [], Step, Evict, World, happens, after_event, Run, events_raise, Config}
use Rattle.crash_simulation.proofs.Common.{Memory, ArePersisted, persists, Execution, memory_in, RespectsAll, Record, nothing_recorded, steps_move}
use Rattle.crash_simulation.proofs.Common.{evictions_move, evictions_keep, IsInPhase, evictions_agree, AreGathered, AreGathering, HasRecord, gathered_on}
use Rattle.crash_simulation.proofs.Common.{gathers_on, AbstractRun, now_of, OwnStep, with_ghost, goes, abstract_next, OwnStepsSimulate, EvictionsSimulate}
use Rattle.crash_simulation.proofs.Common.{SimulatesBut, Simulates, anybody, AreLocked, gathering, gathered, records_of, System, IsSystem, thread_count}
use Rattle.crash_simulation.proofs.Common.{flat_of, places_of, ThreadGhost, ThreadInv}
use Rattle.crash_simulation.proofs.LocksAfterStep.{held_alike}
use Rattle.crash_simulation.proofs.UncommittedSteps.{leads_on}
use Rattle.crash_simulation.proofs.DisjointStores.{elsewhere, agrees_after}
use Rattle.crash_simulation.proofs.FrameWords.{all_words}
use Rattle.crash_simulation.proofs.KeptThreads.{led_on}
use Rattle.crash_simulation.proofs.ThreadsOfMachines.{machine_stays, each_placed}

-- ---- A step

module _ (y : System) (s : IsSystem y) (w : World) (h : ℕ) (stands : Simulates y s w) (i : IsInPhase w h Run) (o : OwnStep y s w h stands) where
  abbrev after : World
  after = after_event y.runs.program w (Step h)

  pub others_simulate : (n : ℕ) (below : n < thread_count y) → n ≢ h → ThreadInv y after o.next (s.codes.each n below) (stands.ghosts n)
  others_simulate n below differs =
      let code = s.codes.each n below in
      let c : ThreadGhost = stands.ghosts n in
      let sound = stands.machine.sound in
      let other : h ≢ code.thread.number = λ e. differs (sym (e ∙ s.codes.number n below)) in
      led_on y stands.abstract code c w (Step h) (record {
        sound = sound;
        of_others = other;
        moves = λ hart here. steps_move y.runs.program all_words w h code.thread.number hart c.rest sound here
            (elsewhere y s w h stands.abstract stands.machine.log o.stores_own code.thread.number other all_words);
        agrees = λ z answers agrees. agrees_after y s w h stands.abstract stands.machine.log o.stores_own code other z answers sound agrees i.hart i.here;
      }) s h (λ e. other (sym e)) o.next o.led (stands.each n below)

  abbrev pub simulates_after : SimulatesBut y s after anybody
  simulates_after = record {
    machine = machine_stays y s w (Step h) stands.machine;
    abstract = o.next;
    memory = o.memory;
    ghosts = with_ghost stands.ghosts h o.ghost;
    each = each_placed (thread_count y) stands.ghosts h o.below o.ghost
        (λ (n : ℕ) (inside : n < thread_count y) (c : ThreadGhost). ThreadInv y after o.next (s.codes.each n inside) c) o.own others_simulate;
    locks = o.locks;
    caught_up = λ n below none. absurd (none tt);
  }

pub own_steps_simulate : OwnStepsSimulate
own_steps_simulate y s w h stands i o = simulates_after y s w h stands i o

-- ---- An eviction

module _ (y : System) (s : IsSystem y) (w : World) (line mask : ℕ) (stands : Simulates y s w) where
  abbrev evicted : World
  evicted = after_event y.runs.program w (Evict line mask)

  abbrev persisted : Memory
  persisted = memory_in (places_of y) evicted.words

  pub raises : ArePersisted stands.abstract.config.memory persisted
  raises = grind (arith, events_raise)

  abbrev next : Config
  next = record stands.abstract.config { memory = persisted }

  abbrev abstract_persisted : (l : Execution (flat_of y) stands.abstract.origin.source next stands.abstract.schedule)
      × RespectsAll (flat_of y) y.plan.boundaries stands.abstract.origin l
  abstract_persisted = leads_on y stands.abstract next (persists persisted raises) refl tt

  abbrev run_after : AbstractRun y
  run_after = abstract_next y stands.abstract next abstract_persisted.0 abstract_persisted.1

  pub each_evicted : (n : ℕ) (below : n < thread_count y) → ThreadInv y evicted run_after (s.codes.each n below) (stands.ghosts n)
  each_evicted n below =
      let code = s.codes.each n below in
      let c : ThreadGhost = stands.ghosts n in
      led_on y stands.abstract code c w (Evict line mask) (record {
        sound = stands.machine.sound;
        of_others = tt;
        moves = λ hart here. evictions_move y.runs.program all_words w line mask code.thread.number hart c.rest here;
        agrees = λ z answers agrees. evictions_agree y.runs.program w line mask code.thread.number z agrees;
      }) s (suc code.thread.number) (λ e. omega (arith, e)) run_after (goes next (persists persisted raises) tt abstract_persisted.0 abstract_persisted.1)
      (stands.each n below)

  record_evicted : (h : ℕ) (r : Record) → HasRecord w h r → HasRecord evicted h r
  record_evicted h r has = evictions_keep y.runs.program line mask h nothing_recorded r w [] has

  gathering_evicted : (records : ℕ → Record) → AreGathering w records → AreGathering evicted records
  unfolding happens
  gathering_evicted records are = record {
    each = λ h hart there. gathers_on w evicted h (records h) hart.phase (λ all lock holder held has. all lock holder held has) (are.each h hart there);
    logs = λ h below. record_evicted h (records h) (are.logs h below);
    held = λ lock h there. let own = are.held lock h there in record { exists = own.exists; has = own.has };
  }

  gathered_evicted : (records : ℕ → Record) → AreGathered w records → AreGathered evicted records
  unfolding happens
  gathered_evicted records are = record {
    each = λ h hart there. gathered_on w evicted h (records h) hart.phase
        (λ is. record { inside = is.inside; all = is.all; only = is.only; log = record_evicted h (records h) is.log }) (are.each h hart there);
  }

  pub locked_evicted : AreLocked y w stands.abstract stands.ghosts → AreLocked y evicted run_after stands.ghosts
  unfolding happens
  locked_evicted (gathering none gathers) = gathering none (gathering_evicted (records_of stands.ghosts) gathers)
  locked_evicted (gathered are held) =
      gathered (gathered_evicted (records_of stands.ghosts) are)
      (held_alike w evicted stands.ghosts stands.ghosts (now_of y stands.abstract) refl (λ n. refl) held)

  abbrev pub evicted_simulates : SimulatesBut y s evicted anybody
  evicted_simulates = record {
    machine = machine_stays y s w (Evict line mask) stands.machine;
    abstract = run_after;
    memory = refl;
    ghosts = stands.ghosts;
    each = each_evicted;
    locks = locked_evicted stands.locks;
    caught_up = λ n below none. absurd (none tt);
  }

pub evictions_simulate : EvictionsSimulate
evictions_simulate y s w line mask stands = evicted_simulates y s w line mask stands
