-- Locks after a step of a hart that executes instructions.
use Rattle.crash_simulation.proofs.Common.{◌≡◌, ◌≢◌, ℕ, sym, ◌∙◌, arith, subst, Some, None, ◌<◌, length, ◌==◌, slice_set, slice_get, cond-true, cond-false}
use Rattle.crash_simulation.proofs.Common.{nat_tests, Step, IsWellFormedWorld, Hart, World, after_event, Effect, Phase, Take, Wait, Resume, Run, steps_touch}
use Rattle.crash_simulation.proofs.Common.{get-set_same, get-set_other, FlowState, equal_self, unequal_of, Record, IsElsewhere, IsNext, IsInPhase, HasGathered}
use Rattle.crash_simulation.proofs.Common.{AreGathered, same_there, gathered_on, ready_stays, AbstractRun, now_of, with_ghost, MayStore, AreHeld, AreLocked}
use Rattle.crash_simulation.proofs.Common.{gathered, records_of, System, IsSystem, ThreadGhost}
use Rattle.std.specs.Prelude.{[]}
use Rattle.crash_simulation.proofs.DisjointStores.{elsewhere}

-- where the same harts hold mutexes, and the same is being given back
pub held_alike : (w v : World) (old new : ℕ → ThreadGhost) (z : FlowState) → v.holders ≡ w.holders → ((n : ℕ) → (new n).giving ≡ (old n).giving) →
    AreHeld w old z → AreHeld v new z
held_alike w v old new z holders giving was = grind (arith, nat_tests)

-- ---- Another thread's ghost state

pub own_ghost : (ghosts : ℕ → ThreadGhost) (thread : ℕ) (ghost : ThreadGhost) → with_ghost ghosts thread ghost thread ≡ ghost
own_ghost ghosts thread ghost = cond-true (thread == thread) ghost (ghosts thread) (equal_self thread)

pub other_ghost : (ghosts : ℕ → ThreadGhost) (thread : ℕ) (ghost : ThreadGhost) (n : ℕ) → n ≢ thread → with_ghost ghosts thread ghost n ≡ ghosts n
other_ghost ghosts thread ghost n other = cond-false (n == thread) ghost (ghosts n) (unequal_of n thread other)

-- what is so of the thread's own ghost state and of all others is so of each
pub each_ghost : (ghosts : ℕ → ThreadGhost) (thread : ℕ) (ghost : ThreadGhost) (P : ℕ → ThreadGhost → Type 0) → P thread ghost →
    ((n : ℕ) → n ≢ thread → P n (ghosts n)) → (n : ℕ) → P n (with_ghost ghosts thread ghost n)
each_ghost ghosts thread ghost P own others n = grind (arith, nat_tests)

-- ---- A hart that executes instructions goes on to, or is done, or has ended

abbrev pub GoneOn : Phase → Type 0
GoneOn Take = ⊥
GoneOn Wait = ⊥
GoneOn Resume = ⊥
GoneOn phase = Unit {0}

gone_gathered : (v : World) (h : ℕ) (r : Record) (phase : Phase) → GoneOn phase → HasGathered v h r phase
gone_gathered v h r phase g = grind (arith, nat_tests)

module _ (y : System) (s : IsSystem y) (w : World) (b : AbstractRun y) (ghosts : ℕ → ThreadGhost) (h : ℕ) (logs : y.plan.log ≡ w.log)
    (sound : IsWellFormedWorld w) (i : IsInPhase w h Run) where
  abbrev later : World
  later = after_event y.runs.program w (Step h)

  -- a hart that runs has gathered its locks, as all have
  pub runs_held : AreLocked y w b ghosts → AreGathered w (records_of ghosts) × AreHeld w ghosts (now_of y b)
  runs_held locks = grind (arith, nat_tests)

  gathered_after : (ghost : ThreadGhost) (new : Hart) → slice_get later.harts h ≡ Some new → GoneOn new.phase →
      ((k : ℕ) → k ≢ h → IsElsewhere y.runs.program w [] h k) → AreGathered w (records_of ghosts) → AreGathered later (records_of (with_ghost ghosts h ghost))
  gathered_after ghost new here goes elsewhere ag = record {
    each = each_ghost ghosts h ghost (λ (n : ℕ) (c : ThreadGhost). (hart : Hart) → slice_get later.harts n ≡ Some hart → HasGathered later n c.new hart.phase)
        (λ hart there. gone_gathered later h ghost.new hart.phase
        (subst (λ (x : Hart). GoneOn x.phase) (same_there (slice_get later.harts h) new hart here there) goes))
        (λ n other hart there. gathered_on w later n (ghosts n).new hart.phase
        (ready_stays y.runs.program w h n (ghosts n).new sound other (elsewhere n other))
        (ag.each n hart (sym ((steps_touch y.runs.program w h sound).others n other) ∙ there)));
  }

  -- the lock part of the simulation holds after a step of a hart, where harts go on to hold what their threads have
  pub locked_after : (next : AbstractRun y) (ghost : ThreadGhost) (new : Hart) → slice_get later.harts h ≡ Some new → GoneOn new.phase →
      ((hart : Hart) (effect : Effect) → IsNext y.runs.program w h hart effect → MayStore y b h effect) → AreLocked y w b ghosts →
      (AreHeld w ghosts (now_of y b) → AreHeld later (with_ghost ghosts h ghost) (now_of y next)) → AreLocked y later next (with_ghost ghosts h ghost)
  locked_after next ghost new here goes may locks held =
      let all = runs_held locks in
      gathered (gathered_after ghost new here goes (λ k other. elsewhere y s w h b logs may k (λ e. other (sym e)) []) all.0) (held all.1)

-- ---- A step of a hart by which a mutex is taken or given back

-- the machine and the graph's state before and after it, and the ghost state of the hart's thread after it
pub record LockStep : Type 0 where
  pub w : World
  pub v : World
  pub ghosts : ℕ → ThreadGhost
  pub h : ℕ
  pub ghost : ThreadGhost
  pub now : FlowState
  pub next : FlowState
  pub count : length next.graph_threads ≡ length now.graph_threads

module _ (p : LockStep) (was : AreHeld p.w p.ghosts p.now) where
  open p use {w, v, ghosts, h, ghost, now, next, count}

  abbrev new : ℕ → ThreadGhost
  new = with_ghost ghosts h ghost

  module _ (mutex : ℕ) where
    -- the hart and its thread take the mutex, which is free
    pub held_taken : slice_get w.holders mutex ≡ Some None → slice_get now.holders mutex ≡ Some None → v.holders ≡ slice_set w.holders mutex (Some h) →
        next.holders ≡ slice_set now.holders mutex (Some h) → (ghosts h).giving ≡ None → ghost.giving ≡ None → AreHeld v new next
    held_taken free now_free holders now_holders none still_none = grind (arith, nat_tests, get-set_same, get-set_other)

    -- the hart gives it back, and its thread has unlocked it before
    pub held_given : slice_get w.holders mutex ≡ Some (Some h) → slice_get now.holders mutex ≢ Some (Some h) → v.holders ≡ slice_set w.holders mutex None →
        next.holders ≡ now.holders → (ghosts h).giving ≡ Some mutex → ghost.giving ≡ None → AreHeld v new next
    held_given owns not_held holders now_holders gave none = grind (arith, nat_tests, get-set_same, get-set_other)

    -- the thread unlocks it, and its hart has still to give it back
    pub held_unlocked : slice_get now.holders mutex ≡ Some (Some h) → v.holders ≡ w.holders → next.holders ≡ slice_set now.holders mutex None →
        (ghosts h).giving ≡ None → ghost.giving ≡ Some mutex → h < length next.graph_threads → AreHeld v new next
    held_unlocked owned holders now_holders none gives exists = grind (arith, nat_tests, get-set_same, get-set_other)
