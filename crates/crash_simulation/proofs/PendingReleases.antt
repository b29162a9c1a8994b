-- Where a thread is, by what it has begun: at a boundary that isn't committed, or giving back a mutex that it has unlocked.
use Rattle.crash_simulation.specs.ThreadGhosts.{at_past}
use Rattle.crash_simulation.proofs.Common.{◌≡◌, ℕ, ℤ, Computes, sym, ◌∙◌, arith, false, Some, refl, ◌⊎◌, inl, inr, true≢false, ⊎_elim, nat_tests, World}
use Rattle.crash_simulation.proofs.Common.{Phase, Done, Run, Ended, HasUnlocked, ExitPoint, Arrives, Gives, Ends, Keeps, Asks, Took, Code, AbstractRun}
use Rattle.crash_simulation.proofs.Common.{System, Rests, ThreadGhost, on_fragment, at_core, InPhase, ThreadInv, IsRunningThread, IsBounded, ExitInv}
use Rattle.crash_simulation.proofs.Common.{InFragment, IsInAttempt}

-- ---- Where a thread is whose boundary isn't taken as committed

-- where a fragment leads to a boundary, or through one
pub data IsAtBoundary : ExitPoint → Type 0 where
  at_keeps : (owed : ℤ) → IsAtBoundary (Keeps owed)
  at_took : (from : ℕ) → IsAtBoundary (Took from)
  at_gives : (from mutex : ℕ) → IsAtBoundary (Gives from mutex)

module _ (y : System) (w : World) (b : AbstractRun y) (code : Code y.plan) (c : ThreadGhost) (t : ThreadInv y w b code c) where
  -- its hart runs such a fragment
  pub record IsUnderWay : Type 0 where
    pub runs : t.log.hart.phase ≡ Run
    pub to : ExitPoint
    pub steps : ℕ
    pub on : InFragment y w b code c t.log.hart t.graph_thread to steps
    pub exit : IsAtBoundary to

  -- a thread rests, goes on with its attempt, or is at a boundary
  data IsSomewhere : Type 0 where
    rests : Rests y b.config code.thread.number c → IsSomewhere
    goes : IsInAttempt y b.config code.thread.number c → IsSomewhere
    is_at : IsUnderWay → IsSomewhere

  by_exit : (exit : ExitPoint) → ExitInv y b.config code.thread.number c t.graph_thread exit → IsInAttempt y b.config code.thread.number c ⊎ IsAtBoundary exit
  by_exit Arrives f = inl f.0
  by_exit (Keeps owed) f = inr (at_keeps owed)
  by_exit (Computes from local number) f = inl f.0.goes
  by_exit (Asks mutex next) f = inl f.0.goes
  by_exit (Took from) f = inr (at_took from)
  by_exit (Gives from mutex) f = inr (at_gives from mutex)
  by_exit Ends f = inl f.goes

  by_run : t.log.hart.phase ≡ Run → IsRunningThread y w b code c t.log.hart t.graph_thread → IsSomewhere
  by_run runs (on_fragment to steps o) =
      ⊎_elim (λ attempt. goes attempt) (λ exit. is_at (record { runs = runs; to = to; steps = steps; on = o; exit = exit })) (by_exit to o.fits)
  by_run runs (at_core o) = goes o.goes.goes
  by_run runs (at_past o) = goes o.goes.goes

  by_phase : (phase : Phase) → t.log.hart.phase ≡ phase → InPhase y w b code c t.log.hart t.graph_thread phase → IsSomewhere
  by_phase Run is p = by_run is p
  by_phase Done is p = rests p.0
  by_phase Ended is p = goes p.0.goes
  by_phase phase is p = rests p

  somewhere : IsSomewhere
  somewhere = by_phase t.log.hart.phase refl t.phase

  pub under_way : c.committed ≡ false → IsUnderWay
  under_way not_yet = elim somewhere [
    | rests r ↦ absurd (true≢false (sym r.committed ∙ not_yet))
    | goes g ↦ absurd (true≢false (sym g.committed ∙ not_yet))
    | is_at u ↦ u
  ]

-- ---- Where a thread is that has unlocked

module _ (y : System) (w : World) (b : AbstractRun y) (code : Code y.plan) (c : ThreadGhost) (mutex : ℕ)
    (u : HasUnlocked b.config code.thread.number mutex) (t : ThreadInv y w b code c) where
  pub giving_of : c.giving ≡ Some mutex
  giving_of = grind (arith, nat_tests)

-- ---- Where a thread is that has a mutex still to give back

module _ (y : System) (w : World) (b : AbstractRun y) (code : Code y.plan) (c : ThreadGhost) (mutex : ℕ) (gives : c.giving ≡ Some mutex)
    (t : ThreadInv y w b code c) where
  abbrev Bounded : ℕ → Type 0
  Bounded k = IsBounded y b.config code.thread.number c t.graph_thread (Some k) false (HasUnlocked b.config code.thread.number k)

  pub bounded_of : Bounded mutex
  bounded_of = grind (arith, nat_tests)
