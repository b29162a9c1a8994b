-- An environment that answers no loads: a thread's code is met in it in any world, and a fragment that has come to its end is one in it.
use Rattle.crash_simulation.proofs.Common.{◌≡◌, ℕ, List, ◌∷◌, sym, arith, subst, false, refl, ◌+◌, ◌<◌, [], length, Bool, ◌*◌, ◌^◌, slice_index_or}
use Rattle.crash_simulation.proofs.Common.{cond-true, nat_tests, none-some, State, World, Effect, Program, MarkedEnvironment, Meets, seen_effects, Agrees}
use Rattle.crash_simulation.proofs.Common.{environment_of, IsOnFragment, on_machine, Stage, ReadsOwn, IsPlaced, plans_are_placed, Code, System, IsSystem}
use Rattle.crash_simulation.proofs.Common.{thread_count, IsOwnCode, AnswersGuarded, AbstractRun, ThreadGhost, AnswersLoaded}

-- ---- A thread's code is met where it stands

-- ---- An environment that answers no loads

-- nothing is seen of no effects alone
pub none_seen : (effects : List Effect) → seen_effects effects ≡ [] → effects ≡ []
none_seen [] h = refl
none_seen (effect ∷ effects) h = cc

-- a thread's own code is met in the environment of each machine, whichever loads it answers
pub meets_with : (y : System) (code : Code y.plan) → IsOwnCode y code → (w : World) (reads : ℕ → ℕ → Bool) →
    Meets code.is.places.program (environment_of y.runs.program (slice_index_or y.runs.marks code.thread.number []) reads w code.thread.number)
meets_with y code own w reads = grind (arith, nat_tests, cond-true)

module _ (y : System) (s : IsSystem y) (w : World) (n : ℕ) (below : n < thread_count y) where
  abbrev code : Code y.plan
  code = s.codes.each n below

  abbrev pub bare : MarkedEnvironment
  bare = environment_of y.runs.program (slice_index_or y.runs.marks code.thread.number []) (λ address bytes. false) w code.thread.number

  pub bare_agrees : Agrees y.runs.program w code.thread.number bare
  bare_agrees = record { fetches = λ address instr e. e; loads = λ address bytes value e. absurd (none-some value e) }

  pub bare_meets : Meets code.is.places.program bare
  bare_meets = meets_with y code (s.own n below) w (λ address bytes. false)

  pub bare_answers : (state : State) → AnswersGuarded y state code.thread.number bare
  bare_answers state address bytes value e = absurd (none-some value e)

  pub bare_loaded : (b : AbstractRun y) (c : ThreadGhost) → AnswersLoaded y b code.thread.number c bare
  bare_loaded b c address bytes value e = absurd (none-some value e)

  pub bare_reads : ReadsOwn w.log code.thread.number bare
  bare_reads address bytes value e = absurd (none-some value e)

  pub placed : y.plan.log ≡ w.log → length w.harts ≡ thread_count y → IsPlaced y.plan code.thread code.is.places w.log (length w.harts)
  placed logs count =
      let same = s.codes.number n below in
      plans_are_placed y.plan code.thread code.is.places w.log (length w.harts) s.plan code.of code.is.live code.is.kept logs
      (omega (arith, below, count, same))
      (subst (λ (p : Program). p.start + 4 * length p.code < 2 ^ 64) (sym code.is.of_program) (s.own n below).room)

  module _ (environment : MarkedEnvironment) (stage : Stage) (effects : List Effect)
      (fragment : IsOnFragment y.plan code.thread code.is.places (on_machine y.runs.program w code.thread.number environment) stage 0 effects) where
    -- no effects are ahead
    pub none_ahead : effects ≡ []
    none_ahead = none_seen effects fragment.on.walks.1

    -- it is one in any other environment that agrees
    pub resettled_in : (z : MarkedEnvironment) → Meets code.is.places.program z → Agrees y.runs.program w code.thread.number z →
        IsOnFragment y.plan code.thread code.is.places (on_machine y.runs.program w code.thread.number z) stage 0 []
    resettled_in z meets agrees = record {
      meets = meets;
      agrees = agrees;
      apart = tt;
      own = fragment.own;
      of_graph = fragment.of_graph;
      registers = fragment.registers;
      on = record { hart = fragment.on.hart; here = fragment.on.here; runs = fragment.on.runs; walks = (fragment.on.walks.0, refl); may = tt };
      has = fragment.has;
    }

    pub resettled : IsOnFragment y.plan code.thread code.is.places (on_machine y.runs.program w code.thread.number bare) stage 0 []
    resettled = resettled_in bare bare_meets bare_agrees
