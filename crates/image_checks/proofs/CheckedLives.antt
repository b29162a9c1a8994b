-- Lives that are checked one after another.
use Rattle.std.proofs.Common.{◌≡◌, ℕ, ◌+◌, ◌<◌, ◌≤◌, List, [], ◌∷◌, ◌++◌, length, get_or, map, take, drop, ap, sym, ◌∙◌, subst, true}
use Rattle.std.proofs.Common.{Result, Ok, Err, arith}
use Rattle.std.specs.Prelude.{IfErr, IfOk, Vec}
use Rattle.std.specs.Global.{Global}
use Rattle.std.proofs.lemmas.List.{at_drop_more, map_more, map_push}
use Rattle.ido_base.specs.declared.limits.TheConstants.{MOST_STEPS}
use Rattle.c_tree.specs.Flats.{Flat}
use Rattle.c_tree.specs.Source as m
use Rattle.run_scripts.specs.Runs.{Run, schedule_of}
use Rattle.run_scripts.specs.declared.runs.Run as code
use Rattle.run_scripts.specs.links.ReportViews.{steps_of}
use Rattle.run_scripts.specs.links.RunViews.{run_of}
use Rattle.source_machine.specs.declared.state.SourceState.{SourceState}
use Rattle.source_machine.specs.Lives.{are_between, restart}
use Rattle.source_machine.specs.links.States.{IsRunOf, RepresentsState, Restarts}
use Rattle.source_machine.proofs.Public.{sizes_stay}
use Rattle.crash_images.specs.links.Views.{life_of}
use Rattle.image_checks.specs.declared.error.ImageError.{ImageError}
use Rattle.image_checks.specs.declared.error.ImageError.TheVariants as e
use Rattle.image_checks.specs.declared.schedules.ScheduleFault.{ScheduleFault}
use Rattle.image_checks.specs.declared.schedules.ScheduleFault.TheVariants as schedule
use Rattle.image_checks.specs.Schedules.{AreSchedules, IsLivesFault, IsSchedule, IsScheduleFault, at_step, inside, later, own, schedules_of}
use Rattle.image_checks.specs.links.PrefixBeforeFault.{IsTold, TellsFault, TellsNext, TellsStep}
use Rattle.image_checks.proofs.ScheduleLaws.{as_told}

-- ---- After a start

module _ (old mid new : SourceState) (done : ℕ) (runs : List Run)
    (between : (s : m.State) (ended : ℕ → ℕ) → RepresentsState old s ended → are_between s (length s.threads) ≡ true) (anew : Restarts old mid) where
  pub told_next : (result : Result (Vec ℕ Global) ScheduleFault)
      → IfOk result (λ steps. (s : m.State) (ended : ℕ → ℕ) → RepresentsState mid s ended → IsTold s done runs steps.items ended new)
      → IfOk result (λ steps. (x : Flat) (s : m.State) (ended : ℕ → ℕ) → IsRunOf old x → RepresentsState old s ended →
      (are_between s (length s.threads) ≡ true) × IsTold (restart x s) done runs steps.items ended new)
  told_next (Err error) told = tt
  told_next (Ok steps) told = λ x s ended run stands. (between s ended stands, told (restart x s) ended (anew x s ended run stands))

  pub fault_next : (number : ℕ) (result : Result (Vec ℕ Global) ScheduleFault)
      → IfErr result (λ error. (s : m.State) (ended : ℕ → ℕ) → RepresentsState mid s ended → TellsStep s done runs error)
      → IfErr result (λ error. (x : Flat) (s : m.State) (ended : ℕ → ℕ) → IsRunOf old x → RepresentsState old s ended →
      TellsNext x number s done runs error)
  fault_next number (Ok steps) told = tt
  fault_next number (Err (schedule.Step step)) told = λ x s ended run stands.
      (between s ended stands, told (restart x s) ended (anew x s ended run stands))
  fault_next number (Err (schedule.Life life)) told = λ x s ended run stands. absurd (told (restart x s) ended (anew x s ended run stands))
  fault_next number (Err schedule.Memory) told = λ x s ended run stands. tt

-- ---- The life at an index

module _ (lives : List (Vec code.Run Global)) (i : ℕ) (v : Vec code.Run Global) (runs : List code.Run) (within : i < length lives) (is : v ≡ get_or lives i v)
    (same : runs ≡ v.items) where
  pub here_is : map life_of (drop i lives) ≡ map run_of runs ∷ map life_of (drop (i + 1) lives)
  here_is =
      at_drop_more (map life_of) lives i v within
      ∙ ap (λ (w : Vec code.Run Global). life_of w ∷ map life_of (drop (i + 1) lives)) (sym is)
      ∙ ap (λ (rs : List code.Run). map run_of rs ∷ map life_of (drop (i + 1) lives)) (sym same)

  pub told_more : (old new : List (Vec ℕ Global)) (steps : Vec ℕ Global) → map steps_of old ≡ schedules_of (map life_of (take i lives)) →
      new ≡ old ++ steps ∷ [] → steps.items ≡ schedule_of (map run_of runs) → map steps_of new ≡ schedules_of (map life_of (take (i + 1) lives))
  told_more old new steps told e now =
      let before : List (List ℕ) = schedules_of (map life_of (take i lives)) in
      ap (map steps_of) e ∙ map_push steps_of old steps ∙ ap (λ (ts : List (List ℕ)). ts ++ steps.items ∷ []) told
      ∙ ap (λ (ts : List ℕ). before ++ ts ∷ []) (now ∙ ap (λ (rs : List code.Run). schedule_of (map run_of rs)) same
      ∙ ap (λ (w : Vec code.Run Global). schedule_of (life_of w)) is)
      ∙ sym (ap schedules_of (map_more life_of lives i v within) ∙ map_push schedule_of (map life_of (take i lives)) (life_of (get_or lives i v)))

-- ---- Faults

-- a step of the first of lives is at fault
step_in : (x : Flat) (number : ℕ) (s : m.State) (done : ℕ) (runs : List Run) (rest : List (List Run)) (step : ℕ) → IsScheduleFault s done runs step →
    IsLivesFault x number s done (runs ∷ rest) (e.Schedule step)
step_in x number s done runs [] step f = at_step step f
step_in x number s done runs (next ∷ rest) step f = own (e.Schedule step) (at_step step f)

-- the lives before the rest are checked, of which there are so many, with so many steps: what is so of the last of them and the rest is so of all
pub record HaveChecked (x : Flat) (all : List (List Run)) (now : SourceState) (number done : ℕ) (rest : List (List Run)) : Type 0 where
  pub begun : m.State
  pub before : ℕ
  pub runs : List Run
  pub ended : ℕ → ℕ
  pub sound : IsSchedule begun before runs (schedule_of runs)
  pub stands : RepresentsState now (m.after_from begun (schedule_of runs)) ended
  pub run : IsRunOf now x
  pub so_many : before + length (schedule_of runs) ≡ done
  pub fault : (error : ImageError) → IsLivesFault x number begun before (runs ∷ rest) error → IsLivesFault x 1 (m.start x) 0 all error
  pub whole : AreSchedules x begun before (runs ∷ rest) → AreSchedules x (m.start x) 0 all

module _ (x : Flat) (all : List (List Run)) where
  -- ---- The first life

  pub first_checked : (now : SourceState) (runs : List Run) (rest : List (List Run)) (steps : List ℕ) → all ≡ runs ∷ rest →
      IsTold (m.start x) 0 runs steps (λ k. 0) now → IsRunOf now x → HaveChecked x all now 1 (length steps) rest
  first_checked now runs rest steps is told run = record {
    begun = m.start x;
    before = 0;
    runs = runs;
    ended = λ k. 0 + m.ended_from (m.start x) (schedule_of runs) k;
    sound = as_told (m.start x) 0 runs steps told.sound;
    stands = subst (λ (ts : List ℕ). RepresentsState now (m.after_from (m.start x) ts) (λ k. 0 + m.ended_from (m.start x) ts k)) told.sound.formed.is
        told.stands;
    run = run;
    so_many = omega (arith, ap length told.sound.formed.is);
    fault = λ error f. subst (λ (lives : List (List Run)). IsLivesFault x 1 (m.start x) 0 lives error) (sym is) f;
    whole = λ sound. subst (AreSchedules x (m.start x) 0) (sym is) sound;
  }

  pub first_fault : (runs : List Run) (rest : List (List Run)) (error : ScheduleFault) → all ≡ runs ∷ rest → TellsStep (m.start x) 0 runs error →
      TellsFault x (m.start x) all error
  first_fault runs rest (schedule.Step step) is f =
      subst (λ (lives : List (List Run)). IsLivesFault x 1 (m.start x) 0 lives (e.Schedule step)) (sym is) (step_in x 1 (m.start x) 0 runs rest step f)
  first_fault runs rest (schedule.Life life) is f = absurd f
  first_fault runs rest schedule.Memory is f = tt

  pub no_lives : all ≡ [] → AreSchedules x (m.start x) 0 all
  no_lives none = subst (AreSchedules x (m.start x) 0) (sym none) tt

  -- ---- The next

  module _ (now : SourceState) (number done : ℕ) (rest : List (List Run)) (h : HaveChecked x all now number done rest) where
    pub few_steps : done ≤ MOST_STEPS
    few_steps = subst (λ n. n ≤ MOST_STEPS) h.so_many h.sound.formed.few

    abbrev pub last : m.State
    last = m.after_from h.begun (schedule_of h.runs)

    as_many : length last.threads ≡ length h.begun.threads
    as_many = (sizes_stay h.begun (schedule_of h.runs)).0

    module _ (next : List Run) (more : List (List Run)) (is : rest ≡ next ∷ more) where
      in_all : (error : ImageError) → IsLivesFault x number h.begun h.before (h.runs ∷ next ∷ more) error → IsLivesFault x 1 (m.start x) 0 all error
      in_all error f =
          h.fault error (subst (λ (lives : List (List Run)). IsLivesFault x number h.begun h.before (h.runs ∷ lives) error) (sym is) f)

      pub next_fault : (error : ScheduleFault) → TellsNext x number last done next error → TellsFault x (m.start x) all error
      next_fault (schedule.Step step) told =
          in_all (e.Schedule step) (later (e.Schedule step) h.sound (ap (are_between last) (sym as_many) ∙ told.0)
          (subst (λ n. IsLivesFault x (number + 1) (restart x last) n (next ∷ more) (e.Schedule step)) (sym h.so_many)
          (step_in x (number + 1) (restart x last) done next more step told.1)))
      next_fault (schedule.Life life) told =
          subst (λ n. IsLivesFault x 1 (m.start x) 0 all (e.Lives n)) (sym told.0)
          (in_all (e.Lives number) (inside h.sound (ap (are_between last) (sym as_many) ∙ told.1)))
      next_fault schedule.Memory told = tt

      pub next_checked : (new : SourceState) (steps : List ℕ) →
          (are_between last (length last.threads) ≡ true) × IsTold (restart x last) done next steps h.ended new → IsRunOf new x →
          HaveChecked x all new (number + 1) (done + length steps) more
      next_checked new steps told run = record {
        begun = restart x last;
        before = done;
        runs = next;
        ended = λ k. h.ended k + m.ended_from (restart x last) (schedule_of next) k;
        sound = as_told (restart x last) done next steps told.1.sound;
        stands =
            subst (λ (ts : List ℕ). RepresentsState new (m.after_from (restart x last) ts) (λ k. h.ended k + m.ended_from (restart x last) ts k))
            told.1.sound.formed.is told.1.stands;
        run = run;
        so_many = ap (λ (ts : List ℕ). done + length ts) (sym told.1.sound.formed.is);
        fault = λ error f.
            in_all error (later error h.sound between
            (subst (λ n. IsLivesFault x (number + 1) (restart x last) n (next ∷ more) error) (sym h.so_many) f));
        whole = λ sound.
            h.whole (subst (λ (lives : List (List Run)). AreSchedules x h.begun h.before (h.runs ∷ lives)) (sym is)
            (h.sound, between, subst (λ n. AreSchedules x (restart x last) n (next ∷ more)) (sym h.so_many) sound));
      }
        where
          between : are_between last (length h.begun.threads) ≡ true
          between = ap (are_between last) (sym as_many) ∙ told.0

    pub all_checked : rest ≡ [] → AreSchedules x (m.start x) 0 all
    all_checked none = h.whole (subst (λ (lives : List (List Run)). AreSchedules x h.begun h.before (h.runs ∷ lives)) (sym none) h.sound)
