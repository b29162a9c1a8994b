-- The abstract run's config, in the words of the machine's account: what is kept, what is now, and where all harts are settled.
use Rattle.recovered_threads.specs.RecordDescriptions.{DescribesAs}
use Rattle.thread_code.specs.Programs.{at_chosen}
use Rattle.std.proofs.Common.{Bool, false}
use Rattle.std.proofs.Common.{◌≡◌, inl, inr, ℕ, zero, suc, ◌<◌, [], ◌∷◌, ◌++◌, length, ap, ap₂, arith, sym, ◌∙◌, subst, true, ◌≢◌, ◌&&◌, ◌==◌}
use Rattle.std.proofs.lemmas.Bool.{and_parts, eqb-true, cases_lt, true≢false}
use Rattle.log_schemes.specs.Layout.{point_at}
use Rattle.ido_base.specs.Locks.{holds_none}
use Rattle.c_tree.specs.Source.{State, after_from, is_between, runs_from}
use Rattle.machine_model.specs.Machine.{World, are_settled, durable_point, is_settled, is_settled_hart, live_at, resume_of}
use Rattle.machine_model.specs.Schedule.{Steps, harts_of, schedules}
use Rattle.variable_words.specs.Variables.{durable_variables}
use Rattle.variable_words.proofs.Public.{well_formed_placed, durable_are_memory}
use Rattle.crash_simulation.specs.Systems.{System, IsSystem, flat_of, thread_count}
use Rattle.crash_simulation.specs.SimulationRelation.{Simulates}
use Rattle.crash_simulation.specs.AccountRelation.{SimulatesLives, MachinesResume, first_beginning}
use Rattle.crash_simulation.proofs.Public.{resumed, settled_is_kept, between_there, as_source, schedule_is}
use Rattle.compiler_correctness.specs.Translations.{Translation, steps, source, IsRunnable}
use Rattle.compiler_correctness.proofs.LaterLives.{runnable, source_is}
use Rattle.compiler_correctness.specs.Laws.{translation_of, SettledMachinesAreKept}
use Rattle.std.specs.List.{Contains}
use Rattle.c_tree.specs.Source as m
use Rattle.source_machine.proofs.Public.{goes_on}
use Rattle.flow_graph.specs.Actions.{FlowState}
use Rattle.recovery_semantics.specs.Configs.{now}
use Rattle.log_states.specs.Logs.{Record}
use Rattle.thread_code.specs.Plans.{Plan}
use Rattle.recovered_threads.specs.RecordDescriptions.{Code, Describes, between, inside}
use Rattle.crash_simulation.specs.AbstractRuns.{kept_of}
use Rattle.recovered_threads.proofs.Public.{resumed_there}

-- ---- Where all harts stand between sections, so do all threads after the kept steps, and durable variables are theirs

-- each of the first so many harts is settled
settled_point : (w : World) (count n : ℕ) → are_settled w count ≡ true → n < count → durable_point w.log w.words n ≡ 0
settled_point w zero n is below = absurd (omega (arith, below))
settled_point w (suc h) n is below =
    let parts = and_parts (are_settled w h) (is_settled_hart w h) is in
    elim (cases_lt n h) [
      | inl before ↦ settled_point w h n parts.0 before
      | inr last ↦
          let same : h ≡ n = omega (arith, below, last) in
          let both = and_parts (holds_none w.holders h) ((durable_point w.log w.words h == 0) && (live_at w.words (point_at w.log h) == 0)) parts.1 in
          let points = and_parts (durable_point w.log w.words h == 0) (live_at w.words (point_at w.log h) == 0) both.1 in
          subst (λ (k : ℕ). durable_point w.log w.words k ≡ 0) same (eqb-true (durable_point w.log w.words h) 0 points.0)
    ]

module _ (y : System) (s : IsSystem y) (w : World) (stands : Simulates y s w) (settled : is_settled w ≡ true) where
  pub zeros : (n : ℕ) → n < thread_count y → durable_point w.log w.words n ≡ 0
  zeros n below = settled_point w (length w.harts) n settled (omega (arith, below, stands.machine.count))

  -- all threads stand between sections in what is kept
  pub kept_between : (thread : ℕ) → is_between stands.abstract.config.kept thread ≡ true
  kept_between = between_there y s w stands zeros

  -- durable variables are those that the source leaves by the kept schedule
  pub settled_variables : durable_variables w.words (flat_of y).variables
      ≡ (after_from stands.abstract.origin.source stands.abstract.schedule).variables
  settled_variables =
      durable_are_memory (flat_of y).variables w.words (well_formed_placed (flat_of y) s.plan.formed).room
      ∙ (settled_is_kept y s w stands zeros).durable

module _ (y : System) (s : IsSystem y) (w : World) (account : Steps) {r : ℕ → ℕ}
    (resumes : SimulatesLives y s (first_beginning y) w account r) where
  -- the life's kept steps are those of the abstract run, and lead to what is kept there
  pub kept_from : (runs_from resumes.is.stands.abstract.origin.source account.kept ≡ true)
      × (after_from resumes.is.stands.abstract.origin.source account.kept ≡ resumes.is.stands.abstract.config.kept)
  kept_from =
      let b = resumes.is.stands.abstract in
      let kept = (resumed y s b).resumed.kept in
      let same = schedule_is y s w account resumes in
      (ap (runs_from b.origin.source) same ∙ kept.runs, ap (after_from b.origin.source) same ∙ kept.is)

  pub kept_runs : IsRunnable (translation_of y) (schedules account)
  kept_runs = runnable y s w account resumes account.kept kept_from.0

  pub kept_is : source (translation_of y) (schedules account) ≡ resumes.is.stands.abstract.config.kept
  kept_is = source_is y s w account resumes account.kept ∙ kept_from.1

pub settled_machines_are_kept : MachinesResume → SettledMachinesAreKept
settled_machines_are_kept machines y s events =
    let resumes = machines y s events in
    let c : Translation = translation_of y in
    record {
      runs = kept_runs y s _ _ resumes;
      between = λ settled thread.
          ap (λ (z : State). is_between z thread) (kept_is y s _ _ resumes) ∙ kept_between y s _ resumes.is.stands settled thread;
      variables = λ settled.
          settled_variables y s _ resumes.is.stands settled
          ∙ ap (λ (z : State). z.variables) ((resumed y s resumes.is.stands.abstract).resumed.kept.is ∙ sym (kept_is y s _ (steps c events) resumes));
    }

-- ---- What is kept, what is now, and the logs of threads

-- ---- The source after the kept steps and after all steps

module _ (y : System) (s : IsSystem y) (w : World) (steps : Steps) {r : ℕ → ℕ}
    (resumes : SimulatesLives y s (first_beginning y) w steps r) where
  open resumes.is.stands use {abstract}

  abbrev from : State
  from = abstract.origin.source

  pub now_runs : IsRunnable (translation_of y) (steps.earlier ++ (steps.kept ++ harts_of steps.pending) ∷ [])
  now_runs =
      runnable y s w steps resumes (steps.kept ++ harts_of steps.pending)
      ((goes_on from steps.kept (harts_of steps.pending) (kept_from y s w steps resumes).0).runs
      ∙ (ap₂ m.runs_from (kept_from y s w steps resumes).1 resumes.is.counted.pending ∙ (resumed y s abstract).resumed.invariant.runs))

  pub now_is : source (translation_of y) (steps.earlier ++ (steps.kept ++ harts_of steps.pending) ∷ []) ≡ now abstract.config
  now_is =
      source_is y s w steps resumes (steps.kept ++ harts_of steps.pending)
      ∙ ((goes_on from steps.kept (harts_of steps.pending) (kept_from y s w steps resumes).0).after
      ∙ ap₂ m.after_from (kept_from y s w steps resumes).1 resumes.is.counted.pending)

  -- mutexes are held as in the graph's states
  pub kept_holders : (kept_of y abstract).holders ≡ (source (translation_of y) (schedules steps)).holders
  kept_holders = (as_source y s abstract).kept_matches.holders ∙ ap (λ (z : m.State). z.holders) (sym (kept_is y s w steps resumes))

-- ---- A thread that holds nothing has no point

pub none_points : (p : Plan) (code : Code p) (s : FlowState) (r : Record) → Describes p code s r → holds_none s.holders code.thread.number ≡ true → r.point ≡ 0
none_points p code s r (between none point) e = point
none_points p code s r (inside some i) e = absurd (true≢false (sym e ∙ some))

-- ---- Points name addresses at which the thread may be resumed

pub points_name : (p : Plan) (code : Code p) (s : FlowState) (r : Record) → Describes p code s r → r.point ≢ 0 →
    Contains code.program.resumes (resume_of r.point)
points_name p code s r (between none point) some = absurd (some point)
points_name p code s r (inside holds i) some =
    (code.is.resumes (resume_of r.point)).1 (resumed_there p code i.graph_thread.at i.place (resume_of r.point) i.own i.resumes)

-- ---- The same of a record whose thread may be late

pub none_points_as : (p : Plan) (code : Code p) (s : FlowState) (late : Bool) (r : Record) → DescribesAs p code s late r →
    holds_none s.holders code.thread.number ≡ true → r.point ≡ 0
none_points_as p code s false r describes e = none_points p code s r describes e
none_points_as p code s true r past e = absurd (true≢false (sym e ∙ past.holds))

pub points_name_as : (p : Plan) (code : Code p) (s : FlowState) (late : Bool) (r : Record) → DescribesAs p code s late r → r.point ≢ 0 →
    Contains code.program.resumes (resume_of r.point)
points_name_as p code s false r describes some = points_name p code s r describes some
points_name_as p code s true r past some =
    subst (Contains code.program.resumes) (sym past.resumes)
    ((code.is.resumes (code.is.places.core past.node)).1 (at_chosen past.node past.own_node past.chosen))
