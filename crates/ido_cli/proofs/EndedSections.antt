-- The sections that a life of a compilation has counted are those that the source ends by the kept schedules of all lives.
use Rattle.std.proofs.Common.{◌≡◌, refl, ℕ, ◌+◌, ◌<◌, List, [], ◌∷◌, ◌++◌, length, cond, ap, sym, ◌∙◌, subst, append_assoc, arith, Bool, true, false, ◌&&◌}
use Rattle.std.specs.Prelude.{if◌then◌else◌, not, ◌==◌}
use Rattle.std.proofs.lemmas.Bool.{and_parts, true≢false}
use Rattle.std.proofs.lemmas.List.{append-nil}
use Rattle.machine_events.specs.declared.event.Event.{Event}
use Rattle.machine_events.specs.declared.event.Event.TheVariants.{Step, Evict, Crash, Start}
use Rattle.machine_events.specs.Cores.{passed_count}
use Rattle.c_tree.specs.Source.{ended_from, runs_from, start}
use Rattle.source_machine.specs.Lives.{end_lives, ended_lives}
use Rattle.source_machine.proofs.Public.{ended_life, runs_life}
use Rattle.machine_model.specs.Executables.{first_world}
use Rattle.machine_model.specs.Machine.{World, durable_point}
use Rattle.machine_model.specs.Schedule.{Steps, begins_life, first_steps, next_life, only_life, schedules, steps_after}
use Rattle.machine_model.proofs.Public.{after_start, event_earlier}
use Rattle.crash_simulation.proofs.Public.{steps_join}
use Rattle.compiler_correctness.specs.Translations.{IsRunnable, Translation, source_at, steps, world}
use Rattle.compiler_correctness.specs.Compilation as promised
use Rattle.compiler_correctness.specs.Compilations.{IsCompilation}
use Rattle.run_tracker.specs.ObjectLives.{LifeConfig, ends_at_point, living}
use Rattle.run_tracker.proofs.Public.{sections_more}
use Rattle.ido_cli.specs.Plays.{beginning}

never_both : (b : Bool) → (not b && b) ≡ false
never_both true = refl
never_both false = refl

nothing_more : (b : Bool) (n : ℕ) → (if b then n else n) ≡ n
nothing_more true n = refl
nothing_more false n = refl

module _ (c : Translation) (compilation : IsCompilation c) (h : ℕ) (below : h < length c.runs.program) where
  -- how often the durable point of the hart has become 0
  abbrev pub at_points : List Event → ℕ
  at_points events = passed_count living (λ (m : LifeConfig) event. ends_at_point m.runs.program m.world event h) (beginning c) events

  -- the sections that the source has ended, over all lives
  abbrev pub ended : Steps → ℕ
  ended s = ended_lives c.flat (start c.flat) (schedules s) h

  abbrev AreEnded : List Event → Type 0
  AreEnded events = at_points events ≡ ended (steps c events)

  abbrev one : List Event → Event → ℕ
  one events event = cond (promised.ends_at_point c events event h) 1 0

  in_lives : (s : Steps) → IsRunnable c (schedules s) →
      ended s ≡ ended_lives c.flat (start c.flat) s.earlier h + ended_from (source_at c s.earlier) s.kept h
  in_lives s runs =
      let parts = and_parts (end_lives c.flat (start c.flat) s.earlier) (runs_from (source_at c s.earlier) s.kept)
      (sym (runs_life c.flat (start c.flat) s.earlier s.kept) ∙ runs) in
      ended_life c.flat (start c.flat) s.earlier s.kept h
      ∙ ap (λ (b : Bool). ended_lives c.flat (start c.flat) s.earlier h + (if b then ended_from (source_at c s.earlier) s.kept h else 0)) parts.0

  then_steps : (events : List Event) (event : Event) →
      steps c (events ++ event ∷ []) ≡ steps_after c.runs.marks c.runs.program (world c events) event (steps c events)
  then_steps events event =
      steps_join c.runs.marks c.runs.program events (event ∷ []) (first_world c.runs) (first_steps (only_life []))

  -- an event of a life
  goes_on : (events : List Event) (event : Event) → begins_life (world c events) event ≡ false →
      ended (steps c (events ++ event ∷ [])) ≡ ended (steps c events) + one events event
  goes_on events event none =
      let s = steps c events in
      let t = steps c (events ++ event ∷ []) in
      let same : t.earlier ≡ s.earlier =
      ap (λ (z : Steps). z.earlier) (then_steps events event) ∙ event_earlier c.runs.marks c.runs.program (world c events) event s none in
      let before = in_lives s (compilation.settled events).runs in
      let later = in_lives t (compilation.settled (events ++ event ∷ [])).runs in
      let earlier = ap (λ (lives : List (List ℕ)). ended_lives c.flat (start c.flat) lives h) same in
      let grown = (compilation.sections events).by_points event h below none in
      omega (arith, before, later, earlier, grown)

  -- a start by which another life begins ends none
  begins_by_start : (events : List Event) → begins_life (world c events) Start ≡ true →
      ended (steps c (events ++ Start ∷ [])) ≡ ended (steps c events) + one events Start
  unfolding steps_after
  begins_by_start events begins =
      let s = steps c events in
      let w : World = world c events in
      let next : steps c (events ++ Start ∷ []) ≡ next_life s =
      then_steps events Start ∙ ap (λ (may : Bool). if may then next_life s else s) begins in
      let point : Bool = durable_point w.log w.words h == 0 in
      let never : promised.ends_at_point c events Start h ≡ false =
      after_start c.runs.program w (λ (v : World). (not point && (durable_point v.log v.words h == 0)) ≡ false) (never_both point) (never_both point) in
      let none : one events Start ≡ 0 = ap (λ (b : Bool). cond {A = ℕ} b 1 0) never in
      let all = ap ended next ∙ ended_life c.flat (start c.flat) (schedules s) [] h in
      omega (arith, all, nothing_more (end_lives c.flat (start c.flat) (schedules s)) 0, none)

  each : (events : List Event) (event : Event) (begins : Bool) → begins_life (world c events) event ≡ begins →
      ended (steps c (events ++ event ∷ [])) ≡ ended (steps c events) + one events event
  each events event false e = goes_on events event e
  each events Start true e = begins_by_start events e
  each events (Step hart) true e = absurd (true≢false (sym e))
  each events (Evict line mask) true e = absurd (true≢false (sym e))
  each events Crash true e = absurd (true≢false (sym e))

  one_more : (events : List Event) (event : Event) → AreEnded events → AreEnded (events ++ event ∷ [])
  one_more events event e =
      sections_more (beginning c) events event h
      ∙ (ap (λ (n : ℕ). n + one events event) e ∙ sym (each events event (begins_life (world c events) event) refl))

  along : (done rest : List Event) → AreEnded done → AreEnded (done ++ rest)
  along done [] e = subst AreEnded (sym (append-nil done)) e
  along done (event ∷ rest) e = subst AreEnded (append_assoc done (event ∷ []) rest) (along (done ++ event ∷ []) rest (one_more done event e))

  -- after whatever events
  pub are_ended : (events : List Event) → at_points events ≡ ended (steps c events)
  are_ended events = along [] events refl
