-- The schedules that are kept of the lives of a run, and the sections in them.
use Rattle.std.proofs.Common.{◌≡◌, refl, ℕ, List, [], ◌∷◌, ◌++◌, length, Bool, true, false, Some, sym, ap, ◌∙◌, append_assoc}
use Rattle.std.specs.Prelude.{if◌then◌else◌, slice_get}
use Rattle.std.proofs.lemmas.List.{append-nil}
use Rattle.machine_events.specs.declared.event.Event.{Event}
use Rattle.machine_events.specs.declared.event.Event.TheVariants.{Step, Evict, Crash, Start}
use Rattle.rv64_isa.specs.declared.object.Slot.{Slot}
use Rattle.machine_model.specs.Machine.{World, after_event, can_start}
use Rattle.machine_model.specs.Schedule.{Steps, first_steps, next_life, only_life, schedules, steps_after, steps_along}
use Rattle.machine_model.proofs.Public.{event_earlier}
use Rattle.machine_model.specs.Executables.{first_world}
use Rattle.crash_simulation.proofs.Public.{steps_join}
use Rattle.compiler_correctness.specs.Translations.{Translation, steps, world}
use Rattle.compiler_correctness.specs.Compilation.{AreSectionsKept}
use Rattle.ido_cli.specs.Plays.{AreLivesKept, IsLife, followed, last}

there : {A : Type 0} (xs : List A) (y : A) (ys : List A) → slice_get (xs ++ y ∷ ys) (length xs) ≡ Some y
there [] y ys = refl
there (x ∷ xs) y ys = there xs y ys

module _ (marks : List (List ℕ)) (program : List (List Slot)) where
  -- a start puts the schedule of the life that it ends behind those before
  started : (w : World) (s : Steps) → can_start w ≡ true → steps_after marks program w Start s ≡ next_life s
  unfolding steps_after
  started w s may = ap (λ (b : Bool). if b then next_life s else s) may

  -- what is kept of the lives that have ended stays, and more may come after it
  abbrev Grown : (before after : List (List ℕ)) → Type 0
  Grown before after = (more : List (List ℕ)) × (after ≡ before ++ more)

  grown_started : (w : World) (s : Steps) → Grown s.earlier (steps_after marks program w Start s).earlier
  unfolding steps_after
  grown_started w s =
      let by : (may : Bool) → Grown s.earlier (if may then next_life s else s).earlier =
      λ may. elim may as (λ b. Grown s.earlier (if b then next_life s else s).earlier) [
        | true ↦ (s.kept ∷ [], refl)
        | false ↦ ([], sym (append-nil s.earlier))
      ] in
      by (can_start w)

  grown_after : (w : World) (event : Event) (s : Steps) → Grown s.earlier (steps_after marks program w event s).earlier
  grown_after w (Step h) s = ([], event_earlier marks program w (Step h) s refl ∙ sym (append-nil s.earlier))
  grown_after w (Evict line mask) s = ([], event_earlier marks program w (Evict line mask) s refl ∙ sym (append-nil s.earlier))
  grown_after w Crash s = ([], event_earlier marks program w Crash s refl ∙ sym (append-nil s.earlier))
  grown_after w Start s = grown_started w s

  grown_along : (events : List Event) (w : World) (s : Steps) → Grown s.earlier (steps_along marks program w events s).earlier
  grown_along [] w s = ([], sym (append-nil s.earlier))
  grown_along (event ∷ events) w s =
      let first = grown_after w event s in
      let later = grown_along events (after_event program w event) (steps_after marks program w event s) in
      (first.0 ++ later.0, later.1 ∙ ap (λ (before : List (List ℕ)). before ++ later.0) first.1 ∙ append_assoc s.earlier first.0 later.0)

module _ (c : Translation) where
  -- the schedules after a start that ends a life
  life_there : (until rest : List Event) → can_start (world c until) ≡ true →
      slice_get (schedules (steps c (until ++ Start ∷ rest))) (length (steps c until).earlier) ≡ Some (steps c until).kept
  life_there until rest may =
      let marks = c.runs.marks in
      let program = c.runs.program in
      let s = steps c until in
      let after = after_event program (world c until) Start in
      let along : steps c (until ++ Start ∷ rest) ≡ steps_along marks program after rest (next_life s) =
      steps_join marks program until (Start ∷ rest) (first_world c.runs) (first_steps (only_life []))
      ∙ ap (steps_along marks program after rest) (started marks program (world c until) s may) in
      let end = steps_along marks program after rest (next_life s) in
      let more = grown_along marks program rest after (next_life s) in
      let all : schedules end ≡ s.earlier ++ s.kept ∷ (more.0 ++ end.kept ∷ []) =
      ap (λ (earlier : List (List ℕ)). earlier ++ end.kept ∷ []) (more.1 ∙ append_assoc s.earlier (s.kept ∷ []) more.0)
      ∙ append_assoc s.earlier (s.kept ∷ more.0) (end.kept ∷ []) in
      ap (λ (e : Steps). slice_get (schedules e) (length s.earlier)) along
      ∙ ap (λ (lives : List (List ℕ)). slice_get lives (length s.earlier)) all
      ∙ there s.earlier s.kept (more.0 ++ end.kept ∷ [])

  told : (events until : List Event) → IsLife c events until →
      slice_get (schedules (steps c events)) (length (steps c until).earlier) ≡ Some (steps c until).kept
  told events _ (followed until rest is may) =
      ap (λ (es : List Event). slice_get (schedules (steps c es)) (length (steps c until).earlier)) is ∙ life_there until rest may
  told events _ last = there (steps c events).earlier (steps c events).kept []

  pub lives_kept : ((events : List Event) → AreSectionsKept c events) → (events : List Event) → AreLivesKept c events
  lives_kept kept events = record { schedule = told events; sections = λ until life. kept until }
