-- Steps of one hart of a life whose instructions are local.
use Rattle.std.proofs.Common.{◌≡◌, ℕ, zero, suc, ◌+◌, ◌<◌, ◌≤◌, List, [], ◌∷◌, ◌++◌, length}
use Rattle.std.proofs.Common.{replicate, slice_get, slice_index_or, Option, Some, None}
use Rattle.std.proofs.Common.{Bool, true, false, cond, refl, ap, sym, subst, ◌∙◌, arith, inl, inr}
use Rattle.std.proofs.lemmas.Bool.{cases_eq}
use Rattle.std.proofs.lemmas.List.{append-nil, append_assoc, set-set, replicate-append-replicate}
use Rattle.machine_events.specs.declared.event.Event.{Event}
use Rattle.machine_events.specs.declared.event.Event.TheVariants.{Step}
use Rattle.machine_events.specs.declared.event.Reply.TheVariants.{Moved}
use Rattle.machine_events.specs.Cores.{point_stores, finished_fences, EachMoves}
use Rattle.machine_model.specs.declared.phase.Phase.TheVariants.{Run}
use Rattle.machine_model.specs.Frames.{IsWellFormedWorld}
use Rattle.machine_model.specs.Machine.{Hart, World, after_event, after_events, durable_point, reply_to, with_hart}
use Rattle.machine_model.specs.Schedule.{Steps, first_steps, is_mark, steps_along}
use Rattle.machine_model.proofs.Public.{queues_stand}
use Rattle.hart_core.specs.declared.local.LocalState.{LocalState}
use Rattle.hart_core.specs.LocalSteps.{PlacedCode, placed_code, local_run, local_step, then_locally}
use Rattle.hart_core.proofs.Public.{found_set, set_found}
use Rattle.ido_machine.specs.Harts.{local_state_of, with_local_state}
use Rattle.run_tracker.specs.links.AccountRepresentation.{AreOpen}
use Rattle.run_tracker.specs.links.LocalRepresentation.{marks_at, marks_passed, with_more_begun}
use Rattle.run_tracker.specs.LocalRuns.{with_steps}
use Rattle.run_tracker.specs.ObjectLives.{Course, LifeConfig, sections_since, is_stopped, living, opening_of, steps_in, world_of}
use Rattle.machine_model.specs.Machine.{has_stopped}
use Rattle.run_tracker.proofs.DurablePoints.{none_at_point}
use Rattle.run_tracker.proofs.Events.{after_more, along_more, begun_if, fences_more, played_is, points_more, sections_more}
use Rattle.run_tracker.proofs.MoreBegun.{open-more}
use Rattle.run_tracker.proofs.LocalEvents.{no_fence, no_point, reply_is, steps_are, world_is}

-- one more of a list of equal events
one_more : (events : List Event) (event : Event) (n : ℕ) → events ++ replicate (suc n) event ≡ (events ++ replicate n event) ++ event ∷ []
one_more events event n =
    let next : n + 1 ≡ suc n = omega arith in
    ap (λ (m : ℕ). events ++ replicate m event) (sym next)
    ∙ ap (λ (xs : List Event). events ++ xs) (sym (replicate-append-replicate n 1 event))
    ∙ sym (append_assoc events (replicate n event) (event ∷ []))

-- an instruction more than some: after those, and it
pub instruction_before : (code : PlacedCode) (first : LocalState) (n : ℕ) (s : LocalState) → local_run code first (suc n) ≡ Some s →
    (t : LocalState) × (local_run code first n ≡ Some t) × (local_step code t ≡ Some s)
instruction_before code first n s e = by_run (local_run code first n) refl e
  where
    by_run : (found : Option LocalState) → local_run code first n ≡ found → then_locally code found ≡ Some s →
        (t : LocalState) × (local_run code first n ≡ Some t) × (local_step code t ≡ Some s)
    by_run None is e = cc
    by_run (Some t) is e = (t, is, e)

-- fewer instructions than some
pub run_before : (code : PlacedCode) (first : LocalState) (few most : ℕ) (s : LocalState) → few ≤ most → local_run code first most ≡ Some s →
    (t : LocalState) × (local_run code first few ≡ Some t)
run_before code first few zero s within e =
    let none : zero ≡ few = omega (arith, within) in
    (s, subst (λ (n : ℕ). local_run code first n ≡ Some s) none e)
run_before code first few (suc most) s within e = elim (cases_eq few (suc most)) [
  | inl same ↦ (s, subst (λ (n : ℕ). local_run code first n ≡ Some s) (sym same) e)
  | inr other ↦
      let before = instruction_before code first most s e in
      run_before code first few most before.0 (omega (arith, within, other)) before.1
]

-- the life after so many local instructions of hart h, by registers and pc after them
pub record HasRunLocally (life : Course) (h : ℕ) (hart : Hart) (n : ℕ) (s : LocalState) : Type 0 where
  pub world : world_of (with_steps life h n) ≡ with_hart (world_of life) h (with_local_state hart s)
  pub steps : steps_in (with_steps life h n)
      ≡ with_more_begun h (marks_passed (slice_index_or life.runs.marks h []) (placed_code life.runs.program h) (local_state_of hart) n) (steps_in life)
  pub sound : IsWellFormedWorld (world_of (with_steps life h n))
  pub count : length life.runs.program ≡ length (world_of (with_steps life h n)).harts
  pub points : (g : ℕ) → point_stores living (opening_of life) (with_steps life h n).journal g ≡ point_stores living (opening_of life) life.journal g
  pub fences : (g : ℕ) → finished_fences living (opening_of life) (with_steps life h n).journal g ≡ finished_fences living (opening_of life) life.journal g
  pub sections : (g : ℕ) → sections_since (with_steps life h n) g ≡ sections_since life g

module _ (life : Course) (h : ℕ) (hart : Hart) (there : slice_get (world_of life).harts h ≡ Some hart)
    (is_open : AreOpen (length life.runs.program) (world_of life).log (world_of life).words (steps_in life)) (sound : IsWellFormedWorld (world_of life))
    (count : length life.runs.program ≡ length (world_of life).harts) where
  abbrev start_steps : Steps
  start_steps = first_steps life.kept_before

  start : HasRunLocally life h hart zero (local_state_of hart)
  start =
      let none : life.journal ++ [] ≡ life.journal = append-nil life.journal in
      let world_same : world_of (with_steps life h zero) ≡ world_of life = ap (after_events life.runs.program life.opening) none in
      record {
        world =
            world_same
            ∙ ap (λ (hs : List Hart). record (world_of life) { harts = hs }) (sym (set_found (world_of life).harts h hart there));
        steps = ap (λ (j : List Event). steps_along life.runs.marks life.runs.program life.opening j start_steps) none;
        sound = subst IsWellFormedWorld (sym world_same) sound;
        count = count ∙ ap (λ (w : World). length w.harts) (sym world_same);
        points = λ g. ap (λ (j : List Event). point_stores living (opening_of life) j g) none;
        fences = λ g. ap (λ (j : List Event). finished_fences living (opening_of life) j g) none;
        sections = λ g. ap (λ (j : List Event). sections_since (record life { journal = j }) g) none;
      }

  module _ (running : hart.phase ≡ Run) (n : ℕ) (s t : LocalState) (ahead : HasRunLocally life h hart n s)
      (run : local_run (placed_code life.runs.program h) (local_state_of hart) n ≡ Some s)
      (local : local_step (placed_code life.runs.program h) s ≡ Some t) where
    abbrev w : World
    w = world_of (with_steps life h n)

    abbrev at : Hart
    at = with_local_state hart s

    abbrev journal : List Event
    journal = life.journal ++ replicate n (Step h)

    more : life.journal ++ replicate (suc n) (Step h) ≡ journal ++ Step h ∷ []
    more = one_more life.journal (Step h) n

    pub at_there : slice_get w.harts h ≡ Some at
    at_there = ap (λ (v : World). slice_get v.harts h) ahead.world ∙ found_set (world_of life).harts h hart at there

    pub moves : reply_to life.runs.program w (Step h) ≡ Moved
    moves = reply_is life.runs.program w h at t at_there running local

    open_now : AreOpen (length life.runs.program) w.log w.words (steps_in (with_steps life h n))
    open_now =
        let passed = marks_passed (slice_index_or life.runs.marks h []) (placed_code life.runs.program h) (local_state_of hart) n in
        subst (λ (v : World). AreOpen (length life.runs.program) v.log v.words (steps_in (with_steps life h n))) (sym ahead.world)
        (subst (AreOpen (length life.runs.program) (world_of life).log (world_of life).words) (sym ahead.steps)
        (open-more (length life.runs.program) (world_of life).log (world_of life).words h passed (steps_in life) is_open))

    after : world_of (with_steps life h (suc n)) ≡ after_event life.runs.program w (Step h)
    after = ap (after_events life.runs.program life.opening) more ∙ after_more life.runs.program life.opening journal (Step h)

    begun_more : (m : Bool) (passed : ℕ) → begun_if m h (with_more_begun h passed (steps_in life)) ≡ with_more_begun h (passed + cond m 1 0) (steps_in life)
    begun_more true passed =
        let one : suc passed ≡ passed + 1 = omega arith in
        ap (λ (k : ℕ). with_more_begun h k (steps_in life)) one
    begun_more false passed =
        let none : passed ≡ passed + 0 = omega arith in
        ap (λ (k : ℕ). with_more_begun h k (steps_in life)) none

    next : HasRunLocally life h hart (suc n) t
    next =
        let marks : List ℕ = slice_index_or life.runs.marks h [] in
        let passed : ℕ = marks_passed marks (placed_code life.runs.program h) (local_state_of hart) n in
        let queues = queues_stand life.runs.program w (Step h) ahead.count ahead.sound in
        let gone : Hart = with_local_state hart t in
        let all : World = world_of life in
        record {
          world =
              after ∙ world_is life.runs.program w h at t at_there running local
              ∙ ap (λ (v : World). with_hart v h gone) ahead.world
              ∙ ap (λ (hs : List Hart). record all { harts = hs }) (set-set all.harts h at gone);
          steps =
              ap (λ (j : List Event). steps_along life.runs.marks life.runs.program life.opening j start_steps) more
              ∙ along_more life.runs.marks life.runs.program life.opening journal (Step h) start_steps
              ∙ steps_are life.runs.program w h at t at_there running local life.runs.marks (steps_in (with_steps life h n)) open_now
              ∙ ap (begun_if (is_mark life.runs.marks h s.pc) h) ahead.steps
              ∙ begun_more (is_mark life.runs.marks h s.pc) passed
              ∙ ap (λ (found : Option LocalState). with_more_begun h (passed + marks_at marks found) (steps_in life)) (sym run);
          sound = subst IsWellFormedWorld (sym after) queues.0;
          count = ahead.count ∙ sym queues.1 ∙ ap (λ (v : World). length v.harts) (sym after);
          points = λ g.
              let none : point_stores living (opening_of life) journal g + 0 ≡ point_stores living (opening_of life) journal g = omega arith in
              ap (λ (j : List Event). point_stores living (opening_of life) j g) more
              ∙ points_more (opening_of life) journal (Step h) g
              ∙ ap (λ (b : Bool). point_stores living (opening_of life) journal g + cond b 1 0)
              (no_point life.runs.program w h at t at_there running local g) ∙ none ∙ ahead.points g;
          fences = λ g.
              let none : finished_fences living (opening_of life) journal g + 0 ≡ finished_fences living (opening_of life) journal g = omega arith in
              ap (λ (j : List Event). finished_fences living (opening_of life) j g) more
              ∙ fences_more (opening_of life) journal (Step h) g
              ∙ ap (λ (b : Bool). finished_fences living (opening_of life) journal g + cond b 1 0)
              (no_fence life.runs.program w h at t at_there running local g) ∙ none ∙ ahead.fences g;
          sections = λ g.
              let none : sections_since (record life { journal = journal }) g + 0 ≡ sections_since (record life { journal = journal }) g = omega arith in
              let same = ap (λ (v : World). durable_point v.log v.words g) (world_is life.runs.program w h at t at_there running local) in
              ap (λ (j : List Event). sections_since (record life { journal = j }) g) more
              ∙ sections_more (opening_of life) journal (Step h) g
              ∙ ap (λ (b : Bool). sections_since (record life { journal = journal }) g + cond b 1 0)
              (none_at_point life.runs.program w (Step h) g same) ∙ none ∙ ahead.sections g;
        }

  -- after each number of them
  pub has_run_locally : (n : ℕ) (s : LocalState) → (0 < n → hart.phase ≡ Run) → local_run (placed_code life.runs.program h) (local_state_of hart) n ≡ Some s →
      HasRunLocally life h hart n s
  has_run_locally zero s running e =
      let same : local_state_of hart ≡ s = cc in
      subst (HasRunLocally life h hart zero) same start
  has_run_locally (suc n) s running e =
      let before = instruction_before (placed_code life.runs.program h) (local_state_of hart) n s e in
      let runs : hart.phase ≡ Run = running (omega arith) in
      next runs n before.0 s (has_run_locally n before.0 (λ _. runs) before.1) before.1 before.2

  -- each of them moves the hart, and none finds it stopped
  pub each_moves : (count : ℕ) (s : LocalState) → (0 < count → hart.phase ≡ Run) →
      local_run (placed_code life.runs.program h) (local_state_of hart) count ≡ Some s → EachMoves living (opening_of life) life.journal h count
  each_moves count s running run n below =
      let runs : hart.phase ≡ Run = running (omega (arith, below)) in
      let upto = run_before (placed_code life.runs.program h) (local_state_of hart) (suc n) count s (omega (arith, below)) run in
      let before = instruction_before (placed_code life.runs.program h) (local_state_of hart) n upto.0 upto.1 in
      let ahead : HasRunLocally life h hart n before.0 = has_run_locally n before.0 (λ _. runs) before.1 in
      let played_to = played_is (opening_of life) (life.journal ++ replicate n (Step h)) in
      let stopped : Option Hart → Bool = λ found. elim found [
        | Some it ↦ has_stopped it.phase
        | None ↦ false
      ] in (
        ap (λ (m : LifeConfig). reply_to m.runs.program m.world (Step h)) played_to ∙ moves runs n before.0 upto.0 ahead before.1 before.2,
        ap (λ (m : LifeConfig). is_stopped m.world h) played_to ∙ ap stopped (at_there runs n before.0 upto.0 ahead before.1 before.2)
            ∙ ap has_stopped runs,
      )
