-- In compiled programs harts that take locks in recovery never wait for one, so recovery is entered within those rounds.
use Rattle.std.proofs.Common.{◌≡◌, refl, List, [], ◌∷◌, ◌++◌, length, map, ap, sym, ◌∙◌, subst}
use Rattle.log_schemes.specs.declared.log.Log.{Log}
use Rattle.machine_events.specs.declared.event.Event.{Event}
use Rattle.machine_events.specs.declared.event.Event.TheVariants.{Crash}
use Rattle.ido_base.specs.Words.{durable_value}
use Rattle.rv64_isa.specs.declared.object.Slot.{Slot}
use Rattle.machine_model.specs.Executables.{first_world}
use Rattle.machine_model.specs.Frames.{IsWellFormedWorld}
use Rattle.machine_model.specs.Machine.{World, after_event, after_events, after_crash_of, start_of}
use Rattle.machine_model.proofs.Public.{log_stays, queues_stand, starts_simulate}
use Rattle.eviction_laws.specs.Evictions.{NoneEnters}
use Rattle.compiler_correctness.specs.Translations.{Translation, world}
use Rattle.compiler_correctness.specs.Images.{first_from}
use Rattle.crash_bounds.specs.Rounds.{KeepsAtMost}
use Rattle.crash_bounds.specs.Entries.{RecoveryIsEntered, ImagesAreEntered}
use Rattle.crash_bounds.proofs.EnteringHarts.{TakesMove}
use Rattle.crash_bounds.proofs.RoundsOfHarts.{TakesMoveAlong, after_both, crash_leaves, entered}

-- ---- Along events from a world

module _ (program : List (List Slot)) (first : World) where
  after_one : (done : List Event) (event : Event) →
      after_events program first (done ++ event ∷ []) ≡ after_event program (after_events program first done) event
  after_one done event = after_both program done (event ∷ []) first

  -- what is so after all events is so along them
  pub moves_along : ((events : List Event) → TakesMove program (after_events program first events)) → (events done : List Event) →
      TakesMoveAlong program (after_events program first done) events
  moves_along moves [] done = moves done
  moves_along moves (event ∷ events) done =
      (moves done, subst (λ (w : World). TakesMoveAlong program w events) (after_one done event) (moves_along moves events (done ++ event ∷ [])))

log_along : (program : List (List Slot)) (events : List Event) (w : World) → length program ≡ length w.harts → IsWellFormedWorld w →
    (after_events program w events).log ≡ w.log
log_along program [] w count sound = refl
log_along program (event ∷ events) w count sound =
    let next = queues_stand program w event count sound in
    log_along program events (after_event program w event) (count ∙ sym next.1) next.0 ∙ log_stays program w event sound

-- ---- After a crash

first_log : (c : Translation) → (first_world c.runs).log ≡ c.runs.log
unfolding start_of
first_log c = refl

pub log_is : (c : Translation) (events : List Event) → (world c events).log ≡ c.runs.log
log_is c events =
    let starts = starts_simulate c.runs.log c.runs.program c.runs.mutexes c.runs.initial in
    log_along c.runs.program events (first_world c.runs) (sym starts.1) starts.0 ∙ first_log c

pub recovery_is_entered : RecoveryIsEntered
recovery_is_entered c compiled most few before events none hold =
    let w = world c before in
    let program = c.runs.program in
    let crashed = after_crash_of w.log program (length w.holders) (map durable_value w.words) in
    let moves : TakesMoveAlong program crashed events =
    subst (λ (x : World). TakesMoveAlong program x events) (after_one program (first_world c.runs) before Crash ∙ crash_leaves program w)
    (moves_along program (first_world c.runs) (λ done h hart there is. ((compiled.records done).each h hart there).takes is) events
    (before ++ Crash ∷ [])) in
    let lies : world c (before ++ Crash ∷ events) ≡ after_events program crashed events =
    after_both program before (Crash ∷ events) (first_world c.runs) ∙ ap (λ (x : World). after_events program x events) (crash_leaves program w) in
    let keeps : KeepsAtMost w.log most = subst (λ (l : Log). KeepsAtMost l most) (sym (log_is c before)) few in
    subst NoneEnters (sym lies) (entered w.log program (length w.holders) (map durable_value w.words) most keeps events none moves hold)

pub images_are_entered : ImagesAreEntered
images_are_entered c image runs most few events none hold =
    entered c.runs.log c.runs.program c.runs.mutexes image.words most few events none
    (moves_along c.runs.program (first_from c image) (λ done h hart there is.
    runs.takes done h (record { hart = hart; here = there; phase_is = is })) events []) hold
