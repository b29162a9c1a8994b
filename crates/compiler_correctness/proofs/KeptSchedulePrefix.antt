-- No kept step is lost, whatever happens.
use Rattle.std.proofs.Common.{◌≡◌, refl, ℕ, zero, suc, List, [], ◌∷◌, ◌++◌, sym, ◌∙◌, ap, subst, length, append-nil, append_assoc, Bool, true, false}
use Rattle.std.specs.Prelude.{if◌then◌else◌}
use Rattle.log_schemes.specs.declared.log.Log.{Log}
use Rattle.machine_events.specs.declared.event.Event.{Event}
use Rattle.machine_events.specs.declared.event.Event.TheVariants.{Step, Evict, Crash, Start}
use Rattle.ido_base.specs.Words.{Word}
use Rattle.rv64_isa.specs.declared.object.Slot.{Slot}
use Rattle.machine_model.specs.Executables.{first_world}
use Rattle.machine_model.specs.Machine.{World, after_event, can_start}
use Rattle.machine_model.specs.Schedule.{Steps, begins_life, next_life, only_life, schedules, steps_along, steps_after, with_all_kept, with_step}
use Rattle.machine_model.specs.Schedule.{passes_mark, stores_point, first_steps}
use Rattle.machine_model.proofs.Public.{event_earlier}
use Rattle.crash_simulation.proofs.Public.{kept_same}
use Rattle.compiler_correctness.specs.Compilation.{BeginsWith, BeginLives}
use Rattle.compiler_correctness.specs.Laws.{KeptStepsGrow}

-- ---- Schedules that begin with others

itself : (xs : List ℕ) → BeginsWith xs xs
itself xs = record { rest = []; is = sym (append-nil xs) }

further : (xs ys zs : List ℕ) → BeginsWith zs ys → BeginsWith ys xs → BeginsWith zs xs
further xs ys zs more first = record {
  rest = first.rest ++ more.rest;
  is = more.is ∙ (ap (λ (prefix : List ℕ). prefix ++ more.rest) first.is ∙ append_assoc xs first.rest more.rest);
}

-- ---- Accounts

all_kept : (log : Log) (words : List Word) (count : ℕ) (s : Steps) → BeginsWith (with_all_kept log words count s).kept s.kept
all_kept log words zero s = itself s.kept
all_kept log words (suc h) s =
    further s.kept (with_all_kept log words h s).kept (with_all_kept log words (suc h) s).kept (record { rest = _; is = refl }) (all_kept log words h s)

-- what a step begins or stores keeps nothing
step_kept : (marks : List (List ℕ)) (program : List (List Slot)) (w : World) (h : ℕ) (s : Steps) → (with_step marks program w h s).kept ≡ s.kept
step_kept marks program w h s = kept_same (passes_mark marks program w h) (stores_point program w (Step h) h) h _ s

event_grows : (marks : List (List ℕ)) (program : List (List Slot)) (w : World) (event : Event) (s : Steps) → begins_life w event ≡ false →
    BeginsWith (steps_after marks program w event s).kept s.kept
unfolding steps_after
event_grows marks program w (Step h) s none =
    subst (λ (prefix : List ℕ). BeginsWith (steps_after marks program w (Step h) s).kept prefix) (step_kept marks program w h s)
    (all_kept w.log (after_event program w (Step h)).words (length program) (with_step marks program w h s))
event_grows marks program w (Evict line mask) s none = all_kept w.log (after_event program w (Evict line mask)).words (length program) s
event_grows marks program w Crash s none = itself s.kept
event_grows marks program w Start s none =
    subst (λ (may : Bool). BeginsWith (if may then next_life s else s).kept s.kept) (sym none) (itself s.kept)

-- ---- Lives

-- lives before stay, and the last one's schedule grows
lives_grow : (earlier : List (List ℕ)) (whole prefix : List ℕ) → BeginsWith whole prefix → BeginLives (earlier ++ whole ∷ []) (earlier ++ prefix ∷ [])
lives_grow [] whole prefix begins = (begins, tt)
lives_grow (one ∷ rest) whole prefix begins = (itself one, lives_grow rest whole prefix begins)

-- more lives come after them
more_lives : (lives more : List (List ℕ)) → BeginLives (lives ++ more) lives
more_lives [] more = tt
more_lives (one ∷ rest) more = (itself one, more_lives rest more)

further_lives : (xs ys zs : List (List ℕ)) → BeginLives zs ys → BeginLives ys xs → BeginLives zs xs
further_lives [] ys zs more first = tt
further_lives (x ∷ xs) [] zs more first = absurd first
further_lives (x ∷ xs) (y ∷ ys) [] more first = absurd more
further_lives (x ∷ xs) (y ∷ ys) (z ∷ zs) more first = (further x y z more.0 first.0, further_lives xs ys zs more.1 first.1)

module _ (marks : List (List ℕ)) (program : List (List Slot)) where
  goes_on : (w : World) (event : Event) (s : Steps) → begins_life w event ≡ false → BeginLives (schedules (steps_after marks program w event s)) (schedules s)
  goes_on w event s none =
      let t : Steps = steps_after marks program w event s in
      subst (λ (earlier : List (List ℕ)). BeginLives (earlier ++ t.kept ∷ []) (schedules s)) (sym (event_earlier marks program w event s none))
      (lives_grow s.earlier t.kept s.kept (event_grows marks program w event s none))

  event_lives : (w : World) (event : Event) (s : Steps) → BeginLives (schedules (steps_after marks program w event s)) (schedules s)
  unfolding steps_after
  event_lives w (Step h) s = goes_on w (Step h) s refl
  event_lives w (Evict line mask) s = goes_on w (Evict line mask) s refl
  event_lives w Crash s = goes_on w Crash s refl
  event_lives w Start s = by (can_start w)
    where
      by : (may : Bool) → BeginLives (schedules (if may then next_life s else s)) (schedules s)
      by true = more_lives (schedules s) ([] ∷ [])
      by false = lives_grow s.earlier s.kept s.kept (itself s.kept)

  pub along_lives : (events : List Event) (w : World) (s : Steps) → BeginLives (schedules (steps_along marks program w events s)) (schedules s)
  along_lives [] w s = lives_grow s.earlier s.kept s.kept (itself s.kept)
  along_lives (event ∷ events) w s =
      let t : Steps = steps_after marks program w event s in
      further_lives (schedules s) (schedules t) (schedules (steps_along marks program (after_event program w event) events t))
      (along_lives events (after_event program w event) t) (event_lives w event s)

  grow : (events more : List Event) (w : World) (s : Steps) →
      BeginLives (schedules (steps_along marks program w (events ++ more) s)) (schedules (steps_along marks program w events s))
  grow [] more w s = along_lives more w s
  grow (event ∷ events) more w s = grow events more (after_event program w event) (steps_after marks program w event s)

pub kept_steps_grow : KeptStepsGrow
kept_steps_grow c events more =
    grow c.runs.marks c.runs.program events more (first_world c.runs) (first_steps (only_life []))
