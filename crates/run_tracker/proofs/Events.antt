-- What an event does to steps, and to what is counted along events.
use Rattle.std.proofs.Common.{◌≡◌, ℕ, ◌+◌, ◌≤◌, List, [], ◌∷◌, ◌++◌, length, subst, sym}
use Rattle.std.proofs.Common.{Bool, true, false, cond, if◌then◌else◌, refl, ap, ◌∙◌, arith, inl}
use Rattle.machine_model.proofs.Public.{log_stays, outcome_of}
use Rattle.run_tracker.proofs.LivesEnd.{next_keeps}
use Rattle.log_schemes.specs.declared.log.Log.{Log}
use Rattle.machine_events.specs.declared.event.Event.{Event}
use Rattle.machine_events.specs.declared.event.Event.TheVariants.{Step, Evict, Crash, Start}
use Rattle.ido_base.specs.Words.{Word, word_at, last_position}
use Rattle.ido_base.specs.Growth.{AreChanged}
use Rattle.machine_events.specs.Cores.{played, passed_count, point_stores, finished_fences}
use Rattle.machine_events.proofs.Public.{passed_count-more}
use Rattle.rv64_isa.specs.declared.object.Slot.{Slot}
use Rattle.machine_model.specs.Frames.{IsWellFormedWorld}
use Rattle.machine_model.proofs.Public.{steps_touch, evictions_touch}
use Rattle.machine_model.specs.Machine.{World, after_event, after_events, can_start, happens}
use Rattle.machine_model.specs.Schedule.{Steps, next_life, with_begun, with_stored, with_step, with_all_kept}
use Rattle.machine_model.specs.Schedule.{steps_after, steps_along, passes_mark, stores_point, finishes_fence}
use Rattle.run_tracker.specs.links.AccountRepresentation.{AreOrdered, weight, point_word}
use Rattle.run_tracker.specs.ObjectLives.{LifeConfig, living, ends_at_point}
use Rattle.run_tracker.proofs.StepTotals.{weight-begun, weight-stored, weight-all_kept}
use Rattle.run_tracker.proofs.StepOrder.{ordered_later, ordered-begun, ordered-stored, ordered-all_kept}

-- ---- One more event

pub after_more : (program : List (List Slot)) (w : World) (events : List Event) (event : Event) →
    after_events program w (events ++ event ∷ []) ≡ after_event program (after_events program w events) event
after_more program w [] event = refl
after_more program w (e ∷ es) event = after_more program (after_event program w e) es event

pub along_more : (marks : List (List ℕ)) (program : List (List Slot)) (w : World) (events : List Event) (event : Event) (s : Steps)
    → steps_along marks program w (events ++ event ∷ []) s
    ≡ steps_after marks program (after_events program w events) event (steps_along marks program w events s)
along_more marks program w [] event s = refl
along_more marks program w (e ∷ es) event s = along_more marks program (after_event program w e) es event (steps_after marks program w e s)

pub played_is : (m : LifeConfig) (events : List Event) → played living m events ≡ record m { world = after_events m.runs.program m.world events }
played_is m [] = refl
played_is m (e ∷ es) = played_is (record m { world = after_event m.runs.program m.world e }) es

pub points_more : (m : LifeConfig) (events : List Event) (event : Event) (h : ℕ)
    → point_stores living m (events ++ event ∷ []) h
    ≡ point_stores living m events h + cond (stores_point m.runs.program (after_events m.runs.program m.world events) event h) 1 0
points_more m events event h =
    passed_count-more living (λ (n : LifeConfig). living.stores_point n h) m events event
    ∙ ap (λ (n : LifeConfig). point_stores living m events h + cond (living.stores_point n h event) 1 0) (played_is m events)

pub fences_more : (m : LifeConfig) (events : List Event) (event : Event) (h : ℕ)
    → finished_fences living m (events ++ event ∷ []) h
    ≡ finished_fences living m events h + cond (finishes_fence m.runs.program (after_events m.runs.program m.world events) event h) 1 0
fences_more m events event h =
    passed_count-more living (λ (n : LifeConfig). living.finishes_fence n h) m events event
    ∙ ap (λ (n : LifeConfig). finished_fences living m events h + cond (living.finishes_fence n h event) 1 0) (played_is m events)

pub sections_more : (m : LifeConfig) (events : List Event) (event : Event) (h : ℕ)
    → passed_count living (λ (n : LifeConfig) e. ends_at_point n.runs.program n.world e h) m (events ++ event ∷ [])
    ≡ passed_count living (λ (n : LifeConfig) e. ends_at_point n.runs.program n.world e h) m events
    + cond (ends_at_point m.runs.program (after_events m.runs.program m.world events) event h) 1 0
sections_more m events event h =
    let ends : LifeConfig → Event → Bool = λ n e. ends_at_point n.runs.program n.world e h in
    passed_count-more living ends m events event
    ∙ ap (λ (n : LifeConfig). passed_count living ends m events + cond (ends n event) 1 0) (played_is m events)

-- ---- What a step begins and stores

-- a step is begun if a mark was passed, and the hart's steps are followed by a store if the point was stored
abbrev pub begun_if : (mark : Bool) (h : ℕ) → Steps → Steps
begun_if mark h s = if mark then with_begun h s else s

abbrev pub noted : (mark point : Bool) (h position : ℕ) → Steps → Steps
noted mark point h position s = if point then with_stored h position (begun_if mark h s) else begun_if mark h s

weight-begun_if : (mark : Bool) (h : ℕ) (s : Steps) → weight (begun_if mark h s) ≤ weight s + 1
weight-begun_if true h s = omega (arith, weight-begun h s)
weight-begun_if false h s = omega arith

weight-noted : (mark point : Bool) (h position : ℕ) (s : Steps) → weight (noted mark point h position s) ≤ weight s + 1
weight-noted mark true h position s = omega (arith, weight-stored h position (begun_if mark h s), weight-begun_if mark h s)
weight-noted mark false h position s = weight-begun_if mark h s

ordered-begun_if : (log : Log) (words : List Word) (mark : Bool) (h : ℕ) (s : Steps) → AreOrdered log words s → AreOrdered log words (begun_if mark h s)
ordered-begun_if log words true h s ordered = ordered-begun log words h s ordered
ordered-begun_if log words false h s ordered = ordered

pub ordered-noted : (log : Log) (words : List Word) (mark point : Bool) (h position : ℕ) (s : Steps) →
    position ≡ last_position (word_at words (point_word log h)) →
    AreOrdered log words s → AreOrdered log words (noted mark point h position s)
ordered-noted log words mark true h position s e ordered =
    ordered-stored log words h position (begun_if mark h s) e (ordered-begun_if log words mark h s ordered)
ordered-noted log words mark false h position s e ordered = ordered-begun_if log words mark h s ordered

-- ---- Steps after an event

pub weight-after : (marks : List (List ℕ)) (program : List (List Slot)) (w : World) (event : Event) (s : Steps) →
    weight (steps_after marks program w event s) ≤ weight s + 1
unfolding steps_after
weight-after marks program w (Step h) s =
    let words = (after_event program w (Step h)).words in
    omega (
      arith,
      weight-all_kept w.log words (length program) (with_step marks program w h s),
      weight-noted (passes_mark marks program w h) (stores_point program w (Step h) h) h (last_position (word_at words (point_word w.log h))) s,
    )
weight-after marks program w (Evict line mask) s =
    omega (arith, weight-all_kept w.log (after_event program w (Evict line mask)).words (length program) s)
weight-after marks program w Crash s = omega arith
weight-after marks program w Start s = by (can_start w)
  where
    by : (may : Bool) → weight (if may then next_life s else s) ≤ weight s + 1
    by true = omega (arith, ap length (next_keeps s))
    by false = omega arith

pub changed_by_step : (program : List (List Slot)) (w : World) (h : ℕ) → IsWellFormedWorld w → AreChanged w.words (after_event program w (Step h)).words
changed_by_step program w h sound = (steps_touch program w h sound).words

pub changed_by_eviction : (program : List (List Slot)) (w : World) (line mask : ℕ) → AreChanged w.words (after_event program w (Evict line mask)).words
changed_by_eviction program w line mask =
    let raised = (evictions_touch program w line mask).0 in
    record { size = raised.size; each = λ j. inl (raised.each j) }

pub ordered-after : (marks : List (List ℕ)) (program : List (List Slot)) (w : World) (event : Event) (s : Steps) → IsWellFormedWorld w →
    AreOrdered w.log w.words s →
    AreOrdered (after_event program w event).log (after_event program w event).words (steps_after marks program w event s)
unfolding steps_after happens
ordered-after marks program w (Step h) s sound ordered =
    let words = (after_event program w (Step h)).words in
    subst (λ (l : Log). AreOrdered l words (steps_after marks program w (Step h) s)) (sym (log_stays program w (Step h) sound))
    (ordered-all_kept w.log words words (length program) (with_step marks program w h s)
    (ordered-noted w.log words (passes_mark marks program w h) (stores_point program w (Step h) h) h (last_position (word_at words (point_word w.log h))) s refl
    (ordered_later w.log w.words words s (changed_by_step program w h sound) ordered)))
ordered-after marks program w (Evict line mask) s sound ordered =
    let words = (after_event program w (Evict line mask)).words in
    subst (λ (l : Log). AreOrdered l words (steps_after marks program w (Evict line mask) s)) (sym (log_stays program w (Evict line mask) sound))
    (ordered-all_kept w.log words words (length program) s (ordered_later w.log w.words words s (changed_by_eviction program w line mask) ordered))
ordered-after marks program w Crash s sound ordered = record { in_order = λ h. tt; up_to = λ h. tt }
ordered-after marks program w Start s sound ordered = by (can_start w)
  where
    by : (may : Bool) → AreOrdered (outcome_of program w may).0.log (outcome_of program w may).0.words (if may then next_life s else s)
    by true = record { in_order = λ h. tt; up_to = λ h. tt }
    by false = ordered

-- ---- What was noted of an event is what the definition says

pub noted_is : (marks : List (List ℕ)) (program : List (List Slot)) (w : World) (h : ℕ) (s : Steps) (mark point : Bool) (position : ℕ)
    → mark ≡ passes_mark marks program w h → point ≡ stores_point program w (Step h) h →
    position ≡ last_position (word_at (after_event program w (Step h)).words (point_word w.log h))
    → noted mark point h position s ≡ with_step marks program w h s
noted_is marks program w h s mark point position mark_is point_is position_is =
    ap (λ (m : Bool). noted m point h position s) mark_is
    ∙ ap (λ (p : Bool). noted (passes_mark marks program w h) p h position s) point_is
    ∙ ap (λ (p : ℕ). noted (passes_mark marks program w h) (stores_point program w (Step h) h) h p s) position_is

pub eviction_is : (marks : List (List ℕ)) (program : List (List Slot)) (w : World) (line mask : ℕ) (s : Steps) (n : ℕ) → n ≡ length program
    → with_all_kept w.log (after_event program w (Evict line mask)).words n s ≡ steps_after marks program w (Evict line mask) s
unfolding steps_after
eviction_is marks program w line mask s n n_is = ap (λ (k : ℕ). with_all_kept w.log (after_event program w (Evict line mask)).words k s) n_is
