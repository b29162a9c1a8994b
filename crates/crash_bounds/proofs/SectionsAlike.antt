-- Where a hart holds nothing, as many sections of its thread are kept whatever was evicted in a life without a crash.
use Rattle.std.proofs.Common.{◌≡◌, ◌≢◌, ◌⊎◌, inl, inr, refl, ℕ, zero, suc, ◌+◌, ◌<◌, ◌≤◌, List, [], ◌∷◌, ◌++◌, length, ap, sym, ◌∙◌, subst, arith}
use Rattle.std.proofs.Common.{cond, Bool, true, false, Option, Some, None, add-zero, append_assoc, append-nil}
use Rattle.std.specs.Prelude.{slice_get, not, ◌&&◌, ◌==◌, if◌then◌else◌}
use Rattle.std.proofs.lemmas.Bool.{cases_eq, cases_Bool}
use Rattle.std.proofs.lemmas.Option.{slice_get_within}
use Rattle.machine_events.specs.declared.event.Event.{Event}
use Rattle.machine_events.specs.declared.event.Event.TheVariants.{Step, Evict, Crash, Start}
use Rattle.log_schemes.specs.declared.log.Log.{Log}
use Rattle.log_schemes.specs.Layout.{point_at}
use Rattle.ido_base.specs.Words.{Word}
use Rattle.ido_base.specs.Locks.{holds_none}
use Rattle.rv64_isa.specs.declared.object.Slot.{Slot}
use Rattle.machine_model.specs.declared.phase.Phase.{Phase}
use Rattle.machine_model.specs.declared.phase.Phase.TheVariants.{Take, Wait, Resume, Run, Done, Ended}
use Rattle.machine_model.specs.Executables.{first_world}
use Rattle.machine_model.specs.Frames.{IsWellFormedWorld, IsHeldOn, Stays, Takes, Gives}
use Rattle.machine_model.specs.Machine.{Hart, World, Outcome, has_stopped, happens, after_event, after_events, durable_point}
use Rattle.machine_model.specs.Schedule.{KeepsOn, begins_life, releases_last, released_after, released_along}
use Rattle.machine_model.proofs.Public.{log_stays, steps_touch}
use Rattle.eviction_laws.specs.Evictions.{is_entering, NoneEnters}
use Rattle.eviction_laws.proofs.Public.{GoesAlike, alike_refl, lives_enter_none, step_alike}
use Rattle.hart_runs.proofs.Public.{stopped_stay}
use Rattle.flow_graph.proofs.Public.{found_in}
use Rattle.recovered_threads.proofs.Public.{holds_none_is, none_if}
use Rattle.compiler_correctness.specs.Translations.{Translation, GoOn, world}
use Rattle.compiler_correctness.specs.Compilation.{AreSectionsKept, AreWhole, IsOutside, ends_at_point, sections_kept, sections_released}
use Rattle.crash_bounds.proofs.RoundsOfHarts.{after_both}

-- a hart that isn't in a section: it has stopped, or executes instructions and holds nothing
pub record StandsOutside (w : World) (h : ℕ) : Type 0 where
  pub hart : Hart
  pub there : slice_get w.harts h ≡ Some hart
  pub outside : IsOutside w h hart

-- one that is: it executes instructions, and holds a lock
pub record StandsInside (w : World) (h : ℕ) : Type 0 where
  pub hart : Hart
  pub there : slice_get w.harts h ≡ Some hart
  pub runs : hart.phase ≡ Run
  pub some : holds_none w.holders h ≡ false

pub stands : (w : World) (h : ℕ) (hart : Hart) → slice_get w.harts h ≡ Some hart → is_entering hart.phase ≡ false → StandsOutside w h ⊎ StandsInside w h
stands w h hart there out = by hart.phase refl out
  where
    by : (phase : Phase) → hart.phase ≡ phase → is_entering phase ≡ false → StandsOutside w h ⊎ StandsInside w h
    by Take is apart = absurd (let never : true ≡ false = apart in cc)
    by Wait is apart = absurd (let never : true ≡ false = apart in cc)
    by Resume is apart = absurd (let never : true ≡ false = apart in cc)
    by Run is apart = elim (cases_Bool (holds_none w.holders h)) [
      | inl none ↦ inl (record { hart = hart; there = there; outside = inr (is, none) })
      | inr some ↦ inr (record { hart = hart; there = there; runs = is; some = some })
    ]
    by Done is apart = inl (record { hart = hart; there = there; outside = inl (ap has_stopped is) })
    by Ended is apart = inl (record { hart = hart; there = there; outside = inl (ap has_stopped is) })

-- ---- Releases

one_if : Bool → ℕ
one_if b = if b then 1 else 0

pub released_both : (program : List (List Slot)) (first rest : List Event) (w : World) (h before : ℕ) →
    released_along program w (first ++ rest) h before
    ≡ released_along program (after_events program w first) rest h (released_along program w first h before)
released_both program [] rest w h before = refl
released_both program (event ∷ first) rest w h before =
    released_both program first rest (after_event program w event) h (released_after program w event h before)

begins_none : (w : World) (event : Event) → KeepsOn event → begins_life w event ≡ false
begins_none w (Step h) on = refl
begins_none w (Evict line mask) on = refl
begins_none w Crash on = absurd on
begins_none w Start on = absurd on

released_on : (program : List (List Slot)) (w : World) (event : Event) → KeepsOn event → (h before : ℕ) →
    released_after program w event h before ≡ before + (if releases_last program w event h then 1 else 0)
released_on program w event on h before =
    ap (λ (b : Bool). if b then 0 else before + (if releases_last program w event h then 1 else 0)) (begins_none w event on)

never : (b : Bool) → (not b && b) ≡ false
never true = refl
never false = refl

-- a hart outside a section leaves none
none_released : (program : List (List Slot)) (w : World) (event : Event) → KeepsOn event → (h : ℕ) → StandsOutside w h →
    releases_last program w event h ≡ false
none_released program w (Step g) on h s = elim (cases_eq g h) [
  | inl is ↦ by s.outside
  | inr other ↦ ap (λ (b : Bool). b && (not (holds_none w.holders h) && holds_none (after_event program w (Step h)).holders h)) (unequal g h other)
]
  where
    unequal : (g h : ℕ) → g ≢ h → (g == h) ≡ false
    unequal g h other = grind (arith, other)

    both_false : (b c : Bool) → c ≡ false → (b && c) ≡ false
    both_false true c e = e
    both_false false c e = refl

    idle : (phase : Phase) → s.hart.phase ≡ phase → has_stopped phase ≡ true → after_event program w (Step h) ≡ w
    idle Done is stopped = ap (λ (o : Outcome). o.0) (stopped_stay program w h Done (inl refl) (record { hart = s.hart; here = s.there; phase_is = is }))
    idle Ended is stopped = ap (λ (o : Outcome). o.0) (stopped_stay program w h Ended (inr refl) (record { hart = s.hart; here = s.there; phase_is = is }))
    idle Take is stopped = absurd (let no : false ≡ true = stopped in cc)
    idle Wait is stopped = absurd (let no : false ≡ true = stopped in cc)
    idle Resume is stopped = absurd (let no : false ≡ true = stopped in cc)
    idle Run is stopped = absurd (let no : false ≡ true = stopped in cc)

    by : IsOutside w h s.hart → releases_last program w (Step g) h ≡ false
    by (inl stopped) = both_false (g == h) (not (holds_none w.holders h) && holds_none (after_event program w (Step h)).holders h)
        (ap (λ (x : World). not (holds_none w.holders h) && holds_none x.holders h) (idle s.hart.phase refl stopped) ∙ never (holds_none w.holders h))
    by (inr runs) = both_false (g == h) (not (holds_none w.holders h) && holds_none (after_event program w (Step h)).holders h)
        (ap (λ (b : Bool). not b && holds_none (after_event program w (Step h)).holders h) runs.1)
none_released program w (Evict line mask) on h s = refl
none_released program w Crash on h s = absurd on
none_released program w Start on h s = absurd on

-- ---- A hart leaves a section by a release of its own, which leaves all words

-- by another hart's step it holds nothing only where it held nothing before
other_holds : (g h : ℕ) → h ≢ g → (w u : World) → ((lock : ℕ) → IsHeldOn g (slice_get w.holders lock) (slice_get u.holders lock)) →
    holds_none u.holders h ≡ true → holds_none w.holders h ≡ true
other_holds g h other w u changed none = none_if 0 h w.holders (λ lock held. holds_none_is h u.holders lock none (still lock held (changed lock)))
  where
    still : (lock : ℕ) → slice_get w.holders lock ≡ Some (Some h) → IsHeldOn g (slice_get w.holders lock) (slice_get u.holders lock) →
        slice_get u.holders lock ≡ Some (Some h)
    still lock held (Stays same) = same ∙ held
    still lock held (Takes free taken) = absurd (let no : Some (Some h) ≡ Some None = sym held ∙ free in cc)
    still lock held (Gives own freed) = absurd (other (let same : Some (Some h) ≡ Some (Some g) = sym held ∙ own in cc))

record Leaves (program : List (List Slot)) (w : World) (event : Event) (h : ℕ) : Type 0 where
  releases : releases_last program w event h ≡ true
  words : (after_event program w event).words ≡ w.words

evicts_nothing : (program : List (List Slot)) (w : World) (line mask h : ℕ) → StandsOutside (after_event program w (Evict line mask)) h → StandsOutside w h
unfolding happens
evicts_nothing program w line mask h s = record { hart = s.hart; there = s.there; outside = s.outside }

not_both : (w : World) (h : ℕ) → StandsOutside w h → StandsInside w h → ⊥
not_both w h out inside =
    let same : Some out.hart ≡ Some inside.hart = sym out.there ∙ inside.there in
    let is : out.hart ≡ inside.hart = cc in
    by out.outside (ap (λ (x : Hart). x.phase) is ∙ inside.runs)
  where
    by : IsOutside w h out.hart → out.hart.phase ≡ Run → ⊥
    by (inl stopped) runs = let no : false ≡ true = sym (ap has_stopped runs) ∙ stopped in cc
    by (inr runs) is = let no : true ≡ false = sym runs.1 ∙ inside.some in cc

leaves : (program : List (List Slot)) (w : World) → IsWellFormedWorld w → (event : Event) → KeepsOn event → (h : ℕ) → StandsInside w h →
    StandsOutside (after_event program w event) h → Leaves program w event h
leaves program w sound (Evict line mask) on h inside out = absurd (not_both w h (evicts_nothing program w line mask h out) inside)
leaves program w sound Crash on h inside out = absurd on
leaves program w sound Start on h inside out = absurd on
leaves program w sound (Step g) on h inside out = elim (cases_eq g h) [
  | inl is ↦ subst (λ (k : ℕ). Leaves program w (Step k) h) (sym is) (own (subst (λ (k : ℕ). StandsOutside (after_event program w (Step k)) h) is out))
  | inr other ↦ absurd (not_both w h (by_other other) inside)
]
  where
    alike : GoesAlike w h (happens program w (Step h)) (happens program w (Step h))
    alike = step_alike program w w h (λ hart there.
        let same : Some inside.hart ≡ Some hart = sym inside.there ∙ there in
        let is : inside.hart ≡ hart = cc in
        ap (λ (x : Hart). is_entering x.phase) (sym is) ∙ ap is_entering inside.runs) (alike_refl w)

    -- another hart's step leaves the hart, and the locks that it holds
    by_other : g ≢ h → StandsOutside w h
    by_other other =
        let touches = steps_touch program w g sound in
        let turned : h ≢ g = λ e. other (sym e) in
        record {
          hart = out.hart;
          there = sym (touches.others h turned) ∙ out.there;
          outside = elim out.outside [
            | inl stopped ↦ inl stopped
            | inr runs ↦ inr (runs.0, other_holds g h turned w (after_event program w (Step g)) touches.holders runs.1)
          ];
        }

    -- its own step leaves it with nothing, so locks are other ones, and words the same
    own : StandsOutside (after_event program w (Step h)) h → Leaves program w (Step h) h
    own after = by (nothing after.outside)
      where
        u : World
        u = after_event program w (Step h)

        same_world : u ≡ w → ⊥
        same_world same = not_both w h (subst (λ (x : World). StandsOutside x h) same after) inside

        nothing : IsOutside u h after.hart → holds_none u.holders h ≡ true
        nothing (inl stopped) = elim (alike.stops after.hart after.there stopped) [
          | inl none ↦ none
          | inr same ↦ absurd (same_world same)
        ]
        nothing (inr runs) = runs.1

        by : holds_none u.holders h ≡ true → Leaves program w (Step h) h
        by none = record {
          releases =
              ap (λ (b : Bool). (h == h) && (not b && holds_none u.holders h)) inside.some
              ∙ ap (λ (b : Bool). (h == h) && (not false && b)) none
              ∙ (let same : (h == h) ≡ true = grind arith in ap (λ (b : Bool). b && true) same);
          words = elim alike.apart [
            | inl same ↦ absurd (let no : true ≡ false =
                sym none ∙ (ap (λ (holders : List (Option ℕ)). holds_none holders h) same ∙ inside.some) in cc)
            | inr same ↦ same
          ];
        }

-- ---- Along a life

module _ (c : Translation) (kept : (events : List Event) → AreSectionsKept c events) (whole : (events : List Event) → AreWhole c events)
    (sound : (events : List Event) → IsWellFormedWorld (world c events)) (h : ℕ) (below : h < length c.runs.program) (before : List Event) where
  -- since then it has left no section, and no more is kept; or as many are kept as it has left
  data Since (events : List Event) : Type 0 where
    none_left : sections_released c events h ≡ sections_released c before h → sections_kept c events h ≡ sections_kept c before h → Since events
    some_left : sections_released c before h < sections_released c events h → sections_kept c events h ≡ sections_released c events h → Since events

  record Tracks (events : List Event) : Type 0 where
    more : sections_released c before h ≤ sections_released c events h
    outside : StandsOutside (world c events) h → Since events

  module _ (events : List Event) (event : Event) (on : KeepsOn event) where
    after : List Event
    after = events ++ event ∷ []

    world_after : world c after ≡ after_event c.runs.program (world c events) event
    unfolding after
    world_after = after_both c.runs.program events (event ∷ []) (first_world c.runs)

    released_is : sections_released c after h
        ≡ sections_released c events h + (if releases_last c.runs.program (world c events) event h then 1 else 0)
    unfolding after
    released_is =
        released_both c.runs.program events (event ∷ []) (first_world c.runs) h 0
        ∙ released_on c.runs.program (world c events) event on h (sections_released c events h)

    kept_is : sections_kept c after h ≡ sections_kept c events h + (if ends_at_point c events event h then 1 else 0)
    unfolding after
    kept_is = (kept events).by_points event h below (begins_none (world c events) event on)

    none_ends : durable_point (world c events).log (world c events).words h ≡ 0 → ends_at_point c events event h ≡ false
    none_ends point =
        ap (λ (p : ℕ). not (p == 0)
        && (durable_point (after_event c.runs.program (world c events) event).log (after_event c.runs.program (world c events) event).words h == 0)) point

    same_kept : durable_point (world c events).log (world c events).words h ≡ 0 → sections_kept c after h ≡ sections_kept c events h
    same_kept point =
        let none : ◌≡◌ {A = ℕ} (if ends_at_point c events event h then 1 else 0) 0 = ap (λ (b : Bool). if b then 1 else 0) (none_ends point) in
        let is = kept_is in
        omega (arith, none, is)

    at_least : (n : ℕ) (b : Bool) → n ≤ n + (if b then 1 else 0)
    at_least n b = omega arith

    -- it was outside before, too
    stays_out : StandsOutside (world c events) h → Since events → Since after
    stays_out out since =
        let none : ◌≡◌ {A = ℕ} (if releases_last c.runs.program (world c events) event h then 1 else 0) 0 =
        ap (λ (b : Bool). if b then 1 else 0) (none_released c.runs.program (world c events) event on h out) in
        let released = released_is in
        let point = (whole events h out.hart out.there).no_durable_point out.outside in
        let same = same_kept point in
        by since (omega (arith, none, released)) same
      where
        by : Since events → sections_released c after h ≡ sections_released c events h → sections_kept c after h ≡ sections_kept c events h → Since after
        by (none_left r k) released same = none_left (released ∙ r) (same ∙ k)
        by (some_left r k) released same = some_left (omega (arith, r, released)) (same ∙ (k ∙ sym released))

    -- it leaves its section by the event
    comes_out : sections_released c before h ≤ sections_released c events h → StandsInside (world c events) h → StandsOutside (world c after) h → Since after
    comes_out more inside out =
        let w = world c events in
        let left : Leaves c.runs.program w event h =
        leaves c.runs.program w (sound events) event on h inside (subst (λ (x : World). StandsOutside x h) world_after out) in
        let one : ◌≡◌ {A = ℕ} (if releases_last c.runs.program w event h then 1 else 0) 1 = ap (λ (b : Bool). if b then 1 else 0) left.releases in
        let released = released_is in
        let later = (whole after h out.hart out.there).no_durable_point out.outside in
        let words : (world c after).words ≡ w.words = ap (λ (x : World). x.words) world_after ∙ left.words in
        let point : durable_point w.log w.words h ≡ 0 =
        ap (λ (l : Log). durable_point l w.words h) (sym log_same) ∙ (ap (λ (ws : List Word). durable_point (world c after).log ws h) (sym words) ∙ later) in
        let same = same_kept point in
        let least = (kept after).no_less h in
        let most = (kept events).no_more h in
        some_left (omega (arith, more, one, released)) (omega (arith, one, released, same, least, most))
      where
        log_same : (world c after).log ≡ (world c events).log
        log_same = ap (λ (x : World). x.log) world_after ∙ log_stays c.runs.program (world c events) event (sound events)

  module _ (count : (events : List Event) → length (world c events).harts ≡ length c.runs.program) where
    tracks_on : (events : List Event) (event : Event) → KeepsOn event → NoneEnters (world c events) → Tracks events → Tracks (events ++ event ∷ [])
    unfolding after
    tracks_on events event on out t = record {
      more = (let is = released_is events event on in
          let least = at_least events event on (sections_released c events h) (releases_last c.runs.program (world c events) event h) in
          let before_it = t.more in
          omega (arith, is, least, before_it));
      outside = λ s.
          let size = count events in
          let found = found_in (world c events).harts h (omega (arith, size, below)) in
          elim (stands (world c events) h found.0 found.1 (out h found.0 found.1)) [
            | inl was ↦ stays_out events event on was (t.outside was)
            | inr inside ↦ comes_out events event on t.more inside s
          ];
    }

    along : (more : List Event) → GoOn more → (events : List Event) → NoneEnters (world c events) → Tracks events → Tracks (events ++ more)
    unfolding after
    along [] on events out t = subst Tracks (sym (append-nil events)) t
    along (event ∷ more) on events out t =
        let next : NoneEnters (world c (events ++ event ∷ [])) =
        subst NoneEnters (sym (world_after events event on.0)) (lives_enter_none c.runs.program (world c events) event on.0 out) in
        subst Tracks (append_assoc events (event ∷ []) more)
        (along more on.1 (events ++ event ∷ []) next (tracks_on events event on.0 out t))

    same_sections : (one other : List Event) → Since one → Since other → sections_released c other h ≡ sections_released c one h →
        sections_kept c other h ≡ sections_kept c one h
    same_sections one other (none_left r k) (none_left r' k') same = k' ∙ sym k
    same_sections one other (none_left r k) (some_left r' k') same = absurd (omega (arith, r, r', same))
    same_sections one other (some_left r k) (none_left r' k') same = absurd (omega (arith, r, r', same))
    same_sections one other (some_left r k) (some_left r' k') same = k' ∙ (same ∙ sym k)

    pub sections_alike : (one other : List Event) → GoOn one → GoOn other → NoneEnters (world c before) →
        sections_released c (before ++ other) h ≡ sections_released c (before ++ one) h → StandsOutside (world c (before ++ one)) h →
        StandsOutside (world c (before ++ other)) h → sections_kept c (before ++ other) h ≡ sections_kept c (before ++ one) h
    sections_alike one other on_one on_other out same by_one by_other =
        let begins : Tracks before = record { more = omega arith; outside = λ s. none_left refl refl } in
        same_sections (before ++ one) (before ++ other) ((along one on_one before out begins).outside by_one)
        ((along other on_other before out begins).outside by_other) same
