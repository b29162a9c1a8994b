-- A hart that nears its next mark passes it, or stops.
use Rattle.std.proofs.Common.{◌≡◌, ◌⊎◌, inl, inr, refl, ℕ, zero, suc, ◌+◌, ◌<◌, ◌≤◌, List, [], ◌∷◌, length, sym, ◌∙◌, ap, arith, subst, Bool, true, false}
use Rattle.std.proofs.Common.{Option, ◌==◌, filter}
use Rattle.std.proofs.lemmas.Bool.{cases_eq, true≢false}
use Rattle.std.proofs.lemmas.List.Elements.{filter-append}
use Rattle.std.proofs.Math.ListN.{length-append}
use Rattle.log_schemes.specs.declared.log.Log.{Log}
use Rattle.machine_events.specs.declared.event.Event.{Event}
use Rattle.machine_events.specs.declared.event.Event.TheVariants.{Step, Evict, Crash, Start}
use Rattle.ido_base.specs.Words.{Word, last_position, word_at}
use Rattle.ido_base.specs.Layout.{word_number}
use Rattle.log_schemes.specs.Layout.{point_at}
use Rattle.rv64_isa.specs.declared.object.Slot.{Slot}
use Rattle.machine_model.specs.declared.phase.Phase.{Phase}
use Rattle.machine_model.specs.declared.phase.Phase.TheVariants.{Done, Ended}
use Rattle.machine_model.specs.Machine.{Hart, World, after_event, after_events, happens, has_stopped, phase_step, stepped}
use Rattle.machine_model.specs.Frames.{IsWellFormedWorld}
use Rattle.machine_model.specs.Schedule.{KeepsOn, Steps, with_begun, with_step, with_all_kept, steps_after, steps_along, passes_mark, stores_point}
use Rattle.machine_model.proofs.Public.{queues_stand, steps_touch}
use Rattle.machine_model.specs.Executables.{Executable}
use Rattle.compiler_correctness.specs.Translations.{GoOn, HaveNoCrash}
use Rattle.compiler_correctness.specs.Delays.{is_active_step, active_steps, IsStopped, begun_by, GetsOnAmong, GetsOnBy}
use Rattle.crash_simulation.specs.ReleasedSections.{one_if}
use Rattle.crash_simulation.proofs.Public.{counted_by, at_most_one}

-- the account of begun steps grows by the events, or the hart has stopped in the end
abbrev pub GetsOn : (marks : List (List ℕ)) (program : List (List Slot)) (h : ℕ) → World → Steps → List Event → Type 0
GetsOn marks program h w s more = (begun_by s h < begun_by (steps_along marks program w more s) h) ⊎ IsStopped (after_events program w more) h

-- ---- Begun steps are never fewer

pub kept_begun : (log : Log) (words : List Word) (count : ℕ) (s : Steps) → (with_all_kept log words count s).begun ≡ s.begun
kept_begun log words zero s = refl
kept_begun log words (suc h) s = kept_begun log words h s

begun_more : (h g : ℕ) (s : Steps) → begun_by (with_begun g s) h ≡ begun_by s h + length (filter (λ x. x == h) (g ∷ []))
begun_more h g s =
    ap (λ (xs : List ℕ). length xs) (filter-append (λ x. x == h) s.begun (g ∷ []))
    ∙ length-append (filter (λ x. x == h) s.begun) (filter (λ x. x == h) (g ∷ []))

one_own : (h : ℕ) → length (filter (λ x. x == h) (h ∷ [])) ≡ 1
one_own h = grind arith

step_more : (begun points : Bool) (h g position : ℕ) (s : Steps) → begun_by s h ≤ begun_by (counted_by begun points g position s) h
step_more false false h g position s = omega arith
step_more false true h g position s = omega arith
step_more true false h g position s = let more = begun_more h g s in omega (arith, more)
step_more true true h g position s = let more = begun_more h g s in omega (arith, more)

own_more : (points : Bool) (h position : ℕ) (s : Steps) → begun_by s h < begun_by (counted_by true points h position s) h
own_more false h position s = let more = begun_more h h s in let one = one_own h in omega (arith, more, one)
own_more true h position s = let more = begun_more h h s in let one = one_own h in omega (arith, more, one)

module _ (marks : List (List ℕ)) (program : List (List Slot)) (h : ℕ) where
  abbrev position_of : World → (g : ℕ) → ℕ
  position_of w g = last_position (word_at (after_event program w (Step g)).words (word_number (point_at w.log g)))

  count_kept : (log : Log) (words : List Word) (count : ℕ) (s : Steps) → begun_by (with_all_kept log words count s) h ≡ begun_by s h
  count_kept log words count s = ap (λ (xs : List ℕ). length (filter (λ x. x == h) xs)) (kept_begun log words count s)

  after_more : (w : World) (event : Event) (s : Steps) → KeepsOn event → begun_by s h ≤ begun_by (steps_after marks program w event s) h
  unfolding steps_after
  after_more w (Step g) s on =
      let more = step_more (passes_mark marks program w g) (stores_point program w (Step g) g) h g (position_of w g) s in
      let kept = count_kept w.log (after_event program w (Step g)).words (length program) (with_step marks program w g s) in
      omega (arith, more, kept)
  after_more w (Evict line mask) s on =
      let kept = count_kept w.log (after_event program w (Evict line mask)).words (length program) s in
      omega (arith, kept)
  after_more w Crash s on = absurd on
  after_more w Start s on = absurd on

  after_own : (w : World) (s : Steps) → passes_mark marks program w h ≡ true → begun_by s h < begun_by (steps_after marks program w (Step h) s) h
  unfolding steps_after
  after_own w s passes =
      let kept = count_kept w.log (after_event program w (Step h)).words (length program) (with_step marks program w h s) in
      let more = own_more (stores_point program w (Step h) h) h (position_of w h) s in
      let same : begun_by (counted_by (passes_mark marks program w h) (stores_point program w (Step h) h) h (position_of w h) s) h ≡
      begun_by (counted_by true (stores_point program w (Step h) h) h (position_of w h) s) h =
      ap (λ (b : Bool). begun_by (counted_by b (stores_point program w (Step h) h) h (position_of w h) s) h) passes in
      omega (arith, more, kept, same)

  along_more : (events : List Event) (w : World) (s : Steps) → GoOn events → begun_by s h ≤ begun_by (steps_along marks program w events s) h
  along_more [] w s on = omega arith
  along_more (event ∷ events) w s on =
      let one = after_more w event s on.0 in
      let more = along_more events (after_event program w event) (steps_after marks program w event s) on.1 in
      omega (arith, one, more)

  -- ---- A hart that has stopped stays so

  still_by : (w : World) (hart : Hart) (phase : Phase) → has_stopped phase ≡ true → (phase_step program w h hart phase).0 ≡ w
  still_by w hart Done e = refl
  still_by w hart Ended e = refl
  still_by w hart phase e = absurd (true≢false (sym e))

  pub still : (w : World) (s : IsStopped w h) → after_event program w (Step h) ≡ w
  unfolding happens
  still w s = ap (λ (o : Option Hart). (stepped program w h o).0) s.here ∙ still_by w s.hart s.hart.phase s.stopped

  stays : (w : World) (event : Event) → IsWellFormedWorld w → KeepsOn event → IsStopped w h → IsStopped (after_event program w event) h
  unfolding happens
  stays w (Step g) sound on s = elim (cases_eq g h) [
    | inl is ↦ subst (λ (x : ℕ). IsStopped (after_event program w (Step x)) h) (sym is) (subst (λ (v : World). IsStopped v h) (sym (still w s)) s)
    | inr other ↦ record {
      hart = s.hart;
      here = (steps_touch program w g sound).others h (λ e. other (sym e)) ∙ s.here;
      stopped = s.stopped;
    }
  ]
  stays w (Evict line mask) sound on s = record { hart = s.hart; here = s.here; stopped = s.stopped }
  stays w Crash sound on s = absurd on
  stays w Start sound on s = absurd on

  pub stays_along : (events : List Event) (w : World) → length program ≡ length w.harts → IsWellFormedWorld w → GoOn events → IsStopped w h →
      IsStopped (after_events program w events) h
  stays_along [] w count sound on s = s
  stays_along (event ∷ events) w count sound on s =
      let next = queues_stand program w event count sound in
      stays_along events (after_event program w event) (count ∙ sym next.1) next.0 on.1 (stays w event sound on.0 s)

-- ---- A measure that falls

no_crash_first : (event : Event) (events : List Event) → HaveNoCrash (event ∷ events) → HaveNoCrash (event ∷ []) × HaveNoCrash events
no_crash_first (Step h) events on = (tt, on)
no_crash_first (Evict line mask) events on = (tt, on)
no_crash_first Crash events on = absurd on
no_crash_first Start events on = (tt, on)

pub go_on_without_crash : (events : List Event) → GoOn events → HaveNoCrash events
go_on_without_crash [] on = tt
go_on_without_crash (Step h ∷ events) on = go_on_without_crash events on.1
go_on_without_crash (Evict line mask ∷ events) on = go_on_without_crash events on.1
go_on_without_crash (Crash ∷ events) on = absurd on.0
go_on_without_crash (Start ∷ events) on = absurd on.0

module _ (runs : Executable) (h : ℕ) where
  -- by the event the hart gets on, or it comes no farther from that
  pub data GetsNearer (Near : World → ℕ → Type 0) (w : World) (event : Event) (left : ℕ) : Type 0 where
    idles : is_active_step runs.program w event h ≡ false → Near (after_event runs.program w event) left → GetsNearer Near w event left
    nears : (less : ℕ) → left ≡ suc less → Near (after_event runs.program w event) less → GetsNearer Near w event left
    gets_on : GetsOnBy runs w event h → GetsNearer Near w event left

  module _ (Near : World → ℕ → Type 0)
      (falls : (w : World) (event : Event) (left : ℕ) → HaveNoCrash (event ∷ []) → Near w left → GetsNearer Near w event left) where
    pub gets_on_along : (more : List Event) (w : World) (left : ℕ) → HaveNoCrash more → Near w left → left < active_steps runs.program w more h →
        GetsOnAmong runs w more h
    gets_on_along [] w left on near many = let z : ⊥ = omega (arith, many) in z
    gets_on_along (event ∷ events) w left on near many =
        let parts = no_crash_first event events on in
        elim (falls w event left parts.0 near) [
          | idles idle then_near ↦
              let zero_here = ap one_if idle in
              inr (gets_on_along events (after_event runs.program w event) left parts.1 then_near (omega (arith, many, zero_here)))
          | nears less is then_near ↦
              let one = at_most_one (is_active_step runs.program w event h) in
              inr (gets_on_along events (after_event runs.program w event) less parts.1 then_near (omega (arith, many, one, is)))
          | gets_on by ↦ inl by
        ]

  -- ---- While the life goes on

  -- a hart that gets on has begun more steps in the end, or has stopped
  begun_by_event : (event : Event) (events : List Event) (w : World) (s : Steps) → length runs.program ≡ length w.harts → IsWellFormedWorld w →
      KeepsOn event → GoOn events → GetsOnBy runs w event h → GetsOn runs.marks runs.program h w s (event ∷ events)
  begun_by_event event events w s count sound keeps on by =
      let program = runs.program in
      let next = queues_stand program w event count sound in
      elim by.gets_on [
        | inl passes ↦
            let own = after_own runs.marks program h w s passes in
            let same : begun_by (steps_after runs.marks program w (Step h) s) h ≡ begun_by (steps_after runs.marks program w event s) h =
            ap (λ (x : Event). begun_by (steps_after runs.marks program w x s) h) (sym by.is) in
            let more = along_more runs.marks program h events (after_event program w event) (steps_after runs.marks program w event s) on in
            inl (omega (arith, own, same, more))
        | inr stopped ↦ inr (stays_along runs.marks program h events (after_event program w event) (count ∙ sym next.1) next.0 on stopped)
      ]

  pub begun_among : (more : List Event) (w : World) (s : Steps) → length runs.program ≡ length w.harts → IsWellFormedWorld w → GoOn more →
      GetsOnAmong runs w more h → GetsOn runs.marks runs.program h w s more
  begun_among [] w s count sound on among = absurd among
  begun_among (event ∷ events) w s count sound on (inl by) = begun_by_event event events w s count sound on.0 on.1 by
  begun_among (event ∷ events) w s count sound on (inr among) =
      let next = queues_stand runs.program w event count sound in
      let later =
      begun_among events (after_event runs.program w event) (steps_after runs.marks runs.program w event s) (count ∙ sym next.1) next.0 on.1 among in
      elim later [
        | inl more ↦ let first = after_more runs.marks runs.program h w event s on.0 in inl (omega (arith, more, first))
        | inr stopped ↦ inr stopped
      ]
