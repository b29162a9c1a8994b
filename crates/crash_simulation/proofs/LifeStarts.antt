-- A start: another life begins where each hart has stopped between sections, and else nothing changes.
use Rattle.std.proofs.Common.{◌≡◌, ◌⊎◌, inl, inr, refl, ℕ, ◌+◌, List, [], ◌∷◌, ◌++◌, length, ap, ap₂, sym, subst, ◌∙◌, arith, Bool, true, false}
use Rattle.std.proofs.Common.{◌&&◌, ◌<◌, Some, None}
use Rattle.std.specs.Prelude.{if◌then◌else◌}
use Rattle.std.proofs.lemmas.Bool.{and_parts, true≢false}
use Rattle.machine_events.specs.declared.event.Event.TheVariants.{Start}
use Rattle.c_tree.specs.Source.{State, after_from}
use Rattle.source_machine.specs.Lives.{ends_life, restart}
use Rattle.rv64_isa.specs.declared.object.Slot.{Slot}
use Rattle.machine_model.specs.declared.phase.Phase.{Phase}
use Rattle.machine_model.specs.declared.phase.Phase.TheVariants.{Take, Wait, Resume, Run, Done, Ended}
use Rattle.machine_model.specs.Machine.{World, Outcome, after_event, anew, can_start, has_stopped, have_stopped, is_settled, started_anew}
use Rattle.machine_model.specs.Schedule.{Steps, first_steps, next_life, steps_after}
use Rattle.machine_model.proofs.Public.{anew_length, anew_there, each_stopped, outcome_of, starts_by}
use Rattle.recovery_semantics.specs.Attempts.{Attempt}
use Rattle.recovery_semantics.specs.Configs.{now}
use Rattle.recovery_semantics.proofs.Public.{none_yet}
use Rattle.region_attempts.specs.Origins.{Origin}
use Rattle.rv64_isa.specs.Rows.{Effect}
use Rattle.crash_simulation.specs.Systems.{System, IsSystem, flat_of, thread_count}
use Rattle.crash_simulation.specs.ThreadGhosts.{InPhase}
use Rattle.crash_simulation.specs.BoundaryFences.{boundary_fences, AreFencesCounted}
use Rattle.crash_simulation.specs.AbstractRuns.{AbstractRun}
use Rattle.crash_simulation.specs.SimulationRelation.{Simulates}
use Rattle.crash_simulation.specs.AccountRelation.{AreCounted, Beginning, next_beginning}
use Rattle.crash_simulation.specs.LaterLives.{HaveStopped, IsBegunAnew}
use Rattle.crash_simulation.proofs.AccountsBeforeCommit.{begun_counted, none_more, released_by}
use Rattle.crash_simulation.proofs.BoundaryFences.{same_fences}
use Rattle.crash_simulation.proofs.LifeAccounts.{all_between}
use Rattle.crash_simulation.specs.AbstractRuns.{now_of}
use Rattle.crash_simulation.specs.BoundaryPassages.{graph_anew}
use Rattle.crash_simulation.proofs.BoundaryPassages.{passages_ahead, points_ahead, told_of}
use Rattle.crash_simulation.proofs.LifeBeginnings.{BeginsLife, life_stands}
use Rattle.crash_simulation.proofs.FirstPassages.{first_even}
use Rattle.crash_simulation.proofs.LivesBegin.{ends_between, life, origin, stands_anew}
use Rattle.crash_simulation.proofs.LongestAttempts.{AreFurthest}
use Rattle.crash_simulation.proofs.Sections.{EndAsLeft, same_end}
use Rattle.crash_simulation.proofs.StatesMatchSource.{resumed}

-- the abstract run has only begun, and nothing is still to be given back
pub record HasBegun (y : System) (s : IsSystem y) (v : World) (stands : Simulates y s v) : Type 0 where
  pub now_is : now stands.abstract.config ≡ stands.abstract.origin.source
  pub furthest : AreFurthest stands.abstract.config
  pub none_giving : (n : ℕ) → (stands.ghosts n).giving ≡ None
  pub none_ahead : (n : ℕ) → (stands.ghosts n).rest ≡ []
  -- the graph is at its start, but for the variables
  pub graph_is : now_of y stands.abstract ≡ graph_anew (flat_of y) stands.abstract.origin.source.variables
  -- no boundary is passed, and no point stored
  pub even : (n : ℕ) → n < thread_count y → passages_ahead y stands.abstract (told_of (stands.ghosts n)) n ≡ points_ahead y (stands.ghosts n)

pub has_begun : (y : System) (s : IsSystem y) (o : Origin (flat_of y)) (v : World) (begins : BeginsLife y o v) → HasBegun y s v (life_stands y s o v begins)
has_begun y s o v begins = record {
  now_is = refl;
  furthest = λ thread.
      let none = none_yet (flat_of y).threads thread in
      ap (λ (a : Attempt). a.done) none ∙ sym (ap (λ (a : Attempt). a.longest) none);
  none_giving = λ n. refl;
  none_ahead = λ n. refl;
  graph_is = λ i. record { variables = o.matches.variables i; holders = begins.all_free i; graph_threads = begins.whole i };
  even = λ n below. first_even y s o v begins n below;
}

module _ (y : System) (s : IsSystem y) (w : World) (old : Simulates y s w) where
  abbrev program : List (List Slot)
  program = y.runs.program

  abbrev b : AbstractRun y
  b = old.abstract

  -- the machine simulates an abstract run in the world that a start leaves, in which another life begins by it, if so
  pub record StartsTo (may : Bool) (v : World) : Type 0 where
    pub next : Simulates y s v
    pub counted : (g : Beginning) (steps : Steps) (r : ℕ → ℕ) → AreCounted y g w b old.ghosts steps r →
        AreCounted y (if may then next_beginning y g b.schedule else g) v next.abstract next.ghosts (if may then next_life steps else steps)
        (λ n. if may then 0 else r n + 0)
    pub ends : may ≡ false → (n : ℕ) → EndAsLeft y b next.abstract n
    -- the life that ends has kept whole steps, and leaves each thread between sections
    pub whole : may ≡ true → ends_life b.origin.source b.schedule ≡ true
    pub anew : may ≡ true → HasBegun y s v next
    -- no boundary is under way of a hart that has stopped
    pub fences : (n : ℕ) → n < thread_count y →
        AreFencesCounted (boundary_fences y.plan.log) false false (old.ghosts n).rest (next.ghosts n).rest
    -- no hart has stored or loaded yet in the life that begins
    pub last : (n word : ℕ) → (next.ghosts n).last_stores word ≡ (if may then None else (old.ghosts n).last_stores word)
    pub accesses : (n byte : ℕ) → (next.ghosts n).first_accesses byte ≡ (if may then None else (old.ghosts n).first_accesses byte)

  -- ---- Another life begins

  stops : (phase : Phase) → has_stopped phase ≡ true → (phase ≡ Done) ⊎ (phase ≡ Ended)
  stops Done is = inl refl
  stops Ended is = inr refl
  stops Take is = absurd (true≢false (sym is))
  stops Wait is = absurd (true≢false (sym is))
  stops Resume is = absurd (true≢false (sym is))
  stops Run is = absurd (true≢false (sym is))

  all_stop : can_start w ≡ true → HaveStopped w
  all_stop may =
      let parts = and_parts (is_settled w) (have_stopped w.harts) may in
      record { settled = parts.0; stopped = λ h hart there. stops hart.phase (each_stopped w.harts parts.1 h hart there) }

  is_anew : IsBegunAnew program w (started_anew program w)
  is_anew = record {
    words = refl;
    holders = refl;
    log = refl;
    count = anew_length program 0 w.harts;
    harts = λ h hart there.
        let number : 0 + h ≡ h = omega arith in
        anew_there program 0 w.harts h hart there ∙ ap (λ (k : ℕ). Some (anew program k hart)) number;
  }

  abbrev life_now : can_start w ≡ true → Simulates y s (started_anew program w)
  life_now may = stands_anew y s w (started_anew program w) old (all_stop may) is_anew

  life_whole : can_start w ≡ true → ends_life b.origin.source b.schedule ≡ true
  life_whole may =
      ap₂ (λ (runs between : Bool). runs && between) (resumed y s b).resumed.kept.runs
      (all_between (after_from b.origin.source b.schedule) (length b.origin.source.threads)
      (ends_between y s w (started_anew program w) old (all_stop may) is_anew))

  life_counted : (may : can_start w ≡ true) (g : Beginning) (steps : Steps) (r : ℕ → ℕ) → AreCounted y g w b old.ghosts steps r →
      AreCounted y (next_beginning y g b.schedule) (started_anew program w) (life_now may).abstract (life_now may).ghosts (next_life steps) (λ n. 0)
  life_counted may g steps r counted =
      subst (λ (z : Steps). AreCounted y (next_beginning y g b.schedule) (started_anew program w) (life_now may).abstract (life_now may).ghosts z (λ n. 0))
      (ap₂ (λ (earlier : List (List ℕ)) (kept : List ℕ). first_steps (record { earlier = earlier ++ kept ∷ []; schedule = [] }))
      (sym counted.earlier) (sym counted.kept))
      (begun_counted y s (next_beginning y g b.schedule) (life_now may)
      (ap (λ (from : State). restart (flat_of y) (after_from from b.schedule)) counted.begins) refl refl (λ n. refl) (λ n below. refl))

  life_anew : (may : can_start w ≡ true) → HasBegun y s (started_anew program w) (life_now may)
  life_anew may =
      has_begun y s (origin y s w (started_anew program w) old (all_stop may) is_anew) (started_anew program w)
      (life y s w (started_anew program w) old (all_stop may) is_anew)

  none_left : can_start w ≡ true → (n : ℕ) → n < thread_count y → (old.ghosts n).rest ≡ []
  none_left may n below =
      let code = s.codes.each n below in
      let t = old.each n below in
      elim ((all_stop may).stopped code.thread.number t.log.hart t.log.here) [
        | inl done ↦ (subst (InPhase y w b code (old.ghosts n) t.log.hart t.graph_thread) done t.phase).0.rest
        | inr ended ↦ (subst (InPhase y w b code (old.ghosts n) t.log.hart t.graph_thread) ended t.phase).0.goes.rest
      ]

  life_fences : (may : can_start w ≡ true) (n : ℕ) → n < thread_count y →
      AreFencesCounted (boundary_fences y.plan.log) false false (old.ghosts n).rest ((life_now may).ghosts n).rest
  life_fences may n below =
      subst (λ (rest : List Effect). AreFencesCounted (boundary_fences y.plan.log) false false rest []) (sym (none_left may n below))
      (same_fences (boundary_fences y.plan.log) false false [] refl refl)

  -- ---- By whether it may

  starts : (may : Bool) → can_start w ≡ may → StartsTo may (outcome_of program w may).0
  starts true is = record {
    next = life_now is;
    counted = life_counted is;
    ends = λ none. absurd (true≢false none);
    whole = λ begins. life_whole is;
    anew = λ begins. life_anew is;
    fences = life_fences is;
    last = λ n word. refl;
    accesses = λ n byte. refl;
  }
  starts false is = record {
    next = old;
    counted = λ g steps r counted. subst (AreCounted y g w b old.ghosts steps) (λ i n. none_more (r n) i) counted;
    ends = λ none n. same_end y b b n (record { sections = refl; between = refl });
    whole = λ begins. absurd (true≢false (sym begins));
    anew = λ begins. absurd (true≢false (sym begins));
    fences = λ n below. same_fences (boundary_fences y.plan.log) false false (old.ghosts n).rest refl refl;
    last = λ n word. refl;
    accesses = λ n byte. refl;
  }

  pub start_goes : StartsTo (can_start w) (after_event program w Start)
  start_goes = subst (λ (o : Outcome). StartsTo (can_start w) o.0) (sym (starts_by program w)) (starts (can_start w) refl)

  pub start_then_counted : (g : Beginning) (steps : Steps) (r : ℕ → ℕ) → AreCounted y g w b old.ghosts steps r →
      AreCounted y (if can_start w then next_beginning y g b.schedule else g) (after_event program w Start) start_goes.next.abstract start_goes.next.ghosts
      (steps_after y.runs.marks program w Start steps) (released_by program w Start r)
  unfolding steps_after
  start_then_counted g steps r counted = start_goes.counted g steps r counted
