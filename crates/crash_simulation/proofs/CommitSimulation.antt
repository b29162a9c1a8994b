-- Where boundaries have been committed, the steps before them are kept.
use Rattle.crash_simulation.proofs.Common.{◌≡◌, ◌≢◌, ℕ, List, sym, ◌∙◌, ap, arith, subst, true, false, refl, suc, ◌+◌, ◌<◌, [], ◌++◌, Bool, ◌⊎◌, inl, inr, zero}
use Rattle.crash_simulation.proofs.Common.{◌==◌, replicate, slice_set, ◌&&◌, if◌then◌else◌, not, nat_le, true≢false, append-nil, ◌≤◌, is_some, append_assoc}
use Rattle.crash_simulation.proofs.Common.{list_any, last_position, without, steps_of, World, Steps, with_kept}
use Rattle.crash_simulation.proofs.Common.{with_all_kept, FlowState, Writes, no_attempt, now, attempt_of, IsStable, history_at, number_at, steps_begun}
use Rattle.crash_simulation.proofs.Common.{IsSettled, HasUnlocked, LastUnlocks, equal_self, unequal_of, since_settles, HasCome, IsBeforeBoundary, Origin}
use Rattle.crash_simulation.proofs.Common.{attempts_are_whole, point_in, config_of, is_store, LogConfig, is_committed, log_facts, committed_where_durable}
use Rattle.crash_simulation.proofs.Common.{ExitPoint, Keeps, Code, same_or_other, AbstractRun, kept_of, now_of, IsCountedOf, IsAccountedOf, AreCounted}
use Rattle.crash_simulation.proofs.Common.{Beginning, None, is_bound, CommitStutters, sections_kept, one_if, IsReleasedOf, SimulatesBut, Simulates}
use Rattle.crash_simulation.proofs.Common.{anybody, AreHeld, AreLocked, gathering, gathered, nobody, System, IsSystem, thread_count, flat_of, ThreadGhost}
use Rattle.crash_simulation.proofs.Common.{ThreadInv, ExitInv, HasCommittedLog, committed}
use Rattle.std.specs.Prelude.{ℤ}
use Rattle.crash_simulation.proofs.BoundaryPassages.{ArePassed, ComesToBoundary, comes, others_taken, own_taken, then_passes}
use Rattle.crash_simulation.proofs.AccountUpdates.{not_kept, kept_is, kept_pending_is, kept_own_is, kept_other_is, still_accounted}
use Rattle.crash_simulation.proofs.StatesMatchSource.{resumed, as_source}
use Rattle.crash_simulation.proofs.PendingReleases.{IsAtBoundary, at_keeps, at_took, at_gives, under_way}
use Rattle.crash_simulation.proofs.ThreadsOfMachines.{each_thread, phase_of}
use Rattle.crash_simulation.proofs.ThreadCommits.{MaySettle, is_emptied, invariant, none_describes, committed_run, now_same, source_same, own_begun, own_done}
use Rattle.crash_simulation.proofs.ThreadCommits.{own_describes, begun_same, done_same, unlock_kept, taken, own_stands, other_stands}
use Rattle.crash_simulation.proofs.LongestAttempts.{AreFurthest, settled_furthest}
use Rattle.crash_simulation.proofs.LocksAfterStep.{held_alike}
use Rattle.crash_simulation.proofs.LastReleases.{uncommitted_leaving}
use Rattle.crash_simulation.proofs.Sections.{leaves, kept_more, kept_others, AreSameSections, EndAsLeft, same_end, both_same, end_then_same, same_then_end}
use Rattle.crash_simulation.proofs.Sections.{own_end, others_same}

-- ---- What a thread has done before a boundary that is committed

-- the thread has no begun steps, or they may be kept
data HasToSettle (y : System) (b : AbstractRun y) (thread : ℕ) : Type 0 where
  nothing : steps_begun b.config thread ≡ 0 → (attempt_of b.config thread).done ≡ 0 → HasToSettle y b thread
  attempt : MaySettle y b thread → HasToSettle y b thread

module _ (y : System) (s : IsSystem y) (w : World) (b : AbstractRun y) (code : Code y.plan) (c : ThreadGhost) (t : ThreadInv y w b code c)
    (not_yet : c.committed ≡ false) (sooner : committed w code.thread.number c t.log.hart ≡ true) where
  open code.thread use {number as u}
  open y.plan use {flat as x}

  durable : (v e : ℕ) → Writes b.config.kept u (attempt_of b.config u).done v e → IsStable (history_at b.config.memory v e) (number_at (now b.config) v e)
  durable v e writes =
      let one = t.stored.flushed v e writes in
      let fenced = log_facts.bank_before_point.fenced w.log u c.old c.new (config_of w t.log.hart c.rest) t.log.log sooner in
      since_settles x b.config u v e one.position (invariant y s b) writes one.since (one.fenced not_yet fenced)

  settled_before : IsBeforeBoundary x y.plan.boundaries (kept_of y b) b.config u → IsSettled b.config u (slice_set b.config.attempts u no_attempt)
  settled_before before = record {
    whole = attempts_are_whole x y.plan.boundaries (kept_of y b) b.config u (invariant y s b) ((resumed y s b).inside u) before;
    durable = durable;
    attempt = is_emptied b.config.attempts u;
  }

  -- at a chosen boundary
  come : (owed : ℤ) → ExitInv y b.config u c t.graph_thread (Keeps owed) → 0 < (attempt_of b.config u).done →
      HasCome x y.plan.boundaries (kept_of y b) b.config u
  come owed h0 h1 = grind (arith, as_source)

  keeps_settle : (owed : ℤ) → ExitInv y b.config u c t.graph_thread (Keeps owed) → (done : ℕ) → (attempt_of b.config u).done ≡ done → HasToSettle y b u
  keeps_settle owed h zero none = nothing (h.1 ∙ none) none
  keeps_settle owed h (suc k) some =
      let there = come owed h (omega (arith, some)) in attempt (record { settled = settled_before (inl there); there = λ going. inr there })

  -- past a mutex
  past_settles : IsBeforeBoundary x y.plan.boundaries (kept_of y b) b.config u → steps_begun b.config u ≡ suc (attempt_of b.config u).done → HasToSettle y b u
  past_settles before begun = attempt (record { settled = settled_before before; there = λ going. absurd (omega (arith, begun, going)) })

  settles_by : (exit : ExitPoint) → IsAtBoundary exit → ExitInv y b.config u c t.graph_thread exit → HasToSettle y b u
  settles_by _ (at_keeps owed) h = keeps_settle owed h (attempt_of b.config u).done refl
  settles_by _ (at_took from) h = let locked = h.before not_yet in past_settles (inr (locked.0, inl locked.1.locks_it)) locked.1.begun
  settles_by _ (at_gives from mutex) h = let unlocked = h.before not_yet in past_settles (inr (mutex, inr unlocked.unlocks_it)) unlocked.begun

  has_to_settle : HasToSettle y b u
  has_to_settle = let under = under_way y w b code c t not_yet in settles_by under.to under.exit under.on.fits

-- ---- One thread's commit

-- the thread's log as it is seen from memory
abbrev seen : World → ThreadGhost → LogConfig
seen w c = record { words = w.words; queue = []; rest = c.rest }

module _ (y : System) (s : IsSystem y) (w : World) (k : ℕ) (below : k < thread_count y) (stands : SimulatesBut y s w (λ n. k ≤ n)) where
  open stands use {abstract as b}

  abbrev c : ThreadGhost
  c = stands.ghosts k

  abbrev code : Code y.plan
  code = s.codes.each k below

  number : code.thread.number ≡ k
  number = s.codes.number k below

  -- an abstract run in which the thread's boundary is taken as committed, and all else is as it was
  record IsTaken : Type 0 where
    next : AbstractRun y
    memory : next.config.memory ≡ b.config.memory
    origin : next.origin ≡ b.origin
    schedule : next.schedule ≡ b.schedule ++ replicate (steps_begun b.config k) k
    pending : next.config.uncommitted ≡ without (steps_begun b.config k) k b.config.uncommitted
    own_begun : steps_begun next.config k ≡ 0
    others_begun : (n : ℕ) → n ≢ k → steps_begun next.config n ≡ steps_begun b.config n
    others_done : (n : ℕ) → n ≢ k → (attempt_of next.config n).done ≡ (attempt_of b.config n).done
    states : now_of y next ≡ now_of y b
    source : now next.config ≡ now b.config
    tried : AreFurthest b.config → AreFurthest next.config
    own : ThreadInv y w next code (taken c)
    others : (n : ℕ) (inside : n < thread_count y) → n ≢ k → ThreadInv y w next (s.codes.each n inside) (stands.ghosts n)

  module _ (not_yet : c.committed ≡ false) (sooner : is_committed w.log k (seen w c) ≡ true) where
    sooner_at : is_committed w.log code.thread.number (seen w c) ≡ true
    sooner_at = ap (λ (n : ℕ). is_committed w.log n (seen w c)) number ∙ sooner

    taken_by : HasToSettle y b k → IsTaken
    taken_by (nothing none done) = record {
      next = b;
      memory = refl;
      origin = refl;
      schedule = sym (append-nil b.schedule) ∙ ap (λ (n : ℕ). b.schedule ++ replicate n k) (sym none);
      pending = ap (λ (n : ℕ). without n k b.config.uncommitted) (sym none);
      own_begun = none;
      others_begun = λ n apart. refl;
      others_done = λ n apart. refl;
      states = refl;
      source = refl;
      tried = λ furthest. furthest;
      own =
          let begun : steps_begun b.config code.thread.number ≡ 0 = subst (λ (n : ℕ). steps_begun b.config n ≡ 0) (sym number) none in
          own_stands y w b b code c (record {
            states = refl;
            sources = refl;
            begun = begun;
            done = subst (λ (n : ℕ). (attempt_of b.config n).done ≡ 0) (sym number) done;
            describes = none_describes y s b code c.new begun;
            unlocks = λ mutex u. absurd (omega (arith, u.begun, begun));
          }) s stands.memory (stands.each k below) not_yet sooner_at;
      others = λ n inside apart. stands.each n inside;
    }
    taken_by (attempt may) =
        let next : AbstractRun y = committed_run y s b k may in
        record {
          next = next;
          memory = refl;
          origin = refl;
          schedule = refl;
          pending = refl;
          own_begun = own_begun y s b k may;
          others_begun = λ n apart. begun_same y s b k may n apart;
          others_done = λ n apart. done_same y s b k may n apart;
          states = now_same y s b k may;
          source = source_same y s b k may;
          tried = settled_furthest b.config k (slice_set b.config.attempts k no_attempt) may.settled;
          own = own_stands y w b next code c (record {
            states = now_same y s b k may;
            sources = source_same y s b k may;
            begun = subst (λ (n : ℕ). steps_begun next.config n ≡ 0) (sym number) (own_begun y s b k may);
            done = subst (λ (n : ℕ). (attempt_of next.config n).done ≡ 0) (sym number) (own_done y s b k may);
            describes = own_describes y s b k may code c.new number;
            unlocks = subst (λ (n : ℕ). (mutex : ℕ) → HasUnlocked b.config n mutex → LastUnlocks next.origin.source next.schedule n mutex) (sym number)
                (unlock_kept y s b k may);
          }) s stands.memory (stands.each k below) not_yet sooner_at;
          others = λ n inside apart.
              other_stands y s b k may (s.codes.each n inside) (λ e. apart (sym (s.codes.number n inside) ∙ e)) (stands.ghosts n) w (stands.each n inside);
        }

    is_taken_up : IsTaken
    is_taken_up = taken_by (subst (HasToSettle y b) number (has_to_settle y s w b code c (stands.each k below) not_yet sooner_at))

  -- ---- The machine

  module _ (one : IsTaken) (not_yet : c.committed ≡ false) where
    abbrev ghosts : ℕ → ThreadGhost
    ghosts n = record (stands.ghosts n) {
      committed = if n == k then true else (stands.ghosts n).committed;
      late = if n == k then false else (stands.ghosts n).late;
    }

    -- what is so of the thread, taken as committed, and of all others as they were, is so of each
    each_taken : (P : (n : ℕ) → n < thread_count y → ThreadGhost → Type 0) → P k below (taken c) →
        ((n : ℕ) (inside : n < thread_count y) → n ≢ k → P n inside (stands.ghosts n)) → (n : ℕ) (inside : n < thread_count y) → P n inside (ghosts n)
    each_taken P own others =
        each_thread (thread_count y) k below (λ (n : ℕ) (inside : n < thread_count y). P n inside (ghosts n))
        (subst (λ (z : Bool). P k below (record c { committed = if z then true else c.committed; late = if z then false else c.late }))
        (sym (equal_self k)) own)
        (λ n inside apart. subst (λ (z : Bool). P n inside (record (stands.ghosts n) {
          committed = if z then true else (stands.ghosts n).committed;
          late = if z then false else (stands.ghosts n).late;
        })) (sym (unequal_of n k apart)) (others n inside apart))

    locked : AreLocked y w b stands.ghosts → AreLocked y w one.next ghosts
    locked (gathering none gathers) = gathering (one.pending ∙ ap (λ (us : List ℕ). without (steps_of k us) k us) none) gathers
    locked (gathered gathers held) =
        gathered gathers (subst (λ (z : FlowState). AreHeld w ghosts z) (sym one.states)
        (held_alike w w stands.ghosts ghosts (now_of y b) refl (λ n. refl) held))

    after : is_committed w.log k (seen w c) ≡ true → SimulatesBut y s w (λ n. suc k ≤ n)
    after sooner = record {
      machine = stands.machine;
      abstract = one.next;
      memory = stands.memory ∙ sym one.memory;
      ghosts = ghosts;
      each = each_taken (λ (n : ℕ) (inside : n < thread_count y) (g : ThreadGhost). ThreadInv y w one.next (s.codes.each n inside) g) one.own one.others;
      locks = locked stands.locks;
      caught_up = each_taken (λ (n : ℕ) (inside : n < thread_count y) (g : ThreadGhost). (suc k ≤ n → ⊥) →
          is_committed w.log (s.codes.each n inside).thread.number (seen w g) ≡ g.committed) (λ none. sooner_at not_yet sooner)
          (λ n inside apart none. stands.caught_up n inside (λ l. none (omega (arith, l, apart))));
    }

    -- ---- The account

    module _ (g : Beginning) (steps : Steps) (r : ℕ → ℕ) (counted : AreCounted y g w b stands.ghosts steps r) (bound : is_bound c ≡ true)
        (reached : nat_le (last_position (point_in w.log w.words k)) (point_in w.log w.words k).durable ≡ true) where
      abbrev mine_counted : IsCountedOf w k c steps.pending
      mine_counted = (counted.each k below).counted

      own_counted : IsCountedOf w k (taken c) (with_kept w.log w.words k steps).pending
      own_counted = kept_own_is w k c steps mine_counted bound reached None

      kept_own : sections_kept y one.next k ≡ sections_kept y b k + one_if (is_some c.giving && (c.new.point == 0))
      kept_own = grind (arith, kept_more, leaves, replicate, number)

      own_released : IsReleasedOf y w b k c (r k) → IsReleasedOf y w one.next k (taken c) (r k)
      own_released h0 = grind (arith, phase_of, true≢false, uncommitted_leaving, kept_own)

      counted_after : AreCounted y g w one.next ghosts (with_kept w.log w.words k steps) r
      counted_after = record {
        begins = ap (λ (o : Origin (flat_of y)). o.source) one.origin ∙ counted.begins;
        earlier = counted.earlier;
        kept = kept_is w k c steps mine_counted bound reached
            ∙ ((λ i. counted.kept i ++ replicate (steps_of k (counted.pending i)) k)
            ∙ (append_assoc g.kept b.schedule (replicate (steps_begun b.config k) k) ∙ ap (λ (us : List ℕ). g.kept ++ us) (sym one.schedule)));
        pending = kept_pending_is w k c steps mine_counted bound reached
            ∙ (ap (λ (us : List ℕ). without (steps_of k us) k us) counted.pending ∙ sym one.pending);
        each = each_taken
            (λ (n : ℕ) (inside : n < thread_count y) (c' : ThreadGhost).
            IsAccountedOf y w one.next n c' (with_kept w.log w.words k steps).pending (r n))
            (record { on_time = refl; counted = own_counted; released = own_released (counted.each k below).released })
            (λ n inside apart. still_accounted y n (record {
              bound = refl;
              leaving = refl;
              late = λ on_time. on_time;
              sections = kept_others y s b one.next k one.origin one.schedule n apart;
              last = λ e. refl;
              done = λ d. d;
            }) (kept_other_is w k c steps mine_counted n) refl (counted.each n inside));
        beyond = λ n outside. kept_others y s b one.next k one.origin one.schedule n (λ e. omega (arith, outside, below, e)) ∙ counted.beyond n outside;
      }

-- ---- All threads

-- commits of so many threads are taken: the state now is the same, what each thread has still to give back, how near its hart is to its next mark, and where
-- that has stored last and what it has accessed first; where each attempt has come as far as any before, so it has then; and the machine has kept the steps
-- that are bound to durable points
pub record CatchesUp (y : System) (s : IsSystem y) (w : World) (first : SimulatesBut y s w anybody) (count : ℕ) (waiting : ℕ → Type 0) : Type 0 where
  pub stands : SimulatesBut y s w waiting
  pub source : now stands.abstract.config ≡ now first.abstract.config
  pub tried : AreFurthest first.abstract.config → AreFurthest stands.abstract.config
  pub giving : (n : ℕ) → (stands.ghosts n).giving ≡ (first.ghosts n).giving
  pub ahead : (n : ℕ) → (stands.ghosts n).before_mark ≡ (first.ghosts n).before_mark
  pub rest : (n : ℕ) → (stands.ghosts n).rest ≡ (first.ghosts n).rest
  pub last : (n : ℕ) → (stands.ghosts n).last_stores ≡ (first.ghosts n).last_stores
  pub accesses : (n : ℕ) → (stands.ghosts n).first_accesses ≡ (first.ghosts n).first_accesses
  -- the graph is where it was, and of boundaries that are passed and points that are stored as many are ahead
  pub states : now_of y stands.abstract ≡ now_of y first.abstract
  pub passed : (n : ℕ) → n < thread_count y → (first.ghosts n).late ≡ false →
      ArePassed y false 0 first.abstract (first.ghosts n) stands.abstract (stands.ghosts n) n
  pub on_time : (n : ℕ) → n < thread_count y → (first.ghosts n).late ≡ false → (stands.ghosts n).late ≡ false
  pub counted : (g : Beginning) (steps : Steps) (r : ℕ → ℕ) → AreCounted y g w first.abstract first.ghosts steps r →
      AreCounted y g w stands.abstract stands.ghosts (with_all_kept w.log w.words count steps) r
  -- sections that are kept since
  pub ends : (n : ℕ) → EndAsLeft y first.abstract stands.abstract n
  pub same_later : (n : ℕ) → count ≤ n → AreSameSections y first.abstract stands.abstract n

-- with other threads that wait
abbrev waits_for : {y : System} {s : IsSystem y} {w : World} {was : ℕ → Type 0} (waiting : ℕ → Type 0) (t : SimulatesBut y s w was) →
    ((n : ℕ) (below : n < thread_count y) → (waiting n → ⊥) → HasCommittedLog y w t.abstract (s.codes.each n below) (t.ghosts n) (t.each n below)) →
    SimulatesBut y s w waiting
waits_for waiting t caught = record {
  machine = t.machine;
  abstract = t.abstract;
  memory = t.memory;
  ghosts = t.ghosts;
  each = t.each;
  locks = t.locks;
  caught_up = caught;
}

module _ (y : System) (s : IsSystem y) (w : World) (first : SimulatesBut y s w anybody) where
  abbrev pub Caught : ℕ → Type 0
  Caught count = CatchesUp y s w first count (λ n. count ≤ n)

  module _ (k : ℕ) (below : k < thread_count y) (h : Caught k) where
    abbrev mine : ThreadGhost
    mine = h.stands.ghosts k

    abbrev is_reached : Bool
    is_reached = nat_le (last_position (point_in w.log w.words k)) (point_in w.log w.words k).durable

    catches : mine.committed ≡ false → is_committed w.log k (seen w mine) ≡ true → is_bound mine ≡ true → is_reached ≡ true → Caught (suc k)
    unfolding after
    catches not_yet sooner bound reached =
        let b = h.stands.abstract in
        let one = is_taken_up y s w k below h.stands not_yet sooner in
        let same = others_same y s b one.next k one.origin one.schedule in
        let passed_by = each_taken y s w k below h.stands one not_yet
        (λ (n : ℕ) (inside : n < thread_count y) (g : ThreadGhost). (h.stands.ghosts n).late ≡ false →
        ArePassed y false 0 b (h.stands.ghosts n) one.next g n)
        (λ on_time. own_taken y b one.next k mine not_yet bound on_time
        (subst (ComesToBoundary y b mine) (s.codes.number k below) (comes y s w b (s.codes.each k below) mine (h.stands.each k below) not_yet)) one.own_begun)
        (λ n inside apart on_time. others_taken y b one.next k n (h.stands.ghosts n) (one.others_begun n apart) (one.others_done n apart)) in
        let stays_on_time = each_taken y s w k below h.stands one not_yet
        (λ (n : ℕ) (inside : n < thread_count y) (g : ThreadGhost). (h.stands.ghosts n).late ≡ false → g.late ≡ false) (λ on_time. refl)
        (λ n inside apart on_time. on_time) in
        record {
          stands = after y s w k below h.stands one not_yet sooner;
          source = one.source ∙ h.source;
          tried = λ furthest. one.tried (h.tried furthest);
          giving = h.giving;
          ahead = h.ahead;
          rest = h.rest;
          last = h.last;
          accesses = h.accesses;
          states = one.states ∙ h.states;
          on_time = λ n inside on_time. stays_on_time n inside (h.on_time n inside on_time);
          passed = λ n inside on_time.
              then_passes y false 0 first.abstract b one.next (first.ghosts n) (h.stands.ghosts n)
              ((after y s w k below h.stands one not_yet sooner).ghosts n) n (h.passed n inside on_time)
              (passed_by n inside (h.on_time n inside on_time));
          counted = λ g steps r counted.
              counted_after y s w k below h.stands one not_yet g (with_all_kept w.log w.words k steps) r (h.counted g steps r counted) bound reached;
          ends = λ n. elim (same_or_other n k) [
            | inl is ↦
                subst (EndAsLeft y first.abstract one.next) (sym is)
                (same_then_end y first.abstract b k one.next (h.same_later k (omega arith)) (own_end y s b one.next k one.origin one.schedule))
            | inr apart ↦ end_then_same y first.abstract b n one.next (h.ends n) (same n apart)
          ];
          same_later = λ n later.
              both_same y first.abstract b n one.next (h.same_later n (omega (arith, later))) (same n (λ e. omega (arith, later, e)));
        }

    caught_already : (is_bound mine ≡ false) ⊎ ((is_bound mine ≡ true) × (is_reached ≡ false)) →
        is_committed w.log k (seen w mine) ≡ mine.committed → Caught (suc k)
    caught_already bound caught = record {
      stands = waits_for (λ n. suc k ≤ n) h.stands (each_thread (thread_count y) k below
          (λ (n : ℕ) (inside : n < thread_count y). (suc k ≤ n → ⊥) →
          HasCommittedLog y w h.stands.abstract (s.codes.each n inside) (h.stands.ghosts n) (h.stands.each n inside))
          (λ none. ap (λ (n : ℕ). is_committed w.log n (seen w mine)) (s.codes.number k below) ∙ caught)
          (λ n inside apart none. h.stands.caught_up n inside (λ l. none (omega (arith, l, apart)))));
      source = h.source;
      tried = h.tried;
      giving = h.giving;
      ahead = h.ahead;
      rest = h.rest;
      last = h.last;
      accesses = h.accesses;
      states = h.states;
      passed = h.passed;
      on_time = h.on_time;
      counted = λ g steps r counted.
          let later = h.counted g steps r counted in
          subst (λ (z : Steps). AreCounted y g w h.stands.abstract h.stands.ghosts z r)
          (sym (not_kept w k mine _ (later.each k below).counted bound)) later;
      ends = h.ends;
      same_later = λ n later. h.same_later n (omega (arith, later));
    }

    no_sooner : mine.committed ≡ true → is_committed w.log k (seen w mine) ≡ true
    no_sooner e = ap (λ (n : ℕ). is_committed w.log n (seen w mine)) (sym (s.codes.number k below)) ∙ (h.stands.each k below).records.no_sooner e

    -- where its point has been stored
    committed_where : list_any is_store mine.rest ≡ false → is_committed w.log k (seen w mine) ≡ is_reached
    committed_where stored =
        let t = h.stands.each k below in
        subst (λ (j : ℕ). is_committed w.log j (seen w mine) ≡ nat_le (last_position (point_in w.log w.words j)) (point_in w.log w.words j).durable)
        (s.codes.number k below)
        (committed_where_durable w.log (s.codes.each k below).thread.number mine.old mine.new (config_of w t.log.hart mine.rest) t.log.log stored)

    bound_is : (in_ghost stores : Bool) → mine.committed ≡ in_ghost → list_any is_store mine.rest ≡ stores → is_bound mine ≡ (not in_ghost && not stores)
    bound_is in_ghost stores e h = λ i. not (e i) && not (h i)

    by_both : (in_ghost stores in_machine : Bool) → mine.committed ≡ in_ghost → list_any is_store mine.rest ≡ stores →
        is_committed w.log k (seen w mine) ≡ in_machine → Caught (suc k)
    by_both true stores in_machine e h is = caught_already (inl (bound_is true stores e h)) (no_sooner e ∙ sym e)
    by_both false true false e h is = caught_already (inl (bound_is false true e h)) (is ∙ sym e)
    by_both false true true e h is =
        absurd (true≢false (sym is ∙ ap (λ (z : Bool). not z && (point_in w.log w.words k).durable == last_position (point_in w.log w.words k)) h))
    by_both false false false e h is = caught_already (inr (bound_is false false e h, sym (committed_where h) ∙ is)) (is ∙ sym e)
    by_both false false true e h is = catches e is (bound_is false false e h) (sym (committed_where h) ∙ is)

  all_catch_up : (count : ℕ) → count ≤ thread_count y → Caught count
  all_catch_up zero within = record {
    stands = waits_for (λ n. 0 ≤ n) first (λ n below none. absurd (none (omega arith)));
    source = refl;
    tried = λ furthest. furthest;
    giving = λ n. refl;
    ahead = λ n. refl;
    rest = λ n. refl;
    last = λ n. refl;
    accesses = λ n. refl;
    states = refl;
    passed = λ n inside on_time. omega arith;
    on_time = λ n inside on_time. on_time;
    counted = λ g steps r counted. counted;
    ends = λ n. same_end y first.abstract first.abstract n (record { sections = refl; between = refl });
    same_later = λ n later. record { sections = refl; between = refl };
  }
  all_catch_up (suc k) within =
      let h = all_catch_up k (omega (arith, within)) in
      let c = h.stands.ghosts k in
      by_both k (omega (arith, within)) h c.committed (list_any is_store c.rest) (is_committed w.log k (seen w c)) refl refl refl

  pub all_caught_up : Caught (thread_count y)
  all_caught_up = all_catch_up (thread_count y) (omega arith)

  -- all that is committed is taken so
  abbrev pub none_waits : Caught (thread_count y) → Simulates y s w
  none_waits h = waits_for nobody h.stands (λ n below none. h.stands.caught_up n below (λ l. omega (arith, below, l)))

pub commit_stutters : CommitStutters
commit_stutters y s w first = none_waits y s w first (all_caught_up y s w first)
