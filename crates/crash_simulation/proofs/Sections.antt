-- How many sections end by steps of one thread that are kept: one, exactly where it stood in one before, and stands in none after.
use Rattle.crash_simulation.proofs.Common.{◌≡◌, ◌≢◌, ℕ, List, ◌∷◌, sym, ◌∙◌, ap, arith, subst, true, false, Option, Some, None, refl, suc, ◌+◌, [], ◌++◌, Bool}
use Rattle.crash_simulation.proofs.Common.{zero, ◌==◌, replicate, ◌&&◌, not, true≢false, ◌≤◌, ap₂, is_some, ⊎_elim, holds_none, Flat, Held, State, after_from}
use Rattle.crash_simulation.proofs.Common.{runs_from, ended_from, ends_section, is_between, StateKeeps, held_by, goes_on, run_keeps, locks_found, Passed, apart}
use Rattle.crash_simulation.proofs.Common.{unlocks_held, mutex_passed, ends_by, World, is_empty, solo, IsInner, now, attempt_of, Invariant, steps_begun}
use Rattle.crash_simulation.proofs.Common.{IsKeptBy, more_empty, solo_holders, last_first, prefix_runs, last_step, same_other, Origin, locks_held, ExitPoint}
use Rattle.crash_simulation.proofs.Common.{Code, none_where, AbstractRun, now_of, StepsOrStutters, sections_kept, one_if, System, IsSystem, flat_of}
use Rattle.crash_simulation.proofs.Common.{HasLocked, HasUnlocked}
use Rattle.crash_simulation.proofs.Common.{ThreadGhost, ThreadInv, ExitInv}
use Rattle.source_machine.proofs.Public.{stepped, solo as solo_law}
use Rattle.crash_simulation.proofs.LastReleases.{holds_some, describes_test}
use Rattle.crash_simulation.proofs.PendingReleases.{IsAtBoundary, at_keeps, at_took, at_gives, under_way}
use Rattle.crash_simulation.proofs.ThreadCommits.{invariant, kept_by}
use Rattle.crash_simulation.proofs.LongestAttempts.{led_of}
use Rattle.crash_simulation.proofs.StatesMatchSource.{as_source}

-- ---- One step

pub between_same : (s z : State) (u : ℕ) → held_by u z.holders ≡ held_by u s.holders → is_between z u ≡ is_between s u
between_same s z u same = none_where u z.holders ∙ (ap (λ (h : Held). is_empty (locks_held h)) same ∙ sym (none_where u s.holders))

pub none_ends : (before later : Bool) → later ≡ before → one_if (not before && later) ≡ 0
none_ends before later h2 = grind (arith, true≢false)

none_after : (before : Bool) → one_if (not before && false) ≡ 0
none_after true = refl
none_after false = refl

-- no section ends where the thread holds what it held
none_by : (s z : State) (u : ℕ) → held_by u z.holders ≡ held_by u s.holders → ends_section s z u ≡ 0
none_by s z u same = none_ends (is_between s u) (is_between z u) (between_same s z u same)

module _ (s : State) (t n : ℕ) (runs : runs_from s (replicate (suc n) t) ≡ true) where
  split : replicate n t ++ t ∷ [] ≡ replicate (suc n) t
  split = last_first n t [] ∙ more_empty (replicate (suc n) t)

  pub fewer_run : runs_from s (replicate n t) ≡ true
  fewer_run = prefix_runs s (replicate n t) (t ∷ []) (ap (runs_from s) split ∙ runs)

  pub one_more : (u : ℕ) → ended_from s (replicate (suc n) t) u ≡ ended_from s (replicate n t) u + ends_section (solo s t n) (solo s t (suc n)) u
  one_more u = grind (arith, ends_by, goes_on, last_step, replicate, fewer_run, split)

-- ---- Many

module _ (x : Flat) (s : State) (t : ℕ) (keeps : StateKeeps x s) where
  -- a thread's steps end no section of another
  pub others_end : (u n : ℕ) → u ≢ t → runs_from s (replicate n t) ≡ true → ended_from s (replicate n t) u ≡ 0
  others_end u zero other runs = refl
  others_end u (suc n) other runs =
      let l = last_step s t n runs in
      let before = others_end u n other (fewer_run s t n runs) in
      let held : held_by u (solo s t (suc n)).holders ≡ held_by u (solo s t n).holders =
      ap (λ (z : State). held_by u z.holders) l.after
      ∙ apart x (solo s t n) l.next t u (stepped x (solo s t n) l.next t (run_keeps x s (replicate n t) keeps) l.is) other in
      let none = none_by (solo s t n) (solo s t (suc n)) u held in
      omega (arith, before, none, one_more s t n runs u)

  -- a thread's inner steps end no section of its own
  pub inner_end : (n all : ℕ) → IsInner s t all → n ≤ all → runs_from s (replicate n t) ≡ true → ended_from s (replicate n t) t ≡ 0
  inner_end zero all inner l runs = refl
  inner_end (suc n) all inner l runs =
      let before = inner_end n all inner (omega (arith, l)) (fewer_run s t n runs) in
      let holders : (solo s t (suc n)).holders ≡ (solo s t n).holders =
      solo_holders x t (suc n) all s keeps inner l ∙ sym (solo_holders x t n all s keeps inner (omega (arith, l))) in
      let none = none_by (solo s t n) (solo s t (suc n)) t (ap (held_by t) holders) in
      omega (arith, before, none, one_more s t n runs t)

-- ---- A thread's begun steps

module _ (y : System) (s : IsSystem y) (b : AbstractRun y) (k : ℕ) where
  open y.plan use {flat as x}
  open b.config use {kept as K}
  open attempt_of b.config k use {done, longest}

  abbrev begun : ℕ
  begun = steps_begun b.config k

  i : Invariant x b.config
  i = invariant y s b

  runs : runs_from K (replicate begun k) ≡ true
  runs = (solo_law x K b.config.uncommitted k i.keeps i.runs i.hands).runs

  -- the thread's own steps, so many, end a section exactly where it has left one by them
  abbrev Ends : ℕ → Type 0
  Ends n = ended_from K (replicate n k) k ≡ one_if (not (is_between K k) && is_between (solo K k n) k)

  -- inner steps keep what it holds
  between_on : is_between (solo K k done) k ≡ is_between K k
  between_on = ap (λ (hs : List (Option ℕ)). holds_none hs k) (solo_holders x k done longest K i.keeps (i.tried k).inner (i.tried k).within)

  going_ends : runs_from K (replicate done k) ≡ true → Ends done
  going_ends made =
      inner_end x K k i.keeps done longest (i.tried k).inner (i.tried k).within made
      ∙ sym (none_ends (is_between K k) (is_between (solo K k done) k) between_on)

  -- the step that passes a mutex ends as many
  past_ends : runs_from K (replicate (suc done) k) ≡ true → Ends (suc done)
  past_ends made = grind (arith, replicate, between_on, fewer_run, i, inner_end, one_more)

  own_ends : Ends begun
  own_ends = ⊎_elim
      (λ e. subst Ends (sym e) (going_ends (subst (λ (n : ℕ). runs_from K (replicate n k) ≡ true) e runs)))
      (λ p. subst Ends (sym p.0) (past_ends (subst (λ (n : ℕ). runs_from K (replicate n k) ≡ true) p.0 runs))) (i.tried k).begun

-- ---- A thread whose boundary is committed

module _ (y : System) (s : IsSystem y) (w : World) (b : AbstractRun y) (code : Code y.plan) (c : ThreadGhost) (t : ThreadInv y w b code c)
    (not_yet : c.committed ≡ false) where
  open code.thread use {number as u}
  open y.plan use {flat as x}
  open b.config use {kept as K}
  open attempt_of b.config u use {done}
  open invariant y s b use {keeps as kept_keeps, runs as run, hands}

  -- by its steps that are kept then
  abbrev Leaves : Type 0
  Leaves = ended_from K (replicate (steps_begun b.config u) u) u ≡ one_if (is_some c.giving && (c.new.point == 0))

  -- it stands between sections then where the record's point is 0
  pub now_between : is_between (solo K u (steps_begun b.config u)) u ≡ (c.new.point == 0)
  now_between =
      between_same (now b.config) (solo K u (steps_begun b.config u)) u (sym (solo_law x K b.config.uncommitted u kept_keeps run hands).same.held)
      ∙ (ap (λ (hs : List (Option ℕ)). holds_none hs u)
      (sym (as_source y s b).now_matches.holders)
      ∙ sym (describes_test y code (now_of y b) c.new (t.records.will_describe not_yet)))

  keeps_there : StateKeeps x (solo K u done)
  keeps_there = run_keeps x K (replicate done u) kept_keeps

  none_given : c.giving ≡ None → 0 ≡ one_if (is_some c.giving && (c.new.point == 0))
  none_given none = ap (λ (o : Option ℕ). one_if (is_some o && (c.new.point == 0))) (sym none)

  -- after a lock it holds that mutex
  pub took_holds : (mutex : ℕ) → HasLocked b.config u mutex → is_between (solo K u (steps_begun b.config u)) u ≡ false
  took_holds mutex h =
      let last = last_step K u done (subst (λ (n : ℕ). runs_from K (replicate n u) ≡ true) h.begun (runs y s b u)) in
      let step = stepped x (solo K u done) last.next u keeps_there last.is in
      let takes : Passed = record { mutex = mutex; holder = Some u } in
      let ahead : step.does.change.passed ≡ Some takes = step.does.ahead mutex (sym (locks_found (solo K u done) u step.thread step.there) ∙ h.locks_it) in
      ap (λ (n : ℕ). is_between (solo K u n) u) h.begun ∙ (ap (λ (q : State). is_between q u) last.after
      ∙ holds_some u last.next.holders mutex (mutex_passed x (solo K u done) last.next u step takes ahead))

  -- before an unlock it held that one
  pub gave_held : (mutex : ℕ) → HasUnlocked b.config u mutex → is_between K u ≡ false
  gave_held mutex h =
      sym (between_on y s b u) ∙ holds_some u (solo K u done).holders mutex (unlocks_held x (solo K u done) u mutex keeps_there h.unlocks_it)

  leaves_by : (exit : ExitPoint) → IsAtBoundary exit → ExitInv y b.config u c t.graph_thread exit → Leaves
  leaves_by _ (at_keeps owed) h =
      own_ends y s b u ∙ (none_ends (is_between K u) (is_between (solo K u (steps_begun b.config u)) u)
      (ap (λ (n : ℕ). is_between (solo K u n) u) h.1 ∙ between_on y s b u) ∙ none_given h.2.gives)
  -- a lock ends none
  leaves_by _ (at_took from) g =
      own_ends y s b u ∙ (ap (λ (later : Bool). one_if (not (is_between K u) && later)) (took_holds (g.before not_yet).0 (g.before not_yet).1)
      ∙ (none_after (is_between K u) ∙ none_given g.gives))
  -- an unlock ends one where the record's point is 0
  leaves_by _ (at_gives from mutex) g =
      let held = gave_held mutex (g.before not_yet) in
      own_ends y s b u
      ∙ ((λ j. one_if (not (held j) && now_between j)) ∙ ap (λ (o : Option ℕ). one_if (is_some o && (c.new.point == 0))) (sym g.gives))

  pub leaves : Leaves
  leaves = let u = under_way y w b code c t not_yet in leaves_by u.to u.exit u.on.fits

-- ---- One abstract run after another

-- the thread stands between sections in what is kept
abbrev pub kept_between : (y : System) → AbstractRun y → (thread : ℕ) → Bool
kept_between y b n = is_between b.config.kept n

-- no more sections of the thread are kept, and it stands between sections where it did
pub record AreSameSections (y : System) (b next : AbstractRun y) (n : ℕ) : Type 0 where
  pub sections : sections_kept y next n ≡ sections_kept y b n
  pub between : kept_between y next n ≡ kept_between y b n

-- one more is kept exactly where the thread stood in a section, and stands in none
abbrev pub EndAsLeft : (y : System) → (b next : AbstractRun y) → (thread : ℕ) → Type 0
EndAsLeft y b next n = sections_kept y next n ≡ sections_kept y b n + one_if (not (kept_between y b n) && kept_between y next n)

module _ (y : System) (b next : AbstractRun y) (n : ℕ) where
  pub same_end : AreSameSections y b next n → EndAsLeft y b next n
  same_end i = grind (arith, none_ends)

  module _ (last : AbstractRun y) where
    pub both_same : AreSameSections y b next n → AreSameSections y next last n → AreSameSections y b last n
    both_same one two = record { sections = two.sections ∙ one.sections; between = two.between ∙ one.between }

    pub end_then_same : EndAsLeft y b next n → AreSameSections y next last n → EndAsLeft y b last n
    end_then_same e i = grind arith

    pub same_then_end : AreSameSections y b next n → EndAsLeft y next last n → EndAsLeft y b last n
    same_then_end i e = e ∙ ap₂ (λ (k : ℕ) (z : Bool). k + one_if (not z && kept_between y last n)) i.sections i.between

-- ---- The schedule with the thread's steps after it

module _ (y : System) (s : IsSystem y) (b next : AbstractRun y) (k : ℕ) (origin : next.origin ≡ b.origin)
    (schedule : next.schedule ≡ b.schedule ++ replicate (steps_begun b.config k) k) where
  abbrev steps : List ℕ
  steps = replicate (steps_begun b.config k) k

  pub kept_more : (n : ℕ) → sections_kept y next n ≡ sections_kept y b n + ended_from b.config.kept steps n
  kept_more n =
      let by : IsKeptBy b.origin.source b.config.kept b.schedule = kept_by y s b in
      ap₂ (λ (o : Origin (flat_of y)) (us : List ℕ). ended_from o.source us n) origin schedule
      ∙ ((goes_on b.origin.source b.schedule steps by.runs).ended n
      ∙ ap (λ (z : State). sections_kept y b n + ended_from z steps n) by.is)

  pub kept_others : (n : ℕ) → n ≢ k → sections_kept y next n ≡ sections_kept y b n
  kept_others n other =
      let none = others_end (flat_of y) b.config.kept k (invariant y s b).keeps n (steps_begun b.config k) other (runs y s b k) in
      omega (arith, none, kept_more n)

  kept_is : next.config.kept ≡ solo b.config.kept k (steps_begun b.config k)
  kept_is =
      let by : IsKeptBy b.origin.source b.config.kept b.schedule = kept_by y s b in
      let then_by : IsKeptBy next.origin.source next.config.kept next.schedule = kept_by y s next in
      sym then_by.is ∙ (ap₂ (λ (o : Origin (flat_of y)) (us : List ℕ). after_from o.source us) origin schedule
      ∙ ((goes_on b.origin.source b.schedule steps by.runs).after ∙ ap (λ (z : State). after_from z steps) by.is))

  pub own_end : EndAsLeft y b next k
  own_end =
      kept_more k
      ∙ ap (λ (n : ℕ). sections_kept y b k + n)
      (own_ends y s b k ∙ ap (λ (z : State). one_if (not (is_between b.config.kept k) && is_between z k)) (sym kept_is))

  pub others_same : (n : ℕ) → n ≢ k → AreSameSections y b next n
  others_same n other = record {
    sections = kept_others n other;
    between = ap (λ (z : State). is_between z n) kept_is ∙ between_same b.config.kept (solo b.config.kept k (steps_begun b.config k)) n
        (same_other (flat_of y) b.config k (invariant y s b) n other).held;
  }

-- ---- What happens by a thread

pub led_sections : (y : System) (b : AbstractRun y) (thread : ℕ) (next : AbstractRun y) → StepsOrStutters y b thread next → (n : ℕ) → AreSameSections y b next n
led_sections y b thread next led n =
    let l = led_of y b thread next led in
    record { sections = λ i. ended_from (l.origin i).source (l.schedule i) n; between = ap (λ (z : State). is_between z n) l.config.kept }
