-- Steps of one thread are moved before those of others, where no mutex is transferred.
use Rattle.std.proofs.Common.{◌≡◌, ◌≢◌, refl, ℕ, zero, suc, ◌+◌, ◌≤◌, ◌==◌, List, [], ◌∷◌, ◌++◌, sym, ◌∙◌, ap}
use Rattle.std.proofs.Common.{subst, arith, Bool, true, false, not, ◌&&◌, Option, Some, None, replicate, ⊎_elim}
use Rattle.std.specs.Prelude.{slice_get, if◌then◌else◌, is_none, ℤ}
use Rattle.std.proofs.lemmas.Bool.{cases_eq}
use Rattle.std.proofs.lemmas.Bool.Decides.{nat_tests}
use Rattle.ido_base.specs.Locks.{is_held_by, held_from}
use Rattle.c_tree.specs.Programs.{Variable}
use Rattle.c_tree.specs.Flats as f
use Rattle.c_tree.specs.Source as m
use Rattle.c_tree.specs.Source.{source_step}
use Rattle.c_tree.specs.Exprs.{LockName}
use Rattle.c_tree.specs.Values.{lock_number}
use Rattle.c_tree.specs.LockNames.{Held, holds, lock_names, number_in}
use Rattle.source_machine.specs.ElementLocks.{element_lock}
use Rattle.source_machine.specs.Mutexes.{locks, unlocks, lock_ahead, unlock_ahead, first_unlock, held_by}
use Rattle.source_machine.specs.Discipline.{KeepList, StateKeeps}
use Rattle.source_machine.specs.StepExchanges.{steps_of, without_first, without, moved, TransfersLock, Exchange, IsSameTo, Solo}
use Rattle.source_machine.proofs.StepsKeepOthers.{others}
use Rattle.source_machine.proofs.StateRuns.{after_by, runs_by, ends_by}
use Rattle.source_machine.proofs.GuardedValues.{held_found, held_there}
use Rattle.source_machine.proofs.HeldNames.{name_held}
use Rattle.source_machine.proofs.DisciplinedContinuations.{keeps_unlock}
use Rattle.source_machine.proofs.StepChanges.{some_is, unlocks_found}
use Rattle.source_machine.proofs.Discipline.{stepped, step_keeps, set_long}
use Rattle.source_machine.proofs.GuardedAccesses.{leaves_others, leaves_held}
use Rattle.source_machine.proofs.StepSwaps.{StepPair, swapped, locked}

-- ---- Runs

-- the whole schedule leads from the one state to the other
abbrev pub LeadsAlong : m.State → List ℕ → m.State → Type 0
LeadsAlong s [] last = s ≡ last
LeadsAlong s (t ∷ ts) last = (next : m.State) × (source_step s t ≡ Some next) × LeadsAlong next ts last

steps_by : (s : m.State) (t : ℕ) (ts : List ℕ) (o : Option m.State) → source_step s t ≡ o →
    ((next : m.State) → m.runs_from next ts ≡ true → LeadsAlong next ts (m.after_from next ts)) → runs_by ts o ≡ true → LeadsAlong s (t ∷ ts) (after_by ts s o)
steps_by s t ts None made more h = cc
steps_by s t ts (Some next) made more h = (next, made, more next h)

pub steps_made : (s : m.State) (ts : List ℕ) → m.runs_from s ts ≡ true → LeadsAlong s ts (m.after_from s ts)
steps_made s [] h = refl
steps_made s (t ∷ ts) h = steps_by s t ts (source_step s t) refl (λ next e. steps_made next ts e) h

pub steps_run : (s last : m.State) (ts : List ℕ) → LeadsAlong s ts last → m.runs_from s ts ≡ true
steps_run s last [] g = refl
steps_run s last (t ∷ ts) g = ap (runs_by ts) g.1 ∙ steps_run g.0 last ts g.2

pub steps_after : (s last : m.State) (ts : List ℕ) → LeadsAlong s ts last → m.after_from s ts ≡ last
steps_after s last [] g = g
steps_after s last (t ∷ ts) g = ap (after_by ts s) g.1 ∙ steps_after g.0 last ts g.2

steps_split : (s last : m.State) (ts us : List ℕ) → LeadsAlong s (ts ++ us) last → (between : m.State) × LeadsAlong s ts between × LeadsAlong between us last
steps_split s last [] us g = (s, refl, g)
steps_split s last (t ∷ ts) us g = let r = steps_split g.0 last ts us g.2 in (r.0, (g.0, g.1, r.1), r.2)

-- a step leads to one state
one_next : (s next other : m.State) (t : ℕ) → source_step s t ≡ Some next → source_step s t ≡ Some other → next ≡ other
one_next s next other t g h = some_is next other (sym g ∙ h)

-- ---- Where no mutex is transferred

-- no thread but that one locks the mutex along the schedule
abbrev Bars : m.State → List ℕ → (thread mutex : ℕ) → Type 0
Bars s [] thread mutex = Unit {0}
Bars s (u ∷ us) thread mutex = (u ≢ thread → locks s u ≢ Some mutex) × ((next : m.State) → source_step s u ≡ Some next → Bars next us thread mutex)

-- what a thread unlocks along the schedule no other one locks later
abbrev Apart : m.State → List ℕ → Type 0
Apart s [] = Unit {0}
Apart s (u ∷ us) = ((mutex : ℕ) → unlocks s u ≡ Some mutex → (next : m.State) → source_step s u ≡ Some next → Bars next us u mutex) ×
    ((next : m.State) → source_step s u ≡ Some next → Apart next us)

-- after a step that is made
after_first : (s next : m.State) (t : ℕ) (ts : List ℕ) → source_step s t ≡ Some next → m.after_from s (t ∷ ts) ≡ m.after_from next ts
after_first s next t ts h = ap (after_by ts s) h

bars_of : (us : List ℕ) (s last : m.State) (thread mutex : ℕ) → LeadsAlong s us last →
    ((between : List ℕ) (taker : ℕ) (rest : List ℕ) → us ≡ between ++ taker ∷ rest → taker ≢ thread → locks (m.after_from s between) taker ≢ Some mutex) →
    Bars s us thread mutex
bars_of [] s last thread mutex g never = tt
bars_of (u ∷ us) s last thread mutex g never = (
  (λ n l. never [] u us refl n l),
  (λ z h. subst (λ (y : m.State). Bars y us thread mutex) (one_next s g.0 z u g.1 h)
      (bars_of us g.0 last thread mutex g.2 (λ between taker rest is n l.
      never (u ∷ between) taker rest (ap (λ (vs : List ℕ). u ∷ vs) is) n (ap (λ (y : m.State). locks y taker) (after_first s g.0 u between g.1) ∙ l)))),
)

apart_of : (us : List ℕ) (s last : m.State) → LeadsAlong s us last → ¬ (TransfersLock s us) → Apart s us
apart_of [] s last g never = tt
apart_of (u ∷ us) s last g never = (
  (λ mutex gives z h. subst (λ (y : m.State). Bars y us u mutex) (one_next s g.0 z u g.1 h)
      (bars_of us g.0 last u mutex g.2 (λ between taker rest is n l.
      never (record {
        before = [];
        giver = u;
        between = between;
        taker = taker;
        rest = rest;
        mutex = mutex;
        is = ap (λ (vs : List ℕ). u ∷ vs) is;
        others = n;
        gives = gives;
        takes = ap (λ (y : m.State). locks y taker) (after_first s g.0 u between g.1) ∙ l;
      })))),
  (λ z h. subst (λ (y : m.State). Apart y us) (one_next s g.0 z u g.1 h)
      (apart_of us g.0 last g.2 (λ c.
      never (record {
        before = u ∷ c.before;
        giver = c.giver;
        between = c.between;
        taker = c.taker;
        rest = c.rest;
        mutex = c.mutex;
        is = ap (λ (vs : List ℕ). u ∷ vs) c.is;
        others = c.others;
        gives = ap (λ (y : m.State). unlocks y c.giver) (after_first s g.0 u c.before g.1) ∙ c.gives;
        takes = ap (λ (y : m.State). locks y c.taker) (after_first s g.0 u (c.before ++ c.giver ∷ c.between) g.1) ∙ c.takes;
      })))),
)

no_lock : (between us : List ℕ) (s last : m.State) (thread mutex taker : ℕ) (rest : List ℕ) → LeadsAlong s us last → Bars s us thread mutex →
    us ≡ between ++ taker ∷ rest → taker ≢ thread → locks (m.after_from s between) taker ≡ Some mutex → ⊥
no_lock [] [] s last thread mutex taker rest g b is n l = cc
no_lock (v ∷ between) [] s last thread mutex taker rest g b is n l = cc
no_lock [] (u ∷ us) s last thread mutex taker rest g b is n l =
    let first : taker ≡ u = cc in
    b.0 (subst (λ (k : ℕ). k ≢ thread) first n) (subst (λ (k : ℕ). locks s k ≡ Some mutex) first l)
no_lock (v ∷ between) (u ∷ us) s last thread mutex taker rest g b is n l =
    let first : u ≡ v = cc in
    let more : us ≡ between ++ taker ∷ rest = cc in
    let made : source_step s v ≡ Some g.0 = subst (λ (k : ℕ). source_step s k ≡ Some g.0) first g.1 in
    no_lock between us g.0 last thread mutex taker rest g.2 (b.1 g.0 g.1) more n
    (ap (λ (y : m.State). locks y taker) (sym (after_first s g.0 v between made)) ∙ l)

no_hands : (before us : List ℕ) (s last : m.State) (giver : ℕ) (between : List ℕ) (taker : ℕ) (rest : List ℕ) (mutex : ℕ) → LeadsAlong s us last → Apart s us →
    us ≡ before ++ giver ∷ between ++ taker ∷ rest → taker ≢ giver →
    unlocks (m.after_from s before) giver ≡ Some mutex → locks (m.after_from s (before ++ giver ∷ between)) taker ≡ Some mutex → ⊥
no_hands [] [] s last giver between taker rest mutex g a is n gives takes = cc
no_hands (v ∷ before) [] s last giver between taker rest mutex g a is n gives takes = cc
no_hands [] (u ∷ us) s last giver between taker rest mutex g a is n gives takes =
    let first : giver ≡ u = cc in
    let more : us ≡ between ++ taker ∷ rest = cc in
    let made : source_step s giver ≡ Some g.0 = subst (λ (k : ℕ). source_step s k ≡ Some g.0) (sym first) g.1 in
    no_lock between us g.0 last u mutex taker rest g.2 (a.0 mutex (subst (λ (k : ℕ). unlocks s k ≡ Some mutex) first gives) g.0 g.1) more
    (subst (λ (k : ℕ). taker ≢ k) first n)
    (ap (λ (y : m.State). locks y taker) (sym (after_first s g.0 giver between made)) ∙ takes)
no_hands (v ∷ before) (u ∷ us) s last giver between taker rest mutex g a is n gives takes =
    let first : u ≡ v = cc in
    let more : us ≡ before ++ giver ∷ between ++ taker ∷ rest = cc in
    let made : source_step s v ≡ Some g.0 = subst (λ (k : ℕ). source_step s k ≡ Some g.0) first g.1 in
    no_hands before us g.0 last giver between taker rest mutex g.2 (a.1 g.0 g.1) more n
    (ap (λ (y : m.State). unlocks y giver) (sym (after_first s g.0 v before made)) ∙ gives)
    (ap (λ (y : m.State). locks y taker) (sym (after_first s g.0 v (before ++ giver ∷ between) made)) ∙ takes)

hands_of : (us : List ℕ) (s last : m.State) → LeadsAlong s us last → Apart s us → ¬ (TransfersLock s us)
hands_of us s last g a c = no_hands c.before us s last c.giver c.between c.taker c.rest c.mutex g a c.is c.others c.gives c.takes

-- ---- Schedules that do the same

-- the other schedule leads to the same state, too, ends as many sections, and bars what the one bars
record Same (s : m.State) (us vs : List ℕ) (last : m.State) : Type 0 where
  run : LeadsAlong s vs last
  ended : (k : ℕ) → m.ended_from s vs k ≡ m.ended_from s us k
  bars : (thread mutex : ℕ) → Bars s us thread mutex → Bars s vs thread mutex
  apart : Apart s us → Apart s vs

same_self : (s : m.State) (us : List ℕ) (last : m.State) → LeadsAlong s us last → Same s us us last
same_self s us last g = record { run = g; ended = λ k. refl; bars = λ t k b. b; apart = λ a. a }

same_both : (s : m.State) (us vs ws : List ℕ) (last : m.State) → Same s us vs last → Same s vs ws last → Same s us ws last
same_both s us vs ws last p q = record {
  run = q.run;
  ended = λ k. q.ended k ∙ p.ended k;
  bars = λ t k b. q.bars t k (p.bars t k b);
  apart = λ a. q.apart (p.apart a);
}

same_more : (s next : m.State) (t : ℕ) (us vs : List ℕ) (last : m.State) → source_step s t ≡ Some next → Same next us vs last → Same s (t ∷ us) (t ∷ vs) last
same_more s next t us vs last made p = record {
  run = (next, made, p.run);
  ended = λ k. ap (ends_by vs s k) made ∙ (ap (λ (n : ℕ). m.ends_section s next k + n) (p.ended k) ∙ sym (ap (ends_by us s k) made));
  bars = λ u k b. (b.0, λ z h. subst (λ (y : m.State). Bars y vs u k) (one_next s next z t made h) (p.bars u k (b.1 next made)));
  apart = λ a. (
    (λ k gives z h. subst (λ (y : m.State). Bars y vs t k) (one_next s next z t made h) (p.bars t k (a.0 k gives next made))),
    (λ z h. subst (λ (y : m.State). Apart y vs) (one_next s next z t made h) (p.apart (a.1 next made))),
  );
}

-- ---- Sections

least_from : ℕ → Held → Option ℕ
least_from at [] = None
least_from at (h ∷ hs) = if h then Some at else least_from (at + 1) hs

held_least : (at : ℕ) (hs : List (Option ℕ)) (k : ℕ) → held_from at hs k ≡ least_from at (held_by k hs)
unfolding least_from
held_least at [] k = refl
held_least at (h ∷ hs) k = ap (λ (o : Option ℕ). if is_held_by k h then Some at else o) (held_least (at + 1) hs k)

between_same : (s next : m.State) (k : ℕ) → held_by k next.holders ≡ held_by k s.holders → m.is_between next k ≡ m.is_between s k
between_same s next k h = ap is_none (held_least 0 next.holders k ∙ (ap (least_from 0) h ∙ sym (held_least 0 s.holders k)))

abbrev ends : Bool → Bool → ℕ
ends a b = if not a && b then 1 else 0

ends_self : (a : Bool) → ends a a ≡ 0
ends_self true = refl
ends_self false = refl

-- where the second step leaves it
second_leaves : (a b c d : Bool) → d ≡ b → c ≡ a → ends a b + ends b d ≡ ends a c + ends c d
second_leaves a b c d e g =
    let left : ends a b + ends b d ≡ ends a b + ends b b = ap (λ (y : Bool). ends a b + ends b y) e in
    let right : ends a c + ends c d ≡ ends a a + ends a b = λ i. ends a (g i) + ends (g i) (e i) in
    let same : ends a b + ends b b ≡ ends a a + ends a b = omega (arith, ends_self a, ends_self b) in
    left ∙ (same ∙ sym right)

-- where the first step leaves it
first_leaves : (a b c d : Bool) → b ≡ a → d ≡ c → ends a b + ends b d ≡ ends a c + ends c d
first_leaves a b c d e g =
    let left : ends a b + ends b d ≡ ends a a + ends a c = λ i. ends a (e i) + ends (e i) (g i) in
    let right : ends a c + ends c d ≡ ends a c + ends c c = ap (λ (y : Bool). ends a c + ends c y) g in
    let same : ends a a + ends a c ≡ ends a c + ends c c = omega (arith, ends_self a, ends_self c) in
    left ∙ (same ∙ sym right)

-- ---- What a thread unlocks it holds

-- the name of what is unlocked first
record Unlocked (names : List LockName) (h : Held) (ls : List ℤ) (lock : ℕ) : Type 0 where
  name : LockName
  held : holds h (number_in names name) ≡ true
  is : lock_number ls name ≡ lock

unlocks_left : (vs : List Variable) (names : List LockName) (h after : Held) (ls : List ℤ) (left : List f.Statement) (k : ℕ) →
    KeepList vs names h left after → first_unlock ls left ≡ Some k → Unlocked names h ls k
unlocks_left vs names h after ls [] k keep e = cc
unlocks_left vs names h after ls (f.Assign place target value ∷ rest) k keep e = cc
unlocks_left vs names h after ls (f.If place arms otherwise ∷ rest) k keep e = cc
unlocks_left vs names h after ls (f.While place condition body ∷ rest) k keep e = cc
unlocks_left vs names h after ls (f.Do place body condition ∷ rest) k keep e = cc
unlocks_left vs names h after ls (f.Lock place name ∷ rest) k keep e = cc
unlocks_left vs names h after ls (f.Unlock place name ∷ rest) k keep e =
    record { name = name; held = (keeps_unlock vs names keep.1).0; is = some_is (lock_number ls name) k e }

unlocks_pending : (o : Option m.Pending) (ls : List ℤ) (left : List f.Statement) (k : ℕ) →
    (let r : Option ℕ = elim o [ Some p ↦ None | None ↦ first_unlock ls left ] in r ≡ Some k) → first_unlock ls left ≡ Some k
unlocks_pending (Some p) ls left k e = cc
unlocks_pending None ls left k e = e

unlocks_by : (x : f.Flat) (s : m.State) (t k : ℕ) (o : Option m.Thread) → slice_get s.threads t ≡ o → StateKeeps x s → unlocks s t ≡ Some k →
    slice_get s.holders k ≡ Some (Some t)
unlocks_by x s t k None e keeps h =
    let no : unlocks s t ≡ None = ap (λ (o : Option m.Thread). let r : Option ℕ = elim o [ Some found ↦ unlock_ahead found | None ↦ None ] in r) e in
    let off : None ≡ Some k = sym no ∙ h in
    cc
unlocks_by x s t k (Some thread) e keeps h =
    let own = keeps.each t thread e in
    let names = lock_names x own.text in
    let r = unlocks_left x.variables names own.set _ thread.locals thread.left k own.left
    (unlocks_pending thread.pending thread.locals thread.left k (sym (unlocks_found s t thread e) ∙ h)) in
    ap (slice_get s.holders) (sym r.is)
    ∙ name_held names own.set thread.locals s.holders t own.held r.name (set_long x t s.holders thread own) r.held

pub unlocks_held : (x : f.Flat) (s : m.State) (t k : ℕ) → StateKeeps x s → unlocks s t ≡ Some k → slice_get s.holders k ≡ Some (Some t)
unlocks_held x s t k keeps h = unlocks_by x s t k (slice_get s.threads t) refl keeps h

-- ---- Two steps at the front of a schedule

pub locks_same : (s z : m.State) (t : ℕ) → slice_get z.threads t ≡ slice_get s.threads t → locks z t ≡ locks s t
locks_same s z t h = ap (λ (o : Option m.Thread). let r : Option ℕ = elim o [ Some found ↦ lock_ahead found | None ↦ None ] in r) h

pub unlocks_same : (s z : m.State) (t : ℕ) → slice_get z.threads t ≡ slice_get s.threads t → unlocks z t ≡ unlocks s t
unlocks_same s z t h = ap (λ (o : Option m.Thread). let r : Option ℕ = elim o [ Some found ↦ unlock_ahead found | None ↦ None ] in r) h

module _ {x : f.Flat} {s two : m.State} {u t : ℕ} (pair : StepPair x s two u t) (last : m.State) (us : List ℕ)
    (more : LeadsAlong two us last) (a : Apart s (u ∷ t ∷ us)) where
  open pair use {between as one, keeps, distinct as n, first as g, second as h}

  abbrev made : (first : m.State) × (source_step s t ≡ Some first) × (source_step first u ≡ Some two)
  made = swapped pair

  abbrev first : m.State
  first = made.0

  abbrev n' : u ≢ t
  n' = λ e. n (sym e)

  keeps_one : StateKeeps x one
  keeps_one = step_keeps x s one u keeps g

  keeps_first : StateKeeps x first
  keeps_first = step_keeps x s first t keeps made.1

  -- the one thread's sections end as before, and so do the other's
  sections : (k : ℕ) → m.ends_section s one k + m.ends_section one two k ≡ m.ends_section s first k + m.ends_section first two k
  sections k = ⊎_elim
      (λ e.
      let nu : k ≢ u = subst (λ (j : ℕ). j ≢ u) (sym e) n in
      first_leaves (m.is_between s k) (m.is_between one k) (m.is_between first k) (m.is_between two k)
      (between_same s one k (leaves_held x s one u k keeps g nu)) (between_same first two k (leaves_held x first two u k keeps_first made.2 nu)))
      (λ nt.
      second_leaves (m.is_between s k) (m.is_between one k) (m.is_between first k) (m.is_between two k)
      (between_same one two k (leaves_held x one two t k keeps_one h nt)) (between_same s first k (leaves_held x s first t k keeps made.1 nt)))
      (cases_eq k t)

  ended_both : (z y : m.State) (v w k : ℕ) → source_step s v ≡ Some z → source_step z w ≡ Some y →
      m.ended_from s (v ∷ w ∷ us) k ≡ m.ends_section s z k + (m.ends_section z y k + m.ended_from y us k)
  ended_both z y v w k e e' = ap (ends_by (w ∷ us) s k) e ∙ ap (λ (c : ℕ). m.ends_section s z k + c) (ap (ends_by us z k) e')

  first_swapped : Same s (u ∷ t ∷ us) (t ∷ u ∷ us) last
  first_swapped = record {
    run = (first, made.1, (two, made.2, more));
    ended = λ k. ended_both first two t u k made.1 made.2 ∙ ((let e : m.ends_section s first k +
        (m.ends_section first two k + m.ended_from two us k) ≡ m.ends_section s one k + (m.ends_section one two k + m.ended_from two us k) =
        omega (arith, sections k) in e) ∙ sym (ended_both one two u t k g h));
    bars = λ v k b. (
      (λ nv l. (b.1 one g).0 nv (locks_same s one t (others s one u t g n) ∙ l)),
      (λ z e. subst (λ (y : m.State). Bars y (u ∷ us) v k) (one_next s first z t made.1 e) (
        (λ nv l. b.0 nv (sym (locks_same s first u (others s first t u made.1 n')) ∙ l)),
        (λ y e'. subst (λ (w : m.State). Bars w us v k) (one_next first two y u made.2 e') ((b.1 one g).1 two h)),
      )),
    );
    apart = λ _. (
      (λ k gives z e. subst (λ (y : m.State). Bars y (u ∷ us) t k) (one_next s first z t made.1 e) (
        (λ nv l. both_hold k (unlocks_held x s t k keeps gives) (locked x s one u (stepped x s one u keeps g) k
            (sym (locks_same s first u (others s first t u made.1 n')) ∙ l)).0),
        (λ y e'. subst (λ (w : m.State). Bars w us t k) (one_next first two y u made.2 e')
            ((a.1 one g).0 k (unlocks_same s one t (others s one u t g n) ∙ gives) two h)),
      )),
      (λ z e. subst (λ (y : m.State). Apart y (u ∷ us)) (one_next s first z t made.1 e) (
        (λ k gives y e'. subst (λ (w : m.State). Bars w us u k) (one_next first two y u made.2 e')
            ((a.0 k (sym (unlocks_same s first u (others s first t u made.1 n')) ∙ gives) one g).1 two h)),
        (λ y e'. subst (λ (w : m.State). Apart w us) (one_next first two y u made.2 e') ((a.1 one g).1 two h)),
      )),
    );
  }
    where
      both_hold : (k : ℕ) → slice_get s.holders k ≡ Some (Some t) → slice_get s.holders k ≡ Some None → ⊥
      both_hold k e e' = let no : Some t ≡ None = some_is (Some t) None (sym e ∙ e') in cc

-- ---- The first step of a thread

equal_is : (u t : ℕ) → (u == t) ≡ true → u ≡ t
equal_is u t h = grind (arith, nat_tests, h)

unequal_is : (u t : ℕ) → (u == t) ≡ false → u ≢ t
unequal_is u t h = grind (arith, nat_tests, h)

abbrev count_by : Bool → ℕ → ℕ
count_by b n = if b then suc n else n

abbrev rest_by : Bool → (u : ℕ) → (us rest : List ℕ) → List ℕ
rest_by b u us rest = if b then us else u ∷ rest

module _ (x : f.Flat) (t : ℕ) where
  first_by : (b : Bool) (u : ℕ) (us : List ℕ) (s last : m.State) (n : ℕ) → (u == t) ≡ b → StateKeeps x s → LeadsAlong s (u ∷ us) last → Apart s (u ∷ us) →
      steps_of t (u ∷ us) ≡ suc n →
      ((next : m.State) → StateKeeps x next → LeadsAlong next us last → Apart next us → steps_of t us ≡ suc n → Same next us (t ∷ without_first t us) last) →
      Same s (u ∷ us) (t ∷ without_first t (u ∷ us)) last
  first_by true u us s last n e keeps g a c more =
      let is : u ∷ us ≡ t ∷ without_first t (u ∷ us) = ap (λ (k : ℕ). k ∷ us) (equal_is u t e)
      ∙ ap (λ (b : Bool). t ∷ rest_by b u us (without_first t us)) (sym e) in
      subst (λ (vs : List ℕ). Same s (u ∷ us) vs last) is (same_self s (u ∷ us) last g)
  first_by false u us s last n e keeps g a c more =
      let fewer : steps_of t us ≡ suc n = ap (λ (b : Bool). count_by b (steps_of t us)) (sym e) ∙ c in
      let later = more g.0 (step_keeps x s g.0 u keeps g.1) g.2 (a.1 g.0 g.1) fewer in
      let one = same_more s g.0 u us (t ∷ without_first t us) last g.1 later in
      let n : t ≢ u = λ k. unequal_is u t e (sym k) in
      let pair : StepPair x s later.run.0 u t =
      record { between = g.0; keeps = keeps; distinct = n; first = g.1; second = later.run.1; free = λ k l z. ((one.apart a).0 k l g.0 g.1).0 n z } in
      let two = first_swapped pair last (without_first t us) later.run.2 (one.apart a) in
      let is : t ∷ u ∷ without_first t us ≡ t ∷ without_first t (u ∷ us) = ap (λ (b : Bool). t ∷ rest_by b u us (without_first t us)) (sym e) in
      subst (λ (vs : List ℕ). Same s (u ∷ us) vs last) is (same_both s (u ∷ us) (u ∷ t ∷ without_first t us) (t ∷ u ∷ without_first t us) last one two)

  first_moved : (us : List ℕ) (s last : m.State) (n : ℕ) → StateKeeps x s → LeadsAlong s us last → Apart s us → steps_of t us ≡ suc n →
      Same s us (t ∷ without_first t us) last
  first_moved [] s last n keeps g a c = cc
  first_moved (u ∷ us) s last n keeps g a c = first_by (u == t) u us s last n refl keeps g a c (λ next k g' a' c'. first_moved us next last n k g' a' c')

  fewer_by : (b : Bool) (u : ℕ) (us : List ℕ) (n : ℕ) → (u == t) ≡ b → steps_of t (u ∷ us) ≡ suc n →
      (steps_of t us ≡ suc n → steps_of t (without_first t us) ≡ n) → steps_of t (without_first t (u ∷ us)) ≡ n
  fewer_by true u us n e c more =
      let is : without_first t (u ∷ us) ≡ us = ap (λ (b : Bool). rest_by b u us (without_first t us)) e in
      let count : suc (steps_of t us) ≡ suc n = ap (λ (b : Bool). count_by b (steps_of t us)) (sym e) ∙ c in
      ap (steps_of t) is ∙ (let r : steps_of t us ≡ n = omega (arith, count) in r)
  fewer_by false u us n e c more =
      let is : without_first t (u ∷ us) ≡ u ∷ without_first t us = ap (λ (b : Bool). rest_by b u us (without_first t us)) e in
      let count : steps_of t us ≡ suc n = ap (λ (b : Bool). count_by b (steps_of t us)) (sym e) ∙ c in
      ap (steps_of t) is ∙ (ap (λ (b : Bool). count_by b (steps_of t (without_first t us))) e ∙ more count)

  one_fewer : (us : List ℕ) (n : ℕ) → steps_of t us ≡ suc n → steps_of t (without_first t us) ≡ n
  one_fewer [] n c = cc
  one_fewer (u ∷ us) n c = fewer_by (u == t) u us n refl c (one_fewer us n)

  -- ---- The first steps, so many

  more_moved : (n : ℕ) (us : List ℕ) (s last : m.State) (k : ℕ) → StateKeeps x s → LeadsAlong s us last → Apart s us → steps_of t us ≡ k → n ≤ k →
      Same s us (moved n t us) last
  more_moved zero us s last k keeps g a c l = same_self s us last g
  more_moved (suc n) us s last zero keeps g a c l = absurd (omega (arith, l))
  more_moved (suc n) us s last (suc k) keeps g a c l =
      let one = first_moved us s last k keeps g a c in
      let next = one.run.0 in
      let later = more_moved n (without_first t us) next last k (step_keeps x s next t keeps one.run.1) one.run.2 ((one.apart a).1 next one.run.1)
      (one_fewer us k c) (omega (arith, l)) in
      same_both s us (t ∷ without_first t us) (moved (suc n) t us) last one
      (same_more s next t (without_first t us) (moved n t (without_first t us)) last one.run.1 later)

  none_left : (n : ℕ) (us : List ℕ) → steps_of t us ≡ n → steps_of t (without n t us) ≡ 0
  none_left zero us c = c
  none_left (suc n) us c = none_left n (without_first t us) (one_fewer us n c)

pub exchange : Exchange
exchange x s us t n keeps runs never l =
    let last = m.after_from s us in
    let g = steps_made s us runs in
    let a = apart_of us s last g never in
    let y = more_moved x t n us s last (steps_of t us) keeps g a refl l in
    record {
      runs = steps_run s last (moved n t us) y.run;
      after = steps_after s last (moved n t us) y.run;
      ended = y.ended;
      hands = hands_of (moved n t us) s last y.run (y.apart a);
    }

-- ---- One thread alone

module _ (x : f.Flat) (t : ℕ) where
  rests_by : (b : Bool) (u : ℕ) (us : List ℕ) (s last : m.State) → (u == t) ≡ b → StateKeeps x s → LeadsAlong s (u ∷ us) last → steps_of t (u ∷ us) ≡ 0 →
      ((next : m.State) → StateKeeps x next → LeadsAlong next us last → steps_of t us ≡ 0 → IsSameTo x last next t) → IsSameTo x last s t
  rests_by true u us s last e keeps g c more = let off : suc (steps_of t us) ≡ 0 = ap (λ (b : Bool). count_by b (steps_of t us)) (sym e)
      ∙ c in absurd (omega (arith, off))
  rests_by false u us s last e keeps g c more =
      let n : t ≢ u = λ k. unequal_is u t e (sym k) in
      let count : steps_of t us ≡ 0 = ap (λ (b : Bool). count_by b (steps_of t us)) (sym e) ∙ c in
      let later = more g.0 (step_keeps x s g.0 u keeps g.1) g.2 count in
      let held = later.held ∙ leaves_held x s g.0 u t keeps g.1 n in
      record {
        own = later.own ∙ others s g.0 u t g.1 n;
        held = held;
        guarded = λ v d k.
            let lock = element_lock x.variables v d in
            later.guarded v d k ∙ leaves_others x s g.0 u t v d keeps g.1 n
            (held_found t s.holders lock (ap (λ (hs : Held). holds hs lock) (sym held) ∙ held_there t last.holders lock k));
      }

  rests : (us : List ℕ) (s last : m.State) → StateKeeps x s → LeadsAlong s us last → steps_of t us ≡ 0 → IsSameTo x last s t
  rests [] s last keeps g c = subst (λ (z : m.State). IsSameTo x z s t) g (record { own = refl; held = refl; guarded = λ v d k. refl })
  rests (u ∷ us) s last keeps g c = rests_by (u == t) u us s last refl keeps g c (λ next k g' c'. rests us next last k g' c')

steps_keep : (x : f.Flat) (us : List ℕ) (s last : m.State) → StateKeeps x s → LeadsAlong s us last → StateKeeps x last
steps_keep x [] s last keeps g = subst (λ (z : m.State). StateKeeps x z) g keeps
steps_keep x (u ∷ us) s last keeps g = steps_keep x us g.0 last (step_keeps x s g.0 u keeps g.1) g.2

pub solo : Solo
solo x s us t keeps runs never =
    let last = m.after_from s us in
    let g = steps_made s us runs in
    let a = apart_of us s last g never in
    let n = steps_of t us in
    let y = more_moved x t n us s last n keeps g a refl (omega arith) in
    let parts = steps_split s last (replicate n t) (without n t us) y.run in
    let same = rests x t (without n t us) parts.0 last (steps_keep x (replicate n t) s parts.0 keeps parts.1) parts.2 (none_left x t n us refl) in
    record {
      runs = steps_run s parts.0 (replicate n t) parts.1;
      same = subst (λ (z : m.State). IsSameTo x last z t) (sym (steps_after s parts.0 (replicate n t) parts.1)) same;
    }
