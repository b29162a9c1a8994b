-- Two neighbouring steps of different threads change places.
use Rattle.std.proofs.Common.{◌≡◌, ◌≢◌, refl, ℕ, zero, suc, List, [], ◌∷◌, sym, ◌∙◌, ap, subst, Option, Some, None, slice_set, ⊎_elim}
use Rattle.std.specs.Prelude.{slice_get, slice_index_or, ℤ}
use Rattle.std.proofs.lemmas.Bool.{cases_eq}
use Rattle.std.proofs.lemmas.Option.{slice_get_within}
use Rattle.c_tree.specs.Flats as f
use Rattle.c_tree.specs.Source as m
use Rattle.c_tree.specs.Source.{source_step}
use Rattle.source_machine.specs.ElementLocks.{element_lock}
use Rattle.source_machine.specs.Mutexes.{locks, unlocks}
use Rattle.source_machine.specs.Discipline.{StateKeeps, Guards, LooksSame}
use Rattle.source_machine.specs.StepExchanges.{Swap}
use Rattle.source_machine.proofs.Emission.{set_same}
use Rattle.source_machine.proofs.StepsKeepOthers.{others}
use Rattle.source_machine.proofs.StateRuns.{step_found}
use Rattle.source_machine.proofs.StepChanges.{some_is, Passed, Change, with_store, with_passed, changed}
use Rattle.source_machine.proofs.StepChanges.{takes, gives, Stepped, index_other, index_stored, passed_other, locks_found, unlocks_found}
use Rattle.source_machine.proofs.Discipline.{stepped, step_keeps}
use Rattle.source_machine.proofs.GuardedAccesses.{leaves_others}

-- ---- Writes at different places

pub set_swap : {X : Type 0} (xs : List X) (i j : ℕ) (a b : X) → j ≢ i → slice_set (slice_set xs i a) j b ≡ slice_set (slice_set xs j b) i a
set_swap [] i j a b n = refl
set_swap (x ∷ xs) zero zero a b n = absurd (n refl)
set_swap (x ∷ xs) zero (suc j) a b n = refl
set_swap (x ∷ xs) (suc i) zero a b n = refl
set_swap (x ∷ xs) (suc i) (suc j) a b n = ap (λ ys. x ∷ ys) (set_swap xs i j a b (λ e. n (ap suc e)))

-- the second of two writes at one place stays
set_twice : {X : Type 0} (xs : List X) (i : ℕ) (a b : X) → slice_set (slice_set xs i a) i b ≡ slice_set xs i b
set_twice [] i a b = refl
set_twice (x ∷ xs) zero a b = refl
set_twice (x ∷ xs) (suc i) a b = ap (λ ys. x ∷ ys) (set_twice xs i a b)

-- two stores are to different elements
abbrev AreApart : (a b : m.Pending) → Type 0
AreApart a b = b.variable ≡ a.variable → b.element ≡ a.element → ⊥

-- two stores to one variable
stored_twice : (vs : List (List ℤ)) (a b : m.Pending) → b.variable ≡ a.variable → with_store (Some b) (with_store (Some a) vs)
    ≡ slice_set vs a.variable (slice_set (slice_set (slice_index_or vs a.variable []) a.element a.number) b.element b.number)
stored_twice vs a b is =
    let v : ℕ = a.variable in
    let ns : List ℤ = slice_set (slice_index_or vs v []) a.element a.number in
    ap (λ (w : ℕ). slice_set (slice_set vs v ns) w (slice_set (slice_index_or (slice_set vs v ns) w []) b.element b.number)) is
    ∙ (ap (λ (old : List ℤ). slice_set (slice_set vs v ns) v (slice_set old b.element b.number)) (index_stored vs v a.element a.number)
    ∙ set_twice vs v ns (slice_set ns b.element b.number))

-- stores to one variable
stores_swap_in : (vs : List (List ℤ)) (a b : m.Pending) → b.variable ≡ a.variable → b.element ≢ a.element →
    with_store (Some b) (with_store (Some a) vs) ≡ with_store (Some a) (with_store (Some b) vs)
stores_swap_in vs a b is n =
    stored_twice vs a b is
    ∙ (ap (slice_set vs a.variable) (set_swap (slice_index_or vs a.variable []) a.element b.element a.number b.number n)
    ∙ (ap (λ (w : ℕ). slice_set vs w (slice_set (slice_set (slice_index_or vs w []) b.element b.number) a.element a.number)) (sym is)
    ∙ sym (stored_twice vs b a (sym is))))

-- stores to two variables
stores_swap_apart : (vs : List (List ℤ)) (a b : m.Pending) → b.variable ≢ a.variable →
    with_store (Some b) (with_store (Some a) vs) ≡ with_store (Some a) (with_store (Some b) vs)
stores_swap_apart vs a b apart =
    let written : (ws : List (List ℤ)) (c : m.Pending) → List ℤ = λ ws c. slice_set (slice_index_or ws c.variable []) c.element c.number in
    let first : List ℤ = written vs a in
    let second : List ℤ = written vs b in
    let one : slice_set (slice_set vs a.variable first) b.variable (written (slice_set vs a.variable first) b) ≡ slice_set
    (slice_set vs a.variable first) b.variable second =
    ap (λ (old : List ℤ). slice_set (slice_set vs a.variable first) b.variable (slice_set old b.element b.number))
    (index_other vs a.variable b.variable first apart) in
    let two : slice_set (slice_set vs b.variable second) a.variable (written (slice_set vs b.variable second) a) ≡ slice_set
    (slice_set vs b.variable second) a.variable first =
    ap (λ (old : List ℤ). slice_set (slice_set vs b.variable second) a.variable (slice_set old a.element a.number))
    (index_other vs b.variable a.variable second (λ e. apart (sym e))) in
    one ∙ (set_swap vs a.variable b.variable first second apart ∙ sym two)

stores_swap : (o p : Option m.Pending) (vs : List (List ℤ)) → ((a b : m.Pending) → o ≡ Some a → p ≡ Some b → AreApart a b) →
    with_store p (with_store o vs) ≡ with_store o (with_store p vs)
stores_swap None None vs n = refl
stores_swap None (Some b) vs n = refl
stores_swap (Some a) None vs n = refl
stores_swap (Some a) (Some b) vs n = ⊎_elim
    (λ is. stores_swap_in vs a b is (n a b refl refl is))
    (λ apart. stores_swap_apart vs a b apart)
    (cases_eq b.variable a.variable)

passed_swap : (o p : Option Passed) (hs : List (Option ℕ)) → ((a b : Passed) → o ≡ Some a → p ≡ Some b → b.mutex ≢ a.mutex) →
    with_passed p (with_passed o hs) ≡ with_passed o (with_passed p hs)
passed_swap None None hs n = refl
passed_swap None (Some b) hs n = refl
passed_swap (Some a) None hs n = refl
passed_swap (Some a) (Some b) hs n = set_swap hs a.mutex b.mutex a.holder b.holder (n a b refl refl)

pub changes_swap : (s : m.State) (t u : ℕ) (a b : Change) → u ≢ t → ((p q : m.Pending) → a.store ≡ Some p → b.store ≡ Some q → AreApart p q) →
    ((p q : Passed) → a.passed ≡ Some p → b.passed ≡ Some q → q.mutex ≢ p.mutex) → changed (changed s t a) u b ≡ changed (changed s u b) t a
changes_swap s t u a b n stores passes = λ i. record {
  variables = stores_swap a.store b.store s.variables stores i;
  holders = passed_swap a.passed b.passed s.holders passes i;
  threads = set_swap s.threads t u a.thread b.thread n i;
}

-- ---- A mutex after a step

-- one and no other
clash : {X : Type 0} (o : Option X) (a b : X) → o ≡ Some a → o ≡ Some b → a ≡ b
clash o a b e g = some_is a b (sym e ∙ g)

taken : (t : ℕ) → None ≢ Some t
taken t e = cc

module _ (x : f.Flat) (s next : m.State) (t : ℕ) (p : Stepped x s t next) where
  -- a mutex that the step doesn't pass
  pub mutex_stays : (k : ℕ) → ((q : Passed) → p.does.change.passed ≡ Some q → k ≢ q.mutex) → slice_get next.holders k ≡ slice_get s.holders k
  mutex_stays k n = ap (λ (z : m.State). slice_get z.holders k) p.is ∙ passed_other p.does.change.passed s.holders k n

  -- one that it passes
  pub mutex_passed : (q : Passed) → p.does.change.passed ≡ Some q → slice_get next.holders q.mutex ≡ Some q.holder
  mutex_passed q g =
      let there : (o : Option ℕ) → slice_get s.holders q.mutex ≡ Some o → slice_get next.holders q.mutex ≡ Some q.holder = λ o e.
      ap (λ (z : m.State). slice_get z.holders q.mutex) p.is ∙ (ap (λ (r : Option Passed). slice_get (with_passed r s.holders) q.mutex) g
      ∙ set_same s.holders q.mutex q.holder (slice_get_within s.holders q.mutex o e)) in
      elim (p.does.passes q g) [
        | takes a free to ↦ there None free
        | gives a own to ↦ there (Some t) own
      ]

  -- what the thread locks was free, and is the thread's
  pub locked : (k : ℕ) → locks s t ≡ Some k → (slice_get s.holders k ≡ Some None) × (slice_get next.holders k ≡ Some (Some t))
  locked k h =
      let r : Passed = record { mutex = k; holder = Some t } in
      let g : p.does.change.passed ≡ Some r = p.does.ahead k (sym (locks_found s t p.thread p.there) ∙ h) in (
        elim (p.does.passes r g) [
          | takes a free to ↦ free
          | gives a own to ↦ absurd (taken t (sym to))
        ],
        mutex_passed r g,
      )

  -- a mutex that another thread holds before the step stays
  pub held_stays : (u k : ℕ) → u ≢ t → slice_get s.holders k ≡ Some (Some u) → slice_get next.holders k ≡ slice_get s.holders k
  held_stays u k n h = mutex_stays k (λ q g e.
      let here : slice_get s.holders q.mutex ≡ Some (Some u) = subst (λ (j : ℕ). slice_get s.holders j ≡ Some (Some u)) e h in
      elim (p.does.passes q g) [
        | takes a free to ↦ taken u (clash (slice_get s.holders q.mutex) None (Some u) free here)
        | gives a own to ↦ n (some_is u t (clash (slice_get s.holders q.mutex) (Some u) (Some t) here own))
      ])

  -- a mutex that another thread holds after the step is as before it
  pub held_stayed : (u k : ℕ) → u ≢ t → slice_get next.holders k ≡ Some (Some u) → slice_get next.holders k ≡ slice_get s.holders k
  held_stayed u k n h = mutex_stays k (λ q g e.
      let now : slice_get next.holders q.mutex ≡ Some (Some u) = subst (λ (j : ℕ). slice_get next.holders j ≡ Some (Some u)) e h in
      let is : q.holder ≡ Some u = clash (slice_get next.holders q.mutex) q.holder (Some u) (mutex_passed q g) now in
      elim (p.does.passes q g) [
        | takes a free to ↦ n (some_is u t (sym is ∙ to))
        | gives a own to ↦ taken u (sym to ∙ is)
      ])

  -- a mutex that is free after the step is as before it, if the step doesn't unlock it
  pub free_stayed : (k : ℕ) → unlocks s t ≢ Some k → slice_get next.holders k ≡ Some None → slice_get next.holders k ≡ slice_get s.holders k
  free_stayed k n h = mutex_stays k (λ q g e.
      let now : slice_get next.holders q.mutex ≡ Some None = subst (λ (j : ℕ). slice_get next.holders j ≡ Some None) e h in
      let is : q.holder ≡ None = clash (slice_get next.holders q.mutex) q.holder None (mutex_passed q g) now in
      elim (p.does.passes q g) [
        | takes a free to ↦ taken t (sym is ∙ to)
        | gives a own to ↦ n (unlocks_found s t p.thread p.there ∙ (a ∙ ap Some (sym e)))
      ])

-- ---- What the other thread sees

module _ (x : f.Flat) (s next : m.State) (t u : ℕ) (keeps : StateKeeps x s) (n : u ≢ t) (h : source_step s t ≡ Some next) where
  abbrev step : Stepped x s t next
  step = stepped x s next t keeps h

  -- the state after a step looks the same to another thread, if the mutex that it locks next does
  pub sees_next : ((k : ℕ) → locks s u ≡ Some k → slice_get next.holders k ≡ slice_get s.holders k) → LooksSame x s next u
  sees_next ahead = record {
    own = others s next t u h n;
    held = λ k g. held_stays x s next t step u k n g;
    ahead = ahead;
    guarded = λ v e g. leaves_others x s next t u v e keeps h n g;
  }

  -- the state before a step looks the same to another thread as that after it, if the mutex that it locks next does
  pub sees_before : ((k : ℕ) → locks next u ≡ Some k → slice_get s.holders k ≡ slice_get next.holders k) → LooksSame x next s u
  sees_before ahead = record {
    own = sym (others s next t u h n);
    held = λ k g. sym (held_stayed x s next t step u k n g);
    ahead = ahead;
    guarded = λ v e g. sym (leaves_others x s next t u v e keeps h n (sym (held_stayed x s next t step u (element_lock x.variables v e) n g) ∙ g));
  }

-- ---- The swap

-- a step of one thread, and then a step of another one, which doesn't lock what the first step unlocks
pub record StepPair (x : f.Flat) (s after : m.State) (one other : ℕ) : Type 0 where
  pub between : m.State
  pub keeps : StateKeeps x s
  pub distinct : other ≢ one
  pub first : source_step s one ≡ Some between
  pub second : source_step between other ≡ Some after
  pub free : (k : ℕ) → unlocks s one ≡ Some k → locks between other ≢ Some k

module _ {x : f.Flat} {s after : m.State} {one other : ℕ} (pair : StepPair x s after one other) where
  open pair use {between, keeps, distinct as n, first as h, second as g, free}

  abbrev p : Stepped x s one between
  p = stepped x s between one keeps h

  abbrev q : Stepped x between other after
  q = stepped x between after other (step_keeps x s between one keeps h) g

  -- the other thread's step can be made first
  looks : LooksSame x between s other
  looks = sees_before x s between one other keeps n h (λ k l.
      sym (free_stayed x s between one p k (λ e. free k e l) (locked x between after other q k l).0))

  abbrev first : m.State
  first = changed s other q.does.change

  there : slice_get s.threads other ≡ Some q.thread
  there = looks.own ∙ q.there

  first_is : source_step s other ≡ Some first
  first_is = step_found s other q.thread there ∙ q.does.same s looks

  abbrev r : Stepped x s other first
  r = stepped x s first other keeps first_is

  -- the other thread passes no mutex that the one thread passes
  no_pass : (a b : Passed) → p.does.change.passed ≡ Some a → q.does.change.passed ≡ Some b → b.mutex ≢ a.mutex
  no_pass a b ea eb e =
      let now : slice_get between.holders b.mutex ≡ Some a.holder = subst (λ (k : ℕ). slice_get between.holders k ≡ Some a.holder) (sym e)
      (mutex_passed x s between one p a ea) in
      elim (q.does.passes b eb) [
        | takes l spare to ↦ elim (p.does.passes a ea) [
          | takes l' spare' to' ↦ taken one (sym (clash (slice_get between.holders b.mutex) a.holder None now spare) ∙ to')
          | gives l' own' to' ↦ free a.mutex (unlocks_found s one p.thread p.there ∙ l') (locks_found between other q.thread q.there ∙ (l ∙ ap Some e))
        ]
        | gives l own to ↦
            let is : a.holder ≡ Some other = clash (slice_get between.holders b.mutex) a.holder (Some other) now own in
            elim (p.does.passes a ea) [
              | takes l' spare' to' ↦ n (some_is other one (sym is ∙ to'))
              | gives l' own' to' ↦ taken other (sym to' ∙ is)
            ]
      ]

  -- the other thread stores to no element that the one thread stores to
  no_store : (a b : m.Pending) → p.does.change.store ≡ Some a → q.does.change.store ≡ Some b → AreApart a b
  no_store a b ea eb e d =
      let lock : ℕ = element_lock x.variables b.variable b.element in
      let theirs : Guards x between other b.variable b.element = q.does.owned b eb in
      let before : Guards x s other b.variable b.element = sym (held_stayed x s between one p other lock n theirs) ∙ theirs in
      let mine : Guards x s one b.variable b.element =
      subst (λ (v : ℕ). Guards x s one v b.element) (sym e) (subst (λ (k : ℕ). Guards x s one a.variable k) (sym d) (p.does.owned a ea)) in
      n (some_is other one (clash (slice_get s.holders lock) (Some other) (Some one) before mine))

  -- the one thread's step can be made afterwards
  looks_after : LooksSame x s first one
  looks_after = sees_next x s first other one keeps (λ e. n (sym e)) first_is (λ k l.
      let a : Passed = record { mutex = k; holder = Some one } in
      let ea : p.does.change.passed ≡ Some a = p.does.ahead k (sym (locks_found s one p.thread p.there) ∙ l) in
      passed_other q.does.change.passed s.holders k (λ b eb e. no_pass a b ea eb (sym e)))

  second_is : source_step first one ≡ Some (changed first one p.does.change)
  second_is = step_found first one p.thread (looks_after.own ∙ p.there) ∙ p.does.same first looks_after

  same_end : changed first one p.does.change ≡ after
  same_end = sym (changes_swap s one other p.does.change q.does.change n no_store no_pass)
      ∙ (ap (λ (z : m.State). changed z other q.does.change) (sym p.is) ∙ sym q.is)

  pub swapped : (first : m.State) × (source_step s other ≡ Some first) × (source_step first one ≡ Some after)
  swapped = (first, first_is, second_is ∙ ap Some same_end)

pub swap : Swap
swap x s between after one other keeps n h g free =
    swapped (record { between = between; keeps = keeps; distinct = n; first = h; second = g; free = free })
