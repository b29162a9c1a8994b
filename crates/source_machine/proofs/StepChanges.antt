-- What a step changes: its thread, at most one element of a variable, and at most one mutex.
use Rattle.std.proofs.Common.{◌≡◌, ◌≢◌, refl, ℕ, zero, suc, List, [], ◌∷◌, sym, ◌∙◌, ap, ap₂, Option, Some, None, slice_set, ⊎_elim}
use Rattle.std.specs.Prelude.{slice_get, slice_index_or, ℤ}
use Rattle.std.specs.Option.{option_map, unwrap_or}
use Rattle.std.proofs.lemmas.Option.{unwrap_or-slice_get}
use Rattle.std.proofs.lemmas.Bool.{cases_eq}
use Rattle.c_tree.specs.Exprs.{LockName}
use Rattle.c_tree.specs.LockNames.{Held, lock_names}
use Rattle.c_tree.specs.Flats as f
use Rattle.c_tree.specs.Source as m
use Rattle.c_tree.specs.Source.{source_step}
use Rattle.source_machine.specs.Mutexes.{locks, unlocks, lock_ahead, unlock_ahead}
use Rattle.source_machine.specs.ElementLocks.{found_number}
use Rattle.source_machine.specs.Discipline.{ThreadKeeps, HaveOneLock, Guards, LooksSame}
use Rattle.source_machine.proofs.Emission.{set_other}

-- one value under `Some`
pub some_is : {X : Type 0} (a b : X) → Some a ≡ Some b → a ≡ b
some_is a b h = cc

-- the mutex that a step locks or unlocks, and its holder from then on
pub record Passed : Type 0 where
  pub mutex : ℕ
  pub holder : Option ℕ

pub record Change : Type 0 where
  pub thread : m.Thread
  pub store : Option m.Pending
  pub passed : Option Passed

abbrev pub with_store : Option m.Pending → List (List ℤ) → List (List ℤ)
with_store None vs = vs
with_store (Some p) vs = slice_set vs p.variable (slice_set (slice_index_or vs p.variable []) p.element p.number)

abbrev pub with_passed : Option Passed → List (Option ℕ) → List (Option ℕ)
with_passed None hs = hs
with_passed (Some p) hs = slice_set hs p.mutex p.holder

abbrev pub changed : m.State → ℕ → Change → m.State
changed s t c = record { variables = with_store c.store s.variables; holders = with_passed c.passed s.holders; threads = slice_set s.threads t c.thread }

-- a step locks a free mutex, or it unlocks one that its thread holds
pub data ChangesMutex (s : m.State) (t : ℕ) (thread : m.Thread) (p : Passed) : Type 0 where
  takes : lock_ahead thread ≡ Some p.mutex → slice_get s.holders p.mutex ≡ Some None → p.holder ≡ Some t → ChangesMutex s t thread p
  gives : unlock_ahead thread ≡ Some p.mutex → slice_get s.holders p.mutex ≡ Some (Some t) → p.holder ≡ None → ChangesMutex s t thread p

-- what a step does that keeps the discipline, from this state and from each that looks the same
pub record IsDisciplinedChange (x : f.Flat) (s : m.State) (t : ℕ) (thread : m.Thread) (names : List LockName) (h : Held) (step : m.State → Option m.State)
    : Type 0 where
  pub change : Change
  pub keeps : ThreadKeeps x t (with_passed change.passed s.holders) change.thread
  pub owned : (p : m.Pending) → change.store ≡ Some p → Guards x s t p.variable p.element
  pub passes : (p : Passed) → change.passed ≡ Some p → ChangesMutex s t thread p
  pub ahead : (k : ℕ) → lock_ahead thread ≡ Some k → change.passed ≡ Some (record { mutex = k; holder = Some t })
  pub same : (other : m.State) → LooksSame x s other t → step other ≡ Some (changed other t change)
  -- where it passes no mutex it leaves the set, and the locks of its names
  pub same_set : change.passed ≡ None → keeps.set ≡ h
  pub same_locks : change.passed ≡ None → HaveOneLock names h thread.locals change.thread.locals

-- a step that can be made is one of a thread that is there
pub record Stepped (x : f.Flat) (s : m.State) (t : ℕ) (next : m.State) : Type 0 where
  pub thread : m.Thread
  pub there : slice_get s.threads t ≡ Some thread
  pub before : ThreadKeeps x t s.holders thread
  pub does : IsDisciplinedChange x s t thread (lock_names x before.text) before.set (λ z. m.thread_step z t thread)
  pub is : next ≡ changed s t does.change

-- ---- What stays

-- the numbers of another variable
pub index_other : (vs : List (List ℤ)) (i j : ℕ) (a : List ℤ) → j ≢ i → slice_index_or (slice_set vs i a) j [] ≡ slice_index_or vs j []
index_other vs i j a n =
    sym (unwrap_or-slice_get (slice_set vs i a) j []) ∙ (ap (λ (o : Option (List ℤ)). unwrap_or o []) (set_other vs i j a n) ∙ unwrap_or-slice_get vs j [])

-- the numbers of the variable that is stored to
pub index_stored : (vs : List (List ℤ)) (v e : ℕ) (n : ℤ) →
    slice_index_or (slice_set vs v (slice_set (slice_index_or vs v []) e n)) v [] ≡ slice_set (slice_index_or vs v []) e n
index_stored [] v e n = refl
index_stored (x ∷ vs) zero e n = refl
index_stored (x ∷ vs) (suc v) e n = index_stored vs v e n

-- what is set is there, where there is a place for it
found_set : (ns : List ℤ) (e : ℕ) (n : ℤ) → slice_get (slice_set ns e n) e ≡ option_map (λ (old : ℤ). n) (slice_get ns e)
found_set [] e n = refl
found_set (x ∷ ns) zero n = refl
found_set (x ∷ ns) (suc e) n = found_set ns e n

-- the element that is stored to
found_stored : (vs : List (List ℤ)) (p : m.Pending) →
    found_number (with_store (Some p) vs) p.variable p.element ≡ option_map (λ (old : ℤ). p.number) (found_number vs p.variable p.element)
found_stored vs p = ap (λ (ns : List ℤ). slice_get ns p.element) (index_stored vs p.variable p.element p.number)
    ∙ found_set (slice_index_or vs p.variable []) p.element p.number

-- an element that isn't stored to
stored_other : (vs : List (List ℤ)) (p : m.Pending) (v e : ℕ) → (v ≡ p.variable → e ≡ p.element → ⊥) →
    found_number (with_store (Some p) vs) v e ≡ found_number vs v e
stored_other vs p v e n = ⊎_elim
    (λ is. ap (λ (w : ℕ). found_number (with_store (Some p) vs) w e) is
    ∙ (ap (λ (ns : List ℤ). slice_get ns e) (index_stored vs p.variable p.element p.number)
    ∙ (set_other (slice_index_or vs p.variable []) p.element e p.number (n is) ∙ ap (λ (w : ℕ). found_number vs w e) (sym is))))
    (λ d. ap (λ (ns : List ℤ). slice_get ns e) (index_other vs p.variable v (slice_set (slice_index_or vs p.variable []) p.element p.number) d))
    (cases_eq v p.variable)

pub store_other : (o : Option m.Pending) (vs : List (List ℤ)) (v e : ℕ) → ((p : m.Pending) → o ≡ Some p → v ≡ p.variable → e ≡ p.element → ⊥) →
    found_number (with_store o vs) v e ≡ found_number vs v e
store_other None vs v e n = refl
store_other (Some p) vs v e n = stored_other vs p v e (n p refl)

-- a store does the same to an element that is the same
pub store_same : (o : Option m.Pending) (vs ws : List (List ℤ)) (v e : ℕ) → found_number ws v e ≡ found_number vs v e →
    found_number (with_store o ws) v e ≡ found_number (with_store o vs) v e
store_same None vs ws v e h = h
store_same (Some p) vs ws v e h = ⊎_elim
    (λ a. ⊎_elim
    (λ b.
    let there : found_number ws p.variable p.element ≡ found_number vs p.variable p.element =
    sym (ap₂ (found_number ws) a b) ∙ (h ∙ ap₂ (found_number vs) a b) in
    ap₂ (found_number (with_store (Some p) ws)) a b
    ∙ (found_stored ws p ∙ (ap (option_map (λ (old : ℤ). p.number)) there ∙ (sym (found_stored vs p) ∙ sym (ap₂ (found_number (with_store (Some p) vs)) a b)))))
    (λ d. beside (λ _ b. d b))
    (cases_eq e p.element))
    (λ d. beside (λ a _. d a))
    (cases_eq v p.variable)
  where
    beside : (v ≡ p.variable → e ≡ p.element → ⊥) → found_number (with_store (Some p) ws) v e ≡ found_number (with_store (Some p) vs) v e
    beside n = stored_other ws p v e n ∙ (h ∙ sym (stored_other vs p v e n))

-- a mutex that isn't passed
pub passed_other : (o : Option Passed) (hs : List (Option ℕ)) (k : ℕ) → ((p : Passed) → o ≡ Some p → k ≢ p.mutex) →
    slice_get (with_passed o hs) k ≡ slice_get hs k
passed_other None hs k n = refl
passed_other (Some p) hs k n = set_other hs p.mutex k p.holder (n p refl)

-- what a thread's step locks, of the thread that is there
pub locks_found : (s : m.State) (t : ℕ) (thread : m.Thread) → slice_get s.threads t ≡ Some thread → locks s t ≡ lock_ahead thread
locks_found s t thread h = ap (λ (o : Option m.Thread). let r : Option ℕ = elim o [ Some found ↦ lock_ahead found | None ↦ None ] in r) h

-- what a thread's step unlocks, of the thread that is there
pub unlocks_found : (s : m.State) (t : ℕ) (thread : m.Thread) → slice_get s.threads t ≡ Some thread → unlocks s t ≡ unlock_ahead thread
unlocks_found s t thread h = ap (λ (o : Option m.Thread). let r : Option ℕ = elim o [ Some found ↦ unlock_ahead found | None ↦ None ] in r) h
