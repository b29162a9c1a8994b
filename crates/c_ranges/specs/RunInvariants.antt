-- What every run of a well formed flat form keeps: numbers of their kinds, elements that are there, references that aren't null where they are
-- followed; and what stops a thread.
use Rattle.std.specs.Prelude.{◌≡◌, ◌≢◌, ◌⊎◌, ℕ, ◌<◌, List, [], ◌∷◌, ◌++◌, length, slice_get, slice_index_or, Option, Some, None, true, false, ℤ, pos}
use Rattle.std.specs.List.{AllByRecursion, AllZip}
use Rattle.ido_base.specs.declared.place.Place.{Place}
use Rattle.ido_ints.specs.declared.kinds.Kind.{Kind}
use Rattle.ido_ints.specs.Kinds.{Holds}
use Rattle.c_tree.specs.Exprs as e
use Rattle.c_tree.specs.Programs.{Mutex, Variable}
use Rattle.c_tree.specs.Flats as f
use Rattle.c_tree.specs.NullReferences.{is_among, flat_statement_assigned, flat_statement_nulls}
use Rattle.c_tree.specs.Ranges.{Index, indexed, target_indexes, placed_indexes, lock_indexes, elements_of}
use Rattle.c_tree.specs.References.{IsFlatStatementReferring, variable_refers}
use Rattle.c_tree.specs.Source as m
use Rattle.c_tree.specs.Source.{State, source_step, start, after_from}
use Rattle.c_tree.specs.Temporaries.{assign_exprs, key_exprs}
use Rattle.c_tree.specs.Values.{lock_number}
use Rattle.c_tree.specs.WellFormed.{elements_in, IsFlatStatement, IsWellFormed}
use Rattle.c_ranges.specs.Laws.{IsForeseen, NamesElement, IsNullOrReference, AreFollowed}

-- ---- States

-- a number for each element of the variable, of its kind
pub record AreNumbersOf (v : Variable) (numbers : List ℤ) : Type 0 where
  pub count : length numbers ≡ elements_in v.length
  pub held : AllByRecursion (Holds v.kind) numbers

-- an element that is there, and a number of its kind
pub record IsStoreInRange (vs : List Variable) (q : m.Pending) : Type 0 where
  pub it : Variable
  pub found : slice_get vs q.variable ≡ Some it
  pub element : q.element < elements_in it.length
  pub held : Holds it.kind q.number

-- no `do`: it was opened
abbrev pub IsOpened : f.Statement → Type 0
IsOpened (f.Do place body condition) = ⊥
IsOpened _ = Unit {0}

abbrev pub IsStatementLeft : f.Flat → List Kind → f.Statement → Type 0
IsStatementLeft x ks y = IsOpened y × IsFlatStatement x ks y

-- a thread whose locals are of these kinds
pub record IsThreadOf (x : f.Flat) (ks : List Kind) (thread : m.Thread) : Type 0 where
  pub left : AllByRecursion (IsStatementLeft x ks) thread.left
  pub locals : AllZip Holds ks thread.locals
  pub pending : (q : m.Pending) → thread.pending ≡ Some q → IsStoreInRange x.variables q

-- ---- References

-- a number of what refers so: null, or the number of an element and 1 more
abbrev pub RefersSo : List Variable → (refers : Option ℕ) → ℤ → Type 0
RefersSo vs None number = Unit {0}
RefersSo vs (Some array) number = IsNullOrReference (elements_of vs array) number

-- the local isn't null, and it isn't one of those
pub record IsSure (ls : List ℤ) (assigned : List ℕ) (local : ℕ) : Type 0 where
  pub some : slice_index_or ls local (pos 0) ≢ pos 0
  pub kept : is_among assigned local ≡ false

-- a statement follows no reference that may be null, by locals that are known: none of these is null, and none is assigned from here up to it
pub record IsKnownLeft (ls : List ℤ) (assigned : List ℕ) (y : f.Statement) : Type 0 where
  pub known : List ℕ
  pub sure : (local : ℕ) → is_among known local ≡ true → IsSure ls assigned local
  pub never_null : flat_statement_nulls known y ≡ []

-- Each of these is left by what is known, where those before them assign some locals.
abbrev pub AreKnownLeft : (ls : List ℤ) (assigned : List ℕ) → List f.Statement → Type 0
AreKnownLeft ls assigned [] = Unit {0}
AreKnownLeft ls assigned (y ∷ rest) =
    let more = assigned ++ flat_statement_assigned y in
    IsKnownLeft ls more y × AreKnownLeft ls more rest

pub record IsReferringThread (x : f.Flat) (t : f.Thread) (thread : m.Thread) : Type 0 where
  pub left : AllByRecursion (IsFlatStatementReferring x t.refers) thread.left
  pub known : AreKnownLeft thread.locals [] thread.left
  pub locals : AllZip (RefersSo x.variables) t.refers thread.locals
  pub pending : (q : m.Pending) → thread.pending ≡ Some q → RefersSo x.variables (variable_refers x.variables q.variable) q.number

-- the elements of what refers
abbrev pub AreElementsReferring : List Variable → Variable → List ℤ → Type 0
AreElementsReferring vs v numbers = AllByRecursion (RefersSo vs v.refers) numbers

-- every reference is null or one to its array, and none that a thread has left to follow is null
pub record IsReferringState (x : f.Flat) (s : State) : Type 0 where
  pub variables : AllZip (AreElementsReferring x.variables) x.variables s.variables
  pub threads : AllZip (IsReferringThread x) x.threads s.threads

-- ---- States of a flat form

-- every number is of its kind, what is left to do is well formed, and references are right
pub record IsStateOf (x : f.Flat) (s : State) : Type 0 where
  pub variables : AllZip AreNumbersOf x.variables s.variables
  pub holders : length s.holders ≡ length x.mutexes
  pub threads : AllZip (λ (t : f.Thread) (thread : m.Thread). IsThreadOf x t.locals thread) x.threads s.threads
  pub references : IsReferringState x s

-- a run of a well formed form begins with one, and each step keeps it
abbrev pub BeginsSo : Type 0
BeginsSo = (x : f.Flat) → IsWellFormed x → IsStateOf x (start x)

abbrev pub StaysSo : Type 0
StaysSo = (x : f.Flat) (s next : State) (thread : ℕ) → IsWellFormed x → IsStateOf x s → source_step s thread ≡ Some next → IsStateOf x next

abbrev pub IsSoInEveryRun : Type 0
IsSoInEveryRun = (x : f.Flat) (schedule : List ℕ) → IsWellFormed x → IsStateOf x (after_from (start x) schedule)

-- ---- What a step evaluates

-- the expressions of the statement's own step
abbrev pub step_exprs : f.Statement → List e.Placed
step_exprs (f.Assign place target x) = assign_exprs target x
step_exprs (f.If place (f.arm_and condition body arms) otherwise) = condition ∷ []
step_exprs (f.While place condition body) = condition ∷ []
step_exprs (f.Lock place lock) = key_exprs lock
step_exprs (f.Unlock place lock) = key_exprs lock
step_exprs _ = []

-- the indexes of the statement's own step: those of its expressions, that of its target, and its key
abbrev pub step_indexes : f.Statement → List Index
step_indexes (f.Assign place target x) = target_indexes target ++ placed_indexes x
step_indexes (f.If place (f.arm_and condition body arms) otherwise) = placed_indexes condition
step_indexes (f.While place condition body) = placed_indexes condition
step_indexes (f.Lock place lock) = lock_indexes lock
step_indexes (f.Unlock place lock) = lock_indexes lock
step_indexes _ = []

-- the index's value is the number of an element
abbrev pub IsElement : List Variable → List Mutex → (locals : List ℤ) → (variables : List (List ℤ)) → Index → Type 0
IsElement vs ms ls ns i = NamesElement (indexed vs ms i.of) ls ns i.expr

-- the statement is the next that the thread does
pub record IsNext (s : State) (thread : ℕ) (it : m.Thread) (y : f.Statement) (rest : List f.Statement) : Type 0 where
  pub found : slice_get s.threads thread ≡ Some it
  pub idle : it.pending ≡ None
  pub first : it.left ≡ y ∷ rest

-- every value that a step evaluates lies in its range and is of its kind
abbrev pub ValuesForeseen : Type 0
ValuesForeseen = (x : f.Flat) (s : State) (thread : ℕ) (it : m.Thread) (y : f.Statement) (rest : List f.Statement) → IsStateOf x s → IsNext s thread it y rest →
    AllByRecursion (λ (z : e.Placed). IsForeseen it.locals s.variables z.expr) (step_exprs y)

-- every index that a step evaluates names an element
abbrev pub IndexesInRange : Type 0
IndexesInRange = (x : f.Flat) (s : State) (thread : ℕ) (it : m.Thread) (y : f.Statement) (rest : List f.Statement) → IsStateOf x s → IsNext s thread it y rest →
    AllByRecursion (IsElement x.variables x.mutexes it.locals s.variables) (step_indexes y)

-- no reference that a step follows is null, or leads out of its array
abbrev pub ReferencesHold : Type 0
ReferencesHold = (x : f.Flat) (s : State) (thread : ℕ) (it : m.Thread) (y : f.Statement) (rest : List f.Statement) → IsStateOf x s → IsNext s thread it y rest →
    AllByRecursion (λ (z : e.Placed). AreFollowed it.locals z.expr) (step_exprs y)

-- ---- A thread that has no step

-- the thread's last step is done
pub record IsOver (it : m.Thread) : Type 0 where
  pub idle : it.pending ≡ None
  pub done : it.left ≡ []
  pub ended : it.ended ≡ true

-- the thread stands at the lock of a mutex that a thread holds
pub record IsAtHeldLock (s : State) (thread : ℕ) (it : m.Thread) (mutex : ℕ) : Type 0 where
  pub place : Place
  pub name : e.LockName
  pub rest : List f.Statement
  pub next : IsNext s thread it (f.Lock place name) rest
  pub number : lock_number it.locals name ≡ mutex
  pub holder : ℕ
  pub held : slice_get s.holders mutex ≡ Some (Some holder)

abbrev pub StopsForReason : Type 0
StopsForReason = (x : f.Flat) (s : State) (thread : ℕ) (it : m.Thread) → IsStateOf x s → slice_get s.threads thread ≡ Some it → source_step s thread ≡ None →
    IsOver it ⊎ ((mutex : ℕ) × IsAtHeldLock s thread it mutex)
