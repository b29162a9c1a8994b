-- What holds of every config, whatever happens.
use Rattle.std.specs.Prelude.{◌⊎◌, suc, slice_get, Some, ℤ, length, ◌≡◌, ◌≢◌, ℕ, ◌+◌, ◌<◌, ◌≤◌, List, ◌∷◌, ◌++◌, map, replicate, true}
use Rattle.c_tree.specs.Flats as f
use Rattle.c_tree.specs.Source.{State, is_between, after_from, runs_from, ended_from}
use Rattle.source_machine.specs.Discipline.{Guards, StateKeeps}
use Rattle.source_machine.specs.StepExchanges.{steps_of, IsSameTo, AcquiresReleased}
use Rattle.source_machine.specs.Mutexes.{locks, unlocks}
use Rattle.recovery_semantics.specs.ElementHistories.{Memory, IsStable, AreStable, IsSince, IsStored, IsOther, ArePersisted, memory_of, crashed}
use Rattle.recovery_semantics.specs.ElementHistories.{durable_number, history_at, live_number, number_at}
use Rattle.recovery_semantics.specs.Attempts.{solo, Attempt, Writes, WritesAt}
use Rattle.recovery_semantics.specs.Configs.{Config, Invariant, attempt_of, now}
use Rattle.recovery_semantics.specs.Executions.{first_config, Execution}
use Rattle.recovery_semantics.specs.Events.{IsGoing, ConfigStep, settled_by, IsSettled, steps_begun}

-- ---- The invariant

-- where an execution begins the invariant holds
abbrev pub StartMeets : Type 0
StartMeets = (x : f.Flat) (from : State) (memory : Memory) → StateKeeps x from → AreStable from memory → Invariant x (first_config x from memory)

-- in memory that has a state's numbers and no past they are stable
abbrev pub FreshAreStable : Type 0
FreshAreStable = (s : State) → AreStable s (memory_of s)

-- in memory that a crash has left the durable numbers are stable
abbrev pub CrashedAreStable : Type 0
CrashedAreStable = (s : State) (memory : Memory) → s.variables ≡ map (map durable_number) memory → AreStable s (crashed memory)

-- every event keeps it
abbrev pub EventsKeep : Type 0
EventsKeep = (x : f.Flat) (m next : Config) → Invariant x m → ConfigStep m next → Invariant x next

-- ---- What it says

-- what earlier attempts wrote from here on this one has written already
abbrev pub IsRewritten : Config → (thread variable element : ℕ) → Type 0
IsRewritten m thread variable element = (k : ℕ) → (attempt_of m thread).done ≤ k → k < (attempt_of m thread).longest →
    WritesAt m.kept thread k variable element → Writes m.kept thread (attempt_of m thread).done variable element

-- what a thread reads of the elements that it guards is the source's number
abbrev pub ReadsAreRight : Type 0
ReadsAreRight = (x : f.Flat) (m : Config) (thread variable element : ℕ) → Invariant x m → Guards x (now m) thread variable element →
    IsRewritten m thread variable element → live_number (history_at m.memory variable element) ≡ number_at (now m) variable element

-- where no attempt has written anything, durable memory has what is kept
abbrev pub DurableIsKept : Type 0
DurableIsKept = (x : f.Flat) (m : Config) → Invariant x m →
    ((thread variable element : ℕ) → ¬ (Writes m.kept thread (attempt_of m thread).longest variable element)) →
    map (map durable_number) m.memory ≡ m.kept.variables

-- what a thread writes along its attempts it guards in what is kept
abbrev pub WritersGuard : Type 0
WritersGuard = (x : f.Flat) (m : Config) (thread variable element : ℕ) → Invariant x m →
    Writes m.kept thread (attempt_of m thread).longest variable element → Guards x m.kept thread variable element

-- two threads write no element both
abbrev pub WritersApart : Type 0
WritersApart = (x : f.Flat) (m : Config) (one other variable element : ℕ) → Invariant x m → other ≢ one →
    Writes m.kept one (attempt_of m one).longest variable element → ¬ (Writes m.kept other (attempt_of m other).longest variable element)

-- where what is kept leaves all threads between sections, durable memory has its variables
abbrev pub BetweenIsKept : Type 0
BetweenIsKept = (x : f.Flat) (m : Config) → Invariant x m → ((thread : ℕ) → is_between m.kept thread ≡ true) →
    map (map durable_number) m.memory ≡ m.kept.variables

-- those numbers are stable, so that another execution may begin with them
abbrev pub BetweenIsStable : Type 0
BetweenIsStable = (x : f.Flat) (m : Config) → Invariant x m → ((thread : ℕ) → is_between m.kept thread ≡ true) → AreStable m.kept m.memory

-- ---- Mutexes

-- a thread acquires no released mutex where no other thread has it in what is kept
abbrev pub LeftIsFree : Type 0
LeftIsFree = (x : f.Flat) (m : Config) (thread : ℕ) → Invariant x m → ((mutex other : ℕ) → locks (now m) thread ≡ Some mutex → other ≢ thread →
    slice_get m.kept.holders mutex ≢ Some (Some other)) → ¬ (AcquiresReleased m.kept m.uncommitted thread)

-- the step that ends the thread's attempt is begun, and locks the mutex
pub record HasLocked (m : Config) (thread mutex : ℕ) : Type 0 where
  pub begun : steps_begun m thread ≡ suc (attempt_of m thread).done
  pub locks_it : locks (solo m.kept thread (attempt_of m thread).done) thread ≡ Some mutex

-- the step that ends the thread's attempt is begun, and unlocks the mutex
pub record HasUnlocked (m : Config) (thread mutex : ℕ) : Type 0 where
  pub begun : steps_begun m thread ≡ suc (attempt_of m thread).done
  pub unlocks_it : unlocks (solo m.kept thread (attempt_of m thread).done) thread ≡ Some mutex

-- the thread's last step of the schedule, which is made from that state, unlocks the mutex
pub record LastUnlocks (s : State) (schedule : List ℕ) (thread mutex : ℕ) : Type 0 where
  pub before : List ℕ
  pub after : List ℕ
  pub parts : schedule ≡ before ++ thread ∷ after
  pub none_after : steps_of thread after ≡ 0
  pub unlocks_it : unlocks (after_from s before) thread ≡ Some mutex

-- the unlock that ends the thread's attempt is its last step of those that are begun and aren't kept
abbrev pub UnlockedIsLast : Type 0
UnlockedIsLast = (x : f.Flat) (m : Config) (thread mutex : ℕ) → Invariant x m → HasUnlocked m thread mutex →
    LastUnlocks m.kept m.uncommitted thread mutex

-- a mutex that a thread has now it has in what is kept, or it has locked it since
abbrev pub HeldNow : Type 0
HeldNow = (x : f.Flat) (m : Config) (thread mutex : ℕ) → Invariant x m → slice_get (now m).holders mutex ≡ Some (Some thread) →
    (slice_get m.kept.holders mutex ≡ Some (Some thread)) ⊎ HasLocked m thread mutex

-- a mutex that a thread has in what is kept it has now, or it has unlocked it since
abbrev pub HeldBefore : Type 0
HeldBefore = (x : f.Flat) (m : Config) (thread mutex : ℕ) → Invariant x m → slice_get m.kept.holders mutex ≡ Some (Some thread) →
    (slice_get (now m).holders mutex ≡ Some (Some thread)) ⊎ HasUnlocked m thread mutex

-- ---- Stores

-- an element that is stored to has its number since the position after those before
abbrev pub StoredIsSince : Type 0
StoredIsSince = (old new : Memory) (variable element : ℕ) (number : ℤ) → IsStored old new variable element number →
    IsSince (history_at new variable element) (length (history_at old variable element).values)

-- where an element is stored to, another one has had its number as long as before
abbrev pub SinceStays : Type 0
SinceStays = (old new : Memory) (variable element : ℕ) (number : ℤ) → IsStored old new variable element number → (v e position : ℕ) →
    IsOther variable element v e → IsSince (history_at old v e) position → IsSince (history_at new v e) position

-- where memory persists, an element has had its number as long as before
abbrev pub SinceIsPersisted : Type 0
SinceIsPersisted = (old new : Memory) (v e position : ℕ) → ArePersisted old new → IsSince (history_at old v e) position → IsSince (history_at new v e) position

-- once that position is durable, what the thread's attempt wrote is durably as it is now
abbrev pub SinceSettles : Type 0
SinceSettles = (x : f.Flat) (m : Config) (thread v e position : ℕ) → Invariant x m → Writes m.kept thread (attempt_of m thread).done v e →
    IsSince (history_at m.memory v e) position → position ≤ (history_at m.memory v e).durable →
    IsStable (history_at m.memory v e) (number_at (now m) v e)

-- ---- Paths

-- a thread whose attempt goes on is what its inner steps alone give
abbrev pub GoesAlone : Type 0
GoesAlone = (x : f.Flat) (m : Config) (thread : ℕ) → Invariant x m → IsGoing m thread →
    IsSameTo x (now m) (solo m.kept thread (attempt_of m thread).done) thread

-- where a thread's steps are kept, it is in what is kept then what it is now
abbrev pub SettlesAsItIs : Type 0
SettlesAsItIs = (x : f.Flat) (m : Config) (thread : ℕ) (attempts : List Attempt) → Invariant x m → IsSettled m thread attempts →
    IsSameTo x (now m) (settled_by m thread attempts).kept thread

-- where a thread's steps are kept, the longest attempts of the others go the same path as before
abbrev pub PathsStay : Type 0
PathsStay = (x : f.Flat) (m : Config) (thread : ℕ) (attempts : List Attempt) (other steps : ℕ) → Invariant x m → IsSettled m thread attempts →
    other ≢ thread → steps ≤ (attempt_of m other).longest →
    IsSameTo x (solo (settled_by m thread attempts).kept other steps) (solo m.kept other steps) other

-- ---- The schedule

-- the schedule leads from the one state to the other, which is kept
pub record IsKeptBy (from s : State) (schedule : List ℕ) : Type 0 where
  pub runs : runs_from from schedule ≡ true
  pub is : after_from from schedule ≡ s

-- where a thread's steps are kept, the schedule with these after it leads to what is kept then
abbrev pub ScheduleGrows : Type 0
ScheduleGrows = (x : f.Flat) (from : State) (m : Config) (thread : ℕ) (attempts : List Attempt) (schedule : List ℕ) → Invariant x m →
    IsSettled m thread attempts → IsKeptBy from m.kept schedule →
    IsKeptBy from (settled_by m thread attempts).kept (schedule ++ replicate (steps_begun m thread) thread)

-- no section that has ended in it is lost
abbrev pub SectionsStay : Type 0
SectionsStay = (s : State) (schedule more : List ℕ) (thread : ℕ) → ended_from s schedule thread ≤ ended_from s (schedule ++ more) thread

-- the state after all begun steps is the same, and so are the sections that end in them
pub record IsSameNow (m next : Config) (thread : ℕ) : Type 0 where
  pub is : now next ≡ now m
  pub ended : (u : ℕ) → ended_from m.kept (replicate (steps_begun m thread) thread) u + ended_from next.kept next.uncommitted u
      ≡ ended_from m.kept m.uncommitted u

abbrev pub NowStays : Type 0
NowStays = (x : f.Flat) (m : Config) (thread : ℕ) (attempts : List Attempt) → Invariant x m → IsSettled m thread attempts →
    IsSameNow m (settled_by m thread attempts) thread

-- ---- Whole executions

-- whatever happens from a state on that keeps the lock discipline, the invariant holds, and the kept schedule leads from it to what is kept
pub record ExecutionInv (x : f.Flat) (from : State) (m : Config) (schedule : List ℕ) : Type 0 where
  pub invariant : Invariant x m
  pub kept : IsKeptBy from m.kept schedule

abbrev pub ExecutionsResume : Type 0
ExecutionsResume = (x : f.Flat) (from : State) (m : Config) (schedule : List ℕ) → StateKeeps x from → Execution x from m schedule →
    ExecutionInv x from m schedule

-- whenever the kept schedule leaves all threads between sections, durable memory has exactly the variables that it leaves
abbrev pub ExecutionsSettle : Type 0
ExecutionsSettle = (x : f.Flat) (from : State) (m : Config) (schedule : List ℕ) → StateKeeps x from → Execution x from m schedule →
    ((thread : ℕ) → is_between (after_from from schedule) thread ≡ true) →
    map (map durable_number) m.memory ≡ (after_from from schedule).variables
