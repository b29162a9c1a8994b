-- Whether threads can be resumed by their logs, and the first fault where one can't.
use Rattle.std.specs.Prelude.{◌≡◌, ◌≢◌, ◌⊎◌, ◌==◌, ℕ, ◌<◌, ◌≤◌, ℤ, Bool, true, false, Option, Some, None, IfSome}
use Rattle.std.specs.Prelude.{List, [], ◌∷◌, ◌++◌, length, map, find, slice_get, slice_index, slice_index_or, All, Vec, ◌+◌}
use Rattle.std.specs.Global.{Global}
use Rattle.ido_base.specs.declared.location.Location.{Location}
use Rattle.ido_base.specs.Layout.{variable_at}
use Rattle.log_schemes.specs.declared.log.Log.{Log}
use Rattle.log_schemes.specs.declared.keeping.Keeping.{Keeping}
use Rattle.log_schemes.specs.declared.keeping.Keeping.TheVariants.{Masked, Listed}
use Rattle.log_schemes.specs.declared.addresses.TheConstants.{SLOT_BYTES}
use Rattle.log_schemes.specs.declared.locals.Locals.{Locals}
use Rattle.log_schemes.specs.declared.locals.Locals.TheVariants.{Registers, Frame}
use Rattle.log_schemes.specs.Layout.{frame_at}
use Rattle.log_schemes.specs.Schemes.{keeping_of, locals_of, told}
use Rattle.ido_ints.specs.declared.kinds.Kind.{Kind}
use Rattle.ido_ints.specs.Kinds.{Holds, bytes_of}
use Rattle.ido_ints.specs.Reduction.{register_of}
use Rattle.c_tree.specs.Exprs.{LockName}
use Rattle.c_tree.specs.Programs.{Variable}
use Rattle.c_tree.specs.WellFormed.{shape_of}
use Rattle.c_tree.specs.Flats.{Flat, Thread}
use Rattle.c_tree.specs.LockNames.{lock_names}
use Rattle.c_tree.specs.Ranges.{elements_of}
use Rattle.c_tree.specs.References.{variable_refers}
use Rattle.c_tree.specs.Source.{start}
use Rattle.flow_graph.specs.HeldKeys.{names_in}
use Rattle.flow_graph.specs.Paths.{Naming}
use Rattle.memory_layout.specs.declared.roles.TheConstants.{LOCALS, PENDING_ADDRESS, PENDING_VALUE}
use Rattle.log_schemes.specs.declared.point.Point.TheVariants.{Idle, At}
use Rattle.flat_compile.specs.declared.resumes.LiveLocal.{LiveLocal}
use Rattle.flat_compile.specs.declared.resumes.Resume.{Resume}
use Rattle.flat_compile.specs.ResumePlaces.{resumes_at}
use Rattle.image_checks.specs.declared.limits.TheConstants.{FIRST_FRAME_NUMBER}
use Rattle.image_checks.specs.declared.error.ImageError.{ImageError}
use Rattle.image_checks.specs.declared.error.ImageError.TheVariants as e
use Rattle.crash_images.specs.Contents.{State}
use Rattle.image_checks.specs.Logs.{Logs, home_in, logs_of, point_in, register_in, slot_in, locals_by, HavePairs, HoldsLock, KeepsLocks}
use Rattle.image_checks.specs.Schedules.{AreSchedules, IsLivesFault}

-- ---- Slots

-- the word is the register form of a number that the kind holds
pub record IsForm (kind : Kind) (word : ℕ) : Type 0 where
  pub number : ℤ
  pub held : Holds kind number
  pub is : word ≡ register_of kind number

-- the address is that of one of the location's elements: where it has a key, of the one that the key names
pub record IsElementOf (variables : List Variable) (names : Naming) (location : Location) (address : ℕ) : Type 0 where
  pub there : location.variable < length variables
  pub element : ℕ
  pub from : location.lo ≤ element
  pub to : element ≤ location.hi
  pub by_key : (key : ℕ) → location.key ≡ Some key → names location.variable key ≡ Some element
  pub is : address ≡ variable_at (map shape_of variables) location.variable element

-- the word is that of null, or of a reference to an element of the array: 0, or the number of the element and 1 more
abbrev pub IsReferenceWord : List Variable → (refers : Option ℕ) → (word : ℕ) → Type 0
IsReferenceWord vs None word = Unit {0}
IsReferenceWord vs (Some array) word = word ≤ elements_of vs array

-- where it is known not to be that of null, it isn't
abbrev pub IsUnnull : (known : Bool) → (word : ℕ) → Type 0
IsUnnull false word = Unit {0}
IsUnnull true word = word ≢ 0

-- the word is a number that the local may have: of its kind, and where it is a reference one to an element, or null where that may be
pub record IsLocalWord (variables : List Variable) (l : LiveLocal) (word : ℕ) : Type 0 where
  pub form : IsForm l.kind word
  pub reference : IsReferenceWord variables l.refers word
  pub unnull : IsUnnull l.known word

-- ---- A thread of a flat form

-- the names by which it takes locks
abbrev pub names_of_thread : Flat → (thread : ℕ) → List LockName
names_of_thread flat thread = slice_index_or (map (λ (t : Thread). lock_names flat t) flat.threads) thread []

-- the kinds of its locals
abbrev pub kinds_of_thread : Flat → (thread : ℕ) → List Kind
kinds_of_thread flat thread = slice_index_or (map (λ (t : Thread). t.locals) flat.threads) thread []

-- ---- A bank of the log of a thread that is resumed with it

-- a mask is looked at before locals and what is written next, a list after them
abbrev pub AreLocksFirst : Keeping → Type 0
AreLocksFirst Masked = Unit {0}
AreLocksFirst Listed = ⊥

-- locals in registers are looked at before what is written next, those in the frame after it
abbrev pub AreLocalsFirst : Locals → Type 0
AreLocalsFirst Registers = Unit {0}
AreLocalsFirst Frame = ⊥

-- the number by which the home of the locals of a colour is told: of their register, or 32 and that of their word in the frame
abbrev pub home_number : Locals → (colour : ℕ) → ℕ
home_number Registers colour = slice_index LOCALS colour
home_number Frame colour = FIRST_FRAME_NUMBER + colour

-- how many bytes an element of the variable has
abbrev pub element_bytes : List Variable → (variable : ℕ) → ℕ
element_bytes vs variable = elim (slice_get vs variable) [
  | Some v ↦ bytes_of v.kind
  | None ↦ 0
]

-- how many bytes the write has that comes next, if one comes: of an element, or of a local
abbrev pub bytes_next : List Variable → (pending : Option Location) → (assigned : Option LiveLocal) → Option ℕ
bytes_next vs (Some l) assigned = Some (element_bytes vs l.variable)
bytes_next vs None (Some l) = Some SLOT_BYTES
bytes_next vs None None = None

module _ (flat : Flat) (logs : Logs) (thread bank : ℕ) where
  abbrev pub bank_slot : (slot : ℕ) → ℕ
  bank_slot = λ (slot : ℕ). slot_in logs thread bank slot

  -- what stands in the homes of locals, by their colours
  abbrev pub bank_home : (colour : ℕ) → ℕ
  bank_home = λ (colour : ℕ). home_in logs thread bank colour

  -- the numbers of the thread's locals, where these are live
  abbrev pub bank_locals : List LiveLocal → List ℤ
  bank_locals live = locals_by bank_home live (length (kinds_of_thread flat thread))

  -- the bank has the locks that the thread holds where it is resumed
  abbrev pub HasLocks : Resume → Type 0
  HasLocks r = KeepsLocks logs.log bank_slot bank_home (names_of_thread flat thread) (length (kinds_of_thread flat thread)) r

  -- in the local's home stands a number that it may have
  abbrev pub HasLocal : LiveLocal → Type 0
  HasLocal l = IsLocalWord flat.variables l (bank_home l.colour)

  abbrev pub HasLocals : List LiveLocal → Type 0
  HasLocals live = All HasLocal live

  -- the number is that of the home of the first of these locals in whose home no such number stands
  pub record IsFirstWrong (live : List LiveLocal) (register : ℕ) : Type 0 where
    pub before : List LiveLocal
    pub local : LiveLocal
    pub after : List LiveLocal
    pub parts : live ≡ before ++ local ∷ after
    pub right : HasLocals before
    pub wrong : ¬ (HasLocal local)
    pub register_is : register ≡ home_number (locals_of logs.log) local.colour

  -- where a store is pending, the address is that of an element that may be written
  abbrev pub IsElementNext : List LiveLocal → (pending : Option Location) → (address : ℕ) → Type 0
  IsElementNext live pending address = IfSome pending (λ (l : Location).
      IsElementOf flat.variables (names_in flat.variables (names_of_thread flat thread) (bank_locals live)) l address)

  -- where a local is assigned next, it is that of its word in the frame
  abbrev pub IsWordNext : (assigned : Option LiveLocal) → (address : ℕ) → Type 0
  IsWordNext assigned address = IfSome assigned (λ (l : LiveLocal). address ≡ frame_at logs.log thread l.colour)

  -- the bank has the address of what is written next, and is told how many bytes that has, or that nothing is
  pub record HasAddress (r : Resume) : Type 0 where
    pub element : IsElementNext r.live.items r.pending (register_in logs thread bank PENDING_ADDRESS)
    pub word : IsWordNext r.assigned (register_in logs thread bank PENDING_ADDRESS)
    pub told : HavePairs bank_slot (told logs.log (bytes_next flat.variables r.pending r.assigned))

  -- where an element is written that is a reference, null or a reference to an element of its array is stored
  abbrev pub IsElementValue : (pending : Option Location) → (value : ℕ) → Type 0
  IsElementValue pending value = IfSome pending (λ (l : Location). IsReferenceWord flat.variables (variable_refers flat.variables l.variable) value)

  -- where a local is assigned, a number that it may have
  abbrev pub IsLocalValue : (assigned : Option LiveLocal) → (value : ℕ) → Type 0
  IsLocalValue assigned value = IfSome assigned (λ (l : LiveLocal). IsLocalWord flat.variables l value)

  -- the bank has a value that may be written next
  pub record HasValue (r : Resume) : Type 0 where
    pub element : IsElementValue r.pending (register_in logs thread bank PENDING_VALUE)
    pub local : IsLocalValue r.assigned (register_in logs thread bank PENDING_VALUE)

  pub record HasWrite (r : Resume) : Type 0 where
    pub address : HasAddress r
    pub value : HasValue r

  pub record IsRight (r : Resume) : Type 0 where
    pub locks : HasLocks r
    pub locals : HasLocals r.live.items
    pub write : HasWrite r

  -- nothing but its locks may be wrong
  pub record IsRightBeside (r : Resume) : Type 0 where
    pub locals : HasLocals r.live.items
    pub write : HasWrite r

  -- what is looked at before locals is right
  abbrev pub IsRightBefore : Resume → Type 0
  IsRightBefore r = AreLocalsFirst (locals_of logs.log) ⊎ HasWrite r

  -- the first fault but for those of its locks
  pub data IsFaultBeside (r : Resume) : ImageError → Type 0 where
    other_number : (register : ℕ) → IsRightBefore r → IsFirstWrong r.live.items register → IsFaultBeside r (e.Slot thread register)
    other_address : (AreLocalsFirst (locals_of logs.log) → HasLocals r.live.items) → ¬ (HasAddress r) → IsFaultBeside r (e.Slot thread PENDING_ADDRESS)
    other_value : (AreLocalsFirst (locals_of logs.log) → HasLocals r.live.items) → HasAddress r → ¬ (HasValue r) →
        IsFaultBeside r (e.Slot thread PENDING_VALUE)

  -- the first fault of the bank
  pub data IsBankFault (r : Resume) : ImageError → Type 0 where
    other_locks : (AreLocksFirst (keeping_of logs.log) ⊎ IsRightBeside r) → ¬ (HasLocks r) → IsBankFault r (e.Mask thread)
    beside : (error : ImageError) → (AreLocksFirst (keeping_of logs.log) → HasLocks r) → IsFaultBeside r error → IsBankFault r error

-- ---- The log of a thread

-- the first of the places that has this address
abbrev pub resume_at : (resumes : List Resume) → (address : ℕ) → Option Resume
resume_at resumes address = find (λ (r : Resume). r.address == address) resumes

-- the thread may be resumed at these places
module _ (flat : Flat) (resumes : List Resume) (logs : Logs) (thread : ℕ) where
  -- the thread stands between two sections, or is resumed where its point says
  pub data IsResumableLog : Type 0 where
    idle : point_in logs thread ≡ Idle → IsResumableLog
    resumed : (address bank : ℕ) (r : Resume) → point_in logs thread ≡ At address bank → resume_at resumes address ≡ Some r →
        IsRight flat logs thread bank r → IsResumableLog

  -- the first fault of its log
  pub data IsLogFault : ImageError → Type 0 where
    nowhere : (address bank : ℕ) → point_in logs thread ≡ At address bank → resume_at resumes address ≡ None → IsLogFault (e.Point thread)
    of_bank : (address bank : ℕ) (r : Resume) (error : ImageError) → point_in logs thread ≡ At address bank → resume_at resumes address ≡ Some r →
        IsBankFault flat logs thread bank r error → IsLogFault error

-- ---- The logs of all threads, each of which may be resumed at its places in the table

module _ (flat : Flat) (table : List (Vec Resume Global)) (logs : Logs) where
  -- the log of each thread below that number is sound
  abbrev pub AreSoundBelow : ℕ → Type 0
  AreSoundBelow n = (thread : ℕ) → thread < n → IsResumableLog flat (resumes_at table thread) logs thread

  abbrev pub AreSound : Type 0
  AreSound = AreSoundBelow (length table)

  -- the first fault of the first thread that has one
  pub record IsThreadFault (error : ImageError) : Type 0 where
    pub thread : ℕ
    pub within : thread < length table
    pub before : AreSoundBelow thread
    pub fault : IsLogFault flat (resumes_at table thread) logs thread error

-- ---- Mutexes

module _ (logs : Logs) (threads : ℕ) where
  -- two of so many threads hold the mutex, and these are the least two
  pub record AreFirstTwo (lock first second : ℕ) : Type 0 where
    pub apart : first < second
    pub within : second < threads
    pub first_holds : HoldsLock logs first lock
    pub second_holds : HoldsLock logs second lock
    pub others : (thread : ℕ) → thread < second → HoldsLock logs thread lock → thread ≡ first

  -- no two of so many threads hold the mutex
  abbrev pub IsUnshared : (lock : ℕ) → Type 0
  IsUnshared lock = (one other : ℕ) → one < other → other < threads → HoldsLock logs one lock → ¬ (HoldsLock logs other lock)

  -- the least mutex that two threads hold
  pub data IsMutexFault : ImageError → Type 0 where
    shared : (lock first second : ℕ) → AreFirstTwo lock first second → ((less : ℕ) → less < lock → IsUnshared less) →
        IsMutexFault (e.Shared lock first second)

-- ---- All that stands after the source, whose threads log so

module _ (log : Log) (flat : Flat) (table : List (Vec Resume Global)) (s : State) where
  abbrev pub logs_in : Logs
  logs_in = logs_of log s.logs

  -- nothing is at fault
  pub record IsWellFormedState : Type 0 where
    pub logs : AreSound flat table logs_in
    pub mutexes : (lock : ℕ) → IsUnshared logs_in (length table) lock
    pub schedules : AreSchedules flat (start flat) 0 s.lives

  -- the first fault: of a thread's log, else of the mutexes that threads hold, else of the schedules of lives
  pub data IsStateFault : ImageError → Type 0 where
    of_thread : (error : ImageError) → IsThreadFault flat table logs_in error → IsStateFault error
    of_mutexes : (error : ImageError) → AreSound flat table logs_in → IsMutexFault logs_in (length table) error → IsStateFault error
    of_schedules : (error : ImageError) → AreSound flat table logs_in → ((lock : ℕ) → IsUnshared logs_in (length table) lock) →
        IsLivesFault flat 1 (start flat) 0 s.lives error → IsStateFault error
