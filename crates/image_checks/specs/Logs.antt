-- What the words of logs say: of each thread its point, and the slots of a bank.
use Rattle.std.specs.Option.{option_to_list}
use Rattle.std.specs.Prelude.{◌≡◌, ◌==◌, ℕ, ◌+◌, ◌-◌, ◌/◌, ℤ, pos, true, Option, Some, None}
use Rattle.std.specs.Prelude.{List, [], ◌∷◌, length, map, find, flat_map, slice_get, slice_index}
use Rattle.log_schemes.specs.declared.log.Log.{Log}
use Rattle.log_schemes.specs.declared.keeping.Keeping.{Keeping}
use Rattle.log_schemes.specs.declared.keeping.Keeping.TheVariants.{Masked, Listed}
use Rattle.ido_base.specs.Layout.{logs_base}
use Rattle.log_schemes.specs.Layout.{frame_at, point_at, slot_at}
use Rattle.log_schemes.specs.declared.locals.Locals.{Locals}
use Rattle.log_schemes.specs.declared.locals.Locals.TheVariants.{Registers, Frame}
use Rattle.memory_layout.specs.declared.roles.TheConstants.{LOCALS}
use Rattle.ido_base.specs.Locks.{has_lock, mask_with}
use Rattle.ido_ints.specs.Reduction.{reduced}
use Rattle.c_tree.specs.Exprs.{LockName}
use Rattle.c_tree.specs.LockDiscipline.{numbers_below}
use Rattle.c_tree.specs.Values.{lock_number}
use Rattle.flat_compile.specs.declared.resumes.LiveLocal.{LiveLocal}
use Rattle.flat_compile.specs.declared.resumes.Resume.{Resume}
use Rattle.log_schemes.specs.declared.addresses.TheConstants.{LOCKS_SLOT}
use Rattle.log_schemes.specs.declared.point.Point.{Point}
use Rattle.log_schemes.specs.declared.point.Point.TheVariants.{Idle, At}
use Rattle.log_schemes.specs.Points.{point_of}
use Rattle.log_schemes.specs.Schemes.{keeping_of, lock_slot, locals_of, locks_read, register_slot}
use Rattle.crash_images.specs.Contents.{word_bytes}

-- the words of all logs, and how they log
pub record Logs : Type 0 where
  pub log : Log
  -- of thread 0 first
  pub words : List ℕ

abbrev pub logs_of : Log → (words : List ℕ) → Logs
logs_of log words = record { log = log; words = words }

-- the word at an address of the logs
abbrev pub logged : (words : List ℕ) → (address : ℕ) → ℕ
logged words address = slice_index words ((address - logs_base) / word_bytes)

-- where the thread is resumed
abbrev pub point_in : Logs → (thread : ℕ) → Point
point_in logs thread = point_of (logged logs.words (point_at logs.log thread))

abbrev pub slot_in : Logs → (thread bank slot : ℕ) → ℕ
slot_in logs thread bank slot = logged logs.words (slot_at logs.log thread bank slot)

-- what a bank keeps of a register
abbrev pub register_in : Logs → (thread bank register : ℕ) → ℕ
register_in logs thread bank register = slot_in logs thread bank (register_slot logs.log register)

-- the word in the home of the locals of a colour: what a bank keeps of their register, or a word of the frame
abbrev pub home_word : Locals → Logs → (thread bank colour : ℕ) → ℕ
home_word Registers logs thread bank colour = register_in logs thread bank (slice_index LOCALS colour)
home_word Frame logs thread bank colour = logged logs.words (frame_at logs.log thread colour)

unfoldable pub home_in : Logs → (thread bank colour : ℕ) → ℕ
home_in logs thread bank colour = home_word (locals_of logs.log) logs thread bank colour

-- the locks are these values, one after another, from this index on
abbrev pub AreFrom : (value : ℕ → ℕ) → (index : ℕ) → (locks : List ℕ) → Type 0
AreFrom value index [] = Unit {0}
AreFrom value index (lock ∷ locks) = (value index ≡ lock) × AreFrom value (index + 1) locks

-- they are all that a list in the slots has
abbrev pub Lists : Log → (slot : ℕ → ℕ) → (locks : List ℕ) → Type 0
Lists log slot locks = (slot LOCKS_SLOT ≡ length locks) × AreFrom (λ index. slot (lock_slot log index)) 0 locks

-- ---- What a bank is told of a write

-- the slots have these values
abbrev pub HavePairs : (slot : ℕ → ℕ) → List (ℕ × ℕ) → Type 0
HavePairs slot [] = Unit {0}
HavePairs slot (pair ∷ pairs) = (slot pair.0 ≡ pair.1) × HavePairs slot pairs

-- ---- The locks that a thread holds where it is resumed, by a bank with these slots

-- the number of a local, where homes have these words: of one that is live what the word of its home is reduced to; of another none is asked
abbrev pub local_by : (home : ℕ → ℕ) → Option LiveLocal → ℤ
local_by home None = pos 0
local_by home (Some l) = reduced l.kind (pos (home l.colour))

-- the numbers of so many locals
abbrev pub locals_by : (home : ℕ → ℕ) → List LiveLocal → (count : ℕ) → List ℤ
locals_by home live count = map (λ (local : ℕ). local_by home (find (λ (l : LiveLocal). l.local == local) live)) (numbers_below count)

-- the names of these numbers
abbrev pub names_at : List LockName → (held : List ℕ) → List LockName
names_at names held = flat_map (λ (k : ℕ). option_to_list (slice_get names k)) held

-- the locks of the held names of a thread with these names and so many locals, in the order of the names
abbrev pub locks_by : (home : ℕ → ℕ) → List LockName → (count : ℕ) → Resume → List ℕ
locks_by home names count r = map (lock_number (locals_by home r.live.items count)) (names_at names r.held.items)

-- none stands in the list twice
abbrev pub AreOnce : (locks : List ℕ) → Type 0
AreOnce locks = (i j lock : ℕ) → slice_get locks i ≡ Some lock → slice_get locks j ≡ Some lock → i ≡ j

-- the bank has the locks of the held names, and no others: by a mask, where these numbers are those of mutexes, or listed in the order of the names
abbrev pub KeepsAs : Keeping → Log → (slot home : ℕ → ℕ) → List LockName → (count : ℕ) → Resume → Type 0
KeepsAs Masked log slot home names count r = slot LOCKS_SLOT ≡ mask_with r.held.items
KeepsAs Listed log slot home names count r = Lists log slot (locks_by home names count r) × AreOnce (locks_by home names count r)

abbrev pub KeepsLocks : Log → (slot home : ℕ → ℕ) → List LockName → (count : ℕ) → Resume → Type 0
KeepsLocks log slot home names count r = KeepsAs (keeping_of log) log slot home names count r

-- ---- The locks that its log says

-- the locks that the thread holds: none between two sections
abbrev pub locks_at_point : Logs → (thread : ℕ) → Point → List ℕ
locks_at_point logs thread Idle = []
locks_at_point logs thread (At address bank) = locks_read logs.log (λ slot. slot_in logs thread bank slot)

abbrev pub log_locks : Logs → (thread : ℕ) → List ℕ
log_locks logs thread = locks_at_point logs thread (point_in logs thread)

abbrev pub HoldsLock : Logs → (thread lock : ℕ) → Type 0
HoldsLock logs thread lock = has_lock (log_locks logs thread) lock ≡ true
