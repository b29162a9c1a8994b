-- What a scheme of logging is: a value of this record for each log. All that is said of logs elsewhere is by its fields.
use Rattle.std.specs.Prelude.{◌≡◌, ℕ, zero, suc, ◌+◌, ◌-◌, ◌*◌, ◌%◌, ◌^◌, ◌<◌, ◌≤◌, List, [], ◌∷◌, map, length, take, Option, None, Some, Bool, not, nat_lt, ◌==◌, ◌&&◌, ◌||◌}
use Rattle.ido_base.specs.Locks.{locks_in, mask_with}
use Rattle.ido_base.specs.declared.limits.TheConstants.{MOST_LOCKS, MOST_MUTEXES}
use Rattle.log_schemes.specs.declared.keeping.Keeping.{Keeping}
use Rattle.log_schemes.specs.declared.keeping.Keeping.TheVariants.{Masked, Listed}
use Rattle.log_schemes.specs.declared.addresses.TheConstants.{WRITE_ADDRESS_SLOT, WRITE_BYTES_SLOT, WRITE_VALUE_SLOT}
use Rattle.log_schemes.specs.declared.locals.Locals.{Locals}
use Rattle.log_schemes.specs.declared.locals.Locals.TheVariants.{Registers, Frame}
use Rattle.log_schemes.specs.declared.log.Log.{Log}
use Rattle.log_schemes.specs.declared.log.Log.TheVariants.{V1, V2, Justdo}
use Rattle.log_schemes.specs.declared.log.TheConstants.{FIRST_LOCK_OF_WRITES, FIRST_LOCK_SLOT, MOST_LISTED}
use Rattle.log_schemes.specs.declared.size.LogSize.{LogSize}
use Rattle.log_schemes.specs.declared.size.LogSize.TheVariants.{Lines16, Lines32}
use Rattle.memory_layout.specs.Roles.{is_kept, pending_address, pending_value}

-- ---- Sizes

-- lines of a log
abbrev pub lines_of : LogSize → ℕ
lines_of Lines16 = 16
lines_of Lines32 = 32

-- lines of a bank
abbrev pub lines_in_bank : LogSize → ℕ
lines_in_bank Lines16 = 4
lines_in_bank Lines32 = 6

-- how many bytes the second bank begins after the first
abbrev pub bank_distance : LogSize → ℕ
bank_distance Lines16 = 256
bank_distance Lines32 = 1024

-- by so many bits that distance is 1
abbrev pub distance_bits : LogSize → ℕ
distance_bits Lines16 = 8
distance_bits Lines32 = 10

-- ---- Schemes

pub record Scheme : Type 0 where
  pub size : LogSize
  -- how a bank keeps the locks held
  pub keeping : Keeping
  -- whether a bank has a slot for the register of this number, and which one
  pub has_register : (register : ℕ) → Bool
  pub register_at : (register : ℕ) → ℕ
  -- the slot of a listed lock, by its index in the list
  pub lock_at : (index : ℕ) → ℕ
  -- where the locals of a thread stand
  pub locals : Locals

-- all registers but x0, which is 0, and x3, which the point gives; register r has slot r
abbrev pub every_register : (register : ℕ) → Bool
every_register register = nat_lt 0 register && nat_lt register 32 && not (register == 3)

-- those of a pending write: x28 and x29
abbrev pub is_pending : (register : ℕ) → Bool
is_pending register = register == pending_address || register == pending_value

abbrev pub scheme_of : Log → Scheme
scheme_of V1 = record {
  size = Lines16;
  keeping = Masked;
  has_register = every_register;
  register_at = λ register. register;
  lock_at = λ index. FIRST_LOCK_SLOT + index;
  locals = Registers;
}
scheme_of V2 = record {
  size = Lines32;
  keeping = Listed;
  has_register = every_register;
  register_at = λ register. register;
  lock_at = λ index. FIRST_LOCK_SLOT + index;
  locals = Registers;
}
scheme_of Justdo = record {
  size = Lines32;
  keeping = Listed;
  has_register = is_pending;
  register_at = λ register. register % 27;
  lock_at = λ index. FIRST_LOCK_OF_WRITES + index;
  locals = Frame;
}

abbrev pub size_of : Log → LogSize
size_of log = (scheme_of log).size

abbrev pub keeping_of : Log → Keeping
keeping_of log = (scheme_of log).keeping

abbrev pub keeps_register : Log → (register : ℕ) → Bool
keeps_register log register = (scheme_of log).has_register register

abbrev pub register_slot : Log → (register : ℕ) → ℕ
register_slot log register = (scheme_of log).register_at register

abbrev pub lock_slot : Log → (index : ℕ) → ℕ
lock_slot log index = (scheme_of log).lock_at index

abbrev pub locals_of : Log → Locals
locals_of log = (scheme_of log).locals

-- the registers that a boundary may keep: those of a pending write, and those of locals where locals stand in registers
abbrev pub may_keep_at : Locals → (register : ℕ) → Bool
may_keep_at Registers register = is_kept register
may_keep_at Frame register = is_pending register

abbrev pub may_keep : Log → (register : ℕ) → Bool
may_keep log register = may_keep_at (locals_of log) register

-- ---- Banks

-- how many slots a bank has
abbrev pub bank_slots : Log → ℕ
bank_slots log = 8 * lines_in_bank (size_of log)

-- the numbers from `at` on, so many
abbrev pub numbers_from : (at count : ℕ) → List ℕ
numbers_from at zero = []
numbers_from at (suc count) = at ∷ numbers_from (at + 1) count

-- the numbers of a bank's lines
abbrev pub bank_lines : Log → List ℕ
bank_lines log = numbers_from 0 (lines_in_bank (size_of log))

-- ---- What a bank keeps of the locks held

-- the locks, each in the slot of its index, the first of them of this one
abbrev pub listed_from : Log → (index : ℕ) → (locks : List ℕ) → List (ℕ × ℕ)
listed_from log index [] = []
listed_from log index (lock ∷ locks) = (lock_slot log index, lock) ∷ listed_from log (index + 1) locks

-- slots, each with its value
abbrev pub kept_as : Keeping → Log → (locks : List ℕ) → List (ℕ × ℕ)
kept_as Masked log locks = (0, mask_with locks) ∷ []
kept_as Listed log locks = (0, length locks) ∷ listed_from log 0 locks

abbrev pub kept_locks : Log → (locks : List ℕ) → List (ℕ × ℕ)
kept_locks log locks = kept_as (keeping_of log) log locks

-- ---- What a bank is told of the write that comes next, where each write has a record: how many bytes it has, or that none comes

abbrev pub told_at : Locals → (written : Option ℕ) → List (ℕ × ℕ)
told_at Registers written = []
told_at Frame None = (WRITE_ADDRESS_SLOT, 0) ∷ (WRITE_VALUE_SLOT, 0) ∷ (WRITE_BYTES_SLOT, 0) ∷ []
told_at Frame (Some bytes) = (WRITE_BYTES_SLOT, bytes) ∷ []

abbrev pub told : Log → (written : Option ℕ) → List (ℕ × ℕ)
told log written = told_at (locals_of log) written

-- the locks that a bank says, where its slots have these values
abbrev pub read_as : Keeping → Log → (slots : ℕ → ℕ) → List ℕ
read_as Masked log slots = locks_in (slots 0)
read_as Listed log slots = take (slots 0) (map (λ index. slots (lock_slot log index)) (numbers_from 0 MOST_LISTED))

abbrev pub locks_read : Log → (slots : ℕ → ℕ) → List ℕ
locks_read log slots = read_as (keeping_of log) log slots

-- the locks are those of a mask of 64 bits
pub record AreOfMask (locks : List ℕ) : Type 0 where
  pub fits : mask_with locks < 2 ^ 64
  pub read_back : locks_in (mask_with locks) ≡ locks

-- a bank has room for these locks: a mask can tell them, or each of them has a slot
abbrev pub HasRoom : Keeping → (locks : List ℕ) → Type 0
HasRoom Masked locks = AreOfMask locks
HasRoom Listed locks = length locks ≤ MOST_LISTED

abbrev pub HaveRoom : Log → (locks : List ℕ) → Type 0
HaveRoom log locks = HasRoom (keeping_of log) locks

-- how many mutexes there may be, with those of arrays
abbrev pub most_kept : Keeping → ℕ
most_kept Masked = MOST_MUTEXES
most_kept Listed = MOST_LOCKS

abbrev pub most_locks : Log → ℕ
most_locks log = most_kept (keeping_of log)
