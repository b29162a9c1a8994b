-- Worked rows of the definitions.
use Rattle.std.proofs.Common.{◌≡◌, ℕ, zero, suc, [], ◌∷◌, refl, true, false}
use Rattle.ido_base.specs.Layout.{word_number}
use Rattle.ido_base.specs.Locks.{locks_in}
use Rattle.log_schemes.specs.declared.log.Log.TheVariants.{V1, V2}
use Rattle.log_schemes.specs.declared.point.Point.TheVariants.{Idle, At}
use Rattle.log_schemes.specs.Layout.{slot_at, point_at, in_range}
use Rattle.log_schemes.specs.Points.{point_of}
use Rattle.log_schemes.specs.Schemes.{bank_lines, kept_locks, locks_read, register_slot}

between_sections : point_of 0 ≡ Idle
between_sections = refl

first_bank : point_of 0x1_0054 ≡ At 0x1_0054 0
first_bank = refl

second_bank : point_of 0x1_0055 ≡ At 0x1_0054 1
second_bank = refl

point_of_the_second : word_number (point_at V1 1) ≡ 8320
point_of_the_second = refl

slot_of_the_second_bank : slot_at V1 0 1 28 ≡ 0x2000_0220
slot_of_the_second_bank = refl

-- a log that lists its locks has twice the lines, and a bank of 48 slots
point_of_a_list : word_number (point_at V2 1) ≡ 8448
point_of_a_list = refl

last_lock_listed : slot_at V2 0 1 47 ≡ 0x2000_05B8
last_lock_listed = refl

last_byte : in_range V1 1 0x2000_03FF 1 ≡ true
last_byte = refl

last_byte_of_two : in_range V2 2 0x2000_0FFF 1 ≡ true
last_byte_of_two = refl

past_the_logs : in_range V2 1 0x2000_0800 1 ≡ false
past_the_logs = refl

across_the_end : in_range V1 1 0x1000_FFFC 8 ≡ false
across_the_end = refl

lines_of_a_bank : bank_lines V1 ≡ 0 ∷ 1 ∷ 2 ∷ 3 ∷ []
lines_of_a_bank = refl

-- a mask of locks 1 and 3
mask_kept : kept_locks V1 (1 ∷ 3 ∷ []) ≡ (0, 10) ∷ []
mask_kept = refl

mask_read : locks_read V1 (λ slot. 10) ≡ 1 ∷ 3 ∷ []
unfolding locks_in
mask_read = refl

-- how many there are, and then each in its slot, in the order of the list
list_kept : kept_locks V2 (7 ∷ 3 ∷ []) ≡ (0, 2) ∷ (32, 7) ∷ (33, 3) ∷ []
list_kept = refl

-- where the count is 2, what the slots from 34 on have is no lock
abbrev slots : ℕ → ℕ
slots slot = elim slot [
  | zero ↦ 2
  | suc before ↦ before
]

list_read : locks_read V2 slots ≡ 31 ∷ 32 ∷ []
list_read = refl

own_slot : register_slot V2 29 ≡ 29
own_slot = refl
