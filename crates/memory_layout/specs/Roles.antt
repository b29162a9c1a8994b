-- The part of each register in a thread's code.
use Rattle.std.specs.Prelude.{ℕ, Bool, not, nat_le, ◌==◌, ◌&&◌, ◌||◌}

-- how far the point's bank lies after the first bank
abbrev pub bank_offset : ℕ
bank_offset = 3

-- the lock that a call names, and the call's number
abbrev pub lock : ℕ
lock = 10

abbrev pub call : ℕ
call = 17

-- address and value of the pending store
abbrev pub pending_address : ℕ
pending_address = 28

abbrev pub pending_value : ℕ
pending_value = 29

-- holds nothing from one node, or boundary, to the next
abbrev pub is_temporary : (register : ℕ) → Bool
is_temporary register = register == 5 || register == 6 || register == 7 || register == 30 || register == 31

-- holds a local: x8 to x27 but those of calls
abbrev pub is_local : (register : ℕ) → Bool
is_local register = nat_le 8 register && nat_le register 27 && not (register == lock) && not (register == call)

-- may be kept in a bank: a local's, or one of the pending store's
abbrev pub is_kept : (register : ℕ) → Bool
is_kept register = is_local register || register == pending_address || register == pending_value
