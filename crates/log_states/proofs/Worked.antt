-- Worked rows: a boundary of the first thread that holds lock 0, keeps x8 and x9, and resumes at 0x1_0040, in the second bank, where
-- nothing was recorded before it. A crash comes after each of its effects, with or without an eviction of the point's line.
use Rattle.std.proofs.Common.{◌≡◌, ℕ, zero, suc, ◌+◌, ◌*◌, ◌/◌, List, [], ◌∷◌, ◌++◌, map, refl, pos, None, Some, Bool, true, false, take, drop, replicate}
use Rattle.std.specs.Prelude.{slice_set, if◌then◌else◌}
use Rattle.log_schemes.specs.declared.log.Log.TheVariants.{V1, V2, Justdo}
use Rattle.log_states.specs.Logs.{frame_in}
use Rattle.ido_base.specs.Words.{Word, live_value, word_of, entry_of, stored, evicted, crashed}
use Rattle.ido_base.specs.Growth.{drained_all}
use Rattle.ido_base.specs.Locks.{locks_in, mask_with}
use Rattle.ido_base.specs.Layout.{byte_number, line_bytes, variable_lines}
use Rattle.log_schemes.specs.Layout.{log_lines}
use Rattle.rv64_isa.specs.Rows.{Effect, Continues, Loads, Stores, Cleans, Fences, Calls}
use Rattle.machine_model.specs.Machine.{durable_point, record_of, resume_of, resumed_register}
use Rattle.boundary_code.specs.Boundaries.{Boundary, boundary_effects}
use Rattle.log_states.specs.Stages.{LogConfig, is_committed}
use Rattle.log_states.specs.Laws.{recorded_by}

b : Boundary
b = record { log = V1; thread = 0; locks = 0 ∷ []; live = 8 ∷ 9 ∷ []; resume = pos 0; written = None; opens = true }

registers : List ℕ
registers = slice_set (slice_set (replicate 32 0) 8 7) 9 5

effects : List Effect
unfolding b registers
effects = boundary_effects b 0 0x1_0040 registers

-- seven before the point's, of which the last is the first fence
in_order : effects ≡
    Stores 0x2000_0140 8 1 ∷ Stores 0x2000_0180 8 7 ∷ Stores 0x2000_0188 8 5 ∷ Cleans 0x2000_0140 ∷ Cleans 0x2000_0180 ∷ Fences ∷
    Stores 0x2000_0000 8 0x1_0041 ∷ Cleans 0x2000_0000 ∷ Fences ∷ []
unfolding effects b registers
in_order = refl

-- a log config goes on by its next effect; at a fence the whole queue is written back first
made : LogConfig → Effect → List Effect → LogConfig
made m (Continues to pc) later = record { words = m.words; queue = m.queue; rest = later }
made m (Loads address bytes signed register) later = record { words = m.words; queue = m.queue; rest = later }
made m (Stores address bytes value) later = record { words = stored m.words (byte_number address) bytes value; queue = m.queue; rest = later }
made m (Cleans address) later = record { words = m.words; queue = m.queue ++ entry_of m.words (byte_number address / line_bytes) ∷ []; rest = later }
made m Fences later = record { words = drained_all m.words m.queue; queue = []; rest = later }
made m Calls later = record { words = m.words; queue = m.queue; rest = later }

after : (count : ℕ) → List Effect → LogConfig → LogConfig
unfolding made
after zero rest m = m
after (suc count) [] m = m
after (suc count) (e ∷ es) m = after count es (made m e es)

first : LogConfig
unfolding effects
first = record { words = replicate (8 * (variable_lines + log_lines V1)) (word_of 0); queue = []; rest = effects }

-- the line of the point is evicted
with_eviction : Bool → LogConfig → LogConfig
with_eviction evicts m = if evicts then record { words = evicted m.words 1024 1; queue = m.queue; rest = m.rest } else m

-- what a crash leaves: the point, the mask of the locks, x8, x9 and the bank's offset
left : LogConfig → List ℕ
left m = left_in (crashed m.words)
  where
    left_in : List Word → List ℕ
    left_in words =
        durable_point V1 words 0 ∷ mask_with (record_of V1 words 0) ∷ resumed_register V1 words 0 8 ∷ resumed_register V1 words 0 9
        ∷ resumed_register V1 words 0 3 ∷ []

nothing : List ℕ
nothing = 0 ∷ 0 ∷ 0 ∷ 0 ∷ 0 ∷ []

everything : List ℕ
everything = 0x1_0041 ∷ 1 ∷ 7 ∷ 5 ∷ 256 ∷ []

-- after none of the effects, the first, and so on to all nine
states : List Effect → LogConfig → List LogConfig
unfolding made
states [] m = m ∷ []
states (e ∷ es) m = m ∷ states es (made m e es)

-- what a crash leaves and whether the boundary is committed, with no eviction and with one
record Told : Type 0 where
  left_plainly : List ℕ
  committed_plainly : Bool
  left_evicted : List ℕ
  committed_evicted : Bool

told : LogConfig → Told
unfolding left
told m = record {
  left_plainly = left m;
  committed_plainly = is_committed V1 0 m;
  left_evicted = left (with_eviction true m);
  committed_evicted = is_committed V1 0 (with_eviction true m);
}

before_point : Told
before_point = record { left_plainly = nothing; committed_plainly = false; left_evicted = nothing; committed_evicted = false }

-- with an eviction the boundary may be committed as soon as the point is stored
at_point : Told
at_point = record { left_plainly = nothing; committed_plainly = false; left_evicted = everything; committed_evicted = true }

-- with none the last fence commits
at_end : Told
at_end = record { left_plainly = everything; committed_plainly = true; left_evicted = everything; committed_evicted = true }

each_crash : map told (states effects first)
    ≡ before_point ∷ before_point ∷ before_point ∷ before_point ∷ before_point ∷ before_point ∷ before_point ∷ at_point ∷ at_point ∷ at_end ∷ []
unfolding told left locks_in states made first effects b registers with_eviction nothing everything before_point at_point at_end
each_crash = refl

resumes_there : resume_of (recorded_by b [] (λ word. 0) 0 0x1_0040 registers).point ≡ 0x1_0040
unfolding b registers
resumes_there = refl

-- with no first fence, an eviction makes the point durable before its bank
no_first_fence : left (with_eviction true (after 6 (take 5 effects ++ drop 6 effects) first)) ≡ 0x1_0041 ∷ 0 ∷ 0 ∷ 0 ∷ 256 ∷ []
unfolding left locks_in after made first effects b registers with_eviction
no_first_fence = refl

-- the next boundary holds locks 0 and 1, and an eviction makes its mask durable before its point is stored
next : (side : ℕ) → List Effect
next side =
    boundary_effects (record { log = V1; thread = 0; locks = 0 ∷ 1 ∷ []; live = []; resume = pos 0; written = None; opens = true }) side 0x1_0080
    (replicate 32 0)

mask_evicted : (line : ℕ) → LogConfig → LogConfig
mask_evicted line m = record { words = evicted m.words line 1; queue = m.queue; rest = m.rest }

-- where the next mask is in the other bank, its eviction changes nothing
other_bank : left (mask_evicted 1025 (after 1 (next 1) (after 9 effects first))) ≡ everything
unfolding left locks_in after made first effects b registers with_eviction next mask_evicted everything
other_bank = refl

-- where the next mask is in the same bank, the old point would have the new mask
same_bank : left (mask_evicted 1029 (after 1 (next 0) (after 9 effects first))) ≡ 0x1_0041 ∷ 3 ∷ 7 ∷ 5 ∷ 256 ∷ []
unfolding left locks_in after made first effects b registers with_eviction next mask_evicted
same_bank = refl

-- ---- A log that lists its locks: locks 5 and 9 are held, and x8 and x9 kept

listing : Boundary
listing = record { log = V2; thread = 0; locks = 5 ∷ 9 ∷ []; live = 8 ∷ 9 ∷ []; resume = pos 0; written = None; opens = true }

listed : LogConfig
unfolding registers listing
listed = record {
  words = replicate (8 * (variable_lines + log_lines V2)) (word_of 0);
  queue = [];
  rest = boundary_effects listing 0 0x1_0040 registers;
}

-- what a crash leaves: the point, x8, x9, the bank's offset, and the locks in the list's order
left_of_list : LogConfig → List ℕ
left_of_list m = left_in (crashed m.words)
  where
    left_in : List Word → List ℕ
    left_in words =
        durable_point V2 words 0 ∷ resumed_register V2 words 0 8 ∷ resumed_register V2 words 0 9 ∷ resumed_register V2 words 0 3 ∷ record_of V2 words 0

listed_after : (count : ℕ) → Bool → LogConfig
unfolding after listed with_eviction registers listing
listed_after count evicts = with_eviction evicts (after count (boundary_effects listing 0 0x1_0040 registers) listed)

-- five stores, three cleans and a fence stand before the point's store
not_before_point : left_of_list (listed_after 9 true) ≡ 0 ∷ 0 ∷ 0 ∷ 0 ∷ []
unfolding left_of_list listed_after after made listed registers listing with_eviction
not_before_point = refl

from_point_on : left_of_list (listed_after 10 true) ≡ 0x1_0041 ∷ 7 ∷ 5 ∷ 1024 ∷ 5 ∷ 9 ∷ []
unfolding left_of_list listed_after after made listed registers listing with_eviction
from_point_on = refl

all_listed : left_of_list (listed_after 12 false) ≡ 0x1_0041 ∷ 7 ∷ 5 ∷ 1024 ∷ 5 ∷ 9 ∷ []
unfolding left_of_list listed_after after made listed registers listing with_eviction
all_listed = refl

-- ---- A log with a frame: lock 5 is held, a write of eight bytes comes, and word 0 of the frame has just got 3

framing : (opens : Bool) → Boundary
framing opens = record { log = Justdo; thread = 0; locks = 5 ∷ []; live = 28 ∷ 29 ∷ []; resume = pos 0; written = Some 8; opens = opens }

pending : List ℕ
pending = slice_set (slice_set (replicate 32 0) 28 7) 29 5

framing_effects : (opens : Bool) → List Effect
unfolding framing pending
framing_effects opens = boundary_effects (framing opens) 0 0x1_0040 pending

framing_in_order : framing_effects true ≡
    Stores 0x2000_0440 8 1 ∷ Stores 0x2000_0460 8 5 ∷ Stores 0x2000_0458 8 8 ∷ Stores 0x2000_0448 8 7 ∷ Stores 0x2000_0450 8 5 ∷ Cleans 0x2000_0440 ∷
    Cleans 0x2000_0200 ∷ Cleans 0x2000_0240 ∷ Cleans 0x2000_0280 ∷ Fences ∷ Stores 0x2000_0000 8 0x1_0041 ∷ Cleans 0x2000_0000 ∷ Fences ∷ []
unfolding framing_effects framing pending
framing_in_order = refl

framing_first : List Effect → LogConfig
framing_first rest = record {
  words = stored (replicate (8 * (variable_lines + log_lines Justdo)) (word_of 0)) (byte_number 0x2000_0200) 8 3;
  queue = [];
  rest = rest;
}

-- what a crash after the boundary leaves there
frame_left : (opens : Bool) → ℕ
unfolding framing_effects framing_first after
frame_left opens = live_value (frame_in Justdo (crashed (after 13 (framing_effects opens) (framing_first (framing_effects opens))).words) 0 0)

-- one that opens a section makes it durable
opened : frame_left true ≡ 3
unfolding frame_left framing_effects framing_first after made framing pending
opened = refl

not_opened : frame_left false ≡ 0
unfolding frame_left framing_effects framing_first after made framing pending
not_opened = refl
