-- The scan: what is known when the intervals that begin before a node have registers.
use Rattle.std.specs.Prelude.{◌≡◌, ◌⊎◌, ◌<◌, ◌≤◌, ℕ, List, length, slice_index}
use Rattle.ido_base.specs.declared.limits.TheConstants.{LOCAL_REGISTERS}
use Rattle.reg_colour.specs.declared.intervals.Interval.{Interval}
use Rattle.reg_colour.specs.declared.scan.Crowd.{Crowd}
use Rattle.reg_colour.specs.declared.scan.Outcome.{Outcome}
use Rattle.reg_colour.specs.declared.scan.Outcome.TheVariants.{Coloured, Crowded}
use Rattle.reg_colour.specs.links.Intervals.{Intervals, IntervalAt, Holds, AreHolding}

-- ---- What a scan answers

-- registers for the locals: two whose intervals share a node have different ones
pub record AreRegistersApart (intervals : Intervals) (given : List ℕ) : Type 0 where
  pub count : length given ≡ length intervals
  pub exist : (local : ℕ) → local < length given → slice_index given local < LOCAL_REGISTERS
  pub apart : (node a b : ℕ) → a < b → Holds intervals node a → Holds intervals node b → ¬ (slice_index given a ≡ slice_index given b)

abbrev pub IsFull : Intervals → (node : ℕ) → Type 0
IsFull intervals node = (wanted : ℕ) → AreHolding intervals node wanted → LOCAL_REGISTERS < wanted

abbrev pub HaveRoom : Intervals → (node : ℕ) → Type 0
HaveRoom intervals node = (wanted : ℕ) → AreHolding intervals node wanted → wanted ≤ LOCAL_REGISTERS

-- the first node that more intervals hold than there are registers
pub record IsCrowd (intervals : Intervals) (crowd : Crowd) : Type 0 where
  pub holding : AreHolding intervals crowd.node crowd.wanted
  pub crowded : LOCAL_REGISTERS < crowd.wanted
  pub first : (earlier : ℕ) → earlier < crowd.node → HaveRoom intervals earlier

abbrev pub IsScanned : Intervals → Outcome → Type 0
IsScanned intervals (Coloured given) = AreRegistersApart intervals given.items
IsScanned intervals (Crowded crowd) = IsCrowd intervals crowd

-- ---- What the scan keeps

-- the interval begins before the node, or there and is one of an earlier local than that
abbrev pub IsPassed : (node up_to : ℕ) → (local : ℕ) → Interval → Type 0
IsPassed node up_to local interval = (interval.first < node) ⊎ ((interval.first ≡ node) × (local < up_to))

-- the interval has been passed and has the register, which is free from the interval's end on
pub record IsHeldUp (intervals : Intervals) (node up_to : ℕ) (given : List ℕ) (register free : ℕ) : Type 0 where
  pub local : ℕ
  pub interval : Interval
  pub at : IntervalAt intervals local interval
  pub passed : IsPassed node up_to local interval
  pub has : slice_index given local ≡ register
  pub ends : interval.end ≡ free

-- no register is free at the node, where each is free from some node on
abbrev pub IsBusy : (free : List ℕ) → (node : ℕ) → Type 0
IsBusy free node = (register : ℕ) → register < length free → node < slice_index free register

pub record IsFree (free : List ℕ) (node register : ℕ) : Type 0 where
  pub exists : register < length free
  pub is : slice_index free register ≤ node

-- what was passed has registers, each of which is free from a node on
pub record ScannedTo (intervals : Intervals) (node up_to : ℕ) (given free : List ℕ) : Type 0 where
  pub count : length given ≡ length intervals
  pub every : length free ≡ LOCAL_REGISTERS
  pub exist : (local : ℕ) → local < length given → slice_index given local < LOCAL_REGISTERS
  pub free_later : (local : ℕ) (interval : Interval) → IntervalAt intervals local interval → IsPassed node up_to local interval →
      interval.end ≤ slice_index free (slice_index given local)
  pub held : (register : ℕ) → 0 < slice_index free register → IsHeldUp intervals node up_to given register (slice_index free register)
  pub apart : (a b : ℕ) (i j : Interval) → a < b → IntervalAt intervals a i → IntervalAt intervals b j → IsPassed node up_to a i → IsPassed node up_to b j →
      slice_index given a ≡ slice_index given b → (i.end ≤ j.first) ⊎ (j.end ≤ i.first)
