-- How fast a machine gets on: how many enabled steps its harts make at most, by the steps of the source that begin among them.
use Rattle.std.specs.Prelude.{◌≡◌, ℕ, zero, suc, ◌+◌, ◌-◌, ◌*◌, ◌≤◌, List, [], ◌∷◌, ◌++◌, length, max, None, Bool, true, false, not, ◌==◌, ◌&&◌, if◌then◌else◌}
use Rattle.machine_events.specs.declared.event.Event.{Event}
use Rattle.machine_events.specs.declared.event.Event.TheVariants.{Step, Evict, Crash, Start}
use Rattle.machine_events.specs.Cores.{is_idle}
use Rattle.c_tree.specs.Source.{runs_from}
use Rattle.c_tree.specs.WellFormed.{IsWellFormed}
use Rattle.rv64_isa.specs.declared.object.Slot.{Slot}
use Rattle.machine_model.specs.Machine.{World, after_event, is_settled, reply_to}
use Rattle.lock_order.specs.LockOrder.{order_fault}
use Rattle.deadlock_freedom.specs.Deadlocks.{NoneCanStep}
use Rattle.compiler_correctness.specs.Translations.{Translation, GoOn, world, steps}
use Rattle.compiler_correctness.specs.Delays.{begun_by, delay}
use Rattle.compiler_correctness.specs.Compilations.{IsCompilation}
use Rattle.crash_bounds.specs.Rounds.{KeepsAtMost}
use Rattle.crash_bounds.specs.Losses.{kept_state}

-- ---- Enabled steps

-- the event is a step of hart h that neither waits nor finds it stopped
abbrev pub is_enabled_step : List (List Slot) → World → Event → (h : ℕ) → Bool
is_enabled_step program w (Step g) h = (g == h) && not (is_idle (reply_to program w (Step h)))
is_enabled_step program w (Evict line mask) h = false
is_enabled_step program w Crash h = false
is_enabled_step program w Start h = false

-- how many of the events are such
abbrev pub enabled_steps : List (List Slot) → World → List Event → (h : ℕ) → ℕ
enabled_steps program w [] h = 0
enabled_steps program w (event ∷ events) h =
    (if is_enabled_step program w event h then 1 else 0) + enabled_steps program (after_event program w event) events h

-- each of the events is an enabled step of some hart
abbrev pub AreEnabled : List (List Slot) → World → List Event → Type 0
AreEnabled program w [] = Unit {0}
AreEnabled program w (Step h ∷ events) = (is_idle (reply_to program w (Step h)) ≡ false) × AreEnabled program (after_event program w (Step h)) events
AreEnabled program w (Evict line mask ∷ events) = ⊥
AreEnabled program w (Crash ∷ events) = ⊥
AreEnabled program w (Start ∷ events) = ⊥

-- ---- Steps of the source that begin among them

-- by the later events, of the thread of hart h, and of all threads
abbrev pub begun_among : Translation → (events more : List Event) → (h : ℕ) → ℕ
begun_among c events more h = begun_by (steps c (events ++ more)) h - begun_by (steps c events) h

abbrev pub all_begun_among : Translation → (events more : List Event) → ℕ
all_begun_among c events more = length (steps c (events ++ more)).begun - length (steps c events).begun

-- every run of the source from the kept state has so many steps at most
abbrev pub EndsWithin : Translation → List Event → (most : ℕ) → Type 0
EndsWithin c events most = (schedule : List ℕ) → runs_from (kept_state c events) schedule ≡ true → length schedule ≤ most

-- ---- Bounds

-- by the harts below that number: a sum, and the greatest of all
abbrev pub sum_below : (harts : ℕ) → (ℕ → ℕ) → ℕ
sum_below zero by = 0
sum_below (suc h) by = sum_below h by + by h

abbrev pub most_below : (harts : ℕ) → (ℕ → ℕ) → ℕ
most_below zero by = 0
most_below (suc h) by = max (most_below h by) (by h)

-- enabled steps by which a hart enters recovery, where no record has more locks: there are none in a life without a crash
abbrev pub entry_bound : World → (locks : ℕ) → ℕ
entry_bound w locks = if w.recovering then locks + 3 else 0

-- of all harts, while so many steps of the source begin: what each makes to enter recovery and until it begins a step, and as many again for each of these as
-- the slowest makes
abbrev pub step_bound : Translation → World → (locks begun : ℕ) → ℕ
step_bound c w locks begun =
    sum_below (length c.runs.program) (λ h. entry_bound w locks + delay c h) + most_below (length c.runs.program) (delay c) * begun

-- ---- Laws

-- whatever has happened, and whatever others do and is evicted, as long as the life goes on
abbrev pub HartsGetOn : Type 0
HartsGetOn = (c : Translation) → IsCompilation c → (locks : ℕ) → KeepsAtMost c.runs.log locks → (events more : List Event) → GoOn more → (h : ℕ) →
    enabled_steps c.runs.program (world c events) more h ≤ entry_bound (world c events) locks + delay c h * suc (begun_among c events more h)

abbrev pub MachinesGetOn : Type 0
MachinesGetOn = (c : Translation) → IsCompilation c → (locks : ℕ) → KeepsAtMost c.runs.log locks → (events more : List Event) → GoOn more →
    sum_below (length c.runs.program) (enabled_steps c.runs.program (world c events) more)
    ≤ step_bound c (world c events) locks (all_begun_among c events more)

-- where every run of the source from the kept state ends, so does every run of enabled steps alone
abbrev pub MachinesEnd : Type 0
MachinesEnd = (c : Translation) → IsCompilation c → (locks : ℕ) → KeepsAtMost c.runs.log locks → (events more : List Event) (most : ℕ) →
    EndsWithin c events most → AreEnabled c.runs.program (world c events) more → length more ≤ step_bound c (world c events) locks most

-- and where the source keeps the order of locks, a run of enabled steps alone that can't go on has settled
abbrev pub OrderedMachinesSettle : Type 0
OrderedMachinesSettle = (c : Translation) → IsCompilation c → IsWellFormed c.flat → order_fault c.flat ≡ None → (locks : ℕ) → KeepsAtMost c.runs.log locks →
    (events more : List Event) (most : ℕ) → EndsWithin c events most → AreEnabled c.runs.program (world c events) more →
    (length more ≤ step_bound c (world c events) locks most)
    × (NoneCanStep c.runs.program (world c (events ++ more)) → is_settled (world c (events ++ more)) ≡ true)
