-- A core of one hart that counts: it represents the number of the hart's steps since the start or the last crash.
use Rattle.std.specs.Prelude.{ℕ, ◌+◌, Bool, false, nat_lt, nat_le, ◌==◌, if◌then◌else◌}
use Rattle.machine_events.specs.declared.event.Event.{Event}
use Rattle.machine_events.specs.declared.event.Event.TheVariants.{Step, Evict, Crash, Start}
use Rattle.machine_events.specs.declared.event.Reply.{Reply}
use Rattle.machine_events.specs.declared.event.Reply.TheVariants.{Moved, Still, Device}
use Rattle.machine_events.specs.Cores.{Behaviour}

-- the hart has ended after six steps
abbrev pub next : (steps : ℕ) → Event → ℕ
next steps (Step hart) = if nat_lt steps 6 then steps + 1 else steps
next steps (Evict line mask) = steps
next steps Crash = 0
next steps Start = steps

abbrev pub reply : (steps : ℕ) → Event → Reply
reply steps (Step hart) = if nat_lt steps 6 then Moved else Still
reply steps (Evict line mask) = Device
reply steps Crash = Device
reply steps Start = Device

-- the event is the step after so many
abbrev pub is_step : (number steps : ℕ) → Event → Bool
is_step number steps (Step hart) = steps == number
is_step number steps (Evict line mask) = false
is_step number steps Crash = false
is_step number steps Start = false

-- the second step finishes a fence, the fourth stores the point
abbrev pub counting : Behaviour ℕ
counting = record {
  next = next;
  reply = reply;
  is_stopped = λ steps hart. nat_le 6 steps;
  can_start = λ steps. false;
  stores_point = λ steps hart. is_step 3 steps;
  finishes_fence = λ steps hart. is_step 1 steps;
}
