-- Worked rows: which hart can step.
use Rattle.std.proofs.Common.{◌≡◌, ℕ, Some, None, false, ◌==◌, if◌then◌else◌, refl}
use Rattle.machine_events.specs.declared.event.Event.{Event}
use Rattle.machine_events.specs.declared.event.Event.TheVariants.{Step, Evict, Crash, Start}
use Rattle.machine_events.specs.declared.event.Cause.TheVariants.{NoCode}
use Rattle.machine_events.specs.declared.event.Reply.{Reply}
use Rattle.machine_events.specs.declared.event.Reply.TheVariants.{Moved, Waits, Still, Stuck, Device}
use Rattle.machine_events.specs.Cores.{Behaviour, least_enabled}
use Rattle.part_tests.specs.CountingCore.{counting}

-- hart 0 waits for hart 2, hart 1 has ended, hart 2 is stuck, and all others go on
reply_of : Event → Reply
reply_of (Step hart) = if hart == 0 then Waits 5 2 else if hart == 1 then Still else if hart == 2 then Stuck (NoCode 0) else Moved
reply_of (Evict line mask) = Device
reply_of Crash = Device
reply_of Start = Device

standing : Behaviour ℕ
standing = record {
  next = λ m event. m;
  reply = λ m event. reply_of event;
  is_stopped = λ m hart. false;
  can_start = λ m. false;
  stores_point = λ m hart event. false;
  finishes_fence = λ m hart event. false;
}

none_of_two : least_enabled standing 0 2 ≡ None
unfolding reply_of standing
none_of_two = refl

the_stuck_one : least_enabled standing 0 3 ≡ Some 2
unfolding reply_of standing
the_stuck_one = refl

the_least_of_four : least_enabled standing 0 4 ≡ Some 2
unfolding reply_of standing
the_least_of_four = refl

before_the_last_step : least_enabled counting 5 1 ≡ Some 0
before_the_last_step = refl

after_the_last_step : least_enabled counting 6 1 ≡ None
after_the_last_step = refl
