-- What holds of journals that are read back.
use Rattle.std.specs.Prelude.{◌≡◌, ℕ, ◌<◌, ◌≤◌, List, All, None, length, flat_map, true}
use Rattle.machine_events.specs.declared.event.Event.{Event}
use Rattle.ido_base.specs.declared.limits.TheConstants.{MOST_THREADS}
use Rattle.log_schemes.specs.declared.log.Log.{Log}
use Rattle.machine_events.specs.Cores.{Behaviour, IsValidNow}
use Rattle.run_scripts.specs.Journals.{command_text, commands_of}
use Rattle.run_scripts.specs.Plays.{MayStart, play_fault, script_events}
use Rattle.run_scripts.specs.Schedules.{number_limit}
use Rattle.run_scripts.specs.Scripts.{IsEviction, Line, Lines, read}

-- the lines of events, as a journal has them, are a script for a core of so many harts, which log so, and it makes these events there, whatever the core
-- represents by which
-- its starts may be made; no fault is found where there is room for them
pub record IsPlayedBack {M : Type 0} (b : Behaviour M) (log : Log) (harts : ℕ) (events : List Event) : Type 0 where
  pub lines : List Line
  pub read_is : read log harts (flat_map command_text (commands_of events)) ≡ Lines lines
  pub events_are : (m : M) → MayStart b m events → script_events b harts m lines ≡ events
  pub faultless : (m : M) → MayStart b m events → (room : ℕ) → length events ≤ room → play_fault b harts m room lines ≡ None

-- those of events are that are valid, their starts where another life may begin
abbrev pub ArePlayedBack : {M : Type 0} → Behaviour M → Type 0
ArePlayedBack b = (log : Log) (harts : ℕ) (events : List Event) → harts ≤ MOST_THREADS → length events < number_limit
    → All (IsValidNow harts (IsEviction log harts) true) events → IsPlayedBack b log harts events
