-- What is said of the source's own run of lives, a schedule for each.
use Rattle.std.specs.Prelude.{◌≡◌, ℕ, ◌-◌, ◌^◌, List, [], ◌∷◌, length, map, filter, min, not, take, drop, true, ℤ}
use Rattle.log_schemes.specs.Schemes.{numbers_from}
use Rattle.c_tree.specs.Flats as f
use Rattle.c_tree.specs.Programs as p
use Rattle.c_tree.specs.Source.{State, start, is_between}
use Rattle.source_machine.specs.Lives.{after_lives, ended_lives, runs_lives}
use Rattle.run_scripts.specs.Reports as r
use Rattle.run_scripts.specs.Reports.{report, reported}
use Rattle.source_machine.specs.declared.answers.Refused.{Refused}
use Rattle.source_machine.specs.LifeRuns.{IsRefusedLives}
use Rattle.ido_cli.specs.Refusals.{line_at_step, stop_code}

-- a variable whose elements have these numbers
abbrev pub variable_with : p.Variable → (elements : List ℤ) → r.Variable
variable_with v elements = record { name = v.name.text; elements = map (reported v.refers) elements }

-- variables, in order of declaration, with the numbers of their elements
abbrev pub named : List p.Variable → (numbers : List (List ℤ)) → List r.Variable
named [] ns = []
named (v ∷ vs) [] = []
named (v ∷ vs) (n ∷ ns) = variable_with v n ∷ named vs ns

-- the threads that hold a mutex, ascending
abbrev pub unsettled_threads : State → List ℕ
unsettled_threads s = filter (λ t. not (is_between s t)) (numbers_from 0 (length s.threads))

-- what is reported of the state after lives, a schedule for each
unfoldable pub run_state : f.Flat → (schedules : List (List ℕ)) → r.ReportedState
run_state x schedules = record {
  unsettled = unsettled_threads (after_lives x (start x) schedules);
  variables = named x.variables (after_lives x (start x) schedules).variables;
  ended = map (ended_lives x (start x) schedules) (numbers_from 0 (length x.threads));
  schedules = schedules;
}

-- the report of a state, with the status that says whether it is settled
abbrev pub status_by : (unsettled : List ℕ) → ℕ
status_by [] = 0
status_by (h ∷ hs) = 3

pub record IsReport (s : r.ReportedState) (status : ℕ) (output : List ℕ) : Type 0 where
  pub status_is : status ≡ status_by s.unsettled
  pub output_is : output ≡ report s

-- what is said of lives, a schedule for each: the report of their run, or the first step that can't be made, or before which no other life may begin
pub data RunAnswer (x : f.Flat) (lives : List (List ℕ)) (status : ℕ) (output : List ℕ) : Type 0 where
  ran : runs_lives x (start x) lives ≡ true → IsReport (run_state x lives) status output → RunAnswer x lives status output
  stopped : (stop : Refused) → IsRefusedLives x stop (start x) lives → status ≡ 6 → output ≡ line_at_step (stop_code stop.kind) stop.step →
      RunAnswer x lives status output

-- ---- As the code finds it

-- of each thread how many sections have ended, as 64 bits tell it
abbrev pub counted : (ended : ℕ → ℕ) → (threads : ℕ) → List ℕ
counted ended threads = map (λ t. min (ended t) (2 ^ 64 - 1)) (numbers_from 0 threads)

-- variables with the numbers of their elements, from those of all
abbrev pub taken : List p.Variable → (elements : List ℤ) → List r.Variable
taken [] es = []
taken (v ∷ vs) es = variable_with v (take (length v.initial) es) ∷ taken vs (drop (length v.initial) es)
