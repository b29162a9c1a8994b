-- What is reported of a machine.
use Rattle.std.specs.Prelude.{ℕ, ◌+◌, ◌*◌, List, length, map, filter, not, ℤ}
use Rattle.c_tree.specs.Flats as f
use Rattle.c_tree.specs.Programs as p
use Rattle.c_tree.specs.Source.{start}
use Rattle.source_machine.specs.Lives.{ended_lives}
use Rattle.c_tree.specs.WellFormed.{elements_in}
use Rattle.ido_base.specs.Words.{Word, durable_value}
use Rattle.ido_ints.specs.Kinds.{bytes_of}
use Rattle.machine_model.specs.Machine.{World}
use Rattle.log_schemes.specs.Schemes.{numbers_from}
use Rattle.machine_model.specs.Machine.{is_settled_hart}
use Rattle.variable_words.specs.Variables.{durable_variables, number_of_byte}
use Rattle.run_scripts.specs.Reports as r
use Rattle.ido_cli.specs.Runs.{named}

-- the harts that hold a lock or have a live or durable point that isn't 0, ascending
abbrev pub unsettled_harts : World → List ℕ
unsettled_harts w = filter (λ h. not (is_settled_hart w h)) (numbers_from 0 (length w.harts))

-- the variables as a crash would leave them, the ended sections by the kept schedules, and these
unfoldable pub machine_state : f.Flat → World → (kept : List (List ℕ)) → r.ReportedState
machine_state x w kept = record {
  unsettled = unsettled_harts w;
  variables = named x.variables (durable_variables w.words x.variables);
  ended = map (ended_lives x (start x) kept) (numbers_from 0 (length x.threads));
  schedules = kept;
}

-- ---- As the code finds it

-- the elements of a variable whose first one stands at this byte of the variables
abbrev pub durable_elements : List Word → p.Variable → (first : ℕ) → List ℤ
durable_elements words v first =
    map (λ element. number_of_byte durable_value words v.kind (first + bytes_of v.kind * element)) (numbers_from 0 (elements_in v.length))
