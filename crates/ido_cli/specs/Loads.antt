-- What is said of the run of `load`.
use Rattle.std.specs.Prelude.{◌≡◌, ℕ, List, [], ◌∷◌, ◌++◌, sum, true, ℤ, pos, ◌+ℤ◌, codes, decimal, flat_map}
use Rattle.std.specs.Fmt.{signed_decimal}
use Rattle.machine_events.specs.declared.event.Event.{Event}
use Rattle.c_tree.specs.Source.{start, is_between}
use Rattle.source_machine.specs.Lives.{after_lives, runs_lives}
use Rattle.machine_model.specs.Schedule.{schedules}
use Rattle.compiler_correctness.specs.Translations.{Translation, world, steps}
use Rattle.compiler_correctness.specs.Compilation.{AreSectionsKept}
use Rattle.run_scripts.specs.Reports.{ReportedState, line, numbers_in, unsettled_line}
use Rattle.ido_cli.specs.Reports.{machine_state}
use Rattle.ido_cli.specs.Runs.{run_state, status_by}

abbrev pub total : List ℤ → ℤ
total [] = pos 0
total (z ∷ zs) = z +ℤ total zs

-- `ended N` and `total N`
unfoldable pub sums_text : (ended : ℕ) → (total : ℤ) → List ℕ
sums_text ended total = line (codes "ended " ++ decimal ended) ++ line (codes "total " ++ signed_decimal total)

-- how many sections have ended in all threads, and the sum of all elements; null counts nothing
abbrev pub settled_summary : ReportedState → List ℕ
settled_summary s = sums_text (sum s.ended) (total (flat_map numbers_in s.variables))

-- where a hart isn't settled, nothing is said but which
abbrev pub summary_by : (unsettled : List ℕ) → ReportedState → List ℕ
summary_by [] s = settled_summary s
summary_by (h ∷ hs) s = unsettled_line (h ∷ hs)

-- the summary of a state, with the status that says whether it is settled
pub record IsSummary (s : ReportedState) (status : ℕ) (output : List ℕ) : Type 0 where
  pub status_is : status ≡ status_by s.unsettled
  pub output_is : output ≡ summary_by s.unsettled s

-- The summary of the machine after the events, whatever they are: status 0, and the sums of its ended sections and durable elements, exactly where each hart
-- is settled, else status 3 and the harts that aren't.
-- At status 0 they are the sums of the source's own run of the kept schedules. Settled or not, the source can be stepped by the whole of the kept schedules,
-- and they hold each section that a hart has left.
pub record IsSummaryOf (c : Translation) (events : List Event) (status : ℕ) (output : List ℕ) : Type 0 where
  pub summed : IsSummary (machine_state c.flat (world c events) (schedules (steps c events))) status output
  pub runs : runs_lives c.flat (start c.flat) (schedules (steps c events)) ≡ true
  pub between : status ≡ 0 → (thread : ℕ) → is_between (after_lives c.flat (start c.flat) (schedules (steps c events))) thread ≡ true
  pub settled : status ≡ 0 → output ≡ settled_summary (run_state c.flat (schedules (steps c events)))
  pub sections : AreSectionsKept c events
