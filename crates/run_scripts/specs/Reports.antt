-- The report of a state, as it is printed.
use Rattle.std.specs.Prelude.{ℕ, zero, suc, ◌+◌, List, [], ◌∷◌, ◌++◌, ℤ, pos, negsuc, Option, None, Some, codes, decimal, flat_map}
use Rattle.std.specs.Fmt.{signed_decimal}
use Rattle.std.specs.Option.{option_to_list}
use Rattle.ido_base.specs.Places.{line_feed}
use Rattle.run_scripts.specs.Runs.{Run, runs_of}

-- a variable: its name, and the number of each element; of a reference it is that of the element to which it leads, and null has none
pub record Variable : Type 0 where
  pub name : List ℕ
  pub elements : List (Option ℤ)

-- the numbers of its elements; null has none
abbrev pub numbers_in : Variable → List ℤ
numbers_in x = flat_map option_to_list x.elements

-- a state: the harts or threads that aren't settled, ascending; the variables in order of declaration; of each thread how many
-- sections have ended; a schedule for each life
pub record ReportedState : Type 0 where
  pub unsettled : List ℕ
  pub variables : List Variable
  pub ended : List ℕ
  pub schedules : List (List ℕ)

abbrev pub line : List ℕ → List ℕ
line bytes = bytes ++ line_feed ∷ []

-- ---- Variables and ended sections

-- a reference is one more than the number of the element to which it leads, and null is 0
abbrev pub referred : ℤ → Option ℤ
referred (pos zero) = None
referred (pos (suc element)) = Some (pos element)
referred (negsuc n) = None

-- what is reported of an element with that number, of a variable that refers to that array, or to none
abbrev pub reported : (refers : Option ℕ) → ℤ → Option ℤ
reported None z = Some z
reported (Some array) z = referred z

abbrev pub element_word : Option ℤ → List ℕ
element_word None = codes "null"
element_word (Some z) = signed_decimal z

-- ` 6`, or ` null`
unfoldable pub element_text : Option ℤ → List ℕ
element_text element = codes " " ++ element_word element

-- `x = 6`, `a = 1 2 3` or `h = null`
unfoldable pub variable_line : Variable → List ℕ
variable_line x = line (x.name ++ codes " =" ++ flat_map element_text x.elements)

-- `WORD T N`: of thread T so many are counted, as `ended 0 2` of sections and `fences 0 12` of fences
unfoldable pub count_line : (word : List ℕ) → (thread count : ℕ) → List ℕ
count_line word thread count = line (word ++ codes " " ++ decimal thread ++ codes " " ++ decimal count)

-- a line for each thread, from this one on
abbrev pub count_lines : (word : List ℕ) → (thread : ℕ) → (counts : List ℕ) → List ℕ
count_lines word thread [] = []
count_lines word thread (n ∷ ns) = count_line word thread n ++ count_lines word (thread + 1) ns

-- how many fences each thread's hart has finished
abbrev pub fence_lines : (fences : List ℕ) → List ℕ
fence_lines fences = count_lines (codes "fences") 0 fences

-- ---- The schedule

-- ` T*N`
unfoldable pub run_text : Run → List ℕ
run_text r = codes " " ++ decimal r.thread ++ codes "*" ++ decimal r.steps

-- `schedule T*N ..`
unfoldable pub schedule_line : (schedule : List ℕ) → List ℕ
schedule_line schedule = line (codes "schedule" ++ flat_map run_text (runs_of schedule))

-- ---- The report

-- ` H`
unfoldable pub hart_text : (hart : ℕ) → List ℕ
hart_text hart = codes " " ++ decimal hart

-- `unsettled H ..`
unfoldable pub unsettled_line : (harts : List ℕ) → List ℕ
unsettled_line harts = line (codes "unsettled" ++ flat_map hart_text harts)

unfoldable pub settled_report : ReportedState → List ℕ
settled_report s = flat_map variable_line s.variables ++ count_lines (codes "ended") 0 s.ended ++ flat_map schedule_line s.schedules

-- where a hart isn't settled, nothing is said but which
abbrev pub report_by : (unsettled : List ℕ) → ReportedState → List ℕ
report_by [] s = settled_report s
report_by (h ∷ hs) s = unsettled_line (h ∷ hs)

unfoldable pub report : ReportedState → List ℕ
report s = report_by s.unsettled s
