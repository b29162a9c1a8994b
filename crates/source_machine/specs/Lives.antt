-- Lives of a source, one after another: in each its threads begin anew, on the variables that the life before has left.
use Rattle.std.specs.Prelude.{◌≡◌, ℕ, zero, suc, ◌+◌, ◌<◌, List, [], ◌∷◌, ◌++◌, length, map, Bool, true, ◌&&◌, if◌then◌else◌}
use Rattle.c_tree.specs.Flats as f
use Rattle.c_tree.specs.Source.{State, start, is_between, after_from, runs_from, ended_from}

-- ---- From one life to the next

-- threads have whole bodies, no locals and no pending store, no lock is held, and variables are kept: it is made where every thread stands between sections
abbrev pub restart : f.Flat → State → State
restart x s = record (start x) { variables = s.variables }

-- the first `count` threads stand between sections
abbrev pub are_between : State → (count : ℕ) → Bool
are_between s zero = true
are_between s (suc thread) = are_between s thread && is_between s thread

-- the schedule can be stepped whole and leaves every thread between sections, so that another life may follow
abbrev pub ends_life : State → (schedule : List ℕ) → Bool
ends_life s schedule = runs_from s schedule && are_between (after_from s schedule) (length s.threads)

-- ---- Lives, by a schedule for each: they are stepped in order from a state, with `restart` between two. The first step that can't be made, or a schedule but
-- the last that leaves a thread inside a section, stops this

module _ (x : f.Flat) where
  -- the state then
  abbrev pub after_lives : State → (schedules : List (List ℕ)) → State
  after_lives s [] = s
  after_lives s (last ∷ []) = after_from s last
  after_lives s (schedule ∷ next ∷ rest) =
      if ends_life s schedule then after_lives (restart x (after_from s schedule)) (next ∷ rest) else after_from s schedule

  -- nothing stopped it
  abbrev pub runs_lives : State → (schedules : List (List ℕ)) → Bool
  runs_lives s [] = true
  runs_lives s (last ∷ []) = runs_from s last
  runs_lives s (schedule ∷ next ∷ rest) = ends_life s schedule && runs_lives (restart x (after_from s schedule)) (next ∷ rest)

  -- how many sections of the thread have ended over all lives
  abbrev pub ended_lives : State → (schedules : List (List ℕ)) → (thread : ℕ) → ℕ
  ended_lives s [] thread = 0
  ended_lives s (last ∷ []) thread = ended_from s last thread
  ended_lives s (schedule ∷ next ∷ rest) thread =
      ended_from s schedule thread
      + (if ends_life s schedule then ended_lives (restart x (after_from s schedule)) (next ∷ rest) thread else 0)

  -- ---- The life after those

  -- each of them ends
  abbrev pub end_lives : State → (earlier : List (List ℕ)) → Bool
  end_lives s [] = true
  end_lives s (schedule ∷ rest) = ends_life s schedule && end_lives (restart x (after_from s schedule)) rest

  -- the state in which it begins
  abbrev pub begun_after : State → (earlier : List (List ℕ)) → State
  begun_after s [] = s
  begun_after s (schedule ∷ rest) = begun_after (restart x (after_from s schedule)) rest

-- ---- Laws

-- where every thread stands between sections, each does
abbrev pub BetweenIsEach : Type 0
BetweenIsEach = (s : State) (count : ℕ) → are_between s count ≡ true → (thread : ℕ) → thread < count → is_between s thread ≡ true

-- lives keep the number of threads, which are the form's, of variables, and of each variable's elements
abbrev pub LifeSizesStay : Type 0
LifeSizesStay = (x : f.Flat) (s : State) (lives : List (List ℕ)) → length s.threads ≡ length x.threads →
    (length (after_lives x s lives).threads ≡ length x.threads) × (map length (after_lives x s lives).variables ≡ map length s.variables)

-- one life more is stepped from where it begins, if all before it end
abbrev pub AfterLife : Type 0
AfterLife = (x : f.Flat) (s : State) (earlier : List (List ℕ)) (last : List ℕ) → after_lives x s (earlier ++ last ∷ [])
    ≡ (if end_lives x s earlier then after_from (begun_after x s earlier) last else after_lives x s earlier)

-- with one life more nothing stops them where all before it end, and it can be stepped whole
abbrev pub RunsLife : Type 0
RunsLife = (x : f.Flat) (s : State) (earlier : List (List ℕ)) (last : List ℕ) → runs_lives x s (earlier ++ last ∷ [])
    ≡ (end_lives x s earlier && runs_from (begun_after x s earlier) last)

-- with one life more as many sections end as before it and, if all before it end, in it
abbrev pub EndedLife : Type 0
EndedLife = (x : f.Flat) (s : State) (earlier : List (List ℕ)) (last : List ℕ) (thread : ℕ) → ended_lives x s (earlier ++ last ∷ []) thread
    ≡ ended_lives x s earlier thread + (if end_lives x s earlier then ended_from (begun_after x s earlier) last thread else 0)
