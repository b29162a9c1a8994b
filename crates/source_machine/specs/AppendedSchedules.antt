-- One schedule after another.
use Rattle.std.specs.Prelude.{◌≡◌, ℕ, ◌+◌, List, ◌++◌, ◌&&◌, if◌then◌else◌}
use Rattle.c_tree.specs.Source.{State, after_from, runs_from, ended_from}

-- the second schedule is stepped from where the first one leads, if the first one can be stepped whole
abbrev pub AfterAppended : Type 0
AfterAppended = (s : State) (first second : List ℕ) →
    after_from s (first ++ second) ≡ (if runs_from s first then after_from (after_from s first) second else after_from s first)

-- both together can be stepped whole where the first one can, and from there the second one
abbrev pub RunsAppended : Type 0
RunsAppended = (s : State) (first second : List ℕ) → runs_from s (first ++ second) ≡ (runs_from s first && runs_from (after_from s first) second)

-- as many sections of a thread end as in the first one and from there in the second one
abbrev pub EndedAppended : Type 0
EndedAppended = (s : State) (first second : List ℕ) (thread : ℕ) →
    ended_from s (first ++ second) thread ≡ ended_from s first thread + (if runs_from s first then ended_from (after_from s first) second thread else 0)
