-- One schedule after another.
use Rattle.std.proofs.Common.{◌≡◌, refl, ℕ, ◌+◌, List, [], ◌∷◌, ◌++◌, arith, Option, Some, None, ◌&&◌}
use Rattle.std.specs.Prelude.{if◌then◌else◌}
use Rattle.c_tree.specs.Source as m
use Rattle.c_tree.specs.Source.{source_step}
use Rattle.source_machine.specs.AppendedSchedules.{AfterAppended, RunsAppended, EndedAppended}
use Rattle.source_machine.proofs.StateRuns.{after_by, runs_by, ends_by}

after_first : (s : m.State) (ts us : List ℕ) (o : Option m.State) → ((next : m.State) →
    m.after_from next (ts ++ us) ≡ (if m.runs_from next ts then m.after_from (m.after_from next ts) us else m.after_from next ts)) →
    after_by (ts ++ us) s o ≡ (if runs_by ts o then m.after_from (after_by ts s o) us else after_by ts s o)
after_first s ts us None more = refl
after_first s ts us (Some next) more = more next

pub after_appended : AfterAppended
after_appended s [] us = refl
after_appended s (t ∷ ts) us = after_first s ts us (source_step s t) (λ next. after_appended next ts us)

runs_first : (s : m.State) (ts us : List ℕ) (o : Option m.State) → ((next : m.State) →
    m.runs_from next (ts ++ us) ≡ (m.runs_from next ts && m.runs_from (m.after_from next ts) us)) →
    runs_by (ts ++ us) o ≡ (runs_by ts o && m.runs_from (after_by ts s o) us)
runs_first s ts us None more = refl
runs_first s ts us (Some next) more = more next

pub runs_appended : RunsAppended
runs_appended s [] us = refl
runs_appended s (t ∷ ts) us = runs_first s ts us (source_step s t) (λ next. runs_appended next ts us)

ended_first : (s : m.State) (ts us : List ℕ) (k : ℕ) (o : Option m.State) →
    ((next : m.State) → m.ended_from next (ts ++ us) k ≡ m.ended_from next ts k +
    (if m.runs_from next ts then m.ended_from (m.after_from next ts) us k else 0)) →
    ends_by (ts ++ us) s k o ≡ ends_by ts s k o + (if runs_by ts o then m.ended_from (after_by ts s o) us k else 0)
ended_first s ts us k None more = refl
ended_first s ts us k (Some next) more = omega (arith, more next)

pub ended_appended : EndedAppended
ended_appended s [] us k = omega arith
ended_appended s (t ∷ ts) us k = ended_first s ts us k (source_step s t) (λ next. ended_appended next ts us k)
