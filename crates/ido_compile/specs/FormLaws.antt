-- What holds of the flat form of every text that is accepted, and of its lives.
use Rattle.std.specs.Prelude.{ℕ, List}
use Rattle.std.specs.List.{AllByRecursion}
use Rattle.c_tree.specs.declared.language.Language.{Language}
use Rattle.c_tree.specs.declared.language.Language.TheVariants.{Plain}
use Rattle.c_tree.specs.AcceptedTexts.{IsFlattened}
use Rattle.c_tree.specs.Exprs.{Placed}
use Rattle.c_tree.specs.Flats.{Flat, Statement}
use Rattle.c_tree.specs.Source.{Thread, start}
use Rattle.c_tree.specs.WellFormed.{ArePlain, IsWellFormed}
use Rattle.c_ranges.specs.RunInvariants.{IsStateOf, IsElement, IsNext, step_exprs, step_indexes}
use Rattle.c_ranges.specs.Laws.{AreFollowed, IsForeseen}
use Rattle.log_schemes.specs.declared.log.Log.{Log}
use Rattle.source_machine.specs.Lives.{after_lives}
use Rattle.ido_compile.specs.LoggedTexts.{IsAcceptedAs}

-- the flat form of a text is well formed
abbrev pub FlattenedIsFormed : Type 0
FlattenedIsFormed = (l : Language) (text : List ℕ) (flat : Flat) → IsFlattened l text flat → IsWellFormed flat

-- of the plain language: no mutex of the flat form of a text is in an array
abbrev pub FlattenedIsPlain : Type 0
FlattenedIsPlain = (text : List ℕ) (flat : Flat) → IsFlattened Plain text flat → ArePlain flat.mutexes

-- ---- Lives of a text that is accepted for a log: any list of schedules, one life after another, each as far as it can be stepped

-- values keep to their kinds in all of them, and references to their arrays
abbrev pub AcceptedRuns : Type 0
AcceptedRuns = (log : Log) (text : List ℕ) (flat : Flat) (lives : List (List ℕ)) → IsAcceptedAs log text flat →
    IsStateOf flat (after_lives flat (start flat) lives)

-- every value that a step evaluates lies in its range
abbrev pub AcceptedValues : Type 0
AcceptedValues = (log : Log) (text : List ℕ) (flat : Flat) (lives : List (List ℕ)) (thread : ℕ) (it : Thread) (y : Statement)
    (rest : List Statement) → IsAcceptedAs log text flat → IsNext (after_lives flat (start flat) lives) thread it y rest →
    AllByRecursion (λ (z : Placed). IsForeseen it.locals (after_lives flat (start flat) lives).variables z.expr) (step_exprs y)

-- no index that a step evaluates is out of range
abbrev pub AcceptedIndexes : Type 0
AcceptedIndexes = (log : Log) (text : List ℕ) (flat : Flat) (lives : List (List ℕ)) (thread : ℕ) (it : Thread) (y : Statement)
    (rest : List Statement) → IsAcceptedAs log text flat → IsNext (after_lives flat (start flat) lives) thread it y rest →
    AllByRecursion (IsElement flat.variables flat.mutexes it.locals (after_lives flat (start flat) lives).variables) (step_indexes y)

-- no reference that a step follows is null, or leads out of its array
abbrev pub AcceptedReferences : Type 0
AcceptedReferences = (log : Log) (text : List ℕ) (flat : Flat) (lives : List (List ℕ)) (thread : ℕ) (it : Thread) (y : Statement)
    (rest : List Statement) → IsAcceptedAs log text flat → IsNext (after_lives flat (start flat) lives) thread it y rest →
    AllByRecursion (λ (z : Placed). AreFollowed it.locals z.expr) (step_exprs y)
