-- What a thread has left to do before each of its steps, in the order of its text, and what it holds there in a run.
use Rattle.std.specs.Prelude.{◌≡◌, ◌↔◌, ℕ, List, [], ◌∷◌, ◌++◌, slice_get, Some}
use Rattle.std.specs.List.{AllByRecursion}
use Rattle.ido_base.specs.declared.place.Place.{Place}
use Rattle.c_tree.specs.Exprs as e
use Rattle.c_tree.specs.Flats as f
use Rattle.c_tree.specs.Source.{Thread, State, opened_all}
use Rattle.c_tree.specs.LockNames.{Held}
use Rattle.c_tree.specs.WellFormed.{IsSingle}
use Rattle.c_tree.specs.LockDiscipline.{IsDisciplined}
use Rattle.source_machine.specs.Mutexes.{held_by}
use Rattle.source_machine.specs.Discipline.{StateKeeps}
use Rattle.lock_discipline.specs.HeldSetsByStep.{HeldBefore}

-- what is left before an assignment's value, and before its store, if it has one
abbrev pub assign_lefts : (place : Place) → e.Lvalue → (value : e.Placed) → (rest : List f.Statement) → List (List f.Statement)
assign_lefts place (e.ToLocal name local kind) value rest = (f.Assign place (e.ToLocal name local kind) value ∷ rest) ∷ []
assign_lefts place (e.ToVariable name variable kind) value rest = (f.Assign place (e.ToVariable name variable kind) value ∷ rest) ∷ rest ∷ []
assign_lefts place (e.ToElement name variable kind index) value rest = (f.Assign place (e.ToElement name variable kind index) value ∷ rest) ∷ rest ∷ []

-- what is left before each step of a statement, where the rest follows it
abbrev mutual
  pub lefts_in : f.Statement → (rest : List f.Statement) → List (List f.Statement)
  lefts_in (f.Assign place target value) rest = assign_lefts place target value rest
  lefts_in (f.If place arms otherwise) rest = lefts_in_arms place otherwise arms rest ++ lefts_in_all otherwise rest
  lefts_in (f.While place condition body) rest = (f.While place condition body ∷ rest) ∷ lefts_in_all body (f.While place condition body ∷ rest)
  lefts_in (f.Do place body condition) rest =
      lefts_in_all body (f.While place condition body ∷ rest) ++ (f.While place condition body ∷ rest) ∷ []
  lefts_in (f.Lock place name) rest = (f.Lock place name ∷ rest) ∷ []
  lefts_in (f.Unlock place name) rest = (f.Unlock place name ∷ rest) ∷ []

  pub lefts_in_all : f.Statements → (rest : List f.Statement) → List (List f.Statement)
  lefts_in_all f.no_statement rest = []
  lefts_in_all (f.statement_and x more) rest = lefts_in x (opened_all more ++ rest) ++ lefts_in_all more rest

  pub lefts_in_arms : (place : Place) → (otherwise : f.Statements) → f.Arms → (rest : List f.Statement) → List (List f.Statement)
  lefts_in_arms place otherwise f.no_arm rest = []
  lefts_in_arms place otherwise (f.arm_and condition body more) rest =
      (f.If place (f.arm_and condition body more) otherwise ∷ rest) ∷ lefts_in_all body rest ++ lefts_in_arms place otherwise more rest

-- what is left before each step of a thread; nothing is left before the end
abbrev pub thread_lefts : f.Thread → List (List f.Statement)
thread_lefts t = lefts_in_all t.body [] ++ [] ∷ []

-- in a state that keeps the discipline, of a form in which no mutex is in an array, the set that is held before a step by the text is exactly what the holders
-- say of a thread that stands before it
abbrev pub HeldIsHeld : Type 0
HeldIsHeld = (x : f.Flat) (s : State) (number step : ℕ) (t : f.Thread) (thread : Thread) (h : Held) → AllByRecursion IsSingle x.mutexes → IsDisciplined x t →
    StateKeeps x s → slice_get x.threads number ≡ Some t → slice_get s.threads number ≡ Some thread → slice_get (thread_lefts t) step ≡ Some thread.left →
    HeldBefore x t step h ↔ (h ≡ held_by number s.holders)
