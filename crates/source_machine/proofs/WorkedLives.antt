-- Worked rows: lives of `mutex m; persistent(m) int x; thread t { lock(m); x = x + 1; unlock(m); }`.
use Rattle.std.proofs.Common.{◌≡◌, refl, ℕ, List, [], ◌∷◌, None, Some, true, false}
use Rattle.std.specs.Prelude.{pos, codes}
use Rattle.ido_base.specs.declared.place.Place.{Place}
use Rattle.ido_ints.specs.declared.kinds.Kind.TheVariants as kind
use Rattle.ido_ints.specs.declared.operators.Binary.TheVariants as b
use Rattle.ido_ints.specs.TypedNumbers.{typed}
use Rattle.ido_ints.specs.Reduction as reduction
use Rattle.c_tree.specs.Exprs as e
use Rattle.c_tree.specs.Programs.{By}
use Rattle.c_tree.specs.Flats as f
use Rattle.c_tree.specs.Source.{State, start, source_step, after_from}
use Rattle.source_machine.specs.Lives.{restart, after_lives, runs_lives, ended_lives}

abbrev at : ℕ → Place
at place = record { 0 = place }

abbrev sum : e.Placed
sum = record { place = at 55; expr = e.Binary b.Add (e.Variable (at 55) 0 kind.Int) (e.Constant (typed kind.Int (pos 1))) }

abbrev x : f.Flat
x = record {
  mutexes = record { name = record { text = codes "m"; place = at 6 }; length = None } ∷ [];
  variables = record {
    name = record { text = codes "x"; place = at 26 };
    guard = By 0;
    kind = kind.Int;
    refers = None;
    length = None;
    initial = pos 0 ∷ [];
  } ∷ [];
  threads = record {
    name = record { text = codes "t"; place = at 36 };
    locals = [];
    refers = [];
    body = f.statement_and (f.Lock (at 40) (record { mutex = 0; key = None })) (f.statement_and (f.Assign (at 51) (e.ToVariable (at 51) 0 kind.Int) sum)
        (f.statement_and (f.Unlock (at 62) (record { mutex = 0; key = None })) f.no_statement));
    closing = at 73;
  } ∷ [];
}

-- the lock, the value, the store and the unlock
abbrev whole : List ℕ
whole = 0 ∷ 0 ∷ 0 ∷ 0 ∷ []

-- the start, but for the variable's number
abbrev with_number : ℕ → State
with_number n = record (start x) { variables = (pos n ∷ []) ∷ [] }

-- threads begin anew, and the variable is kept
begins_anew : restart x (after_from (start x) whole) ≡ with_number 1
unfolding source_step reduction.from_least_on
begins_anew = refl

-- each life adds one
three_lives : (after_lives x (start x) (whole ∷ whole ∷ whole ∷ [])).variables ≡ (pos 3 ∷ []) ∷ []
unfolding source_step reduction.from_least_on
three_lives = refl

three_run : runs_lives x (start x) (whole ∷ whole ∷ whole ∷ []) ≡ true
unfolding source_step reduction.from_least_on
three_run = refl

three_end : ended_lives x (start x) (whole ∷ whole ∷ whole ∷ []) 0 ≡ 3
unfolding source_step reduction.from_least_on
three_end = refl

-- a life without steps ends: its threads stand before their first section
none_made : after_lives x (start x) (whole ∷ [] ∷ whole ∷ []) ≡ after_from (with_number 1) whole
unfolding source_step reduction.from_least_on
none_made = refl

-- the last life may stop inside a section
last_inside : runs_lives x (start x) (whole ∷ (0 ∷ []) ∷ []) ≡ true
unfolding source_step reduction.from_least_on
last_inside = refl

last_holds : (after_lives x (start x) (whole ∷ (0 ∷ []) ∷ [])).holders ≡ Some 0 ∷ []
unfolding source_step reduction.from_least_on
last_holds = refl

-- one before it may not: there the run stops, and the lives after it are not begun
not_inside : runs_lives x (start x) ((0 ∷ []) ∷ whole ∷ []) ≡ false
unfolding source_step
not_inside = refl

stops_inside : after_lives x (start x) ((0 ∷ []) ∷ whole ∷ []) ≡ after_from (start x) (0 ∷ [])
unfolding source_step
stops_inside = refl

-- nor may it have a step that can't be made, as one past the thread's end
not_past : runs_lives x (start x) ((0 ∷ 0 ∷ 0 ∷ 0 ∷ 0 ∷ 0 ∷ []) ∷ whole ∷ []) ≡ false
unfolding source_step reduction.from_least_on
not_past = refl
