-- Of the rules that a tree breaks one is the first: each rule of names and kinds has an order of its own.
use Rattle.std.proofs.Common.{◌≡◌, inl, inr, ℕ, zero, suc, ◌+◌, ◌<◌, List, [], ◌∷◌, ◌++◌, length, Contains, Option, Some, None, Bool, true, false}
use Rattle.std.proofs.Common.{not, ◌||◌, ◌&&◌, ◌==◌, nat_lt, is_some, if◌then◌else◌, flat_map, refl, sym, ap, ap₂, subst, slice_get, ◌∙◌, arith}
use Rattle.std.specs.List.{list_any}
use Rattle.ido_base.specs.declared.place.Place.{Place}
use Rattle.ido_base.specs.declared.limits.TheConstants.{MOST_THREADS, MOST_VARIABLE_BYTES, MOST_ELEMENTS}
use Rattle.c_tree.specs.declared.rule.Rule as r
use Rattle.c_tree.specs.declared.rule.Rule.TheVariants as rule
use Rattle.c_tree.specs.declared.language.Language.{Language}
use Rattle.c_tree.specs.Names as n
use Rattle.c_tree.specs.Names.{element_count, length_number}
use Rattle.c_tree.specs.LexicalScan.{Fault}
use Rattle.c_tree.specs.Trees as t
use Rattle.c_tree.specs.TypeRules.{broken, broken_if, twice, twice_from, past}
use Rattle.c_tree.specs.TypeRules.{thread_names, most_mutexes, too_many_mutexes, end_after, too_many_bytes}
use Rattle.c_tree.specs.TypeRules.{length_faults, numbers_past, initialiser_faults, use_faults, mutex_faults, expression_faults}
use Rattle.c_tree.specs.TypeRules.{persistent_faults, shared_faults, key_faults, lock_faults, mutexes_of, count_faults, each_faults}
use Rattle.c_tree.specs.TypeRules.{maybe_faults, target_faults, change_faults, assignment_faults}
use Rattle.c_tree.specs.TypeRules.{function_faults, call_faults, initial_faults, declaration_faults, first_faults, last_faults, type_name_faults, result_faults}
use Rattle.c_tree.specs.TypeRules.{numbers_faults, only_full, array_faults, reference_faults, number_faults, given_faults, operand_faults, numeric_faults}
use Rattle.c_tree.specs.TypeRules.{numeric_target_faults, arguments_faults, parameters_of, assigned_faults, gives_so, result_of, value_faults}
use Rattle.c_tree.specs.TypeRules.{referring, target_referring, target_name, told_at, may_be_number, are_comparable, is_comparison}
use Rattle.c_tree.specs.declared.language.Language.TheVariants.{Plain, Full}
use Rattle.ido_ints.specs.declared.operators.Binary.{Binary}
use Rattle.c_tree.specs.TypeRules.{after, statement_faults, block_faults, statements_faults, arms_faults}
use Rattle.c_tree.specs.TypeRules.{otherwise_faults, parameters_faults, returns_value, return_faults, returned_faults}
use Rattle.c_tree.specs.TypeRules.{item_faults, type_faults, order_of, IsNotAfter, IsFirst}
use Rattle.c_tree.specs.Elaboration as made

-- ---- Rules of names and kinds

abbrev HasOrder : r.Rule → Type 0
HasOrder found = order_of found < 9

-- the rules of names and kinds, in their order
abbrev rules : List r.Rule
rules = rule.Unknown ∷ rule.Twice ∷ rule.WrongSort ∷ rule.Count ∷ rule.Return ∷ rule.Threads ∷ rule.Mutexes ∷ rule.Bytes ∷ rule.Length ∷ []

back : (found : r.Rule) → HasOrder found → slice_get rules (order_of found) ≡ Some found
back rule.Byte h = absurd (omega (arith, h))
back rule.Number h = absurd (omega (arith, h))
back rule.Syntax h = absurd (omega (arith, h))
back rule.High h = absurd (omega (arith, h))
back rule.Unknown h = refl
back rule.Twice h = refl
back rule.WrongSort h = refl
back rule.Count h = refl
back rule.Return h = refl
back rule.Threads h = refl
back rule.Mutexes h = refl
back rule.Bytes h = refl
back rule.Length h = refl
back rule.Index h = absurd (omega (arith, h))
back rule.Null h = absurd (omega (arith, h))
back rule.Recursion h = absurd (omega (arith, h))
back rule.Code h = absurd (omega (arith, h))
back rule.Unheld h = absurd (omega (arith, h))
back rule.Again h = absurd (omega (arith, h))
back rule.NotHeld h = absurd (omega (arith, h))
back rule.Join h = absurd (omega (arith, h))
back rule.EndHeld h = absurd (omega (arith, h))
back rule.Frozen h = absurd (omega (arith, h))
back rule.Held h = absurd (omega (arith, h))
back rule.Locals h = absurd (omega (arith, h))
back rule.Temporaries h = absurd (omega (arith, h))

one_rule : (found other : r.Rule) → HasOrder found → HasOrder other → order_of found ≡ order_of other → found ≡ other
one_rule found other h k e = let both : Some found ≡ Some other = sym (back found h) ∙ ap (slice_get rules) e ∙ back other k in cc both

-- ---- Faults of such rules

abbrev Ordered : List Fault → Type 0
Ordered [] = Unit {0}
Ordered (f ∷ fs) = HasOrder f.rule × Ordered fs

both : (fs gs : List Fault) → Ordered fs → Ordered gs → Ordered (fs ++ gs)
both [] gs h k = k
both (f ∷ fs) gs h k = (h.0, both fs gs h.1 k)

each : {X : Type 0} (faults : X → List Fault) → ((x : X) → Ordered (faults x)) → (xs : List X) → Ordered (flat_map faults xs)
each faults h [] = tt
each faults h (x ∷ xs) = both (faults x) (flat_map faults xs) (h x) (each faults h xs)

three : (fs gs hs : List Fault) → Ordered fs → Ordered gs → Ordered hs → Ordered (fs ++ gs ++ hs)
three fs gs hs x y z = both (fs ++ gs) hs (both fs gs x y) z

one_if : (b : Bool) (found : r.Rule) (place : Place) → HasOrder found → Ordered (broken_if b found place)
one_if true found place h = (h, tt)
one_if false found place h = tt

has_order : (fs : List Fault) (f : Fault) → Ordered fs → Contains fs f → HasOrder f.rule
has_order [] f h (k, within, e) = absurd (omega (arith, within))
has_order (g ∷ gs) f h (zero, within, e) = subst (λ (x : Fault). HasOrder x.rule) e h.0
has_order (g ∷ gs) f h (suc k, within, e) = has_order gs f h.1 (k, omega (arith, within), e)

-- ---- Declarations

twice_ordered : (own : List (List ℕ)) (x : t.Name) → Ordered (twice own x)
twice_ordered own x = one_if (list_any (n.same_name x.text) own) rule.Twice x.place (omega arith)

twice_from-ordered : (before : List (List ℕ)) (gs : List n.Global) → Ordered (twice_from before gs)
twice_from-ordered before [] = tt
twice_from-ordered before (g ∷ gs) =
    both (twice before g.name) (twice_from (g.name.text ∷ before) gs) (twice_ordered before g.name) (twice_from-ordered (g.name.text ∷ before) gs)

past_ordered : (found : r.Rule) (most : ℕ) (xs : List t.Name) → HasOrder found → Ordered (past found most xs)
past_ordered found most [] h = tt
past_ordered found zero (x ∷ xs) h = (h, tt)
past_ordered found (suc most) (x ∷ xs) h = past_ordered found most xs h

too_many-ordered : (k : ℕ) (xs : List t.Item) → Ordered (too_many_bytes k xs)
too_many-ordered k [] = tt
too_many-ordered k (t.PersistentItem x ∷ xs) = go (nat_lt MOST_VARIABLE_BYTES (end_after k x)) (too_many-ordered (end_after k x) xs)
  where
    go : (b : Bool) → Ordered (too_many_bytes (end_after k x) xs) → Ordered (if b then broken rule.Bytes x.name.place else too_many_bytes (end_after k x) xs)
    go true h = (omega arith, tt)
    go false h = h
too_many-ordered k (t.MutexItem x count ∷ xs) = too_many-ordered k xs
too_many-ordered k (t.ThreadItem x ∷ xs) = too_many-ordered k xs
too_many-ordered k (t.FunctionItem x ∷ xs) = too_many-ordered k xs

more_than-ordered : (most k : ℕ) (xs : List t.Item) → Ordered (too_many_mutexes most k xs)
more_than-ordered most k [] = tt
more_than-ordered most k (t.MutexItem x count ∷ xs) = go (nat_lt most (k + element_count count)) (more_than-ordered most (k + element_count count) xs)
  where
    go : (b : Bool) → Ordered (too_many_mutexes most (k + element_count count) xs) →
        Ordered (if b then broken rule.Mutexes x.place else too_many_mutexes most (k + element_count count) xs)
    go true h = (omega arith, tt)
    go false h = h
more_than-ordered most k (t.PersistentItem x ∷ xs) = more_than-ordered most k xs
more_than-ordered most k (t.ThreadItem x ∷ xs) = more_than-ordered most k xs
more_than-ordered most k (t.FunctionItem x ∷ xs) = more_than-ordered most k xs

length_ordered : (size : Option t.Length) → Ordered (length_faults size)
length_ordered None = tt
length_ordered (Some x) = one_if (length_number x == 0 || nat_lt MOST_ELEMENTS (length_number x)) rule.Length x.place (omega arith)

numbers_ordered : (count : ℕ) (xs : List t.Signed) → Ordered (numbers_past count xs)
numbers_ordered count [] = tt
numbers_ordered zero (x ∷ xs) = (omega arith, tt)
numbers_ordered (suc count) (x ∷ xs) = numbers_ordered count xs

given_ordered : (size : Option t.Length) (x : Option t.Initialiser) → Ordered (numbers_faults size x)
given_ordered size None = tt
given_ordered size (Some (t.Single x)) = one_if (is_some size) rule.WrongSort x.place (omega arith)
given_ordered size (Some (t.InBraces place xs)) = numbers_ordered (element_count size) xs

initialiser_ordered : (type_name : t.TypeName) (size : Option t.Length) (x : Option t.Initialiser) → Ordered (initialiser_faults type_name size x)
initialiser_ordered (t.OfKind kind) size x = given_ordered size x
initialiser_ordered (t.RefTo array) size None = tt
initialiser_ordered (t.RefTo array) size (Some (t.Single x)) = (omega arith, tt)
initialiser_ordered (t.RefTo array) size (Some (t.InBraces place xs)) = (omega arith, tt)

full_ordered : (l : Language) (place : Place) → Ordered (only_full l place)
full_ordered Plain place = (omega arith, tt)
full_ordered Full place = tt

module _ (l : Language) (gs : List n.Global) where
  -- ---- Uses of names

  use_ordered : (s : n.Scope) (x : t.Name) (indexed : Bool) → Ordered (use_faults l gs s x indexed)
  use_ordered s x indexed = go (n.meaning gs s x.text)
    where
      go : (m : n.Meaning) → Ordered (elim m [
        | n.IsUnknown ↦ broken rule.Unknown x.place
        | n.IsLocal y ↦ broken_if indexed rule.WrongSort x.place
        | n.IsGlobal (n.Variable number type_name length each) ↦ broken_if (if is_some length then not indexed else indexed) rule.WrongSort x.place
        | _ ↦ broken rule.WrongSort x.place
      ])
      go n.IsUnknown = (omega arith, tt)
      go (n.IsLocal y) = one_if indexed rule.WrongSort x.place (omega arith)
      go (n.IsGlobal (n.Variable number type_name length each)) = one_if (if is_some length then not indexed else indexed) rule.WrongSort x.place (omega arith)
      go (n.IsGlobal (n.Mutex number count)) = (omega arith, tt)
      go (n.IsGlobal (n.Function number gives parameters)) = (omega arith, tt)
      go (n.IsGlobal n.Thread) = (omega arith, tt)

  mutex_ordered : (s : n.Scope) (x : t.Name) (keyed : Bool) → Ordered (mutex_faults l gs s x keyed)
  mutex_ordered s x keyed = go (n.meaning gs s x.text)
    where
      go : (m : n.Meaning) → Ordered (elim m [
        | n.IsUnknown ↦ broken rule.Unknown x.place
        | n.IsGlobal (n.Mutex number count) ↦ broken_if (if is_some count then not keyed else keyed) rule.WrongSort x.place
        | _ ↦ broken rule.WrongSort x.place
      ])
      go n.IsUnknown = (omega arith, tt)
      go (n.IsLocal y) = (omega arith, tt)
      go (n.IsGlobal (n.Variable number type_name length each)) = (omega arith, tt)
      go (n.IsGlobal (n.Mutex number count)) = one_if (if is_some count then not keyed else keyed) rule.WrongSort x.place (omega arith)
      go (n.IsGlobal (n.Function number gives parameters)) = (omega arith, tt)
      go (n.IsGlobal n.Thread) = (omega arith, tt)

  array_ordered : (s : n.Scope) (x : t.Name) → Ordered (array_faults l gs s x)
  array_ordered s x = go (n.meaning gs s x.text)
    where
      go : (m : n.Meaning) → Ordered (elim m [
        | n.IsUnknown ↦ broken rule.Unknown x.place
        | n.IsGlobal sort ↦ broken_if (not (is_some (n.array_of gs (Some sort)))) rule.WrongSort x.place
        | n.IsLocal y ↦ broken rule.WrongSort x.place
      ])
      go n.IsUnknown = (omega arith, tt)
      go (n.IsLocal y) = (omega arith, tt)
      go (n.IsGlobal sort) = one_if (not (is_some (n.array_of gs (Some sort)))) rule.WrongSort x.place (omega arith)

  type_name_ordered : (s : n.Scope) (x : t.TypeName) → Ordered (type_name_faults l gs s x)
  type_name_ordered s (t.OfKind kind) = tt
  type_name_ordered s (t.RefTo array) = both (only_full l array.place) (array_faults l gs s array) (full_ordered l array.place) (array_ordered s array)

  result_ordered : (x : Option t.TypeName) → Ordered (result_faults l gs x)
  result_ordered None = tt
  result_ordered (Some x) = type_name_ordered n.no_locals x

  reference_ordered : (s : n.Scope) (x : t.Name) → Ordered (reference_faults l gs s x)
  reference_ordered s x = go (n.meaning gs s x.text)
    where
      go : (m : n.Meaning) → Ordered (elim m [
        | n.IsUnknown ↦ broken rule.Unknown x.place
        | n.IsLocal y ↦ broken_if (not (is_some y.refers)) rule.WrongSort x.place
        | _ ↦ broken rule.WrongSort x.place
      ])
      go n.IsUnknown = (omega arith, tt)
      go (n.IsLocal y) = one_if (not (is_some y.refers)) rule.WrongSort x.place (omega arith)
      go (n.IsGlobal sort) = (omega arith, tt)

  number_ordered : (s : n.Scope) (x : t.Expression) → Ordered (number_faults l gs s x)
  number_ordered s x = one_if (not (may_be_number (referring l gs s x))) rule.WrongSort (told_at x) (omega arith)

  value_ordered : (s : n.Scope) (to : n.Referring) (target : Place) (x : t.Expression) → Ordered (given_faults l gs s to target x)
  value_ordered s n.Number target x = number_ordered s x
  value_ordered s n.Null target x = one_if (not (are_comparable n.Null (referring l gs s x))) rule.WrongSort target (omega arith)
  value_ordered s (n.To array) target x = one_if (not (are_comparable (n.To array) (referring l gs s x))) rule.WrongSort target (omega arith)
  value_ordered s n.Anything target x = one_if (not (are_comparable n.Anything (referring l gs s x))) rule.WrongSort target (omega arith)

  operand_ordered : (s : n.Scope) (operator : Binary) (left right : t.Expression) → Ordered (operand_faults l gs s operator left right)
  operand_ordered s operator left right = go (is_comparison operator && are_comparable (referring l gs s left) (referring l gs s right))
    where
      go : (b : Bool) → Ordered (if b then [] else number_faults l gs s left ++ number_faults l gs s right)
      go true = tt
      go false = both (number_faults l gs s left) (number_faults l gs s right) (number_ordered s left) (number_ordered s right)

  expression_ordered : (s : n.Scope) (x : t.Expression) → Ordered (expression_faults l gs s x)
  expression_ordered s (t.Number place value) = tt
  expression_ordered s (t.Named x) = use_ordered s x false
  expression_ordered s (t.Element array index) =
      three (use_faults l gs s array true) (expression_faults l gs s index) (number_faults l gs s index)
      (use_ordered s array true)
      (expression_ordered s index)
      (number_ordered s index)
  expression_ordered s (t.Null place) = full_ordered l place
  expression_ordered s (t.Address place array index) =
      three (only_full l place ++ array_faults l gs s array) (expression_faults l gs s index) (number_faults l gs s index)
      (both (only_full l place) (array_faults l gs s array) (full_ordered l place) (array_ordered s array))
      (expression_ordered s index)
      (number_ordered s index)
  expression_ordered s (t.Referent place reference) =
      both (only_full l place) (reference_faults l gs s reference) (full_ordered l place) (reference_ordered s reference)
  expression_ordered s (t.Parenthesised place inner) = expression_ordered s inner
  expression_ordered s (t.Unary place operator operand) =
      both (expression_faults l gs s operand) (number_faults l gs s operand) (expression_ordered s operand) (number_ordered s operand)
  expression_ordered s (t.Cast place kind operand) =
      both (expression_faults l gs s operand) (number_faults l gs s operand) (expression_ordered s operand) (number_ordered s operand)
  expression_ordered s (t.Binary operator left right) =
      three (expression_faults l gs s left) (expression_faults l gs s right) (operand_faults l gs s operator left right)
      (expression_ordered s left)
      (expression_ordered s right)
      (operand_ordered s operator left right)
  expression_ordered s (t.Conditional condition chosen otherwise) =
      three (expression_faults l gs s condition ++ expression_faults l gs s chosen ++ expression_faults l gs s otherwise ++ number_faults l gs s condition)
      (number_faults l gs s chosen)
      (number_faults l gs s otherwise)
      (both (expression_faults l gs s condition ++ expression_faults l gs s chosen ++ expression_faults l gs s otherwise) (number_faults l gs s condition)
      (three (expression_faults l gs s condition) (expression_faults l gs s chosen) (expression_faults l gs s otherwise)
      (expression_ordered s condition)
      (expression_ordered s chosen)
      (expression_ordered s otherwise))
      (number_ordered s condition))
      (number_ordered s chosen)
      (number_ordered s otherwise)

  numeric_ordered : (s : n.Scope) (x : t.Expression) → Ordered (numeric_faults l gs s x)
  numeric_ordered s x = both (expression_faults l gs s x) (number_faults l gs s x) (expression_ordered s x) (number_ordered s x)

  persistent_ordered : (s : n.Scope) (x : t.Name) → Ordered (persistent_faults l gs s x)
  persistent_ordered s x = go (n.meaning gs s x.text)
    where
      go : (m : n.Meaning) → Ordered (elim m [
        | n.IsGlobal (n.Variable number type_name length each) ↦ broken rule.WrongSort x.place
        | _ ↦ []
      ])
      go n.IsUnknown = tt
      go (n.IsLocal y) = tt
      go (n.IsGlobal (n.Variable number type_name length each)) = (omega arith, tt)
      go (n.IsGlobal (n.Mutex number count)) = tt
      go (n.IsGlobal (n.Function number gives parameters)) = tt
      go (n.IsGlobal n.Thread) = tt

  shared_ordered : (s : n.Scope) (x : t.Expression) → Ordered (shared_faults l gs s x)
  shared_ordered s (t.Number place value) = tt
  shared_ordered s (t.Named x) = persistent_ordered s x
  shared_ordered s (t.Element array index) =
      both (persistent_faults l gs s array) (shared_faults l gs s index) (persistent_ordered s array) (shared_ordered s index)
  shared_ordered s (t.Null place) = tt
  shared_ordered s (t.Address place array index) =
      both (persistent_faults l gs s array) (shared_faults l gs s index) (persistent_ordered s array) (shared_ordered s index)
  shared_ordered s (t.Referent place reference) = (omega arith, tt)
  shared_ordered s (t.Parenthesised place inner) = shared_ordered s inner
  shared_ordered s (t.Unary place operator operand) = shared_ordered s operand
  shared_ordered s (t.Cast place kind operand) = shared_ordered s operand
  shared_ordered s (t.Binary operator left right) =
      both (shared_faults l gs s left) (shared_faults l gs s right) (shared_ordered s left) (shared_ordered s right)
  shared_ordered s (t.Conditional condition chosen otherwise) =
      three (shared_faults l gs s condition) (shared_faults l gs s chosen) (shared_faults l gs s otherwise)
      (shared_ordered s condition)
      (shared_ordered s chosen)
      (shared_ordered s otherwise)

  key_ordered : (s : n.Scope) (x : Option t.Expression) → Ordered (key_faults l gs s x)
  key_ordered s None = tt
  key_ordered s (Some x) = both (numeric_faults l gs s x) (shared_faults l gs s x) (numeric_ordered s x) (shared_ordered s x)

  lock_ordered : (s : n.Scope) (x : t.Name) (key : Option t.Expression) → Ordered (lock_faults l gs s x key)
  lock_ordered s x key = both (mutex_faults l gs s x (is_some key)) (key_faults l gs s key) (mutex_ordered s x (is_some key)) (key_ordered s key)

  maybe_ordered : (s : n.Scope) (x : Option t.Expression) → Ordered (maybe_faults l gs s x)
  maybe_ordered s None = tt
  maybe_ordered s (Some x) = numeric_ordered s x

  target_ordered : (s : n.Scope) (x : t.Lvalue) → Ordered (target_faults l gs s x)
  target_ordered s (t.Target x index) =
      both (use_faults l gs s x (is_some index)) (maybe_faults l gs s index) (use_ordered s x (is_some index)) (maybe_ordered s index)
  target_ordered s (t.Followed place reference) =
      both (only_full l place) (reference_faults l gs s reference) (full_ordered l place) (reference_ordered s reference)

  numeric_target_ordered : (s : n.Scope) (x : t.Lvalue) → Ordered (numeric_target_faults l gs s x)
  numeric_target_ordered s x = one_if (not (may_be_number (target_referring l gs s x))) rule.WrongSort (target_name x).place (omega arith)

  change_ordered : (s : n.Scope) (x : t.Lvalue) (c : t.Change) → Ordered (change_faults l gs s x c)
  change_ordered s x (t.Set value) =
      both (expression_faults l gs s value) (given_faults l gs s (target_referring l gs s x) (target_name x).place value)
      (expression_ordered s value)
      (value_ordered s (target_referring l gs s x) (target_name x).place value)
  change_ordered s x (t.Update operator value) =
      both (numeric_target_faults l gs s x) (numeric_faults l gs s value) (numeric_target_ordered s x) (numeric_ordered s value)
  change_ordered s x t.Increment = numeric_target_ordered s x
  change_ordered s x t.Decrement = numeric_target_ordered s x

  assignment_ordered : (s : n.Scope) (x : t.Assignment) → Ordered (assignment_faults l gs s x)
  assignment_ordered s x =
      both (target_faults l gs s x.target) (change_faults l gs s x.target x.change) (target_ordered s x.target) (change_ordered s x.target x.change)

  function_ordered : (s : n.Scope) (x : t.Name) (assigned : Bool) (arguments : ℕ) → Ordered (function_faults l gs s x assigned arguments)
  function_ordered s x assigned arguments = go (n.meaning gs s x.text)
    where
      go : (m : n.Meaning) → Ordered (elim m [
        | n.IsUnknown ↦ broken rule.Unknown x.place
        | n.IsGlobal (n.Function number gives parameters) ↦
            broken_if (if is_some gives then not assigned else assigned) rule.WrongSort x.place
            ++ broken_if (not (arguments == length parameters)) rule.Count x.place
        | _ ↦ broken rule.WrongSort x.place
      ])
      go n.IsUnknown = (omega arith, tt)
      go (n.IsLocal y) = (omega arith, tt)
      go (n.IsGlobal (n.Variable number type_name length each)) = (omega arith, tt)
      go (n.IsGlobal (n.Mutex number count)) = (omega arith, tt)
      go (n.IsGlobal (n.Function number gives parameters)) =
          both (broken_if (if is_some gives then not assigned else assigned) rule.WrongSort x.place)
          (broken_if (not (arguments == length parameters)) rule.Count x.place)
          (one_if (if is_some gives then not assigned else assigned) rule.WrongSort x.place (omega arith))
          (one_if (not (arguments == length parameters)) rule.Count x.place (omega arith))
      go (n.IsGlobal n.Thread) = (omega arith, tt)

  arguments_ordered : (s : n.Scope) (place : Place) (ys : List t.TypeName) (xs : List t.Expression) → Ordered (arguments_faults l gs s place ys xs)
  arguments_ordered s place [] xs = tt
  arguments_ordered s place (y ∷ ys) [] = tt
  arguments_ordered s place (y ∷ ys) (x ∷ xs) =
      both (given_faults l gs s (n.of_type gs y) place x) (arguments_faults l gs s place ys xs)
      (value_ordered s (n.of_type gs y) place x)
      (arguments_ordered s place ys xs)

  call_ordered : (s : n.Scope) (x : t.Call) (assigned : Bool) → Ordered (call_faults l gs s x assigned)
  call_ordered s x assigned =
      three (function_faults l gs s x.function assigned (length x.arguments)) (flat_map (expression_faults l gs s) x.arguments)
      (arguments_faults l gs s x.function.place (parameters_of l gs s x.function) x.arguments)
      (function_ordered s x.function assigned (length x.arguments))
      (each (expression_faults l gs s) (expression_ordered s) x.arguments)
      (arguments_ordered s x.function.place (parameters_of l gs s x.function) x.arguments)

  assigned_ordered : (s : n.Scope) (to : n.Referring) (target : Place) (x : t.Call) → Ordered (assigned_faults l gs s to target x)
  assigned_ordered s to target x =
      let wrong = not (gives_so l gs to (result_of l gs s x.function)) in
      both (call_faults l gs s x true) (broken_if wrong rule.WrongSort target) (call_ordered s x true) (one_if wrong rule.WrongSort target (omega arith))

  initial_ordered : (s : n.Scope) (to : n.Referring) (place : Place) (x : t.Initial) → Ordered (initial_faults l gs s to place x)
  initial_ordered s to place t.Absent = tt
  initial_ordered s to place (t.Value value) =
      both (expression_faults l gs s value) (given_faults l gs s to place value) (expression_ordered s value) (value_ordered s to place value)
  initial_ordered s to place (t.Result c) = assigned_ordered s to place c

  declaration_ordered : (s : n.Scope) (x : t.Declaration) → Ordered (declaration_faults l gs s x)
  declaration_ordered s x =
      let to = n.of_type gs x.type_name in
      three (twice s.own x.name) (initial_faults l gs s to x.name.place x.initial) (type_name_faults l gs s x.type_name)
      (twice_ordered s.own x.name)
      (initial_ordered s to x.name.place x.initial)
      (type_name_ordered s x.type_name)

  -- ---- Statements

  first_ordered : (s : n.Scope) (x : t.First) → Ordered (first_faults l gs s x)
  first_ordered s t.NoFirst = tt
  first_ordered s (t.Declared x) = declaration_ordered s x
  first_ordered s (t.Assigned x) = assignment_ordered s x

  last_ordered : (s : n.Scope) (x : Option t.Assignment) → Ordered (last_faults l gs s x)
  last_ordered s None = tt
  last_ordered s (Some x) = assignment_ordered s x

  mutual
    statement_ordered : (s : n.Scope) (x : t.Statement) → Ordered (statement_faults l gs s x)
    statement_ordered s (t.BlockOf x) = block_ordered s x
    statement_ordered s (t.Empty place) = tt
    statement_ordered s (t.Declare x) = declaration_ordered s x
    statement_ordered s (t.Assign x) = assignment_ordered s x
    statement_ordered s (t.AssignResult x c) =
        both (target_faults l gs s x) (assigned_faults l gs s (target_referring l gs s x) (target_name x).place c)
        (target_ordered s x)
        (assigned_ordered s (target_referring l gs s x) (target_name x).place c)
    statement_ordered s (t.CallOnly c) = call_ordered s c false
    statement_ordered s (t.If place arms otherwise) =
        both (arms_faults l gs s arms) (otherwise_faults l gs (made.arms_of gs s arms).scope otherwise) (arms_ordered s arms)
        (otherwise_ordered (made.arms_of gs s arms).scope otherwise)
    statement_ordered s (t.While place x body) = both (numeric_faults l gs s x) (block_faults l gs s body) (numeric_ordered s x) (block_ordered s body)
    statement_ordered s (t.Do place body x) =
        both (block_faults l gs s body) (numeric_faults l gs (made.inside gs s body).scope x) (block_ordered s body)
        (numeric_ordered (made.inside gs s body).scope x)
    statement_ordered s (t.For place start x last body) =
        let f = (made.first_at gs place (n.entered s) start).scope in
        both (first_faults l gs (n.entered s) start) (maybe_faults l gs f x ++ last_faults l gs f last ++ block_faults l gs f body)
        (first_ordered (n.entered s) start)
        (three (maybe_faults l gs f x) (last_faults l gs f last) (block_faults l gs f body) (maybe_ordered f x) (last_ordered f last) (block_ordered f body))
    statement_ordered s (t.Lock place mutex key) = lock_ordered s mutex key
    statement_ordered s (t.Unlock place mutex key) = lock_ordered s mutex key

    block_ordered : (s : n.Scope) (x : t.Block) → Ordered (block_faults l gs s x)
    block_ordered s (t.Braced opening xs closing) = statements_ordered (n.entered s) xs

    statements_ordered : (s : n.Scope) (x : t.Statements) → Ordered (statements_faults l gs s x)
    statements_ordered s t.no_statement = tt
    statements_ordered s (t.statement_and x xs) =
        both (statement_faults l gs s x) (statements_faults l gs (after l gs s x) xs) (statement_ordered s x) (statements_ordered (after l gs s x) xs)

    arms_ordered : (s : n.Scope) (x : t.Arms) → Ordered (arms_faults l gs s x)
    arms_ordered s t.no_arm = tt
    arms_ordered s (t.arm_and x body arms) =
        three (numeric_faults l gs s x) (block_faults l gs s body) (arms_faults l gs (made.inside gs s body).scope arms)
        (numeric_ordered s x)
        (block_ordered s body)
        (arms_ordered (made.inside gs s body).scope arms)

    otherwise_ordered : (s : n.Scope) (x : t.Otherwise) → Ordered (otherwise_faults l gs s x)
    otherwise_ordered s t.Nothing = tt
    otherwise_ordered s (t.Else body) = block_ordered s body

  -- ---- Items

  parameters_ordered : (s : n.Scope) (xs : List t.Parameter) → Ordered (parameters_faults l gs s xs)
  parameters_ordered s [] = tt
  parameters_ordered s (x ∷ xs) =
      three (twice s.own x.name) (type_name_faults l gs s x.type_name) (parameters_faults l gs (n.declared gs s x.name.text x.type_name) xs)
      (twice_ordered s.own x.name)
      (type_name_ordered s x.type_name)
      (parameters_ordered (n.declared gs s x.name.text x.type_name) xs)

  gives_ordered : (s : n.Scope) (type_name : Option t.TypeName) (place : Place) (x : Option t.Expression) → Ordered (value_faults l gs s type_name place x)
  gives_ordered s None place None = tt
  gives_ordered s (Some type_name) place None = tt
  gives_ordered s None place (Some x) = numeric_ordered s x
  gives_ordered s (Some type_name) place (Some x) =
      both (expression_faults l gs s x) (given_faults l gs s (n.of_type gs type_name) place x)
      (expression_ordered s x)
      (value_ordered s (n.of_type gs type_name) place x)

  returned_ordered : (s : n.Scope) (f : t.Function) (x : Option t.Return) → Ordered (returned_faults l gs s f x)
  returned_ordered s f None = tt
  returned_ordered s f (Some x) = gives_ordered s f.type_name f.name.place x.value

  return_ordered : (x : t.Function) → Ordered (return_faults l gs x)
  return_ordered x =
      one_if (if is_some x.type_name then not (returns_value l gs x.body.returned) else returns_value l gs x.body.returned) rule.Return
      x.name.place (omega arith)

  count_ordered : (mutexes : Option ℕ) (size : t.Length) → Ordered (count_faults l gs mutexes size)
  count_ordered None size = tt
  count_ordered (Some count) size = one_if (not (length_number size == count)) rule.Count size.place (omega arith)

  each_ordered : (x : t.Persistent) → Ordered (each_faults l gs x)
  each_ordered x = go (not x.guard.each) x.length
    where
      go : (b : Bool) (size : Option t.Length) → Ordered (if b then [] else elim size [
        | None ↦ broken rule.WrongSort x.name.place
        | Some length ↦ count_faults l gs (mutexes_of l gs x.guard.mutex) length
      ])
      go true size = tt
      go false None = (omega arith, tt)
      go false (Some size) = count_ordered (mutexes_of l gs x.guard.mutex) size

  item_ordered : (x : t.Item) → Ordered (item_faults l gs x)
  item_ordered (t.MutexItem x count) = length_ordered count
  item_ordered (t.PersistentItem x) =
      let guard = mutex_faults l gs n.no_locals x.guard.mutex x.guard.each in
      three (guard ++ each_faults l gs x ++ length_faults x.length) (initialiser_faults x.type_name x.length x.initialiser)
      (type_name_faults l gs n.no_locals x.type_name)
      (three guard (each_faults l gs x) (length_faults x.length) (mutex_ordered n.no_locals x.guard.mutex x.guard.each) (each_ordered x)
      (length_ordered x.length))
      (initialiser_ordered x.type_name x.length x.initialiser)
      (type_name_ordered n.no_locals x.type_name)
  item_ordered (t.ThreadItem x) = statements_ordered n.no_locals (made.body_of x.block)
  item_ordered (t.FunctionItem x) =
      let s = made.with_parameters gs n.no_locals x.parameters in
      let e = (made.statements gs s x.body.statements).scope in
      three (parameters_faults l gs n.no_locals x.parameters ++ statements_faults l gs s x.body.statements ++ returned_faults l gs e x x.body.returned)
      (return_faults l gs x)
      (result_faults l gs x.type_name)
      (three (parameters_faults l gs n.no_locals x.parameters) (statements_faults l gs s x.body.statements) (returned_faults l gs e x x.body.returned)
      (parameters_ordered n.no_locals x.parameters)
      (statements_ordered s x.body.statements)
      (returned_ordered e x x.body.returned))
      (return_ordered x)
      (result_ordered x.type_name)

-- ---- All faults of a tree

all_ordered : (l : Language) (xs : List t.Item) → Ordered (type_faults l xs)
unfolding type_faults
all_ordered l xs =
    let gs = n.globals_of xs in
    let threads = past rule.Threads MOST_THREADS (thread_names xs) in
    let mutexes = too_many_mutexes (most_mutexes l) 0 xs in
    both (twice_from [] gs ++ threads ++ mutexes ++ too_many_bytes 0 xs)
    (flat_map (item_faults l gs) xs)
    (both (twice_from [] gs ++ threads ++ mutexes) (too_many_bytes 0 xs)
    (three (twice_from [] gs) threads mutexes
    (twice_from-ordered [] gs)
    (past_ordered rule.Threads MOST_THREADS (thread_names xs) (omega arith))
    (more_than-ordered (most_mutexes l) 0 xs))
    (too_many-ordered 0 xs))
    (each (item_faults l gs) (item_ordered l gs) xs)

pub one_first : (l : Language) (xs : List t.Item) (f g : Fault) → IsFirst (type_faults l xs) f → IsFirst (type_faults l xs) g → f ≡ g
one_first l xs f g x y = go (x.first g y.found) (y.first f x.found)
  where
    fault : r.Rule → Place → Fault
    fault found place = record { rule = found; place = place }

    go : IsNotAfter f g → IsNotAfter g f → f ≡ g
    go (inl h) (inl k) = absurd (omega (arith, h, k))
    go (inl h) (inr k) = absurd (omega (arith, h, ap (λ (p : Place). p.0) k.0))
    go (inr h) (inl k) = absurd (omega (arith, k, ap (λ (p : Place). p.0) h.0))
    go (inr h) (inr k) =
        let rules = one_rule f.rule g.rule (has_order (type_faults l xs) f (all_ordered l xs) x.found)
        (has_order (type_faults l xs) g (all_ordered l xs) y.found)
        (omega (arith, h.1, k.1)) in
        ap₂ fault rules h.0
