-- The rules of names and kinds, and the first that a tree breaks.
use Rattle.std.specs.Prelude.{◌≡◌, ◌⊎◌, ℕ, zero, suc, ◌+◌, ◌*◌, ◌<◌, ◌≤◌, List, [], ◌∷◌, ◌++◌, length, Contains, Option}
use Rattle.std.specs.Prelude.{Some, None, Bool, true, false, not, ◌||◌, ◌&&◌, nat_lt, ◌==◌, is_some, if◌then◌else◌, flat_map}
use Rattle.std.specs.List.{list_any}
use Rattle.ido_base.specs.declared.place.Place.{Place}
use Rattle.ido_base.specs.Layout.{aligned_up}
use Rattle.ido_base.specs.declared.limits.TheConstants.{MOST_THREADS, MOST_MUTEXES, MOST_VARIABLE_BYTES, MOST_ELEMENTS, MOST_LOCKS}
use Rattle.c_tree.specs.declared.language.Language.{Language}
use Rattle.c_tree.specs.declared.language.Language.TheVariants.{Plain, Full}
use Rattle.ido_ints.specs.Kinds.{bytes_of}
use Rattle.ido_ints.specs.declared.operators.Binary.{Binary}
use Rattle.ido_ints.specs.declared.operators.Binary.TheVariants as binary
use Rattle.c_tree.specs.declared.rule.Rule as r
use Rattle.c_tree.specs.declared.rule.Rule.TheVariants as rule
use Rattle.c_tree.specs.LexicalScan.{Fault}
use Rattle.c_tree.specs.Trees as t
use Rattle.c_tree.specs.Names as n
use Rattle.c_tree.specs.Names.{element_count, length_number}
use Rattle.c_tree.specs.Elaboration as made

abbrev pub broken : r.Rule → Place → List Fault
broken found place = record { rule = found; place = place } ∷ []

abbrev pub broken_if : Bool → r.Rule → Place → List Fault
broken_if b found place = if b then broken found place else []

-- ---- Declarations

-- a second declaration of a name that the scope has
abbrev pub twice : (own : List (List ℕ)) → t.Name → List Fault
twice own x = broken_if (list_any (n.same_name x.text) own) rule.Twice x.place

abbrev pub twice_from : (before : List (List ℕ)) → List n.Global → List Fault
twice_from before [] = []
twice_from before (g ∷ gs) = twice before g.name ++ twice_from (g.name.text ∷ before) gs

-- the names after the first so many
abbrev pub past : r.Rule → (most : ℕ) → List t.Name → List Fault
past found most [] = []
past found zero (x ∷ xs) = broken found x.place
past found (suc most) (x ∷ xs) = past found most xs

abbrev pub thread_names : List t.Item → List t.Name
thread_names xs = flat_map (λ x. elim x [ t.ThreadItem y ↦ y.name ∷ [] | _ ↦ [] ]) xs

-- how many mutexes there may be, with those of arrays
abbrev pub most_mutexes : Language → ℕ
most_mutexes Plain = MOST_MUTEXES
most_mutexes Full = MOST_LOCKS

-- the first name by which there are more, after n of them
abbrev pub too_many_mutexes : (most n : ℕ) → List t.Item → List Fault
too_many_mutexes most n [] = []
too_many_mutexes most n (t.MutexItem x count ∷ xs) =
    let more = n + element_count count in
    if nat_lt most more then broken rule.Mutexes x.place else too_many_mutexes most more xs
too_many_mutexes most n (t.PersistentItem x ∷ xs) = too_many_mutexes most n xs
too_many_mutexes most n (t.ThreadItem x ∷ xs) = too_many_mutexes most n xs
too_many_mutexes most n (t.FunctionItem x ∷ xs) = too_many_mutexes most n xs

-- where a variable ends, if the one before it ends at k
abbrev pub end_after : (k : ℕ) → t.Persistent → ℕ
end_after k x = aligned_up k (bytes_of (n.kind_named x.type_name)) + bytes_of (n.kind_named x.type_name) * element_count x.length

-- the first variable that ends too late
abbrev pub too_many_bytes : (n : ℕ) → List t.Item → List Fault
too_many_bytes n [] = []
too_many_bytes n (t.PersistentItem x ∷ xs) =
    if nat_lt MOST_VARIABLE_BYTES (end_after n x) then broken rule.Bytes x.name.place else too_many_bytes (end_after n x) xs
too_many_bytes n (t.MutexItem x count ∷ xs) = too_many_bytes n xs
too_many_bytes n (t.ThreadItem x ∷ xs) = too_many_bytes n xs
too_many_bytes n (t.FunctionItem x ∷ xs) = too_many_bytes n xs

-- ---- Variables

abbrev pub length_faults : Option t.Length → List Fault
length_faults None = []
length_faults (Some x) = let elements = length_number x in broken_if (elements == 0 || nat_lt MOST_ELEMENTS elements) rule.Length x.place

-- the first number after so many
abbrev pub numbers_past : (count : ℕ) → List t.Signed → List Fault
numbers_past count [] = []
numbers_past zero (x ∷ xs) = broken rule.Count x.place
numbers_past (suc count) (x ∷ xs) = numbers_past count xs

-- an array has its numbers in braces
abbrev pub numbers_faults : Option t.Length → Option t.Initialiser → List Fault
numbers_faults size None = []
numbers_faults size (Some (t.Single x)) = broken_if (is_some size) rule.WrongSort x.place
numbers_faults size (Some (t.InBraces place xs)) = numbers_past (element_count size) xs

-- references begin as null
abbrev pub initialiser_faults : t.TypeName → Option t.Length → Option t.Initialiser → List Fault
initialiser_faults (t.OfKind kind) size x = numbers_faults size x
initialiser_faults (t.RefTo array) size None = []
initialiser_faults (t.RefTo array) size (Some (t.Single x)) = broken rule.WrongSort x.place
initialiser_faults (t.RefTo array) size (Some (t.InBraces place xs)) = broken rule.WrongSort place

-- ---- What values are

abbrev pub may_be_number : n.Referring → Bool
may_be_number n.Number = true
may_be_number n.Null = false
may_be_number (n.To array) = false
may_be_number n.Anything = true

-- both are references, to one array, or one of them is null
abbrev pub are_comparable : n.Referring → n.Referring → Bool
are_comparable n.Anything y = true
are_comparable n.Number y = elim y [ n.Anything ↦ true | _ ↦ false ]
are_comparable n.Null y = elim y [ n.Number ↦ false | _ ↦ true ]
are_comparable (n.To array) y = elim y [ n.Number ↦ false | n.To other ↦ array == other | _ ↦ true ]

-- the name of what is assigned
abbrev pub target_name : t.Lvalue → t.Name
target_name (t.Target x index) = x
target_name (t.Followed place x) = x

abbrev pub is_comparison : Binary → Bool
is_comparison binary.Equal = true
is_comparison binary.NotEqual = true
is_comparison _ = false

-- where a value that refers is told: at its name, `null` or `&`
abbrev pub told_at : t.Expression → Place
told_at (t.Number place value) = place
told_at (t.Named x) = x.place
told_at (t.Element array index) = array.place
told_at (t.Null place) = place
told_at (t.Address place array index) = place
told_at (t.Referent place reference) = reference.place
told_at (t.Parenthesised place inner) = told_at inner
told_at (t.Unary place operator operand) = place
told_at (t.Cast place kind operand) = place
told_at (t.Binary operator left right) = told_at left
told_at (t.Conditional condition chosen otherwise) = told_at condition

-- the plain language has no references, and no text of it spells one
abbrev pub only_full : Language → Place → List Fault
only_full Plain place = broken rule.WrongSort place
only_full Full place = []

module _ (l : Language) (gs : List n.Global) where
  -- ---- Uses of names

  -- a local or a variable, with an index exactly where it is an array
  abbrev pub use_faults : n.Scope → t.Name → (indexed : Bool) → List Fault
  use_faults s x indexed = elim (n.meaning gs s x.text) [
    | n.IsUnknown ↦ broken rule.Unknown x.place
    | n.IsLocal y ↦ broken_if indexed rule.WrongSort x.place
    | n.IsGlobal (n.Variable number type_name length each) ↦ broken_if (if is_some length then not indexed else indexed) rule.WrongSort x.place
    | _ ↦ broken rule.WrongSort x.place
  ]

  -- an array to whose elements there may be references
  abbrev pub array_faults : n.Scope → t.Name → List Fault
  array_faults s x = elim (n.meaning gs s x.text) [
    | n.IsUnknown ↦ broken rule.Unknown x.place
    | n.IsGlobal sort ↦ broken_if (not (is_some (n.array_of gs (Some sort)))) rule.WrongSort x.place
    | n.IsLocal y ↦ broken rule.WrongSort x.place
  ]

  abbrev pub type_name_faults : n.Scope → t.TypeName → List Fault
  type_name_faults s (t.OfKind kind) = []
  type_name_faults s (t.RefTo array) = only_full l array.place ++ array_faults s array

  -- a local that is a reference
  abbrev pub reference_faults : n.Scope → t.Name → List Fault
  reference_faults s x = elim (n.meaning gs s x.text) [
    | n.IsUnknown ↦ broken rule.Unknown x.place
    | n.IsLocal y ↦ broken_if (not (is_some y.refers)) rule.WrongSort x.place
    | _ ↦ broken rule.WrongSort x.place
  ]

  -- a mutex, with a key or brackets exactly where it is an array
  abbrev pub mutex_faults : n.Scope → t.Name → (keyed : Bool) → List Fault
  mutex_faults s x keyed = elim (n.meaning gs s x.text) [
    | n.IsUnknown ↦ broken rule.Unknown x.place
    | n.IsGlobal (n.Mutex number count) ↦ broken_if (if is_some count then not keyed else keyed) rule.WrongSort x.place
    | _ ↦ broken rule.WrongSort x.place
  ]

  -- a persistent variable, of which a key may have none
  abbrev pub persistent_faults : n.Scope → t.Name → List Fault
  persistent_faults s x = elim (n.meaning gs s x.text) [
    | n.IsGlobal (n.Variable number type_name length each) ↦ broken rule.WrongSort x.place
    | _ ↦ []
  ]

  -- ---- What values are

  -- a local
  abbrev pub of_local : n.Local → n.Referring
  of_local l = elim l.refers [
    | Some a ↦ n.To a.number
    | None ↦ n.Number
  ]

  -- a name, or an element of one
  abbrev pub of_name : n.Scope → t.Name → n.Referring
  of_name s x = elim (n.meaning gs s x.text) [
    | n.IsLocal y ↦ of_local y
    | n.IsGlobal (n.Variable number type_name length each) ↦ n.of_type gs type_name
    | _ ↦ n.Anything
  ]

  -- `&x[..]`
  abbrev pub of_address : n.Scope → t.Name → n.Referring
  of_address s x = elim (n.meaning gs s x.text) [
    | n.IsGlobal sort ↦ n.referred_by (Some sort)
    | _ ↦ n.Anything
  ]

  -- `*x`
  abbrev pub of_referent : n.Scope → t.Name → n.Referring
  of_referent s x = elim (made.reference gs s x) [
    | Some y ↦ y.array.elements
    | None ↦ n.Anything
  ]

  abbrev pub referring : n.Scope → t.Expression → n.Referring
  referring s (t.Number place value) = n.Number
  referring s (t.Named x) = of_name s x
  referring s (t.Element array index) = of_name s array
  referring s (t.Null place) = n.Null
  referring s (t.Address place array index) = of_address s array
  referring s (t.Referent place x) = of_referent s x
  referring s (t.Parenthesised place inner) = referring s inner
  referring s (t.Unary place operator operand) = n.Number
  referring s (t.Cast place kind operand) = n.Number
  referring s (t.Binary operator left right) = n.Number
  referring s (t.Conditional condition chosen otherwise) = n.Number

  abbrev pub target_referring : n.Scope → t.Lvalue → n.Referring
  target_referring s (t.Target x index) = of_name s x
  target_referring s (t.Followed place x) = of_referent s x

  -- a number is wanted
  abbrev pub number_faults : n.Scope → t.Expression → List Fault
  number_faults s x = broken_if (not (may_be_number (referring s x))) rule.WrongSort (told_at x)

  -- a value of what refers so is wanted, for the target whose name stands there
  abbrev pub given_faults : n.Scope → n.Referring → (target : Place) → t.Expression → List Fault
  given_faults s n.Number target x = number_faults s x
  given_faults s to target x = broken_if (not (are_comparable to (referring s x))) rule.WrongSort target

  -- operands: two references, or numbers
  abbrev pub operand_faults : n.Scope → Binary → (left right : t.Expression) → List Fault
  operand_faults s operator left right =
      if is_comparison operator && are_comparable (referring s left) (referring s right) then []
      else number_faults s left ++ number_faults s right

  abbrev pub expression_faults : n.Scope → t.Expression → List Fault
  expression_faults s (t.Number place value) = []
  expression_faults s (t.Named x) = use_faults s x false
  expression_faults s (t.Element array index) = use_faults s array true ++ expression_faults s index ++ number_faults s index
  expression_faults s (t.Null place) = only_full l place
  expression_faults s (t.Address place array index) = only_full l place ++ array_faults s array ++ expression_faults s index ++ number_faults s index
  expression_faults s (t.Referent place x) = only_full l place ++ reference_faults s x
  expression_faults s (t.Parenthesised place inner) = expression_faults s inner
  expression_faults s (t.Unary place operator operand) = expression_faults s operand ++ number_faults s operand
  expression_faults s (t.Cast place kind operand) = expression_faults s operand ++ number_faults s operand
  expression_faults s (t.Binary operator left right) = expression_faults s left ++ expression_faults s right ++ operand_faults s operator left right
  expression_faults s (t.Conditional condition chosen otherwise) =
      expression_faults s condition ++ expression_faults s chosen ++ expression_faults s otherwise
      ++ number_faults s condition ++ number_faults s chosen ++ number_faults s otherwise

  -- a number is wanted, as of a condition or an index
  abbrev pub numeric_faults : n.Scope → t.Expression → List Fault
  numeric_faults s x = expression_faults s x ++ number_faults s x

  -- the persistent variables in an expression, also where an element's address is taken
  abbrev pub shared_faults : n.Scope → t.Expression → List Fault
  shared_faults s (t.Number place value) = []
  shared_faults s (t.Named x) = persistent_faults s x
  shared_faults s (t.Element array index) = persistent_faults s array ++ shared_faults s index
  shared_faults s (t.Null place) = []
  shared_faults s (t.Address place array index) = persistent_faults s array ++ shared_faults s index
  shared_faults s (t.Referent place x) = broken rule.WrongSort place
  shared_faults s (t.Parenthesised place inner) = shared_faults s inner
  shared_faults s (t.Unary place operator operand) = shared_faults s operand
  shared_faults s (t.Cast place kind operand) = shared_faults s operand
  shared_faults s (t.Binary operator left right) = shared_faults s left ++ shared_faults s right
  shared_faults s (t.Conditional condition chosen otherwise) = shared_faults s condition ++ shared_faults s chosen ++ shared_faults s otherwise

  -- a key names locals alone
  abbrev pub key_faults : n.Scope → Option t.Expression → List Fault
  key_faults s None = []
  key_faults s (Some x) = numeric_faults s x ++ shared_faults s x

  abbrev pub lock_faults : n.Scope → t.Name → Option t.Expression → List Fault
  lock_faults s x key = mutex_faults s x (is_some key) ++ key_faults s key

  abbrev pub maybe_faults : n.Scope → Option t.Expression → List Fault
  maybe_faults s None = []
  maybe_faults s (Some x) = numeric_faults s x

  abbrev pub target_faults : n.Scope → t.Lvalue → List Fault
  target_faults s (t.Target x index) = use_faults s x (is_some index) ++ maybe_faults s index
  target_faults s (t.Followed place x) = only_full l place ++ reference_faults s x

  -- a target that is a number
  abbrev pub numeric_target_faults : n.Scope → t.Lvalue → List Fault
  numeric_target_faults s x = broken_if (not (may_be_number (target_referring s x))) rule.WrongSort (target_name x).place

  abbrev pub change_faults : n.Scope → t.Lvalue → t.Change → List Fault
  change_faults s x (t.Set value) = expression_faults s value ++ given_faults s (target_referring s x) (target_name x).place value
  change_faults s x (t.Update operator value) = numeric_target_faults s x ++ numeric_faults s value
  change_faults s x t.Increment = numeric_target_faults s x
  change_faults s x t.Decrement = numeric_target_faults s x

  abbrev pub assignment_faults : n.Scope → t.Assignment → List Fault
  assignment_faults s x = target_faults s x.target ++ change_faults s x.target x.change

  -- a function, with a result exactly where one is assigned, and with as many arguments as parameters
  abbrev pub function_faults : n.Scope → t.Name → (assigned : Bool) → (arguments : ℕ) → List Fault
  function_faults s x assigned arguments = elim (n.meaning gs s x.text) [
    | n.IsUnknown ↦ broken rule.Unknown x.place
    | n.IsGlobal (n.Function number gives parameters) ↦
        broken_if (if is_some gives then not assigned else assigned) rule.WrongSort x.place
        ++ broken_if (not (arguments == length parameters)) rule.Count x.place
    | _ ↦ broken rule.WrongSort x.place
  ]

  -- the types of the parameters of a function, and that of its result
  abbrev pub parameters_of : n.Scope → t.Name → List t.TypeName
  parameters_of s x = elim (n.meaning gs s x.text) [
    | n.IsGlobal (n.Function number gives parameters) ↦ parameters
    | _ ↦ []
  ]

  abbrev pub result_of : n.Scope → t.Name → n.Referring
  result_of s x = elim (n.meaning gs s x.text) [
    | n.IsGlobal (n.Function number (Some type_name) parameters) ↦ n.of_type gs type_name
    | _ ↦ n.Anything
  ]

  -- both are numbers, or both refer to one array
  abbrev pub gives_so : (to result : n.Referring) → Bool
  gives_so n.Number result = may_be_number result
  gives_so to result = are_comparable to result

  -- arguments for parameters, of a function whose name stands there
  abbrev pub arguments_faults : n.Scope → (function : Place) → List t.TypeName → List t.Expression → List Fault
  arguments_faults s place [] xs = []
  arguments_faults s place (y ∷ ys) [] = []
  arguments_faults s place (y ∷ ys) (x ∷ xs) = given_faults s (n.of_type gs y) place x ++ arguments_faults s place ys xs

  abbrev pub call_faults : n.Scope → t.Call → (assigned : Bool) → List Fault
  call_faults s x assigned =
      function_faults s x.function assigned (length x.arguments) ++ flat_map (expression_faults s) x.arguments
      ++ arguments_faults s x.function.place (parameters_of s x.function) x.arguments

  -- a call whose result the target takes, which refers so, and whose name stands there
  abbrev pub assigned_faults : n.Scope → n.Referring → (target : Place) → t.Call → List Fault
  assigned_faults s to target x = call_faults s x true ++ broken_if (not (gives_so to (result_of s x.function))) rule.WrongSort target

  -- the first value of what refers so, and whose name stands there
  abbrev pub initial_faults : n.Scope → n.Referring → (name : Place) → t.Initial → List Fault
  initial_faults s to place t.Absent = []
  initial_faults s to place (t.Value value) = expression_faults s value ++ given_faults s to place value
  initial_faults s to place (t.Result c) = assigned_faults s to place c

  abbrev pub declaration_faults : n.Scope → t.Declaration → List Fault
  declaration_faults s x = twice s.own x.name ++ initial_faults s (n.of_type gs x.type_name) x.name.place x.initial ++ type_name_faults s x.type_name

  -- ---- Statements, each in the scope where it stands

  abbrev pub first_faults : n.Scope → t.First → List Fault
  first_faults s t.NoFirst = []
  first_faults s (t.Declared x) = declaration_faults s x
  first_faults s (t.Assigned x) = assignment_faults s x

  abbrev pub last_faults : n.Scope → Option t.Assignment → List Fault
  last_faults s None = []
  last_faults s (Some x) = assignment_faults s x

  -- the scope after a statement
  abbrev pub after : n.Scope → t.Statement → n.Scope
  after s x = (made.statement gs s x).scope

  abbrev mutual
    pub statement_faults : n.Scope → t.Statement → List Fault
    statement_faults s (t.BlockOf x) = block_faults s x
    statement_faults s (t.Empty place) = []
    statement_faults s (t.Declare x) = declaration_faults s x
    statement_faults s (t.Assign x) = assignment_faults s x
    statement_faults s (t.AssignResult x c) = target_faults s x ++ assigned_faults s (target_referring s x) (target_name x).place c
    statement_faults s (t.CallOnly c) = call_faults s c false
    statement_faults s (t.If place arms otherwise) = arms_faults s arms ++ otherwise_faults (made.arms_of gs s arms).scope otherwise
    statement_faults s (t.While place x body) = numeric_faults s x ++ block_faults s body
    statement_faults s (t.Do place body x) = block_faults s body ++ numeric_faults (made.inside gs s body).scope x
    statement_faults s (t.For place start x last body) =
        first_faults (n.entered s) start ++ (let f = (made.first_at gs place (n.entered s) start).scope in
        maybe_faults f x ++ last_faults f last ++ block_faults f body)
    statement_faults s (t.Lock place mutex key) = lock_faults s mutex key
    statement_faults s (t.Unlock place mutex key) = lock_faults s mutex key

    pub block_faults : n.Scope → t.Block → List Fault
    block_faults s (t.Braced opening xs closing) = statements_faults (n.entered s) xs

    pub statements_faults : n.Scope → t.Statements → List Fault
    statements_faults s t.no_statement = []
    statements_faults s (t.statement_and x xs) = statement_faults s x ++ statements_faults (after s x) xs

    pub arms_faults : n.Scope → t.Arms → List Fault
    arms_faults s t.no_arm = []
    arms_faults s (t.arm_and x body arms) = numeric_faults s x ++ block_faults s body ++ arms_faults (made.inside gs s body).scope arms

    pub otherwise_faults : n.Scope → t.Otherwise → List Fault
    otherwise_faults s t.Nothing = []
    otherwise_faults s (t.Else body) = block_faults s body

  -- ---- Items

  abbrev pub parameters_faults : n.Scope → List t.Parameter → List Fault
  parameters_faults s [] = []
  parameters_faults s (x ∷ xs) =
      twice s.own x.name ++ type_name_faults s x.type_name ++ parameters_faults (n.declared gs s x.name.text x.type_name) xs

  -- the function returns a value exactly where it has a result
  abbrev pub returns_value : Option t.Return → Bool
  returns_value None = false
  returns_value (Some x) = is_some x.value

  abbrev pub return_faults : t.Function → List Fault
  return_faults x = broken_if (if is_some x.type_name then not (returns_value x.body.returned) else returns_value x.body.returned) rule.Return x.name.place

  -- a value of the result's type, of a function whose name stands there
  abbrev pub value_faults : n.Scope → Option t.TypeName → (function : Place) → Option t.Expression → List Fault
  value_faults s result place None = []
  value_faults s None place (Some x) = numeric_faults s x
  value_faults s (Some type_name) place (Some x) = expression_faults s x ++ given_faults s (n.of_type gs type_name) place x

  abbrev pub returned_faults : n.Scope → t.Function → Option t.Return → List Fault
  returned_faults s f None = []
  returned_faults s f (Some x) = value_faults s f.type_name f.name.place x.value

  abbrev pub result_faults : Option t.TypeName → List Fault
  result_faults None = []
  result_faults (Some type_name) = type_name_faults n.no_locals type_name

  -- how many mutexes an array of them has, where the name is that of one
  abbrev pub mutexes_of : t.Name → Option ℕ
  mutexes_of x = elim (n.meaning gs n.no_locals x.text) [
    | n.IsGlobal (n.Mutex number count) ↦ count
    | _ ↦ None
  ]

  -- as many elements as mutexes
  abbrev pub count_faults : (mutexes : Option ℕ) → t.Length → List Fault
  count_faults None length = []
  count_faults (Some count) length = broken_if (not (length_number length == count)) rule.Count length.place

  -- each mutex of an array guards an element of an array as long as that
  abbrev pub each_faults : t.Persistent → List Fault
  each_faults x = if not x.guard.each then [] else elim x.length [
    | None ↦ broken rule.WrongSort x.name.place
    | Some length ↦ count_faults (mutexes_of x.guard.mutex) length
  ]

  abbrev pub item_faults : t.Item → List Fault
  item_faults (t.MutexItem x count) = length_faults count
  item_faults (t.PersistentItem x) =
      mutex_faults n.no_locals x.guard.mutex x.guard.each ++ each_faults x ++ length_faults x.length
      ++ initialiser_faults x.type_name x.length x.initialiser ++ type_name_faults n.no_locals x.type_name
  item_faults (t.ThreadItem x) = statements_faults n.no_locals (made.body_of x.block)
  item_faults (t.FunctionItem x) =
      let s = made.with_parameters gs n.no_locals x.parameters in
      parameters_faults n.no_locals x.parameters ++ statements_faults s x.body.statements
      ++ returned_faults (made.statements gs s x.body.statements).scope x x.body.returned ++ return_faults x ++ result_faults x.type_name

-- ---- The first rule that a tree breaks

-- all places where a rule of names and kinds is broken
unfoldable pub type_faults : Language → List t.Item → List Fault
type_faults l xs =
    twice_from [] (n.globals_of xs) ++ past rule.Threads MOST_THREADS (thread_names xs) ++ too_many_mutexes (most_mutexes l) 0 xs
    ++ too_many_bytes 0 xs
    ++ flat_map (item_faults l (n.globals_of xs)) xs

-- rules at one place, in the order in which they are told
abbrev pub order_of : r.Rule → ℕ
order_of rule.Unknown = 0
order_of rule.Twice = 1
order_of rule.WrongSort = 2
order_of rule.Count = 3
order_of rule.Return = 4
order_of rule.Threads = 5
order_of rule.Mutexes = 6
order_of rule.Bytes = 7
order_of rule.Length = 8
order_of _ = 9

-- the one stands before the other, or they are as good as one
abbrev pub IsNotAfter : Fault → Fault → Type 0
IsNotAfter f g = (f.place.0 < g.place.0) ⊎ ((f.place ≡ g.place) × (order_of f.rule ≤ order_of g.rule))

-- the first of the faults by their places
pub record IsFirst (faults : List Fault) (f : Fault) : Type 0 where
  pub found : Contains faults f
  pub first : (g : Fault) → Contains faults g → IsNotAfter f g
