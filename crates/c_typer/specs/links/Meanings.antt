-- What is made of a name, and which rule its use breaks, by its meaning.
use Rattle.std.specs.Prelude.{ℕ, Bool, not, ◌==◌, List, [], length, Option, Some, None, is_some, if◌then◌else◌}
use Rattle.std.specs.Option.{option_map}
use Rattle.ido_base.specs.declared.place.Place.{Place}
use Rattle.ido_ints.specs.declared.kinds.Kind.TheVariants as kind
use Rattle.c_tree.specs.Exprs as e
use Rattle.c_tree.specs.Names as n
use Rattle.c_tree.specs.LexicalScan.{Fault}
use Rattle.c_tree.specs.TypeRules.{broken}
use Rattle.ido_ints.specs.declared.operators.Binary as b
use Rattle.c_tree.specs.Trees as t
use Rattle.c_tree.specs.Elaboration as typing
use Rattle.c_tree.specs.Elaboration.{int}
use Rattle.c_tree.specs.declared.rule.Rule as r
use Rattle.c_tree.specs.declared.rule.Rule.TheVariants as rule
use Rattle.c_typer.specs.links.Scopes.{array_of, local_of, sort_of}
use Rattle.c_typer.specs.declared.meaning.Meaning as m
use Rattle.c_typer.specs.declared.meaning.Reference as ref
use Rattle.c_typer.specs.declared.meaning.Meaning.TheVariants as meaning

abbrev pub meaning_of : m.Meaning → n.Meaning
meaning_of (meaning.Local x) = n.IsLocal (local_of x.now)
meaning_of (meaning.Global x) = n.IsGlobal (sort_of x.now)
meaning_of meaning.Unknown = n.IsUnknown

abbrev pub reference_of : ref.Reference → n.Reference
reference_of x = record { local = x.local; array = array_of x.array }

-- ---- Expressions and targets

abbrev pub named_as : n.Meaning → Place → e.Expr
named_as (n.IsLocal l) place = e.Local l.number l.kind
named_as (n.IsGlobal (n.Variable number type_name length each)) place = e.Variable place number (n.kind_named type_name)
named_as _ place = int 0

abbrev pub element_as : n.Meaning → Place → (index_place : Place) → e.Expr → e.Expr
element_as (n.IsGlobal (n.Variable number type_name length each)) place index_place index = e.Element place number (n.kind_named type_name) index_place index
element_as _ place index_place index = int 0

abbrev pub target_as : n.Meaning → Place → e.Lvalue
target_as (n.IsLocal l) place = e.ToLocal place l.number l.kind
target_as (n.IsGlobal (n.Variable number type_name length each)) place = e.ToVariable place number (n.kind_named type_name)
target_as _ place = e.ToLocal place 0 kind.Int

abbrev pub target_element_as : n.Meaning → Place → e.Placed → e.Lvalue
target_element_as (n.IsGlobal (n.Variable number type_name length each)) place index = e.ToElement place number (n.kind_named type_name) index
target_element_as _ place index = e.ToLocal place 0 kind.Int

abbrev pub address_as : n.Meaning → (index_place : Place) → e.Expr → e.Expr
address_as (n.IsGlobal (n.Variable number type_name length each)) index_place index = e.Address number index_place index
address_as _ index_place index = int 0

abbrev pub reference_as : n.Meaning → Option n.Reference
reference_as (n.IsLocal y) = option_map (λ a. record { local = y.number; array = a }) y.refers
reference_as _ = None

-- what is made of an element to which a local refers, by that reference
abbrev pub followed_as : Option n.Reference → Place → e.Expr
followed_as None place = int 0
followed_as (Some y) place = e.Element place y.array.number y.array.kind place (e.Referent place y.array.last y.local)

abbrev pub target_followed_as : Option n.Reference → (place name : Place) → e.Lvalue
target_followed_as None place name = e.ToLocal name 0 kind.Int
target_followed_as (Some y) place name =
    e.ToElement place y.array.number y.array.kind (record { place = place; expr = e.Referent place y.array.last y.local })

-- ---- What values are

abbrev pub name_as : List n.Global → n.Meaning → n.Referring
name_as gs (n.IsLocal y) = elim y.refers [ Some a ↦ n.To a.number | None ↦ n.Number ]
name_as gs (n.IsGlobal (n.Variable number type_name length each)) = n.of_type gs type_name
name_as gs _ = n.Anything

abbrev pub address_of_as : n.Meaning → n.Referring
address_of_as (n.IsGlobal sort) = n.referred_by (Some sort)
address_of_as _ = n.Anything

abbrev pub parameters_as : n.Meaning → List t.TypeName
parameters_as (n.IsGlobal (n.Function number gives parameters)) = parameters
parameters_as _ = []

abbrev pub result_as : List n.Global → n.Meaning → n.Referring
result_as gs (n.IsGlobal (n.Function number (Some type_name) parameters)) = n.of_type gs type_name
result_as gs _ = n.Anything

abbrev pub function_as : n.Meaning → ℕ
function_as (n.IsGlobal (n.Function number gives parameters)) = number
function_as _ = 0

abbrev pub mutex_as : n.Meaning → ℕ
mutex_as (n.IsGlobal (n.Mutex number count)) = number
mutex_as _ = 0

abbrev pub mutexes_as : n.Meaning → Option ℕ
mutexes_as (n.IsGlobal (n.Mutex number count)) = count
mutexes_as _ = None

-- ---- Rules

-- one fault, or none
abbrev pub fault_at : Option r.Rule → Place → List Fault
fault_at None place = []
fault_at (Some found) place = broken found place

abbrev pub rule_if : Bool → r.Rule → Option r.Rule
rule_if b found = if b then Some found else None

abbrev pub use_rule : n.Meaning → (indexed : Bool) → Option r.Rule
use_rule n.IsUnknown indexed = Some rule.Unknown
use_rule (n.IsLocal l) indexed = rule_if indexed rule.WrongSort
use_rule (n.IsGlobal (n.Variable number type_name length each)) indexed = rule_if (if is_some length then not indexed else indexed) rule.WrongSort
use_rule (n.IsGlobal _) indexed = Some rule.WrongSort

-- an array to whose elements there may be references
abbrev pub array_rule : List n.Global → n.Meaning → Option r.Rule
array_rule gs n.IsUnknown = Some rule.Unknown
array_rule gs (n.IsGlobal sort) = rule_if (not (is_some (n.array_of gs (Some sort)))) rule.WrongSort
array_rule gs (n.IsLocal y) = Some rule.WrongSort

-- a local that is a reference
abbrev pub reference_rule : n.Meaning → Option r.Rule
reference_rule n.IsUnknown = Some rule.Unknown
reference_rule (n.IsLocal y) = rule_if (not (is_some y.refers)) rule.WrongSort
reference_rule _ = Some rule.WrongSort

abbrev pub mutex_rule : n.Meaning → (keyed : Bool) → Option r.Rule
mutex_rule n.IsUnknown keyed = Some rule.Unknown
mutex_rule (n.IsGlobal (n.Mutex number count)) keyed = rule_if (if is_some count then not keyed else keyed) rule.WrongSort
mutex_rule _ keyed = Some rule.WrongSort

abbrev pub persistent_rule : n.Meaning → Option r.Rule
persistent_rule (n.IsGlobal (n.Variable number type_name length each)) = Some rule.WrongSort
persistent_rule _ = None

-- what a called name has to be, and how many arguments it takes
abbrev pub function_rule : n.Meaning → (assigned : Bool) → Option r.Rule
function_rule n.IsUnknown assigned = Some rule.Unknown
function_rule (n.IsGlobal (n.Function number gives parameters)) assigned = rule_if (if is_some gives then not assigned else assigned) rule.WrongSort
function_rule _ assigned = Some rule.WrongSort

abbrev pub count_rule : n.Meaning → (arguments : ℕ) → Option r.Rule
count_rule (n.IsGlobal (n.Function number gives parameters)) arguments = rule_if (not (arguments == length parameters)) rule.Count
count_rule _ arguments = None

-- ---- Updates

-- the value that `x op= v` gives
abbrev pub updated_as : List n.Global → n.Scope → t.Lvalue → b.Binary → e.Expr → e.Placed
updated_as gs s x operator value = record { place = typing.target_place x; expr = e.Binary operator (typing.before gs s x) value }
