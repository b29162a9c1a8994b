-- What a name means where it stands: scopes of identifiers (C11 6.2.1).
use Rattle.std.specs.Prelude.{ℕ, ◌+◌, ◌-◌, List, [], ◌∷◌, ◌++◌, length, map, find, Option, Some, None, Bool, false, nat_eq, nat_lt, unsigned_abs, if◌then◌else◌}
use Rattle.std.specs.Option.{option_map}
use Rattle.std.specs.Cmp.Lexicographic.{pointwise}
use Rattle.ido_ints.specs.declared.kinds.Kind.{Kind}
use Rattle.ido_ints.specs.declared.kinds.Kind.TheVariants.{UnsignedLong}
use Rattle.ido_base.specs.declared.limits.TheConstants.{MOST_ELEMENTS}
use Rattle.c_tree.specs.Trees as t

abbrev pub same_name : List ℕ → List ℕ → Bool
same_name = pointwise nat_eq

-- ---- Types

-- the kind of the numbers that a value of the type may be: a reference is 0, which is null, or an element's number and 1 more
abbrev pub kind_named : t.TypeName → Kind
kind_named (t.OfKind kind) = kind
kind_named (t.RefTo array) = UnsignedLong

-- ---- Names of the whole text

-- what such a name stands for, with its number among those of its sort
pub data Sort : Type 0 where
  -- the number of an array of mutexes is that of its first one
  Mutex : (number : ℕ) → (length : Option ℕ) → Sort
  -- of an array the number of its elements; whether each has a mutex of its own
  Variable : (number : ℕ) → t.TypeName → (length : Option ℕ) → (each : Bool) → Sort
  Function : (number : ℕ) → (result : Option t.TypeName) → (parameters : List t.TypeName) → Sort
  Thread : Sort

pub record Global : Type 0 where
  pub name : t.Name
  pub sort : Sort

abbrev pub length_number : t.Length → ℕ
length_number x = unsigned_abs x.value.number

-- how many elements there are; one that is no array has one
abbrev pub element_count : Option t.Length → ℕ
element_count None = 1
element_count (Some x) = length_number x

-- how many of a sort were declared before
pub record Counts : Type 0 where
  pub mutexes : ℕ
  pub variables : ℕ
  pub functions : ℕ

abbrev pub none_yet : Counts
none_yet = record { mutexes = 0; variables = 0; functions = 0 }

abbrev pub global_of : Counts → t.Item → Global
global_of n (t.MutexItem x length) = record { name = x; sort = Mutex n.mutexes (option_map length_number length) }
global_of n (t.PersistentItem x) = record { name = x.name; sort = Variable n.variables x.type_name (option_map length_number x.length) x.guard.each }
global_of n (t.ThreadItem x) = record { name = x.name; sort = Thread }
global_of n (t.FunctionItem x) = record { name = x.name; sort = Function n.functions x.type_name (map (λ (y : t.Parameter). y.type_name) x.parameters) }

abbrev pub counted : Counts → t.Item → Counts
counted n (t.MutexItem x length) = record n { mutexes = n.mutexes + element_count length }
counted n (t.PersistentItem x) = record n { variables = n.variables + 1 }
counted n (t.ThreadItem x) = n
counted n (t.FunctionItem x) = record n { functions = n.functions + 1 }

abbrev pub globals_from : Counts → List t.Item → List Global
globals_from n [] = []
globals_from n (x ∷ xs) = global_of n x ∷ globals_from (counted n x) xs

-- the globals of a program, in order of declaration
abbrev pub globals_of : List t.Item → List Global
globals_of xs = globals_from none_yet xs

-- what the name stands for in the whole text: of two declarations the first counts
abbrev pub global_named : List Global → (name : List ℕ) → Option Sort
global_named gs name = option_map (λ (g : Global). g.sort) (find (λ (g : Global). same_name g.name.text name) gs)

-- ---- References

-- what a value is: a number; null; a reference to an element of the array of that number; anything, where a rule is broken
pub data Referring : Type 0 where
  Number : Referring
  Null : Referring
  To : (array : ℕ) → Referring
  Anything : Referring

-- an array that one mutex guards
abbrev pub referred_by : Option Sort → Referring
referred_by (Some (Variable number type_name (Some length) false)) = To number
referred_by _ = Anything

-- what values of the type are
abbrev pub of_type : List Global → t.TypeName → Referring
of_type gs (t.OfKind kind) = Number
of_type gs (t.RefTo array) = referred_by (global_named gs array.text)

-- the number of the last element, where the length breaks no rule
abbrev pub last_of : (length : ℕ) → ℕ
last_of length = if nat_lt MOST_ELEMENTS length then 0 else length - 1

-- an array to whose elements there may be references: its number, what its elements are, and the number of the last one
pub record Array : Type 0 where
  pub number : ℕ
  pub kind : Kind
  pub elements : Referring
  pub last : ℕ

abbrev pub array_of : List Global → Option Sort → Option Array
array_of gs (Some (Variable number type_name (Some length) false)) =
    Some (record { number = number; kind = kind_named type_name; elements = of_type gs type_name; last = last_of length })
array_of gs _ = None

-- the array to whose elements values of the type refer
abbrev pub referred : List Global → t.TypeName → Option Array
referred gs (t.OfKind kind) = None
referred gs (t.RefTo array) = array_of gs (global_named gs array.text)

-- a local that is a reference, and its array
pub record Reference : Type 0 where
  pub local : ℕ
  pub array : Array

-- ---- Locals

pub record Local : Type 0 where
  pub name : List ℕ
  pub number : ℕ
  pub kind : Kind
  -- the array to whose elements it refers, where it is a reference
  pub refers : Option Array

-- where a statement stands: the locals that are known, the innermost first; the names declared in its own scope; of all locals of the
-- function or thread so far the kinds, and the arrays to which they refer
pub record Scope : Type 0 where
  pub known : List Local
  pub own : List (List ℕ)
  pub kinds : List Kind
  pub refers : List (Option ℕ)

abbrev pub no_locals : Scope
no_locals = record { known = []; own = []; kinds = []; refers = [] }

abbrev pub declared_as : Scope → (name : List ℕ) → Kind → Option Array → Scope
declared_as s name kind refers = record {
  known = record { name = name; number = length s.kinds; kind = kind; refers = refers } ∷ s.known;
  own = name ∷ s.own;
  kinds = s.kinds ++ kind ∷ [];
  refers = s.refers ++ option_map (λ (a : Array). a.number) refers ∷ [];
}

abbrev pub declared : List Global → Scope → (name : List ℕ) → t.TypeName → Scope
declared gs s name type_name = declared_as s name (kind_named type_name) (referred gs type_name)

-- a scope inside
abbrev pub entered : Scope → Scope
entered s = record s { own = [] }

-- the scope again, after one that stood inside it
abbrev pub left : Scope → (inside : Scope) → Scope
left s inside = record s { kinds = inside.kinds; refers = inside.refers }

-- ---- Meanings

pub data Meaning : Type 0 where
  IsLocal : Local → Meaning
  IsGlobal : Sort → Meaning
  IsUnknown : Meaning

abbrev pub global_meaning : List Global → (name : List ℕ) → Meaning
global_meaning gs name = elim (global_named gs name) [
  | Some sort ↦ IsGlobal sort
  | None ↦ IsUnknown
]

-- a local hides what is declared outside its scope. Two locals of one name
-- in one scope are refused, and mean the same to all other rules
abbrev pub meaning : List Global → Scope → (name : List ℕ) → Meaning
meaning gs s name = elim (find (λ (x : Local). same_name x.name name) s.known) [
  | Some x ↦ IsLocal x
  | None ↦ global_meaning gs name
]
