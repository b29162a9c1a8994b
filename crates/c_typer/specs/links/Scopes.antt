-- The globals and scopes that the types of `globals` and `scope` represent.
use Rattle.std.specs.Prelude.{◌≡◌, ℕ, List, ◌++◌, map, reverse, drop}
use Rattle.c_tree.specs.Names as n
use Rattle.std.specs.Option.{option_map}
use Rattle.c_tree.specs.Views.{name_of, type_name_of}
use Rattle.c_typer.specs.declared.globals.Sort as s
use Rattle.c_typer.specs.declared.globals.Sort.TheVariants as sort
use Rattle.c_typer.specs.declared.globals.Array as a
use Rattle.c_typer.specs.declared.globals.Referring as r
use Rattle.c_typer.specs.declared.globals.Referring.TheVariants as referring
use Rattle.c_typer.specs.declared.globals.Declared as g
use Rattle.c_typer.specs.declared.globals.Globals.{Globals}
use Rattle.c_typer.specs.declared.globals.Counts as c
use Rattle.c_typer.specs.declared.scope.Local as l
use Rattle.c_typer.specs.declared.scope.Scope as scope

abbrev pub referring_of : r.Referring → n.Referring
referring_of referring.Number = n.Number
referring_of referring.Null = n.Null
referring_of (referring.To array) = n.To array
referring_of referring.Anything = n.Anything

abbrev pub array_of : a.Array → n.Array
array_of x = record { number = x.number; kind = x.kind; elements = referring_of x.elements; last = x.last }

abbrev pub sort_of : s.Sort → n.Sort
sort_of (sort.Mutex number count) = n.Mutex number count
sort_of (sort.Variable number type_name length each) = n.Variable number (type_name_of type_name) length each
sort_of (sort.Function number result parameters) = n.Function number (option_map type_name_of result) (map type_name_of parameters.items)
sort_of sort.Thread = n.Thread

abbrev pub global_of : g.Declared → n.Global
global_of x = record { name = name_of x.name; sort = sort_of x.sort }

abbrev pub globals_of : Globals → List n.Global
globals_of x = map global_of x.declared.items

-- the names of globals, the last one first
abbrev pub names_before : List g.Declared → List (List ℕ)
names_before xs = map (λ (x : g.Declared). x.name.text.items) (reverse xs)

abbrev pub counts_of : c.Counts → n.Counts
counts_of x = record { mutexes = x.mutexes; variables = x.variables; functions = x.functions }

abbrev pub local_of : l.Local → n.Local
local_of x = record { name = x.name.items; number = x.number; kind = x.kind; refers = option_map array_of x.refers }

abbrev pub name_in : l.Local → List ℕ
name_in x = x.name.items

-- the innermost local stands last in the vector
abbrev pub known_of : List l.Local → List n.Local
known_of xs = map local_of (reverse xs)

abbrev pub own_of : List l.Local → List (List ℕ)
own_of xs = map name_in (reverse xs)

abbrev pub scope_of : scope.Scope → n.Scope
scope_of x = record { known = known_of x.known.items; own = own_of (drop x.mark x.known.items); kinds = x.kinds.items; refers = x.refers.items }

-- locals were declared in the own scope, or none
pub record ScopeGrows (old new : scope.Scope) : Type 0 where
  pub mark : new.mark ≡ old.mark
  pub more : List l.Local
  pub known : new.known.items ≡ old.known.items ++ more

-- no local was declared in the own scope
pub record Stays (old new : scope.Scope) : Type 0 where
  pub mark : new.mark ≡ old.mark
  pub known : new.known.items ≡ old.known.items
