-- Rows of locals. The last one stands first.
use Rattle.std.specs.Prelude.{ℕ, List, Option, map, reverse}
use Rattle.c_typer.specs.declared.scope.Local.{Local}

-- the names of locals, the last one first
abbrev pub names_in : List Local → List (List ℕ)
names_in xs = map (λ (x : Local). x.name.items) (reverse xs)

-- the places of the locals that they hide
abbrev pub hidden_in : List Local → List (Option ℕ)
hidden_in xs = map (λ (x : Local). x.hidden) (reverse xs)
