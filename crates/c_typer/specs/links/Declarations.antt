-- Rows of declarations, in their order.
use Rattle.std.specs.Prelude.{ℕ, List, map}
use Rattle.c_typer.specs.declared.globals.Declared.{Declared}

-- the names of declarations
abbrev pub names_declared : List Declared → List (List ℕ)
names_declared xs = map (λ (x : Declared). x.name.text.items) xs
