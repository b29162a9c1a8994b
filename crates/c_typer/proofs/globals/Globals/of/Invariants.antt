use Rattle.std.proofs.Common.{◌≡◌, ◌++◌, ℕ, List, map, drop}
use Rattle.c_tree.specs.Names as n
use Rattle.c_tree.specs.Views.{item_of}
use Rattle.c_typer.specs.links.Declarations.{names_declared}
use Rattle.c_typer.specs.links.Places.{place_of, first_place}
use Rattle.c_typer.specs.links.Scopes.{counts_of, global_of}
use Rattle.c_typer.proofs.globals.Globals.of.Given as goal

abbrev pub invariant-loop-item : goal.invariant-loop-item
invariant-loop-item l = record {
  globals :
      map global_of l.declared.items ++ n.globals_from (counts_of l.counts) (map item_of (drop l.item-index l.tree.items.items))
      ≡ n.globals_of (map item_of l.tree.items.items);
  placed : (name : List ℕ) → place_of l.places name ≡ first_place name (names_declared l.declared.items);
}
