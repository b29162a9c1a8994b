use Rattle.std.proofs.Common.{◌≡◌, ◌≤◌, map, drop}
use Rattle.c_tree.specs.TypeRules.{too_many_mutexes}
use Rattle.c_tree.specs.Views.{item_of}
use Rattle.c_typer.specs.links.FirstFaults.{first_of}
use Rattle.c_typer.proofs.text.note_mutexes.Given as goal

abbrev pub invariant-loop-item : goal.invariant-loop-item
invariant-loop-item l = record {
  within : l.count ≤ l.most;
  same : first_of l.faults ≡ first_of l.initial.faults;
  left : too_many_mutexes l.most l.count (map item_of (drop l.item-index l.tree.items.items)) ≡ too_many_mutexes l.most 0 (map item_of l.tree.items.items);
}
