use Rattle.std.proofs.Common.{◌≡◌, ◌≤◌, map, drop}
use Rattle.ido_base.specs.declared.limits.TheConstants.{MOST_VARIABLE_BYTES}
use Rattle.c_tree.specs.TypeRules.{too_many_bytes}
use Rattle.c_tree.specs.Views.{item_of}
use Rattle.c_typer.specs.links.FirstFaults.{first_of}
use Rattle.c_typer.proofs.text.note_bytes.Given as goal

abbrev pub invariant-loop-item : goal.invariant-loop-item
invariant-loop-item l = record {
  within : l.end ≤ MOST_VARIABLE_BYTES;
  same : first_of l.faults ≡ first_of l.initial.faults;
  left : too_many_bytes l.end (map item_of (drop l.item-index l.tree.items.items)) ≡ too_many_bytes 0 (map item_of l.tree.items.items);
}
