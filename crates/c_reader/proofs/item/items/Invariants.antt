use Rattle.std.proofs.Common.{◌≡◌, ◌-◌, map}
use Rattle.c_tree.specs.Views.{item_of}
use Rattle.c_reader.specs.links.ParserSteps.{all_items, more_items}
use Rattle.c_reader.proofs.item.items.Given as goal

abbrev pub invariant-loop-turn : goal.invariant-loop-turn
invariant-loop-turn l = all_items l.language l.fuel l.fn.tokens ≡ more_items l.language l.fuel (l.fuel - l._turn) (map item_of l.found.items) l.tokens
