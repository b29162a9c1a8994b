use Rattle.std.proofs.Common.{◌≡◌, ◌++◌, drop, flat_map}
use Rattle.std.specs.Option.{option_to_list}
use Rattle.run_scripts.proofs.report.put_all_some.Given as goal

abbrev pub invariant-loop-element : goal.invariant-loop-element
invariant-loop-element l =
    l.numbers.items ++ flat_map option_to_list (drop l.element-index l.elements) ≡ l.initial.numbers.items ++ flat_map option_to_list l.elements
