use Rattle.std.proofs.Common.{◌≡◌, ◌++◌, drop, flat_map}
use Rattle.run_scripts.specs.Reports.{element_text}
use Rattle.run_scripts.proofs.report.put_elements.Given as goal

abbrev pub invariant-loop-element : goal.invariant-loop-element
invariant-loop-element l =
    l.report.items ++ flat_map element_text (drop l.element-index l.elements) ≡ l.initial.report.items ++ flat_map element_text l.elements
