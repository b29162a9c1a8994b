-- A value lies in its index's range, and that within the array.
use Rattle.c_ranges.proofs.ValuesInRanges.{names_element}
use Rattle.c_ranges.proofs.laws.indexes_name_elements.Goals as goal

pub returns : goal.returns
returns c = names_element
