-- The nesting that the type of `nesting` represents.
use Rattle.c_tree.specs.TextReadings as r
use Rattle.c_reader.specs.declared.nesting.Nesting.{Nesting}

abbrev pub nesting_of : Nesting → r.Nesting
nesting_of x = record { braces = x.braces; others = x.others }
