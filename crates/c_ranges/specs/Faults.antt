-- What `check` tells of a program.
use Rattle.std.specs.Prelude.{◌≡◌, Contains, false}
use Rattle.c_tree.specs.declared.rule.Rule.TheVariants as rule
use Rattle.c_tree.specs.NullReferences.{IsFirstOutside}
use Rattle.c_tree.specs.Programs as p
use Rattle.c_tree.specs.Ranges.{Index, index_fits, indexed, program_indexes, range_of}
use Rattle.c_ranges.specs.Bounds.{interval_of}
use Rattle.c_ranges.specs.declared.checking.RangeError.{RangeError}
use Rattle.c_ranges.specs.declared.checking.RangeError.TheVariants as error
use Rattle.c_ranges.specs.declared.indexes.IndexError.{IndexError}

-- the error tells of an index that doesn't fit: its place, its range and the length of its array
pub record TellsOfIndex (x : p.Program) (e : IndexError) : Type 0 where
  pub index : Index
  pub found : Contains (program_indexes x) index
  pub unfit : index_fits x.variables x.mutexes index ≡ false
  pub place : e.place ≡ index.place
  pub range : interval_of e.range ≡ range_of index.expr
  pub length : e.length ≡ indexed x.variables x.mutexes index.of

-- the error tells of the first fault; want of memory may come at any time
abbrev pub IsFaultOf : p.Program → RangeError → Type 0
IsFaultOf x (error.Index e) = IsFirstOutside x rule.Index e.place × TellsOfIndex x e
IsFaultOf x (error.Null place) = IsFirstOutside x rule.Null place
IsFaultOf x error.Memory = Unit {0}
