-- Where boundaries stand, by where locals stand.
use Rattle.std.specs.Prelude.{List}
use Rattle.log_schemes.specs.declared.locals.Locals.{Locals}
use Rattle.log_schemes.specs.declared.locals.Locals.TheVariants.{Registers, Frame}
use Rattle.c_tree.specs.LockNames.{Held}
use Rattle.flow_graph.specs.Nodes.{Graph}
use Rattle.flow_graph.specs.IdempotentCuts.{Boundaries, IsMinimal}
use Rattle.region_cutter.specs.EachWrite.{AreAtEachWrite}
use Rattle.region_cutter.specs.FewestCuts.{AreFewestCuts}

-- none of the boundaries can be taken away, and in straight code they are the fewest
pub record AreFew (g : Graph) (b : Boundaries) : Type 0 where
  pub minimal : IsMinimal g b
  pub fewest : AreFewestCuts g b

-- where locals stand in registers there are as few as may be; where they stand in the log, by the sets that are held, one before each write and no others
abbrev pub AreBoundariesFor : Locals → Graph → (table : List (List Held)) → Boundaries → Type 0
AreBoundariesFor Registers g table b = AreFew g b
AreBoundariesFor Frame g table b = AreAtEachWrite g table b
