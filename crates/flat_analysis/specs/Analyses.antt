-- What the checks of a flat form find out about it.
use Rattle.std.specs.Prelude.{◌≡◌}
use Rattle.c_tree.specs.declared.language.Language.{Language}
use Rattle.c_tree.specs.Flats.{flat_of}
use Rattle.lock_discipline.specs.HeldSetsByStep.{AreAllSetsOf}
use Rattle.flow_graph.specs.Nodes.{graph_of}
use Rattle.flow_graph.specs.LocalSets.{AreLive}
use Rattle.flow_graph.specs.Lowering.{lowered}
use Rattle.flow_graph.specs.Liveness.{AreRegisters, HasNoClash}
use Rattle.flow_graph.specs.Colours.{colouring_of}
use Rattle.flat_analysis.specs.declared.analyses.Analysis.{Analysis}
use Rattle.flat_analysis.specs.CompilableForms.{IsAcceptedForm}

-- no check of the language refuses the form, and each part is what its own analysis answers
pub record IsAnalysis (l : Language) (a : Analysis) : Type 0 where
  pub accepted : IsAcceptedForm l (flat_of a.flat.now)
  -- the sets of locks that are held
  pub held : AreAllSetsOf (flat_of a.flat.now) a.held
  pub lowered : graph_of a.graph ≡ lowered (flat_of a.flat.now)
  pub live : AreLive (graph_of a.graph) a.live
  -- each local has a register, and no two whose intervals share a node have the same
  pub registers : AreRegisters (graph_of a.graph) (colouring_of a.colours)
  pub apart : HasNoClash (graph_of a.graph) (colouring_of a.colours)
