-- Registers of locals, as contracts see them.
use Rattle.std.specs.Prelude.{ℕ, map, Vec}
use Rattle.std.specs.Global.{Global}
use Rattle.flow_graph.specs.declared.colours.Colours.{Colours}
use Rattle.flow_graph.specs.Liveness.{Colouring}

abbrev pub colouring_of : Colours → Colouring
colouring_of x = map (λ (v : Vec ℕ Global). v.items) x.threads.items
