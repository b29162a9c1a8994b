-- Nodes as they are added.
use Rattle.std.specs.Prelude.{◌≡◌, List, ◌++◌, map}
use Rattle.flow_graph.specs.declared.graph.Node as code
use Rattle.flow_graph.specs.Nodes.{Node, node_of}

-- the added nodes stand after those that were there before
abbrev pub Adds : (before after : List code.Node) → (added : List Node) → Type 0
Adds before after added = map node_of after ≡ map node_of before ++ added
