use Rattle.std.proofs.Common.{◌≡◌, ◌∙◌, ap, List, ◌++◌, ◌∷◌, []}
use Rattle.c_tree.specs.Flats.{statements_of}
use Rattle.source_machine.specs.declared.code.Node.{Node}
use Rattle.source_machine.specs.declared.code.Node.TheVariants as node
use Rattle.source_machine.proofs.Emission.{compiled}
use Rattle.source_machine.proofs.code.compile.Goals as goal

pub returns : goal.returns
returns c =
    let one : c.push.new.self.items ≡ node.End ∷ [] = c.in_ok-push.ensures.items ∙ ap (λ (ns : List Node). ns ++ node.End ∷ []) c.new-nodes.ensures.items in
    let h = compiled c.push.new.self.items c.emit_all.new.nodes.items (statements_of c.args.body.now) c.in_ok-start.start one c.in_ok-start.ensures in
    record { lefts = h.0; nodes = h.1; start = h.2 }
