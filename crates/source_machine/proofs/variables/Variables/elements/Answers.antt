use Rattle.std.proofs.Common.{sym, ◌∙◌, length}
use Rattle.std.proofs.Common.{zero-add}
use Rattle.source_machine.proofs.ConsecutiveLists.{joined}
use Rattle.source_machine.proofs.variables.Variables.elements.Goals as goal

pub returns : goal.returns
returns c = rw (← c.self.view_is) (c.deref.ensures.value ∙ sym (joined c.self.inside.spans.items 0
    (length c.self.inside.elements.items) c.self.inside.elements.items c.self.invariant (zero-add (length c.self.inside.elements.items))))
