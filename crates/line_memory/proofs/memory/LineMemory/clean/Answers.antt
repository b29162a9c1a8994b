use Rattle.line_memory.proofs.Rings.{RepresentsQueue-push}
use Rattle.line_memory.specs.links.Cells.{CellsStand}
use Rattle.ido_base.specs.Words.{entry_of}
use Rattle.std.proofs.Common.{sym, subst}
use Rattle.line_memory.proofs.memory.LineMemory.clean.Goals as goal

pub returns-clause-stands : goal.returns-clause-stands
returns-clause-stands c = λ words entries s q.
    RepresentsQueue-push c.args.queue.now c.push.new.self (entry_of words c.args.line) entries words c.snapshot_of.result c.push.ensures.length
    c.push.ensures.last
    c.push.ensures.kept q (c.snapshot_of.ensures words c.args.self.now.stores
    (subst (λ cells. CellsStand cells words c.args.self.now.stores) (sym c.deref.ensures.value) s.cells))
