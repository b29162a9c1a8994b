use Rattle.std.proofs.Common.{Some}
use Rattle.c_typer.proofs.Lookups.{updated}
use Rattle.c_typer.proofs.names.Places.put.Goals as goal

pub returns-clause-put : goal.returns-clause-put
returns-clause-put c = updated c.args.self.now.by_name c.insert.new.self c.args.name.items (Some c.args.place) c.in_ok-insert.ensures.updates
