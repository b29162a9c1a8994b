use Rattle.c_typer.proofs.Lookups.{hidden_shrink, placed_pop, last_is_placed}
use Rattle.c_typer.proofs.scope.Scope.forget.Goals as goal

pub put_back-requires : goal.put_back-requires
put_back-requires c = last_is_placed c.args.self.now.places c.pop.new.self.items c.args.self.now.known.items c.in-Some.local c.deref.result.now
    c.args.self.now.placed c.deref.ensures.value c.in-Some.ensures.items

pub invariant_of-self-clause-placed : goal.invariant_of-self-clause-placed
invariant_of-self-clause-placed c =
    placed_pop c.args.self.now.places c.put_back.new.self c.pop.new.self.items c.args.self.now.known.items c.in-Some.local c.deref.result.now
    c.args.self.now.placed c.args.self.now.hiding c.put_back.ensures c.deref.ensures.value c.in-Some.ensures.items

pub invariant_of-self-clause-hiding : goal.invariant_of-self-clause-hiding
invariant_of-self-clause-hiding c =
    hidden_shrink c.pop.new.self.items c.args.self.now.known.items c.in-Some.local c.args.self.now.hiding c.in-Some.ensures.items
