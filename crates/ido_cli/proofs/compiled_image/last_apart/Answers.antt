use Rattle.std.proofs.Common.{arith}
use Rattle.ido_cli.proofs.LastLifeApart.{last_popped}
use Rattle.ido_cli.proofs.compiled_image.last_apart.Goals as goal

pub unreachable-requires : goal.unreachable-requires
unreachable-requires c = let gone = c.in_default.ensures.cases in omega (arith, c.requires, gone.0, c.args.lives.ok.0)

pub returns : goal.returns
returns c = last_popped c.args.lives.items c.pop.new.self.items c.in-Some.schedule c.in-Some.ensures.items
