use Rattle.std.proofs.Common.{◌≡◌, length, arith}
use Rattle.std.proofs.lemmas.Grind.{common_steps}
use Rattle.c_typer.proofs.Lookups.{first_more}
use Rattle.c_typer.proofs.globals.Globals.of.Goals as goal

pub loop-item-preserved : goal.loop-item-preserved
loop-item-preserved c = record {
  globals = grind (arith, common_steps);
  placed =
      let place : c.len.result ≡ length c.loop-item.declared.items = omega (arith, c.len.ensures, c.loop-item.declared.ok) in
      first_more c.loop-item.places c.put_first.new.self c.loop-item.declared.items c.push.new.self.items c.in_ok-global.global c.len.result
      c.loop-item.invariant.placed c.in_ok-put_first.ensures place c.in_ok-push.ensures.items;
}
