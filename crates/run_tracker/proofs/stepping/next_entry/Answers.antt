use Rattle.std.proofs.Common.{◌≡◌, ◌<◌, length, slice_get, Option, Some, sym, ap, ◌∙◌, arith}
use Rattle.ido_machine.specs.declared.signs.SignTable.{SignTable}
use Rattle.ido_machine.specs.links.SignTables.{entry_at}
use Rattle.ido_machine.proofs.Public.{get_is}
use Rattle.run_tracker.proofs.stepping.next_entry.Goals as goal

same_found : {X : Type 0} (x y : X) (found : Option X) → found ≡ Some x → found ≡ Some y → x ≡ y
same_found x y found e f = cc

pub returns : goal.returns
returns c = λ w stands hart table there found.
    let within : c.args.hart < length c.args.tables.now = omega (arith, c.requires.tables, c.requires.exists) in
    let same = same_found c.index-tables-hart.result table (slice_get c.args.tables.now c.args.hart)
    (get_is c.args.tables.now c.args.hart c.index-tables-hart.result within ∙ ap Some (sym c.index-tables-hart.is)) found in
    c.entry_at.ensures ∙ ap (λ (t : SignTable). entry_at t c.pc.result) same ∙ ap (entry_at table) (c.pc.ensures w hart stands there)
