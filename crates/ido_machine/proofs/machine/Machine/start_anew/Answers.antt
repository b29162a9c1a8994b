use Rattle.std.proofs.Common.{◌≡◌, List, length, replicate, refl, sym, subst, rules}
use Rattle.std.proofs.lemmas.List.{with_items_is}
use Rattle.machine_model.specs.declared.phase.Phase.TheVariants.{Run}
use Rattle.hart_core.specs.declared.hart.Hart.{Hart}
use Rattle.ido_machine.specs.Harts.{AreAnew}
use Rattle.ido_machine.specs.Machines.{state_of}
use Rattle.ido_machine.proofs.BegunAnew.{start_end}
use Rattle.ido_machine.proofs.machine.Machine.start_anew.Goals as goal

pub returns-clause-world : goal.returns-clause-world
returns-clause-world c = λ w s may.
    let machine = c.args.self.now in
    let long_harts : length c.begin_anew.new.harts ≡ machine.harts.len = search rules in
    let phases : c.fill.new.self.items ≡ replicate (length machine.harts.items) Run = search rules in
    start_end machine.program (state_of machine) _ w
    (subst (λ (harts : List Hart). AreAnew machine.program machine.harts.items harts) (sym (with_items_is machine.harts c.begin_anew.new.harts long_harts))
    (subst (λ (old : List Hart). AreAnew machine.program old c.begin_anew.new.harts) c.deref_mut.ensures.value c.begin_anew.ensures))
    phases refl refl refl may s
