use Rattle.std.proofs.Common.{◌≡◌, ℕ, List, length, map, rules, refl, sym, ap, subst, ◌∙◌}
use Rattle.std.proofs.lemmas.List.{with_items_is}
use Rattle.machine_model.specs.Machine.{phase_after_crash, durable_point}
use Rattle.log_schemes.specs.Schemes.{numbers_from}
use Rattle.hart_core.specs.declared.hart.Hart.{Hart}
use Rattle.ido_machine.specs.Harts.{AreFresh}
use Rattle.ido_machine.specs.Machines.{state_of}
use Rattle.ido_machine.proofs.MachineEvents.{crash_end}
use Rattle.ido_machine.proofs.machine.Machine.crash.Goals as goal

pub returns-clause-world : goal.returns-clause-world
returns-clause-world c = λ w s.
    let machine = c.args.self.now in
    let long_harts : length c.restart.new.harts ≡ machine.harts.len = search rules in
    let long_phases : length c.set_phases.new.phases ≡ machine.phases.len = search rules in
    let count : length c.deref_mut-2.result.now ≡ length machine.program = search rules in
    crash_end machine.program (state_of machine) _ w
    (subst (λ (harts : List Hart). AreFresh machine.program harts (length machine.program)) (sym (with_items_is machine.harts c.restart.new.harts long_harts))
    c.restart.ensures)
    (λ words stands. with_items_is machine.phases c.set_phases.new.phases long_phases ∙ c.set_phases.ensures.phases words stands
    ∙ ap (λ (n : ℕ). map (λ thread. phase_after_crash (durable_point c.crash.new.self.log words thread)) (numbers_from 0 n)) count)
    c.crash.ensures.stands c.crash.ensures.logs c.clear.ensures refl s
