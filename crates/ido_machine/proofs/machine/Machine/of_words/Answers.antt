use Rattle.std.proofs.Common.{◌≡◌, ℕ, ◌/◌, true, List, length, map, rules, refl, ap, subst, ◌∙◌}
use Rattle.std.proofs.lemmas.List.{with_items_is}
use Rattle.log_schemes.specs.declared.log.Log.{Log}
use Rattle.ido_base.specs.Words.{word_of}
use Rattle.ido_base.specs.Layout.{spread_words}
use Rattle.line_memory.specs.links.MemoryRepresentation.{Represents, log_in}
use Rattle.rv64_isa.specs.declared.object.Slot.{Slot}
use Rattle.machine_model.specs.declared.phase.Phase.{Phase}
use Rattle.machine_model.specs.Machine.{after_crash_of, phase_after_crash, durable_point}
use Rattle.log_schemes.specs.Schemes.{numbers_from}
use Rattle.ido_machine.specs.Machines.{MachineState, RepresentsMachineState}
use Rattle.ido_machine.proofs.Starts.{crash_simulates}
use Rattle.ido_machine.proofs.machine.Machine.of_words.Goals as goal

pub returns-clause-stands : goal.returns-clause-stands
returns-clause-stands c =
    let object = c.args.object.now in
    let program = c.in_ok-program.program in
    let words : List ℕ = spread_words (length object.initial.items / 8) c.args.words.now in
    let phases : List Phase = c.set_phases.new.phases in
    let state : MachineState =
    record { phases = phases; harts = c.in_ok-harts.harts.items; memory = c.in_ok-memory.memory; locks = c.in_ok-locks.locks; recovering = true } in
    let bytes : c.len-bytes.result ≡ length object.initial.items = search rules in
    let stands : Represents c.in_ok-memory.memory (map word_of words) =
    subst (λ (n : ℕ). Represents c.in_ok-memory.memory (map word_of (spread_words (n / 8) c.args.words.now))) bytes c.in_ok-memory.ensures.stands in
    let count : length c.deref_mut.result.now ≡ length program = search rules in
    let long : length phases ≡ c.in_ok-phases.phases.len = search rules in
    let are : phases ≡ map (λ thread. phase_after_crash (durable_point (log_in c.in_ok-memory.memory) (map word_of words) thread))
    (numbers_from 0 (length program)) =
    c.set_phases.ensures.phases (map word_of words) stands
    ∙ ap (λ (n : ℕ). map (λ thread. phase_after_crash (durable_point (log_in c.in_ok-memory.memory) (map word_of words) thread)) (numbers_from 0 n)) count in
    rw (with_items_is c.in_ok-phases.phases phases long)
    (subst (λ (p : List (List Slot)). RepresentsMachineState state (after_crash_of object.log p object.mutexes words)) c.in_ok-program.ensures
    (subst (λ (log : Log). RepresentsMachineState state (after_crash_of log program object.mutexes words)) c.in_ok-memory.ensures.log
    (crash_simulates program object.mutexes words state c.in_ok-harts.ensures are stands c.in_ok-locks.ensures refl)))
