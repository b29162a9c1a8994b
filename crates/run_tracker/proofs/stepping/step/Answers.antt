use Rattle.std.proofs.Common.{◌≡◌, ℕ, ◌<◌, List, length, slice_get, slice_index_or, [], Option, Some, ap, sym, subst, ◌∙◌, arith}
use Rattle.machine_events.specs.declared.event.Event.TheVariants.{Step}
use Rattle.rv64_isa.specs.declared.object.Slot.{Slot}
use Rattle.rv64_isa.specs.Programs.{code_of, code_start, fetched}
use Rattle.machine_model.specs.Machine.{Hart, World, after_event}
use Rattle.ido_machine.specs.Machines.{program_in}
use Rattle.ido_machine.specs.declared.signs.Entry.{Entry}
use Rattle.ido_machine.specs.declared.signs.SignTable.{SignTable}
use Rattle.ido_machine.specs.links.SignTables.{AreTables, sign_of, slot_at}
use Rattle.ido_machine.proofs.Public.{entry_stands, get_some}
use Rattle.run_tracker.specs.links.AccountRepresentation.{AreOpen}
use Rattle.run_tracker.specs.links.LifeParts.{IsNextEntry, seen_step, HasStepped}
use Rattle.run_tracker.specs.links.SectionRepresentation.{AreSeen}
use Rattle.run_tracker.proofs.stepping.step.Goals as goal

-- what stands at the pc of hart h is what its table has there
next_fetched : (tables : List SignTable) (program : List (List Slot)) (marks : List (List ℕ)) (w : World) (h : ℕ) → h < length program →
    AreTables tables program marks → (next : Option Entry) (slot : Option Slot) → slot ≡ slot_at next → IsNextEntry w h tables next →
    (model : Hart) → slice_get w.harts h ≡ Some model → slot ≡ fetched program h model.pc
next_fetched tables program marks w h exists are next slot slot_is is model there =
    let table = get_some tables h (omega (arith, are.count, exists)) in
    slot_is ∙ ap slot_at (is model table.0 there table.1)
    ∙ sym (entry_stands table.0 (code_start program h) (code_of program h) (slice_index_or marks h []) (are.each h table.0 table.1) model.pc)

pub returns-clause-world : goal.returns-clause-world
returns-clause-world c = λ w stands.
    let ready = c.requires.at in
    c.execute-reply.ensures.world w stands
    (next_fetched c.args.tables.now (program_in c.args.machine.now) ready.marks w c.args.hart c.requires.exists ready.tables_are c.next_entry-next.result
    c.slot_at.result c.slot_at.ensures (c.next_entry-next.ensures w stands))

pub note-requires-clause-after : goal.note-requires-clause-after
note-requires-clause-after c =
    let program = program_in c.args.machine.now in
    let ready = c.requires.at in
    let after = c.execute-reply.ensures.world ready.world ready.at.stands
    (next_fetched c.args.tables.now (program_in c.args.machine.now) ready.marks ready.world c.args.hart c.requires.exists ready.tables_are
    c.next_entry-next.result c.slot_at.result c.slot_at.ensures (c.next_entry-next.ensures ready.world ready.at.stands)) in
    let table = get_some c.args.tables.now c.args.hart (omega (arith, ready.tables_are.count, c.requires.exists)) in
    record {
      marks = ready.marks;
      world = ready.world;
      stepped =
          subst (λ (p : List (List Slot)).
          HasStepped p ready.marks c.execute-reply.new.self (seen_step c.args.hart c.look-observation.result c.execute-reply.result) ready.world)
          (sym c.execute-reply.ensures.program) (record {
            many = ap length (sym c.execute-reply.ensures.program);
            tables = c.args.tables.now;
            tables_are = ready.tables_are;
            seen = c.look-observation.ensures c.args.tables.now table.0 ready.world ready.at.stands table.1
                (λ model there. c.sign_of.ensures ∙ ap sign_of (c.next_entry-next.ensures ready.world ready.at.stands model table.0 there table.1));
            replied = after.replied;
            log = after.stands.log ∙ (c.execute-reply.ensures.log ∙ sym ready.at.stands.log);
            stands = after.stands;
          });
      has = record {
        world = after_event program ready.world (Step c.args.hart);
        at = after.stands;
        steps = ready.steps;
        stands = ready.at.steps;
        in_order = ready.at.ordered.in_order;
        room = omega (arith, ready.at.room);
        few = omega (arith, ready.at.few);
      };
    }

pub returns-clause-steps : goal.returns-clause-steps
returns-clause-steps c = λ marks w s tables stands a is_open seen.
    let ready = c.requires.at in
    let after = c.execute-reply.ensures.world w stands
    (next_fetched c.args.tables.now (program_in c.args.machine.now) ready.marks w c.args.hart c.requires.exists ready.tables_are c.next_entry-next.result
    c.slot_at.result c.slot_at.ensures (c.next_entry-next.ensures w stands)) in
    let table = get_some c.args.tables.now c.args.hart (omega (arith, tables.count, c.requires.exists)) in
    c.note.ensures.steps (program_in c.args.machine.now) marks w s
    (record {
      many = ap length (sym c.execute-reply.ensures.program);
      tables = c.args.tables.now;
      tables_are = tables;
      seen = c.look-observation.ensures c.args.tables.now table.0 w stands table.1
          (λ model there. c.sign_of.ensures ∙ ap sign_of (c.next_entry-next.ensures w stands model table.0 there table.1));
      replied = after.replied;
      log = after.stands.log ∙ (c.execute-reply.ensures.log ∙ sym stands.log);
      stands = after.stands;
    }) a (subst (λ (n : ℕ). AreOpen n w.log w.words s) (ap length (sym c.execute-reply.ensures.program)) is_open)
    (subst (λ (n : ℕ). AreSeen c.args.sections.now n w) (ap length (sym c.execute-reply.ensures.program)) seen)

pub returns-clause-counts : goal.returns-clause-counts
returns-clause-counts c = λ w stands.
    let ready = c.requires.at in
    let after = c.execute-reply.ensures.world w stands
    (next_fetched c.args.tables.now (program_in c.args.machine.now) ready.marks w c.args.hart c.requires.exists ready.tables_are c.next_entry-next.result
    c.slot_at.result c.slot_at.ensures (c.next_entry-next.ensures w stands)) in
    let table = get_some c.args.tables.now c.args.hart (omega (arith, c.requires.at.tables_are.count, c.requires.exists)) in
    c.note.ensures.counts (program_in c.args.machine.now) c.requires.at.marks w
    (record {
      many = ap length (sym c.execute-reply.ensures.program);
      tables = c.args.tables.now;
      tables_are = c.requires.at.tables_are;
      seen = c.look-observation.ensures c.args.tables.now table.0 w stands table.1
          (λ model there. c.sign_of.ensures ∙ ap sign_of (c.next_entry-next.ensures w stands model table.0 there table.1));
      replied = after.replied;
      log = after.stands.log ∙ (c.execute-reply.ensures.log ∙ sym stands.log);
      stands = after.stands;
    })
