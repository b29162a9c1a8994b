use Rattle.std.proofs.Common.{◌≡◌, ℕ, ◌<◌, List, length, refl, ap, sym, subst, ◌∙◌, arith, Bool}
use Rattle.machine_model.specs.Executables.{node_marks}
use Rattle.machine_model.specs.Machine.{IsValidAt, can_start}
use Rattle.ido_machine.specs.Machines.{program_in}
use Rattle.ido_machine.specs.declared.signs.SignTable.{SignTable}
use Rattle.ido_machine.specs.links.SignTables.{AreTables}
use Rattle.run_tracker.specs.ObjectLives.{Course, IsValidIn, sections_since, steps_in, world_of}
use Rattle.run_tracker.specs.links.AccountRepresentation.{ends_then}
use Rattle.run_tracker.specs.links.LifeParts.{is_start, may_persist}
use Rattle.run_tracker.proofs.LifeChanges.{is_among, valid_at}
use Rattle.run_tracker.specs.links.LifeRepresentation.{course_of}
use Rattle.run_tracker.proofs.DurablePoints.{sections_after}
use Rattle.run_tracker.proofs.LifeAfterEvent.{few_sections, has_counts, lasts_event}
use Rattle.run_tracker.proofs.life.Life.event_apart.Goals as goal

-- there is room for where a life ends
pub end_if-requires : goal.end_if-requires
end_if-requires c =
    let life = c.self.inside in
    let stands = c.self.invariant in
    let room : length life.journal.events < life.cap = subst (λ (x : Course). length x.journal < x.cap) (sym c.self.view_is) c.requires.room in
    omega (arith, room, stands.few_ends, stands.ends_room)

pub make-reply-requires-clause-valid : goal.make-reply-requires-clause-valid
make-reply-requires-clause-valid c =
    let life : Course = course_of c.self.inside in
    is_among life.runs.log (length life.runs.program) (can_start (world_of life)) c.args.event
    (subst (λ (x : Course). IsValidIn x c.args.event) (sym c.self.view_is) c.requires.valid)

pub make-reply-requires-clause-counts : goal.make-reply-requires-clause-counts
make-reply-requires-clause-counts c = has_counts c.self.inside c.self.invariant

pub look_if-requires-clause-harts : goal.look_if-requires-clause-harts
look_if-requires-clause-harts c = c.self.invariant.sections.size ∙ ap length (sym c.make-reply.ensures.program)

pub look_if-requires-clause-few : goal.look_if-requires-clause-few
look_if-requires-clause-few c = few_sections c.self.inside c.self.invariant

pub invariant_of-self : goal.invariant_of-self
invariant_of-self c =
    let life = c.self.inside in
    let stands = c.self.invariant in
    let event = c.args.event in
    let program = program_in life.machine in
    let world = world_of (course_of life) in
    let marks : List (List ℕ) = node_marks life.marks.threads.items in
    let made = c.make-reply in
    let asked : IsValidIn (course_of life) event = subst (λ (x : Course). IsValidIn x event) (sym c.self.view_is) c.requires.valid in
    let valid : IsValidAt world event = valid_at life stands event asked in
    let room : length life.journal.events < life.cap = subst (λ (x : Course). length x.journal < x.cap) (sym c.self.view_is) c.requires.room in
    let size : c.len.result ≡ length life.account.kept.items = omega (arith, c.len.ensures, life.account.kept.ok.0) in
    let tables = subst (λ (ts : List SignTable). AreTables ts program marks) (sym c.deref.ensures.value) stands.tables in
    lasts_event life stands event
    (record {
      machine = made.new.machine;
      account = made.new.account;
      ends = c.end_if.new.ends;
      journal = c.push.new.self;
      counts = made.new.counts;
      sections = c.look_if.new.self;
    })
    (record {
      valid = asked;
      grown = record {
        program = made.ensures.program;
        log = made.ensures.log;
        events = made.ensures.events;
        journal = c.push.ensures;
        room = omega (arith, room);
        harts = made.ensures.harts;
        kept_room = made.ensures.capacity;
        stores_room = made.ensures.reserved;
        stores = made.ensures.stores;
        ends_room = c.end_if.ensures.capacity;
        few_ends = c.end_if.ensures.len;
      };
      world = (made.ensures.world world stands.machine valid).stands;
      steps = made.ensures.steps marks world (steps_in (course_of life)) tables stands.machine valid stands.account stands.are_open
          stands.sections.position;
      ends = c.end_if.ensures.items ∙ (ap (λ (b : Bool). ends_then b life.ends.items c.len.result) c.is_start.ensures
          ∙ ap (ends_then (is_start event) life.ends.items) size);
      counted = made.ensures.counts world stands.machine;
      sectioned = sections_after program world event (length program) life.sections (sections_since (course_of life)) stands.sections life.machine
          stands.machine refl stands.sound c.look_if.new.self c.may_persist.result
          (c.may_persist.ensures ∙ ap may_persist (made.ensures.world world stands.machine valid).replied) c.look_if.ensures.size
          (λ looks h below. c.look_if.ensures.seen looks _ (made.ensures.world world stands.machine valid).stands h below) c.look_if.ensures.unseen;
    })
