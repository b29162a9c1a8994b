use Rattle.std.proofs.Common.{◌≡◌, ℕ, ◌+◌, ◌-◌, ◌<◌, ◌≤◌, List, [], length, replicate, slice_get, slice_index_or, Some, refl, ap, sym, subst, ◌∙◌, arith}
use Rattle.std.proofs.lemmas.List.{length-replicate}
use Rattle.std.specs.Vec.{vec_capacity, vec_len}
use Rattle.machine_events.specs.declared.event.Event.TheVariants.{Step}
use Rattle.machine_model.specs.Executables.{node_marks}
use Rattle.machine_model.specs.Machine.{Hart}
use Rattle.hart_core.specs.LocalSteps.{PlacedCode, local_run, placed_code}
use Rattle.rv64_isa.specs.Programs.{code_of, code_start}
use Rattle.ido_machine.specs.Harts.{local_state_of}
use Rattle.ido_machine.specs.Machines.{events_of, program_in}
use Rattle.ido_machine.specs.declared.signs.SignTable.{SignTable}
use Rattle.ido_machine.specs.links.LocalRuns.{HasRunOn}
use Rattle.ido_machine.specs.links.SignTables.{placed_in, IsTableOf}
use Rattle.ido_machine.proofs.Public.{get_is, get_some, own_table, placed_is}
use Rattle.machine_events.specs.Cores.{EachMoves}
use Rattle.run_tracker.specs.ObjectLives.{Course, living, opening_of, steps_in, world_of}
use Rattle.run_tracker.proofs.LocalRuns.{each_moves}
use Rattle.run_tracker.specs.links.LifeRepresentation.{course_of}
use Rattle.run_tracker.specs.links.LocalRepresentation.{marks_passed}
use Rattle.run_tracker.proofs.LifeChanges.{hart_count}
use Rattle.run_tracker.proofs.LifeAfterSteps.{lasts_steps}
use Rattle.run_tracker.proofs.LocalInvariants.{signs_are}
use Rattle.run_tracker.proofs.MoreBegun.{free_few}
use Rattle.run_tracker.proofs.life.Life.run_locally.Goals as goal

pub run_locally-ran-requires-clause-room : goal.run_locally-ran-requires-clause-room
run_locally-ran-requires-clause-room c =
    let life = c.self.inside in
    let stands = c.self.invariant in
    let room : c.args.most ≤ life.cap - length life.journal.events =
    subst (λ (x : Course). c.args.most ≤ x.cap - length x.journal) (sym c.self.view_is) c.requires.room in
    omega (arith, stands.events, stands.within, stands.few, room)

pub begin_more-requires-clause-room : goal.begin_more-requires-clause-room
begin_more-requires-clause-room c =
    let life = c.self.inside in
    let stands = c.self.invariant in
    let h = c.args.hart in
    let exists : h < length (program_in life.machine) = subst (λ (x : Course). h < length x.runs.program) (sym c.self.view_is) c.requires.exists in
    let room : c.args.most ≤ life.cap - length life.journal.events =
    subst (λ (x : Course). c.args.most ≤ x.cap - length x.journal) (sym c.self.view_is) c.requires.room in
    let few = free_few life.account (steps_in (course_of life)) h stands.account (omega (arith, exists, stands.harts)) in
    omega (arith, few, stands.light, stands.within, stands.few, room, c.run_locally-ran.ensures.few, c.run_locally-ran.ensures.most)

pub invariant_of-self : goal.invariant_of-self
invariant_of-self c =
    let life = c.self.inside in
    let h = c.args.hart in
    let stands = c.self.invariant in
    let program = program_in life.machine in
    let now : Course = course_of life in
    let ran = c.run_locally-ran in
    let made = ran.result.made in
    let addresses : List ℕ = slice_index_or (node_marks life.marks.threads.items) h [] in
    let exists : h < length program = subst (λ (x : Course). h < length x.runs.program) (sym c.self.view_is) c.requires.exists in
    let room : c.args.most ≤ life.cap - length life.journal.events =
    subst (λ (x : Course). c.args.most ≤ x.cap - length x.journal) (sym c.self.view_is) c.requires.room in
    let some = get_some (world_of now).harts h (omega (arith, exists, hart_count life stands)) in
    let it : Hart = some.0 in
    let table : SignTable = c.index.result.now in
    let within : h < length life.tables.items = omega (arith, exists, stands.tables.count) in
    let there : slice_get life.tables.items h ≡ Some table = get_is life.tables.items h table within ∙ ap Some (sym c.index.ensures) in
    let is : IsTableOf table (code_start program h) (code_of program h) addresses = stands.tables.each h table there in
    let code : placed_in table ≡ placed_code program h = placed_is table (code_start program h) (code_of program h) addresses is in
    let own = own_table table (code_start program h) (code_of program h) addresses is in
    let on : HasRunOn ran.new.self (world_of now) h it table ran.result = ran.ensures.world (world_of now) it stands.machine some.1 in
    let many : length (replicate made (Step h)) ≡ made = length-replicate made (Step h) in
    lasts_steps life stands
    (record {
      h = h;
      hart = it;
      made = made;
      last = on.last;
      passed = ran.result.passed;
      exists = exists;
      there = some.1;
      running = on.running;
      run = ap (λ (placed : PlacedCode). local_run placed (local_state_of it) made) (sym code) ∙ on.run;
      passed_is =
          on.passed ∙ signs_are table addresses own (local_state_of it) made on.last on.run
          ∙ ap (λ (placed : PlacedCode). marks_passed addresses placed (local_state_of it) made) code;
      few = ran.ensures.few;
    })
    (record {
      machine = ran.new.self;
      account = c.begin_more.new.self;
      ends = life.ends;
      journal = c.push_steps.new.self;
      counts = life.counts;
      sections = life.sections;
    })
    (record {
      grown = record {
        program = ran.ensures.program;
        log = ran.ensures.log;
        events = ran.ensures.events ∙ ap (λ (n : ℕ). events_of life.machine + n) (sym many);
        journal = c.push_steps.ensures;
        room = omega (arith, many, room, ran.ensures.most, stands.within);
        harts = c.begin_more.ensures.harts;
        kept_room = c.begin_more.ensures.capacity;
        stores_room = ap vec_capacity c.begin_more.ensures.stores;
        stores = omega (arith, ap vec_len c.begin_more.ensures.stores);
        ends_room = refl;
        few_ends = omega arith;
      };
      world = on.stands;
      account = c.begin_more.ensures.stands (steps_in now) stands.account;
      ends = refl;
      counts = refl;
      sections = refl;
    })

pub returns-clause-moves : goal.returns-clause-moves
returns-clause-moves c =
    let life = c.self.inside in
    let h = c.args.hart in
    let stands = c.self.invariant in
    let program = program_in life.machine in
    let now : Course = course_of life in
    let ran = c.run_locally-ran in
    let made = ran.result.made in
    let addresses : List ℕ = slice_index_or (node_marks life.marks.threads.items) h [] in
    let exists : h < length program = subst (λ (x : Course). h < length x.runs.program) (sym c.self.view_is) c.requires.exists in
    let some = get_some (world_of now).harts h (omega (arith, exists, hart_count life stands)) in
    let it : Hart = some.0 in
    let table : SignTable = c.index.result.now in
    let within : h < length life.tables.items = omega (arith, exists, stands.tables.count) in
    let there : slice_get life.tables.items h ≡ Some table = get_is life.tables.items h table within ∙ ap Some (sym c.index.ensures) in
    let is : IsTableOf table (code_start program h) (code_of program h) addresses = stands.tables.each h table there in
    let code : placed_in table ≡ placed_code program h = placed_is table (code_start program h) (code_of program h) addresses is in
    let on : HasRunOn ran.new.self (world_of now) h it table ran.result = ran.ensures.world (world_of now) it stands.machine some.1 in
    subst (λ (x : Course). EachMoves living (opening_of x) x.journal h made) c.self.view_is
    (each_moves now h it some.1 stands.are_open stands.sound (sym (hart_count life stands)) made on.last on.running
    (ap (λ (placed : PlacedCode). local_run placed (local_state_of it) made) (sym code) ∙ on.run))
