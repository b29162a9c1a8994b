use Rattle.std.proofs.Common.{◌≡◌, ℕ, ◌+◌, ◌-◌, ◌<◌, ◌≤◌, [], length, replicate, slice_get, slice_index_or, Some, refl, ap, sym, subst, ◌∙◌, arith}
use Rattle.std.proofs.lemmas.List.{length-replicate}
use Rattle.std.specs.Vec.{vec_capacity, vec_len}
use Rattle.machine_events.specs.declared.event.Event.TheVariants.{Step}
use Rattle.machine_events.specs.Cores.{EachMoves}
use Rattle.machine_model.specs.declared.phase.Phase.TheVariants.{Run}
use Rattle.machine_model.specs.Executables.{node_marks}
use Rattle.machine_model.specs.Machine.{Hart}
use Rattle.hart_core.specs.LocalSteps.{placed_code}
use Rattle.ido_machine.specs.Machines.{events_of, program_in}
use Rattle.ido_machine.proofs.Public.{get_some}
use Rattle.run_tracker.specs.ObjectLives.{Course, living, opening_of, steps_in, world_of}
use Rattle.run_tracker.specs.LocalRuns.{IsAtBeginning}
use Rattle.run_tracker.specs.links.LifeRepresentation.{course_of}
use Rattle.run_tracker.proofs.Beginnings.{stands_there}
use Rattle.run_tracker.proofs.LifeChanges.{hart_count}
use Rattle.run_tracker.proofs.LifeAfterSteps.{lasts_steps}
use Rattle.run_tracker.proofs.LocalInvariants.{adopted_marks, adopted_state}
use Rattle.run_tracker.proofs.LocalRuns.{each_moves}
use Rattle.run_tracker.proofs.MoreBegun.{free_few}
use Rattle.run_tracker.proofs.life.Life.adopt.Goals as goal

pub begin_more-requires-clause-room : goal.begin_more-requires-clause-room
begin_more-requires-clause-room c =
    let life = c.self.inside in
    let stands = c.self.invariant in
    let h = c.args.hart in
    let exists : h < length (program_in life.machine) = subst (λ (x : Course). h < length x.runs.program) (sym c.self.view_is) c.requires.exists in
    let room : c.args.local.now.made ≤ life.cap - length life.journal.events =
    subst (λ (x : Course). c.args.local.now.made ≤ x.cap - length x.journal) (sym c.self.view_is) c.requires.room in
    let few = free_few life.account (steps_in (course_of life)) h stands.account (omega (arith, exists, stands.harts)) in
    omega (arith, few, stands.light, stands.within, stands.few, room, c.passed.ensures.few)

pub invariant_of-self : goal.invariant_of-self
invariant_of-self c =
    let life = c.self.inside in
    let h = c.args.hart in
    let local = c.args.local.now in
    let stands = c.self.invariant in
    let program = program_in life.machine in
    let now : Course = course_of life in
    let exists : h < length program = subst (λ (x : Course). h < length x.runs.program) (sym c.self.view_is) c.requires.exists in
    let some = get_some (world_of now).harts h (omega (arith, exists, hart_count life stands)) in
    let it : Hart = some.0 in
    let found : slice_get (world_of c.args.self.now).harts h ≡ Some it =
    subst (λ (x : Course). slice_get (world_of x).harts h ≡ Some it) c.self.view_is some.1 in
    let begins : IsAtBeginning local it = (stands_there c.args.self.now h it local found).1 (c.is_at.ensures.0 c.if-not-is_at.false) in
    let code : local.code ≡ placed_code program h =
    subst (λ (x : Course). local.code ≡ placed_code x.runs.program h) (sym c.self.view_is) c.requires.own.code in
    let running : 0 < local.made → it.phase ≡ Run = λ some. sym begins.0 ∙ c.state.ensures.running some in
    let made = c.made-made.result in
    let made_is : made ≡ local.made = c.made-made.ensures in
    let many : length (replicate made (Step h)) ≡ made = length-replicate made (Step h) in
    let marks : local.marks ≡ slice_index_or (node_marks life.marks.threads.items) h [] =
    subst (λ (x : Course). local.marks ≡ slice_index_or x.runs.marks h []) (sym c.self.view_is) c.requires.own.marks in
    let room : local.made ≤ life.cap - length life.journal.events =
    subst (λ (x : Course). local.made ≤ x.cap - length x.journal) (sym c.self.view_is) c.requires.room in
    lasts_steps life stands
    (record {
      h = h;
      hart = it;
      made = made;
      last = c.state.result.now;
      passed = c.passed.result;
      exists = exists;
      there = some.1;
      running = λ some. running (omega (arith, made_is, some));
      run = adopted_state (placed_code program h) local it begins code made c.state.result.now made_is c.state.ensures.state;
      passed_is = adopted_marks (placed_code program h) local it begins code (slice_index_or (node_marks life.marks.threads.items) h []) made c.passed.result
          made_is marks c.passed.ensures.count;
      few = omega (arith, made_is, c.passed.ensures.few);
    })
    (record {
      machine = c.go_to.new.self;
      account = c.begin_more.new.self;
      ends = life.ends;
      journal = c.push_steps.new.self;
      counts = life.counts;
      sections = life.sections;
    })
    (record {
      grown = record {
        program = c.go_to.ensures.program;
        log = c.go_to.ensures.log;
        events = c.go_to.ensures.events ∙ ap (λ (n : ℕ). events_of life.machine + n) (sym many);
        journal = c.push_steps.ensures;
        room = omega (arith, many, made_is, room, stands.within);
        harts = c.begin_more.ensures.harts;
        kept_room = c.begin_more.ensures.capacity;
        stores_room = ap vec_capacity c.begin_more.ensures.stores;
        stores = omega (arith, ap vec_len c.begin_more.ensures.stores);
        ends_room = refl;
        few_ends = omega arith;
      };
      world = c.go_to.ensures.world (world_of now) it stands.machine some.1;
      account = c.begin_more.ensures.stands (steps_in now) stands.account;
      ends = refl;
      counts = refl;
      sections = refl;
    })

pub returns-clause-moves : goal.returns-clause-moves
returns-clause-moves c =
    let life = c.self.inside in
    let h = c.args.hart in
    let local = c.args.local.now in
    let stands = c.self.invariant in
    let program = program_in life.machine in
    let now : Course = course_of life in
    let exists : h < length program = subst (λ (x : Course). h < length x.runs.program) (sym c.self.view_is) c.requires.exists in
    let some = get_some (world_of now).harts h (omega (arith, exists, hart_count life stands)) in
    let it : Hart = some.0 in
    let found : slice_get (world_of c.args.self.now).harts h ≡ Some it =
    subst (λ (x : Course). slice_get (world_of x).harts h ≡ Some it) c.self.view_is some.1 in
    let begins : IsAtBeginning local it = (stands_there c.args.self.now h it local found).1 (c.is_at.ensures.0 c.if-not-is_at.false) in
    let code : local.code ≡ placed_code program h =
    subst (λ (x : Course). local.code ≡ placed_code x.runs.program h) (sym c.self.view_is) c.requires.own.code in
    let running : 0 < local.made → it.phase ≡ Run = λ some. sym begins.0 ∙ c.state.ensures.running some in
    subst (λ (x : Course). EachMoves living (opening_of x) x.journal h local.made) c.self.view_is
    (each_moves now h it some.1 stands.are_open stands.sound (sym (hart_count life stands)) local.made c.state.result.now running
    (adopted_state (placed_code program h) local it begins code local.made c.state.result.now refl c.state.ensures.state))
