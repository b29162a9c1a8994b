use Rattle.std.proofs.Common.{◌≡◌, ℕ, zero, suc, ◌+◌, ◌<◌, ◌≤◌, List, length, replicate, get_or, slice_index_or, ◌^◌}
use Rattle.std.proofs.Common.{map, ap, ap₂, sym, subst, ◌∙◌, refl, arith, rules}
use Rattle.std.proofs.Common.{length-append}
use Rattle.std.proofs.lemmas.List.{length-map, length-replicate}
use Rattle.rv64_isa.specs.declared.object.Slot.{Slot}
use Rattle.rv64_isa.specs.declared.object.ThreadMarks.{ThreadMarks}
use Rattle.machine_model.specs.Executables.{node_marks}
use Rattle.machine_model.specs.Frames.{IsWellFormedWorld}
use Rattle.rv64_isa.specs.Programs.{slot_of}
use Rattle.machine_model.specs.Objects.{program_of}
use Rattle.machine_model.specs.Machine.{World}
use Rattle.machine_model.specs.Schedule.{LifeSchedules, first_steps}
use Rattle.machine_events.specs.Cores.{point_stores, finished_fences}
use Rattle.ido_machine.specs.Machines.{RepresentsMachine, program_in}
use Rattle.run_tracker.specs.declared.life.Life.TheInside.{Inside}
use Rattle.run_tracker.specs.links.Journals.{Recorded}
use Rattle.run_tracker.specs.links.AccountRepresentation.{AccountInv, AreOpen, AreOrdered, ends_from, weight}
use Rattle.run_tracker.specs.links.EarlierLives.{lives_in, schedule_in, steps_together}
use Rattle.run_tracker.specs.declared.sections.HartSections.{HartSections}
use Rattle.run_tracker.specs.links.SectionRepresentation.{AreSections}
use Rattle.ido_machine.specs.links.SignTables.{AreTables}
use Rattle.run_tracker.specs.ObjectLives.{Course, sections_since, life_at, world_of, steps_in, living, opening_of}
use Rattle.run_tracker.specs.links.LifeRepresentation.{course_of, kept_first, opening_by, AreCounts}
use Rattle.run_tracker.proofs.life.Life.begun.Goals as goal

each_is : {X : Type 0} (count h : ℕ) (x : X) → get_or (replicate count x) h x ≡ x
each_is zero h x = refl
each_is (suc count) zero x = refl
each_is (suc count) (suc h) x = each_is count h x

pub invariant_of-result : goal.invariant_of-result
invariant_of-result c =
    let object = c.args.object.now in
    let marks = c.args.marks.now in
    let machine = c.args.machine in
    let account = c.in_ok-account_after.field-0 in
    let journal = c.in_ok-new.field-0 in
    let opening : List (List Slot) → World = λ p. opening_by object.log p object.mutexes object.initial.items c.args.left in
    let earlier = c.args.earlier.now in
    let before = c.args.before.now in
    let kept : LifeSchedules = lives_in earlier before in
    let copies = c.in_ok-copies_of.field-0 in
    let copy = c.in_ok-to_vec-2.field-0 in
    let same_steps : copy.items ≡ before = search rules in
    let kept_is : kept ≡ lives_in copies.items copy.items =
    ap₂ (λ (ls : List (List ℕ)) (steps : List ℕ). let x : LifeSchedules = record { earlier = ls; schedule = steps } in x) (sym c.in_ok-copies_of.ensures)
    (sym same_steps) in
    let ended = c.args.ended.now in
    let counted = c.in_ok-to_vec-3.field-0 in
    let same_ended : counted.items ≡ ended = search rules in
    let start : Course = life_at object marks (opening (program_of object)) kept ended c.args.cap in
    let life : Inside = record {
      initial = c.in_ok-to_vec.field-0;
      mutexes = object.mutexes;
      marks = c.in_ok-copy_of.field-0;
      left = c.args.left;
      earlier = copies;
      before = copy;
      ended_before = counted;
      tables = c.in_ok-tables_of.field-0;
      machine = machine;
      account = account;
      ends = c.in_ok-ends.ends;
      journal = journal;
      counts = c.in_ok-new-2.field-0;
      sections = c.in_ok-sections.sections;
      cap = c.args.cap;
    } in
    let copied_is : life_at object marks (opening (program_of object)) (lives_in copies.items copy.items) counted.items c.args.cap ≡ course_of life =
    search rules in
    let is : start ≡ course_of life =
    ap₂ (λ (k : LifeSchedules) (ns : List ℕ). life_at object marks (opening (program_of object)) k ns c.args.cap) kept_is (sym same_ended) ∙ copied_is in
    let program_is : program_in machine ≡ program_of object = c.requires.program in
    let count : c.harts-harts.result ≡ length (program_of object) = c.harts-harts.ensures ∙ ap length program_is in
    let none_yet : length journal.events ≡ 0 = ap (λ (j : Recorded). length j.events) c.in_ok-new.ensures in
    let stands : AccountInv account (first_steps kept) = c.in_ok-account_after.ensures.stands in
    let same_before : length copy.items ≡ length before = ap length same_steps in
    let same_lives : length copies.items ≡ length earlier =
    sym (length-map copies.items schedule_in) ∙ ap length c.in_ok-copies_of.ensures ∙ length-map earlier schedule_in in
    let same_together : length (steps_together (map schedule_in copies.items)) ≡ length (steps_together (map schedule_in earlier)) =
    ap (λ (ls : List (List ℕ)). length (steps_together ls)) c.in_ok-copies_of.ensures in
    let same_bytes : c.in_ok-to_vec.field-0.items ≡ object.initial.items = search rules in
    let counts = c.in_ok-new-2.field-0 in
    let points = c.in_ok-new-2.ensures.points in
    let copied = c.in_ok-copy_of.field-0.threads.items in
    let marked : length copied ≡ length (program_in machine) =
    sym (length-map copied (λ (t : ThreadMarks). t.nodes.items)) ∙ ap length c.in_ok-copy_of.ensures.nodes
    ∙ length-map marks.threads.items (λ (t : ThreadMarks). t.nodes.items) ∙ c.requires.marks
    ∙ sym (length-map object.code.items (λ code. map slot_of code.items)) ∙ ap length (sym program_is) in
    let fences = c.in_ok-new-2.ensures.fences in
    let seen = λ (h : ℕ) (below : h < length (program_of object)).
    c.in_ok-sections.ensures.each (opening (program_of object)) c.requires.stands h (omega (arith, below, ap length program_is)) in
    record {
      machine = subst (λ (x : Course). RepresentsMachine machine (world_of x)) is c.requires.stands;
      sound = subst (λ (x : Course). IsWellFormedWorld (world_of x)) is c.requires.sound;
      events = c.requires.events ∙ sym none_yet;
      tables =
          subst (λ (p : List (List Slot)). AreTables c.in_ok-tables_of.field-0.items p (node_marks copied)) (sym program_is)
          (subst (AreTables c.in_ok-tables_of.field-0.items (program_of object)) (sym c.in_ok-copy_of.ensures.nodes) c.in_ok-tables_of.ensures);
      marked = marked;
      account = subst (λ (x : Course). AccountInv account (steps_in x)) is stands;
      harts = c.in_ok-account_after.ensures.harts ∙ c.harts-harts.ensures;
      ordered =
          subst (λ (x : Course). AreOrdered (world_of x).log (world_of x).words (steps_in x)) is
          (record { in_order = λ h. tt; up_to = λ h. tt });
      are_open =
          subst (λ (x : Course). AreOpen (length x.runs.program) (world_of x).log (world_of x).words (steps_in x)) is
          (λ h below. tt);
      light =
          subst (λ (x : Course). weight (steps_in x) ≤ kept_first life + length journal.events) is
          (omega (
            arith,
            same_before,
            same_together,
            length-append (steps_together (map schedule_in earlier)) before,
          ));
      points = subst (λ (x : Course). AreCounts counts.points.items (length x.runs.program) (point_stores living (opening_of x) x.journal)) is (
        ap length points ∙ length-replicate c.harts-harts.result 0 ∙ count,
        λ h below. ap (λ (xs : List ℕ). get_or xs h 0) points ∙ each_is c.harts-harts.result h 0,
      );
      fences = subst (λ (x : Course). AreCounts counts.fences.items (length x.runs.program) (finished_fences living (opening_of x) x.journal)) is (
        ap length fences ∙ length-replicate c.harts-harts.result 0 ∙ count,
        λ h below. ap (λ (xs : List ℕ). get_or xs h 0) fences ∙ each_is c.harts-harts.result h 0,
      );
      sections = subst (λ (x : Course). AreSections c.in_ok-sections.sections (length x.runs.program) (world_of x) (sections_since x)) is (record {
        size = c.in_ok-sections.ensures.size ∙ ap length program_is;
        position = λ h below. ap (λ (s : HartSections). s.position) (seen h below);
        point = λ h below. ap (λ (s : HartSections). s.point) (seen h below);
        counted = λ h below. ap (λ (s : HartSections). s.ended) (seen h below);
      });
      few_ended = λ h. subst (λ (ns : List ℕ). slice_index_or ns h 0 < 2 ^ 63) (sym same_ended) (c.requires.ended h);
      within = omega (arith, none_yet);
      few = omega (arith, c.requires.cap, same_before, same_together, same_lives);
      bytes = omega (arith, c.requires.limits.bytes, ap length same_bytes);
      journal_room = omega (arith, ap (λ (j : Recorded). j.room) c.in_ok-new.ensures);
      kept_room = omega (arith, c.in_ok-account_after.ensures.kept, same_before, same_together);
      stores_room = omega (arith, c.in_ok-account_after.ensures.reserved);
      stores = omega (arith, c.in_ok-account_after.ensures.stores);
      ends = subst (λ (x : Course). c.in_ok-ends.ends.items ≡ ends_from 0 (steps_in x).earlier) is c.in_ok-ends.ensures.ends;
      ends_room = omega (arith, c.in_ok-ends.ensures.room, same_lives);
      few_ends = omega (arith, c.in_ok-ends.ensures.len, same_lives);
    }
