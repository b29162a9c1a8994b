use Rattle.std.proofs.Common.{◌≡◌, ℕ, ◌<◌, List, [], length, slice_get, slice_index_or, Some, sym, ap, subst, ◌∙◌, arith, rules}
use Rattle.rv64_isa.specs.declared.object.ThreadMarks.{ThreadMarks}
use Rattle.machine_model.specs.declared.phase.Phase.{Phase}
use Rattle.machine_model.specs.Executables.{node_marks}
use Rattle.rv64_isa.specs.Programs.{code_of, code_start}
use Rattle.hart_core.specs.declared.local.LocalState.{LocalState}
use Rattle.hart_core.specs.LocalSteps.{PlacedCode, placed_code}
use Rattle.ido_machine.specs.Machines.{program_in}
use Rattle.ido_machine.proofs.Public.{get_is, get_map, get_some}
use Rattle.run_tracker.specs.ObjectLives.{Course, opening_of, world_of}
use Rattle.run_tracker.specs.LocalRuns.{LocalCourse, IsLocalOf, local_at}
use Rattle.run_tracker.specs.links.LifeRepresentation.{course_of}
use Rattle.ido_machine.specs.links.SignTables.{placed_in, IsTableOf}
use Rattle.run_tracker.proofs.Beginnings.{begins_there}
use Rattle.run_tracker.proofs.LifeChanges.{hart_count}
use Rattle.run_tracker.proofs.LocalInvariants.{copied}
use Rattle.ido_machine.proofs.Public.{own_table, placed_is}
use Rattle.run_tracker.proofs.life.Life.local.Goals as goal

pub new-requires : goal.new-requires
new-requires c =
    let life = c.self.inside in
    let h = c.args.hart in
    let program = program_in life.machine in
    let exists : h < length program = subst (λ (x : Course). h < length x.runs.program) (sym c.self.view_is) c.requires in
    let table = c.index-2.result.now in
    let found : slice_get life.tables.items h ≡ Some table =
    get_is life.tables.items h table (omega (arith, exists, c.self.invariant.tables.count)) ∙ ap Some (sym c.index-2.ensures) in
    let here : slice_get life.marks.threads.items h ≡ Some c.index.result.now =
    get_is life.marks.threads.items h c.index.result.now (omega (arith, exists, c.self.invariant.marked)) ∙ ap Some (sym c.index.ensures) in
    let same : c.in_ok-to_vec.field-0.items ≡ c.index.result.now.nodes.items = search rules in
    let marks : slice_index_or (node_marks life.marks.threads.items) h [] ≡ c.in_ok-to_vec.field-0.items =
    get_map (λ (t : ThreadMarks). t.nodes.items) life.marks.threads.items h c.index.result.now [] here ∙ sym same in
    let copy = c.in_ok-copy.field-0 in
    own_table copy (code_start program h) (code_of program h) c.in_ok-to_vec.field-0.items
    (subst (IsTableOf copy (code_start program h) (code_of program h)) marks
    (copied table copy (code_start program h) (code_of program h) (slice_index_or (node_marks life.marks.threads.items) h []) c.in_ok-copy.ensures.0
    c.in_ok-copy.ensures.1
    (c.self.invariant.tables.each h table found)))

pub returns-clause-hart : goal.returns-clause-hart
returns-clause-hart c = λ it hart.
    let life = c.self.inside in
    let h = c.args.hart in
    let program = program_in life.machine in
    let exists : h < length program = subst (λ (x : Course). h < length x.runs.program) (sym c.self.view_is) c.requires in
    let copy = c.in_ok-copy.field-0 in
    let table = c.index-2.result.now in
    let there : slice_get life.tables.items h ≡ Some table =
    get_is life.tables.items h table (omega (arith, exists, c.self.invariant.tables.count)) ∙ ap Some (sym c.index-2.ensures) in
    let code : placed_in copy ≡ placed_code program h =
    placed_is copy (code_start program h) (code_of program h) (slice_index_or (node_marks life.marks.threads.items) h [])
    (copied table copy (code_start program h) (code_of program h) (slice_index_or (node_marks life.marks.threads.items) h []) c.in_ok-copy.ensures.0
    c.in_ok-copy.ensures.1
    (c.self.invariant.tables.each h table there)) in
    let here : slice_get life.marks.threads.items h ≡ Some c.index.result.now =
    get_is life.marks.threads.items h c.index.result.now (omega (arith, exists, c.self.invariant.marked)) ∙ ap Some (sym c.index.ensures) in
    let same : c.in_ok-to_vec.field-0.items ≡ c.index.result.now.nodes.items = search rules in
    let marks : c.in_ok-to_vec.field-0.items ≡ slice_index_or (node_marks life.marks.threads.items) h [] =
    same ∙ sym (get_map (λ (t : ThreadMarks). t.nodes.items) life.marks.threads.items h c.index.result.now [] here) in
    let w = world_of (course_of life) in
    let found : slice_get w.harts h ≡ Some it = subst (λ (x : Course). slice_get (world_of x).harts h ≡ Some it) (sym c.self.view_is) hart in
    let phase = c.phase.ensures w it c.self.invariant.machine found in
    let state = c.local_state.ensures w it c.self.invariant.machine found in
    let at : PlacedCode → List ℕ → Phase → LocalState → LocalCourse =
    λ code marks phase first. record { code = code; marks = marks; phase = phase; first = first; made = 0 } in
    let marked : List ℕ = slice_index_or (node_marks life.marks.threads.items) h [] in
    subst (λ (x : Course). c.new.result ≡ local_at x h it) c.self.view_is
    (c.new.ensures ∙ ap (λ (x : PlacedCode). at x c.in_ok-to_vec.field-0.items c.phase.result c.local_state.result) code
    ∙ ap (λ (ms : List ℕ). at (placed_code program h) ms c.phase.result c.local_state.result) marks
    ∙ ap (λ (p : Phase). at (placed_code program h) marked p c.local_state.result) phase
    ∙ ap (at (placed_code program h) marked it.phase) state)

pub returns-clause-own : goal.returns-clause-own
returns-clause-own c =
    let life = c.self.inside in
    let h = c.args.hart in
    let program = program_in life.machine in
    let exists : h < length program = subst (λ (x : Course). h < length x.runs.program) (sym c.self.view_is) c.requires in
    let copy = c.in_ok-copy.field-0 in
    let table = c.index-2.result.now in
    let there : slice_get life.tables.items h ≡ Some table =
    get_is life.tables.items h table (omega (arith, exists, c.self.invariant.tables.count)) ∙ ap Some (sym c.index-2.ensures) in
    let code : placed_in copy ≡ placed_code program h =
    placed_is copy (code_start program h) (code_of program h) (slice_index_or (node_marks life.marks.threads.items) h [])
    (copied table copy (code_start program h) (code_of program h) (slice_index_or (node_marks life.marks.threads.items) h []) c.in_ok-copy.ensures.0
    c.in_ok-copy.ensures.1
    (c.self.invariant.tables.each h table there)) in
    let here : slice_get life.marks.threads.items h ≡ Some c.index.result.now =
    get_is life.marks.threads.items h c.index.result.now (omega (arith, exists, c.self.invariant.marked)) ∙ ap Some (sym c.index.ensures) in
    let same : c.in_ok-to_vec.field-0.items ≡ c.index.result.now.nodes.items = search rules in
    let marks : c.in_ok-to_vec.field-0.items ≡ slice_index_or (node_marks life.marks.threads.items) h [] =
    same ∙ sym (get_map (λ (t : ThreadMarks). t.nodes.items) life.marks.threads.items h c.index.result.now [] here) in (
      subst (λ (x : Course). IsLocalOf (opening_of x) h c.new.result) c.self.view_is (record {
        code = ap (λ (x : LocalCourse). x.code) c.new.ensures ∙ code;
        marks = ap (λ (x : LocalCourse). x.marks) c.new.ensures ∙ marks;
      }),
      ap (λ (x : LocalCourse). x.made) c.new.ensures,
    )

pub returns-clause-begins : goal.returns-clause-begins
returns-clause-begins c =
    let life = c.self.inside in
    let h = c.args.hart in
    let now : Course = course_of life in
    let exists : h < length (program_in life.machine) = subst (λ (x : Course). h < length x.runs.program) (sym c.self.view_is) c.requires in
    let some = get_some (world_of now).harts h (omega (arith, exists, hart_count life c.self.invariant)) in
    let found : slice_get (world_of c.args.self.now).harts h ≡ Some some.0 =
    subst (λ (x : Course). slice_get (world_of x).harts h ≡ Some some.0) c.self.view_is some.1 in
    begins_there c.args.self.now h some.0 c.new.result found (returns-clause-hart c some.0 found)
