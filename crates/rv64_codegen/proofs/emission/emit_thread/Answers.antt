use Rattle.std.proofs.Common.{◌≡◌, ◌∙◌, ℕ, List, Vec, Some, ap, sym, subst, length, map, arith}
use Rattle.std.specs.Global.{Global}
use Rattle.std.specs.Prelude.{slice_get}
use Rattle.std.proofs.lemmas.List.{length-map}
use Rattle.flow_graph.specs.declared.graph.Part.{Part}
use Rattle.flow_graph.specs.Colours.{colouring_of}
use Rattle.flow_graph.specs.Nodes.{node_of}
use Rattle.rv64_codegen.specs.Plans.{plan_of}
use Rattle.rv64_codegen.specs.links.LiveRegisters.{AreLists}
use Rattle.rv64_codegen.proofs.ChosenBoundaries.{read_get}
use Rattle.rv64_codegen.proofs.Homes.{same_some}
use Rattle.rv64_codegen.proofs.PlannedThreads.{as_many, colours_at, few_threads, part_order, part_end}
use Rattle.rv64_codegen.proofs.emission.emit_thread.Goals as goal
use Rattle.rv64_codegen.proofs.emission.emit_thread.Goals.{After-deref, After-index-part, After-index-text}
use Rattle.c_tree.specs.Flats.{thread_of}
use Rattle.c_tree.specs.links.KnownNames.{names_of}
use Rattle.rv64_codegen.proofs.ThreadNames.{names_there}
use Rattle.expr_code.specs.declared.home.Home.{Home}
use Rattle.thread_code.specs.Plans.{home_of_colour}

coloured : (c : After-deref) → slice_get (colouring_of c.args.plan.now.colours.now) c.args.number ≡ Some c.deref.result.now
coloured c =
    let vs = c.args.plan.now.colours.now.threads.items in
    let many : length (map (λ (v : Vec ℕ Global). v.items) vs) ≡ length vs = length-map vs (λ (v : Vec ℕ Global). v.items) in
    colours_at vs c.args.number c.index.result.now (omega (arith, c.requires.number, c.requires.plan.registers.threads, many)) c.index.ensures
    ∙ ap (λ (xs : List ℕ). Some xs) (sym c.deref.ensures.value)

part_there : (c : After-index-part) → slice_get c.args.plan.now.graph.now.threads.items c.args.number ≡ Some c.index-part.result.now
part_there c = read_get c.args.plan.now.graph.now.threads.items c.args.number c.index-part.result.now c.requires.number c.index-part.ensures

text_there : (c : After-index-text) → slice_get c.args.plan.now.flat.now.threads.items c.args.number ≡ Some c.index-text.result.now
text_there c =
    let many : length (map thread_of c.args.plan.now.flat.now.threads.items) ≡ length c.args.plan.now.flat.now.threads.items =
    length-map c.args.plan.now.flat.now.threads.items thread_of in
    read_get c.args.plan.now.flat.now.threads.items c.args.number c.index-text.result.now
    (omega (arith, c.requires.number, as_many (plan_of c.args.plan.now) c.requires.plan, many)) c.index-text.ensures

pub index-text-requires : goal.index-text-requires
index-text-requires c =
    omega (
      arith,
      c.requires.number,
      as_many (plan_of c.args.plan.now) c.requires.plan,
      length-map c.args.plan.now.flat.now.threads.items thread_of,
    )

pub emit_from-requires-clause-names : goal.emit_from-requires-clause-names
emit_from-requires-clause-names c =
    ap (λ (xs : List _). names_of xs) c.deref-7.ensures.value
    ∙ names_there c.args.plan.now.flat.now c.args.number c.index-text.result.now c.deref-3.result.now c.deref-4.result.now
    (names_of c.in_ok-names.names.items) (text_there (goal.at.emit_from-requires-clause-names c).After-index-text) c.deref-3.ensures.value
    c.deref-4.ensures.value c.in_ok-names.ensures

pub overflow_cast-number : goal.overflow_cast-number
overflow_cast-number c = omega (arith, few_threads (plan_of c.args.plan.now) c.requires.plan, c.requires.number)

pub homes-requires-clause-thread : goal.homes-requires-clause-thread
homes-requires-clause-thread c = omega (arith, few_threads (plan_of c.args.plan.now) c.requires.plan, c.requires.number)

pub homes-requires-clause-colours : goal.homes-requires-clause-colours
homes-requires-clause-colours c =
    λ colour among. c.requires.plan.registers.exist c.args.number colour c.deref.result.now (coloured (goal.at.homes-requires-clause-colours c).After-deref)
    among

pub live_lists-requires-clause-order : goal.live_lists-requires-clause-order
live_lists-requires-clause-order c =
    part_order (plan_of c.args.plan.now) c.requires.plan c.args.number c.index-part.result.now
    (part_there (goal.at.live_lists-requires-clause-order c).After-index-part)

pub live_lists-requires-clause-end : goal.live_lists-requires-clause-end
live_lists-requires-clause-end c =
    omega (
      arith,
      part_end (plan_of c.args.plan.now) c.requires.plan c.args.number c.index-part.result.now
          (part_there (goal.at.live_lists-requires-clause-end c).After-index-part),
      length-map c.args.plan.now.graph.now.nodes.items node_of,
    )

pub emit_from-requires-clause-homes : goal.emit_from-requires-clause-homes
emit_from-requires-clause-homes c =
    λ colours at. c.deref-5.ensures.value ∙ c.in_ok-homes.ensures
    ∙ ap (λ (cs : List ℕ). map (home_of_colour c.args.plan.now.log c.args.number) cs)
    (same_some _ _ _ (coloured (goal.at.emit_from-requires-clause-homes c).After-deref) at)

pub emit_from-requires-clause-live : goal.emit_from-requires-clause-live
emit_from-requires-clause-live c =
    λ part at.
    let g = (plan_of c.args.plan.now).graph in
    let sets = c.args.plan.now.live.now in
    let same : c.index-part.result.now ≡ part =
    same_some _ _ _ (part_there (goal.at.emit_from-requires-clause-live c).After-index-part) at in
    let homes : c.deref-2.result.now ≡ c.deref-5.result.now = c.deref-2.ensures.value ∙ sym c.deref-5.ensures.value in
    let P : Part → Type 0 = λ z. AreLists g c.deref-5.result.now sets z.first z.end c.deref-6.result.now in
    let Q : List Home → Type 0 = λ hs. AreLists g hs sets c.index-part.result.now.first c.index-part.result.now.end c.deref-6.result.now in
    let R : List (Vec ℕ Global) → Type 0 = λ ls.
    AreLists g c.deref-2.result.now sets c.index-part.result.now.first c.index-part.result.now.end ls in
    subst P same (subst Q homes (subst R (sym c.deref-6.ensures.value) c.in_ok-live.ensures))
