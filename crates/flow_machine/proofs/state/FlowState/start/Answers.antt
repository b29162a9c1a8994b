use Rattle.std.proofs.Common.{◌≡◌, ◌∙◌, ap, length, arith, List, replicate, ℕ, ◌≤◌, map, Option, None}
use Rattle.std.proofs.lemmas.List.{take_all}
use Rattle.c_tree.specs.Programs.{variable_of}
use Rattle.c_tree.specs.declared.program.Variable.{Variable}
use Rattle.flow_graph.specs.Actions.{graph_thread_start}
use Rattle.flow_graph.specs.declared.graph.Part.{Part}
use Rattle.flow_machine.proofs.Runs.{starts}
use Rattle.flow_machine.proofs.state.FlowState.start.Goals as goal

pub returns : goal.returns
returns c =
    let flat = c.args.flat.now in
    let graph = c.args.graph.now in
    let variables = c.in_ok-variables.ensures ∙ ap (λ (xs : List Variable). map (λ (v : Variable). (variable_of v).initial) xs) c.deref.ensures.value in
    let mutexes : c.len.result ≡ length flat.mutexes.items = omega (arith, c.len.ensures, flat.mutexes.ok.0) in
    let threads : c.len-2.result ≡ length graph.threads.items = omega (arith, c.len-2.ensures, graph.threads.ok.0) in
    let all : length graph.threads.items ≤ c.loop-part.part-index =
    omega (arith, c.loop-part-test.false, c.loop-part.auto.part-index-end, ap length c.deref-part-items.ensures.value) in
    let none : Option ℕ = None in
    let zero : ℕ = 0 in
    starts _ flat variables (c.in_ok-holders.ensures ∙ ap (λ n. replicate n none) mutexes)
    (c.loop-part.invariant.started ∙ ap (λ (ps : List Part). map graph_thread_start ps) (take_all c.loop-part.part-index graph.threads.items all))
    (c.in_ok-sections.ensures.items_if_clones_equal (λ y e. e) ∙ ap (λ n. replicate n zero) threads)
